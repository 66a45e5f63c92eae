use Rattle.std.proofs.Common.{◌≡◌, [], drop}
use Rattle.jser_value.specs.Tests.{obeys_contents}
use Rattle.jser_value.specs.View.{view_contents}
use Rattle.jser_grammar.specs.Spelling.{contents_spelling}
use Rattle.jser_value.specs.Rooms.{HasRoom}
use Rattle.jser_value.proofs.check.check_contents.Given as goal

abbrev pub invariant-list : goal.invariant-list
invariant-list l =
    (obeys_contents l.table.entries (view_contents (drop l.content-index l.list)) ≡ obeys_contents [] (view_contents l.list))
    × HasRoom l.table.entries (contents_spelling (view_contents (drop l.content-index l.list)))
