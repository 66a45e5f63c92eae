use Rattle.std.proofs.Common.{map, drop, false}
use Rattle.jser_value.specs.PartTests.{obeys_fields}
use Rattle.jser_grammar.specs.TableAfter.{after_fields}
use Rattle.jser_value.specs.View.{view_field}
use Rattle.jser_value.proofs.CheckLemmas.{Awaits}
use Rattle.jser_grammar.specs.Spelling.{fields_spelling}
use Rattle.jser_value.specs.Rooms.{Spends}
use Rattle.jser_value.proofs.check.texts.check_fields.Given as goal

abbrev pub invariant-fields : goal.invariant-fields
invariant-fields l =
    Awaits (obeys_fields l.table.entries l.seen (map view_field (drop l.field-index l.fields))) (obeys_fields l.fn.table.entries false (map view_field l.fields))
    (after_fields l.table.entries (map view_field (drop l.field-index l.fields))) (after_fields l.fn.table.entries (map view_field l.fields))
    × Spends l.fn.table.entries (fields_spelling (map view_field l.fields)) l.table.entries (fields_spelling (map view_field (drop l.field-index l.fields)))
