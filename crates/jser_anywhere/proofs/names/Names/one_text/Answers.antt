use Rattle.std.proofs.Common.{Some, ◌+◌, ◌≤◌, length, subst}
use Rattle.jser_anywhere.specs.NamesIn.{Telling}
use Rattle.jser_anywhere.specs.Search.{TellsText}
use Rattle.jser_anywhere.proofs.RowLemmas.{told_some}
use Rattle.jser_anywhere.proofs.NamesLemmas.{text_inside}
use Rattle.jser_anywhere.proofs.names.Names.one_text.Goals as goal

pub returns-else-is_none-clause-inside : goal.returns-else-is_none-clause-inside
returns-else-is_none-clause-inside c =
    let inside = text_inside c.self.inside.bytes.now c.text_of.new.units.items c.self.inside.at c.in-Some.end c.self.invariant.0
    (subst (λ xs. TellsText xs (Some c.in-Some.end) c.text_of.new.units.items) c.split_at.ensures.back (told_some _ _ _ _ c.text_of.ensures c.in-Some.is)) in
    (inside.0, subst (λ (t : Telling). c.self.inside.at + c.in-Some.end ≤ length t.bytes) c.self.view_is inside.1)
