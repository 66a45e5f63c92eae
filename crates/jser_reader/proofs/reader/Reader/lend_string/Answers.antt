use Rattle.std.proofs.Common.{refl, rules, subst, sym}
use Rattle.jser_reader.specs.declared.item.Whole.TheVariants as whole
use Rattle.jser_reader.specs.declared.reader.lent.Lent.TheVariants as lent
use Rattle.jser_reader.specs.Passes.{CanPass}
use Rattle.jser_reader.specs.Wholes.{IsPlace}
use Rattle.jser_reader.specs.WholesTold.{LentCases}
use Rattle.jser_reader.proofs.WholeLemmas.{string_few, string_room, no_text_assigned, text_assigned}
use Rattle.jser_reader.proofs.LentLemmas.{string_counts, string_tells}
use Rattle.jser_reader.proofs.reader.Reader.lend_string.Goals as goal

pub returns-then-not-assign_text-clause-tells : goal.returns-then-not-assign_text-clause-tells
returns-then-not-assign_text-clause-tells g c = λ gate is_gate.
    subst (λ r. LentCases gate c.args.piece.now lent.Nothing r.machine r.tally c.assign_text.new.self c.self.inside.tally) c.self.view_is
    (no_text_assigned c.assign_text.result _ _ c.assign_text.ensures (search rules), refl)

pub begin_place-requires-clause-few : goal.begin_place-requires-clause-few
begin_place-requires-clause-few g c = string_few _ _ (text_assigned c.assign_text.result _ _ c.assign_text.ensures (search rules)) (search rules)

pub begin_place-requires-clause-room : goal.begin_place-requires-clause-room
begin_place-requires-clause-room g c =
    string_room c.args.piece.now c.in-Some.len _ _ (text_assigned c.assign_text.result _ _ c.assign_text.ensures (search rules))
    (subst (λ r. CanPass r.machine c.args.piece.now) (sym c.self.view_is) c.requires.can) c.in-Some.ensures

pub returns-clause-tells : goal.returns-clause-tells
returns-clause-tells g c = λ gate is_gate.
    subst (λ r. LentCases gate c.args.piece.now (lent.Value (whole.String c.text_in.result)) r.machine r.tally c.ended_in_line.new.self c.count.new.tally) c.self.view_is
    (string_tells gate c.in-Some.len c.args.piece.now c.text_in.result.now _ _ _ _ _ _ is_gate (subst (λ r. CanPass r.machine c.args.piece.now) (sym c.self.view_is) c.requires.can)
    (subst (λ r. IsPlace r.machine.phase) (sym c.self.view_is) c.requires.place) c.requires.tag c.in-Some.ensures (search rules)
    (text_assigned c.assign_text.result _ _ c.assign_text.ensures (search rules)) c.begin_place.ensures c.ended_in_line.ensures.comes
    (string_counts _ _ _ _ (text_assigned c.assign_text.result _ _ c.assign_text.ensures (search rules)) c.count.ensures.next) c.text_in.ensures)
