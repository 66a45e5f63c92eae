use Rattle.std.proofs.Common.{refl, rules}
use Rattle.jser_reader.proofs.ManyPlain.{nothing_done, string_turn}
use Rattle.jser_reader.proofs.WholeLemmas.{no_text_assigned, text_assigned}
use Rattle.jser_reader.proofs.machine.Machine.string_at.Goals as goal

pub returns-then-not-assign_text : goal.returns-then-not-assign_text
returns-then-not-assign_text c = nothing_done c.args.piece.now _ _ _ _ (no_text_assigned c.assign_text.result _ _ c.assign_text.ensures (search rules)) refl

pub returns : goal.returns
returns c =
    string_turn c.args.piece.now _ c.in-Some.len _ _ _ _ c.requires.holds c.requires.room c.requires.tag c.split_at.ensures.back c.in-Some.ensures
    (c.has_place_at.ensures.place (search rules)) (text_assigned c.assign_text.result _ _ c.assign_text.ensures (search rules)) c.place.ensures
