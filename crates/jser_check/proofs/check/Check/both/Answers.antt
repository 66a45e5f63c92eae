use Rattle.std.specs.Prelude.{IfSome, option_map}
use Rattle.std.proofs.Common.{subst, refl, ◌∙◌, ℕ, List, ◌++◌, arith}
use Rattle.jser_reader.proofs.ReaderLemmas.{all_bytes}
use Rattle.jser_check.specs.Fronts.{whole_in}
use Rattle.jser_check.specs.Pieces.{asked_by, MayScan, Checking, FrontBy, HasTaken, PieceTells}
use Rattle.jser_check.proofs.PieceLemmas.{both_tell, piece_tells}
use Rattle.jser_check.proofs.WholeLemmas.{both_front}
use Rattle.jser_check.proofs.check.Check.both.Goals as goal

pub returns-clause-tells : goal.returns-clause-tells
returns-clause-tells g c =
    let old : Checking = record { reader = c.self.inside.reader; scan = option_map (λ home. home.value) c.self.inside.scan; stopped = c.self.inside.stopped } in
    let new : Checking = record { reader = c.skip-checked.new.self; scan = option_map (λ home. home.value) c.scan_piece-hidden.new.scan; stopped = c.self.inside.stopped } in
    subst (λ s. (taken : List ℕ) → HasTaken s taken → PieceTells (asked_by s) taken c.args.piece.now c.first_of.result new) c.self.view_is
    (λ taken h. piece_tells old new taken c.args.piece.now c.skip-checked.result c.scan_piece-hidden.result c.first_of.result c.first_of.ensures
    (both_tell old new taken c.args.piece.now c.skip-checked.result c.scan_piece-hidden.result h (all_bytes c.args.piece.now (λ k. (c.type_inv.piece k).fits)) (omega arith)
    c.skip-checked.ensures.tells
    (subst (λ g. MayScan g (option_map (λ home. home.value) c.self.inside.scan) (option_map (λ home. home.value) c.scan_piece-hidden.new.scan) c.args.piece.now c.scan_piece-hidden.result) (c.gate.ensures ∙ c.skip-checked.ensures.gate) c.scan_piece-hidden.ensures)
    c.skip-checked.ensures.gate refl))

pub returns-clause-whole : goal.returns-clause-whole
returns-clause-whole g c =
    let old : Checking = record { reader = c.self.inside.reader; scan = option_map (λ home. home.value) c.self.inside.scan; stopped = c.self.inside.stopped } in
    let new : Checking = record { reader = c.skip-checked.new.self; scan = option_map (λ home. home.value) c.scan_piece-hidden.new.scan; stopped = c.self.inside.stopped } in
    subst (λ s. (taken : List ℕ) → HasTaken s taken → IfSome c.first_of.result (FrontBy s.reader.gate.filter s.reader.gate.options (taken ++ c.args.piece.now) (whole_in new.reader))) c.self.view_is
    (λ taken h. both_front old new taken c.args.piece.now c.skip-checked.result c.scan_piece-hidden.result c.first_of.result c.first_of.ensures h (all_bytes c.args.piece.now (λ k. (c.type_inv.piece k).fits)) c.skip-checked.ensures.tells)
