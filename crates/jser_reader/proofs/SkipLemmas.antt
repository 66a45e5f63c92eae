-- A call that takes a whole piece.
use Rattle.std.proofs.Common.{◌≡◌, ℕ, suc, ◌+◌, List, [], ◌∷◌, ◌++◌, length, take, Err, sym, ◌∙◌, ap, arith}
use Rattle.jser_verdict.specs.Gates.{Gate}
use Rattle.jser_reader.specs.declared.refusal.Stop.{Stop}
use Rattle.jser_reader.specs.declared.tally.Tally.{Tally}
use Rattle.jser_reader.specs.Readers.{Seen}
use Rattle.jser_reader.specs.ReaderStates.{StandsFor, SkipTells}

pub take_more : (taken rest : List ℕ) (n : ℕ) → taken ++ take n rest ≡ take (length taken + n) (taken ++ rest)
take_more [] rest n = let same : 0 + n ≡ n = omega arith in ap (λ k. take k rest) (sym same)
take_more (x ∷ taken) rest n =
    let same : suc (length taken) + n ≡ suc (length taken + n) = omega arith in
    ap (λ ys. x ∷ ys) (take_more taken rest n) ∙ ap (λ k. take k (x ∷ (taken ++ rest))) (sym same)

pub stopped_skips : (piece : List ℕ) (why : Stop) (gate : Gate) (old new : Seen) (before after : Tally) → ((bytes : List ℕ) → StandsFor gate bytes old before → ⊥)
    → SkipTells gate piece (Err why) old before new after
unfolding SkipTells
stopped_skips piece why gate old new before after n = λ bytes st. absurd (n bytes st)
