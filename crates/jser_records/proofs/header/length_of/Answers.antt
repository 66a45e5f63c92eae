use Rattle.std.proofs.Common.{◌≡◌, List, ℕ, [], ◌∷◌, ◌++◌, drop, inr, subst}
use Rattle.jser_records.specs.Headers.{EndsKey}
use Rattle.jser_records.proofs.HeaderLemmas.{says_none}
use Rattle.jser_records.proofs.header.length_of.Goals as goal

pub returns-in-None : goal.returns-in-None
returns-in-None c =
    let line = c.args.line.now in
    says_none line _ _ c.without_length-in-None.result c.without_length-in-None.ensures c.number_start.ensures.ends
    (inr (inr (subst (λ xs. (key : List ℕ) → EndsKey xs key → ⊥) c.split_at.ensures.front (c.key_end.ensures.none c.in_default.is))))
    (subst (λ xs. (before key : List ℕ) → xs ≡ before ++ (0x2D ∷ []) → drop c.number_start.result line ≡ 0x31 ∷ [] → EndsKey before key → ⊥) c.split_at.ensures.front
    (subst (λ ys. (before key : List ℕ) → c.split_at.result.0.now ≡ before ++ (0x2D ∷ []) → ys ≡ 0x31 ∷ [] → EndsKey before key → ⊥) c.split_at.ensures.back (c.null_key_end.ensures.none c.in-None.is)))
