-- Letters that are kept in parts.
use Rattle.std.proofs.Common.{◌≡◌, ℕ, ◌+◌, ◌≤◌, List, ◌++◌, length, ap, sym, ◌∙◌, arith, append_assoc}
use Rattle.std.proofs.lemmas.List.{length-append}

-- one more part of what is left
pub joined_on : (old all kept front rest new : List ℕ) → (length old + length all ≤ 9217 → old ++ all ≡ kept ++ (front ++ rest)) → (length kept + length front ≤ 9217 → new ≡ kept ++ front) → length old + length all ≤ 9217 → old ++ all ≡ new ++ rest
joined_on old all kept front rest new before pushed fits =
    let same : old ++ all ≡ kept ++ (front ++ rest) = before fits in
    let long : length old + length all ≡ length kept + (length front + length rest) =
    sym (length-append old all) ∙ ap (λ (xs : List ℕ). length xs) same ∙ length-append kept (front ++ rest) ∙ ap (λ n. length kept + n) (length-append front rest)
    in
    same ∙ sym (append_assoc kept front rest) ∙ ap (λ (xs : List ℕ). xs ++ rest) (sym (pushed (omega (arith, long, fits))))
