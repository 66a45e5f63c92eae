-- Bytes that a sink takes in several calls.
use Rattle.std.proofs.Common.{◌≡◌, ◌+◌, ◌≤◌, ℕ, zero, suc, List, [], ◌∷◌, ◌++◌, zero-add, arith, length, take, drop, Option, Some, None, refl, sym, ap, subst, ◌∙◌, take_all, append_assoc}
use Rattle.std.proofs.lemmas.List.{append-nil}
use Rattle.std.specs.Io.KnownBytes.{Appends}

pub appends_none : (old : Option (List ℕ)) → Appends old old []
appends_none None = tt
appends_none (Some out) = sym (append-nil out)

pub appends_both : (old mid new : Option (List ℕ)) (xs ys : List ℕ) → Appends old mid xs → Appends mid new ys → Appends old new (xs ++ ys)
appends_both None mid new xs ys h k = tt
appends_both (Some a) None new xs ys h k = absurd h
appends_both (Some a) (Some b) None xs ys h k = absurd k
appends_both (Some a) (Some b) (Some c) xs ys h k = k ∙ ap (λ t. t ++ ys) h ∙ append_assoc a xs ys

take-nil : (n : ℕ) → take {A = ℕ} n [] ≡ []
take-nil zero = refl
take-nil (suc n) = refl

take-add : (m n : ℕ) (xs : List ℕ) → take (m + n) xs ≡ take m xs ++ take n (drop m xs)
take-add zero n xs = ap (λ k. take k xs) (zero-add n)
take-add (suc m) n [] = take-nil (suc m + n) ∙ sym (take-nil n)
take-add (suc m) n (x ∷ xs) = ap (λ k. take k (x ∷ xs)) (let e : suc m + n ≡ suc (m + n) = omega arith in e) ∙ ap (λ t. x ∷ t) (take-add m n xs)

-- one more call
pub gave_more : (old mid new : Option (List ℕ)) (bytes rest : List ℕ) (given count : ℕ) → Appends old mid (take given bytes) → rest ≡ drop given bytes
    → Appends mid new (take count rest) → Appends old new (take (given + count) bytes)
gave_more old mid new bytes rest given count h r k =
    subst (Appends old new) (ap (λ t. take given bytes ++ take count t) r ∙ sym (take-add given count bytes))
    (appends_both old mid new (take given bytes) (take count rest) h k)

pub gave_all : (old new : Option (List ℕ)) (bytes : List ℕ) (given : ℕ) → Appends old new (take given bytes) → length bytes ≤ given → Appends old new bytes
gave_all old new bytes given h all = subst (Appends old new) (take_all given bytes all) h
