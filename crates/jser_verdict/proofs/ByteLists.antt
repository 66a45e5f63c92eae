-- Lists of bytes: taken apart, joined, and their first ones.
use Rattle.std.proofs.Common.{◌≡◌, ℕ, zero, suc, ◌<◌, ◌≤◌, List, [], ◌∷◌, ◌++◌, length, refl, sym, ◌∙◌, ap, ap₂, arith, nat_lt, take}
use Rattle.std.specs.List.{list_all}
use Rattle.jser_grammar.proofs.Bools.{and_left, and_right, and_both}
use Rattle.jser_reading.proofs.Vocabulary.{IsBytes}
use Rattle.std.proofs.Common.{◌-◌}

-- lists of bytes, joined and taken apart

pub bytes_left : (a b : List ℕ) → IsBytes (a ++ b) → IsBytes a
bytes_left [] b h = refl
bytes_left (x ∷ a) b h =
    and_both (nat_lt x 256) (list_all (λ b. nat_lt b 256) a) (and_left (nat_lt x 256) (list_all (λ b. nat_lt b 256) (a ++ b)) h)
    (bytes_left a b (and_right (nat_lt x 256) (list_all (λ b. nat_lt b 256) (a ++ b)) h))

pub bytes_right : (a b : List ℕ) → IsBytes (a ++ b) → IsBytes b
bytes_right [] b h = h
bytes_right (x ∷ a) b h = bytes_right a b (and_right (nat_lt x 256) (list_all (λ b. nat_lt b 256) (a ++ b)) h)

-- the last byte
pub last_split : (x : ℕ) (xs : List ℕ) → (p : List ℕ) × (b : ℕ) × (x ∷ xs ≡ p ++ (b ∷ []))
last_split x [] = ([], x, refl)
last_split x (y ∷ xs) = let r = last_split y xs in (x ∷ r.0, r.1, ap (λ z. x ∷ z) r.2)

-- a list that begins with another, where both are fronts of one
pub split_at : (zs xs ys ws : List ℕ) → xs ++ ys ≡ zs ++ ws → length zs ≤ length xs → (over : List ℕ) × (xs ≡ zs ++ over) × (ws ≡ over ++ ys)
split_at [] xs ys ws e h = (xs, refl, sym e)
split_at (z ∷ zs) [] ys ws e h = absurd (omega arith)
split_at (z ∷ zs) (x ∷ xs) ys ws e h =
    let t : xs ++ ys ≡ zs ++ ws = cc in
    let q : x ≡ z = cc in
    let r = split_at zs xs ys ws t (omega arith) in
    (r.0, ap₂ (λ a b. a ∷ b) q r.1, r.2)

pub bytes_both : (a b : List ℕ) → IsBytes a → IsBytes b → IsBytes (a ++ b)
bytes_both [] b h k = k
bytes_both (x ∷ a) b h k =
    and_both (nat_lt x 256) (list_all (λ b. nat_lt b 256) (a ++ b)) (and_left (nat_lt x 256) (list_all (λ b. nat_lt b 256) a) h)
    (bytes_both a b (and_right (nat_lt x 256) (list_all (λ b. nat_lt b 256) a) h) k)

-- the first bytes of first bytes
pub take_again : (n : ℕ) (xs ys : List ℕ) → n < length xs → take n (take (suc n) xs ++ ys) ≡ take n xs
take_again zero xs ys h = refl
take_again (suc n) [] ys h = absurd (omega arith)
take_again (suc n) (x ∷ xs) ys h = ap (λ z. x ∷ z) (take_again n xs ys (omega arith))

-- the first bytes of two lists joined, where they are more than the first has
pub take_past : (xs ys : List ℕ) (n : ℕ) → length xs ≤ n → take n (xs ++ ys) ≡ xs ++ take (n - length xs) ys
take_past [] ys n h = let e : n ≡ n - 0 = omega arith in ap (λ k. take k ys) e
take_past (x ∷ xs) ys zero h = absurd (omega arith)
take_past (x ∷ xs) ys (suc n) h =
    let e : n - length xs ≡ suc n - suc (length xs) = omega arith in
    ap (λ z. x ∷ z) (take_past xs ys n (omega arith)) ∙ ap (λ k. x ∷ (xs ++ take k ys)) e
