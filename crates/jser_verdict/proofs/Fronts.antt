-- No reason is told before the end of a token that the format takes.
use Rattle.std.proofs.Common.{◌≡◌, ℕ, zero, suc, ◌+◌, ◌<◌, ◌≤◌, Bool, true, false, ◌&&◌, List, [], ◌∷◌, ◌++◌, length, refl, sym, ◌∙◌, ap, arith, Option, None, nat_lt, nat_le, nat_eq, take, drop, leb-true}
use Rattle.std.proofs.lemmas.List.{take_at, drop_at, take-append-le}
use Rattle.std.proofs.lemmas.Bool.Decides.{nat_tests}
use Rattle.jser_prim.specs.ModifiedUtf8.{modified_utf8}
use Rattle.jser_prim.specs.Bytes.{big_bytes}
use Rattle.jser_grammar.specs.Parts.{IsText, text_bound}
use Rattle.jser_grammar.specs.Spelling.{utf, long_utf}
use Rattle.jser_reading.proofs.Decoding.{number_2, number_8, length-big_bytes}
use Rattle.jser_verdict.specs.Reasons.{Reason}
use Rattle.jser_verdict.specs.BytesSoFar.{differs}
use Rattle.jser_verdict.specs.TextsSoFar.{unit_start, all_stand, has_head, text_length, is_whole_text, has_wrong_byte}
use Rattle.jser_verdict.specs.Verdicts.{on_byte, on_number}
use Rattle.jser_verdict.proofs.Texts.{text_stands, front_stands}
use Rattle.jser_reading.specs.TokensFromBytes.{number_of, head_size, text_size}

pub byte_front : (a : List ℕ) (tell : ℕ → Option Reason) → length a < 1 → on_byte a tell ≡ None
byte_front [] tell h = refl
byte_front (b ∷ a) tell h = absurd (omega arith)

pub not_equal : (a b : ℕ) → a < b → nat_eq a b ≡ false
not_equal a b h = grind (arith, nat_tests)

pub same_equal : (a b : ℕ) → a ≡ b → nat_eq a b ≡ true
same_equal a b h = grind (arith, nat_tests)

pub not_le : (a b : ℕ) → b < a → nat_le a b ≡ false
not_le a b h = grind (arith, nat_tests)

pub number_front : (k : ℕ) (a : List ℕ) (tell : ℕ → Option Reason) → length a < k → on_number k a tell ≡ None
number_front k a tell h = rw (not_equal (length a) k h) refl

pub differs_front : (xs a b : List ℕ) → xs ≡ a ++ b → differs xs a ≡ false
differs_front xs [] b e = none xs
  where
    none : (xs : List ℕ) → differs xs [] ≡ false
    none [] = refl
    none (x ∷ xs) = refl
differs_front [] (y ∷ a) b e = refl
differs_front (x ∷ xs) (y ∷ a) b e =
    let h : y ≡ x = cc in
    let t : xs ≡ a ++ b = cc in
    let q : nat_eq y x ≡ true = same_equal y x h in
    rw q (differs_front xs a b t)

drop_front : (k : ℕ) (a b : List ℕ) → k ≤ length a → drop k (a ++ b) ≡ drop k a ++ b
drop_front zero a b h = refl
drop_front (suc k) [] b h = absurd (omega arith)
drop_front (suc k) (x ∷ a) b h = drop_front k a b (omega arith)

-- a front of a text that has the head has the text's length in it, and a front of its bytes behind it
head_told : (k n : ℕ) (head body a b : List ℕ) → length head ≡ k → number_of head ≡ n → head ++ body ≡ a ++ b → k ≤ length a
    → (number_of (take k a) ≡ n) × (body ≡ drop k a ++ b)
head_told k n head body a b lh nh e le =
    let t : take k a ≡ head = sym (take-append-le k a b le) ∙ ap (take k) (sym e) ∙ take_at head body k lh in
    let d : body ≡ drop k a ++ b = sym (drop_at head body k lh) ∙ ap (drop k) e ∙ drop_front k a b le in
    (ap number_of t ∙ nh, d)

-- no byte of a text's front is wrong, and its length is not negative
abbrev pub FrontIsRight : Bool → List ℕ → Type 0
FrontIsRight long a = (has_wrong_byte long a ≡ false) × ((has_head long a && nat_le (text_bound long) (text_length long a)) ≡ false)

right_front : (long : Bool) (head body a b : List ℕ) (n : ℕ) → length head ≡ head_size long → number_of head ≡ n
    → n < text_bound long → head ++ body ≡ a ++ b → all_stand n unit_start body ≡ true → FrontIsRight long a
right_front long head body a b n lh nh bound e st = go (has_head long a) refl
  where
    go : (x : Bool) → has_head long a ≡ x → FrontIsRight long a
    go false ex = (rw ex refl, rw ex refl)
    go true ex =
        let x = head_told (head_size long) n head body a b lh nh e (leb-true (head_size long) (length a) ex) in
        let s : all_stand n unit_start (drop (head_size long) a) ≡ true = front_stands (drop (head_size long) a) b n unit_start (rw x.1 at st) in
        let s' : all_stand (number_of (take (head_size long) a)) unit_start (drop (head_size long) a) ≡ true = rw x.0 s in
        let q : nat_le (text_bound long) (number_of (take (head_size long) a)) ≡ false =
        rw x.0 (not_le (text_bound long) n bound) in
        (rw (ex, s') refl, rw (ex, q) refl)

pub text_front_short : (u a b : List ℕ) → IsText false u → utf u ≡ a ++ b → FrontIsRight false a
text_front_short u a b h e =
    right_front false (big_bytes 2 (length (modified_utf8 u))) (modified_utf8 u) a b (length (modified_utf8 u))
    (length-big_bytes 2 (length (modified_utf8 u))) (number_2 (length (modified_utf8 u)) h.1) h.1 e (text_stands u h.0)

pub text_front_long : (u a b : List ℕ) → IsText true u → long_utf u ≡ a ++ b → FrontIsRight true a
text_front_long u a b h e =
    right_front true (big_bytes 8 (length (modified_utf8 u))) (modified_utf8 u) a b (length (modified_utf8 u))
    (length-big_bytes 8 (length (modified_utf8 u))) (number_8 (length (modified_utf8 u)) (omega arith)) h.1 e (text_stands u h.0)

pub not_whole : (long : Bool) (a : List ℕ) → length a < text_size long a → is_whole_text long a ≡ false
not_whole long a h = go (nat_lt (length a) (head_size long)) refl
  where
    go : (x : Bool) → nat_lt (length a) (head_size long) ≡ x → is_whole_text long a ≡ false
    go true e =
        let l : length a < head_size long = leb-true (suc (length a)) (head_size long) e in
        rw (not_le (head_size long) (length a) l) refl
    go false e =
        let h' : length a < head_size long + number_of (take (head_size long) a) = rw e at h in
        rw (not_equal (length a) (head_size long + number_of (take (head_size long) a)) h') and_false
      where
        and_false : (has_head long a && false) ≡ false
        and_false = two (has_head long a)
          where
            two : (x : Bool) → (x && false) ≡ false
            two true = refl
            two false = refl
