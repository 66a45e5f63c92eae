-- Floats, as they are said.
use Rattle.std.proofs.Common.{◌≡◌, ℕ, ◌<◌, ◌+◌, ◌-◌, nat_lt, Bool, true, if◌then◌else◌, List, [], ◌∷◌, ◌++◌, length, min, take, drop, refl, sym, ap, ◌∙◌, append_assoc, arith}
use Rattle.std.proofs.lemmas.Bool.{ne_eqb}
use Rattle.std.proofs.lemmas.Bool.Decides.{nat_tests}
use Rattle.std.specs.Fmt.{decimal}
use Rattle.jser_prim.specs.Outgoing.{Outgoing, SinkState}
use Rattle.jser_shown.specs.Floats.{exponent_text, or_zero, put_before, sign_of, trimmed, with_point}
use Rattle.jser_decimal.specs.declared.float.Magnitude.{Magnitude}
use Rattle.jser_decimal.specs.declared.float.Magnitude.TheVariants as magnitude
use Rattle.std.proofs.lemmas.List.{drop_min, take_min}
use Rattle.jser_printer.specs.Says.{Says}
use Rattle.jser_printer.proofs.SaysLemmas.{says_same, says_both, says_nothing, says_three}

-- two texts, one behind the other
pub says_joined : (a b c : Outgoing) (d e f : SinkState) (x y : List ℕ) → Says a b d e (λ k. x ++ k) → Says b c e f (λ k. y ++ k) → Says a c d f (λ k. (x ++ y) ++ k)
says_joined a b c d e f x y h g =
    says_same a c d f (λ k. x ++ (y ++ k)) (λ k. (x ++ y) ++ k) (λ k. append_assoc x y k) (says_both a b c d e f (λ k. x ++ k) (λ k. y ++ k) h g)

-- two texts with a byte between them
pub says_between : (a b c g : Outgoing) (d e f h : SinkState) (x y : List ℕ) (byte : ℕ) → Says a b d e (λ k. x ++ k) → Says b c e f (λ k. byte ∷ k)
    → Says c g f h (λ k. y ++ k) → Says a g d h (λ k. (x ++ byte ∷ y) ++ k)
says_between a b c g d e f h x y byte one two three =
    says_same a g d h (λ k. x ++ (byte ∷ (y ++ k))) (λ k. (x ++ byte ∷ y) ++ k) (λ k. append_assoc x (byte ∷ y) k)
    (says_three a b c g d e f h (λ k. x ++ k) (λ k. byte ∷ k) (λ k. y ++ k) one two three)

-- zeros at the end

pub trimmed_zero : (digits : List ℕ) → trimmed (digits ++ 0x30 ∷ []) ≡ trimmed digits
trimmed_zero [] = refl
trimmed_zero (digit ∷ digits) = ap (put_before digit) (trimmed_zero digits)

pub trimmed_digit : (digits : List ℕ) (digit : ℕ) → (digit ≡ 0x30 → ⊥) → trimmed (digits ++ digit ∷ []) ≡ digits ++ digit ∷ []
trimmed_digit [] digit other = ap (λ t. if t then [] else digit ∷ []) (ne_eqb digit 0x30 other)
trimmed_digit (first ∷ []) digit other = ap (put_before first) (trimmed_digit [] digit other)
trimmed_digit (first ∷ next ∷ digits) digit other = ap (put_before first) (trimmed_digit (next ∷ digits) digit other)

-- where the point is written

pub exponent_below : (point : ℕ) → point < 345 → exponent_text point ≡ 0x2D ∷ decimal (345 - point)
exponent_below point below = ap (λ t. if t then 0x2D ∷ decimal (345 - point) else decimal (point - 345)) (let t : nat_lt point 345 ≡ true = grind (arith, nat_tests, below) in t)

-- a text that is another one
pub says_as : (a b : Outgoing) (d e : SinkState) (text other : List ℕ) → other ≡ text → Says a b d e (λ k. text ++ k) → Says a b d e (λ k. other ++ k)
says_as a b d e text other is h = says_same a b d e (λ k. text ++ k) (λ k. other ++ k) (λ k. ap (λ t. t ++ k) is) h

-- three texts, the last two in brackets
pub says_after : (a b c g : Outgoing) (d e f h : SinkState) (x y z : List ℕ) → Says a b d e (λ k. x ++ k) → Says b c e f (λ k. y ++ k)
    → Says c g f h (λ k. z ++ k) → Says a g d h (λ k. (x ++ (y ++ z)) ++ k)
says_after a b c g d e f h x y z one two three = says_joined a b g d e h x (y ++ z) one (says_joined b c g e f h y z two three)

pub says_minus : (a b c : Outgoing) (d e f : SinkState) (text : List ℕ) → Says a b d e (λ k. 0x2D ∷ k) → Says b c e f (λ k. text ++ k) → Says a c d f (λ k. (0x2D ∷ text) ++ k)
says_minus a b c d e f text h g = says_both a b c d e f (λ k. 0x2D ∷ k) (λ k. text ++ k) h g

pub says_not_a_number : (a : Outgoing) (d : SinkState) (is_negative : Bool) (m : Magnitude) → m ≡ magnitude.NotANumber → Says a a d d (λ k. sign_of is_negative m ++ k)
says_not_a_number a d is_negative m is = says_nothing a d (λ k. sign_of is_negative m ++ k) (λ k. ap (λ s. s ++ k) (ap (λ m. sign_of is_negative m) is))

-- digits cut where the point is, or at their end
pub cut_at : (whole : ℕ) (digits front behind : List ℕ) → front ≡ take (min whole (length digits)) digits → behind ≡ drop (min whole (length digits)) digits
    → with_point whole digits ≡ front ++ 0x2E ∷ or_zero (trimmed behind)
cut_at whole digits front behind one two =
    let x : take whole digits ≡ front = sym (one ∙ take_min whole digits) in
    let y : drop whole digits ≡ behind = sym (two ∙ drop_min whole digits) in
    ap (λ (t : List ℕ). t ++ 0x2E ∷ or_zero (trimmed (drop whole digits))) x ∙ ap (λ (t : List ℕ). front ++ 0x2E ∷ or_zero (trimmed t)) y
