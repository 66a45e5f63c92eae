-- Units that are written character by character.
use Rattle.std.proofs.Common.{◌≡◌, ◌<◌, ℕ, Bool, true, false, if◌then◌else◌, List, [], ◌∷◌, ◌++◌, drop, get_or, length, take, refl, sym, ap, ◌∙◌, append_assoc, arith}
use Rattle.std.specs.List.{flat_map}
use Rattle.std.proofs.lemmas.Grind.{flat_map-append}
use Rattle.jser_prim.specs.Outgoing.{Outgoing, SinkState}
use Rattle.jser_shown.specs.Words.{quoted_unit}
use Rattle.jser_printer.specs.Says.{Saying, Says}
use Rattle.jser_scan.specs.JsonTexts.{begins_with_pair, whole_unit, whole_units}

-- some units at the front
says_front : (a b : Outgoing) (d e : SinkState) (front rest all : List ℕ) → Says a b d e (λ k. flat_map quoted_unit front ++ k) → all ≡ front ++ rest
    → Saying a b d e (λ k. flat_map quoted_unit all ++ k) (λ k. flat_map quoted_unit rest ++ k)
says_front a b d e front rest all says is = record {
  bytes = says.bytes;
  puts = says.puts;
  is = λ k. ap (λ xs. flat_map quoted_unit xs ++ k) is ∙ ap (λ xs. xs ++ k) (flat_map-append quoted_unit front rest)
      ∙ append_assoc (flat_map quoted_unit front) (flat_map quoted_unit rest) k ∙ says.is (flat_map quoted_unit rest ++ k);
}

by_pair : (high low : ℕ) (units : List ℕ) (test : Bool) → begins_with_pair (high ∷ low ∷ units) ≡ test
    → whole_units (high ∷ low ∷ units) ≡ (if test then high ∷ low ∷ whole_units units else whole_unit high ∷ whole_units (low ∷ units))
unfolding whole_units
by_pair high low units test is = ap (λ b. if b then high ∷ low ∷ whole_units units else whole_unit high ∷ whole_units (low ∷ units)) is

pair_first : (units : List ℕ) → begins_with_pair units ≡ true → whole_units units ≡ take 2 units ++ whole_units (drop 2 units)
pair_first [] is = absurd (cc)
pair_first (unit ∷ []) is = absurd (cc)
pair_first (high ∷ low ∷ units) is = by_pair high low units true is

other_first : (units : List ℕ) → 0 < length units → begins_with_pair units ≡ false → whole_units units ≡ whole_unit (get_or units 0 0) ∷ whole_units (drop 1 units)
unfolding whole_units
other_first [] some is = absurd (omega (arith, some))
other_first (unit ∷ []) some is = refl
other_first (high ∷ low ∷ units) some is = by_pair high low units false is

pub says_pair : (a b : Outgoing) (d e : SinkState) (units pair after : List ℕ) → begins_with_pair units ≡ true → pair ≡ take 2 units → after ≡ drop 2 units
    → Says a b d e (λ k. flat_map quoted_unit pair ++ k) → Saying a b d e (λ k. flat_map quoted_unit (whole_units units) ++ k) (λ k. flat_map quoted_unit (whole_units after) ++ k)
says_pair a b d e units pair after is front back says =
    says_front a b d e pair (whole_units after) (whole_units units) says
    (pair_first units is ∙ ap (λ xs. xs ++ whole_units (drop 2 units)) (sym front) ∙ ap (λ xs. pair ++ whole_units xs) (sym back))

first_of : (units : List ℕ) → get_or (take 1 units) 0 0 ≡ get_or units 0 0
first_of [] = refl
first_of (unit ∷ units) = refl

pub says_other : (a b : Outgoing) (d e : SinkState) (units one after : List ℕ) (unit : ℕ) → 0 < length units → begins_with_pair units ≡ false → unit ≡ whole_unit (get_or one 0 0) → one ≡ take 1 units → after ≡ drop 1 units
    → Says a b d e (λ k. flat_map quoted_unit (unit ∷ []) ++ k) → Saying a b d e (λ k. flat_map quoted_unit (whole_units units) ++ k) (λ k. flat_map quoted_unit (whole_units after) ++ k)
says_other a b d e units one after unit some is first front back says =
    says_front a b d e (unit ∷ []) (whole_units after) (whole_units units) says
    (other_first units some is ∙ ap (λ u. u ∷ whole_units (drop 1 units)) (sym (first ∙ ap (λ xs. whole_unit (get_or xs 0 0)) front ∙ ap whole_unit (first_of units))) ∙ ap (λ xs. unit ∷ whole_units xs) (sym back))

-- none are left
pub says_none_left : (a b : Outgoing) (d e : SinkState) (all : List ℕ → List ℕ) (left : List ℕ) → Saying a b d e all (λ k. flat_map quoted_unit (whole_units left) ++ k) → left ≡ []
    → Says a b d e all
unfolding whole_units
says_none_left a b d e all left h none = record { bytes = h.bytes; puts = h.puts; is = λ k. h.is k ∙ ap (λ u. h.bytes ++ (flat_map quoted_unit (whole_units u) ++ k)) none }
