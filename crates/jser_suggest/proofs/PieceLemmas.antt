-- What the pieces of a filter's text say: limits, names that can be written, and the last piece.
use Rattle.std.proofs.Common.{◌≡◌, ◌⊎◌, ℕ, zero, suc, ◌+◌, ◌-◌, ◌*◌, ◌^◌, ◌<◌, ◌≤◌, nat_lt, leb, Bool, true, false, cond, not, ◌==◌, ◌&&◌, ◌||◌, List, [], ◌∷◌, ◌++◌, length, take, drop, codes, decimal, Option, Some, None, option_map, fold, inl, inr, refl, sym, ap, ◌∙◌, arith, leb-true, le-leb, nat_eq, bytes_eq, length-append}
use Rattle.std.proofs.lemmas.Bool.{ne_eqb, eq-eqb, eqb-true, ltb-true, ltb-false, lt-ltb}
use Rattle.std.proofs.lemmas.Fmt.{decimal_nonempty, digits_decimal, digits_value-decimal}
use Rattle.std.proofs.lemmas.Str.Parse.{IsDigitsTest, FoldsDigits, IsNumeralModel, numerals_by_fold}
use Rattle.std.proofs.lemmas.Slice.Eq.{bytes_eq-Decides}
use Rattle.std.specs.List.{list_all, ends_with, position_or_len, onto_first}
use Rattle.jser_table.specs.Names.{ends_in}
use Rattle.jser_filter.specs.declared.limit.Limit.{Limit}
use Rattle.jser_filter.specs.declared.limit.Limit.TheVariants as limit
use Rattle.jser_filter.specs.Cuts.{cut, split_at_each}
use Rattle.jser_filter.specs.Limits.{is_digit, number_written, limit_value}
use Rattle.jser_filter.specs.Patterns.{exact, name_pattern}
use Rattle.jser_filter.specs.Pieces.{limit_piece, read_limit, limit_or_fault, lacks_package, read_cut, read_piece}
use Rattle.jser_suggest.specs.Suggested.{only, no_other, has, begins, is_empty, is_writable}

-- ---- tests

pub or_first : (a b : Bool) → (a || b) ≡ false → a ≡ false
or_first true b e = absurd (cc)
or_first false b e = refl

pub or_rest : (a b : Bool) → (a || b) ≡ false → b ≡ false
or_rest true b e = absurd (cc)
or_rest false b e = e

not_true : (a : Bool) → not a ≡ true → a ≡ false
not_true true e = absurd (cc)
not_true false e = refl

pub and_first : (a b : Bool) → (a && b) ≡ true → a ≡ true
and_first true b e = refl
and_first false b e = absurd (cc)

pub and_rest : (a b : Bool) → (a && b) ≡ true → b ≡ true
and_rest true b e = e
and_rest false b e = absurd (cc)

-- ---- cutting

pub has_both : (c : ℕ) (xs ys : List ℕ) → has c xs ≡ false → has c ys ≡ false → has c (xs ++ ys) ≡ false
has_both c [] ys e f = f
has_both c (x ∷ xs) ys e f = ap (λ t. t || has c (xs ++ ys)) (or_first (x == c) (has c xs) e) ∙ has_both c xs ys (or_rest (x == c) (has c xs) e) f

pub one_part : (c : ℕ) (xs : List ℕ) → has c xs ≡ false → split_at_each c xs ≡ xs ∷ []
one_part c [] e = refl
one_part c (x ∷ xs) e =
    ap (λ t. cond t ([] ∷ split_at_each c xs) (onto_first x (split_at_each c xs))) (or_first (x == c) (has c xs) e)
    ∙ ap (onto_first x) (one_part c xs (or_rest (x == c) (has c xs) e))

pub first_part : (c : ℕ) (xs ys : List ℕ) → has c xs ≡ false → split_at_each c (xs ++ c ∷ ys) ≡ xs ∷ split_at_each c ys
first_part c [] ys e = ap (λ t. cond t ([] ∷ split_at_each c ys) (onto_first c (split_at_each c ys))) (eq-eqb c c refl)
first_part c (x ∷ xs) ys e =
    ap (λ t. cond t ([] ∷ split_at_each c (xs ++ c ∷ ys)) (onto_first x (split_at_each c (xs ++ c ∷ ys)))) (or_first (x == c) (has c xs) e)
    ∙ ap (onto_first x) (first_part c xs ys (or_rest (x == c) (has c xs) e))

place_in : (c : ℕ) (xs ys : List ℕ) → has c xs ≡ false → position_or_len (λ u. u == c) (xs ++ c ∷ ys) ≡ length xs
place_in c [] ys e = ap (λ t. cond (not t) (1 + position_or_len (λ u. u == c) ys) 0) (eq-eqb c c refl)
place_in c (x ∷ xs) ys e =
    ap (λ t. cond (not t) (1 + position_or_len (λ u. u == c) (xs ++ c ∷ ys)) 0) (or_first (x == c) (has c xs) e)
    ∙ omega (arith, place_in c xs ys (or_rest (x == c) (has c xs) e))

no_place : (c : ℕ) (xs : List ℕ) → has c xs ≡ false → position_or_len (λ u. u == c) xs ≡ length xs
no_place c [] e = refl
no_place c (x ∷ xs) e =
    ap (λ t. cond (not t) (1 + position_or_len (λ u. u == c) xs) 0) (or_first (x == c) (has c xs) e)
    ∙ omega (arith, no_place c xs (or_rest (x == c) (has c xs) e))

front_taken : (xs ys : List ℕ) → take (length xs) (xs ++ ys) ≡ xs
front_taken [] ys = refl
front_taken (x ∷ xs) ys = ap (λ zs. x ∷ zs) (front_taken xs ys)

front_dropped : (c : ℕ) (xs ys : List ℕ) → drop (length xs + 1) (xs ++ c ∷ ys) ≡ ys
front_dropped c [] ys = refl
front_dropped c (x ∷ xs) ys =
    let next : suc (length xs) + 1 ≡ suc (length xs + 1) = omega arith in
    ap (λ k. drop k (x ∷ (xs ++ c ∷ ys))) next ∙ front_dropped c xs ys

abbrev parts_by : List ℕ → ℕ → Bool → Option (List ℕ × List ℕ)
parts_by units place is = option_map (λ p. (take p units, drop (p + 1) units)) (cond is (Some place) None)

both_parts : (units front back : List ℕ) (place : ℕ) → take place units ≡ front → drop (place + 1) units ≡ back → (is : Bool) → is ≡ true → parts_by units place is ≡ Some (front, back)
both_parts units front back place e f true is = ap (λ x. Some (x, drop (place + 1) units)) e ∙ ap (λ y. Some (front, y)) f
both_parts units front back place e f false is = absurd (cc)

no_parts : (units : List ℕ) (place : ℕ) (is : Bool) → is ≡ false → parts_by units place is ≡ None
no_parts units place true is = absurd (cc)
no_parts units place false is = refl

pub cut_at : (c : ℕ) (xs ys : List ℕ) → has c xs ≡ false → cut c (xs ++ c ∷ ys) ≡ Some (xs, ys)
cut_at c xs ys e =
    let units = xs ++ c ∷ ys in
    let place = position_or_len (λ u. u == c) units in
    let is : place ≡ length xs = place_in c xs ys e in
    both_parts units xs ys place (ap (λ p. take p units) is ∙ front_taken xs (c ∷ ys)) (ap (λ p. drop (p + 1) units) is ∙ front_dropped c xs ys) (nat_lt place (length units))
    (lt-ltb place (length units) (omega (arith, is, length-append xs (c ∷ ys))))

pub cut_none : (c : ℕ) (xs : List ℕ) → has c xs ≡ false → cut c xs ≡ None
cut_none c xs e =
    let place = position_or_len (λ u. u == c) xs in
    no_parts xs place (nat_lt place (length xs)) (not_less place (length xs) (nat_lt place (length xs)) refl (no_place c xs e))
  where
    not_less : (m n : ℕ) (is : Bool) → nat_lt m n ≡ is → m ≡ n → is ≡ false
    not_less m n true is same = absurd (omega (arith, ltb-true m n is, same))
    not_less m n false is same = refl

-- a part that was cut has no such unit

passed_by : (c : ℕ) (xs : List ℕ) → (length xs ≤ position_or_len (λ u. u == c) xs → has c xs ≡ false) → (t : Bool)
    → suc (length xs) ≤ cond (not t) (1 + position_or_len (λ u. u == c) xs) 0 → (t || has c xs) ≡ false
passed_by c xs later true n = absurd (omega (arith, n))
passed_by c xs later false n = later (omega (arith, n))

all_passed : (c : ℕ) (xs : List ℕ) → length xs ≤ position_or_len (λ u. u == c) xs → has c xs ≡ false
all_passed c [] n = refl
all_passed c (x ∷ xs) n = passed_by c xs (all_passed c xs) (x == c) n

left_by : (c : ℕ) (xs : List ℕ) (is : Bool) → nat_lt (position_or_len (λ u. u == c) xs) (length xs) ≡ is → parts_by xs (position_or_len (λ u. u == c) xs) is ≡ None → has c xs ≡ false
left_by c xs true is e = absurd (cc)
left_by c xs false is e = all_passed c xs (ltb-false (position_or_len (λ u. u == c) xs) (length xs) is)

pub none_left : (c : ℕ) (xs : List ℕ) → cut c xs ≡ None → has c xs ≡ false
none_left c xs e = left_by c xs (nat_lt (position_or_len (λ u. u == c) xs) (length xs)) refl e

-- ---- limits

and_true : (a b : Bool) → a ≡ true → b ≡ true → (a && b) ≡ true
and_true true true e f = refl
and_true true false e f = absurd (cc)
and_true false b e f = absurd (cc)

are_read : IsDigitsTest (λ ds. list_all is_digit ds ≡ true)
are_read = record {
  empty = refl;
  parts = λ c cs e. ((leb-true 48 c (and_first (leb 48 c) (leb c 57) (and_first (is_digit c) (list_all is_digit cs) e)), leb-true c 57 (and_rest (leb 48 c) (leb c 57) (and_first (is_digit c) (list_all is_digit cs) e))), and_rest (is_digit c) (list_all is_digit cs) e);
  more = λ c cs k e. and_true (is_digit c) (list_all is_digit cs) (and_true (leb 48 c) (leb c 57) (le-leb 48 c k.0) (le-leb c 57 k.1)) e;
}

abbrev from_left : ℕ → List ℕ → ℕ
from_left n digits = fold (λ value digit. 10 * value + (digit - 0x30)) n digits

folds : FoldsDigits from_left
folds = record { empty = λ n. refl; more = λ n c cs k. ap (λ m. from_left m cs) (omega arith) }

numerals : IsNumeralModel (λ ds. list_all is_digit ds ≡ true) number_written
numerals = numerals_by_fold (λ ds. list_all is_digit ds ≡ true) are_read from_left folds

number_of_digits : (ds : List ℕ) (n : ℕ) → 0 < length ds → list_all is_digit ds ≡ true → number_written ds ≡ n → n ≤ 9223372036854775807 → limit_value ds ≡ Some n
number_of_digits [] n some all is few = absurd (omega (arith, some))
number_of_digits (d ∷ ds) n some all is few =
    let first = are_read.parts d ds all in
    rw (ne_eqb d 0x2B (λ e. omega (arith, first.0.0, e)), ne_eqb d 0x2D (λ e. omega (arith, first.0.0, e)), all, le-leb (number_written (d ∷ ds)) 9223372036854775807 (omega (arith, is, few)), is) refl

pub limit_read : (n : ℕ) → n ≤ 9223372036854775807 → limit_value (decimal n) ≡ Some n
limit_read n few =
    let h : n < 2 ^ 64 = omega (arith, few) in
    number_of_digits (decimal n) n (decimal_nonempty n h) (digits_decimal numerals n h) (digits_value-decimal numerals n h) few

no_digit : (c : ℕ) (ds : List ℕ) → (c < 48) ⊎ (57 < c) → list_all is_digit ds ≡ true → has c ds ≡ false
no_digit c [] away all = refl
no_digit c (d ∷ ds) away all =
    let k = are_read.parts d ds all in
    ap (λ t. t || has c ds) (ne_eqb d c (λ e. elim away [ inl low ↦ omega (arith, k.0.0, low, e) | inr high ↦ omega (arith, k.0.1, high, e) ])) ∙ no_digit c ds away k.1

pub decimal_has : (c n : ℕ) → (c < 48) ⊎ (57 < c) → n < 2 ^ 64 → has c (decimal n) ≡ false
decimal_has c n away h = no_digit c (decimal n) away (digits_decimal numerals n h)

limit_of : (words value : List ℕ) (limit : Limit) (n : ℕ) → has 0x3D words ≡ false → 0 < length words → read_limit (words, value) ≡ limit_piece limit n → read_piece (words ++ 0x3D ∷ value) ≡ limit_piece limit n
limit_of [] value limit n none some is = absurd (omega (arith, some))
limit_of (w ∷ words) value limit n none some is = ap (read_cut (w ∷ (words ++ 0x3D ∷ value))) (cut_at 0x3D (w ∷ words) value none) ∙ is

pub bytes_piece : (n : ℕ) → n ≤ 9223372036854775807 → read_piece (codes "maxbytes=" ++ decimal n) ≡ limit_piece limit.Bytes n
bytes_piece n few = limit_of (codes "maxbytes") (decimal n) limit.Bytes n refl (omega arith) (ap (limit_or_fault (Some limit.Bytes)) (limit_read n few))

pub refs_piece : (n : ℕ) → n ≤ 9223372036854775807 → read_piece (codes "maxrefs=" ++ decimal n) ≡ limit_piece limit.Refs n
refs_piece n few = limit_of (codes "maxrefs") (decimal n) limit.Refs n refl (omega arith) (ap (limit_or_fault (Some limit.Refs)) (limit_read n few))

pub depth_piece : (n : ℕ) → n ≤ 9223372036854775807 → read_piece (codes "maxdepth=" ++ decimal n) ≡ limit_piece limit.Depth n
depth_piece n few = limit_of (codes "maxdepth") (decimal n) limit.Depth n refl (omega arith) (ap (limit_or_fault (Some limit.Depth)) (limit_read n few))

pub array_piece : (n : ℕ) → n ≤ 9223372036854775807 → read_piece (codes "maxarray=" ++ decimal n) ≡ limit_piece limit.Array n
array_piece n few = limit_of (codes "maxarray") (decimal n) limit.Array n refl (omega arith) (ap (limit_or_fault (Some limit.Array)) (limit_read n few))

-- ---- names

ends_longer : (c x : ℕ) (xs : List ℕ) → ends_in c xs ≡ true → ends_in c (x ∷ xs) ≡ true
ends_longer c x [] e = absurd (cc)
ends_longer c x (y ∷ xs) e = e

ends_drop : (c k : ℕ) (xs : List ℕ) → ends_in c (drop k xs) ≡ true → ends_in c xs ≡ true
ends_drop c zero xs e = e
ends_drop c (suc k) [] e = e
ends_drop c (suc k) (x ∷ xs) e = ends_longer c x xs (ends_drop c k xs e)

-- a name that does not end in `*` ends in no text that does
not_ending : (name end : List ℕ) → ends_in 0x2A end ≡ true → ends_in 0x2A name ≡ false → ends_with nat_eq name end ≡ false
not_ending name end star none = by_test (ends_with nat_eq name end) refl
  where
    by_test : (t : Bool) → ends_with nat_eq name end ≡ t → t ≡ false
    by_test false e = refl
    by_test true e =
        let same : end ≡ drop (length name - length end) name = (bytes_eq-Decides end (drop (length name - length end) name)).0 e in
        let yes : ends_in 0x2A name ≡ true = ends_drop 0x2A (length name - length end) name (ap (ends_in 0x2A) (sym same) ∙ star) in
        absurd (cc (sym yes ∙ none))

last_dropped : (c : ℕ) (xs : List ℕ) → ends_in c xs ≡ true → drop (length xs - 1) xs ≡ c ∷ []
last_dropped c [] e = absurd (cc)
last_dropped c (x ∷ []) e = ap (λ k. k ∷ []) (eqb-true x c e)
last_dropped c (x ∷ y ∷ xs) e =
    let next : suc (suc (length xs)) - 1 ≡ suc (suc (length xs) - 1) = omega arith in
    ap (λ k. drop k (x ∷ y ∷ xs)) next ∙ last_dropped c (y ∷ xs) e

pub ending : (name : List ℕ) → ends_in 0x2A name ≡ true → ends_with nat_eq name (codes "*") ≡ true
ending name e = ap (λ (ds : List ℕ). bytes_eq (codes "*") ds) (last_dropped 0x2A name e)

pub exact_of : (name : List ℕ) → ends_in 0x2A name ≡ false → name_pattern name ≡ exact name
exact_of name none = rw (not_ending name (codes ".**") refl none, not_ending name (codes ".*") refl none, not_ending name (codes "*") refl none) refl

has_package : (name : List ℕ) → ends_in 0x2A name ≡ false → lacks_package name ≡ false
has_package name none = rw (not_text name (codes ".*") refl none, not_text name (codes ".**") refl none) refl
  where
    not_text : (name text : List ℕ) → ends_in 0x2A text ≡ true → ends_in 0x2A name ≡ false → bytes_eq name text ≡ false
    not_text name text star none = by_test (bytes_eq name text) refl
      where
        by_test : (t : Bool) → bytes_eq name text ≡ t → t ≡ false
        by_test false e = refl
        by_test true e =
            let same : name ≡ text = (bytes_eq-Decides name text).0 e in
            let yes : ends_in 0x2A name ≡ true = ap (ends_in 0x2A) same ∙ star in
            absurd (cc (sym yes ∙ none))

-- what a name that can be written is not
pub record Plain (name : List ℕ) : Type 0 where
  pub some : is_empty name ≡ false
  pub no_mark : begins 0x21 name ≡ false
  pub one : has 0x3B name ≡ false
  pub no_limit : has 0x3D name ≡ false
  pub no_module : has 0x2F name ≡ false
  pub no_star : ends_in 0x2A name ≡ false

pub plain : (name : List ℕ) → is_writable name ≡ true → Plain name
plain name w =
    let a : is_empty name ≡ false = or_first _ _ (not_true _ w) in
    let r1 = or_rest (is_empty name) _ (not_true _ w) in
    let r2 = or_rest (begins 0x21 name) _ r1 in
    let r3 = or_rest (has 0x3B name) _ r2 in
    let r4 = or_rest (has 0x3D name) _ r3 in
    record { some = a; no_mark = or_first (begins 0x21 name) _ r1; one = or_first (has 0x3B name) _ r2; no_limit = or_first (has 0x3D name) _ r3; no_module = or_first (has 0x2F name) _ r4; no_star = or_rest (has 0x2F name) _ r4 }

pub name_piece : (name : List ℕ) → is_writable name ≡ true → read_piece name ≡ only name
name_piece name w = written name (plain name w)
  where
    written : (name : List ℕ) → Plain name → read_piece name ≡ only name
    written [] p = absurd (cc p.some)
    written (u ∷ us) p =
        rw (cut_none 0x3D (u ∷ us) p.no_limit, p.no_mark, cut_none 0x2F (u ∷ us) p.no_module, has_package (u ∷ us) p.no_star, exact_of (u ∷ us) p.no_star) refl

pub last_piece : read_piece (codes "!*") ≡ no_other
last_piece = refl
