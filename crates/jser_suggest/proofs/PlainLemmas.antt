-- Names of plain signs have one line and no half of a surrogate pair.
use Rattle.std.proofs.Common.{◌≡◌, ℕ, Bool, true, false, not, ◌&&◌, ◌||◌, ◌==◌, if◌then◌else◌, List, [], ◌∷◌, Option, Some, None, is_some, refl, sym, ap, ◌∙◌, arith}
use Rattle.std.specs.List.{list_all, list_any}
use Rattle.std.specs.Char.Utf16.{has_unpaired_surrogate, is_high_surrogate, is_low_surrogate, lone_unit_char, surrogate_pair_char, utf16_chars}
use Rattle.std.proofs.lemmas.Bool.{eqb-true}
use Rattle.std.proofs.lemmas.Bool.Decides.{nat_tests}
use Rattle.std.specs.Char.Unicode.Alphabetic.{is_alphabetic}
use Rattle.std.specs.Char.Unicode.Alphabetic.{alphabetic_ranges}
use Rattle.std.specs.Char.Unicode.Numeric.{is_numeric}
use Rattle.std.specs.Char.Unicode.Numeric.{numeric_ranges}
use Rattle.std.specs.Char.Unicode.Rows.{in_ranges}
use Rattle.jser_suggest.specs.Suggested.{has, is_one_line, is_plain, is_plain_sign, is_plain_unit}

both : (x y : Bool) → (x && y) ≡ true → (x ≡ true) × (y ≡ true)
both true y e = (refl, e)
both false y e = cc e

or_false : (a b : Bool) → a ≡ false → b ≡ false → (a || b) ≡ false
or_false true b e f = absurd (cc)
or_false false b e f = f

-- a line feed is not plain
line_feed : is_plain_unit 0x0A ≡ false
unfolding is_alphabetic is_numeric in_ranges alphabetic_ranges numeric_ranges
line_feed = refl

no_line_feed : (c : ℕ) (t : Bool) → (c == 0x0A) ≡ t → is_plain_unit c ≡ true → t ≡ false
no_line_feed c false is e = refl
no_line_feed c true is e = absurd (let no : true ≡ false = sym e ∙ ap is_plain_unit (eqb-true c 0x0A is) ∙ line_feed in cc no)

lacks : (name : List ℕ) → is_plain name ≡ true → has 0x0A name ≡ false
lacks [] e = refl
lacks (c ∷ name) e =
    let two = both (is_plain_unit c) (is_plain name) e in
    or_false (c == 0x0A) (has 0x0A name) (no_line_feed c (c == 0x0A) refl two.0) (lacks name two.1)

pub plain_line : (name : List ℕ) → is_plain name ≡ true → is_one_line name ≡ true
plain_line name e = ap not (lacks name e)

-- ---- surrogates

abbrev one_lacks : List (Option ℕ) → Bool
one_lacks chars = list_any (λ o. not (is_some o)) chars

sign_is : (o : Option ℕ) (rest : List (Option ℕ)) → is_plain_sign o ≡ true → one_lacks rest ≡ false → one_lacks (o ∷ rest) ≡ false
sign_is None rest e r = absurd (cc)
sign_is (Some c) rest e r = r

high_is_none : (u : ℕ) → is_high_surrogate u ≡ true → lone_unit_char u ≡ None
high_is_none u e = grind (arith, nat_tests)

paired_by : (t : Bool) (u : ℕ) (pair rest : List (Option ℕ)) → (t ≡ true → is_high_surrogate u ≡ true) → is_plain_unit u ≡ true → one_lacks rest ≡ false
    → one_lacks (if t then pair else lone_unit_char u ∷ rest) ≡ false
paired_by true u pair rest high e r = absurd (let no : false ≡ true = sym (ap is_plain_sign (high_is_none u (high refl))) ∙ e in cc no)
paired_by false u pair rest high e r = sign_is (lone_unit_char u) rest e r

paired : (name : List ℕ) → is_plain name ≡ true → has_unpaired_surrogate name ≡ false
unfolding utf16_chars
paired [] e = refl
paired (u ∷ []) e = sign_is (lone_unit_char u) [] (both (is_plain_unit u) true e).0 refl
paired (u ∷ v ∷ name) e =
    let two = both (is_plain_unit u) (is_plain (v ∷ name)) e in
    paired_by (is_high_surrogate u && is_low_surrogate v) u (Some (surrogate_pair_char u v) ∷ utf16_chars name) (utf16_chars (v ∷ name))
    (λ is. (both (is_high_surrogate u) (is_low_surrogate v) is).0) two.0 (paired (v ∷ name) two.1)

pub plain_paired : (name : List ℕ) → is_plain name ≡ true → has_unpaired_surrogate name ≡ false
plain_paired name e = paired name e
