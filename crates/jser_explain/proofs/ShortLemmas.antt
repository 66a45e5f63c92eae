-- Names, of which a long one is cut.
use Rattle.std.proofs.Common.{◌≡◌, ℕ, zero, suc, ◌+◌, ◌-◌, ◌*◌, ◌<◌, ◌≤◌, ◌==◌, nat_le, nat_lt, Bool, true, false, if◌then◌else◌, not, List, [], ◌∷◌, ◌++◌, length, take, drop, refl, sym, ap, subst, ◌∙◌, arith, length-append, length-drop}
use Rattle.std.proofs.Math.Seq.{drop-append_seam, take-append_seam}
use Rattle.std.proofs.lemmas.Grind.{flat_map-append}
use Rattle.std.proofs.lemmas.List.{take-append-drop}
use Rattle.std.proofs.lemmas.Bool.Decides.{nat_tests}
use Rattle.std.specs.List.{flat_map}
use Rattle.std.specs.Prelude.{◌&&◌, codes}
use Rattle.hex.specs.Hex.{encode_lower}
use Rattle.hex.proofs.HexLemmas.{length-encode_with}
use Rattle.jser_prim.specs.Bytes.{big_bytes}
use Rattle.jser_prim.proofs.NumberLemmas.{length-big_bytes}
use Rattle.jser_prim.specs.Outgoing.{Outgoing, SinkState}
use Rattle.jser_shown.specs.Words.{quoted, quoted_unit}
use Rattle.jser_printer.specs.Says.{Says}
use Rattle.jser_printer.proofs.SaysLemmas.{says_both}
use Rattle.jser_explain.specs.Short.{cut_words, escape_end, short_name, unit_end}

-- ---- a letter in a quoted text

pub of_if : (P : List ℕ → Type 0) (b : Bool) (x y : List ℕ) → (b ≡ true → P x) → (b ≡ false → P y) → P (if b then x else y)
of_if P true x y p q = p refl
of_if P false x y p q = q refl

digits_of_unit : (u : ℕ) → length (encode_lower (big_bytes 2 u)) ≡ 4
digits_of_unit u = length-encode_with _ (big_bytes 2 u) ∙ ap (λ n. 2 * n) (length-big_bytes 2 u)

of_unit : (P : List ℕ → Type 0) (u : ℕ) → P (0x5C ∷ 0x22 ∷ []) → P (0x5C ∷ 0x5C ∷ []) → ((u == 0x5C) ≡ false → P (u ∷ []))
    → ((digits : List ℕ) → length digits ≡ 4 → P (0x5C ∷ 0x75 ∷ digits)) → P (quoted_unit u)
of_unit P u quote escape plain coded =
    of_if P (u == 0x22) _ _ (λ _. quote) (λ _. of_if P (u == 0x5C) _ _ (λ _. escape)
    (λ other. of_if P (nat_le 0x20 u && nat_le u 0x7E) _ _ (λ _. plain other) (λ _. coded _ (digits_of_unit u))))

pub unit_short : (u : ℕ) → length (quoted_unit u) ≤ 6
unit_short u = of_unit (λ t. length t ≤ 6) u (omega arith) (omega arith) (λ _. omega arith) (λ digits four. omega (arith, four))

unit_some : (u : ℕ) → 0 < length (quoted_unit u)
unit_some u = of_unit (λ t. 0 < length t) u (omega arith) (omega arith) (λ _. omega arith) (λ digits four. omega (arith, four))

unit_end_of : (u : ℕ) (k : List ℕ) → unit_end (quoted_unit u ++ k) ≡ length (quoted_unit u)
unit_end_of u k =
    of_unit (λ t. unit_end (t ++ k) ≡ length t) u refl refl (λ other. ap (λ b. if b then escape_end k else 1) other) (λ digits four. ap (λ n. suc (suc n)) (sym four))

-- ---- what is behind the first letters

behind_one : (units : List ℕ) → drop (unit_end (flat_map quoted_unit units)) (flat_map quoted_unit units) ≡ flat_map quoted_unit (drop 1 units)
behind_one [] = refl
behind_one (u ∷ units) =
    ap (λ n. drop n (quoted_unit u ++ flat_map quoted_unit units)) (unit_end_of u (flat_map quoted_unit units))
    ∙ drop-append_seam (quoted_unit u) (flat_map quoted_unit units)

drop_one : (i : ℕ) (units : List ℕ) → drop 1 (drop i units) ≡ drop (suc i) units
drop_one zero units = refl
drop_one (suc i) [] = refl
drop_one (suc i) (u ∷ units) = drop_one i units

pub letter_on : (quoted rest new : List ℕ) (i end : ℕ) → ((units : List ℕ) → quoted ≡ flat_map quoted_unit units → rest ≡ flat_map quoted_unit (drop i units))
    → end ≡ unit_end rest → new ≡ drop end rest → (units : List ℕ) → quoted ≡ flat_map quoted_unit units → new ≡ flat_map quoted_unit (drop (i + 1) units)
letter_on quoted rest new i end so is left units all =
    let here = so units all in
    let next : suc i ≡ i + 1 = omega arith in
    left ∙ ap (λ n. drop n rest) (is ∙ ap unit_end here) ∙ ap (drop (unit_end (flat_map quoted_unit (drop i units)))) here ∙ behind_one (drop i units)
    ∙ ap (flat_map quoted_unit) (drop_one i units ∙ ap (λ n. drop n units) next)

-- ---- the first letters

pub first_letters : (n : ℕ) (units quoted rest first : List ℕ) → quoted ≡ flat_map quoted_unit units → rest ≡ flat_map quoted_unit (drop n units)
    → first ≡ take (length quoted - length rest) quoted → first ≡ flat_map quoted_unit (take n units)
first_letters n units quoted rest first all left front =
    let a = flat_map quoted_unit (take n units) in
    let b = flat_map quoted_unit (drop n units) in
    let whole : quoted ≡ a ++ b = all ∙ ap (flat_map quoted_unit) (sym (take-append-drop n units)) ∙ flat_map-append quoted_unit (take n units) (drop n units) in
    let many : length quoted - length rest ≡ length a = omega (arith, ap length whole, length-append a b, ap length left) in
    front ∙ ap (λ m. take m quoted) many ∙ ap (take (length a)) whole ∙ take-append_seam a b

some_more : (xs k : List ℕ) → 0 < length xs → nat_lt 0 (length (xs ++ k)) ≡ true
some_more [] k some = absurd (omega (arith, some))
some_more (x ∷ xs) k some = grind (arith, nat_tests)

has_units : (units : List ℕ) → nat_lt 0 (length (flat_map quoted_unit units)) ≡ nat_lt 0 (length units)
has_units [] = refl
has_units (u ∷ units) = some_more (quoted_unit u) (flat_map quoted_unit units) (unit_some u) ∙ sym (some_more (u ∷ []) units (omega arith))

is_less : (n m : ℕ) → nat_lt 0 (m - n) ≡ nat_lt n m
is_less n m = grind (arith, nat_tests)

cut_tells : (n : ℕ) (units : List ℕ) → nat_lt 0 (length (flat_map quoted_unit (drop n units))) ≡ nat_lt n (length units)
cut_tells n units = has_units (drop n units) ∙ ap (λ m. nat_lt 0 m) (length-drop n units) ∙ is_less n (length units)

pub is_cut : (n : ℕ) (units rest : List ℕ) (is_empty : Bool) → rest ≡ flat_map quoted_unit (drop n units) → is_empty ≡ (length rest == 0) → not is_empty ≡ nat_lt n (length units)
is_cut n units rest is_empty left is = ap not is ∙ some (length rest) ∙ ap (λ xs. nat_lt 0 (length xs)) left ∙ cut_tells n units
  where
    some : (m : ℕ) → not (m == 0) ≡ nat_lt 0 m
    some zero = refl
    some (suc m) = grind (arith, nat_tests)

pub rest_within : (n : ℕ) (units quoted rest : List ℕ) → quoted ≡ flat_map quoted_unit units → rest ≡ flat_map quoted_unit (drop n units) → length rest ≤ length quoted
rest_within n units quoted rest all left =
    let a = flat_map quoted_unit (take n units) in
    let b = flat_map quoted_unit (drop n units) in
    let whole : quoted ≡ a ++ b = all ∙ ap (flat_map quoted_unit) (sym (take-append-drop n units)) ∙ flat_map-append quoted_unit (take n units) (drop n units) in
    omega (arith, ap length whole, length-append a b, ap length left)

-- ---- they were said

pub says_cut : (a b : Outgoing) (d e : SinkState) (is_cut : Bool) → is_cut ≡ true → Says a b d e (λ k. codes ".." ++ k) → Says a b d e (λ k. cut_words is_cut k)
says_cut a b d e is_cut is says = subst (λ x. Says a b d e (λ k. cut_words x k)) (sym is) says

pub says_whole : (a b : Outgoing) (d e : SinkState) (is_cut : Bool) → is_cut ≡ false → Says a b d e (λ k. [] ++ k) → Says a b d e (λ k. cut_words is_cut k)
says_whole a b d e is_cut is says = subst (λ x. Says a b d e (λ k. cut_words x k)) (sym is) says

pub says_units : (a b c : Outgoing) (d e f : SinkState) (units first : List ℕ) → first ≡ take 200 units → Says a b d e (λ k. quoted first k)
    → Says b c e f (λ k. cut_words (nat_lt 200 (length units)) k) → Says a c d f (λ k. short_name units k)
says_units a b c d e f units first front says cut =
    says_both a b c d e f (λ k. quoted (take 200 units) k) (λ k. cut_words (nat_lt 200 (length units)) k) (subst (λ t. Says a b d e (λ k. quoted t k)) front says) cut

pub says_shown : (a b : Outgoing) (d e : SinkState) (units first : List ℕ) (is_cut : Bool) → first ≡ flat_map quoted_unit (take 200 units) → is_cut ≡ nat_lt 200 (length units)
    → Says a b d e (λ k. 0x22 ∷ (first ++ (0x22 ∷ cut_words is_cut k))) → Says a b d e (λ k. short_name units k)
says_shown a b d e units first is_cut front cut says =
    subst (λ x. Says a b d e (λ k. quoted (take 200 units) (cut_words x k))) cut
    (subst (λ t. Says a b d e (λ k. 0x22 ∷ (t ++ (0x22 ∷ cut_words is_cut k)))) front says)
