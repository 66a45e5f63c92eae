-- How long what is said is at most.
use Rattle.std.proofs.Common.{ℕ, zero, suc, ◌+◌, ◌-◌, ◌*◌, ◌/◌, ◌%◌, ◌≤◌, ◌==◌, min, nat_lt, Bool, true, false, List, [], ◌∷◌, ◌++◌, length, take, drop, codes, decimal, Option, Some, None, arith, length-append, length-drop}
use Rattle.std.proofs.lemmas.List.{length-take}
use Rattle.std.specs.Fmt.{digit_glyph, digits, digits_onto}
use Rattle.std.specs.List.{flat_map}
use Rattle.hex.specs.Hex.{encode_lower, lower_digits}
use Rattle.hex.proofs.HexLemmas.{length-encode_with}
use Rattle.jser_shown.specs.Words.{quoted_unit}
use Rattle.jser_printer.specs.Names.{view_name}
use Rattle.jser_printer.specs.declared.opened.Open.{Open}
use Rattle.jser_printer.specs.declared.opened.Open.TheVariants as part
use Rattle.jser_explain.specs.declared.token.Spot.{Spot}
use Rattle.jser_explain.specs.Short.{cut_words, short_name}
use Rattle.jser_explain.specs.Heads.{class_line, token_line, first_bytes, hex_end, head_words}
use Rattle.jser_explain.specs.Opened.{class_words, inner_words, left_out_words, name_words, open_words, opened_words, places_words, writer_words}
use Rattle.jser_explain.specs.Rest.{More, rest_words, without_piece}
use Rattle.jser_explain.proofs.ShortLemmas.{of_if, unit_short}

-- ---- a name

units_short : (units : List ℕ) → length (flat_map quoted_unit units) ≤ 6 * length units
units_short [] = omega arith
units_short (u ∷ units) = omega (arith, length-append (quoted_unit u) (flat_map quoted_unit units), unit_short u, units_short units)

cut_short : (is_cut : Bool) (k : List ℕ) → length (cut_words is_cut k) ≤ 2 + length k
cut_short false k = omega arith
cut_short true k = omega arith

pub name_short : (units k : List ℕ) → length (short_name units k) ≤ 1204 + length k
name_short units k =
    let first = take 200 units in
    let rest = cut_words (nat_lt 200 (length units)) k in
    omega (arith, length-append (flat_map quoted_unit first) (0x22 ∷ rest), units_short first, length-take 200 units, cut_short (nat_lt 200 (length units)) k)

some_name_short : (name : Option (List ℕ)) (k : List ℕ) → length (name_words name k) ≤ 1204 + length k
some_name_short None k = omega (arith, length-append (codes "a proxy class") k)
some_name_short (Some name) k = name_short name k

class_short : (words : List ℕ) (class : Option (List ℕ)) (k : List ℕ) → length (class_words words class k) ≤ length words + 1205 + length k
class_short words class k =
    omega (arith, length-append words (name_words class (codes "\n" ++ k)), some_name_short class (codes "\n" ++ k), length-append (codes "\n") k)

digits_short : (k base : ℕ) (upper : Bool) (n : ℕ) (last : List ℕ) → length (digits_onto k base upper n last) ≤ k + length last
digits_short zero base upper n last = omega arith
digits_short (suc k) base upper n last =
    of_if (λ t. length t ≤ suc k + length last) (n / base == 0) _ _ (λ _. omega arith)
    (λ _. omega (arith, digits_short k base upper (n / base) (digit_glyph upper (n % base) ∷ last)))

number_short : (n : ℕ) (k : List ℕ) → length (decimal n ++ k) ≤ 64 + length k
unfolding digits
number_short n k = omega (arith, length-append (decimal n) k, digits_short 64 10 false n [])

-- ---- what is open

open_short : (o : Open) (k : List ℕ) → length (open_words o k) ≤ 2424 + length k
open_short (part.Object class writer) k = omega (arith, class_short (codes "  in object of ") (view_name class) k)
open_short (part.Field name class) k =
    omega (arith, name_short name.now (class_words (codes " of ") (view_name class) k), class_short (codes " of ") (view_name class) k)
open_short (part.Element index) k =
    omega (arith, number_short index (codes "\n" ++ k), length-append (codes "\n") k)
open_short (part.Annotation class) k = omega (arith, class_short (codes "  in annotation of ") (view_name class) k)
open_short (part.Descriptor class) k = omega (arith, class_short (codes "  in descriptor ") (view_name class) k)

opened_short : (opened : List Open) (k : List ℕ) → length (opened_words opened k) ≤ 2424 * length opened + length k
opened_short [] k = omega arith
opened_short (o ∷ opened) k = omega (arith, open_short o (opened_words opened k), opened_short opened k)

left_out_short : (n : ℕ) (k : List ℕ) → length (left_out_words n k) ≤ 75 + length k
left_out_short zero k = omega arith
left_out_short (suc n) k = omega (arith, number_short (suc n) (codes " more\n" ++ k), length-append (codes " more\n") k)

inner_short : (others : List Open) (k : List ℕ) → length (inner_words others k) ≤ 48555 + length k
inner_short others k =
    let n = length others - 20 in
    let inner = drop n others in
    omega (arith, left_out_short n (opened_words inner k), opened_short inner k, length-drop n others)

places_short : (opened : List Open) (k : List ℕ) → length (places_words opened k) ≤ 97035 + length k
places_short opened k =
    let others = drop 20 opened in
    omega (arith, opened_short (take 20 opened) (inner_words others k), length-take 20 opened, inner_short others k)

-- ---- the rest

writer_short : (writer : Option (List ℕ)) (k : List ℕ) → length (writer_words writer k) ≤ 1330 + length k
writer_short None k = omega arith
writer_short (Some name) k =
    let words = codes " has a writeObject of its own: if it does not write its fields first, this stream cannot be read without that class\n" in
    omega (arith, name_short name (words ++ k), length-append words k)

class_line_short : (class : Option (List ℕ)) (k : List ℕ) → length (class_line class k) ≤ 1213 + length k
class_line_short None k = omega arith
class_line_short (Some units) k = omega (arith, name_short units (codes "\n" ++ k), length-append (codes "\n") k)

rest_short : (more : More) (k : List ℕ) → length more.hint ≤ 64 → length (rest_words (without_piece more) k) ≤ 99642 + length k
rest_short more k hint =
    let end = more.hint ++ k in
    omega (
      arith,
      class_line_short more.class (places_words more.opened (writer_words more.writer end)),
      places_short more.opened (writer_words more.writer end),
      writer_short more.writer end,
      length-append more.hint k,
      hint,
    )

-- ---- the head

hex_end_short : (bytes k : List ℕ) → length (hex_end bytes k) ≤ 3 + 2 * length bytes + length k
hex_end_short [] k = omega (arith, length-append (codes ":\n") k)
hex_end_short (b ∷ bytes) k =
    omega (arith, length-append (encode_lower (b ∷ bytes)) (codes "\n" ++ k), length-encode_with lower_digits (b ∷ bytes), length-append (codes "\n") k)

token_short : (spot : Spot) (bytes k : List ℕ) → length (token_line spot (first_bytes bytes spot) k) ≤ 207 + length k
token_short spot bytes k =
    let shown = first_bytes bytes spot in
    omega (
      arith,
      number_short spot.from (codes " to " ++ (decimal spot.to ++ hex_end shown k)),
      number_short spot.to (hex_end shown k),
      hex_end_short shown k,
      length-take (min 32 (spot.to - spot.from)) (drop spot.from bytes),
    )

pub all_short : (sentence bytes : List ℕ) (spot : Spot) (class : Option (List ℕ)) (more : More) → length sentence ≤ 160 → length more.hint ≤ 64
    → length (head_words sentence bytes spot class (rest_words (without_piece more) [])) ≤ 102400
all_short sentence bytes spot class more words hint =
    let rest = rest_words (without_piece more) [] in
    let tail = class_line class rest in
    let line = token_line spot (first_bytes bytes spot) tail in
    omega (
      arith,
      length-append sentence (codes "\n" ++ line),
      length-append (codes "\n") line,
      words,
      token_short spot bytes tail,
      class_line_short class rest,
      rest_short more [] hint,
    )
