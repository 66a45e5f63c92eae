-- Numbers, texts and the other parts without values are found again in their bytes.
use Rattle.std.proofs.Common.{rules, if◌then◌else◌, ◌≡◌, ℕ, suc, ◌+◌, ◌-◌, ◌<◌, ◌^◌, Bool, true, false, ◌||◌, List, [], ◌∷◌, ◌++◌, length, Option, Some, None, refl, sym, ◌∙◌, ap, arith, append_assoc, length-append, le-leb, nat_lt}
use Rattle.std.specs.Prelude.{nat_le}
use Rattle.std.proofs.lemmas.List.{take_at, drop_at}
use Rattle.jser_prim.specs.Bytes.{big_bytes}
use Rattle.jser_prim.specs.ModifiedUtf8.{modified_utf8, IsUnits}
use Rattle.jser_table.specs.Codes.{PrimCode, byte_code, char_code, double_code, float_code, int_code, long_code, short_code, boolean_code, size_of, letter_of, prim_code_of, is_object_code}
use Rattle.jser_grammar.specs.Trees.{TextPlaceTree, new_text, back_text, FieldTree, PrimTree}
use Rattle.jser_grammar.specs.Spelling.{utf, long_utf, string_spelling, text_place_spelling, type_spelling, fields_spelling, interfaces_spelling, prim_spelling, prims_spelling}
use Rattle.jser_grammar.specs.TableAfter.{Entries, after_type}
use Rattle.jser_grammar.specs.Parts.{IsText, IsHandle, IsPrimOf, ArePrimsOf, ArePrims, AreClassNames, WellFormedText, WellFormedType, WellFormedFields}
use Rattle.jser_reading.specs.TokensFromBytes.{number_of}
use Rattle.jser_reading.proofs.Decoding.{number_1, number_2, number_4, number_8, length-big_bytes, units_back}
use Rattle.jser_reading.proofs.TreeToMachine.{not_object}
use Rattle.jser_trees.specs.Building.{◌>>=◌, front_in, number_in, is_same, units_from, sized_front_in, sized_text_in, text_in, back_in, new_text_in, text_place_in, byte_in, type_in, many_in, field_in, fields_in, interfaces_in, prim_in, prim_at, prims_in}

pub front_found : (n : ℕ) (xs rest : List ℕ) → length xs ≡ n → front_in n (xs ++ rest) ≡ Some (xs, rest)
unfolding front_in
front_found n xs rest e =
    let fits : nat_le n (length (xs ++ rest)) ≡ true = le-leb n (length (xs ++ rest)) (omega (arith, length-append xs rest, e)) in
    rw (fits, take_at xs rest n e, drop_at xs rest n e) refl

pub number_found : (k n : ℕ) (rest : List ℕ) → number_of (big_bytes k n) ≡ n → number_in k (big_bytes k n ++ rest) ≡ Some (n, rest)
unfolding number_in
number_found k n rest h = rw (front_found k (big_bytes k n) rest (length-big_bytes k n), h) refl

same_found : (xs : List ℕ) → is_same xs xs ≡ true
same_found [] = refl
same_found (x ∷ xs) = rw (same_found xs) (search rules)

pub units_found : (units : List ℕ) → IsUnits units → units_from (modified_utf8 units) ≡ Some units
unfolding units_from
units_found units h = rw (units_back units (length (modified_utf8 units)) h (omega arith), h, same_found (modified_utf8 units)) refl

pub sized_front_found : (k : ℕ) (xs rest : List ℕ) → number_of (big_bytes k (length xs)) ≡ length xs
    → sized_front_in k (big_bytes k (length xs) ++ (xs ++ rest)) ≡ Some (xs, rest)
unfolding sized_front_in
sized_front_found k xs rest h = rw (number_found k (length xs) (xs ++ rest) h, front_found (length xs) xs rest refl) refl

sized_text_found : (k : ℕ) (units rest : List ℕ) → number_of (big_bytes k (length (modified_utf8 units))) ≡ length (modified_utf8 units) → IsUnits units
    → sized_text_in k ((big_bytes k (length (modified_utf8 units)) ++ modified_utf8 units) ++ rest) ≡ Some (units, rest)
unfolding sized_text_in
sized_text_found k units rest h u =
    rw (append_assoc (big_bytes k (length (modified_utf8 units))) (modified_utf8 units) rest, sized_front_found k (modified_utf8 units) rest h, units_found units u) refl

pub utf_found : (units rest : List ℕ) → IsText false units → text_in false (utf units ++ rest) ≡ Some (units, rest)
utf_found units rest h = sized_text_found 2 units rest (number_2 (length (modified_utf8 units)) h.1) h.0

pub long_utf_found : (units rest : List ℕ) → IsText true units → text_in true (long_utf units ++ rest) ≡ Some (units, rest)
long_utf_found units rest h =
    let few = h.1 in
    sized_text_found 8 units rest (number_8 (length (modified_utf8 units)) (omega arith)) h.0

pub back_found : (n : ℕ) (rest : List ℕ) → IsHandle n → back_in (big_bytes 4 (0x7E0000 + n) ++ rest) ≡ Some (n, rest)
unfolding back_in
back_found n rest h =
    let fits : nat_le 0x7E0000 (0x7E0000 + n) ≡ true = le-leb 0x7E0000 (0x7E0000 + n) (omega arith) in
    let less : 0x7E0000 + n - 0x7E0000 ≡ n = omega arith in
    ap (λ x. x >>= λ handle. if nat_le 0x7E0000 handle.0 then Some (handle.0 - 0x7E0000, handle.1) else None)
    (number_found 4 (0x7E0000 + n) rest (number_4 (0x7E0000 + n) h)) ∙ rw (fits, less) refl

number_prim : (c : PrimCode) (n : ℕ) → n < 256 ^ size_of c → number_of (big_bytes (size_of c) n) ≡ n
number_prim byte_code n h = number_1 n h
number_prim char_code n h = number_2 n h
number_prim double_code n h = number_8 n h
number_prim float_code n h = number_4 n h
number_prim int_code n h = number_4 n h
number_prim long_code n h = number_8 n h
number_prim short_code n h = number_2 n h
number_prim boolean_code n h = number_1 n h

pub prim_found : (c : PrimCode) (p : PrimTree) (rest : List ℕ) → IsPrimOf c p → prim_in c (prim_spelling p ++ rest) ≡ Some (p, rest)
unfolding prim_in
prim_found c p rest h =
    let ec : p.code ≡ c = h.0 in
    ap (λ k. prim_in c (big_bytes (size_of k) p.bits ++ rest)) ec
    ∙ rw (number_found (size_of c) p.bits rest (number_prim c p.bits h.1)) (ap (λ k. Some (record { code = k; bits = p.bits }, rest)) (sym ec))

new_text_found : (long : Bool) (units rest : List ℕ) → IsText long units
    → text_place_in (string_spelling long units ++ rest) ≡ Some (new_text (record { long = long; units = units }), rest)
unfolding text_place_in new_text_in
new_text_found false units rest h =
    ap (λ x. x >>= λ t. Some (new_text (record { long = false; units = t.0 }), t.1)) (utf_found units rest h)
new_text_found true units rest h =
    ap (λ x. x >>= λ t. Some (new_text (record { long = true; units = t.0 }), t.1)) (long_utf_found units rest h)

pub text_place_found : (t : TextPlaceTree) (T : Entries) (rest : List ℕ) → WellFormedText T t
    → text_place_in (text_place_spelling t ++ rest) ≡ Some (t, rest)
unfolding text_place_in
text_place_found (new_text t) T rest h = new_text_found t.long t.units rest h
text_place_found (back_text n) T rest h = ap (λ x. x >>= λ number. Some (back_text number.0, number.1)) (back_found n rest h.1)

type_found : (t : Option TextPlaceTree) (T : Entries) (seen : Bool) (code : ℕ) (rest : List ℕ) → WellFormedType T seen code t
    → type_in code (type_spelling t ++ rest) ≡ Some (t, rest)
unfolding type_in
type_found None T seen code rest h = rw (not_object code h.0) refl
type_found (Some t) T seen code rest h = rw (h.0, text_place_found t T rest h.1) refl

field_found : (f : FieldTree) (T : Entries) (seen : Bool) (rest : List ℕ) → IsText false f.name → WellFormedType T seen f.code f.text
    → field_in (f.code ∷ (utf f.name ++ (type_spelling f.text ++ rest))) ≡ Some (f, rest)
unfolding field_in byte_in
field_found f T seen rest n t =
    rw (utf_found f.name (type_spelling f.text ++ rest) n, type_found f.text T seen f.code rest t) refl

many_fields_found : (fs : List FieldTree) (T : Entries) (seen : Bool) (rest : List ℕ) → WellFormedFields T seen fs
    → many_in field_in (length fs) (fields_spelling fs ++ rest) ≡ Some (fs, rest)
unfolding many_in
many_fields_found [] T seen rest h = refl
many_fields_found (f ∷ fs) T seen rest h =
    rw (
      append_assoc (utf f.name) (type_spelling f.text ++ fields_spelling fs) rest,
      append_assoc (type_spelling f.text) (fields_spelling fs) rest,
      field_found f T seen (fields_spelling fs ++ rest) h.0 h.1,
      many_fields_found fs (after_type T f.text) (seen || is_object_code f.code) rest h.2,
    ) refl

pub fields_found : (fs : List FieldTree) (T : Entries) (seen : Bool) (rest : List ℕ) → length fs < 2 ^ 15 → WellFormedFields T seen fs
    → fields_in (big_bytes 2 (length fs) ++ (fields_spelling fs ++ rest)) ≡ Some (fs, rest)
unfolding fields_in
fields_found fs T seen rest few h =
    let fits : nat_lt (length fs) 0x8000 ≡ true = le-leb (suc (length fs)) 0x8000 (omega (arith, few)) in
    ap (λ x. x >>= λ count. if nat_lt count.0 0x8000 then many_in field_in count.0 count.1 else None)
    (number_found 2 (length fs) (fields_spelling fs ++ rest) (number_2 (length fs) (omega (arith, few))))
    ∙ rw (fits, many_fields_found fs T seen rest h) refl

many_names_found : (names : List (List ℕ)) (rest : List ℕ) → AreClassNames names
    → many_in (text_in false) (length names) (interfaces_spelling names ++ rest) ≡ Some (names, rest)
unfolding many_in
many_names_found [] rest h = refl
many_names_found (name ∷ names) rest h =
    rw (
      append_assoc (utf name) (interfaces_spelling names) rest,
      utf_found name (interfaces_spelling names ++ rest) h.0.0,
      many_names_found names rest h.1,
    ) refl

pub interfaces_found : (names : List (List ℕ)) (rest : List ℕ) → length names < 2 ^ 31 → AreClassNames names
    → interfaces_in (big_bytes 4 (length names) ++ (interfaces_spelling names ++ rest)) ≡ Some (names, rest)
unfolding interfaces_in
interfaces_found names rest few h =
    ap (λ x. x >>= λ count. many_in (text_in false) count.0 count.1)
    (number_found 4 (length names) (interfaces_spelling names ++ rest) (number_4 (length names) (omega (arith, few))))
    ∙ many_names_found names rest h

pub letter_back : (c : PrimCode) → prim_code_of (letter_of c) ≡ Some c
letter_back byte_code = refl
letter_back char_code = refl
letter_back double_code = refl
letter_back float_code = refl
letter_back int_code = refl
letter_back long_code = refl
letter_back short_code = refl
letter_back boolean_code = refl

pub raw_found : (c : PrimCode) (ps : List PrimTree) (rest : List ℕ) → ArePrimsOf c ps → many_in (prim_at (Some c)) (length ps) (prims_spelling ps ++ rest) ≡ Some (ps, rest)
unfolding many_in
raw_found c [] rest h = refl
raw_found c (p ∷ ps) rest h =
    rw (append_assoc (prim_spelling p) (prims_spelling ps) rest, prim_found c p (prims_spelling ps ++ rest) h.0, raw_found c ps rest h.1) refl

pub prims_found : (codes : List PrimCode) (ps : List PrimTree) (rest : List ℕ) → ArePrims codes ps → prims_in codes (prims_spelling ps ++ rest) ≡ Some (ps, rest)
unfolding prims_in
prims_found [] [] rest h = refl
prims_found [] (p ∷ ps) rest h = absurd h
prims_found (c ∷ codes) [] rest h = absurd h
prims_found (c ∷ codes) (p ∷ ps) rest h =
    rw (append_assoc (prim_spelling p) (prims_spelling ps) rest, prim_found c p (prims_spelling ps ++ rest) h.0, prims_found codes ps rest h.1) refl
