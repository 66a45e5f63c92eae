-- Tokens out of their bytes: numbers, the units of modified UTF-8, tags and raw values are found again.
use Rattle.std.proofs.Common.{◌≡◌, ℕ, zero, suc, ◌+◌, ◌-◌, ◌*◌, ◌/◌, ◌%◌, ◌^◌, ◌<◌, ◌≤◌, Bool, true, false, ◌&&◌, List, [], ◌∷◌, ◌++◌, length, refl, sym, ◌∙◌, ap, ap₂, arith, rules, Some, nat_lt}
use Rattle.jser_reading.proofs.Vocabulary.{big_bytes, modified_utf8, IsUnits, PrimCode, byte_code, char_code, double_code, float_code, int_code, long_code, short_code, boolean_code, size_of, PrimTree, ArePrimsOf, Tag, null_tag, reference_tag, class_desc_tag, object_tag, string_tag, array_tag, class_tag, long_string_tag, proxy_desc_tag, enum_tag, tag_token, block_tag_token, end_tag_token, reset_tag_token}
use Rattle.std.proofs.Common.{take, drop, length-append, leb-true, le-leb}
use Rattle.std.specs.Prelude.{nat_le}
use Rattle.std.specs.List.{list_all}
use Rattle.std.proofs.lemmas.List.{take_at, drop_at}
use Rattle.jser_prim.specs.ModifiedUtf8.{unit_spelling}
use Rattle.jser_grammar.specs.Spelling.{prim_spelling, prims_spelling}
use Rattle.jser_reading.specs.TokenBytes.{tag_byte, bytes_of}
use Rattle.jser_grammar.proofs.Bools.{and_left, and_right}
use Rattle.jser_reading.specs.TokensFromBytes.{number_of, first, units_in, tag_from, prims_in}

pub number_1 : (n : ℕ) → n < 2 ^ 8 → number_of (big_bytes 1 n) ≡ n
number_1 n h = omega arith

pub number_2 : (n : ℕ) → n < 2 ^ 16 → number_of (big_bytes 2 n) ≡ n
number_2 n h = omega arith

pub number_4 : (n : ℕ) → n < 2 ^ 32 → number_of (big_bytes 4 n) ≡ n
number_4 n h = omega arith

pub number_8 : (n : ℕ) → n < 2 ^ 64 → number_of (big_bytes 8 n) ≡ n
number_8 n h = omega arith

pub length-big_bytes : (k n : ℕ) → length (big_bytes k n) ≡ k
length-big_bytes zero n = refl
length-big_bytes (suc k) n = ap (λ j. suc j) (length-big_bytes k n)

pub not_lt : (a b : ℕ) → b ≤ a → nat_lt a b ≡ false
not_lt a b h = search rules

unit_back : (u k : ℕ) (rest : List ℕ) → u < 65536 → units_in (suc k) (unit_spelling u ++ rest) ≡ u ∷ units_in k rest
unfolding units_in unit_spelling
unit_back u k rest h = go (nat_le 1 u) (nat_lt u 128) (nat_lt u 2048) refl refl refl
  where
    two : nat_lt u 2048 ≡ true → (nat_le 1 u && nat_lt u 128) ≡ false
        → units_in (suc k) (unit_spelling u ++ rest) ≡ u ∷ units_in k rest
    two ez e =
        let lo : u < 2048 = leb-true (suc u) 2048 ez in
        let e1 : nat_lt (192 + u / 64) 128 ≡ false = not_lt (192 + u / 64) 128 (omega arith) in
        let e2 : nat_lt (192 + u / 64) 224 ≡ true = le-leb (suc (192 + u / 64)) 224 (omega arith) in
        let e3 : (192 + u / 64 - 192) * 64 + (128 + u % 64 - 128) ≡ u = omega arith in
        rw (e, ez, e1, e2, e3) refl

    three : nat_lt u 2048 ≡ false → (nat_le 1 u && nat_lt u 128) ≡ false
        → units_in (suc k) (unit_spelling u ++ rest) ≡ u ∷ units_in k rest
    three ez e =
        let e1 : nat_lt (224 + u / 4096) 128 ≡ false = not_lt (224 + u / 4096) 128 (omega arith) in
        let e2 : nat_lt (224 + u / 4096) 224 ≡ false = not_lt (224 + u / 4096) 224 (omega arith) in
        let e3 : (224 + u / 4096 - 224) * 4096 + (128 + u / 64 % 64 - 128) * 64 + (128 + u % 64 - 128) ≡ u = omega arith in
        rw (e, ez, e1, e2, e3) refl

    go : (x y z : Bool) → nat_le 1 u ≡ x → nat_lt u 128 ≡ y → nat_lt u 2048 ≡ z
        → units_in (suc k) (unit_spelling u ++ rest) ≡ u ∷ units_in k rest
    go true true z ex ey ez = rw (ex, ey) (rw ey refl)
    go true false true ex ey ez = two ez (rw (ex, ey) refl)
    go true false false ex ey ez = three ez (rw (ex, ey) refl)
    go false y true ex ey ez = two ez (rw ex refl)
    go false y false ex ey ez = three ez (rw ex refl)

some_unit : (u : ℕ) → 0 < length (unit_spelling u)
unfolding unit_spelling
some_unit u = go (nat_le 1 u && nat_lt u 128) (nat_lt u 2048) refl refl
  where
    go : (x y : Bool) → (nat_le 1 u && nat_lt u 128) ≡ x → nat_lt u 2048 ≡ y → 0 < length (unit_spelling u)
    go true y ex ey = rw ex (omega arith)
    go false true ex ey = rw (ex, ey) (omega arith)
    go false false ex ey = rw (ex, ey) (omega arith)

pub units_back : (us : List ℕ) (k : ℕ) → IsUnits us → length (modified_utf8 us) ≤ k → units_in k (modified_utf8 us) ≡ us
unfolding units_in
units_back [] zero h l = refl
units_back [] (suc k) h l = refl
units_back (u ∷ us) zero h l = absurd (omega (arith, length-append (unit_spelling u) (modified_utf8 us), some_unit u))
units_back (u ∷ us) (suc k) h l =
    let a : u < 65536 = leb-true (suc u) 65536 (and_left (nat_lt u 65536) (list_all (λ unit. nat_lt unit 0x10000) us) h) in
    unit_back u k (modified_utf8 us) a
    ∙ ap (λ z. u ∷ z) (units_back us k (and_right (nat_lt u 65536) (list_all (λ unit. nat_lt unit 0x10000) us) h)
    (omega (arith, length-append (unit_spelling u) (modified_utf8 us), some_unit u)))

-- tags

pub tag_back : (tag : Tag) → tag_from (tag_byte tag) ≡ Some (tag_token tag)
unfolding tag_from
tag_back null_tag = refl
tag_back reference_tag = refl
tag_back class_desc_tag = refl
tag_back object_tag = refl
tag_back string_tag = refl
tag_back array_tag = refl
tag_back class_tag = refl
tag_back long_string_tag = refl
tag_back proxy_desc_tag = refl
tag_back enum_tag = refl

pub block_tag_back : (long : Bool) → tag_from (first (bytes_of (block_tag_token long))) ≡ Some (block_tag_token long)
unfolding tag_from
block_tag_back true = refl
block_tag_back false = refl

pub end_tag_back : tag_from 0x78 ≡ Some end_tag_token
unfolding tag_from
end_tag_back = refl

pub reset_tag_back : tag_from 0x79 ≡ Some reset_tag_token
unfolding tag_from
reset_tag_back = refl

-- raw values of one type

number_prim : (c : PrimCode) (n : ℕ) → n < 256 ^ size_of c → number_of (big_bytes (size_of c) n) ≡ n
number_prim byte_code n h = number_1 n h
number_prim char_code n h = number_2 n h
number_prim double_code n h = number_8 n h
number_prim float_code n h = number_4 n h
number_prim int_code n h = number_4 n h
number_prim long_code n h = number_8 n h
number_prim short_code n h = number_2 n h
number_prim boolean_code n h = number_1 n h

pub prims_back : (c : PrimCode) (ps : List PrimTree) → ArePrimsOf c ps → prims_in c (length ps) (prims_spelling ps) ≡ ps
unfolding prims_in
prims_back c [] h = refl
prims_back c (p ∷ ps) h =
    let ec : p.code ≡ c = h.0.0 in
    let s : prim_spelling p ≡ big_bytes (size_of c) p.bits = ap (λ k. big_bytes (size_of k) p.bits) ec in
    let t : take (size_of c) (prim_spelling p ++ prims_spelling ps) ≡ big_bytes (size_of c) p.bits =
    ap (λ z. take (size_of c) (z
    ++ prims_spelling ps)) s ∙ take_at (big_bytes (size_of c) p.bits) (prims_spelling ps) (size_of c)
    (length-big_bytes (size_of c) p.bits) in
    let d : drop (size_of c) (prim_spelling p ++ prims_spelling ps) ≡ prims_spelling ps =
    ap (λ z. drop (size_of c) (z
    ++ prims_spelling ps)) s ∙ drop_at (big_bytes (size_of c) p.bits) (prims_spelling ps) (size_of c)
    (length-big_bytes (size_of c) p.bits) in
    let q : number_of (take (size_of c) (prim_spelling p ++ prims_spelling ps)) ≡ p.bits =
    ap number_of t ∙ number_prim c p.bits h.0.1 in
    let r : prims_in c (length ps) (drop (size_of c) (prim_spelling p ++ prims_spelling ps)) ≡ ps =
    ap (prims_in c (length ps)) d ∙ prims_back c ps h.1 in
    ap₂ (λ x y. x ∷ y) (λ i. record { code = sym ec i; bits = q i }) r

pub length-prims_spelling : (c : PrimCode) (ps : List PrimTree) → ArePrimsOf c ps
    → length (prims_spelling ps) ≡ length ps * size_of c
length-prims_spelling c [] h = omega arith
length-prims_spelling c (p ∷ ps) h =
    let l : length (prim_spelling p) ≡ size_of c = length-big_bytes (size_of p.code) p.bits ∙ ap size_of h.0.0 in
    omega (arith, length-append (prim_spelling p) (prims_spelling ps), l, length-prims_spelling c ps h.1)
