-- The lines of raw values by their bytes alone are those by the values.
use Rattle.std.proofs.Common.{◌≡◌, ℕ, suc, ◌*◌, ◌/◌, ◌^◌, ◌<◌, Bool, sym, subst, Option, Some, List, [], ◌∷◌, ◌++◌, length, drop, refl, ap, ◌∙◌, arith, append-nil}
use Rattle.std.proofs.Math.Nat.{mul-div_cancel_left}
use Rattle.std.proofs.lemmas.List.{take_at, drop_at}
use Rattle.hex.specs.Hex.{encode_lower}
use Rattle.jser_prim.specs.Bytes.{big_bytes}
use Rattle.jser_prim.proofs.NumberLemmas.{length-big_bytes}
use Rattle.jser_grammar.specs.Codes.{PrimCode, byte_code, char_code, double_code, float_code, int_code, long_code, short_code, boolean_code, size_of}
use Rattle.jser_grammar.specs.Trees.{PrimTree}
use Rattle.jser_grammar.specs.Parts.{IsPrimOf, ArePrimsOf}
use Rattle.jser_grammar.specs.Spelling.{prim_spelling, prims_spelling}
use Rattle.jser_reading.proofs.Decoding.{number_1, number_2, number_4, number_8, length-prims_spelling}
use Rattle.jser_shown.specs.Words.{Epoch, end_line, begin_line}
use Rattle.jser_shown.specs.Values.{value_word, bytes_word}
use Rattle.jser_shown.specs.Shown.{ValueName, element_at, name_text, raw_text, raw_elements_text}
use Rattle.jser_shown.specs.Telling.{raw_line, raw_lines, raw_elements_lines}

-- what the bytes of a value mean

word_of_number : (values : Bool) (c : PrimCode) (n : ℕ) (k : List ℕ) → n < 256 ^ size_of c
    → bytes_word values (Some c) (big_bytes (size_of c) n) k ≡ value_word values c n k
word_of_number values byte_code n k h = ap (λ x. value_word values byte_code x k) (number_1 n h)
word_of_number values char_code n k h = ap (λ x. value_word values char_code x k) (number_2 n h)
word_of_number values double_code n k h = ap (λ x. value_word values double_code x k) (number_8 n h)
word_of_number values float_code n k h = ap (λ x. value_word values float_code x k) (number_4 n h)
word_of_number values int_code n k h = ap (λ x. value_word values int_code x k) (number_4 n h)
word_of_number values long_code n k h = ap (λ x. value_word values long_code x k) (number_8 n h)
word_of_number values short_code n k h = ap (λ x. value_word values short_code x k) (number_2 n h)
word_of_number values boolean_code n k h = ap (λ x. value_word values boolean_code x k) (number_1 n h)

word_of_value : (values : Bool) (o : Option PrimCode) (c : PrimCode) (p : PrimTree) (k : List ℕ) → o ≡ Some c → IsPrimOf c p
    → bytes_word values o (prim_spelling p) k ≡ value_word values p.code p.bits k
word_of_value values o c p k is h =
    ap (λ x. bytes_word values x (prim_spelling p) k) (is ∙ ap (λ x. Some x) (sym h.0))
    ∙ word_of_number values p.code p.bits k (subst (λ x. p.bits < 256 ^ size_of x) (sym h.0) h.1)

-- one value
pub line_of_one : (e : Epoch) (o : Option PrimCode) (c : PrimCode) (L : ℕ) (name : ValueName) (p : PrimTree) (k : List ℕ) → o ≡ Some c → IsPrimOf c p
    → raw_line e.values o L name (prims_spelling (p ∷ [])) k ≡ raw_text e L name p k
line_of_one e o c L name p k is h =
    ap (λ bytes. raw_line e.values o L name bytes k) (append-nil (prim_spelling p))
    ∙ ap (λ x. begin_line L (name_text name (encode_lower (prim_spelling p) ++ x))) (word_of_value e.values o c p (end_line k) is h)

lines_of_all : (e : Epoch) (c : PrimCode) (ps : List PrimTree) (L i : ℕ) (k : List ℕ) → ArePrimsOf c ps
    → raw_lines e.values (Some c) L i (size_of c) (length ps) (prims_spelling ps) k ≡ raw_elements_text e L i ps k
lines_of_all e c [] L i k h = refl
lines_of_all e c (p ∷ ps) L i k h =
    let long : length (prim_spelling p) ≡ size_of c = length-big_bytes (size_of p.code) p.bits ∙ ap size_of h.0.0 in
    ap (λ bytes. raw_line e.values (Some c) L (element_at i) bytes (raw_lines e.values (Some c) L (suc i) (size_of c) (length ps) (drop (size_of c) (prim_spelling p ++ prims_spelling ps)) k))
    (take_at (prim_spelling p) (prims_spelling ps) (size_of c) long)
    ∙ ap (λ bytes. raw_line e.values (Some c) L (element_at i) (prim_spelling p) (raw_lines e.values (Some c) L (suc i) (size_of c) (length ps) bytes k))
    (drop_at (prim_spelling p) (prims_spelling ps) (size_of c) long)
    ∙ ap (raw_line e.values (Some c) L (element_at i) (prim_spelling p)) (lines_of_all e c ps L (suc i) k h.1)
    ∙ ap (λ x. begin_line L (name_text (element_at i) (encode_lower (prim_spelling p) ++ x))) (word_of_value e.values (Some c) c p (end_line (raw_elements_text e L (suc i) ps k)) refl h.0)

size_of_each : (n size : ℕ) → (suc n * size) / suc n ≡ size
size_of_each n size = mul-div_cancel_left size {n = suc n} (omega arith)

-- the values of a primitive array, if there is one
pub lines_of_elements : (e : Epoch) (c : PrimCode) (p : PrimTree) (ps : List PrimTree) (L i : ℕ) (k : List ℕ) → ArePrimsOf c (p ∷ ps)
    → raw_elements_lines e.values (Some c) L i (length (p ∷ ps)) (prims_spelling (p ∷ ps)) k ≡ raw_elements_text e L i (p ∷ ps) k
lines_of_elements e c p ps L i k h =
    let size : length (prims_spelling (p ∷ ps)) / length (p ∷ ps) ≡ size_of c =
    ap (λ n. n / length (p ∷ ps)) (length-prims_spelling c (p ∷ ps) h) ∙ size_of_each (length ps) (size_of c)
    in
    ap (λ n. raw_lines e.values (Some c) L i n (length (p ∷ ps)) (prims_spelling (p ∷ ps)) k) size ∙ lines_of_all e c (p ∷ ps) L i k h
