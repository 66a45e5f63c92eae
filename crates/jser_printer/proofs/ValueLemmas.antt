-- Raw elements one after another, and the lengths of blocks.
use Rattle.std.proofs.Common.{◌≡◌, ℕ, zero, suc, ◌+◌, ◌-◌, ◌<◌, ◌≤◌, min, true, false, Bool, ◌==◌, if◌then◌else◌, Option, Some, None, List, [], ◌∷◌, ◌++◌, refl, sym, ap, ◌∙◌, append_assoc, take, drop, length, arith}
use Rattle.std.proofs.lemmas.List.{take_min, drop_min}
use Rattle.std.specs.Fmt.{decimal}
use Rattle.std.specs.List.{flat_map}
use Rattle.hex.specs.Hex.{encode_lower}
use Rattle.jser_prim.specs.Outgoing.{Outgoing, SinkState}
use Rattle.jser_prim.proofs.OutgoingLemmas.{puts_none, puts_stopped}
use Rattle.jser_grammar.specs.Codes.{PrimCode, size_of}
use Rattle.jser_reading.specs.TokensFromBytes.{number_of}
use Rattle.jser_shown.specs.Values.{meaning, in_brackets, value_word, bytes_word}
use Rattle.jser_shown.specs.Words.{begin_line, quoted_unit}
use Rattle.jser_shown.specs.Shown.{element_at, field_named, name_text}
use Rattle.jser_shown.specs.Telling.{raw_line, raw_lines, raw_elements_lines, block_length_says, seen_block_length}
use Rattle.jser_printer.specs.Says.{Saying, Says}
use Rattle.jser_printer.proofs.SaysLemmas.{says_none, says_on, says_both, says_three, says_same}

-- no element so far
pub says_no_elements : (v : Bool) (o : Option PrimCode) (a : Outgoing) (d : SinkState) (L first size n : ℕ) (bytes : List ℕ) →
    Saying a a d d (λ k. raw_lines v o L first size n bytes k) (λ k. raw_lines v o L (first + 0) size (n - 0) bytes k)
says_no_elements v o a d L first size n bytes = record {
  bytes = [];
  puts = puts_none a d;
  is = λ k. ap (λ i. raw_lines v o L i size n bytes k) (let e : first ≡ first + 0 = omega arith in e)
      ∙ ap (λ m. raw_lines v o L (first + 0) size m bytes k) (let e : n ≡ n - 0 = omega arith in e);
}

raw-lines-step : (v : Bool) (o : Option PrimCode) (L first size n i index : ℕ) (rest element next k : List ℕ) → i < n → index ≡ first + i
    → element ≡ take (min size (length rest)) rest → next ≡ drop (min size (length rest)) rest
    → raw_lines v o L (first + i) size (n - i) rest k ≡ raw_line v o L (element_at index) element (raw_lines v o L (first + (i + 1)) size (n - (i + 1)) next k)
raw-lines-step v o L first size n i index rest element next k inside at is left =
    ap (λ m. raw_lines v o L (first + i) size m rest k) (let e : n - i ≡ suc (n - (i + 1)) = omega (arith, inside) in e)
    ∙ ap (λ j. raw_line v o L (element_at j) (take size rest) (raw_lines v o L (suc (first + i)) size (n - (i + 1)) (drop size rest) k)) (sym at)
    ∙ ap (λ x. raw_line v o L (element_at index) x (raw_lines v o L (suc (first + i)) size (n - (i + 1)) (drop size rest) k)) (sym (is ∙ take_min size rest))
    ∙ ap (λ j. raw_line v o L (element_at index) element (raw_lines v o L j size (n - (i + 1)) (drop size rest) k)) (let e : suc (first + i) ≡ first + (i + 1) = omega arith in e)
    ∙ ap (λ x. raw_line v o L (element_at index) element (raw_lines v o L (first + (i + 1)) size (n - (i + 1)) x k)) (sym (left ∙ drop_min size rest))

-- an element more
pub says_element : (v : Bool) (o : Option PrimCode) (a b c : Outgoing) (d e f : SinkState) (all : List ℕ → List ℕ) (L first size n i index : ℕ) (rest element next : List ℕ)
    → Saying a b d e all (λ k. raw_lines v o L (first + i) size (n - i) rest k) → Says b c e f (λ k. raw_line v o L (element_at index) element k)
    → i < n → index ≡ first + i → element ≡ take (min size (length rest)) rest → next ≡ drop (min size (length rest)) rest
    → Saying a c d f all (λ k. raw_lines v o L (first + (i + 1)) size (n - (i + 1)) next k)
says_element v o a b c d e f all L first size n i index rest element next h g inside at is left =
    says_on a b c d e f all (λ k. raw_lines v o L (first + i) size (n - i) rest k) (λ k. raw_lines v o L (first + (i + 1)) size (n - (i + 1)) next k) h (record {
      bytes = g.bytes;
      puts = g.puts;
      is = λ k. raw-lines-step v o L first size n i index rest element next k inside at is left
          ∙ g.is (raw_lines v o L (first + (i + 1)) size (n - (i + 1)) next k);
    })

begin-append : (L : ℕ) (s k : List ℕ) → begin_line L (s ++ k) ≡ begin_line L s ++ k
begin-append zero s k = refl
begin-append (suc L) s k = ap (λ x. 0x20 ∷ 0x20 ∷ x) (begin-append L s k)

brackets-append : (m : Option (List ℕ)) (s k : List ℕ) → in_brackets m (s ++ k) ≡ in_brackets m s ++ k
brackets-append None s k = refl
brackets-append (Some text) s k = ap (λ x. 0x20 ∷ 0x28 ∷ x) (sym (append_assoc text (0x29 ∷ s) k))

value-append : (v : Bool) (c : PrimCode) (n : ℕ) (s k : List ℕ) → value_word v c n (s ++ k) ≡ value_word v c n s ++ k
value-append false c n s k = refl
value-append true c n s k = brackets-append (meaning c n) s k

word-append : (v : Bool) (o : Option PrimCode) (bytes s k : List ℕ) → bytes_word v o bytes (s ++ k) ≡ bytes_word v o bytes s ++ k
word-append v None bytes s k = refl
word-append v (Some c) bytes s k = fits (length bytes == size_of c)
  where
    fits : (t : Bool) → (if t then value_word v c (number_of bytes) (s ++ k) else s ++ k) ≡ (if t then value_word v c (number_of bytes) s else s) ++ k
    fits true = value-append v c (number_of bytes) s k
    fits false = refl

raw-line-append : (v : Bool) (o : Option PrimCode) (L i : ℕ) (bytes s k : List ℕ) → raw_line v o L (element_at i) bytes (s ++ k) ≡ raw_line v o L (element_at i) bytes s ++ k
raw-line-append v o L i bytes s k =
    let word = bytes_word v o bytes (0x0A ∷ s) in
    ap (λ x. begin_line L (name_text (element_at i) (encode_lower bytes ++ x))) (word-append v o bytes (0x0A ∷ s) k)
    ∙ ap (λ x. begin_line L (name_text (element_at i) x)) (sym (append_assoc (encode_lower bytes) word k))
    ∙ ap (λ x. begin_line L (0x5B ∷ x)) (sym (append_assoc (decimal i) (0x5D ∷ 0x20 ∷ (encode_lower bytes ++ word)) k))
    ∙ begin-append L (name_text (element_at i) (encode_lower bytes ++ word)) k

raw-lines-front : (v : Bool) (o : Option PrimCode) (L i size n : ℕ) (bytes k : List ℕ) → raw_lines v o L i size n bytes k ≡ raw_lines v o L i size n bytes [] ++ k
raw-lines-front v o L i size zero bytes k = refl
raw-lines-front v o L i size (suc n) bytes k =
    ap (raw_line v o L (element_at i) (take size bytes)) (raw-lines-front v o L (suc i) size n (drop size bytes) k)
    ∙ raw-line-append v o L i (take size bytes) (raw_lines v o L (suc i) size n (drop size bytes) []) k

-- after a failure the elements that are left are said, since nothing more goes out
pub says_no_more : (v : Bool) (o : Option PrimCode) (a b : Outgoing) (d e : SinkState) (all : List ℕ → List ℕ) (L i size n : ℕ) (rest : List ℕ)
    → Saying a b d e all (λ k. raw_lines v o L i size n rest k) → b.failed ≡ true → Says a b d e all
says_no_more v o a b d e all L i size n rest h off =
    says_on a b b d e e all (λ k. raw_lines v o L i size n rest k) (λ k. k) h (record {
      bytes = raw_lines v o L i size n rest [];
      puts = puts_stopped b e (raw_lines v o L i size n rest []) off;
      is = λ k. raw-lines-front v o L i size n rest k;
    })

-- all elements
pub says_all_elements : (v : Bool) (o : Option PrimCode) (a b : Outgoing) (d e : SinkState) (all : List ℕ → List ℕ) (L i size m n : ℕ) (rest : List ℕ)
    → Saying a b d e all (λ k. raw_lines v o L i size (n - m) rest k) → n ≤ m → Says a b d e all
says_all_elements v o a b d e all L i size m n rest h end =
    record {
      bytes = h.bytes;
      puts = h.puts;
      is = λ k. h.is k ∙ ap (λ l. h.bytes ++ raw_lines v o L i size l rest k) (let none : n - m ≡ 0 = omega (arith, end) in none);
    }

pub says_no_bytes : (a b c : Outgoing) (d e f : SinkState) (n : ℕ) → Says a b d e (λ k. decimal n ++ k)
    → Says b c e f (λ k. 0x3A ∷ 0x0A ∷ k) → n ≡ 0 → Says a c d f (λ k. block_length_says (seen_block_length n) k)
says_no_bytes a b c d e f n h g is =
    says_same a c d f (λ k. decimal n ++ (0x3A ∷ 0x0A ∷ k)) (λ k. block_length_says (seen_block_length n) k)
    (λ k. ap (λ m. block_length_says (seen_block_length m) k) is ∙ ap (λ m. decimal m ++ (0x3A ∷ 0x0A ∷ k)) (sym is))
    (says_both a b c d e f (λ k. decimal n ++ k) (λ k. 0x3A ∷ 0x0A ∷ k) h g)

pub says_some_bytes : (a b c : Outgoing) (d e f : SinkState) (n : ℕ) → Says a b d e (λ k. decimal n ++ k)
    → Says b c e f (λ k. 0x3A ∷ 0x20 ∷ k) → 0 < n → Says a c d f (λ k. block_length_says (seen_block_length n) k)
says_some_bytes a b c d e f zero h g is = absurd (let no : 0 < 0 = is in omega (arith, no))
says_some_bytes a b c d e f (suc n) h g is =
    says_both a b c d e f (λ k. decimal (suc n) ++ k) (λ k. 0x3A ∷ 0x20 ∷ k) h g

pub says_no_count : (v : Bool) (o : Option PrimCode) (a : Outgoing) (d : SinkState) (L first n : ℕ) (bytes : List ℕ) → n ≡ 0
    → Says a a d d (λ k. raw_elements_lines v o L first n bytes k)
says_no_count v o a d L first n bytes is =
    says_same a a d d (λ k. k) (λ k. raw_elements_lines v o L first n bytes k) (λ k. ap (λ m. raw_elements_lines v o L first m bytes k) is)
    (says_none a d (λ k. k))

-- the beginning of the line of a field
pub says_field_start : (a b c g : Outgoing) (d e f h : SinkState) (L : ℕ) (units bytes : List ℕ) → bytes ≡ flat_map quoted_unit units → Says a b d e (λ k. begin_line (suc L) (0x22 ∷ k))
    → Says b c e f (λ k. bytes ++ k) → Says c g f h (λ k. 0x22 ∷ 0x20 ∷ 0x3D ∷ 0x20 ∷ k) → Says a g d h (λ k. begin_line (suc L) (name_text (field_named units) k))
says_field_start a b c g d e f h L units bytes is x y z =
    says_same a g d h (λ k. begin_line (suc L) (0x22 ∷ (bytes ++ (0x22 ∷ 0x20 ∷ 0x3D ∷ 0x20 ∷ k)))) (λ k. begin_line (suc L) (name_text (field_named units) k))
    (λ k. ap (λ t. begin_line (suc L) (0x22 ∷ (t ++ (0x22 ∷ 0x20 ∷ 0x3D ∷ 0x20 ∷ k)))) (sym is))
    (says_three a b c g d e f h (λ k. begin_line (suc L) (0x22 ∷ k)) (λ k. bytes ++ k) (λ k. 0x22 ∷ 0x20 ∷ 0x3D ∷ 0x20 ∷ k) x y z)

-- the line of a field's raw value
pub says_raw_field : (a b c : Outgoing) (d e f : SinkState) (v : Bool) (o code : Option PrimCode) (L : ℕ) (units bytes : List ℕ) → o ≡ code
    → Says a b d e (λ k. begin_line (suc L) (name_text (field_named units) k))
    → Says b c e f (λ k. encode_lower bytes ++ bytes_word v o bytes (0x0A ∷ k))
    → Says a c d f (λ k. raw_line v code (suc L) (field_named units) bytes k)
says_raw_field a b c d e f v o code L units bytes is x y =
    says_same a c d f (λ k. raw_line v o (suc L) (field_named units) bytes k) (λ k. raw_line v code (suc L) (field_named units) bytes k)
    (λ k. ap (λ p. raw_line v p (suc L) (field_named units) bytes k) (sym is))
    (says_both a b c d e f (λ k. begin_line (suc L) (name_text (field_named units) k)) (λ k. encode_lower bytes ++ bytes_word v o bytes (0x0A ∷ k)) x y)
