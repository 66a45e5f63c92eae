-- What raw values mean, as it is said.
use Rattle.std.proofs.Common.{◌≡◌, ℕ, ◌<◌, ◌≤◌, ◌+◌, ◌-◌, ◌^◌, ◌==◌, nat_lt, Bool, true, false, if◌then◌else◌, slice_index, Option, Some, None, List, [], ◌∷◌, ◌++◌, length, refl, sym, ap, subst, ◌∙◌, append_assoc, codes, arith}
use Rattle.std.proofs.lemmas.Bool.Decides.{nat_tests}
use Rattle.std.proofs.lemmas.Bool.{eq-eqb, ne_eqb}
use Rattle.std.specs.Fmt.{decimal}
use Rattle.std.specs.List.{flat_map}
use Rattle.jser_prim.specs.Bytes.{big_bytes}
use Rattle.jser_prim.specs.Outgoing.{Outgoing, SinkState}
use Rattle.jser_grammar.specs.Codes.{PrimCode, byte_code, char_code, double_code, float_code, int_code, long_code, short_code, boolean_code, size_of}
use Rattle.jser_reading.specs.TokensFromBytes.{number_of}
use Rattle.jser_reading.proofs.Decoding.{number_2, number_4, number_8}
use Rattle.jser_decimal.specs.declared.float.Float.{Float}
use Rattle.jser_decimal.specs.Floats.{double_of, single_of}
use Rattle.jser_shown.specs.Floats.{float_text}
use Rattle.jser_shown.specs.Words.{quoted, quoted_unit}
use Rattle.jser_shown.specs.Values.{signed_text, boolean_text, meaning, in_brackets, value_word, bytes_word}
use Rattle.jser_printer.specs.declared.primitive.Primitive.{Primitive}
use Rattle.jser_printer.specs.Primitives.{view_elements}
use Rattle.jser_printer.specs.Says.{Says}
use Rattle.jser_printer.proofs.SaysLemmas.{says_nothing, says_same, says_both, says_three}

-- the word of bytes that have the size of a value
word_of_size : (c : PrimCode) (bytes : List ℕ) (n : ℕ) (k : List ℕ) → length bytes ≡ size_of c → number_of bytes ≡ n
    → bytes_word true (Some c) bytes k ≡ in_brackets (meaning c n) k
word_of_size c bytes n k size is =
    ap (λ t. if t then value_word true c (number_of bytes) k else k) (eq-eqb (length bytes) (size_of c) size)
    ∙ ap (λ m. in_brackets (meaning c m) k) is

says_sized : (a b : Outgoing) (d e : SinkState) (c : PrimCode) (bytes : List ℕ) (n : ℕ) → length bytes ≡ size_of c → number_of bytes ≡ n
    → Says a b d e (λ k. in_brackets (meaning c n) k) → Says a b d e (λ k. bytes_word true (Some c) bytes k)
says_sized a b d e c bytes n size is h =
    says_same a b d e (λ k. in_brackets (meaning c n) k) (λ k. bytes_word true (Some c) bytes k) (λ k. word_of_size c bytes n k size is) h

-- other bytes mean nothing
pub says_other_size : (a : Outgoing) (d : SinkState) (c : PrimCode) (bytes : List ℕ) → (length bytes ≡ size_of c → ⊥)
    → Says a a d d (λ k. bytes_word true (Some c) bytes k)
says_other_size a d c bytes other = says_nothing a d (λ k. bytes_word true (Some c) bytes k)
    (λ k. ap (λ t. if t then value_word true c (number_of bytes) k else k) (ne_eqb (length bytes) (size_of c) other))

pub says_no_word : (a : Outgoing) (d : SinkState) (v : Bool) (o : Option PrimCode) (bytes : List ℕ) → v ≡ false
    → Says a a d d (λ k. bytes_word v o bytes k)
says_no_word a d v o bytes is = says_nothing a d (λ k. bytes_word v o bytes k) (λ k. ap (λ x. bytes_word x o bytes k) is ∙ silent o k)
  where
    tested : (t : Bool) (k : List ℕ) → (if t then k else k) ≡ k
    tested true k = refl
    tested false k = refl

    silent : (o : Option PrimCode) (k : List ℕ) → bytes_word false o bytes k ≡ k
    silent None k = refl
    silent (Some c) k = tested (length bytes == size_of c) k

-- numbers

read_1 : (bytes : List ℕ) (b : ℕ) → length bytes ≡ 1 → b ≡ slice_index bytes 0 → number_of bytes ≡ b
read_1 [] b long is = absurd cc
read_1 (x ∷ []) b long is = (let e : number_of (x ∷ []) ≡ x = omega arith in e) ∙ sym is
read_1 (x ∷ y ∷ bytes) b long is = absurd (omega (arith, long))

read_2 : (bytes : List ℕ) (n : ℕ) → n < 2 ^ 16 → big_bytes 2 n ≡ bytes → number_of bytes ≡ n
read_2 bytes n h is = ap number_of (sym is) ∙ number_2 n h

read_4 : (bytes : List ℕ) (n : ℕ) → n < 2 ^ 32 → big_bytes 4 n ≡ bytes → number_of bytes ≡ n
read_4 bytes n h is = ap number_of (sym is) ∙ number_4 n h

read_8 : (bytes : List ℕ) (n : ℕ) → n < 2 ^ 64 → big_bytes 8 n ≡ bytes → number_of bytes ≡ n
read_8 bytes n h is = ap number_of (sym is) ∙ number_8 n h

pub says_byte : (a b : Outgoing) (d e : SinkState) (bytes : List ℕ) (n : ℕ) → length bytes ≡ 1 → n ≡ slice_index bytes 0
    → Says a b d e (λ k. in_brackets (Some (signed_text (2 ^ 7) n)) k) → Says a b d e (λ k. bytes_word true (Some byte_code) bytes k)
says_byte a b d e bytes n long is h = says_sized a b d e byte_code bytes n long (read_1 bytes n long is) h

pub says_short : (a b : Outgoing) (d e : SinkState) (bytes : List ℕ) (n : ℕ) → length bytes ≡ 2 → n < 2 ^ 16 → big_bytes 2 n ≡ bytes
    → Says a b d e (λ k. in_brackets (Some (signed_text (2 ^ 15) n)) k) → Says a b d e (λ k. bytes_word true (Some short_code) bytes k)
says_short a b d e bytes n long bound is h = says_sized a b d e short_code bytes n long (read_2 bytes n bound is) h

pub says_int : (a b : Outgoing) (d e : SinkState) (bytes : List ℕ) (n : ℕ) → length bytes ≡ 4 → n < 2 ^ 32 → big_bytes 4 n ≡ bytes
    → Says a b d e (λ k. in_brackets (Some (signed_text (2 ^ 31) n)) k) → Says a b d e (λ k. bytes_word true (Some int_code) bytes k)
says_int a b d e bytes n long bound is h = says_sized a b d e int_code bytes n long (read_4 bytes n bound is) h

pub says_long : (a b : Outgoing) (d e : SinkState) (bytes : List ℕ) (n : ℕ) → length bytes ≡ 8 → n < 2 ^ 64 → big_bytes 8 n ≡ bytes
    → Says a b d e (λ k. in_brackets (Some (signed_text (2 ^ 63) n)) k) → Says a b d e (λ k. bytes_word true (Some long_code) bytes k)
says_long a b d e bytes n long bound is h = says_sized a b d e long_code bytes n long (read_8 bytes n bound is) h

quoted-before : (units k : List ℕ) → quoted units [] ++ k ≡ quoted units k
quoted-before units k = ap (λ x. 0x22 ∷ x) (append_assoc (flat_map quoted_unit units) (0x22 ∷ []) k)

pub says_char : (a b c g : Outgoing) (d e f h : SinkState) (bytes units : List ℕ) (n : ℕ) → length bytes ≡ 2 → n < 2 ^ 16 → big_bytes 2 n ≡ bytes → units ≡ n ∷ []
    → Says a b d e (λ k. 0x20 ∷ 0x28 ∷ k) → Says b c e f (λ k. quoted units k) → Says c g f h (λ k. 0x29 ∷ k)
    → Says a g d h (λ k. bytes_word true (Some char_code) bytes k)
says_char a b c g d e f h bytes units n long bound is one x y z =
    says_sized a g d h char_code bytes n long (read_2 bytes n bound is)
    (says_same a g d h (λ k. 0x20 ∷ 0x28 ∷ quoted units (0x29 ∷ k)) (λ k. in_brackets (meaning char_code n) k)
    (λ k. ap (λ t. 0x20 ∷ 0x28 ∷ t) (quoted-before (n ∷ []) (0x29 ∷ k) ∙ ap (λ us. quoted us (0x29 ∷ k)) (sym one)))
    (says_three a b c g d e f h (λ k. 0x20 ∷ 0x28 ∷ k) (λ k. quoted units k) (λ k. 0x29 ∷ k) x y z))

-- booleans

pub says_boolean : (a b : Outgoing) (d e : SinkState) (bytes : List ℕ) (n : ℕ) → length bytes ≡ 1 → n ≡ slice_index bytes 0
    → Says a b d e (λ k. in_brackets (boolean_text n) k) → Says a b d e (λ k. bytes_word true (Some boolean_code) bytes k)
says_boolean a b d e bytes n long is h = says_sized a b d e boolean_code bytes n long (read_1 bytes n long is) h

pub says_no_truth : (a : Outgoing) (d : SinkState) (n : ℕ) → (n ≡ 0 → ⊥) → (n ≡ 1 → ⊥) → Says a a d d (λ k. in_brackets (boolean_text n) k)
says_no_truth a d n zero one = says_nothing a d (λ k. in_brackets (boolean_text n) k) (λ k.
    ap (λ t. in_brackets (if t then Some (codes "false") else (if n == 1 then Some (codes "true") else None)) k) (ne_eqb n 0 zero)
    ∙ ap (λ t. in_brackets (if t then Some (codes "true") else None) k) (ne_eqb n 1 one))

-- two's complement

pub says_negative : (a b c : Outgoing) (d e f : SinkState) (least n m : ℕ) → least ≤ n → m ≡ least - (n - least) → Says a b d e (λ k. 0x2D ∷ k)
    → Says b c e f (λ k. decimal m ++ k) → Says a c d f (λ k. signed_text least n ++ k)
says_negative a b c d e f least n m above is h g =
    says_same a c d f (λ k. 0x2D ∷ (decimal m ++ k)) (λ k. signed_text least n ++ k)
    (λ k. ap (λ t. (if t then decimal n else 0x2D ∷ decimal (least + least - n)) ++ k) (let t : nat_lt n least ≡ false = grind (arith, nat_tests, above) in t)
    ∙ ap (λ x. 0x2D ∷ (decimal x ++ k)) (let q : least + least - n ≡ m = omega (arith, is, above) in q))
    (says_both a b c d e f (λ k. 0x2D ∷ k) (λ k. decimal m ++ k) h g)

-- floats

pub says_double : (a b : Outgoing) (d e : SinkState) (bytes : List ℕ) (n : ℕ) (float : Float) → length bytes ≡ 8 → n < 2 ^ 64 → big_bytes 8 n ≡ bytes → float ≡ double_of n
    → Says a b d e (λ k. in_brackets (Some (float_text float)) k) → Says a b d e (λ k. bytes_word true (Some double_code) bytes k)
says_double a b d e bytes n float long bound is of h =
    says_sized a b d e double_code bytes n long (read_8 bytes n bound is) (subst (λ f. Says a b d e (λ k. in_brackets (Some (float_text f)) k)) of h)

pub says_single : (a b : Outgoing) (d e : SinkState) (bytes : List ℕ) (n : ℕ) (float : Float) → length bytes ≡ 4 → n < 2 ^ 32 → big_bytes 4 n ≡ bytes → float ≡ single_of n
    → Says a b d e (λ k. in_brackets (Some (float_text float)) k) → Says a b d e (λ k. bytes_word true (Some float_code) bytes k)
says_single a b d e bytes n float long bound is of h =
    says_sized a b d e float_code bytes n long (read_4 bytes n bound is) (subst (λ f. Says a b d e (λ k. in_brackets (Some (float_text f)) k)) of h)

-- a text in brackets
pub says_bracketed : (a b c g : Outgoing) (d e f h : SinkState) (text : List ℕ) → Says a b d e (λ k. 0x20 ∷ 0x28 ∷ k)
    → Says b c e f (λ k. text ++ k) → Says c g f h (λ k. 0x29 ∷ k) → Says a g d h (λ k. in_brackets (Some text) k)
says_bracketed a b c g d e f h text x y z = says_three a b c g d e f h (λ k. 0x20 ∷ 0x28 ∷ k) (λ k. text ++ k) (λ k. 0x29 ∷ k) x y z

-- bytes of no primitive type mean nothing
pub says_untyped : (a : Outgoing) (d : SinkState) (primitive : Option Primitive) (bytes : List ℕ) → primitive ≡ None
    → Says a a d d (λ k. bytes_word true (view_elements primitive) bytes k)
says_untyped a d primitive bytes none =
    says_nothing a d (λ k. bytes_word true (view_elements primitive) bytes k) (λ k. ap (λ p. bytes_word true (view_elements p) bytes k) none)
