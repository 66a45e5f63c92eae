-- The bytes of a text, and the verdict on them: its length, the bytes that begin it, the whole, and the first byte with
-- which no text of the length goes on.
use Rattle.std.proofs.Common.{◌≡◌, ℕ, ◌+◌, ◌^◌, ◌<◌, ◌≤◌, Bool, true, false, cond, List, [], ◌∷◌, ◌++◌, length, take, Option, Some, None, refl, sym, ◌∙◌, ap, ap₂, subst, arith, append_assoc, append-nil, length-append, le-leb, lt-ltb}
use Rattle.std.proofs.lemmas.List.{take_at, drop_at}
use Rattle.jser_prim.specs.Bytes.{big_bytes}
use Rattle.jser_prim.specs.ModifiedUtf8.{modified_utf8}
use Rattle.jser_prim.specs.Texts.{BeginsText}
use Rattle.jser_grammar.specs.Parts.{IsText, text_bound}
use Rattle.jser_reading.specs.Moments.{beginning}
use Rattle.jser_reading.specs.Labels.{text_token, Position, string_at, class_name_at, field_name_at, interface_name_at, Label}
use Rattle.jser_reading.specs.TokensFromBytes.{number_of, head_size, text_in, text_size, size_in, token_in}
use Rattle.jser_reading.specs.Scanner.{more, IsUndecided}
use Rattle.jser_reading.proofs.Decoding.{number_2, number_8, length-big_bytes}
use Rattle.jser_reading.proofs.PlainVerdict.{whole}
use Rattle.jser_verdict.specs.Reasons.{Reason, bad_text, negative_length}
use Rattle.jser_verdict.specs.Gates.{Gate}
use Rattle.jser_verdict.specs.TextsSoFar.{has_head, text_length, text_bytes, has_wrong_byte, is_whole_text}
use Rattle.jser_verdict.specs.Verdicts.{class_name_reason, interface_reason, reason_at, verdict}
use Rattle.jser_verdict.proofs.Texts.{bad_text_is_exact}
use Rattle.jser_verdict.proofs.Fronts.{FrontIsRight, text_front_short, text_front_long, not_whole, not_le}
use Rattle.jser_verdict.proofs.ByteLists.{last_split}
use Rattle.jser_verdict.proofs.ReadTokens.{size_next}
use Rattle.jser_verdict.proofs.Ends.{whole_short, units_short}
use Rattle.jser_reader.proofs.WalkLemmas.{verdict_more}

-- a text of this form is read there
abbrev pub IsTextAt : (long : Bool) → Position → Type 0
IsTextAt false (string_at false) = Unit {0}
IsTextAt true (string_at true) = Unit {0}
IsTextAt false (class_name_at role) = Unit {0}
IsTextAt false field_name_at = Unit {0}
IsTextAt false interface_name_at = Unit {0}
IsTextAt _ _ = ⊥

-- the reason that its units have there
abbrev pub name_reason : Gate → Position → List ℕ → Option Reason
name_reason g (class_name_at role) units = class_name_reason g role units
name_reason g interface_name_at units = interface_reason g units
name_reason g _ units = None

text_quiet : (g : Gate) (l : Label) (long : Bool) (w : Position) (a : List ℕ) → IsTextAt long w → FrontIsRight long a
    → is_whole_text long a ≡ false → reason_at g l w a ≡ None
text_quiet g l false (string_at false) a h r k = rw r.0 refl
text_quiet g l true (string_at true) a h r k = rw (r.0, r.1) refl
text_quiet g l false (class_name_at role) a h r k = rw (r.0, k) refl
text_quiet g l false field_name_at a h r k = rw (r.0, k) refl
text_quiet g l false interface_name_at a h r k = rw (r.0, k) refl
text_quiet g l false (string_at true) a h r k = absurd h
text_quiet g l true (string_at false) a h r k = absurd h
text_quiet g l _ _ a h r k = absurd h

pub size_at_text : (long : Bool) (w : Position) (a : List ℕ) → IsTextAt long w → size_in w a ≡ text_size long a
size_at_text false (string_at false) a h = refl
size_at_text true (string_at true) a h = refl
size_at_text false (class_name_at role) a h = refl
size_at_text false field_name_at a h = refl
size_at_text false interface_name_at a h = refl
size_at_text false (string_at true) a h = absurd h
size_at_text true (string_at false) a h = absurd h
size_at_text _ _ a h = absurd h

token_at_text : (long : Bool) (w : Position) (a : List ℕ) → IsTextAt long w → token_in w a ≡ text_in long a
token_at_text false (string_at false) a h = refl
token_at_text true (string_at true) a h = refl
token_at_text false (class_name_at role) a h = refl
token_at_text false field_name_at a h = refl
token_at_text false interface_name_at a h = refl
token_at_text false (string_at true) a h = absurd h
token_at_text true (string_at false) a h = absurd h
token_at_text _ _ a h = absurd h

-- ---- before the length is there

pub no_head : (g : Gate) (l : Label) (long : Bool) (a : List ℕ) → IsTextAt long l.position → length a < head_size long
    → verdict g l a ≡ more
no_head g l long a h k =
    let e : has_head long a ≡ false = not_le (head_size long) (length a) k in
    let right : FrontIsRight long a = (rw e refl, rw e refl) in
    let quiet : is_whole_text long a ≡ false = rw e refl in
    let size : size_in l.position a ≡ head_size long =
    size_at_text long l.position a h
    ∙ ap (λ x. cond x (head_size long) (head_size long + number_of (take (head_size long) a))) (lt-ltb (length a) (head_size long) k) in
    verdict_more g l a (text_quiet g l long l.position a h right quiet) (omega arith)

-- ---- the bytes of a whole text

abbrev pub spelled : (long : Bool) → List ℕ → List ℕ
spelled long units = big_bytes (head_size long) (length (modified_utf8 units)) ++ modified_utf8 units

spelled_whole : (long : Bool) (units : List ℕ) → IsText long units
    → (text_in long (spelled long units) ≡ Some (text_token long units)) × (text_size long (spelled long units) ≤ length (spelled long units))
    × ((a : List ℕ) (c : ℕ) (d : List ℕ) → spelled long units ≡ a ++ (c ∷ d) → length a < text_size long a)
spelled_whole false units h =
    let x = whole field_name_at beginning (text_token false units) h in (x.found, x.enough, x.fronts)
spelled_whole true units h =
    let x = whole (string_at true) beginning (text_token true units) h in (x.found, x.enough, x.fronts)

spelled_fronts : (long : Bool) (units a b : List ℕ) → IsText long units → spelled long units ≡ a ++ b → FrontIsRight long a
spelled_fronts false units a b h e = text_front_short units a b h e
spelled_fronts true units a b h e = text_front_long units a b h e

-- no front of it decides
pub spelled_undecided : (g : Gate) (l : Label) (long : Bool) (units : List ℕ) → IsTextAt long l.position → IsText long units
    → IsUndecided (verdict g) l (spelled long units)
spelled_undecided g l long units i h a c d e =
    let k = (spelled_whole long units h).2 a c d e in
    let size = size_at_text long l.position a i in
    verdict_more g l a (text_quiet g l long l.position a i (spelled_fronts long units a (c ∷ d) h e) (not_whole long a k)) (omega arith)

spelled_reason_at : (g : Gate) (l : Label) (long : Bool) (w : Position) (units : List ℕ) → IsTextAt long w → IsText long units
    → reason_at g l w (spelled long units) ≡ name_reason g w units
spelled_reason_at g l long w units i h = go long w i h (spelled_fronts long units (spelled long units) [] h (sym (append-nil (spelled long units))))
  where
    go : (long : Bool) (w : Position) → IsTextAt long w → IsText long units → FrontIsRight long (spelled long units)
        → reason_at g l w (spelled long units) ≡ name_reason g w units
    go false (string_at false) i h r = rw r.0 refl
    go true (string_at true) i h r = rw (r.0, r.1) refl
    go false (class_name_at role) i h r = rw (r.0, whole_short units h, units_short units h) refl
    go false field_name_at i h r = rw (r.0, whole_short units h) refl
    go false interface_name_at i h r = rw (r.0, whole_short units h, units_short units h) refl
    go false (string_at true) i h r = absurd i
    go true (string_at false) i h r = absurd i
    go _ _ i h r = absurd i

pub spelled_reason : (g : Gate) (l : Label) (long : Bool) (units : List ℕ) → IsTextAt long l.position → IsText long units
    → reason_at g l l.position (spelled long units) ≡ name_reason g l.position units
spelled_reason g l long units i h = spelled_reason_at g l long l.position units i h

-- it is the token with these units
pub spelled_found : (l : Label) (long : Bool) (units : List ℕ) → IsTextAt long l.position → IsText long units
    → (size_in l.position (spelled long units) ≡ length (spelled long units))
    × (token_in l.position (spelled long units) ≡ Some (text_token long units))
spelled_found l long units i h =
    let x = spelled_whole long units h in
    let size = size_at_text long l.position (spelled long units) i in
    let k = x.1 in
    let least = go (spelled long units) refl in
    (omega arith, token_at_text long l.position (spelled long units) i ∙ x.0)
  where
    go : (bytes : List ℕ) → spelled long units ≡ bytes → length (spelled long units) ≤ size_in l.position (spelled long units)
    go [] e = let n : length (spelled long units) ≡ 0 = ap length e in omega arith
    go (b ∷ bytes) e =
        let sp = last_split b bytes in
        let is : spelled long units ≡ sp.0 ++ (sp.1 ∷ []) = e ∙ sp.2 in
        let short = (spelled_whole long units h).2 sp.0 sp.1 [] is in
        let size = size_at_text long l.position sp.0 i in
        let n : length (sp.0 ++ (sp.1 ∷ [])) ≤ size_in l.position (sp.0 ++ (sp.1 ∷ [])) = size_next l.position sp.0 sp.1 (omega arith) in
        subst (λ a. length a ≤ size_in l.position a) (sym is) n

-- ---- the bytes that begin a text of this length

abbrev pub with_length : (long : Bool) → ℕ → List ℕ → List ℕ
with_length long len body = big_bytes (head_size long) len ++ body

begun_is : (long : Bool) (len : ℕ) (body : List ℕ) (t : BeginsText len body) → spelled long t.units ≡ with_length long len body ++ t.rest
begun_is long len body t =
    ap₂ (λ n bytes. big_bytes (head_size long) n ++ bytes) t.has_length t.spelled
    ∙ sym (append_assoc (big_bytes (head_size long) len) body t.rest)

begun_text : (long : Bool) (len : ℕ) (body : List ℕ) (t : BeginsText len body) → len < text_bound long → IsText long t.units
begun_text long len body t k = (t.are_units, let e = t.has_length in omega arith)

-- no front of them decides
pub begun_undecided : (g : Gate) (l : Label) (long : Bool) (len : ℕ) (body : List ℕ) → IsTextAt long l.position → len < text_bound long
    → BeginsText len body → IsUndecided (verdict g) l (with_length long len body)
begun_undecided g l long len body i k t a c d e =
    spelled_undecided g l long t.units i (begun_text long len body t k) a c (d ++ t.rest)
    (begun_is long len body t ∙ ap (λ x. x ++ t.rest) e ∙ append_assoc a (c ∷ d) t.rest)

-- and they do not decide where some are missing
pub begun_more : (g : Gate) (l : Label) (long : Bool) (len : ℕ) (body : List ℕ) → IsTextAt long l.position → len < text_bound long
    → BeginsText len body → length body < len → verdict g l (with_length long len body) ≡ more
begun_more g l long len body i k t short = go t.rest refl
  where
    go : (rest : List ℕ) → t.rest ≡ rest → verdict g l (with_length long len body) ≡ more
    go [] e =
        let n : length (modified_utf8 t.units) ≡ length body = ap length (t.spelled ∙ ap (λ x. body ++ x) e ∙ append-nil body) in
        let m = t.has_length in
        absurd (omega arith)
    go (c ∷ rest) e =
        spelled_undecided g l long t.units i (begun_text long len body t k) (with_length long len body) c rest
        (begun_is long len body t ∙ ap (λ x. with_length long len body ++ x) e)

-- ---- bytes that begin no text of this length

length_told : (long : Bool) (len : ℕ) (body : List ℕ) → len < text_bound long → (has_head long (with_length long len body) ≡ true)
    × (text_length long (with_length long len body) ≡ len) × (text_bytes long (with_length long len body) ≡ body)
length_told false len body k =
    let n : length (with_length false len body) ≡ 2 + length body = omega (arith, length-append (big_bytes 2 len) body, length-big_bytes 2 len) in (
      le-leb 2 (length (with_length false len body)) (omega arith),
      ap number_of (take_at (big_bytes 2 len) body 2 (length-big_bytes 2 len)) ∙ number_2 len k,
      drop_at (big_bytes 2 len) body 2 (length-big_bytes 2 len),
    )
length_told true len body k =
    let n : length (with_length true len body) ≡ 8 + length body = omega (arith, length-append (big_bytes 8 len) body, length-big_bytes 8 len) in (
      le-leb 8 (length (with_length true len body)) (omega arith),
      ap number_of (take_at (big_bytes 8 len) body 8 (length-big_bytes 8 len)) ∙ number_8 len (omega arith),
      drop_at (big_bytes 8 len) body 8 (length-big_bytes 8 len),
    )

wrong_reason : (g : Gate) (l : Label) (long : Bool) (w : Position) (a : List ℕ) → IsTextAt long w → has_wrong_byte long a ≡ true
    → reason_at g l w a ≡ Some bad_text
wrong_reason g l false (string_at false) a h e = rw e refl
wrong_reason g l true (string_at true) a h e = rw e refl
wrong_reason g l false (class_name_at role) a h e = rw e refl
wrong_reason g l false field_name_at a h e = rw e refl
wrong_reason g l false interface_name_at a h e = rw e refl
wrong_reason g l false (string_at true) a h e = absurd h
wrong_reason g l true (string_at false) a h e = absurd h
wrong_reason g l _ _ a h e = absurd h

pub fault_reason : (g : Gate) (l : Label) (long : Bool) (len : ℕ) (body : List ℕ) → IsTextAt long l.position → len < text_bound long
    → length body ≤ len → (BeginsText len body → ⊥) → reason_at g l l.position (with_length long len body) ≡ Some bad_text
fault_reason g l long len body i k within none =
    wrong_reason g l long l.position (with_length long len body) i (go (has_wrong_byte long (with_length long len body)) refl)
  where
    told : (has_head long (with_length long len body) ≡ true) × (text_length long (with_length long len body) ≡ len)
        × (text_bytes long (with_length long len body) ≡ body)
    told = length_told long len body k

    law : has_wrong_byte long (with_length long len body) ≡ false → BeginsText len body
    law e =
        let t = told.1 in
        let b = ap length told.2 in
        subst (λ n. BeginsText n body) told.1
        (subst (λ bytes. BeginsText (text_length long (with_length long len body)) bytes) told.2
        ((bad_text_is_exact long (with_length long len body) told.0 (omega arith)).0 e))

    go : (x : Bool) → has_wrong_byte long (with_length long len body) ≡ x → has_wrong_byte long (with_length long len body) ≡ true
    go true e = e
    go false e = absurd (none (law e))

-- ---- a length whose highest bit is set

pub negative_reason : (g : Gate) (l : Label) (n : ℕ) → IsTextAt true l.position → 2 ^ 63 ≤ n → n < 2 ^ 64
    → reason_at g l l.position (big_bytes 8 n) ≡ Some negative_length
negative_reason g l n i lo hi = go l.position i
  where
    length_is : text_length true (big_bytes 8 n) ≡ n
    length_is = ap number_of (take_whole (big_bytes 8 n) (length-big_bytes 8 n)) ∙ number_8 n hi
      where
        take_whole : (xs : List ℕ) → length xs ≡ 8 → take 8 xs ≡ xs
        take_whole xs e = ap (take 8) (sym (append-nil xs)) ∙ take_at xs [] 8 e

    go : (w : Position) → IsTextAt true w → reason_at g l w (big_bytes 8 n) ≡ Some negative_length
    go (string_at true) i = rw (length_is, le-leb (2 ^ 63) n lo) refl
    go (string_at false) i = absurd i
    go _ i = absurd i
