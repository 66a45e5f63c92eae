-- What a list spells are bytes.
use Rattle.std.proofs.Common.{ℕ, zero, suc, ◌+◌, ◌<◌, Bool, true, false, List, [], ◌∷◌, ◌++◌, length, All, refl, sym, ◌∙◌, subst, arith, IsTrue}
use Rattle.std.proofs.lemmas.Bool.Decides.{nat_tests}
use Rattle.jser_prim.specs.Bytes.{big_bytes}
use Rattle.jser_prim.specs.ModifiedUtf8.{modified_utf8, IsUnits}
use Rattle.jser_prim.proofs.NumberLemmas.{all_big_bytes}
use Rattle.jser_prim.proofs.TextLemmas.{modified_utf8-fits}
use Rattle.jser_table.specs.Codes.{size_of}
use Rattle.jser_grammar.specs.Trees.{PrimTree, ContentTrees}
use Rattle.jser_grammar.specs.Parts.{IsBytes}
use Rattle.jser_grammar.specs.Spelling.{prims_spelling}
use Rattle.jser_grammar.specs.Streams.{IsStreamOf}
use Rattle.jser_reading.specs.Moments.{Moment}
use Rattle.jser_reading.specs.Labels.{Tag, null_tag, reference_tag, class_desc_tag, object_tag, string_tag, array_tag, class_tag, long_string_tag, proxy_desc_tag, enum_tag, StreamToken, header_token, tag_token, block_tag_token, end_tag_token, reset_tag_token, handle_token, suid_token, flags_token, field_count_token, interface_count_token, array_length_token, code_token, text_token, block_length_token, prims_token, bytes_token, Piece, piece, Position, nowhere, header_at, top_at, annotation_at, value_at, text_place_at, class_place_at, superclass_place_at, back_handle_at, text_handle_at, class_handle_at, superclass_handle_at, string_at, class_name_at, field_name_at, interface_name_at, suid_at, field_count_at, interface_count_at, array_length_at, flags_at, type_code_at, block_length_at, raw_at, bytes_at}
use Rattle.jser_reading.specs.TokenBytes.{tag_byte, bytes_of, joined}
use Rattle.jser_reading.specs.Tokens.{tokens_of}
use Rattle.jser_reading.specs.Goals.{State, settled}
use Rattle.jser_reading.specs.Accepts.{may_follow, AcceptsAt, label_of}
use Rattle.jser_reading.specs.Machine.{begin_state, advance, Reads}
use Rattle.jser_reading.proofs.SpelledTokens.{spelled_law}
use Rattle.jser_reading.proofs.Exact.{exact_law}
use Rattle.jser_verdict.proofs.ByteLists.{bytes_both}

-- ---- lists of bytes

one_byte : (b : ℕ) → b < 256 → IsBytes (b ∷ [])
one_byte b h = grind (arith, nat_tests)

bytes_after : (b : ℕ) (bytes : List ℕ) → b < 256 → IsBytes bytes → IsBytes (b ∷ bytes)
bytes_after b bytes h k = bytes_both (b ∷ []) bytes (one_byte b h) k

all_below : (bytes : List ℕ) → All (λ b. b < 256) bytes → IsBytes bytes
all_below [] h = refl
all_below (b ∷ bytes) h = bytes_after b bytes (h 0 0 (omega arith)) (all_below bytes (λ i d inside. h (suc i) d (omega arith)))

number_bytes : (k n : ℕ) → IsBytes (big_bytes k n)
number_bytes k n = all_below (big_bytes k n) (all_big_bytes k n)

text_bytes : (k : ℕ) (units : List ℕ) → IsUnits units → IsBytes (big_bytes k (length (modified_utf8 units)) ++ modified_utf8 units)
text_bytes k units h =
    bytes_both (big_bytes k (length (modified_utf8 units))) (modified_utf8 units) (number_bytes k (length (modified_utf8 units)))
    (all_below (modified_utf8 units) (modified_utf8-fits units h))

prim_bytes : (ps : List PrimTree) → IsBytes (prims_spelling ps)
prim_bytes [] = refl
prim_bytes (p ∷ ps) = bytes_both (big_bytes (size_of p.code) p.bits) (prims_spelling ps) (number_bytes (size_of p.code) p.bits) (prim_bytes ps)

-- ---- tokens

code_fits : (seen : Bool) (n : ℕ) → IsTrue (may_follow seen n) → n < 256
code_fits seen n h = grind (arith, nat_tests)

flags_fit : (p : Position) (m : Moment) (n : ℕ) → AcceptsAt p m (flags_token n) → n < 256
flags_fit nowhere m n h = absurd h
flags_fit header_at m n h = absurd h
flags_fit top_at m n h = absurd h
flags_fit annotation_at m n h = absurd h
flags_fit value_at m n h = absurd h
flags_fit text_place_at m n h = absurd h
flags_fit (class_place_at owner) m n h = absurd h
flags_fit (superclass_place_at owner strict) m n h = absurd h
flags_fit back_handle_at m n h = absurd h
flags_fit text_handle_at m n h = absurd h
flags_fit (class_handle_at owner) m n h = absurd h
flags_fit (superclass_handle_at owner strict) m n h = absurd h
flags_fit (string_at false) m n h = absurd h
flags_fit (string_at true) m n h = absurd h
flags_fit (class_name_at role) m n h = absurd h
flags_fit field_name_at m n h = absurd h
flags_fit interface_name_at m n h = absurd h
flags_fit suid_at m n h = absurd h
flags_fit field_count_at m n h = absurd h
flags_fit interface_count_at m n h = absurd h
flags_fit array_length_at m n h = absurd h
flags_fit (flags_at role) m n h = let a = h.0.0 in omega arith
flags_fit (type_code_at seen) m n h = absurd h
flags_fit (block_length_at false) m n h = absurd h
flags_fit (block_length_at true) m n h = absurd h
flags_fit (raw_at c zero) m n h = absurd h
flags_fit (raw_at c (suc k)) m n h = absurd h
flags_fit (bytes_at zero) m n h = absurd h
flags_fit (bytes_at (suc k)) m n h = absurd h

code_fits_at : (p : Position) (m : Moment) (n : ℕ) → AcceptsAt p m (code_token n) → n < 256
code_fits_at nowhere m n h = absurd h
code_fits_at header_at m n h = absurd h
code_fits_at top_at m n h = absurd h
code_fits_at annotation_at m n h = absurd h
code_fits_at value_at m n h = absurd h
code_fits_at text_place_at m n h = absurd h
code_fits_at (class_place_at owner) m n h = absurd h
code_fits_at (superclass_place_at owner strict) m n h = absurd h
code_fits_at back_handle_at m n h = absurd h
code_fits_at text_handle_at m n h = absurd h
code_fits_at (class_handle_at owner) m n h = absurd h
code_fits_at (superclass_handle_at owner strict) m n h = absurd h
code_fits_at (string_at false) m n h = absurd h
code_fits_at (string_at true) m n h = absurd h
code_fits_at (class_name_at role) m n h = absurd h
code_fits_at field_name_at m n h = absurd h
code_fits_at interface_name_at m n h = absurd h
code_fits_at suid_at m n h = absurd h
code_fits_at field_count_at m n h = absurd h
code_fits_at interface_count_at m n h = absurd h
code_fits_at array_length_at m n h = absurd h
code_fits_at (flags_at role) m n h = absurd h
code_fits_at (type_code_at seen) m n h = code_fits seen n h
code_fits_at (block_length_at false) m n h = absurd h
code_fits_at (block_length_at true) m n h = absurd h
code_fits_at (raw_at c zero) m n h = absurd h
code_fits_at (raw_at c (suc k)) m n h = absurd h
code_fits_at (bytes_at zero) m n h = absurd h
code_fits_at (bytes_at (suc k)) m n h = absurd h

text_units : (p : Position) (m : Moment) (long : Bool) (units : List ℕ) → AcceptsAt p m (text_token long units) → IsUnits units
text_units nowhere m long units h = absurd h
text_units header_at m long units h = absurd h
text_units top_at m long units h = absurd h
text_units annotation_at m long units h = absurd h
text_units value_at m long units h = absurd h
text_units text_place_at m long units h = absurd h
text_units (class_place_at owner) m long units h = absurd h
text_units (superclass_place_at owner strict) m long units h = absurd h
text_units back_handle_at m long units h = absurd h
text_units text_handle_at m long units h = absurd h
text_units (class_handle_at owner) m long units h = absurd h
text_units (superclass_handle_at owner strict) m long units h = absurd h
text_units (string_at false) m false units h = h.0
text_units (string_at false) m true units h = absurd h
text_units (string_at true) m true units h = h.0
text_units (string_at true) m false units h = absurd h
text_units (class_name_at role) m false units h = h.0.0.0
text_units (class_name_at role) m true units h = absurd h
text_units field_name_at m false units h = h.0
text_units field_name_at m true units h = absurd h
text_units interface_name_at m false units h = h.0.0
text_units interface_name_at m true units h = absurd h
text_units suid_at m long units h = absurd h
text_units field_count_at m long units h = absurd h
text_units interface_count_at m long units h = absurd h
text_units array_length_at m long units h = absurd h
text_units (flags_at role) m long units h = absurd h
text_units (type_code_at seen) m long units h = absurd h
text_units (block_length_at false) m long units h = absurd h
text_units (block_length_at true) m long units h = absurd h
text_units (raw_at c zero) m long units h = absurd h
text_units (raw_at c (suc k)) m long units h = absurd h
text_units (bytes_at zero) m long units h = absurd h
text_units (bytes_at (suc k)) m long units h = absurd h

block_bytes : (p : Position) (m : Moment) (bytes : List ℕ) → AcceptsAt p m (bytes_token bytes) → IsBytes bytes
block_bytes nowhere m bytes h = absurd h
block_bytes header_at m bytes h = absurd h
block_bytes top_at m bytes h = absurd h
block_bytes annotation_at m bytes h = absurd h
block_bytes value_at m bytes h = absurd h
block_bytes text_place_at m bytes h = absurd h
block_bytes (class_place_at owner) m bytes h = absurd h
block_bytes (superclass_place_at owner strict) m bytes h = absurd h
block_bytes back_handle_at m bytes h = absurd h
block_bytes text_handle_at m bytes h = absurd h
block_bytes (class_handle_at owner) m bytes h = absurd h
block_bytes (superclass_handle_at owner strict) m bytes h = absurd h
block_bytes (string_at false) m bytes h = absurd h
block_bytes (string_at true) m bytes h = absurd h
block_bytes (class_name_at role) m bytes h = absurd h
block_bytes field_name_at m bytes h = absurd h
block_bytes interface_name_at m bytes h = absurd h
block_bytes suid_at m bytes h = absurd h
block_bytes field_count_at m bytes h = absurd h
block_bytes interface_count_at m bytes h = absurd h
block_bytes array_length_at m bytes h = absurd h
block_bytes (flags_at role) m bytes h = absurd h
block_bytes (type_code_at seen) m bytes h = absurd h
block_bytes (block_length_at false) m bytes h = absurd h
block_bytes (block_length_at true) m bytes h = absurd h
block_bytes (raw_at c zero) m bytes h = absurd h
block_bytes (raw_at c (suc k)) m bytes h = absurd h
block_bytes (bytes_at zero) m bytes h = absurd h
block_bytes (bytes_at (suc k)) m bytes h = h.0

tag_bytes : (tag : Tag) → IsBytes (tag_byte tag ∷ [])
tag_bytes null_tag = refl
tag_bytes reference_tag = refl
tag_bytes class_desc_tag = refl
tag_bytes object_tag = refl
tag_bytes string_tag = refl
tag_bytes array_tag = refl
tag_bytes class_tag = refl
tag_bytes long_string_tag = refl
tag_bytes proxy_desc_tag = refl
tag_bytes enum_tag = refl

token_bytes : (p : Position) (m : Moment) (token : StreamToken) → AcceptsAt p m token → IsBytes (bytes_of token)
token_bytes p m header_token h = refl
token_bytes p m (tag_token tag) h = tag_bytes tag
token_bytes p m (block_tag_token false) h = refl
token_bytes p m (block_tag_token true) h = refl
token_bytes p m end_tag_token h = refl
token_bytes p m reset_tag_token h = refl
token_bytes p m (handle_token n) h = number_bytes 4 (0x7E0000 + n)
token_bytes p m (suid_token n) h = number_bytes 8 n
token_bytes p m (flags_token n) h = one_byte n (flags_fit p m n h)
token_bytes p m (field_count_token n) h = number_bytes 2 n
token_bytes p m (interface_count_token n) h = number_bytes 4 n
token_bytes p m (array_length_token n) h = number_bytes 4 n
token_bytes p m (code_token n) h = one_byte n (code_fits_at p m n h)
token_bytes p m (text_token false units) h = text_bytes 2 units (text_units p m false units h)
token_bytes p m (text_token true units) h = text_bytes 8 units (text_units p m true units h)
token_bytes p m (block_length_token false n) h = number_bytes 1 n
token_bytes p m (block_length_token true n) h = number_bytes 4 n
token_bytes p m (prims_token ps) h = prim_bytes ps
token_bytes p m (bytes_token bytes) h = block_bytes p m bytes h

-- ---- streams

read_bytes : (pieces : List Piece) (s : State) → Reads s pieces → IsBytes (joined pieces)
read_bytes [] s h = refl
read_bytes (piece label token ∷ pieces) s h =
    bytes_both (bytes_of token) (joined pieces) (token_bytes (label_of (settled s)).position (label_of (settled s)).moment token h.1)
    (read_bytes pieces (advance (settled s) token) h.2)

pub stream_bytes : (bytes : List ℕ) (list : ContentTrees) → IsStreamOf bytes list → IsBytes bytes
stream_bytes bytes list s =
    subst IsBytes (spelled_law list s.1 ∙ sym s.0) (read_bytes (tokens_of list) begin_state ((exact_law (tokens_of list)).1 (list, s.1, refl)))
