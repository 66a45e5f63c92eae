-- The teller: it goes along the tokens of a stream and says the text of show. The numbers of objects and the lengths of
-- arrays stand in the text before their classes, so it is given them beforehand (`Owners`). It never asks whether a
-- token is right: on other tokens than those of a stream it says something else.
use Rattle.std.specs.Prelude.{ℕ, zero, suc, ◌/◌, Bool, true, false, List, [], ◌∷◌, ◌++◌, length, take, drop, slice_set, codes, Option}
use Rattle.std.specs.Fmt.{decimal}
use Rattle.hex.specs.Hex.{encode_lower}
use Rattle.jser_prim.specs.Bytes.{big_bytes}
use Rattle.jser_grammar.specs.Codes.{PrimCode, prim_code_of, is_object_code}
use Rattle.jser_grammar.specs.Spelling.{prims_spelling}
use Rattle.jser_reading.specs.Roles.{Owner, object_owner, array_owner, enum_owner, class_owner}
use Rattle.jser_reading.specs.Labels.{Tag, null_tag, reference_tag, class_desc_tag, object_tag, string_tag, array_tag, class_tag, long_string_tag, proxy_desc_tag, enum_tag, StreamToken, header_token, tag_token, block_tag_token, end_tag_token, reset_tag_token, handle_token, suid_token, flags_token, field_count_token, interface_count_token, array_length_token, code_token, text_token, block_length_token, prims_token, bytes_token, Piece, piece}
use Rattle.jser_shown.specs.Known.{NamedField, NamedLayer, class_layer, proxy_layer, known_text, known_other, known_pending, known_class, Known, classes_at, with_entry, is_external_chain, elements_of_chain}
use Rattle.jser_shown.specs.Values.{bytes_word}
use Rattle.jser_shown.specs.Words.{Epoch, first_epoch, next_epoch, end_line, begin_line, mark, quoted, block_word}
use Rattle.jser_shown.specs.Shown.{ValueName, field_named, element_at, name_text, data_text, external_text}
use Rattle.jser_shown.specs.Owners.{OwnerNode, owner_node}
use Rattle.jser_shown.specs.Cues.{SectionPart, data_part, external_part, raw_part, value_part, note_part, Cue, header_cue, top_cue, handle_cue, string_cue, text_place_cue, block_length_cue, block_cue, note_cue, name_cue, length_cue, elements_cue, parts_cue, class_cue, class_handle_cue, made_cue, super_cue, super_handle_cue, close_cue, class_name_cue, suid_cue, flags_cue, field_count_cue, fields_cue, field_name_cue, type_cue, interface_count_cue, interfaces_cue, Teller, teller, object_parts, fields_done, rest_of_desc}

-- the cues that no token belongs to and are next: what they do, and what they say

abbrev pub settle_parts : ℕ → List SectionPart → Epoch → Known → List OwnerNode → List Cue → Teller → Teller
settle_parts L [] e T os cues after = after
settle_parts L (data_part l ∷ parts) e T os cues after = settle_parts L parts e T os cues after
settle_parts L (external_part l ∷ parts) e T os cues after = settle_parts L parts e T os cues after
settle_parts L (raw_part f ∷ parts) e T os cues after = teller e T os (parts_cue L (raw_part f ∷ parts) ∷ cues)
settle_parts L (value_part name ∷ parts) e T os cues after =
    teller e T os (parts_cue L (value_part name ∷ parts) ∷ cues)
settle_parts L (note_part ∷ parts) e T os cues after = teller e T os (note_cue (suc L) ∷ parts_cue L parts ∷ cues)

abbrev pub settle_fields : ℕ → ℕ → List ℕ → ℕ → List NamedField → ℕ → Epoch → Known → List OwnerNode → List Cue → Teller
settle_fields L number name flags done zero e T os cues =
    teller e T os (rest_of_desc L number (class_layer name flags (fields_done done [])) cues)
settle_fields L number name flags done (suc n) e T os cues =
    teller e T os (fields_cue L number name flags done (suc n) ∷ cues)

abbrev pub settle_interfaces : ℕ → ℕ → ℕ → Epoch → Known → List OwnerNode → List Cue → Teller
settle_interfaces L number zero e T os cues = teller e T os (rest_of_desc L number proxy_layer cues)
settle_interfaces L number (suc n) e T os cues = teller e T os (interfaces_cue L number (suc n) ∷ cues)

abbrev pub settle_elements : ℕ → Option PrimCode → ℕ → ℕ → Epoch → Known → List OwnerNode → List Cue → Teller → Teller
settle_elements L c i zero e T os cues after = after
settle_elements L c i (suc n) e T os cues after = teller e T os (elements_cue L c i (suc n) ∷ cues)

abbrev pub settle : Epoch → Known → List OwnerNode → List Cue → Teller
settle e T os [] = teller e T os []
settle e T os (parts_cue L parts ∷ cues) = settle_parts L parts e T os cues (settle e T os cues)
settle e T os (elements_cue L c i n ∷ cues) = settle_elements L c i n e T os cues (settle e T os cues)
settle e T os (made_cue object_owner L number ∷ cues) =
    let made = with_entry T known_other in
    let chain = classes_at T number in
    settle_parts L (object_parts (is_external_chain chain) chain) e made os cues (settle e made os cues)
settle e T os (made_cue array_owner L number ∷ cues) =
    teller e (with_entry T known_other) os (length_cue L (elements_of_chain (classes_at T number)) ∷ cues)
settle e T os (made_cue enum_owner L number ∷ cues) = teller e (with_entry T known_other) os (name_cue L ∷ cues)
settle e T os (made_cue class_owner L number ∷ cues) = settle e (with_entry T known_other) os cues
settle e T os (close_cue number parent layer ∷ cues) =
    settle e (slice_set T number (known_class (classes_at T parent ++ (layer ∷ [])))) os cues
settle e T os (type_cue true ∷ cues) = teller e T os (text_place_cue ∷ cues)
settle e T os (type_cue false ∷ cues) = settle e T os cues
settle e T os (fields_cue L number name flags done n ∷ cues) = settle_fields L number name flags done n e T os cues
settle e T os (interfaces_cue L number n ∷ cues) = settle_interfaces L number n e T os cues
settle e T os (cue ∷ cues) = teller e T os (cue ∷ cues)

abbrev pub settled : Teller → Teller
settled s = settle s.epoch s.known s.owners s.cues

-- `k` is what the settled teller says, `after` what is said where there are no parts
abbrev pub parts_say : ℕ → List SectionPart → (k after : List ℕ) → List ℕ
parts_say L [] k after = after
parts_say L (data_part l ∷ parts) k after = begin_line L (data_text l (parts_say L parts k after))
parts_say L (external_part l ∷ parts) k after = begin_line L (external_text l (parts_say L parts k after))
parts_say L (raw_part f ∷ parts) k after = k
parts_say L (value_part name ∷ parts) k after = k
parts_say L (note_part ∷ parts) k after = k

abbrev pub elements_say : ℕ → (k after : List ℕ) → List ℕ
elements_say zero k after = after
elements_say (suc n) k after = k

abbrev pub settle_says : Known → List Cue → List ℕ → List ℕ
settle_says T [] k = k
settle_says T (parts_cue L parts ∷ cues) k = parts_say L parts k (settle_says T cues k)
settle_says T (elements_cue L c i n ∷ cues) k = elements_say n k (settle_says T cues k)
settle_says T (made_cue object_owner L number ∷ cues) k =
    let chain = classes_at T number in
    parts_say L (object_parts (is_external_chain chain) chain) k (settle_says (with_entry T known_other) cues k)
settle_says T (made_cue array_owner L number ∷ cues) k = k
settle_says T (made_cue enum_owner L number ∷ cues) k = k
settle_says T (made_cue class_owner L number ∷ cues) k = settle_says (with_entry T known_other) cues k
settle_says T (close_cue number parent layer ∷ cues) k =
    settle_says (slice_set T number (known_class (classes_at T parent ++ (layer ∷ [])))) cues k
settle_says T (type_cue true ∷ cues) k = codes " type " ++ k
settle_says T (type_cue false ∷ cues) k = end_line (settle_says T cues k)
settle_says T (cue ∷ cues) k = k

-- a tag of a value: what it says, and what it leads to; `L` is the level of its line

-- the owner whose tag is the next, or a blank one
abbrev pub first_owner : List OwnerNode → OwnerNode
first_owner [] = owner_node 0 0
first_owner (o ∷ os) = o

abbrev pub without_first : List OwnerNode → List OwnerNode
without_first [] = []
without_first (o ∷ os) = os

-- `n` is how many handles are known, `o` the owner whose tag is the next
abbrev pub tag_says : ℕ → ℕ → OwnerNode → Tag → List ℕ → List ℕ
tag_says e n o null_tag k = codes "null" ++ end_line k
tag_says e n o reference_tag k = codes "ref " ++ k
tag_says e n o class_desc_tag k = codes "desc " ++ mark e n (0x20 ∷ k)
tag_says e n o proxy_desc_tag k = codes "proxy " ++ mark e n (end_line k)
tag_says e n o object_tag k = codes "object " ++ mark e o.number (end_line k)
tag_says e n o string_tag k = codes "text " ++ mark e n (0x20 ∷ k)
tag_says e n o long_string_tag k = codes "longtext " ++ mark e n (0x20 ∷ k)
tag_says e n o array_tag k =
    codes "array " ++ mark e o.number (codes " length " ++ (decimal o.elements ++ end_line k))
tag_says e n o class_tag k = codes "classobject " ++ mark e o.number (end_line k)
tag_says e n o enum_tag k = codes "enum " ++ mark e o.number (end_line k)

abbrev pub begin : Epoch → ℕ → Known → List OwnerNode → Tag → List Cue → Teller
begin e L T os null_tag cues = teller e T os cues
begin e L T os reference_tag cues = teller e T os (handle_cue ∷ cues)
begin e L T os class_desc_tag cues = teller e T os (class_name_cue (suc L) ∷ cues)
begin e L T os proxy_desc_tag cues =
    teller e (with_entry T known_pending) os (interface_count_cue (suc L) (length T) ∷ cues)
begin e L T os object_tag cues = teller e T (without_first os) (class_cue object_owner (suc L) ∷ cues)
begin e L T os string_tag cues = teller e (with_entry T known_text) os (string_cue ∷ cues)
begin e L T os long_string_tag cues = teller e (with_entry T known_text) os (string_cue ∷ cues)
begin e L T os array_tag cues = teller e T (without_first os) (class_cue array_owner (suc L) ∷ cues)
begin e L T os class_tag cues = teller e T (without_first os) (class_cue class_owner (suc L) ∷ cues)
begin e L T os enum_tag cues = teller e T (without_first os) (class_cue enum_owner (suc L) ∷ cues)

-- What a teller sees of a token. Raw values and the bytes of a block are seen by their bytes alone, texts and lengths
-- of blocks in both forms alike.
pub data SeenToken : Type 0 where
  seen_header seen_end_tag seen_reset_tag : SeenToken
  seen_tag : Tag → SeenToken
  seen_block_tag : (long : Bool) → SeenToken
  seen_handle seen_suid seen_flags seen_field_count seen_interface_count seen_array_length seen_code : ℕ → SeenToken
  seen_block_length : ℕ → SeenToken
  seen_text : (units : List ℕ) → SeenToken
  seen_bytes : (bytes : List ℕ) → SeenToken

abbrev pub seen : StreamToken → SeenToken
seen header_token = seen_header
seen (tag_token tag) = seen_tag tag
seen (block_tag_token long) = seen_block_tag long
seen end_tag_token = seen_end_tag
seen reset_tag_token = seen_reset_tag
seen (handle_token n) = seen_handle n
seen (suid_token n) = seen_suid n
seen (flags_token n) = seen_flags n
seen (field_count_token n) = seen_field_count n
seen (interface_count_token n) = seen_interface_count n
seen (array_length_token n) = seen_array_length n
seen (code_token n) = seen_code n
seen (text_token long units) = seen_text units
seen (block_length_token long n) = seen_block_length n
seen (prims_token ps) = seen_bytes (prims_spelling ps)
seen (bytes_token bytes) = seen_bytes bytes

-- the line of a raw value of this type, if it has one
abbrev pub raw_line : (values : Bool) → Option PrimCode → ℕ → ValueName → List ℕ → List ℕ → List ℕ
raw_line values c L name bytes k =
    begin_line L (name_text name (encode_lower bytes ++ bytes_word values c bytes (end_line k)))

-- the lines of so many raw elements of this size, from `i` on
abbrev pub raw_lines : (values : Bool) → Option PrimCode → ℕ → (i size left : ℕ) → List ℕ → List ℕ → List ℕ
raw_lines values c L i size zero bytes k = k
raw_lines values c L i size (suc n) bytes k =
    raw_line values c L (element_at i) (take size bytes) (raw_lines values c L (suc i) size n (drop size bytes) k)

-- the lines of so many raw elements, all of one size
abbrev pub raw_elements_lines : (values : Bool) → Option PrimCode → ℕ → (i left : ℕ) → List ℕ → List ℕ → List ℕ
raw_elements_lines values c L i n bytes k = raw_lines values c L i (length bytes / n) n bytes k

-- What is said of a token, for each cue of a settled teller. `e` is the number of the epoch, `n` is how many handles are known, `o` the owner whose
-- tag is the next.

abbrev pub header_says : SeenToken → List ℕ → List ℕ
header_says seen_header k = codes "stream version 5" ++ end_line k
header_says token k = k

abbrev pub top_says : ℕ → ℕ → OwnerNode → SeenToken → List ℕ → List ℕ
top_says e n o (seen_tag tag) k = tag_says e n o tag k
top_says e n o (seen_block_tag long) k = block_word long k
top_says e n o seen_reset_tag k = codes "reset" ++ end_line k
top_says e n o token k = k

abbrev pub note_says : ℕ → ℕ → OwnerNode → ℕ → SeenToken → List ℕ → List ℕ
note_says e n o L (seen_tag tag) k = begin_line L (codes "note " ++ tag_says e n o tag k)
note_says e n o L (seen_block_tag long) k = begin_line L (codes "note " ++ block_word long k)
note_says e n o L token k = k

abbrev pub handle_says : ℕ → SeenToken → List ℕ → List ℕ
handle_says e (seen_handle n) k = mark e n (end_line k)
handle_says e token k = k

abbrev pub string_says : SeenToken → List ℕ → List ℕ
string_says (seen_text units) k = quoted units (end_line k)
string_says token k = k

abbrev pub text_place_says : ℕ → ℕ → OwnerNode → SeenToken → List ℕ → List ℕ
text_place_says e n o (seen_tag tag) k = tag_says e n o tag k
text_place_says e n o token k = k

abbrev pub block_length_says : SeenToken → List ℕ → List ℕ
block_length_says (seen_block_length zero) k = decimal zero ++ (0x3A ∷ end_line k)
block_length_says (seen_block_length (suc n)) k = decimal (suc n) ++ (0x3A ∷ 0x20 ∷ k)
block_length_says token k = k

abbrev pub block_says : SeenToken → List ℕ → List ℕ
block_says (seen_bytes bytes) k = encode_lower bytes ++ end_line k
block_says token k = k

-- a tag whose line begins with this word
abbrev pub worded_says : ℕ → ℕ → OwnerNode → ℕ → (word : List ℕ) → SeenToken → List ℕ → List ℕ
worded_says e n o L word (seen_tag tag) k = begin_line L (word ++ tag_says e n o tag k)
worded_says e n o L word token k = k

-- a tag whose line begins with this name
abbrev pub named_says : ℕ → ℕ → OwnerNode → ℕ → ValueName → SeenToken → List ℕ → List ℕ
named_says e n o L name (seen_tag tag) k = begin_line L (name_text name (tag_says e n o tag k))
named_says e n o L name token k = k

abbrev pub elements_says : (values : Bool) → ℕ → ℕ → OwnerNode → ℕ → Option PrimCode → (i left : ℕ) → SeenToken → List ℕ → List ℕ
elements_says values e n o L c i left (seen_bytes bytes) k = raw_elements_lines values c L i left bytes k
elements_says values e n o L c i left (seen_tag tag) k = begin_line L (name_text (element_at i) (tag_says e n o tag k))
elements_says values e n o L c i left token k = k

abbrev pub raw_says : (values : Bool) → ℕ → NamedField → SeenToken → List ℕ → List ℕ
raw_says values L f (seen_bytes bytes) k = raw_line values (prim_code_of f.code) L (field_named f.name) bytes k
raw_says values L f token k = k

abbrev pub name_says : SeenToken → List ℕ → List ℕ
name_says (seen_text units) k = quoted units k
name_says token k = k

abbrev pub suid_says : SeenToken → List ℕ → List ℕ
suid_says (seen_suid n) k = codes " suid " ++ (encode_lower (big_bytes 8 n) ++ k)
suid_says token k = k

abbrev pub flags_says : SeenToken → List ℕ → List ℕ
flags_says (seen_flags n) k = codes " flags " ++ (encode_lower (n ∷ []) ++ end_line k)
flags_says token k = k

abbrev pub code_says : ℕ → SeenToken → List ℕ → List ℕ
code_says L (seen_code c) k = begin_line L (codes "field " ++ (c ∷ 0x20 ∷ k))
code_says L token k = k

abbrev pub interface_says : ℕ → SeenToken → List ℕ → List ℕ
interface_says L (seen_text units) k = begin_line L (codes "interface " ++ quoted units (end_line k))
interface_says L token k = k

abbrev pub parts_says : (values : Bool) → ℕ → ℕ → OwnerNode → ℕ → List SectionPart → SeenToken → List ℕ → List ℕ
parts_says values e n o L (raw_part f ∷ parts) token k = raw_says values (suc L) f token k
parts_says values e n o L (value_part name ∷ parts) token k = named_says e n o (suc L) name token k
parts_says values e n o L parts token k = k

abbrev pub says_at : Epoch → ℕ → OwnerNode → Cue → SeenToken → List ℕ → List ℕ
says_at e n o header_cue token k = header_says token k
says_at e n o top_cue token k = top_says e.number n o token k
says_at e n o (note_cue L) token k = note_says e.number n o L token k
says_at e n o handle_cue token k = handle_says e.number token k
says_at e n o string_cue token k = string_says token k
says_at e n o text_place_cue token k = text_place_says e.number n o token k
says_at e n o (name_cue L) token k = worded_says e.number n o L (codes "name ") token k
says_at e n o block_length_cue token k = block_length_says token k
says_at e n o block_cue token k = block_says token k
says_at e n o (elements_cue L c i left) token k = elements_says e.values e.number n o L c i left token k
says_at e n o (parts_cue L parts) token k = parts_says e.values e.number n o L parts token k
says_at e n o (class_cue owner L) token k = worded_says e.number n o L (codes "class ") token k
says_at e n o (class_handle_cue owner L) token k = handle_says e.number token k
says_at e n o (super_cue L number layer) token k = worded_says e.number n o L (codes "super ") token k
says_at e n o (super_handle_cue L number layer) token k = handle_says e.number token k
says_at e n o (class_name_cue L) token k = name_says token k
says_at e n o (suid_cue L name) token k = suid_says token k
says_at e n o (flags_cue L number name) token k = flags_says token k
says_at e n o (fields_cue L number name flags done left) token k = code_says L token k
says_at e n o (field_name_cue L number name flags done c left) token k = name_says token k
says_at e n o (interfaces_cue L number left) token k = interface_says L token k
says_at e n o cue token k = k

-- Where a token leads, for each cue; `cues` are the others.

abbrev pub header_goes : Epoch → Known → List OwnerNode → List Cue → SeenToken → Teller
header_goes e T os cues seen_header = teller e T os cues
header_goes e T os cues token = teller e T os (header_cue ∷ cues)

abbrev pub top_goes : Epoch → Known → List OwnerNode → List Cue → SeenToken → Teller
top_goes e T os cues (seen_tag tag) = begin e 0 T os tag (top_cue ∷ cues)
top_goes e T os cues (seen_block_tag long) = teller e T os (block_length_cue ∷ top_cue ∷ cues)
top_goes e T os cues seen_reset_tag = teller (next_epoch e) [] os (top_cue ∷ cues)
top_goes e T os cues token = teller e T os (top_cue ∷ cues)

abbrev pub note_goes : Epoch → Known → List OwnerNode → List Cue → ℕ → SeenToken → Teller
note_goes e T os cues L (seen_tag tag) = begin e L T os tag (note_cue L ∷ cues)
note_goes e T os cues L (seen_block_tag long) = teller e T os (block_length_cue ∷ note_cue L ∷ cues)
note_goes e T os cues L seen_end_tag = teller e T os cues
note_goes e T os cues L token = teller e T os (note_cue L ∷ cues)

abbrev pub handle_goes : Epoch → Known → List OwnerNode → List Cue → SeenToken → Teller
handle_goes e T os cues (seen_handle n) = teller e T os cues
handle_goes e T os cues token = teller e T os (handle_cue ∷ cues)

abbrev pub string_goes : Epoch → Known → List OwnerNode → List Cue → SeenToken → Teller
string_goes e T os cues (seen_text units) = teller e T os cues
string_goes e T os cues token = teller e T os (string_cue ∷ cues)

-- In the place of a type text only strings and references begin, so nothing else ever stands over the fields of a
-- descriptor.
abbrev pub text_tag_goes : Epoch → Known → List OwnerNode → List Cue → Tag → Teller
text_tag_goes e T os cues reference_tag = begin e 0 T os reference_tag cues
text_tag_goes e T os cues string_tag = begin e 0 T os string_tag cues
text_tag_goes e T os cues long_string_tag = begin e 0 T os long_string_tag cues
text_tag_goes e T os cues tag = teller e T os (text_place_cue ∷ cues)

abbrev pub text_place_goes : Epoch → Known → List OwnerNode → List Cue → SeenToken → Teller
text_place_goes e T os cues (seen_tag tag) = text_tag_goes e T os cues tag
text_place_goes e T os cues token = teller e T os (text_place_cue ∷ cues)

abbrev pub name_goes : Epoch → Known → List OwnerNode → List Cue → ℕ → SeenToken → Teller
name_goes e T os cues L (seen_tag tag) = begin e L T os tag cues
name_goes e T os cues L token = teller e T os (name_cue L ∷ cues)

abbrev pub block_length_goes : Epoch → Known → List OwnerNode → List Cue → SeenToken → Teller
block_length_goes e T os cues (seen_block_length zero) = teller e T os cues
block_length_goes e T os cues (seen_block_length (suc n)) = teller e T os (block_cue ∷ cues)
block_length_goes e T os cues token = teller e T os (block_length_cue ∷ cues)

abbrev pub block_goes : Epoch → Known → List OwnerNode → List Cue → SeenToken → Teller
block_goes e T os cues (seen_bytes bytes) = teller e T os cues
block_goes e T os cues token = teller e T os (block_cue ∷ cues)

abbrev pub length_goes : Epoch → Known → List OwnerNode → List Cue → ℕ → Option PrimCode → SeenToken → Teller
length_goes e T os cues L c (seen_array_length n) = teller e T os (elements_cue L c 0 n ∷ cues)
length_goes e T os cues L c token = teller e T os (length_cue L c ∷ cues)

abbrev pub elements_goes : Epoch → Known → List OwnerNode → List Cue → ℕ → Option PrimCode → (i left : ℕ) → SeenToken → Teller
elements_goes e T os cues L c i left (seen_bytes bytes) = teller e T os cues
elements_goes e T os cues L c i (suc left) (seen_tag tag) =
    begin e L T os tag (elements_cue L c (suc i) left ∷ cues)
elements_goes e T os cues L c i left token = teller e T os (elements_cue L c i left ∷ cues)

abbrev pub raw_goes : Epoch → Known → List OwnerNode → List Cue → ℕ → NamedField → List SectionPart → SeenToken → Teller
raw_goes e T os cues L f parts (seen_bytes bytes) = teller e T os (parts_cue L parts ∷ cues)
raw_goes e T os cues L f parts token = teller e T os (parts_cue L (raw_part f ∷ parts) ∷ cues)

abbrev pub value_goes : Epoch → Known → List OwnerNode → List Cue → ℕ → ValueName → List SectionPart → SeenToken → Teller
value_goes e T os cues L name parts (seen_tag tag) = begin e (suc L) T os tag (parts_cue L parts ∷ cues)
value_goes e T os cues L name parts token = teller e T os (parts_cue L (value_part name ∷ parts) ∷ cues)

abbrev pub parts_goes : Epoch → Known → List OwnerNode → List Cue → ℕ → List SectionPart → SeenToken → Teller
parts_goes e T os cues L (raw_part f ∷ parts) token = raw_goes e T os cues L f parts token
parts_goes e T os cues L (value_part name ∷ parts) token = value_goes e T os cues L name parts token
parts_goes e T os cues L parts token = teller e T os (parts_cue L parts ∷ cues)

abbrev pub class_tag_goes : Epoch → Known → List OwnerNode → List Cue → Owner → ℕ → Tag → Teller
class_tag_goes e T os cues owner L class_desc_tag =
    teller e T os (class_name_cue (suc L) ∷ made_cue owner L (length T) ∷ cues)
class_tag_goes e T os cues owner L proxy_desc_tag =
    teller e (with_entry T known_pending) os
    (interface_count_cue (suc L) (length T) ∷ made_cue owner L (length T) ∷ cues)
class_tag_goes e T os cues owner L tag = teller e T os (class_handle_cue owner L ∷ cues)

abbrev pub class_goes : Epoch → Known → List OwnerNode → List Cue → Owner → ℕ → SeenToken → Teller
class_goes e T os cues owner L (seen_tag tag) = class_tag_goes e T os cues owner L tag
class_goes e T os cues owner L token = teller e T os (class_cue owner L ∷ cues)

abbrev pub class_handle_goes : Epoch → Known → List OwnerNode → List Cue → Owner → ℕ → SeenToken → Teller
class_handle_goes e T os cues owner L (seen_handle n) = teller e T os (made_cue owner L n ∷ cues)
class_handle_goes e T os cues owner L token = teller e T os (class_handle_cue owner L ∷ cues)

abbrev pub super_tag_goes : Epoch → Known → List OwnerNode → List Cue → ℕ → ℕ → NamedLayer → Tag → Teller
super_tag_goes e T os cues L number layer null_tag = teller e (slice_set T number (known_class (layer ∷ []))) os cues
super_tag_goes e T os cues L number layer class_desc_tag =
    teller e T os (class_name_cue (suc L) ∷ close_cue number (length T) layer ∷ cues)
super_tag_goes e T os cues L number layer proxy_desc_tag =
    teller e (with_entry T known_pending) os
    (interface_count_cue (suc L) (length T) ∷ close_cue number (length T) layer ∷ cues)
super_tag_goes e T os cues L number layer tag = teller e T os (super_handle_cue L number layer ∷ cues)

abbrev pub super_goes : Epoch → Known → List OwnerNode → List Cue → ℕ → ℕ → NamedLayer → SeenToken → Teller
super_goes e T os cues L number layer (seen_tag tag) = super_tag_goes e T os cues L number layer tag
super_goes e T os cues L number layer token = teller e T os (super_cue L number layer ∷ cues)

abbrev pub super_handle_goes : Epoch → Known → List OwnerNode → List Cue → ℕ → ℕ → NamedLayer → SeenToken → Teller
super_handle_goes e T os cues L number layer (seen_handle n) = teller e T os (close_cue number n layer ∷ cues)
super_handle_goes e T os cues L number layer token = teller e T os (super_handle_cue L number layer ∷ cues)

abbrev pub class_name_goes : Epoch → Known → List OwnerNode → List Cue → ℕ → SeenToken → Teller
class_name_goes e T os cues L (seen_text units) = teller e T os (suid_cue L units ∷ cues)
class_name_goes e T os cues L token = teller e T os (class_name_cue L ∷ cues)

abbrev pub suid_goes : Epoch → Known → List OwnerNode → List Cue → ℕ → List ℕ → SeenToken → Teller
suid_goes e T os cues L name (seen_suid n) =
    teller e (with_entry T known_pending) os (flags_cue L (length T) name ∷ cues)
suid_goes e T os cues L name token = teller e T os (suid_cue L name ∷ cues)

abbrev pub flags_goes : Epoch → Known → List OwnerNode → List Cue → ℕ → ℕ → List ℕ → SeenToken → Teller
flags_goes e T os cues L number name (seen_flags n) = teller e T os (field_count_cue L number name n ∷ cues)
flags_goes e T os cues L number name token = teller e T os (flags_cue L number name ∷ cues)

abbrev pub field_count_goes : Epoch → Known → List OwnerNode → List Cue → ℕ → ℕ → List ℕ → ℕ → SeenToken → Teller
field_count_goes e T os cues L number name flags (seen_field_count n) =
    teller e T os (fields_cue L number name flags [] n ∷ cues)
field_count_goes e T os cues L number name flags token = teller e T os (field_count_cue L number name flags ∷ cues)

abbrev pub code_goes : Epoch → Known → List OwnerNode → List Cue → ℕ → ℕ → List ℕ → ℕ → List NamedField → (left : ℕ) → SeenToken → Teller
code_goes e T os cues L number name flags done (suc n) (seen_code c) =
    teller e T os (field_name_cue L number name flags done c n ∷ cues)
code_goes e T os cues L number name flags done n token =
    teller e T os (fields_cue L number name flags done n ∷ cues)

abbrev pub field_name_goes : Epoch → Known → List OwnerNode → List Cue → ℕ → ℕ → List ℕ → ℕ → List NamedField → (code left : ℕ) → SeenToken → Teller
field_name_goes e T os cues L number name flags done c n (seen_text units) =
    teller e T os
    (type_cue (is_object_code c) ∷ fields_cue L number name flags (record { code = c; name = units } ∷ done) n ∷ cues)
field_name_goes e T os cues L number name flags done c n token =
    teller e T os (field_name_cue L number name flags done c n ∷ cues)

abbrev pub interface_count_goes : Epoch → Known → List OwnerNode → List Cue → ℕ → ℕ → SeenToken → Teller
interface_count_goes e T os cues L number (seen_interface_count n) =
    teller e T os (interfaces_cue L number n ∷ cues)
interface_count_goes e T os cues L number token = teller e T os (interface_count_cue L number ∷ cues)

abbrev pub interface_goes : Epoch → Known → List OwnerNode → List Cue → ℕ → ℕ → (left : ℕ) → SeenToken → Teller
interface_goes e T os cues L number (suc n) (seen_text units) = teller e T os (interfaces_cue L number n ∷ cues)
interface_goes e T os cues L number n token = teller e T os (interfaces_cue L number n ∷ cues)

abbrev pub goes_at : Epoch → Known → List OwnerNode → Cue → List Cue → SeenToken → Teller
goes_at e T os header_cue cues token = header_goes e T os cues token
goes_at e T os top_cue cues token = top_goes e T os cues token
goes_at e T os (note_cue L) cues token = note_goes e T os cues L token
goes_at e T os handle_cue cues token = handle_goes e T os cues token
goes_at e T os string_cue cues token = string_goes e T os cues token
goes_at e T os text_place_cue cues token = text_place_goes e T os cues token
goes_at e T os (name_cue L) cues token = name_goes e T os cues L token
goes_at e T os block_length_cue cues token = block_length_goes e T os cues token
goes_at e T os block_cue cues token = block_goes e T os cues token
goes_at e T os (length_cue L c) cues token = length_goes e T os cues L c token
goes_at e T os (elements_cue L c i n) cues token = elements_goes e T os cues L c i n token
goes_at e T os (parts_cue L parts) cues token = parts_goes e T os cues L parts token
goes_at e T os (class_cue owner L) cues token = class_goes e T os cues owner L token
goes_at e T os (class_handle_cue owner L) cues token = class_handle_goes e T os cues owner L token
goes_at e T os (super_cue L number layer) cues token = super_goes e T os cues L number layer token
goes_at e T os (super_handle_cue L number layer) cues token = super_handle_goes e T os cues L number layer token
goes_at e T os (class_name_cue L) cues token = class_name_goes e T os cues L token
goes_at e T os (suid_cue L name) cues token = suid_goes e T os cues L name token
goes_at e T os (flags_cue L number name) cues token = flags_goes e T os cues L number name token
goes_at e T os (field_count_cue L number name flags) cues token = field_count_goes e T os cues L number name flags token
goes_at e T os (fields_cue L number name flags done n) cues token = code_goes e T os cues L number name flags done n token
goes_at e T os (field_name_cue L number name flags done c n) cues token =
    field_name_goes e T os cues L number name flags done c n token
goes_at e T os (interface_count_cue L number) cues token = interface_count_goes e T os cues L number token
goes_at e T os (interfaces_cue L number n) cues token = interface_goes e T os cues L number n token
goes_at e T os cue cues token = teller e T os (cue ∷ cues)

abbrev pub says_in : Epoch → ℕ → OwnerNode → List Cue → SeenToken → List ℕ → List ℕ
says_in e n o [] token k = k
says_in e n o (cue ∷ cues) token k = says_at e n o cue token k

abbrev pub says : Teller → StreamToken → List ℕ → List ℕ
says s token k = says_in s.epoch (length s.known) (first_owner s.owners) s.cues (seen token) k

abbrev pub goes_in : Epoch → Known → List OwnerNode → List Cue → SeenToken → Teller
goes_in e T os [] token = teller e T os []
goes_in e T os (cue ∷ cues) token = goes_at e T os cue cues token

abbrev pub goes : Teller → StreamToken → Teller
goes s token = goes_in s.epoch s.known s.owners s.cues (seen token)

-- what a teller says along these tokens
abbrev pub tell : Teller → List Piece → List ℕ
tell s [] = settle_says s.known s.cues []
tell s (piece label token ∷ rest) =
    settle_says s.known s.cues (says (settled s) token (tell (goes (settled s) token) rest))

abbrev pub begin_telling : (values : Bool) → List OwnerNode → Teller
begin_telling values os = teller (first_epoch values) [] os (header_cue ∷ top_cue ∷ [])

-- the settled teller after these tokens
abbrev pub teller_after : Teller → List Piece → Teller
teller_after s [] = settled s
teller_after s (piece label token ∷ rest) = teller_after (goes (settled s) token) rest
