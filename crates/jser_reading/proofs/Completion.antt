-- Every state of the machine but one just behind the tag of a reference can be read to an end: a goal that waits
-- for a handle may have none that fits, and every other goal has a token that finishes it. The tokens are those of
-- the emptiest stream: empty texts and counts, suid 0, zero raw values, null values, ends of annotations.
use Rattle.std.proofs.Common.{◌≡◌, ℕ, zero, suc, ◌^◌, ◌<◌, Bool, true, false, ◌||◌, List, [], ◌∷◌, ◌++◌, length, refl, ap, Option, Some, None}
use Rattle.jser_reading.proofs.Vocabulary.{text_entry, other_entry, pending_entry, chain_at, NameKind, name_kind, Layer, PrimCode, byte_code, char_code, double_code, float_code, int_code, long_code, short_code, boolean_code, size_of, PrimTree, proxy_layer, IsClassName, IsFlags, ArePrimsOf, IsBytes, elements_of, is_external, Owner, object_owner, array_owner, enum_owner, class_owner, ChainOwner, Role, own_class, superclass, owner_of, is_strict_above, NameFits, FlagsFit, Moment, tick, assign, closing, next_number, null_tag, class_desc_tag, string_tag, StreamToken, header_token, tag_token, end_tag_token, suid_token, flags_token, field_count_token, interface_count_token, array_length_token, code_token, text_token, block_length_token, prims_token, bytes_token, header_at, annotation_at, value_at, text_place_at, class_place_at, superclass_place_at, string_at, class_name_at, field_name_at, interface_name_at, suid_at, field_count_at, interface_count_at, array_length_at, flags_at, type_code_at, block_length_at, raw_at, bytes_at, Piece, piece, at, Part, raw_part, value_part, annotation_part, Goal, header_goal, top_goal, annotation_goal, back_handle_goal, text_place_goal, text_handle_goal, field_name_goal, string_goal, block_length_goal, block_goal, array_length_goal, parts_goal, class_goal, class_handle_goal, made_goal, superclass_goal, superclass_handle_goal, close_goal, class_name_goal, suid_goal, flags_goal, field_count_goal, fields_goal, interface_count_goal, interfaces_goal, State, object_parts, body_parts, read_layer, ending, settled, label_of, Accepts, advance, IsDone, Reads}
use Rattle.std.proofs.Common.{lit<}
use Rattle.jser_prim.specs.ModifiedUtf8.{unit_spelling}
use Rattle.jser_reading.proofs.TreeToMachine.{resettle, reads_made, owner_goals}

-- a stack with the top at its bottom, and no handle waited for
abbrev pub Open : List Goal → Type 0
Open [] = ⊥
Open (top_goal ∷ gs) = gs ≡ []
Open (back_handle_goal d ∷ gs) = ⊥
Open (text_handle_goal d ∷ gs) = ⊥
Open (class_handle_goal owner d ∷ gs) = ⊥
Open (superclass_handle_goal owner strict d number l ∷ gs) = ⊥
Open (g ∷ gs) = Open gs

-- at any moment some tokens bring the stack to its end
abbrev pub Completes : List Goal → Type 0
Completes gs = (m : Moment) → (fs : List Piece) × Reads (m, gs) fs

complete_header : (gs : List Goal) → Completes gs → Completes (header_goal ∷ gs)
complete_header gs c m = let x = c m in (at header_at 0 m header_token ∷ x.0, (refl, tt, x.1))

complete_annotation : (d : ℕ) (gs : List Goal) → Completes gs → Completes (annotation_goal d ∷ gs)
complete_annotation d gs c m = let x = c m in (at annotation_at (suc d) m end_tag_token ∷ x.0, (refl, tt, x.1))

complete_string : (long : Bool) (d : ℕ) (gs : List Goal) → Completes gs → Completes (string_goal long d ∷ gs)
complete_string true d gs c m = let x = c m in (at (string_at true) d m (text_token true []) ∷ x.0, (refl, (refl, lit< tt), x.1))
complete_string false d gs c m =
    let x = c m in (at (string_at false) d m (text_token false []) ∷ x.0, (refl, (refl, lit< tt), x.1))

complete_field_name : (d : ℕ) (gs : List Goal) → Completes gs → Completes (field_name_goal d ∷ gs)
complete_field_name d gs c m = let x = c m in (at field_name_at d m (text_token false []) ∷ x.0, (refl, (refl, lit< tt), x.1))

complete_text_place : (d : ℕ) (gs : List Goal) → Completes gs → Completes (text_place_goal d ∷ gs)
complete_text_place d gs c m =
    let x =
    complete_string false d gs c (assign m text_entry) in
    (at text_place_at d m (tag_token string_tag) ∷ x.0, (refl, tt, x.1))

-- zero raw values and bytes

abbrev zero_prims : PrimCode → ℕ → List PrimTree
zero_prims c zero = []
zero_prims c (suc n) = record { code = c; bits = 0 } ∷ zero_prims c n

zero_fits : (c : PrimCode) → 0 < 256 ^ size_of c
zero_fits byte_code = lit< tt
zero_fits char_code = lit< tt
zero_fits double_code = lit< tt
zero_fits float_code = lit< tt
zero_fits int_code = lit< tt
zero_fits long_code = lit< tt
zero_fits short_code = lit< tt
zero_fits boolean_code = lit< tt

zero_prims_fit : (c : PrimCode) (n : ℕ) → ArePrimsOf c (zero_prims c n)
zero_prims_fit c zero = tt
zero_prims_fit c (suc n) = ((refl, zero_fits c), zero_prims_fit c n)

length-zero_prims : (c : PrimCode) (n : ℕ) → length (zero_prims c n) ≡ n
length-zero_prims c zero = refl
length-zero_prims c (suc n) = ap (λ k. suc k) (length-zero_prims c n)

abbrev zero_bytes : ℕ → List ℕ
zero_bytes zero = []
zero_bytes (suc n) = 0 ∷ zero_bytes n

zero_bytes_fit : (n : ℕ) → IsBytes (zero_bytes n)
zero_bytes_fit zero = refl
zero_bytes_fit (suc n) = zero_bytes_fit n

length-zero_bytes : (n : ℕ) → length (zero_bytes n) ≡ n
length-zero_bytes zero = refl
length-zero_bytes (suc n) = ap (λ k. suc k) (length-zero_bytes n)

complete_block : (d n : ℕ) (gs : List Goal) → Completes gs → Completes (block_goal d n ∷ gs)
complete_block d zero gs c m = let x = c m in (x.0, resettle x.0 (m, gs) (m, block_goal d 0 ∷ gs) refl x.1)
complete_block d (suc n) gs c m =
    let x = c m in (
      at (bytes_at (suc n)) d m (bytes_token (zero_bytes (suc n))) ∷ x.0,
      (refl, (zero_bytes_fit (suc n), length-zero_bytes (suc n)), x.1),
    )

complete_block_length : (long : Bool) (d : ℕ) (gs : List Goal) → Completes gs → Completes (block_length_goal long d ∷ gs)
complete_block_length true d gs c m =
    let x = complete_block d 0 gs c m in (at (block_length_at true) d m (block_length_token true 0) ∷ x.0, (refl, lit< tt, x.1))
complete_block_length false d gs c m =
    let x = complete_block d 0 gs c m in
    (at (block_length_at false) d m (block_length_token false 0) ∷ x.0, (refl, lit< tt, x.1))

complete_parts : (parts : List Part) (d : ℕ) (gs : List Goal) → Completes gs → Completes (parts_goal d parts ∷ gs)
complete_parts [] d gs c m = let x = c m in (x.0, resettle x.0 (m, gs) (m, parts_goal d [] ∷ gs) refl x.1)
complete_parts (raw_part k zero ∷ parts) d gs c m =
    let x =
    complete_parts parts d gs c m in
    (x.0, resettle x.0 (m, parts_goal d parts ∷ gs) (m, parts_goal d (raw_part k zero ∷ parts) ∷ gs) refl x.1)
complete_parts (raw_part k (suc n) ∷ parts) d gs c m =
    let x = complete_parts parts d gs c m in (
      at (raw_at k (suc n)) d m (prims_token (zero_prims k (suc n))) ∷ x.0,
      (refl, (length-zero_prims k (suc n), zero_prims_fit k (suc n)), x.1),
    )
complete_parts (value_part ∷ parts) d gs c m =
    let x = complete_parts parts d gs c (tick m) in (at value_at (suc d) m (tag_token null_tag) ∷ x.0, (refl, tt, x.1))
complete_parts (annotation_part ∷ parts) d gs c m =
    let x = complete_parts parts d gs c m in (at annotation_at (suc d) m end_tag_token ∷ x.0, (refl, tt, x.1))

complete_array_length : (elements : Option PrimCode) (d : ℕ) (gs : List Goal) → Completes gs
    → Completes (array_length_goal elements d ∷ gs)
complete_array_length elements d gs c m =
    let x =
    complete_parts (body_parts elements 0) d gs c m in
    (at array_length_at d m (array_length_token 0) ∷ x.0, (refl, lit< tt, x.1))

complete_owner : (owner : Owner) (d : ℕ) (chain : List Layer) (gs : List Goal) → Completes gs
    → Completes (owner_goals owner d chain gs)
complete_owner object_owner d chain gs c = complete_parts (object_parts (is_external chain) chain) d gs c
complete_owner array_owner d chain gs c = complete_array_length (elements_of chain) d gs c
complete_owner enum_owner d chain gs c = complete_text_place d gs c
complete_owner class_owner d chain gs c = c

complete_made : (owner : Owner) (d number : ℕ) (gs : List Goal) → Completes gs → Completes (made_goal owner d number ∷ gs)
complete_made owner d number gs c m =
    let x =
    complete_owner owner d (chain_at m.table number) gs c (assign m other_entry) in
    (x.0, reads_made owner d number m gs x.0 x.1)

-- descriptors

complete_superclass : (owner : ChainOwner) (strict : Bool) (d number : ℕ) (l : Layer) (gs : List Goal) → Completes gs
    → Completes (superclass_goal owner strict d number l ∷ gs)
complete_superclass owner strict d number l gs c m =
    let x =
    c (closing (tick m) number (l ∷ [])) in
    (at (superclass_place_at owner strict) d m (tag_token null_tag) ∷ x.0, (refl, tt, x.1))

complete_close : (number parent : ℕ) (l : Layer) (gs : List Goal) → Completes gs → Completes (close_goal number parent l ∷ gs)
complete_close number parent l gs c m =
    let m' = closing m number (chain_at m.table parent ++ (l ∷ [])) in
    let x = c m' in (x.0, resettle x.0 (m', gs) (m, close_goal number parent l ∷ gs) refl x.1)

complete_ending : (role : Role) (d number flags : ℕ) (l : Layer) (gs : List Goal) → Completes gs
    → Completes (ending role d number flags l gs)
complete_ending role d number flags l gs c =
    let strict = is_strict_above role flags in
    complete_annotation d (superclass_goal (owner_of role) strict (suc d) number l ∷ gs)
    (complete_superclass (owner_of role) strict (suc d) number l gs c)

complete_fields : (n : ℕ) (role : Role) (d number : ℕ) (kind : NameKind) (flags : ℕ) (seen : Bool) (codes : List ℕ)
    (gs : List Goal) → Completes gs
    → Completes (fields_goal role d number kind flags seen codes n ∷ gs)
complete_fields zero role d number kind flags seen codes gs c m =
    let l = read_layer kind flags codes in
    let x = complete_ending role d number flags l gs c m in
    (x.0, resettle x.0 (m, ending role d number flags l gs) (m, fields_goal role d number kind flags seen codes 0 ∷ gs) refl x.1)
complete_fields (suc n) role d number kind flags seen codes gs c m =
    let rest : List Goal = fields_goal role d number kind flags (seen || true) (0x4C ∷ codes) n ∷ gs in
    let x =
    complete_field_name d (text_place_goal d ∷ rest)
    (complete_text_place d rest
    (λ m'. complete_fields n role d number kind flags (seen || true) (0x4C ∷ codes) gs c m')) m in
    (at (type_code_at seen) d m (code_token 0x4C) ∷ x.0, (refl, refl, x.1))

complete_field_count : (role : Role) (d number : ℕ) (kind : NameKind) (flags : ℕ) (gs : List Goal) → Completes gs
    → Completes (field_count_goal role d number kind flags ∷ gs)
complete_field_count role d number kind flags gs c m =
    let x =
    complete_fields 0 role d number kind flags false [] gs c m in
    (at field_count_at d m (field_count_token 0) ∷ x.0, (refl, lit< tt, x.1))

-- flags 02, and 12 for an enum constant
abbrev flags_for : Role → ℕ
flags_for (own_class None) = 0x02
flags_for (own_class (Some object_owner)) = 0x02
flags_for (own_class (Some array_owner)) = 0x02
flags_for (own_class (Some enum_owner)) = 0x12
flags_for (own_class (Some class_owner)) = 0x02
flags_for (superclass owner strict) = 0x02

flags_for_fit : (role : Role) → IsFlags (flags_for role) × FlagsFit role (flags_for role)
flags_for_fit (own_class None) = ((lit< tt, refl), tt)
flags_for_fit (own_class (Some object_owner)) = ((lit< tt, refl), refl)
flags_for_fit (own_class (Some array_owner)) = ((lit< tt, refl), tt)
flags_for_fit (own_class (Some enum_owner)) = ((lit< tt, refl), refl)
flags_for_fit (own_class (Some class_owner)) = ((lit< tt, refl), tt)
flags_for_fit (superclass owner true) = ((lit< tt, refl), refl)
flags_for_fit (superclass owner false) = ((lit< tt, refl), tt)

-- the empty name, and `[I` for an array
abbrev name_for : Role → List ℕ
name_for (own_class None) = []
name_for (own_class (Some object_owner)) = []
name_for (own_class (Some array_owner)) = 0x5B ∷ 0x49 ∷ []
name_for (own_class (Some enum_owner)) = []
name_for (own_class (Some class_owner)) = []
name_for (superclass owner strict) = []

name_for_fits : (role : Role) → IsClassName (name_for role) × NameFits role (name_kind (name_for role))
unfolding unit_spelling
name_for_fits (own_class None) = (((refl, lit< tt), refl), tt)
name_for_fits (own_class (Some object_owner)) = (((refl, lit< tt), refl), tt)
name_for_fits (own_class (Some array_owner)) = (((refl, lit< tt), refl), tt)
name_for_fits (own_class (Some enum_owner)) = (((refl, lit< tt), refl), tt)
name_for_fits (own_class (Some class_owner)) = (((refl, lit< tt), refl), tt)
name_for_fits (superclass owner strict) = (((refl, lit< tt), refl), tt)

complete_flags : (role : Role) (d number : ℕ) (kind : NameKind) (gs : List Goal) → Completes gs
    → Completes (flags_goal role d number kind ∷ gs)
complete_flags role d number kind gs c m =
    let x =
    complete_field_count role d number kind (flags_for role) gs c m in
    (at (flags_at role) d m (flags_token (flags_for role)) ∷ x.0, (refl, flags_for_fit role, x.1))

complete_suid : (role : Role) (d : ℕ) (kind : NameKind) (gs : List Goal) → Completes gs → Completes (suid_goal role d kind ∷ gs)
complete_suid role d kind gs c m =
    let x =
    complete_flags role d (next_number m) kind gs c (assign m pending_entry) in
    (at suid_at d m (suid_token 0) ∷ x.0, (refl, lit< tt, x.1))

complete_class_name : (role : Role) (d : ℕ) (gs : List Goal) → Completes gs → Completes (class_name_goal role d ∷ gs)
complete_class_name role d gs c m =
    let x =
    complete_suid role d (name_kind (name_for role)) gs c m in
    (at (class_name_at role) d m (text_token false (name_for role)) ∷ x.0, (refl, name_for_fits role, x.1))

complete_interfaces : (n : ℕ) (role : Role) (d number : ℕ) (gs : List Goal) → Completes gs
    → Completes (interfaces_goal role d number n ∷ gs)
complete_interfaces zero role d number gs c m =
    let x = complete_ending role d number 0 proxy_layer gs c m in
    (x.0, resettle x.0 (m, ending role d number 0 proxy_layer gs) (m, interfaces_goal role d number 0 ∷ gs) refl x.1)
complete_interfaces (suc n) role d number gs c m =
    let x =
    complete_interfaces n role d number gs c m in
    (at interface_name_at d m (text_token false []) ∷ x.0, (refl, ((refl, lit< tt), refl), x.1))

complete_interface_count : (role : Role) (d number : ℕ) (gs : List Goal) → Completes gs
    → Completes (interface_count_goal role d number ∷ gs)
complete_interface_count role d number gs c m =
    let x =
    complete_interfaces 0 role d number gs c m in
    (at interface_count_at d m (interface_count_token 0) ∷ x.0, (refl, lit< tt, x.1))

complete_class : (owner : Owner) (d : ℕ) (gs : List Goal) → Completes gs → Completes (class_goal owner d ∷ gs)
complete_class owner d gs c m =
    let x =
    complete_class_name (own_class (Some owner)) d (made_goal owner d (next_number m) ∷ gs)
    (complete_made owner d (next_number m) gs c) m in
    (at (class_place_at owner) d m (tag_token class_desc_tag) ∷ x.0, (refl, tt, x.1))

pub complete : (gs : List Goal) → Open gs → Completes gs
complete [] o m = absurd o
complete (header_goal ∷ gs) o m = complete_header gs (λ m'. complete gs o m') m
complete (top_goal ∷ gs) o m = ([], ap (λ g. top_goal ∷ g) o)
complete (annotation_goal d ∷ gs) o m = complete_annotation d gs (λ m'. complete gs o m') m
complete (back_handle_goal d ∷ gs) o m = absurd o
complete (text_place_goal d ∷ gs) o m = complete_text_place d gs (λ m'. complete gs o m') m
complete (text_handle_goal d ∷ gs) o m = absurd o
complete (field_name_goal d ∷ gs) o m = complete_field_name d gs (λ m'. complete gs o m') m
complete (string_goal long d ∷ gs) o m = complete_string long d gs (λ m'. complete gs o m') m
complete (block_length_goal long d ∷ gs) o m = complete_block_length long d gs (λ m'. complete gs o m') m
complete (block_goal d n ∷ gs) o m = complete_block d n gs (λ m'. complete gs o m') m
complete (array_length_goal elements d ∷ gs) o m = complete_array_length elements d gs (λ m'. complete gs o m') m
complete (parts_goal d parts ∷ gs) o m = complete_parts parts d gs (λ m'. complete gs o m') m
complete (class_goal owner d ∷ gs) o m = complete_class owner d gs (λ m'. complete gs o m') m
complete (class_handle_goal owner d ∷ gs) o m = absurd o
complete (made_goal owner d number ∷ gs) o m = complete_made owner d number gs (λ m'. complete gs o m') m
complete (superclass_goal owner strict d number l ∷ gs) o m =
    complete_superclass owner strict d number l gs (λ m'. complete gs o m') m
complete (superclass_handle_goal owner strict d number l ∷ gs) o m = absurd o
complete (close_goal number parent l ∷ gs) o m = complete_close number parent l gs (λ m'. complete gs o m') m
complete (class_name_goal role d ∷ gs) o m = complete_class_name role d gs (λ m'. complete gs o m') m
complete (suid_goal role d kind ∷ gs) o m = complete_suid role d kind gs (λ m'. complete gs o m') m
complete (flags_goal role d number kind ∷ gs) o m = complete_flags role d number kind gs (λ m'. complete gs o m') m
complete (field_count_goal role d number kind flags ∷ gs) o m =
    complete_field_count role d number kind flags gs (λ m'. complete gs o m') m
complete (fields_goal role d number kind flags seen codes n ∷ gs) o m =
    complete_fields n role d number kind flags seen codes gs (λ m'. complete gs o m') m
complete (interface_count_goal role d number ∷ gs) o m = complete_interface_count role d number gs (λ m'. complete gs o m') m
complete (interfaces_goal role d number n ∷ gs) o m = complete_interfaces n role d number gs (λ m'. complete gs o m') m

-- and with one token more, where the stream could end
pub complete_more : (s : State) (fs : List Piece) → Reads s fs → (f : StreamToken) × (rest : List Piece)
    × Reads s (piece (label_of (settled s)) f ∷ rest)
complete_more s [] h = (tag_token null_tag, [], more (settled s) h)
  where
    more : (t : State) → IsDone t → (label_of t ≡ label_of t) × Accepts (label_of t) (tag_token null_tag)
        × Reads (advance t (tag_token null_tag)) []
    more (m, gs) e = rw e (refl, tt, refl)
complete_more s (piece l f ∷ rest) h = (f, rest, (refl, h.1, h.2))
