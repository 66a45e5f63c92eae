-- Whether the format takes a token is decided, position by position.
use Rattle.std.proofs.Common.{◌≡◌, ℕ, zero, suc, ◌+◌, ◌^◌, Bool, true, false, ◌&&◌, if◌then◌else◌, List, [], ◌∷◌, length, refl, sym, ◌∙◌, ap, ap₂, Some, None, IsTrue, IsFalse, nat_lt, slice_get, true≢false}
use Rattle.jser_reading.proofs.Vocabulary.{is_serializable, is_externalizable, has_block_data, is_enum, all_serial, is_text, is_closed, chain_at, fits, NameKind, plain_name, array_name, malformed_name, name_kind, Layer, modified_utf8, PrimCode, byte_code, char_code, double_code, float_code, int_code, long_code, short_code, boolean_code, letter_of, size_of, prim_code_of, PrimTree, Entries, text_bound, IsText, is_malformed, IsClassName, IsHandle, IsBackToClass, ArePrimsOf, block_bound, Owner, object_owner, array_owner, enum_owner, class_owner, ChainOwner, Role, own_class, superclass, FitsOwner, FitsRole, NameFits, FlagsFit, ProxyFitsOwner, Moment, null_tag, reference_tag, class_desc_tag, string_tag, long_string_tag, proxy_desc_tag, StreamToken, header_token, tag_token, block_tag_token, end_tag_token, reset_tag_token, handle_token, suid_token, flags_token, field_count_token, interface_count_token, array_length_token, code_token, text_token, block_length_token, prims_token, bytes_token, Position, header_at, top_at, annotation_at, value_at, text_place_at, class_place_at, superclass_place_at, back_handle_at, text_handle_at, class_handle_at, superclass_handle_at, string_at, class_name_at, field_name_at, interface_name_at, suid_at, field_count_at, interface_count_at, array_length_at, flags_at, type_code_at, block_length_at, raw_at, bytes_at, may_follow, AcceptsAt}
use Rattle.std.specs.List.{list_all}
use Rattle.std.proofs.Math.Decide.{dec_lt, ℕ_discrete}
use Rattle.jser_table.specs.declared.layer.Purpose.TheVariants as purpose
use Rattle.jser_grammar.proofs.Bools.{untrue}

decide_true : (b : Bool) → Dec (IsTrue b)
decide_true true = yes refl
decide_true false = no (λ h. untrue h)

decide_false : (b : Bool) → Dec (IsFalse b)
decide_false true = no (λ h. true≢false h)
decide_false false = yes refl

decide_both : {A B : Type 0} → Dec A → Dec B → Dec (A × B)
decide_both (yes a) (yes b) = yes (a, b)
decide_both (yes a) (no h) = no (λ p. h p.1)
decide_both (no h) b = no (λ p. h p.0)

decide_text : (long : Bool) (units : List ℕ) → Dec (IsText long units)
decide_text long units =
    decide_both (decide_true (list_all (λ unit. nat_lt unit 0x10000) units))
    (dec_lt (length (modified_utf8 units)) (text_bound long))

decide_class_name : (units : List ℕ) → Dec (IsClassName units)
decide_class_name units = decide_both (decide_text false units) (decide_false (is_malformed (name_kind units)))

decide_handle : (n : ℕ) → Dec (IsHandle n)
decide_handle n = dec_lt (0x7E0000 + n) (2 ^ 32)

decide_class : (T : Entries) (n : ℕ) → Dec (IsBackToClass T n)
decide_class T n = decide_both (decide_true (is_closed (slice_get T n))) (decide_handle n)

decide_owner : (owner : Owner) (chain : List Layer) → Dec (FitsOwner owner chain)
decide_owner object_owner chain = decide_true (fits purpose.Object chain)
decide_owner array_owner chain = decide_true (fits purpose.Array chain)
decide_owner enum_owner chain = decide_true (fits purpose.EnumConst chain)
decide_owner class_owner chain = yes tt

decide_superclass : (owner : ChainOwner) (strict : Bool) (chain : List Layer) → Dec (FitsRole (superclass owner strict) chain)
decide_superclass owner true chain = decide_true (all_serial chain)
decide_superclass owner false chain = yes tt

decide_name : (role : Role) (kind : NameKind) → Dec (NameFits role kind)
decide_name (own_class None) kind = yes tt
decide_name (own_class (Some object_owner)) plain_name = yes tt
decide_name (own_class (Some object_owner)) (array_name elements) = no (λ h. h)
decide_name (own_class (Some object_owner)) malformed_name = no (λ h. h)
decide_name (own_class (Some array_owner)) plain_name = no (λ h. h)
decide_name (own_class (Some array_owner)) (array_name elements) = yes tt
decide_name (own_class (Some array_owner)) malformed_name = no (λ h. h)
decide_name (own_class (Some enum_owner)) kind = yes tt
decide_name (own_class (Some class_owner)) kind = yes tt
decide_name (superclass owner strict) kind = yes tt

decide_flags : (role : Role) (flags : ℕ) → Dec (FlagsFit role flags)
decide_flags (own_class None) flags = yes tt
decide_flags (own_class (Some object_owner)) flags =
    decide_true (if is_externalizable flags then has_block_data flags else is_serializable flags)
decide_flags (own_class (Some array_owner)) flags = yes tt
decide_flags (own_class (Some enum_owner)) flags = decide_true (is_enum flags)
decide_flags (own_class (Some class_owner)) flags = yes tt
decide_flags (superclass owner false) flags = yes tt
decide_flags (superclass owner true) flags = decide_true (is_serializable flags)

decide_proxy : (owner : Owner) → Dec (ProxyFitsOwner owner)
decide_proxy object_owner = yes tt
decide_proxy array_owner = no (λ h. h)
decide_proxy enum_owner = no (λ h. h)
decide_proxy class_owner = yes tt

-- two primitive types, by their letters
letter_back : (c : PrimCode) → prim_code_of (letter_of c) ≡ Some c
letter_back byte_code = refl
letter_back char_code = refl
letter_back double_code = refl
letter_back float_code = refl
letter_back int_code = refl
letter_back long_code = refl
letter_back short_code = refl
letter_back boolean_code = refl

decide_code : (a b : PrimCode) → Dec (a ≡ b)
decide_code a b = go (ℕ_discrete (letter_of a) (letter_of b))
  where
    go : Dec (letter_of a ≡ letter_of b) → Dec (a ≡ b)
    go (yes e) = let x : Some a ≡ Some b = sym (letter_back a) ∙ ap prim_code_of e ∙ letter_back b in yes (cc)
    go (no h) = no (λ e. h (ap letter_of e))

decide_prims : (c : PrimCode) (ps : List PrimTree) → Dec (ArePrimsOf c ps)
decide_prims c [] = yes tt
decide_prims c (p ∷ ps) = decide_both (decide_both (decide_code p.code c) (dec_lt p.bits (256 ^ size_of c))) (decide_prims c ps)

pub decide_at : (w : Position) (m : Moment) (f : StreamToken) → Dec (AcceptsAt w m f)
decide_at header_at m header_token = yes tt
decide_at top_at m (tag_token tag) = yes tt
decide_at top_at m (block_tag_token long) = yes tt
decide_at top_at m reset_tag_token = yes tt
decide_at annotation_at m (tag_token tag) = yes tt
decide_at annotation_at m (block_tag_token long) = yes tt
decide_at annotation_at m end_tag_token = yes tt
decide_at value_at m (tag_token tag) = yes tt
decide_at (class_place_at owner) m (tag_token reference_tag) = yes tt
decide_at (class_place_at owner) m (tag_token class_desc_tag) = yes tt
decide_at (class_place_at owner) m (tag_token proxy_desc_tag) = decide_proxy owner
decide_at (superclass_place_at owner strict) m (tag_token null_tag) = yes tt
decide_at (superclass_place_at owner strict) m (tag_token reference_tag) = yes tt
decide_at (superclass_place_at owner strict) m (tag_token class_desc_tag) = yes tt
decide_at (superclass_place_at owner strict) m (tag_token proxy_desc_tag) = yes tt
decide_at text_place_at m (tag_token reference_tag) = yes tt
decide_at text_place_at m (tag_token string_tag) = yes tt
decide_at text_place_at m (tag_token long_string_tag) = yes tt
decide_at back_handle_at m (handle_token n) = decide_both (dec_lt n (length m.table)) (decide_handle n)
decide_at text_handle_at m (handle_token n) = decide_both (decide_true (is_text (slice_get m.table n))) (decide_handle n)
decide_at (class_handle_at owner) m (handle_token n) =
    decide_both (decide_class m.table n) (decide_owner owner (chain_at m.table n))
decide_at (superclass_handle_at owner strict) m (handle_token n) =
    decide_both (decide_class m.table n) (decide_superclass owner strict (chain_at m.table n))
decide_at (string_at false) m (text_token false units) = decide_text false units
decide_at (string_at true) m (text_token true units) = decide_text true units
decide_at (class_name_at role) m (text_token false units) =
    decide_both (decide_class_name units) (decide_name role (name_kind units))
decide_at field_name_at m (text_token false units) = decide_text false units
decide_at interface_name_at m (text_token false units) = decide_class_name units
decide_at suid_at m (suid_token n) = dec_lt n (2 ^ 64)
decide_at (flags_at role) m (flags_token n) =
    decide_both (decide_both (dec_lt n 32) (decide_false (is_serializable n && is_externalizable n))) (decide_flags role n)
decide_at field_count_at m (field_count_token n) = dec_lt n (2 ^ 15)
decide_at interface_count_at m (interface_count_token n) = dec_lt n (2 ^ 31)
decide_at array_length_at m (array_length_token n) = dec_lt n (2 ^ 31)
decide_at (type_code_at seen) m (code_token n) = decide_true (may_follow seen n)
decide_at (block_length_at false) m (block_length_token false n) = dec_lt n (block_bound false)
decide_at (block_length_at true) m (block_length_token true n) = dec_lt n (block_bound true)
decide_at (raw_at c (suc n)) m (prims_token ps) = decide_both (ℕ_discrete (length ps) (suc n)) (decide_prims c ps)
decide_at (bytes_at (suc n)) m (bytes_token bytes) =
    decide_both (decide_true (list_all (λ b. nat_lt b 0x100) bytes)) (ℕ_discrete (length bytes) (suc n))
decide_at (string_at false) m _ = no (λ h. h)
decide_at (string_at true) m _ = no (λ h. h)
decide_at (block_length_at false) m _ = no (λ h. h)
decide_at (block_length_at true) m _ = no (λ h. h)
decide_at (raw_at c zero) m f = no (λ h. h)
decide_at (raw_at c (suc n)) m _ = no (λ h. h)
decide_at (bytes_at zero) m f = no (λ h. h)
decide_at (bytes_at (suc n)) m _ = no (λ h. h)
decide_at _ m _ = no (λ h. h)

pub decide_bytes : (xs ys : List ℕ) → Dec (xs ≡ ys)
decide_bytes [] [] = yes refl
decide_bytes [] (y ∷ ys) = no (λ e. absurd (cc))
decide_bytes (x ∷ xs) [] = no (λ e. absurd (cc))
decide_bytes (x ∷ xs) (y ∷ ys) = go (ℕ_discrete x y) (decide_bytes xs ys)
  where
    go : Dec (x ≡ y) → Dec (xs ≡ ys) → Dec ((x ∷ xs) ≡ (y ∷ ys))
    go (yes e) (yes e') = yes (ap₂ (λ a b. a ∷ b) e e')
    go (yes e) (no h) = no (λ k. h (cc))
    go (no h) e' = no (λ k. h (cc))
