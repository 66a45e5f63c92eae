-- From the machine to trees: where the machine reads tokens to its end, what its stack asked for was there. One
-- lemma for each goal, by cases on the token that it is read by; then an induction along the tokens.
use Rattle.std.proofs.Common.{◌≡◌, ℕ, zero, suc, ◌<◌, Bool, true, false, not, ◌&&◌, ◌||◌, List, [], ◌∷◌, ◌++◌, refl, sym, ◌∙◌, ap, ap₂, subst, Option, Some, None, IsTrue, IsFalse, is_some}
use Rattle.jser_reading.proofs.Vocabulary.{other_entry, NameKind, Layer, PrimCode, prim_code_of, is_object_code, new_text, back_text, ValueTree, null, back, string, descriptor, class_object, array, enum_constant, object, no_class, back_class, new_class, block, reset, content, no_contents, content_and, chain_of_class, block_bound, elements_of, is_external, WellFormedValue, Owner, object_owner, array_owner, enum_owner, ChainOwner, Role, own_class, superclass, FitsRole, Moment, tick, assign, closing, next_number, past_value, past_desc, past_class, Tag, null_tag, reference_tag, class_desc_tag, object_tag, string_tag, array_tag, class_tag, long_string_tag, proxy_desc_tag, enum_tag, StreamToken, header_token, tag_token, block_tag_token, end_tag_token, reset_tag_token, handle_token, suid_token, flags_token, field_count_token, interface_count_token, array_length_token, code_token, text_token, block_length_token, prims_token, bytes_token, header_at, top_at, annotation_at, value_at, text_place_at, class_place_at, superclass_place_at, back_handle_at, text_handle_at, class_handle_at, superclass_handle_at, string_at, class_name_at, field_name_at, interface_name_at, suid_at, field_count_at, interface_count_at, array_length_at, flags_at, type_code_at, block_length_at, Piece, piece, at, tag_of, cut_value, cut_class, Part, raw_part, value_part, annotation_part, Goal, header_goal, top_goal, annotation_goal, back_handle_goal, text_place_goal, text_handle_goal, field_name_goal, string_goal, block_length_goal, block_goal, array_length_goal, parts_goal, class_goal, class_handle_goal, made_goal, superclass_goal, superclass_handle_goal, close_goal, class_name_goal, suid_goal, flags_goal, field_count_goal, fields_goal, interface_count_goal, interfaces_goal, State, settle, position_of_parts, position_of, depth_of_parts, label_of, may_follow, AcceptsAt, Accepts, begin, type_goals, advance_at, advance, IsDone, Reads}
use Rattle.jser_grammar.proofs.Bools.{and_left, and_right, untrue}
use Rattle.jser_grammar.proofs.TableLemmas.{chain_at-after_desc}
use Rattle.jser_reading.proofs.Remaining.{RemainsAnnotation, RemainsParts, RemainsText, RemainsBody, RemainsOwner, RemainsTop, RemainsBytes, RemainsBlock, RemainsString, RemainsSuperclass, RemainsFields, RemainsFieldCount, RemainsFlags, RemainsSuid, RemainsName, RemainsInterfaces, RemainsInterfaceCount, RemainsDesc, RemainsAt, Remains, RemainsOf, unsettle}
use Rattle.jser_reading.proofs.TreesOfParts.{bytes_remain, object_remains, body_remains, plain_remains, proxy_remains}

-- Back over the tag of a value.

abbrev Begun : Tag → ℕ → Moment → List Goal → List Piece → Type 0
Begun tag d m gs fs =
    (v : ValueTree) × (r : List Piece) × (tag_of v ≡ tag) × WellFormedValue m.table v × (fs ≡ cut_value d m v r)
    × Remains gs (past_value m v) r

begun_array : (d : ℕ) (m : Moment) (gs : List Goal) (fs : List Piece)
    → RemainsAt (class_goal array_owner d) (tick m) (Remains gs) fs → Begun array_tag d m gs fs
begun_array d m gs fs (c, r, w, f, e, (n, r2, a, e2, h)) =
    let made = assign (past_class (tick m) c) other_entry in
    let elements = elements_of (chain_of_class m.table c) in
    let x = body_remains elements n d made (Remains gs) r2 a h in (
      array c x.0,
      x.1,
      refl,
      (w, f, x.3),
      e ∙ ap (λ y. cut_class array_owner d (tick m) c y)
          (e2 ∙ ap₂ (λ k y. at array_length_at d made (array_length_token k) ∷ y) (sym x.2) x.4),
      x.5,
    )

begun_object : (d : ℕ) (m : Moment) (gs : List Goal) (fs : List Piece)
    → RemainsAt (class_goal object_owner d) (tick m) (Remains gs) fs → Begun object_tag d m gs fs
begun_object d m gs fs (c, r, w, f, e, h) =
    let made = assign (past_class (tick m) c) other_entry in
    let chain = chain_of_class m.table c in
    let x = object_remains (is_external chain) chain d made (Remains gs) r h in
    (object c x.0, x.1, refl, (w, f, x.2), e ∙ ap (λ y. cut_class object_owner d (tick m) c y) x.3, x.4)

begun : (tag : Tag) (d : ℕ) (m : Moment) (gs : List Goal) (fs : List Piece) → RemainsOf (begin d m tag gs) fs
    → Begun tag d m gs fs
begun null_tag d m gs fs h = (null, fs, refl, tt, refl, h)
begun reference_tag d m gs fs (n, r, b, e, k) = (back n, r, refl, b, e, k)
begun class_desc_tag d m gs fs h =
    let x = plain_remains (own_class None) d (tick m) (Remains gs) fs h in (descriptor x.0, x.1, x.2, x.3, x.5, x.6)
begun proxy_desc_tag d m gs fs h =
    let x = proxy_remains (own_class None) d (tick m) (Remains gs) fs tt h in (descriptor x.0, x.1, x.2, x.3, x.5, x.6)
begun object_tag d m gs fs h = begun_object d m gs fs h
begun string_tag d m gs fs (u, r, a, e, k) = (string (record { long = false; units = u }), r, refl, a, e, k)
begun long_string_tag d m gs fs (u, r, a, e, k) = (string (record { long = true; units = u }), r, refl, a, e, k)
begun array_tag d m gs fs h = begun_array d m gs fs h
begun class_tag d m gs fs (c, r, w, f, e, k) = (class_object c, r, refl, w, e, k)
begun enum_tag d m gs fs (c, r, w, f, e, (t, r2, wt, e2, k)) =
    (enum_constant c t, r2, refl, (w, f, wt), e ∙ ap (λ y. cut_class enum_owner d (tick m) c y) e2, k)

-- Back over one token, at each goal. Where the format takes no such token, there is nothing to show.

back_top : (f : StreamToken) (m : Moment) (gs : List Goal) (fs : List Piece) → AcceptsAt top_at m f
    → RemainsOf (advance_at m top_goal gs f) fs → RemainsTop m (Remains gs) (at top_at 1 m f ∷ fs)
back_top (tag_token tag) m gs fs a h = go (begun tag 1 m (top_goal ∷ gs) fs h)
  where
    go : Begun tag 1 m (top_goal ∷ gs) fs → RemainsTop m (Remains gs) (at top_at 1 m (tag_token tag) ∷ fs)
    go (v, r, et, w, e, (cs, r', wc, e', k)) = (content_and (content v) cs, r', (w, wc), rw (← et, e, e') refl, k)
back_top (block_tag_token long) m gs fs a (b, r, w, e, (cs, r', wc, e', k)) =
    (content_and (block long b) cs, r', (w, wc), rw (e, e') refl, k)
back_top reset_tag_token m gs fs a (cs, r, wc, e, k) = (content_and reset cs, r, wc, rw e refl, k)
back_top _ m gs fs a h = absurd a

back_annotation : (f : StreamToken) (d : ℕ) (m : Moment) (gs : List Goal) (fs : List Piece) → AcceptsAt annotation_at m f
    → RemainsOf (advance_at m (annotation_goal d) gs f) fs
    → RemainsAnnotation d m (Remains gs) (at annotation_at (suc d) m f ∷ fs)
back_annotation (tag_token tag) d m gs fs a h = go (begun tag (suc d) m (annotation_goal d ∷ gs) fs h)
  where
    go : Begun tag (suc d) m (annotation_goal d ∷ gs) fs
        → RemainsAnnotation d m (Remains gs) (at annotation_at (suc d) m (tag_token tag) ∷ fs)
    go (v, r, et, w, e, (cs, r', wc, e', k)) = (content_and (content v) cs, r', (w, wc), rw (← et, e, e') refl, k)
back_annotation (block_tag_token long) d m gs fs a (b, r, w, e, (cs, r', wc, e', k)) =
    (content_and (block long b) cs, r', (w, wc), rw (e, e') refl, k)
back_annotation end_tag_token d m gs fs a h = (no_contents, fs, tt, refl, h)
back_annotation _ d m gs fs a h = absurd a

back_parts : (parts : List Part) (f : StreamToken) (d : ℕ) (m : Moment) (gs : List Goal) (fs : List Piece)
    → AcceptsAt (position_of_parts parts) m f
    → RemainsOf (advance_at m (parts_goal d parts) gs f) fs
    → RemainsParts d parts m (Remains gs) (at (position_of_parts parts) (depth_of_parts d parts) m f ∷ fs)
back_parts (raw_part c (suc n) ∷ parts) (prims_token ps) d m gs fs a h = (ps, fs, a, refl, h)
back_parts (value_part ∷ parts) (tag_token tag) d m gs fs a h = go (begun tag (suc d) m (parts_goal d parts ∷ gs) fs h)
  where
    go : Begun tag (suc d) m (parts_goal d parts ∷ gs) fs
        → RemainsParts d (value_part ∷ parts) m (Remains gs) (at value_at (suc d) m (tag_token tag) ∷ fs)
    go (v, r, et, w, e, k) = (v, r, w, rw (← et, e) refl, k)
back_parts [] f d m gs fs a h = absurd a
back_parts (annotation_part ∷ parts) f d m gs fs a h = absurd a
back_parts (raw_part c zero ∷ parts) f d m gs fs a h = absurd a
back_parts (raw_part c (suc n) ∷ parts) _ d m gs fs a h = absurd a
back_parts (value_part ∷ parts) _ d m gs fs a h = absurd a

back_header : (f : StreamToken) (m : Moment) (gs : List Goal) (fs : List Piece) → AcceptsAt header_at m f
    → RemainsOf (advance_at m header_goal gs f) fs → RemainsAt header_goal m (Remains gs) (at header_at 0 m f ∷ fs)
back_header header_token m gs fs a h = (fs, refl, h)
back_header _ m gs fs a h = absurd a

back_handle : (f : StreamToken) (d : ℕ) (m : Moment) (gs : List Goal) (fs : List Piece) → AcceptsAt back_handle_at m f
    → RemainsOf (advance_at m (back_handle_goal d) gs f) fs
    → RemainsAt (back_handle_goal d) m (Remains gs) (at back_handle_at d m f ∷ fs)
back_handle (handle_token n) d m gs fs a h = (n, fs, a, refl, h)
back_handle _ d m gs fs a h = absurd a

back_string : (long : Bool) (f : StreamToken) (d : ℕ) (m : Moment) (gs : List Goal) (fs : List Piece)
    → AcceptsAt (string_at long) m f
    → RemainsOf (advance_at m (string_goal long d) gs f) fs → RemainsString long d m (Remains gs) (at (string_at long) d m f ∷ fs)
back_string true (text_token true u) d m gs fs a h = (u, fs, a, refl, h)
back_string false (text_token false u) d m gs fs a h = (u, fs, a, refl, h)
back_string true _ d m gs fs a h = absurd a
back_string false _ d m gs fs a h = absurd a

block_remains : (long : Bool) (n d : ℕ) (m : Moment) (gs : List Goal) (fs : List Piece) → n < block_bound long
    → RemainsBytes d n m (Remains gs) fs
    → RemainsBlock long d m (Remains gs) (at (block_length_at long) d m (block_length_token long n) ∷ fs)
block_remains long n d m gs fs a h =
    let x = bytes_remain n d m (Remains gs) fs h in
    (x.0, x.1, (x.2, rw x.3 a), ap₂ (λ k y. at (block_length_at long) d m (block_length_token long k) ∷ y) (sym x.3) x.4, x.5)

back_block_length : (long : Bool) (f : StreamToken) (d : ℕ) (m : Moment) (gs : List Goal) (fs : List Piece)
    → AcceptsAt (block_length_at long) m f
    → RemainsOf (advance_at m (block_length_goal long d) gs f) fs
    → RemainsBlock long d m (Remains gs) (at (block_length_at long) d m f ∷ fs)
back_block_length true (block_length_token true n) d m gs fs a h = block_remains true n d m gs fs a h
back_block_length false (block_length_token false n) d m gs fs a h = block_remains false n d m gs fs a h
back_block_length true _ d m gs fs a h = absurd a
back_block_length false _ d m gs fs a h = absurd a

back_block : (n : ℕ) (f : StreamToken) (d : ℕ) (m : Moment) (gs : List Goal) (fs : List Piece)
    → AcceptsAt (position_of (block_goal d n)) m f
    → RemainsOf (advance_at m (block_goal d n) gs f) fs
    → RemainsBytes d n m (Remains gs) (at (position_of (block_goal d n)) d m f ∷ fs)
back_block (suc n) (bytes_token b) d m gs fs a h = (b, fs, a, refl, h)
back_block zero f d m gs fs a h = absurd a
back_block (suc n) _ d m gs fs a h = absurd a

back_field_name : (f : StreamToken) (d : ℕ) (m : Moment) (gs : List Goal) (fs : List Piece) → AcceptsAt field_name_at m f
    → RemainsOf (advance_at m (field_name_goal d) gs f) fs
    → RemainsAt (field_name_goal d) m (Remains gs) (at field_name_at d m f ∷ fs)
back_field_name (text_token false u) d m gs fs a h = (u, fs, a, refl, h)
back_field_name _ d m gs fs a h = absurd a

back_text_place : (f : StreamToken) (d : ℕ) (m : Moment) (gs : List Goal) (fs : List Piece) → AcceptsAt text_place_at m f
    → RemainsOf (advance_at m (text_place_goal d) gs f) fs → RemainsText d m (Remains gs) (at text_place_at d m f ∷ fs)
back_text_place (tag_token string_tag) d m gs fs a (u, r, b, e, k) =
    (new_text (record { long = false; units = u }), r, b, ap (λ x. at text_place_at d m (tag_token string_tag) ∷ x) e, k)
back_text_place (tag_token long_string_tag) d m gs fs a (u, r, b, e, k) =
    (new_text (record { long = true; units = u }), r, b, ap (λ x. at text_place_at d m (tag_token long_string_tag) ∷ x) e, k)
back_text_place (tag_token reference_tag) d m gs fs a (n, r, b, e, k) =
    (back_text n, r, b, ap (λ x. at text_place_at d m (tag_token reference_tag) ∷ x) e, k)
back_text_place _ d m gs fs a h = absurd a

back_text_handle : (f : StreamToken) (d : ℕ) (m : Moment) (gs : List Goal) (fs : List Piece) → AcceptsAt text_handle_at m f
    → RemainsOf (advance_at m (text_handle_goal d) gs f) fs
    → RemainsAt (text_handle_goal d) m (Remains gs) (at text_handle_at d m f ∷ fs)
back_text_handle (handle_token n) d m gs fs a h = (n, fs, a, refl, h)
back_text_handle _ d m gs fs a h = absurd a

back_array_length : (f : StreamToken) (elements : Option PrimCode) (d : ℕ) (m : Moment) (gs : List Goal) (fs : List Piece)
    → AcceptsAt array_length_at m f
    → RemainsOf (advance_at m (array_length_goal elements d) gs f) fs
    → RemainsBody elements d m (Remains gs) (at array_length_at d m f ∷ fs)
back_array_length (array_length_token n) elements d m gs fs a h = (n, fs, a, refl, h)
back_array_length _ elements d m gs fs a h = absurd a

class_remains : (tag : Tag) (owner : Owner) (d : ℕ) (m : Moment) (gs : List Goal) (fs : List Piece)
    → RemainsDesc tag (own_class (Some owner)) d m (Remains (made_goal owner d (next_number m) ∷ gs)) fs
    → RemainsAt (class_goal owner d) m (Remains gs) (at (class_place_at owner) d m (tag_token tag) ∷ fs)
class_remains tag owner d m gs fs (x, r, et, w, f, e, k) = (
  new_class x,
  r,
  w,
  f,
  rw (← et, e) refl,
  subst (λ c. RemainsOwner owner d c (assign (past_desc m x) other_entry) (Remains gs) r) (chain_at-after_desc x m.table) k,
)

back_class_place : (f : StreamToken) (owner : Owner) (d : ℕ) (m : Moment) (gs : List Goal) (fs : List Piece)
    → AcceptsAt (class_place_at owner) m f
    → RemainsOf (advance_at m (class_goal owner d) gs f) fs
    → RemainsAt (class_goal owner d) m (Remains gs) (at (class_place_at owner) d m f ∷ fs)
back_class_place (tag_token class_desc_tag) owner d m gs fs a h =
    class_remains class_desc_tag owner d m gs fs
    (plain_remains (own_class (Some owner)) d m (Remains (made_goal owner d (next_number m) ∷ gs)) fs h)
back_class_place (tag_token proxy_desc_tag) owner d m gs fs a h =
    class_remains proxy_desc_tag owner d m gs fs
    (proxy_remains (own_class (Some owner)) d m (Remains (made_goal owner d (next_number m) ∷ gs)) fs a h)
back_class_place (tag_token reference_tag) owner d m gs fs a (n, r, b, e, k) =
    (back_class n, r, b.0, b.1, ap (λ y. at (class_place_at owner) d m (tag_token reference_tag) ∷ y) e, k)
back_class_place _ owner d m gs fs a h = absurd a

back_class_handle : (f : StreamToken) (owner : Owner) (d : ℕ) (m : Moment) (gs : List Goal) (fs : List Piece)
    → AcceptsAt (class_handle_at owner) m f
    → RemainsOf (advance_at m (class_handle_goal owner d) gs f) fs
    → RemainsAt (class_handle_goal owner d) m (Remains gs) (at (class_handle_at owner) d m f ∷ fs)
back_class_handle (handle_token n) owner d m gs fs a h = (n, fs, a, refl, h)
back_class_handle _ owner d m gs fs a h = absurd a

superclass_remains : (tag : Tag) (owner : ChainOwner) (strict : Bool) (d number : ℕ) (l : Layer) (m : Moment) (gs : List Goal)
    (fs : List Piece)
    → RemainsDesc tag (superclass owner strict) d (tick m) (Remains (close_goal number (next_number m) l ∷ gs)) fs
    → RemainsSuperclass owner strict d number l m (Remains gs) (at (superclass_place_at owner strict) d m (tag_token tag) ∷ fs)
superclass_remains tag owner strict d number l m gs fs (x, r, et, w, f, e, h) = (
  new_class x,
  r,
  w,
  f,
  rw (← et, e) refl,
  subst (λ c. Remains gs (closing (past_desc (tick m) x) number (c ++ (l ∷ []))) r) (chain_at-after_desc x m.table) h,
)

fits_none : (owner : ChainOwner) (strict : Bool) → FitsRole (superclass owner strict) []
fits_none owner true = refl
fits_none owner false = tt

back_superclass_place : (f : StreamToken) (owner : ChainOwner) (strict : Bool) (d number : ℕ) (l : Layer) (m : Moment)
    (gs : List Goal) (fs : List Piece)
    → AcceptsAt (superclass_place_at owner strict) m f
    → RemainsOf (advance_at m (superclass_goal owner strict d number l) gs f) fs
    → RemainsSuperclass owner strict d number l m (Remains gs) (at (superclass_place_at owner strict) d m f ∷ fs)
back_superclass_place (tag_token null_tag) owner strict d number l m gs fs a h =
    (no_class, fs, tt, fits_none owner strict, refl, h)
back_superclass_place (tag_token class_desc_tag) owner strict d number l m gs fs a h =
    superclass_remains class_desc_tag owner strict d number l m gs fs
    (plain_remains (superclass owner strict) d (tick m) (Remains (close_goal number (next_number m) l ∷ gs)) fs h)
back_superclass_place (tag_token proxy_desc_tag) owner strict d number l m gs fs a h =
    superclass_remains proxy_desc_tag owner strict d number l m gs fs
    (proxy_remains (superclass owner strict) d (tick m) (Remains (close_goal number (next_number m) l ∷ gs)) fs tt h)
back_superclass_place (tag_token reference_tag) owner strict d number l m gs fs a (n, r, b, e, h) =
    (back_class n, r, b.0, b.1, ap (λ y. at (superclass_place_at owner strict) d m (tag_token reference_tag) ∷ y) e, h)
back_superclass_place _ owner strict d number l m gs fs a h = absurd a

back_superclass_handle : (f : StreamToken) (owner : ChainOwner) (strict : Bool) (d number : ℕ) (l : Layer) (m : Moment)
    (gs : List Goal) (fs : List Piece)
    → AcceptsAt (superclass_handle_at owner strict) m f
    → RemainsOf (advance_at m (superclass_handle_goal owner strict d number l) gs f) fs
    → RemainsAt (superclass_handle_goal owner strict d number l) m (Remains gs)
    (at (superclass_handle_at owner strict) d m f ∷ fs)
back_superclass_handle (handle_token n) owner strict d number l m gs fs a h = (n, fs, a, refl, h)
back_superclass_handle _ owner strict d number l m gs fs a h = absurd a

back_class_name : (f : StreamToken) (role : Role) (d : ℕ) (m : Moment) (gs : List Goal) (fs : List Piece)
    → AcceptsAt (class_name_at role) m f
    → RemainsOf (advance_at m (class_name_goal role d) gs f) fs
    → RemainsName role d m (Remains gs) (at (class_name_at role) d m f ∷ fs)
back_class_name (text_token false u) role d m gs fs a h = (u, fs, a, refl, h)
back_class_name _ role d m gs fs a h = absurd a

back_suid : (f : StreamToken) (role : Role) (d : ℕ) (kind : NameKind) (m : Moment) (gs : List Goal) (fs : List Piece)
    → AcceptsAt suid_at m f
    → RemainsOf (advance_at m (suid_goal role d kind) gs f) fs → RemainsSuid role d kind m (Remains gs) (at suid_at d m f ∷ fs)
back_suid (suid_token n) role d kind m gs fs a h = (n, fs, a, refl, h)
back_suid _ role d kind m gs fs a h = absurd a

back_flags : (f : StreamToken) (role : Role) (d number : ℕ) (kind : NameKind) (m : Moment) (gs : List Goal) (fs : List Piece)
    → AcceptsAt (flags_at role) m f
    → RemainsOf (advance_at m (flags_goal role d number kind) gs f) fs
    → RemainsFlags role d number kind m (Remains gs) (at (flags_at role) d m f ∷ fs)
back_flags (flags_token n) role d number kind m gs fs a h = (n, fs, a, refl, h)
back_flags _ role d number kind m gs fs a h = absurd a

back_field_count : (f : StreamToken) (role : Role) (d number : ℕ) (kind : NameKind) (flags : ℕ) (m : Moment) (gs : List Goal)
    (fs : List Piece) → AcceptsAt field_count_at m f
    → RemainsOf (advance_at m (field_count_goal role d number kind flags) gs f) fs
    → RemainsFieldCount role d number kind flags m (Remains gs) (at field_count_at d m f ∷ fs)
back_field_count (field_count_token n) role d number kind flags m gs fs a h = (n, fs, a, refl, h)
back_field_count _ role d number kind flags m gs fs a h = absurd a

-- a type code that may follow, and what its kind asks for, are a field
field_remains : (object : Bool) (c : ℕ) (role : Role) (d number : ℕ) (kind : NameKind) (flags : ℕ) (seen : Bool)
    (codes : List ℕ) (n : ℕ) (m : Moment) (gs : List Goal) (fs : List Piece)
    → is_object_code c ≡ object → IsTrue (may_follow seen c)
    → Remains (field_name_goal d ∷ type_goals object d
    (fields_goal role d number kind flags (seen || is_object_code c) (c ∷ codes) n ∷ gs)) m fs
    → RemainsFields role d number kind flags seen codes (suc n) m (Remains gs) (at (type_code_at seen) d m (code_token c) ∷ fs)
field_remains true c role d number kind flags seen codes n m gs fs o a (u, r, b, e, (t, r2, wt, e2, (xs, r', el, wx, e', h))) =
    (record { code = c; name = u; text = Some t } ∷ xs, r', ap (λ n. suc n) el, (b, (o, wt), wx), rw (e, e2, e') refl, h)
field_remains false c role d number kind flags seen codes n m gs fs o a (u, r, b, e, (xs, r', el, wx, e', h)) =
    let prim : IsTrue (is_some (prim_code_of c) && not seen) = rw o at a in (
      record { code = c; name = u; text = None } ∷ xs,
      r',
      ap (λ n. suc n) el,
      (
        b,
        (
          and_left (is_some (prim_code_of c)) (not seen) prim,
          unseen seen
              (and_right (is_some (prim_code_of c)) (not seen) prim),
        ),
        wx,
      ),
      rw (e, e') refl,
      h,
    )
  where
    unseen : (s : Bool) → IsTrue (not s) → IsFalse s
    unseen true h = untrue h
    unseen false h = refl

back_fields : (n : ℕ) (f : StreamToken) (role : Role) (d number : ℕ) (kind : NameKind) (flags : ℕ) (seen : Bool)
    (codes : List ℕ) (m : Moment) (gs : List Goal) (fs : List Piece)
    → AcceptsAt (position_of (fields_goal role d number kind flags seen codes n)) m f
    → RemainsOf (advance_at m (fields_goal role d number kind flags seen codes n) gs f) fs
    → RemainsFields role d number kind flags seen codes n m (Remains gs)
    (at (position_of (fields_goal role d number kind flags seen codes n)) d m f ∷ fs)
back_fields (suc n) (code_token c) role d number kind flags seen codes m gs fs a h =
    field_remains (is_object_code c) c role d number kind flags seen codes n m gs fs refl a h
back_fields zero f role d number kind flags seen codes m gs fs a h = absurd a
back_fields (suc n) _ role d number kind flags seen codes m gs fs a h = absurd a

back_interface_count : (f : StreamToken) (role : Role) (d number : ℕ) (m : Moment) (gs : List Goal) (fs : List Piece)
    → AcceptsAt interface_count_at m f
    → RemainsOf (advance_at m (interface_count_goal role d number) gs f) fs
    → RemainsInterfaceCount role d number m (Remains gs) (at interface_count_at d m f ∷ fs)
back_interface_count (interface_count_token n) role d number m gs fs a h = (n, fs, a, refl, h)
back_interface_count _ role d number m gs fs a h = absurd a

back_interfaces : (n : ℕ) (f : StreamToken) (role : Role) (d number : ℕ) (m : Moment) (gs : List Goal) (fs : List Piece)
    → AcceptsAt (position_of (interfaces_goal role d number n)) m f
    → RemainsOf (advance_at m (interfaces_goal role d number n) gs f) fs
    → RemainsInterfaces role d number n m (Remains gs) (at (position_of (interfaces_goal role d number n)) d m f ∷ fs)
back_interfaces (suc n) (text_token false u) role d number m gs fs a (names, r, el, w, e, h) =
    (u ∷ names, r, ap (λ n. suc n) el, (a, w), ap (λ y. at interface_name_at d m (text_token false u) ∷ y) e, h)
back_interfaces zero f role d number m gs fs a h = absurd a
back_interfaces (suc n) _ role d number m gs fs a h = absurd a

-- any goal
back_at : (g : Goal) (f : StreamToken) (m : Moment) (gs : List Goal) (fs : List Piece)
    → Accepts (label_of (m, g ∷ gs)) f → RemainsOf (advance_at m g gs f) fs
    → RemainsAt g m (Remains gs) (piece (label_of (m, g ∷ gs)) f ∷ fs)
back_at header_goal f m gs fs a h = back_header f m gs fs a h
back_at top_goal f m gs fs a h = back_top f m gs fs a h
back_at (annotation_goal d) f m gs fs a h = back_annotation f d m gs fs a h
back_at (back_handle_goal d) f m gs fs a h = back_handle f d m gs fs a h
back_at (text_place_goal d) f m gs fs a h = back_text_place f d m gs fs a h
back_at (text_handle_goal d) f m gs fs a h = back_text_handle f d m gs fs a h
back_at (field_name_goal d) f m gs fs a h = back_field_name f d m gs fs a h
back_at (string_goal long d) f m gs fs a h = back_string long f d m gs fs a h
back_at (block_length_goal long d) f m gs fs a h = back_block_length long f d m gs fs a h
back_at (block_goal d n) f m gs fs a h = back_block n f d m gs fs a h
back_at (array_length_goal elements d) f m gs fs a h = back_array_length f elements d m gs fs a h
back_at (parts_goal d parts) f m gs fs a h = back_parts parts f d m gs fs a h
back_at (class_goal owner d) f m gs fs a h = back_class_place f owner d m gs fs a h
back_at (class_handle_goal owner d) f m gs fs a h = back_class_handle f owner d m gs fs a h
back_at (made_goal owner d number) f m gs fs a h = absurd a
back_at (superclass_goal owner strict d number l) f m gs fs a h = back_superclass_place f owner strict d number l m gs fs a h
back_at (superclass_handle_goal owner strict d number l) f m gs fs a h =
    back_superclass_handle f owner strict d number l m gs fs a h
back_at (close_goal number parent l) f m gs fs a h = absurd a
back_at (class_name_goal role d) f m gs fs a h = back_class_name f role d m gs fs a h
back_at (suid_goal role d kind) f m gs fs a h = back_suid f role d kind m gs fs a h
back_at (flags_goal role d number kind) f m gs fs a h = back_flags f role d number kind m gs fs a h
back_at (field_count_goal role d number kind flags) f m gs fs a h = back_field_count f role d number kind flags m gs fs a h
back_at (fields_goal role d number kind flags seen codes n) f m gs fs a h =
    back_fields n f role d number kind flags seen codes m gs fs a h
back_at (interface_count_goal role d number) f m gs fs a h = back_interface_count f role d number m gs fs a h
back_at (interfaces_goal role d number n) f m gs fs a h = back_interfaces n f role d number m gs fs a h

back_one : (s : State) (f : StreamToken) (fs : List Piece) → Accepts (label_of s) f → RemainsOf (advance s f) fs
    → RemainsOf s (piece (label_of s) f ∷ fs)
back_one (m, []) f fs a h = absurd a
back_one (m, g ∷ gs) f fs a h = back_at g f m gs fs a h

done_remains : (s : State) → IsDone s → RemainsOf s []
done_remains (m, gs) e = rw e (no_contents, [], tt, refl, refl)

-- what the machine reads to its end is what its stack asked for
pub reads_remain : (fs : List Piece) (s : State) → Reads s fs → RemainsOf s fs
reads_remain [] (m, gs) h = unsettle gs m [] (done_remains (settle m gs) h)
reads_remain (piece l f ∷ fs) (m, gs) (e, a, h) =
    unsettle gs m (piece l f ∷ fs) (rw e (back_one (settle m gs) f fs a (reads_remain fs (advance (settle m gs) f) h)))
