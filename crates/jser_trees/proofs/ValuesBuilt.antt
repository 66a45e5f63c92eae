-- Values, descriptors and lists of contents are found again in their spelling.
use Rattle.std.proofs.Common.{◌≡◌, ℕ, zero, suc, ◌+◌, ◌*◌, ◌<◌, ◌≤◌, Bool, true, false, List, [], ◌∷◌, ◌++◌, length, Option, Some, None, refl, sym, ◌∙◌, ap, arith, append_assoc, length-append, MatchBool, slice_get, option_map, if◌then◌else◌}
use Rattle.jser_prim.specs.Bytes.{big_bytes}
use Rattle.jser_grammar.proofs.Vocabulary.{has_write_method, pending_entry, other_entry, is_closed, Layer, PrimCode, letter_of, primitive_codes, object_count, ValueTree, null, back, string, descriptor, class_object, array, enum_constant, object, DescTree, plain, proxy, ClassPlaceTree, no_class, back_class, new_class, BodyTree, raw_body, value_body, ValueTrees, no_values, value_and, section, SectionTrees, no_sections, section_and, NotesTree, no_notes, annotation, ContentTree, block, reset, content, ContentTrees, no_contents, content_and, value_count, Entries, add, after_fields, after_value, after_class, after_values, after_notes, after_contents, chain_of_class, IsText, elements_of, is_external, WellFormedValue, WellFormedDesc, WellFormedClass, WellFormedSuperclass, WellFormedBody, WellFormedValues, WellFormedExternal, WellFormedSections, WellFormedNotesIf, WellFormedNotes, WellFormedContents}
use Rattle.jser_grammar.specs.Spelling.{utf, string_spelling, text_place_spelling, fields_spelling, interfaces_spelling, prims_spelling, value_spelling, desc_spelling, class_spelling, body_spelling, values_spelling, sections_spelling, notes_spelling, annotation_spelling, contents_spelling}
use Rattle.jser_grammar.specs.Counts.{depth_of_value, depth_in_desc, depth_in_class, depth_in_body, depth_in_values, depth_in_sections, depth_in_notes, depth_in_contents}
use Rattle.jser_reading.proofs.Decoding.{number_1, number_4, number_8}
use Rattle.jser_trees.specs.Building.{◌>>=◌, byte_in, BuildsValue, BuildsDesc, class_in, superclass_in, content_in, after_content, notes_in, annotation_in, values_in, notes_if_in, section_in, sections_in, external_in, data_in, elements_in, body_in, level_in, desc_level_in, plain_in, proxy_in, string_in, class_object_in, array_in, enum_constant_in, object_in, tagged_in, value_in, desc_in, top_content_in, after_top, top_in, list_in}
use Rattle.jser_trees.specs.Laws.{FindsList}
use Rattle.jser_trees.proofs.PartsBuilt.{front_found, number_found, sized_front_found, utf_found, long_utf_found, back_found, text_place_found, fields_found, interfaces_found, raw_found, prims_found, letter_back}

-- ---- what is done with a part that was found

abbrev as_content : ValueTree × List ℕ → Option (ContentTree × List ℕ)
as_content x = Some (content x.0, x.1)

abbrev as_desc : DescTree × List ℕ → Option (ValueTree × List ℕ)
as_desc x = Some (descriptor x.0, x.1)

abbrev as_new_class : DescTree × List ℕ → Option (ClassPlaceTree × List ℕ)
as_new_class x = Some (new_class x.0, x.1)

abbrev as_back : ℕ × List ℕ → Option (ValueTree × List ℕ)
as_back x = Some (back x.0, x.1)

abbrev as_back_class : Entries → ℕ × List ℕ → Option (ClassPlaceTree × List ℕ)
as_back_class T x = if is_closed (slice_get T x.0) then Some (back_class x.0, x.1) else None

abbrev as_class_object : ClassPlaceTree × List ℕ → Option (ValueTree × List ℕ)
as_class_object x = Some (class_object x.0, x.1)

abbrev as_string : Bool → List ℕ × List ℕ → Option (ValueTree × List ℕ)
as_string long x = Some (string (record { long = long; units = x.0 }), x.1)

abbrev before : ContentTree → ContentTrees × List ℕ → Option (ContentTrees × List ℕ)
before c x = Some (content_and c x.0, x.1)

-- ---- which form is read, by the first byte

desc_first : (x : DescTree) (k : ℕ) (T : Entries) (rest : List ℕ)
    → value_in (suc k) T (desc_spelling x ++ rest) ≡ (desc_in k T (desc_spelling x ++ rest) >>= as_desc)
unfolding value_in level_in
desc_first (plain name suid flags fields notes parent) k T rest = refl
desc_first (proxy interfaces notes parent) k T rest = refl

class_first : (x : DescTree) (desc : BuildsDesc) (T : Entries) (rest : List ℕ)
    → class_in desc T (desc_spelling x ++ rest) ≡ (desc T (desc_spelling x ++ rest) >>= as_new_class)
unfolding class_in
class_first (plain name suid flags fields notes parent) desc T rest = refl
class_first (proxy interfaces notes parent) desc T rest = refl

superclass_first : (x : DescTree) (desc : BuildsDesc) (T : Entries) (rest : List ℕ)
    → superclass_in desc T (desc_spelling x ++ rest) ≡ (desc T (desc_spelling x ++ rest) >>= as_new_class)
unfolding superclass_in class_in
superclass_first (plain name suid flags fields notes parent) desc T rest = refl
superclass_first (proxy interfaces notes parent) desc T rest = refl

-- behind a content that is a value, the contents go on
abbrev notes_next : BuildsValue → ℕ → Entries → Option (ValueTree × List ℕ) → Option (ContentTrees × List ℕ)
notes_next value n T x =
    x >>= λ v. notes_in value n (after_value T v.0) v.1 >>= before (content v.0)

bind_bind : (x : Option (ValueTree × List ℕ)) (value : BuildsValue) (n : ℕ) (T : Entries)
    → ((x >>= as_content) >>= λ c. notes_in value n (after_content T c.0) c.1 >>= before c.0)
    ≡ notes_next value n T x
bind_bind None value n T = refl
bind_bind (Some x) value n T = refl

string_first : (long : Bool) (units : List ℕ) (value : BuildsValue) (n : ℕ) (T : Entries) (rest : List ℕ)
    → notes_in value (suc n) T (string_spelling long units ++ rest) ≡ notes_next value n T (value T (string_spelling long units ++ rest))
unfolding notes_in content_in
string_first false units value n T rest = bind_bind (value T (string_spelling false units ++ rest)) value n T
string_first true units value n T rest = bind_bind (value T (string_spelling true units ++ rest)) value n T

notes_first : (v : ValueTree) (value : BuildsValue) (n : ℕ) (T : Entries) (rest : List ℕ)
    → notes_in value (suc n) T (value_spelling v ++ rest) ≡ notes_next value n T (value T (value_spelling v ++ rest))
unfolding notes_in content_in
notes_first null value n T rest = bind_bind (value T (value_spelling null ++ rest)) value n T
notes_first (back m) value n T rest = bind_bind (value T (value_spelling (back m) ++ rest)) value n T
notes_first (string t) value n T rest = string_first t.long t.units value n T rest
notes_first (descriptor (plain name suid flags fields notes parent)) value n T rest =
    bind_bind (value T (value_spelling (descriptor (plain name suid flags fields notes parent)) ++ rest)) value n T
notes_first (descriptor (proxy interfaces notes parent)) value n T rest =
    bind_bind (value T (value_spelling (descriptor (proxy interfaces notes parent)) ++ rest)) value n T
notes_first (class_object c) value n T rest = bind_bind (value T (value_spelling (class_object c) ++ rest)) value n T
notes_first (array c b) value n T rest = bind_bind (value T (value_spelling (array c b) ++ rest)) value n T
notes_first (enum_constant c t) value n T rest = bind_bind (value T (value_spelling (enum_constant c t) ++ rest)) value n T
notes_first (object c ss) value n T rest = bind_bind (value T (value_spelling (object c ss) ++ rest)) value n T

pub some_bytes : (v : ValueTree) → 0 < length (value_spelling v)
some_bytes null = omega arith
some_bytes (back m) = omega arith
some_bytes (string t) = some_text t.long t.units
  where
    some_text : (long : Bool) (units : List ℕ) → 0 < length (string_spelling long units)
    some_text false units = omega arith
    some_text true units = omega arith
some_bytes (descriptor (plain name suid flags fields notes parent)) = omega arith
some_bytes (descriptor (proxy interfaces notes parent)) = omega arith
some_bytes (class_object c) = omega arith
some_bytes (array c b) = omega arith
some_bytes (enum_constant c t) = omega arith
some_bytes (object c ss) = omega arith

some_depth : (v : ValueTree) → 0 < depth_of_value v
some_depth null = omega arith
some_depth (back m) = omega arith
some_depth (string t) = omega arith
some_depth (descriptor x) = omega arith
some_depth (class_object c) = omega arith
some_depth (array c b) = omega arith
some_depth (enum_constant c t) = omega arith
some_depth (object c ss) = omega arith

-- ---- values

string_found : (long : Bool) (units : List ℕ) (k : ℕ) (T : Entries) (rest : List ℕ) → IsText long units
    → value_in (suc k) T (string_spelling long units ++ rest) ≡ Some (string (record { long = long; units = units }), rest)
unfolding value_in level_in tagged_in string_in
string_found false units k T rest h = ap (λ x. x >>= as_string false) (utf_found units rest h)
string_found true units k T rest h = ap (λ x. x >>= as_string true) (long_utf_found units rest h)

data_found : (b : Bool) (value : BuildsValue) (T : Entries) (ss : SectionTrees) (chain : List Layer) (bytes rest : List ℕ) (E S : Type 0)
    → is_external chain ≡ b → MatchBool b E S → (E → external_in value T bytes ≡ Some (ss, rest)) → (S → sections_in value T chain bytes ≡ Some (ss, rest))
    → data_in value T chain bytes ≡ Some (ss, rest)
unfolding data_in
data_found true value T ss chain bytes rest E S e w external sections = rw e (external w)
data_found false value T ss chain bytes rest E S e w external sections = rw e (sections w)

annotation_at : (cs : ContentTrees) (k : ℕ) (T : Entries) (rest : List ℕ)
    → notes_in (value_in k) (length (annotation_spelling cs ++ rest)) T (annotation_spelling cs ++ rest) ≡ Some (cs, rest)
    → annotation_in (value_in k) T (annotation_spelling cs ++ rest) ≡ Some (cs, rest)
unfolding annotation_in
annotation_at cs k T rest h = h

mutual
  unfolding value_in level_in desc_level_in desc_in tagged_in class_object_in array_in enum_constant_in object_in plain_in proxy_in byte_in class_in superclass_in body_in elements_in values_in external_in section_in sections_in notes_if_in notes_in content_in

  value_found : (v : ValueTree) (k : ℕ) (T : Entries) (rest : List ℕ) → 2 * depth_of_value v ≤ k → WellFormedValue T v
      → value_in k T (value_spelling v ++ rest) ≡ Some (v, rest)
  value_found v zero T rest d h = absurd (omega (arith, some_depth v))
  value_found null (suc k) T rest d h = refl
  value_found (back m) (suc k) T rest d h = ap (λ x. x >>= as_back) (back_found m rest h.1)
  value_found (string t) (suc k) T rest d h = string_found t.long t.units k T rest h
  value_found (descriptor x) (suc k) T rest d h =
      desc_first x k T rest ∙ ap (λ y. y >>= as_desc) (desc_found x k T rest (omega arith) h)
  value_found (class_object c) (suc k) T rest d h =
      ap (λ y. y >>= as_class_object) (class_found c k T rest (omega arith) h)
  value_found (array c b) (suc k) T rest d h =
      rw (
        append_assoc (class_spelling c) (body_spelling b) rest,
        class_found c k T (body_spelling b ++ rest) (omega arith) h.0,
        body_found b (elements_of (chain_of_class T c)) k (add (after_class T c) other_entry) rest (omega arith) h.2,
      ) refl
  value_found (enum_constant c t) (suc k) T rest d h =
      rw (
        append_assoc (class_spelling c) (text_place_spelling t) rest,
        class_found c k T (text_place_spelling t ++ rest) (omega arith) h.0,
        text_place_found t (add (after_class T c) other_entry) rest h.2,
      ) refl
  value_found (object c ss) (suc k) T rest d h =
      let made = add (after_class T c) other_entry in
      let chain = chain_of_class T c in
      let inner : data_in (value_in k) made chain (sections_spelling ss ++ rest) ≡ Some (ss, rest) =
      data_found (is_external chain) (value_in k) made ss chain (sections_spelling ss ++ rest) rest (WellFormedExternal made ss)
      (WellFormedSections made ss chain) refl h.2 (λ w. external_found ss k made rest (omega arith) w)
      (λ w. sections_found ss chain k made rest (omega arith) w) in
      rw (append_assoc (class_spelling c) (sections_spelling ss) rest, class_found c k T (sections_spelling ss ++ rest) (omega arith) h.0, inner) refl

  desc_found : (x : DescTree) (k : ℕ) (T : Entries) (rest : List ℕ) → 2 * depth_in_desc x + 1 ≤ k → WellFormedDesc T x
      → desc_in k T (desc_spelling x ++ rest) ≡ Some (x, rest)
  desc_found x zero T rest d h = absurd (omega arith)
  desc_found (plain name suid flags fields notes parent) (suc k) T rest d h =
      let opened = add T pending_entry in
      let behind = after_fields opened fields in
      let tail = annotation_spelling notes ++ class_spelling parent in
      let last : (annotation_spelling notes ++ class_spelling parent) ++ rest ≡ annotation_spelling notes ++ (class_spelling parent ++ rest) =
      append_assoc (annotation_spelling notes) (class_spelling parent) rest in
      rw (
        append_assoc (utf name) (big_bytes 8 suid ++ (flags ∷ (big_bytes 2 (length fields) ++ (fields_spelling fields ++ tail)))) rest,
        utf_found name ((big_bytes 8 suid ++ (flags ∷ (big_bytes 2 (length fields) ++ (fields_spelling fields ++ tail)))) ++ rest) h.0.0,
        number_found 8 suid (flags ∷ ((big_bytes 2 (length fields) ++ (fields_spelling fields ++ tail)) ++ rest)) (number_8 suid h.1),
        append_assoc (fields_spelling fields) tail rest,
        fields_found fields opened false (tail ++ rest) h.3 h.4,
        last,
        annotation_at notes k behind (class_spelling parent ++ rest) (notes_found notes (length (annotation_spelling notes ++ (class_spelling parent ++ rest))) k behind (class_spelling parent ++ rest) (omega arith) (omega arith) h.5),
        superclass_found parent k (after_contents behind notes) rest (omega arith) h.6,
      ) refl
  desc_found (proxy interfaces notes parent) (suc k) T rest d h =
      let opened = add T pending_entry in
      let tail = annotation_spelling notes ++ class_spelling parent in
      let last : (annotation_spelling notes ++ class_spelling parent) ++ rest ≡ annotation_spelling notes ++ (class_spelling parent ++ rest) =
      append_assoc (annotation_spelling notes) (class_spelling parent) rest in
      rw (
        append_assoc (interfaces_spelling interfaces) tail rest,
        interfaces_found interfaces (tail ++ rest) h.0 h.1,
        last,
        annotation_at notes k opened (class_spelling parent ++ rest) (notes_found notes (length (annotation_spelling notes ++ (class_spelling parent ++ rest))) k opened (class_spelling parent ++ rest) (omega arith) (omega arith) h.2),
        superclass_found parent k (after_contents opened notes) rest (omega arith) h.3,
      ) refl

  class_found : (c : ClassPlaceTree) (k : ℕ) (T : Entries) (rest : List ℕ) → 2 * depth_in_class c + 1 ≤ k → WellFormedClass T c
      → class_in (desc_in k) T (class_spelling c ++ rest) ≡ Some (c, rest)
  class_found no_class k T rest d h = absurd h
  class_found (back_class m) k T rest d h =
      ap (λ x. x >>= as_back_class T) (back_found m rest h.1)
      ∙ rw (h.0) refl
  class_found (new_class x) k T rest d h =
      class_first x (desc_in k) T rest ∙ ap (λ y. y >>= as_new_class) (desc_found x k T rest d h)

  superclass_found : (c : ClassPlaceTree) (k : ℕ) (T : Entries) (rest : List ℕ) → 2 * depth_in_class c + 1 ≤ k → WellFormedSuperclass T c
      → superclass_in (desc_in k) T (class_spelling c ++ rest) ≡ Some (c, rest)
  superclass_found no_class k T rest d h = refl
  superclass_found (back_class m) k T rest d h =
      ap (λ x. x >>= as_back_class T) (back_found m rest h.1)
      ∙ rw (h.0) refl
  superclass_found (new_class x) k T rest d h =
      superclass_first x (desc_in k) T rest ∙ ap (λ y. y >>= as_new_class) (desc_found x k T rest d h)

  body_found : (b : BodyTree) (elements : Option PrimCode) (k : ℕ) (T : Entries) (rest : List ℕ) → 2 * depth_in_body b ≤ k → WellFormedBody T b elements
      → body_in (value_in k) T (option_map letter_of elements) (body_spelling b ++ rest) ≡ Some (b, rest)
  body_found (raw_body ps) None k T rest d h = absurd h
  body_found (raw_body ps) (Some c) k T rest d h =
      rw (number_found 4 (length ps) (prims_spelling ps ++ rest) (number_4 (length ps) (omega (arith, h.0))), letter_back c, raw_found c ps rest h.1) refl
  body_found (value_body vs) None k T rest d h =
      rw (number_found 4 (value_count vs) (values_spelling vs ++ rest) (number_4 (value_count vs) (omega (arith, h.0))), values_found vs k T rest d h.1) refl
  body_found (value_body vs) (Some c) k T rest d h = absurd h

  values_found : (vs : ValueTrees) (k : ℕ) (T : Entries) (rest : List ℕ) → 2 * depth_in_values vs ≤ k → WellFormedValues T vs
      → values_in (value_in k) (value_count vs) T (values_spelling vs ++ rest) ≡ Some (vs, rest)
  values_found no_values k T rest d h = refl
  values_found (value_and v vs) k T rest d h =
      rw (
        append_assoc (value_spelling v) (values_spelling vs) rest,
        value_found v k T (values_spelling vs ++ rest) (omega arith) h.0,
        values_found vs k (after_value T v) rest (omega arith) h.1,
      ) refl

  external_found : (ss : SectionTrees) (k : ℕ) (T : Entries) (rest : List ℕ) → 2 * depth_in_sections ss ≤ k → WellFormedExternal T ss
      → external_in (value_in k) T (sections_spelling ss ++ rest) ≡ Some (ss, rest)
  external_found (section_and (section [] no_values (annotation notes)) no_sections) k T rest d h =
      rw (append_assoc (annotation_spelling notes) [] rest, annotation_at notes k T rest (notes_found notes (length (annotation_spelling notes ++ rest)) k T rest (omega arith) (omega arith) h)) refl
  external_found _ k T rest d h = absurd h

  sections_found : (ss : SectionTrees) (chain : List Layer) (k : ℕ) (T : Entries) (rest : List ℕ) → 2 * depth_in_sections ss ≤ k
      → WellFormedSections T ss chain → sections_in (value_in k) T chain (sections_spelling ss ++ rest) ≡ Some (ss, rest)
  sections_found no_sections [] k T rest d h = refl
  sections_found no_sections (l ∷ ls) k T rest d h = absurd h
  sections_found (section_and s ss) [] k T rest d h = absurd h
  sections_found (section_and (section ps vs n) ss) (l ∷ ls) k T rest d h =
      let after = after_values T vs in
      let counted : values_in (value_in k) (object_count l.codes) T (values_spelling vs ++ ((notes_spelling n ++ sections_spelling ss) ++ rest)) ≡ Some (vs, (notes_spelling n ++ sections_spelling ss) ++ rest) =
      ap (λ j. values_in (value_in k) j T (values_spelling vs ++ ((notes_spelling n ++ sections_spelling ss) ++ rest))) (sym h.1)
      ∙ values_found vs k T ((notes_spelling n ++ sections_spelling ss) ++ rest) (omega arith) h.2 in
      rw (
        append_assoc (prims_spelling ps) (values_spelling vs ++ (notes_spelling n ++ sections_spelling ss)) rest,
        prims_found (primitive_codes l.codes) ps ((values_spelling vs ++ (notes_spelling n ++ sections_spelling ss)) ++ rest) h.0,
        append_assoc (values_spelling vs) (notes_spelling n ++ sections_spelling ss) rest,
        counted,
        append_assoc (notes_spelling n) (sections_spelling ss) rest,
        notes_if_found n (has_write_method l.flags) k after (sections_spelling ss ++ rest) (omega arith) h.3,
        sections_found ss ls k (after_notes after n) rest (omega arith) h.4,
      ) refl

  notes_if_found : (n : NotesTree) (expected : Bool) (k : ℕ) (T : Entries) (rest : List ℕ) → 2 * depth_in_notes n ≤ k
      → WellFormedNotesIf T n expected → notes_if_in (value_in k) expected T (notes_spelling n ++ rest) ≡ Some (n, rest)
  notes_if_found no_notes true k T rest d h = absurd (cc)
  notes_if_found no_notes false k T rest d h = refl
  notes_if_found (annotation cs) true k T rest d h = rw (annotation_at cs k T rest (notes_found cs (length (annotation_spelling cs ++ rest)) k T rest (omega arith) d h.1)) refl
  notes_if_found (annotation cs) false k T rest d h = absurd (cc)

  notes_found : (cs : ContentTrees) (n k : ℕ) (T : Entries) (rest : List ℕ) → length (annotation_spelling cs ++ rest) ≤ n → 2 * depth_in_contents cs ≤ k
      → WellFormedNotes T cs → notes_in (value_in k) n T (annotation_spelling cs ++ rest) ≡ Some (cs, rest)
  notes_found no_contents zero k T rest l d h = absurd (omega arith)
  notes_found no_contents (suc n) k T rest l d h = refl
  notes_found (content_and reset cs) n k T rest l d h = absurd h
  notes_found (content_and (block false bytes) cs) zero k T rest l d h = absurd (omega arith)
  notes_found (content_and (block true bytes) cs) zero k T rest l d h = absurd (omega arith)
  notes_found (content_and (block false bytes) cs) (suc n) k T rest l d h =
      let more = annotation_spelling cs ++ rest in
      let few = length-append (big_bytes 1 (length bytes) ++ bytes) (annotation_spelling cs) in
      let split : ((big_bytes 1 (length bytes) ++ bytes) ++ annotation_spelling cs) ++ rest ≡ big_bytes 1 (length bytes) ++ (bytes ++ more) =
      append_assoc (big_bytes 1 (length bytes) ++ bytes) (annotation_spelling cs) rest ∙ append_assoc (big_bytes 1 (length bytes)) bytes more in
      let short : length more ≤ n = omega (arith, ap length split, length-append (big_bytes 1 (length bytes)) (bytes ++ more), length-append bytes more) in
      rw (split, sized_front_found 1 bytes more (number_1 (length bytes) h.0.1), notes_found cs n k T rest short d h.1) refl
  notes_found (content_and (block true bytes) cs) (suc n) k T rest l d h =
      let more = annotation_spelling cs ++ rest in
      let split : ((big_bytes 4 (length bytes) ++ bytes) ++ annotation_spelling cs) ++ rest ≡ big_bytes 4 (length bytes) ++ (bytes ++ more) =
      append_assoc (big_bytes 4 (length bytes) ++ bytes) (annotation_spelling cs) rest ∙ append_assoc (big_bytes 4 (length bytes)) bytes more in
      let short : length more ≤ n = omega (arith, ap length split, length-append (big_bytes 4 (length bytes)) (bytes ++ more), length-append bytes more) in
      rw (split, sized_front_found 4 bytes more (number_4 (length bytes) (omega (arith, h.0.1))), notes_found cs n k T rest short d h.1) refl
  notes_found (content_and (content v) cs) zero k T rest l d h =
      absurd (omega (arith, some_bytes v, length-append (value_spelling v ++ annotation_spelling cs) rest, length-append (value_spelling v) (annotation_spelling cs)))
  notes_found (content_and (content v) cs) (suc n) k T rest l d h =
      let more = annotation_spelling cs ++ rest in
      let split : (value_spelling v ++ annotation_spelling cs) ++ rest ≡ value_spelling v ++ more = append_assoc (value_spelling v) (annotation_spelling cs) rest in
      let short : length more ≤ n = omega (arith, ap length split, length-append (value_spelling v) more, some_bytes v) in
      ap (notes_in (value_in k) (suc n) T) split ∙ notes_first v (value_in k) n T more
      ∙ ap (notes_next (value_in k) n T) (value_found v k T more (omega arith) h.0)
      ∙ rw (notes_found cs n k (after_value T v) rest short (omega arith) h.1) refl

-- ---- the whole stream

abbrev top_next : BuildsValue → ℕ → Entries → ValueTree × List ℕ → Option ContentTrees
top_next value n T x = top_in value n (after_value T x.0) x.1 >>= λ others. Some (content_and (content x.0) others)

bind_top : (x : Option (ValueTree × List ℕ)) (value : BuildsValue) (n : ℕ) (T : Entries)
    → ((x >>= as_content) >>= λ c. top_in value n (after_top T c.0) c.1 >>= λ others. Some (content_and c.0 others))
    ≡ (x >>= top_next value n T)
bind_top None value n T = refl
bind_top (Some x) value n T = refl

top_string_first : (long : Bool) (units : List ℕ) (value : BuildsValue) (n : ℕ) (T : Entries) (rest : List ℕ)
    → top_in value (suc n) T (string_spelling long units ++ rest) ≡ (value T (string_spelling long units ++ rest) >>= top_next value n T)
unfolding top_in top_content_in content_in
top_string_first false units value n T rest = bind_top (value T (string_spelling false units ++ rest)) value n T
top_string_first true units value n T rest = bind_top (value T (string_spelling true units ++ rest)) value n T

top_first : (v : ValueTree) (value : BuildsValue) (n : ℕ) (T : Entries) (rest : List ℕ)
    → top_in value (suc n) T (value_spelling v ++ rest) ≡ (value T (value_spelling v ++ rest) >>= top_next value n T)
unfolding top_in top_content_in content_in
top_first null value n T rest = bind_top (value T (value_spelling null ++ rest)) value n T
top_first (back m) value n T rest = bind_top (value T (value_spelling (back m) ++ rest)) value n T
top_first (string t) value n T rest = top_string_first t.long t.units value n T rest
top_first (descriptor (plain name suid flags fields notes parent)) value n T rest =
    bind_top (value T (value_spelling (descriptor (plain name suid flags fields notes parent)) ++ rest)) value n T
top_first (descriptor (proxy interfaces notes parent)) value n T rest =
    bind_top (value T (value_spelling (descriptor (proxy interfaces notes parent)) ++ rest)) value n T
top_first (class_object c) value n T rest = bind_top (value T (value_spelling (class_object c) ++ rest)) value n T
top_first (array c b) value n T rest = bind_top (value T (value_spelling (array c b) ++ rest)) value n T
top_first (enum_constant c t) value n T rest = bind_top (value T (value_spelling (enum_constant c t) ++ rest)) value n T
top_first (object c ss) value n T rest = bind_top (value T (value_spelling (object c ss) ++ rest)) value n T

top_found : (cs : ContentTrees) (n k : ℕ) (T : Entries) → length (contents_spelling cs) ≤ n → 2 * depth_in_contents cs ≤ k → WellFormedContents T cs
    → top_in (value_in k) n T (contents_spelling cs) ≡ Some cs
unfolding top_in top_content_in content_in
top_found no_contents zero k T l d h = refl
top_found no_contents (suc n) k T l d h = refl
top_found (content_and reset cs) zero k T l d h = absurd (omega arith)
top_found (content_and reset cs) (suc n) k T l d h = rw (top_found cs n k [] (omega arith) d h) refl
top_found (content_and (block false bytes) cs) zero k T l d h = absurd (omega arith)
top_found (content_and (block true bytes) cs) zero k T l d h = absurd (omega arith)
top_found (content_and (block false bytes) cs) (suc n) k T l d h =
    let more = contents_spelling cs in
    let split : (big_bytes 1 (length bytes) ++ bytes) ++ more ≡ big_bytes 1 (length bytes) ++ (bytes ++ more) =
    append_assoc (big_bytes 1 (length bytes)) bytes more in
    let short : length more ≤ n = omega (arith, ap length split, length-append (big_bytes 1 (length bytes)) (bytes ++ more), length-append bytes more) in
    rw (split, sized_front_found 1 bytes more (number_1 (length bytes) h.0.1), top_found cs n k T short d h.1) refl
top_found (content_and (block true bytes) cs) (suc n) k T l d h =
    let more = contents_spelling cs in
    let split : (big_bytes 4 (length bytes) ++ bytes) ++ more ≡ big_bytes 4 (length bytes) ++ (bytes ++ more) =
    append_assoc (big_bytes 4 (length bytes)) bytes more in
    let short : length more ≤ n = omega (arith, ap length split, length-append (big_bytes 4 (length bytes)) (bytes ++ more), length-append bytes more) in
    rw (split, sized_front_found 4 bytes more (number_4 (length bytes) (omega (arith, h.0.1))), top_found cs n k T short d h.1) refl
top_found (content_and (content v) cs) zero k T l d h =
    absurd (omega (arith, some_bytes v, length-append (value_spelling v) (contents_spelling cs)))
top_found (content_and (content v) cs) (suc n) k T l d h =
    let more = contents_spelling cs in
    let short : length more ≤ n = omega (arith, length-append (value_spelling v) more, some_bytes v) in
    top_first v (value_in k) n T more ∙ ap (λ y. y >>= top_next (value_in k) n T) (value_found v k T more (omega arith) h.0)
    ∙ rw (top_found cs n k (after_value T v) short (omega arith) h.1) refl

pub list_found : FindsList
unfolding list_in
list_found list h d =
    rw (
      front_found 4 (0xAC ∷ 0xED ∷ 0x00 ∷ 0x05 ∷ []) (contents_spelling list) refl,
      top_found list (length (contents_spelling list)) 2000 [] (omega arith) (omega (arith, d)) h,
    ) refl
