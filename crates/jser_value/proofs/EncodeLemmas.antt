-- What the encoder puts, part by part.
use Rattle.std.proofs.Common.{◌≡◌, ℕ, suc, ◌+◌, ◌%◌, ◌/◌, ◌^◌, ◌<◌, ◌≤◌, Bool, true, false, List, [], ◌∷◌, ◌++◌, length, get_or, take, take_all, append_assoc, map, refl, sym, ap, subst, ◌∙◌, arith, length-append}
use Rattle.std.proofs.lemmas.List.{take_more, flat_map_more, append-nil, length-map}
use Rattle.std.specs.Prelude.{Vec}
use Rattle.std.specs.List.{flat_map}
use Rattle.std.specs.declared.alloc.Global.{Global}
use Rattle.jser_prim.specs.Bytes.{big_bytes}
use Rattle.jser_prim.specs.ModifiedUtf8.{modified_utf8, unit_spelling}
use Rattle.jser_prim.proofs.TextLemmas.{modified_utf8_more}
use Rattle.jser_grammar.specs.Trees.{FieldTree, PrimTree, SectionTree, section, SectionTrees, section_and, ContentTrees, no_contents, content_and, ClassPlaceTree, plain, proxy, raw_body, value_body, ValueTrees, value_count, no_notes, annotation, block}
use Rattle.jser_grammar.specs.Spelling.{utf, long_utf, reference, string_spelling, type_spelling, fields_spelling, interfaces_spelling, prims_spelling, prim_spelling, value_spelling, values_spelling, sections_spelling, notes_spelling, annotation_spelling, content_spelling, contents_spelling, block_head, class_spelling, desc_spelling, body_spelling}
use Rattle.jser_value.specs.View.{view_field, view_prim, view_value, view_values, view_content, view_contents, view_section, view_sections}
use Rattle.jser_value.specs.declared.tree.Value.{Value}
use Rattle.jser_value.specs.declared.tree.Content.{Content}
use Rattle.jser_value.specs.declared.tree.Section.{Section}
use Rattle.jser_value.specs.declared.tree.Field.{Field}
use Rattle.jser_value.specs.declared.tree.Raw.{Raw}
use Rattle.jser_value.specs.Encoding.{field_spelling, section_spelling, plain_head, proxy_head}
use Rattle.jser_prim.specs.Outgoing.{Outgoing, SinkState, Puts}
use Rattle.jser_prim.proofs.OutgoingLemmas.{puts_both, puts_tagged}

-- a number's lowest bytes are those of its rest

lowest_two : (n : ℕ) → big_bytes 2 (n % 2 ^ 64 % 65536) ≡ big_bytes 2 n
lowest_two n = two (n % 2 ^ 64 % 65536 / 256 % 256) (n / 256 % 256) (n % 2 ^ 64 % 65536 % 256) (n % 256) (omega arith) (omega arith)
  where
    two : (a b c d : ℕ) → a ≡ b → c ≡ d → ◌≡◌ {A = List ℕ} (a ∷ c ∷ []) (b ∷ d ∷ [])
    two a b c d e f = cc

short_length : (len n : ℕ) → len ≡ n % 2 ^ 64 → big_bytes 2 (len % 65536) ≡ big_bytes 2 n
short_length len n e = ap (λ m. big_bytes 2 (m % 65536)) e ∙ lowest_two n

long_length : (len n : ℕ) → len ≡ n % 2 ^ 64 → big_bytes 8 len ≡ big_bytes 8 n
long_length len n e =
    both (omega (arith, e)) (both (omega (arith, e)) (both (omega (arith, e)) (both (omega (arith, e))
    (both (omega (arith, e)) (both (omega (arith, e)) (both (omega (arith, e)) (both (omega (arith, e)) refl)))))))
  where
    both : {a b : ℕ} {xs ys : List ℕ} → a ≡ b → xs ≡ ys → ◌≡◌ {A = List ℕ} (a ∷ xs) (b ∷ ys)
    both p q = cc

-- a length and then the text

pub puts_utf : (a b c : Outgoing) (d e f : SinkState) (len : ℕ) (units : List ℕ) → len ≡ length (modified_utf8 units) % 2 ^ 64
    → Puts a b d e (big_bytes 2 (len % 65536)) → Puts b c e f (modified_utf8 units) → Puts a c d f (utf units)
puts_utf a b c d e f len units is first text =
    puts_both a b c d e f (big_bytes 2 (length (modified_utf8 units))) (modified_utf8 units) (subst (Puts a b d e) (short_length len (length (modified_utf8 units)) is) first) text

pub puts_long_utf : (a b c : Outgoing) (d e f : SinkState) (len : ℕ) (units : List ℕ) → len ≡ length (modified_utf8 units) % 2 ^ 64
    → Puts a b d e (big_bytes 8 len) → Puts b c e f (modified_utf8 units) → Puts a c d f (long_utf units)
puts_long_utf a b c d e f len units is first text =
    puts_both a b c d e f (big_bytes 8 (length (modified_utf8 units))) (modified_utf8 units) (subst (Puts a b d e) (long_length len (length (modified_utf8 units)) is) first) text

-- a unit more

pub text_len_more : (units : List ℕ) (len i unit : ℕ) → len ≡ length (modified_utf8 (take i units)) % 2 ^ 64 → i < length units → unit ≡ get_or units i 0
    → (len + length (unit_spelling unit)) % 2 ^ 64 ≡ length (modified_utf8 (take (i + 1) units)) % 2 ^ 64
text_len_more units len i unit so inside is =
    let more = ap length (modified_utf8_more units i inside) ∙ length-append (modified_utf8 (take i units)) (unit_spelling (get_or units i 0)) in
    let same = ap (λ u. length (unit_spelling u)) is in
    omega (arith, so, more, same)

pub puts_unit : (a b c : Outgoing) (d e f : SinkState) (units : List ℕ) (i unit : ℕ) → Puts a b d e (modified_utf8 (take i units)) → i < length units → unit ≡ get_or units i 0
    → Puts b c e f (unit_spelling unit) → Puts a c d f (modified_utf8 (take (i + 1) units))
puts_unit a b c d e f units i unit so inside is more =
    subst (Puts a c d f) (ap (λ u. modified_utf8 (take i units) ++ unit_spelling u) is ∙ sym (modified_utf8_more units i inside))
    (puts_both a b c d e f (modified_utf8 (take i units)) (unit_spelling unit) so more)

-- References and strings

lowest_four : (n : ℕ) → big_bytes 4 (n % 4294967296) ≡ big_bytes 4 n
lowest_four n = four (omega arith) (omega arith) (omega arith) (omega arith)
  where
    four : {a b c d a' b' c' d' : ℕ} → a ≡ a' → b ≡ b' → c ≡ c' → d ≡ d' → ◌≡◌ {A = List ℕ} (a ∷ b ∷ c ∷ d ∷ []) (a' ∷ b' ∷ c' ∷ d' ∷ [])
    four p q r t = cc

pub puts_reference : (a b c : Outgoing) (d e f : SinkState) (number : ℕ) → Puts a b d e (0x71 ∷ []) → Puts b c e f (big_bytes 4 ((8257536 + number) % 4294967296))
    → Puts a c d f (reference number)
puts_reference a b c d e f number tag handle =
    puts_tagged a b c d e f 0x71 (big_bytes 4 (8257536 + number)) tag (subst (Puts b c e f) (lowest_four (8257536 + number)) handle)

pub puts_long_string : (a b c : Outgoing) (d e f : SinkState) (long : Bool) (units : List ℕ) → long ≡ true → Puts a b d e (0x7C ∷ []) → Puts b c e f (long_utf units)
    → Puts a c d f (string_spelling long units)
puts_long_string a b c d e f long units is tag text = subst (λ l. Puts a c d f (string_spelling l units)) (sym is) (puts_tagged a b c d e f 0x7C (long_utf units) tag text)

pub puts_short_string : (a b c : Outgoing) (d e f : SinkState) (long : Bool) (units : List ℕ) → long ≡ false → Puts a b d e (0x74 ∷ []) → Puts b c e f (utf units)
    → Puts a c d f (string_spelling long units)
puts_short_string a b c d e f long units is tag text = subst (λ l. Puts a c d f (string_spelling l units)) (sym is) (puts_tagged a b c d e f 0x74 (utf units) tag text)

-- Lists, one part more

pub puts_field : (a b c d : Outgoing) (e f g h : SinkState) (field : FieldTree) → Puts a b e f (field.code ∷ []) → Puts b c f g (utf field.name)
    → Puts c d g h (type_spelling field.text) → Puts a d e h (field_spelling field)
puts_field a b c d e f g h field first second third =
    puts_tagged a b d e f h field.code (utf field.name ++ type_spelling field.text) first
    (puts_both b c d f g h (utf field.name) (type_spelling field.text) second third)

-- one element more of a list that is spelled element by element
pub puts_next : {X : Type 0} (spell : X → List ℕ) (a b c : Outgoing) (d e f : SinkState) (xs : List X) (i : ℕ) (x : X) → i < length xs → x ≡ get_or xs i x
    → Puts a b d e (flat_map spell (take i xs)) → Puts b c e f (spell x) → Puts a c d f (flat_map spell (take (i + 1) xs))
puts_next spell a b c d e f xs i x inside is so more =
    subst (Puts a c d f) (ap (λ y. flat_map spell (take i xs) ++ spell y) is ∙ flat_map_more spell [] (take i xs) (get_or xs i x) ∙ ap (flat_map spell) (sym (take_more xs i x inside))) (puts_both a b c d e f (flat_map spell (take i xs)) (spell x) so more)

-- all elements
pub puts_all : {X : Type 0} (spell : X → List ℕ) (a b : Outgoing) (d e : SinkState) (xs : List X) (i : ℕ) (bytes : List ℕ) → length xs ≤ i → flat_map spell xs ≡ bytes
    → Puts a b d e (flat_map spell (take i xs)) → Puts a b d e bytes
puts_all spell a b d e xs i bytes all is so = subst (Puts a b d e) (ap (flat_map spell) (take_all i xs all) ∙ is) so

pub fields_flat : (fields : List Field) → flat_map (λ f. field_spelling (view_field f)) fields ≡ fields_spelling (map view_field fields)
fields_flat [] = refl
fields_flat (f ∷ fs) =
    ap (λ t. field_spelling (view_field f) ++ t) (fields_flat fs)
    ∙ ap (λ t. (view_field f).code ∷ t) (append_assoc (utf (view_field f).name) (type_spelling (view_field f).text) (fields_spelling (map view_field fs)))

pub prims_flat : (prims : List Raw) → flat_map (λ p. prim_spelling (view_prim p)) prims ≡ prims_spelling (map view_prim prims)
prims_flat [] = refl
prims_flat (p ∷ ps) = ap (λ t. prim_spelling (view_prim p) ++ t) (prims_flat ps)

pub interfaces_flat : (names : List (Vec ℕ Global)) → flat_map (λ name. utf name.items) names ≡ interfaces_spelling (map (λ name. name.items) names)
interfaces_flat [] = refl
interfaces_flat (name ∷ names) = ap (λ t. utf name.items ++ t) (interfaces_flat names)

pub values_flat : (values : List Value) → flat_map (λ value. value_spelling (view_value value)) values ≡ values_spelling (view_values values)
values_flat [] = refl
values_flat (v ∷ vs) = ap (λ t. value_spelling (view_value v) ++ t) (values_flat vs)

pub contents_flat : (contents : List Content) → flat_map (λ content. content_spelling (view_content content)) contents ≡ contents_spelling (view_contents contents)
contents_flat [] = refl
contents_flat (c ∷ cs) = ap (λ t. content_spelling (view_content c) ++ t) (contents_flat cs)

pub sections_flat : (sections : List Section) → flat_map (λ section. section_spelling (view_section section)) sections ≡ sections_spelling (view_sections sections)
sections_flat [] = refl
sections_flat (s ∷ ss) = ap (λ t. section_spelling (view_section s) ++ t) (sections_flat ss) ∙ joined (view_section s) (view_sections ss)
  where
    joined : (t : SectionTree) (ts : SectionTrees) → section_spelling t ++ sections_spelling ts ≡ sections_spelling (section_and t ts)
    joined (section prims values notes) ts =
        append_assoc (prims_spelling prims) (values_spelling values ++ notes_spelling notes) (sections_spelling ts)
        ∙ ap (λ t. prims_spelling prims ++ t) (append_assoc (values_spelling values) (notes_spelling notes) (sections_spelling ts))

-- Parts of a value

pub puts_classed : (a b c d : Outgoing) (e f g h : SinkState) (tag : ℕ) (xs ys : List ℕ) → Puts a b e f (tag ∷ []) → Puts b c f g xs → Puts c d g h ys
    → Puts a d e h (tag ∷ (xs ++ ys))
puts_classed a b c d e f g h tag xs ys first second third = puts_tagged a b d e f h tag (xs ++ ys) first (puts_both b c d f g h xs ys second third)

pub puts_length : (a b : Outgoing) (d e : SinkState) (len : ℕ) → Puts a b d e (big_bytes 4 (len % 4294967296)) → Puts a b d e (big_bytes 4 len)
puts_length a b d e len put = subst (Puts a b d e) (lowest_four len) put

pub puts_long_head : (a b c : Outgoing) (d e f : SinkState) (long : Bool) (size : ℕ) → long ≡ true → Puts a b d e (0x7A ∷ []) → Puts b c e f (big_bytes 4 size)
    → Puts a c d f (block_head long size)
puts_long_head a b c d e f long size is tag put = subst (λ l. Puts a c d f (block_head l size)) (sym is) (puts_tagged a b c d e f 0x7A (big_bytes 4 size) tag put)

pub puts_short_head : (a b c : Outgoing) (d e f : SinkState) (long : Bool) (size : ℕ) → long ≡ false → Puts a b d e (0x77 ∷ []) → Puts b c e f (size % 256 ∷ [])
    → Puts a c d f (block_head long size)
puts_short_head a b c d e f long size is tag put = subst (λ l. Puts a c d f (block_head l size)) (sym is) (puts_tagged a b c d e f 0x77 (big_bytes 1 size) tag put)

pub puts_annotation : (a b c : Outgoing) (d e f : SinkState) (contents : ContentTrees) → Puts a b d e (contents_spelling contents) → Puts b c e f (0x78 ∷ [])
    → Puts a c d f (annotation_spelling contents)
puts_annotation a b c d e f contents put end = subst (Puts a c d f) (ended contents) (puts_both a b c d e f (contents_spelling contents) (0x78 ∷ []) put end)
  where
    ended : (contents : ContentTrees) → contents_spelling contents ++ 0x78 ∷ [] ≡ annotation_spelling contents
    ended no_contents = refl
    ended (content_and c cs) = append_assoc (content_spelling c) (contents_spelling cs) (0x78 ∷ []) ∙ ap (λ t. content_spelling c ++ t) (ended cs)

-- Descriptors

pub puts_plain_head : (a b c d e f g : Outgoing) (k l m n o p q : SinkState) (name : List ℕ) (suid flags : ℕ) (fields : List Field) → Puts a b k l (0x72 ∷ [])
    → Puts b c l m (utf name) → Puts c d m n (big_bytes 8 suid) → Puts d e n o (flags ∷ []) → Puts e f o p (big_bytes 2 (length fields % 65536))
    → Puts f g p q (fields_spelling (map view_field fields)) → Puts a g k q (plain_head name suid flags (map view_field fields))
puts_plain_head a b c d e f g k l m n o p q name suid flags fields first second third fourth fifth sixth =
    let counted : big_bytes 2 (length fields % 65536) ≡ big_bytes 2 (length (map view_field fields)) =
    lowest_sixteen (length fields) ∙ ap (big_bytes 2) (sym (length-map fields view_field)) in
    puts_tagged a b g k l q 0x72 (utf name ++ (big_bytes 8 suid ++ (flags ∷ (big_bytes 2 (length (map view_field fields)) ++ fields_spelling (map view_field fields))))) first
    (puts_both b c g l m q (utf name) (big_bytes 8 suid ++ (flags ∷ (big_bytes 2 (length (map view_field fields)) ++ fields_spelling (map view_field fields)))) second
    (puts_both c d g m n q (big_bytes 8 suid) (flags ∷ (big_bytes 2 (length (map view_field fields)) ++ fields_spelling (map view_field fields))) third
    (puts_tagged d e g n o q flags (big_bytes 2 (length (map view_field fields)) ++ fields_spelling (map view_field fields)) fourth
    (puts_both e f g o p q (big_bytes 2 (length (map view_field fields))) (fields_spelling (map view_field fields)) (subst (Puts e f o p) counted fifth) sixth))))
  where
    lowest_sixteen : (n : ℕ) → big_bytes 2 (n % 65536) ≡ big_bytes 2 n
    lowest_sixteen n = two (omega arith) (omega arith)
      where
        two : {a b c d : ℕ} → a ≡ b → c ≡ d → ◌≡◌ {A = List ℕ} (a ∷ c ∷ []) (b ∷ d ∷ [])
        two p q = cc

pub puts_proxy_head : (a b c d : Outgoing) (e f g h : SinkState) (names : List (Vec ℕ Global)) → Puts a b e f (0x7D ∷ []) → Puts b c f g (big_bytes 4 (length names))
    → Puts c d g h (interfaces_spelling (map (λ name. name.items) names)) → Puts a d e h (proxy_head (map (λ name. name.items) names))
puts_proxy_head a b c d e f g h names first second third =
    let counted : big_bytes 4 (length names) ≡ big_bytes 4 (length (map (λ name. name.items) names)) = ap (big_bytes 4) (sym (length-map names (λ name. name.items))) in
    puts_classed a b c d e f g h 0x7D (big_bytes 4 (length (map (λ name. name.items) names))) (interfaces_spelling (map (λ name. name.items) names)) first
    (subst (Puts b c f g) counted second) third

pub puts_plain : (a b c d : Outgoing) (e f g h : SinkState) (name : List ℕ) (suid flags : ℕ) (fields : List FieldTree) (notes : ContentTrees) (parent : ClassPlaceTree)
    → Puts a b e f (plain_head name suid flags fields) → Puts b c f g (annotation_spelling notes) → Puts c d g h (class_spelling parent)
    → Puts a d e h (desc_spelling (plain name suid flags fields notes parent))
puts_plain a b c d e f g h name suid flags fields notes parent first second third =
    subst (Puts a d e h) (joined (utf name) (big_bytes 8 suid) (big_bytes 2 (length fields)) (fields_spelling fields) (annotation_spelling notes ++ class_spelling parent))
    (puts_both a b d e f h (plain_head name suid flags fields) (annotation_spelling notes ++ class_spelling parent) first
    (puts_both b c d f g h (annotation_spelling notes) (class_spelling parent) second third))
  where
    joined : (u v w x y : List ℕ) → (0x72 ∷ (u ++ (v ++ (flags ∷ (w ++ x))))) ++ y ≡ 0x72 ∷ (u ++ (v ++ (flags ∷ (w ++ (x ++ y)))))
    joined u v w x y = ap (λ t. 0x72 ∷ t) (append_assoc u (v ++ (flags ∷ (w ++ x))) y
        ∙ ap (λ t. u ++ t) (append_assoc v (flags ∷ (w ++ x)) y ∙ ap (λ t. v ++ (flags ∷ t)) (append_assoc w x y)))

pub puts_proxy : (a b c d : Outgoing) (e f g h : SinkState) (names : List (List ℕ)) (notes : ContentTrees) (parent : ClassPlaceTree)
    → Puts a b e f (proxy_head names) → Puts b c f g (annotation_spelling notes) → Puts c d g h (class_spelling parent)
    → Puts a d e h (desc_spelling (proxy names notes parent))
puts_proxy a b c d e f g h names notes parent first second third =
    subst (Puts a d e h) (ap (λ t. 0x7D ∷ t) (append_assoc (big_bytes 4 (length names)) (interfaces_spelling names) (annotation_spelling notes ++ class_spelling parent)))
    (puts_both a b d e f h (proxy_head names) (annotation_spelling notes ++ class_spelling parent) first
    (puts_both b c d f g h (annotation_spelling notes) (class_spelling parent) second third))

-- Arrays and sections

pub puts_raw_body : (a b c : Outgoing) (d e f : SinkState) (prims : List Raw) (len : ℕ) → len ≡ length prims → Puts a b d e (big_bytes 4 len) → Puts b c e f (prims_spelling (map view_prim prims))
    → Puts a c d f (body_spelling (raw_body (map view_prim prims)))
puts_raw_body a b c d e f prims len is first second =
    puts_both a b c d e f (big_bytes 4 (length (map view_prim prims))) (prims_spelling (map view_prim prims))
    (subst (Puts a b d e) (ap (big_bytes 4) (is ∙ sym (length-map prims view_prim))) first) second

pub puts_value_body : (a b c : Outgoing) (d e f : SinkState) (values : List Value) (len : ℕ) → len ≡ length values → Puts a b d e (big_bytes 4 len) → Puts b c e f (values_spelling (view_values values))
    → Puts a c d f (body_spelling (value_body (view_values values)))
puts_value_body a b c d e f values len is first second =
    puts_both a b c d e f (big_bytes 4 (value_count (view_values values))) (values_spelling (view_values values))
    (subst (Puts a b d e) (ap (big_bytes 4) (is ∙ counted values)) first) second
  where
    counted : (values : List Value) → length values ≡ value_count (view_values values)
    counted [] = refl
    counted (v ∷ vs) = ap suc (counted vs)

pub puts_section : (a b c d : Outgoing) (e f g h : SinkState) (prims : List PrimTree) (values : ValueTrees) (notes : ContentTrees) → Puts a b e f (prims_spelling prims)
    → Puts b c f g (values_spelling values) → Puts c d g h (annotation_spelling notes) → Puts a d e h (section_spelling (section prims values (annotation notes)))
puts_section a b c d e f g h prims values notes first second third =
    puts_both a b d e f h (prims_spelling prims) (values_spelling values ++ annotation_spelling notes) first
    (puts_both b c d f g h (values_spelling values) (annotation_spelling notes) second third)

pub puts_bare_section : (a b c : Outgoing) (d e f : SinkState) (prims : List PrimTree) (values : ValueTrees) → Puts a b d e (prims_spelling prims)
    → Puts b c e f (values_spelling values) → Puts a c d f (section_spelling (section prims values no_notes))
puts_bare_section a b c d e f prims values first second =
    subst (Puts a c d f) (ap (λ t. prims_spelling prims ++ t) (sym (append-nil (values_spelling values)))) (puts_both a b c d e f (prims_spelling prims) (values_spelling values) first second)

pub puts_block : (a b c : Outgoing) (d e f : SinkState) (long : Bool) (bytes : List ℕ) (len : ℕ) → len ≡ length bytes → Puts a b d e (block_head long len) → Puts b c e f bytes
    → Puts a c d f (content_spelling (block long bytes))
puts_block a b c d e f long bytes len is first second =
    puts_both a b c d e f (block_head long (length bytes)) bytes (subst (Puts a b d e) (ap (block_head long) is) first) second
