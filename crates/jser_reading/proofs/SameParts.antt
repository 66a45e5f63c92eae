-- The parts of two trees from one moment, whose tokens begin alike, are equal: text places, fields, interfaces, raw
-- data. Values of different shapes have different tags.
use Rattle.std.proofs.Common.{◌≡◌, ℕ, Bool, true, false, ◌||◌, if◌then◌else◌, List, [], ◌∷◌, length, refl, sym, ◌∙◌, ap, ap₂, arith, Option, Some, None, MatchBool}
use Rattle.jser_reading.proofs.Vocabulary.{PrimCode, is_object_code, TextTree, TextPlaceTree, new_text, back_text, FieldTree, PrimTree, ValueTree, null, back, string, descriptor, class_object, array, enum_constant, object, DescTree, plain, proxy, SectionTrees, after_type, WellFormedType, WellFormedFields, ArePrims, Moment, past_type, Tag, null_tag, reference_tag, class_desc_tag, object_tag, string_tag, array_tag, class_tag, long_string_tag, proxy_desc_tag, enum_tag, Piece, tag_of_string, tag_of_desc, tag_of, cut_text_place, cut_type, cut_fields, cut_interfaces, cut_bytes, cut_raw, cut_prims}
use Rattle.jser_grammar.proofs.Bools.{both_ways}
use Rattle.jser_reading.proofs.TreeToMachine.{not_object}

-- records, by their parts

pub same_text : (t u : TextTree) → t.long ≡ u.long → t.units ≡ u.units → t ≡ u
same_text t u e f = λ i. record { long = e i; units = f i }

pub same_token : (f g : FieldTree) → f.code ≡ g.code → f.name ≡ g.name → f.text ≡ g.text → f ≡ g
same_token f g e n t = λ i. record { code = e i; name = n i; text = t i }

-- text places, fields, interfaces and raw data

pub no_reference_text : (long : Bool) → tag_of_string long ≡ reference_tag → ⊥
no_reference_text true e = cc
no_reference_text false e = cc

pub same_text_place : (t u : TextPlaceTree) (d : ℕ) (m : Moment) (x y : List Piece)
    → cut_text_place d m t x ≡ cut_text_place d m u y → (t ≡ u) × (x ≡ y)
same_text_place (new_text t) (new_text u) d m x y e =
    let el : t.long ≡ u.long = cc in
    let eu : t.units ≡ u.units = cc in
    (ap new_text (same_text t u el eu), cc)
same_text_place (back_text a) (back_text b) d m x y e = (cc, cc)
same_text_place (new_text t) (back_text b) d m x y e =
    let z : tag_of_string t.long ≡ reference_tag = cc in absurd (no_reference_text t.long z)
same_text_place (back_text a) (new_text u) d m x y e =
    let z : reference_tag ≡ tag_of_string u.long = cc in absurd (no_reference_text u.long (sym z))

pub same_type : (t u : Option TextPlaceTree) (code : ℕ) (seen : Bool) (d : ℕ) (m : Moment) (x y : List Piece)
    → WellFormedType m.table seen code t → WellFormedType m.table seen code u
    → cut_type d m t x ≡ cut_type d m u y → (t ≡ u) × (x ≡ y)
same_type None None code seen d m x y h k e = (refl, e)
same_type (Some t) (Some u) code seen d m x y h k e = let q = same_text_place t u d m x y e in (ap (λ z. Some z) q.0, q.1)
same_type None (Some u) code seen d m x y h k e = both_ways (is_object_code code) k.0 (not_object code h.0)
same_type (Some t) None code seen d m x y h k e = both_ways (is_object_code code) h.0 (not_object code k.0)

pub same_fields : (fs gs : List FieldTree) (d : ℕ) (seen : Bool) (m : Moment) (x y : List Piece) → length fs ≡ length gs
    → WellFormedFields m.table seen fs → WellFormedFields m.table seen gs → cut_fields d seen m fs x ≡ cut_fields d seen m gs y
    → (fs ≡ gs) × (x ≡ y)
same_fields [] [] d seen m x y l h k e = (refl, e)
same_fields (f ∷ fs) (g ∷ gs) d seen m x y l h k e =
    let ec : f.code ≡ g.code = cc in
    let en : f.name ≡ g.name = cc in
    let X = cut_fields d (seen || is_object_code f.code) (past_type m f.text) fs x in
    let Y = cut_fields d (seen || is_object_code g.code) (past_type m g.text) gs y in
    let e1 : cut_type d m f.text X ≡ cut_type d m g.text Y = cc in
    let wg : WellFormedType m.table seen f.code g.text = rw ec k.1 in
    let q = same_type f.text g.text f.code seen d m X Y h.1 wg e1 in
    let wgs : WellFormedFields (after_type m.table f.text) (seen || is_object_code f.code) gs = rw (ec, q.0) k.2 in
    let e2 : X ≡ cut_fields d (seen || is_object_code f.code) (past_type m f.text) gs y = q.1 ∙ rw (ec, q.0) refl in
    let r = same_fields fs gs d (seen || is_object_code f.code) (past_type m f.text) x y (omega arith) h.2 wgs e2 in
    (ap₂ (λ a b. a ∷ b) (same_token f g ec en q.0) r.0, r.1)
same_fields [] (g ∷ gs) d seen m x y l h k e = absurd (omega arith)
same_fields (f ∷ fs) [] d seen m x y l h k e = absurd (omega arith)

pub same_interfaces : (ns ks : List (List ℕ)) (d : ℕ) (m : Moment) (x y : List Piece) → length ns ≡ length ks
    → cut_interfaces d m ns x ≡ cut_interfaces d m ks y → (ns ≡ ks) × (x ≡ y)
same_interfaces [] [] d m x y l e = (refl, e)
same_interfaces (n ∷ ns) (k ∷ ks) d m x y l e =
    let e' : cut_interfaces d m ns x ≡ cut_interfaces d m ks y = cc in
    let en : n ≡ k = cc in
    let r = same_interfaces ns ks d m x y (omega arith) e' in (ap₂ (λ a b. a ∷ b) en r.0, r.1)
same_interfaces [] (k ∷ ks) d m x y l e = absurd (omega arith)
same_interfaces (n ∷ ns) [] d m x y l e = absurd (omega arith)

pub same_bytes : (a b : List ℕ) (d : ℕ) (m : Moment) (x y : List Piece) → length a ≡ length b
    → cut_bytes d m a x ≡ cut_bytes d m b y → (a ≡ b) × (x ≡ y)
same_bytes [] [] d m x y l e = (refl, e)
same_bytes (n ∷ a) (k ∷ b) d m x y l e = (cc, cc)
same_bytes [] (k ∷ b) d m x y l e = absurd (omega arith)
same_bytes (n ∷ a) [] d m x y l e = absurd (omega arith)

pub same_raw : (c : PrimCode) (ps qs : List PrimTree) (d : ℕ) (m : Moment) (x y : List Piece) → length ps ≡ length qs
    → cut_raw d m (Some c) ps x ≡ cut_raw d m (Some c) qs y → (ps ≡ qs) × (x ≡ y)
same_raw c [] [] d m x y l e = (refl, e)
same_raw c (p ∷ ps) (q ∷ qs) d m x y l e = (cc, cc)
same_raw c [] (q ∷ qs) d m x y l e = absurd (omega arith)
same_raw c (p ∷ ps) [] d m x y l e = absurd (omega arith)

pub same_prims : (cs : List PrimCode) (ps qs : List PrimTree) (d : ℕ) (m : Moment) (x y : List Piece) → ArePrims cs ps
    → ArePrims cs qs
    → cut_prims d m cs ps x ≡ cut_prims d m cs qs y → (ps ≡ qs) × (x ≡ y)
same_prims [] [] [] d m x y h k e = (refl, e)
same_prims [] (p ∷ ps) qs d m x y h k e = absurd h
same_prims [] [] (q ∷ qs) d m x y h k e = absurd k
same_prims (c ∷ cs) [] qs d m x y h k e = absurd h
same_prims (c ∷ cs) (p ∷ ps) [] d m x y h k e = absurd k
same_prims (c ∷ cs) (p ∷ ps) (q ∷ qs) d m x y h k e =
    let e' : cut_prims d m cs ps x ≡ cut_prims d m cs qs y = cc in
    let ep : p ≡ q = cc in
    let r = same_prims cs ps qs d m x y h.1 k.1 e' in (ap₂ (λ a b. a ∷ b) ep r.0, r.1)

-- the shape of a value shows in its tag

pub data Shape : Type 0 where
  null_shape back_shape string_shape desc_shape class_shape array_shape enum_shape object_shape : Shape

abbrev pub shape_of : Tag → Shape
shape_of null_tag = null_shape
shape_of reference_tag = back_shape
shape_of class_desc_tag = desc_shape
shape_of proxy_desc_tag = desc_shape
shape_of object_tag = object_shape
shape_of string_tag = string_shape
shape_of long_string_tag = string_shape
shape_of array_tag = array_shape
shape_of class_tag = class_shape
shape_of enum_tag = enum_shape

abbrev pub shape : ValueTree → Shape
shape null = null_shape
shape (back n) = back_shape
shape (string t) = string_shape
shape (descriptor x) = desc_shape
shape (class_object c) = class_shape
shape (array c b) = array_shape
shape (enum_constant c t) = enum_shape
shape (object c ss) = object_shape

pub string_shaped : (long : Bool) → shape_of (tag_of_string long) ≡ string_shape
string_shaped true = refl
string_shaped false = refl

pub shape_tag : (v : ValueTree) → shape_of (tag_of v) ≡ shape v
shape_tag null = refl
shape_tag (back n) = refl
shape_tag (string t) = string_shaped t.long
shape_tag (descriptor (plain name suid flags fields notes parent)) = refl
shape_tag (descriptor (proxy interfaces notes parent)) = refl
shape_tag (class_object c) = refl
shape_tag (array c b) = refl
shape_tag (enum_constant c t) = refl
shape_tag (object c ss) = refl

pub no_reference_desc : (x : DescTree) → reference_tag ≡ tag_of_desc x → ⊥
no_reference_desc (plain name suid flags fields notes parent) e = cc
no_reference_desc (proxy interfaces notes parent) e = cc

pub no_null_desc : (x : DescTree) → null_tag ≡ tag_of_desc x → ⊥
no_null_desc (plain name suid flags fields notes parent) e = cc
no_null_desc (proxy interfaces notes parent) e = cc

-- the sections of two objects of one class
pub same_by_class : (external : Bool) (E S E' S' : Type 0) (ss zs : SectionTrees) (a b a' b' x y : List Piece)
    → MatchBool external E S → MatchBool external E' S'
    → (if external then a else b) ≡ (if external then a' else b')
    → (E → E' → a ≡ a' → (ss ≡ zs) × (x ≡ y)) → (S → S' → b ≡ b' → (ss ≡ zs) × (x ≡ y)) → (ss ≡ zs) × (x ≡ y)
same_by_class true E S E' S' ss zs a b a' b' x y h k e f g = f h k e
same_by_class false E S E' S' ss zs a b a' b' x y h k e f g = g h k e
