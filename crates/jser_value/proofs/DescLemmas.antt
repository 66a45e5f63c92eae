-- A new descriptor: what was told of its parts tells of the whole.
use Rattle.std.proofs.Common.{◌≡◌, ◌≤◌, ◌&&◌, ◌+◌, Bool, true, false, refl, ℕ, suc, List, [], ◌∷◌, ◌++◌, length, length-append, sym, ap, ◌∙◌, arith, Option, Some, None, slice_get, slice_set, IsTrue, subst}
use Rattle.jser_grammar.proofs.Vocabulary.{pending_entry, is_pending, closed_entry, Layer, FieldTree, DescTree, plain, proxy, ClassPlaceTree, ContentTrees, Entries, add, plain_layer, proxy_layer, after_fields, after_desc, after_class, after_contents, chain_of_class}
use Rattle.jser_grammar.proofs.Bools.{and_left, and_right, and_both}
use Rattle.jser_prim.specs.Bytes.{big_bytes}
use Rattle.jser_value.proofs.KeepLemmas.{pending_plain, pending_proxy}
use Rattle.jser_grammar.specs.Spelling.{utf, fields_spelling, interfaces_spelling, annotation_spelling, class_spelling, desc_spelling}
use Rattle.jser_table.specs.Tables.{closed_under}
use Rattle.jser_value.specs.PartTests.{obeys_fields}
use Rattle.jser_value.specs.Rooms.{HasRoom, HasRoomForOneMore, Spends, SpendsOneMore}
use Rattle.jser_value.specs.Tests.{obeys_head, obeys_interfaces, obeys_desc, obeys_notes, obeys_superclass, IsParentAt}

-- the entry of a class under its superclass
closed_parent : (T : Entries) (above : Option ℕ) (layer : Layer) (chain : List Layer) → IsParentAt T chain above
    → closed_under T above layer ≡ closed_entry (chain ++ (layer ∷ []))
closed_parent T None layer chain parent = ap (λ (c : List Layer). closed_entry (c ++ (layer ∷ []))) (sym parent)
closed_parent T (Some p) layer chain parent = ap (λ (c : List Layer). closed_entry (c ++ (layer ∷ []))) parent.chain_is

-- a plain descriptor of parts that are right is right, and the table is then the one after it
pub plain_judged : (T T2 T3 T4 T5 : Entries) (n : ℕ) (above : Option ℕ) (name : List ℕ) (suid flags : ℕ) (fields : List FieldTree) (notes : ContentTrees)
    (parent : ClassPlaceTree) (x : DescTree)
    → n ≡ length T → (obeys_head name suid flags fields && obeys_fields (add T pending_entry) false fields) ≡ true → T2 ≡ after_fields (add T pending_entry) fields
    → obeys_notes T2 notes ≡ true → T3 ≡ after_contents T2 notes → obeys_superclass T3 parent ≡ true → T4 ≡ after_class T3 parent
    → IsParentAt T4 (chain_of_class T3 parent) above → T5 ≡ slice_set T4 n (closed_under T4 above (plain_layer name flags fields))
    → x ≡ plain name suid flags fields notes parent → (obeys_desc T x ≡ true) × (T5 ≡ after_desc T x)
plain_judged T T2 T3 T4 T5 n above name suid flags fields notes parent x number head e2 h3 e3 h4 e4 p e5 ex =
    let behind = after_fields (add T pending_entry) fields in
    let inside = after_contents behind notes in
    let layer = plain_layer name flags fields in
    let reached : T3 ≡ inside = e3 ∙ ap (λ (V : Entries). after_contents V notes) e2 in
    let noted : obeys_notes behind notes ≡ true = subst (λ (V : Entries). obeys_notes V notes ≡ true) e2 h3 in
    let under : obeys_superclass inside parent ≡ true = subst (λ (V : Entries). obeys_superclass V parent ≡ true) reached h4 in
    let first = and_left (obeys_head name suid flags fields) (obeys_fields (add T pending_entry) false fields) head in
    let second = and_right (obeys_head name suid flags fields) (obeys_fields (add T pending_entry) false fields) head in
    let test : obeys_desc T (plain name suid flags fields notes parent) ≡ true =
    and_both (obeys_head name suid flags fields)
    (obeys_fields (add T pending_entry) false fields && (obeys_notes behind notes && obeys_superclass inside parent))
    first
    (and_both (obeys_fields (add T pending_entry) false fields) (obeys_notes behind notes && obeys_superclass inside parent) second
    (and_both (obeys_notes behind notes) (obeys_superclass inside parent) noted under)) in
    let entry : closed_under T4 above layer ≡ closed_entry (chain_of_class T3 parent ++ (layer ∷ [])) = closed_parent T4 above layer (chain_of_class T3 parent) p in
    let far : T4 ≡ after_class inside parent = e4 ∙ ap (λ (V : Entries). after_class V parent) reached in
    let above_is : chain_of_class T3 parent ≡ chain_of_class inside parent = ap (λ (V : Entries). chain_of_class V parent) reached in
    let after : T5 ≡ after_desc T (plain name suid flags fields notes parent) =
    e5
    ∙ ap (λ e. slice_set T4 n e) entry
    ∙ ap (λ (c : List Layer). slice_set T4 n (closed_entry (c ++ (layer ∷ [])))) above_is
    ∙ ap (λ k. slice_set T4 k (closed_entry (chain_of_class inside parent ++ (layer ∷ [])))) number
    ∙ ap (λ (V : Entries). slice_set V (length T) (closed_entry (chain_of_class inside parent ++ (layer ∷ [])))) far in
    (subst (λ (y : DescTree). obeys_desc T y ≡ true) (sym ex) test, subst (λ (y : DescTree). T5 ≡ after_desc T y) (sym ex) after)

-- a proxy descriptor
pub proxy_judged : (T T3 T4 T5 : Entries) (n : ℕ) (above : Option ℕ) (layer : Layer) (interfaces : List (List ℕ)) (notes : ContentTrees) (parent : ClassPlaceTree)
    (x : DescTree)
    → n ≡ length T → obeys_interfaces interfaces ≡ true → obeys_notes (add T pending_entry) notes ≡ true → T3 ≡ after_contents (add T pending_entry) notes
    → obeys_superclass T3 parent ≡ true → T4 ≡ after_class T3 parent → IsParentAt T4 (chain_of_class T3 parent) above → layer ≡ proxy_layer
    → T5 ≡ slice_set T4 n (closed_under T4 above layer) → x ≡ proxy interfaces notes parent → (obeys_desc T x ≡ true) × (T5 ≡ after_desc T x)
proxy_judged T T3 T4 T5 n above layer interfaces notes parent x number head noted e3 h4 e4 p l e5 ex =
    let inside = after_contents (add T pending_entry) notes in
    let under : obeys_superclass inside parent ≡ true = subst (λ (V : Entries). obeys_superclass V parent ≡ true) e3 h4 in
    let test : obeys_desc T (proxy interfaces notes parent) ≡ true =
    and_both (obeys_interfaces interfaces) (obeys_notes (add T pending_entry) notes && obeys_superclass inside parent) head
    (and_both (obeys_notes (add T pending_entry) notes) (obeys_superclass inside parent) noted under) in
    let entry : closed_under T4 above layer ≡ closed_entry (chain_of_class T3 parent ++ (layer ∷ [])) = closed_parent T4 above layer (chain_of_class T3 parent) p in
    let after : T5 ≡ after_desc T (proxy interfaces notes parent) = cc in
    (subst (λ (y : DescTree). obeys_desc T y ≡ true) (sym ex) test, subst (λ (y : DescTree). T5 ≡ after_desc T y) (sym ex) after)

-- and it is wrong where its superclass place is
fails_last : (a b c d : Bool) → d ≡ false → (a && (b && (c && d))) ≡ false
fails_last true true true d h = h
fails_last true true false d h = refl
fails_last true false c d h = refl
fails_last false b c d h = refl

pub plain_above_failed : (T T2 T3 : Entries) (name : List ℕ) (suid flags : ℕ) (fields : List FieldTree) (notes : ContentTrees) (parent : ClassPlaceTree)
    (x : DescTree)
    → T2 ≡ after_fields (add T pending_entry) fields → T3 ≡ after_contents T2 notes → x ≡ plain name suid flags fields notes parent
    → obeys_superclass T3 parent ≡ false → obeys_desc T x ≡ false
plain_above_failed T T2 T3 name suid flags fields notes parent x e2 e3 ex h =
    let behind = after_fields (add T pending_entry) fields in
    let inside = after_contents behind notes in
    let reached : T3 ≡ inside = e3 ∙ ap (λ (V : Entries). after_contents V notes) e2 in
    let above : obeys_superclass inside parent ≡ false = subst (λ (V : Entries). obeys_superclass V parent ≡ false) reached h in
    ap (obeys_desc T) ex
    ∙ fails_last (obeys_head name suid flags fields) (obeys_fields (add T pending_entry) false fields) (obeys_notes behind notes) (obeys_superclass inside parent) above

-- its handle is pending until its superclass place was read
pub plain_pending : (T T2 T3 T4 : Entries) (n : ℕ) (fields : List FieldTree) (notes : ContentTrees) (parent : ClassPlaceTree)
    → n ≡ length T → T2 ≡ after_fields (add T pending_entry) fields → T3 ≡ after_contents T2 notes → T4 ≡ after_class T3 parent
    → IsTrue (is_pending (slice_get T4 n))
plain_pending T T2 T3 T4 n fields notes parent number e2 e3 e4 =
    let kept = pending_plain T fields notes parent in
    let same : is_pending (slice_get T4 n) ≡ true = cc in
    same

pub proxy_pending : (T T3 T4 : Entries) (n : ℕ) (notes : ContentTrees) (parent : ClassPlaceTree)
    → n ≡ length T → T3 ≡ after_contents (add T pending_entry) notes → T4 ≡ after_class T3 parent → IsTrue (is_pending (slice_get T4 n))
proxy_pending T T3 T4 n notes parent number e3 e4 =
    let kept = pending_proxy T notes parent in
    let same : is_pending (slice_get T4 n) ≡ true = cc in
    same

-- ---- handles and bytes

-- a plain descriptor has a byte besides those of its fields, its annotation and its superclass place
pub plain_longer : (name : List ℕ) (suid flags : ℕ) (fields : List FieldTree) (notes : ContentTrees) (parent : ClassPlaceTree) (x : DescTree)
    → x ≡ plain name suid flags fields notes parent
    → suc (length (fields_spelling fields) + (length (annotation_spelling notes) + length (class_spelling parent))) ≤ length (desc_spelling x)
plain_longer name suid flags fields notes parent x ex =
    let rest = annotation_spelling notes ++ class_spelling parent in
    let counted = big_bytes 2 (length fields) ++ (fields_spelling fields ++ rest) in
    let longer : suc (length (fields_spelling fields) + (length (annotation_spelling notes) + length (class_spelling parent)))
    ≤ length (desc_spelling (plain name suid flags fields notes parent)) =
    omega (
      arith,
      length-append (utf name) (big_bytes 8 suid ++ (flags ∷ counted)),
      length-append (big_bytes 8 suid) (flags ∷ counted),
      length-append (big_bytes 2 (length fields)) (fields_spelling fields ++ rest),
      length-append (fields_spelling fields) rest,
      length-append (annotation_spelling notes) (class_spelling parent),
    ) in
    subst (λ (y : DescTree). suc (length (fields_spelling fields) + (length (annotation_spelling notes) + length (class_spelling parent))) ≤ length (desc_spelling y)) (sym ex) longer

-- and a proxy descriptor one besides those of its annotation and its superclass place
pub proxy_longer : (interfaces : List (List ℕ)) (notes : ContentTrees) (parent : ClassPlaceTree) (x : DescTree) → x ≡ proxy interfaces notes parent
    → suc (length (annotation_spelling notes) + length (class_spelling parent)) ≤ length (desc_spelling x)
proxy_longer interfaces notes parent x ex =
    let rest = annotation_spelling notes ++ class_spelling parent in
    let longer : suc (length (annotation_spelling notes) + length (class_spelling parent)) ≤ length (desc_spelling (proxy interfaces notes parent)) =
    omega (
      arith,
      length-append (big_bytes 4 (length interfaces)) (interfaces_spelling interfaces ++ rest),
      length-append (interfaces_spelling interfaces) rest,
      length-append (annotation_spelling notes) (class_spelling parent),
    ) in
    subst (λ (y : DescTree). suc (length (annotation_spelling notes) + length (class_spelling parent)) ≤ length (desc_spelling y)) (sym ex) longer

-- so there is room for each part, and the whole spends no more than its bytes
pub plain_room_fields : (T : Entries) (name : List ℕ) (suid flags : ℕ) (fields : List FieldTree) (notes : ContentTrees) (parent : ClassPlaceTree) (x : DescTree)
    → x ≡ plain name suid flags fields notes parent → HasRoom T (desc_spelling x) → HasRoomForOneMore T (fields_spelling fields)
plain_room_fields T name suid flags fields notes parent x ex room = omega (arith, room, plain_longer name suid flags fields notes parent x ex)

pub plain_spent : (T T2 T3 T4 T5 : Entries) (name : List ℕ) (suid flags : ℕ) (fields : List FieldTree) (notes : ContentTrees) (parent : ClassPlaceTree)
    (x : DescTree)
    → x ≡ plain name suid flags fields notes parent → SpendsOneMore T (fields_spelling fields) T2 [] → Spends T2 (annotation_spelling notes) T3 []
    → Spends T3 (class_spelling parent) T4 [] → length T5 ≤ length T4 → Spends T (desc_spelling x) T5 []
plain_spent T T2 T3 T4 T5 name suid flags fields notes parent x ex s2 s3 s4 s5 =
    omega (arith, s2, s3, s4, s5, plain_longer name suid flags fields notes parent x ex)

pub proxy_spent : (T T1 T3 T4 T5 : Entries) (interfaces : List (List ℕ)) (notes : ContentTrees) (parent : ClassPlaceTree) (x : DescTree)
    → x ≡ proxy interfaces notes parent → length T1 ≤ length T + 1 → Spends T1 (annotation_spelling notes) T3 [] → Spends T3 (class_spelling parent) T4 []
    → length T5 ≤ length T4 → Spends T (desc_spelling x) T5 []
proxy_spent T T1 T3 T4 T5 interfaces notes parent x ex s1 s3 s4 s5 = omega (arith, s1, s3, s4, s5, proxy_longer interfaces notes parent x ex)
