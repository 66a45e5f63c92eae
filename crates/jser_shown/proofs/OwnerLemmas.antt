-- The owners of a tree stand before those of what follows it, and each is filled in at the position of its tag.
use Rattle.std.proofs.Common.{◌≡◌, List, [], ◌∷◌, ◌++◌, length, refl, sym, ap, ◌∙◌, slice_set, append_assoc}
use Rattle.jser_grammar.specs.Counts.{array_length}
use Rattle.jser_reading.proofs.Vocabulary.{ValueTree, null, back, string, descriptor, class_object, array, enum_constant, object, DescTree, plain, proxy, ClassPlaceTree, no_class, back_class, new_class, BodyTree, raw_body, value_body, ValueTrees, no_values, value_and, section, SectionTrees, no_sections, section_and, NotesTree, no_notes, annotation, block, reset, content, ContentTrees, no_contents, content_and}
use Rattle.jser_shown.specs.Known.{known_other, known_pending, Known, with_entry, known_fields, known_value, known_class_place, known_values, known_notes, known_contents}
use Rattle.jser_shown.specs.Owners.{OwnerNode, owner_node, owners_in_value, owners_in_desc, owners_in_class, owners_in_body, owners_in_values, owners_in_sections, owners_in_notes, owners_in_annotation}

-- an owner is filled in at its position
pub fill_blank : (O C : List OwnerNode) (y : OwnerNode) → slice_set ((O ++ (owner_node 0 0 ∷ [])) ++ C) (length O) y ≡ O ++ (y ∷ C)
fill_blank [] C y = refl
fill_blank (x ∷ O) C y = ap (λ t. x ∷ t) (fill_blank O C y)

pub joined : (O A S W : List OwnerNode) → W ≡ A ++ S → (O ++ A) ++ S ≡ O ++ W
joined O A S W e = append_assoc O A S ∙ ap (λ t. O ++ t) (sym e)

pub filled_joined : (O C S W : List OwnerNode) (y : OwnerNode) → W ≡ C ++ S
    → slice_set ((O ++ (owner_node 0 0 ∷ [])) ++ C) (length O) y ++ S ≡ O ++ (y ∷ W)
filled_joined O C S W y e = ap (λ t. t ++ S) (fill_blank O C y) ∙ joined O (y ∷ C) S (y ∷ W) (ap (λ t. y ∷ t) e)

-- the owners of a tree come before those of what follows

through : (F : List OwnerNode → List OwnerNode) (X Y os : List OwnerNode) → ((z : List OwnerNode) → F z ≡ F [] ++ z) → X ≡ Y ++ os
    → F X ≡ F Y ++ os
through F X Y os f e =
    f X ∙ (ap (λ t. F [] ++ t) e ∙ (sym (append_assoc (F []) Y os) ∙ ap (λ t. t ++ os) (sym (f Y))))

mutual
  pub owners_before_value : (v : ValueTree) (T : Known) (os : List OwnerNode) → owners_in_value T v os ≡ owners_in_value T v [] ++ os
  owners_before_value null T os = refl
  owners_before_value (back n) T os = refl
  owners_before_value (string t) T os = refl
  owners_before_value (descriptor d) T os = owners_before_desc d T os
  owners_before_value (class_object c) T os = ap (λ t. owner_node (length (known_class_place T c)) 0 ∷ t) (owners_before_class c T os)
  owners_before_value (array c b) T os =
      let T1 = with_entry (known_class_place T c) known_other in
      ap (λ t. owner_node (length (known_class_place T c)) (array_length b) ∷ t)
      (through (λ z. owners_in_class T c z) (owners_in_body T1 b os) (owners_in_body T1 b []) os (λ z. owners_before_class c T z) (owners_before_body b T1 os))
  owners_before_value (enum_constant c t) T os = ap (λ t. owner_node (length (known_class_place T c)) 0 ∷ t) (owners_before_class c T os)
  owners_before_value (object c ss) T os =
      let T1 = with_entry (known_class_place T c) known_other in
      ap (λ t. owner_node (length (known_class_place T c)) 0 ∷ t)
      (through (λ z. owners_in_class T c z) (owners_in_sections T1 ss os) (owners_in_sections T1 ss []) os (λ z. owners_before_class c T z) (owners_before_sections ss T1 os))

  pub owners_before_desc : (d : DescTree) (T : Known) (os : List OwnerNode) → owners_in_desc T d os ≡ owners_in_desc T d [] ++ os
  owners_before_desc (plain name suid flags fields notes parent) T os =
      let T2 = known_fields (with_entry T known_pending) fields in
      let T3 = known_contents T2 notes in
      through (λ z. owners_in_annotation T2 notes z) (owners_in_class T3 parent os) (owners_in_class T3 parent []) os (λ z. owners_before_annotation notes T2 z) (owners_before_class parent T3 os)
  owners_before_desc (proxy interfaces notes parent) T os =
      let T2 = with_entry T known_pending in
      let T3 = known_contents T2 notes in
      through (λ z. owners_in_annotation T2 notes z) (owners_in_class T3 parent os) (owners_in_class T3 parent []) os (λ z. owners_before_annotation notes T2 z) (owners_before_class parent T3 os)

  pub owners_before_class : (c : ClassPlaceTree) (T : Known) (os : List OwnerNode) → owners_in_class T c os ≡ owners_in_class T c [] ++ os
  owners_before_class no_class T os = refl
  owners_before_class (back_class n) T os = refl
  owners_before_class (new_class d) T os = owners_before_desc d T os

  pub owners_before_body : (b : BodyTree) (T : Known) (os : List OwnerNode) → owners_in_body T b os ≡ owners_in_body T b [] ++ os
  owners_before_body (raw_body ps) T os = refl
  owners_before_body (value_body vs) T os = owners_before_values vs T os

  pub owners_before_values : (vs : ValueTrees) (T : Known) (os : List OwnerNode) → owners_in_values T vs os ≡ owners_in_values T vs [] ++ os
  owners_before_values no_values T os = refl
  owners_before_values (value_and v vs) T os =
      let T1 = known_value T v in
      through (λ z. owners_in_value T v z) (owners_in_values T1 vs os) (owners_in_values T1 vs []) os (λ z. owners_before_value v T z) (owners_before_values vs T1 os)

  pub owners_before_sections : (ss : SectionTrees) (T : Known) (os : List OwnerNode) → owners_in_sections T ss os ≡ owners_in_sections T ss [] ++ os
  owners_before_sections no_sections T os = refl
  owners_before_sections (section_and (section ps vs n) ss) T os =
      let T1 = known_values T vs in
      let T2 = known_notes T1 n in
      through (λ z. owners_in_values T vs z) (owners_in_notes T1 n (owners_in_sections T2 ss os)) (owners_in_notes T1 n (owners_in_sections T2 ss [])) os
      (λ z. owners_before_values vs T z)
      (through (λ z. owners_in_notes T1 n z) (owners_in_sections T2 ss os) (owners_in_sections T2 ss []) os (λ z. owners_before_notes n T1 z) (owners_before_sections ss T2 os))

  pub owners_before_notes : (n : NotesTree) (T : Known) (os : List OwnerNode) → owners_in_notes T n os ≡ owners_in_notes T n [] ++ os
  owners_before_notes no_notes T os = refl
  owners_before_notes (annotation cs) T os = owners_before_annotation cs T os

  pub owners_before_annotation : (cs : ContentTrees) (T : Known) (os : List OwnerNode) → owners_in_annotation T cs os ≡ owners_in_annotation T cs [] ++ os
  owners_before_annotation no_contents T os = refl
  owners_before_annotation (content_and (block long bytes) cs) T os = owners_before_annotation cs T os
  owners_before_annotation (content_and reset cs) T os = owners_before_annotation cs T os
  owners_before_annotation (content_and (content v) cs) T os =
      let T1 = known_value T v in
      through (λ z. owners_in_value T v z) (owners_in_annotation T1 cs os) (owners_in_annotation T1 cs []) os (λ z. owners_before_value v T z) (owners_before_annotation cs T1 os)

pub section_joined : (vs : ValueTrees) (n : NotesTree) (ss : SectionTrees) (T : Known) (O : List OwnerNode)
    → ((O ++ owners_in_values T vs []) ++ owners_in_notes (known_values T vs) n []) ++ owners_in_sections (known_notes (known_values T vs) n) ss []
    ≡ O ++ owners_in_values T vs (owners_in_notes (known_values T vs) n (owners_in_sections (known_notes (known_values T vs) n) ss []))
section_joined vs n ss T O =
    let T1 = known_values T vs in
    let S = owners_in_sections (known_notes T1 n) ss [] in
    let W = owners_in_notes T1 n S in
    joined (O ++ owners_in_values T vs []) (owners_in_notes T1 n []) S W (owners_before_notes n T1 S)
    ∙ joined O (owners_in_values T vs []) W (owners_in_values T vs W) (owners_before_values vs T W)
