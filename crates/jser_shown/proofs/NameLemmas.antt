-- The checked names of a tree, added to those before it.
use Rattle.std.proofs.Common.{◌≡◌, ℕ, List, [], ◌∷◌, ◌++◌, sym, ap, ◌∙◌, append_assoc, append-nil}
use Rattle.jser_reading.proofs.Vocabulary.{ValueTree, null, back, string, descriptor, class_object, array, enum_constant, object, DescTree, plain, proxy, ClassPlaceTree, no_class, back_class, new_class, BodyTree, raw_body, value_body, ValueTrees, no_values, value_and, section, SectionTrees, no_sections, section_and, NotesTree, no_notes, annotation, block, reset, content, ContentTrees, no_contents, content_and}
use Rattle.jser_grammar.specs.InOrder.{gathered_in_value, gathered_in_desc, gathered_in_class, gathered_in_body, gathered_in_values, gathered_in_sections, gathered_in_notes, gathered_in_contents}

-- the names so far, and those of a tree after them

abbrev pub from_interfaces : List (List ℕ) → List (List ℕ) → List (List ℕ)
from_interfaces N [] = N
from_interfaces N (name ∷ names) = from_interfaces (N ++ (name ∷ [])) names

abbrev mutual
  pub from_value : List (List ℕ) → ValueTree → List (List ℕ)
  from_value N null = N
  from_value N (back n) = N
  from_value N (string t) = N
  from_value N (descriptor d) = from_desc N d
  from_value N (class_object c) = from_class N c
  from_value N (array c b) = from_body (from_class N c) b
  from_value N (enum_constant c t) = from_class N c
  from_value N (object c ss) = from_sections (from_class N c) ss

  pub from_desc : List (List ℕ) → DescTree → List (List ℕ)
  from_desc N (plain name suid flags fields notes parent) = from_class (from_contents (N ++ (name ∷ [])) notes) parent
  from_desc N (proxy interfaces notes parent) = from_class (from_contents (from_interfaces N interfaces) notes) parent

  pub from_class : List (List ℕ) → ClassPlaceTree → List (List ℕ)
  from_class N no_class = N
  from_class N (back_class n) = N
  from_class N (new_class d) = from_desc N d

  pub from_body : List (List ℕ) → BodyTree → List (List ℕ)
  from_body N (raw_body ps) = N
  from_body N (value_body vs) = from_values N vs

  pub from_values : List (List ℕ) → ValueTrees → List (List ℕ)
  from_values N no_values = N
  from_values N (value_and v vs) = from_values (from_value N v) vs

  pub from_sections : List (List ℕ) → SectionTrees → List (List ℕ)
  from_sections N no_sections = N
  from_sections N (section_and (section ps vs n) ss) = from_sections (from_notes (from_values N vs) n) ss

  pub from_notes : List (List ℕ) → NotesTree → List (List ℕ)
  from_notes N no_notes = N
  from_notes N (annotation cs) = from_contents N cs

  pub from_contents : List (List ℕ) → ContentTrees → List (List ℕ)
  from_contents N no_contents = N
  from_contents N (content_and (block long bytes) cs) = from_contents N cs
  from_contents N (content_and reset cs) = from_contents N cs
  from_contents N (content_and (content v) cs) = from_contents (from_value N v) cs

joined : (N M first others : List (List ℕ)) → M ≡ N ++ first → M ++ others ≡ N ++ (first ++ others)
joined N M first others is = ap (λ names. names ++ others) is ∙ append_assoc N first others

behind_interfaces : (interfaces N : List (List ℕ)) → from_interfaces N interfaces ≡ N ++ interfaces
behind_interfaces [] N = sym (append-nil N)
behind_interfaces (name ∷ names) N = behind_interfaces names (N ++ (name ∷ [])) ∙ append_assoc N (name ∷ []) names

-- the names in a tree

abbrev names_in_value : ValueTree → List (List ℕ)
names_in_value v = gathered_in_value (λ elements. []) (λ names. names) v

abbrev names_in_desc : DescTree → List (List ℕ)
names_in_desc d = gathered_in_desc (λ elements. []) (λ names. names) d

abbrev names_in_class : ClassPlaceTree → List (List ℕ)
names_in_class c = gathered_in_class (λ elements. []) (λ names. names) c

abbrev names_in_body : BodyTree → List (List ℕ)
names_in_body b = gathered_in_body (λ elements. []) (λ names. names) b

abbrev names_in_values : ValueTrees → List (List ℕ)
names_in_values vs = gathered_in_values (λ elements. []) (λ names. names) vs

abbrev names_in_sections : SectionTrees → List (List ℕ)
names_in_sections ss = gathered_in_sections (λ elements. []) (λ names. names) ss

abbrev names_in_notes : NotesTree → List (List ℕ)
names_in_notes n = gathered_in_notes (λ elements. []) (λ names. names) n

abbrev names_in_contents : ContentTrees → List (List ℕ)
names_in_contents cs = gathered_in_contents (λ elements. []) (λ names. names) cs

-- the names of a tree behind others

mutual
  behind_value : (v : ValueTree) (N : List (List ℕ)) → from_value N v ≡ N ++ names_in_value v
  behind_value null N = sym (append-nil N)
  behind_value (back n) N = sym (append-nil N)
  behind_value (string t) N = sym (append-nil N)
  behind_value (descriptor d) N = behind_desc d N
  behind_value (class_object c) N = behind_class c N
  behind_value (array c b) N = behind_body b (from_class N c) ∙ joined N (from_class N c) (names_in_class c) (names_in_body b) (behind_class c N)
  behind_value (enum_constant c t) N = behind_class c N
  behind_value (object c ss) N = behind_sections ss (from_class N c) ∙ joined N (from_class N c) (names_in_class c) (names_in_sections ss) (behind_class c N)

  behind_desc : (d : DescTree) (N : List (List ℕ)) → from_desc N d ≡ N ++ names_in_desc d
  behind_desc (plain name suid flags fields notes parent) N =
      behind_class parent (from_contents (N ++ (name ∷ [])) notes)
      ∙ joined (N ++ (name ∷ [])) (from_contents (N ++ (name ∷ [])) notes) (names_in_contents notes) (names_in_class parent) (behind_contents notes (N ++ (name ∷ [])))
      ∙ append_assoc N (name ∷ []) (names_in_contents notes ++ names_in_class parent)
  behind_desc (proxy interfaces notes parent) N =
      behind_class parent (from_contents (from_interfaces N interfaces) notes)
      ∙ joined (from_interfaces N interfaces) (from_contents (from_interfaces N interfaces) notes) (names_in_contents notes) (names_in_class parent) (behind_contents notes (from_interfaces N interfaces))
      ∙ joined N (from_interfaces N interfaces) interfaces (names_in_contents notes ++ names_in_class parent) (behind_interfaces interfaces N)

  behind_class : (c : ClassPlaceTree) (N : List (List ℕ)) → from_class N c ≡ N ++ names_in_class c
  behind_class no_class N = sym (append-nil N)
  behind_class (back_class n) N = sym (append-nil N)
  behind_class (new_class d) N = behind_desc d N

  behind_body : (b : BodyTree) (N : List (List ℕ)) → from_body N b ≡ N ++ names_in_body b
  behind_body (raw_body ps) N = sym (append-nil N)
  behind_body (value_body vs) N = behind_values vs N

  behind_values : (vs : ValueTrees) (N : List (List ℕ)) → from_values N vs ≡ N ++ names_in_values vs
  behind_values no_values N = sym (append-nil N)
  behind_values (value_and v vs) N = behind_values vs (from_value N v) ∙ joined N (from_value N v) (names_in_value v) (names_in_values vs) (behind_value v N)

  behind_sections : (ss : SectionTrees) (N : List (List ℕ)) → from_sections N ss ≡ N ++ names_in_sections ss
  behind_sections no_sections N = sym (append-nil N)
  behind_sections (section_and (section ps vs n) ss) N =
      behind_sections ss (from_notes (from_values N vs) n)
      ∙ joined (from_values N vs) (from_notes (from_values N vs) n) (names_in_notes n) (names_in_sections ss) (behind_notes n (from_values N vs))
      ∙ joined N (from_values N vs) (names_in_values vs) (names_in_notes n ++ names_in_sections ss) (behind_values vs N)

  behind_notes : (n : NotesTree) (N : List (List ℕ)) → from_notes N n ≡ N ++ names_in_notes n
  behind_notes no_notes N = sym (append-nil N)
  behind_notes (annotation cs) N = behind_contents cs N

  pub behind_contents : (cs : ContentTrees) (N : List (List ℕ)) → from_contents N cs ≡ N ++ names_in_contents cs
  behind_contents no_contents N = sym (append-nil N)
  behind_contents (content_and (block long bytes) cs) N = behind_contents cs N
  behind_contents (content_and reset cs) N = behind_contents cs N
  behind_contents (content_and (content v) cs) N = behind_contents cs (from_value N v) ∙ joined N (from_value N v) (names_in_value v) (names_in_contents cs) (behind_value v N)

-- the names along the tokens of a list that obeys the format are its checked names
