-- What is gathered along the tokens of a tree is what is gathered in the tree, in its order: the length of each array,
-- and each checked name.
use Rattle.std.proofs.Common.{◌≡◌, ℕ, suc, Bool, true, false, ◌||◌, if◌then◌else◌, List, [], ◌∷◌, ◌++◌, refl, sym, ◌∙◌, ap, Option, Some, None, append_assoc, append-nil, MatchBool}
use Rattle.jser_reading.proofs.Vocabulary.{has_write_method, other_entry, pending_entry, Layer, PrimCode, is_object_code, primitive_codes, TextPlaceTree, new_text, back_text, FieldTree, PrimTree, ValueTree, null, back, string, descriptor, class_object, array, enum_constant, object, DescTree, plain, proxy, ClassPlaceTree, no_class, back_class, new_class, BodyTree, raw_body, value_body, ValueTrees, no_values, value_and, section, SectionTrees, no_sections, section_and, NotesTree, no_notes, annotation, block, reset, content, ContentTrees, no_contents, content_and, chain_of_class, elements_of, is_external, WellFormedValue, WellFormedDesc, WellFormedClass, WellFormedSuperclass, WellFormedBody, WellFormedValues, WellFormedExternal, WellFormedSections, WellFormedNotesIf, WellFormedNotes, WellFormedContents, WellFormed, Owner, object_owner, array_owner, enum_owner, class_owner, ChainOwner, Role, own_class, superclass, owner_of, is_strict_above, Moment, beginning, tick, assign, emptied, past_type, past_fields, past_value, past_class, past_values, past_notes, past_contents, array_length_token, array_length_at, Piece, at, cut_text_place, cut_type, cut_fields, cut_interfaces, cut_bytes, cut_raw, cut_prims, cut_value, cut_desc, cut_class, cut_superclass, cut_body, cut_values, cut_external, cut_sections, cut_notes, cut_annotation, cut_top, tokens_of}
use Rattle.jser_grammar.specs.Counts.{array_length, array_lengths}
use Rattle.jser_grammar.specs.CheckedNames.{checked_names}
use Rattle.jser_grammar.specs.InOrder.{gathered_in_value, gathered_in_desc, gathered_in_class, gathered_in_body, gathered_in_values, gathered_in_sections, gathered_in_notes, gathered_in_contents}
use Rattle.jser_reading.proofs.Observed.{gathered, lengths_in, names_in}

-- what is gathered of a length, and of names: of several names what is gathered of each
record Gathering (X : Type 0) : Type 0 where
  length : ℕ → List X
  names : List (List ℕ) → List X
  none : names [] ≡ []
  more : (n : List ℕ) (ns : List (List ℕ)) → names (n ∷ ns) ≡ names (n ∷ []) ++ names ns

abbrev along : {X : Type 0} → Gathering X → List Piece → List X
along G ps = gathered G.length G.names ps

abbrev in_value : {X : Type 0} → Gathering X → ValueTree → List X
in_value G v = gathered_in_value (λ b. G.length (array_length b)) G.names v

abbrev in_desc : {X : Type 0} → Gathering X → DescTree → List X
in_desc G x = gathered_in_desc (λ b. G.length (array_length b)) G.names x

abbrev in_class : {X : Type 0} → Gathering X → ClassPlaceTree → List X
in_class G c = gathered_in_class (λ b. G.length (array_length b)) G.names c

abbrev in_body : {X : Type 0} → Gathering X → BodyTree → List X
in_body G b = gathered_in_body (λ b. G.length (array_length b)) G.names b

abbrev in_values : {X : Type 0} → Gathering X → ValueTrees → List X
in_values G vs = gathered_in_values (λ b. G.length (array_length b)) G.names vs

abbrev in_sections : {X : Type 0} → Gathering X → SectionTrees → List X
in_sections G ss = gathered_in_sections (λ b. G.length (array_length b)) G.names ss

abbrev in_notes : {X : Type 0} → Gathering X → NotesTree → List X
in_notes G n = gathered_in_notes (λ b. G.length (array_length b)) G.names n

abbrev in_contents : {X : Type 0} → Gathering X → ContentTrees → List X
in_contents G cs = gathered_in_contents (λ b. G.length (array_length b)) G.names cs

two : {X : Type 0} (a b r : List X) → a ++ (b ++ r) ≡ (a ++ b) ++ r
two a b r = simp append_assoc

three : {X : Type 0} (a b c r : List X) → a ++ (b ++ (c ++ r)) ≡ (a ++ (b ++ c)) ++ r
three a b c r = simp append_assoc

gathers_text : {X : Type 0} (G : Gathering X) (t : TextPlaceTree) (d : ℕ) (m : Moment) (rest : List Piece) → along G (cut_text_place d m t rest) ≡ along G rest
gathers_text G (new_text t) d m rest = refl
gathers_text G (back_text n) d m rest = refl

gathers_type : {X : Type 0} (G : Gathering X) (t : Option TextPlaceTree) (d : ℕ) (m : Moment) (rest : List Piece) → along G (cut_type d m t rest) ≡ along G rest
gathers_type G None d m rest = refl
gathers_type G (Some t) d m rest = gathers_text G t d m rest

gathers_fields : {X : Type 0} (G : Gathering X) (fs : List FieldTree) (d : ℕ) (seen : Bool) (m : Moment) (rest : List Piece)
    → along G (cut_fields d seen m fs rest) ≡ along G rest
gathers_fields G [] d seen m rest = refl
gathers_fields G (f ∷ fs) d seen m rest =
    let later = seen || is_object_code f.code in
    gathers_type G f.text d m (cut_fields d later (past_type m f.text) fs rest) ∙ gathers_fields G fs d later (past_type m f.text) rest

gathers_interfaces : {X : Type 0} (G : Gathering X) (ns : List (List ℕ)) (d : ℕ) (m : Moment) (rest : List Piece)
    → along G (cut_interfaces d m ns rest) ≡ G.names ns ++ along G rest
gathers_interfaces G [] d m rest = ap (λ z. z ++ along G rest) (sym G.none)
gathers_interfaces G (n ∷ ns) d m rest =
    ap (λ z. G.names (n ∷ []) ++ z) (gathers_interfaces G ns d m rest)
    ∙ two (G.names (n ∷ [])) (G.names ns) (along G rest)
    ∙ ap (λ z. z ++ along G rest) (sym (G.more n ns))

gathers_bytes : {X : Type 0} (G : Gathering X) (b : List ℕ) (d : ℕ) (m : Moment) (rest : List Piece) → along G (cut_bytes d m b rest) ≡ along G rest
gathers_bytes G [] d m rest = refl
gathers_bytes G (x ∷ b) d m rest = refl

gathers_raw : {X : Type 0} (G : Gathering X) (elements : Option PrimCode) (ps : List PrimTree) (d : ℕ) (m : Moment) (rest : List Piece)
    → along G (cut_raw d m elements ps rest) ≡ along G rest
gathers_raw G None ps d m rest = refl
gathers_raw G (Some c) [] d m rest = refl
gathers_raw G (Some c) (p ∷ ps) d m rest = refl

gathers_prims : {X : Type 0} (G : Gathering X) (cs : List PrimCode) (ps : List PrimTree) (d : ℕ) (m : Moment) (rest : List Piece)
    → along G (cut_prims d m cs ps rest) ≡ along G rest
gathers_prims G [] ps d m rest = refl
gathers_prims G (c ∷ cs) [] d m rest = refl
gathers_prims G (c ∷ cs) (p ∷ ps) d m rest = gathers_prims G cs ps d m rest

gathers_by_class : {X : Type 0} (G : Gathering X) (external : Bool) (E S : Type 0) (a b : List Piece) (w : List X) → MatchBool external E S
    → (E → along G a ≡ w) → (S → along G b ≡ w)
    → along G (if external then a else b) ≡ w
gathers_by_class G true E S a b w h f g = f h
gathers_by_class G false E S a b w h f g = g h

mutual
  gathers_value : {X : Type 0} (G : Gathering X) (v : ValueTree) (d : ℕ) (m : Moment) (rest : List Piece) → WellFormedValue m.table v
      → along G (cut_value d m v rest) ≡ in_value G v ++ along G rest
  gathers_value G null d m rest h = refl
  gathers_value G (back n) d m rest h = refl
  gathers_value G (string t) d m rest h = refl
  gathers_value G (descriptor x) d m rest h = gathers_desc G x (own_class None) d (tick m) rest h
  gathers_value G (class_object c) d m rest h = gathers_class G c class_owner d (tick m) rest h
  gathers_value G (array c b) d m rest h =
      let made = assign (past_class (tick m) c) other_entry in
      let elements = elements_of (chain_of_class m.table c) in
      gathers_class G c array_owner d (tick m) (at array_length_at d made (array_length_token (array_length b))
      ∷ cut_body d made elements b rest) h.0
      ∙ ap (λ z. in_class G c ++ (G.length (array_length b) ++ z)) (gathers_body G b elements d made rest h.2)
      ∙ three (in_class G c) (G.length (array_length b)) (in_body G b) (along G rest)
  gathers_value G (enum_constant c t) d m rest h =
      let made = assign (past_class (tick m) c) other_entry in
      gathers_class G c enum_owner d (tick m) (cut_text_place d made t rest) h.0 ∙ ap (λ z. in_class G c
      ++ z) (gathers_text G t d made rest)
  gathers_value G (object c ss) d m rest h =
      let made = assign (past_class (tick m) c) other_entry in
      let chain = chain_of_class m.table c in
      gathers_class G c object_owner d (tick m)
      (if is_external chain then cut_external d made ss rest else cut_sections d made chain ss rest) h.0
      ∙ ap (λ z. in_class G c ++ z)
      (gathers_by_class G (is_external chain) (WellFormedExternal made.table ss) (WellFormedSections made.table ss chain)
      (cut_external d made ss rest) (cut_sections d made chain ss rest)
      (in_sections G ss
      ++ along G rest) h.2 (λ w. gathers_external G ss d made rest w) (λ w. gathers_sections G ss chain d made rest w))
      ∙ two (in_class G c) (in_sections G ss) (along G rest)

  gathers_desc : {X : Type 0} (G : Gathering X) (x : DescTree) (role : Role) (d : ℕ) (m : Moment) (rest : List Piece) → WellFormedDesc m.table x
      → along G (cut_desc role d m x rest) ≡ in_desc G x ++ along G rest
  gathers_desc G (plain name suid flags fields notes parent) role d m rest h =
      let m1 = assign m pending_entry in
      let m2 = past_fields m1 fields in
      let m3 = past_contents m2 notes in
      let up = cut_superclass (owner_of role) (is_strict_above role flags) (suc d) m3 parent rest in
      ap (λ z. G.names (name ∷ []) ++ z)
      (gathers_fields G fields d false m1 (cut_annotation d m2 notes up) ∙ gathers_annotation G notes d m2 up h.5
      ∙ ap (λ z. in_contents G notes
      ++ z) (gathers_superclass G parent (owner_of role) (is_strict_above role flags) (suc d) m3 rest h.6))
      ∙ three (G.names (name ∷ [])) (in_contents G notes) (in_class G parent) (along G rest)
  gathers_desc G (proxy interfaces notes parent) role d m rest h =
      let m1 = assign m pending_entry in
      let m3 = past_contents m1 notes in
      let up = cut_superclass (owner_of role) (is_strict_above role 0) (suc d) m3 parent rest in
      gathers_interfaces G interfaces d m1 (cut_annotation d m1 notes up)
      ∙ ap (λ z. G.names interfaces ++ z) (gathers_annotation G notes d m1 up h.2
      ∙ ap (λ z. in_contents G notes
      ++ z) (gathers_superclass G parent (owner_of role) (is_strict_above role 0) (suc d) m3 rest h.3))
      ∙ three (G.names interfaces) (in_contents G notes) (in_class G parent) (along G rest)

  gathers_class : {X : Type 0} (G : Gathering X) (c : ClassPlaceTree) (owner : Owner) (d : ℕ) (m : Moment) (rest : List Piece) → WellFormedClass m.table c
      → along G (cut_class owner d m c rest) ≡ in_class G c ++ along G rest
  gathers_class G no_class owner d m rest h = absurd h
  gathers_class G (back_class n) owner d m rest h = refl
  gathers_class G (new_class x) owner d m rest h = gathers_desc G x (own_class (Some owner)) d m rest h

  gathers_superclass : {X : Type 0} (G : Gathering X) (c : ClassPlaceTree) (owner : ChainOwner) (strict : Bool) (d : ℕ) (m : Moment) (rest : List Piece)
      → WellFormedSuperclass m.table c
      → along G (cut_superclass owner strict d m c rest) ≡ in_class G c ++ along G rest
  gathers_superclass G no_class owner strict d m rest h = refl
  gathers_superclass G (back_class n) owner strict d m rest h = refl
  gathers_superclass G (new_class x) owner strict d m rest h = gathers_desc G x (superclass owner strict) d (tick m) rest h

  gathers_body : {X : Type 0} (G : Gathering X) (b : BodyTree) (elements : Option PrimCode) (d : ℕ) (m : Moment) (rest : List Piece)
      → WellFormedBody m.table b elements
      → along G (cut_body d m elements b rest) ≡ in_body G b ++ along G rest
  gathers_body G (raw_body ps) elements d m rest h = gathers_raw G elements ps d m rest
  gathers_body G (value_body vs) None d m rest h = gathers_values G vs d m rest h.1
  gathers_body G (value_body vs) (Some c) d m rest h = absurd h

  gathers_values : {X : Type 0} (G : Gathering X) (vs : ValueTrees) (d : ℕ) (m : Moment) (rest : List Piece) → WellFormedValues m.table vs
      → along G (cut_values d m vs rest) ≡ in_values G vs ++ along G rest
  gathers_values G no_values d m rest h = refl
  gathers_values G (value_and v vs) d m rest h =
      gathers_value G v (suc d) m (cut_values d (past_value m v) vs rest) h.0 ∙ ap (λ z. in_value G v
      ++ z) (gathers_values G vs d (past_value m v) rest h.1)
      ∙ two (in_value G v) (in_values G vs) (along G rest)

  gathers_external : {X : Type 0} (G : Gathering X) (ss : SectionTrees) (d : ℕ) (m : Moment) (rest : List Piece) → WellFormedExternal m.table ss
      → along G (cut_external d m ss rest) ≡ in_sections G ss ++ along G rest
  gathers_external G (section_and (section [] no_values (annotation notes)) no_sections) d m rest h =
      gathers_annotation G notes d m rest h ∙ ap (λ z. z ++ along G rest) (sym (append-nil (in_contents G notes)))
  gathers_external G _ d m rest h = absurd h

  gathers_sections : {X : Type 0} (G : Gathering X) (ss : SectionTrees) (chain : List Layer) (d : ℕ) (m : Moment) (rest : List Piece)
      → WellFormedSections m.table ss chain
      → along G (cut_sections d m chain ss rest) ≡ in_sections G ss ++ along G rest
  gathers_sections G no_sections [] d m rest h = refl
  gathers_sections G no_sections (l ∷ ls) d m rest h = absurd h
  gathers_sections G (section_and s ss) [] d m rest h = absurd h
  gathers_sections G (section_and (section ps vs n) ss) (l ∷ ls) d m rest h =
      let m1 = past_values m vs in
      let m2 = past_notes m1 n in
      let after = cut_sections d m2 ls ss rest in
      gathers_prims G (primitive_codes l.codes) ps d m (cut_values d m vs (cut_notes d m1 n after))
      ∙ gathers_values G vs d m (cut_notes d m1 n after) h.2
      ∙ ap (λ z. in_values G vs
      ++ z) (gathers_notes G n (has_write_method l.flags) d m1 after h.3 ∙ ap (λ z. in_notes G n
      ++ z) (gathers_sections G ss ls d m2 rest h.4))
      ∙ three (in_values G vs) (in_notes G n) (in_sections G ss) (along G rest)

  gathers_notes : {X : Type 0} (G : Gathering X) (n : NotesTree) (expected : Bool) (d : ℕ) (m : Moment) (rest : List Piece)
      → WellFormedNotesIf m.table n expected → along G (cut_notes d m n rest) ≡ in_notes G n ++ along G rest
  gathers_notes G no_notes expected d m rest h = refl
  gathers_notes G (annotation cs) expected d m rest h = gathers_annotation G cs d m rest h.1

  gathers_annotation : {X : Type 0} (G : Gathering X) (cs : ContentTrees) (d : ℕ) (m : Moment) (rest : List Piece) → WellFormedNotes m.table cs
      → along G (cut_annotation d m cs rest) ≡ in_contents G cs ++ along G rest
  gathers_annotation G no_contents d m rest h = refl
  gathers_annotation G (content_and (block long b) cs) d m rest h =
      gathers_bytes G b d m (cut_annotation d m cs rest) ∙ gathers_annotation G cs d m rest h.1
  gathers_annotation G (content_and reset cs) d m rest h = absurd h
  gathers_annotation G (content_and (content v) cs) d m rest h =
      gathers_value G v (suc d) m (cut_annotation d (past_value m v) cs rest) h.0 ∙ ap (λ z. in_value G v
      ++ z) (gathers_annotation G cs d (past_value m v) rest h.1)
      ∙ two (in_value G v) (in_contents G cs) (along G rest)

gathers_top : {X : Type 0} (G : Gathering X) (cs : ContentTrees) (m : Moment) → WellFormedContents m.table cs → along G (cut_top m cs []) ≡ in_contents G cs
gathers_top G no_contents m h = refl
gathers_top G (content_and (block long b) cs) m h = gathers_bytes G b 0 m (cut_top m cs []) ∙ gathers_top G cs m h.1
gathers_top G (content_and reset cs) m h = gathers_top G cs (emptied m) h
gathers_top G (content_and (content v) cs) m h =
    gathers_value G v 1 m (cut_top (past_value m v) cs []) h.0 ∙ ap (λ z. in_value G v ++ z) (gathers_top G cs (past_value m v) h.1)

abbrev of_lengths : Gathering ℕ
of_lengths = record { length = λ n. n ∷ []; names = λ names. []; none = refl; more = λ n ns. refl }

pub lengths_observed : (list : ContentTrees) → WellFormed list → lengths_in (tokens_of list) ≡ array_lengths list
lengths_observed list h = gathers_top of_lengths list beginning h

abbrev of_names : Gathering (List ℕ)
of_names = record { length = λ n. []; names = λ names. names; none = refl; more = λ n ns. refl }

pub names_observed : (list : ContentTrees) → WellFormed list → names_in (tokens_of list) ≡ checked_names list
names_observed list h = gathers_top of_names list beginning h
