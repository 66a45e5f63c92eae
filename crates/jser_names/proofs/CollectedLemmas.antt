-- What is counted along the tokens of a tree are its names, in its order.
use Rattle.std.proofs.Common.{◌≡◌, ℕ, suc, Bool, true, false, ◌||◌, if◌then◌else◌, List, [], ◌∷◌, ◌++◌, length, refl, sym, ◌∙◌, ap, Option, Some, None, append_assoc, append-nil, MatchBool}
use Rattle.jser_reading.proofs.Vocabulary.{has_write_method, other_entry, pending_entry, Layer, PrimCode, is_object_code, primitive_codes, TextPlaceTree, new_text, back_text, FieldTree, PrimTree, ValueTree, null, back, string, descriptor, class_object, array, enum_constant, object, DescTree, plain, proxy, ClassPlaceTree, no_class, back_class, new_class, BodyTree, raw_body, value_body, ValueTrees, no_values, value_and, section, SectionTrees, no_sections, section_and, NotesTree, no_notes, annotation, block, reset, content, ContentTrees, no_contents, content_and, chain_of_class, elements_of, is_external, WellFormedValue, WellFormedDesc, WellFormedClass, WellFormedSuperclass, WellFormedBody, WellFormedValues, WellFormedExternal, WellFormedSections, WellFormedNotesIf, WellFormedNotes, WellFormedContents, Owner, object_owner, array_owner, enum_owner, class_owner, ChainOwner, Role, own_class, superclass, owner_of, is_strict_above, Moment, beginning, tick, assign, emptied, past_type, past_fields, past_value, past_class, past_values, past_notes, past_contents, array_length_token, array_length_at, Piece, at, cut_text_place, cut_type, cut_fields, cut_interfaces, cut_bytes, cut_raw, cut_prims, cut_value, cut_desc, cut_class, cut_superclass, cut_body, cut_values, cut_external, cut_sections, cut_notes, cut_annotation, cut_top}
use Rattle.jser_grammar.specs.Counts.{array_length}
use Rattle.jser_grammar.specs.InOrder.{gathered_in_value, gathered_in_desc, gathered_in_class, gathered_in_body, gathered_in_values, gathered_in_sections, gathered_in_notes, gathered_in_contents}
use Rattle.jser_reading.specs.Tokens.{tag_of, tag_of_desc, tag_of_string}
use Rattle.jser_reading.specs.Labels.{string_at, text_token}
use Rattle.jser_shown.specs.Counting.{NameTally, tally_one, tally_all}
use Rattle.jser_names.specs.Collecting.{Collected, NamesAreCollected, collected, names_begun}

abbrev Names : Type 0
Names = List (List ℕ)

-- with these names, where no text is one
abbrev has : Names → Collected
has names = record { names = tally_all [] names; left = 0 }

-- where so many texts are
abbrev awaits : Names → ℕ → Collected
awaits names left = record { names = tally_all [] names; left = left }

counted_last : (tallies : List NameTally) (ns : Names) (name : List ℕ) → tally_one name (tally_all tallies ns) ≡ tally_all tallies (ns ++ name ∷ [])
counted_last tallies [] name = refl
counted_last tallies (n ∷ ns) name = counted_last (tally_one n tallies) ns name

-- one name more, where so many come behind it
one_counted : (ns : Names) (name : List ℕ) (left : ℕ) (rest : List Piece)
    → collected (record { names = tally_one name (tally_all [] ns); left = left }) rest ≡ collected (awaits (ns ++ name ∷ []) left) rest
one_counted ns name left rest = ap (λ ts. collected (record { names = ts; left = left }) rest) (counted_last [] ns name)

abbrev in_value : ValueTree → Names
in_value v = gathered_in_value (λ b. []) (λ names. names) v

abbrev in_desc : DescTree → Names
in_desc x = gathered_in_desc (λ b. []) (λ names. names) x

abbrev in_class : ClassPlaceTree → Names
in_class c = gathered_in_class (λ b. []) (λ names. names) c

abbrev in_body : BodyTree → Names
in_body b = gathered_in_body (λ b. []) (λ names. names) b

abbrev in_values : ValueTrees → Names
in_values vs = gathered_in_values (λ b. []) (λ names. names) vs

abbrev in_sections : SectionTrees → Names
in_sections ss = gathered_in_sections (λ b. []) (λ names. names) ss

abbrev in_notes : NotesTree → Names
in_notes n = gathered_in_notes (λ b. []) (λ names. names) n

abbrev in_contents : ContentTrees → Names
in_contents cs = gathered_in_contents (λ b. []) (λ names. names) cs

none_more : (ns : Names) (rest : List Piece) → collected (has ns) rest ≡ collected (has (ns ++ [])) rest
none_more ns rest = ap (λ xs. collected (has xs) rest) (sym (append-nil ns))

joins : (ns a b : Names) (rest : List Piece) → collected (has ((ns ++ a) ++ b)) rest ≡ collected (has (ns ++ (a ++ b))) rest
joins ns a b rest = ap (λ xs. collected (has xs) rest) (append_assoc ns a b)

joins_three : (ns a b c : Names) (rest : List Piece) → collected (has (((ns ++ a) ++ b) ++ c)) rest ≡ collected (has (ns ++ (a ++ (b ++ c)))) rest
joins_three ns a b c rest = ap (λ xs. collected (has xs) rest) (append_assoc (ns ++ a) b c ∙ append_assoc ns a (b ++ c))

no_string_name : (long : Bool) → names_begun (tag_of_string long) ≡ 0
no_string_name false = refl
no_string_name true = refl

passes_text : (t : TextPlaceTree) (d : ℕ) (m : Moment) (ns : Names) (rest : List Piece) → collected (has ns) (cut_text_place d m t rest) ≡ collected (has ns) rest
passes_text (new_text t) d m ns rest = ap (λ n. collected (awaits ns n) (at (string_at t.long) d m (text_token t.long t.units) ∷ rest)) (no_string_name t.long)
passes_text (back_text n) d m ns rest = refl

passes_type : (t : Option TextPlaceTree) (d : ℕ) (m : Moment) (ns : Names) (rest : List Piece) → collected (has ns) (cut_type d m t rest) ≡ collected (has ns) rest
passes_type None d m ns rest = refl
passes_type (Some t) d m ns rest = passes_text t d m ns rest

passes_fields : (fs : List FieldTree) (d : ℕ) (seen : Bool) (m : Moment) (ns : Names) (rest : List Piece)
    → collected (has ns) (cut_fields d seen m fs rest) ≡ collected (has ns) rest
passes_fields [] d seen m ns rest = refl
passes_fields (f ∷ fs) d seen m ns rest =
    let later = seen || is_object_code f.code in
    passes_type f.text d m ns (cut_fields d later (past_type m f.text) fs rest) ∙ passes_fields fs d later (past_type m f.text) ns rest

collects_interfaces : (names : Names) (d : ℕ) (m : Moment) (ns : Names) (rest : List Piece)
    → collected (awaits ns (length names)) (cut_interfaces d m names rest) ≡ collected (has (ns ++ names)) rest
collects_interfaces [] d m ns rest = none_more ns rest
collects_interfaces (name ∷ names) d m ns rest =
    one_counted ns name (length names) (cut_interfaces d m names rest) ∙ collects_interfaces names d m (ns ++ (name ∷ [])) rest ∙ joins ns (name ∷ []) names rest

passes_bytes : (b : List ℕ) (d : ℕ) (m : Moment) (ns : Names) (rest : List Piece) → collected (has ns) (cut_bytes d m b rest) ≡ collected (has ns) rest
passes_bytes [] d m ns rest = refl
passes_bytes (x ∷ b) d m ns rest = refl

passes_raw : (elements : Option PrimCode) (ps : List PrimTree) (d : ℕ) (m : Moment) (ns : Names) (rest : List Piece)
    → collected (has ns) (cut_raw d m elements ps rest) ≡ collected (has ns) rest
passes_raw None ps d m ns rest = refl
passes_raw (Some c) [] d m ns rest = refl
passes_raw (Some c) (p ∷ ps) d m ns rest = refl

passes_prims : (cs : List PrimCode) (ps : List PrimTree) (d : ℕ) (m : Moment) (ns : Names) (rest : List Piece)
    → collected (has ns) (cut_prims d m cs ps rest) ≡ collected (has ns) rest
passes_prims [] ps d m ns rest = refl
passes_prims (c ∷ cs) [] d m ns rest = refl
passes_prims (c ∷ cs) (p ∷ ps) d m ns rest = passes_prims cs ps d m ns rest

by_class : (external : Bool) (E S : Type 0) (x : Collected) (a b : List Piece) (w : Collected) → MatchBool external E S
    → (E → collected x a ≡ w) → (S → collected x b ≡ w) → collected x (if external then a else b) ≡ w
by_class true E S x a b w h f g = f h
by_class false E S x a b w h f g = g h

mutual
  collects_value : (v : ValueTree) (d : ℕ) (m : Moment) (ns : Names) (rest : List Piece) → WellFormedValue m.table v
      → collected (awaits ns (names_begun (tag_of v))) (cut_value d m v rest) ≡ collected (has (ns ++ in_value v)) rest
  collects_value null d m ns rest h = none_more ns rest
  collects_value (back n) d m ns rest h = none_more ns rest
  collects_value (string t) d m ns rest h =
      ap (λ n. collected (awaits ns n) (cut_value d m (string t) rest)) (no_string_name t.long) ∙ none_more ns rest
  collects_value (descriptor x) d m ns rest h = collects_desc x (own_class None) d (tick m) ns rest h
  collects_value (class_object c) d m ns rest h = collects_class c class_owner d (tick m) ns rest h
  collects_value (array c b) d m ns rest h =
      let made = assign (past_class (tick m) c) other_entry in
      let elements = elements_of (chain_of_class m.table c) in
      collects_class c array_owner d (tick m) ns (at array_length_at d made (array_length_token (array_length b)) ∷ cut_body d made elements b rest) h.0
      ∙ collects_body b elements d made (ns ++ in_class c) rest h.2
      ∙ joins ns (in_class c) (in_body b) rest
  collects_value (enum_constant c t) d m ns rest h =
      let made = assign (past_class (tick m) c) other_entry in
      collects_class c enum_owner d (tick m) ns (cut_text_place d made t rest) h.0 ∙ passes_text t d made (ns ++ in_class c) rest
  collects_value (object c ss) d m ns rest h =
      let made = assign (past_class (tick m) c) other_entry in
      let chain = chain_of_class m.table c in
      collects_class c object_owner d (tick m) ns (if is_external chain then cut_external d made ss rest else cut_sections d made chain ss rest) h.0
      ∙ by_class (is_external chain) (WellFormedExternal made.table ss) (WellFormedSections made.table ss chain) (has (ns ++ in_class c))
      (cut_external d made ss rest) (cut_sections d made chain ss rest) (collected (has ((ns ++ in_class c) ++ in_sections ss)) rest) h.2
      (λ w. collects_external ss d made (ns ++ in_class c) rest w) (λ w. collects_sections ss chain d made (ns ++ in_class c) rest w)
      ∙ joins ns (in_class c) (in_sections ss) rest

  collects_desc : (x : DescTree) (role : Role) (d : ℕ) (m : Moment) (ns : Names) (rest : List Piece) → WellFormedDesc m.table x
      → collected (awaits ns (names_begun (tag_of_desc x))) (cut_desc role d m x rest) ≡ collected (has (ns ++ in_desc x)) rest
  collects_desc (plain name suid flags fields notes parent) role d m ns rest h =
      let m1 = assign m pending_entry in
      let m2 = past_fields m1 fields in
      let m3 = past_contents m2 notes in
      let up = cut_superclass (owner_of role) (is_strict_above role flags) (suc d) m3 parent rest in
      let named = ns ++ (name ∷ []) in
      one_counted ns name 0 (cut_fields d false m1 fields (cut_annotation d m2 notes up)) ∙ passes_fields fields d false m1 named (cut_annotation d m2 notes up) ∙ collects_annotation notes d m2 named up h.5
      ∙ collects_superclass parent (owner_of role) (is_strict_above role flags) (suc d) m3 (named ++ in_contents notes) rest h.6
      ∙ joins_three ns (name ∷ []) (in_contents notes) (in_class parent) rest
  collects_desc (proxy interfaces notes parent) role d m ns rest h =
      let m1 = assign m pending_entry in
      let m3 = past_contents m1 notes in
      let up = cut_superclass (owner_of role) (is_strict_above role 0) (suc d) m3 parent rest in
      collects_interfaces interfaces d m1 ns (cut_annotation d m1 notes up)
      ∙ collects_annotation notes d m1 (ns ++ interfaces) up h.2
      ∙ collects_superclass parent (owner_of role) (is_strict_above role 0) (suc d) m3 ((ns ++ interfaces) ++ in_contents notes) rest h.3
      ∙ joins_three ns interfaces (in_contents notes) (in_class parent) rest

  collects_class : (c : ClassPlaceTree) (owner : Owner) (d : ℕ) (m : Moment) (ns : Names) (rest : List Piece) → WellFormedClass m.table c
      → collected (has ns) (cut_class owner d m c rest) ≡ collected (has (ns ++ in_class c)) rest
  collects_class no_class owner d m ns rest h = absurd h
  collects_class (back_class n) owner d m ns rest h = none_more ns rest
  collects_class (new_class x) owner d m ns rest h = collects_desc x (own_class (Some owner)) d m ns rest h

  collects_superclass : (c : ClassPlaceTree) (owner : ChainOwner) (strict : Bool) (d : ℕ) (m : Moment) (ns : Names) (rest : List Piece)
      → WellFormedSuperclass m.table c → collected (has ns) (cut_superclass owner strict d m c rest) ≡ collected (has (ns ++ in_class c)) rest
  collects_superclass no_class owner strict d m ns rest h = none_more ns rest
  collects_superclass (back_class n) owner strict d m ns rest h = none_more ns rest
  collects_superclass (new_class x) owner strict d m ns rest h = collects_desc x (superclass owner strict) d (tick m) ns rest h

  collects_body : (b : BodyTree) (elements : Option PrimCode) (d : ℕ) (m : Moment) (ns : Names) (rest : List Piece) → WellFormedBody m.table b elements
      → collected (has ns) (cut_body d m elements b rest) ≡ collected (has (ns ++ in_body b)) rest
  collects_body (raw_body ps) elements d m ns rest h = passes_raw elements ps d m ns rest ∙ none_more ns rest
  collects_body (value_body vs) None d m ns rest h = collects_values vs d m ns rest h.1
  collects_body (value_body vs) (Some c) d m ns rest h = absurd h

  collects_values : (vs : ValueTrees) (d : ℕ) (m : Moment) (ns : Names) (rest : List Piece) → WellFormedValues m.table vs
      → collected (has ns) (cut_values d m vs rest) ≡ collected (has (ns ++ in_values vs)) rest
  collects_values no_values d m ns rest h = none_more ns rest
  collects_values (value_and v vs) d m ns rest h =
      collects_value v (suc d) m ns (cut_values d (past_value m v) vs rest) h.0
      ∙ collects_values vs d (past_value m v) (ns ++ in_value v) rest h.1
      ∙ joins ns (in_value v) (in_values vs) rest

  collects_external : (ss : SectionTrees) (d : ℕ) (m : Moment) (ns : Names) (rest : List Piece) → WellFormedExternal m.table ss
      → collected (has ns) (cut_external d m ss rest) ≡ collected (has (ns ++ in_sections ss)) rest
  collects_external (section_and (section [] no_values (annotation notes)) no_sections) d m ns rest h =
      collects_annotation notes d m ns rest h ∙ ap (λ z. collected (has (ns ++ z)) rest) (sym (append-nil (in_contents notes)))
  collects_external _ d m ns rest h = absurd h

  collects_sections : (ss : SectionTrees) (chain : List Layer) (d : ℕ) (m : Moment) (ns : Names) (rest : List Piece) → WellFormedSections m.table ss chain
      → collected (has ns) (cut_sections d m chain ss rest) ≡ collected (has (ns ++ in_sections ss)) rest
  collects_sections no_sections [] d m ns rest h = none_more ns rest
  collects_sections no_sections (l ∷ ls) d m ns rest h = absurd h
  collects_sections (section_and s ss) [] d m ns rest h = absurd h
  collects_sections (section_and (section ps vs n) ss) (l ∷ ls) d m ns rest h =
      let m1 = past_values m vs in
      let m2 = past_notes m1 n in
      let after = cut_sections d m2 ls ss rest in
      passes_prims (primitive_codes l.codes) ps d m ns (cut_values d m vs (cut_notes d m1 n after))
      ∙ collects_values vs d m ns (cut_notes d m1 n after) h.2
      ∙ collects_notes n (has_write_method l.flags) d m1 (ns ++ in_values vs) after h.3
      ∙ collects_sections ss ls d m2 ((ns ++ in_values vs) ++ in_notes n) rest h.4
      ∙ joins_three ns (in_values vs) (in_notes n) (in_sections ss) rest

  collects_notes : (n : NotesTree) (expected : Bool) (d : ℕ) (m : Moment) (ns : Names) (rest : List Piece) → WellFormedNotesIf m.table n expected
      → collected (has ns) (cut_notes d m n rest) ≡ collected (has (ns ++ in_notes n)) rest
  collects_notes no_notes expected d m ns rest h = none_more ns rest
  collects_notes (annotation cs) expected d m ns rest h = collects_annotation cs d m ns rest h.1

  collects_annotation : (cs : ContentTrees) (d : ℕ) (m : Moment) (ns : Names) (rest : List Piece) → WellFormedNotes m.table cs
      → collected (has ns) (cut_annotation d m cs rest) ≡ collected (has (ns ++ in_contents cs)) rest
  collects_annotation no_contents d m ns rest h = none_more ns rest
  collects_annotation (content_and (block long b) cs) d m ns rest h =
      passes_bytes b d m ns (cut_annotation d m cs rest) ∙ collects_annotation cs d m ns rest h.1
  collects_annotation (content_and reset cs) d m ns rest h = absurd h
  collects_annotation (content_and (content v) cs) d m ns rest h =
      collects_value v (suc d) m ns (cut_annotation d (past_value m v) cs rest) h.0
      ∙ collects_annotation cs d (past_value m v) (ns ++ in_value v) rest h.1
      ∙ joins ns (in_value v) (in_contents cs) rest

collects_top : (cs : ContentTrees) (m : Moment) (ns : Names) → WellFormedContents m.table cs → collected (has ns) (cut_top m cs []) ≡ has (ns ++ in_contents cs)
collects_top no_contents m ns h = none_more ns []
collects_top (content_and (block long b) cs) m ns h = passes_bytes b 0 m ns (cut_top m cs []) ∙ collects_top cs m ns h.1
collects_top (content_and reset cs) m ns h = collects_top cs (emptied m) ns h
collects_top (content_and (content v) cs) m ns h =
    collects_value v 1 m ns (cut_top (past_value m v) cs []) h.0 ∙ collects_top cs (past_value m v) (ns ++ in_value v) h.1
    ∙ joins ns (in_value v) (in_contents cs) []

pub collected_law : NamesAreCollected
collected_law list h = ap (λ x. x.names) (collects_top list beginning [] h)
