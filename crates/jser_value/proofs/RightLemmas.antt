-- The tests that the check computes say the same as the rules of the format.
use Rattle.std.proofs.Common.{◌≡◌, ◌==◌, ℕ, suc, ◌+◌, ◌<◌, ◌^◌, Bool, true, false, not, ◌&&◌, ◌||◌, if◌then◌else◌, nat_lt, List, [], ◌∷◌, length, refl, sym, ap, ◌∙◌, subst, arith, Option, Some, None, is_some, IsTrue, IsFalse, MatchBool, eqb-true, eq-eqb, true≢false, option_map}
use Rattle.std.proofs.lemmas.Bool.Decides.{nat_tests}
use Rattle.std.specs.List.{list_all}
use Rattle.jser_table.specs.declared.layer.Purpose.TheVariants as purpose
use Rattle.jser_grammar.proofs.Bools.{and_left, and_right, and_both}
use Rattle.jser_grammar.proofs.Vocabulary.{is_serializable, is_externalizable, fits, name_kind, Layer, has_write_method, pending_entry, other_entry, modified_utf8, PrimCode, byte_code, char_code, double_code, float_code, int_code, long_code, short_code, boolean_code, letter_of, size_of, prim_code_of, is_object_code, with_code, primitive_codes, object_count, TextPlaceTree, new_text, back_text, FieldTree, PrimTree, ValueTree, null, back, string, descriptor, class_object, array, enum_constant, object, DescTree, plain, proxy, ClassPlaceTree, no_class, back_class, new_class, BodyTree, raw_body, value_body, ValueTrees, no_values, value_and, section, SectionTrees, no_sections, section_and, NotesTree, no_notes, annotation, block, reset, content, ContentTrees, no_contents, content_and, value_count, Entries, add, after_type, after_fields, after_value, after_class, after_values, after_notes, after_contents, chain_of_class, text_bound, IsText, is_malformed, IsClassName, AreClassNames, IsFlags, IsBack, IsBackToText, IsBackToClass, WellFormedText, WellFormedType, WellFormedFields, IsPrimOf, ArePrimsOf, ArePrims, block_bound, IsBlock, elements_of, is_external, WellFormedValue, WellFormedDesc, WellFormedClass, WellFormedSuperclass, WellFormedBody, WellFormedValues, WellFormedExternal, WellFormedSections, WellFormedNotesIf, WellFormedNotes, WellFormedContents, WellFormed}
use Rattle.jser_value.specs.PartTests.{all_below, obeys_text, obeys_class_name, obeys_class_names, obeys_flags, obeys_back, obeys_back_to_text, obeys_back_to_class, obeys_text_place, obeys_type, obeys_fields, is_prim_of, obeys_prims, obeys_block}
use Rattle.jser_value.specs.Tests.{obeys_value, obeys_desc, obeys_class, obeys_superclass, obeys_body, obeys_values, obeys_external, obeys_sections, obeys_notes_if, obeys_notes, obeys_contents}

-- a test and what it says
pub record Says (test : Bool) (fact : Type 0) : Type 0 where
  pub to : IsTrue test → fact
  pub from : fact → IsTrue test

says_always : Says true (Unit {0})
says_always = record { to = λ h. tt; from = λ h. refl }

says_never : (a : Bool) → a ≡ false → Says a ⊥
says_never a e = record { to = λ h. absurd (true≢false (sym h ∙ e)); from = λ h. absurd h }

says_itself : (a : Bool) → Says a (IsTrue a)
says_itself a = record { to = λ h. h; from = λ h. h }

says_not : (a : Bool) → Says (not a) (IsFalse a)
says_not true = record { to = λ h. cc; from = λ h. cc }
says_not false = record { to = λ h. refl; from = λ h. refl }

says_less : (m n : ℕ) → Says (nat_lt m n) (m < n)
says_less m n = record { to = λ h. grind (arith, nat_tests); from = λ h. grind (arith, nat_tests) }

says_equal : (m n : ℕ) → Says (m == n) (m ≡ n)
says_equal m n = record { to = eqb-true m n; from = eq-eqb m n }

says_both : {a b : Bool} {A B : Type 0} → Says a A → Says b B → Says (a && b) (A × B)
says_both {a} {b} first second =
    record { to = λ h. (first.to (and_left a b h), second.to (and_right a b h)); from = λ p. and_both a b (first.from p.0) (second.from p.1) }

says_three : {a b c : Bool} {A B C : Type 0} → Says a A → Says b B → Says c C → Says (a && (b && c)) (A × B × C)
says_three {a} {b} {c} first second third =
    record {
      to = λ h. (first.to (and_left a (b && c) h), second.to (and_left b c (and_right a (b && c) h)), third.to (and_right b c (and_right a (b && c) h)));
      from = λ p. and_both a (b && c) (first.from p.0) (and_both b c (second.from p.1) (third.from p.2));
    }

says_either : {a b : Bool} {A B : Type 0} → (choice : Bool) → Says a A → Says b B → Says (if choice then a else b) (MatchBool choice A B)
says_either true first second = first
says_either false first second = second

says_four : {a b c d : Bool} {A B C D : Type 0} → Says a A → Says b B → Says c C → Says d D → Says ((a && b) && (c && d)) (A × B × C × D)
says_four {a} {b} {c} {d} first second third fourth =
    let one = says_both first second in
    let two = says_both third fourth in
    record {
      to = λ h. let p = one.to (and_left (a && b) (c && d) h) in let q = two.to (and_right (a && b) (c && d) h) in (p.0, p.1, q.0, q.1);
      from = λ p. and_both (a && b) (c && d) (one.from (p.0, p.1)) (two.from (p.2, p.3));
    }

-- a section's two own parts, and three that go through the table
says_section : {a b c d e : Bool} {A B C D E : Type 0} → Says a A → Says b B → Says c C → Says d D → Says e E
    → Says (((a && b) && (c && d)) && e) (A × B × C × D × E)
says_section {a} {b} {c} {d} {e} first second third fourth fifth =
    let four = says_four first second third fourth in
    record {
      to = λ h. let p = four.to (and_left ((a && b) && (c && d)) e h) in
          (p.0, p.1, p.2, p.3, fifth.to (and_right ((a && b) && (c && d)) e h));
      from = λ p. and_both ((a && b) && (c && d)) e (four.from (p.0, p.1, p.2, p.3)) (fifth.from p.4);
    }

-- a plain descriptor's four own parts, and three that go through the table
says_plain : {a b c d e f g : Bool} {A B C D E F G : Type 0} → Says a A → Says b B → Says c C → Says d D → Says e E → Says f F → Says g G
    → Says ((a && (b && (c && d))) && (e && (f && g))) (A × B × C × D × E × F × G)
says_plain {a} {b} {c} {d} {e} {f} {g} first second third fourth fifth sixth seventh =
    let own = says_both first (says_three second third fourth) in
    let others = says_three fifth sixth seventh in
    record {
      to = λ h. let p = own.to (and_left (a && (b && (c && d))) (e && (f && g)) h) in
          let q = others.to (and_right (a && (b && (c && d))) (e && (f && g)) h) in
          (p.0, p.1.0, p.1.1, p.1.2, q.0, q.1, q.2);
      from = λ p. and_both (a && (b && (c && d))) (e && (f && g)) (own.from (p.0, (p.1, p.2, p.3))) (others.from (p.4, p.5, p.6));
    }

-- parts

says_text : (long : Bool) (units : List ℕ) → Says (obeys_text long units) (IsText long units)
says_text long units = says_both (says_itself (all_below 0x10000 units)) (says_less (length (modified_utf8 units)) (text_bound long))

says_class_name : (name : List ℕ) → Says (obeys_class_name name) (IsClassName name)
says_class_name name = says_both (says_text false name) (says_not (is_malformed (name_kind name)))

says_class_names : (names : List (List ℕ)) → Says (obeys_class_names names) (AreClassNames names)
says_class_names [] = says_always
says_class_names (name ∷ names) = says_both (says_class_name name) (says_class_names names)

says_flags : (flags : ℕ) → Says (obeys_flags flags) (IsFlags flags)
says_flags flags = says_both (says_less flags 32) (says_not (is_serializable flags && is_externalizable flags))

says_back : (T : Entries) (n : ℕ) → Says (obeys_back T n) (IsBack T n)
says_back T n = says_both (says_less n (length T)) (says_less (0x7E0000 + n) (2 ^ 32))

says_back_to_text : (T : Entries) (n : ℕ) → Says (obeys_back_to_text T n) (IsBackToText T n)
says_back_to_text T n = says_both (says_itself _) (says_less (0x7E0000 + n) (2 ^ 32))

says_back_to_class : (T : Entries) (n : ℕ) → Says (obeys_back_to_class T n) (IsBackToClass T n)
says_back_to_class T n = says_both (says_itself _) (says_less (0x7E0000 + n) (2 ^ 32))

says_text_place : (T : Entries) (t : TextPlaceTree) → Says (obeys_text_place T t) (WellFormedText T t)
says_text_place T (new_text t) = says_text t.long t.units
says_text_place T (back_text n) = says_back_to_text T n

says_type : (T : Entries) (seen : Bool) (code : ℕ) (t : Option TextPlaceTree) → Says (obeys_type T seen code t) (WellFormedType T seen code t)
says_type T seen code None = says_both (says_itself (is_some (prim_code_of code))) (says_not seen)
says_type T seen code (Some t) = says_both (says_itself (is_object_code code)) (says_text_place T t)

says_fields : (fs : List FieldTree) (T : Entries) (seen : Bool) → Says (obeys_fields T seen fs) (WellFormedFields T seen fs)
says_fields [] T seen = says_always
says_fields (f ∷ fs) T seen =
    says_three (says_text false f.name) (says_type T seen f.code f.text) (says_fields fs (after_type T f.text) (seen || is_object_code f.code))

says_block : (long : Bool) (bytes : List ℕ) → Says (obeys_block long bytes) (IsBlock long bytes)
says_block long bytes = says_both (says_itself (all_below 0x100 bytes)) (says_less (length bytes) (block_bound long))

-- raw values

prim_code_of_letter : (c : PrimCode) → prim_code_of (letter_of c) ≡ Some c
prim_code_of_letter byte_code = refl
prim_code_of_letter char_code = refl
prim_code_of_letter double_code = refl
prim_code_of_letter float_code = refl
prim_code_of_letter int_code = refl
prim_code_of_letter long_code = refl
prim_code_of_letter short_code = refl
prim_code_of_letter boolean_code = refl

letter_of_prim_code : (code : ℕ) (c : PrimCode) → prim_code_of code ≡ Some c → letter_of c ≡ code
letter_of_prim_code code c e = grind (arith, nat_tests)

pub same_code : (c d : PrimCode) → letter_of c ≡ letter_of d → c ≡ d
same_code c d e = let f = sym (prim_code_of_letter c) ∙ ap prim_code_of e ∙ prim_code_of_letter d in cc

says_prim : (code : ℕ) (c : PrimCode) (p : PrimTree) → prim_code_of code ≡ Some c → Says (is_prim_of code p) (IsPrimOf c p)
says_prim code c p e =
    let letter = letter_of_prim_code code c e in
    let same = λ (h : IsTrue (is_prim_of code p)). same_code p.code c (eqb-true (letter_of p.code) code (and_left (letter_of p.code == code) (nat_lt p.bits (256 ^ size_of p.code)) h) ∙ sym letter) in
    record {
      to = λ h. (
        same h,
        subst (λ (d : PrimCode). p.bits < 256 ^ size_of d) (same h)
            ((says_less p.bits (256 ^ size_of p.code)).to (and_right (letter_of p.code == code) (nat_lt p.bits (256 ^ size_of p.code)) h)),
      );
      from = λ q. and_both (letter_of p.code == code) (nat_lt p.bits (256 ^ size_of p.code))
          (eq-eqb (letter_of p.code) code (ap letter_of q.0 ∙ letter))
          ((says_less p.bits (256 ^ size_of p.code)).from (subst (λ (d : PrimCode). p.bits < 256 ^ size_of d) (sym q.0) q.1));
    }

says_prims_of : (c : PrimCode) (ps : List PrimTree) → Says (list_all (is_prim_of (letter_of c)) ps) (ArePrimsOf c ps)
says_prims_of c [] = says_always
says_prims_of c (p ∷ ps) = says_both (says_prim (letter_of c) c p (prim_code_of_letter c)) (says_prims_of c ps)

none_left : (code : ℕ) (o : Option PrimCode) (cs : List PrimCode) (rest : Bool) → Says rest (ArePrims cs []) → Says (not (is_some o) && rest) (ArePrims (with_code o cs) [])
none_left code None cs rest h = h
none_left code (Some c) cs rest h = says_never false refl

one_left : (code : ℕ) (o : Option PrimCode) (cs : List PrimCode) (p : PrimTree) (ps : List PrimTree) (here behind : Bool) → prim_code_of code ≡ o
    → Says behind (ArePrims cs ps) → Says here (ArePrims cs (p ∷ ps))
    → Says (if is_some o then is_prim_of code p && behind else here) (ArePrims (with_code o cs) (p ∷ ps))
one_left code None cs p ps here behind e h k = k
one_left code (Some c) cs p ps here behind e h k = says_both (says_prim code c p e) h

says_prims : (codes : List ℕ) (ps : List PrimTree) → Says (obeys_prims codes ps) (ArePrims (primitive_codes codes) ps)
says_prims [] [] = says_always
says_prims [] (p ∷ ps) = says_never false refl
says_prims (code ∷ codes) [] = none_left code (prim_code_of code) (primitive_codes codes) (obeys_prims codes []) (says_prims codes [])
says_prims (code ∷ codes) (p ∷ ps) =
    one_left code (prim_code_of code) (primitive_codes codes) p ps (obeys_prims codes (p ∷ ps)) (obeys_prims codes ps) refl (says_prims codes ps) (says_prims codes (p ∷ ps))

-- values and all that stands in them

not_zero : (n : ℕ) → (suc n == 0) ≡ false
not_zero n = grind (arith, nat_tests)

not_bare_values : (v : ValueTree) (vs : ValueTrees) (n : NotesTree) (T : Entries)
    → obeys_external T (section_and (section [] (value_and v vs) n) no_sections) ≡ false
not_bare_values v vs n T = ap (λ b. b && obeys_notes_if T n true) (not_zero (value_count vs))

not_bare_prims : (p : PrimTree) (ps : List PrimTree) (vs : ValueTrees) (n : NotesTree) (T : Entries)
    → obeys_external T (section_and (section (p ∷ ps) vs n) no_sections) ≡ false
not_bare_prims p ps vs n T = ap (λ b. (b && value_count vs == 0) && obeys_notes_if T n true) (not_zero (length ps))

mutual
  pub says_value : (v : ValueTree) (T : Entries) → Says (obeys_value T v) (WellFormedValue T v)
  says_value null T = says_always
  says_value (back n) T = says_back T n
  says_value (string t) T = says_text t.long t.units
  says_value (descriptor x) T = says_desc x T
  says_value (class_object c) T = says_class c T
  says_value (array c b) T =
      says_three (says_class c T) (says_itself (fits purpose.Array (chain_of_class T c)))
      (says_body b (add (after_class T c) other_entry) (elements_of (chain_of_class T c)))
  says_value (enum_constant c t) T =
      says_three (says_class c T) (says_itself (fits purpose.EnumConst (chain_of_class T c))) (says_text_place (add (after_class T c) other_entry) t)
  says_value (object c ss) T =
      says_three (says_class c T) (says_itself (fits purpose.Object (chain_of_class T c)))
      (says_either (is_external (chain_of_class T c)) (says_external ss (add (after_class T c) other_entry))
      (says_sections ss (add (after_class T c) other_entry) (chain_of_class T c)))

  says_desc : (x : DescTree) (T : Entries) → Says (obeys_desc T x) (WellFormedDesc T x)
  says_desc (plain name suid flags fields notes parent) T =
      let opened = add T pending_entry in
      let behind = after_fields opened fields in
      let inside = after_contents behind notes in
      says_plain (says_class_name name) (says_less suid (2 ^ 64)) (says_flags flags) (says_less (length fields) (2 ^ 15))
      (says_fields fields opened false) (says_notes notes behind) (says_superclass parent inside)
  says_desc (proxy interfaces notes parent) T =
      let opened = add T pending_entry in
      says_four (says_less (length interfaces) (2 ^ 31)) (says_class_names interfaces) (says_notes notes opened)
      (says_superclass parent (after_contents opened notes))

  says_class : (c : ClassPlaceTree) (T : Entries) → Says (obeys_class T c) (WellFormedClass T c)
  says_class no_class T = says_never false refl
  says_class (back_class n) T = says_back_to_class T n
  says_class (new_class x) T = says_desc x T

  says_superclass : (c : ClassPlaceTree) (T : Entries) → Says (obeys_superclass T c) (WellFormedSuperclass T c)
  says_superclass no_class T = says_always
  says_superclass (back_class n) T = says_back_to_class T n
  says_superclass (new_class x) T = says_desc x T

  says_body : (b : BodyTree) (T : Entries) (elements : Option PrimCode) → Says (obeys_body T b (option_map letter_of elements)) (WellFormedBody T b elements)
  says_body (raw_body ps) T None = says_never false refl
  says_body (raw_body ps) T (Some c) = says_both (says_less (length ps) (2 ^ 31)) (says_prims_of c ps)
  says_body (value_body vs) T None = says_both (says_less (value_count vs) (2 ^ 31)) (says_values vs T)
  says_body (value_body vs) T (Some c) = says_never false refl

  says_values : (vs : ValueTrees) (T : Entries) → Says (obeys_values T vs) (WellFormedValues T vs)
  says_values no_values T = says_always
  says_values (value_and v vs) T = says_both (says_value v T) (says_values vs (after_value T v))

  says_external : (ss : SectionTrees) (T : Entries) → Says (obeys_external T ss) (WellFormedExternal T ss)
  says_external no_sections T = says_never false refl
  says_external (section_and (section [] no_values no_notes) no_sections) T = says_never false refl
  says_external (section_and (section [] no_values (annotation notes)) no_sections) T = says_notes notes T
  says_external (section_and (section [] (value_and v vs) n) no_sections) T = says_never _ (not_bare_values v vs n T)
  says_external (section_and (section (p ∷ ps) vs n) no_sections) T = says_never _ (not_bare_prims p ps vs n T)
  says_external (section_and (section [] no_values no_notes) (section_and s ss)) T = says_never false refl
  says_external (section_and (section [] no_values (annotation notes)) (section_and s ss)) T = says_never false refl
  says_external (section_and (section [] (value_and v vs) n) (section_and s ss)) T = says_never false refl
  says_external (section_and (section (p ∷ ps) vs n) (section_and s ss)) T = says_never false refl

  says_sections : (ss : SectionTrees) (T : Entries) (chain : List Layer) → Says (obeys_sections T ss chain) (WellFormedSections T ss chain)
  says_sections no_sections T [] = says_always
  says_sections no_sections T (l ∷ ls) = says_never false refl
  says_sections (section_and (section ps vs n) ss) T [] = says_never false refl
  says_sections (section_and (section ps vs n) ss) T (l ∷ ls) =
      says_section (says_prims l.codes ps) (says_equal (value_count vs) (object_count l.codes)) (says_values vs T)
      (says_notes_if n (after_values T vs) (has_write_method l.flags)) (says_sections ss (after_notes (after_values T vs) n) ls)

  says_notes_if : (n : NotesTree) (T : Entries) (expected : Bool) → Says (obeys_notes_if T n expected) (WellFormedNotesIf T n expected)
  says_notes_if no_notes T expected = says_not expected
  says_notes_if (annotation notes) T expected = says_both (says_itself expected) (says_notes notes T)

  says_notes : (cs : ContentTrees) (T : Entries) → Says (obeys_notes T cs) (WellFormedNotes T cs)
  says_notes no_contents T = says_always
  says_notes (content_and (block long bytes) cs) T = says_both (says_block long bytes) (says_notes cs T)
  says_notes (content_and reset cs) T = says_never false refl
  says_notes (content_and (content v) cs) T = says_both (says_value v T) (says_notes cs (after_value T v))

-- a content list
says_contents : (cs : ContentTrees) (T : Entries) → Says (obeys_contents T cs) (WellFormedContents T cs)
says_contents no_contents T = says_always
says_contents (content_and (block long bytes) cs) T = says_both (says_block long bytes) (says_contents cs T)
says_contents (content_and reset cs) T = says_contents cs []
says_contents (content_and (content v) cs) T = says_both (says_value v T) (says_contents cs (after_value T v))

pub right_contents : (cs : ContentTrees) → obeys_contents [] cs ≡ true → WellFormed cs
right_contents cs h = (says_contents cs []).to h

pub wrong_contents : (cs : ContentTrees) → obeys_contents [] cs ≡ false → WellFormed cs → ⊥
wrong_contents cs h right = true≢false (sym ((says_contents cs []).from right) ∙ h)
