-- A list of parts on the way to being tested: of the whole, each part so far passed, and what is left
-- decides, with the table as it is now.
use Rattle.std.proofs.Common.{◌≡◌, ◌==◌, ◌<◌, ◌≤◌, ℕ, zero, suc, ◌+◌, Bool, true, false, ◌&&◌, not, true≢false, eq-eqb, eqb-true, if◌then◌else◌, add-one, List, [], ◌∷◌, ◌++◌, length, length-append, refl, sym, ap, ◌∙◌, arith, Option, Some, None, slice_get, map, drop, get_or, subst, Err}
use Rattle.jser_table.specs.Chains.{own_layer, has_write_method}
use Rattle.jser_table.specs.declared.layer.Layer.{Layer}
use Rattle.jser_value.specs.declared.tree.Value.{Value}
use Rattle.std.specs.declared.result.Result.{Result}
use Rattle.jser_value.specs.declared.check.fault.Fault.{Fault}
use Rattle.jser_value.specs.declared.check.fault.Fault.TheVariants as fault
use Rattle.jser_value.specs.declared.tree.Raw.{Raw}
use Rattle.jser_value.specs.declared.tree.Section.{Section}
use Rattle.jser_table.specs.Entries.{chain_at, other_entry}
use Rattle.jser_table.specs.Fits.{fits}
use Rattle.jser_table.specs.declared.layer.Purpose.TheVariants as purpose
use Rattle.jser_grammar.specs.Parts.{is_external}
use Rattle.jser_grammar.proofs.Bools.{and_right}
use Rattle.jser_value.proofs.KeepLemmas.{class_behind_section}
use Rattle.jser_grammar.specs.TableAfter.{Entries, add, after_values, after_sections, after_contents}
use Rattle.jser_value.specs.Tests.{Judges, is_bare, obeys_layer, obeys_frame, obeys_held, obeys_alone, obeys_values, obeys_notes, obeys_external, obeys_section, obeys_section_at, obeys_sections, obeys_data, obeys_object, after_section, IsClassAt}
use Rattle.jser_grammar.specs.Trees.{PrimTree, ValueTrees, no_values, value_and, value_count, SectionTrees, no_sections, section_and, SectionTree, section, no_notes, annotation, ContentTrees}
use Rattle.jser_grammar.specs.Spelling.{prims_spelling, value_spelling, values_spelling, notes_spelling, sections_spelling}
use Rattle.jser_value.specs.Rooms.{HasRoom, Spends}
use Rattle.jser_value.specs.View.{view_prim, view_value, view_values, view_section, view_sections}

pub record Awaits (left whole : Bool) (after_left after_whole : Entries) : Type 0 where
  pub passes : left ≡ whole
  pub after : after_left ≡ after_whole

-- sections are awaited: the class keeps its chain, which has a layer for each
pub record AwaitsSections (T : Entries) (number : ℕ) (chain : List Layer) (count : ℕ) (left whole : Bool) (after_left after_whole : Entries) : Type 0 where
  pub class : IsClassAt T number chain
  pub layers : count ≡ length chain
  pub awaits : Awaits left whole after_left after_whole

-- the own layer is the last one
pub own_layer_last : (chain : List Layer) (last : ℕ) (layer : Layer) → last + 1 ≡ length chain → slice_get chain last ≡ Some layer → Some layer ≡ own_layer chain
own_layer_last [] last layer e h = absurd (omega arith)
own_layer_last (l ∷ []) zero layer e h = cc
own_layer_last (l ∷ []) (suc last) layer e h = absurd (omega arith)
own_layer_last (l ∷ m ∷ chain) zero layer e h = absurd (omega arith)
own_layer_last (l ∷ m ∷ chain) (suc last) layer e h = own_layer_last (m ∷ chain) last layer (omega arith) h

pub own_layer_none : (chain : List Layer) → length chain ≡ 0 → own_layer chain ≡ None
own_layer_none [] e = refl
own_layer_none (l ∷ chain) e = absurd (omega arith)

pub length_prims : (prims : List Raw) → length (map view_prim prims) ≡ length prims
length_prims [] = refl
length_prims (prim ∷ prims) = ap (λ n. suc n) (length_prims prims)

pub value_count_of : (values : List Value) → value_count (view_values values) ≡ length values
value_count_of [] = refl
value_count_of (value ∷ values) = ap (λ n. suc n) (value_count_of values)

and-false : (a : Bool) → (a && false) ≡ false
and-false true = refl
and-false false = refl

after_no_values : (T : Entries) (vs : ValueTrees) → value_count vs ≡ 0 → after_values T vs ≡ T
after_no_values T no_values e = refl
after_no_values T (value_and v vs) e = absurd (omega arith)

abbrev section_count : SectionTrees → ℕ
section_count no_sections = 0
section_count (section_and s ss) = suc (section_count ss)

unequal_sections : (T : Entries) (ss : SectionTrees) (chain : List Layer) → (section_count ss ≡ length chain → ⊥) → obeys_sections T ss chain ≡ false
unequal_sections T no_sections [] n = absurd (n refl)
unequal_sections T no_sections (l ∷ chain) n = refl
unequal_sections T (section_and s ss) [] n = refl
unequal_sections T (section_and s ss) (l ∷ chain) n =
    ap (λ b. obeys_section T s l && b) (unequal_sections (after_section T s) ss chain (λ e. n (ap (λ k. suc k) e))) ∙ and-false (obeys_section T s l)

section_count_of : (sections : List Section) → section_count (view_sections sections) ≡ length sections
section_count_of [] = refl
section_count_of (s ∷ sections) = ap (λ k. suc k) (section_count_of sections)

-- sections that are right are as many as the layers
pub as_many_sections : (T : Entries) (sections : List Section) (chain : List Layer) → (length sections == length chain) ≡ false
    → obeys_sections T (view_sections sections) chain ≡ false
as_many_sections T sections chain n =
    unequal_sections T (view_sections sections) chain
    (λ e. let f : length sections ≡ length chain = sym (section_count_of sections) ∙ e in absurd (true≢false (sym (eq-eqb (length sections) (length chain) f) ∙ n)))

after_sections_and : (T : Entries) (s : SectionTree) (ss : SectionTrees) → after_sections T (section_and s ss) ≡ after_sections (after_section T s) ss
after_sections_and T (section ps vs n) ss = refl

-- at the next section of a chain

pub item_at : {X : Type 0} → (xs : List X) (k : ℕ) (x : X) → k < length xs → x ≡ get_or xs k x → drop k xs ≡ x ∷ drop (suc k) xs
item_at [] k x h e = absurd (omega arith)
item_at (y ∷ xs) zero x h e = ap (λ z. z ∷ xs) (sym e)
item_at (y ∷ xs) (suc k) x h e = item_at xs k x (omega arith) e

layers_at : (chain : List Layer) (k : ℕ) → k < length chain → (l : Layer) × (slice_get chain k ≡ Some l) × (drop k chain ≡ l ∷ drop (suc k) chain)
layers_at [] k h = absurd (omega arith)
layers_at (l ∷ chain) zero h = (l, refl, refl)
layers_at (l ∷ chain) (suc k) h = layers_at chain k (omega arith)

-- no values stand in a section of notes alone
pub after_bare : (T : Entries) (ps : List PrimTree) (vs : ValueTrees) → is_bare ps vs ≡ true → after_values T vs ≡ T
after_bare T ps vs h = after_no_values T vs (eqb-true (value_count vs) 0 (and_right (length ps == 0) (value_count vs == 0) h))

pub only_section : (sections : List Section) (s : Section) → 1 ≤ length sections → length sections < 2 → s ≡ get_or sections 0 s → sections ≡ s ∷ []
only_section [] s h k e = absurd (omega arith)
only_section (r ∷ []) s h k e = ap (λ x. x ∷ []) (sym e)
only_section (r ∷ q ∷ sections) s h k e = absurd (omega arith)

pub more_sections : (T : Entries) (sections : List Section) → 2 ≤ length sections → obeys_external T (view_sections sections) ≡ false
more_sections T [] h = absurd (omega arith)
more_sections T (s ∷ []) h = absurd (omega arith)
more_sections T (s ∷ r ∷ sections) h = refl

-- what the sections from one on come to, by the first of them
at_next : (T : Entries) (sections : List Section) (chain : List Layer) (k : ℕ) (s : Section) (l : Layer) → drop k sections ≡ s ∷ drop (suc k) sections
    → drop k chain ≡ l ∷ drop (suc k) chain
    → obeys_sections T (view_sections (drop k sections)) (drop k chain)
    ≡ (obeys_section T (view_section s) l && obeys_sections (after_section T (view_section s)) (view_sections (drop (suc k) sections)) (drop (suc k) chain))
at_next T sections chain k s l e f =
    ap (λ (xs : List Section). obeys_sections T (view_sections xs) (drop k chain)) e
    ∙ ap (λ (ls : List Layer). obeys_sections T (view_sections (s ∷ drop (suc k) sections)) ls) f

after_next : (T : Entries) (sections : List Section) (k : ℕ) (s : Section) → drop k sections ≡ s ∷ drop (suc k) sections
    → after_sections T (view_sections (drop k sections)) ≡ after_sections (after_section T (view_section s)) (view_sections (drop (suc k) sections))
after_next T sections k s e =
    ap (λ (xs : List Section). after_sections T (view_sections xs)) e ∙ after_sections_and T (view_section s) (view_sections (drop (suc k) sections))

-- the layer of the section that is next
layer_there : (T : Entries) (n k : ℕ) (chain : List Layer) (l : Layer) (s : Section) → chain_at T n ≡ chain → slice_get chain k ≡ Some l
    → obeys_section_at T (view_section s) (slice_get (chain_at T n) k) ≡ obeys_section T (view_section s) l
layer_there T n k chain l s e f =
    ap (λ (c : List Layer). obeys_section_at T (view_section s) (slice_get c k)) e ∙ ap (obeys_section_at T (view_section s)) f

pub sections_failed : (T : Entries) (n k : ℕ) (chain : List Layer) (sections : List Section) (s : Section) (whole : Bool) (A : Entries)
    → AwaitsSections T n chain (length sections) (obeys_sections T (view_sections (drop k sections)) (drop k chain)) whole (after_sections T (view_sections (drop k sections))) A
    → k < length sections → s ≡ get_or sections k s → obeys_section_at T (view_section s) (slice_get (chain_at T n) k) ≡ false → whole ≡ false
sections_failed T n k chain sections s whole A awaits h e fails =
    let there = layers_at chain k (omega (arith, awaits.layers)) in
    let l = there.0 in
    let first : obeys_section T (view_section s) l ≡ false = sym (layer_there T n k chain l s awaits.class.chain_is there.1) ∙ fails in
    sym awaits.awaits.passes
    ∙ at_next T sections chain k s l (item_at sections k s h e) there.2
    ∙ ap (λ b. b && obeys_sections (after_section T (view_section s)) (view_sections (drop (suc k) sections)) (drop (suc k) chain)) first

pub sections_next : (T U : Entries) (n k : ℕ) (chain : List Layer) (sections : List Section) (s : Section) (whole : Bool) (A : Entries)
    → AwaitsSections T n chain (length sections) (obeys_sections T (view_sections (drop k sections)) (drop k chain)) whole (after_sections T (view_sections (drop k sections))) A
    → k < length sections → s ≡ get_or sections k s → obeys_section_at T (view_section s) (slice_get (chain_at T n) k) ≡ true → U ≡ after_section T (view_section s)
    → AwaitsSections U n chain (length sections) (obeys_sections U (view_sections (drop (k + 1) sections)) (drop (k + 1) chain)) whole (after_sections U (view_sections (drop (k + 1) sections))) A
sections_next T U n k chain sections s whole A awaits h e passes after =
    let there = layers_at chain k (omega (arith, awaits.layers)) in
    let l = there.0 in
    let next = item_at sections k s h e in
    let first : obeys_section T (view_section s) l ≡ true = sym (layer_there T n k chain l s awaits.class.chain_is there.1) ∙ passes in
    let left : obeys_sections U (view_sections (drop (suc k) sections)) (drop (suc k) chain) ≡ whole =
    ap (λ (V : Entries). obeys_sections V (view_sections (drop (suc k) sections)) (drop (suc k) chain)) after
    ∙ sym (ap (λ b. b && obeys_sections (after_section T (view_section s)) (view_sections (drop (suc k) sections)) (drop (suc k) chain)) first)
    ∙ sym (at_next T sections chain k s l next there.2)
    ∙ awaits.awaits.passes in
    let ends : after_sections U (view_sections (drop (suc k) sections)) ≡ A =
    ap (λ (V : Entries). after_sections V (view_sections (drop (suc k) sections))) after ∙ sym (after_next T sections k s next) ∙ awaits.awaits.after in
    record {
      class = class_behind_section T U (view_section s) n chain after awaits.class;
      layers = awaits.layers;
      awaits = record { passes = rw add-one left; after = rw add-one ends };
    }

-- a section of an annotation alone is judged by it
pub judged_alone : {X : Type 0} → (r : Result X Fault) (T U : Entries) (ps : List PrimTree) (vs : ValueTrees) (cs : ContentTrees) (s : SectionTree)
    → s ≡ section ps vs (annotation cs) → is_bare ps vs ≡ true → Judges r (obeys_notes T cs) (after_contents T cs) U
    → Judges r (obeys_alone T s) (after_section T s) U
judged_alone r T U ps vs cs s e bare h =
    let test : obeys_alone T s ≡ obeys_notes T cs = ap (obeys_alone T) e ∙ ap (λ b. b && obeys_notes T cs) bare in
    let after : after_section T s ≡ after_contents T cs = ap (after_section T) e ∙ ap (λ (V : Entries). after_contents V cs) (after_bare T ps vs bare) in
    subst (λ (b : Bool). Judges r b (after_section T s) U) (sym test) (subst (λ (V : Entries). Judges r (obeys_notes T cs) V U) (sym after) h)

-- a section is right where its layer allows it, and what it holds is right
bare_apart : (a e v : Bool) → (a && (v && not e)) ≡ ((a && not e) && v)
bare_apart true true true = refl
bare_apart true true false = refl
bare_apart true false true = refl
bare_apart true false false = refl
bare_apart false e v = refl

annotated_apart : (a e v n : Bool) → (a && (v && (e && n))) ≡ ((a && e) && (v && n))
annotated_apart true true v n = refl
annotated_apart true false true n = refl
annotated_apart true false false n = refl
annotated_apart false e v n = refl

section_apart : (T : Entries) (l : Option Layer) (s : SectionTree) → obeys_section_at T s l ≡ (obeys_frame l s && obeys_held T s)
section_apart T None s = refl
section_apart T (Some l) (section ps vs no_notes) = bare_apart (obeys_layer l ps vs) (has_write_method l.flags) (obeys_values T vs)
section_apart T (Some l) (section ps vs (annotation cs)) =
    annotated_apart (obeys_layer l ps vs) (has_write_method l.flags) (obeys_values T vs) (obeys_notes (after_values T vs) cs)

pub judged_section : {X : Type 0} → (r : Result X Fault) (T U V : Entries) (l : Option Layer) (s : SectionTree) → obeys_frame l s ≡ true
    → Judges r (obeys_held T s) V U → Judges r (obeys_section_at T s l) V U
judged_section r T U V l s frame h =
    subst (λ (b : Bool). Judges r b V U) (sym (section_apart T l s ∙ ap (λ b. b && obeys_held T s) frame)) h

-- where a part fails its test, so does the whole
pub judged_failed : {X : Type 0} → (r : Result X Fault) (e : Fault) (part whole : Bool) (A B U V : Entries) → r ≡ Err e → Judges {X = X} (Err e) part A U
    → (part ≡ false → whole ≡ false) → Judges r whole B V
judged_failed {X} r fault.NotRight part whole A B U V is h fails =
    subst (λ (q : Result X Fault). Judges q whole B V) (sym is) (fails h)
judged_failed {X} r fault.OutOfMemory part whole A B U V is h fails = subst (λ (q : Result X Fault). Judges q whole B V) (sym is) tt

-- ---- handles and bytes

one_section : (s : SectionTree) (ss : SectionTrees)
    → length (sections_spelling (section_and s ss)) ≡ length (sections_spelling (section_and s no_sections)) + length (sections_spelling ss)
one_section (section ps vs n) ss =
    omega (
      arith,
      length-append (prims_spelling ps) (values_spelling vs ++ (notes_spelling n ++ sections_spelling ss)),
      length-append (values_spelling vs) (notes_spelling n ++ sections_spelling ss),
      length-append (notes_spelling n) (sections_spelling ss),
      length-append (prims_spelling ps) (values_spelling vs ++ (notes_spelling n ++ [])),
      length-append (values_spelling vs) (notes_spelling n ++ []),
      length-append (notes_spelling n) [],
    )

-- the bytes of the sections from one on are its own and those behind it
section_bytes : (sections : List Section) (k : ℕ) (s : Section) → k < length sections → s ≡ get_or sections k s
    → length (sections_spelling (view_sections (drop k sections)))
    ≡ length (sections_spelling (view_sections (s ∷ []))) + length (sections_spelling (view_sections (drop (suc k) sections)))
section_bytes sections k s h e =
    ap (λ (xs : List Section). length (sections_spelling (view_sections xs))) (item_at sections k s h e)
    ∙ one_section (view_section s) (view_sections (drop (suc k) sections))

-- so there is room for it
pub sections_room : (T U : Entries) (sections : List Section) (k : ℕ) (s : Section) → HasRoom T (sections_spelling (view_sections sections))
    → Spends T (sections_spelling (view_sections sections)) U (sections_spelling (view_sections (drop k sections))) → k < length sections
    → s ≡ get_or sections k s → HasRoom U (sections_spelling (view_sections (s ∷ [])))
sections_room T U sections k s room before h e = omega (arith, room, before, section_bytes sections k s h e)

-- behind one more section
pub sections_spent : (T U V : Entries) (sections : List Section) (k : ℕ) (s : Section)
    → Spends T (sections_spelling (view_sections sections)) U (sections_spelling (view_sections (drop k sections))) → k < length sections
    → s ≡ get_or sections k s → Spends U (sections_spelling (view_sections (s ∷ []))) V []
    → Spends T (sections_spelling (view_sections sections)) V (sections_spelling (view_sections (drop (k + 1) sections)))
sections_spent T U V sections k s before h e spent = rw add-one (omega (arith, before, spent, section_bytes sections k s h e))

-- and for the next of a list of values
pub values_room : (T U : Entries) (values : List Value) (k : ℕ) (v : Value) → HasRoom T (values_spelling (view_values values))
    → Spends T (values_spelling (view_values values)) U (values_spelling (view_values (drop k values))) → k < length values
    → v ≡ get_or values k v → HasRoom U (value_spelling (view_value v))
values_room T U values k v room before h e =
    let left = view_values (drop (suc k) values) in
    let bytes : length (values_spelling (view_values (drop k values))) ≡ length (value_spelling (view_value v)) + length (values_spelling left) =
    ap (λ (xs : List Value). length (values_spelling (view_values xs))) (item_at values k v h e) ∙ length-append (value_spelling (view_value v)) (values_spelling left) in
    omega (arith, room, before, bytes)

-- and a layer for it
pub sections_layer : (T : Entries) (n k : ℕ) (chain : List Layer) (count : ℕ) (left whole : Bool) (A B : Entries) → AwaitsSections T n chain count left whole A B
    → k < count → k < length (chain_at T n)
sections_layer T n k chain count left whole A B awaits h =
    subst (λ (layers : List Layer). k < length layers) (sym awaits.class.chain_is) (omega (arith, awaits.layers))

-- an object that is not externalizable is judged by its sections
pub object_judged : {X : Type 0} → (r : Result X Fault) (T U V : Entries) (n : ℕ) (ss : SectionTrees) → fits purpose.Object (chain_at T n) ≡ true
    → is_external (chain_at T n) ≡ false → U ≡ add T other_entry → IsClassAt U n (chain_at T n)
    → Judges r (obeys_sections U ss (chain_at U n)) (after_sections U ss) V
    → Judges r (obeys_object T ss (chain_at T n)) (after_sections (add T other_entry) ss) V
object_judged {X} r T U V n ss fit external after class h =
    let chain = chain_at T n in
    let inside = add T other_entry in
    let test : obeys_object T ss chain ≡ obeys_sections U ss (chain_at U n) =
    ap (λ b. b && obeys_data inside ss chain) fit
    ∙ ap (λ b. if b then obeys_external inside ss else obeys_sections inside ss chain) external
    ∙ sym (ap (λ (W : Entries). obeys_sections W ss chain) after)
    ∙ sym (ap (λ (c : List Layer). obeys_sections U ss c) class.chain_is) in
    subst (λ (b : Bool). Judges r b (after_sections inside ss) V) (sym test)
    (subst (λ (W : Entries). Judges r (obeys_sections U ss (chain_at U n)) (after_sections W ss) V) after h)
