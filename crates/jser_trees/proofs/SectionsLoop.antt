-- Sections on the way to being built: those of the first layers were found, and what is left gives the others.
use Rattle.std.proofs.Common.{rules, Vec, map, ◌≡◌, true, false, ℕ, zero, suc, ◌+◌, ◌<◌, ◌≤◌, List, [], ◌∷◌, ◌++◌, length, drop, slice_get, Option, Some, None, refl, sym, ◌∙◌, ap, arith, subst, add-one}
use Rattle.std.proofs.lemmas.List.{drop_all}
use Rattle.jser_table.specs.declared.layer.Layer.{Layer}
use Rattle.jser_table.specs.Entries.{chain_at}
use Rattle.jser_grammar.specs.Trees.{PrimTree, ValueTrees, ContentTrees, no_notes, annotation, SectionTree, section, SectionTrees, no_sections, section_and}
use Rattle.jser_grammar.specs.TableAfter.{Entries, after_values, after_sections}
use Rattle.jser_grammar.specs.Codes.{primitive_codes, object_count}
use Rattle.jser_table.specs.Chains.{has_write_method}
use Rattle.std.specs.declared.alloc.Global.{Global}
use Rattle.jser_value.specs.declared.tree.Raw.{Raw}
use Rattle.jser_value.specs.declared.tree.Value.{Value}
use Rattle.jser_value.specs.declared.tree.Content.{Content}
use Rattle.jser_value.specs.declared.tree.Section.{Section, roll-Section, the_lemmas}
use Rattle.jser_value.specs.View.{view_prim, view_values, view_contents, view_section, view_sections}
use Rattle.jser_value.specs.Tests.{IsClassAt, after_section}
use Rattle.jser_value.proofs.KeepLemmas.{class_behind_section}
use Rattle.jser_trees.specs.Building.{Built, ◌>>=◌, BuildsValue, prims_in, values_in, annotation_in, notes_if_in, section_in, section_at_in, sections_in}

abbrev pub join_sections : SectionTrees → SectionTrees → SectionTrees
join_sections no_sections ts = ts
join_sections (section_and s ss) ts = section_and s (join_sections ss ts)

join_none : (ss : SectionTrees) → join_sections ss no_sections ≡ ss
join_none no_sections = refl
join_none (section_and s ss) = ap (section_and s) (join_none ss)

-- what was found before, and then what is found
abbrev pub sections_behind : SectionTrees → Built SectionTrees → Built SectionTrees
sections_behind found None = None
sections_behind found (Some x) = Some (join_sections found x.0, x.1)

pub record AwaitsSections (value : BuildsValue) (T U : Entries) (number : ℕ) (chain : List Layer) (index : ℕ) (old now : List ℕ) (found : SectionTrees) : Type 0 where
  pub class : IsClassAt U number chain
  pub same : sections_in value T chain old ≡ sections_behind found (sections_in value U (drop index chain) now)
  pub after : U ≡ after_sections T found

behind_none : (x : Built SectionTrees) → x ≡ sections_behind no_sections x
behind_none None = refl
behind_none (Some x) = refl

pub sections_begun : (value : BuildsValue) (T : Entries) (number : ℕ) (chain : List Layer) (old : List ℕ) → IsClassAt T number chain
    → AwaitsSections value T T number chain 0 old old (view_sections [])
sections_begun value T number chain old class = record { class = class; same = behind_none (sections_in value T chain old); after = refl }

join_more : (ss : SectionTrees) (s : SectionTree) (ts : SectionTrees)
    → join_sections ss (section_and s ts) ≡ join_sections (join_sections ss (section_and s no_sections)) ts
join_more no_sections s ts = refl
join_more (section_and r ss) s ts = ap (section_and r) (join_more ss s ts)

behind_more : (found : SectionTrees) (s : SectionTree) (others : Built SectionTrees)
    → sections_behind found (others >>= λ ss. Some (section_and s ss.0, ss.1)) ≡ sections_behind (join_sections found (section_and s no_sections)) others
behind_more found s None = refl
behind_more found s (Some ss) = ap (λ ts. Some (ts, ss.1)) (join_more found s ss.0)

view_more : (found : List Section) (x : Section)
    → view_sections (found ++ (x ∷ [])) ≡ join_sections (view_sections found) (section_and (view_section x) no_sections)
view_more [] x = refl
view_more (y ∷ found) x = ap (section_and (view_section y)) (view_more found x)

after_one : (T : Entries) (s : SectionTree) (ss : SectionTrees) → after_sections T (section_and s ss) ≡ after_sections (after_section T s) ss
after_one T (section ps vs n) ss = refl

after_more : (T : Entries) (ss : SectionTrees) (s : SectionTree)
    → after_sections T (join_sections ss (section_and s no_sections)) ≡ after_section (after_sections T ss) s
after_more T no_sections s = after_one T s no_sections
after_more T (section_and (section ps vs n) ss) s = after_more (after_section T (section ps vs n)) ss s

layer_there : (chain : List Layer) (k : ℕ) → k < length chain → (l : Layer) × (slice_get chain k ≡ Some l) × (drop k chain ≡ l ∷ drop (suc k) chain)
layer_there [] k h = absurd (omega arith)
layer_there (l ∷ chain) zero h = (l, refl, refl)
layer_there (l ∷ chain) (suc k) h = layer_there chain k (omega arith)

one_more : (value : BuildsValue) (U : Entries) (l : Layer) (ls : List Layer) (now next : List ℕ) (s : SectionTree) → section_in value U l now ≡ Some (s, next)
    → sections_in value U (l ∷ ls) now ≡ (sections_in value (after_section U s) ls next >>= λ ss. Some (section_and s ss.0, ss.1))
unfolding sections_in
one_more value U l ls now next s e = rw e refl

pub sections_next : (value : BuildsValue) (T U V : Entries) (number : ℕ) (chain : List Layer) (index : ℕ) (old now next : List ℕ) (found more : List Section) (x : Section)
    → AwaitsSections value T U number chain index old now (view_sections found) → index < length chain
    → section_at_in value U (slice_get (chain_at U number) index) now ≡ Some (view_section x, next) → V ≡ after_section U (view_section x)
    → more ≡ found ++ (x ∷ []) → AwaitsSections value T V number chain (index + 1) old next (view_sections more)
sections_next value T U V number chain index old now next found more x h l e a m =
    let there = layer_there chain index l in
    let layer = there.0 in
    let ls = drop (suc index) chain in
    let first : section_in value U layer now ≡ Some (view_section x, next) =
    sym (ap (λ (c : List Layer). section_at_in value U (slice_get c index) now) h.class.chain_is ∙ ap (λ o. section_at_in value U o now) there.1) ∙ e in
    let viewed : join_sections (view_sections found) (section_and (view_section x) no_sections) ≡ view_sections more = sym (view_more found x) ∙ ap view_sections (sym m) in
    subst (λ n. AwaitsSections value T V number chain n old next (view_sections more)) (sym (add-one index))
    (record {
      class = class_behind_section U V (view_section x) number chain a h.class;
      same =
          h.same ∙ ap (λ cs. sections_behind (view_sections found) (sections_in value U cs now)) there.2
          ∙ ap (sections_behind (view_sections found)) (one_more value U layer ls now next (view_section x) first)
          ∙ behind_more (view_sections found) (view_section x) (sections_in value (after_section U (view_section x)) ls next)
          ∙ ap (λ ws. sections_behind ws (sections_in value (after_section U (view_section x)) ls next)) viewed
          ∙ ap (λ W. sections_behind (view_sections more) (sections_in value W ls next)) (sym a);
      after =
          a ∙ ap (λ W. after_section W (view_section x)) h.after ∙ sym (after_more T (view_sections found) (view_section x)) ∙ ap (after_sections T) viewed;
    })

pub sections_done : (value : BuildsValue) (T U : Entries) (number : ℕ) (chain : List Layer) (index : ℕ) (old now : List ℕ) (found : SectionTrees)
    → AwaitsSections value T U number chain index old now found → length chain ≤ index → sections_in value T chain old ≡ Some (found, now)
unfolding sections_in
sections_done value T U number chain index old now found h l =
    h.same ∙ ap (λ cs. sections_behind found (sections_in value U cs now)) (drop_all index chain l) ∙ ap (λ ss. Some (ss, now)) (join_none found)

pub sections_after : (value : BuildsValue) (T U : Entries) (number : ℕ) (chain : List Layer) (index : ℕ) (old now : List ℕ) (found : SectionTrees)
    → AwaitsSections value T U number chain index old now found → U ≡ after_sections T found
sections_after value T U number chain index old now found h = h.after

none_left : (value : BuildsValue) (U : Entries) (l : Layer) (ls : List Layer) (now : List ℕ) → section_in value U l now ≡ None
    → sections_in value U (l ∷ ls) now ≡ None
unfolding sections_in
none_left value U l ls now e = rw e refl

pub sections_failed : (value : BuildsValue) (T U : Entries) (number : ℕ) (chain : List Layer) (index : ℕ) (old now : List ℕ) (found : SectionTrees)
    → AwaitsSections value T U number chain index old now found → index < length chain
    → section_at_in value U (slice_get (chain_at U number) index) now ≡ None → sections_in value T chain old ≡ None
sections_failed value T U number chain index old now found h l e =
    let there = layer_there chain index l in
    let layer = there.0 in
    let first : section_in value U layer now ≡ None =
    sym (ap (λ (c : List Layer). section_at_in value U (slice_get c index) now) h.class.chain_is ∙ ap (λ o. section_at_in value U o now) there.1) ∙ e in
    h.same ∙ ap (λ cs. sections_behind found (sections_in value U cs now)) there.2
    ∙ ap (sections_behind found) (none_left value U layer (drop (suc index) chain) now first)

-- ---- one section

pub section_whole : (value : BuildsValue) (T : Entries) (o : Option Layer) (l : Layer) (old b1 b2 b3 : List ℕ) (ps : List PrimTree) (vs : ValueTrees) (cs : ContentTrees)
    → o ≡ Some l → prims_in (primitive_codes l.codes) old ≡ Some (ps, b1) → values_in value (object_count l.codes) T b1 ≡ Some (vs, b2)
    → has_write_method l.flags ≡ true → annotation_in value (after_values T vs) b2 ≡ Some (cs, b3)
    → section_at_in value T o old ≡ Some (section ps vs (annotation cs), b3)
unfolding section_in notes_if_in
section_whole value T o l old b1 b2 b3 ps vs cs e p v w n = ap (λ x. section_at_in value T x old) e ∙ rw (p, v, w, n) refl

pub section_bare : (value : BuildsValue) (T : Entries) (o : Option Layer) (l : Layer) (old b1 b2 : List ℕ) (ps : List PrimTree) (vs : ValueTrees)
    → o ≡ Some l → prims_in (primitive_codes l.codes) old ≡ Some (ps, b1) → values_in value (object_count l.codes) T b1 ≡ Some (vs, b2)
    → has_write_method l.flags ≡ false → section_at_in value T o old ≡ Some (section ps vs no_notes, b2)
unfolding section_in notes_if_in
section_bare value T o l old b1 b2 ps vs e p v w = ap (λ x. section_at_in value T x old) e ∙ rw (p, v, w) refl

pub section_no_prims : (value : BuildsValue) (T : Entries) (o : Option Layer) (l : Layer) (old : List ℕ)
    → o ≡ Some l → prims_in (primitive_codes l.codes) old ≡ None → section_at_in value T o old ≡ None
unfolding section_in
section_no_prims value T o l old e p = ap (λ x. section_at_in value T x old) e ∙ rw p refl

pub section_no_values : (value : BuildsValue) (T : Entries) (o : Option Layer) (l : Layer) (old b1 : List ℕ) (ps : List PrimTree)
    → o ≡ Some l → prims_in (primitive_codes l.codes) old ≡ Some (ps, b1) → values_in value (object_count l.codes) T b1 ≡ None
    → section_at_in value T o old ≡ None
unfolding section_in
section_no_values value T o l old b1 ps e p v = ap (λ x. section_at_in value T x old) e ∙ rw (p, v) refl

pub section_no_notes : (value : BuildsValue) (T : Entries) (o : Option Layer) (l : Layer) (old b1 b2 : List ℕ) (ps : List PrimTree) (vs : ValueTrees)
    → o ≡ Some l → prims_in (primitive_codes l.codes) old ≡ Some (ps, b1) → values_in value (object_count l.codes) T b1 ≡ Some (vs, b2)
    → has_write_method l.flags ≡ true → annotation_in value (after_values T vs) b2 ≡ None
    → section_at_in value T o old ≡ None
unfolding section_in notes_if_in
section_no_notes value T o l old b1 b2 ps vs e p v w n = ap (λ x. section_at_in value T x old) e ∙ rw (p, v, w, n) refl

pub with_notes : (ps : Vec Raw Global) (vs : Vec Value Global) (cs : Vec Content Global)
    → section (map view_prim ps.items) (view_values vs.items) (annotation (view_contents cs.items)) ≡ view_section (roll-Section (record { prims = ps; values = vs; notes = Some cs }))
with_notes ps vs cs = search (rules, the_lemmas)

pub without_notes : (ps : Vec Raw Global) (vs : Vec Value Global)
    → section (map view_prim ps.items) (view_values vs.items) no_notes ≡ view_section (roll-Section (record { prims = ps; values = vs; notes = None }))
without_notes ps vs = search (rules, the_lemmas)
