-- The contents of an annotation on the way to being built: these were found, and what is left gives the others.
use Rattle.std.proofs.Common.{◌≡◌, ◌==◌, false, ℕ, zero, suc, ◌-◌, ◌<◌, List, [], ◌∷◌, ◌++◌, length, Some, None, refl, sym, ◌∙◌, ap, arith, subst, ne_eqb}
use Rattle.jser_grammar.specs.Trees.{ContentTree, block, reset, content, ContentTrees, no_contents, content_and}
use Rattle.jser_grammar.specs.TableAfter.{Entries, after_value, after_contents}
use Rattle.jser_value.specs.declared.tree.Content.{Content}
use Rattle.jser_value.specs.View.{view_content, view_contents}
use Rattle.jser_trees.specs.Building.{Built, ◌>>=◌, BuildsValue, content_in, after_content, notes_in, annotation_in}

abbrev pub join_contents : ContentTrees → ContentTrees → ContentTrees
join_contents no_contents ds = ds
join_contents (content_and c cs) ds = content_and c (join_contents cs ds)

pub join_none : (cs : ContentTrees) → join_contents cs no_contents ≡ cs
join_none no_contents = refl
join_none (content_and c cs) = ap (content_and c) (join_none cs)

-- what was found before, and then what is found
abbrev pub notes_behind : ContentTrees → Built ContentTrees → Built ContentTrees
notes_behind found None = None
notes_behind found (Some x) = Some (join_contents found x.0, x.1)

pub record AwaitsNotes (value : BuildsValue) (T U : Entries) (left : ℕ) (old now : List ℕ) (found : ContentTrees) : Type 0 where
  pub same : annotation_in value T old ≡ notes_behind found (notes_in value left U now)
  pub after : U ≡ after_contents T found

behind_none : (x : Built ContentTrees) → x ≡ notes_behind no_contents x
behind_none None = refl
behind_none (Some x) = refl

pub notes_begun : (value : BuildsValue) (T : Entries) (left : ℕ) (old : List ℕ) → left ≡ length old → AwaitsNotes value T T left old old (view_contents [])
unfolding annotation_in
notes_begun value T left old e =
    record { same = behind_none (notes_in value (length old) T old) ∙ ap (λ n. notes_behind no_contents (notes_in value n T old)) (sym e); after = refl }

pub join_more : (cs : ContentTrees) (c : ContentTree) (ds : ContentTrees)
    → join_contents cs (content_and c ds) ≡ join_contents (join_contents cs (content_and c no_contents)) ds
join_more no_contents c ds = refl
join_more (content_and b cs) c ds = ap (content_and b) (join_more cs c ds)

behind_more : (found : ContentTrees) (c : ContentTree) (others : Built ContentTrees)
    → notes_behind found (others >>= λ cs. Some (content_and c cs.0, cs.1)) ≡ notes_behind (join_contents found (content_and c no_contents)) others
behind_more found c None = refl
behind_more found c (Some cs) = ap (λ ds. Some (ds, cs.1)) (join_more found c cs.0)

pub view_more : (found : List Content) (x : Content)
    → view_contents (found ++ (x ∷ [])) ≡ join_contents (view_contents found) (content_and (view_content x) no_contents)
view_more [] x = refl
view_more (y ∷ found) x = ap (content_and (view_content y)) (view_more found x)

after_one : (T : Entries) (c : ContentTree) → after_contents T (content_and c no_contents) ≡ after_content T c
after_one T (block long bytes) = refl
after_one T reset = refl
after_one T (content v) = refl

after_more : (T : Entries) (cs : ContentTrees) (c : ContentTree)
    → after_contents T (join_contents cs (content_and c no_contents)) ≡ after_content (after_contents T cs) c
after_more T no_contents c = after_one T c
after_more T (content_and (block long bytes) cs) c = after_more T cs c
after_more T (content_and reset cs) c = after_more T cs c
after_more T (content_and (content v) cs) c = after_more (after_value T v) cs c

one_more : (value : BuildsValue) (left : ℕ) (U : Entries) (tag : ℕ) (mid next : List ℕ) (c : ContentTree) → (tag == 0x78) ≡ false
    → content_in value U (tag ∷ mid) ≡ Some (c, next)
    → notes_in value (suc left) U (tag ∷ mid) ≡ (notes_in value left (after_content U c) next >>= λ cs. Some (content_and c cs.0, cs.1))
unfolding notes_in
one_more value left U tag mid next c n e = rw (n, e) refl

pub notes_next : (value : BuildsValue) (T U V : Entries) (left tag : ℕ) (old now mid next : List ℕ) (found more : List Content) (x : Content)
    → AwaitsNotes value T U left old now (view_contents found) → 0 < left → now ≡ tag ∷ mid → (tag ≡ 0x78 → ⊥)
    → content_in value U (tag ∷ mid) ≡ Some (view_content x, next) → V ≡ after_content U (view_content x)
    → more ≡ found ++ (x ∷ []) → AwaitsNotes value T V (left - 1) old next (view_contents more)
notes_next value T U V zero tag old now mid next found more x h l f n e a m = absurd (omega arith)
notes_next value T U V (suc left) tag old now mid next found more x h l f n e a m =
    let less : left ≡ suc left - 1 = omega arith in
    let viewed : join_contents (view_contents found) (content_and (view_content x) no_contents) ≡ view_contents more = sym (view_more found x) ∙ ap view_contents (sym m) in
    subst (λ n. AwaitsNotes value T V n old next (view_contents more)) less
    (record {
      same =
          h.same ∙ ap (λ bs. notes_behind (view_contents found) (notes_in value (suc left) U bs)) f
          ∙ ap (notes_behind (view_contents found)) (one_more value left U tag mid next (view_content x) (ne_eqb tag 0x78 n) e)
          ∙ behind_more (view_contents found) (view_content x) (notes_in value left (after_content U (view_content x)) next)
          ∙ ap (λ ws. notes_behind ws (notes_in value left (after_content U (view_content x)) next)) viewed
          ∙ ap (λ W. notes_behind (view_contents more) (notes_in value left W next)) (sym a);
      after =
          a ∙ ap (λ W. after_content W (view_content x)) h.after ∙ sym (after_more T (view_contents found) (view_content x)) ∙ ap (after_contents T) viewed;
    })

end_here : (value : BuildsValue) (left : ℕ) (U : Entries) (tag : ℕ) (next : List ℕ) → tag ≡ 0x78
    → notes_in value (suc left) U (tag ∷ next) ≡ Some (no_contents, next)
unfolding notes_in
end_here value left U tag next e = rw e refl

pub notes_ended : (value : BuildsValue) (T U : Entries) (left tag : ℕ) (old now next : List ℕ) (found : ContentTrees)
    → AwaitsNotes value T U left old now found → 0 < left → now ≡ tag ∷ next → tag ≡ 0x78 → annotation_in value T old ≡ Some (found, next)
notes_ended value T U zero tag old now next found h l f e = absurd (omega arith)
notes_ended value T U (suc left) tag old now next found h l f e =
    h.same ∙ ap (λ bs. notes_behind found (notes_in value (suc left) U bs)) f ∙ ap (notes_behind found) (end_here value left U tag next e)
    ∙ ap (λ cs. Some (cs, next)) (join_none found)

pub notes_after : (value : BuildsValue) (T U : Entries) (left : ℕ) (old now : List ℕ) (found : ContentTrees)
    → AwaitsNotes value T U left old now found → U ≡ after_contents T found
notes_after value T U left old now found h = h.after

none_left : (value : BuildsValue) (left : ℕ) (U : Entries) (tag : ℕ) (mid : List ℕ) → (tag == 0x78) ≡ false → content_in value U (tag ∷ mid) ≡ None
    → notes_in value (suc left) U (tag ∷ mid) ≡ None
unfolding notes_in
none_left value left U tag mid n e = rw (n, e) refl

pub notes_failed : (value : BuildsValue) (T U : Entries) (left tag : ℕ) (old now mid : List ℕ) (found : ContentTrees)
    → AwaitsNotes value T U left old now found → 0 < left → now ≡ tag ∷ mid → (tag ≡ 0x78 → ⊥) → content_in value U (tag ∷ mid) ≡ None
    → annotation_in value T old ≡ None
notes_failed value T U zero tag old now mid found h l f n e = absurd (omega arith)
notes_failed value T U (suc left) tag old now mid found h l f n e =
    h.same ∙ ap (λ bs. notes_behind found (notes_in value (suc left) U bs)) f ∙ ap (notes_behind found) (none_left value left U tag mid (ne_eqb tag 0x78 n) e)

no_byte : (value : BuildsValue) (left : ℕ) (U : Entries) → notes_in value left U [] ≡ None
unfolding notes_in
no_byte value zero U = refl
no_byte value (suc left) U = refl

pub notes_cut : (value : BuildsValue) (T U : Entries) (left : ℕ) (old now : List ℕ) (found : ContentTrees)
    → AwaitsNotes value T U left old now found → now ≡ [] → annotation_in value T old ≡ None
notes_cut value T U left old now found h f =
    h.same ∙ ap (λ bs. notes_behind found (notes_in value left U bs)) f ∙ ap (notes_behind found) (no_byte value left U)

pub notes_endless : (value : BuildsValue) (T U : Entries) (left : ℕ) (old now : List ℕ) (found : ContentTrees)
    → AwaitsNotes value T U left old now found → left ≡ 0 → annotation_in value T old ≡ None
unfolding notes_in
notes_endless value T U zero old now found h e = h.same
notes_endless value T U (suc left) old now found h e = absurd (omega arith)
