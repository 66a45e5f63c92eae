-- The contents of a stream on the way to being built: these were found, and what is left gives the others.
use Rattle.std.proofs.Common.{◌≡◌, ◌==◌, Bool, true, false, true≢false, if◌then◌else◌, ℕ, zero, suc, ◌-◌, ◌<◌, List, [], ◌∷◌, ◌++◌, length, Option, Some, None, refl, sym, ◌∙◌, ap, arith, subst}
use Rattle.jser_grammar.specs.Trees.{ValueTree, ContentTree, block, reset, content, ContentTrees, no_contents, content_and}
use Rattle.jser_grammar.specs.TableAfter.{Entries}
use Rattle.jser_value.specs.declared.tree.Content.{Content}
use Rattle.jser_value.specs.View.{view_content, view_contents}
use Rattle.jser_trees.specs.Building.{Built, ◌>>=◌, BuildsValue, block_in, content_in, after_content, first_content_in, after_top, top_in}
use Rattle.jser_trees.proofs.NotesLoop.{join_contents, join_none, join_more, view_more}

abbrev pub top_behind : ContentTrees → Option ContentTrees → Option ContentTrees
top_behind found None = None
top_behind found (Some x) = Some (join_contents found x)

pub record AwaitsTop (value : BuildsValue) (U : Entries) (left : ℕ) (old now : List ℕ) (found : ContentTrees) : Type 0 where
  pub same : top_in value (length old) [] old ≡ top_behind found (top_in value left U now)

behind_none : (x : Option ContentTrees) → x ≡ top_behind no_contents x
behind_none None = refl
behind_none (Some x) = refl

pub top_begun : (value : BuildsValue) (T : Entries) (left : ℕ) (old : List ℕ) → T ≡ [] → left ≡ length old → AwaitsTop value T left old old (view_contents [])
top_begun value T left old none e =
    record {
      same =
          behind_none (top_in value (length old) [] old) ∙ ap (λ n. top_behind no_contents (top_in value n [] old)) (sym e)
          ∙ ap (λ U. top_behind no_contents (top_in value left U old)) (sym none);
    }

behind_more : (found : ContentTrees) (c : ContentTree) (others : Option ContentTrees)
    → top_behind found (others >>= λ cs. Some (content_and c cs)) ≡ top_behind (join_contents found (content_and c no_contents)) others
behind_more found c None = refl
behind_more found c (Some cs) = ap (λ ds. Some ds) (join_more found c cs)

one_more : (value : BuildsValue) (left : ℕ) (U : Entries) (now next : List ℕ) (c : ContentTree) → first_content_in value U now ≡ Some (c, next)
    → top_in value (suc left) U now ≡ (top_in value left (after_top U c) next >>= λ cs. Some (content_and c cs))
unfolding top_in
one_more value left U [] next c e = absurd (cc)
one_more value left U (tag ∷ mid) next c e = rw e refl

pub top_next : (value : BuildsValue) (U V : Entries) (left : ℕ) (old now next : List ℕ) (found more : List Content) (x : Content)
    → AwaitsTop value U left old now (view_contents found) → 0 < left → first_content_in value U now ≡ Some (view_content x, next)
    → V ≡ after_top U (view_content x) → more ≡ found ++ (x ∷ []) → AwaitsTop value V (left - 1) old next (view_contents more)
top_next value U V zero old now next found more x h l e a m = absurd (omega arith)
top_next value U V (suc left) old now next found more x h l e a m =
    let less : left ≡ suc left - 1 = omega arith in
    let viewed : join_contents (view_contents found) (content_and (view_content x) no_contents) ≡ view_contents more = sym (view_more found x) ∙ ap view_contents (sym m) in
    subst (λ n. AwaitsTop value V n old next (view_contents more)) less
    (record {
      same =
          h.same ∙ ap (top_behind (view_contents found)) (one_more value left U now next (view_content x) e)
          ∙ behind_more (view_contents found) (view_content x) (top_in value left (after_top U (view_content x)) next)
          ∙ ap (λ ws. top_behind ws (top_in value left (after_top U (view_content x)) next)) viewed
          ∙ ap (λ W. top_behind (view_contents more) (top_in value left W next)) (sym a);
    })

all_found : (value : BuildsValue) (left : ℕ) (U : Entries) → top_in value left U [] ≡ Some no_contents
unfolding top_in
all_found value zero U = refl
all_found value (suc left) U = refl

pub top_done : (value : BuildsValue) (U : Entries) (left : ℕ) (old now : List ℕ) (found : ContentTrees)
    → AwaitsTop value U left old now found → length now ≡ 0 → top_in value (length old) [] old ≡ Some found
top_done value U left old [] found h e =
    h.same ∙ ap (top_behind found) (all_found value left U) ∙ ap (λ cs. Some cs) (join_none found)
top_done value U left old (b ∷ now) found h e = absurd (omega arith)

none_left : (value : BuildsValue) (left : ℕ) (U : Entries) (now : List ℕ) → 0 < length now → first_content_in value U now ≡ None → top_in value (suc left) U now ≡ None
unfolding top_in
none_left value left U [] l e = absurd (omega arith)
none_left value left U (tag ∷ mid) l e = rw e refl

pub top_failed : (value : BuildsValue) (U : Entries) (left : ℕ) (old now : List ℕ) (found : ContentTrees)
    → AwaitsTop value U left old now found → 0 < left → 0 < length now → first_content_in value U now ≡ None → top_in value (length old) [] old ≡ None
top_failed value U zero old now found h l m e = absurd (omega arith)
top_failed value U (suc left) old now found h l m e = h.same ∙ ap (top_behind found) (none_left value left U now m e)

endless : (value : BuildsValue) (U : Entries) (now : List ℕ) → 0 < length now → top_in value zero U now ≡ None
unfolding top_in
endless value U [] l = absurd (omega arith)
endless value U (b ∷ now) l = refl

pub top_endless : (value : BuildsValue) (U : Entries) (left : ℕ) (old now : List ℕ) (found : ContentTrees)
    → AwaitsTop value U left old now found → left ≡ 0 → 0 < length now → top_in value (length old) [] old ≡ None
top_endless value U zero old now found h e l = h.same ∙ ap (top_behind found) (endless value U now l)
top_endless value U (suc left) old now found h e l = absurd (omega arith)

-- a content that is found behind its tag is no reset
abbrev is_reset : ContentTree → Bool
is_reset (block long bytes) = false
is_reset reset = true
is_reset (content v) = false

abbrev finds_reset : Built ContentTree → Bool
finds_reset None = false
finds_reset (Some x) = is_reset x.0

abbrev as_block : Bool → List ℕ × List ℕ → Built ContentTree
as_block long inner = Some (block long inner.0, inner.1)

abbrev as_content : ValueTree × List ℕ → Built ContentTree
as_content v = Some (content v.0, v.1)

no_reset_of_block : (long : Bool) (x : Built (List ℕ)) (rest : List ℕ) → (x >>= as_block long) ≡ Some (reset, rest) → ⊥
no_reset_of_block long None rest e = absurd (true≢false (sym (ap finds_reset e)))
no_reset_of_block long (Some x) rest e = absurd (true≢false (sym (ap finds_reset e)))

no_reset_of_value : (x : Built ValueTree) (rest : List ℕ) → (x >>= as_content) ≡ Some (reset, rest) → ⊥
no_reset_of_value None rest e = absurd (true≢false (sym (ap finds_reset e)))
no_reset_of_value (Some x) rest e = absurd (true≢false (sym (ap finds_reset e)))

none_of : (a b : Bool) (A B C r : Built ContentTree) → (if a then A else (if b then B else C)) ≡ r → (A ≡ r → ⊥) → (B ≡ r → ⊥) → (C ≡ r → ⊥) → ⊥
none_of true b A B C r e na nb nc = na e
none_of false true A B C r e na nb nc = nb e
none_of false false A B C r e na nb nc = nc e

no_reset : (value : BuildsValue) (T : Entries) (tag : ℕ) (bytes rest : List ℕ) → content_in value T (tag ∷ bytes) ≡ Some (reset, rest) → ⊥
unfolding content_in
no_reset value T tag bytes rest e =
    none_of (tag == 0x77) (tag == 0x7A) (block_in false bytes >>= as_block false) (block_in true bytes >>= as_block true) (value T (tag ∷ bytes) >>= as_content)
    (Some (reset, rest)) e (no_reset_of_block false (block_in false bytes) rest) (no_reset_of_block true (block_in true bytes) rest)
    (no_reset_of_value (value T (tag ∷ bytes)) rest)

pub after_no_reset : (value : BuildsValue) (T U : Entries) (tag : ℕ) (bytes rest : List ℕ) (c : ContentTree) → content_in value T (tag ∷ bytes) ≡ Some (c, rest)
    → U ≡ after_content T c → U ≡ after_top T c
after_no_reset value T U tag bytes rest (block long inner) found e = e
after_no_reset value T U tag bytes rest reset found e = absurd (no_reset value T tag bytes rest found)
after_no_reset value T U tag bytes rest (content v) found e = e
