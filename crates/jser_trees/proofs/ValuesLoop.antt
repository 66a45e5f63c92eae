-- Values on the way to being built: of so many, these were found, and what is left gives the others.
use Rattle.std.proofs.Common.{◌≡◌, ℕ, zero, suc, ◌-◌, ◌<◌, List, [], ◌∷◌, ◌++◌, Some, None, refl, sym, ◌∙◌, ap, arith, subst}
use Rattle.jser_grammar.specs.Trees.{ValueTree, ValueTrees, no_values, value_and}
use Rattle.jser_grammar.specs.TableAfter.{Entries, after_value, after_values}
use Rattle.jser_value.specs.declared.tree.Value.{Value}
use Rattle.jser_value.specs.View.{view_value, view_values}
use Rattle.jser_trees.specs.Building.{Built, ◌>>=◌, BuildsValue, values_in}

abbrev pub join_values : ValueTrees → ValueTrees → ValueTrees
join_values no_values ws = ws
join_values (value_and v vs) ws = value_and v (join_values vs ws)

join_none : (vs : ValueTrees) → join_values vs no_values ≡ vs
join_none no_values = refl
join_none (value_and v vs) = ap (value_and v) (join_none vs)

-- what was found before, and then what is found
abbrev pub values_behind : ValueTrees → Built ValueTrees → Built ValueTrees
values_behind found None = None
values_behind found (Some x) = Some (join_values found x.0, x.1)

pub record AwaitsValues (value : BuildsValue) (T U : Entries) (count left : ℕ) (old now : List ℕ) (found : ValueTrees) : Type 0 where
  pub same : values_in value count T old ≡ values_behind found (values_in value left U now)
  pub after : U ≡ after_values T found

behind_none : (x : Built ValueTrees) → x ≡ values_behind no_values x
behind_none None = refl
behind_none (Some x) = refl

pub values_begun : (value : BuildsValue) (T : Entries) (count : ℕ) (old : List ℕ) → AwaitsValues value T T count count old old (view_values [])
values_begun value T count old = record { same = behind_none (values_in value count T old); after = refl }

join_more : (vs : ValueTrees) (v : ValueTree) (ws : ValueTrees) → join_values vs (value_and v ws) ≡ join_values (join_values vs (value_and v no_values)) ws
join_more no_values v ws = refl
join_more (value_and u vs) v ws = ap (value_and u) (join_more vs v ws)

behind_more : (found : ValueTrees) (v : ValueTree) (others : Built ValueTrees)
    → values_behind found (others >>= λ vs. Some (value_and v vs.0, vs.1)) ≡ values_behind (join_values found (value_and v no_values)) others
behind_more found v None = refl
behind_more found v (Some vs) = ap (λ ws. Some (ws, vs.1)) (join_more found v vs.0)

view_more : (found : List Value) (x : Value) → view_values (found ++ (x ∷ [])) ≡ join_values (view_values found) (value_and (view_value x) no_values)
view_more [] x = refl
view_more (y ∷ found) x = ap (value_and (view_value y)) (view_more found x)

after_more : (T : Entries) (vs : ValueTrees) (v : ValueTree) → after_values T (join_values vs (value_and v no_values)) ≡ after_value (after_values T vs) v
after_more T no_values v = refl
after_more T (value_and u vs) v = after_more (after_value T u) vs v

one_more : (value : BuildsValue) (left : ℕ) (U : Entries) (now next : List ℕ) (v : ValueTree) → value U now ≡ Some (v, next)
    → values_in value (suc left) U now ≡ (values_in value left (after_value U v) next >>= λ vs. Some (value_and v vs.0, vs.1))
unfolding values_in
one_more value left U now next v e = rw e refl

pub values_next : (value : BuildsValue) (T U V : Entries) (count left : ℕ) (old now next : List ℕ) (found more : List Value) (x : Value)
    → AwaitsValues value T U count left old now (view_values found) → 0 < left → value U now ≡ Some (view_value x, next) → V ≡ after_value U (view_value x)
    → more ≡ found ++ (x ∷ []) → AwaitsValues value T V count (left - 1) old next (view_values more)
values_next value T U V count zero old now next found more x h l e a m = absurd (omega arith)
values_next value T U V count (suc left) old now next found more x h l e a m =
    let less : left ≡ suc left - 1 = omega arith in
    let viewed : join_values (view_values found) (value_and (view_value x) no_values) ≡ view_values more = sym (view_more found x) ∙ ap view_values (sym m) in
    subst (λ n. AwaitsValues value T V count n old next (view_values more)) less
    (record {
      same =
          h.same ∙ ap (values_behind (view_values found)) (one_more value left U now next (view_value x) e)
          ∙ behind_more (view_values found) (view_value x) (values_in value left (after_value U (view_value x)) next)
          ∙ ap (λ ws. values_behind ws (values_in value left (after_value U (view_value x)) next)) viewed
          ∙ ap (λ W. values_behind (view_values more) (values_in value left W next)) (sym a);
      after =
          a ∙ ap (λ W. after_value W (view_value x)) h.after ∙ sym (after_more T (view_values found) (view_value x)) ∙ ap (after_values T) viewed;
    })

pub values_done : (value : BuildsValue) (T U : Entries) (count left : ℕ) (old now : List ℕ) (found : ValueTrees)
    → AwaitsValues value T U count left old now found → left ≡ 0 → values_in value count T old ≡ Some (found, now)
unfolding values_in
values_done value T U count zero old now found h e = h.same ∙ ap (λ vs. Some (vs, now)) (join_none found)
values_done value T U count (suc left) old now found h e = absurd (omega arith)

pub values_ended : (value : BuildsValue) (T U : Entries) (count left : ℕ) (old now : List ℕ) (found : ValueTrees)
    → AwaitsValues value T U count left old now found → U ≡ after_values T found
values_ended value T U count left old now found h = h.after

none_left : (value : BuildsValue) (left : ℕ) (U : Entries) (now : List ℕ) → value U now ≡ None → values_in value (suc left) U now ≡ None
unfolding values_in
none_left value left U now e = rw e refl

pub values_failed : (value : BuildsValue) (T U : Entries) (count left : ℕ) (old now : List ℕ) (found : ValueTrees)
    → AwaitsValues value T U count left old now found → 0 < left → value U now ≡ None → values_in value count T old ≡ None
values_failed value T U count zero old now found h l e = absurd (omega arith)
values_failed value T U count (suc left) old now found h l e = h.same ∙ ap (values_behind found) (none_left value left U now e)
