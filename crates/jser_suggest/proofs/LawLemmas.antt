-- The promises of the suggested filter.
use Rattle.std.proofs.Common.{◌≡◌, ◌⊎◌, ℕ, ◌<◌, ◌≤◌, List, [], ◌∷◌, length, Some, inl, inr, sym, ap, subst, ◌∙◌, arith}
use Rattle.jser_table.specs.Names.{element, element_of}
use Rattle.jser_grammar.specs.Trees.{ContentTrees}
use Rattle.jser_grammar.specs.CheckedNames.{checked_names}
use Rattle.jser_grammar.specs.Counts.{depth_of, refs_of, array_lengths}
use Rattle.jser_grammar.specs.Caps.{most_array}
use Rattle.jser_reading.specs.GateLimits.{Each}
use Rattle.jser_reading.proofs.OneReading.{one_reading_law}
use Rattle.jser_verdict.specs.Passing.{Passes}
use Rattle.jser_reader.specs.Gates.{open_gate}
use Rattle.jser_filter.specs.declared.limit.Limits.{Limits}
use Rattle.jser_filter.specs.Filters.{FilterView, verdict_by, limits_of}
use Rattle.jser_check.specs.declared.gate.Options.{Options}
use Rattle.jser_check.specs.Admitted.{IsWithin, AdmitsAt, AdmitsName, IsAdmitted, AreAdmitted}
use Rattle.jser_suggest.specs.Suggested.{Known, has}
use Rattle.jser_suggest.specs.Samples.{Some_of, ElementAmong, Fits, OfStream, HasArray, HasElement}
use Rattle.jser_suggest.specs.Laws.{Has, Admits, AllowsOnly, fewer_bytes, fewer_refs, less_deep, shorter_arrays, fewer_names, IsLeast}
use Rattle.jser_suggest.proofs.VerdictLemmas.{is_among, allows, rejects_others, is_allowed, not_both, refuses_rejected, admits_element, limits_are}

-- ---- each stream is admitted

pub each_of : {A : Type 0} (P Q : A → Type 0) (xs : List A) → ((x : A) → P x → Q x) → Each P xs → Each Q xs
each_of P Q [] f h = tt
each_of P Q (x ∷ xs) f h = (f x h.0, each_of P Q xs f h.1)

both_of : {A : Type 0} (P Q R : A → Type 0) (xs : List A) → ((x : A) → P x → Q x → R x) → Each P xs → Each Q xs → Each R xs
both_of P Q R [] f h k = tt
both_of P Q R (x ∷ xs) f h k = (f x h.0 k.0, both_of P Q R xs f h.1 k.1)

abbrev limits_given : Known → Limits
limits_given known = record { depth = Some known.depth; refs = Some known.refs; bytes = Some known.bytes; array = Some known.array }

limits_has : (known : Known) (filter : FilterView) → Has filter known → limits_of filter.pieces ≡ limits_given known
limits_has known filter has = ap limits_of has ∙ limits_are known

pub admits_one : (known : Known) (filter : FilterView) (options : Options) (bytes : List ℕ) (list : ContentTrees) → Has filter known → Fits known bytes list → IsAdmitted filter options bytes list
admits_one known filter options bytes list has f =
    let l = sym (limits_has known filter has) in
    record {
      stream = f.passes.0;
      names =
          each_of (λ name. ElementAmong known.names (element_of name)) (AdmitsName filter options) (checked_names list)
          (λ name among. admits_element known filter options (element_of name) has among) f.names_fit;
      size = subst (λ x. IsWithin x.bytes open_gate.bytes (length bytes)) l (f.bytes_fit, f.passes.2);
      depth = subst (λ x. IsWithin x.depth open_gate.depth (depth_of list)) l (f.depth_fits, f.passes.3);
      refs = subst (λ x. IsWithin x.refs open_gate.refs (refs_of list)) l (f.refs_fit, f.passes.4);
      arrays =
          subst (λ x. Each (IsWithin x.array most_array) (array_lengths list)) l
          (both_of (λ n. n ≤ known.array) (λ n. n ≤ most_array) (IsWithin (Some known.array) most_array) (array_lengths list) (λ n a b. (a, b)) f.arrays_fit f.passes.5);
      handles = f.passes.6;
    }

pub admits : Admits
admits streams known filter options known_are has =
    each_of (λ bytes. (list : ContentTrees) × Fits known bytes list) (AreAdmitted filter options) streams
    (λ bytes f. (f.0, admits_one known filter options bytes f.0 has f.1)) known_are.fit

-- ---- no other name is allowed

pub allows_only : AllowsOnly
allows_only known filter name has = (
  λ a. elim (is_among known.names name) [
    | inl among ↦ among
    | inr other ↦ absurd (not_both (verdict_by filter (element name)) (rejects_others known filter name has other) a)
  ],
  λ among. is_allowed (verdict_by filter (element name)) (allows known filter name has among),
)

-- ---- a tighter filter refuses a stream

pub some_of : {A : Type 0} (P Q : A → Type 0) (xs : List A) → ((x : A) → P x → Q x) → Some_of P xs → Some_of Q xs
some_of P Q [] f s = s
some_of P Q (x ∷ xs) f (inl p) = inl (f x p)
some_of P Q (x ∷ xs) f (inr s) = inr (some_of P Q xs f s)

-- what is greater than a bound is not 0
one_of : {A : Type 0} (low high : ℕ) → low < high → (high ≡ 0) ⊎ A → A
one_of low high less (inl none) = absurd (omega (arith, none, less))
one_of low high less (inr a) = a

-- a stream is admitted as the one list that it is
as_list : (filter : FilterView) (options : Options) (bytes : List ℕ) (list : ContentTrees) → Passes open_gate bytes list → AreAdmitted filter options bytes → IsAdmitted filter options bytes list
as_list filter options bytes list passes a =
    subst (λ l. IsAdmitted filter options bytes l) (one_reading_law bytes a.0 list a.1.stream passes.0) a.1

abbrev NotAdmitted : FilterView → Options → List ℕ → Type 0
NotAdmitted filter options bytes = AreAdmitted filter options bytes → ⊥

within_by : (l : Limits) (known : Known) → l ≡ limits_given known → (bytes : List ℕ) → IsWithin l.bytes open_gate.bytes (length bytes) → length bytes ≤ known.bytes
within_by l known e bytes w = (subst (λ x. IsWithin x.bytes open_gate.bytes (length bytes)) e w).0

refs_by : (l : Limits) (known : Known) → l ≡ limits_given known → (n : ℕ) → IsWithin l.refs open_gate.refs n → n ≤ known.refs
refs_by l known e n w = (subst (λ x. IsWithin x.refs open_gate.refs n) e w).0

depth_by : (l : Limits) (known : Known) → l ≡ limits_given known → (n : ℕ) → IsWithin l.depth open_gate.depth n → n ≤ known.depth
depth_by l known e n w = (subst (λ x. IsWithin x.depth open_gate.depth n) e w).0

array_by : (l : Limits) (known : Known) → l ≡ limits_given known → (n : ℕ) → IsWithin l.array most_array n → n ≤ known.array
array_by l known e n w = (subst (λ x. IsWithin x.array most_array n) e w).0

-- one that has what all of them are denied
each_some : {A : Type 0} (P Q : A → Type 0) (xs : List A) → ((x : A) → P x → Q x → ⊥) → Each P xs → Some_of Q xs → ⊥
each_some P Q [] f e s = s
each_some P Q (x ∷ xs) f e (inl q) = f x e.0 q
each_some P Q (x ∷ xs) f e (inr s) = each_some P Q xs f e.1 s

pub is_least : IsLeast
is_least streams known tight filter options are (fewer_bytes less) has =
    some_of (OfStream (λ bytes list. length bytes ≡ known.bytes)) (NotAdmitted filter options) streams
    (λ bytes s a.
    let i = as_list filter options bytes s.0 s.1 a in
    omega (arith, less, s.2, within_by (limits_of filter.pieces) tight (limits_has tight filter has) bytes i.size))
    (one_of tight.bytes known.bytes less are.bytes_from)
is_least streams known tight filter options are (fewer_refs less) has =
    some_of (OfStream (λ bytes list. refs_of list ≡ known.refs)) (NotAdmitted filter options) streams
    (λ bytes s a.
    let i = as_list filter options bytes s.0 s.1 a in
    omega (arith, less, s.2, refs_by (limits_of filter.pieces) tight (limits_has tight filter has) (refs_of s.0) i.refs))
    (one_of tight.refs known.refs less are.refs_from)
is_least streams known tight filter options are (less_deep less) has =
    some_of (OfStream (λ bytes list. depth_of list ≡ known.depth)) (NotAdmitted filter options) streams
    (λ bytes s a.
    let i = as_list filter options bytes s.0 s.1 a in
    omega (arith, less, s.2, depth_by (limits_of filter.pieces) tight (limits_has tight filter has) (depth_of s.0) i.depth))
    (one_of tight.depth known.depth less are.depth_from)
is_least streams known tight filter options are (shorter_arrays less) has =
    some_of (OfStream (λ bytes list. HasArray known.array list)) (NotAdmitted filter options) streams
    (λ bytes s a.
    let i = as_list filter options bytes s.0 s.1 a in
    each_some (IsWithin (limits_of filter.pieces).array most_array) (λ m. known.array ≡ m) (array_lengths s.0)
    (λ n w e. omega (arith, less, e, array_by (limits_of filter.pieces) tight (limits_has tight filter has) n w)) i.arrays s.2)
    (one_of tight.array known.array less are.array_from)
is_least streams known tight filter options are (fewer_names name among out) has =
    some_of (OfStream (λ bytes list. HasElement name list)) (NotAdmitted filter options) streams
    (λ bytes s a.
    let i = as_list filter options bytes s.0 s.1 a in
    each_some (AdmitsName filter options) (λ checked. element_of checked ≡ element name) (checked_names s.0)
    (λ checked w e.
    refuses_rejected options (verdict_by filter (element name)) (rejects_others tight filter name has out)
    (subst (λ x. AdmitsAt options (verdict_by filter x)) e w)) i.names s.2)
    (are.names_from name among)
