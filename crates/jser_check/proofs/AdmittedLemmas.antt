-- The gate of a filter lets pass exactly what the filter admits, and keeps the caps.
use Rattle.std.proofs.Common.{◌≡◌, ◌≢◌, ℕ, ◌≤◌, ◌↔◌, Bool, true, false, List, [], ◌∷◌, Some, None, refl, arith}
use Rattle.std.specs.declared.option.Option.{Option}
use Rattle.jser_table.specs.Names.{name_kind, malformed_name, element_of, malformed_element}
use Rattle.jser_table.proofs.NameLemmas.{malformed_kind_of_element}
use Rattle.jser_filter.specs.declared.Verdict.{Verdict}
use Rattle.jser_filter.specs.declared.Verdict.TheVariants as verdict
use Rattle.jser_filter.specs.Filters.{FilterView, limits_of, verdict_of}
use Rattle.jser_grammar.specs.Trees.{ContentTrees}
use Rattle.jser_grammar.specs.CheckedNames.{checked_names}
use Rattle.jser_grammar.specs.Counts.{array_lengths}
use Rattle.jser_reading.specs.GateLimits.{Each}
use Rattle.jser_verdict.specs.Gates.{pass}
use Rattle.jser_verdict.specs.Passing.{Passes}
use Rattle.jser_check.specs.declared.gate.Options.{Options}
use Rattle.jser_grammar.specs.Caps.{most_bytes, most_depth, most_refs, most_array}
use Rattle.jser_check.specs.Admitted.{IsWithin, AdmitsAt, AdmitsName, IsAdmitted, lesser, undecided_answer, answer_at, gate_of_filter}

-- ---- limits

within_lesser : (limit : Option ℕ) (most n : ℕ) → IsWithin limit most n → n ≤ lesser limit most
within_lesser None most n h = h
within_lesser (Some limit) most n h = let a = h.0 in let b = h.1 in omega arith

lesser_is_within : (limit : Option ℕ) (most n : ℕ) → n ≤ lesser limit most → IsWithin limit most n
lesser_is_within None most n h = h
lesser_is_within (Some limit) most n h = (omega arith, omega arith)

-- ---- names

-- a name that is not malformed may be judged
pub judges : (name : List ℕ) → name_kind name ≢ malformed_name → element_of name ≢ malformed_element
judges name h = λ e. h (malformed_kind_of_element name e)

admits_undecided : (strict : Bool) → strict ≡ false → undecided_answer strict ≡ pass
admits_undecided true e = absurd (cc)
admits_undecided false e = refl

undecided_admits : (strict : Bool) → undecided_answer strict ≡ pass → strict ≡ false
undecided_admits true e = absurd (cc)
undecided_admits false e = refl

admits_passes : (options : Options) (told : Verdict) → AdmitsAt options told → answer_at options told ≡ pass
admits_passes options (verdict.Allowed index) h = refl
admits_passes options (verdict.Rejected index) h = absurd h
admits_passes options verdict.Undecided h = admits_undecided options.strict h
admits_passes options verdict.NoClass h = refl

passes_admits : (options : Options) (told : Verdict) → answer_at options told ≡ pass → AdmitsAt options told
passes_admits options (verdict.Allowed index) h = tt
passes_admits options (verdict.Rejected index) h = absurd (cc)
passes_admits options verdict.Undecided h = undecided_admits options.strict h
passes_admits options verdict.NoClass h = tt

-- ---- lists

each : {A : Type 0} (P Q : A → Type 0) (xs : List A) → ((x : A) → P x → Q x) → Each P xs → Each Q xs
each P Q [] f h = tt
each P Q (x ∷ xs) f h = (f x h.0, each P Q xs f h.1)

admitted_passes : (filter : FilterView) (options : Options) (bytes : List ℕ) (list : ContentTrees) → IsAdmitted filter options bytes list
    → Passes (gate_of_filter filter options) bytes list
admitted_passes filter options bytes list a = (
  a.stream,
  each (AdmitsName filter options) (λ name. answer_at options (verdict_of filter name) ≡ pass) (checked_names list)
      (λ name h. admits_passes options (verdict_of filter name) h) a.names,
  within_lesser (limits_of filter.pieces).bytes most_bytes _ a.size,
  within_lesser (limits_of filter.pieces).depth most_depth _ a.depth,
  within_lesser (limits_of filter.pieces).refs most_refs _ a.refs,
  each (IsWithin (limits_of filter.pieces).array most_array) (λ n. n ≤ lesser (limits_of filter.pieces).array most_array) (array_lengths list)
      (λ n h. within_lesser (limits_of filter.pieces).array most_array n h) a.arrays,
  a.handles,
)

passing_admitted : (filter : FilterView) (options : Options) (bytes : List ℕ) (list : ContentTrees)
    → Passes (gate_of_filter filter options) bytes list → IsAdmitted filter options bytes list
passing_admitted filter options bytes list (stream, names, size, depth, refs, arrays, handles) = record {
  stream = stream;
  names =
      each (λ name. answer_at options (verdict_of filter name) ≡ pass) (AdmitsName filter options) (checked_names list)
      (λ name h. passes_admits options (verdict_of filter name) h) names;
  size = lesser_is_within (limits_of filter.pieces).bytes most_bytes _ size;
  depth = lesser_is_within (limits_of filter.pieces).depth most_depth _ depth;
  refs = lesser_is_within (limits_of filter.pieces).refs most_refs _ refs;
  arrays =
      each (λ n. n ≤ lesser (limits_of filter.pieces).array most_array) (IsWithin (limits_of filter.pieces).array most_array) (array_lengths list)
      (λ n h. lesser_is_within (limits_of filter.pieces).array most_array n h) arrays;
  handles = handles;
}

pub admits_exactly : (filter : FilterView) (options : Options) (bytes : List ℕ) (list : ContentTrees)
    → IsAdmitted filter options bytes list ↔ Passes (gate_of_filter filter options) bytes list
admits_exactly filter options bytes list =
    (admitted_passes filter options bytes list, passing_admitted filter options bytes list)
