-- What a filter admits: which streams, in words of the tree; and the gate that lets pass exactly these.
use Rattle.std.specs.Prelude.{ℕ, ◌≡◌, ◌≤◌, min, Bool, true, false, List, length, Option, Some, None}
use Rattle.jser_filter.specs.declared.Verdict.{Verdict}
use Rattle.jser_filter.specs.declared.Verdict.TheVariants as verdict
use Rattle.jser_filter.specs.Filters.{FilterView, limits_of, verdict_of}
use Rattle.jser_grammar.specs.Trees.{ContentTrees}
use Rattle.jser_grammar.specs.Streams.{IsStreamOf}
use Rattle.jser_grammar.specs.CheckedNames.{checked_names}
use Rattle.jser_grammar.specs.Counts.{depth_of, refs_of, array_lengths, epoch_handles}
use Rattle.jser_grammar.specs.Caps.{most_bytes, most_depth, most_refs, most_array, most_handles}
use Rattle.jser_reading.specs.GateLimits.{Each}
use Rattle.jser_verdict.specs.Gates.{Gate, Answer, pass, rejected, unmatched}
use Rattle.jser_check.specs.declared.gate.Options.{Options}

-- at most the limit of a filter, if it sets one, and at most the greatest
abbrev pub IsWithin : (limit : Option ℕ) → (most n : ℕ) → Type 0
IsWithin None most n = n ≤ most
IsWithin (Some limit) most n = (n ≤ limit) × (n ≤ most)

-- The first pattern that matches a name decides. Where none matches, the name is admitted unless the options are strict;
-- and so is a name that names no class.
abbrev pub AdmitsAt : Options → Verdict → Type 0
AdmitsAt options (verdict.Allowed index) = Unit {0}
AdmitsAt options (verdict.Rejected index) = ⊥
AdmitsAt options verdict.Undecided = options.strict ≡ false
AdmitsAt options verdict.NoClass = Unit {0}

abbrev pub AdmitsName : FilterView → Options → List ℕ → Type 0
AdmitsName filter options name = AdmitsAt options (verdict_of filter name)

-- The bytes are a stream of this list; the filter admits each checked name; and all counts are within its limits and the
-- greatest ones.
pub record IsAdmitted (filter : FilterView) (options : Options) (bytes : List ℕ) (list : ContentTrees) : Type 0 where
  pub stream : IsStreamOf bytes list
  pub names : Each (AdmitsName filter options) (checked_names list)
  pub size : IsWithin (limits_of filter.pieces).bytes most_bytes (length bytes)
  pub depth : IsWithin (limits_of filter.pieces).depth most_depth (depth_of list)
  pub refs : IsWithin (limits_of filter.pieces).refs most_refs (refs_of list)
  pub arrays : Each (IsWithin (limits_of filter.pieces).array most_array) (array_lengths list)
  pub handles : Each (λ n. n ≤ most_handles) (epoch_handles list)

-- some list is spelled by the bytes, and admitted
abbrev pub AreAdmitted : FilterView → Options → List ℕ → Type 0
AreAdmitted filter options bytes = (list : ContentTrees) × IsAdmitted filter options bytes list

-- A filter with its options as a gate: each limit is the lesser of the filter's, if it sets one, and the greatest.

abbrev pub lesser : Option ℕ → ℕ → ℕ
lesser None most = most
lesser (Some limit) most = min limit most

abbrev pub undecided_answer : (strict : Bool) → Answer
undecided_answer true = unmatched
undecided_answer false = pass

abbrev pub answer_at : Options → Verdict → Answer
answer_at options (verdict.Allowed index) = pass
answer_at options (verdict.Rejected index) = rejected
answer_at options verdict.Undecided = undecided_answer options.strict
answer_at options verdict.NoClass = pass

abbrev pub gate_of_filter : FilterView → Options → Gate
gate_of_filter filter options = record {
  bytes = lesser (limits_of filter.pieces).bytes most_bytes;
  depth = lesser (limits_of filter.pieces).depth most_depth;
  refs = lesser (limits_of filter.pieces).refs most_refs;
  array = lesser (limits_of filter.pieces).array most_array;
  handles = most_handles;
  answer = λ name. answer_at options (verdict_of filter name);
}

-- a filter with its options, as contracts see the gate of a filter
pub record FilterWith : Type 0 where
  pub filter : FilterView
  pub options : Options
