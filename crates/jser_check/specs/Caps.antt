-- The gate of a filter keeps the caps that each gate keeps, as the trait `Gate` asks.
use Rattle.std.specs.Prelude.{ℕ, ◌≤◌, Option, Some, None}
use Rattle.std.proofs.Math.Nat.{min-le_right, le_refl}
use Rattle.jser_filter.specs.Filters.{FilterView, limits_of}
use Rattle.jser_verdict.specs.Gates.{IsGate}
use Rattle.jser_check.specs.declared.gate.Options.{Options}
use Rattle.jser_grammar.specs.Caps.{most_bytes, most_depth, most_refs, most_array, most_handles}
use Rattle.jser_check.specs.Admitted.{lesser, gate_of_filter}

lesser_within : (limit : Option ℕ) (most : ℕ) → lesser limit most ≤ most
lesser_within None most = le_refl most
lesser_within (Some limit) most = min-le_right limit most

pub keeps_caps : (filter : FilterView) (options : Options) → IsGate (gate_of_filter filter options)
keeps_caps filter options = (
  lesser_within (limits_of filter.pieces).bytes most_bytes,
  lesser_within (limits_of filter.pieces).depth most_depth,
  lesser_within (limits_of filter.pieces).refs most_refs,
  lesser_within (limits_of filter.pieces).array most_array,
  le_refl most_handles,
)
