-- What a byte of some bytes decides, or their end.
use Rattle.std.specs.Prelude.{◌≡◌, ◌≢◌, ℕ, ◌<◌, List, ◌++◌, length}
use Rattle.jser_reader.specs.declared.Reason.TheVariants as reason
use Rattle.jser_reader.specs.declared.Refusal.{Refusal}
use Rattle.jser_filter.specs.Filters.{FilterView}
use Rattle.jser_check.specs.declared.gate.Options.{Options}
use Rattle.jser_check.specs.Admitted.{gate_of_filter}
use Rattle.jser_check.specs.Answers.{CarriesFirst, Refuses}

-- The refusal is right of the bytes that were taken and the piece after them, and names their first fault; and the byte
-- that decides lies in the piece.
pub record DecidesIn (filter : FilterView) (options : Options) (taken piece : List ℕ) (refusal : Refusal) : Type 0 where
  pub right : Refuses filter options (taken ++ piece) refusal
  pub first : CarriesFirst (gate_of_filter filter options) (taken ++ piece) refusal
  pub prompt : length taken < refusal.to_byte
  pub whole : refusal.reason ≢ reason.Truncated

-- the refusal says that the bytes end too early
abbrev pub IsCut : Refusal → Type 0
IsCut refusal = refusal.reason ≡ reason.Truncated
