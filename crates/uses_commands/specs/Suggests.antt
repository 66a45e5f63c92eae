-- What a printed filter is worth.
use Rattle.std.specs.Prelude.{◌≡◌, ℕ, List, ◌++◌, codes, Option}
use Rattle.std.specs.Io.KnownBytes.{Appends}
use Rattle.jser_prim.specs.ModifiedUtf8.{utf16_units}
use Rattle.jser_filter.specs.Filters.{FilterView}
use Rattle.jser_filter.specs.Pieces.{pieces_of}
use Rattle.jser_check.specs.declared.gate.Options.{Options}
use Rattle.jser_check.specs.Admitted.{AreAdmitted}

-- a line went out; a filter that is read from it admits the bytes, strict or not
pub record PrintsFilterOf (bytes : List ℕ) (old new : Option (List ℕ)) : Type 0 where
  pub text : List ℕ
  pub line : List ℕ
  pub line_is : line ≡ text ++ codes "\n"
  pub printed : Appends old new line
  pub admits : (filter : FilterView) (options : Options) → filter.pieces ≡ pieces_of (utf16_units text) → AreAdmitted filter options bytes
