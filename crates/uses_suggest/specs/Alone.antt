-- Names that no filter allows alone.
use Rattle.std.specs.Prelude.{◌≡◌, ℕ, false, List}
use Rattle.jser_filter.specs.Pieces.{pieces_of}
use Rattle.jser_suggest.specs.Samples.{Some_of}
use Rattle.jser_suggest.specs.Suggested.{is_plain, only}

-- A text has a piece that allows the name alone only where the name has a sign that is not plain.
abbrev pub IsNeverAlone : List ℕ → Type 0
IsNeverAlone name = (text : List ℕ) → Some_of (λ piece. piece ≡ only name) (pieces_of text) → is_plain name ≡ false
