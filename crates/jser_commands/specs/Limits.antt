-- What is printed of the text of `show` under a limit, for a graph of the stream.
use Rattle.std.specs.Prelude.{ℕ, ◌≡◌, ◌≤◌, ◌⊎◌, Bool, true, List, ◌++◌, length, Option}
use Rattle.std.specs.Io.KnownBytes.{Appends, Keeps}
use Rattle.jser_grammar.specs.Trees.{ContentTrees}
use Rattle.jser_shown.specs.Shown.{shown}
use Rattle.jser_index.specs.Graphs.{GraphView, StandsFor}
use Rattle.jser_commands.specs.Lines.{AppendsSome, CutText}
use Rattle.jser_commands.specs.declared.limited.Limited.{Limited}
use Rattle.jser_commands.specs.declared.limited.Limited.TheVariants as limited
use Rattle.jser_commands.specs.declared.start.Start.{Start}

-- what holds of the text of the list for which a graph stands; `values` says whether raw values are followed by what they
-- mean
abbrev pub OfText : (values : Bool) → GraphView → (List ℕ → Type 0) → Type 0
OfText values graph P = (bytes : List ℕ) (list : ContentTrees) → StandsFor graph bytes list → P (shown values list)

-- the text is this, and the limit allows all of it
pub record FitsText (limit : ℕ) (printed text : List ℕ) : Type 0 where
  pub fits : length text ≤ limit
  pub is : printed ≡ text

-- some first bytes of it, or all
pub record BeginsText (start : Start) (text : List ℕ) : Type 0 where
  pub rest : List ℕ
  pub begins : text ≡ start.bytes.items ++ rest
  pub all : start.whole ≡ true → start.bytes.items ≡ text

unfoldable pub IsFrontOf : (values : Bool) → GraphView → Start → Type 0
IsFrontOf values graph start = OfText values graph (BeginsText start)

-- what is to be printed
unfoldable pub IsLimitedText : (values : Bool) → (limit : ℕ) → GraphView → Limited → Type 0
IsLimitedText values limit graph (limited.Whole text) = OfText values graph (FitsText limit text.items)
IsLimitedText values limit graph (limited.Cut text) = OfText values graph (λ all. CutText limit all text.items)

-- what was printed, of which `Went` says what went out: all of the text, or what the limit allows
pub record WentWithin (limit : ℕ) (Went : List ℕ → Type 0) (text : List ℕ) : Type 0 where
  pub fits : length text ≤ limit
  pub went : Went text

pub record WentCut (limit : ℕ) (Went : List ℕ → Type 0) (text : List ℕ) : Type 0 where
  pub printed : List ℕ
  pub cut : CutText limit text printed
  pub went : Went printed

unfoldable pub WroteWithin : (values : Bool) → (limit : ℕ) → GraphView → (old new : Option (List ℕ)) → Type 0
WroteWithin values limit graph old new = OfText values graph (WentWithin limit (Appends old new))

unfoldable pub WroteCut : (values : Bool) → (limit : ℕ) → GraphView → (old new : Option (List ℕ)) → Type 0
WroteCut values limit graph old new = OfText values graph (WentCut limit (Appends old new))

-- nothing went out, or the output failed, and the first bytes of either did
unfoldable pub WroteSomeLimited : (values : Bool) → (limit : ℕ) → GraphView → (failed : Bool) → (old new : Option (List ℕ)) → Type 0
WroteSomeLimited values limit graph failed old new =
    Keeps old new ⊎ ((failed ≡ true) × OfText values graph (λ text. WentWithin limit (AppendsSome old new) text ⊎ WentCut limit (AppendsSome old new) text))
