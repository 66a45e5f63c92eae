-- What the suggested filter promises: it admits each of the streams, allows no other name, and no tighter one of its form
-- admits them all.
use Rattle.std.specs.Prelude.{◌≡◌, ◌↔◌, ℕ, ◌<◌, ◌≤◌, true, List}
use Rattle.jser_table.specs.Names.{element}
use Rattle.jser_reading.specs.GateLimits.{Each}
use Rattle.jser_filter.specs.declared.Verdict.{Verdict}
use Rattle.jser_filter.specs.declared.Verdict.TheVariants as verdict
use Rattle.jser_filter.specs.Filters.{FilterView, verdict_by}
use Rattle.jser_filter.specs.Pieces.{pieces_of}
use Rattle.jser_check.specs.declared.gate.Options.{Options}
use Rattle.jser_check.specs.Admitted.{AreAdmitted}
use Rattle.jser_suggest.specs.Suggested.{Known, only, suggested, widened, is_writable}
use Rattle.jser_suggest.specs.Samples.{Some_of, Among, AreKnown}

-- a filter with these pieces, and any table of modules
abbrev pub Has : FilterView → Known → Type 0
Has filter known = filter.pieces ≡ suggested known

-- each of the streams is admitted, whether or not names that no pattern matches are refused
abbrev pub Admits : Type 0
Admits = (streams : List (List ℕ)) (known : Known) (filter : FilterView) (options : Options) → AreKnown streams known → Has filter known
    → Each (AreAdmitted filter options) streams

-- each of them is admitted with limits that are some times as high
abbrev pub AdmitsWidened : Type 0
AdmitsWidened = (n : ℕ) (streams : List (List ℕ)) (known : Known) (filter : FilterView) (options : Options) → 1 ≤ n → AreKnown streams known → Has filter (widened n known)
    → Each (AreAdmitted filter options) streams

abbrev pub IsAllowed : Verdict → Type 0
IsAllowed (verdict.Allowed index) = Unit {0}
IsAllowed _ = ⊥

-- a class name is allowed exactly if it is one of the names
abbrev pub AllowsOnly : Type 0
AllowsOnly = (known : Known) (filter : FilterView) (name : List ℕ) → Has filter known → IsAllowed (verdict_by filter (element name)) ↔ Among known.names name

-- a limit is lower, or a name is left out
pub data IsTighter (tight known : Known) : Type 0 where
  fewer_bytes : tight.bytes < known.bytes → IsTighter tight known
  fewer_refs : tight.refs < known.refs → IsTighter tight known
  less_deep : tight.depth < known.depth → IsTighter tight known
  shorter_arrays : tight.array < known.array → IsTighter tight known
  fewer_names : (name : List ℕ) → Among known.names name → (Among tight.names name → ⊥) → IsTighter tight known

-- a tighter filter refuses one of the streams
abbrev pub IsLeast : Type 0
IsLeast = (streams : List (List ℕ)) (known tight : Known) (filter : FilterView) (options : Options) → AreKnown streams known → IsTighter tight known → Has filter tight
    → Some_of (λ bytes. AreAdmitted filter options bytes → ⊥) streams

-- No text of a filter has a piece that allows a name alone that is not writable.
abbrev pub OnlyWritable : Type 0
OnlyWritable = (text name : List ℕ) → Some_of (λ piece. piece ≡ only name) (pieces_of text) → is_writable name ≡ true
