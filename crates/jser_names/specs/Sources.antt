-- The names of the stream of a source, and why there are none.
use Rattle.std.specs.Prelude.{ℕ, ◌≡◌, ◌+◌, ◌≤◌, ◌⊎◌, Bool, true, List, [], length, take, IfSome, Option}
use Rattle.std.specs.Io.KnownBytes.{Consumes, IsAtEnd}
use Rattle.jser_grammar.specs.Caps.{most_bytes}
use Rattle.jser_grammar.specs.CheckedNames.{checked_names}
use Rattle.jser_grammar.specs.Trees.{ContentTrees}
use Rattle.jser_verdict.specs.Passing.{Passes}
use Rattle.jser_reader.specs.declared.Refusal.{Refusal}
use Rattle.jser_reader.specs.declared.Stop.{Stop}
use Rattle.jser_reader.specs.declared.Stop.TheVariants as stop
use Rattle.jser_reader.specs.Gates.{open_gate}
use Rattle.jser_reader.specs.Answers.{IsRightOf}
use Rattle.jser_shown.specs.Counting.{NameTally, tally_all}
use Rattle.jser_names.specs.declared.source.Halt.{Halt}
use Rattle.jser_names.specs.declared.source.NamesFault.{NamesFault}
use Rattle.jser_names.specs.declared.source.NamesFault.TheVariants as fault

-- the bytes are a stream within the greatest limits, and these are its checked names, counted
pub record HasNames (bytes : List ℕ) (names : List NameTally) : Type 0 where
  pub list : ContentTrees
  pub passes : Passes open_gate bytes list
  pub names_are : names ≡ tally_all [] (checked_names list)

-- the refusal is right of the bytes under the greatest limits, and names their first fault
abbrev pub IsRefused : List ℕ → Refusal → Type 0
IsRefused bytes refusal = IsRightOf open_gate bytes refusal

-- what holds of the refusal, where that is why there are no names
abbrev pub IfRefused : (Refusal → Type 0) → NamesFault → Type 0
IfRefused P (fault.Refused refusal) = P refusal
IfRefused P fault.ReadFault = Unit {0}
IfRefused P fault.OutOfMemory = Unit {0}

-- a read failed where that is why there are none, and nowhere else
abbrev pub FailsWith : NamesFault → (failed_before failed_after : Bool) → Type 0
FailsWith (fault.Refused refusal) failed_before failed_after = failed_after ≡ failed_before
FailsWith fault.ReadFault failed_before failed_after = failed_after ≡ true
FailsWith fault.OutOfMemory failed_before failed_after = failed_after ≡ failed_before

-- Some bytes came off a source: it is at its end, or with so many that are left there are at least `most`.
pub record Passed (most left : ℕ) (had has : Option (List ℕ)) : Type 0 where
  pub bytes : List ℕ
  pub off : Consumes had has bytes
  pub all : IfSome had (λ tells. IsAtEnd has ⊎ (most ≤ length bytes + left))

-- where the bytes are refused, the source was read to its end, or one byte more than a stream may have has come
abbrev pub IsReadOn : (had has : Option (List ℕ)) → NamesFault → Type 0
IsReadOn had has why = IfRefused (λ refusal. Passed (most_bytes + 1) 0 had has) why

-- ---- as code reads

-- where the bytes are refused, so many may be read on
abbrev pub IsHalted : (had has : Option (List ℕ)) → Halt → Type 0
IsHalted had has halt = IfRefused (λ refusal. Passed (most_bytes + 1) halt.left had has) halt.fault

-- one read, to the front of a buffer
pub record TakesSome (most : ℕ) (buffer : List ℕ) (had has : Option (List ℕ)) (count : ℕ) : Type 0 where
  pub within : count ≤ length buffer
  pub few : count ≤ most
  pub off : Consumes had has (take count buffer)
  pub end : count ≡ 0 → IsAtEnd has

-- why a reader stopped, as a fault
abbrev pub Ends : Stop → NamesFault → Type 0
Ends (stop.Refused refusal) why = why ≡ fault.Refused refusal
Ends stop.OutOfMemory why = why ≡ fault.OutOfMemory
Ends stop.Spent why = why ≡ fault.OutOfMemory

-- what came off a source was taken, and so many bytes more may come
pub record Reads {S : Type 0} (took : List ℕ → S → Type 0) (had has : Option (List ℕ)) (left : ℕ) (x : S) : Type 0 where
  pub bytes : List ℕ
  pub size : length bytes + left ≡ most_bytes + 1
  pub off : Consumes had has bytes
  pub stands : took bytes x
