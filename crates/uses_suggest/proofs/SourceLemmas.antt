-- From what was found along a source to what is said of its bytes.
use Rattle.std.proofs.Common.{List, ℕ, [], ◌∷◌, Option, Some, None, Result, Ok, Err, IfOk}
use Rattle.std.specs.Prelude.{IfSome}
use Rattle.jser_filter.specs.Filters.{FilterView}
use Rattle.jser_check.specs.declared.gate.Options.{Options}
use Rattle.jser_check.specs.Admitted.{AreAdmitted}
use Rattle.jser_names.specs.Found.{HasFound}
use Rattle.jser_names.specs.declared.Found.{Found}
use Rattle.jser_suggest.specs.Answers.{LearnsFound}
use Rattle.jser_suggest.specs.Laws.{Admits, Has}
use Rattle.jser_suggest.specs.Samples.{AreKnown}
use Rattle.jser_suggest.specs.Suggested.{Known}

pub source_admitted : {X : Type 0} (told : Option (List ℕ)) (found : Found) (old new : Known) (result : Result FilterView X) → Admits → IfSome told (λ bytes. HasFound bytes found)
    → AreKnown [] old → LearnsFound found old new → ((streams : List (List ℕ)) → AreKnown streams new → IfOk result (λ filter. Has filter new))
    → IfOk result (λ filter. IfSome told (λ bytes. (options : Options) → AreAdmitted filter options bytes))
source_admitted None found old new (Ok filter) law has none learns parsed = tt
source_admitted (Some bytes) found old new (Ok filter) law has none learns parsed = λ options.
    let are = learns bytes has [] none in (law (bytes ∷ []) new filter options are (parsed (bytes ∷ []) are)).0
source_admitted told found old new (Err why) law has none learns parsed = tt
