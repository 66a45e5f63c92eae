-- How reading ended, what is told of that, and so all that becomes of an input.
use Rattle.std.specs.Prelude.{◌≡◌, ◌≢◌, ◌⊎◌, ℕ, Bool, true, false, List, [], ◌++◌, Option, Result, Ok, Err, if◌then◌else◌, codes}
use Rattle.std.specs.Io.KnownBytes.{Appends}
use Rattle.jser_prim.specs.Outgoing.{SinkState, sink_state}
use Rattle.jser_scan.specs.declared.Rules.{Rules}
use Rattle.jser_scan.specs.declared.Tally.{Tally}
use Rattle.jser_scan.specs.Lines.{counted_words}
use Rattle.jser_scan.specs.Tallies.{no_files, status_of}
use Rattle.jser_records.specs.declared.run.Asked.{Asked}
use Rattle.jser_records.specs.declared.run.End.{End}
use Rattle.jser_records.specs.declared.run.End.TheVariants as end
use Rattle.jser_records.specs.declared.run.Trouble.{Trouble}
use Rattle.jser_records.specs.declared.run.Trouble.TheVariants as trouble
use Rattle.jser_records.specs.Inputs.{AreAll, terms_in}
use Rattle.jser_records.specs.Sized.{At, at_loss}
use Rattle.jser_records.specs.Told.{Event, all_counted, all_put, all_told}

-- A failed write is worse than all else; a read has failed where the source says so.
abbrev pub end_by : Result (Unit {0}) Trouble → (source_failed output_failed : Bool) → End
end_by (Ok x) source output = if output then end.WriteFailed else end.Whole
end_by (Err trouble.Read) source output = if output then end.WriteFailed else (if source then end.ReadFailed else end.NoMemory)
end_by (Err trouble.Write) source output = if output then end.WriteFailed else end.NoMemory
end_by (Err trouble.Memory) source output = if output then end.WriteFailed else end.NoMemory

-- the device that failed has failed
abbrev pub IsWhy : End → (source_failed output_failed : Bool) → Type 0
IsWhy end.Whole source output = output ≡ false
IsWhy end.ReadFailed source output = source ≡ true
IsWhy end.WriteFailed source output = output ≡ true
IsWhy end.NoMemory source output = Unit {0}

-- the status is that of the counts where reading went on to the end
abbrev pub status_at : End → Tally → ℕ
status_at end.Whole tally = status_of tally
status_at end.ReadFailed tally = 3
status_at end.WriteFailed tally = 3
status_at end.NoMemory tally = 3

-- what is told behind the answers
abbrev pub told_at : End → Tally → List ℕ
told_at end.Whole tally = counted_words (codes " records, ") tally []
told_at end.ReadFailed tally = codes "read failed\n" ++ counted_words (codes " records, ") tally []
told_at end.WriteFailed tally = codes "write failed\n"
told_at end.NoMemory tally = codes "out of memory\n"

-- a device that has not failed had not failed before, and was told this text
abbrev pub ToldAt : (text : List ℕ) → (old new : Option (List ℕ)) → (failed_before failed_after : Bool) → Type 0
ToldAt text old new before after = after ≡ false → (before ≡ false) × Appends old new text

-- What becomes of all records of an input: as long as the output has not failed, what is put of the records in their order, from
-- number 0, and nothing else; as long as the other device has not, what is told of them, how reading ended, and their counts. The
-- status is that of the counts, unless a device failed, or there was no memory. These are all the records of the input, unless that
-- is so, or where one begins is lost.
pub record Written (asked : Asked) (rules : Rules) (input : Option (List ℕ)) (source_failed : Bool) (before after told_before told_after : SinkState) (result : ℕ) : Type 0 where
  pub events : List Event
  pub ends : End
  pub put : after.failed ≡ false → Appends before.gone_out after.gone_out (all_put asked.how asked.pass 0 events [])
  pub told : told_after.failed ≡ false → Appends told_before.gone_out told_after.gone_out (all_told asked.how asked.pass 0 events (told_at ends (all_counted no_files events)))
  pub status : result ≡ status_at ends (all_counted no_files events)
  pub why : IsWhy ends source_failed after.failed
  pub are : AreAll asked.layout.shape (terms_in asked rules) input events (λ to. (result ≢ 3) ⊎ ((ends ≡ end.Whole) × (to ≢ at_loss)))

abbrev pub WrittenTo : {S T : Type 0} → (S → Option (List ℕ)) → (S → Bool) → (T → Option (List ℕ)) → (T → Bool) → Asked → Rules → (input : Option (List ℕ)) → (source_failed : Bool)
    → (before after : S) → (told_before told_after : T) → (status : ℕ) → Type 0
WrittenTo gone_out has_failed told_out told_failed asked rules input source_failed before after told_before told_after status =
    Written asked rules input source_failed (sink_state (gone_out before) (has_failed before)) (sink_state (gone_out after) (has_failed after))
    (sink_state (told_out told_before) (told_failed told_before)) (sink_state (told_out told_after) (told_failed told_after)) status
