-- What is written of the records of an input, up to where reading ended.
use Rattle.std.specs.Prelude.{◌≡◌, ◌≢◌, ℕ, Bool, false, List, [], ◌++◌, Option, IfSome, Result, Ok, Err}
use Rattle.std.specs.Io.KnownBytes.{Appends}
use Rattle.jser_prim.specs.Outgoing.{SinkState, sink_state}
use Rattle.jser_scan.specs.declared.Rules.{Rules}
use Rattle.jser_scan.specs.declared.Tally.{Tally}
use Rattle.jser_scan.specs.Tallies.{no_files}
use Rattle.jser_records.specs.declared.clerk.Clerk.{Clerk}
use Rattle.jser_records.specs.declared.layout.Shape.{Shape}
use Rattle.jser_records.specs.declared.layout.Shape.TheVariants as shape
use Rattle.jser_records.specs.declared.run.Asked.{Asked}
use Rattle.jser_records.specs.declared.run.Trouble.{Trouble}
use Rattle.jser_records.specs.Held.{Terms, terms_of}
use Rattle.jser_records.specs.Lines.{end_of}
use Rattle.jser_records.specs.Records.{AreRecords}
use Rattle.jser_records.specs.Sized.{At, at_line, at_loss}
use Rattle.jser_records.specs.Told.{Event, SaysAll, all_counted, all_put, all_told}

-- These are the records of an input that tells its bytes, from the first on, each one and no other; and all of them, where it
-- was read whole.
abbrev pub AreAll : Shape → Terms → (input : Option (List ℕ)) → List Event → (whole : At → Type 0) → Type 0
AreAll layout terms input events whole =
    IfSome input (λ bytes. (to : At) × (rest : List ℕ) × AreRecords layout terms at_line bytes events to rest × (whole to → rest ≡ []))

-- the byte that is looked for
abbrev pub sought_in : Shape → ℕ
sought_in (shape.Lines lines) = end_of lines
sought_in shape.Frames = 0x0A
sought_in shape.Sized = 0x0A

-- there was no trouble
abbrev pub IsFine : {X : Type 0} → Result X Trouble → Type 0
IsFine (Ok x) = Unit {0}
IsFine (Err trouble) = ⊥

-- records of an input came to a clerk, and it said all of them, and nothing else
pub record Reads (layout : Shape) (old new : Clerk) (input : Option (List ℕ)) (before after told_before told_after : SinkState) (fine : Type 0) : Type 0 where
  pub events : List Event
  pub says : SaysAll old new before after told_before told_after events
  pub are : AreAll layout (terms_of old.current) input events (λ to. fine × (to ≢ at_loss))

abbrev pub ReadsTo : {S T X : Type 0} → (S → Option (List ℕ)) → (S → Bool) → (T → Option (List ℕ)) → (T → Bool) → Result X Trouble → Shape → (old new : Clerk)
    → (input : Option (List ℕ)) → (before after : S) → (told_before told_after : T) → Type 0
ReadsTo gone_out has_failed told_out told_failed result layout old new input before after told_before told_after =
    Reads layout old new input (sink_state (gone_out before) (has_failed before)) (sink_state (gone_out after) (has_failed after))
    (sink_state (told_out told_before) (told_failed told_before)) (sink_state (told_out told_after) (told_failed told_after)) (IsFine result)

-- what records are read under, as it is asked
abbrev pub terms_in : Asked → Rules → Terms
terms_in asked rules = record { rules = rules; most = asked.layout.most; hands_on = asked.pass }

-- What is written of all records of an input: as long as a device has not failed, what is put and told of the records in their order, from
-- number 0, and nothing else. The counts are theirs.
pub record Wrote (asked : Asked) (rules : Rules) (input : Option (List ℕ)) (before after told_before told_after : SinkState) (result : Result (Unit {0}) Trouble) (tally : Tally) : Type 0 where
  pub events : List Event
  pub put : after.failed ≡ false → Appends before.gone_out after.gone_out (all_put asked.how asked.pass 0 events [])
  pub told : List ℕ
  pub tells : (k : List ℕ) → all_told asked.how asked.pass 0 events k ≡ told ++ k
  pub went : told_after.failed ≡ false → Appends told_before.gone_out told_after.gone_out told
  pub tally_is : tally ≡ all_counted no_files events
  pub are : AreAll asked.layout.shape (terms_in asked rules) input events (λ to. IsFine result × (to ≢ at_loss))

abbrev pub WroteTo : {S T : Type 0} → (S → Option (List ℕ)) → (S → Bool) → (T → Option (List ℕ)) → (T → Bool) → Asked → Rules → (input : Option (List ℕ)) → (before after : S) → (told_before told_after : T)
    → Result (Unit {0}) Trouble → Tally → Type 0
WroteTo gone_out has_failed told_out told_failed asked rules input before after told_before told_after result tally =
    Wrote asked rules input (sink_state (gone_out before) (has_failed before)) (sink_state (gone_out after) (has_failed after))
    (sink_state (told_out told_before) (told_failed told_before)) (sink_state (told_out told_after) (told_failed told_after)) result tally
