-- The records of an input, one after another.
use Rattle.std.specs.Prelude.{ℕ, ◌≡◌, ◌⊎◌, Bool, true, false, List, [], ◌∷◌, Option, Some, Result, Ok, Err}
use Rattle.jser_prim.specs.Outgoing.{SinkState, sink_state}
use Rattle.jser_records.specs.declared.clerk.Clerk.{Clerk}
use Rattle.jser_records.specs.declared.layout.Shape.{Shape}
use Rattle.jser_records.specs.declared.layout.Shape.TheVariants as shape
use Rattle.jser_records.specs.declared.run.Trouble.{Trouble}
use Rattle.jser_records.specs.Arriving.{Arriving, IsOver, ahead}
use Rattle.jser_records.specs.Frames.{FrameOf}
use Rattle.jser_records.specs.Held.{Keeps, Terms, terms_of}
use Rattle.jser_records.specs.Lines.{LineOf}
use Rattle.jser_records.specs.Sized.{At, SizedPart, at_line, at_line_end, at_loss}
use Rattle.jser_records.specs.Told.{Event, SaysAll, ended, behind, passed_over}

-- What an event is of the bytes at the front of some: `at` says where reading is, `to` where it is then, and `rest` is what is behind
-- them.
abbrev pub IsPart : Shape → Terms → (at : At) → (bytes : List ℕ) → Event → (to : At) → (rest : List ℕ) → Type 0
IsPart (shape.Lines lines) terms at bytes (ended entry) to rest = (at ≡ to) × LineOf lines terms bytes entry rest
IsPart (shape.Lines lines) terms at bytes (behind some) to rest = ⊥
IsPart (shape.Lines lines) terms at bytes (passed_over some) to rest = ⊥
IsPart shape.Frames terms at bytes (ended entry) to rest = (at ≡ to) × FrameOf terms bytes entry rest
IsPart shape.Frames terms at bytes (behind some) to rest = ⊥
IsPart shape.Frames terms at bytes (passed_over some) to rest = ⊥
IsPart shape.Sized terms at bytes event to rest = SizedPart terms at bytes event to rest

-- These are the records at the front of some bytes, each one and no other, in their order; `rest` is what is behind them.
abbrev pub AreRecords : Shape → Terms → (at : At) → (bytes : List ℕ) → List Event → (to : At) → (rest : List ℕ) → Type 0
AreRecords layout terms at bytes [] to rest = (at ≡ to) × (bytes ≡ rest)
AreRecords layout terms at bytes (e ∷ es) to rest = (mid : At) × (left : List ℕ) × IsPart layout terms at bytes e mid left × AreRecords layout terms mid left es to rest

-- ---- as they are read

-- the records that ended, what was said of them, and where they are in the bytes that were ahead
pub record RecordsGo (layout : Shape) (at to : At) (old new : Clerk) (from now : Arriving) (before after told_before told_after : SinkState) : Type 0 where
  pub events : List Event
  pub says : SaysAll old new before after told_before told_after events
  pub keeps : Keeps old.current new.current
  pub are : (bytes : List ℕ) → ahead from ≡ Some bytes
      → (rest : List ℕ) × (ahead now ≡ Some rest) × AreRecords layout (terms_of old.current) at bytes events to rest

-- the records that ended before a trouble, and where they are
pub record RecordsFront (layout : Shape) (at : At) (old new : Clerk) (from : Arriving) (before after told_before told_after : SinkState) : Type 0 where
  pub events : List Event
  pub says : SaysAll old new before after told_before told_after events
  pub are : (bytes : List ℕ) → ahead from ≡ Some bytes → (to : At) × (rest : List ℕ) × AreRecords layout (terms_of old.current) at bytes events to rest

-- all that came to an end of the input, or to where nobody knows what comes next
abbrev pub RecordsEnd : Shape → (at : At) → (old new : Clerk) → (from now : Arriving) → (before after told_before told_after : SinkState) → Type 0
RecordsEnd layout at old new from now before after told_before told_after =
    (to : At) × RecordsGo layout at to old new from now before after told_before told_after × ((to ≡ at_loss) ⊎ IsOver now)

-- lines and frames

abbrev pub RecordsBy : {X : Type 0} → Result X Trouble → Shape → (old new : Clerk) → (from now : Arriving) → (before after told_before told_after : SinkState) → Type 0
RecordsBy (Ok x) layout old new from now before after told_before told_after = RecordsGo layout at_line at_line old new from now before after told_before told_after
RecordsBy (Err trouble) layout old new from now before after told_before told_after = RecordsFront layout at_line old new from before after told_before told_after

abbrev pub RecordsTo : {S T X : Type 0} → (S → Option (List ℕ)) → (S → Bool) → (T → Option (List ℕ)) → (T → Bool) → Result X Trouble → Shape → (old new : Clerk) → (from now : Arriving)
    → (before after : S) → (told_before told_after : T) → Type 0
RecordsTo gone_out has_failed told_out told_failed result layout old new from now before after told_before told_after =
    RecordsBy result layout old new from now (sink_state (gone_out before) (has_failed before)) (sink_state (gone_out after) (has_failed after))
    (sink_state (told_out told_before) (told_failed told_before)) (sink_state (told_out told_after) (told_failed told_after))

-- lines and frames, where there was no trouble
abbrev pub RecordsGoTo : {S T : Type 0} → (S → Option (List ℕ)) → (S → Bool) → (T → Option (List ℕ)) → (T → Bool) → Shape → (old new : Clerk) → (from now : Arriving)
    → (before after : S) → (told_before told_after : T) → Type 0
RecordsGoTo gone_out has_failed told_out told_failed layout old new from now before after told_before told_after =
    RecordsGo layout at_line at_line old new from now (sink_state (gone_out before) (has_failed before)) (sink_state (gone_out after) (has_failed after))
    (sink_state (told_out told_before) (told_failed told_before)) (sink_state (told_out told_after) (told_failed told_after))

-- sized records: the next one, or what is in its place; `false` at the end

abbrev pub NextBy : Result Bool Trouble → (at : At) → (old new : Clerk) → (from now : Arriving) → (before after told_before told_after : SinkState) → Type 0
NextBy (Ok true) at old new from now before after told_before told_after = RecordsGo shape.Sized at at_line old new from now before after told_before told_after
NextBy (Ok false) at old new from now before after told_before told_after = RecordsEnd shape.Sized at old new from now before after told_before told_after
NextBy (Err trouble) at old new from now before after told_before told_after = RecordsFront shape.Sized at old new from before after told_before told_after

abbrev pub NextTo : {S T : Type 0} → (S → Option (List ℕ)) → (S → Bool) → (T → Option (List ℕ)) → (T → Bool) → Result Bool Trouble → (at : At) → (old new : Clerk) → (from now : Arriving)
    → (before after : S) → (told_before told_after : T) → Type 0
NextTo gone_out has_failed told_out told_failed result at old new from now before after told_before told_after =
    NextBy result at old new from now (sink_state (gone_out before) (has_failed before)) (sink_state (gone_out after) (has_failed after))
    (sink_state (told_out told_before) (told_failed told_before)) (sink_state (told_out told_after) (told_failed told_after))

-- the value of a sized record, which passed or did not
abbrev pub ValueBy : Result Bool Trouble → (old new : Clerk) → (from now : Arriving) → (before after told_before told_after : SinkState) → Type 0
ValueBy (Ok passed) old new from now before after told_before told_after = RecordsGo shape.Sized at_line (at_line_end passed) old new from now before after told_before told_after
ValueBy (Err trouble) old new from now before after told_before told_after = RecordsFront shape.Sized at_line old new from before after told_before told_after

abbrev pub ValueTo : {S T : Type 0} → (S → Option (List ℕ)) → (S → Bool) → (T → Option (List ℕ)) → (T → Bool) → Result Bool Trouble → (old new : Clerk) → (from now : Arriving)
    → (before after : S) → (told_before told_after : T) → Type 0
ValueTo gone_out has_failed told_out told_failed result old new from now before after told_before told_after =
    ValueBy result old new from now (sink_state (gone_out before) (has_failed before)) (sink_state (gone_out after) (has_failed after))
    (sink_state (told_out told_before) (told_failed told_before)) (sink_state (told_out told_after) (told_failed told_after))

-- all sized records of an input
abbrev pub AllSizedBy : Result (Unit {0}) Trouble → (old new : Clerk) → (from now : Arriving) → (before after told_before told_after : SinkState) → Type 0
AllSizedBy (Ok x) old new from now before after told_before told_after = RecordsEnd shape.Sized at_line old new from now before after told_before told_after
AllSizedBy (Err trouble) old new from now before after told_before told_after = RecordsFront shape.Sized at_line old new from before after told_before told_after

abbrev pub AllSizedTo : {S T : Type 0} → (S → Option (List ℕ)) → (S → Bool) → (T → Option (List ℕ)) → (T → Bool) → Result (Unit {0}) Trouble → (old new : Clerk) → (from now : Arriving)
    → (before after : S) → (told_before told_after : T) → Type 0
AllSizedTo gone_out has_failed told_out told_failed result old new from now before after told_before told_after =
    AllSizedBy result old new from now (sink_state (gone_out before) (has_failed before)) (sink_state (gone_out after) (has_failed after))
    (sink_state (told_out told_before) (told_failed told_before)) (sink_state (told_out told_after) (told_failed told_after))
