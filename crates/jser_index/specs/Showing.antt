-- The text of show of the one list for which a graph stands: what went out of it, and how it is told along the bytes.
-- `values` says whether raw values are followed by what they mean.
use Rattle.std.specs.Prelude.{ℕ, ◌≡◌, ◌≤◌, ◌-◌, ◌^◌, min, Bool, true, List, ◌++◌, length, take, Option}
use Rattle.std.specs.Io.KnownBytes.{Appends}
use Rattle.jser_prim.specs.Outgoing.{Outgoing, SinkState, Puts, sink_state}
use Rattle.jser_grammar.specs.Trees.{ContentTrees}
use Rattle.jser_shown.specs.Cues.{Teller}
use Rattle.jser_shown.specs.Owners.{owners_of}
use Rattle.jser_shown.specs.Shown.{shown}
use Rattle.jser_shown.specs.Telling.{begin_telling}
use Rattle.jser_verdict.specs.Passing.{Passes}
use Rattle.jser_reader.specs.Gates.{open_gate}
use Rattle.jser_index.specs.declared.output.GraphFault.{GraphFault}
use Rattle.jser_index.specs.declared.output.GraphFault.TheVariants as fault
use Rattle.jser_index.specs.Graphs.{GraphView, StandsFor}

-- ---- what the call says

-- a length, as far as 64 bits count
abbrev pub counted : ℕ → ℕ
counted n = min n (2 ^ 64 - 1)

-- the count is that of the bytes of the text
unfoldable pub CountsText : (values : Bool) → GraphView → ℕ → Type 0
CountsText values graph count =
    (bytes : List ℕ) (list : ContentTrees) → StandsFor graph bytes list → count ≡ counted (length (shown values list))

-- the text went out
unfoldable pub WroteText : (values : Bool) → GraphView → (old new : Option (List ℕ)) → Type 0
WroteText values graph old new =
    (bytes : List ℕ) (list : ContentTrees) → StandsFor graph bytes list → Appends old new (shown values list)

abbrev pub written_of : GraphFault → ℕ
written_of (fault.Write written) = written
written_of (fault.OutOfMemory written) = written

-- the first bytes of a text went out, as many as were counted, and no others
pub record WroteSome (old new : Option (List ℕ)) (text : List ℕ) (written : ℕ) : Type 0 where
  pub count : ℕ
  pub within : count ≤ length text
  pub written_is : written ≡ counted count
  pub went : Appends old new (take count text)

unfoldable pub WroteFront : (values : Bool) → GraphView → (old new : Option (List ℕ)) → GraphFault → Type 0
WroteFront values graph old new why =
    (bytes : List ℕ) (list : ContentTrees) → StandsFor graph bytes list → WroteSome old new (shown values list) (written_of why)

-- the sink failed where the fault says so, and only there
abbrev pub FailedIf : (old new : Bool) → GraphFault → Type 0
FailedIf old new (fault.Write written) = new ≡ true
FailedIf old new (fault.OutOfMemory written) = new ≡ old

-- ---- along the bytes

-- Where the bytes are a stream, and the walk is given the owners of its list, the text of show was put.
unfoldable pub PutsText : (bytes : List ℕ) → Teller → (old new : Outgoing) → (before after : SinkState) → Type 0
PutsText bytes start old new before after =
    (values : Bool) (list : ContentTrees) → Passes open_gate bytes list → start ≡ begin_telling values (owners_of list)
    → Puts old new before after (shown values list)

-- the first bytes of a text were put
pub record PutsSome (old new : Outgoing) (before after : SinkState) (text : List ℕ) : Type 0 where
  pub front : List ℕ
  pub left : List ℕ
  pub split : text ≡ front ++ left
  pub puts : Puts old new before after front

unfoldable pub PutsFront : (bytes : List ℕ) → Teller → (old new : Outgoing) → (before after : SinkState) → Type 0
PutsFront bytes start old new before after =
    (values : Bool) (list : ContentTrees) → Passes open_gate bytes list → start ≡ begin_telling values (owners_of list)
    → PutsSome old new before after (shown values list)

-- what is put out to a sink, by what it tells

abbrev pub PutsTextTo : {S : Type 0} → (S → Option (List ℕ)) → (S → Bool) → (bytes : List ℕ) → Teller → (old new : Outgoing) → S → S → Type 0
PutsTextTo gone_out has_failed bytes start old new before after =
    PutsText bytes start old new (sink_state (gone_out before) (has_failed before)) (sink_state (gone_out after) (has_failed after))

abbrev pub PutsFrontTo : {S : Type 0} → (S → Option (List ℕ)) → (S → Bool) → (bytes : List ℕ) → Teller → (old new : Outgoing) → S → S → Type 0
PutsFrontTo gone_out has_failed bytes start old new before after =
    PutsFront bytes start old new (sink_state (gone_out before) (has_failed before)) (sink_state (gone_out after) (has_failed after))
