-- A machine stands for the bytes that it took: the walk over them, by the verdict of a gate, ends in the state for which
-- the machine stands, with the bytes that it took of the open token.
use Rattle.std.specs.Prelude.{ℕ, suc, ◌≡◌, ◌+◌, ◌*◌, ◌<◌, Bool, true, false, List, [], ◌∷◌, ◌++◌, length}
use Rattle.jser_prim.specs.Bytes.{big_bytes}
use Rattle.jser_prim.specs.Texts.{HasAccepted}
use Rattle.jser_table.specs.Codes.{PrimCode, size_of}
use Rattle.jser_grammar.specs.Parts.{text_bound, IsBytes}
use Rattle.jser_grammar.specs.Wire.{stream_header}
use Rattle.jser_reading.specs.Goals.{Part, raw_part, Goal, parts_goal, block_goal, State, settle, settled}
use Rattle.jser_reading.specs.Labels.{StreamToken, Piece}
use Rattle.jser_reading.specs.TokenBytes.{joined}
use Rattle.jser_reading.specs.TokensFromBytes.{head_size, size_in}
use Rattle.jser_reading.specs.Accepts.{label_of}
use Rattle.jser_reading.specs.Machine.{begin_state, advance, Runs, left}
use Rattle.jser_reading.specs.Scanner.{good, ended, refused, walk}
use Rattle.jser_verdict.specs.Reasons.{turn}
use Rattle.jser_verdict.specs.Reasons.{Reason as ToldReason}
use Rattle.jser_verdict.specs.Gates.{Gate, Answer}
use Rattle.jser_verdict.specs.BytesSoFar.{differs}
use Rattle.jser_verdict.specs.Verdicts.{verdict}
use Rattle.jser_reader.specs.declared.machine.flow.Flow.{Flow}
use Rattle.jser_reader.specs.declared.machine.flow.Flow.TheVariants as flow
use Rattle.jser_reader.specs.declared.phase.Phase.{Phase}
use Rattle.jser_reader.specs.declared.phase.Phase.TheVariants as phase
use Rattle.jser_reader.specs.declared.refusal.Refusal.{Refusal}
use Rattle.jser_reader.specs.declared.refusal.Stop.{Stop}
use Rattle.jser_reader.specs.declared.refusal.Stop.TheVariants as stop
use Rattle.jser_reader.specs.Stacks.{FitsDepth}
use Rattle.jser_reader.specs.Memory.{MayRunOut}
use Rattle.jser_reader.specs.Reasons.{named}
use Rattle.jser_reader.specs.Readers.{Seen, moment_of, goals_of, text_goal, text_rest, IsForm, is_checked, IsInside, ReadyAt}

-- the gate with the limits of the machine, and this answer to names
abbrev pub gate_with : Seen → (List ℕ → Answer) → Gate
gate_with r answer = record {
  bytes = r.meter.limits.bytes;
  depth = r.meter.limits.depth;
  refs = r.meter.limits.refs;
  array = r.meter.limits.array;
  handles = r.table.max;
  answer = answer;
}

-- the number of bytes of a tag or a number; a length counts as one; 0 for all others
abbrev pub size_of_phase : Phase → ℕ
size_of_phase phase.Header = 4
size_of_phase phase.Top = 1
size_of_phase phase.Note = 1
size_of_phase phase.Value = 1
size_of_phase phase.ClassTag = 1
size_of_phase phase.SuperTag = 1
size_of_phase phase.TextTag = 1
size_of_phase phase.BackHandle = 4
size_of_phase phase.ClassHandle = 4
size_of_phase phase.SuperHandle = 4
size_of_phase phase.TextHandle = 4
size_of_phase phase.Length2 = 2
size_of_phase phase.Length8 = 8
size_of_phase phase.Text = 0
size_of_phase phase.Suid = 8
size_of_phase phase.Flags = 1
size_of_phase phase.FieldCount = 2
size_of_phase phase.TypeCode = 1
size_of_phase phase.InterfaceCount = 4
size_of_phase phase.ArrayLength = 4
size_of_phase phase.BlockLength1 = 1
size_of_phase phase.BlockLength4 = 4
size_of_phase phase.Prims = 0
size_of_phase phase.Bytes = 0
size_of_phase phase.Cut = 0
size_of_phase phase.Stopped = 0

-- STREAM_MAGIC and STREAM_VERSION
abbrev pub header_bytes : List ℕ
header_bytes = stream_header

-- what was taken of the header is right so far
abbrev pub IsRightSoFar : Phase → List ℕ → Type 0
IsRightSoFar phase.Header cut = differs header_bytes cut ≡ false
IsRightSoFar _ cut = Unit {0}

-- a number or the header is open, and these bytes of it were taken, at least one and not all
pub record CutStands (r : Seen) (s : State) (cut : List ℕ) : Type 0 where
  pub ready : ReadyAt r.meter.cut_phase r s
  pub cut_is : cut ≡ r.meter.kept
  pub some : 0 < length cut
  pub short : length cut < size_of_phase r.meter.cut_phase
  pub right : IsRightSoFar r.meter.cut_phase cut

-- these bytes of a text of `len` bytes were read, which spell these units; those of a checked name are kept
pub record HasRead (r : Seen) (len : ℕ) (bytes units : List ℕ) : Type 0 where
  pub accepted : HasAccepted len bytes units r.scan
  pub kept : is_checked r.text ≡ true → r.name ≡ units

-- the bytes of a text that were read, where these units are the first of those that they spell
pub record HasReadAfter (r : Seen) (len : ℕ) (bytes units : List ℕ) : Type 0 where
  pub more : List ℕ
  pub read : HasRead r len bytes (units ++ more)

-- a text is open whose length has been read, and some of its bytes are still to come
pub record TextStands (r : Seen) (s : State) (cut : List ℕ) : Type 0 where
  pub long : Bool
  pub len : ℕ
  pub before : List ℕ
  pub units : List ℕ
  pub form : IsForm r.text long
  pub inside : IsInside r.text r.frames
  pub is : s ≡ (moment_of r, text_goal r r.text long ∷ text_rest r r.text)
  pub bound : len < text_bound long
  pub cut_is : cut ≡ big_bytes (head_size long) len ++ before
  pub read : HasRead r len before units
  pub goes_on : length before < len

-- raw values are open, of which so many bytes are left
pub record PrimsStands (r : Seen) (s : State) (cut : List ℕ) : Type 0 where
  pub depth : ℕ
  pub type_code : PrimCode
  pub more : ℕ
  pub parts : List Part
  pub goals : List Goal
  pub is : s ≡ (moment_of r, parts_goal depth (raw_part type_code (suc more) ∷ parts) ∷ goals)
  pub size : length cut + r.left ≡ suc more * size_of type_code
  pub depth_is : FitsDepth (length r.frames) depth
  pub goes_on : 0 < r.left
  pub after : settle (moment_of r) (parts_goal depth parts ∷ goals) ≡ settle (moment_of r) (goals_of r)

-- the bytes of a block are open, of which so many are left
pub record BytesStands (r : Seen) (s : State) (cut : List ℕ) : Type 0 where
  pub more : ℕ
  pub is : s ≡ (moment_of r, block_goal (length r.frames) (suc more) ∷ goals_of r)
  pub size : length cut + r.left ≡ suc more
  pub goes_on : 0 < r.left

-- in this phase the machine stands for a settled state, with these bytes of the open token
abbrev pub StandsAt : Phase → Seen → State → List ℕ → Type 0
StandsAt phase.Text r s cut = TextStands r s cut
StandsAt phase.Prims r s cut = PrimsStands r s cut
StandsAt phase.Bytes r s cut = BytesStands r s cut
StandsAt phase.Cut r s cut = CutStands r s cut
StandsAt phase.Stopped r s cut = ⊥
StandsAt p r s cut = ReadyAt p r s × (cut ≡ [])

-- the phase of the token that is open, though it may be cut, and the bytes that were kept of it
abbrev pub open_in : Phase → Phase → Phase
open_in phase.Cut cut_phase = cut_phase
open_in p cut_phase = p

abbrev pub cut_in : Phase → List ℕ → List ℕ
cut_in phase.Cut kept = kept
cut_in p kept = []

abbrev pub open_phase : Seen → Phase
open_phase r = open_in r.phase r.meter.cut_phase

abbrev pub cut_of : Seen → List ℕ
cut_of r = cut_in r.phase r.meter.kept

-- the machine, with the limits of the gate, stands for this settled state and these bytes of the open token
pub record Stands (gate : Gate) (r : Seen) (s : State) (cut : List ℕ) : Type 0 where
  pub limits_are : gate_with r gate.answer ≡ gate
  pub stands : StandsAt r.phase r s cut
  pub counts : r.meter.at ≡ r.meter.from + length cut

-- The machine took these bytes, no more than the gate allows: whole tokens, and some bytes of the one that is open. It
-- stands where the walk over them ends.
pub record HasTaken (gate : Gate) (bytes : List ℕ) (r : Seen) : Type 0 where
  pub tokens : List Piece
  pub cut : List ℕ
  pub runs : Runs begin_state tokens
  pub are_tokens : bytes ≡ joined tokens ++ cut
  pub walked : walk (verdict gate) begin_state [] bytes ≡ ended (left begin_state tokens) cut
  pub stands : Stands gate r (settled (left begin_state tokens)) cut
  pub taken : r.meter.at ≡ length bytes
  pub all_bytes : IsBytes bytes

-- the walk refuses the bytes of the token up to here, and the refusal says where they are and why
pub record IsRefusal (gate : Gate) (s : State) (cut taken : List ℕ) (from : ℕ) (refusal : Refusal) : Type 0 where
  pub reason : ToldReason
  pub is_named : refusal.reason ≡ named reason
  pub walks : (rest : List ℕ) → walk (verdict gate) s cut (taken ++ rest) ≡ refused (cut ++ taken) rest (turn reason)
  pub begins : refusal.from_byte ≡ from
  pub ends : refusal.to_byte ≡ from + length (cut ++ taken)

abbrev pub StopTold : Gate → State → (cut taken : List ℕ) → (from : ℕ) → Stop → Type 0
StopTold gate s cut taken from (stop.Refused refusal) = IsRefusal gate s cut taken from refusal
StopTold gate s cut taken from stop.OutOfMemory = MayRunOut (label_of (settled s)).position (cut ++ taken)
StopTold gate s cut taken from stop.Spent = ⊥

-- the bytes end the open token, and the machine stands for the state to which it leads
pub record Ends (gate : Gate) (s : State) (cut taken : List ℕ) (old new : Seen) : Type 0 where
  pub token : StreamToken
  pub is_good : verdict gate (label_of (settled s)) (cut ++ taken) ≡ good token
  pub whole : size_in (label_of (settled s)).position (cut ++ taken) ≡ length (cut ++ taken)
  pub walks : (rest : List ℕ) → walk (verdict gate) s cut (taken ++ rest) ≡ walk (verdict gate) (advance (settled s) token) [] rest
  pub stands : Stands gate new (settled (advance (settled s) token)) []
  pub at : new.meter.at ≡ old.meter.at + length taken

abbrev pub Took : Gate → State → (cut taken : List ℕ) → Flow → Seen → Seen → Type 0
Took gate s cut taken flow.On old new = Ends gate s cut taken old new
Took gate s cut taken flow.Stopped old new = (new.phase ≡ phase.Stopped) × StopTold gate s cut taken old.meter.from new.meter.stop

-- these bytes end the open token, or the machine stops at the last of them
unfoldable pub Takes : Gate → List ℕ → Flow → Seen → Seen → Type 0
Takes gate taken result old new =
    (s : State) (cut : List ℕ) → Stands gate old (settled s) cut → Took gate s cut taken result old new

-- the same token stays open, and these bytes are of it
pub record StaysOpen (gate : Gate) (s : State) (cut piece : List ℕ) (old new : Seen) : Type 0 where
  pub walks : walk (verdict gate) s cut piece ≡ ended s (cut ++ piece)
  pub stands : Stands gate new (settled s) (cut ++ piece)
  pub at : new.meter.at ≡ old.meter.at + length piece

unfoldable pub Keeps : Gate → List ℕ → Seen → Seen → Type 0
Keeps gate piece old new =
    (s : State) (cut : List ℕ) → Stands gate old (settled s) cut → StaysOpen gate s cut piece old new

-- bytes were counted; what the machine stands for is as it was, but for the open token
pub record Counts (bytes : List ℕ) (old new : Seen) : Type 0 where
  pub at : new.meter.at ≡ old.meter.at + length bytes
  pub from : new.meter.from ≡ old.meter.from
  pub limits : new.meter.limits ≡ old.meter.limits
  pub frames : new.frames ≡ old.frames
  pub layers : new.layers ≡ old.layers
  pub table : new.table ≡ old.table
  pub refs : new.refs ≡ old.refs
  pub owner : new.owner ≡ old.owner
  pub elements : new.elements ≡ old.elements
  pub header : new.header ≡ old.header
  pub text : new.text ≡ old.text

-- the walk over these bytes, whatever follows them, refuses the last ones, and the refusal says where they are and why
pub record IsRefusedBy (gate : Gate) (bytes : List ℕ) (refusal : Refusal) : Type 0 where
  pub wrong : List ℕ
  pub reason : ToldReason
  pub is_named : refusal.reason ≡ named reason
  pub walks : (rest : List ℕ) → walk (verdict gate) begin_state [] (bytes ++ rest) ≡ refused wrong rest (turn reason)
  pub begins : refusal.from_byte + length wrong ≡ length bytes
  pub ends : refusal.to_byte ≡ length bytes

abbrev pub StopsFor : Gate → List ℕ → Stop → Type 0
StopsFor gate bytes (stop.Refused refusal) = IsRefusedBy gate bytes refusal
StopsFor gate bytes stop.OutOfMemory = Unit {0}
StopsFor gate bytes stop.Spent = ⊥

-- a new machine, for a gate with these limits
pub record IsNew (r : Seen) : Type 0 where
  pub phase_is : r.phase ≡ phase.Header
  pub frames : r.frames ≡ []
  pub entries : r.table.entries ≡ []
  pub refs : r.refs ≡ 0
  pub at : r.meter.at ≡ 0
  pub from : r.meter.from ≡ 0
