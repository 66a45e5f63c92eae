-- The loop over whole values. While it runs, the counters are kept apart from the machine, and what comes next is told by the
-- frames alone.
use Rattle.std.specs.Prelude.{◌≡◌, ℕ, suc, ◌+◌, ◌^◌, ◌<◌, ◌≤◌, max, ◌==◌, if◌then◌else◌, Bool, true, false, List, [], ◌∷◌, length, get_or, take, drop, Some}
use Rattle.jser_prim.specs.Bytes.{big_bytes}
use Rattle.jser_table.specs.declared.layer.Layer.{Layer}
use Rattle.jser_table.specs.declared.section.Sections.{Sections}
use Rattle.jser_table.specs.Chains.{chain_in, is_external, has_write_method}
use Rattle.jser_table.specs.Entries.{TableEntry, other_entry}
use Rattle.jser_table.specs.Sections.{layer_of, under, AreSections}
use Rattle.jser_grammar.specs.Wire.{TC_ARRAY, TC_ENUM, TC_OBJECT}
use Rattle.jser_reading.specs.Goals.{Part, annotation_if, section_parts, State}
use Rattle.jser_reading.specs.Totals.{number_if}
use Rattle.jser_verdict.specs.Gates.{Gate, IsGate}
use Rattle.jser_reader.specs.declared.frame.Frame.{Frame}
use Rattle.jser_reader.specs.declared.frame.Frame.TheVariants as frame
use Rattle.jser_reader.specs.declared.frame.Owner.TheVariants as owner
use Rattle.jser_reader.specs.declared.machine.many.counts.Begun.{Begun}
use Rattle.jser_reader.specs.declared.machine.many.counts.Counts.{Counts}
use Rattle.jser_reader.specs.declared.machine.many.counts.Turn.{Turn}
use Rattle.jser_reader.specs.declared.machine.many.counts.Turn.TheVariants as turn
use Rattle.jser_reader.specs.declared.machine.many.sections.Began.{Began}
use Rattle.jser_reader.specs.declared.machine.many.sections.Began.TheVariants as began
use Rattle.jser_reader.specs.declared.phase.Phase.{Phase}
use Rattle.jser_reader.specs.declared.phase.Phase.TheVariants as phase
use Rattle.jser_reader.specs.declared.tally.Tally.{Tally}
use Rattle.jser_reader.specs.Fitting.{FrameFits, AllFit, IsPart}
use Rattle.jser_reader.specs.Handlers.{Comes, moved, added, pushed, is_full}
use Rattle.jser_reader.specs.Passes.{Passes, CanPass}
use Rattle.jser_reader.specs.Readers.{Seen, Ready}
use Rattle.jser_reader.specs.Rules.{IsClassOf, IsTextHandle}
use Rattle.jser_reader.specs.Stacks.{tail_of, HasNoValue, IsOnTop, CountsValue}
use Rattle.jser_reader.specs.Steps.{Kept, before_parts, after_value}
use Rattle.jser_reader.specs.Takes.{counted_on, farther}
use Rattle.jser_reader.specs.Wholes.{HasPlace, HasReference}

-- ---- the machine while the loop runs

-- where a content or a value comes next, by what is on top
abbrev pub phase_on : List Frame → Phase
phase_on [] = phase.Top
phase_on (frame.Elements left ∷ fs) = phase.Value
phase_on (frame.Fields last section pos prims values ∷ fs) = phase.Value
phase_on (frame.Notes last section ∷ fs) = phase.Note
phase_on (frame.ExternalNotes ∷ fs) = phase.Note
phase_on (frame.Descriptor number role ∷ fs) = phase.Note

-- the machine and the counts of tokens, if the loop ended here

abbrev pub seen_at : Seen → Counts → Seen
seen_at r k = record { meter = moved (counted_on r.meter k.used); phase = phase_on r.frames; frames = r.frames; layers = r.layers; table = r.table; refs = k.refs; owner = r.owner; elements = r.elements; header = r.header; text = r.text; left = r.left; scan = r.scan; name = r.name }

-- where the last content begins, if one has begun in the piece, which begins at this place
abbrev pub begun_at : (at before : ℕ) → Begun → ℕ
begun_at at before b = if b.count == 0 then before else at + b.last

abbrev pub tally_with : (at : ℕ) → Tally → Begun → (deepest : ℕ) → Tally
tally_with at before items deepest = record { contents = before.contents + items.count; earlier = before.earlier; depth = deepest; begun = begun_at at before.begun items }

abbrev pub tally_at : (at : ℕ) → Tally → Counts → Tally
tally_at at before k = tally_with at before k.items k.deepest

-- a machine at which the loop may begin, and its counters there

pub record IsAtRest (r : Seen) : Type 0 where
  pub phase_is : r.phase ≡ phase_on r.frames
  pub from : r.meter.from ≡ r.meter.at

abbrev pub counts_of : Seen → Tally → Counts
counts_of r tally = record { used = 0; refs = r.refs; items = record { count = 0; last = 0 }; depth = length r.frames; deepest = tally.depth }

-- the counters are right, and all of the piece may be taken
pub record Holds (piece : List ℕ) (r : Seen) (k : Counts) : Type 0 where
  pub can : CanPass r piece
  pub within : k.used ≤ length piece
  pub depth : k.depth ≡ length r.frames
  pub deep : k.deepest ≤ r.meter.limits.depth
  pub items : k.items.count ≤ k.used
  pub last : k.items.last ≤ k.used

-- and a content or a value comes next: it is known where a content begins
pub record HoldsNext (piece : List ℕ) (r : Seen) (k : Counts) : Type 0 where
  pub holds : Holds piece r k
  pub top : k.depth ≡ 0 → k.items.last ≡ k.used

-- a content has begun, if one has
abbrev pub with_content : Begun → (begins : Bool) → Begun
with_content b begins = record { count = b.count + number_if begins 1; last = b.last }

-- a content has ended
abbrev pub content_ended : Counts → Counts
content_ended k = record { used = k.used; refs = k.refs; items = record { count = k.items.count; last = k.used }; depth = k.depth; deepest = k.deepest }

-- a place and so many bytes were counted
abbrev pub with_place : Counts → ℕ → Counts
with_place k size = record { used = k.used + size; refs = suc k.refs; items = with_content k.items (k.depth == 0); depth = k.depth; deepest = max k.deepest (suc k.depth) }

-- so many bytes were counted where no place begins
abbrev pub with_block : Counts → ℕ → Counts
with_block k size = record { used = k.used + size; refs = k.refs; items = with_content k.items (k.depth == 0); depth = k.depth; deepest = k.deepest }

-- ---- from one place in the piece to another

-- After some bytes the counters are these, and a machine where this state comes next has taken them.
pub record LeadsTo (piece : List ℕ) (old : Seen) (k : Counts) (new : Seen) (j : Counts) (s : State) : Type 0 where
  pub size : ℕ
  pub some : 0 < size
  pub used : j.used ≡ k.used + size
  pub can : CanPass (seen_at old k) (drop k.used piece)
  pub meter : new.meter ≡ old.meter
  pub to : (gate : Gate) → IsGate gate → (before : Tally) (next : Seen) → Comes (seen_at new j) next s → Kept (seen_at new j) next
      → Passes gate (drop k.used piece) (Some size) (seen_at old k) (tally_at old.meter.at before k) next (tally_at old.meter.at before j)

-- A value has ended.
unfoldable pub Ends : List ℕ → Seen → Counts → Seen → Counts → Type 0
Ends piece old k new j = LeadsTo piece old k new j (after_value (seen_at new j))

-- A content or a value comes next.
pub record Goes (piece : List ℕ) (old : Seen) (k : Counts) (new : Seen) (j : Counts) : Type 0 where
  pub size : ℕ
  pub used : j.used ≡ k.used + size
  pub can : CanPass (seen_at old k) (drop k.used piece)
  pub meter : new.meter ≡ old.meter
  pub passes : (gate : Gate) → IsGate gate → (before : Tally) → Passes gate (drop k.used piece) (Some size) (seen_at old k) (tally_at old.meter.at before k) (seen_at new j) (tally_at old.meter.at before j)
  pub nothing : size ≡ 0 → (new ≡ old) × (j ≡ k)

-- a turn of the loop: a content or a value comes next; or a value has ended; or nothing was done
abbrev pub TurnCases : List ℕ → Turn → Seen → Counts → Seen → Counts → Type 0
TurnCases piece turn.Next old k new j = Goes piece old k new j × HoldsNext piece new j × (k.used < j.used)
TurnCases piece turn.Ended old k new j = Ends piece old k new j × Holds piece new j × (k.used < j.used)
TurnCases piece turn.Nothing old k new j = (new ≡ old) × (j ≡ k)

unfoldable pub Turns : List ℕ → Turn → Seen → Counts → Seen → Counts → Type 0
Turns piece t old k new j = TurnCases piece t old k new j

-- so many bytes more were taken; a frame was put on the stack; one was taken off

abbrev pub with_used : Counts → ℕ → Counts
with_used k size = record { used = k.used + size; refs = k.refs; items = k.items; depth = k.depth; deepest = k.deepest }

abbrev pub with_depth : Counts → ℕ → Counts
with_depth k depth = record { used = k.used; refs = k.refs; items = k.items; depth = depth; deepest = k.deepest }

-- this frame was put in the place of what is on top
abbrev pub with_top : Seen → Frame → Seen
with_top r f = record { meter = r.meter; phase = r.phase; frames = f ∷ tail_of r.frames; layers = r.layers; table = r.table; refs = r.refs; owner = r.owner; elements = r.elements; header = r.header; text = r.text; left = r.left; scan = r.scan; name = r.name }

-- what is on top was taken off
abbrev pub without_top : Seen → Seen
without_top r = record { meter = r.meter; phase = r.phase; frames = tail_of r.frames; layers = r.layers; table = r.table; refs = r.refs; owner = r.owner; elements = r.elements; header = r.header; text = r.text; left = r.left; scan = r.scan; name = r.name }

-- ---- raw values, and what comes after them

-- So many bytes of the piece were taken, and the machine after them is this one, but for what comes next: this state.
abbrev pub Awaits : Gate → (piece : List ℕ) (used : ℕ) → (old : Seen) (before : Tally) → (r : Seen) → Tally → State → Type 0
Awaits gate piece used old before r tally s = (next : Seen) → Comes r next s → Kept r next → Passes gate piece (Some used) old before next tally

-- With these chains, where some parts of an object come next, so many bytes are raw values, and then the other parts come.
pub record RawsOn (C : List (List Layer)) (bytes : ℕ) (from to : List Part) : Type 0 where
  pub on : (gate : Gate) (piece : List ℕ) (used : ℕ) (old r : Seen) (before tally : Tally) (fs : List Frame) → CanPass old piece → 0 < used → used + bytes ≤ length piece
      → r.table.chains ≡ C → r.meter.at ≡ old.meter.at + used → r.meter.limits ≡ old.meter.limits
      → Awaits gate piece used old before r tally (before_parts r fs from) → Awaits gate piece (used + bytes) old before (farther r bytes) tally (before_parts r fs to)

-- these parts come next where this frame is on top
pub record StandsOn (C : List (List Layer)) (f : Frame) (parts : List Part) : Type 0 where
  pub ready : (r new : Seen) (fs : List Frame) → r.table.chains ≡ C → new.phase ≡ phase_on (f ∷ fs) → new.frames ≡ f ∷ fs → new.layers ≡ r.layers → new.table ≡ r.table → new.refs ≡ r.refs
      → Ready new (before_parts r fs parts)

-- After so many bytes of raw values this frame is on top; or nothing is left.
pub record OpensAs (C : List (List Layer)) (from : List Part) (used : ℕ) (f : Frame) : Type 0 where
  pub parts : List Part
  pub raws : RawsOn C used from parts
  pub stands : StandsOn C f parts
  pub fits : (T : List TableEntry) → FrameFits T C f
  pub part : IsPart f

abbrev pub BeginsCases : List (List Layer) → List Part → (room : ℕ) → Began → Type 0
BeginsCases C from room (began.Open used f) = (used ≤ room) × OpensAs C from used f
BeginsCases C from room (began.Ended used) = (used ≤ room) × RawsOn C used from []
BeginsCases C from room began.Short = Unit {0}

unfoldable pub Begins : List (List Layer) → List Part → (room : ℕ) → Began → Type 0
Begins C from room b = BeginsCases C from room b

-- what comes after the fields of a section
abbrev pub parts_behind : List (List Layer) → (last section : ℕ) → List Part
parts_behind C last section = annotation_if (has_write_method (layer_of C section).flags) (section_parts (under C last section))

-- this frame was put on the stack; or nothing was done

abbrev pub PutCases : Bool → Frame → Seen → Seen → Type 0
PutCases true f old new = new ≡ pushed old f
PutCases false f old new = new ≡ old

unfoldable pub Puts : Bool → Frame → Seen → Seen → Type 0
Puts b f old new = PutCases b f old new

-- and the handle of what begins was assigned; or nothing was done

abbrev pub OpenedCases : Bool → Frame → Seen → Seen → Type 0
OpenedCases true f old new = (is_full old ≡ false) × (new ≡ pushed (added old other_entry) f)
OpenedCases false f old new = new ≡ old

unfoldable pub Opened : Bool → Frame → Seen → Seen → Type 0
Opened b f old new = OpenedCases b f old new

-- A value of what is on top was counted; or nothing was done, and none is left there.
abbrev pub NextCases : Bool → Seen → Seen → Type 0
NextCases true old new = CountsValue true old.frames new.frames × AllFit old.table.entries old.table.chains old.frames × (new ≡ record old { frames = new.frames })
NextCases false old new = (new ≡ old) × IsOnTop HasNoValue old.frames

unfoldable pub GivesNext : Bool → Seen → Seen → Type 0
GivesNext b old new = NextCases b old new

-- What is on top has no field left: what comes next is found; or it was taken off, and a value has ended; or nothing was done.
abbrev pub FrameCases : List ℕ → Turn → Seen → Counts → Seen → Counts → Type 0
FrameCases piece turn.Next m i new j = ((old : Seen) (k : Counts) → Ends piece old k m i → Goes piece old k new j) × HoldsNext piece new j × (i.used ≤ j.used)
FrameCases piece turn.Ended m i new j =
    ((old : Seen) (k : Counts) → Ends piece old k m i → Ends piece old k new j) × Holds piece new j × (i.used ≤ j.used) × (length new.frames < length m.frames)
FrameCases piece turn.Nothing m i new j = (new ≡ m) × (j ≡ i)

unfoldable pub FrameEnds : List ℕ → Turn → Seen → Counts → Seen → Counts → Type 0
FrameEnds piece t m i new j = FrameCases piece t m i new j

-- After a value: a content or a value comes next; or the end of a value is still to be found.
abbrev pub SettleCases : List ℕ → Turn → Seen → Counts → Seen → Counts → Type 0
SettleCases piece turn.Next m i new j = ((old : Seen) (k : Counts) → Ends piece old k m i → Goes piece old k new j) × HoldsNext piece new j × (i.used ≤ j.used)
SettleCases piece turn.Ended m i new j = ((old : Seen) (k : Counts) → Ends piece old k m i → Ends piece old k new j) × Holds piece new j × (i.used ≤ j.used)
SettleCases piece turn.Nothing m i new j = ⊥

unfoldable pub Settles : List ℕ → Turn → Seen → Counts → Seen → Counts → Type 0
Settles piece t m i new j = SettleCases piece t m i new j

-- ---- arrays

-- the tag of an array, the reference that is its class, and its length, at the place of the counters
pub record ArrayBegins (piece : List ℕ) (n chain count : ℕ) (r : Seen) (k : Counts) : Type 0 where
  pub holds : HoldsNext piece r k
  pub place : HasPlace (seen_at r k)
  pub room : k.used + 10 ≤ length piece
  pub tag : TC_ARRAY ≡ get_or piece k.used 0
  pub class : HasReference (drop k.used piece) n
  pub small : n < 2 ^ 32
  pub is : IsClassOf r.table owner.Array n chain
  pub spelled : big_bytes 4 count ≡ take 4 (drop (k.used + 6) piece)
  pub low : count < 2 ^ 31
  pub short : count ≤ r.meter.limits.array

-- ---- objects

-- a class that fits an object, whose data have these sections
pub record HasSections (r : Seen) (n : ℕ) (sections : Sections) : Type 0 where
  pub chain : ℕ
  pub is : IsClassOf r.table owner.Object n chain
  pub plain : is_external (chain_in r.table.chains chain) ≡ false
  pub are : AreSections r.table.chains (chain_in r.table.chains chain) (Some sections)

-- the tag of an object and the reference that is its class, at the place of the counters
pub record ObjectBegins (piece : List ℕ) (n chain : ℕ) (r : Seen) (k : Counts) : Type 0 where
  pub holds : HoldsNext piece r k
  pub place : HasPlace (seen_at r k)
  pub room : k.used + 6 ≤ length piece
  pub tag : TC_OBJECT ≡ get_or piece k.used 0
  pub class : HasReference (drop k.used piece) n
  pub small : n < 2 ^ 32
  pub is : IsClassOf r.table owner.Object n chain

-- ---- enum constants

-- the tag of an enum constant, the reference that is its class, and the one that is its name, at the place of the counters
pub record ConstantBegins (piece : List ℕ) (n name chain : ℕ) (r : Seen) (k : Counts) : Type 0 where
  pub holds : HoldsNext piece r k
  pub place : HasPlace (seen_at r k)
  pub room : k.used + 11 ≤ length piece
  pub tag : TC_ENUM ≡ get_or piece k.used 0
  pub class : HasReference (drop k.used piece) n
  pub small : n < 2 ^ 32
  pub is : IsClassOf r.table owner.EnumConst n chain
  pub name_is : HasReference (drop (k.used + 5) piece) name
  pub name_small : name < 2 ^ 32
  pub text : IsTextHandle r.table name
