-- Values of which all bytes are in a piece: they are taken in one step.
use Rattle.std.specs.Prelude.{◌≡◌, ℕ, suc, ◌+◌, ◌<◌, ◌≤◌, Bool, true, false, List, ◌++◌, length, get_or, take, drop, Option, Some, None}
use Rattle.jser_prim.specs.Bytes.{big_bytes}
use Rattle.jser_prim.specs.ModifiedUtf8.{modified_utf8}
use Rattle.jser_table.specs.Entries.{text_entry, other_entry}
use Rattle.jser_grammar.specs.Parts.{IsText}
use Rattle.jser_grammar.specs.Wire.{TC_REFERENCE}
use Rattle.jser_reader.specs.declared.machine.flow.Flow.{Flow}
use Rattle.jser_reader.specs.declared.machine.flow.Flow.TheVariants as flow
use Rattle.jser_reader.specs.declared.frame.Owner.{Owner}
use Rattle.jser_reader.specs.declared.frame.Owner.TheVariants as owner
use Rattle.jser_reader.specs.declared.phase.Phase.{Phase}
use Rattle.jser_reader.specs.declared.phase.Phase.TheVariants as phase
use Rattle.jser_reader.specs.declared.tag.ValueTag.{ValueTag}
use Rattle.jser_reader.specs.declared.tag.ValueTag.TheVariants as value
use Rattle.jser_reader.specs.Readers.{Seen}
use Rattle.jser_reader.specs.Handlers.{is_full, added}
use Rattle.jser_reader.specs.Takes.{counted_on}

-- where a content or a value may begin
abbrev pub IsPlace : Phase → Type 0
IsPlace phase.Top = Unit {0}
IsPlace phase.Note = Unit {0}
IsPlace phase.Value = Unit {0}
IsPlace _ = ⊥

-- a place there is not too deep, nor one too many
pub record HasPlace (r : Seen) : Type 0 where
  pub shallow : length r.frames < r.meter.limits.depth
  pub few : r.refs < r.meter.limits.refs

-- the four bytes after the first one are this number
pub record HasNumber (piece : List ℕ) (n : ℕ) : Type 0 where
  pub within : 5 ≤ length piece
  pub spelled : big_bytes 4 n ≡ take 4 (drop 1 piece)

-- after the first byte comes a text of so many bytes, and its length before it
pub record HasText (piece : List ℕ) (len : ℕ) : Type 0 where
  pub units : List ℕ
  pub are_text : IsText false units
  pub within : 3 + len ≤ length piece
  pub spelled : big_bytes 2 (length (modified_utf8 units)) ++ modified_utf8 units ≡ take (2 + len) (drop 1 piece)

-- after the first byte comes a reference with this handle
pub record HasReference (piece : List ℕ) (n : ℕ) : Type 0 where
  pub within : 6 ≤ length piece
  pub tag : TC_REFERENCE ≡ get_or piece 1 0
  pub spelled : big_bytes 4 n ≡ take 4 (drop 2 piece)

-- the tag of what has a class
abbrev pub tag_of_owner : Owner → ValueTag
tag_of_owner owner.Object = value.Object
tag_of_owner owner.Array = value.Array
tag_of_owner owner.EnumConst = value.Enum
tag_of_owner owner.ClassObject = value.Class

-- a place and so many bytes were counted
abbrev pub placed : Seen → ℕ → Seen
placed r k = record { meter = counted_on r.meter k; phase = r.phase; frames = r.frames; layers = r.layers; table = r.table; refs = suc r.refs; owner = r.owner; elements = r.elements; header = r.header; text = r.text; left = r.left; scan = r.scan; name = r.name }

-- both tags and the handle were counted, and the handle is what is open
abbrev pub with_class : Owner → Seen → Seen
with_class o r = record {
  meter = record { at = r.meter.at + 2 + 4; from = r.meter.at + 2; limits = r.meter.limits; stop = r.meter.stop; cut_phase = r.meter.cut_phase; kept = r.meter.kept };
  phase = phase.ClassHandle;
  frames = r.frames;
  layers = r.layers;
  table = r.table;
  refs = suc r.refs;
  owner = o;
  elements = r.elements;
  header = r.header;
  text = r.text;
  left = r.left;
  scan = r.scan;
  name = r.name;
}

-- the handle of a new string was assigned; or nothing was done
abbrev pub TextCases : Bool → Seen → Seen → Type 0
TextCases true old new = (is_full old ≡ false) × (new ≡ added old text_entry)
TextCases false old new = new ≡ old

unfoldable pub AssignsText : Bool → Seen → Seen → Type 0
AssignsText result old new = TextCases result old new

-- the handle of what has a class was assigned; or nothing was done
abbrev pub OtherCases : Bool → Seen → Seen → Type 0
OtherCases true old new = (is_full old ≡ false) × (new ≡ added old other_entry)
OtherCases false old new = new ≡ old

unfoldable pub AssignsOther : Bool → Seen → Seen → Type 0
AssignsOther result old new = OtherCases result old new

-- so many bytes were taken, or the machine stopped within them
abbrev pub all_or_none : Flow → ℕ → Option ℕ
all_or_none flow.On n = Some n
all_or_none flow.Stopped n = None
