-- Names of classes of which all bytes are in a piece.
use Rattle.std.specs.Prelude.{◌≡◌, ℕ, ◌+◌, ◌≤◌, false, List, ◌++◌, length, take, drop}
use Rattle.jser_prim.specs.Bytes.{big_bytes}
use Rattle.jser_prim.specs.ModifiedUtf8.{modified_utf8}
use Rattle.jser_grammar.specs.Parts.{IsText}
use Rattle.jser_verdict.specs.Gates.{Gate}
use Rattle.jser_verdict.specs.Verdicts.{class_name_reason}
use Rattle.jser_reader.specs.declared.machine.flow.Flow.{Flow}
use Rattle.jser_reader.specs.Readers.{Seen, head_role}
use Rattle.jser_reader.specs.Handlers.{TellsSurely}
use Rattle.jser_reader.specs.TextStates.{named_state}

-- the bytes of a name of so many bytes, after its length
abbrev pub name_in : (piece : List ℕ) (len : ℕ) → List ℕ
name_in piece len = take len (drop 2 piece)

-- At the front of the piece is the length of a name, and the name, of which each byte is a unit.
pub record HasName (piece : List ℕ) (len : ℕ) : Type 0 where
  pub within : len + 2 ≤ length piece
  pub are_text : IsText false (name_in piece len)
  pub spelled : big_bytes 2 (length (modified_utf8 (name_in piece len))) ++ modified_utf8 (name_in piece len) ≡ take (2 + len) piece

-- the machine with the units of another name
abbrev pub with_name : Seen → List ℕ → Seen
with_name r name = record { meter = r.meter; phase = r.phase; frames = r.frames; layers = r.layers; table = r.table; refs = r.refs; owner = r.owner; elements = r.elements; header = r.header; text = r.text; left = r.left; scan = r.scan; name = name }

-- the name that was kept is that of a class, and it is judged
unfoldable pub JudgesName : Gate → Flow → Seen → Seen → Type 0
JudgesName gate result old new = TellsSurely (class_name_reason gate (head_role old) old.name) (named_state old old.name) result old new
