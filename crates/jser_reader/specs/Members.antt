-- Fields of a descriptor of which all bytes are in a piece.
use Rattle.std.specs.Prelude.{◌≡◌, ℕ, ◌-◌, ◌^◌, ◌<◌, ◌≤◌, ◌++◌, ◌∷◌, [], ◌||◌, Bool, List, length, drop, get_or, Option, Some, None, option_map}
use Rattle.jser_table.specs.Codes.{is_object_code}
use Rattle.jser_grammar.specs.Wire.{TC_REFERENCE}
use Rattle.jser_verdict.specs.Gates.{Gate}
use Rattle.jser_verdict.specs.Verdicts.{code_reason}
use Rattle.jser_reader.specs.declared.tally.Tally.{Tally}
use Rattle.jser_reader.specs.Passes.{Passes, CanPass}
use Rattle.jser_reader.specs.Reasons.{named}
use Rattle.jser_reader.specs.Readers.{Header, Seen}
use Rattle.jser_reader.specs.Rules.{with_text}
use Rattle.jser_reader.specs.Wholes.{HasNumber}

-- at the front of the piece is a reference with this handle, which is that of a string
pub record HasType (piece : List ℕ) (n : ℕ) (r : Seen) : Type 0 where
  pub tag : TC_REFERENCE ≡ get_or piece 0 0
  pub is : HasNumber piece n
  pub few : n < 2 ^ 32
  pub text : None ≡ option_map named (with_text r.table n)

-- the machine with another head of a descriptor
abbrev pub with_header : Seen → Header → Seen
with_header r header = record { meter = r.meter; phase = r.phase; frames = r.frames; layers = r.layers; table = r.table; refs = r.refs; owner = r.owner; elements = r.elements; header = header; text = r.text; left = r.left; scan = r.scan; name = r.name }

-- This type code may stand there, and it was kept as that of the field that begins.
pub record BeginsMember (code : ℕ) (is_object : Bool) (old new : Seen) : Type 0 where
  pub sound : None ≡ option_map named (code_reason old.header.seen code)
  pub object : is_object ≡ is_object_code code
  pub rest : new ≡ with_header old new.header
  pub kind : new.header.kind ≡ old.header.kind
  pub codes : 0 < old.header.fields → new.header.codes ≡ old.header.codes ++ (code ∷ [])
  pub fields : 0 < old.header.fields → new.header.fields ≡ old.header.fields - 1
  pub seen : 0 < old.header.fields → new.header.seen ≡ (old.header.seen || is_object)

-- So many bytes were taken of the piece, all of which may be taken, and no count of tokens changed.
pub record TakesMember (piece : List ℕ) (used : ℕ) (old new : Seen) : Type 0 where
  pub passes : (gate : Gate) (tally : Tally) → Passes gate piece (Some used) old tally new tally
  pub some : 0 < used
  pub within : used ≤ length piece
  pub can : CanPass new (drop used piece)

-- what was whole in the piece was taken; or nothing was done
abbrev pub MemberCases : (piece : List ℕ) → Option ℕ → Seen → Seen → Type 0
MemberCases piece (Some used) old new = TakesMember piece used old new
MemberCases piece None old new = new ≡ old
