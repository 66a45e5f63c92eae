-- Records that are lines.
use Rattle.std.specs.Prelude.{ℕ, ◌≡◌, ◌⊎◌, ◌+◌, ◌≤◌, ◌<◌, ◌&&◌, not, Bool, if◌then◌else◌, List, [], ◌∷◌, ◌++◌, length, Option, Some, None}
use Rattle.jser_prim.specs.Outgoing.{SinkState, sink_state}
use Rattle.jser_scan.specs.declared.Found.TheVariants as found
use Rattle.jser_records.specs.declared.answer.Answer.TheVariants as answer
use Rattle.jser_records.specs.declared.clerk.Clerk.{Clerk}
use Rattle.jser_records.specs.declared.layout.Lines.{Lines}
use Rattle.jser_records.specs.declared.lines.Stretch.{Stretch}
use Rattle.jser_records.specs.declared.current.Record.{Record}
use Rattle.jser_records.specs.declared.reading.Reading.{Reading}
use Rattle.jser_records.specs.Arriving.{Arriving, HasNone, IsOver, Took, room_size}
use Rattle.jser_records.specs.Fields.{IsBare, IsValue}
use Rattle.jser_records.specs.Held.{Holds, HoldsMore, Terms}
use Rattle.jser_records.specs.Keys.{HasLostKey, HasNoKey, IsKeyOf, ends_in, ends_lines}
use Rattle.jser_records.specs.Readings.{Came, HasStopped, IsCounted, IsFor, IsReady, Value, parted, value_in}
use Rattle.jser_records.specs.Stretches.{IsOn, LineNamed}
use Rattle.jser_records.specs.Told.{Closes, Entry, HandsOn, KeyTold}

-- the byte that ends a line
abbrev pub end_of : Lines → ℕ
end_of lines = if lines.zero then 0x00 else 0x0A

-- a reader of lines may end one in this KEY of a line, unless a NUL ends lines
abbrev pub parts_line : Lines → Option (List ℕ) → Bool
parts_line lines key = not lines.zero && ends_in key

-- the value of a line whose KEY and field are these
abbrev pub value_of : Lines → (key : Option (List ℕ)) → (field : List ℕ) → Value
value_of lines key field = if parts_line lines key then parted else value_in lines.spelling field

-- This is the value of a line, which is given without its end, and its KEY.
pub record IsOfLine (lines : Lines) (text : List ℕ) (value : Value) (key : Option (List ℕ)) : Type 0 where
  pub bare : List ℕ
  pub is_bare : IsBare lines text bare
  pub field : List ℕ
  pub is_field : IsValue lines.field bare field key
  pub is_value : value ≡ value_of lines key field

-- Its KEY is told, and its answer is right of its value, if that is a text of digits. Where the KEY is too long, that is the answer.
pub record AnswersLine (lines : Lines) (terms : Terms) (text : List ℕ) (entry : Entry) : Type 0 where
  pub value : Value
  pub key : Option (List ℕ)
  pub is : IsOfLine lines text value key
  pub key_told : KeyTold entry key
  pub lost_told : HasLostKey entry.key → (entry.answer ≡ answer.LongKey) ⊎ (entry.answer ≡ answer.Checked found.OutOfMemory)
  pub right : IsCounted lines.spelling.form text → IsFor terms.rules terms.most entry.key.is_lost value entry.answer

-- This is the record of the line at the front of some bytes, and `rest` is what is behind it: a text, and the byte that ends it.
-- The last line of an input may have no end, and is then not empty. Both are what is handed on of it.
pub record LineOf (lines : Lines) (terms : Terms) (bytes : List ℕ) (entry : Entry) (rest : List ℕ) : Type 0 where
  pub text : List ℕ
  pub tail : List ℕ
  pub split : bytes ≡ (text ++ tail) ++ rest
  pub none : HasNone (end_of lines) text
  pub is : (tail ≡ end_of lines ∷ []) ⊎ ((tail ≡ []) × (0 < length text) × (rest ≡ []))
  pub answers : AnswersLine lines terms text entry
  pub held : HandsOn terms entry (text ++ tail)

-- ---- as it is read

-- the value of a line came, if it is a text of digits, and its KEY
pub record LineCame (lines : Lines) (text : List ℕ) (r : Reading) : Type 0 where
  pub bare : List ℕ
  pub is_bare : IsBare lines text bare
  pub field : List ℕ
  pub key : Option (List ℕ)
  pub is_field : IsValue lines.field bare field key
  pub came : IsCounted lines.spelling.form text → Came r (value_in lines.spelling field)
  pub key_is : IsKeyOf r.key key
  pub stopped : HasLostKey r.key → HasStopped r

-- the field that is the value came, and the KEY beside it
pub record FieldCame (lines : Lines) (line : List ℕ) (old new : Reading) : Type 0 where
  pub field : List ℕ
  pub key : Option (List ℕ)
  pub is_field : IsValue lines.field line field key
  pub came : IsReady old lines.spelling.form → IsCounted lines.spelling.form line → Came new (value_in lines.spelling field)
  pub key_is : HasNoKey old.key → IsKeyOf new.key key
  pub stopped : HasNoKey old.key → HasLostKey new.key → HasStopped new

-- bytes of a line were taken, without a line end
pub record TakesText (lines : Lines) (s next : Stretch) (from now : Arriving) (old new : Record) : Type 0 where
  pub text : List ℕ
  pub took : Took from now text
  pub none : HasNone (end_of lines) text
  pub held : HoldsMore old new text
  pub on : (line : List ℕ) → IsOn lines (end_of lines) s line from old → IsOn lines (end_of lines) next (line ++ text) now new

-- the first ones of one that is not short
pub record TakesFirst (lines : Lines) (s : Stretch) (from now : Arriving) (r : Record) : Type 0 where
  pub text : List ℕ
  pub took : Took from now text
  pub none : HasNone (end_of lines) text
  pub long : room_size ≤ length text + 1
  pub held : Holds r text
  pub on : IsOn lines (end_of lines) s text now r

-- the last bytes of a line were taken, with its end; or the input ended
pub record TakesRest (lines : Lines) (s : Stretch) (from now : Arriving) (old new : Record) : Type 0 where
  pub text : List ℕ
  pub tail : List ℕ
  pub took : Took from now (text ++ tail)
  pub none : HasNone (end_of lines) text
  pub is : (tail ≡ end_of lines ∷ []) ⊎ ((tail ≡ []) × IsOver now)
  pub held : HoldsMore old new (text ++ tail)
  pub ends : (line : List ℕ) → IsOn lines (end_of lines) s line from old → LineNamed lines (line ++ text) new.reading

abbrev pub StretchTakes : (lines : Lines) → Stretch → (from now : Arriving) → (old new : Record) → Option Stretch → Type 0
StretchTakes lines s from now old new (Some next) = TakesText lines s next from now old new
StretchTakes lines s from now old new None = TakesRest lines s from now old new

-- a line was taken
pub record TakesLine (lines : Lines) (from now : Arriving) (r : Record) : Type 0 where
  pub text : List ℕ
  pub tail : List ℕ
  pub took : Took from now (text ++ tail)
  pub none : HasNone (end_of lines) text
  pub is : (tail ≡ end_of lines ∷ []) ⊎ ((tail ≡ []) × (0 < length text) × IsOver now)
  pub came : LineCame lines text r.reading
  pub held : Holds r (text ++ tail)

-- where a reader of lines may end one in the KEY that is kept, that is the answer
abbrev pub JudgesKey : Lines → (old new : Reading) → Type 0
JudgesKey lines old new = new ≡ (if not lines.zero && ends_lines old.key then record old { answer = Some answer.LineEndInKey } else old)

-- the record that was read ended, behind that
pub record LineEnds (lines : Lines) (old new : Clerk) (before after told_before told_after : SinkState) : Type 0 where
  pub reading : Reading
  pub judges : JudgesKey lines old.current.reading reading
  pub passed : Bool
  pub closes : Closes (record old { current = record old.current { reading = reading } }) new before after told_before told_after passed

abbrev pub LineEndsTo : {S T : Type 0} → (S → Option (List ℕ)) → (S → Bool) → (T → Option (List ℕ)) → (T → Bool) → Lines → (old new : Clerk) → (before after : S) → (told_before told_after : T) → Type 0
LineEndsTo gone_out has_failed told_out told_failed lines old new before after told_before told_after =
    LineEnds lines old new (sink_state (gone_out before) (has_failed before)) (sink_state (gone_out after) (has_failed after))
    (sink_state (told_out told_before) (told_failed told_before)) (sink_state (told_out told_after) (told_failed told_after))
