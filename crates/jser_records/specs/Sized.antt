-- Records behind their length: a line that ends in it, so many bytes, and a line end; or a line that ends in -1, and nothing behind
-- it.
use Rattle.std.specs.Prelude.{ℕ, ◌≡◌, ◌≢◌, ◌⊎◌, ◌≤◌, ◌<◌, ◌+◌, ◌^◌, ◌==◌, ◌&&◌, not, if◌then◌else◌, Bool, true, false, List, [], ◌∷◌, ◌++◌, length, take, Option, Some, None}
use Rattle.std.specs.Io.KnownBytes.{IsAtEnd}
use Rattle.jser_prim.specs.Outgoing.{SinkState, sink_state}
use Rattle.jser_scan.specs.declared.Found.TheVariants as found
use Rattle.jser_records.specs.declared.answer.Answer.{Answer}
use Rattle.jser_records.specs.declared.answer.Answer.TheVariants as answer
use Rattle.jser_records.specs.declared.clerk.Clerk.{Clerk}
use Rattle.jser_records.specs.declared.header.Header.{Header}
use Rattle.jser_records.specs.declared.reading.Reading.{Reading}
use Rattle.jser_records.specs.declared.sized.LineEnd.{LineEnd}
use Rattle.jser_records.specs.declared.sized.LineEnd.TheVariants as line_end
use Rattle.jser_records.specs.Arriving.{Arriving, HasNone, IsBefore, room_size}
use Rattle.jser_records.specs.Headers.{IsHead, IsHeader, SaysLength, SaysNone, SaysNull, is_error, is_reply}
use Rattle.jser_records.specs.Held.{Keeps, Terms, passes}
use Rattle.jser_records.specs.LineEnds.{has_line_end}
use Rattle.jser_records.specs.Keys.{key_if}
use Rattle.jser_records.specs.Readings.{HasLost, HasPlain, IsFor, Value, none, plain, text_of, cut_at, unknown, parted, failed}
use Rattle.jser_records.specs.Told.{Entry, Event, HandsOn, KeyTold, SaysAll, ended, behind, passed_over}

-- Where reading is: at a line; at the line end behind a value, which passed or did not; or where nobody knows what comes next.
pub data At : Type 0 where
  at_line : At
  at_line_end : Bool → At
  at_loss : At

-- a line without the carriage return at its end
abbrev pub WithoutReturn : (text line : List ℕ) → Type 0
WithoutReturn text line = (text ≡ line ++ (0x0D ∷ [])) ⊎ ((line ≡ text) × ((front : List ℕ) → text ≡ front ++ (0x0D ∷ []) → ⊥))

-- A line at the front of some bytes, with its end. The last line of an input may have no end, and is then not empty.
pub record FirstLine (bytes line head rest : List ℕ) : Type 0 where
  pub text : List ℕ
  pub tail : List ℕ
  pub both : head ≡ text ++ tail
  pub split : bytes ≡ head ++ rest
  pub clean : HasNone 0x0A text
  pub is : (tail ≡ 0x0A ∷ []) ⊎ ((tail ≡ []) × (0 < length text) × (rest ≡ []))
  pub bare : WithoutReturn text line

-- a line end; or the input ends
pub record LineEndOf (bytes end rest : List ℕ) : Type 0 where
  pub split : bytes ≡ end ++ rest
  pub is : (end ≡ 0x0A ∷ []) ⊎ ((end ≡ 0x0D ∷ 0x0A ∷ []) ⊎ ((end ≡ []) × (rest ≡ [])))

-- these bytes begin with something else, and are not at the end of the input
pub record HasNoLineEnd (bytes : List ℕ) : Type 0 where
  pub some : bytes ≢ []
  pub no_feed : (rest : List ℕ) → bytes ≢ 0x0A ∷ rest
  pub no_both : (rest : List ℕ) → bytes ≢ 0x0D ∷ 0x0A ∷ rest

-- no line ends within as many bytes as may wait
pub record IsTooLong (bytes : List ℕ) : Type 0 where
  pub first : List ℕ
  pub rest : List ℕ
  pub split : bytes ≡ first ++ rest
  pub long : length first ≡ room_size
  pub clean : HasNone 0x0A first

-- the bytes of a value behind its line, and what is behind them
abbrev pub IsSized : (line key : List ℕ) → Value → (bytes rest : List ℕ) → Type 0
IsSized line key none bytes rest = IsHead line × SaysNull line key × (bytes ≡ [])
IsSized line key (plain value) bytes rest = IsHead line × SaysLength line key (length value) × (bytes ≡ value)
IsSized line key (text_of form mark text) bytes rest = ⊥
IsSized line key (cut_at at total) bytes rest = IsHead line × SaysLength line key total × (length bytes ≡ at) × (at < total) × (rest ≡ [])
IsSized line key unknown bytes rest = ⊥
IsSized line key parted bytes rest = ⊥
IsSized line key failed bytes rest = (has_line_end line ≡ false) × (is_error line ≡ true) × (key ≡ []) × (bytes ≡ [])

-- where reading is behind such a value
abbrev pub next_at : Value → (passed : Bool) → At
next_at none passed = at_line
next_at (plain value) passed = at_line_end passed
next_at (text_of form mark text) passed = at_loss
next_at (cut_at at total) passed = at_line_end passed
next_at unknown passed = at_loss
next_at parted passed = at_loss
next_at failed passed = at_line

-- The record of the line and the value at the front of these bytes: its answer is right of its value, its KEY is told, and both
-- are what is handed on of it.
pub record SizedOf (terms : Terms) (bytes : List ℕ) (entry : Entry) (to : At) (rest : List ℕ) : Type 0 where
  pub line : List ℕ
  pub head : List ℕ
  pub key : List ℕ
  pub value : Value
  pub body : List ℕ
  pub first : FirstLine bytes line head (body ++ rest)
  pub is : IsSized line key value body rest
  pub next : to ≡ next_at value (passes entry.answer)
  pub right : IsFor terms.rules terms.most entry.key.is_lost value entry.answer
  pub key_told : KeyTold entry (key_if key)
  pub held : HandsOn terms entry (head ++ body)

-- Where a length should be there is none, or no line end behind a value, or a reader of lines may end one in the line before a value:
-- nobody knows what the rest is.
pub record LossOf (terms : Terms) (value : Value) (bytes : List ℕ) (entry : Entry) (to : At) (rest : List ℕ) : Type 0 where
  pub next : to ≡ at_loss
  pub none_taken : rest ≡ bytes
  pub right : IsFor terms.rules terms.most entry.key.is_lost value entry.answer
  pub no_key : entry.key.is_there ≡ false

-- a line that should say a length and says none
pub record HasNoLength (bytes : List ℕ) : Type 0 where
  pub line : List ℕ
  pub head : List ℕ
  pub rest : List ℕ
  pub first : FirstLine bytes line head rest
  pub is_head : IsHead line
  pub says : SaysNone line × (is_reply line ≡ false)

-- a line in which a reader of lines may end one
pub record HasParted (bytes : List ℕ) : Type 0 where
  pub line : List ℕ
  pub head : List ℕ
  pub rest : List ℕ
  pub first : FirstLine bytes line head rest
  pub parts : has_line_end line ≡ true

-- a line that is no record
pub record ReplyOf (bytes head : List ℕ) (to : At) (rest : List ℕ) : Type 0 where
  pub line : List ℕ
  pub first : FirstLine bytes line head rest
  pub is_head : IsHead line
  pub says : SaysNone line × (is_reply line ≡ true)
  pub next : to ≡ at_line

-- What an event is of the bytes at the front of some: `to` is where reading is then, and `rest` is what is behind them. The line
-- end behind a value is handed on with it, if the value passed.
abbrev pub SizedPart : Terms → At → (bytes : List ℕ) → Event → (to : At) → (rest : List ℕ) → Type 0
SizedPart terms at_line bytes (ended entry) to rest =
    SizedOf terms bytes entry to rest
    ⊎ ((LossOf terms unknown bytes entry to rest × (HasNoLength bytes ⊎ IsTooLong bytes)) ⊎ (LossOf terms parted bytes entry to rest × HasParted bytes))
SizedPart terms at_line bytes (behind some) to rest = ⊥
SizedPart terms at_line bytes (passed_over some) to rest = ReplyOf bytes some to rest
SizedPart terms (at_line_end passed) bytes (ended entry) to rest = LossOf terms unknown bytes entry to rest × HasNoLineEnd bytes
SizedPart terms (at_line_end passed) bytes (behind some) to rest = (passed ≡ true) × LineEndOf bytes some rest × (to ≡ at_line)
SizedPart terms (at_line_end passed) bytes (passed_over some) to rest = (passed ≡ false) × LineEndOf bytes some rest × (to ≡ at_line)
SizedPart terms at_loss bytes event to rest = ⊥

-- ---- as they are read

-- the line with its end that waits, of so many bytes, and what it says
pub record HeadWaits (a : Arriving) (size : ℕ) (header : Header) : Type 0 where
  pub line : List ℕ
  pub text : List ℕ
  pub tail : List ℕ
  pub both : take size a.waiting ≡ text ++ tail
  pub clean : HasNone 0x0A text
  pub is : (tail ≡ 0x0A ∷ []) ⊎ ((tail ≡ []) × (0 < length text) × (length a.waiting ≤ size) × IsAtEnd a.to_come)
  pub bare : WithoutReturn text line
  pub says : IsHeader line header

-- so many bytes are a line, with an end of so many; or all that is left
pub record LineWaits (a : Arriving) (count end : ℕ) : Type 0 where
  pub few : count + end < 2 ^ 64
  pub clean : HasNone 0x0A (take count a.waiting)
  pub is : ((end ≡ 1) × IsBefore 0x0A a.waiting count) ⊎ ((end ≡ 0) × (0 < length a.waiting) × (length a.waiting ≤ count) × IsAtEnd a.to_come)

-- no byte of a value came so far, or its KEY is too long
pub record HasBegun (r : Reading) : Type 0 where
  pub plain : HasPlain r [] ⊎ HasLost r
  pub open_so_far : (r.answer ≡ None) ⊎ ((r.answer ≡ Some (answer.Checked found.OutOfMemory)) ⊎ HasLost r)

-- this is answered where nobody knows what comes next
abbrev pub IsLoss : Value → Answer → Type 0
IsLoss none a = ⊥
IsLoss (plain bytes) a = ⊥
IsLoss (text_of form mark text) a = ⊥
IsLoss (cut_at at total) a = ⊥
IsLoss unknown a = a ≡ answer.NoLength
IsLoss parted a = a ≡ answer.LineEndInKey
IsLoss failed a = ⊥

-- A record ended, behind which nobody knows what comes.
pub record TellsLoss (value : Value) (old new : Clerk) (before after told_before told_after : SinkState) : Type 0 where
  pub entry : Entry
  pub says : SaysAll old new before after told_before told_after (ended entry ∷ [])
  pub right : IsFor old.current.reading.judge.rules old.current.reading.most entry.key.is_lost value entry.answer
  pub no_key : entry.key.is_there ≡ false
  pub keeps : Keeps old.current new.current

abbrev pub TellsLossTo : {S T : Type 0} → (S → Option (List ℕ)) → (S → Bool) → (T → Option (List ℕ)) → (T → Bool) → Value → (old new : Clerk) → (before after : S) → (told_before told_after : T) → Type 0
TellsLossTo gone_out has_failed told_out told_failed value old new before after told_before told_after =
    TellsLoss value old new (sink_state (gone_out before) (has_failed before)) (sink_state (gone_out after) (has_failed after))
    (sink_state (told_out told_before) (told_failed told_before)) (sink_state (told_out told_after) (told_failed told_after))

-- what is behind a value, by the bytes that wait there
abbrev pub line_end_at : List ℕ → (is_over : Bool) → LineEnd
line_end_at [] is_over = if is_over then line_end.There 0 else line_end.Awaited
line_end_at (c ∷ []) is_over = if c == 0x0A then line_end.There 1 else (if c == 0x0D && not is_over then line_end.Awaited else line_end.Missing)
line_end_at (c ∷ d ∷ rest) is_over = if c == 0x0A then line_end.There 1 else (if c == 0x0D && d == 0x0A then line_end.There 2 else line_end.Missing)
