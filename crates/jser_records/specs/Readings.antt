-- What was found of the bytes of a record, and of the text that spells them.
use Rattle.std.specs.Prelude.{ℕ, ◌≡◌, ◌⊎◌, ◌+◌, ◌-◌, ◌^◌, ◌≤◌, ◌<◌, min, Bool, true, false, if◌then◌else◌, List, [], ◌∷◌, ◌++◌, length, Option, Some, None, IfSome}
use Rattle.jser_inputs.specs.declared.Form.{Form}
use Rattle.jser_inputs.specs.declared.Form.TheVariants as form
use Rattle.jser_inputs.specs.declared.place.Place.TheVariants as place
use Rattle.jser_inputs.specs.declared.InputFault.{InputFault}
use Rattle.jser_inputs.specs.Decoding.{TextRead, misspelled}
use Rattle.jser_inputs.specs.Places.{first_spot, is_wrong}
use Rattle.jser_inputs.specs.Spelled.{Reads, no_byte, right_until, spelled, spelling_of}
use Rattle.jser_scan.specs.declared.Found.{Found}
use Rattle.jser_scan.specs.declared.Found.TheVariants as found
use Rattle.jser_scan.specs.declared.Rules.{Rules}
use Rattle.jser_scan.specs.Lines.{is_accepted}
use Rattle.jser_records.specs.declared.answer.Answer.{Answer}
use Rattle.jser_records.specs.declared.answer.Answer.TheVariants as answer
use Rattle.jser_records.specs.declared.layout.Spelling.{Spelling}
use Rattle.jser_records.specs.declared.reading.Reading.{Reading}
use Rattle.jser_records.specs.Keys.{HasAdded, HasNoRoom}
use Rattle.jser_records.specs.Judged.{HasJudged, IsRead, IsSound, Judging}
use Rattle.jser_records.specs.Texts.{behind_mark, characters_in, is_null, mark_in}

-- What is answered of a record whose value is these bytes is right of them. Where a check answers, it is that of these bytes,
-- and none with more than `most` bytes is accepted, or said to be longer where it is not.
abbrev pub IsRight : Rules → (most : ℕ) → List ℕ → Answer → Type 0
IsRight rules most bytes (answer.Checked result) = IsSound rules bytes result × (is_accepted result ≡ true → length bytes ≤ most)
IsRight rules most bytes answer.Null = ⊥
IsRight rules most bytes (answer.Longer limit) = (limit ≡ most) × (most < length bytes)
IsRight rules most bytes answer.LongKey = ⊥
IsRight rules most bytes answer.LineEndInKey = ⊥
IsRight rules most bytes (answer.Cut at total) = ⊥
IsRight rules most bytes answer.ErrorReply = ⊥
IsRight rules most bytes answer.NoLength = ⊥

-- no text is wrong where there is none
abbrev pub IsOfBytes : Answer → Type 0
IsOfBytes (answer.Checked result) = IsRead result
IsOfBytes answer.Null = Unit {0}
IsOfBytes (answer.Longer most) = Unit {0}
IsOfBytes answer.LongKey = Unit {0}
IsOfBytes answer.LineEndInKey = Unit {0}
IsOfBytes (answer.Cut at total) = Unit {0}
IsOfBytes answer.ErrorReply = Unit {0}
IsOfBytes answer.NoLength = Unit {0}

-- ---- the bytes that came of a value

-- the check took them all, and there is room for more as long as `most` allows
pub record Going (judge : Judging) (most room : ℕ) (bytes : List ℕ) : Type 0 where
  pub judged : HasJudged judge bytes
  pub counted : length bytes + room ≡ most

-- as long as nothing is answered, the check goes on; and what is answered is right of them, whatever comes behind them
pub record Stands (judge : Judging) (most room : ℕ) (result : Option Answer) (bytes : List ℕ) : Type 0 where
  pub going : result ≡ None → Going judge most room bytes
  pub answered : IfSome result (λ a. (more : List ℕ) → IsRight judge.rules most (bytes ++ more) a)

abbrev pub HasRead : Reading → List ℕ → Type 0
HasRead r bytes = Stands r.judge r.most r.room r.answer bytes

-- ---- the text that came of a value

-- a form in which characters spell bytes
abbrev pub IsOfDigits : Form → Type 0
IsOfDigits form.Binary = ⊥
IsOfDigits form.Hex = Unit {0}
IsOfDigits form.Base64 = Unit {0}
IsOfDigits form.Base64Url = Unit {0}

-- the greatest place that is told
abbrev pub most_place : ℕ
most_place = 2 ^ 64 - 1

-- The text goes wrong, at the first character behind which no text of its form can go on; `mark` characters are before it.
pub record GoesWrong (form : Form) (mark : ℕ) (text : List ℕ) (why : InputFault) : Type 0 where
  pub place : why ≡ misspelled form (min (mark + right_until (first_spot form) text) most_place)
  pub front : List ℕ
  pub wrong : spelling_of form text ≡ front ++ (no_byte ∷ [])

abbrev pub IsPlacedIn : Form → (mark : ℕ) → List ℕ → Found → Type 0
IsPlacedIn form mark text (found.Accepted totals) = Unit {0}
IsPlacedIn form mark text (found.Refused refusal class) = Unit {0}
IsPlacedIn form mark text (found.Hidden from to class) = Unit {0}
IsPlacedIn form mark text found.NotOpened = Unit {0}
IsPlacedIn form mark text (found.NotRead why) = GoesWrong form mark text why
IsPlacedIn form mark text found.OutOfMemory = Unit {0}

-- where it is answered that a text goes wrong, it does there
abbrev pub IsPlaced : Form → (mark : ℕ) → List ℕ → Answer → Type 0
IsPlaced form mark text (answer.Checked result) = IsPlacedIn form mark text result
IsPlaced form mark text answer.Null = Unit {0}
IsPlaced form mark text (answer.Longer most) = Unit {0}
IsPlaced form mark text answer.LongKey = Unit {0}
IsPlaced form mark text answer.LineEndInKey = Unit {0}
IsPlaced form mark text (answer.Cut at total) = Unit {0}
IsPlaced form mark text answer.ErrorReply = Unit {0}
IsPlaced form mark text answer.NoLength = Unit {0}

-- that is answered where a text was read to a wrong place
abbrev pub IsWrongIn : TextRead → Answer → Type 0
IsWrongIn decoder a = (a ≡ answer.Checked (found.NotRead (misspelled decoder.form decoder.at))) × (is_wrong decoder.spot.place ≡ true)

-- It spells bytes that came, whatever comes behind it. As long as nothing is answered, those are all that it spells so far.
pub record Spells (judge : Judging) (most room : ℕ) (result : Option Answer) (decoder : TextRead) (form : Form) (mark : ℕ) (text : List ℕ) : Type 0 where
  pub bytes : List ℕ
  pub stands : Stands judge most room result bytes
  pub begins : (more : List ℕ) → (rest : List ℕ) × (spelled (first_spot form) (text ++ more) ≡ bytes ++ rest)
  pub count : ℕ
  pub reads : result ≡ None → Reads (first_spot form) decoder.spot text [] bytes count
  pub right : result ≡ None → is_wrong decoder.spot.place ≡ false
  pub form_is : result ≡ None → decoder.form ≡ form
  pub at : result ≡ None → decoder.at ≡ min (mark + count) most_place
  pub placed : IfSome result (λ a. (more : List ℕ) → IsPlaced form mark (text ++ more) a)

abbrev pub HasSpelled : Reading → Form → (mark : ℕ) → List ℕ → Type 0
HasSpelled r form mark text = Spells r.judge r.most r.room r.answer r.decoder form mark text

-- it is read under the rules and the limit of before
pub record KeepsRules (old new : Reading) : Type 0 where
  pub rules : new.judge.rules ≡ old.judge.rules
  pub most : new.most ≡ old.most

-- ---- a record that is read

-- The value of a record: none, or bytes as they are, or those that a text spells, behind a mark of so many characters; or the input
-- ends in it, behind so many bytes of all; or nobody knows which bytes it has; or a reader of lines may end one in its KEY, so that
-- others find other records there; or a server's error stands in its place.
pub data Value : Type 0 where
  none : Value
  plain : List ℕ → Value
  text_of : Form → (mark : ℕ) → List ℕ → Value
  cut_at : (at total : ℕ) → Value
  unknown : Value
  parted : Value
  failed : Value

-- what is answered of this value
abbrev pub IsOf : Rules → (most : ℕ) → Value → Answer → Type 0
IsOf rules most none a = a ≡ answer.Null
IsOf rules most (plain bytes) a = IsRight rules most bytes a × IsOfBytes a
IsOf rules most (text_of form mark text) a = IsRight rules most (spelling_of form text) a × IsPlaced form mark text a
IsOf rules most (cut_at at total) a = a ≡ answer.Cut at total
IsOf rules most unknown a = a ≡ answer.NoLength
IsOf rules most parted a = a ≡ answer.LineEndInKey
IsOf rules most failed a = a ≡ answer.ErrorReply

-- so it is, unless there is no memory, or the KEY is too long
abbrev pub IsFor : Rules → (most : ℕ) → (is_lost : Bool) → Value → Answer → Type 0
IsFor rules most is_lost value a = IsOf rules most value a ⊎ ((a ≡ answer.Checked found.OutOfMemory) ⊎ ((a ≡ answer.LongKey) × (is_lost ≡ true)))

-- all bytes came of a value that is no text
pub record HasPlain (r : Reading) (bytes : List ℕ) : Type 0 where
  pub read : HasRead r bytes
  pub place : r.decoder.spot.place ≡ place.Bytes
  pub is_of : IfSome r.answer IsOfBytes

-- it is known from the beginning that there are more bytes in all than are read
pub record IsLonger (r : Reading) (total : ℕ) : Type 0 where
  pub longer : r.answer ≡ Some (answer.Longer r.most)
  pub more : r.most < total
  pub place : r.decoder.spot.place ≡ place.Bytes

-- its KEY is too long
pub record HasLost (r : Reading) : Type 0 where
  pub long : r.answer ≡ Some answer.LongKey
  pub lost : r.key.is_lost ≡ true
  pub place : r.decoder.spot.place ≡ place.Bytes

-- they came so far
abbrev pub Counts : Reading → (total : ℕ) → List ℕ → Type 0
Counts r total bytes = HasPlain r bytes ⊎ (IsLonger r total ⊎ HasLost r)

-- the value of the record that is read came
abbrev pub HasCome : Reading → Value → Type 0
HasCome r none = r.answer ≡ Some answer.Null
HasCome r (plain bytes) = HasPlain r bytes
HasCome r (text_of form mark text) = HasSpelled r form mark text
HasCome r (cut_at at total) = r.answer ≡ Some (answer.Cut at total)
HasCome r unknown = r.answer ≡ Some answer.NoLength
HasCome r parted = r.answer ≡ Some answer.LineEndInKey
HasCome r failed = r.answer ≡ Some answer.ErrorReply

-- no more of it is read: there is no memory, or the KEY is too long
abbrev pub HasStopped : Reading → Type 0
HasStopped r = (r.answer ≡ Some (answer.Checked found.OutOfMemory)) ⊎ ((r.answer ≡ Some answer.LongKey) × (r.key.is_lost ≡ true))

abbrev pub Came : Reading → Value → Type 0
Came r value = HasCome r value ⊎ HasStopped r

-- the value that a field is, written so: none, or what its characters spell, behind their mark
abbrev pub value_in : Spelling → List ℕ → Value
value_in written field =
    if is_null field then none else text_of written.form (mark_in written.form field) (characters_in written.copy (behind_mark written.form field))

-- a text of digits, of no more characters than a machine counts
pub record IsCounted (form : Form) (text : List ℕ) : Type 0 where
  pub few : length text < 2 ^ 63
  pub digits : IsOfDigits form

-- more of its KEY came, which did not change what is answered; or the KEY is too long, and that is the answer
abbrev pub AddsKey : (old new : Reading) → List ℕ → Type 0
AddsKey old new bytes =
    ((new ≡ record old { key = new.key }) × HasAdded old.key new.key bytes)
    ⊎ ((new ≡ record old { key = new.key; answer = Some answer.LongKey }) × HasNoRoom old.key new.key bytes)

-- no character of a value in this form came so far; or it is answered why there is none
abbrev pub IsReady : Reading → Form → Type 0
IsReady r form =
    ((r.answer ≡ None) × HasSpelled r form 0 []) ⊎ HasStopped r
