-- A source over the text of another one.
use Rattle.std.specs.Prelude.{ℕ, ◌≡◌, ◌+◌, ◌-◌, min, [], Bool, if◌then◌else◌, List, Option, Some, None, option_map, ◌≤◌, ◌⊎◌, ◌^◌, true}
use Rattle.jser_inputs.specs.declared.form.Form.{Form}
use Rattle.jser_inputs.specs.declared.form.Form.TheVariants as form
use Rattle.jser_inputs.specs.declared.spot.Spot.{Spot}
use Rattle.jser_inputs.specs.declared.fault.InputFault.{InputFault}
use Rattle.jser_inputs.specs.declared.fault.InputFault.TheVariants as fault
use Rattle.jser_inputs.specs.Places.{is_wrong}
use Rattle.jser_inputs.specs.Spelled.{Reads, spelled, right_until}

-- the form, the text that is still to come of the other source and whether that has failed, where the text is, how many of
-- its characters were right, and whether a call has failed
pub record Decoding : Type 0 where
  pub form : Form
  pub text : Option (List ℕ)
  pub text_failed : Bool
  pub spot : Spot
  pub at : ℕ
  pub has_failed : Bool

-- the bytes that are to come: those that the text spells
abbrev pub bytes_to_come : Decoding → Option (List ℕ)
bytes_to_come a = option_map (spelled a.spot) a.text

-- how many characters of the whole text are right
abbrev pub right_in : Decoding → Option ℕ
right_in a = option_map (λ text. a.at + right_until a.spot text) a.text

-- known numbers stay as they were
abbrev pub KeepsNumber : Option ℕ → Option ℕ → Type 0
KeepsNumber None new = Unit {0}
KeepsNumber (Some n) None = ⊥
KeepsNumber (Some n) (Some m) = m ≡ n

-- why there are no more bytes, of an input in this form: its text goes wrong, or a device failed
abbrev pub misspelled : Form → ℕ → InputFault
misspelled form.Binary at = fault.Failed
misspelled form.Hex at = fault.NotHexadecimal at
misspelled form.Base64 at = fault.NotBase64 at
misspelled form.Base64Url at = fault.NotBase64 at

abbrev pub fault_in : Decoding → InputFault
fault_in a = if is_wrong a.spot.place then misspelled a.form a.at else fault.Failed

-- what a call fails for, and nothing else: its text goes wrong, the source of that failed, or it has some 2^64 characters
abbrev pub HasCause : Decoding → (room : ℕ) → Type 0
HasCause a room = (is_wrong a.spot.place ≡ true) ⊎ ((a.text_failed ≡ true) ⊎ ((2 ^ 64 ≤ a.at + room) ⊎ (2 ^ 64 ≤ a.spot.spare + room)))

-- ---- a text in a buffer of the caller's

-- how far it was read
pub record TextRead : Type 0 where
  pub form : Form
  pub spot : Spot
  pub at : ℕ

-- more characters of it were read, and spell these bytes; `at` counts those that are right
pub record ReadsOn (old new : TextRead) (text out : List ℕ) : Type 0 where
  pub taken : ℕ
  pub reads : Reads old.spot new.spot text [] out taken
  pub counted : new.at ≡ min (old.at + taken) (2 ^ 64 - 1)
  pub form : new.form ≡ old.form

-- what is wrong with the text, if something is
abbrev pub text_fault : TextRead → Option InputFault
text_fault a = if is_wrong a.spot.place then Some (misspelled a.form a.at) else None
