-- Which item the code makes of the bytes of a token, by the phase in which the machine reads it.
use Rattle.std.specs.Prelude.{ℕ, ◌≡◌, List, ◌++◌, length}
use Rattle.jser_reading.specs.TokensFromBytes.{number_of}
use Rattle.jser_reader.specs.declared.item.Item.{Item}
use Rattle.jser_reader.specs.declared.item.Item.TheVariants as item
use Rattle.jser_reader.specs.declared.item.Step.{Step}
use Rattle.jser_reader.specs.declared.item.Step.TheVariants as step
use Rattle.jser_reader.specs.declared.phase.Phase.{Phase}
use Rattle.jser_reader.specs.declared.phase.Phase.TheVariants as phase
use Rattle.jser_reader.specs.Walks.{size_of_phase}
use Rattle.jser_reader.specs.Items.{IsRawPart}

-- the item of a whole token that is the header, a tag or a number
abbrev pub number_item : Phase → ℕ → Item
number_item phase.Top n = item.Tag n
number_item phase.Note n = item.Tag n
number_item phase.Value n = item.Tag n
number_item phase.ClassTag n = item.Tag n
number_item phase.SuperTag n = item.Tag n
number_item phase.TextTag n = item.Tag n
number_item phase.BackHandle n = item.Handle n
number_item phase.ClassHandle n = item.Handle n
number_item phase.SuperHandle n = item.Handle n
number_item phase.TextHandle n = item.Handle n
number_item phase.Length2 n = item.TextLength n
number_item phase.Length8 n = item.TextLength n
number_item phase.Suid n = item.Suid n
number_item phase.Flags n = item.Flags n
number_item phase.FieldCount n = item.FieldCount n
number_item phase.TypeCode n = item.TypeCode n
number_item phase.InterfaceCount n = item.InterfaceCount n
number_item phase.ArrayLength n = item.ArrayLength n
number_item phase.BlockLength1 n = item.BlockLength n
number_item phase.BlockLength4 n = item.BlockLength n
number_item _ n = item.Header

abbrev pub IsTextPart : (taken : List ℕ) → Item → Type 0
IsTextPart taken (item.TextPart part) = part.now ≡ taken
IsTextPart taken _ = ⊥

abbrev pub ItemCases : Phase → (kept taken : List ℕ) → Item → Type 0
ItemCases phase.Text kept taken lent = IsTextPart taken lent
ItemCases phase.Prims kept taken lent = IsRawPart taken lent
ItemCases phase.Bytes kept taken lent = IsRawPart taken lent
ItemCases p kept taken lent = length (kept ++ taken) ≡ size_of_phase p → lent ≡ number_item p (number_of (kept ++ taken))

-- in this phase, after these bytes of the token were kept, this item is made of those that are taken
unfoldable pub MakesItem : Phase → (kept taken : List ℕ) → Item → Type 0
MakesItem p kept taken lent = ItemCases p kept taken lent

abbrev pub StepCases : Phase → (kept taken : List ℕ) → Step → Type 0
StepCases p kept taken (step.Item lent used) = MakesItem p kept taken lent
StepCases p kept taken step.More = ⊥

unfoldable pub MakesStep : Phase → (kept taken : List ℕ) → Step → Type 0
MakesStep p kept taken s = StepCases p kept taken s
