-- Going along the items that a reader lends of a slice of bytes: which tokens they end, and where the reader stands.
use Rattle.std.specs.Prelude.{ℕ, zero, suc, ◌≡◌, ◌≢◌, ◌⊎◌, ◌<◌, Bool, List, [], ◌++◌, length}
use Rattle.jser_prim.specs.ModifiedUtf8.{IsUnits, modified_utf8}
use Rattle.jser_reading.specs.Labels.{StreamToken, text_token, Label, Piece}
use Rattle.jser_reading.specs.TokenBytes.{joined}
use Rattle.jser_reading.specs.TokensFromBytes.{head_size}
use Rattle.jser_reading.specs.ComesNext.{ComesNext}
use Rattle.jser_verdict.specs.Gates.{Gate}
use Rattle.jser_reader.specs.declared.Item.{Item}
use Rattle.jser_reader.specs.declared.Item.TheVariants as item
use Rattle.jser_reader.specs.declared.tally.Tally.{Tally}
use Rattle.jser_reader.specs.Readers.{Seen}
use Rattle.jser_reader.specs.Items.{items_at, text_items}
use Rattle.jser_reader.specs.declared.OpenGate.{OpenGate}
use Rattle.jser_reader.specs.Gates.{open_gate}
use Rattle.jser_reader.specs.ReaderStates.{Reading}
use Rattle.jser_reader.specs.ItemsTold.{StandsIn}
use Rattle.jser_printer.specs.declared.Token.TheVariants as token
use Rattle.jser_printer.specs.Given.{IsOf}
use Rattle.jser_index.specs.declared.part.Part.{Part}
use Rattle.jser_index.specs.declared.part.Part.TheVariants as part

-- the item ends this token
abbrev pub Ends : Item → StreamToken → Type 0
Ends item.Header told = IsOf token.Header told
Ends (item.Tag n) told = IsOf (token.Tag n) told
Ends (item.Handle n) told = IsOf (token.Handle n) told
Ends (item.Suid n) told = IsOf (token.Suid n) told
Ends (item.Flags n) told = IsOf (token.Flags n) told
Ends (item.FieldCount n) told = IsOf (token.FieldCount n) told
Ends (item.InterfaceCount n) told = IsOf (token.InterfaceCount n) told
Ends (item.TypeCode n) told = IsOf (token.TypeCode n) told
Ends (item.ArrayLength n) told = IsOf (token.ArrayLength n) told
Ends (item.BlockLength n) told = IsOf (token.BlockLength n) told
Ends (item.RawPart bytes) told = IsOf (token.Raw bytes) told
Ends (item.TextLength n) (text_token long units) = (n ≡ 0) × (units ≡ [])
Ends (item.TextPart bytes) (text_token long units) = IsUnits units × (modified_utf8 units ≡ bytes.now)
Ends _ told = ⊥

-- the length of a text that goes on
abbrev pub IsLength : Item → Type 0
IsLength (item.TextLength n) = 0 < n
IsLength _ = ⊥

-- an item as a part
abbrev pub IsPartOf : Item → Part → Type 0
IsPartOf item.Header p = p ≡ part.Token token.Header
IsPartOf (item.Tag n) p = p ≡ part.Token (token.Tag n)
IsPartOf (item.Handle n) p = p ≡ part.Token (token.Handle n)
IsPartOf (item.Suid n) p = p ≡ part.Token (token.Suid n)
IsPartOf (item.Flags n) p = p ≡ part.Token (token.Flags n)
IsPartOf (item.FieldCount n) p = p ≡ part.Token (token.FieldCount n)
IsPartOf (item.InterfaceCount n) p = p ≡ part.Token (token.InterfaceCount n)
IsPartOf (item.TypeCode n) p = p ≡ part.Token (token.TypeCode n)
IsPartOf (item.ArrayLength n) p = p ≡ part.Token (token.ArrayLength n)
IsPartOf (item.BlockLength n) p = p ≡ part.Token (token.BlockLength n)
IsPartOf (item.RawPart bytes) p = p ≡ part.Token (token.Raw bytes)
IsPartOf (item.TextPart bytes) p = p ≡ part.Text bytes
IsPartOf (item.TextLength zero) (part.Text bytes) = bytes.now ≡ []
IsPartOf (item.TextLength (suc n)) part.Length = Unit {0}
IsPartOf (item.TextLength n) p = ⊥

-- the token is a text that is spelled by these bytes
abbrev pub IsTextOf : List ℕ → StreamToken → Type 0
IsTextOf bytes (text_token long units) = IsUnits units × (modified_utf8 units ≡ bytes)
IsTextOf bytes told = ⊥

-- the part is this token
abbrev pub PartIs : Part → StreamToken → Type 0
PartIs (part.Token f) told = IsOf f told
PartIs (part.Text bytes) told = IsTextOf bytes.now told
PartIs _ told = ⊥

-- the length of a text was taken, and its bytes come next
pub record InText (front : List Piece) (cut : List ℕ) : Type 0 where
  pub label : Label
  pub comes : ComesNext front label
  pub long : Bool
  pub is_text : items_at label.position ≡ text_items long
  pub size : length cut ≡ head_size long

-- between two tokens, or between the length and the bytes of a text
abbrev pub Between : (front : List Piece) (cut : List ℕ) → Type 0
Between front cut = (cut ≡ []) ⊎ InText front cut

-- nothing more can come of the bytes: they end within a token, or the limit of the gate does
pub record IsStuck (gate : Gate) (front : List Piece) (cut rest : List ℕ) : Type 0 where
  pub some : cut ≢ []
  pub at_end : (rest ≡ []) ⊎ (length (joined front ++ cut) ≡ gate.bytes)

-- so far along the bytes: this holds of the tokens that the reader took; or nothing more can come
abbrev pub Where : Gate → (P : List Piece → Type 0) → (front : List Piece) (cut rest : List ℕ) → Type 0
Where gate P front cut rest = (Between front cut × P front) ⊎ IsStuck gate front cut rest

-- the reader took the first of the bytes: whole tokens, and bytes of the next one
pub record GoesAlong (gate : Gate) (bytes rest : List ℕ) (r : Seen) (tally : Tally) (P : List Piece → Type 0) : Type 0 where
  pub front : List Piece
  pub cut : List ℕ
  pub split : bytes ≡ (joined front ++ cut) ++ rest
  pub stands : StandsIn gate front cut r tally
  pub where_it_is : Where gate P front cut rest

-- a reader under the open gate that has taken nothing
abbrev pub BeginsAt : Reading OpenGate → Type 0
BeginsAt reader = StandsIn open_gate [] [] reader.machine reader.tally
