-- What a visitor is shown: the items of the tokens, one after another.
use denote.Bor.{Bor}
use Rattle.std.specs.Prelude.{◌≡◌, ◌⊎◌, ℕ, zero, suc, ◌+◌, ◌-◌, ◌<◌, List, [], ◌∷◌, ◌++◌, length, Option, Some, None}
use Rattle.jser_grammar.specs.Wire.{TC_REFERENCE, TC_STRING}
use Rattle.jser_reading.specs.Labels.{StreamToken, Label, Piece, piece}
use Rattle.jser_reading.specs.TokenBytes.{bytes_of, joined}
use Rattle.jser_reading.specs.Accepts.{Accepts}
use Rattle.jser_reading.specs.ComesNext.{ComesNext}
use Rattle.jser_verdict.specs.Gates.{Gate}
use Rattle.jser_reader.specs.declared.item.Field.{Field}
use Rattle.jser_reader.specs.declared.item.Item.{Item}
use Rattle.jser_reader.specs.declared.item.Item.TheVariants as item
use Rattle.jser_reader.specs.declared.item.Whole.{Whole}
use Rattle.jser_reader.specs.declared.item.Whole.TheVariants as whole
use Rattle.jser_reader.specs.declared.tally.Tally.{Tally}
use Rattle.jser_reader.specs.declared.visit.Whereabouts.{Whereabouts}
use Rattle.jser_reader.specs.Items.{items_at, IsLent, first_size}
use Rattle.jser_reader.specs.Readers.{Seen}
use Rattle.jser_reader.specs.ItemsTold.{StandsIn, MayGoOn}

-- a spot in a stream: whole tokens, and some bytes of the next one
pub record Spot : Type 0 where
  pub front : List Piece
  pub cut : List ℕ

abbrev pub bytes_at : Spot → List ℕ
bytes_at at = joined at.front ++ at.cut

-- these are all bytes of the next token
pub record EndsToken (at : Spot) (label : Label) (bytes : List ℕ) (to : Spot) : Type 0 where
  pub token : StreamToken
  pub spelled : bytes_of token ≡ bytes
  pub accepted : Accepts label token
  pub front_is : to.front ≡ at.front ++ (piece label token ∷ [])
  pub cut_is : to.cut ≡ []

-- these are bytes of the next token, and others are to come
pub record StaysInToken (at : Spot) (bytes : List ℕ) (lent : Item) (to : Spot) : Type 0 where
  pub may : MayGoOn lent (Unit {0})
  pub front_is : to.front ≡ at.front
  pub cut_is : to.cut ≡ bytes

-- an item of the next token, which ends the token or the token goes on
pub record IsNext (at : Spot) (lent : Item) (to : Spot) : Type 0 where
  pub label : Label
  pub comes : ComesNext at.front label
  pub taken : List ℕ
  pub some : 0 < length taken
  pub is : IsLent (items_at label.position) at.cut taken lent
  pub after : EndsToken at label (at.cut ++ taken) to ⊎ StaysInToken at (at.cut ++ taken) lent to

-- bytes that make no item yet
pub record IsShort (at to : Spot) : Type 0 where
  pub label : Label
  pub comes : ComesNext at.front label
  pub taken : List ℕ
  pub some : 0 < length taken
  pub short : length (at.cut ++ taken) < first_size (items_at label.position)
  pub front_is : to.front ≡ at.front
  pub cut_is : to.cut ≡ at.cut ++ taken

-- A reader stands there that takes no more in this call: all bytes are taken, or as many as the gate allows.
pub record EndsCall (gate : Gate) (all : ℕ) (at : Spot) : Type 0 where
  pub reader : Seen
  pub tally : Tally
  pub reads : StandsIn gate at.front at.cut reader tally
  pub at_end : (length (bytes_at at) ≡ all) ⊎ (length (bytes_at at) ≡ gate.bytes)

-- The next item is shown, with its whereabouts: so many handles of the epoch are assigned before its token, and so many bytes are taken up
-- to its end. A part of a token that goes on is the last item of the call, which takes `all` bytes at most.
pub record IsShown (gate : Gate) (all : ℕ) (at : Spot) (lent : Item) (whereabouts : Whereabouts) (to : Spot) : Type 0 where
  pub next : IsNext at lent to
  pub handles : (label : Label) → ComesNext at.front label → length label.moment.table ≡ whereabouts.handles
  pub end : whereabouts.end ≡ length (bytes_at to)
  pub full : (to.cut ≡ []) ⊎ MayGoOn lent (EndsCall gate all to)

-- A visitor took the items from one spot to another, each once and in their order.
pub data Visited {S : Type 0} (takes : Item → Whereabouts → S → S → Type 0) (gate : Gate) (all : ℕ) (from : Spot) (x : S) : Spot → S → Type 0 where
  visited_none : Visited takes gate all from x from x
  visited_item : {at to : Spot} {y z : S} (lent : Item) (whereabouts : Whereabouts) → Visited takes gate all from x at y → IsShown gate all at lent whereabouts to
      → takes lent whereabouts y z → Visited takes gate all from x to z
  visited_short : {at to : Spot} {y : S} → Visited takes gate all from x at y → IsShort at to → length (bytes_at to) ≡ all → Visited takes gate all from x to y

-- ---- the items of a value that is lent at once

-- an item with its whereabouts
pub record Shown : Type 0 where
  pub lent : Item
  pub whereabouts : Whereabouts

abbrev pub shown : Item → (handles end : ℕ) → Shown
shown lent handles end = record { lent = lent; whereabouts = record { handles = handles; end = end } }

-- A visitor took these items, one after another.
abbrev pub TakesAll : {S : Type 0} (takes : Item → Whereabouts → S → S → Type 0) → List Shown → S → S → Type 0
TakesAll takes [] x y = y ≡ x
TakesAll {S = S} takes (one ∷ more) x y = (z : S) × takes one.lent one.whereabouts x z × TakesAll takes more z y

-- A visitor stopped at one of these items, and took those before it.
abbrev pub StopsAmong : {S F : Type 0} (takes : Item → Whereabouts → S → S → Type 0) (stops : Item → F → S → S → Type 0) → List Shown → F → S → S → Type 0
StopsAmong takes stops [] fault x y = ⊥
StopsAmong {S = S} takes stops (one ∷ more) fault x y =
    stops one.lent fault x y ⊎ ((z : S) × takes one.lent one.whereabouts x z × StopsAmong takes stops more fault z y)

-- the bytes of a text, if it has any
abbrev pub part_items : Bor (List ℕ) → (handles end size : ℕ) → List Shown
part_items text handles end zero = []
part_items text handles end (suc n) = shown (item.TextPart text) handles end ∷ []

-- the handle of a string is assigned with its tag
abbrev pub string_items : Bor (List ℕ) → (handles end : ℕ) → List Shown
string_items text handles end =
    let size = length text.now in
    shown (item.Tag TC_STRING) handles (end - (size + 2)) ∷ (shown (item.TextLength size) (handles + 1) (end - size) ∷ part_items text (handles + 1) end size)

-- The items of a value before which so many handles are assigned, and which ends there.
abbrev pub whole_items : Whole → Whereabouts → List Shown
whole_items (whole.Reference handle) at = shown (item.Tag TC_REFERENCE) at.handles (at.end - 4) ∷ (shown (item.Handle handle) at.handles at.end ∷ [])
whole_items (whole.String text) at = string_items text at.handles at.end
whole_items (whole.Owner tag class) at =
    shown (item.Tag tag) at.handles (at.end - 5) ∷ (shown (item.Tag TC_REFERENCE) at.handles (at.end - 4) ∷ (shown (item.Handle class) at.handles at.end ∷ []))

-- the name of a declared field
abbrev pub name_items : Bor (List ℕ) → (handles end : ℕ) → List Shown
name_items name handles end = let size = length name.now in shown (item.TextLength size) handles (end - size) ∷ part_items name handles end size

-- its type, where that is a reference
abbrev pub type_items : Option ℕ → (handles end : ℕ) → List Shown
type_items None handles end = []
type_items (Some handle) handles end = shown (item.Tag TC_REFERENCE) handles (end - 4) ∷ (shown (item.Handle handle) handles end ∷ [])

abbrev pub type_size : Option ℕ → ℕ
type_size None = 0
type_size (Some handle) = 5

-- The items of a declared field before which so many handles are assigned, and which ends there.
abbrev pub field_items : Field → Whereabouts → List Shown
field_items field at =
    let end = at.end - type_size field.type_handle in
    shown (item.TypeCode field.code) at.handles (end - (length field.name.now + 2))
    ∷ (name_items field.name at.handles end ++ type_items field.type_handle at.handles at.end)

-- how many bytes it has
abbrev pub field_size : Field → ℕ
field_size field = length field.name.now + (3 + type_size field.type_handle)

-- how many bytes it has
abbrev pub whole_size : Whole → ℕ
whole_size (whole.Reference handle) = 5
whole_size (whole.String text) = length text.now + 3
whole_size (whole.Owner tag class) = 6

-- these are the next items that are shown
abbrev pub AreShown : Gate → (all : ℕ) → List Shown → Spot → Spot → Type 0
AreShown gate all [] at to = to ≡ at
AreShown gate all (one ∷ more) at to = (mid : Spot) × IsShown gate all at one.lent one.whereabouts mid × AreShown gate all more mid to
