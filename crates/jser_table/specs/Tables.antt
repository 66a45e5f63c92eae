-- What contracts see of a table of handles: the list of its entries, and how many it may have.
use Rattle.std.specs.Prelude.{codes, ℕ, ◌^◌, slice_get, ◌≡◌, ◌⊎◌, ◌+◌, ◌<◌, ◌≤◌, Bool, true, false, List, [], ◌∷◌, ◌++◌, length, All, count_by, Option, Some, None, Result, Ok, Err}
use Rattle.jser_table.specs.declared.layer.Layer.{Layer}
use Rattle.jser_table.specs.declared.entry.Kind.{Kind}
use Rattle.jser_table.specs.declared.entry.Kind.TheVariants as kind
use Rattle.jser_table.specs.declared.entry.Entry.{Entry}
use Rattle.jser_table.specs.declared.entry.Entry.TheVariants as entry
use Rattle.jser_table.specs.declared.entry.Kept.{Kept}
use Rattle.jser_table.specs.declared.entry.Kept.TheVariants as kept
use Rattle.jser_table.specs.declared.class.Class.{Class}
use Rattle.jser_table.specs.declared.class.Class.TheVariants as class
use Rattle.jser_table.specs.declared.table.TableFault.{TableFault}
use Rattle.jser_table.specs.declared.table.TableFault.TheVariants as fault
use Rattle.jser_table.specs.Entries.{TableEntry, text_entry, other_entry, pending_entry, closed_entry, chain_at}
use Rattle.jser_table.specs.Chains.{chain_in}
use Rattle.jser_table.specs.Stored.{ChainList}

-- a table: what each handle names; the chains of all descriptors that have been closed, in the order in which they were
-- closed; which of these each entry is, if one; and their lines
pub record TableView : Type 0 where
  pub entries : List TableEntry
  pub chains : List (List Layer)
  pub numbers : List (Option ℕ)
  pub lines : List (List ℕ)
  pub max : ℕ

-- what a fault is printed as
abbrev pub text_of : TableFault → List ℕ
text_of fault.Full = codes "the table of handles is full"
text_of fault.OutOfMemory = codes "out of memory"

-- the entry that a new handle is given
abbrev pub new_entry : Kind → TableEntry
new_entry kind.Text = text_entry
new_entry kind.Other = other_entry
new_entry kind.Pending = pending_entry

-- a handle is assigned: it has the next number, and its entry has no class
pub record IsAssigned (kind : Kind) (handle : ℕ) (old new : TableView) : Type 0 where
  pub number : handle ≡ length old.entries
  pub below : handle < old.max
  pub added : new.entries ≡ old.entries ++ new_entry kind ∷ []
  pub numbers : new.numbers ≡ old.numbers ++ None ∷ []
  pub chains : new.chains ≡ old.chains
  pub lines : new.lines ≡ old.lines
  pub max : new.max ≡ old.max

-- Where none is, nothing changes: the table has as many handles as it may have, or it has fewer and memory ran out.
abbrev pub Assigns : Kind → Result ℕ TableFault → (old new : TableView) → Type 0
Assigns kind (Ok handle) old new = IsAssigned kind handle old new
Assigns kind (Err fault.Full) old new = (length old.entries ≡ old.max) × (new ≡ old)
Assigns kind (Err fault.OutOfMemory) old new = (length old.entries < old.max) × (new ≡ old)

-- the chain of the parent's entry, if there is a parent
abbrev pub parent_chain : List TableEntry → Option ℕ → List Layer
parent_chain entries None = []
parent_chain entries (Some parent) = chain_at entries parent

-- the entry of a descriptor that has been read: the chain of its parent, and then its own layer
abbrev pub closed_under : List TableEntry → Option ℕ → Layer → TableEntry
closed_under entries parent layer = closed_entry (parent_chain entries parent ++ layer ∷ [])

-- The kept entries, and what they stand for.

abbrev pub new_kept : Kind → Kept
new_kept kind.Text = kept.Text
new_kept kind.Other = kept.Other
new_kept kind.Pending = kept.Pending

abbrev pub closed_kept : ℕ → Kept
closed_kept chain = kept.Closed chain

-- an entry, where a closed one keeps the number of its chain
abbrev pub view_entry : List (List Layer) → Kept → TableEntry
view_entry chains kept.Text = text_entry
view_entry chains kept.Other = other_entry
view_entry chains kept.Pending = pending_entry
view_entry chains (kept.Closed chain) = closed_entry (chain_in chains chain)

-- its class
abbrev pub kept_number : Kept → Option ℕ
kept_number kept.Text = None
kept_number kept.Other = None
kept_number kept.Pending = None
kept_number (kept.Closed number) = Some number

abbrev pub is_text_kept : Kept → Bool
is_text_kept kept.Text = true
is_text_kept kept.Other = false
is_text_kept kept.Pending = false
is_text_kept (kept.Closed chain) = false

abbrev pub is_pending_kept : Kept → Bool
is_pending_kept kept.Text = false
is_pending_kept kept.Other = false
is_pending_kept kept.Pending = true
is_pending_kept (kept.Closed chain) = false

abbrev pub is_closed_kept : Kept → Bool
is_closed_kept kept.Text = false
is_closed_kept kept.Other = false
is_closed_kept kept.Pending = false
is_closed_kept (kept.Closed chain) = true

abbrev pub is_pending_slot : Option Kept → Bool
is_pending_slot None = false
is_pending_slot (Some k) = is_pending_kept k

abbrev pub is_closed_slot : Option Kept → Bool
is_closed_slot None = false
is_closed_slot (Some k) = is_closed_kept k

-- what an answer of `get` says of an entry
abbrev pub is_text_entry : Option Entry → Bool
is_text_entry None = false
is_text_entry (Some entry.Text) = true
is_text_entry (Some entry.Other) = false
is_text_entry (Some entry.Pending) = false
is_text_entry (Some (entry.Closed closed)) = false

abbrev pub is_pending_entry : Option Entry → Bool
is_pending_entry None = false
is_pending_entry (Some entry.Text) = false
is_pending_entry (Some entry.Other) = false
is_pending_entry (Some entry.Pending) = true
is_pending_entry (Some (entry.Closed closed)) = false

abbrev pub is_closed_entry : Option Entry → Bool
is_closed_entry None = false
is_closed_entry (Some entry.Text) = false
is_closed_entry (Some entry.Other) = false
is_closed_entry (Some entry.Pending) = false
is_closed_entry (Some (entry.Closed closed)) = true

-- what an answer of `class_at` says of an entry
abbrev pub IsClass : List (List Layer) → Option TableEntry → Class → Type 0
IsClass chains entry class.NotThere = entry ≡ None
IsClass chains entry class.NoClass = (entry ≡ Some text_entry) ⊎ (entry ≡ Some other_entry)
IsClass chains entry class.Open = entry ≡ Some pending_entry
IsClass chains entry (class.Closed chain) = (entry ≡ Some (closed_entry (chain_in chains chain))) × (chain < length chains)

-- the numbers of the chains of these entries, if there is one
abbrev pub IsNumberOf : List Kept → Option ℕ → Option ℕ → Type 0
IsNumberOf entries None None = Unit {0}
IsNumberOf entries None (Some chain) = ⊥
IsNumberOf entries (Some number) None = ⊥
IsNumberOf entries (Some number) (Some chain) = slice_get entries number ≡ Some (closed_kept chain)

-- a closed entry keeps the number of one of so many chains
abbrev pub IsAmong : ℕ → Kept → Type 0
IsAmong chains kept.Text = Unit {0}
IsAmong chains kept.Other = Unit {0}
IsAmong chains kept.Pending = Unit {0}
IsAmong chains (kept.Closed n) = n < chains

-- what the fields of a table keep
pub record IsSound (entries : List Kept) (chains : ChainList) (pending max : ℕ) : Type 0 where
  pub within : length entries ≤ max
  pub max_fits : max < 2 ^ 32
  pub counted : pending ≡ count_by is_pending_kept entries
  pub fewer : pending + length chains.listed ≤ length entries
  pub room : pending ≤ chains.room
  pub among : All (IsAmong (length chains.listed)) entries
