-- What contracts see of the table of handles, and how its fields stand for that.
use Rattle.std.specs.Prelude.{ℕ, ◌≡◌, ◌+◌, ◌<◌, ◌≤◌, ◌^◌, ◌⊎◌, IsTrue, List, [], ◌∷◌, ◌++◌, length, map, All, slice_get, slice_set, slice_index_or, Option, Some, None}
use Rattle.std.specs.List.{zip, range_with_len}
use Rattle.jser_table.specs.declared.Layer.{Layer as TableLayer}
use Rattle.jser_table.specs.declared.Kind.{Kind}
use Rattle.jser_table.specs.Entries.{TableEntry, text_entry, other_entry, pending_entry, closed_entry, is_pending}
use Rattle.jser_table.specs.Chains.{chain_in}
use Rattle.jser_table.specs.Lines.{line_in, next_line, number_at, parent_number}
use Rattle.jser_table.specs.Tables.{new_entry, parent_chain, closed_under}
use Rattle.jser_table.specs.Tables.{TableView as Handles}
use Rattle.jser_shown.specs.Known.{NamedLayer, proxy_layer, KnownEntry, known_text, known_other, known_pending, known_class, Known, classes_at}
use Rattle.jser_printer.specs.declared.class.KeptClass.{KeptClass}
use Rattle.jser_printer.specs.declared.class.Parent.{Parent}

-- what is known of the handles of the epoch; the layers of its classes, in the order in which their fields ended; the
-- chains of the classes whose descriptors have ended, in this order
pub record NamesView : Type 0 where
  pub known : Known
  pub layers : List NamedLayer
  pub chains : List (List NamedLayer)

-- the layer and the chain with this number
abbrev pub layer_in : List NamedLayer → ℕ → NamedLayer
layer_in layers n = slice_index_or layers n proxy_layer

abbrev pub layers_in : List (List NamedLayer) → ℕ → List NamedLayer
layers_in chains n = slice_index_or chains n []

-- the chain of the class with this number, if there is one
abbrev pub layers_above : Known → Option ℕ → List NamedLayer
layers_above known None = []
layers_above known (Some parent) = classes_at known parent

-- the answer tells the chain of this class
abbrev pub IsChainOf : NamesView → ℕ → Option ℕ → Type 0
IsChainOf table number None = classes_at table.known number ≡ []
IsChainOf table number (Some chain) =
    (chain < length table.chains) × (classes_at table.known number ≡ layers_in table.chains chain)

-- How it is kept: the handles and the lines of their classes in a table of `jser_table`, and by the number of each class
-- which layer is its own. The lines, named by the own layers, are the chains.

abbrev pub no_class : KeptClass
no_class = record { chain = 0; own = 0; layers = 0; straight = 0 }

abbrev pub class_in : List KeptClass → ℕ → KeptClass
class_in classes n = slice_index_or classes n no_class

abbrev pub named_class : List NamedLayer → List KeptClass → ℕ → NamedLayer
named_class layers classes n = layer_in layers (class_in classes n).own

abbrev pub named_line : List NamedLayer → List KeptClass → List ℕ → List NamedLayer
named_line layers classes line = map (named_class layers classes) line

abbrev pub named_lines : List NamedLayer → List KeptClass → List (List ℕ) → List (List NamedLayer)
named_lines layers classes lines = map (named_line layers classes) lines

-- an entry that is no class
abbrev pub view_other : TableEntry → KnownEntry
view_other text_entry = known_text
view_other other_entry = known_other
view_other pending_entry = known_pending
view_other (closed_entry chain) = known_other

-- an entry, with the number of its class, if it is one
abbrev pub view_entry : List (List NamedLayer) → TableEntry → Option ℕ → KnownEntry
view_entry chains entry None = view_other entry
view_entry chains entry (Some n) = known_class (layers_in chains n)

-- the entry of a new handle
abbrev pub view_new : Kind → KnownEntry
view_new kind = view_other (new_entry kind)

abbrev pub view_entries : List (List NamedLayer) → List (TableEntry × Option ℕ) → Known
view_entries chains entries = map (λ (e : TableEntry × Option ℕ). view_entry chains e.0 e.1) entries

abbrev pub view_handles : List (List NamedLayer) → Handles → Known
view_handles chains handles = view_entries chains (zip handles.entries handles.numbers)

abbrev pub table_of : Handles → List NamedLayer → List KeptClass → NamesView
table_of handles layers classes = record {
  known = view_handles (named_lines layers classes handles.lines) handles;
  layers = layers;
  chains = named_lines layers classes handles.lines;
}

-- the number is that of one of so many classes
abbrev pub IsAmong : ℕ → Option ℕ → Type 0
IsAmong classes None = Unit {0}
IsAmong classes (Some n) = n < classes

abbrev pub AreAmong : ℕ → List ℕ → Type 0
AreAmong classes line = All (λ n. n < classes) line

-- the own layer is one of so many
abbrev pub IsOwn : ℕ → KeptClass → Type 0
IsOwn layers class = class.own < layers

-- the class with the number n: its line ends with so many numbers before its own, and with that
pub record IsNumbered (lines : List (List ℕ)) (classes : List KeptClass) (n : ℕ) : Type 0 where
  pub above : List ℕ
  pub first : ℕ
  pub line : line_in lines n ≡ above ++ range_with_len first ((class_in classes n).straight + 1)
  pub last : first + (class_in classes n).straight ≡ n
  pub number : (class_in classes n).chain ≡ n

abbrev pub counted : KeptClass → ℕ
counted class = class.layers

-- Handles and classes are counted in 32 bits. A handle has the number of a class or none. The chains that `jser_table` keeps
-- are as long as their lines, and so much is counted of each class; its own layer is one of these.
pub record IsSound (handles : Handles) (layers : List NamedLayer) (classes : List KeptClass) : Type 0 where
  pub most : handles.max < 2 ^ 32
  pub within : length handles.entries ≤ handles.max
  pub fewer : length handles.chains < 2 ^ 32
  pub paired : length handles.numbers ≡ length handles.entries
  pub among : All (IsAmong (length handles.lines)) handles.numbers
  pub long : map length handles.chains ≡ map length handles.lines
  pub counts : map counted classes ≡ map length handles.lines
  pub owns : All (IsOwn (length layers)) classes
  pub of : All (AreAmong (length handles.lines)) handles.lines
  pub numbered : (n : ℕ) → n < length handles.lines → IsNumbered handles.lines classes n

-- What the table of handles answers, and what it becomes.

-- the handle is that of the class with the number n
pub record HasClass (handles : Handles) (handle n : ℕ) : Type 0 where
  pub number_is : number_at handles.numbers handle ≡ Some n
  pub entry_is : slice_get handles.entries handle ≡ Some (closed_entry (chain_in handles.chains n))
  pub inside : n < length handles.chains

-- the number of the class of a handle, if it is a class
abbrev pub IsClassAt : Handles → (handle : ℕ) → Option ℕ → Type 0
IsClassAt handles handle None = number_at handles.numbers handle ≡ None
IsClassAt handles handle (Some n) = HasClass handles handle n

-- the parent, if it is a class
abbrev pub IsParent : Handles → Option ℕ → Option Parent → Type 0
IsParent handles parent None = parent_number handles.numbers parent ≡ None
IsParent handles parent (Some p) = (parent ≡ Some p.handle) × HasClass handles p.handle p.class

abbrev pub handle_of : Option Parent → Option ℕ
handle_of None = None
handle_of (Some p) = Some p.handle

-- of the next class, under this parent
abbrev pub layers_under : List KeptClass → Option Parent → ℕ
layers_under classes None = 1
layers_under classes (Some p) = (class_in classes p.class).layers + 1

abbrev pub IsStraight : List KeptClass → Option Parent → ℕ → Type 0
IsStraight classes None straight = straight ≡ 0
IsStraight classes (Some p) straight =
    (straight ≡ 0) ⊎ ((p.class + 1 ≡ length classes) × (straight ≡ (class_in classes p.class).straight + 1))

pub record IsPending (handles : Handles) (handle : ℕ) : Type 0 where
  pub fits : handle < 2 ^ 32
  pub pending : IsTrue (is_pending (slice_get handles.entries handle))

-- the descriptor with this handle has ended, under this parent
pub record Closes (old new : Handles) (handle : ℕ) (parent : Option ℕ) : Type 0 where
  pub layer : TableLayer
  pub entries : new.entries ≡ slice_set old.entries handle (closed_under old.entries parent layer)
  pub numbers : new.numbers ≡ slice_set old.numbers handle (Some (length old.chains))
  pub chains : new.chains ≡ old.chains ++ (parent_chain old.entries parent ++ layer ∷ []) ∷ []
  pub lines : new.lines ≡ old.lines ++ next_line old.lines (parent_number old.numbers parent) ∷ []
  pub max : new.max ≡ old.max
