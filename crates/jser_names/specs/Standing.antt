-- Where a reader stands in a stream, and which names were counted: the names of the tokens that it took, but for the last
-- one, whose text may be there and not yet be a name.
use Rattle.std.specs.Prelude.{ℕ, ◌≡◌, ◌<◌, ◌≤◌, ◌-◌, ◌⊎◌, max, Bool, true, false, if◌then◌else◌, nat_eq, List, [], ◌∷◌, ◌++◌, length}
use Rattle.jser_prim.specs.ModifiedUtf8.{IsUnits, modified_utf8}
use Rattle.jser_grammar.specs.Wire.{TC_CLASSDESC}
use Rattle.jser_reading.specs.Labels.{text_token, Label, Piece, piece}
use Rattle.jser_reading.specs.TokenBytes.{joined}
use Rattle.jser_reading.specs.TokensFromBytes.{head_size}
use Rattle.jser_reading.specs.ComesNext.{ComesNext}
use Rattle.jser_reader.specs.declared.Item.{Item}
use Rattle.jser_reader.specs.declared.Item.TheVariants as item
use Rattle.jser_reader.specs.declared.tally.Tally.{Tally}
use Rattle.jser_reader.specs.Gates.{open_gate}
use Rattle.jser_reader.specs.Items.{items_at, text_items}
use Rattle.jser_reader.specs.ItemsTold.{StandsIn}
use Rattle.jser_reader.specs.Readers.{Seen}
use Rattle.jser_shown.specs.Counting.{NameTally, tally_one}
use Rattle.jser_names.specs.Collecting.{Collected, begin_collecting, collected, measured}

-- the names, counted; how many of the next texts are names; whether a name is being read, and its bytes so far; the length of the longest
-- array
pub record Names : Type 0 where
  pub names : List NameTally
  pub left : ℕ
  pub is_open : Bool
  pub text : List ℕ
  pub longest : ℕ

abbrev pub view_of : Names → Collected
view_of x = record { names = x.names; left = x.left }

-- ---- what is done

-- the name that was read is counted
pub record ClosesName (old new : Names) : Type 0 where
  pub is : new.is_open ≡ false
  pub left : new.left ≡ old.left - 1
  pub longest : new.longest ≡ old.longest
  pub names : (units : List ℕ) → IsUnits units → modified_utf8 units ≡ old.text → new.names ≡ tally_one units old.names

abbrev pub Closes : (was_open : Bool) → (old new : Names) → Type 0
Closes true old new = ClosesName old new
Closes false old new = new ≡ old

-- the bytes of a text go to the name that is being read
abbrev pub Adds : (was_open : Bool) → (bytes : List ℕ) → (old new : Names) → Type 0
Adds true bytes old new = new ≡ record old { text = old.text ++ bytes }
Adds false bytes old new = new ≡ old

-- a name begins, if the next text is one
abbrev pub begun : Names → Names
begun x = if nat_eq x.left 0 then x else record x { is_open = true; text = [] }

-- how many of the next texts are names behind an item
abbrev pub left_behind : Item → ℕ → ℕ
left_behind (item.Tag tag) left = if nat_eq tag TC_CLASSDESC then 1 else 0
left_behind (item.InterfaceCount n) left = n
left_behind _ left = left

-- the length of the longest array behind an item
abbrev pub longest_behind : Item → ℕ → ℕ
longest_behind (item.ArrayLength n) longest = max longest n
longest_behind _ longest = longest

abbrev pub behind : Item → Names → Names
behind lent x = record x { left = left_behind lent x.left; longest = longest_behind lent x.longest }

pub record ClosesThen (old new : Names) (change : Names → Names) : Type 0 where
  pub mid : Names
  pub closes : Closes old.is_open old mid
  pub is : new ≡ change mid

-- an item
abbrev pub Takes : Item → (old new : Names) → Type 0
Takes (item.TextPart part) old new = Adds old.is_open part.now old new
Takes (item.TextLength n) old new = ClosesThen old new begun
Takes lent old new = ClosesThen old new (behind lent)

-- ---- where it stands

-- the length of a text was taken, and maybe bytes of it
pub record InText (front : List Piece) (cut : List ℕ) : Type 0 where
  pub label : Label
  pub comes : ComesNext front label
  pub long : Bool
  pub is_text : items_at label.position ≡ text_items long
  pub past : head_size long ≤ length cut

-- no name is being read
pub record Closed (front : List Piece) (cut : List ℕ) (x : Names) : Type 0 where
  pub is : x.is_open ≡ false
  pub so_far : collected begin_collecting front ≡ view_of x
  pub plain : InText front cut → x.left ≡ 0

-- a name was read to its end
pub record Ended (front : List Piece) (cut : List ℕ) (x : Names) : Type 0 where
  pub is : x.is_open ≡ true
  pub some : 0 < x.left
  pub before : List Piece
  pub label : Label
  pub long : Bool
  pub units : List ℕ
  pub front_is : front ≡ before ++ (piece label (text_token long units) ∷ [])
  pub so_far : collected begin_collecting before ≡ view_of x
  pub are_units : IsUnits units
  pub spelled : modified_utf8 units ≡ x.text
  pub plain : InText front cut → ⊥

-- a name is being read
pub record GoesOn (front : List Piece) (cut : List ℕ) (x : Names) : Type 0 where
  pub is : x.is_open ≡ true
  pub some : 0 < x.left
  pub so_far : collected begin_collecting front ≡ view_of x
  pub label : Label
  pub comes : ComesNext front label
  pub long : Bool
  pub is_text : items_at label.position ≡ text_items long
  pub head : List ℕ
  pub size : length head ≡ head_size long
  pub cut_is : cut ≡ head ++ x.text

abbrev pub IsAt : (front : List Piece) → (cut : List ℕ) → Names → Type 0
IsAt front cut x = Closed front cut x ⊎ (Ended front cut x ⊎ GoesOn front cut x)

-- the reader took these bytes, and the names and the longest array are those of the tokens in them
pub record Stands (taken : List ℕ) (r : Seen) (tally : Tally) (x : Names) : Type 0 where
  pub front : List Piece
  pub cut : List ℕ
  pub split : taken ≡ joined front ++ cut
  pub reads : StandsIn open_gate front cut r tally
  pub at : IsAt front cut x
  pub measures : measured 0 front ≡ x.longest
