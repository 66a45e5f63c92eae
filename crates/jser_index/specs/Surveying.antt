-- A first walk along the tokens of a stream, as code makes it.
use Rattle.std.specs.Prelude.{ℕ, ◌≡◌, ◌+◌, ◌-◌, List, [], ◌∷◌, ◌++◌, Some, true, length}
use Rattle.jser_prim.specs.ModifiedUtf8.{IsUnits, modified_utf8}
use Rattle.jser_grammar.specs.Wire.{TC_REFERENCE, TC_STRING}
use Rattle.jser_reading.specs.TokenBytes.{bytes_of, joined}
use Rattle.jser_reading.specs.Labels.{StreamToken, handle_token, array_length_token, text_token, prims_token, bytes_token, Piece}
use Rattle.jser_shown.specs.Nodes.{place_after, text_node}
use Rattle.jser_shown.specs.Finding.{Finding, begin_finding, find, found}
use Rattle.jser_shown.specs.Finding.{Begun as ToldBegun}
use Rattle.jser_index.specs.declared.begun.Begun.{Begun}
use Rattle.jser_reader.specs.declared.Item.{Item}
use Rattle.jser_reader.specs.declared.Whole.{Whole}
use Rattle.jser_reader.specs.declared.Whole.TheVariants as whole
use Rattle.jser_printer.specs.declared.Token.TheVariants as lent
use Rattle.jser_printer.specs.Given.{IsOf}
use Rattle.jser_index.specs.Along.{Ends, IsLength, IsTextOf}
use Rattle.jser_index.specs.StoredNodes.{view_kind}

-- a tag whose node is not made yet
abbrev pub view_begun : Begun → ToldBegun
view_begun b = record { kind = view_kind b.kind; place = b.tag_byte; position = b.position }

-- a node that is made at this token gets nothing of it: it is neither a text nor the length of an array
abbrev pub IsPlain : StreamToken → Type 0
IsPlain (text_token long units) = ⊥
IsPlain (array_length_token n) = ⊥
IsPlain token = Unit {0}

-- nothing begins with this token, and nothing is kept of it
abbrev pub IsQuiet : StreamToken → Type 0
IsQuiet (handle_token n) = Unit {0}
IsQuiet (prims_token ps) = Unit {0}
IsQuiet (bytes_token bytes) = Unit {0}
IsQuiet token = ⊥

-- it has gone along these tokens
pub record IsAt (front : List Piece) (now : Finding) : Type 0 where
  pub found_are : now ≡ found begin_finding front
  pub place : now.place ≡ length (joined front)

-- it went past a token of this kind, which ends at this place, and before which so many handles of the epoch were assigned
pub record GoesPast (is : StreamToken → Type 0) (assigned end : ℕ) (old new : Finding) : Type 0 where
  pub finds : (told : StreamToken) → is told → place_after old.place (bytes_of told) ≡ end → new ≡ find assigned told old
  pub place : new.place ≡ end

-- what it did with an item, which ends there, and before which so many handles of the epoch were assigned
pub record Took (lent : Item) (assigned end : ℕ) (old new : Finding) : Type 0 where
  pub finds : (told : StreamToken) → Ends lent told → place_after old.place (bytes_of told) ≡ end → new ≡ find assigned told old
  pub same : IsLength lent → new ≡ old
  pub place : (told : StreamToken) → Ends lent told → new.place ≡ end

-- it went past two tokens, one after another
pub record GoesPastBoth (one other : StreamToken → Type 0) (assigned next middle end : ℕ) (old new : Finding) : Type 0 where
  pub between : Finding
  pub first : GoesPast one assigned middle old between
  pub second : GoesPast other next end between new

-- the node of a string was made whose tag stands at the place, with the units that its bytes spell; it ends at this place
pub record AddsString (text : List ℕ) (end : ℕ) (old new : Finding) : Type 0 where
  pub units : List ℕ
  pub spelled : (told : List ℕ) → IsUnits told → modified_utf8 told ≡ text → units ≡ told
  pub is : new ≡ record old { nodes = old.nodes ++ (record { kind = text_node; place = old.place; units = Some units } ∷ []); is_name = true; place = end }

-- it went past the tag of what has a class, and the reference that is its class
pub record GoesPastOwner (tag class assigned end : ℕ) (old new : Finding) : Type 0 where
  pub within : Finding
  pub own : GoesPast (IsOf (lent.Tag tag)) assigned (end - 5) old within
  pub class_is : GoesPastBoth (IsOf (lent.Tag TC_REFERENCE)) (IsOf (lent.Handle class)) assigned assigned (end - 4) end within new

-- it went past the tokens of a value that is lent at once
abbrev pub GoesPastWhole : Whole → (assigned end : ℕ) → (old new : Finding) → Type 0
GoesPastWhole (whole.Reference handle) assigned end old new =
    GoesPastBoth (IsOf (lent.Tag TC_REFERENCE)) (IsOf (lent.Handle handle)) assigned assigned (end - 4) end old new
GoesPastWhole (whole.String text) assigned end old new =
    GoesPastBoth (IsOf (lent.Tag TC_STRING)) (IsTextOf text.now) assigned (assigned + 1) (end - (2 + length text.now)) end old new
GoesPastWhole (whole.Owner tag class) assigned end old new = GoesPastOwner tag class assigned end old new
