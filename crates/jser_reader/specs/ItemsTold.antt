-- Items are the tokens: the tokens that a reader took, and the item that it lends of the next one.
use Rattle.std.specs.Prelude.{◌≡◌, ◌⊎◌, ℕ, ◌<◌, ◌≤◌, List, [], ◌∷◌, ◌++◌, length, take, Result, Ok, Err}
use Rattle.jser_grammar.specs.Trees.{ContentTrees}
use Rattle.jser_reading.specs.Tokens.{tokens_of}
use Rattle.jser_reading.specs.Labels.{StreamToken, Label, Piece, piece}
use Rattle.jser_reading.specs.TokenBytes.{bytes_of, joined}
use Rattle.jser_reading.specs.Accepts.{Accepts}
use Rattle.jser_reading.specs.ComesNext.{ComesNext}
use Rattle.jser_verdict.specs.Gates.{Gate}
use Rattle.jser_verdict.specs.Passing.{Passes}
use Rattle.jser_reader.specs.declared.item.Item.{Item}
use Rattle.jser_reader.specs.declared.item.Item.TheVariants as item
use Rattle.jser_reader.specs.declared.item.Step.{Step}
use Rattle.jser_reader.specs.declared.item.Step.TheVariants as step
use Rattle.jser_reader.specs.declared.item.Totals.{Totals}
use Rattle.jser_reader.specs.declared.refusal.Stop.{Stop}
use Rattle.jser_reader.specs.declared.tally.Tally.{Tally}
use Rattle.jser_reader.specs.Readers.{Seen}
use Rattle.jser_reader.specs.Tallies.{HasCounted}
use Rattle.jser_reader.specs.Items.{items_at, IsLent, first_size}

-- Under this gate it stands for these tokens, whole, and these bytes of the next one: it took them, and no others.
pub record StandsIn (gate : Gate) (front : List Piece) (cut : List ℕ) (r : Seen) (tally : Tally) : Type 0 where
  pub counted : HasCounted gate (joined front ++ cut) r tally
  pub tokens_are : counted.taken.tokens ≡ front
  pub cut_is : counted.taken.cut ≡ cut
  pub within : length (joined front ++ cut) ≤ gate.bytes

-- these are all bytes of a token, which is accepted there, and the next token comes
pub record TokenEnds (gate : Gate) (front : List Piece) (label : Label) (bytes : List ℕ) (r : Seen) (tally : Tally) : Type 0 where
  pub token : StreamToken
  pub spelled : bytes_of token ≡ bytes
  pub accepted : Accepts label token
  pub stands : StandsIn gate (front ++ (piece label token ∷ [])) [] r tally

-- a part has all of the piece that was given, up to the limit of the gate
abbrev pub IsFull : Gate → (front : List Piece) (bytes given : List ℕ) (used : ℕ) → Type 0
IsFull gate front bytes given used = (used ≡ length given) ⊎ (length (joined front ++ bytes) ≡ gate.bytes)

-- a token goes on after the length of a text that is not empty, and after a full part
abbrev pub MayGoOn : Item → (is_full : Type 0) → Type 0
MayGoOn (item.TextLength n) is_full = 0 < n
MayGoOn (item.TextPart part) is_full = is_full
MayGoOn (item.RawPart part) is_full = is_full
MayGoOn _ is_full = ⊥

-- these bytes of the token have been taken, and others are to come
pub record TokenGoesOn (gate : Gate) (front : List Piece) (bytes given : List ℕ) (used : ℕ) (lent : Item) (r : Seen) (tally : Tally) : Type 0 where
  pub stands : StandsIn gate front bytes r tally
  pub full : MayGoOn lent (IsFull gate front bytes given used)

-- Of the next token, of which `cut` was taken before, an item is lent, from the front of the given piece; it ends the
-- token or the token goes on. The label says which token it is.
pub record Lends (gate : Gate) (front : List Piece) (cut given : List ℕ) (lent : Item) (used : ℕ) (r : Seen) (tally : Tally) : Type 0 where
  pub label : Label
  pub comes : ComesNext front label
  pub is : IsLent (items_at label.position) cut (take used given) lent
  pub after : TokenEnds gate front label (cut ++ take used given) r tally ⊎ TokenGoesOn gate front (cut ++ take used given) given used lent r tally

-- The whole piece was taken, and its bytes make no item of the next token yet.
pub record WantsMore (gate : Gate) (front : List Piece) (cut given : List ℕ) (r : Seen) (tally : Tally) : Type 0 where
  pub label : Label
  pub comes : ComesNext front label
  pub short : 0 < length given → length (cut ++ given) < first_size (items_at label.position)
  pub stands : StandsIn gate front (cut ++ given) r tally

abbrev pub LentCases : Gate → (front : List Piece) (cut given : List ℕ) → Result Step Stop → Seen → Tally → Type 0
LentCases gate front cut given (Ok (step.Item lent used)) r tally = Lends gate front cut given lent used r tally
LentCases gate front cut given (Ok step.More) r tally = WantsMore gate front cut given r tally
LentCases gate front cut given (Err stop) r tally = Unit {0}

-- Where a reader stood for whole tokens and some bytes of the next one, and was given a piece.
unfoldable pub TellsItems : Gate → (given : List ℕ) → Result Step Stop → Seen → Tally → Seen → Tally → Type 0
TellsItems gate given result old before new after =
    (front : List Piece) (cut : List ℕ) → StandsIn gate front cut old before → LentCases gate front cut given result new after

-- At the end of a stream no bytes of another token were taken, and the tokens are those of the list that passes.
abbrev pub TokensCases : Gate → (front : List Piece) (cut : List ℕ) → Result Totals Stop → Type 0
TokensCases gate front cut (Ok totals) = (cut ≡ []) × ((list : ContentTrees) × Passes gate (joined front) list × (front ≡ tokens_of list))
TokensCases gate front cut (Err stop) = Unit {0}

unfoldable pub TellsTokens : Gate → Result Totals Stop → Seen → Tally → Type 0
TellsTokens gate result r tally = (front : List Piece) (cut : List ℕ) → StandsIn gate front cut r tally → TokensCases gate front cut result
