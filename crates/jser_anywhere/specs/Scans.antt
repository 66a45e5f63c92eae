-- What a scan knows of the bytes that it has taken, and what it tells of more.
use Rattle.std.specs.Prelude.{take, ◌≡◌, ◌≤◌, ◌<◌, ◌⊎◌, ℕ, Bool, false, ◌+◌, List, [], ◌∷◌, ◌++◌, length, drop, reverse, Option, Some, None, IfSome}
use Rattle.jser_anywhere.specs.declared.text.Place.{Place}
use Rattle.jser_anywhere.specs.declared.text.Place.TheVariants as place
use Rattle.jser_anywhere.specs.declared.open.Text.{Text}
use Rattle.jser_anywhere.specs.declared.open.Name.{Name}
use Rattle.jser_anywhere.specs.declared.open.Row.{Row}
use Rattle.jser_anywhere.specs.declared.open.RowAt.{RowAt}
use Rattle.jser_anywhere.specs.declared.open.RowAt.TheVariants as at
use Rattle.jser_anywhere.specs.declared.hidden.Hidden.{Hidden}
use Rattle.jser_anywhere.specs.Standing.{AllPass, IsFirstHidden}
use Rattle.jser_anywhere.specs.Stages.{Whose, descriptor, row, Reading, naming, passing, Stage, nothing, text, between, halfway, in_name}
use Rattle.jser_anywhere.specs.Slots.{Slot, ago, slots_of}
use Rattle.jser_anywhere.specs.Steps.{recent_of, Scanning, NameFits, RowFits}

-- numbers that bytes are
abbrev pub AreBytes : List ℕ → Type 0
AreBytes [] = Unit {0}
AreBytes (byte ∷ bytes) = (byte < 256) × AreBytes bytes

-- what was read of a text
abbrev pub reading_of : (skip : Option ℕ) → Place → (kept : List ℕ) → Reading
reading_of None group kept = passing group
reading_of (Some skip) group kept = naming (drop skip kept) group

abbrev pub text_stage : Whose → Text → (kept : List ℕ) → Stage
text_stage whose t kept = text whose t.left (reading_of t.skip t.group kept)

abbrev pub name_stage : Option Name → (kept : List ℕ) → Stage
name_stage None kept = nothing
name_stage (Some n) kept = text_stage descriptor n.text kept

abbrev pub row_at_stage : (more : ℕ) → RowAt → (kept : List ℕ) → Stage
row_at_stage more at.Between kept = between more
row_at_stage more (at.Halfway high) kept = halfway more high
row_at_stage more (at.Text t) kept = text_stage (row more) t kept

abbrev pub row_stage : Option Row → (kept : List ℕ) → Stage
row_stage None kept = nothing
row_stage (Some r) kept = row_at_stage r.more r.at kept

-- where the text begins that is being read, if it may be a name
abbrev pub name_group : Option Name → Option Text
name_group None = None
name_group (Some n) = Some n.text

abbrev pub at_group : RowAt → Option Text
at_group at.Between = None
at_group (at.Halfway high) = None
at_group (at.Text t) = Some t

abbrev pub row_group : Option Row → Option Text
row_group None = None
row_group (Some r) = at_group r.at

-- a text that may be a name begins with one of the units that are kept, and there is room for the rest of it
abbrev pub SkipFits : Option Text → (kept : List ℕ) → Type 0
SkipFits None kept = Unit {0}
SkipFits (Some t) kept = IfSome t.skip (λ skip. (skip ≤ length kept) × (length kept + t.left < 9216))

-- two groups that are being read are one, or one of them has not begun
abbrev pub SameGroup : Place → Place → Type 0
SameGroup a b = (a ≡ b) ⊎ ((a ≡ place.First) ⊎ (b ≡ place.First))

-- of two texts that may be names
abbrev pub Agree : Option Text → Option Text → Type 0
Agree None b = Unit {0}
Agree (Some a) None = Unit {0}
Agree (Some a) (Some b) = IfSome a.skip (λ _. IfSome b.skip (λ _. SameGroup a.group b.group))

-- a slot has the stage of what is read, at its place
pub record Has (slot : Slot) (place : Option ℕ) (stage : Stage) : Type 0 where
  pub stage_is : slot.stage ≡ stage
  pub place_is : IfSome place (λ p. slot.place ≡ p)

abbrev pub name_place : Option Name → Option ℕ
name_place None = None
name_place (Some n) = Some n.place

abbrev pub row_place : Option Row → Option ℕ
row_place None = None
row_place (Some r) = Some r.place

-- what the scan has is what the slots have, after these bytes, the last one first
pub record Follows (back : List ℕ) (scan : Scanning) : Type 0 where
  pub count : scan.count ≡ length back
  pub recent : scan.recent ≡ recent_of back
  pub name : Has (slots_of back).name (name_place scan.name) (name_stage scan.name scan.kept)
  pub even : Has (slots_of back).even (row_place scan.even) (row_stage scan.even scan.kept)
  pub odd : Has (slots_of back).odd (row_place scan.odd) (row_stage scan.odd scan.kept)
  pub name_skip : SkipFits (name_group scan.name) scan.kept
  pub even_skip : SkipFits (row_group scan.even) scan.kept
  pub odd_skip : SkipFits (row_group scan.odd) scan.kept
  pub name_even : Agree (name_group scan.name) (row_group scan.even)
  pub name_odd : Agree (name_group scan.name) (row_group scan.odd)
  pub even_odd : Agree (row_group scan.even) (row_group scan.odd)
  -- units are kept where the last byte can be one of a name
  pub last : in_name (ago back 0) ≡ false → scan.kept ≡ []
  pub few : length scan.kept ≤ 9216
  pub name_fits : NameFits scan.name
  pub even_fits : RowFits scan.even
  pub odd_fits : RowFits scan.odd

-- It has taken these bytes, and each name that stands in them passes.
pub record HasScanned (passes : List ℕ → Bool) (taken : List ℕ) (scan : Scanning) : Type 0 where
  pub bytes : AreBytes (reverse taken)
  pub follows : Follows (reverse taken) scan
  pub pass : AllPass passes taken

-- The first hidden name ends in the bytes behind those taken.
pub record EndsIn (passes : List ℕ → Bool) (taken bytes : List ℕ) (from to : ℕ) : Type 0 where
  pub first : IsFirstHidden passes (taken ++ bytes) from to
  pub later : length taken < to

-- What it tells of bytes more, for all bytes that it may have taken: the first hidden name of all, or none.
abbrev pub Tells : (passes : List ℕ → Bool) → (taken bytes : List ℕ) → Option Hidden → Scanning → Type 0
Tells passes taken bytes None new = HasScanned passes (taken ++ bytes) new
Tells passes taken bytes (Some hidden) new = EndsIn passes taken bytes hidden.from hidden.to

abbrev pub most_taken : ℕ
most_taken = 0xFFFFFFFFFFFFFFFF

unfoldable pub TakesBytes : (passes : List ℕ → Bool) → (old new : Scanning) → (bytes : List ℕ) → Option Hidden → Type 0
TakesBytes passes old new bytes told =
    (taken : List ℕ) → length taken + length bytes ≤ most_taken → HasScanned passes taken old → Tells passes taken bytes told new

-- It went past bytes of a piece of which it has taken those before `at`, and told none.
pub record Hurries (old new : Scanning) (piece : List ℕ) (at to : ℕ) : Type 0 where
  pub ordered : at ≤ to
  pub within : to ≤ length piece
  pub takes : (passes : List ℕ → Bool) (start : Scanning) → TakesBytes passes start old (take at piece) None → TakesBytes passes start new (take to piece) None

-- It has taken the first bytes of a piece, and told none.
pub record Fed (passes : List ℕ → Bool) (start now : Scanning) (piece : List ℕ) (at : ℕ) : Type 0 where
  pub within : at ≤ length piece
  pub takes : TakesBytes passes start now (take at piece) None
