-- All streams in some bytes, one after another.
use Rattle.std.specs.Prelude.{◌≡◌, ℕ, ◌+◌, ◌<◌, ◌≤◌, max, List, [], ◌∷◌, ◌++◌, length, take, drop, Option, None, Some}
use Rattle.memchr.specs.Find.{OccursAt, NoneBefore, Nowhere}
use Rattle.jser_grammar.specs.Wire.{stream_header}
use Rattle.jser_reader.specs.Gates.{open_gate}
use Rattle.jser_reader.specs.WholeContents.{IsWhole}
use Rattle.jser_find.specs.declared.finder.Find.{Find}
use Rattle.jser_find.specs.declared.next.Next.{Next}
use Rattle.jser_find.specs.declared.next.Next.TheVariants as next
use Rattle.jser_find.specs.Budgets.{deciding}

-- a header stands there
abbrev pub HasHeaderAt : List ℕ → ℕ → Type 0
HasHeaderAt bytes place = OccursAt bytes stream_header place

-- no header stands at that place or behind it
abbrev pub HasNoHeaderFrom : List ℕ → ℕ → Type 0
HasNoHeaderFrom bytes place = Nowhere (HasHeaderAt bytes) place (length bytes + 1)

-- where the first header from a place on is, or that there is none
abbrev pub IsFirstHeader : List ℕ → (place : ℕ) → Option ℕ → Type 0
IsFirstHeader bytes place None = HasNoHeaderFrom bytes place
IsFirstHeader bytes place (Some at) = NoneBefore (HasHeaderAt bytes) place (length bytes + 1) at × HasHeaderAt bytes at

-- The first header from a place on; of the bytes from there on, at most so many, the stream is the longest front that is one.
pub record IsFindFrom (most : ℕ) (bytes : List ℕ) (place : ℕ) (find : Find) : Type 0 where
  pub first : NoneBefore (HasHeaderAt bytes) place (length bytes + 1) find.from
  pub header : HasHeaderAt bytes find.from
  pub longest : IsWhole open_gate (take most (drop find.from bytes)) find.len

-- where the search goes on: behind the stream, or behind the first byte of a header where `most` leaves no stream
abbrev pub place_behind : Find → ℕ
place_behind find = find.from + max find.len 1

-- these finds lead from one place to another: each is the first from where the one before it ends
abbrev pub LeadTo : (most : ℕ) → List ℕ → (from : ℕ) → List Find → (to : ℕ) → Type 0
LeadTo most bytes from [] to = from ≡ to
LeadTo most bytes from (find ∷ finds) to = IsFindFrom most bytes from find × LeadTo most bytes (place_behind find) finds to

-- these are all finds of the bytes, in order
pub record FindsOf (most : ℕ) (bytes : List ℕ) (finds : List Find) : Type 0 where
  pub end : ℕ
  pub lead : LeadTo most bytes 0 finds end
  pub none_behind : HasNoHeaderFrom bytes end

-- ---- a search

-- the bytes, how many are read at most from a header on, and where the search goes on
pub record Searching : Type 0 where
  pub bytes : List ℕ
  pub most : ℕ
  pub place : ℕ

-- these are the finds so far
abbrev pub HasFound : Searching → List Find → Type 0
HasFound search finds = LeadTo search.most search.bytes 0 finds search.place

-- One more is found; or there is none, and those so far are all. Where the budget is spent, nothing more is said of them.
abbrev pub FindsNext : (old new : Searching) → (finds : List Find) → Next Find → Type 0
FindsNext old new finds (next.Found find) = HasFound new (finds ++ (find ∷ []))
FindsNext old new finds (next.Spent place) = HasFound new finds
FindsNext old new finds next.End = FindsOf old.most old.bytes finds

-- a find lies in the bytes
abbrev pub LiesIn : List ℕ → Find → Type 0
LiesIn bytes find = find.from + find.len ≤ length bytes

abbrev pub NextLiesIn : List ℕ → Next Find → Type 0
NextLiesIn bytes (next.Found find) = LiesIn bytes find
NextLiesIn bytes (next.Spent place) = place ≤ length bytes
NextLiesIn bytes next.End = Unit {0}

-- ---- its budget

-- how many bytes are read at a header
abbrev pub reading_at : (most : ℕ) → List ℕ → (place : ℕ) → ℕ
reading_at most bytes place = deciding (take most (drop place bytes))

-- What is left of a budget before and after: at a find it pays what is read there. It is spent at the first header of which more is
-- to be read than is left, and there alone.
abbrev pub Spends : Searching → (before after : ℕ) → Next Find → Type 0
Spends search before after (next.Found find) = before ≡ reading_at search.most search.bytes find.from + after
Spends search before after (next.Spent place) =
    IsFirstHeader search.bytes search.place (Some place) × (before < reading_at search.most search.bytes place) × (after ≡ 0)
Spends search before after next.End = after ≡ before
