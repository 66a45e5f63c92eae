-- The counts of a stream, as they are kept while it is read: what is known of the machine before and after a token is
-- enough to go on from one token to the next.
use Rattle.std.specs.Prelude.{ℕ, ◌≡◌, suc, ◌+◌, ◌^◌, ◌<◌, max, ◌≤◌, if◌then◌else◌, Bool, true, false, List, [], ◌∷◌, length, Option, Some}
use Rattle.jser_grammar.specs.Trees.{ContentTrees}
use Rattle.jser_grammar.specs.TableAfter.{Entries}
use Rattle.jser_grammar.specs.Counts.{content_count, refs_of, depth_of, handle_count}
use Rattle.jser_reading.specs.Labels.{StreamToken, tag_token, reset_tag_token, Piece, piece}
use Rattle.jser_reading.specs.TokensFromBytes.{tag_from}
use Rattle.jser_reading.specs.Totals.{begins_content, count_of, deepest}
use Rattle.jser_verdict.specs.Gates.{Gate}
use Rattle.jser_reader.specs.declared.item.Totals.{Totals}
use Rattle.jser_reader.specs.declared.phase.Phase.{Phase}
use Rattle.jser_reader.specs.declared.phase.Phase.TheVariants as phase
use Rattle.jser_reader.specs.declared.tally.Tally.{Tally}
use Rattle.jser_reader.specs.Readers.{Seen}
use Rattle.jser_reader.specs.Walks.{HasTaken}
use Rattle.jser_reader.specs.WholeContents.{IsWhole}

-- ---- what is counted along the tokens

-- a reset ends an epoch, which had the handles of the table before it
abbrev pub ended_by : StreamToken → Entries → ℕ
ended_by reset_tag_token table = length table
ended_by _ table = 0

-- the handles of the epochs that have ended
abbrev pub earlier_handles : List Piece → ℕ
earlier_handles [] = 0
earlier_handles (piece label token ∷ pieces) = ended_by token label.moment.table + earlier_handles pieces

-- ---- what is kept

-- The contents that have begun, the handles of the epochs that have ended, the greatest depth of a place, and where the
-- last content begins. (The places, and the handles of the epoch that has not ended, are in the machine.)
abbrev pub no_tally : Tally
no_tally = record { contents = 0; earlier = 0; depth = 0; begun = 0 }

-- it tells these tokens
pub record Tallied (tokens : List Piece) (tally : Tally) : Type 0 where
  pub contents : tally.contents ≡ count_of begins_content tokens
  pub earlier : tally.earlier ≡ earlier_handles tokens
  pub depth : tally.depth ≡ deepest tokens

-- ---- how it goes on

abbrev pub is_top : Phase → Bool
is_top phase.Top = true
is_top _ = false

-- counts may change with a tag at the top, and with one that may begin a place; a machine that has stopped takes none
abbrev pub may_count : Phase → Bool
may_count phase.Top = true
may_count phase.Note = true
may_count phase.Value = true
may_count phase.SuperTag = true
may_count phase.Stopped = true
may_count _ = false

-- a content has begun there; a place at this depth; an epoch of so many handles has ended

abbrev pub content_begun : Tally → (at : ℕ) → Tally
content_begun tally at = record { contents = suc tally.contents; earlier = tally.earlier; depth = tally.depth; begun = at }

abbrev pub place_begun : Tally → (depth : ℕ) → Tally
place_begun tally depth = record { contents = tally.contents; earlier = tally.earlier; depth = max tally.depth depth; begun = tally.begun }

abbrev pub epoch_ended : Tally → (handles : ℕ) → Tally
epoch_ended tally handles = record { contents = tally.contents; earlier = tally.earlier + handles; depth = tally.depth; begun = tally.begun }

-- what a tag counts, at the top beside a content: that of a value a place, a reset the handles of the epoch
abbrev pub with_token : Seen → Option StreamToken → Tally → Tally
with_token r (Some (tag_token tag)) tally = place_begun tally (suc (length r.frames))
with_token r (Some reset_tag_token) tally = epoch_ended tally (length r.table.entries)
with_token r _ tally = tally

abbrev pub with_tag : Seen → Option StreamToken → Tally → Tally
with_tag r found tally = if is_top r.phase then content_begun (with_token r found tally) r.meter.at else with_token r found tally

-- a token comes next, of which this is the first byte that is taken
abbrev pub tally_next : Seen → (byte : ℕ) → Tally → Tally
tally_next r byte tally = if may_count r.phase then with_tag r (tag_from byte) tally else tally

-- as long as the counts are small
abbrev pub EpochFits : Seen → Option StreamToken → Tally → Type 0
EpochFits r (Some reset_tag_token) tally = tally.earlier + length r.table.entries < 2 ^ 64
EpochFits r _ tally = Unit {0}

abbrev pub CountsNext : Seen → (byte : ℕ) → (before after : Tally) → Type 0
CountsNext r byte before after = before.contents + 1 < 2 ^ 64 → EpochFits r (tag_from byte) before → after ≡ tally_next r byte before

-- where the last content begins: at the top it is the one that comes next
abbrev pub begun_next : Seen → Tally → ℕ
begun_next r tally = if is_top r.phase then r.meter.at else tally.begun

-- Nothing more is taken: at the top no content begins any more.
abbrev pub tally_stopped : Seen → Tally → Tally
tally_stopped r tally = record { contents = tally.contents; earlier = tally.earlier; depth = tally.depth; begun = begun_next r tally }

-- How many of the bytes that were taken are whole contents: all at the top, and else those before the last content.
abbrev pub whole_of : Seen → Tally → ℕ
whole_of r tally = if is_top r.phase then r.meter.at else tally.begun

-- ---- a machine with its tally

-- The machine stands for these bytes, and the tally tells the tokens that it took; so many of the bytes are whole contents.
pub record HasCounted (gate : Gate) (bytes : List ℕ) (r : Seen) (tally : Tally) : Type 0 where
  pub taken : HasTaken gate bytes r
  pub tallied : Tallied taken.tokens tally
  pub whole : length bytes ≤ gate.bytes → IsWhole gate bytes (whole_of r tally)

-- ---- the end

-- what a reader answers that has read a stream to its end
abbrev pub totals_of : Seen → Tally → Totals
totals_of r tally = record {
  bytes = r.meter.at;
  contents = tally.contents;
  refs = r.refs;
  depth = tally.depth;
  handles = tally.earlier + length r.table.entries;
}

-- these are the counts of a stream of this list
pub record AreTotals (bytes : List ℕ) (list : ContentTrees) (totals : Totals) : Type 0 where
  pub all_bytes : totals.bytes ≡ length bytes
  pub contents : totals.contents ≡ content_count list
  pub refs : totals.refs ≡ refs_of list
  pub depth : totals.depth ≡ depth_of list
  pub handles : totals.handles ≡ handle_count list
