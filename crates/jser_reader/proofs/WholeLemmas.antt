-- A value that is taken in one step: the machine that is after its tag is named here alone, and no code makes it.
use Rattle.std.proofs.Common.{◌≡◌, ℕ, zero, suc, ◌+◌, ◌-◌, ◌^◌, ◌<◌, ◌≤◌, ◌↔◌, Bool, true, false, nat_lt, ◌&&◌, IsTrue, List, [], ◌∷◌, ◌++◌, length, get_or, take, drop, Some, refl, sym, ◌∙◌, ap, ap₂, subst, arith, not}
use Rattle.std.specs.List.{list_all}
use Rattle.std.proofs.lemmas.Bool.{lt-leb}
use Rattle.std.proofs.lemmas.List.{length-drop, length-take-le, take-append-drop}
use Rattle.jser_prim.specs.Bytes.{big_bytes}
use Rattle.jser_prim.specs.ModifiedUtf8.{modified_utf8}
use Rattle.jser_prim.specs.Texts.{BeginsText, Scan, HasAccepted}
use Rattle.jser_prim.proofs.TextLemmas.{begins_whole}
use Rattle.jser_table.specs.Entries.{text_entry, other_entry, chain_at}
use Rattle.jser_grammar.specs.Parts.{IsBytes}
use Rattle.jser_reading.specs.Labels.{reference_tag, string_tag, class_handle_at}
use Rattle.jser_reading.specs.TokenBytes.{tag_byte}
use Rattle.jser_verdict.specs.Gates.{Gate, IsGate}
use Rattle.jser_verdict.specs.Verdicts.{class_handle_reason}
use Rattle.jser_reader.specs.declared.machine.flow.Flow.{Flow}
use Rattle.jser_reader.specs.declared.machine.flow.Flow.TheVariants as flow
use Rattle.jser_reader.specs.declared.frame.Owner.{Owner}
use Rattle.jser_reader.specs.declared.frame.Owner.TheVariants as owner
use Rattle.jser_reader.specs.declared.machine.take.taken.Taken.TheVariants as taken
use Rattle.jser_reader.specs.declared.phase.Phase.{Phase}
use Rattle.jser_reader.specs.declared.phase.Phase.TheVariants as phase
use Rattle.jser_reader.specs.declared.phase.TextFor.TheVariants as text
use Rattle.jser_reader.specs.declared.tag.ValueTag.{ValueTag}
use Rattle.jser_reader.specs.declared.tag.ValueTag.TheVariants as value
use Rattle.jser_reader.specs.declared.tally.Tally.{Tally}
use Rattle.jser_reader.specs.Tags.{view_tag}
use Rattle.jser_reader.specs.Readers.{Seen, Ready}
use Rattle.jser_reader.specs.Steps.{after_value}
use Rattle.jser_reader.specs.Handlers.{Comes, Tells, Assigns, moved, with_entry, added, counted, is_full, handle_reason, begun, place_reason, after_tag, plain_gate, label_at, owner_state}
use Rattle.jser_reader.specs.Takes.{counted_on, farther, TakesByte, TakesFromFor, TakesRaw, IsOne, taken_by}
use Rattle.jser_reader.specs.Tallies.{CountsNext}
use Rattle.jser_reader.specs.Passes.{Passes, CanPass}
use Rattle.jser_reader.specs.Frames.{goal_owner}
use Rattle.jser_reader.specs.Wholes.{IsPlace, HasPlace, HasNumber, HasText, HasReference, tag_of_owner, placed, with_class, AssignsText, AssignsOther, all_or_none}
use Rattle.jser_reader.proofs.EndLemmas.{same_value}
use Rattle.jser_reader.proofs.ValueLemmas.{back_begun, object_begun, array_begun, class_begun, enum_begun, string_begun, new_text, counted_tag}
use Rattle.jser_reader.proofs.NumberLemmas.{right_handle, no_bytes, some_bytes}
use Rattle.jser_reader.proofs.TagLemmas.{top_value, note_value, value_value, top_block, note_block}
use Rattle.jser_reader.proofs.TakeLemmas.{counts_bytes, takes_top, takes_note, takes_value, takes_class_tag, takes_block_length, one_taken, takes_back_handle, takes_class_handle}
use Rattle.jser_reader.proofs.ClassLemmas.{class_reference}
use Rattle.jser_reader.proofs.PhaseLemmas.{whole_open}
use Rattle.jser_reader.proofs.CutLemmas.{four_taken}
use Rattle.jser_reader.proofs.TakeRawLemmas.{takes_prims, takes_block}
use Rattle.jser_reader.proofs.TextLemmas.{value_ends}
use Rattle.jser_reader.proofs.TextSteps.{short_text_taken}
use Rattle.jser_reader.proofs.ReaderLemmas.{take_whole}
use Rattle.jser_reader.proofs.PassLemmas.{quiet_stopped, joined_takes, then_passes, then_halts, passes_end, passes_stop, quiet_end, quiet_takes}
use Rattle.jser_verdict.specs.HandleRows.{is_no_handle}

-- ---- the tag of a value, at any place

pub place_is_one : (p : Phase) → IsPlace p → IsOne p
place_is_one phase.Top i = tt
place_is_one phase.Note i = tt
place_is_one phase.Value i = tt
place_is_one _ i = absurd i

pub tag_taken : (p : Phase) (t : ValueTag) (r m : Seen) → IsPlace p → r.phase ≡ p
    → Tells (place_reason (farther r 1) (view_tag t)) (after_tag (farther r 1) (view_tag t)) flow.On (farther r 1) m
    → TakesByte (tag_byte (view_tag t)) flow.On r m
tag_taken phase.Top t r m i e h =
    takes_top (tag_byte (view_tag t)) flow.On r (farther r 1) m (λ none. top_value t (tag_byte (view_tag t)) flow.On (farther r 1) m refl none h) refl e
tag_taken phase.Note t r m i e h =
    takes_note (tag_byte (view_tag t)) flow.On r (farther r 1) m (λ _. note_value t (tag_byte (view_tag t)) flow.On (farther r 1) m refl h) refl e
tag_taken phase.Value t r m i e h =
    takes_value (tag_byte (view_tag t)) flow.On r (farther r 1) m (value_value t (tag_byte (view_tag t)) flow.On (farther r 1) m refl h) refl e
tag_taken _ t r m i e h = absurd i

pub tag_passes : (gate : Gate) (t : ValueTag) (piece : List ℕ) (r m : Seen) (before after : Tally) → IsGate gate → CanPass r piece → IsPlace r.phase
    → 0 < length piece → tag_byte (view_tag t) ≡ get_or piece 0 0
    → Tells (place_reason (farther r 1) (view_tag t)) (after_tag (farther r 1) (view_tag t)) flow.On (farther r 1) m
    → CountsNext r (tag_byte (view_tag t)) before after → Passes gate piece (Some 1) r before m after
tag_passes gate t piece r m before after g can i some first h c =
    passes_end gate 1 (taken.Ended 1) piece r m before after
    (one_taken (tag_byte (view_tag t)) flow.On (taken.Ended 1) piece r m (tag_taken r.phase t r m i refl h) refl first some (place_is_one r.phase i) gate)
    refl (subst (λ b. CountsNext r b before after) first c) g can

-- what is left of the piece may be taken as well

bytes_rest : (xs : List ℕ) → IsBytes xs → IsBytes (drop 1 xs)
bytes_rest [] h = refl
bytes_rest (x ∷ xs) h = go (nat_lt x 0x100) h
  where
    go : (b : Bool) → IsTrue (b && list_all (λ b. nat_lt b 0x100) xs) → IsBytes xs
    go true h = h
    go false h = absurd (cc)

pub rest_can : (piece : List ℕ) (r m : Seen) → CanPass r piece → 0 < length piece → m.meter.at ≡ r.meter.at + 1
    → m.meter.limits.bytes ≡ r.meter.limits.bytes → CanPass m (drop 1 piece)
rest_can piece r m can some ea el =
    let n = length-drop 1 piece in
    let f = can.within.fits in
    let room = can.within.room some in
    record {
      within = record {
        is_front = sym (take_whole (drop 1 piece));
        short = omega arith;
        fits = omega arith;
        room = λ more. omega arith;
        full = λ less. absurd (omega arith);
      };
      all_bytes = bytes_rest piece can.all_bytes;
    }

bytes_on : (n : ℕ) (xs : List ℕ) → IsBytes xs → IsBytes (drop n xs)
bytes_on zero xs h = h
bytes_on (suc n) [] h = h
bytes_on (suc n) (x ∷ xs) h = bytes_on n xs (bytes_rest (x ∷ xs) h)

-- what is left of the piece after a value may be taken too
pub can_go_on : (piece : List ℕ) (used : ℕ) (r new : Seen) → CanPass r piece → used ≤ length piece → new.meter ≡ moved (counted_on r.meter used)
    → CanPass new (drop used piece)
can_go_on piece used r new can le em =
    let n = length-drop used piece in
    let f = can.within.fits in
    let room = can.within.room in
    let at : new.meter.at ≡ r.meter.at + used = ap (λ m. m.at) em in
    let limits : new.meter.limits.bytes ≡ r.meter.limits.bytes = ap (λ m. m.limits.bytes) em in
    record {
      within = record {
        is_front = sym (take_whole (drop used piece));
        short = omega arith;
        fits = omega arith;
        room = λ more. let enough = room (omega arith) in omega arith;
        full = λ less. absurd (omega arith);
      };
      all_bytes = bytes_on used piece can.all_bytes;
    }

-- ---- a value ends

-- the end of a value, said of a machine that was as far and has the same
pub same_end : (m k new : Seen) → Comes m new (after_value m) → moved k.meter ≡ moved m.meter → k.frames ≡ m.frames → k.layers ≡ m.layers
    → k.table ≡ m.table → k.refs ≡ m.refs → Comes k new (after_value k)
same_end m k new h em ef ey et er = record {
  ready = subst (Ready new) (sym (same_value m k ef ey et er)) h.ready;
  meter = h.meter ∙ sym em;
  max = h.max ∙ sym (ap (λ t. t.max) et);
}

-- its bytes are counted at once, or after those of the tag
pub same_meter : (r : Seen) (n : ℕ) → moved (counted_on (moved (counted_on r.meter 1)) n) ≡ moved (counted_on r.meter (n + 1))
same_meter r n =
    let e : (r.meter.at + 1) + n ≡ r.meter.at + (n + 1) = omega arith in
    ap (λ k. record { at = k; from = k; limits = r.meter.limits; stop = r.meter.stop; cut_phase = r.meter.cut_phase; kept = r.meter.kept }) e

-- ---- a reference

-- after its tag
abbrev pub begun_reference : Seen → Seen
begun_reference r = record {
  meter = moved (counted_on r.meter 1);
  phase = phase.BackHandle;
  frames = r.frames;
  layers = r.layers;
  table = r.table;
  refs = suc r.refs;
  owner = r.owner;
  elements = r.elements;
  header = r.header;
  text = r.text;
  left = r.left;
  scan = r.scan;
  name = r.name;
}

pub reference_begins : (r : Seen) → HasPlace r
    → Tells (place_reason (farther r 1) reference_tag) (after_tag (farther r 1) reference_tag) flow.On (farther r 1) (begun_reference r)
reference_begins r h =
    counted_tag reference_tag flow.On (farther r 1) (begun_reference r) (record { shallow = h.shallow; few = h.few })
    (back_begun flow.On (counted (farther r 1)) (begun_reference r)
    (record { phase_is = refl; frames = refl; layers = refl; table = refl; refs = refl; owner_is = refl; chain_is = refl; header_is = refl; text_is = refl; left = refl; meter = refl })
    refl)

pub reference_passes : (gate : Gate) (n : ℕ) (piece : List ℕ) (old far new : Seen) (before after : Tally) → IsGate gate → CanPass old piece → IsPlace old.phase
    → 0x71 ≡ get_or piece 0 0 → HasNumber piece n → n < 2 ^ 32 → HasPlace old → is_no_handle old.table.entries n ≡ false
    → far ≡ placed old 5 → Comes far new (after_value far) → CountsNext old 0x71 before after
    → Passes gate piece (Some 5) old before new after
reference_passes gate n piece old far new before after g can i first h small p named_is ef end count =
    let comes : Comes (placed old 5) new (after_value (placed old 5)) = subst (λ r. Comes r new (after_value r)) ef end in
    let enough = h.within in
    let m : Seen = begun_reference old in
    let rest : List ℕ = drop 1 piece in
    let len = length-drop 1 piece in
    let ends : Comes (farther m 4) new (after_value (farther m 4)) =
    same_end (placed old 5) (farther m 4) new comes (same_meter old 4) refl refl refl refl in
    let tag : Passes gate piece (Some 1) old before m after =
    tag_passes gate value.Reference piece old m before after g can i (omega arith) first (reference_begins old p) count in
    let handle : Passes gate rest (Some 4) m after new after =
    quiet_end gate 4 (taken.Ended 4) rest m new after
    (four_taken n flow.On (taken.Ended 4) rest (take 4 rest) m new
    (takes_back_handle n 4 flow.On m (farther m 4) new (right_handle n true flow.On (farther m 4) new (sym (ap not named_is)) refl ends refl) refl refl (omega arith) small)
    refl tt h.spelled refl (omega arith) gate)
    refl tt (rest_can piece old m can (omega arith) refl refl) in
    then_passes gate piece rest 1 4 old m new before after after tag handle refl

-- ---- the beginning of what has a class

-- after its tag
abbrev pub begun_owner : Owner → Seen → Seen
begun_owner o r = record {
  meter = moved (counted_on r.meter 1);
  phase = phase.ClassTag;
  frames = r.frames;
  layers = r.layers;
  table = r.table;
  refs = suc r.refs;
  owner = o;
  elements = r.elements;
  header = r.header;
  text = r.text;
  left = r.left;
  scan = r.scan;
  name = r.name;
}

owner_counted : (o : Owner) (r : Seen)
    → Tells (handle_reason (counted (farther r 1)) (view_tag (tag_of_owner o))) (begun (counted (farther r 1)) (view_tag (tag_of_owner o))) flow.On (counted (farther r 1)) (begun_owner o r)
owner_counted owner.Object r =
    object_begun flow.On (counted (farther r 1)) (begun_owner owner.Object r)
    (record { phase_is = refl; frames = refl; layers = refl; table = refl; refs = refl; owner_is = refl; chain_is = refl; header_is = refl; text_is = refl; left = refl; meter = refl })
    refl
owner_counted owner.Array r =
    array_begun flow.On (counted (farther r 1)) (begun_owner owner.Array r)
    (record { phase_is = refl; frames = refl; layers = refl; table = refl; refs = refl; owner_is = refl; chain_is = refl; header_is = refl; text_is = refl; left = refl; meter = refl })
    refl
owner_counted owner.EnumConst r =
    enum_begun flow.On (counted (farther r 1)) (begun_owner owner.EnumConst r)
    (record { phase_is = refl; frames = refl; layers = refl; table = refl; refs = refl; owner_is = refl; chain_is = refl; header_is = refl; text_is = refl; left = refl; meter = refl })
    refl
owner_counted owner.ClassObject r =
    class_begun flow.On (counted (farther r 1)) (begun_owner owner.ClassObject r)
    (record { phase_is = refl; frames = refl; layers = refl; table = refl; refs = refl; owner_is = refl; chain_is = refl; header_is = refl; text_is = refl; left = refl; meter = refl })
    refl

pub owner_begins : (o : Owner) (r : Seen) → HasPlace r
    → Tells (place_reason (farther r 1) (view_tag (tag_of_owner o))) (after_tag (farther r 1) (view_tag (tag_of_owner o))) flow.On (farther r 1) (begun_owner o r)
owner_begins o r h =
    counted_tag (view_tag (tag_of_owner o)) flow.On (farther r 1) (begun_owner o r) (record { shallow = h.shallow; few = h.few }) (owner_counted o r)

-- after the tag of the reference that is its class
abbrev pub at_class : Seen → Seen
at_class r = record {
  meter = moved (counted_on r.meter 1);
  phase = phase.ClassHandle;
  frames = r.frames;
  layers = r.layers;
  table = r.table;
  refs = r.refs;
  owner = r.owner;
  elements = r.elements;
  header = r.header;
  text = r.text;
  left = r.left;
  scan = r.scan;
  name = r.name;
}

pub class_tag_taken : (r : Seen) → r.phase ≡ phase.ClassTag → TakesByte 0x71 flow.On r (at_class r)
class_tag_taken r ep =
    takes_class_tag 0x71 flow.On r (farther r 1) (at_class r)
    (class_reference 0x71 flow.On (farther r 1) (at_class r)
    (record { phase_is = refl; frames = refl; layers = refl; table = refl; refs = refl; owner_is = refl; chain_is = refl; header_is = refl; text_is = refl; left = refl; meter = refl })
    refl refl)
    refl ep

pub same_class : (o : Owner) (r : Seen) → with_class o r ≡ farther (at_class (begun_owner o r)) 4
same_class o r =
    let e : r.meter.at + 2 ≡ r.meter.at + 1 + 1 = omega arith in
    ap (λ k. record {
      meter = record { at = k + 4; from = k; limits = r.meter.limits; stop = r.meter.stop; cut_phase = r.meter.cut_phase; kept = r.meter.kept };
      phase = phase.ClassHandle;
      frames = r.frames;
      layers = r.layers;
      table = r.table;
      refs = suc r.refs;
      owner = o;
      elements = r.elements;
      header = r.header;
      text = r.text;
      left = r.left;
      scan = r.scan;
      name = r.name;
    }) e

-- what is told of the handle of a class
abbrev pub TellsClass : ℕ → Flow → (mid new : Seen) → Type 0
TellsClass n found mid new =
    Tells (class_handle_reason (plain_gate mid) (label_at (class_handle_at (goal_owner mid.owner)) (suc (length mid.frames)) mid) (goal_owner mid.owner) n)
    (owner_state mid (chain_at mid.table.entries (n - 0x7E0000))) found mid new

class_passes : (gate : Gate) (n : ℕ) (found : Flow) (piece : List ℕ) (r new : Seen) (tally : Tally) → CanPass r piece → r.phase ≡ phase.ClassHandle → 4 ≤ length piece
    → big_bytes 4 n ≡ take 4 piece → n < 2 ^ 32 → TellsClass n found (farther r 4) new → Passes gate piece (all_or_none found 4) r tally new tally
class_passes gate n found piece r new tally can ep enough spelled small told =
    go found
    (four_taken n found (taken_by 4 found) piece (take 4 piece) r new
    (takes_class_handle n 4 found r (farther r 4) new told refl (whole_open phase.ClassHandle r ep (omega arith)).0 (omega arith) small)
    refl (rw ep tt) spelled refl enough gate)
  where
    go : (found : Flow) → TakesFromFor gate (taken_by 4 found) piece r new → Passes gate piece (all_or_none found 4) r tally new tally
    go flow.On h = quiet_end gate 4 (taken.Ended 4) piece r new tally h refl (rw ep tt) can
    go flow.Stopped h = passes_stop gate 4 (taken.Stopped 4) piece r new tally tally h refl can (quiet_stopped r tally (rw ep tt))

-- one step after another, where the second may stop
pub then_all : (gate : Gate) (piece rest : List ℕ) (used k all : ℕ) (found : Flow) (old mid new : Seen) (before between after : Tally) → Passes gate piece (Some used) old before mid between
    → Passes gate rest (all_or_none found k) mid between new after → rest ≡ drop used piece → used + k ≡ all → Passes gate piece (all_or_none found all) old before new after
then_all gate piece rest used k all flow.On old mid new before between after h g e ea =
    subst (λ u. Passes gate piece (Some u) old before new after) ea (then_passes gate piece rest used k old mid new before between after h g e)
then_all gate piece rest used k all flow.Stopped old mid new before between after h g e ea = then_halts gate piece rest used old mid new before between after h g e

pub second_is : (piece : List ℕ) (b : ℕ) → b ≡ get_or piece 1 0 → b ≡ get_or (drop 1 piece) 0 0
second_is [] b e = e
second_is (x ∷ []) b e = e
second_is (x ∷ y ∷ piece) b e = e

pub two_on : (piece : List ℕ) → drop 2 piece ≡ drop 1 (drop 1 piece)
two_on [] = refl
two_on (x ∷ []) = refl
two_on (x ∷ y ∷ piece) = refl

pub owner_passes : (gate : Gate) (o : Owner) (n : ℕ) (found : Flow) (piece : List ℕ) (old mid new : Seen) (before after : Tally) → IsGate gate → CanPass old piece
    → IsPlace old.phase → tag_byte (view_tag (tag_of_owner o)) ≡ get_or piece 0 0 → HasReference piece n → n < 2 ^ 32 → HasPlace old
    → mid ≡ with_class o old → TellsClass n found mid new → CountsNext old (tag_byte (view_tag (tag_of_owner o))) before after
    → Passes gate piece (all_or_none found 6) old before new after
owner_passes gate o n found piece old mid new before after g can i first h small p em told count =
    let enough = h.within in
    let m : Seen = begun_owner o old in
    let k : Seen = at_class m in
    let rest : List ℕ = drop 1 piece in
    let last : List ℕ = drop 1 rest in
    let l = length-drop 1 piece in
    let r = length-drop 1 rest in
    let can_m : CanPass m rest = rest_can piece old m can (omega arith) refl refl in
    let can_k : CanPass k last = rest_can rest m k can_m (omega arith) refl refl in
    let tag : Passes gate piece (Some 1) old before m after =
    tag_passes gate (tag_of_owner o) piece old m before after g can i (omega arith) first (owner_begins o old p) count in
    let class : Passes gate rest (Some 1) m after k after =
    quiet_end gate 1 (taken.Ended 1) rest m k after
    (one_taken 0x71 flow.On (taken.Ended 1) rest m k (class_tag_taken m refl) refl (second_is piece 0x71 h.tag) (omega arith) tt gate)
    refl tt can_m in
    let handle : Passes gate last (all_or_none found 4) k after new after =
    class_passes gate n found last k new after can_k refl (omega arith) (h.spelled ∙ ap (take 4) (two_on piece)) small
    (subst (λ r. TellsClass n found r new) (em ∙ same_class o old) told) in
    then_all gate piece rest 1 5 6 found old m new before after after tag
    (then_all gate rest last 1 4 5 found m k new after after after class handle refl refl) refl refl

-- ---- a string

-- after its tag
abbrev pub begun_string : Seen → Seen
begun_string r = record {
  meter = moved (counted_on r.meter 1);
  phase = phase.Length2;
  frames = r.frames;
  layers = r.layers;
  table = with_entry r.table text_entry;
  refs = suc r.refs;
  owner = r.owner;
  elements = r.elements;
  header = r.header;
  text = text.Value;
  left = r.left;
  scan = r.scan;
  name = r.name;
}

pub assigned_text : (r : Seen) → is_full r ≡ false → Assigns text_entry (Some (length r.table.entries)) r (added r text_entry)
unfolding Assigns
assigned_text r full = (refl, full, refl)

pub string_begins : (r : Seen) → HasPlace r → is_full r ≡ false
    → Tells (place_reason (farther r 1) string_tag) (after_tag (farther r 1) string_tag) flow.On (farther r 1) (begun_string r)
string_begins r h full =
    let mid : Seen = counted (farther r 1) in
    counted_tag string_tag flow.On (farther r 1) (begun_string r) (record { shallow = h.shallow; few = h.few })
    (string_begun flow.On mid (begun_string r)
    (λ form inside. new_text (length mid.table.entries) false text.Value flow.On mid (added mid text_entry) (begun_string r) (assigned_text mid full)
    (record { phase_is = refl; frames = refl; layers = refl; table = refl; refs = refl; owner_is = refl; chain_is = refl; header_is = refl; text_is = refl; left = refl; meter = refl })
    refl tt tt))

pub text_assigned : (b : Bool) (old mid : Seen) → AssignsText b old mid → b ≡ true → AssignsText true old mid
text_assigned b old mid h e = subst (λ x. AssignsText x old mid) e h

pub no_text_assigned : (b : Bool) (old mid : Seen) → AssignsText b old mid → b ≡ false → mid ≡ old
unfolding AssignsText
no_text_assigned true old mid h e = absurd (cc)
no_text_assigned false old mid h e = h

pub string_few : (old mid : Seen) → AssignsText true old mid → HasPlace old → mid.refs < mid.meter.limits.refs
unfolding AssignsText
string_few old mid h p = subst (λ r. r.refs < r.meter.limits.refs) (sym h.1) p.few

pub string_room : (piece : List ℕ) (len : ℕ) (old mid : Seen) → AssignsText true old mid → CanPass old piece → HasText piece len
    → mid.meter.at + (len + 3) < 2 ^ 64
unfolding AssignsText
string_room piece len old mid h can t =
    let enough = t.within in
    let room = can.within.room (omega arith) in
    subst (λ r. r.meter.at + (len + 3) < 2 ^ 64) (sym h.1) (let k : old.meter.at + (len + 3) < 2 ^ 64 = omega arith in k)

pub string_passes : (gate : Gate) (len : ℕ) (piece : List ℕ) (old mid far new : Seen) (before after : Tally) → IsGate gate → CanPass old piece → IsPlace old.phase
    → 0x74 ≡ get_or piece 0 0 → HasText piece len → HasPlace old → AssignsText true old mid
    → far ≡ placed mid (len + 3) → Comes far new (after_value far) → CountsNext old 0x74 before after
    → Passes gate piece (Some (len + 3)) old before new after
unfolding AssignsText
string_passes gate len piece old mid far new before after g can i first h p assigns ef end counted =
    let comes : Comes (placed mid (len + 3)) new (after_value (placed mid (len + 3))) = subst (λ r. Comes r new (after_value r)) ef end in
    let enough = h.within in
    let m : Seen = begun_string old in
    let k : Seen = added old text_entry in
    let rest : List ℕ = drop 1 piece in
    let n = length-drop 1 piece in
    let size : length (take (2 + len) rest) ≡ 2 + len = length-take-le (2 + len) rest (omega arith) in
    let e : 2 + len + 1 ≡ len + 3 = omega arith in
    let come : Comes (placed k (2 + len + 1)) new (after_value (placed k (2 + len + 1))) =
    subst (λ b. Comes (placed k b) new (after_value (placed k b))) (sym e) (subst (λ r. Comes (placed r (len + 3)) new (after_value (placed r (len + 3)))) assigns.1 comes) in
    let ends : Comes (farther m (2 + len)) new (after_value (farther m (2 + len))) =
    same_end (placed k (2 + len + 1)) (farther m (2 + len)) new come (same_meter old (2 + len)) refl refl refl refl in
    let tag : Passes gate piece (Some 1) old before m after =
    tag_passes gate value.String piece old m before after g can i (omega arith) first (string_begins old p assigns.0) counted in
    let body : Passes gate rest (Some (2 + len)) m after new after =
    quiet_takes gate (2 + len) rest m new after (omega arith)
    (short_text_taken gate m (farther m (2 + len)) new (take (2 + len) rest) h.units
    (λ inside. value_ends gate flow.On (farther m (2 + len)) new ends refl refl h.units (record { inside = inside; kept = λ checked. absurd (cc) }))
    refl (omega arith) (counts_bytes (take (2 + len) rest) (2 + len) m (farther m (2 + len)) refl size) h.are_text h.spelled)
    tt (rest_can piece old m can (omega arith) refl refl) in
    subst (λ u. Passes gate piece (Some u) old before new after) (let s : 1 + (2 + len) ≡ len + 3 = omega arith in s)
    (then_passes gate piece rest 1 (2 + len) old m new before after after tag body refl)

-- ---- a block

-- after its tag
abbrev begun_block : Seen → Seen
begun_block r = record {
  meter = moved (counted_on r.meter 1);
  phase = phase.BlockLength1;
  frames = r.frames;
  layers = r.layers;
  table = r.table;
  refs = r.refs;
  owner = r.owner;
  elements = r.elements;
  header = r.header;
  text = r.text;
  left = r.left;
  scan = r.scan;
  name = r.name;
}

block_begins : (p : Phase) (r : Seen) → IsPlace p → (p ≡ phase.Value → ⊥) → r.phase ≡ p → TakesByte 0x77 flow.On r (begun_block r)
block_begins phase.Top r i other e =
    takes_top 0x77 flow.On r (farther r 1) (begun_block r)
    (λ none. top_block false 0x77 flow.On (farther r 1) (begun_block r) refl
    (record { phase_is = refl; frames = refl; layers = refl; table = refl; refs = refl; owner_is = refl; chain_is = refl; header_is = refl; text_is = refl; left = refl; meter = refl })
    refl)
    refl e
block_begins phase.Note r i other e =
    takes_note 0x77 flow.On r (farther r 1) (begun_block r)
    (λ _. note_block false 0x77 flow.On (farther r 1) (begun_block r) refl
    (record { phase_is = refl; frames = refl; layers = refl; table = refl; refs = refl; owner_is = refl; chain_is = refl; header_is = refl; text_is = refl; left = refl; meter = refl })
    refl)
    refl e
block_begins phase.Value r i other e = absurd (other refl)
block_begins _ r i other e = absurd i

-- so many bytes are left of it
abbrev with_left : Seen → ℕ → Seen
with_left r n = record {
  meter = r.meter;
  phase = r.phase;
  frames = r.frames;
  layers = r.layers;
  table = r.table;
  refs = r.refs;
  owner = r.owner;
  elements = r.elements;
  header = r.header;
  text = r.text;
  left = n;
  scan = r.scan;
  name = r.name;
}

-- after its length
abbrev opened_block : Seen → ℕ → Seen
opened_block r n = record {
  meter = moved (counted_on r.meter 1);
  phase = phase.Bytes;
  frames = r.frames;
  layers = r.layers;
  table = r.table;
  refs = r.refs;
  owner = r.owner;
  elements = r.elements;
  header = r.header;
  text = r.text;
  left = n;
  scan = r.scan;
  name = r.name;
}

block_opens : (n : ℕ) (r : Seen) → 0 < n → r.phase ≡ phase.BlockLength1 → TakesByte n flow.On r (opened_block r n)
block_opens n r some ep =
    takes_block_length n flow.On r (farther r 1) (opened_block r n)
    (some_bytes n flow.On (farther r 1) (with_left (farther r 1) n) (opened_block r n)
    (record { phase_is = refl; frames = refl; layers = refl; table = refl; refs = refl; owner_is = refl; chain_is = refl; header_is = refl; text_is = refl; left = refl; meter = refl })
    refl refl (λ none. absurd (omega arith)) refl refl refl refl refl)
    refl ep

pub raw_is_whole : (n : ℕ) (piece : List ℕ) (r new : Seen) → 0 < n → n ≤ length piece → r.left ≡ n → Comes (farther r n) new (after_value (farther r n))
    → TakesRaw (taken.Ended n) piece r new
unfolding TakesRaw
raw_is_whole n piece r new some enough e h = (some, enough, λ _. sym e, h)

-- its bytes are counted at once, or after those of the tag and the length
same_meter_twice : (r : Seen) (n : ℕ) → moved (counted_on (moved (counted_on (moved (counted_on r.meter 1)) 1)) n) ≡ moved (counted_on r.meter (n + 2))
same_meter_twice r n =
    let e : r.meter.at + 1 + 1 + n ≡ r.meter.at + (n + 2) = omega arith in
    ap (λ k. record { at = k; from = k; limits = r.meter.limits; stop = r.meter.stop; cut_phase = r.meter.cut_phase; kept = r.meter.kept }) e

pub block_passes : (gate : Gate) (n : ℕ) (piece : List ℕ) (old far new : Seen) (before after : Tally) → IsGate gate → CanPass old piece → IsPlace old.phase
    → (old.phase ≡ phase.Value → ⊥) → 0x77 ≡ get_or piece 0 0 → n ≡ get_or piece 1 0 → n + 2 ≤ length piece
    → far ≡ farther old (n + 2) → Comes far new (after_value far) → CountsNext old 0x77 before after
    → Passes gate piece (Some (n + 2)) old before new after
block_passes gate n piece old far new before after g can i other first second enough ef end count =
    then_all gate piece rest 1 (n + 1) (n + 2) flow.On old m new before after after tag (body n refl) refl (omega arith)
  where
    comes : Comes (farther old (n + 2)) new (after_value (farther old (n + 2)))
    comes = subst (λ r. Comes r new (after_value r)) ef end

    m : Seen
    m = begun_block old

    rest : List ℕ
    rest = drop 1 piece

    some : 0 < length piece
    some = omega arith

    can_m : CanPass m rest
    can_m = rest_can piece old m can some refl refl

    tag : Passes gate piece (Some 1) old before m after
    tag =
        passes_end gate 1 (taken.Ended 1) piece old m before after
        (one_taken 0x77 flow.On (taken.Ended 1) piece old m (block_begins old.phase old i other refl) refl first some (place_is_one old.phase i) gate) refl (subst (λ b. CountsNext old b before after) first count) g can

    left : length rest + 1 ≡ length piece
    left = omega (arith, length-drop 1 piece)

    body : (k : ℕ) → n ≡ k → Passes gate rest (Some (n + 1)) m after new after
    body zero e =
        let none : n + 2 ≡ 2 = omega arith in
        let one : 1 ≡ n + 1 = omega arith in
        let ends : Comes (farther m 1) new (after_value (farther m 1)) =
        same_end (farther old 2) (farther m 1) new (subst (λ k. Comes (farther old k) new (after_value (farther old k))) none comes) (same_meter old 1) refl refl refl refl in
        subst (λ k. Passes gate rest (Some k) m after new after) one
        (quiet_end gate 1 (taken.Ended 1) rest m new after
        (one_taken n flow.On (taken.Ended 1) rest m new
        (takes_block_length n flow.On m (farther m 1) new (no_bytes n flow.On (farther m 1) new ends refl e) refl refl)
        refl (second_is piece n second) (omega (arith, left)) tt gate)
        refl tt can_m)
    body (suc k) e =
        let m2 : Seen = opened_block m n in
        let last : List ℕ = drop 1 rest in
        let l = length-drop 1 rest in
        let r = left in
        let ends : Comes (farther m2 n) new (after_value (farther m2 n)) =
        same_end (farther old (n + 2)) (farther m2 n) new comes (same_meter_twice old n) refl refl refl refl in
        let len : Passes gate rest (Some 1) m after m2 after =
        quiet_end gate 1 (taken.Ended 1) rest m m2 after
        (one_taken n flow.On (taken.Ended 1) rest m m2 (block_opens n m (omega arith) refl) refl (second_is piece n second) (omega arith) tt gate)
        refl tt can_m in
        let raw : Passes gate last (Some n) m2 after new after =
        quiet_end gate n (taken.Ended n) last m2 new after
        (takes_block (taken.Ended n) last m2 new (raw_is_whole n last m2 new (omega arith) (omega arith) refl ends) refl (omega arith) gate)
        refl tt (rest_can rest m m2 can_m (omega arith) refl refl) in
        then_all gate rest last 1 n (n + 1) flow.On m m2 new after after after len raw refl (omega arith)

-- ---- ---- a raw value

pub raw_passes : (gate : Gate) (n : ℕ) (piece : List ℕ) (old far new : Seen) (tally : Tally) → CanPass old piece → old.phase ≡ phase.Prims → old.left ≡ n
    → 0 < n → n ≤ length piece → far ≡ farther old n → Comes far new (after_value far) → Passes gate piece (Some n) old tally new tally
raw_passes gate n piece old far new tally can ep el some enough ef end =
    let comes : Comes (farther old n) new (after_value (farther old n)) = subst (λ r. Comes r new (after_value r)) ef end in
    quiet_end gate n (taken.Ended n) piece old new tally
    (takes_prims (taken.Ended n) piece old new (raw_is_whole n piece old new some enough el comes) ep (omega arith) gate) refl (rw ep tt) can

-- the text of a piece, and its length before it

pub has_text : (len : ℕ) (piece rest number after text : List ℕ) (scan : Scan) (ok : Type 0) → 3 ≤ length piece → rest ≡ drop 1 piece → number ≡ take 2 rest
    → after ≡ drop 2 rest → text ≡ take len after → big_bytes 2 len ≡ number → len ≤ length after → len < 2 ^ 16 → HasAccepted len [] [] scan
    → ((n : ℕ) (before units : List ℕ) → HasAccepted n before units scan → ok ↔ BeginsText n (before ++ text)) → ok → HasText piece len
has_text len piece rest number after text scan ok enough er en ea et eb within small accepted told done =
    let begins : BeginsText len text = (told len [] [] accepted).0 done in
    let size : length text ≡ len = ap length et ∙ length-take-le len after within in
    let is : modified_utf8 begins.units ≡ text = begins_whole len text begins size in
    let long : length (modified_utf8 begins.units) ≡ len = begins.has_length in
    let n = length-drop 1 piece in
    let nr : length rest ≡ length (drop 1 piece) = ap length er in
    let na : length after ≡ length (drop 2 rest) = ap length ea in
    let nd = length-drop 2 rest in
    record {
      units = begins.units;
      are_text = (begins.are_units, omega arith);
      within = omega arith;
      spelled =
          ap₂ (λ k bytes. big_bytes 2 k ++ bytes) long is ∙ ap₂ (λ a b. a ++ b) (eb ∙ en) et
          ∙ joined_takes rest after 2 len (omega arith) (sym (take-append-drop 2 rest) ∙ ap (λ xs. take 2 rest ++ xs) (sym ea))
          ∙ ap (take (2 + len)) er;
    }

-- ---- a handle is assigned, or not

pub assigns_text : (number : ℕ) (result : Bool) (old new : Seen) → number ≡ length old.table.entries → number < old.table.max → new ≡ added old text_entry
    → result ≡ true → AssignsText result old new
unfolding AssignsText
assigns_text number result old new e lt h er =
    rw er (lt-leb old.table.max (length old.table.entries) (omega arith), h)

pub assigns_nothing : (result : Bool) (old new : Seen) → new ≡ old → result ≡ false → AssignsText result old new
unfolding AssignsText
assigns_nothing result old new h er = rw er h

-- ---- the handle of what has a class

pub assigns_other : (number : ℕ) (result : Bool) (old new : Seen) → number ≡ length old.table.entries → number < old.table.max → new ≡ added old other_entry
    → result ≡ true → AssignsOther result old new
unfolding AssignsOther
assigns_other number result old new e lt h er =
    rw er (lt-leb old.table.max (length old.table.entries) (omega arith), h)

pub assigns_no_other : (result : Bool) (old new : Seen) → new ≡ old → result ≡ false → AssignsOther result old new
unfolding AssignsOther
assigns_no_other result old new h er = rw er h

pub other_assigned : (b : Bool) (old mid : Seen) → AssignsOther b old mid → b ≡ true → AssignsOther true old mid
other_assigned b old mid h e = subst (λ x. AssignsOther x old mid) e h

pub no_other : (result : Bool) (old new : Seen) → AssignsOther result old new → result ≡ false → new ≡ old
unfolding AssignsOther
no_other true old new h e = absurd (cc)
no_other false old new h e = h

pub assigned_other : (r : Seen) → is_full r ≡ false → Assigns other_entry (Some (length r.table.entries)) r (added r other_entry)
unfolding Assigns
assigned_other r full = (refl, full, refl)
