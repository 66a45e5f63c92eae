-- Records that are frames, and the bytes of a record that are as many as its length says.
use Rattle.std.proofs.Common.{◌≡◌, ◌⊎◌, ℕ, ◌+◌, ◌<◌, Bool, false, List, [], ◌++◌, length, Some, None, inl, inr, refl, sym, ap, subst, ◌∙◌, arith, append-nil, length-append}
use Rattle.std.specs.Prelude.{IfSome}
use Rattle.jser_prim.specs.Bytes.{big_bytes}
use Rattle.jser_prim.specs.Outgoing.{SinkState}
use Rattle.jser_inputs.specs.declared.place.Place.TheVariants as place
use Rattle.jser_scan.specs.declared.Found.TheVariants as found
use Rattle.jser_records.specs.declared.answer.Answer.{Answer}
use Rattle.jser_records.specs.declared.answer.Answer.TheVariants as answer
use Rattle.jser_records.specs.declared.clerk.Clerk.{Clerk}
use Rattle.jser_records.specs.declared.key.Key.{Key}
use Rattle.jser_records.specs.declared.layout.Shape.TheVariants as shape
use Rattle.jser_records.specs.declared.current.Record.{Record}
use Rattle.jser_records.specs.declared.reading.Reading.{Reading}
use Rattle.jser_records.specs.Arriving.{Arriving, IsOver, Took, ahead}
use Rattle.jser_records.specs.Held.{Holds, HoldsMore, HoldsSame, Terms, may_pass}
use Rattle.jser_records.specs.Frames.{Begun, IsBehind, IsFrame, Takes, TakesOn, TakesSome, TakesValue, null_length}
use Rattle.jser_records.specs.Keys.{HasNoKey, KeepsKey}
use Rattle.jser_records.specs.Readings.{Came, Counts, HasLost, HasPlain, HasRead, IsFor, IsOfBytes, Value, none, plain, text_of, cut_at, unknown, parted, failed}
use Rattle.jser_records.specs.Records.{RecordsGo}
use Rattle.jser_records.specs.Sized.{at_line}
use Rattle.jser_records.specs.Told.{Closes, Entry, Quiet, ended}
use Rattle.jser_records.proofs.ReadingLemmas.{answers, undecided_right}
use Rattle.jser_records.proofs.HeldLemmas.{holds_both, holds_kept, holds_none, holds_refused, holds_then}
use Rattle.jser_records.proofs.RecordLemmas.{handed, part_said}
use Rattle.jser_records.proofs.RoomLemmas.{ahead_over, took_both, took_none}

-- ---- bytes that are no text

ran_out : (old : Reading) (bytes : List ℕ) → HasRead (record old { answer = Some (answer.Checked found.OutOfMemory) }) bytes
ran_out old bytes = answers old.judge old.most old.room (answer.Checked found.OutOfMemory) bytes (λ more. undecided_right old.judge.rules old.most (bytes ++ more))

-- there was no memory to keep them, or there was
pub plain_held : (old mid : Reading) (bytes : List ℕ) → (mid ≡ old) ⊎ (mid ≡ record old { answer = Some (answer.Checked found.OutOfMemory) }) → HasPlain old bytes → HasPlain mid bytes
plain_held old mid bytes (inl same) had = subst (λ r. HasPlain r bytes) (sym same) had
plain_held old mid bytes (inr out) had = subst (λ r. HasPlain r bytes) (sym out) (record { read = ran_out old bytes; place = had.place; is_of = tt })

pub plain_begun : (r : Reading) → HasRead r [] → r.decoder.spot.place ≡ place.Bytes → r.answer ≡ None → HasPlain r []
plain_begun r had at is = record { read = had; place = at; is_of = subst (λ o. IfSome o IsOfBytes) (sym is) tt }

pub held_key : (begun mid : Reading) → (mid ≡ begun) ⊎ (mid ≡ record begun { answer = Some (answer.Checked found.OutOfMemory) }) → mid.key ≡ begun.key
held_key begun mid (inl same) = ap (λ r. r.key) same
held_key begun mid (inr out) = ap (λ r. r.key) out

plain_more : (mid new : Reading) (bytes piece : List ℕ) → ((taken : List ℕ) → HasRead mid taken → HasRead new (taken ++ piece))
    → (IfSome mid.answer IsOfBytes → IfSome new.answer IsOfBytes) → new.decoder ≡ mid.decoder → HasPlain mid bytes → HasPlain new (bytes ++ piece)
plain_more mid new bytes piece has is_of same had =
    record { read = has bytes had.read; place = ap (λ d. d.spot.place) same ∙ had.place; is_of = is_of had.is_of }

-- ---- how many there are

place_of : (r : Reading) (bytes : List ℕ) → HasPlain r bytes ⊎ HasLost r → r.decoder.spot.place ≡ place.Bytes
place_of r bytes (inl had) = had.place
place_of r bytes (inr lost) = lost.place

pub counts_longer : (old new : Reading) (count : ℕ) (before : List ℕ) → new ≡ record old { answer = Some (answer.Longer old.most) } → old.most < count → HasPlain old before ⊎ HasLost old
    → Counts new count before
counts_longer old new count before is more had =
    subst (λ r. Counts r count before) (sym is) (inr (inl (record { longer = refl; more = more; place = place_of old before had })))

pub counts_begun : (r : Reading) (count : ℕ) (before : List ℕ) → HasPlain r before ⊎ HasLost r → Counts r count before
counts_begun r count before (inl had) = inl had
counts_begun r count before (inr lost) = inr (inr lost)

pub counts_more : (old mid new : Reading) (total : ℕ) (bytes piece : List ℕ) → (may_pass old.answer ≡ false → mid ≡ old)
    → (mid ≡ old) ⊎ (mid ≡ record old { answer = Some (answer.Checked found.OutOfMemory) })
    → ((taken : List ℕ) → HasRead mid taken → HasRead new (taken ++ piece)) → IfSome mid.answer (λ a. new ≡ mid)
    → (IfSome mid.answer IsOfBytes → IfSome new.answer IsOfBytes) → new.decoder ≡ mid.decoder → Counts old total bytes → Counts new total (bytes ++ piece)
counts_more old mid new total bytes piece stays kept has still is_of same (inl had) =
    inl (plain_more mid new bytes piece has is_of same (plain_held old mid bytes kept had))
counts_more old mid new total bytes piece stays kept has still is_of same (inr (inl longer)) =
    let first : mid ≡ old = stays (ap may_pass longer.longer) in
    let is : mid.answer ≡ Some (answer.Longer old.most) = ap (λ r. r.answer) first ∙ longer.longer in
    let all : new ≡ mid = subst (λ o. IfSome o (λ a. new ≡ mid)) is still in
    subst (λ r. Counts r total (bytes ++ piece)) (sym (all ∙ first)) (inr (inl longer))
counts_more old mid new total bytes piece stays kept has still is_of same (inr (inr lost)) =
    let first : mid ≡ old = stays (ap may_pass lost.long) in
    let is : mid.answer ≡ Some answer.LongKey = ap (λ r. r.answer) first ∙ lost.long in
    let all : new ≡ mid = subst (λ o. IfSome o (λ a. new ≡ mid)) is still in
    subst (λ r. Counts r total (bytes ++ piece)) (sym (all ∙ first)) (inr (inr lost))

pub some_taken : (total count : ℕ) (before bytes : List ℕ) (from now : Arriving) (old new : Record) → Took from now bytes → length bytes ≡ count → Counts new.reading total (before ++ bytes)
    → HoldsMore old new bytes → TakesSome total before from now old new count
some_taken total count before bytes from now old new took size counts held = record { bytes = bytes; took = took; size = size; counts = counts; held = held }

-- the input was read on, and nothing was taken
pub some_later : (total count : ℕ) (before : List ℕ) (from mid now : Arriving) (old new last : Record) → TakesSome total before from mid old new count → Took mid now [] → last ≡ new
    → TakesSome total before from now old last count
some_later total count before from mid now old new last x later same = record {
  bytes = x.bytes;
  took = subst (λ xs. Took from now xs) (append-nil x.bytes) (took_both from mid now x.bytes [] x.took later);
  size = x.size;
  counts = subst (λ (r : Record). Counts r.reading total (before ++ x.bytes)) (sym same) x.counts;
  held = subst (λ (r : Record). HoldsMore old r x.bytes) (sym same) x.held;
}

-- ---- so many of all

pub takes_none : (count : ℕ) (at : Arriving) (old new : Record) → Counts new.reading count [] → HoldsSame old new → TakesOn count 0 at at old new
takes_none count at old new counts same =
    record { bytes = []; took = took_none at; size = refl; counts = counts; held = holds_then old old new [] (holds_none old) same }

pub takes_more : (count taken size : ℕ) (from mid now : Arriving) (a b c : Record) → (x : TakesOn count taken from mid a b)
    → TakesSome count x.bytes mid now b c size → TakesOn count (taken + size) from now a c
takes_more count taken size from mid now a b c x y = record {
  bytes = x.bytes ++ y.bytes;
  took = took_both from mid now x.bytes y.bytes x.took y.took;
  size = length-append x.bytes y.bytes ∙ (let a = x.size in let b = y.size in omega (arith, a, b));
  counts = y.counts;
  held = holds_both a b c x.bytes y.bytes x.held y.held;
}

all_read : (r : Reading) (total : ℕ) (bytes : List ℕ) → Counts r total bytes → length bytes ≡ total → Came r (plain bytes)
all_read r total bytes (inl had) size = inl had
all_read r total bytes (inr (inr lost)) size = inr (inr (lost.long, lost.lost))
all_read r total bytes (inr (inl x)) size =
    let is : record r { answer = Some (answer.Longer r.most) } ≡ r = ap (λ o. record r { answer = o }) (sym x.longer) in
    inl (subst (λ q. HasPlain q bytes) is
    (record {
      read =
          answers r.judge r.most r.room (answer.Longer r.most) bytes
          (λ more. let all : length (bytes ++ more) ≡ length bytes + length more = length-append bytes more in let less = x.more in (refl, omega (arith, all, less, size)));
      place = x.place;
      is_of = tt;
    }))

pub takes_all : (count taken : ℕ) (from now : Arriving) (old new : Record) → TakesOn count taken from now old new → taken ≡ count → Takes count from now old new
takes_all count taken from now old new x all =
    let size : length x.bytes ≡ count = x.size ∙ all in
    record { bytes = x.bytes; took = x.took; whole = inl (size, all_read new.reading count x.bytes x.counts size); held = x.held }

pub takes_cut : (count taken : ℕ) (from mid now : Arriving) (a b c last : Record) → (x : TakesOn count taken from mid a b) → TakesSome count x.bytes mid now b c 0
    → taken < count → last.reading ≡ record c.reading { answer = Some (answer.Cut taken count) } → IsOver now → Takes count from now a last
takes_cut count taken from mid now a b c last x y fewer is over =
    let z = takes_more count taken 0 from mid now a b c x y in
    let size : length z.bytes ≡ taken = z.size ∙ omega arith in
    record {
      bytes = z.bytes;
      took = z.took;
      whole = inr (record { fewer = omega (arith, size, fewer); cut = ap (λ r. r.answer) is ∙ ap (λ n. Some (answer.Cut n count)) (sym size); over = over });
      held = λ raw had. holds_refused last (raw ++ z.bytes) (ap (λ r. may_pass r.answer) is);
    }

-- ---- the value behind a length

pub value_taken : (count : ℕ) (from now : Arriving) (old new : Record) → count < null_length → Takes count from now old new → TakesValue count from now old new
value_taken count from now old new less x = elim x.whole [
  | inl whole ↦ record { value = plain x.bytes; bytes = x.bytes; took = x.took; is = (less, refl, whole.0); came = whole.1; held = x.held }
  | inr cut ↦ record {
    value = cut_at (length x.bytes) count;
    bytes = x.bytes;
    took = x.took;
    is = (less, refl, cut.fewer, refl, cut.over);
    came = inl cut.cut;
    held = x.held;
  }
]

null_came : (old new : Reading) → (old.answer ≡ None → new.answer ≡ Some answer.Null) → IfSome old.answer (λ a. new.answer ≡ Some a)
    → (old.answer ≡ None) ⊎ (old.answer ≡ Some (answer.Checked found.OutOfMemory)) → Came new none
null_came old new null kept (inl is) = inl (null is)
null_came old new null kept (inr out) = inr (inl (subst (λ o. IfSome o (λ a. new.answer ≡ Some a)) out kept))

pub null_taken : (count : ℕ) (at : Arriving) (old new : Record) → count ≡ null_length → (old.reading.answer ≡ None → new.reading.answer ≡ Some answer.Null)
    → IfSome old.reading.answer (λ a. new.reading.answer ≡ Some a) → new.passes ≡ old.passes → new.held.items ≡ old.held.items → Begun old.reading → TakesValue count at at old new
null_taken count at old new is null kept on held begun = record {
  value = none;
  bytes = [];
  took = took_none at;
  is = (is, refl);
  came = null_came old.reading new.reading null kept begun.open_so_far;
  held = holds_then old old new [] (holds_none old) (holds_kept old new on held kept);
}

pub begun_held : (old mid : Reading) → old.answer ≡ None → (mid ≡ old) ⊎ (mid ≡ record old { answer = Some (answer.Checked found.OutOfMemory) }) → HasPlain old [] → Begun mid
begun_held old mid is (inl same) had = record { plain = plain_held old mid [] (inl same) had; open_so_far = inl (ap (λ r. r.answer) same ∙ is) }
begun_held old mid is (inr out) had = record { plain = plain_held old mid [] (inr out) had; open_so_far = inr (ap (λ r. r.answer) out) }

-- ---- a frame

frame_of : (count : ℕ) (value : Value) (bytes rest : List ℕ) (now : Arriving) → IsBehind count value bytes now → (IsOver now → rest ≡ []) → IsFrame (big_bytes 4 count ++ bytes) value rest
frame_of count none bytes rest now is over = ap (λ xs. big_bytes 4 count ++ xs) is.1 ∙ append-nil (big_bytes 4 count) ∙ ap (λ n. big_bytes 4 n) is.0
frame_of count (plain value) bytes rest now is over =
    let size : length value ≡ count = ap length is.1 ∙ is.2 in
    let few = is.0 in
    (ap (λ n. big_bytes 4 n ++ bytes) (sym size) ∙ ap (λ xs. big_bytes 4 (length value) ++ xs) (sym is.1), omega (arith, size, few))
frame_of count (text_of form mark text) bytes rest now is over = absurd is
frame_of count unknown bytes rest now is over = absurd is
frame_of count parted bytes rest now is over = absurd is
frame_of count failed bytes rest now is over = absurd is
frame_of count (cut_at at total) bytes rest now (few, size, fewer, all, stops) over =
    (inr (record { bytes = bytes; split = ap (λ n. big_bytes 4 n ++ bytes) (sym all); size = size; fewer = subst (λ n. at < n) (sym all) fewer; no_null = subst (λ n. n < null_length) (sym all) few }), over stops)

pub key_kept : (old new : Key) (result : Answer) → HasNoKey old → KeepsKey old new result → HasNoKey new
key_kept old new result has (inl is) = subst HasNoKey (sym is) has
key_kept old new result has (inr out) = out.0

-- a record ended whose bytes are a frame
pub frame_ended : (old last new : Clerk) (from now : Arriving) (p q r s t u : SinkState) (passed : Bool) (frame : List ℕ) (value : Value) → Quiet old last p q s t
    → HasNoKey last.current.reading.key → Took from now frame → ((rest : List ℕ) → ahead now ≡ Some rest → IsFrame frame value rest) → Came last.current.reading value
    → Holds last.current frame → Closes last new q r t u passed → RecordsGo shape.Frames at_line at_line old new from now p r s u
frame_ended old last new from now p q r s t u passed frame value quiet no_key took is came holds closes =
    let entry : Entry = closes.entry in
    let key : HasNoKey entry.key = key_kept last.current.reading.key entry.key entry.answer no_key closes.key in
    part_said shape.Frames at_line at_line old last new from now p q r s t u (ended entry) frame quiet took closes.says closes.keeps
    (λ rest known. (
      refl,
      record {
        frame = frame;
        value = value;
        split = refl;
        is = is rest known;
        right =
            subst (λ (t : Terms). IsFor t.rules t.most entry.key.is_lost value entry.answer) quiet.keeps (closes.right value came);
        held = handed old.current last.current entry frame quiet.keeps holds closes.held closes.may;
        no_key = key.none;
        not_lost = key.kept;
      },
    ))

-- its length and its value were taken
pub frame_read : (old begun last new : Clerk) (from behind now : Arriving) (p q r s t u : SinkState) (passed : Bool) (count : ℕ) → Quiet old last p q s t
    → HasNoKey last.current.reading.key → Took from behind (big_bytes 4 count) → Holds begun.current (big_bytes 4 count) → TakesValue count behind now begun.current last.current → Closes last new q r t u passed
    → RecordsGo shape.Frames at_line at_line old new from now p r s u
frame_read old begun last new from behind now p q r s t u passed count quiet no_key head holds x closes =
    frame_ended old last new from now p q r s t u passed (big_bytes 4 count ++ x.bytes) x.value quiet no_key
    (took_both from behind now (big_bytes 4 count) x.bytes head x.took)
    (λ rest known. frame_of count x.value x.bytes rest now x.is (λ over. ahead_over now rest over known)) x.came (x.held (big_bytes 4 count) holds) closes

-- the input ended in its length
pub length_cut : (old last new : Clerk) (from now : Arriving) (p q r s t u : SinkState) (passed : Bool) (at : ℕ) → Quiet old last p q s t
    → HasNoKey last.current.reading.key → last.current.reading.answer ≡ Some (answer.Cut at 4) → Took from now from.waiting → IsOver now → length from.waiting ≡ at → 0 < at → at < 4
    → Closes last new q r t u passed → RecordsGo shape.Frames at_line at_line old new from now p r s u
length_cut old last new from now p q r s t u passed at quiet no_key is took over size some few closes =
    frame_ended old last new from now p q r s t u passed from.waiting (cut_at at 4) quiet no_key took
    (λ rest known. (inl (record { some = some; few = few; size = size; four = refl }), ahead_over now rest over known)) (inl is)
    (holds_refused last.current from.waiting (ap may_pass is)) closes
