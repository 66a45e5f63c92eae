-- Records that are lines.
use Rattle.std.proofs.Common.{◌≡◌, ◌≢◌, ◌⊎◌, ℕ, ◌+◌, ◌-◌, ◌≤◌, ◌<◌, ◌^◌, ◌&&◌, not, min, Bool, true, false, if◌then◌else◌, Option, List, [], ◌∷◌, ◌++◌, length, take, drop, inl, inr, refl, sym, ap, subst, ◌∙◌, arith, append_assoc, length-append, append-nil, Some, None}
use Rattle.std.proofs.lemmas.List.Elements.{All-append}
use Rattle.std.proofs.lemmas.List.{get_or-take, length-drop, length-take, length-take-le, take_all, take_at}
use Rattle.std.specs.Prelude.{IfSome}
use Rattle.std.specs.Io.KnownBytes.{IsAtEnd}
use Rattle.jser_prim.specs.Outgoing.{SinkState}
use Rattle.jser_inputs.specs.declared.Form.{Form}
use Rattle.jser_scan.specs.declared.Found.TheVariants as found
use Rattle.jser_scan.specs.declared.Rules.{Rules}
use Rattle.jser_records.specs.declared.answer.Answer.{Answer}
use Rattle.jser_records.specs.declared.answer.Answer.TheVariants as answer
use Rattle.jser_records.specs.declared.clerk.Clerk.{Clerk}
use Rattle.jser_records.specs.declared.key.Key.{Key}
use Rattle.jser_records.specs.declared.layout.Lines.{Lines}
use Rattle.jser_records.specs.declared.layout.Spelling.{Spelling}
use Rattle.jser_records.specs.declared.layout.Shape.TheVariants as shape
use Rattle.jser_records.specs.declared.current.Record.{Record}
use Rattle.jser_records.specs.declared.lines.Stretch.{Stretch}
use Rattle.jser_records.specs.declared.parts.Parts.{Parts}
use Rattle.jser_records.specs.declared.reading.Reading.{Reading}
use Rattle.jser_records.specs.Arriving.{Arriving, HasNone, IsBefore, IsOver, Took, room_size}
use Rattle.jser_records.specs.Fields.{AreParts, key_of, part_of}
use Rattle.jser_records.specs.Held.{Holds, HoldsMore, Keeps, Terms, may_pass}
use Rattle.jser_records.specs.Keys.{HasLostKey, HasNoKey, IsKeyOf, KeepsKey, ends_lines}
use Rattle.jser_records.specs.LineEnds.{has_line_end}
use Rattle.jser_records.specs.Lines.{FieldCame, JudgesKey, LineCame, LineEnds, TakesFirst, TakesLine, TakesRest, TakesText, end_of, value_of}
use Rattle.jser_records.specs.Readings.{AddsKey, Came, HasCome, HasSpelled, HasStopped, IsCounted, IsFor, IsOfDigits, IsReady, KeepsRules, Value, none, plain, text_of, cut_at, unknown, parted, failed, value_in}
use Rattle.jser_records.specs.Records.{RecordsGo}
use Rattle.jser_records.specs.Stretches.{GoesOn, InStretch, IsApart, IsOn, LineNamed, PieceEnds}
use Rattle.jser_records.specs.Texts.{behind_mark, characters_in, is_null, mark_in}
use Rattle.jser_records.specs.Sized.{at_line}
use Rattle.jser_records.specs.Told.{Closes, Entry, Quiet, ended}
use Rattle.jser_records.proofs.FieldLemmas.{parts_value}
use Rattle.jser_records.proofs.HeldLemmas.{holds_both, holds_none, holds_on, keeps_rules}
use Rattle.jser_records.proofs.KeyLemmas.{told_key}
use Rattle.jser_records.proofs.RecordLemmas.{handed, part_said}
use Rattle.jser_records.proofs.RoomLemmas.{ahead_over, all_passed, took_both, took_first}
use Rattle.jser_records.proofs.LineEndLemmas.{apart_all, apart_on, apart_piece, counted_bare, goes_later, goes_on, line_named, none_ends, some_before, some_left}
use Rattle.jser_records.proofs.StretchLemmas.{piece_held}
use Rattle.jser_records.proofs.ToldLemmas.{quiet_then_changed}

-- the bytes before the first line end, and that
pub with_end : (end : ℕ) (waiting : List ℕ) (count : ℕ) → IsBefore end waiting count → take (count + 1) waiting ≡ take count waiting ++ (end ∷ [])
with_end end waiting count b =
    let long : length (take count waiting) ≡ count = let i = b.inside in length-take-le count waiting (omega (arith, i)) in
    let size : length (take count waiting ++ (end ∷ [])) ≡ count + 1 = length-append (take count waiting) (end ∷ []) ∙ omega (arith, long) in
    ap (λ xs. take (count + 1) xs) (b.split ∙ sym (append_assoc (take count waiting) (end ∷ []) b.rest)) ∙ take_at (take count waiting ++ (end ∷ [])) b.rest (count + 1) size

took_ended : (end : ℕ) (old new : Arriving) (count : ℕ) → IsBefore end old.waiting count → new ≡ record old { waiting = drop (count + 1) old.waiting }
    → Took old new (take count old.waiting ++ (end ∷ []))
took_ended end old new count b is = subst (λ xs. Took old new xs) (with_end end old.waiting count b) (took_first old new (count + 1) is)

pub whole_line : (lines : Lines) (old new : Arriving) (count : ℕ) (r : Record) → IsBefore (end_of lines) old.waiting count
    → new ≡ record old { waiting = drop (count + 1) old.waiting } → LineCame lines (take count old.waiting) r.reading
    → Holds r (take count old.waiting ++ (end_of lines ∷ [])) → TakesLine lines old new r
whole_line lines old new count r b is came held = record {
  text = take count old.waiting;
  tail = end_of lines ∷ [];
  took = took_ended (end_of lines) old new count b is;
  none = b.none;
  is = inl refl;
  came = came;
  held = held;
}

-- the last bytes came: the line is told its KEY
pub rest_ended : (lines : Lines) (s : Stretch) (old new : Arriving) (count : ℕ) (was mid last : Record) → IsBefore (end_of lines) old.waiting count
    → new ≡ record old { waiting = drop (count + 1) old.waiting } → HoldsMore was mid (take count old.waiting) → HoldsMore mid last (end_of lines ∷ [])
    → (last.reading ≡ mid.reading) ⊎ (last.reading ≡ record mid.reading { answer = Some (answer.Checked found.OutOfMemory) })
    → ((line : List ℕ) → room_size ≤ length line + 1 → IsApart line (take count old.waiting) → InStretch s lines.spelling lines.field line was.reading → PieceEnds lines line (take count old.waiting) mid.reading)
    → TakesRest lines s old new was last
rest_ended lines s old new count was mid last b is first more kept ends = record {
  text = take count old.waiting;
  tail = end_of lines ∷ [];
  took = took_ended (end_of lines) old new count b is;
  none = b.none;
  is = inl refl;
  held = holds_both was mid last (take count old.waiting) (end_of lines ∷ []) first more;
  ends =
      λ line on.
      line_named lines line (take count old.waiting) last.reading
      (piece_held lines line (take count old.waiting) mid.reading last.reading kept (ends line on.long (apart_piece line old.waiting count on.apart) on.is_in))
      (λ front is none. some_before (end_of lines) old.waiting count b (on.whole front is) none);
}

none_first : (end : ℕ) (xs : List ℕ) (n : ℕ) → HasNone end xs → HasNone end (take n xs)
none_first end xs n clean = λ k d inside same.
    let size : length (take n xs) ≡ min n (length xs) = length-take n xs in
    clean k d (omega (arith, inside, size)) (sym (get_or-take n xs k d (omega (arith, inside, size))) ∙ same)

left_waiting : (old new : Arriving) (count : ℕ) → new ≡ record old { waiting = drop count old.waiting } → new.waiting ≡ drop count old.waiting
left_waiting old new count is = ap (λ (a : Arriving). a.waiting) is

-- what is left of the bytes that wait belongs together with what comes
pub record LeavesLast (waiting : List ℕ) (count : ℕ) : Type 0 where
  pub clean : length waiting ≤ count → (front : List ℕ) → waiting ≡ front ++ (0x0D ∷ []) → ⊥
  pub marked : length waiting ≤ count → (front : List ℕ) → waiting ≡ front ++ (0x5C ∷ []) → ⊥
  pub left : count < length waiting → (drop count waiting ≡ 0x0D ∷ []) ⊎ (drop count waiting ≡ 0x5C ∷ [])

pub some_taken : (lines : Lines) (s next : Stretch) (old new : Arriving) (count : ℕ) (was last : Record) → HasNone (end_of lines) old.waiting → new ≡ record old { waiting = drop count old.waiting }
    → LeavesLast old.waiting count → HoldsMore was last (take count old.waiting)
    → ((line : List ℕ) → room_size ≤ length line + 1 → IsApart line (take count old.waiting) → InStretch s lines.spelling lines.field line was.reading
    → InStretch next lines.spelling lines.field (line ++ take count old.waiting) last.reading) → TakesText lines s next old new was last
some_taken lines s next old new count was last clean is leaves held goes = record {
  text = take count old.waiting;
  took = took_first old new count is;
  none = none_first (end_of lines) old.waiting count clean;
  held = held;
  on =
      λ line on.
      record {
        long = let size = length-append line (take count old.waiting) in let has = on.long in omega (arith, size, has);
        is_in = goes line on.long (apart_piece line old.waiting count on.apart) on.is_in;
        whole =
            λ front ends.
            subst (λ xs. GoesOn (end_of lines) xs) (sym (left_waiting old new count is)) (goes_on (end_of lines) line old.waiting front count clean leaves.clean on.whole ends);
        apart =
            λ front ends. subst (λ xs. GoesOn 0x6E xs) (sym (left_waiting old new count is)) (apart_on line old.waiting front count leaves.marked leaves.left on.apart ends);
      };
}

pub first_taken : (lines : Lines) (s : Stretch) (old new : Arriving) (count : ℕ) (r : Record) → HasNone (end_of lines) old.waiting → length old.waiting ≡ room_size → length old.waiting ≤ count + 1
    → LeavesLast old.waiting count → new ≡ record old { waiting = drop count old.waiting } → Holds r (take count old.waiting)
    → (room_size ≤ length (take count old.waiting) + 1 → InStretch s lines.spelling lines.field (take count old.waiting) r.reading) → TakesFirst lines s old new r
first_taken lines s old new count r clean long most leaves is held named =
    let size : length (take count old.waiting) ≡ min count (length old.waiting) = length-take count old.waiting in
    let left : room_size ≤ length (take count old.waiting) + 1 = omega (arith, size, long, most) in
    record {
      text = take count old.waiting;
      took = took_first old new count is;
      none = none_first (end_of lines) old.waiting count clean;
      long = left;
      held = held;
      on =
          record {
            long = left;
            is_in = named left;
            whole =
                λ front ends.
                subst (λ xs. GoesOn (end_of lines) xs) (sym (left_waiting old new count is))
                (goes_on (end_of lines) [] old.waiting front count clean leaves.clean (λ f none. absurd (none_ends 0x0D f none)) ends);
            apart =
                λ front ends.
                subst (λ xs. GoesOn 0x6E xs) (sym (left_waiting old new count is))
                (apart_on [] old.waiting front count leaves.marked leaves.left (λ f none. absurd (none_ends 0x5C f none)) ends);
          };
    }

all_taken : (old new : Arriving) (count : ℕ) → length old.waiting ≤ count → new ≡ record old { waiting = drop count old.waiting } → Took old new old.waiting
all_taken old new count all is = subst (λ xs. Took old new xs) (take_all count old.waiting all) (took_first old new count is)

pub rest_last : (lines : Lines) (s : Stretch) (old new : Arriving) (count : ℕ) (was last : Record) → HasNone (end_of lines) old.waiting → length old.waiting ≤ count → IsAtEnd old.to_come
    → new ≡ record old { waiting = drop count old.waiting } → HoldsMore was last old.waiting
    → ((line : List ℕ) → room_size ≤ length line + 1 → IsApart line old.waiting → InStretch s lines.spelling lines.field line was.reading → PieceEnds lines line old.waiting last.reading)
    → TakesRest lines s old new was last
rest_last lines s old new count was last clean all ends is held named = record {
  text = old.waiting;
  tail = [];
  took = subst (λ xs. Took old new xs) (sym (append-nil old.waiting)) (all_taken old new count all is);
  none = clean;
  is = inr (refl, all_passed old new count is all ends);
  held = subst (λ xs. HoldsMore was last xs) (sym (append-nil old.waiting)) held;
  ends =
      λ line on.
      line_named lines line old.waiting last.reading (named line on.long (apart_all line old.waiting on.apart) on.is_in)
      (λ front is_front none. some_left (end_of lines) old.waiting (on.whole front is_front) none);
}

pub last_line : (lines : Lines) (old new : Arriving) (count : ℕ) (r : Record) → HasNone (end_of lines) old.waiting → 0 < length old.waiting → length old.waiting ≤ count
    → IsAtEnd old.to_come → new ≡ record old { waiting = drop count old.waiting } → LineCame lines old.waiting r.reading → Holds r (old.waiting ++ [])
    → TakesLine lines old new r
last_line lines old new count r clean some all ends is came held = record {
  text = old.waiting;
  tail = [];
  took = subst (λ xs. Took old new xs) (sym (append-nil old.waiting)) (all_taken old new count all is);
  none = clean;
  is = inr (refl, some, all_passed old new count is all ends);
  came = came;
  held = held;
}

pub first_more : (lines : Lines) (s next : Stretch) (from mid now : Arriving) (a b : Record) → TakesFirst lines s from mid a → TakesText lines s next mid now a b → TakesFirst lines next from now b
first_more lines s next from mid now a b x y = record {
  text = x.text ++ y.text;
  took = took_both from mid now x.text y.text x.took y.took;
  none = All-append (λ c. c ≢ end_of lines) x.text y.text x.none y.none;
  long = let size = length-append x.text y.text in let has = x.long in omega (arith, size, has);
  held = y.held x.text x.held;
  on = y.on x.text x.on;
}

-- the input was read on
later_on : (lines : Lines) (s : Stretch) (line : List ℕ) (mid now : Arriving) (r : Record) → Took mid now [] → IsOn lines (end_of lines) s line mid r → IsOn lines (end_of lines) s (line ++ []) now r
later_on lines s line mid now r later on =
    subst (λ xs. IsOn lines (end_of lines) s xs now r) (sym (append-nil line))
    (record {
      long = on.long;
      is_in = on.is_in;
      whole = λ front ends. goes_later (end_of lines) mid now later (on.whole front ends);
      apart = λ front ends. goes_later 0x6E mid now later (on.apart front ends);
    })

pub first_later : (lines : Lines) (s : Stretch) (from mid now : Arriving) (a b : Record) → TakesFirst lines s from mid a → Took mid now [] → b ≡ a → TakesFirst lines s from now b
first_later lines s from mid now a b first later same =
    subst (λ r. TakesFirst lines s from now r) (sym same)
    (first_more lines s s from mid now a a first
    (record {
      text = [];
      took = later;
      none = λ k d less. absurd (omega (arith, less));
      held = holds_none a;
      on = λ line on. later_on lines s line mid now a later on;
    }))

tail_is : (end : ℕ) (text tail : List ℕ) (now : Arriving) → 0 < length text → (tail ≡ end ∷ []) ⊎ ((tail ≡ []) × IsOver now)
    → (tail ≡ end ∷ []) ⊎ ((tail ≡ []) × (0 < length text) × IsOver now)
tail_is end text tail now some (inl stops) = inl stops
tail_is end text tail now some (inr last) = inr (last.0, some, last.1)

named_came : (lines : Lines) (text : List ℕ) (r : Reading) → LineNamed lines text r → LineCame lines text r
named_came lines text r x = record {
  bare = x.bare;
  is_bare = x.is_bare;
  field = x.named.field;
  key = x.named.named;
  is_field = x.named.is_value;
  came = λ counted. x.named.came (counted_bare lines lines.spelling.form text x.bare x.is_bare counted);
  key_is = x.named.kept;
  stopped = x.named.stopped;
}

-- a line is its first bytes and the rest
pub line_taken : (lines : Lines) (s : Stretch) (from mid now : Arriving) (a b : Record) → TakesFirst lines s from mid a → TakesRest lines s mid now a b → TakesLine lines from now b
line_taken lines s from mid now a b x y =
    let end = end_of lines in
    let text : List ℕ = x.text ++ y.text in
    let size : length text ≡ length x.text + length y.text = length-append x.text y.text in
    let long = x.long in
    let all : text ++ y.tail ≡ x.text ++ (y.text ++ y.tail) = append_assoc x.text y.text y.tail in
    record {
      text = text;
      tail = y.tail;
      took = subst (λ xs. Took from now xs) (sym all) (took_both from mid now x.text (y.text ++ y.tail) x.took y.took);
      none = All-append (λ c. c ≢ end) x.text y.text x.none y.none;
      is = tail_is end text y.tail now (omega (arith, size, long)) y.is;
      came = named_came lines text b.reading (y.ends x.text x.on);
      held = subst (λ xs. Holds b xs) (sym all) (y.held x.text x.held);
    }

line_is : (end : ℕ) (text tail rest : List ℕ) (now : Arriving) → (tail ≡ end ∷ []) ⊎ ((tail ≡ []) × (0 < length text) × IsOver now) → (IsOver now → rest ≡ [])
    → (tail ≡ end ∷ []) ⊎ ((tail ≡ []) × (0 < length text) × (rest ≡ []))
line_is end text tail rest now (inl stops) over = inl stops
line_is end text tail rest now (inr (clean, some, ends)) over = inr (clean, some, over ends)

-- where no more is read, no value is answered
no_value : (rules : Rules) (most : ℕ) (is_lost : Bool) (a : Answer) → IsFor rules most is_lost none a → IsFor rules most is_lost unknown a
    → (a ≡ answer.LongKey) ⊎ (a ≡ answer.Checked found.OutOfMemory)
no_value rules most is_lost a (inl null) (inl length) = absurd (cc)
no_value rules most is_lost a (inl null) (inr (inl out)) = inr out
no_value rules most is_lost a (inl null) (inr (inr long)) = inl long.0
no_value rules most is_lost a (inr (inl out)) other = inr out
no_value rules most is_lost a (inr (inr long)) other = inl long.0

lost_told : (r : Reading) (entry : Entry) → KeepsKey r.key entry.key entry.answer → (HasLostKey r.key → HasStopped r)
    → ((value : Value) → Came r value → IsFor r.judge.rules r.most entry.key.is_lost value entry.answer) → HasLostKey entry.key
    → (entry.answer ≡ answer.LongKey) ⊎ (entry.answer ≡ answer.Checked found.OutOfMemory)
lost_told r entry (inr out) stopped right lost = inr out.1
lost_told r entry (inl same) stopped right lost =
    let no_more = stopped (subst HasLostKey same lost) in
    no_value r.judge.rules r.most entry.key.is_lost entry.answer (right none (inr no_more)) (right unknown (inr no_more))

-- ---- a reader of lines may end one in the KEY

-- what is kept of a KEY is judged as the KEY is, unless it is lost
judged_none : (key : Key) → key.is_there ≡ false → (b : Bool) → b && ends_lines key ≡ false
judged_none key off true = ap (λ a. a && has_line_end key.bytes.items) off
judged_none key off false = refl

judged_some : (key : Key) (bytes : List ℕ) → key.is_there ≡ true → key.bytes.items ≡ bytes → (b : Bool) → b && ends_lines key ≡ b && has_line_end bytes
judged_some key bytes there is b = ap (λ a. b && (a && has_line_end key.bytes.items)) there ∙ ap (λ xs. b && has_line_end xs) is

same_if : (b : Bool) (old new : Reading) → b ≡ false → new ≡ (if b then record old { answer = Some answer.LineEndInKey } else old) → new ≡ old
same_if true old new off is = absurd (cc)
same_if false old new off is = is

came_if : (b : Bool) (old new : Reading) (value : Value) → new ≡ (if b then record old { answer = Some answer.LineEndInKey } else old) → Came old value → Came new (if b then parted else value)
came_if true old new value is came = inl (ap (λ r. r.answer) is)
came_if false old new value is came = subst (λ r. Came r value) (sym is) came

and_none : (b : Bool) → b && false ≡ false
and_none true = refl
and_none false = refl

judged_came : (lines : Lines) (old new : Reading) (key : Option (List ℕ)) (field : List ℕ) → JudgesKey lines old new → IsKeyOf old.key key → (HasLostKey old.key → HasStopped old)
    → Came old (value_in lines.spelling field) → Came new (value_of lines key field)
judged_came lines old new None field is (inl known) stopped came =
    let same : new ≡ old = same_if (not lines.zero && ends_lines old.key) old new (judged_none old.key known.0.none (not lines.zero)) is in
    subst (λ b. Came new (if b then parted else value_in lines.spelling field)) (sym (and_none (not lines.zero))) (subst (λ r. Came r (value_in lines.spelling field)) (sym same) came)
judged_came lines old new (Some bytes) field is (inl known) stopped came =
    let b : Bool = not lines.zero && has_line_end bytes in
    let judged : new ≡ (if b then record old { answer = Some answer.LineEndInKey } else old) =
    is ∙ ap (λ a. if a then record old { answer = Some answer.LineEndInKey } else old) (judged_some old.key bytes known.0.0 known.0.1 (not lines.zero)) in
    came_if b old new (value_in lines.spelling field) judged came
judged_came lines old new key field is (inr lost) stopped came =
    let same : new ≡ old = same_if (not lines.zero && ends_lines old.key) old new (judged_none old.key lost.0.none (not lines.zero)) is in
    inr (subst HasStopped (sym same) (stopped lost.0))

-- all but the answer stays
record KeptBut (old new : Reading) : Type 0 where
  pub key : new.key ≡ old.key
  pub rules : KeepsRules old new
  pub may : may_pass new.answer ≡ true → may_pass old.answer ≡ true
  pub lost : HasLostKey new.key → (HasLostKey old.key → HasStopped old) → HasStopped new

kept_if : (b : Bool) (old new : Reading) → (HasLostKey old.key → b ≡ false) → new ≡ (if b then record old { answer = Some answer.LineEndInKey } else old) → KeptBut old new
kept_if true old new off is = record {
  key = ap (λ r. r.key) is;
  rules = record { rules = ap (λ r. r.judge.rules) is; most = ap (λ r. r.most) is };
  may = λ yes. let no : may_pass new.answer ≡ false = ap (λ r. may_pass r.answer) is in absurd (cc);
  lost = λ is_lost stopped. let no = off (subst HasLostKey (ap (λ r. r.key) is) is_lost) in absurd (cc);
}
kept_if false old new off is = record {
  key = ap (λ r. r.key) is;
  rules = record { rules = ap (λ r. r.judge.rules) is; most = ap (λ r. r.most) is };
  may = λ yes. sym (ap (λ r. may_pass r.answer) is) ∙ yes;
  lost = λ is_lost stopped. subst HasStopped (sym is) (stopped (subst HasLostKey (ap (λ r. r.key) is) is_lost));
}

judged_kept : (lines : Lines) (old new : Reading) → JudgesKey lines old new → KeptBut old new
judged_kept lines old new is = kept_if (not lines.zero && ends_lines old.key) old new (λ lost. judged_none old.key lost.none (not lines.zero)) is

-- it was judged, and ended
pub line_closed : (lines : Lines) (old new : Clerk) (reading : Reading) (p q s t : SinkState) (passed : Bool) → JudgesKey lines old.current.reading reading
    → Closes (record old { current = record old.current { reading = reading } }) new p q s t passed → LineEnds lines old new p q s t
line_closed lines old new reading p q s t passed judges closes = record { reading = reading; judges = judges; passed = passed; closes = closes }

-- a record ended whose bytes are a line
pub line_ended : (lines : Lines) (old last new : Clerk) (from now : Arriving) (p q r s t u : SinkState) → Quiet old last p q s t
    → TakesLine lines from now last.current → LineEnds lines last new q r t u → RecordsGo (shape.Lines lines) at_line at_line old new from now p r s u
line_ended lines old last new from now p q r s t u quiet x ends =
    let was : Reading = last.current.reading in
    let judged : Record = record last.current { reading = ends.reading } in
    let kept : KeptBut was ends.reading = judged_kept lines was ends.reading ends.judges in
    let keeps : Keeps last.current judged = keeps_rules last.current judged kept.rules refl in
    let quiet_too : Quiet old (record last { current = judged }) p q s t = quiet_then_changed old last (record last { current = judged }) p q s t quiet refl keeps in
    let held : Holds judged (x.text ++ x.tail) = holds_on last.current judged refl refl kept.may (x.text ++ x.tail) x.held in
    let key_is : IsKeyOf ends.reading.key x.came.key = subst (λ k. IsKeyOf k x.came.key) (sym kept.key) x.came.key_is in
    let closes = ends.closes in
    let entry : Entry = closes.entry in
    let value : Value = value_of lines x.came.key x.came.field in
    part_said (shape.Lines lines) at_line at_line old (record last { current = judged }) new from now p q r s t u (ended entry) (x.text ++ x.tail) quiet_too x.took closes.says closes.keeps
    (λ rest known. (
      refl,
      record {
        text = x.text;
        tail = x.tail;
        split = refl;
        none = x.none;
        is = line_is (end_of lines) x.text x.tail rest now x.is (λ over. ahead_over now rest over known);
        answers =
            record {
              value = value;
              key = x.came.key;
              is = record { bare = x.came.bare; is_bare = x.came.is_bare; field = x.came.field; is_field = x.came.is_field; is_value = refl };
              key_told = told_key ends.reading.key entry x.came.key key_is closes.key;
              lost_told = lost_told ends.reading entry closes.key (λ lost. kept.lost lost x.came.stopped) closes.right;
              right =
                  λ counted.
                  subst (λ (t : Terms). IsFor t.rules t.most entry.key.is_lost value entry.answer) quiet_too.keeps
                  (closes.right value (judged_came lines was ends.reading x.came.key x.came.field ends.judges x.came.key_is x.came.stopped (x.came.came counted)));
            };
        held = handed old.current judged entry (x.text ++ x.tail) quiet_too.keeps held closes.held closes.may;
      },
    ))

-- ---- the value

pub ready_held : (old mid : Reading) (form : Form) → (mid ≡ old) ⊎ (mid ≡ record old { answer = Some (answer.Checked found.OutOfMemory) }) → IsReady old form → IsReady mid form
ready_held old mid form (inl same) ready = subst (λ r. IsReady r form) (sym same) ready
ready_held old mid form (inr out) ready = inr (inl (ap (λ r. r.answer) out))

pub ready_begun : (old mid last : Reading) (form : Form) → old.answer ≡ None → HasSpelled old form 0 []
    → (mid ≡ old) ⊎ (mid ≡ record old { answer = Some (answer.Checked found.OutOfMemory) })
    → (last ≡ mid) ⊎ (last ≡ record mid { answer = Some (answer.Checked found.OutOfMemory) }) → IsReady last form
ready_begun old mid last form is had held more = ready_held mid last form more (ready_held old mid form held (inl (is, had)))

pub ready_keyed : (old new : Reading) (form : Form) (bytes : List ℕ) → AddsKey old new bytes → IsReady old form → IsReady new form
ready_keyed old new form bytes (inl adds) (inl ready) = subst (λ r. IsReady r form) (sym adds.0) (inl ready)
ready_keyed old new form bytes (inl adds) (inr (inl out)) = subst (λ r. IsReady r form) (sym adds.0) (inr (inl out))
ready_keyed old new form bytes (inl adds) (inr (inr lost)) = let not = adds.1.kept in let yes = lost.1 in absurd (cc)
ready_keyed old new form bytes (inr long) ready = inr (inr (ap (λ r. r.answer) long.0, long.1.lost))

has_keyed : (old : Reading) (key : Key) (value : Value) → HasCome old value → HasCome (record old { key = key }) value
has_keyed old key none came = came
has_keyed old key (plain bytes) came = record { read = came.read; place = came.place; is_of = came.is_of }
has_keyed old key (text_of form mark text) came = came
has_keyed old key (cut_at at total) came = came
has_keyed old key unknown came = came
has_keyed old key parted came = came
has_keyed old key failed came = came

pub came_keyed : (old new : Reading) (value : Value) (bytes : List ℕ) → AddsKey old new bytes → Came old value → Came new value
came_keyed old new value bytes (inl adds) (inl came) = inl (subst (λ r. HasCome r value) (sym adds.0) (has_keyed old new.key value came))
came_keyed old new value bytes (inl adds) (inr (inl out)) = inr (inl (ap (λ r. r.answer) adds.0 ∙ out))
came_keyed old new value bytes (inl adds) (inr (inr lost)) = let not = adds.1.kept in let yes = lost.1 in absurd (cc)
came_keyed old new value bytes (inr long) came = inr (inr (ap (λ r. r.answer) long.0, long.1.lost))

value_if : (b : Bool) (old new : Reading) (written : Spelling) (field : List ℕ) → (b ≡ true → new.answer ≡ Some answer.Null)
    → (b ≡ false → HasSpelled new written.form (mark_in written.form field) (characters_in written.copy (behind_mark written.form field)))
    → Came new (if b then none else text_of written.form (mark_in written.form field) (characters_in written.copy (behind_mark written.form field)))
value_if true old new written field null text = inl (null refl)
value_if false old new written field null text = inl (text refl)

-- the characters of a field came
pub front_came : (old new : Reading) (written : Spelling) (field : List ℕ) → IsOfDigits written.form → length field < 2 ^ 63 → (is_null field ≡ true → old.answer ≡ None → new.answer ≡ Some answer.Null)
    → (is_null field ≡ false → old.answer ≡ None → IsOfDigits written.form → length field < 2 ^ 63 → HasSpelled old written.form 0 [] → HasSpelled new written.form (mark_in written.form field) (characters_in written.copy (behind_mark written.form field)))
    → IfSome old.answer (λ a. new.answer ≡ Some a) → new.key ≡ old.key → IsReady old written.form → Came new (value_in written field)
front_came old new written field digits few null text kept key (inl ready) =
    value_if (is_null field) old new written field (λ is. null is ready.0) (λ is. text is ready.0 digits few ready.1)
front_came old new written field digits few null text kept key (inr (inl out)) = inr (inl (subst (λ o. IfSome o (λ a. new.answer ≡ Some a)) out kept))
front_came old new written field digits few null text kept key (inr (inr lost)) =
    inr (inr (subst (λ o. IfSome o (λ a. new.answer ≡ Some a)) lost.0 kept, ap (λ k. k.is_lost) key ∙ lost.1))

-- a field of a line came
pub part_came : (lines : Lines) (line value : List ℕ) (parts : Parts) (old mid next last : Reading) → value ≡ part_of line parts → (IsReady old lines.spelling.form → IsReady mid lines.spelling.form)
    → (is_null value ≡ true → mid.answer ≡ None → next.answer ≡ Some answer.Null)
    → (is_null value ≡ false → mid.answer ≡ None → IsOfDigits lines.spelling.form → length value < 2 ^ 63 → HasSpelled mid lines.spelling.form 0 []
    → HasSpelled next lines.spelling.form (mark_in lines.spelling.form value) (characters_in lines.spelling.copy (behind_mark lines.spelling.form value)))
    → IfSome mid.answer (λ a. next.answer ≡ Some a) → next.key ≡ mid.key → ((v : Value) → Came next v → Came last v) → IsReady old lines.spelling.form → IsCounted lines.spelling.form line
    → Came last (value_in lines.spelling (part_of line parts))
part_came lines line value parts old mid next last is ready null text kept key more first counted =
    let few : length value < 2 ^ 63 =
    let size = ap length is in
    let of_take = length-take (parts.to - parts.from) (drop parts.from line) in
    let of_drop = length-drop parts.from line in
    let all = counted.few in
    omega (arith, size, of_take, of_drop, all) in
    subst (λ xs. Came last (value_in lines.spelling xs)) is
    (more (value_in lines.spelling value) (front_came mid next lines.spelling value counted.digits few null text kept key (ready first)))

-- and its KEY
pub field_came : (lines : Lines) (line : List ℕ) (parts : Parts) (old last : Reading) → AreParts lines.field line parts
    → (IsReady old lines.spelling.form → IsCounted lines.spelling.form line → Came last (value_in lines.spelling (part_of line parts))) → (HasNoKey old.key → IsKeyOf last.key (key_of line parts))
    → (HasNoKey old.key → HasLostKey last.key → HasStopped last) → FieldCame lines line old last
field_came lines line parts old last are came named stopped =
    record { field = part_of line parts; key = key_of line parts; is_field = parts_value lines.field line parts are; came = came; key_is = named; stopped = stopped }
