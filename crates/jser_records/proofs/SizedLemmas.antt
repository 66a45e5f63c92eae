-- Records behind their length.
use Rattle.std.proofs.Common.{◌≡◌, ◌⊎◌, ℕ, ◌+◌, ◌-◌, ◌≤◌, ◌<◌, ◌^◌, ◌==◌, ◌&&◌, not, min, if◌then◌else◌, Bool, true, false, List, [], ◌∷◌, ◌++◌, length, take, drop, Option, Some, None, Result, Ok, Err, inl, inr, refl, sym, ap, subst, ◌∙◌, arith, append_assoc, append-nil}
use Rattle.std.proofs.lemmas.Bool.{eqb-true, eq-eqb}
use Rattle.std.proofs.lemmas.List.{length-append, length-take, take-append-le, take_all}
use Rattle.std.specs.Prelude.{IfSome, option_map}
use Rattle.std.specs.Io.KnownBytes.{IsAtEnd}
use Rattle.jser_prim.specs.Outgoing.{SinkState}
use Rattle.jser_inputs.specs.declared.place.Place.TheVariants as place
use Rattle.jser_scan.specs.declared.Found.TheVariants as found
use Rattle.jser_records.specs.declared.answer.Answer.{Answer}
use Rattle.jser_records.specs.declared.answer.Answer.TheVariants as answer
use Rattle.jser_records.specs.declared.clerk.Clerk.{Clerk}
use Rattle.jser_records.specs.declared.header.Header.{Header}
use Rattle.jser_records.specs.declared.header.Header.TheVariants as header
use Rattle.jser_records.specs.declared.key.Key.{Key}
use Rattle.jser_records.specs.declared.layout.Shape.TheVariants as shape
use Rattle.jser_records.specs.declared.reading.Reading.{Reading}
use Rattle.jser_records.specs.declared.sized.LineEnd.TheVariants as line_end
use Rattle.jser_records.specs.Arriving.{Arriving, HasNone, IsOver, Took, ahead, room_size}
use Rattle.jser_records.specs.Frames.{Takes}
use Rattle.jser_records.specs.Headers.{EndsKey, IsHeader, SaysLength, SaysNull}
use Rattle.jser_records.specs.Held.{Holds, Keeps, Terms, may_pass, terms_of}
use Rattle.jser_records.specs.Keys.{HasNoKey, IsKeyOf, key_if}
use Rattle.jser_records.specs.Readings.{AddsKey, Came, HasCome, HasLost, HasPlain, HasRead, IsFor, Value, none, plain, text_of, cut_at, unknown, parted, failed}
use Rattle.jser_records.specs.declared.run.Trouble.{Trouble}
use Rattle.jser_records.specs.Records.{NextBy, RecordsEnd, RecordsGo}
use Rattle.jser_records.specs.Sized.{At, FirstLine, HasBegun, HasNoLineEnd, HeadWaits, IsLoss, IsSized, LineEndOf, LineWaits, LossOf, SizedPart, TellsLoss, WithoutReturn, at_line, at_line_end, at_loss, line_end_at, next_at}
use Rattle.jser_records.specs.Told.{Closes, Entry, Quiet, SaysAll, behind_it, ended, passed_over}
use Rattle.jser_records.proofs.FrameLemmas.{key_kept, plain_begun, plain_held}
use Rattle.jser_records.proofs.HeldLemmas.{holds_refused}
use Rattle.jser_records.proofs.KeyLemmas.{told_key}
use Rattle.jser_records.proofs.LineLemmas.{with_end}
use Rattle.jser_records.proofs.RecordLemmas.{handed, part_said, records_both, records_none, records_then}
use Rattle.jser_records.proofs.RoomLemmas.{ahead_over, ahead_took, all_passed, took_both, took_first, took_none}
use Rattle.jser_records.proofs.ToldLemmas.{quiet_none, said_none, says_all}

-- ---- the line before a value

pub head_waits : (a : Arriving) (count end size : ℕ) (text line : List ℕ) (header : Header) → LineWaits a count end → size ≡ min (count + end) (2 ^ 64 - 1) → text ≡ take count a.waiting → WithoutReturn text line
    → IsHeader line header → HeadWaits a size header
head_waits a count end size text line header w is same bare says =
    let few = w.few in
    let all : size ≡ count + end = omega (arith, is, few) in
    elim w.is [
      | inl (one, b) ↦ record {
        line = line;
        text = text;
        tail = 0x0A ∷ [];
        both = ap (λ n. take n a.waiting) (all ∙ ap (λ n. count + n) one) ∙ with_end 0x0A a.waiting count b ∙ ap (λ xs. xs ++ (0x0A ∷ [])) (sym same);
        clean = subst (λ xs. HasNone 0x0A xs) (sym same) w.clean;
        is = inl refl;
        bare = bare;
        says = says;
      }
      | inr (zeroth, some, most, ends) ↦
          let size_is : size ≡ count = omega (arith, all, zeroth) in
          let whole : text ≡ a.waiting = same ∙ take_all count a.waiting most in
          record {
            line = line;
            text = text;
            tail = [];
            both = ap (λ n. take n a.waiting) size_is ∙ sym same ∙ sym (append-nil text);
            clean = subst (λ xs. HasNone 0x0A xs) (sym same) w.clean;
            is = inr (refl, subst (λ xs. 0 < length xs) (sym whole) some, subst (λ n. length a.waiting ≤ n) (sym size_is) most, ends);
            bare = bare;
            says = says;
          }
    ]

line_is : (from mid : Arriving) (size : ℕ) (text tail rest : List ℕ) → mid ≡ record from { waiting = drop size from.waiting } → ahead mid ≡ Some rest
    → (tail ≡ 0x0A ∷ []) ⊎ ((tail ≡ []) × (0 < length text) × (length from.waiting ≤ size) × IsAtEnd from.to_come) → (tail ≡ 0x0A ∷ []) ⊎ ((tail ≡ []) × (0 < length text) × (rest ≡ []))
line_is from mid size text tail rest is known (inl stops) = inl stops
line_is from mid size text tail rest is known (inr (clean, some, most, ends)) = inr (clean, some, ahead_over mid rest (all_passed from mid size is most ends) known)

first_line : (from mid : Arriving) (size : ℕ) (header : Header) (bytes rest : List ℕ) (h : HeadWaits from size header) → mid ≡ record from { waiting = drop size from.waiting } → ahead mid ≡ Some rest
    → bytes ≡ take size from.waiting ++ rest → FirstLine bytes h.line (take size from.waiting) rest
first_line from mid size header bytes rest h is known split = record {
  text = h.text;
  tail = h.tail;
  both = h.both;
  split = split;
  clean = h.clean;
  is = line_is from mid size h.text h.tail rest is known h.is;
  bare = h.bare;
}

-- ---- the KEY

key_size : (line front key : List ℕ) (n : ℕ) → key ≡ take n line → length front < length line → EndsKey front key → n ≤ length line
key_size line front key n is less (inl (empty, no_key)) =
    let taken : length key ≡ min n (length line) = ap length is ∙ length-take n line in
    let zeroth : length key ≡ 0 = ap length no_key in
    omega (arith, taken, zeroth, less)
key_size line front key n is less (inr (c, split, sep)) =
    let taken : length key ≡ min n (length line) = ap length is ∙ length-take n line in
    let size : length front ≡ length key + 1 = ap length split ∙ length-append key (c ∷ []) in
    omega (arith, taken, size, less)

says_within : (line : List ℕ) (key count : ℕ) → SaysLength line (take key line) count → key ≤ length line
says_within line key count says =
    let size : length line ≡ length says.front + length says.digits = ap length says.ends.split ∙ length-append says.front says.digits in
    let some = says.some in
    key_size line says.front (take key line) key refl (omega (arith, size, some)) says.key_is

null_within : (line : List ℕ) (key : ℕ) → SaysNull line (take key line) → key ≤ length line
null_within line key says =
    let size : length line ≡ length says.front + 2 = ap length says.split ∙ length-append says.front (0x2D ∷ 0x31 ∷ []) in
    key_size line says.front (take key line) key refl (omega (arith, size)) says.key_is

-- the first bytes of a line are those of what waits
head_key : (a : Arriving) (size key : ℕ) (header : Header) (h : HeadWaits a size header) → key ≤ length h.line → take key (take size a.waiting) ≡ take key h.line
head_key a size key header h within = ap (λ xs. take key xs) h.both ∙ elim h.bare [
  | inl cut ↦ ap (λ xs. take key (xs ++ h.tail)) cut ∙ ap (λ xs. take key xs) (append_assoc h.line (0x0D ∷ []) h.tail) ∙ take-append-le key h.line ((0x0D ∷ []) ++ h.tail) within
  | inr same ↦ ap (λ xs. take key (xs ++ h.tail)) (sym same.0) ∙ take-append-le key h.line h.tail within
]

-- ---- a value

pub begun_held : (old mid : Reading) → old.answer ≡ None → (mid ≡ old) ⊎ (mid ≡ record old { answer = Some (answer.Checked found.OutOfMemory) }) → HasRead old [] → old.decoder.spot.place ≡ place.Bytes → HasBegun mid
begun_held old mid is (inl same) had at =
    record { plain = inl (plain_held old mid [] (inl same) (plain_begun old had at is)); open_so_far = inl (ap (λ r. r.answer) same ∙ is) }
begun_held old mid is (inr out) had at =
    record { plain = inl (plain_held old mid [] (inr out) (plain_begun old had at is)); open_so_far = inr (inl (ap (λ r. r.answer) out)) }

not_lost : (old new : Reading) → old.key.is_lost ≡ false → HasLost old → HasBegun new
not_lost old new off lost = let on_it = lost.lost in absurd (cc)

plain_place : (r : Reading) → HasPlain r [] ⊎ HasLost r → r.decoder.spot.place ≡ place.Bytes
plain_place r (inl had) = had.place
plain_place r (inr lost) = lost.place

kept_begun : (old : Reading) (key : Key) → old.key.is_lost ≡ false → HasBegun old → HasBegun (record old { key = key })
kept_begun old key off begun = elim begun.plain [
  | inl had ↦ record {
    plain = inl (record { read = had.read; place = had.place; is_of = had.is_of });
    open_so_far = elim begun.open_so_far [
      | inl is ↦ inl is
      | inr other ↦ elim other [
        | inl out ↦ inr (inl out)
        | inr lost ↦ let on_it = lost.lost in absurd (cc)
      ]
    ];
  }
  | inr lost ↦ not_lost old (record old { key = key }) off lost
]

pub begun_keyed : (old new : Reading) (bytes : List ℕ) → AddsKey old new bytes → HasBegun old → HasBegun new
begun_keyed old new bytes (inl adds) begun = subst HasBegun (sym adds.0) (kept_begun old new.key adds.1.kept begun)
begun_keyed old new bytes (inr long) begun =
    let lost : HasLost new = record { long = ap (λ r. r.answer) long.0; lost = long.1.lost; place = ap (λ r. r.decoder.spot.place) long.0 ∙ plain_place old begun.plain } in
    record { plain = inr lost; open_so_far = inr (inr lost) }

sized_said : (old last new : Clerk) (from mid now : Arriving) (p q r s t u : SinkState) (passed : Bool) (size : ℕ) (header : Header) (key body : List ℕ) (value : Value) (h : HeadWaits from size header)
    → mid ≡ record from { waiting = drop size from.waiting } → Took mid now body → ((rest : List ℕ) → (IsOver now → rest ≡ []) → IsSized h.line key value body rest) → Quiet old last p q s t
    → Came last.current.reading value → IsKeyOf last.current.reading.key (key_if key) → Holds last.current (take size from.waiting ++ body) → Closes last new q r t u passed
    → RecordsGo shape.Sized at_line (next_at value passed) old new from now p r s u
sized_said old last new from mid now p q r s t u passed size header key body value h is took sized quiet came named holds closes =
    let head : List ℕ = take size from.waiting in
    let entry : Entry = closes.entry in
    record {
      events = ended entry ∷ [];
      says = says_all old last new p q r s t u [] (ended entry ∷ []) quiet.says closes.says;
      keeps = closes.keeps ∙ quiet.keeps;
      are =
          λ bytes known.
          let x = ahead_took from mid head bytes (took_first from mid size is) known in
          let y = ahead_took mid now body x.0 took x.1 in (
            y.0,
            y.1,
            (
              next_at value passed,
              y.0,
              inl (record {
                line = h.line;
                head = head;
                key = key;
                value = value;
                body = body;
                first = first_line from mid size header bytes (body ++ y.0) h is (x.1 ∙ ap (λ w. Some w) y.2) (x.2 ∙ ap (λ w. head ++ w) y.2);
                is = sized y.0 (λ over. ahead_over now y.0 over y.1);
                next = ap (λ b. next_at value b) closes.passed;
                right =
                    subst (λ (t : Terms). IsFor t.rules t.most entry.key.is_lost value entry.answer) quiet.keeps (closes.right value came);
                key_told = told_key last.current.reading.key entry (key_if key) named closes.key;
                held = handed old.current last.current entry (head ++ body) quiet.keeps holds closes.held closes.may;
              }),
              (refl, refl),
            ),
          );
    }

pub value_read : (old begun last new : Clerk) (from mid now : Arriving) (p q r s t u : SinkState) (passed : Bool) (key count size : ℕ) (h : HeadWaits from size (header.Bytes key count))
    → mid ≡ record from { waiting = drop size from.waiting } → Takes count mid now begun.current last.current → Quiet old last p q s t → last.current.reading.key ≡ begun.current.reading.key
    → IsKeyOf begun.current.reading.key (key_if (take key (take size from.waiting))) → Holds begun.current (take size from.waiting)
    → Closes last new q r t u passed → RecordsGo shape.Sized at_line (at_line_end passed) old new from now p r s u
value_read old begun last new from mid now p q r s t u passed key count size h is x quiet same named holds closes =
    let name : List ℕ = take key h.line in
    let known : IsKeyOf last.current.reading.key (key_if name) =
    subst (λ k. IsKeyOf k (key_if name)) (sym same)
    (subst (λ xs. IsKeyOf begun.current.reading.key (key_if xs)) (head_key from size key (header.Bytes key count) h (says_within h.line key count h.says.1)) named) in
    let head : List ℕ = take size from.waiting in
    elim x.whole [
      | inl (all, came) ↦
          sized_said old last new from mid now p q r s t u passed size (header.Bytes key count) name x.bytes (plain x.bytes) h is x.took
          (λ rest over. (h.says.0, subst (λ n. SaysLength h.line name n) (sym all) h.says.1, refl)) quiet came known (x.held head holds) closes
      | inr cut ↦
          sized_said old last new from mid now p q r s t u passed size (header.Bytes key count) name x.bytes (cut_at (length x.bytes) count) h is x.took
          (λ rest over. (h.says.0, h.says.1, refl, cut.fewer, over cut.over)) quiet (inl cut.cut) known (x.held head holds) closes
    ]

begun_null : (old new : Reading) → (old.answer ≡ None → new.answer ≡ Some answer.Null) → IfSome old.answer (λ a. new.answer ≡ Some a) → new.key ≡ old.key
    → (old.answer ≡ None) ⊎ ((old.answer ≡ Some (answer.Checked found.OutOfMemory)) ⊎ HasLost old) → Came new none
begun_null old new null kept key (inl is) = inl (null is)
begun_null old new null kept key (inr (inl out)) = inr (inl (subst (λ o. IfSome o (λ a. new.answer ≡ Some a)) out kept))
begun_null old new null kept key (inr (inr lost)) = inr (inr (subst (λ o. IfSome o (λ a. new.answer ≡ Some a)) lost.long kept, ap (λ k. k.is_lost) key ∙ lost.lost))

pub null_read : (old last new : Clerk) (was : Reading) (from now : Arriving) (p q r s t u : SinkState) (passed : Bool) (key size : ℕ) (h : HeadWaits from size (header.Null key))
    → now ≡ record from { waiting = drop size from.waiting } → Quiet old last p q s t → HasBegun was → (was.answer ≡ None → last.current.reading.answer ≡ Some answer.Null)
    → IfSome was.answer (λ a. last.current.reading.answer ≡ Some a) → last.current.reading.key ≡ was.key → IsKeyOf was.key (key_if (take key (take size from.waiting)))
    → Holds last.current (take size from.waiting) → Closes last new q r t u passed → RecordsGo shape.Sized at_line at_line old new from now p r s u
null_read old last new was from now p q r s t u passed key size h is quiet begun null kept same named holds closes =
    sized_said old last new from now now p q r s t u passed size (header.Null key) (take key h.line) [] none h is (took_none now) (λ rest over. (h.says.0, h.says.1, refl)) quiet
    (begun_null was last.current.reading null kept same begun.open_so_far)
    (subst (λ k. IsKeyOf k (key_if (take key h.line))) (sym same)
    (subst (λ xs. IsKeyOf was.key (key_if xs)) (head_key from size key (header.Null key) h (null_within h.line key h.says.1)) named))
    (subst (λ xs. Holds last.current xs) (sym (append-nil (take size from.waiting))) holds) closes

-- ---- no record

pub reply_read : (a : Clerk) (from now : Arriving) (p s : SinkState) (size : ℕ) → HeadWaits from size header.Other → now ≡ record from { waiting = drop size from.waiting }
    → RecordsGo shape.Sized at_line at_line a a from now p p s s
reply_read a from now p s size h is =
    let head : List ℕ = take size from.waiting in
    part_said shape.Sized at_line at_line a a a from now p p p s s s (passed_over head) head (quiet_none a p s) (took_first from now size is) (said_none a p s head) refl
    (λ rest known. record { line = h.line; first = first_line from now size header.Other (head ++ rest) rest h is known refl; is_head = h.says.0; says = h.says.1; next = refl })

-- nobody knows what comes next
loss_said : (value : Value) (at : At) (old last new : Clerk) (from now : Arriving) (p q r s t u : SinkState) → Quiet old last p q s t → Took from now [] → (loss : TellsLoss value last new q r t u)
    → ((rest : List ℕ) → ahead now ≡ Some rest → LossOf (terms_of old.current) value rest loss.entry at_loss rest → SizedPart (terms_of old.current) at rest (ended loss.entry) at_loss rest)
    → RecordsEnd shape.Sized at old new from now p r s u
loss_said value at old last new from now p q r s t u quiet took loss is = (
  at_loss,
  part_said shape.Sized at at_loss old last new from now p q r s t u (ended loss.entry) [] quiet took loss.says loss.keeps
      (λ rest known. is rest known (record {
        next = refl;
        none_taken = refl;
        right =
            subst (λ (t : Terms). IsFor t.rules t.most loss.entry.key.is_lost value loss.entry.answer) quiet.keeps loss.right;
        no_key = loss.no_key;
      })),
  inl refl,
)

pub no_length_read : (old new : Clerk) (from : Arriving) (p r s u : SinkState) (size : ℕ) → HeadWaits from size header.NoLength → TellsLoss unknown old new p r s u → RecordsEnd shape.Sized at_line old new from from p r s u
no_length_read old new from p r s u size h loss =
    let head : List ℕ = take size from.waiting in
    let mid = record from { waiting = drop size from.waiting } in
    loss_said unknown at_line old old new from from p p r s s u (quiet_none old p s) (took_none from) loss
    (λ rest known l.
    let x = ahead_took from mid head rest (took_first from mid size refl) known in
    inr (inl (l, inl (record { line = h.line; head = head; rest = x.0; first = first_line from mid size header.NoLength rest x.0 h refl x.1 x.2; is_head = h.says.0; says = h.says.1 }))))

-- a reader of lines may end one in the line
pub parted_read : (old new : Clerk) (from : Arriving) (p r s u : SinkState) (size : ℕ) → HeadWaits from size header.LineEnd → TellsLoss parted old new p r s u → RecordsEnd shape.Sized at_line old new from from p r s u
parted_read old new from p r s u size h loss =
    let head : List ℕ = take size from.waiting in
    let mid = record from { waiting = drop size from.waiting } in
    loss_said parted at_line old old new from from p p r s s u (quiet_none old p s) (took_none from) loss
    (λ rest known l.
    let x = ahead_took from mid head rest (took_first from mid size refl) known in
    inr (inr (l, record { line = h.line; head = head; rest = x.0; first = first_line from mid size header.LineEnd rest x.0 h refl x.1 x.2; parts = h.says })))

-- an error stands there
pub error_read : (old last new : Clerk) (from now : Arriving) (p q r s t u : SinkState) (passed : Bool) (size : ℕ) → HeadWaits from size header.Error
    → now ≡ record from { waiting = drop size from.waiting } → Quiet old last p q s t → last.current.reading.answer ≡ Some answer.ErrorReply → IsKeyOf last.current.reading.key None
    → Closes last new q r t u passed → RecordsGo shape.Sized at_line at_line old new from now p r s u
error_read old last new from now p q r s t u passed size h is quiet told named closes =
    sized_said old last new from now now p q r s t u passed size header.Error [] [] failed h is (took_none now) (λ rest over. (h.says.0, h.says.1, refl, refl)) quiet
    (inl told) named
    (holds_refused last.current (take size from.waiting ++ []) (ap may_pass told)) closes

known_front : (waiting : List ℕ) (has : Option (List ℕ)) (bytes : List ℕ) → option_map (λ xs. waiting ++ xs) has ≡ Some bytes → (more : List ℕ) × (bytes ≡ waiting ++ more) × (has ≡ Some more)
known_front waiting None bytes is = absurd (cc)
known_front waiting (Some more) bytes is = let same : waiting ++ more ≡ bytes = cc in (more, sym same, refl)

pub too_long_read : (old new : Clerk) (from : Arriving) (p r s u : SinkState) → HasNone 0x0A from.waiting → length from.waiting ≡ room_size → TellsLoss unknown old new p r s u
    → RecordsEnd shape.Sized at_line old new from from p r s u
too_long_read old new from p r s u clean long loss =
    loss_said unknown at_line old old new from from p p r s s u (quiet_none old p s) (took_none from) loss
    (λ rest known l.
    let x = known_front from.waiting from.to_come rest known in
    inr (inl (l, inr (record { first = from.waiting; rest = x.0; split = x.1; long = long; clean = clean }))))

loss_come : (value : Value) (a : Answer) (r : Reading) → IsLoss value a → r.answer ≡ Some a → HasCome r value
loss_come none a r is told = absurd is
loss_come (plain bytes) a r is told = absurd is
loss_come (text_of form mark text) a r is told = absurd is
loss_come (cut_at at total) a r is told = absurd is
loss_come unknown a r is told = told ∙ ap (λ b. Some b) is
loss_come parted a r is told = told ∙ ap (λ b. Some b) is
loss_come failed a r is told = absurd is

pub loss_told : (value : Value) (a : Answer) (old last new : Clerk) (p q r s t u : SinkState) (passed : Bool) → IsLoss value a → Quiet old last p q s t → last.current.reading.answer ≡ Some a
    → HasNoKey last.current.reading.key → Closes last new q r t u passed → TellsLoss value old new p r s u
loss_told value a old last new p q r s t u passed loss quiet is no_key closes =
    let entry : Entry = closes.entry in
    let key : HasNoKey entry.key = key_kept last.current.reading.key entry.key entry.answer no_key closes.key in
    record {
      entry = entry;
      says = says_all old last new p q r s t u [] (ended entry ∷ []) quiet.says closes.says;
      right = subst (λ (t : Terms). IsFor t.rules t.most entry.key.is_lost value entry.answer) quiet.keeps (closes.right value (inl (loss_come value a last.current.reading loss is)));
      no_key = key.none;
      keeps = closes.keeps ∙ quiet.keeps;
    }

-- ---- the line end behind a value

both_true : (a b : Bool) → a && b ≡ true → (a ≡ true) × (b ≡ true)
both_true true true is = (refl, refl)
both_true true false is = absurd (cc)
both_true false b is = absurd (cc)

end_of_one : (b d : Bool) (c size : ℕ) → (b ≡ true → c ≡ 0x0A) → line_end.There size ≡ (if b then line_end.There 1 else (if d then line_end.Awaited else line_end.Missing)) → take size (c ∷ []) ≡ 0x0A ∷ []
end_of_one true d c size feed is = let one : size ≡ 1 = cc in ap (λ n. take n (c ∷ [])) one ∙ ap (λ x. x ∷ []) (feed refl)
end_of_one false true c size feed is = absurd (cc)
end_of_one false false c size feed is = absurd (cc)

end_of_two : (b d : Bool) (c e size : ℕ) (rest : List ℕ) → (b ≡ true → c ≡ 0x0A) → (d ≡ true → (c ≡ 0x0D) × (e ≡ 0x0A))
    → line_end.There size ≡ (if b then line_end.There 1 else (if d then line_end.There 2 else line_end.Missing))
    → (take size (c ∷ e ∷ rest) ≡ 0x0A ∷ []) ⊎ (take size (c ∷ e ∷ rest) ≡ 0x0D ∷ 0x0A ∷ [])
end_of_two true d c e size rest feed both is = let one : size ≡ 1 = cc in inl (ap (λ n. take n (c ∷ e ∷ rest)) one ∙ ap (λ x. x ∷ []) (feed refl))
end_of_two false true c e size rest feed both is =
    let two : size ≡ 2 = cc in
    let x = both refl in
    inr (ap (λ n. take n (c ∷ e ∷ rest)) two ∙ ap (λ y. y ∷ e ∷ []) x.0 ∙ ap (λ y. 0x0D ∷ y ∷ []) x.1)
end_of_two false false c e size rest feed both is = absurd (cc)

end_is : (waiting : List ℕ) (over : Bool) (size : ℕ) → line_end.There size ≡ line_end_at waiting over
    → (take size waiting ≡ 0x0A ∷ []) ⊎ ((take size waiting ≡ 0x0D ∷ 0x0A ∷ []) ⊎ ((size ≡ 0) × (waiting ≡ []) × (over ≡ true)))
end_is [] true size is = let zeroth : size ≡ 0 = cc in inr (inr (zeroth, refl, refl))
end_is [] false size is = absurd (cc)
end_is (c ∷ []) over size is = inl (end_of_one (c == 0x0A) (c == 0x0D && not over) c size (eqb-true c 0x0A) is)
end_is (c ∷ e ∷ rest) over size is =
    elim (end_of_two (c == 0x0A) (c == 0x0D && e == 0x0A) c e size rest (eqb-true c 0x0A)
    (λ on_it. let x = both_true (c == 0x0D) (e == 0x0A) on_it in (eqb-true c 0x0D x.0, eqb-true e 0x0A x.1)) is) [
      | inl feed ↦ inl feed
      | inr both ↦ inr (inl both)
    ]

none_of_one : (b d : Bool) → line_end.Missing ≡ (if b then line_end.There 1 else (if d then line_end.Awaited else line_end.Missing)) → (b ≡ false) × (d ≡ false)
none_of_one true d is = absurd (cc)
none_of_one false true is = absurd (cc)
none_of_one false false is = (refl, refl)

none_of_two : (b d : Bool) → line_end.Missing ≡ (if b then line_end.There 1 else (if d then line_end.There 2 else line_end.Missing)) → (b ≡ false) × (d ≡ false)
none_of_two true d is = absurd (cc)
none_of_two false true is = absurd (cc)
none_of_two false false is = (refl, refl)

missing : (waiting : List ℕ) (over : Bool) (more : List ℕ) → line_end.Missing ≡ line_end_at waiting over → (over ≡ true → more ≡ []) → HasNoLineEnd (waiting ++ more)
missing [] true more is ends = absurd (cc)
missing [] false more is ends = absurd (cc)
missing (c ∷ []) true more is ends =
    let x = none_of_one (c == 0x0A) (c == 0x0D && false) is in
    record {
      some = λ same. absurd (cc);
      no_feed = λ rest same. let feed : c ≡ 0x0A = cc in let on_it = eq-eqb c 0x0A feed in let off = x.0 in absurd (cc);
      no_both = λ rest same. let left : more ≡ 0x0A ∷ rest = cc in let stops = ends refl in absurd (cc);
    }
missing (c ∷ []) false more is ends =
    let x = none_of_one (c == 0x0A) (c == 0x0D && true) is in
    record {
      some = λ same. absurd (cc);
      no_feed = λ rest same. let feed : c ≡ 0x0A = cc in let on_it = eq-eqb c 0x0A feed in let off = x.0 in absurd (cc);
      no_both = λ rest same. let back : c ≡ 0x0D = cc in let on_it : c == 0x0D && true ≡ true = ap (λ b. b && true) (eq-eqb c 0x0D back) in let off = x.1 in absurd (cc);
    }
missing (c ∷ e ∷ rest) over more is ends =
    let x = none_of_two (c == 0x0A) (c == 0x0D && e == 0x0A) is in
    record {
      some = λ same. absurd (cc);
      no_feed = λ left same. let feed : c ≡ 0x0A = cc in let on_it = eq-eqb c 0x0A feed in let off = x.0 in absurd (cc);
      no_both =
          λ left same.
          let back : c ≡ 0x0D = cc in
          let feed : e ≡ 0x0A = cc in
          let on_it : c == 0x0D && e == 0x0A ≡ true = ap (λ b. b && e == 0x0A) (eq-eqb c 0x0D back) ∙ eq-eqb e 0x0A feed in let off = x.1 in absurd (cc);
    }

end_part : (terms : Terms) (passed : Bool) (bytes end rest : List ℕ) → LineEndOf bytes end rest → SizedPart terms (at_line_end passed) bytes (behind_it passed end) at_line rest
end_part terms true bytes end rest is = (refl, is, refl)
end_part terms false bytes end rest is = (refl, is, refl)

end_of_all : (mid now : Arriving) (size : ℕ) (over : Bool) (rest : List ℕ) → (over ≡ true → IsAtEnd mid.to_come) → now ≡ record mid { waiting = drop size mid.waiting } → ahead now ≡ Some rest
    → (take size mid.waiting ≡ 0x0A ∷ []) ⊎ ((take size mid.waiting ≡ 0x0D ∷ 0x0A ∷ []) ⊎ ((size ≡ 0) × (mid.waiting ≡ []) × (over ≡ true)))
    → (take size mid.waiting ≡ 0x0A ∷ []) ⊎ ((take size mid.waiting ≡ 0x0D ∷ 0x0A ∷ []) ⊎ ((take size mid.waiting ≡ []) × (rest ≡ [])))
end_of_all mid now size over rest ends is known (inl feed) = inl feed
end_of_all mid now size over rest ends is known (inr (inl both)) = inr (inl both)
end_of_all mid now size over rest ends is known (inr (inr (zeroth, clean, on))) =
    let few : length mid.waiting ≤ size = subst (λ xs. length xs ≤ size) (sym clean) (omega arith) in
    inr (inr (ap (λ n. take n mid.waiting) zeroth, ahead_over now rest (all_passed mid now size is few (ends on)) known))

pub end_read : (old last new : Clerk) (from mid now : Arriving) (p q r s t u : SinkState) (passed over : Bool) (size : ℕ) (given : List ℕ) → Quiet old last p q s t → Took from mid []
    → line_end.There size ≡ line_end_at mid.waiting over → (over ≡ true → IsAtEnd mid.to_come) → now ≡ record mid { waiting = drop size mid.waiting }
    → given ≡ take size mid.waiting → SaysAll last new q r t u (behind_it passed given ∷ []) → Keeps last.current new.current → RecordsGo shape.Sized (at_line_end passed) at_line old new from now p r s u
end_read old last new from mid now p q r s t u passed over size given quiet took there ends is same said keeps =
    let end : List ℕ = take size mid.waiting in
    let says : SaysAll last new q r t u (behind_it passed end ∷ []) = subst (λ xs. SaysAll last new q r t u (behind_it passed xs ∷ [])) same said in
    part_said shape.Sized (at_line_end passed) at_line old last new from now p q r s t u (behind_it passed end) end quiet
    (took_both from mid now [] end took (took_first mid now size is)) says keeps
    (λ rest known. end_part (terms_of old.current) passed (end ++ rest) end rest
    (record { split = refl; is = end_of_all mid now size over rest ends is known (end_is mid.waiting over size there) }))

at_end : (has : Option (List ℕ)) (more : List ℕ) → IsAtEnd has → has ≡ Some more → more ≡ []
at_end has more ends is = subst IsAtEnd is ends

pub missing_read : (old last new : Clerk) (from mid : Arriving) (p q r s t u : SinkState) (passed over : Bool) → Quiet old last p q s t → Took from mid []
    → line_end.Missing ≡ line_end_at mid.waiting over → (over ≡ true → IsAtEnd mid.to_come) → TellsLoss unknown last new q r t u → RecordsEnd shape.Sized (at_line_end passed) old new from mid p r s u
missing_read old last new from mid p q r s t u passed over quiet took is ends loss =
    loss_said unknown (at_line_end passed) old last new from mid p q r s t u quiet took loss
    (λ rest known l.
    let x = known_front mid.waiting mid.to_come rest known in
    (l, subst HasNoLineEnd (sym x.1) (missing mid.waiting over x.0 is (λ on. at_end mid.to_come x.0 (ends on) x.2))))

-- ---- one after another

no_bytes : (xs : List ℕ) → length xs ≡ 0 → xs ≡ []
no_bytes [] is = refl
no_bytes (x ∷ xs) is = absurd (omega (arith, is))

-- nothing is left
pub end_none : (at : At) (a : Clerk) (room : Arriving) (p s : SinkState) → length room.waiting ≡ 0 → IsAtEnd room.to_come → RecordsEnd shape.Sized at a a room room p p s s
end_none at a room p s empty ends = (at, records_none shape.Sized at a room p s, inr (record { none = no_bytes room.waiting empty; ends = ends }))

pub too_long_end : (old new : Clerk) (from now : Arriving) (p r s u : SinkState) → now ≡ from → HasNone 0x0A from.waiting → length now.waiting ≡ room_size → TellsLoss unknown old new p r s u
    → RecordsEnd shape.Sized at_line old new from now p r s u
too_long_end old new from now p r s u same clean long loss =
    subst (λ a. RecordsEnd shape.Sized at_line old new from a p r s u) (sym same)
    (too_long_read old new from p r s u clean (ap (λ (a : Arriving). length a.waiting) (sym same) ∙ long) loss)

pub next_true : (b : Bool) (at : At) (a c : Clerk) (from now : Arriving) (p r s u : SinkState) → b ≡ true → NextBy (Ok b) at a c from now p r s u → RecordsGo shape.Sized at at_line a c from now p r s u
next_true b at a c from now p r s u is f = subst (λ x. NextBy (Ok x) at a c from now p r s u) is f

pub next_false : (b : Bool) (at : At) (a c : Clerk) (from now : Arriving) (p r s u : SinkState) → b ≡ false → NextBy (Ok b) at a c from now p r s u → RecordsEnd shape.Sized at a c from now p r s u
next_false b at a c from now p r s u is f = subst (λ x. NextBy (Ok x) at a c from now p r s u) is f

pub end_both : (at on : At) (a b c : Clerk) (from mid now : Arriving) (p q r s t u : SinkState) → RecordsGo shape.Sized at on a b from mid p q s t → RecordsEnd shape.Sized on b c mid now q r t u
    → RecordsEnd shape.Sized at a c from now p r s u
end_both at on a b c from mid now p q r s t u f (to, g, over) = (to, records_both shape.Sized at on to a b c from mid now p q r s t u f g, over)

pub next_both : (result : Result Bool Trouble) (at on : At) (a b c : Clerk) (from mid now : Arriving) (p q r s t u : SinkState) → RecordsGo shape.Sized at on a b from mid p q s t
    → NextBy result on b c mid now q r t u → NextBy result at a c from now p r s u
next_both (Ok true) at on a b c from mid now p q r s t u f g = records_both shape.Sized at on at_line a b c from mid now p q r s t u f g
next_both (Ok false) at on a b c from mid now p q r s t u f g = end_both at on a b c from mid now p q r s t u f g
next_both (Err trouble) at on a b c from mid now p q r s t u f g = records_then shape.Sized at on a b c from mid p q r s t u f g
