-- A line that is read stretch by stretch.
use Rattle.std.proofs.Common.{◌≡◌, ◌≢◌, ◌⊎◌, ℕ, ◌+◌, ◌-◌, ◌≤◌, ◌<◌, ◌^◌, ◌==◌, ◌&&◌, ◌||◌, not, Bool, true, false, if◌then◌else◌, List, [], ◌∷◌, ◌++◌, length, map, take, drop, Option, Some, None, inl, inr, refl, sym, ap, subst, ◌∙◌, arith, append_assoc, append-nil, length-append}
use Rattle.std.proofs.lemmas.Bool.{cases_eq, eqb-true, ne_eqb}
use Rattle.std.proofs.lemmas.List.{drop-append-le, drop_at, length-drop, length-take-le, map-append, take-append-drop}
use Rattle.std.proofs.lemmas.List.Elements.{All-append, All-cons}
use Rattle.std.specs.Option.{is_some}
use Rattle.std.specs.Prelude.{IfSome, slice_index}
use Rattle.memchr.specs.Find.{IsFirstByte, is_byte}
use Rattle.jser_inputs.specs.declared.Form.{Form}
use Rattle.jser_inputs.specs.declared.Form.TheVariants as form
use Rattle.jser_scan.specs.declared.Found.TheVariants as found
use Rattle.jser_records.specs.declared.answer.Answer.TheVariants as answer
use Rattle.jser_records.specs.declared.key.Key.{Key}
use Rattle.jser_records.specs.declared.layout.Lines.{Lines}
use Rattle.jser_records.specs.declared.layout.Spelling.{Spelling}
use Rattle.jser_records.specs.declared.lines.Stretch.{Stretch}
use Rattle.jser_records.specs.declared.lines.Stretch.TheVariants as stretch
use Rattle.jser_records.specs.declared.parts.Parts.{Parts}
use Rattle.jser_records.specs.declared.reading.Reading.{Reading}
use Rattle.jser_records.specs.Arriving.{HasNone, IsBefore, room_size}
use Rattle.jser_records.specs.Fields.{AreParts, IsThere, KeyBeside, key_of, part_of}
use Rattle.jser_records.specs.Keys.{HasLostKey, HasNoKey, IsKeyOf, key_if, key_size, longer_key, most_key}
use Rattle.jser_records.specs.Readings.{AddsKey, Came, HasCome, HasSpelled, HasStopped, IsCounted, IsOfDigits, Value, text_of, value_in}
use Rattle.jser_records.specs.Stretches.{InStretch, IsApart, IsIn, IsLate, IsNamed, PieceEnds, value_stretch}
use Rattle.jser_records.specs.Texts.{behind_mark, blanked, characters_in, mark_in, mark_size, short_mark, without_space}
use Rattle.jser_records.proofs.FieldLemmas.{first_tab, no_tab, none_in}
use Rattle.jser_records.proofs.TextLemmas.{begins_so, characters_size, ends_so}

-- ---- what is answered where no more is read

pub stopped_keyed : (old new : Reading) (bytes : List ℕ) → AddsKey old new bytes → HasLostKey new.key → HasStopped new
stopped_keyed old new bytes (inl adds) lost = let on = adds.1.on in let off = lost.lost in absurd (cc)
stopped_keyed old new bytes (inr full) lost = inr (ap (λ r. r.answer) full.0, lost.lost)

pub stopped_none : (r : Reading) → HasNoKey r.key → HasLostKey r.key → HasStopped r
stopped_none r none lost = let on = none.kept in let off = lost.lost in absurd (cc)

pub stopped_lost : (old new : Reading) → new ≡ record old { key = new.key; answer = Some answer.LongKey } → HasLostKey new.key → HasStopped new
stopped_lost old new is lost = inr (ap (λ r. r.answer) is, lost.lost)

pub stopped_kept : (old new : Reading) → IfSome old.answer (λ a. new.answer ≡ Some a) → new.key ≡ old.key → HasStopped old → HasStopped new
stopped_kept old new kept same (inl out) = inl (subst (λ o. IfSome o (λ a. new.answer ≡ Some a)) out kept)
stopped_kept old new kept same (inr long) = inr (subst (λ o. IfSome o (λ a. new.answer ≡ Some a)) long.0 kept, ap (λ k. k.is_lost) same ∙ long.1)

stopped_same : (old new : Reading) → IfSome old.answer (λ a. new ≡ old) → HasStopped old → HasStopped new
stopped_same old new kept (inl out) = subst HasStopped (sym (subst (λ o. IfSome o (λ a. new ≡ old)) out kept)) (inl out)
stopped_same old new kept (inr long) = subst HasStopped (sym (subst (λ o. IfSome o (λ a. new ≡ old)) long.0 kept)) (inr long)

-- ---- the characters of a value, piece after piece

-- more of them were read
pub record MoreSpelled (written : Spelling) (text : List ℕ) (old new : Reading) : Type 0 where
  pub spelled : (mark : ℕ) (before : List ℕ) → IsOfDigits written.form → length (before ++ text) < 2 ^ 63 → HasSpelled old written.form mark before → HasSpelled new written.form mark (before ++ characters_in written.copy text)
  pub answered : IfSome old.answer (λ a. new ≡ old)
  pub key : new.key ≡ old.key

and_false : (b : Bool) → (b && false) ≡ false
and_false true = refl
and_false false = refl

no_pair : (c d : ℕ) → (c ≡ 0x5C → d ≡ 0x6E → ⊥) → (c == 0x5C && d == 0x6E) ≡ false
no_pair c d not_both = elim (cases_eq c 0x5C) [
  | inl is ↦ ap (λ b. c == 0x5C && b) (ne_eqb d 0x6E (not_both is)) ∙ and_false (c == 0x5C)
  | inr other ↦ ap (λ b. b && d == 0x6E) (ne_eqb c 0x5C other)
]

either_both : (b : Bool) (all rest one two more : List ℕ) → all ≡ one ++ more → rest ≡ two ++ more → (if b then all else rest) ≡ (if b then one else two) ++ more
either_both true all rest one two more is_all is_rest = is_all
either_both false all rest one two more is_all is_rest = is_rest

blanked_both : (xs ys : List ℕ) → IsApart xs ys → blanked (xs ++ ys) ≡ blanked xs ++ blanked ys
blanked_both [] ys apart = refl
blanked_both (c ∷ []) [] apart = refl
blanked_both (c ∷ []) (d ∷ ys) apart =
    ap (λ b. if b then 0x20 ∷ 0x20 ∷ blanked ys else c ∷ blanked (d ∷ ys))
    (no_pair c d (λ is next. apart [] ys (ap (λ b. b ∷ []) is) (ap (λ b. b ∷ ys) next)))
blanked_both (c ∷ d ∷ xs) ys apart =
    either_both (c == 0x5C && d == 0x6E) (0x20 ∷ 0x20 ∷ blanked (xs ++ ys)) (c ∷ blanked (d ∷ (xs ++ ys))) (0x20 ∷ 0x20 ∷ blanked xs) (c ∷ blanked (d ∷ xs)) (blanked ys)
    (ap (λ zs. 0x20 ∷ 0x20 ∷ zs) (blanked_both xs ys (λ front rest is. apart (c ∷ d ∷ front) rest (ap (λ zs. c ∷ d ∷ zs) is))))
    (ap (λ zs. c ∷ zs) (blanked_both (d ∷ xs) ys (λ front rest is. apart (c ∷ front) rest (ap (λ zs. c ∷ zs) is))))

if_most : (b : Bool) (m n most : ℕ) → m ≤ most → n ≤ most → (if b then m else n) ≤ most
if_most true m n most one two = one
if_most false m n most one two = two

mark_most : (a b c : ℕ) (text : List ℕ) → mark_size (a ∷ b ∷ c ∷ text) ≤ 3
mark_most a b c text =
    if_most (a == 0x5C && b == 0x5C && c == 0x78) 3 (short_mark a b) 3 (omega arith) (if_most ((a == 0x5C || a == 0x30) && b == 0x78) 2 0 3 (omega arith) (omega arith))

behind_both : (form : Form) (a b c : ℕ) (text more : List ℕ) → behind_mark form (a ∷ b ∷ c ∷ (text ++ more)) ≡ behind_mark form (a ∷ b ∷ c ∷ text) ++ more
behind_both form.Binary a b c text more = refl
behind_both form.Hex a b c text more = drop-append-le (mark_size (a ∷ b ∷ c ∷ text)) (a ∷ b ∷ c ∷ text) more (let most = mark_most a b c text in omega (arith, most))
behind_both form.Base64 a b c text more = refl
behind_both form.Base64Url a b c text more = refl

mark_both : (form : Form) (a b c : ℕ) (text more : List ℕ) → mark_in form (a ∷ b ∷ c ∷ (text ++ more)) ≡ mark_in form (a ∷ b ∷ c ∷ text)
mark_both form.Binary a b c text more = refl
mark_both form.Hex a b c text more = refl
mark_both form.Base64 a b c text more = refl
mark_both form.Base64Url a b c text more = refl

-- what is behind a mark ends as the text does
apart_drop : (n : ℕ) (text more : List ℕ) → IsApart text more → IsApart (drop n text) more
apart_drop n text more apart = λ front rest ends begins.
    apart (take n text ++ front) rest (sym (take-append-drop n text) ∙ ap (λ xs. take n text ++ xs) ends ∙ sym (append_assoc (take n text) front (0x5C ∷ []))) begins

apart_mark : (form : Form) (text more : List ℕ) → IsApart text more → IsApart (behind_mark form text) more
apart_mark form.Binary text more apart = apart
apart_mark form.Hex text more apart = apart_drop (mark_size text) text more apart
apart_mark form.Base64 text more apart = apart
apart_mark form.Base64Url text more apart = apart

-- characters of a text are those of its pieces
apart_spaceless : (xs ys : List ℕ) → IsApart xs ys → IsApart (map without_space xs) (map without_space ys)
apart_spaceless xs ys apart = λ front rest ends begins.
    let x = ends_so xs front 0x5C (omega arith) ends in
    let y = begins_so ys rest 0x6E (omega arith) begins in
    apart x.front y.0 x.is y.1

characters_both : (copy : Bool) (xs ys : List ℕ) → IsApart xs ys → characters_in copy (xs ++ ys) ≡ characters_in copy xs ++ characters_in copy ys
characters_both true xs ys apart =
    ap (λ zs. blanked zs) (map-append without_space xs ys) ∙ blanked_both (map without_space xs) (map without_space ys) (apart_spaceless xs ys apart)
characters_both false xs ys apart = map-append without_space xs ys

text_both : (written : Spelling) (a b c : ℕ) (text more : List ℕ) → IsApart (a ∷ b ∷ c ∷ text) more
    → value_in written (a ∷ b ∷ c ∷ (text ++ more))
    ≡ text_of written.form (mark_in written.form (a ∷ b ∷ c ∷ text)) (characters_in written.copy (behind_mark written.form (a ∷ b ∷ c ∷ text)) ++ characters_in written.copy more)
text_both written a b c text more apart =
    ap (λ n. text_of written.form n (characters_in written.copy (behind_mark written.form (a ∷ b ∷ c ∷ (text ++ more))))) (mark_both written.form a b c text more)
    ∙ ap (λ xs. text_of written.form (mark_in written.form (a ∷ b ∷ c ∷ text)) (characters_in written.copy xs)) (behind_both written.form a b c text more)
    ∙ ap (λ xs. text_of written.form (mark_in written.form (a ∷ b ∷ c ∷ text)) xs)
    (characters_both written.copy (behind_mark written.form (a ∷ b ∷ c ∷ text)) more (apart_mark written.form (a ∷ b ∷ c ∷ text) more apart))

value_both : (written : Spelling) (field more : List ℕ) → 3 ≤ length field → IsApart field more
    → value_in written (field ++ more) ≡ text_of written.form (mark_in written.form field) (characters_in written.copy (behind_mark written.form field) ++ characters_in written.copy more)
value_both written [] more long apart = absurd (omega (arith, long))
value_both written (a ∷ []) more long apart = absurd (omega (arith, long))
value_both written (a ∷ b ∷ []) more long apart = absurd (omega (arith, long))
value_both written (a ∷ b ∷ c ∷ text) more long apart = text_both written a b c text more apart

value_alone : (written : Spelling) (field : List ℕ) → 3 ≤ length field
    → value_in written field ≡ text_of written.form (mark_in written.form field) (characters_in written.copy (behind_mark written.form field))
value_alone written [] long = absurd (omega (arith, long))
value_alone written (a ∷ []) long = absurd (omega (arith, long))
value_alone written (a ∷ b ∷ []) long = absurd (omega (arith, long))
value_alone written (a ∷ b ∷ c ∷ text) long = refl

behind_size : (form : Form) (text : List ℕ) → length (behind_mark form text) ≤ length text
behind_size form.Binary text = omega arith
behind_size form.Hex text = let size = length-drop (mark_size text) text in omega (arith, size)
behind_size form.Base64 text = omega arith
behind_size form.Base64Url text = omega arith

-- more of a value came
came_more : (written : Spelling) (field more : List ℕ) (old new : Reading) → IsOfDigits written.form → length (field ++ more) < 2 ^ 63 → 3 ≤ length field → IsApart field more → MoreSpelled written more old new
    → Came old (value_in written field) → Came new (value_in written (field ++ more))
came_more written field more old new digits few long apart m (inr stopped) = inr (stopped_same old new m.answered stopped)
came_more written field more old new digits few long apart m (inl has) =
    let before : List ℕ = characters_in written.copy (behind_mark written.form field) in
    let fewer : length (before ++ more) < 2 ^ 63 =
    let one = length-append before more in
    let two = length-append field more in
    let chars = characters_size written.copy (behind_mark written.form field) in
    let behind = behind_size written.form field in
    omega (arith, one, two, chars, behind, few) in
    inl (subst (λ v. HasCome new v) (sym (value_both written field more long apart))
    (m.spelled (mark_in written.form field) before digits fewer (subst (λ v. HasCome old v) (value_alone written field long) has)))

pub counted_front : (form : Form) (line more : List ℕ) → IsCounted form (line ++ more) → IsCounted form line
counted_front form line more counted =
    record { few = let size = length-append line more in let all = counted.few in omega (arith, size, all); digits = counted.digits }

apart_behind : (line xs ys more : List ℕ) → line ≡ xs ++ (ys ++ []) → IsApart line more → IsApart ys more
apart_behind line xs ys more is apart = λ front rest ends begins.
    apart (xs ++ front) rest (is ∙ ap (λ zs. xs ++ zs) (append-nil ys ∙ ends) ∙ sym (append_assoc xs front (0x5C ∷ []))) begins

pub apart_front : (line xs ys text : List ℕ) → text ≡ xs ++ ys → IsApart line text → IsApart line xs
apart_front line xs ys text is apart = λ front rest ends begins. apart front (rest ++ ys) ends (is ∙ ap (λ zs. zs ++ ys) begins)

-- ---- the first bytes

pub if_size : (line : List ℕ) → key_size (key_if line) ≡ length line
if_size [] = refl
if_size (c ∷ line) = refl

too_long : (key : Key) (has : Option (List ℕ)) → IsKeyOf key has → most_key < key_size has → HasLostKey key
too_long key has (inl known) long = let few = known.1 in absurd (omega (arith, few, long))
too_long key has (inr lost) long = lost.0

part_in : (written : Spelling) (asked : Option ℕ) (line behind : List ℕ) (parts : Parts) (r : Reading) → IsThere asked line (take parts.from line) (part_of line parts) (drop parts.to line) (key_of line parts)
    → drop parts.to line ≡ behind → IsKeyOf r.key (key_of line parts) → (IsCounted written.form line → Came r (value_in written (part_of line parts))) → (HasLostKey r.key → HasStopped r)
    → IsIn written asked line behind r
part_in written asked line behind parts r there is kept came stopped = record {
  before = take parts.from line;
  field = part_of line parts;
  named = key_of line parts;
  there = subst (λ xs. IsThere asked line (take parts.from line) (part_of line parts) xs (key_of line parts)) is there;
  kept = kept;
  came = came;
  stopped = stopped;
}

pub front_in : (written : Spelling) (asked : Option ℕ) (line : List ℕ) (parts : Parts) (r : Reading) → AreParts asked line parts → drop parts.to line ≡ [] → most_key < length line
    → IsKeyOf r.key (key_of line parts) → (IsCounted written.form line → Came r (value_in written (part_of line parts))) → (HasLostKey r.key → HasStopped r)
    → InStretch (value_stretch asked) written asked line r
front_in written None line parts r (inl there) none long kept came stopped = part_in written None line [] parts r there none kept came stopped
front_in written None line parts r (inr missing) none long kept came stopped = absurd missing.0
front_in written (Some number) line parts r (inl there) none long kept came stopped = inl (part_in written (Some number) line [] parts r there none kept came stopped)
front_in written (Some number) line parts r (inr missing) none long kept came stopped =
    let size : key_size (key_of line parts) ≡ length line = ap key_size missing.2 ∙ if_size line in
    let lost : HasLostKey r.key = too_long r.key (key_of line parts) kept (omega (arith, size, long)) in
    inr (record { first = line; rest = []; split = sym (append-nil line); missing = missing.0; long = long; lost = lost; stopped = stopped lost })

pub front_behind : (written : Spelling) (asked : Option ℕ) (line : List ℕ) (parts : Parts) (r : Reading) → AreParts asked line parts → 0 < length (drop parts.to line) → IsKeyOf r.key (key_of line parts)
    → (IsCounted written.form line → Came r (value_in written (part_of line parts))) → (HasLostKey r.key → HasStopped r) → InStretch stretch.Behind written asked line r
front_behind written None line parts r (inl there) some kept came stopped = let none = ap length there.is_asked in absurd (omega (arith, some, none))
front_behind written None line parts r (inr missing) some kept came stopped = absurd missing.0
front_behind written (Some number) line parts r (inl there) some kept came stopped = elim there.is_field.ends [
  | inl none ↦ let empty = ap length none in absurd (omega (arith, some, empty))
  | inr more ↦ inl (more.0, part_in written (Some number) line (0x09 ∷ more.0) parts r there more.1 kept came stopped)
]
front_behind written (Some number) line parts r (inr missing) some kept came stopped = let none = ap length missing.3 in absurd (omega (arith, some, none))

-- ---- bytes behind them

-- more of a value came
regroup : (before field more : List ℕ) → (before ++ (field ++ [])) ++ more ≡ before ++ ((field ++ more) ++ [])
regroup before field more =
    ap (λ xs. (before ++ xs) ++ more) (append-nil field) ∙ append_assoc before field more ∙ ap (λ xs. before ++ xs) (sym (append-nil (field ++ more)))

-- so much of a line, with so little before the value, has at least three characters of the value
long_field : (line before field : List ℕ) (named : Option (List ℕ)) → KeyBeside before [] named → key_size named ≤ most_key → line ≡ before ++ (field ++ []) → room_size ≤ length line + 1
    → 3 ≤ length field
long_field line before field named (inl key) few is long =
    let size = ap length is ∙ length-append before (field ++ []) in
    let value = ap length (append-nil field) in
    let front = ap length key.1 ∙ length-append key.0 (0x09 ∷ []) in
    let named_is = ap key_size key.2 in
    let whole = length-append key.0 [] in
    omega (arith, size, value, front, named_is, whole, few, long)
long_field line before field named (inr (inl first)) few is long = let none = ap length first.2 in absurd (omega (arith, none))
long_field line before field named (inr (inr alone)) few is long =
    let size = ap length is ∙ length-append before (field ++ []) in
    let value = ap length (append-nil field) in
    let none = ap length alone.0 in
    omega (arith, size, value, none, long)

in_came : (written : Spelling) (asked : Option ℕ) (line more rest : List ℕ) (old new : Reading) → MoreSpelled written more old new → room_size ≤ length line + 1 → IsApart line more
    → (x : IsIn written asked line [] old) → IsCounted written.form (line ++ (more ++ rest)) → Came new (value_in written (x.field ++ more))
in_came written asked line more rest old new m long apart x counted = elim x.kept [
  | inl known ↦
      let is = x.there.is_field.split in
      let few : length (x.field ++ more) < 2 ^ 63 =
      let all = counted.few in
      let one = length-append line (more ++ rest) in
      let two = length-append more rest in
      let three = ap length is ∙ length-append x.before (x.field ++ []) in
      let four = ap length (append-nil x.field) in
      let five = length-append x.field more in
      omega (arith, all, one, two, three, four, five) in
      came_more written x.field more old new counted.digits few (long_field line x.before x.field x.named x.there.is_key known.1 is long)
      (apart_behind line x.before x.field more is apart) m (x.came (counted_front written.form line (more ++ rest) counted))
  | inr lost ↦ inr (stopped_same old new m.answered (x.stopped lost.0))
]

pub in_more : (written : Spelling) (asked : Option ℕ) (line more : List ℕ) (old new : Reading) → HasNone 0x09 more → MoreSpelled written more old new → room_size ≤ length line + 1 → IsApart line more
    → IsIn written asked line [] old → IsIn written asked (line ++ more) [] new
in_more written asked line more old new none m long apart x = record {
  before = x.before;
  field = x.field ++ more;
  named = x.named;
  there =
      record {
        is_field =
            record {
              split = ap (λ xs. xs ++ more) x.there.is_field.split ∙ regroup x.before x.field more;
              none = All-append (λ c. c ≢ 0x09) x.field more x.there.is_field.none none;
              begins = x.there.is_field.begins;
              ends = inl refl;
            };
        is_asked = x.there.is_asked;
        is_key = x.there.is_key;
      };
  kept = subst (λ k. IsKeyOf k x.named) (sym m.key) x.kept;
  came = λ counted. in_came written asked line more [] old new m long apart x (subst (λ xs. IsCounted written.form (line ++ xs)) (sym (append-nil more)) counted);
  stopped = λ lost. stopped_same old new m.answered (x.stopped (subst HasLostKey m.key lost));
}

-- a KEY that is lost stays so
still_lost : (old new : Key) (first more : List ℕ) → HasLostKey old → most_key < length first → ((has : Option (List ℕ)) → IsKeyOf old has → IsKeyOf new (longer_key has more)) → HasLostKey new
still_lost old new first more lost long adds =
    let size = length-append first more in
    too_long new (Some (first ++ more)) (adds (Some first) (inr (lost, long))) (omega (arith, size, long))

late_on : (asked : Option ℕ) (line more : List ℕ) (old new : Reading) (x : IsLate asked line old) → HasLostKey new.key → HasStopped new → IsLate asked (line ++ more) new
late_on asked line more old new x lost stopped = record {
  first = x.first;
  rest = x.rest ++ more;
  split = ap (λ xs. xs ++ more) x.split ∙ append_assoc x.first x.rest more;
  missing = x.missing;
  long = x.long;
  lost = lost;
  stopped = stopped;
}

late_same : (written : Spelling) (asked : Option ℕ) (line more : List ℕ) (old new : Reading) → MoreSpelled written more old new → IsLate asked line old → IsLate asked (line ++ more) new
late_same written asked line more old new m x = late_on asked line more old new x (subst HasLostKey (sym m.key) x.lost) (stopped_same old new m.answered x.stopped)

late_more : (asked : Option ℕ) (line more added : List ℕ) (old mid new : Reading) → mid.key ≡ old.key → ((has : Option (List ℕ)) → IsKeyOf mid.key has → IsKeyOf new.key (longer_key has added))
    → (HasLostKey new.key → HasStopped new) → IsLate asked line old → IsLate asked (line ++ more) new
late_more asked line more added old mid new same adds stopped x =
    let lost : HasLostKey new.key = still_lost mid.key new.key x.first added (subst HasLostKey (sym same) x.lost) x.long adds in
    late_on asked line more old new x lost (stopped lost)

-- the field behind a value begins
pub record Beside (before behind : List ℕ) (key : Key) : Type 0 where
  pub named : Option (List ℕ)
  pub is_key : KeyBeside before behind named
  pub kept : IsKeyOf key named

behind_some : (front rest : List ℕ) (is_first : Bool) (old new : Key) → is_first ≡ not old.is_there → IsKeyOf old (Some front)
    → ((has : Option (List ℕ)) → IsKeyOf old has → IsKeyOf new (longer_key has (drop (if is_first then 1 else 0) (0x09 ∷ rest)))) → IsKeyOf new (Some (front ++ (0x09 ∷ rest)))
behind_some front rest is_first old new is (inl known) adds =
    let later : is_first ≡ false = is ∙ ap not known.0.0 in
    subst (λ b. IsKeyOf new (Some (front ++ drop (if b then 1 else 0) (0x09 ∷ rest)))) later (adds (Some front) (inl known))
behind_some front rest is_first old new is (inr lost) adds =
    let size = length-append front (0x09 ∷ rest) in
    let long = lost.1 in
    inr (still_lost old new front (drop (if is_first then 1 else 0) (0x09 ∷ rest)) lost.0 lost.1 adds, omega (arith, size, long))

behind_none : (rest : List ℕ) (is_first : Bool) (old new : Key) → is_first ≡ not old.is_there → IsKeyOf old None
    → ((has : Option (List ℕ)) → IsKeyOf old has → IsKeyOf new (longer_key has (drop (if is_first then 1 else 0) (0x09 ∷ rest)))) → IsKeyOf new (Some rest)
behind_none rest is_first old new is (inl known) adds =
    let first : is_first ≡ true = is ∙ ap not known.0.none in
    subst (λ b. IsKeyOf new (Some (drop (if b then 1 else 0) (0x09 ∷ rest)))) first (adds None (inl known))
behind_none rest is_first old new is (inr lost) adds = let long = lost.1 in absurd (omega (arith, long))

behind_begins : (before rest : List ℕ) (named : Option (List ℕ)) (is_first : Bool) (old new : Key) → KeyBeside before [] named → is_first ≡ not old.is_there → IsKeyOf old named
    → ((has : Option (List ℕ)) → IsKeyOf old has → IsKeyOf new (longer_key has (drop (if is_first then 1 else 0) (0x09 ∷ rest)))) → Beside before (0x09 ∷ rest) new
behind_begins before rest named is_first old new (inl key) is kept adds =
    let front = key.0 in
    let same : named ≡ Some front = key.2 ∙ ap (λ xs. Some xs) (append-nil front) in
    record {
      named = Some (front ++ (0x09 ∷ rest));
      is_key = inl (front, key.1, refl);
      kept = behind_some front rest is_first old new is (subst (λ o. IsKeyOf old o) same kept) adds;
    }
behind_begins before rest named is_first old new (inr (inl first)) is kept adds = let none = ap length first.2 in absurd (omega (arith, none))
behind_begins before rest named is_first old new (inr (inr alone)) is kept adds = record {
  named = Some rest;
  is_key = inr (inl (rest, alone.0, refl, refl));
  kept = behind_none rest is_first old new is (subst (λ o. IsKeyOf old o) alone.2 kept) adds;
}

in_behind : (written : Spelling) (number : ℕ) (line value rest : List ℕ) (is_first : Bool) (old mid new : Reading) → HasNone 0x09 value → is_first ≡ not mid.key.is_there
    → ((has : Option (List ℕ)) → IsKeyOf mid.key has → IsKeyOf new.key (longer_key has (drop (if is_first then 1 else 0) (0x09 ∷ rest)))) → MoreSpelled written value old mid
    → ((v : Value) → Came mid v → Came new v) → (HasLostKey new.key → HasStopped new) → room_size ≤ length line + 1 → IsApart line value → IsIn written (Some number) line [] old
    → IsIn written (Some number) (line ++ (value ++ (0x09 ∷ rest))) (0x09 ∷ rest) new
in_behind written number line value rest is_first old mid new none is adds m more stopped long apart x =
    let y = behind_begins x.before rest x.named is_first mid.key new.key x.there.is_key is (subst (λ k. IsKeyOf k x.named) (sym m.key) x.kept) adds in
    record {
      before = x.before;
      field = x.field ++ value;
      named = y.named;
      there =
          record {
            is_field =
                record {
                  split =
                      ap (λ xs. xs ++ (value ++ (0x09 ∷ rest))) (x.there.is_field.split ∙ ap (λ xs. x.before ++ xs) (append-nil x.field))
                      ∙ append_assoc x.before x.field (value ++ (0x09 ∷ rest)) ∙ ap (λ xs. x.before ++ xs) (sym (append_assoc x.field value (0x09 ∷ rest)));
                  none = All-append (λ c. c ≢ 0x09) x.field value x.there.is_field.none none;
                  begins = x.there.is_field.begins;
                  ends = inr (rest, refl);
                };
            is_asked = x.there.is_asked;
            is_key = y.is_key;
          };
      kept = y.kept;
      came = λ counted. more (value_in written (x.field ++ value)) (in_came written (Some number) line value (0x09 ∷ rest) old mid m long apart x counted);
      stopped = stopped;
    }

-- the value ends in these bytes
pub value_ended : (written : Spelling) (number : ℕ) (line text behind : List ℕ) (at : ℕ) (is_first : Bool) (old mid new : Reading) → IsBefore 0x09 text at → behind ≡ drop at text
    → MoreSpelled written (take at text) old mid → is_first ≡ not mid.key.is_there
    → (0 < length behind → (has : Option (List ℕ)) → IsKeyOf mid.key has → IsKeyOf new.key (longer_key has (drop (if is_first then 1 else 0) behind)))
    → ((v : Value) → Came mid v → Came new v) → (0 < length behind → HasLostKey new.key → HasStopped new) → room_size ≤ length line + 1 → IsApart line text
    → InStretch stretch.Value written (Some number) line old → InStretch stretch.Behind written (Some number) (line ++ text) new
value_ended written number line text behind at is_first old mid new b is m first adds more stopped long apart was =
    let few : length (take at text) ≡ at = let i = b.inside in length-take-le at text (omega (arith, i)) in
    let tab : behind ≡ 0x09 ∷ b.rest = is ∙ ap (λ xs. drop at xs) b.split ∙ drop_at (take at text) (0x09 ∷ b.rest) at few in
    let some : 0 < length behind = let size = ap length tab in omega (arith, size) in
    let added : (has : Option (List ℕ)) → IsKeyOf mid.key has → IsKeyOf new.key (longer_key has (drop (if is_first then 1 else 0) (0x09 ∷ b.rest))) =
    λ has known. subst (λ xs. IsKeyOf new.key (longer_key has (drop (if is_first then 1 else 0) xs))) tab (adds some has known) in
    let new_line : line ++ (take at text ++ (0x09 ∷ b.rest)) ≡ line ++ text = ap (λ xs. line ++ xs) (sym b.split) in
    elim was [
      | inl x ↦ inl (
        b.rest,
        subst (λ xs. IsIn written (Some number) xs (0x09 ∷ b.rest) new) new_line
            (in_behind written number line (take at text) b.rest is_first old mid new b.none first added m more (stopped some) long
            (apart_front line (take at text) (0x09 ∷ b.rest) text b.split apart) x),
      )
      | inr late ↦ inr (late_more (Some number) line text (drop (if is_first then 1 else 0) (0x09 ∷ b.rest)) old mid new m.key added (stopped some) late)
    ]

-- it does not end in them
pub value_more : (written : Spelling) (number : ℕ) (line text : List ℕ) (old new : Reading) → HasNone 0x09 text → MoreSpelled written text old new → room_size ≤ length line + 1 → IsApart line text
    → InStretch stretch.Value written (Some number) line old → InStretch stretch.Value written (Some number) (line ++ text) new
value_more written number line text old new none m long apart (inl x) = inl (in_more written (Some number) line text old new none m long apart x)
value_more written number line text old new none m long apart (inr late) = inr (late_same written (Some number) line text old new m late)

-- more came behind a value
key_more : (before rest more : List ℕ) (named : Option (List ℕ)) → KeyBeside before (0x09 ∷ rest) named → KeyBeside before (0x09 ∷ (rest ++ more)) (longer_key named more)
key_more before rest more named (inl key) =
    inl (key.0, key.1, ap (λ o. longer_key o more) key.2 ∙ ap (λ xs. Some xs) (append_assoc key.0 (0x09 ∷ rest) more))
key_more before rest more named (inr (inl first)) = inr (inl (first.0 ++ more, first.1, ap (λ xs. xs ++ more) first.2, ap (λ o. longer_key o more) first.3))
key_more before rest more named (inr (inr alone)) = let none = ap length alone.1 in absurd (omega (arith, none))

in_behind_more : (written : Spelling) (number : ℕ) (line rest more : List ℕ) (old new : Reading) → ((has : Option (List ℕ)) → IsKeyOf old.key has → IsKeyOf new.key (longer_key has more))
    → ((v : Value) → Came old v → Came new v) → (HasLostKey new.key → HasStopped new) → IsIn written (Some number) line (0x09 ∷ rest) old
    → IsIn written (Some number) (line ++ more) (0x09 ∷ (rest ++ more)) new
in_behind_more written number line rest more old new adds goes stopped x = record {
  before = x.before;
  field = x.field;
  named = longer_key x.named more;
  there =
      record {
        is_field =
            record {
              split =
                  ap (λ xs. xs ++ more) x.there.is_field.split ∙ append_assoc x.before (x.field ++ (0x09 ∷ rest)) more
                  ∙ ap (λ xs. x.before ++ xs) (append_assoc x.field (0x09 ∷ rest) more);
              none = x.there.is_field.none;
              begins = x.there.is_field.begins;
              ends = inr (rest ++ more, refl);
            };
        is_asked = x.there.is_asked;
        is_key = key_more x.before rest more x.named x.there.is_key;
      };
  kept = adds x.named x.kept;
  came = λ counted. goes (value_in written x.field) (x.came (counted_front written.form line more counted));
  stopped = stopped;
}

pub behind_more : (written : Spelling) (asked : Option ℕ) (line more : List ℕ) (old new : Reading) → ((has : Option (List ℕ)) → IsKeyOf old.key has → IsKeyOf new.key (longer_key has more))
    → ((v : Value) → Came old v → Came new v) → (HasLostKey new.key → HasStopped new) → InStretch stretch.Behind written asked line old → InStretch stretch.Behind written asked (line ++ more) new
behind_more written None line more old new adds goes stopped was = absurd was
behind_more written (Some number) line more old new adds goes stopped (inl x) = inl (x.0 ++ more, in_behind_more written number line x.0 more old new adds goes stopped x.1)
behind_more written (Some number) line more old new adds goes stopped (inr late) = inr (late_more (Some number) line more more old old new refl adds stopped late)

-- ---- one more field, where the value is the last one

pub record LastTab (text : List ℕ) : Type 0 where
  pub front : List ℕ
  pub field : List ℕ
  pub split : text ≡ front ++ (0x09 ∷ field)
  pub none : HasNone 0x09 field

last_of : (text : List ℕ) → HasNone 0x09 text ⊎ LastTab text
last_of [] = inl (none_in 0x09)
last_of (c ∷ text) = elim (last_of text) [
  | inl none ↦ elim (cases_eq c 0x09) [
    | inl is ↦ inr (record { front = []; field = text; split = ap (λ b. b ∷ text) is; none = none })
    | inr other ↦ inl (All-cons (λ b. b ≢ 0x09) c text other none)
  ]
  | inr x ↦ inr (record { front = c ∷ x.front; field = x.field; split = ap (λ xs. c ∷ xs) x.split; none = x.none })
]

last_tab : (text : List ℕ) (at : Option ℕ) → IsFirstByte (is_byte 0x09) text at → is_some at ≡ true → LastTab text
last_tab text None h is = absurd (cc)
last_tab text (Some at) h is = elim (last_of text) [
  | inl none ↦ absurd (none at 0 h.0.high (eqb-true (slice_index text at) 0x09 h.1))
  | inr x ↦ x
]

pub last_lost : (written : Spelling) (line text : List ℕ) (at : Option ℕ) (new : Reading) → IsFirstByte (is_byte 0x09) text at → is_some at ≡ true → room_size ≤ length line + 1 → HasLostKey new.key → HasStopped new → IsIn written None (line ++ text) [] new
last_lost written line text at new h is long lost stopped =
    let x = last_tab text at h is in
    let front : List ℕ = line ++ x.front in
    let before : line ++ (x.front ++ (0x09 ∷ [])) ≡ front ++ (0x09 ∷ []) = sym (append_assoc line x.front (0x09 ∷ [])) in
    let size = length-append line x.front in
    let all = length-append front [] in
    record {
      before = line ++ (x.front ++ (0x09 ∷ []));
      field = x.field;
      named = Some (front ++ []);
      there =
          record {
            is_field =
                record {
                  split =
                      ap (λ xs. line ++ xs) x.split ∙ ap (λ xs. line ++ (x.front ++ (0x09 ∷ xs))) (sym (append-nil x.field))
                      ∙ ap (λ xs. line ++ xs) (sym (append_assoc x.front (0x09 ∷ []) (x.field ++ []))) ∙ sym (append_assoc line (x.front ++ (0x09 ∷ [])) (x.field ++ []));
                  none = x.none;
                  begins = inr (front, before);
                  ends = inl refl;
                };
            is_asked = refl;
            is_key = inl (front, before, refl);
          };
      kept = inr (lost, omega (arith, all, size, long));
      came = λ counted. inr stopped;
      stopped = λ is_lost. stopped;
    }

pub last_more : (written : Spelling) (line text : List ℕ) (at : Option ℕ) (old new : Reading) → ((h : at ≡ None) → HasNone 0x09 text) → is_some at ≡ false → MoreSpelled written text old new
    → room_size ≤ length line + 1 → IsApart line text → IsIn written None line [] old → IsIn written None (line ++ text) [] new
last_more written line text None old new none is m long apart x = in_more written None line text old new (none refl) m long apart x
last_more written line text (Some at) old new none is m long apart x = absurd (cc)

-- ---- whichever field is asked for

pub last_value_lost : (written : Spelling) (asked : Option ℕ) (line text : List ℕ) (at : Option ℕ) (old new : Reading) → IsFirstByte (is_byte 0x09) text at → is_some at ≡ true
    → room_size ≤ length line + 1 → HasLostKey new.key → HasStopped new → InStretch stretch.LastValue written asked line old → InStretch stretch.LastValue written asked (line ++ text) new
last_value_lost written None line text at old new h is long lost stopped was = last_lost written line text at new h is long lost stopped
last_value_lost written (Some number) line text at old new h is long lost stopped was = absurd was

pub last_value_more : (written : Spelling) (asked : Option ℕ) (line text : List ℕ) (at : Option ℕ) (old new : Reading) → IsFirstByte (is_byte 0x09) text at → is_some at ≡ false
    → MoreSpelled written text old new → room_size ≤ length line + 1 → IsApart line text → InStretch stretch.LastValue written asked line old → InStretch stretch.LastValue written asked (line ++ text) new
last_value_more written None line text at old new h is m long apart was =
    last_more written line text at old new (λ none. no_tab text (subst (λ o. IsFirstByte (is_byte 0x09) text o) none h)) is m long apart was
last_value_more written (Some number) line text at old new h is m long apart was = absurd was

pub value_ended_by : (written : Spelling) (asked : Option ℕ) (line text behind : List ℕ) (at : ℕ) (is_first : Bool) (old mid new : Reading) → IsFirstByte (is_byte 0x09) text (Some at)
    → behind ≡ drop at text → MoreSpelled written (take at text) old mid → is_first ≡ not mid.key.is_there
    → (0 < length behind → (has : Option (List ℕ)) → IsKeyOf mid.key has → IsKeyOf new.key (longer_key has (drop (if is_first then 1 else 0) behind)))
    → ((v : Value) → Came mid v → Came new v) → (0 < length behind → HasLostKey new.key → HasStopped new) → room_size ≤ length line + 1 → IsApart line text
    → InStretch stretch.Value written asked line old → InStretch stretch.Behind written asked (line ++ text) new
value_ended_by written None line text behind at is_first old mid new h is m first adds more stopped long apart was = absurd was
value_ended_by written (Some number) line text behind at is_first old mid new h is m first adds more stopped long apart was =
    value_ended written number line text behind at is_first old mid new (first_tab text at h) is m first adds more stopped long apart was

pub value_goes_on : (written : Spelling) (asked : Option ℕ) (line text : List ℕ) (old new : Reading) → IsFirstByte (is_byte 0x09) text None → MoreSpelled written text old new
    → room_size ≤ length line + 1 → IsApart line text → InStretch stretch.Value written asked line old → InStretch stretch.Value written asked (line ++ text) new
value_goes_on written None line text old new h m long apart was = absurd was
value_goes_on written (Some number) line text old new h m long apart was = value_more written number line text old new (no_tab text h) m long apart was

-- the bytes of a record were kept
same_held : (old new : Reading) → (new ≡ old) ⊎ (new ≡ record old { answer = Some (answer.Checked found.OutOfMemory) }) → (new.key ≡ old.key) × ((new ≡ old) ⊎ HasStopped new)
same_held old new (inl same) = (ap (λ r. r.key) same, inl same)
same_held old new (inr out) = (ap (λ r. r.key) out, inr (inl (ap (λ r. r.answer) out)))

came_held : (old new : Reading) (v : Value) → (new ≡ old) ⊎ HasStopped new → Came old v → Came new v
came_held old new v (inl same) came = subst (λ r. Came r v) (sym same) came
came_held old new v (inr stopped) came = inr stopped

stopped_held : (old new : Reading) → (new ≡ old) ⊎ HasStopped new → HasStopped old → HasStopped new
stopped_held old new (inl same) stopped = subst HasStopped (sym same) stopped
stopped_held old new (inr now) stopped = now

in_held : (written : Spelling) (asked : Option ℕ) (line behind : List ℕ) (old new : Reading) → (new.key ≡ old.key) × ((new ≡ old) ⊎ HasStopped new) → IsIn written asked line behind old
    → IsIn written asked line behind new
in_held written asked line behind old new h x = record {
  before = x.before;
  field = x.field;
  named = x.named;
  there = x.there;
  kept = subst (λ k. IsKeyOf k x.named) (sym h.0) x.kept;
  came = λ counted. came_held old new (value_in written x.field) h.1 (x.came counted);
  stopped = λ lost. stopped_held old new h.1 (x.stopped (subst HasLostKey h.0 lost));
}

late_held : (asked : Option ℕ) (line : List ℕ) (old new : Reading) → (new.key ≡ old.key) × ((new ≡ old) ⊎ HasStopped new) → IsLate asked line old → IsLate asked line new
late_held asked line old new h x = record {
  first = x.first;
  rest = x.rest;
  split = x.split;
  missing = x.missing;
  long = x.long;
  lost = subst HasLostKey (sym h.0) x.lost;
  stopped = stopped_held old new h.1 x.stopped;
}

in_stretch : (s : Stretch) (written : Spelling) (asked : Option ℕ) (line : List ℕ) (old new : Reading) → (new.key ≡ old.key) × ((new ≡ old) ⊎ HasStopped new) → InStretch s written asked line old
    → InStretch s written asked line new
in_stretch stretch.LastValue written None line old new h x = in_held written None line [] old new h x
in_stretch stretch.LastValue written (Some number) line old new h x = absurd x
in_stretch stretch.Value written None line old new h x = absurd x
in_stretch stretch.Value written (Some number) line old new h (inl x) = inl (in_held written (Some number) line [] old new h x)
in_stretch stretch.Value written (Some number) line old new h (inr late) = inr (late_held (Some number) line old new h late)
in_stretch stretch.Behind written None line old new h x = absurd x
in_stretch stretch.Behind written (Some number) line old new h (inl x) = inl (x.0, in_held written (Some number) line (0x09 ∷ x.0) old new h x.1)
in_stretch stretch.Behind written (Some number) line old new h (inr late) = inr (late_held (Some number) line old new h late)

pub stretch_held : (s : Stretch) (written : Spelling) (asked : Option ℕ) (line : List ℕ) (old new : Reading)
    → (new ≡ old) ⊎ (new ≡ record old { answer = Some (answer.Checked found.OutOfMemory) }) → InStretch s written asked line old → InStretch s written asked line new
stretch_held s written asked line old new kept was = in_stretch s written asked line old new (same_held old new kept) was

named_held : (written : Spelling) (asked : Option ℕ) (line : List ℕ) (old new : Reading) → (new.key ≡ old.key) × ((new ≡ old) ⊎ HasStopped new) → IsNamed written asked line old → IsNamed written asked line new
named_held written asked line old new h x = record {
  field = x.field;
  named = x.named;
  is_value = x.is_value;
  kept = subst (λ k. IsKeyOf k x.named) (sym h.0) x.kept;
  came = λ counted. came_held old new (value_in written x.field) h.1 (x.came counted);
  stopped = λ lost. stopped_held old new h.1 (x.stopped (subst HasLostKey h.0 lost));
}

pub piece_held : (lines : Lines) (line piece : List ℕ) (old new : Reading) → (new ≡ old) ⊎ (new ≡ record old { answer = Some (answer.Checked found.OutOfMemory) })
    → PieceEnds lines line piece old → PieceEnds lines line piece new
piece_held lines line piece old new kept x = record { bare = x.bare; is_bare = x.is_bare; named = named_held lines.spelling lines.field (line ++ x.bare) old new (same_held old new kept) x.named }
