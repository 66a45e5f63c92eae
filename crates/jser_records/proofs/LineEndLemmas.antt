-- The end of a line that is read stretch by stretch.
use Rattle.std.proofs.Common.{◌≡◌, ◌≢◌, ◌⊎◌, ℕ, ◌+◌, ◌-◌, ◌≤◌, ◌<◌, ◌==◌, not, true, false, if◌then◌else◌, List, [], ◌∷◌, ◌++◌, length, take, drop, get_or, Option, Some, None, inl, inr, refl, sym, ap, subst, ◌∙◌, arith, append_assoc, append-nil, length-append}
use Rattle.std.proofs.lemmas.Bool.{cases_eq, cases_lt, eq-eqb, ne_eqb}
use Rattle.std.proofs.lemmas.List.{drop_more, same_from_push, take-append-drop, take-append-le, take_all, take_at}
use Rattle.std.proofs.lemmas.List.Elements.{All-cons}
use Rattle.jser_inputs.specs.declared.Form.{Form}
use Rattle.jser_records.specs.declared.key.Key.{Key}
use Rattle.jser_records.specs.declared.layout.Lines.{Lines}
use Rattle.jser_records.specs.declared.layout.Spelling.{Spelling}
use Rattle.jser_records.specs.declared.lines.Stretch.{Stretch}
use Rattle.jser_records.specs.declared.lines.Stretch.TheVariants as stretch
use Rattle.jser_records.specs.declared.reading.Reading.{Reading}
use Rattle.jser_records.specs.Arriving.{Arriving, HasNone, IsBefore, Took}
use Rattle.jser_records.specs.Fields.{IsBare, tabs_in}
use Rattle.jser_records.specs.Keys.{HasLostKey, key_if, most_key}
use Rattle.jser_records.specs.Readings.{IsCounted, Value}
use Rattle.jser_records.specs.Stretches.{GoesOn, InStretch, IsApart, IsIn, IsLate, IsNamed, LineNamed, PieceEnds}
use Rattle.jser_records.proofs.FieldLemmas.{none_in, tabs_both}
use Rattle.jser_records.proofs.StretchLemmas.{Beside, apart_front, counted_front, if_size}

-- the first TAB behind so many others, and what is before it
pub record Cut (count : ℕ) (line : List ℕ) : Type 0 where
  pub before : List ℕ
  pub rest : List ℕ
  pub split : line ≡ before ++ rest
  pub tabs : tabs_in before ≡ count
  pub begins : (before ≡ []) ⊎ ((front : List ℕ) × (before ≡ front ++ (0x09 ∷ [])))

none_cut : (line : List ℕ) (count : ℕ) → count ≡ 0 → Cut count line
none_cut line count none = record { before = []; rest = line; split = refl; tabs = sym none; begins = inl refl }

tab_first : (c : ℕ) (before : List ℕ) → c ≡ 0x09 → (before ≡ []) ⊎ ((front : List ℕ) × (before ≡ front ++ (0x09 ∷ []))) → (c ∷ before ≡ []) ⊎ ((front : List ℕ) × (c ∷ before ≡ front ++ (0x09 ∷ [])))
tab_first c before is (inl none) = inr ([], ap (λ b. b ∷ before) is ∙ ap (λ xs. 0x09 ∷ xs) none)
tab_first c before is (inr more) = inr (c ∷ more.0, ap (λ xs. c ∷ xs) more.1)

other_first : (c : ℕ) (before : List ℕ) → 0 < tabs_in before → (before ≡ []) ⊎ ((front : List ℕ) × (before ≡ front ++ (0x09 ∷ []))) → (c ∷ before ≡ []) ⊎ ((front : List ℕ) × (c ∷ before ≡ front ++ (0x09 ∷ [])))
other_first c before some (inl none) = let no = ap tabs_in none in absurd (omega (arith, some, no))
other_first c before some (inr more) = inr (c ∷ more.0, ap (λ xs. c ∷ xs) more.1)

cut_at : (line : List ℕ) (count : ℕ) → count ≤ tabs_in line → Cut count line
cut_at [] count few = none_cut [] count (omega (arith, few))
cut_at (c ∷ line) count few = elim (cases_lt 0 count) [
  | inl some ↦ elim (cases_eq c 0x09) [
    | inl is ↦
        let one : (c == 0x09) ≡ true = eq-eqb c 0x09 is in
        let left : count - 1 ≤ tabs_in line = let all : count ≤ 1 + tabs_in line = subst (λ b. count ≤ (if b then 1 else 0) + tabs_in line) one few in omega (arith, all) in
        let x = cut_at line (count - 1) left in
        record {
          before = c ∷ x.before;
          rest = x.rest;
          split = ap (λ xs. c ∷ xs) x.split;
          tabs = ap (λ b. (if b then 1 else 0) + tabs_in x.before) one ∙ (let had = x.tabs in omega (arith, had, some));
          begins = tab_first c x.before is x.begins;
        }
    | inr other ↦
        let no : (c == 0x09) ≡ false = ne_eqb c 0x09 other in
        let left : count ≤ tabs_in line = let all : count ≤ 0 + tabs_in line = subst (λ b. count ≤ (if b then 1 else 0) + tabs_in line) no few in omega (arith, all) in
        let x = cut_at line count left in
        record {
          before = c ∷ x.before;
          rest = x.rest;
          split = ap (λ xs. c ∷ xs) x.split;
          tabs = ap (λ b. (if b then 1 else 0) + tabs_in x.before) no ∙ (let had = x.tabs in omega (arith, had));
          begins = other_first c x.before (let had = x.tabs in omega (arith, had, some)) x.begins;
        }
  ]
  | inr none ↦ none_cut (c ∷ line) count (omega (arith, none))
]

pub record FirstField (text : List ℕ) : Type 0 where
  pub field : List ℕ
  pub behind : List ℕ
  pub split : text ≡ field ++ behind
  pub none : HasNone 0x09 field
  pub ends : (behind ≡ []) ⊎ ((rest : List ℕ) × (behind ≡ 0x09 ∷ rest))

first_of : (text : List ℕ) → FirstField text
first_of [] = record { field = []; behind = []; split = refl; none = none_in 0x09; ends = inl refl }
first_of (c ∷ text) = elim (cases_eq c 0x09) [
  | inl is ↦ record { field = []; behind = c ∷ text; split = refl; none = none_in 0x09; ends = inr (text, ap (λ b. b ∷ text) is) }
  | inr other ↦
      let x = first_of text in
      record { field = c ∷ x.field; behind = x.behind; split = ap (λ xs. c ∷ xs) x.split; none = All-cons (λ b. b ≢ 0x09) c x.field other x.none; ends = x.ends }
]

-- what has more TABs is longer
longer_front : (line first rest before behind : List ℕ) → line ≡ first ++ rest → line ≡ before ++ behind → tabs_in first < tabs_in before → length first < length before
longer_front line first rest before behind is same fewer = elim (cases_lt (length first) (length before)) [
  | inl less ↦ less
  | inr most ↦
      let whole : take (length before) first ≡ before =
      sym (take-append-le (length before) first rest most) ∙ ap (λ xs. take (length before) xs) (sym is ∙ same) ∙ take_at before behind (length before) refl in
      let all : tabs_in first ≡ tabs_in before + tabs_in (drop (length before) first) =
      ap tabs_in (sym (take-append-drop (length before) first)) ∙ tabs_both (take (length before) first) (drop (length before) first)
      ∙ ap (λ xs. tabs_in xs + tabs_in (drop (length before) first)) whole in
      absurd (omega (arith, all, fewer))
]

-- all of a line is before a field that comes so late: it is too long for a KEY
late_beside : (before behind first : List ℕ) (key : Key) → (before ≡ []) ⊎ ((front : List ℕ) × (before ≡ front ++ (0x09 ∷ []))) → length first < length before → most_key < length first → HasLostKey key
    → Beside before behind key
late_beside before behind first key (inl none) less long lost = let size = ap length none in absurd (omega (arith, less, size))
late_beside before behind first key (inr more) less long lost =
    let size : length before ≡ length more.0 + 1 = ap length more.1 ∙ length-append more.0 (0x09 ∷ []) in
    let all = length-append more.0 behind in
    record { named = Some (more.0 ++ behind); is_key = inl (more.0, more.1, refl); kept = inr (lost, omega (arith, all, size, less, long)) }

late_there : (written : Spelling) (number : ℕ) (line : List ℕ) (r : Reading) (x : IsLate (Some number) line r) → Cut (number - 1) line → IsNamed written (Some number) line r
late_there written number line r x cut =
    let f = first_of cut.rest in
    let missing = x.missing in
    let tabs = cut.tabs in
    let fewer : tabs_in x.first < tabs_in cut.before = omega (arith, missing, tabs) in
    let y = late_beside cut.before f.behind x.first r.key cut.begins (longer_front line x.first x.rest cut.before cut.rest x.split cut.split fewer) x.long x.lost in
    record {
      field = f.field;
      named = y.named;
      is_value =
          inl (
            cut.before,
            f.behind,
            record {
              is_field =
                  record { split = cut.split ∙ ap (λ xs. cut.before ++ xs) f.split; none = f.none; begins = cut.begins; ends = f.ends };
              is_asked = cut.tabs;
              is_key = y.is_key;
            },
          );
      kept = y.kept;
      came = λ counted. inr x.stopped;
      stopped = λ lost. x.stopped;
    }

late_named : (written : Spelling) (number : ℕ) (line : List ℕ) (r : Reading) → IsLate (Some number) line r → IsNamed written (Some number) line r
late_named written number line r x = elim (cases_lt (tabs_in line) (number - 1)) [
  | inl less ↦
      let size : length line ≡ length x.first + length x.rest = ap length x.split ∙ length-append x.first x.rest in
      let all = if_size line in
      let long = x.long in
      record { field = []; named = key_if line; is_value = inr (less, refl, refl); kept = inr (x.lost, omega (arith, all, size, long)); came = λ counted. inr x.stopped; stopped = λ lost. x.stopped }
  | inr more ↦ late_there written number line r x (cut_at line (number - 1) more)
]

in_named : (written : Spelling) (asked : Option ℕ) (line behind : List ℕ) (r : Reading) → IsIn written asked line behind r → IsNamed written asked line r
in_named written asked line behind r x = record { field = x.field; named = x.named; is_value = inl (x.before, behind, x.there); kept = x.kept; came = x.came; stopped = x.stopped }

pub stretch_named : (s : Stretch) (written : Spelling) (asked : Option ℕ) (line : List ℕ) (r : Reading) → InStretch s written asked line r → IsNamed written asked line r
stretch_named stretch.LastValue written None line r x = in_named written None line [] r x
stretch_named stretch.LastValue written (Some number) line r x = absurd x
stretch_named stretch.Value written None line r x = absurd x
stretch_named stretch.Value written (Some number) line r (inl x) = in_named written (Some number) line [] r x
stretch_named stretch.Value written (Some number) line r (inr late) = late_named written number line r late
stretch_named stretch.Behind written None line r x = absurd x
stretch_named stretch.Behind written (Some number) line r (inl x) = in_named written (Some number) line (0x09 ∷ x.0) r x.1
stretch_named stretch.Behind written (Some number) line r (inr late) = late_named written number line r late

-- ---- the carriage return at its end

pub record LastByte (bytes : List ℕ) : Type 0 where
  pub front : List ℕ
  pub byte : ℕ
  pub is : bytes ≡ front ++ (byte ∷ [])

last_byte : (c : ℕ) (bytes : List ℕ) → LastByte (c ∷ bytes)
last_byte c [] = record { front = []; byte = c; is = refl }
last_byte c (d ∷ bytes) = let x = last_byte d bytes in record { front = c ∷ x.front; byte = x.byte; is = ap (λ xs. c ∷ xs) x.is }

ends_in : (line piece front : List ℕ) (c : ℕ) → line ++ piece ≡ front ++ (c ∷ []) → ((piece ≡ []) × (line ≡ front ++ (c ∷ []))) ⊎ ((rest : List ℕ) × (piece ≡ rest ++ (c ∷ [])))
ends_in line [] front c is = inl (refl, sym (append-nil line) ∙ is)
ends_in line (d ∷ piece) front c is =
    let x = last_byte d piece in
    let both : (line ++ x.front) ++ (x.byte ∷ []) ≡ front ++ (c ∷ []) = append_assoc line x.front (x.byte ∷ []) ∙ ap (λ xs. line ++ xs) (sym x.is) ∙ is in
    let same = same_from_push (line ++ x.front) front x.byte c both in
    inr (x.front, x.is ∙ ap (λ b. x.front ++ (b ∷ [])) same.1)

bare_both : (lines : Lines) (line piece bare : List ℕ) → IsBare lines piece bare → ((front : List ℕ) → line ≡ front ++ (0x0D ∷ []) → piece ≡ [] → ⊥) → IsBare lines (line ++ piece) (line ++ bare)
bare_both lines line piece bare (inl cut) some = inl (cut.0, ap (λ xs. line ++ xs) cut.1 ∙ sym (append_assoc line bare (0x0D ∷ [])))
bare_both lines line piece bare (inr same) some =
    inr (
      ap (λ xs. line ++ xs) same.0,
      λ off front is.
          elim (ends_in line piece front 0x0D is) [
            | inl x ↦ some front x.1 x.0
            | inr x ↦ same.1 off x.0 x.1
          ],
    )

pub line_named : (lines : Lines) (line piece : List ℕ) (r : Reading) → PieceEnds lines line piece r → ((front : List ℕ) → line ≡ front ++ (0x0D ∷ []) → piece ≡ [] → ⊥) → LineNamed lines (line ++ piece) r
line_named lines line piece r x some = record { bare = line ++ x.bare; is_bare = bare_both lines line piece x.bare x.is_bare some; named = x.named }

-- where a line end waits, or all of what is left is taken, a byte of it comes behind a carriage return
pub some_before : (end : ℕ) (waiting : List ℕ) (count : ℕ) → IsBefore end waiting count → GoesOn end waiting → take count waiting ≡ [] → ⊥
some_before end waiting count b on none =
    let is : waiting ≡ end ∷ b.rest = b.split ∙ ap (λ xs. xs ++ (end ∷ b.rest)) none in
    let w = on.2 in
    let same : on.0 ≡ end = cc in
    on.3 same

pub some_left : (end : ℕ) (waiting : List ℕ) → GoesOn end waiting → waiting ≡ [] → ⊥
some_left end waiting on none = let size = ap length on.2 in let empty = ap length none in absurd (omega (arith, size, empty))

-- a carriage return that is taken is not the last byte that came
pub goes_on : (end : ℕ) (line waiting front : List ℕ) (count : ℕ) → HasNone end waiting → (length waiting ≤ count → (front : List ℕ) → waiting ≡ front ++ (0x0D ∷ []) → ⊥)
    → ((front : List ℕ) → line ≡ front ++ (0x0D ∷ []) → GoesOn end waiting) → line ++ take count waiting ≡ front ++ (0x0D ∷ []) → GoesOn end (drop count waiting)
goes_on end line waiting front count none clean whole is = elim (cases_lt count (length waiting)) [
  | inl less ↦ (get_or waiting count 0, drop (count + 1) waiting, drop_more waiting count 0 less, none count 0 less)
  | inr all ↦
      let same : line ++ waiting ≡ front ++ (0x0D ∷ []) = ap (λ xs. line ++ xs) (sym (take_all count waiting all)) ∙ is in
      elim (ends_in line waiting front 0x0D same) [
        | inl x ↦ absurd (some_left end waiting (whole front x.1) x.0)
        | inr x ↦ absurd (clean all x.0 x.1)
      ]
]

pub goes_later : (end : ℕ) (old new : Arriving) → Took old new [] → GoesOn end old.waiting → GoesOn end new.waiting
goes_later end old new took on = (on.0, on.1 ++ took.came, sym took.split ∙ ap (λ xs. xs ++ took.came) on.2, on.3)

pub none_ends : (c : ℕ) (front : List ℕ) → [] ≡ front ++ (c ∷ []) → ⊥
none_ends c front is = let size = length-append front (c ∷ []) in let empty = ap length is in absurd (omega (arith, size, empty))

-- ---- the backslash at its end

-- one that is taken is not the first of two characters that belong together
pub apart_on : (line waiting front : List ℕ) (count : ℕ) → (length waiting ≤ count → (front : List ℕ) → waiting ≡ front ++ (0x5C ∷ []) → ⊥)
    → (count < length waiting → (drop count waiting ≡ 0x0D ∷ []) ⊎ (drop count waiting ≡ 0x5C ∷ [])) → ((front : List ℕ) → line ≡ front ++ (0x5C ∷ []) → GoesOn 0x6E waiting)
    → line ++ take count waiting ≡ front ++ (0x5C ∷ []) → GoesOn 0x6E (drop count waiting)
apart_on line waiting front count clean left apart is = elim (cases_lt count (length waiting)) [
  | inl less ↦ elim (left less) [
    | inl last ↦ (0x0D, [], last, λ e. absurd (omega (arith, e)))
    | inr last ↦ (0x5C, [], last, λ e. absurd (omega (arith, e)))
  ]
  | inr all ↦
      let same : line ++ waiting ≡ front ++ (0x5C ∷ []) = ap (λ xs. line ++ xs) (sym (take_all count waiting all)) ∙ is in
      elim (ends_in line waiting front 0x5C same) [
        | inl x ↦ absurd (some_left 0x6E waiting (apart front x.1) x.0)
        | inr x ↦ absurd (clean all x.0 x.1)
      ]
]

pub apart_piece : (line waiting : List ℕ) (count : ℕ) → ((front : List ℕ) → line ≡ front ++ (0x5C ∷ []) → GoesOn 0x6E waiting) → IsApart line (take count waiting)
apart_piece line waiting count apart = λ front rest ends begins.
    let on = apart front ends in
    let is : waiting ≡ 0x6E ∷ (rest ++ drop count waiting) = sym (take-append-drop count waiting) ∙ ap (λ xs. xs ++ drop count waiting) begins in
    let w = on.2 in
    let same : on.0 ≡ 0x6E = cc in
    on.3 same

pub apart_all : (line waiting : List ℕ) → ((front : List ℕ) → line ≡ front ++ (0x5C ∷ []) → GoesOn 0x6E waiting) → IsApart line waiting
apart_all line waiting apart = λ front rest ends begins.
    let on = apart front ends in
    let w = on.2 in
    let same : on.0 ≡ 0x6E = cc in
    on.3 same

pub apart_bare : (lines : Lines) (line piece bare : List ℕ) → IsBare lines piece bare → IsApart line piece → IsApart line bare
apart_bare lines line piece bare (inl cut) apart = apart_front line bare (0x0D ∷ []) piece cut.1 apart
apart_bare lines line piece bare (inr same) apart = subst (λ xs. IsApart line xs) (sym same.0) apart

pub counted_bare : (lines : Lines) (form : Form) (text bare : List ℕ) → IsBare lines text bare → IsCounted form text → IsCounted form bare
counted_bare lines form text bare (inl cut) counted = counted_front form bare (0x0D ∷ []) (subst (λ xs. IsCounted form xs) cut.1 counted)
counted_bare lines form text bare (inr same) counted = subst (λ xs. IsCounted form xs) (sym same.0) counted
