-- What a byte leads to in each text that may be a name, and its stage then.
use Rattle.std.proofs.Common.{◌≡◌, ℕ, zero, suc, ◌+◌, ◌-◌, ◌*◌, ◌<◌, ◌≤◌, ◌∙◌, ap, sym, subst, Bool, true, false, ◌&&◌, ◌==◌, ◌⊎◌, inl, inr, if◌then◌else◌, Option, Some, None, List, [], ◌∷◌, ◌++◌, length, drop, refl, arith, length-append}
use Rattle.std.specs.Prelude.{nat_le, IfSome}
use Rattle.std.specs.Option.{is_some, option_map}
use Rattle.std.proofs.lemmas.Bool.Decides.{nat_tests}
use Rattle.std.proofs.lemmas.List.{drop-append-le, drop_all}
use Rattle.jser_anywhere.specs.Texts.{Fits, is_first, take_byte}
use Rattle.jser_anywhere.specs.Stages.{Whose, descriptor, row, naming, passing, Stage, nothing, text, between, halfway, no_units, is_length, in_name, in_text, text_of, row_of, read, name_taken, other_taken, text_read, with_byte, class_of, is_whole, ended_with, after_text, onward, next}
use Rattle.jser_anywhere.specs.Slots.{Slot, slots_of, ago, new_name, new_row, is_even, is_odd, if_wanted, moved, filled, hidden_of, lower, slot_hidden, hidden_place}
use Rattle.jser_anywhere.specs.declared.text.Place.{Place}
use Rattle.jser_anywhere.specs.declared.text.Place.TheVariants as place
use Rattle.jser_anywhere.specs.declared.text.Taken.{Taken}
use Rattle.jser_anywhere.specs.declared.text.Taken.TheVariants as taken
use Rattle.jser_anywhere.specs.declared.recent.Begun.{Begun}
use Rattle.jser_anywhere.specs.declared.open.Text.{Text}
use Rattle.jser_anywhere.specs.declared.open.Name.{Name}
use Rattle.jser_anywhere.specs.declared.open.Row.{Row}
use Rattle.jser_anywhere.specs.declared.open.RowAt.{RowAt}
use Rattle.jser_anywhere.specs.declared.open.RowAt.TheVariants as at
use Rattle.jser_anywhere.specs.Steps.{Scanning, HasRoom, NameFits, AtFits, RowFits, with_byte as recent_with, recent_of, left_of, name_left, begun, row_left, skip_on, text_with, with_text, as_name, new_text, one_less, class_behind, name_with, name_taken as name_took, name_hidden, name_onward, name_after, row_at, at_with, row_with, at_taken, row_taken, at_hidden, row_hidden, text_begins, text_onward, at_onward, row_onward, row_after, or_taken, taken_by, kept_with, scan_hidden, scan_after}
use Rattle.jser_anywhere.specs.Scans.{Has, Follows, reading_of, text_stage, name_stage, row_at_stage, row_stage, name_group, at_group, row_group, SkipFits, SameGroup, Agree, name_place, row_place}
use Rattle.jser_anywhere.proofs.NameLemmas.{part_fits}
use Rattle.jser_anywhere.proofs.StageLemmas.{is_length_of, high_out}
use Rattle.jser_anywhere.proofs.SlotLemmas.{FitsRow, NewName, NewRow, WantedRow, new_name_cases, new_row_cases, wanted_cases, row_filled, row_new}
use Rattle.jser_anywhere.proofs.SlotLemmas as slot
use Rattle.jser_anywhere.proofs.FitsLemmas.{slots_fit}

-- ---- what a byte leads to is the same in all texts that may be names

abbrev pub IsJoined : Taken → Taken → Type 0
IsJoined one joined = (one ≡ taken.Refused) ⊎ (one ≡ joined)

-- of two: one is refused, or they are the same
abbrev Joint : Taken → Taken → Type 0
Joint a b = (a ≡ taken.Refused) ⊎ ((b ≡ taken.Refused) ⊎ (a ≡ b))

first_joined : (a b : Taken) → IsJoined a (or_taken a b)
first_joined (taken.Unit unit) b = inr refl
first_joined (taken.Part here) b = inr refl
first_joined taken.Refused b = inl refl

pub unit_refused : (unit : ℕ) → taken.Unit unit ≡ taken.Refused → ⊥
unit_refused unit e = absurd cc

part_refused : (here : Place) → taken.Part here ≡ taken.Refused → ⊥
part_refused here e = absurd cc

later_joined : (a b rest : Taken) → Joint a b → IsJoined b rest → IsJoined b (or_taken a rest)
later_joined taken.Refused b rest j i = i
later_joined (taken.Unit unit) b rest (inl e) i = absurd (unit_refused unit e)
later_joined (taken.Unit unit) b rest (inr (inl e)) i = inl e
later_joined (taken.Unit unit) b rest (inr (inr e)) i = inr (sym e)
later_joined (taken.Part here) b rest (inl e) i = absurd (part_refused here e)
later_joined (taken.Part here) b rest (inr (inl e)) i = inl e
later_joined (taken.Part here) b rest (inr (inr e)) i = inr (sym e)

last_joined : (a b : Taken) → Joint a b → IsJoined b (or_taken a b)
last_joined a b j = later_joined a b b j (inr refl)

-- groups that are one, or of which one has not begun
first_or_middle : (high byte : ℕ) → (take_byte place.First byte ≡ taken.Refused) ⊎ (take_byte (place.Middle high) byte ≡ taken.Refused)
first_or_middle high byte = by_start (nat_le 0x80 byte) (nat_le 0xC0 byte) refl refl
  where
    by_start : (low high_byte : Bool) → nat_le 0x80 byte ≡ low → nat_le 0xC0 byte ≡ high_byte → (take_byte place.First byte ≡ taken.Refused) ⊎ (take_byte (place.Middle high) byte ≡ taken.Refused)
    by_start false h e f = inr (grind (arith, nat_tests, e))
    by_start true true e f = inr (grind (arith, nat_tests, e, f))
    by_start true false e f = inl (grind (arith, nat_tests, e, f))

first_or_last : (high byte : ℕ) → (take_byte place.First byte ≡ taken.Refused) ⊎ (take_byte (place.Last high) byte ≡ taken.Refused)
first_or_last high byte = by_start (nat_le 0x80 byte) (nat_le 0xC0 byte) refl refl
  where
    by_start : (low high_byte : Bool) → nat_le 0x80 byte ≡ low → nat_le 0xC0 byte ≡ high_byte → (take_byte place.First byte ≡ taken.Refused) ⊎ (take_byte (place.Last high) byte ≡ taken.Refused)
    by_start false h e f = inr (grind (arith, nat_tests, e))
    by_start true true e f = inr (grind (arith, nat_tests, e, f))
    by_start true false e f = inl (grind (arith, nat_tests, e, f))

first_joint : (b : Place) (byte : ℕ) → Joint (take_byte place.First byte) (take_byte b byte)
first_joint place.First byte = inr (inr refl)
first_joint (place.Middle high) byte = elim (first_or_middle high byte) [ inl e ↦ inl e | inr e ↦ inr (inl e) ]
first_joint (place.Last high) byte = elim (first_or_last high byte) [ inl e ↦ inl e | inr e ↦ inr (inl e) ]

flip : (a b : Taken) → Joint a b → Joint b a
flip a b (inl e) = inr (inl e)
flip a b (inr (inl e)) = inl e
flip a b (inr (inr e)) = inr (inr (sym e))

groups_joint : (a b : Place) (byte : ℕ) → SameGroup a b → Joint (take_byte a byte) (take_byte b byte)
groups_joint a b byte (inl e) = inr (inr (ap (λ g. take_byte g byte) e))
groups_joint a b byte (inr (inl e)) = subst (λ g. Joint (take_byte g byte) (take_byte b byte)) (sym e) (first_joint b byte)
groups_joint a b byte (inr (inr e)) =
    subst (λ g. Joint (take_byte a byte) (take_byte g byte)) (sym e) (flip (take_byte place.First byte) (take_byte a byte) (first_joint a byte))

texts_joint_by : (p q : Option ℕ) (a b : Place) (byte : ℕ) (n : Bool) → IfSome p (λ _. IfSome q (λ _. SameGroup a b))
    → Joint (if is_some p && n then take_byte a byte else taken.Refused) (if is_some q && n then take_byte b byte else taken.Refused)
texts_joint_by None q a b byte n g = inl refl
texts_joint_by (Some p) None a b byte n g = inr (inl refl)
texts_joint_by (Some p) (Some q) a b byte false g = inl refl
texts_joint_by (Some p) (Some q) a b byte true g = groups_joint a b byte g

-- of optional texts
abbrev pub took : Option Text → ℕ → Taken
took None byte = taken.Refused
took (Some t) byte = as_name t byte

texts_joint : (a b : Option Text) (byte : ℕ) → Agree a b → Joint (took a byte) (took b byte)
texts_joint None b byte g = inl refl
texts_joint (Some a) None byte g = inr (inl refl)
texts_joint (Some a) (Some b) byte g = texts_joint_by a.skip b.skip a.group b.group byte (in_name byte) g

pub name_took_is : (n : Option Name) (byte : ℕ) → name_took n byte ≡ took (name_group n) byte
name_took_is None byte = refl
name_took_is (Some n) byte = refl

at_took_is : (here : RowAt) (byte : ℕ) → at_taken here byte ≡ took (at_group here) byte
at_took_is at.Between byte = refl
at_took_is (at.Halfway high) byte = refl
at_took_is (at.Text t) byte = refl

pub row_took_is : (r : Option Row) (byte : ℕ) → row_taken r byte ≡ took (row_group r) byte
row_took_is None byte = refl
row_took_is (Some r) byte = at_took_is r.at byte

pub record AllJoined (scan : Scanning) (byte : ℕ) : Type 0 where
  pub name : IsJoined (took (name_group scan.name) byte) (taken_by scan byte)
  pub even : IsJoined (took (row_group scan.even) byte) (taken_by scan byte)
  pub odd : IsJoined (took (row_group scan.odd) byte) (taken_by scan byte)

joined_of : (a b c : Taken) → Joint a b → Joint a c → Joint b c → (IsJoined a (or_taken a (or_taken b c))) × (IsJoined b (or_taken a (or_taken b c)) × IsJoined c (or_taken a (or_taken b c)))
joined_of a b c ab ac bc = (
  first_joined a (or_taken b c),
  (later_joined a b (or_taken b c) ab (first_joined b c), later_joined a c (or_taken b c) ac (last_joined b c bc)),
)

pub all_joined : (back : List ℕ) (scan : Scanning) (byte : ℕ) → Follows back scan → AllJoined scan byte
all_joined back scan byte f =
    let n = took (name_group scan.name) byte in
    let e = took (row_group scan.even) byte in
    let o = took (row_group scan.odd) byte in
    let same : or_taken n (or_taken e o) ≡ taken_by scan byte =
    ap (λ x. or_taken x (or_taken e o)) (sym (name_took_is scan.name byte)) ∙ ap (λ x. or_taken (name_took scan.name byte) (or_taken x o)) (sym (row_took_is scan.even byte))
    ∙ ap (λ x. or_taken (name_took scan.name byte) (or_taken (row_taken scan.even byte) x)) (sym (row_took_is scan.odd byte)) in
    let j = joined_of n e o (texts_joint (name_group scan.name) (row_group scan.even) byte f.name_even)
    (texts_joint (name_group scan.name) (row_group scan.odd) byte f.name_odd) (texts_joint (row_group scan.even) (row_group scan.odd) byte f.even_odd) in
    record {
      name = subst (λ x. IsJoined n x) same j.0;
      even = subst (λ x. IsJoined e x) same j.1.0;
      odd = subst (λ x. IsJoined o x) same j.1.1;
    }

-- ---- a text takes a byte

abbrev pub group_after : Taken → Place
group_after (taken.Unit unit) = place.First
group_after (taken.Part here) = here
group_after taken.Refused = place.First

pub record ReadText (kept : List ℕ) (joined : Taken) (t : Text) : Type 0 where
  pub skip : IfSome t.skip (λ k. (k ≤ length kept) × (length kept + t.left < 9217))
  pub fits : Fits t.group
  pub aligned : IfSome t.skip (λ _. t.group ≡ group_after joined)

record Stays (kept : List ℕ) (joined : Taken) (left k : ℕ) (group : Place) : Type 0 where
  pub within : k ≤ length kept
  pub room : length kept + left < 9217
  pub aligned : group ≡ group_after joined

abbrev pub the_text : (left : ℕ) → Place → Option ℕ → Text
the_text left group skip = record { left = left; group = group; skip = skip }

read_some : (kept : List ℕ) (joined : Taken) (left : ℕ) (group : Place) (skip : Option ℕ) → Fits group → ((k : ℕ) → skip ≡ Some k → Stays kept joined left k group) → ReadText kept joined (the_text left group skip)
read_some kept joined left group None fits stays = record { skip = tt; fits = fits; aligned = tt }
read_some kept joined left group (Some k) fits stays = let s = stays k refl in record { skip = (s.within, s.room); fits = fits; aligned = s.aligned }

read_as : (kept : List ℕ) (joined : Taken) (left : ℕ) (group : Place) (skip : Option ℕ) (byte : ℕ) (n : Bool) → in_name byte ≡ n → Fits group
    → ((k : ℕ) → n ≡ true → skip ≡ Some k → Stays kept joined left k group) → ReadText kept joined (the_text left group (skip_on skip byte))
read_as kept joined left group skip byte true i fits stays =
    subst (λ s. ReadText kept joined (the_text left group s)) (sym (ap (λ b. if b then skip else None) i)) (read_some kept joined left group skip fits (λ k e. stays k refl e))
read_as kept joined left group skip byte false i fits stays =
    subst (λ s. ReadText kept joined (the_text left group s)) (sym (ap (λ b. if b then skip else None) i)) (record { skip = tt; fits = fits; aligned = tt })

-- where the text may be a name, what it leads to is what all lead to
really_joined : (skip : Option ℕ) (k : ℕ) (n : Bool) (x joined : Taken) → skip ≡ Some k → n ≡ true → IsJoined (if is_some skip && n then x else taken.Refused) joined → IsJoined x joined
really_joined skip k n x joined e i j =
    let is : (if is_some skip && n then x else taken.Refused) ≡ x = ap (λ s. if is_some s && n then x else taken.Refused) e ∙ ap (λ b. if b then x else taken.Refused) i in
    subst (λ y. IsJoined y joined) is j

unit_joined : (unit : ℕ) (joined : Taken) → IsJoined (taken.Unit unit) joined → taken.Unit unit ≡ joined
unit_joined unit joined (inl e) = absurd (unit_refused unit e)
unit_joined unit joined (inr e) = e

part_joined : (here : Place) (joined : Taken) → IsJoined (taken.Part here) joined → taken.Part here ≡ joined
part_joined here joined (inl e) = absurd (part_refused here e)
part_joined here joined (inr e) = e

unit_stays : (kept : List ℕ) (joined : Taken) (left k unit : ℕ) → taken.Unit unit ≡ joined → k ≤ length kept → length kept + left < 9216 → Stays (kept_with kept joined) joined left k place.First
unit_stays kept joined left k unit e within room = subst (λ j. Stays (kept_with kept j) j left k place.First) e (record {
  within = omega (arith, within, length-append kept (unit ∷ []));
  room = omega (arith, room, length-append kept (unit ∷ []));
  aligned = refl;
})

part_stays : (kept : List ℕ) (joined : Taken) (left k : ℕ) (here : Place) → taken.Part here ≡ joined → k ≤ length kept → length kept + left < 9216 → Stays (kept_with kept joined) joined left k here
part_stays kept joined left k here e within room = subst (λ j. Stays (kept_with kept j) j left k here) e (record { within = within; room = omega (arith, room); aligned = refl })

abbrev pub Roomy : (skip : Option ℕ) → (left : ℕ) → (kept : List ℕ) → Type 0
Roomy skip left kept = IfSome skip (λ k. (k ≤ length kept) × (length kept + left < 9216))

roomy_at : (skip : Option ℕ) (left k : ℕ) (kept : List ℕ) → skip ≡ Some k → Roomy skip left kept → (k ≤ length kept) × (length kept + left < 9216)
roomy_at skip left k kept e r = subst (λ s. Roomy s left kept) e r

read_by : (left : ℕ) (group : Place) (skip : Option ℕ) (byte : ℕ) (kept : List ℕ) (joined : Taken) (n : Bool) (x : Taken) → in_name byte ≡ n → take_byte group byte ≡ x
    → IsJoined (if is_some skip && n then x else taken.Refused) joined → Roomy skip left kept → Fits group → byte < 256
    → IfSome (text_with (the_text left group skip) byte x) (λ t. ReadText (kept_with kept joined) joined t)
read_by left group skip byte kept joined n (taken.Unit unit) i e j r fits small =
    read_as (kept_with kept joined) joined left place.First skip byte n i tt (λ k t s.
    let room = roomy_at skip left k kept s r in
    unit_stays kept joined left k unit (unit_joined unit joined (really_joined skip k n (taken.Unit unit) joined s t j)) room.0 room.1)
read_by left group skip byte kept joined n (taken.Part here) i e j r fits small =
    read_as (kept_with kept joined) joined left here skip byte n i (part_fits group here byte fits small e) (λ k t s.
    let room = roomy_at skip left k kept s r in
    part_stays kept joined left k here (part_joined here joined (really_joined skip k n (taken.Part here) joined s t j)) room.0 room.1)
read_by left group skip byte kept joined n taken.Refused i e j r fits small = tt

with_by : (is : Bool) (o : Option Text) (P : Text → Type 0) → IfSome o P → IfSome (if is then o else None) P
with_by true o P p = p
with_by false o P p = tt

text_reads : (whose : Whose) (t : Text) (byte : ℕ) (kept : List ℕ) (joined : Taken) → IsJoined (as_name t byte) joined → SkipFits (Some t) kept → Fits t.group → byte < 256
    → IfSome (with_text whose t byte) (λ x. ReadText (kept_with kept joined) joined x)
text_reads whose t byte kept joined j s fits small =
    with_by (in_text whose byte) (text_with t byte (take_byte t.group byte)) (λ x. ReadText (kept_with kept joined) joined x)
    (read_by t.left t.group t.skip byte kept joined (in_name byte) (take_byte t.group byte) refl refl
    j s fits small)

-- ---- its stage

abbrev opt_stage : Whose → Option Text → (kept : List ℕ) → Stage
opt_stage whose None kept = nothing
opt_stage whose (Some t) kept = text_stage whose t kept

stage_other : (whose : Whose) (left : ℕ) (group : Place) (skip : Option ℕ) (byte : ℕ) (kept : List ℕ) (n : Bool) → in_name byte ≡ n → (n ≡ false) ⊎ (skip ≡ None)
    → text whose left (passing group) ≡ text_stage whose (the_text left group (skip_on skip byte)) kept
stage_other whose left group skip byte kept false i o = sym (ap (λ b. text whose left (reading_of (if b then skip else None) group kept)) i)
stage_other whose left group skip byte kept true i (inl e) = absurd cc
stage_other whose left group skip byte kept true i (inr e) =
    sym (ap (λ b. text whose left (reading_of (if b then skip else None) group kept)) i ∙ ap (λ s. text whose left (reading_of s group kept)) e)

stage_name : (whose : Whose) (left k : ℕ) (group : Place) (byte : ℕ) (kept units : List ℕ) → in_name byte ≡ true → units ≡ drop k kept
    → text whose left (naming units group) ≡ text_stage whose (the_text left group (skip_on (Some k) byte)) kept
stage_name whose left k group byte kept units i e =
    ap (λ us. text whose left (naming us group)) e ∙ sym (ap (λ b. text whose left (reading_of (if b then Some k else None) group kept)) i)

units_on : (kept : List ℕ) (joined : Taken) (k unit : ℕ) → taken.Unit unit ≡ joined → k ≤ length kept → drop k kept ++ unit ∷ [] ≡ drop k (kept_with kept joined)
units_on kept joined k unit e within = sym (drop-append-le k kept (unit ∷ []) within) ∙ ap (λ j. drop k (kept_with kept j)) e

stage_by : (whose : Whose) (left : ℕ) (group : Place) (skip : Option ℕ) (byte : ℕ) (kept : List ℕ) (joined : Taken) (n : Bool) (x : Taken) → in_name byte ≡ n → take_byte group byte ≡ x
    → IsJoined (if is_some skip && n then x else taken.Refused) joined → Roomy skip left kept
    → text_read whose left (read (reading_of skip group kept) byte) ≡ opt_stage whose (text_with (the_text left group skip) byte x) (kept_with kept joined)
stage_by whose left group None byte kept joined n (taken.Unit unit) i e j r =
    ap (λ y. text_read whose left (other_taken y)) e ∙ stage_other whose left place.First None byte (kept_with kept joined) n i (inr refl)
stage_by whose left group None byte kept joined n (taken.Part here) i e j r =
    ap (λ y. text_read whose left (other_taken y)) e ∙ stage_other whose left here None byte (kept_with kept joined) n i (inr refl)
stage_by whose left group None byte kept joined n taken.Refused i e j r = ap (λ y. text_read whose left (other_taken y)) e
stage_by whose left group (Some k) byte kept joined false (taken.Unit unit) i e j r =
    ap (λ b. text_read whose left (if b then name_taken (drop k kept) (take_byte group byte) else other_taken (take_byte group byte))) i
    ∙ ap (λ y. text_read whose left (other_taken y)) e ∙ stage_other whose left place.First (Some k) byte (kept_with kept joined) false i (inl refl)
stage_by whose left group (Some k) byte kept joined false (taken.Part here) i e j r =
    ap (λ b. text_read whose left (if b then name_taken (drop k kept) (take_byte group byte) else other_taken (take_byte group byte))) i
    ∙ ap (λ y. text_read whose left (other_taken y)) e ∙ stage_other whose left here (Some k) byte (kept_with kept joined) false i (inl refl)
stage_by whose left group (Some k) byte kept joined false taken.Refused i e j r =
    ap (λ b. text_read whose left (if b then name_taken (drop k kept) (take_byte group byte) else other_taken (take_byte group byte))) i ∙ ap (λ y. text_read whose left (other_taken y)) e
stage_by whose left group (Some k) byte kept joined true (taken.Unit unit) i e j r =
    ap (λ b. text_read whose left (if b then name_taken (drop k kept) (take_byte group byte) else other_taken (take_byte group byte))) i
    ∙ ap (λ y. text_read whose left (name_taken (drop k kept) y)) e
    ∙ stage_name whose left k place.First byte (kept_with kept joined) (drop k kept ++ unit ∷ []) i (units_on kept joined k unit (unit_joined unit joined j) r.0)
stage_by whose left group (Some k) byte kept joined true (taken.Part here) i e j r =
    ap (λ b. text_read whose left (if b then name_taken (drop k kept) (take_byte group byte) else other_taken (take_byte group byte))) i
    ∙ ap (λ y. text_read whose left (name_taken (drop k kept) y)) e
    ∙ stage_name whose left k here byte (kept_with kept joined) (drop k kept) i (ap (λ y. drop k (kept_with kept y)) (part_joined here joined j))
stage_by whose left group (Some k) byte kept joined true taken.Refused i e j r =
    ap (λ b. text_read whose left (if b then name_taken (drop k kept) (take_byte group byte) else other_taken (take_byte group byte))) i
    ∙ ap (λ y. text_read whose left (name_taken (drop k kept) y)) e

if_stage : (whose : Whose) (is : Bool) (s : Stage) (o : Option Text) (kept : List ℕ) → s ≡ opt_stage whose o kept → (if is then s else nothing) ≡ opt_stage whose (if is then o else None) kept
if_stage whose true s o kept e = e
if_stage whose false s o kept e = refl

text_noted : (whose : Whose) (t : Text) (byte : ℕ) (kept : List ℕ) (joined : Taken) → IsJoined (as_name t byte) joined → SkipFits (Some t) kept
    → with_byte (text_stage whose t kept) byte ≡ opt_stage whose (with_text whose t byte) (kept_with kept joined)
text_noted whose t byte kept joined j s =
    if_stage whose (in_text whose byte) (text_read whose t.left (read (reading_of t.skip t.group kept) byte)) (text_with t byte (take_byte t.group byte)) (kept_with kept joined)
    (stage_by whose t.left t.group t.skip byte kept joined (in_name byte) (take_byte t.group byte) refl refl j s)

-- of a descriptor
name_opt : (place : ℕ) (o : Option Text) (kept : List ℕ) → opt_stage descriptor o kept ≡ name_stage (option_map (λ t. record { place = place; text = t }) o) kept
name_opt place None kept = refl
name_opt place (Some t) kept = refl

abbrev pub ReadName : (kept : List ℕ) → Taken → Option Name → Type 0
ReadName kept joined n = IfSome n (λ n. ReadText kept joined n.text)

name_read_opt : (place : ℕ) (o : Option Text) (kept : List ℕ) (joined : Taken) → IfSome o (λ t. ReadText kept joined t) → ReadName kept joined (option_map (λ t. record { place = place; text = t }) o)
name_read_opt place None kept joined r = tt
name_read_opt place (Some t) kept joined r = r

pub name_noted : (n : Option Name) (byte : ℕ) (kept : List ℕ) (joined : Taken) → IsJoined (took (name_group n) byte) joined → SkipFits (name_group n) kept
    → with_byte (name_stage n kept) byte ≡ name_stage (name_with n byte) (kept_with kept joined)
name_noted None byte kept joined j s = refl
name_noted (Some n) byte kept joined j s = text_noted descriptor n.text byte kept joined j s ∙ name_opt n.place (with_text descriptor n.text byte) (kept_with kept joined)

pub name_reads : (n : Option Name) (byte : ℕ) (kept : List ℕ) (joined : Taken) → IsJoined (took (name_group n) byte) joined → SkipFits (name_group n) kept → NameFits n → byte < 256
    → ReadName (kept_with kept joined) joined (name_with n byte)
name_reads None byte kept joined j s fits small = tt
name_reads (Some n) byte kept joined j s fits small =
    name_read_opt n.place (with_text descriptor n.text byte) (kept_with kept joined) joined (text_reads descriptor n.text byte kept joined j s fits small)

-- of a row
abbrev pub ReadAt : (kept : List ℕ) → Taken → RowAt → Type 0
ReadAt kept joined at.Between = Unit {0}
ReadAt kept joined (at.Halfway high) = Unit {0}
ReadAt kept joined (at.Text t) = ReadText kept joined t

abbrev pub ReadRow : (kept : List ℕ) → Taken → Option Row → Type 0
ReadRow kept joined r = IfSome r (λ r. ReadAt kept joined r.at)

row_opt : (r : Row) (o : Option Text) (kept : List ℕ) → opt_stage (row r.more) o kept ≡ row_stage (option_map (λ t. row_at r r.more (at.Text t)) o) kept
row_opt r None kept = refl
row_opt r (Some t) kept = refl

row_read_opt : (r : Row) (o : Option Text) (kept : List ℕ) (joined : Taken) → IfSome o (λ t. ReadText kept joined t) → ReadRow kept joined (option_map (λ t. row_at r r.more (at.Text t)) o)
row_read_opt r None kept joined x = tt
row_read_opt r (Some t) kept joined x = x

at_noted : (r : Row) (here : RowAt) (byte : ℕ) (kept : List ℕ) (joined : Taken) → IsJoined (took (at_group here) byte) joined → SkipFits (at_group here) kept
    → with_byte (row_at_stage r.more here kept) byte ≡ row_stage (at_with r here byte) (kept_with kept joined)
at_noted r at.Between byte kept joined j s = refl
at_noted r (at.Halfway high) byte kept joined j s = refl
at_noted r (at.Text t) byte kept joined j s = text_noted (row r.more) t byte kept joined j s ∙ row_opt r (with_text (row r.more) t byte) (kept_with kept joined)

pub row_noted : (r : Option Row) (byte : ℕ) (kept : List ℕ) (joined : Taken) → IsJoined (took (row_group r) byte) joined → SkipFits (row_group r) kept
    → with_byte (row_stage r kept) byte ≡ row_stage (row_with r byte) (kept_with kept joined)
row_noted None byte kept joined j s = refl
row_noted (Some r) byte kept joined j s = at_noted r r.at byte kept joined j s

at_reads : (r : Row) (here : RowAt) (byte : ℕ) (kept : List ℕ) (joined : Taken) → IsJoined (took (at_group here) byte) joined → SkipFits (at_group here) kept → AtFits here → byte < 256
    → ReadRow (kept_with kept joined) joined (at_with r here byte)
at_reads r at.Between byte kept joined j s fits small = tt
at_reads r (at.Halfway high) byte kept joined j s fits small = tt
at_reads r (at.Text t) byte kept joined j s fits small =
    row_read_opt r (with_text (row r.more) t byte) (kept_with kept joined) joined (text_reads (row r.more) t byte kept joined j s fits small)

pub row_reads : (r : Option Row) (byte : ℕ) (kept : List ℕ) (joined : Taken) → IsJoined (took (row_group r) byte) joined → SkipFits (row_group r) kept → RowFits r → byte < 256
    → ReadRow (kept_with kept joined) joined (row_with r byte)
row_reads None byte kept joined j s fits small = tt
row_reads (Some r) byte kept joined j s fits small = at_reads r r.at byte kept joined j s fits small
