-- The reader of loose text against its groups.
use Rattle.std.proofs.Common.{◌≡◌, ◌<◌, ◌≤◌, ℕ, ◌+◌, ◌-◌, ◌*◌, ◌∙◌, ap, sym, Bool, true, false, ◌&&◌, if◌then◌else◌, Option, Some, None, List, [], ◌∷◌, ◌++◌, refl, arith}
use Rattle.std.specs.Prelude.{nat_lt, nat_le}
use Rattle.std.specs.Option.{option_map}
use Rattle.std.proofs.lemmas.Bool.Decides.{nat_tests}
use Rattle.jser_anywhere.specs.Texts.{take_byte, loose_from, loose_step, goes_on, in_row, row_from, row_units}
use Rattle.jser_anywhere.specs.LooseText.{Group, one, two, three, IsGroup, group_bytes, group_unit, AreGroups, IsLooseText, ReadsLoose, AreInRow, ReadsRows}
use Rattle.jser_anywhere.specs.declared.text.Place.{Place}
use Rattle.jser_anywhere.specs.declared.text.Place.TheVariants as place
use Rattle.jser_anywhere.specs.declared.text.Taken.{Taken}
use Rattle.jser_anywhere.specs.declared.text.Taken.TheVariants as taken

first_one : (a : ℕ) → a < 0x80 → take_byte place.First a ≡ taken.Unit a
first_one a less = grind (arith, nat_tests)

first_two : (a : ℕ) → a < 32 → take_byte place.First (0xC0 + a) ≡ taken.Part (place.Last a)
first_two a less = grind (arith, nat_tests)

first_three : (a : ℕ) → a < 16 → take_byte place.First (0xE0 + a) ≡ taken.Part (place.Middle a)
first_three a less = grind (arith, nat_tests)

middle_next : (high b : ℕ) → b < 64 → take_byte (place.Middle high) (0x80 + b) ≡ taken.Part (place.Last (high * 64 + b))
middle_next high b less = grind (arith, nat_tests)

last_next : (high b : ℕ) → b < 64 → take_byte (place.Last high) (0x80 + b) ≡ taken.Unit (high * 64 + b)
last_next high b less = grind (arith, nat_tests)

step : (here : Place) (byte : ℕ) (bytes : List ℕ) (t : Taken) → take_byte here byte ≡ t → loose_from (byte ∷ bytes) here ≡ loose_step (loose_from bytes) t
step here byte bytes t e = ap (λ x. loose_step (loose_from bytes) x) e

group_read : (g : Group) (rest : List ℕ) → IsGroup g → loose_from (group_bytes g ++ rest) place.First ≡ option_map (λ units. group_unit g ∷ units) (loose_from rest place.First)
group_read (one a) rest is = step place.First a rest (taken.Unit a) (first_one a is)
group_read (two a b) rest is =
    step place.First (0xC0 + a) ((0x80 + b) ∷ rest) (taken.Part (place.Last a)) (first_two a is.0)
    ∙ step (place.Last a) (0x80 + b) rest (taken.Unit (a * 64 + b)) (last_next a b is.1)
group_read (three a b c) rest is =
    step place.First (0xE0 + a) ((0x80 + b) ∷ (0x80 + c) ∷ rest) (taken.Part (place.Middle a)) (first_three a is.0)
    ∙ step (place.Middle a) (0x80 + b) ((0x80 + c) ∷ rest) (taken.Part (place.Last (a * 64 + b))) (middle_next a b is.1)
    ∙ step (place.Last (a * 64 + b)) (0x80 + c) rest (taken.Unit ((a * 64 + b) * 64 + c)) (last_next (a * 64 + b) c is.2)

groups_read : (gs : List Group) (bytes units : List ℕ) → AreGroups gs bytes units → loose_from bytes place.First ≡ Some units
groups_read [] bytes units are = ap (λ (xs : List ℕ). loose_from xs place.First) are.0 ∙ ap Some (sym are.1)
groups_read (g ∷ gs) bytes units are =
    ap (λ (xs : List ℕ). loose_from xs place.First) are.bytes_are ∙ group_read g are.rest are.is_group
    ∙ ap (λ o. option_map (λ us. group_unit g ∷ us) o) (groups_read gs are.rest are.later are.goes_on) ∙ ap Some (sym are.units_are)

-- ---- what was read is groups

-- one more byte of a group, and what follows
record Goes (high : ℕ) (bytes units : List ℕ) : Type 0 where
  pub b : ℕ
  pub rest : List ℕ
  pub later : List ℕ
  pub fits : b < 64
  pub bytes_are : bytes ≡ (0x80 + b) ∷ rest
  pub units_are : units ≡ (high * 64 + b) ∷ later
  pub goes_on : IsLooseText rest later

record GoesTwice (high : ℕ) (bytes units : List ℕ) : Type 0 where
  pub b : ℕ
  pub rest : List ℕ
  pub fits : b < 64
  pub bytes_are : bytes ≡ (0x80 + b) ∷ rest
  pub goes_on : Goes (high * 64 + b) rest units

abbrev Rest : Place → List ℕ → List ℕ → Type 0
Rest place.First bytes units = IsLooseText bytes units
Rest (place.Middle high) bytes units = GoesTwice high bytes units
Rest (place.Last high) bytes units = Goes high bytes units

join_group : (g : Group) (bytes rest units later : List ℕ) → IsGroup g → bytes ≡ group_bytes g ++ rest → units ≡ group_unit g ∷ later → IsLooseText rest later → IsLooseText bytes units
join_group g bytes rest units later is e f text = record {
  groups = g ∷ text.groups;
  are = record { is_group = is; rest = rest; later = later; bytes_are = e; units_are = f; goes_on = text.are };
}

record Split (unit : ℕ) (o : Option (List ℕ)) (units : List ℕ) : Type 0 where
  pub later : List ℕ
  pub is : o ≡ Some later
  pub units_are : units ≡ unit ∷ later

split_unit : (unit : ℕ) (o : Option (List ℕ)) (units : List ℕ) → option_map (λ us. unit ∷ us) o ≡ Some units → Split unit o units
split_unit unit None units e = absurd cc
split_unit unit (Some later) units e = let h : unit ∷ later ≡ units = cc in record { later = later; is = refl; units_are = sym h }

last_byte : (high byte : ℕ) (bytes units : List ℕ) (is : Bool) → goes_on byte ≡ is → ((us : List ℕ) → loose_from bytes place.First ≡ Some us → IsLooseText bytes us)
    → loose_step (loose_from bytes) (if is then taken.Unit (high * 64 + (byte - 0x80)) else taken.Refused) ≡ Some units → Goes high (byte ∷ bytes) units
last_byte high byte bytes units false g later e = absurd cc
last_byte high byte bytes units true g later e =
    let s = split_unit (high * 64 + (byte - 0x80)) (loose_from bytes place.First) units e in
    let same : byte ≡ 0x80 + (byte - 0x80) = grind (arith, nat_tests) in
    record { b = byte - 0x80; rest = bytes; later = s.later; fits = grind (arith, nat_tests); bytes_are = ap (λ (n : ℕ). n ∷ bytes) same; units_are = s.units_are; goes_on = later s.later s.is }

middle_byte : (high byte : ℕ) (bytes units : List ℕ) (is : Bool) → goes_on byte ≡ is → ((h : ℕ) → loose_from bytes (place.Last h) ≡ Some units → Goes h bytes units)
    → loose_step (loose_from bytes) (if is then taken.Part (place.Last (high * 64 + (byte - 0x80))) else taken.Refused) ≡ Some units → GoesTwice high (byte ∷ bytes) units
middle_byte high byte bytes units false g later e = absurd cc
middle_byte high byte bytes units true g later e =
    let same : byte ≡ 0x80 + (byte - 0x80) = grind (arith, nat_tests) in
    record { b = byte - 0x80; rest = bytes; fits = grind (arith, nat_tests); bytes_are = ap (λ (n : ℕ). n ∷ bytes) same; goes_on = later (high * 64 + (byte - 0x80)) e }

one_group : (byte : ℕ) (bytes units : List ℕ) → byte < 0x80 → ((us : List ℕ) → loose_from bytes place.First ≡ Some us → IsLooseText bytes us)
    → option_map (λ us. byte ∷ us) (loose_from bytes place.First) ≡ Some units → IsLooseText (byte ∷ bytes) units
one_group byte bytes units less later e =
    let s = split_unit byte (loose_from bytes place.First) units e in
    join_group (one byte) (byte ∷ bytes) bytes units s.later less refl s.units_are (later s.later s.is)

two_group : (byte : ℕ) (bytes units : List ℕ) → 0xC0 ≤ byte → byte < 0xE0 → Goes (byte - 0xC0) bytes units → IsLooseText (byte ∷ bytes) units
two_group byte bytes units low high g =
    let same : byte ≡ 0xC0 + (byte - 0xC0) = omega arith in
    join_group (two (byte - 0xC0) g.b) (byte ∷ bytes) g.rest units g.later (omega arith, g.fits)
    (ap (λ (n : ℕ). n ∷ bytes) same ∙ ap (λ (xs : List ℕ). (0xC0 + (byte - 0xC0)) ∷ xs) g.bytes_are) g.units_are g.goes_on

three_group : (byte : ℕ) (bytes units : List ℕ) → 0xE0 ≤ byte → byte < 0xF0 → GoesTwice (byte - 0xE0) bytes units → IsLooseText (byte ∷ bytes) units
three_group byte bytes units low high g =
    let same : byte ≡ 0xE0 + (byte - 0xE0) = omega arith in
    let n = g.goes_on in
    join_group (three (byte - 0xE0) g.b n.b) (byte ∷ bytes) n.rest units n.later (omega arith, g.fits, n.fits)
    (ap (λ (m : ℕ). m ∷ bytes) same ∙ ap (λ (xs : List ℕ). (0xE0 + (byte - 0xE0)) ∷ xs) (g.bytes_are ∙ ap (λ (xs : List ℕ). (0x80 + g.b) ∷ xs) n.bytes_are)) n.units_are n.goes_on

first_byte : (byte : ℕ) (bytes units : List ℕ) (is_one is_two is_three : Bool) → nat_lt byte 0x80 ≡ is_one → (nat_le 0xC0 byte && nat_lt byte 0xE0) ≡ is_two → (nat_le 0xE0 byte && nat_lt byte 0xF0) ≡ is_three
    → ((here : Place) (us : List ℕ) → loose_from bytes here ≡ Some us → Rest here bytes us)
    → loose_step (loose_from bytes) (if is_one then taken.Unit byte else (if is_two then taken.Part (place.Last (byte - 0xC0)) else (if is_three then taken.Part (place.Middle (byte - 0xE0)) else taken.Refused))) ≡ Some units
    → IsLooseText (byte ∷ bytes) units
first_byte byte bytes units true is_two is_three a b c later e = one_group byte bytes units (grind (arith, nat_tests, a)) (later place.First) e
first_byte byte bytes units false true is_three a b c later e =
    two_group byte bytes units (grind (arith, nat_tests, b)) (grind (arith, nat_tests, b)) (later (place.Last (byte - 0xC0)) units e)
first_byte byte bytes units false false true a b c later e =
    three_group byte bytes units (grind (arith, nat_tests, c)) (grind (arith, nat_tests, c)) (later (place.Middle (byte - 0xE0)) units e)
first_byte byte bytes units false false false a b c later e = absurd cc

rest_read : (bytes : List ℕ) (here : Place) (units : List ℕ) → loose_from bytes here ≡ Some units → Rest here bytes units
rest_read [] place.First units e = record { groups = []; are = (refl, cc) }
rest_read [] (place.Middle high) units e = absurd cc
rest_read [] (place.Last high) units e = absurd cc
rest_read (byte ∷ bytes) place.First units e = first_byte byte bytes units _ _ _ refl refl refl (rest_read bytes) e
rest_read (byte ∷ bytes) (place.Middle high) units e = middle_byte high byte bytes units (goes_on byte) refl (λ h. rest_read bytes (place.Last h) units) e
rest_read (byte ∷ bytes) (place.Last high) units e = last_byte high byte bytes units (goes_on byte) refl (rest_read bytes place.First) e

pub reads_loose : ReadsLoose
reads_loose = record { all = λ bytes units text. groups_read text.groups bytes units text.are; only = λ bytes units e. rest_read bytes place.First units e }

-- ---- texts with no byte below 20

in_row_is : (byte : ℕ) → 0x20 ≤ byte → in_row byte ≡ true
in_row_is byte high = grind (arith, nat_tests, high)

same_step : (f g : Place → Option (List ℕ)) (t : Taken) → ((at : Place) → f at ≡ g at) → loose_step f t ≡ loose_step g t
same_step f g (taken.Unit unit) same = ap (λ o. option_map (λ us. unit ∷ us) o) (same place.First)
same_step f g (taken.Part next) same = same next
same_step f g taken.Refused same = refl

row_is_loose : (bytes : List ℕ) (at : Place) → AreInRow bytes → row_from bytes at ≡ loose_from bytes at
row_is_loose [] at are = refl
row_is_loose (byte ∷ bytes) at are =
    ap (λ b. if b then loose_step (row_from bytes) (take_byte at byte) else None) (in_row_is byte are.0)
    ∙ same_step (row_from bytes) (loose_from bytes) (take_byte at byte) (λ here. row_is_loose bytes here are.1)

record RowRest (bytes : List ℕ) : Type 0 where
  pub at : Place
  pub units : List ℕ
  pub is : row_from bytes at ≡ Some units

rest_of : (bytes units : List ℕ) (t : Taken) → loose_step (row_from bytes) t ≡ Some units → RowRest bytes
rest_of bytes units (taken.Unit unit) e = let s = split_unit unit (row_from bytes place.First) units e in record { at = place.First; units = s.later; is = s.is }
rest_of bytes units (taken.Part next) e = record { at = next; units = units; is = e }
rest_of bytes units taken.Refused e = absurd cc

first_in_row : (at : Place) (byte : ℕ) (bytes units : List ℕ) (is : Bool) → in_row byte ≡ is → (if is then loose_step (row_from bytes) (take_byte at byte) else None) ≡ Some units → (0x20 ≤ byte) × RowRest bytes
first_in_row at byte bytes units false i e = absurd cc
first_in_row at byte bytes units true i e = (grind (arith, nat_tests, i), rest_of bytes units (take_byte at byte) e)

are_in_row : (bytes : List ℕ) → RowRest bytes → AreInRow bytes
are_in_row [] r = tt
are_in_row (byte ∷ bytes) r = let f = first_in_row r.at byte bytes r.units (in_row byte) refl r.is in (f.0, are_in_row bytes f.1)

row_all : (bytes units : List ℕ) → IsLooseText bytes units → AreInRow bytes → row_units bytes ≡ Some units
unfolding row_units
row_all bytes units text are = row_is_loose bytes place.First are ∙ groups_read text.groups bytes units text.are

row_only : (bytes units : List ℕ) → row_units bytes ≡ Some units → IsLooseText bytes units × AreInRow bytes
unfolding row_units
row_only bytes units e =
    let are = are_in_row bytes (record { at = place.First; units = units; is = e }) in
    (rest_read bytes place.First units (sym (row_is_loose bytes place.First are) ∙ e), are)

pub reads_rows : ReadsRows
reads_rows = record { all = row_all; only = row_only }
