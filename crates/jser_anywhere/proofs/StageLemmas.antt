-- The names that a place meets are those that stand there.
use Rattle.std.proofs.Common.{◌≡◌, ℕ, zero, suc, ◌+◌, ◌-◌, ◌*◌, ◌≤◌, ◌∙◌, ap, sym, subst, Bool, true, false, ◌&&◌, ◌||◌, ◌==◌, ◌⊎◌, inl, inr, if◌then◌else◌, Option, Some, None, List, [], ◌∷◌, ◌++◌, length, drop, take, reverse, refl, arith, append_assoc, length-append}
use Rattle.std.specs.Prelude.{nat_le}
use Rattle.std.specs.Option.{is_some}
use Rattle.std.proofs.lemmas.Bool.Decides.{nat_tests}
use Rattle.std.proofs.lemmas.List.{append-nil, length-take-le, take-append-drop}
use Rattle.std.proofs.Math.Seq.{drop-append_seam}
use Rattle.std.proofs.lemmas.Grind.{reverse_onto}
use Rattle.std.proofs.Common.{eqb-true}
use Rattle.jser_anywhere.specs.Names.{core, core_in, is_part, name_units}
use Rattle.jser_anywhere.specs.Texts.{take_byte, is_first, in_row, loose_step, row_from, row_units}
use Rattle.jser_anywhere.specs.Search.{behind}
use Rattle.jser_anywhere.specs.LoadableNames.{AreParts, IsSegment, AreSegments, dotted, Wrap, brackets, class, bracket, IsWrapped, NamesAreInRows}
use Rattle.jser_anywhere.specs.LooseText.{Group, one, two, three, IsGroup, group_bytes, group_unit, AreGroups, AreInRow}
use Rattle.jser_anywhere.specs.Standing.{most_bytes, BeginsText, BeginsName, BeginsRow, Begins}
use Rattle.jser_anywhere.specs.Stages.{Whose, descriptor, row, Reading, naming, passing, Stage, nothing, head, text, between, halfway, no_units, is_length, in_name, in_text, begin, text_of, row_of, read, name_taken, other_taken, text_read, with_byte, class_of, is_whole, ended_with, after_text, onward, next, ended}
use Rattle.jser_anywhere.specs.declared.text.Place.{Place}
use Rattle.jser_anywhere.specs.declared.text.Place.TheVariants as place
use Rattle.jser_anywhere.specs.declared.text.Taken.{Taken}
use Rattle.jser_anywhere.specs.declared.text.Taken.TheVariants as taken
use Rattle.jser_anywhere.proofs.LoadableLemmas.{core_only}

-- ---- no unit of a loadable name is below 24

abbrev pub UnitsIn : List ℕ → Type 0
UnitsIn [] = Unit {0}
UnitsIn (unit ∷ units) = (in_name unit ≡ true) × UnitsIn units

part_in : (unit : ℕ) → is_part unit ≡ true → in_name unit ≡ true
part_in unit e = grind (arith, nat_tests, e)

parts_in : (units : List ℕ) → AreParts units → UnitsIn units
parts_in [] h = tt
parts_in (unit ∷ units) h = (part_in unit h.0, parts_in units h.1)

segment_in : (units : List ℕ) → IsSegment units → UnitsIn units
segment_in [] h = absurd h
segment_in (unit ∷ units) h = (part_in unit h.0, parts_in units h.1)

append_in : (xs ys : List ℕ) → UnitsIn xs → UnitsIn ys → UnitsIn (xs ++ ys)
append_in [] ys a b = b
append_in (x ∷ xs) ys a b = (a.0, append_in xs ys a.1 b)

dotted_in : (first : List ℕ) (others : List (List ℕ)) → IsSegment first → AreSegments others → UnitsIn (dotted first others)
dotted_in first [] h k = segment_in first h
dotted_in first (next ∷ others) h k = append_in first (0x2E ∷ dotted next others) (segment_in first h) (refl, dotted_in next others k.0 k.1)

wrapped_in : (wraps : List Wrap) (plain units : List ℕ) → UnitsIn plain → IsWrapped wraps plain units → UnitsIn units
wrapped_in [] plain units p w = subst (λ (xs : List ℕ). UnitsIn xs) (sym w) p
wrapped_in (brackets ∷ wraps) plain units p w =
    subst (λ (xs : List ℕ). UnitsIn xs) (sym w.units_are) (append_in w.inner (0x5B ∷ 0x5D ∷ []) (wrapped_in wraps plain w.inner p w.inner_is) (refl, (refl, tt)))
wrapped_in (class ∷ wraps) plain units p w =
    subst (λ (xs : List ℕ). UnitsIn xs) (sym w.units_are) (refl, (refl, append_in w.inner (0x3B ∷ []) (wrapped_in wraps plain w.inner p w.inner_is) (refl, tt)))
wrapped_in (bracket ∷ wraps) plain units p w =
    subst (λ (xs : List ℕ). UnitsIn xs) (sym w.units_are) (refl, wrapped_in wraps plain w.inner p w.inner_is.1)

core_in_name : (units plain : List ℕ) → core units ≡ Some plain → UnitsIn units
core_in_name units plain e =
    let h = core_only units plain e in
    wrapped_in h.wraps plain units (subst (λ (xs : List ℕ). UnitsIn xs) (sym h.plain.units_are) (dotted_in h.plain.first h.plain.others h.plain.segment h.plain.segments)) h.wrapped

-- so a row goes on behind its text
group_in : (g : Group) (rest : List ℕ) → IsGroup g → in_name (group_unit g) ≡ true → AreInRow rest → AreInRow (group_bytes g ++ rest)
group_in (one a) rest is i r = (grind (arith, nat_tests, i), r)
group_in (two a b) rest is i r = (omega arith, (omega arith, r))
group_in (three a b c) rest is i r = (omega arith, (omega arith, (omega arith, r)))

groups_in : (gs : List Group) (bytes units : List ℕ) → AreGroups gs bytes units → UnitsIn units → AreInRow bytes
groups_in [] bytes units are u = subst (λ (xs : List ℕ). AreInRow xs) (sym are.0) tt
groups_in (g ∷ gs) bytes units are u =
    let here = subst (λ (xs : List ℕ). UnitsIn xs) are.units_are u in
    subst (λ (xs : List ℕ). AreInRow xs) (sym are.bytes_are) (group_in g are.rest are.is_group here.0 (groups_in gs are.rest are.later are.goes_on here.1))

pub names_are_in_rows : NamesAreInRows
names_are_in_rows bytes units plain loose h =
    groups_in loose.groups bytes units loose.are
    (wrapped_in h.wraps plain units (subst (λ (xs : List ℕ). UnitsIn xs) (sym h.plain.units_are) (dotted_in h.plain.first h.plain.others h.plain.segment h.plain.segments)) h.wrapped)

behind_in : (xs ys : List ℕ) → UnitsIn (xs ++ ys) → UnitsIn ys
behind_in [] ys u = u
behind_in (x ∷ xs) ys u = behind_in xs ys u.1

-- ---- what the rest of a text makes of what was read

abbrev pub place_of : Reading → Place
place_of (naming units here) = here
place_of (passing here) = here

-- the class that is named, and whether the text is loose
abbrev pub named : Reading → List ℕ → Option (List ℕ)
named (naming units here) bytes = core_in (behind units (row_from bytes here))
named (passing here) bytes = None

abbrev pub whole : Reading → List ℕ → Bool
whole (naming units here) bytes = is_some (row_from bytes here)
whole (passing here) bytes = is_some (row_from bytes here)

abbrev named_read : Option Reading → List ℕ → Option (List ℕ)
named_read None bytes = None
named_read (Some reading) bytes = named reading bytes

abbrev whole_read : Option Reading → List ℕ → Bool
whole_read None bytes = false
whole_read (Some reading) bytes = whole reading bytes

-- at the end
named_end : (reading : Reading) → named reading [] ≡ class_of reading
named_end (naming units place.First) = ap core (append-nil units)
named_end (naming units (place.Middle high)) = refl
named_end (naming units (place.Last high)) = refl
named_end (passing here) = refl

whole_end : (reading : Reading) → whole reading [] ≡ is_whole reading
whole_end (naming units place.First) = refl
whole_end (naming units (place.Middle high)) = refl
whole_end (naming units (place.Last high)) = refl
whole_end (passing place.First) = refl
whole_end (passing (place.Middle high)) = refl
whole_end (passing (place.Last high)) = refl

step_named : (units : List ℕ) (bytes : List ℕ) (t : Taken) → core_in (behind units (loose_step (row_from bytes) t)) ≡ named_read (name_taken units t) bytes
step_named units bytes (taken.Unit unit) = step_unit units unit (row_from bytes place.First)
  where
    step_unit : (units : List ℕ) (unit : ℕ) (o : Option (List ℕ)) → core_in (behind units (loose_step (λ _. o) (taken.Unit unit))) ≡ core_in (behind (units ++ unit ∷ []) o)
    step_unit units unit None = refl
    step_unit units unit (Some later) = ap core (sym (append_assoc units (unit ∷ []) later))
step_named units bytes (taken.Part here) = refl
step_named units bytes taken.Refused = refl

step_whole : (bytes : List ℕ) (t : Taken) → is_some (loose_step (row_from bytes) t) ≡ whole_read (other_taken t) bytes
step_whole bytes (taken.Unit unit) = step_unit (row_from bytes place.First)
  where
    step_unit : (o : Option (List ℕ)) → is_some (loose_step (λ _. o) (taken.Unit unit)) ≡ is_some o
    step_unit None = refl
    step_unit (Some later) = refl
step_whole bytes (taken.Part here) = refl
step_whole bytes taken.Refused = refl

step_name_whole : (units bytes : List ℕ) (t : Taken) → is_some (loose_step (row_from bytes) t) ≡ whole_read (name_taken units t) bytes
step_name_whole units bytes (taken.Unit unit) = step_unit (row_from bytes place.First)
  where
    step_unit : (o : Option (List ℕ)) → is_some (loose_step (λ _. o) (taken.Unit unit)) ≡ is_some o
    step_unit None = refl
    step_unit (Some later) = refl
step_name_whole units bytes (taken.Part here) = refl
step_name_whole units bytes taken.Refused = refl

none_other : (bytes : List ℕ) (t : Taken) → None ≡ named_read (other_taken t) bytes
none_other bytes (taken.Unit unit) = refl
none_other bytes (taken.Part here) = refl
none_other bytes taken.Refused = refl

-- a byte below 24 is in no name
true_false : (b : Bool) → b ≡ true → b ≡ false → ⊥
true_false b t f = let e : true ≡ false = sym t ∙ f in absurd cc

small_first : (byte : ℕ) → in_name byte ≡ false → take_byte place.First byte ≡ taken.Unit byte
small_first byte e = grind (arith, nat_tests)

small_middle : (high byte : ℕ) → in_name byte ≡ false → take_byte (place.Middle high) byte ≡ taken.Refused
small_middle high byte e = grind (arith, nat_tests)

small_last : (high byte : ℕ) → in_name byte ≡ false → take_byte (place.Last high) byte ≡ taken.Refused
small_last high byte e = grind (arith, nat_tests)

no_core_by : (units : List ℕ) (byte : ℕ) (later : List ℕ) (o : Option (List ℕ)) → in_name byte ≡ false → core (units ++ byte ∷ later) ≡ o → o ≡ None
no_core_by units byte later None e c = refl
no_core_by units byte later (Some plain) e c = absurd (true_false (in_name byte) (behind_in units (byte ∷ later) (core_in_name (units ++ byte ∷ later) plain c)).0 e)

no_core : (units : List ℕ) (byte : ℕ) (o : Option (List ℕ)) → in_name byte ≡ false → core_in (behind units (loose_step (λ _. o) (taken.Unit byte))) ≡ None
no_core units byte None e = refl
no_core units byte (Some later) e = no_core_by units byte later (core (units ++ byte ∷ later)) e refl

small_taken : (units : List ℕ) (here : Place) (byte : ℕ) (bytes : List ℕ) → in_name byte ≡ false → core_in (behind units (loose_step (row_from bytes) (take_byte here byte))) ≡ None
small_taken units place.First byte bytes e =
    ap (λ t. core_in (behind units (loose_step (row_from bytes) t))) (small_first byte e) ∙ no_core units byte (row_from bytes place.First) e
small_taken units (place.Middle high) byte bytes e = ap (λ t. core_in (behind units (loose_step (row_from bytes) t))) (small_middle high byte e)
small_taken units (place.Last high) byte bytes e = ap (λ t. core_in (behind units (loose_step (row_from bytes) t))) (small_last high byte e)

small_name : (units : List ℕ) (here : Place) (byte : ℕ) (bytes : List ℕ) (is : Bool) → in_row byte ≡ is → in_name byte ≡ false → named (naming units here) (byte ∷ bytes) ≡ None
small_name units here byte bytes true i e =
    ap (λ b. core_in (behind units (if b then loose_step (row_from bytes) (take_byte here byte) else None))) i ∙ small_taken units here byte bytes e
small_name units here byte bytes false i e = ap (λ b. core_in (behind units (if b then loose_step (row_from bytes) (take_byte here byte) else None))) i

in_both : (byte : ℕ) → in_name byte ≡ true → in_row byte ≡ true
in_both byte e = grind (arith, nat_tests, e)

name_more : (units : List ℕ) (here : Place) (byte : ℕ) (bytes : List ℕ) (is : Bool) → in_name byte ≡ is
    → named (naming units here) (byte ∷ bytes) ≡ named_read (if is then name_taken units (take_byte here byte) else other_taken (take_byte here byte)) bytes
name_more units here byte bytes true i =
    ap (λ b. core_in (behind units (if b then loose_step (row_from bytes) (take_byte here byte) else None))) (in_both byte i) ∙ step_named units bytes (take_byte here byte)
name_more units here byte bytes false i = small_name units here byte bytes (in_row byte) refl i ∙ none_other bytes (take_byte here byte)

named_more : (reading : Reading) (byte : ℕ) (bytes : List ℕ) → named reading (byte ∷ bytes) ≡ named_read (read reading byte) bytes
named_more (naming units here) byte bytes = name_more units here byte bytes (in_name byte) refl
named_more (passing here) byte bytes = none_other bytes (take_byte here byte)

whole_name_by : (units : List ℕ) (here : Place) (byte : ℕ) (bytes : List ℕ) (is : Bool) → in_row byte ≡ true → in_name byte ≡ is
    → whole (naming units here) (byte ∷ bytes) ≡ whole_read (if is then name_taken units (take_byte here byte) else other_taken (take_byte here byte)) bytes
whole_name_by units here byte bytes true r i =
    ap (λ b. is_some (if b then loose_step (row_from bytes) (take_byte here byte) else None)) r ∙ step_name_whole units bytes (take_byte here byte)
whole_name_by units here byte bytes false r i =
    ap (λ b. is_some (if b then loose_step (row_from bytes) (take_byte here byte) else None)) r ∙ step_whole bytes (take_byte here byte)

whole_more : (reading : Reading) (byte : ℕ) (bytes : List ℕ) → in_row byte ≡ true → whole reading (byte ∷ bytes) ≡ whole_read (read reading byte) bytes
whole_more (naming units here) byte bytes r = whole_name_by units here byte bytes (in_name byte) r refl
whole_more (passing here) byte bytes r =
    ap (λ b. is_some (if b then loose_step (row_from bytes) (take_byte here byte) else None)) r ∙ step_whole bytes (take_byte here byte)

not_whole : (reading : Reading) (byte : ℕ) (bytes : List ℕ) → in_row byte ≡ false → whole reading (byte ∷ bytes) ≡ false
not_whole (naming units here) byte bytes r = ap (λ b. is_some (if b then loose_step (row_from bytes) (take_byte here byte) else None)) r
not_whole (passing here) byte bytes r = ap (λ b. is_some (if b then loose_step (row_from bytes) (take_byte here byte) else None)) r

-- where a byte is none of a text of this kind, no name goes on
not_named_name : (units : List ℕ) (here : Place) (byte : ℕ) (bytes : List ℕ) (whose : Whose) → in_text whose byte ≡ false → named (naming units here) (byte ∷ bytes) ≡ None
not_named_name units here byte bytes descriptor e = small_name units here byte bytes (in_row byte) refl e
not_named_name units here byte bytes (row more) e = ap (λ b. core_in (behind units (if b then loose_step (row_from bytes) (take_byte here byte) else None))) e

not_named : (whose : Whose) (reading : Reading) (byte : ℕ) (bytes : List ℕ) → in_text whose byte ≡ false → named reading (byte ∷ bytes) ≡ None
not_named whose (naming units here) byte bytes e = not_named_name units here byte bytes whose e
not_named whose (passing here) byte bytes e = refl

-- ---- what a stage leads to

pub reversed : (byte : ℕ) (seen : List ℕ) → reverse (byte ∷ seen) ≡ reverse seen ++ (byte ∷ [])
reversed byte seen = reverse_onto seen byte []

-- the class of the name that ends with the last of these bytes
abbrev pub ended_by : Stage → List ℕ → Option (List ℕ)
ended_by stage [] = None
ended_by stage (byte ∷ []) = ended stage byte
ended_by stage (byte ∷ more ∷ bytes) = ended_by (next stage byte) (more ∷ bytes)

abbrev pub run : Stage → List ℕ → Stage
run stage [] = stage
run stage (byte ∷ bytes) = run (next stage byte) bytes

pub ended_append : (stage : Stage) (xs : List ℕ) (y : ℕ) (ys : List ℕ) → ended_by stage (xs ++ y ∷ ys) ≡ ended_by (run stage xs) (y ∷ ys)
ended_append stage [] y ys = refl
ended_append stage (x ∷ []) y ys = refl
ended_append stage (x ∷ z ∷ zs) y ys = ended_append (next stage x) (z ∷ zs) y ys

pub never_ends : (bytes : List ℕ) → ended_by nothing bytes ≡ None
never_ends [] = refl
never_ends (byte ∷ []) = refl
never_ends (byte ∷ more ∷ bytes) = never_ends (more ∷ bytes)

run_nothing : (bytes : List ℕ) → run nothing bytes ≡ nothing
run_nothing [] = refl
run_nothing (byte ∷ bytes) = run_nothing bytes

-- ---- a text that is read whole

-- its last byte
last_by : (whose : Whose) (reading : Reading) (byte : ℕ) (is : Bool) (o : Option Reading) → in_text whose byte ≡ is → read reading byte ≡ o
    → ended_with (if is then text_read whose zero o else nothing) ≡ named reading (byte ∷ [])
last_by whose reading byte false o i r = sym (not_named whose reading byte [] i)
last_by whose reading byte true None i r = sym (named_more reading byte [] ∙ ap (λ x. named_read x []) r)
last_by whose reading byte true (Some later) i r = sym (named_more reading byte [] ∙ ap (λ x. named_read x []) r ∙ named_end later)

-- a byte before it
step_by : (whose : Whose) (left : ℕ) (reading : Reading) (byte more : ℕ) (bytes : List ℕ) (is : Bool) (o : Option Reading) → in_text whose byte ≡ is → read reading byte ≡ o
    → ((later : Reading) → ended_by (text whose left later) (more ∷ bytes) ≡ named later (more ∷ bytes))
    → ended_by (onward (if is then text_read whose (suc left) o else nothing) byte) (more ∷ bytes) ≡ named reading (byte ∷ more ∷ bytes)
step_by whose left reading byte more bytes false o i r later = never_ends (more ∷ bytes) ∙ sym (not_named whose reading byte (more ∷ bytes) i)
step_by whose left reading byte more bytes true None i r later =
    never_ends (more ∷ bytes) ∙ sym (named_more reading byte (more ∷ bytes) ∙ ap (λ x. named_read x (more ∷ bytes)) r)
step_by whose left reading byte more bytes true (Some onward) i r later =
    later onward ∙ sym (named_more reading byte (more ∷ bytes) ∙ ap (λ x. named_read x (more ∷ bytes)) r)

text_ends : (whose : Whose) (left : ℕ) (reading : Reading) (bytes : List ℕ) → length bytes ≡ suc left → ended_by (text whose left reading) bytes ≡ named reading bytes
text_ends whose left reading [] counted = absurd (omega (arith, counted))
text_ends whose zero reading (byte ∷ []) counted = last_by whose reading byte (in_text whose byte) (read reading byte) refl refl
text_ends whose (suc left) reading (byte ∷ []) counted = absurd (omega (arith, counted))
text_ends whose zero reading (byte ∷ more ∷ bytes) counted = absurd (omega (arith, counted))
text_ends whose (suc left) reading (byte ∷ more ∷ bytes) counted =
    step_by whose left reading byte more bytes (in_text whose byte) (read reading byte) refl refl (λ later. text_ends whose left later (more ∷ bytes) (omega (arith, counted)))

-- what follows a text of a row
over_by : (more : ℕ) (reading : Reading) (byte : ℕ) (is : Bool) (o : Option Reading) → in_row byte ≡ is → read reading byte ≡ o
    → onward (if is then text_read (row more) zero o else nothing) byte ≡ after_text (row more) (whole reading (byte ∷ []))
over_by more reading byte false o i r = not_over more ∙ ap (after_text (row more)) (sym (not_whole reading byte [] i))
  where
    not_over : (more : ℕ) → nothing ≡ after_text (row more) false
    not_over zero = refl
    not_over (suc more) = refl
over_by more reading byte true None i r = not_over more ∙ ap (after_text (row more)) (sym (whole_more reading byte [] i ∙ ap (λ x. whole_read x []) r))
  where
    not_over : (more : ℕ) → nothing ≡ after_text (row more) false
    not_over zero = refl
    not_over (suc more) = refl
over_by more reading byte true (Some later) i r = ap (after_text (row more)) (sym (whole_more reading byte [] i ∙ ap (λ x. whole_read x []) r ∙ whole_end later))

goes_by : (more left : ℕ) (reading : Reading) (byte next_byte : ℕ) (bytes : List ℕ) (is : Bool) (o : Option Reading) → in_row byte ≡ is → read reading byte ≡ o
    → ((later : Reading) → run (text (row more) left later) (next_byte ∷ bytes) ≡ after_text (row more) (whole later (next_byte ∷ bytes)))
    → run (onward (if is then text_read (row more) (suc left) o else nothing) byte) (next_byte ∷ bytes) ≡ after_text (row more) (whole reading (byte ∷ next_byte ∷ bytes))
goes_by more left reading byte next_byte bytes false o i r later = run_nothing (next_byte ∷ bytes) ∙ not_over more ∙ ap (after_text (row more)) (sym (not_whole reading byte (next_byte ∷ bytes) i))
  where
    not_over : (more : ℕ) → nothing ≡ after_text (row more) false
    not_over zero = refl
    not_over (suc more) = refl
goes_by more left reading byte next_byte bytes true None i r later =
    run_nothing (next_byte ∷ bytes) ∙ not_over more ∙ ap (after_text (row more)) (sym (whole_more reading byte (next_byte ∷ bytes) i ∙ ap (λ x. whole_read x (next_byte ∷ bytes)) r))
  where
    not_over : (more : ℕ) → nothing ≡ after_text (row more) false
    not_over zero = refl
    not_over (suc more) = refl
goes_by more left reading byte next_byte bytes true (Some onward) i r later =
    later onward ∙ ap (after_text (row more)) (sym (whole_more reading byte (next_byte ∷ bytes) i ∙ ap (λ x. whole_read x (next_byte ∷ bytes)) r))

text_runs : (more left : ℕ) (reading : Reading) (bytes : List ℕ) → length bytes ≡ suc left → run (text (row more) left reading) bytes ≡ after_text (row more) (whole reading bytes)
text_runs more left reading [] counted = absurd (omega (arith, counted))
text_runs more zero reading (byte ∷ []) counted = over_by more reading byte (in_row byte) (read reading byte) refl refl
text_runs more (suc left) reading (byte ∷ []) counted = absurd (omega (arith, counted))
text_runs more zero reading (byte ∷ next_byte ∷ bytes) counted = absurd (omega (arith, counted))
text_runs more (suc left) reading (byte ∷ next_byte ∷ bytes) counted =
    goes_by more left reading byte next_byte bytes (in_row byte) (read reading byte) refl refl (λ later. text_runs more left later (next_byte ∷ bytes) (omega (arith, counted)))

-- from its first byte on
named_behind : (o : Option (List ℕ)) → core_in (behind [] o) ≡ core_in o
named_behind None = refl
named_behind (Some units) = refl

pub named_first : (bytes : List ℕ) → named no_units bytes ≡ name_units bytes
unfolding name_units row_units
named_first bytes = named_behind (row_from bytes place.First)

pub whole_first : (bytes : List ℕ) → whole no_units bytes ≡ is_some (row_units bytes)
unfolding row_units
whole_first bytes = refl

-- the bytes of a length, and the text that follows

pub record IsLength (high low : ℕ) : Type 0 where
  pub some : 1 ≤ high * 256 + low
  pub most : high * 256 + low ≤ most_bytes

pub length_is : (high low : ℕ) → IsLength high low → is_length high low ≡ true
length_is high low is = grind (arith, nat_tests, is.some, is.most)

pub is_length_of : (high low : ℕ) → is_length high low ≡ true → IsLength high low
is_length_of high low e = record { some = grind (arith, nat_tests); most = grind (arith, nat_tests) }

pub high_out : (high low : ℕ) → IsLength high low → in_name high ≡ false
high_out high low is = grind (arith, nat_tests, is.most)

text_of_length : (whose : Whose) (high low : ℕ) → IsLength high low → text_of whose high low ≡ text whose (high * 256 + low - 1) no_units
text_of_length whose high low is = ap (λ b. if b then text whose (high * 256 + low - 1) no_units else nothing) (length_is high low is)

between_high : (more high : ℕ) → in_name high ≡ false → next (between more) high ≡ halfway more high
between_high more high e = ap (λ b. if b then nothing else halfway more high) e

-- the length of a further text of a row, and its text
between_runs : (more high low : ℕ) → IsLength high low → run (between more) (high ∷ low ∷ []) ≡ text (row more) (high * 256 + low - 1) no_units
between_runs more high low is = ap (λ s. next s low) (between_high more high (high_out high low is)) ∙ text_of_length (row more) high low is

-- what is known of a text at the head of some bytes
name_length : (reader : List ℕ → Option (List ℕ)) (bytes : List ℕ) (end : ℕ) (units : List ℕ) → (name : BeginsText reader bytes end units) → IsLength name.high name.low
name_length reader bytes end units name = record { some = omega (arith, name.counted, name.least); most = omega (arith, name.counted, name.most) }

-- after stages that read its length, the name ends with its text
name_ends : (whose : Whose) (high low : ℕ) (bytes : List ℕ) → IsLength high low → length bytes ≡ high * 256 + low
    → ended_by (text whose (high * 256 + low - 1) no_units) bytes ≡ name_units bytes
name_ends whose high low bytes is counted = text_ends whose (high * 256 + low - 1) no_units bytes (omega (arith, counted, is.some)) ∙ named_first bytes

text_over : (more high low : ℕ) (bytes : List ℕ) → IsLength high low → length bytes ≡ high * 256 + low
    → run (text (row more) (high * 256 + low - 1) no_units) bytes ≡ after_text (row more) (is_some (row_units bytes))
text_over more high low bytes is counted = text_runs more (high * 256 + low - 1) no_units bytes (omega (arith, counted, is.some)) ∙ ap (after_text (row more)) (whole_first bytes)

pub run_append : (stage : Stage) (xs ys : List ℕ) → run stage (xs ++ ys) ≡ run (run stage xs) ys
run_append stage [] ys = refl
run_append stage (x ∷ xs) ys = run_append (next stage x) xs ys

nothing_after : (xs ys : List ℕ) → length (xs ++ ys) ≤ length xs → ys ≡ []
nothing_after xs [] e = refl
nothing_after xs (y ∷ ys) e = absurd (omega (arith, e, length-append xs (y ∷ ys)))

-- of one name, by cases on its text
ends_between : (more high low : ℕ) (bytes units : List ℕ) → IsLength high low → length bytes ≡ high * 256 + low → name_units bytes ≡ Some units
    → ended_by (between more) (high ∷ low ∷ bytes) ≡ Some units
ends_between more high low [] units is counted named = absurd (omega (arith, counted, is.some))
ends_between more high low (byte ∷ bytes) units is counted named =
    ended_append (between more) (high ∷ low ∷ []) byte bytes ∙ ap (λ s. ended_by s (byte ∷ bytes)) (between_runs more high low is)
    ∙ name_ends (row more) high low (byte ∷ bytes) is counted ∙ named

none_in_empty : (most end : ℕ) (units : List ℕ) → BeginsRow most [] end units → ⊥
none_in_empty zero end units r = r
none_in_empty (suc most) end units (inl name) = let e = name.split in absurd cc
none_in_empty (suc most) end units (inr later) = let e = later.name.split in absurd cc

abbrev RowEnds : ℕ → Type 0
RowEnds zero = Unit {0}
RowEnds (suc more) = (bytes : List ℕ) (end : ℕ) (units : List ℕ) → BeginsRow (suc more) bytes end units → end ≡ length bytes → ended_by (between more) bytes ≡ Some units

later_ends : (more : ℕ) → RowEnds more → (high low : ℕ) (bytes after others units : List ℕ) (end : ℕ) → IsLength high low → length bytes ≡ high * 256 + low → row_units bytes ≡ Some others
    → BeginsRow more after end units → end ≡ length after → ended_by (between more) (high ∷ low ∷ (bytes ++ after)) ≡ Some units
later_ends zero ends high low bytes after others units end is counted named r e = absurd r
later_ends (suc more) ends high low bytes [] others units end is counted named r e = absurd (none_in_empty (suc more) end units r)
later_ends (suc more) ends high low bytes (byte ∷ after) others units end is counted named r e =
    ended_append (between (suc more)) (high ∷ low ∷ bytes) byte after
    ∙ ap (λ s. ended_by s (byte ∷ after)) (run_append (between (suc more)) (high ∷ low ∷ []) bytes ∙ ap (λ s. run s bytes) (between_runs (suc more) high low is)
    ∙ text_over (suc more) high low bytes is counted ∙ ap (λ o. after_text (row (suc more)) (is_some o)) named)
    ∙ ends (byte ∷ after) end units r e

pub row_ends : (more : ℕ) → RowEnds more
row_ends zero = tt
row_ends (suc more) = λ bytes end units r e. elim r [
  | inl name ↦
      let same : name.after ≡ [] = nothing_after name.text name.after (omega (arith, e, name.ends, ap length name.split)) in
      ap (λ (xs : List ℕ). ended_by (between more) xs) (name.split ∙ ap (λ (xs : List ℕ). name.high ∷ name.low ∷ (name.text ++ xs)) same ∙ ap (λ (xs : List ℕ). name.high ∷ name.low ∷ xs) (append-nil name.text))
      ∙ ends_between more name.high name.low name.text units (name_length name_units bytes end units name) name.counted name.named
  | inr later ↦
      let name = later.name in
      let front = name.high ∷ name.low ∷ name.text in
      let long : later.first ≡ length front = omega (arith, name.ends) in
      let rest : drop later.first bytes ≡ name.after = ap (λ (n : ℕ). drop n bytes) long ∙ ap (λ (xs : List ℕ). drop (length front) xs) name.split ∙ drop-append_seam front name.after in
      ap (λ (xs : List ℕ). ended_by (between more) xs) name.split
      ∙ later_ends more (row_ends more) name.high name.low name.text name.after later.others units later.more (name_length row_units bytes later.first later.others name) name.counted name.named
      (subst (λ (xs : List ℕ). BeginsRow more xs later.more units) rest later.later)
      (omega (arith, e, later.ends, name.ends, ap length name.split, length-append name.text name.after))
]

-- ---- the names that stand at a place are those that it meets

abbrev pub met : List ℕ → Option (List ℕ)
met [] = None
met (mark ∷ bytes) = ended_by (begin mark) bytes

descriptor_met : (high low : ℕ) (bytes units : List ℕ) → IsLength high low → length bytes ≡ high * 256 + low → name_units bytes ≡ Some units
    → met (0x72 ∷ high ∷ low ∷ bytes) ≡ Some units
descriptor_met high low [] units is counted named = absurd (omega (arith, counted, is.some))
descriptor_met high low (byte ∷ bytes) units is counted named =
    ap (λ s. ended_by s (byte ∷ bytes)) (text_of_length descriptor high low is) ∙ name_ends descriptor high low (byte ∷ bytes) is counted ∙ named

row_head : (count_high count_low more high low : ℕ) → count_high * 256 + count_low ≡ suc more → row_of count_high count_low high low ≡ text_of (row more) high low
row_head count_high count_low more high low e =
    let some : nat_le 1 (count_high * 256 + count_low) ≡ true = grind (arith, nat_tests) in
    let less : count_high * 256 + count_low - 1 ≡ more = omega (arith, e) in
    ap (λ b. if b then text_of (row (count_high * 256 + count_low - 1)) high low else nothing) some ∙ ap (λ (n : ℕ). text_of (row n) high low) less

-- after its count a row is as between two of its names
row_met : (count_high count_low more high low : ℕ) (bytes : List ℕ) → count_high * 256 + count_low ≡ suc more → IsLength high low → 1 ≤ length bytes
    → met (0x7D ∷ 0 ∷ 0 ∷ count_high ∷ count_low ∷ high ∷ low ∷ bytes) ≡ ended_by (between more) (high ∷ low ∷ bytes)
row_met count_high count_low more high low [] e is some = absurd (omega (arith, some))
row_met count_high count_low more high low (byte ∷ bytes) e is some =
    ap (λ s. ended_by s (byte ∷ bytes)) (row_head count_high count_low more high low e)
    ∙ ap (λ s. ended_by (next s low) (byte ∷ bytes)) (sym (between_high more high (high_out high low is)))

-- the first two bytes of a row are those of a length, and more follow
record RowBegins (bytes : List ℕ) : Type 0 where
  pub high : ℕ
  pub low : ℕ
  pub rest : List ℕ
  pub split : bytes ≡ high ∷ low ∷ rest
  pub is : IsLength high low
  pub some : 1 ≤ length rest

name_begins : (reader : List ℕ → Option (List ℕ)) (bytes : List ℕ) (end : ℕ) (units : List ℕ) → BeginsText reader bytes end units → RowBegins bytes
name_begins reader bytes end units name = record {
  high = name.high;
  low = name.low;
  rest = name.text ++ name.after;
  split = name.split;
  is = name_length reader bytes end units name;
  some = omega (arith, name.least, length-append name.text name.after);
}

row_begins : (most : ℕ) (bytes : List ℕ) (end : ℕ) (units : List ℕ) → BeginsRow most bytes end units → RowBegins bytes
row_begins zero bytes end units r = absurd r
row_begins (suc more) bytes end units (inl name) = name_begins name_units bytes end units name
row_begins (suc more) bytes end units (inr later) = name_begins row_units bytes later.first later.others later.name

interfaces_met : (most high low : ℕ) (rest : List ℕ) (end : ℕ) (units : List ℕ) → high * 256 + low ≡ most → BeginsRow most rest end units → end ≡ length rest
    → met (0x7D ∷ 0 ∷ 0 ∷ high ∷ low ∷ rest) ≡ Some units
interfaces_met zero high low rest end units e r f = absurd r
interfaces_met (suc more) high low rest end units e r f =
    let b = row_begins (suc more) rest end units r in
    ap (λ (xs : List ℕ). met (0x7D ∷ 0 ∷ 0 ∷ high ∷ low ∷ xs)) b.split ∙ row_met high low more b.high b.low b.rest e b.is b.some
    ∙ ap (λ (xs : List ℕ). ended_by (between more) xs) (sym b.split) ∙ row_ends (suc more) rest end units r f

pub standing_met : (bytes : List ℕ) (end : ℕ) (units : List ℕ) → Begins bytes end units → end ≡ length bytes → met bytes ≡ Some units
standing_met bytes end units (inl d) e =
    let name = d.name in
    let same : name.after ≡ [] = nothing_after name.text name.after (omega (arith, e, d.ends, name.ends, ap length d.split, ap length name.split)) in
    ap met (d.split ∙ ap (λ (xs : List ℕ). 0x72 ∷ xs) name.split ∙ ap (λ (xs : List ℕ). 0x72 ∷ name.high ∷ name.low ∷ (name.text ++ xs)) same ∙ ap (λ (xs : List ℕ). 0x72 ∷ name.high ∷ name.low ∷ xs) (append-nil name.text))
    ∙ descriptor_met name.high name.low name.text units (name_length name_units d.rest d.name_end units name) name.counted name.named
standing_met bytes end units (inr i) e =
    ap met i.split ∙ interfaces_met (i.high * 256 + i.low) i.high i.low i.rest i.row_end units refl i.row (omega (arith, e, i.ends, ap length i.split))

-- ---- and nothing else

never : (bytes units : List ℕ) → ended_by nothing bytes ≡ Some units → ⊥
never [] units e = absurd cc
never (byte ∷ []) units e = absurd cc
never (byte ∷ more ∷ bytes) units e = never (more ∷ bytes) units e

record Alive (is : Bool) (stage : Stage) (bytes units : List ℕ) : Type 0 where
  pub true_is : is ≡ true
  pub ends : ended_by stage bytes ≡ Some units

alive : (is : Bool) (stage : Stage) (bytes units : List ℕ) → ended_by (if is then stage else nothing) bytes ≡ Some units → Alive is stage bytes units
alive true stage bytes units e = record { true_is = refl; ends = e }
alive false stage bytes units e = absurd (never bytes units e)

not_in : (is : Bool) (stage : Stage) (bytes units : List ℕ) → ended_by (if is then nothing else stage) bytes ≡ Some units → ended_by stage bytes ≡ Some units
not_in true stage bytes units e = absurd (never bytes units e)
not_in false stage bytes units e = e

-- a text has taken a byte, or it has none
record TookByte (whose : Whose) (left : ℕ) (reading : Reading) (byte : ℕ) : Type 0 where
  pub later : Reading
  pub is : with_byte (text whose left reading) byte ≡ text whose left later

took_by : (whose : Whose) (left : ℕ) (reading : Reading) (byte : ℕ) (is : Bool) (o : Option Reading) → in_text whose byte ≡ is → read reading byte ≡ o
    → (with_byte (text whose left reading) byte ≡ nothing) ⊎ TookByte whose left reading byte
took_by whose left reading byte false o i r = inl (ap (λ b. if b then text_read whose left (read reading byte) else nothing) i)
took_by whose left reading byte true None i r = inl (ap (λ b. if b then text_read whose left (read reading byte) else nothing) i ∙ ap (text_read whose left) r)
took_by whose left reading byte true (Some later) i r =
    inr (record { later = later; is = ap (λ b. if b then text_read whose left (read reading byte) else nothing) i ∙ ap (text_read whose left) r })

took : (whose : Whose) (left : ℕ) (reading : Reading) (byte : ℕ) → (with_byte (text whose left reading) byte ≡ nothing) ⊎ TookByte whose left reading byte
took whose left reading byte = took_by whose left reading byte (in_text whose byte) (read reading byte) refl refl

none_some : {A : Type 0} → (o : Option A) (x : A) → o ≡ None → o ≡ Some x → ⊥
none_some o x e f = let g : None ≡ Some x = sym e ∙ f in absurd cc

-- before its last byte it ends no name
not_yet : (whose : Whose) (left : ℕ) (reading : Reading) (byte : ℕ) → ended (text whose (suc left) reading) byte ≡ None
not_yet whose left reading byte = elim (took whose (suc left) reading byte) [
  | inl none ↦ ap ended_with none
  | inr t ↦ ap ended_with t.is
]

goes_next : (whose : Whose) (left : ℕ) (reading : Reading) (byte more : ℕ) (bytes units : List ℕ) → ended_by (next (text whose (suc left) reading) byte) (more ∷ bytes) ≡ Some units
    → (later : Reading) × (ended_by (text whose left later) (more ∷ bytes) ≡ Some units)
goes_next whose left reading byte more bytes units e = elim (took whose (suc left) reading byte) [
  | inl none ↦ absurd (never (more ∷ bytes) units (ap (λ s. ended_by (onward s byte) (more ∷ bytes)) (sym none) ∙ e))
  | inr t ↦ (t.later, ap (λ s. ended_by (onward s byte) (more ∷ bytes)) (sym t.is) ∙ e)
]

-- a descriptor's name
over_next : (reading : Reading) (byte : ℕ) → next (text descriptor zero reading) byte ≡ nothing
over_next reading byte = elim (took descriptor zero reading byte) [
  | inl none ↦ ap (λ s. onward s byte) none
  | inr t ↦ ap (λ s. onward s byte) t.is
]

descriptor_counted : (left : ℕ) (reading : Reading) (bytes units : List ℕ) → ended_by (text descriptor left reading) bytes ≡ Some units → length bytes ≡ suc left
descriptor_counted left reading [] units e = absurd cc
descriptor_counted zero reading (byte ∷ []) units e = refl
descriptor_counted (suc left) reading (byte ∷ []) units e = absurd (none_some (ended (text descriptor (suc left) reading) byte) units (not_yet descriptor left reading byte) e)
descriptor_counted zero reading (byte ∷ more ∷ bytes) units e = absurd (never (more ∷ bytes) units (ap (λ s. ended_by s (more ∷ bytes)) (sym (over_next reading byte)) ∙ e))
descriptor_counted (suc left) reading (byte ∷ more ∷ bytes) units e =
    let g = goes_next descriptor left reading byte more bytes units e in
    omega (arith, descriptor_counted left g.0 (more ∷ bytes) units g.1)

one_text : (whose : Whose) (high low : ℕ) (bytes units : List ℕ) → IsLength high low → length bytes ≡ high * 256 + low
    → ended_by (text whose (high * 256 + low - 1) no_units) bytes ≡ Some units → BeginsName (high ∷ low ∷ bytes) (2 + length bytes) units
one_text whose high low bytes units is counted e = record {
  high = high;
  low = low;
  text = bytes;
  after = [];
  split = ap (λ (xs : List ℕ). high ∷ low ∷ xs) (sym (append-nil bytes));
  counted = counted;
  least = omega (arith, counted, is.some);
  most = omega (arith, counted, is.most);
  named = sym (name_ends whose high low bytes is counted) ∙ e;
  ends = refl;
}

descriptor_stands : (high low : ℕ) (bytes units : List ℕ) → ended_by (text_of descriptor high low) bytes ≡ Some units → BeginsName (high ∷ low ∷ bytes) (2 + length bytes) units
descriptor_stands high low bytes units e =
    let a = alive (is_length high low) (text descriptor (high * 256 + low - 1) no_units) bytes units e in
    let is = is_length_of high low a.true_is in
    one_text descriptor high low bytes units is (omega (arith, is.some, descriptor_counted (high * 256 + low - 1) no_units bytes units a.ends)) a.ends

-- a row's names: it has at least the bytes of its first text
row_counted : (more left : ℕ) (reading : Reading) (bytes units : List ℕ) → ended_by (text (row more) left reading) bytes ≡ Some units → suc left ≤ length bytes
row_counted more left reading [] units e = absurd cc
row_counted more zero reading (byte ∷ bytes) units e = omega arith
row_counted more (suc left) reading (byte ∷ []) units e = absurd (none_some (ended (text (row more) (suc left) reading) byte) units (not_yet (row more) left reading byte) e)
row_counted more (suc left) reading (byte ∷ next_byte ∷ bytes) units e =
    let g = goes_next (row more) left reading byte next_byte bytes units e in
    omega (arith, row_counted more left g.0 (next_byte ∷ bytes) units g.1)

second_ends : (less high low : ℕ) (units : List ℕ) (is : Bool) → ended (if is then nothing else halfway less high) low ≡ Some units → ⊥
second_ends less high low units true e = absurd cc
second_ends less high low units false e = absurd cc

abbrev RowStands : ℕ → Type 0
RowStands more = (high low : ℕ) (bytes units : List ℕ) → IsLength high low → ended_by (text (row more) (high * 256 + low - 1) no_units) bytes ≡ Some units
    → BeginsRow (suc more) (high ∷ low ∷ bytes) (2 + length bytes) units

-- behind a text, the next one
further : (less : ℕ) → RowStands less → (bytes units : List ℕ) → ended_by (between less) bytes ≡ Some units → BeginsRow (suc less) bytes (length bytes) units
further less stands [] units e = absurd cc
further less stands (h ∷ []) units e = absurd cc
further less stands (h ∷ l ∷ []) units e = absurd (second_ends less h l units (in_name h) e)
further less stands (h ∷ l ∷ b ∷ bytes) units e =
    let g = not_in (in_name h) (halfway less h) (l ∷ b ∷ bytes) units e in
    let a = alive (is_length h l) (text (row less) (h * 256 + l - 1) no_units) (b ∷ bytes) units g in
    subst (λ (n : ℕ). BeginsRow (suc less) (h ∷ l ∷ b ∷ bytes) n units) (omega arith) (stands h l (b ∷ bytes) units (is_length_of h l a.true_is) a.ends)

record HasText (o : Option (List ℕ)) : Type 0 where
  pub units : List ℕ
  pub is : o ≡ Some units

has_text : (o : Option (List ℕ)) → is_some o ≡ true → HasText o
has_text None e = absurd cc
has_text (Some units) e = record { units = units; is = refl }

-- of a text, and what stands behind it
behind_text : (more high low : ℕ) (front after units : List ℕ) (loose : Bool) → IsLength high low → length front ≡ high * 256 + low → is_some (row_units front) ≡ loose
    → ((less : ℕ) → more ≡ suc less → RowStands less) → ended_by (after_text (row more) loose) after ≡ Some units
    → BeginsRow (suc more) (high ∷ low ∷ (front ++ after)) (2 + length (front ++ after)) units
behind_text zero high low front after units loose is counted w stands e = absurd (never after units e)
behind_text (suc less) high low front after units false is counted w stands e = absurd (never after units e)
behind_text (suc less) high low front after units true is counted w stands e =
    let h = has_text (row_units front) w in
    let r = further less (stands less refl) after units e in
    inr (record {
      first = length (high ∷ low ∷ front);
      others = h.units;
      name = record {
        high = high;
        low = low;
        text = front;
        after = after;
        split = refl;
        counted = counted;
        least = omega (arith, counted, is.some);
        most = omega (arith, counted, is.most);
        named = h.is;
        ends = omega arith;
      };
      more = length after;
      later = subst (λ (xs : List ℕ). BeginsRow (suc less) xs (length after) units) (sym (drop-append_seam (high ∷ low ∷ front) after)) r;
      ends = omega (arith, length-append front after);
    })

abbrev text_stage : (more high low : ℕ) → Stage
text_stage more high low = text (row more) (high * 256 + low - 1) no_units

split_stands : (more high low : ℕ) (front after units : List ℕ) → IsLength high low → length front ≡ high * 256 + low
    → ((less : ℕ) → more ≡ suc less → RowStands less) → ended_by (text_stage more high low) (front ++ after) ≡ Some units
    → BeginsRow (suc more) (high ∷ low ∷ (front ++ after)) (2 + length (front ++ after)) units
split_stands more high low front [] units is counted stands e =
    let same : front ++ [] ≡ front = append-nil front in
    inl (subst (λ (xs : List ℕ). BeginsName (high ∷ low ∷ xs) (2 + length xs) units) (sym same)
    (one_text (row more) high low front units is counted (ap (λ (xs : List ℕ). ended_by (text_stage more high low) xs) (sym same) ∙ e)))
split_stands more high low front (byte ∷ after) units is counted stands e =
    behind_text more high low front (byte ∷ after) units (is_some (row_units front)) is counted refl stands
    (ap (λ s. ended_by s (byte ∷ after)) (sym (text_over more high low front is counted)) ∙ sym (ended_append (text_stage more high low) front byte after) ∙ e)

row_by : (more : ℕ) → ((less : ℕ) → more ≡ suc less → RowStands less) → RowStands more
row_by more stands = λ high low bytes units is e.
    let long = row_counted more (high * 256 + low - 1) no_units bytes units e in
    let size : high * 256 + low ≤ length bytes = omega (arith, long) in
    let same = take-append-drop (high * 256 + low) bytes in
    subst (λ (xs : List ℕ). BeginsRow (suc more) (high ∷ low ∷ xs) (2 + length xs) units) same
    (split_stands more high low (take (high * 256 + low) bytes) (drop (high * 256 + low) bytes) units is (length-take-le (high * 256 + low) bytes size) stands
    (ap (λ (xs : List ℕ). ended_by (text_stage more high low) xs) same ∙ e))

same_less : (more less : ℕ) → suc more ≡ suc less → more ≡ less
same_less more less e = omega (arith, e)

row_stands : (more : ℕ) → RowStands more
row_stands zero = row_by zero (λ less e. absurd (omega (arith, e)))
row_stands (suc more) = row_by (suc more) (λ less e. subst (λ (n : ℕ). RowStands n) (same_less more less e) (row_stands more))

-- a row, after its count
row_of_stands : (count_high count_low high low : ℕ) (bytes units : List ℕ) → ended_by (row_of count_high count_low high low) bytes ≡ Some units
    → BeginsRow (count_high * 256 + count_low) (high ∷ low ∷ bytes) (length (high ∷ low ∷ bytes)) units
row_of_stands count_high count_low high low bytes units e =
    let a = alive (nat_le 1 (count_high * 256 + count_low)) (text_of (row (count_high * 256 + count_low - 1)) high low) bytes units e in
    let b = alive (is_length high low) (text (row (count_high * 256 + count_low - 1)) (high * 256 + low - 1) no_units) bytes units a.ends in
    let counted : suc (count_high * 256 + count_low - 1) ≡ count_high * 256 + count_low = grind (arith, nat_tests, a.true_is) in
    let r = subst (λ (n : ℕ). BeginsRow (suc (count_high * 256 + count_low - 1)) (high ∷ low ∷ bytes) n units) (omega arith)
    (row_stands (count_high * 256 + count_low - 1) high low bytes units (is_length_of high low b.true_is) b.ends) in
    subst (λ (n : ℕ). BeginsRow n (high ∷ low ∷ bytes) (length (high ∷ low ∷ bytes)) units) counted r

interfaces_stand : (mark first second count_high count_low high low byte : ℕ) (bytes units : List ℕ) → mark ≡ 0x7D
    → (is_mark is_first is_second : Bool) → (first == 0) ≡ is_first → (second == 0) ≡ is_second
    → ended_by (if is_mark && (is_first && is_second) then row_of count_high count_low high low else nothing) (byte ∷ bytes) ≡ Some units
    → Begins (mark ∷ first ∷ second ∷ count_high ∷ count_low ∷ high ∷ low ∷ byte ∷ bytes) (length (mark ∷ first ∷ second ∷ count_high ∷ count_low ∷ high ∷ low ∷ byte ∷ bytes)) units
interfaces_stand mark first second count_high count_low high low byte bytes units is false is_first is_second f s e = absurd (never (byte ∷ bytes) units e)
interfaces_stand mark first second count_high count_low high low byte bytes units is true false is_second f s e = absurd (never (byte ∷ bytes) units e)
interfaces_stand mark first second count_high count_low high low byte bytes units is true true false f s e = absurd (never (byte ∷ bytes) units e)
interfaces_stand mark first second count_high count_low high low byte bytes units is true true true f s e =
    let one : first ≡ 0 = eqb-true first 0 f in
    let two : second ≡ 0 = eqb-true second 0 s in
    inr (record {
      low = count_low;
      high = count_high;
      rest = high ∷ low ∷ byte ∷ bytes;
      split = cc;
      row_end = length (high ∷ low ∷ byte ∷ bytes);
      row = row_of_stands count_high count_low high low (byte ∷ bytes) units e;
      ends = omega arith;
    })

-- seven bytes of a head that is no descriptor's
head_stands : (mark first second : ℕ) (rest units : List ℕ) → mark ≡ 0x7D → ended_by (head (second ∷ first ∷ mark ∷ [])) rest ≡ Some units
    → Begins (mark ∷ first ∷ second ∷ rest) (length (mark ∷ first ∷ second ∷ rest)) units
head_stands mark first second [] units is e = absurd cc
head_stands mark first second (a ∷ []) units is e = absurd cc
head_stands mark first second (a ∷ b ∷ []) units is e = absurd cc
head_stands mark first second (a ∷ b ∷ c ∷ []) units is e = absurd cc
head_stands mark first second (a ∷ b ∷ c ∷ d ∷ []) units is e = absurd cc
head_stands mark first second (a ∷ b ∷ c ∷ d ∷ byte ∷ bytes) units is e =
    interfaces_stand mark first second a b c d byte bytes units is (mark == 0x7D) (first == 0) (second == 0) refl refl e

third_stands : (mark first second : ℕ) (rest units : List ℕ) (is_descriptor is_row : Bool) → (mark == 0x72) ≡ is_descriptor → (mark == 0x7D) ≡ is_row → (is_descriptor || is_row) ≡ true
    → ended_by (if is_descriptor then text_of descriptor first second else head (second ∷ first ∷ mark ∷ [])) rest ≡ Some units
    → Begins (mark ∷ first ∷ second ∷ rest) (length (mark ∷ first ∷ second ∷ rest)) units
third_stands mark first second rest units true is_row d r o e = inl (record {
  rest = first ∷ second ∷ rest;
  split = ap (λ (n : ℕ). n ∷ first ∷ second ∷ rest) (eqb-true mark 0x72 d);
  name_end = 2 + length rest;
  name = descriptor_stands first second rest units e;
  ends = omega arith;
})
third_stands mark first second rest units false true d r o e = head_stands mark first second rest units (eqb-true mark 0x7D r) e
third_stands mark first second rest units false false d r o e = absurd cc

begun_stands : (mark : ℕ) (bytes units : List ℕ) → (mark == 0x72 || mark == 0x7D) ≡ true → ended_by (head (mark ∷ [])) bytes ≡ Some units → Begins (mark ∷ bytes) (length (mark ∷ bytes)) units
begun_stands mark [] units o e = absurd cc
begun_stands mark (a ∷ []) units o e = absurd cc
begun_stands mark (a ∷ b ∷ []) units o e = absurd cc
begun_stands mark (a ∷ b ∷ c ∷ rest) units o e = third_stands mark a b (c ∷ rest) units (mark == 0x72) (mark == 0x7D) refl refl o e

pub met_stands : (bytes units : List ℕ) → met bytes ≡ Some units → Begins bytes (length bytes) units
met_stands [] units e = absurd cc
met_stands (mark ∷ bytes) units e =
    let a = alive (mark == 0x72 || mark == 0x7D) (head (mark ∷ [])) bytes units e in
    begun_stands mark bytes units a.true_is a.ends
