-- What is known of the last bytes, by what the slots have, is kept with each byte.
use Rattle.std.proofs.Common.{◌≡◌, ℕ, zero, suc, ◌+◌, ◌-◌, ◌*◌, ◌≤◌, ◌∙◌, ap, sym, subst, Bool, true, false, inl, inr, if◌then◌else◌, Option, Some, None, List, [], ◌∷◌, ◌++◌, length, refl, arith}
use Rattle.std.proofs.lemmas.Bool.Decides.{nat_tests}
use Rattle.jser_anywhere.specs.Texts.{in_row}
use Rattle.jser_anywhere.specs.Stages.{descriptor, row, Reading, Stage, nothing, head, text, between, halfway, no_units, is_length, in_name, read, text_read, is_whole, onward, next}
use Rattle.jser_anywhere.specs.Slots.{Slot, Slots, ago, new_name, is_even, is_odd, moved, filled, slots_of}
use Rattle.jser_anywhere.proofs.StageLemmas.{is_length_of, high_out}
use Rattle.jser_anywhere.proofs.SlotLemmas.{NameLast, FitsDescriptor, NoPair, RowShape, FitsRow, NewName, WantedRow, new_name_cases, wanted_cases, name_moved, name_filled, row_filled, row_moved, row_new}

-- ---- a descriptor's name

name_later : (left : ℕ) (later : Reading) (byte : ℕ) (back : List ℕ) → in_name byte ≡ true → FitsDescriptor (onward (text descriptor left later) byte) (byte ∷ back)
name_later zero later byte back i = tt
name_later (suc left) later byte back i = inl i

name_by : (left : ℕ) (reading : Reading) (byte : ℕ) (back : List ℕ) (is : Bool) (o : Option Reading) → in_name byte ≡ is
    → FitsDescriptor (onward (if is then text_read descriptor left o else nothing) byte) (byte ∷ back)
name_by left reading byte back false o i = tt
name_by left reading byte back true None i = tt
name_by left reading byte back true (Some later) i = name_later left later byte back i

descriptor_fits : (stage : Stage) (back : List ℕ) (byte : ℕ) → FitsDescriptor stage back → FitsDescriptor (next stage byte) (byte ∷ back)
descriptor_fits nothing back byte f = tt
descriptor_fits (head bytes) back byte f = absurd f
descriptor_fits (text descriptor left reading) back byte f = name_by left reading byte back (in_name byte) (read reading byte) refl
descriptor_fits (text (row more) left reading) back byte f = absurd f
descriptor_fits (between more) back byte f = absurd f
descriptor_fits (halfway more high) back byte f = absurd f

-- ---- a row

pair_more : (byte : ℕ) (behind front back : List ℕ) → back ≡ behind ++ front → 2 ≤ length behind → 1 ≤ byte + ago back 0 → NoPair behind → NoPair (byte ∷ behind)
pair_more byte [] front back e long some pairs = absurd (omega (arith, long))
pair_more byte (a ∷ behind) front back e long some pairs =
    let last : ago back 0 ≡ a = ap (λ (xs : List ℕ). ago xs 0) e in
    (omega (arith, some, last), pairs)

shape_more : (wanted : ℕ → Bool) (place byte : ℕ) (back : List ℕ) → RowShape wanted place back → 1 ≤ byte + ago back 0 → RowShape wanted place (byte ∷ back)
shape_more wanted place byte back s some = record {
  behind = byte ∷ s.behind;
  low = s.low;
  high = s.high;
  rest = s.rest;
  split = ap (λ (bs : List ℕ). byte ∷ bs) s.split;
  at = s.at;
  kind = s.kind;
  some = s.some;
  pairs = pair_more byte s.behind (s.low ∷ s.high ∷ 0 ∷ 0 ∷ 0x7D ∷ s.rest) back s.split s.long some s.pairs;
  long = omega (arith, s.long);
}

in_row_some : (byte : ℕ) → in_row byte ≡ true → 1 ≤ byte
in_row_some byte i = grind (arith, nat_tests, i)

over_by : (wanted : ℕ → Bool) (place more byte : ℕ) (back : List ℕ) (whole : Bool) → 1 ≤ byte → RowShape wanted place (byte ∷ back)
    → FitsRow wanted place (if whole then between more else nothing) (byte ∷ back)
over_by wanted place more byte back true some s = (s, some)
over_by wanted place more byte back false some s = tt

text_later : (wanted : ℕ → Bool) (place more left : ℕ) (later : Reading) (byte : ℕ) (back : List ℕ) → 1 ≤ byte → RowShape wanted place (byte ∷ back)
    → FitsRow wanted place (onward (text (row more) left later) byte) (byte ∷ back)
text_later wanted place zero zero later byte back some s = tt
text_later wanted place (suc more) zero later byte back some s = over_by wanted place more byte back (is_whole later) some s
text_later wanted place more (suc left) later byte back some s = s

text_by : (wanted : ℕ → Bool) (place more left : ℕ) (byte : ℕ) (back : List ℕ) (is : Bool) (o : Option Reading) → in_row byte ≡ is → RowShape wanted place back
    → FitsRow wanted place (onward (if is then text_read (row more) left o else nothing) byte) (byte ∷ back)
text_by wanted place more left byte back false o i s = tt
text_by wanted place more left byte back true None i s = tt
text_by wanted place more left byte back true (Some later) i s =
    let some = in_row_some byte i in
    text_later wanted place more left later byte back some (shape_more wanted place byte back s (omega (arith, some)))

between_by : (wanted : ℕ → Bool) (place more byte : ℕ) (back : List ℕ) (is : Bool) → RowShape wanted place back → 1 ≤ ago back 0
    → FitsRow wanted place (if is then nothing else halfway more byte) (byte ∷ back)
between_by wanted place more byte back true s some = tt
between_by wanted place more byte back false s some = (shape_more wanted place byte back s (omega (arith, some)), refl)

halfway_by : (wanted : ℕ → Bool) (place more high byte : ℕ) (back : List ℕ) (is : Bool) → is_length high byte ≡ is → RowShape wanted place back → ago back 0 ≡ high
    → FitsRow wanted place (if is then text (row more) (high * 256 + byte - 1) no_units else nothing) (byte ∷ back)
halfway_by wanted place more high byte back false i s last = tt
halfway_by wanted place more high byte back true i s last =
    let is = is_length_of high byte i in
    shape_more wanted place byte back s (omega (arith, is.some, last))

row_fits : (wanted : ℕ → Bool) (place : ℕ) (stage : Stage) (back : List ℕ) (byte : ℕ) → FitsRow wanted place stage back → FitsRow wanted place (next stage byte) (byte ∷ back)
row_fits wanted place nothing back byte f = tt
row_fits wanted place (head bytes) back byte f = absurd f
row_fits wanted place (text descriptor left reading) back byte f = absurd f
row_fits wanted place (text (row more) left reading) back byte f = text_by wanted place more left byte back (in_row byte) (read reading byte) refl f
row_fits wanted place (between more) back byte f = between_by wanted place more byte back (in_name byte) f.0 f.1
row_fits wanted place (halfway more high) back byte f = halfway_by wanted place more high byte back (is_length high byte) refl f.0 f.1

new_row_fits : (wanted : ℕ → Bool) (back : List ℕ) (byte : ℕ) → (w : WantedRow wanted back byte) → RowShape wanted (length w.new.rest) (byte ∷ back)
new_row_fits wanted back byte w =
    let new = w.new in
    record {
      behind = byte ∷ new.high ∷ [];
      low = new.count_low;
      high = new.count_high;
      rest = new.rest;
      split = ap (λ (bs : List ℕ). byte ∷ bs) new.split;
      at = refl;
      kind = w.kind;
      some = new.some;
      pairs = (omega (arith, new.is.some), tt);
      long = omega arith;
    }

-- ---- all slots

pub record FitsSlots (back : List ℕ) (slots : Slots) : Type 0 where
  pub name : FitsDescriptor slots.name.stage back
  pub even : FitsRow is_even slots.even.place slots.even.stage back
  pub odd : FitsRow is_odd slots.odd.place slots.odd.stage back

new_name_fits : (back : List ℕ) (byte : ℕ) → (new : NewName back byte) → NameLast (byte ∷ back)
new_name_fits back byte new = inr (ap (λ (bs : List ℕ). in_name (ago bs 0)) new.split ∙ high_out new.high byte new.is)

name_slot_fits : (back : List ℕ) (byte : ℕ) (slot : Slot) → FitsDescriptor slot.stage back → FitsDescriptor (filled (length back - 2) (new_name back byte) (moved slot byte)).stage (byte ∷ back)
name_slot_fits back byte slot f = elim (new_name_cases back byte) [
  | inl none ↦ subst (λ (s : Slot). FitsDescriptor s.stage (byte ∷ back)) (sym (name_moved back byte slot none)) (descriptor_fits slot.stage back byte f)
  | inr new ↦ subst (λ (s : Slot). FitsDescriptor s.stage (byte ∷ back)) (sym (name_filled back byte slot new)) (new_name_fits back byte new)
]

row_slot_fits : (wanted : ℕ → Bool) (back : List ℕ) (byte : ℕ) (slot : Slot) → FitsRow wanted slot.place slot.stage back
    → FitsRow wanted (row_filled wanted back byte slot).place (row_filled wanted back byte slot).stage (byte ∷ back)
row_slot_fits wanted back byte slot f = elim (wanted_cases wanted back byte) [
  | inl none ↦ subst (λ (s : Slot). FitsRow wanted s.place s.stage (byte ∷ back)) (sym (row_moved wanted back byte slot none)) (row_fits wanted slot.place slot.stage back byte f)
  | inr w ↦ subst (λ (s : Slot). FitsRow wanted s.place s.stage (byte ∷ back)) (sym (row_new wanted back byte slot w)) (new_row_fits wanted back byte w)
]

pub slots_fit : (back : List ℕ) → FitsSlots back (slots_of back)
slots_fit [] = record { name = tt; even = tt; odd = tt }
slots_fit (byte ∷ back) =
    let f = slots_fit back in
    record {
      name = name_slot_fits back byte (slots_of back).name f.name;
      even = row_slot_fits is_even back byte (slots_of back).even f.even;
      odd = row_slot_fits is_odd back byte (slots_of back).odd f.odd;
    }
