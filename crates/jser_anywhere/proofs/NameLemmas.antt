-- Reading a text a byte at a time.
use Rattle.std.proofs.Common.{◌≡◌, ℕ, ◌+◌, ◌<◌, ◌≤◌, ◌∙◌, ap, sym, Bool, true, false, if◌then◌else◌, Option, Some, None, List, [], ◌∷◌, ◌++◌, length, drop, get_or, refl, add-one, drop-cons, append_assoc, length-append, arith}
use Rattle.std.proofs.lemmas.List.{append-nil}
use Rattle.std.proofs.Math.Seq.{drop-length}
use Rattle.std.proofs.lemmas.Bool.Decides.{nat_tests}
use Rattle.jser_anywhere.specs.Texts.{take_byte, is_first, Fits, loose_step, in_row, row_from, row_units}
use Rattle.jser_anywhere.specs.Search.{behind}
use Rattle.jser_anywhere.specs.declared.text.Place.{Place}
use Rattle.jser_anywhere.specs.declared.text.Place.TheVariants as place
use Rattle.jser_anywhere.specs.declared.text.Taken.{Taken}
use Rattle.jser_anywhere.specs.declared.text.Taken.TheVariants as taken

-- what is read of the text so far: the units, and where the next byte stands
pub record Reads (bytes units : List ℕ) (index : ℕ) (here : Place) : Type 0 where
  pub fits : Fits here
  pub room : length units ≤ index
  pub reads : row_units bytes ≡ behind units (row_from (drop index bytes) here)

behind_none : (o : Option (List ℕ)) → o ≡ behind [] o
behind_none None = refl
behind_none (Some units) = refl

pub behind_behind : (xs ys : List ℕ) (o : Option (List ℕ)) → behind xs (behind ys o) ≡ behind (xs ++ ys) o
behind_behind xs ys None = refl
behind_behind xs ys (Some units) = ap Some (sym (append_assoc xs ys units))

pub begins : (bytes : List ℕ) → Reads bytes [] 0 place.First
unfolding row_units
begins bytes = record { fits = tt; room = omega arith; reads = behind_none (row_from bytes place.First) }

-- what a byte makes of the rest
pub cons_low : (here : Place) (byte : ℕ) (bytes : List ℕ) → in_row byte ≡ false → row_from (byte ∷ bytes) here ≡ None
cons_low here byte bytes e = ap (λ b. if b then loose_step (row_from bytes) (take_byte here byte) else None) e

pub cons_taken : (here : Place) (byte : ℕ) (bytes : List ℕ) (t : Taken) → in_row byte ≡ true → take_byte here byte ≡ t → row_from (byte ∷ bytes) here ≡ loose_step (row_from bytes) t
cons_taken here byte bytes t e f =
    ap (λ b. if b then loose_step (row_from bytes) (take_byte here byte) else None) e ∙ ap (λ x. loose_step (row_from bytes) x) f

unit_behind : (unit : ℕ) (o : Option (List ℕ)) → loose_step (λ _. o) (taken.Unit unit) ≡ behind (unit ∷ []) o
unit_behind unit None = refl
unit_behind unit (Some units) = refl

pub cons_unit : (here : Place) (byte unit : ℕ) (bytes : List ℕ) → in_row byte ≡ true → take_byte here byte ≡ taken.Unit unit
    → row_from (byte ∷ bytes) here ≡ behind (unit ∷ []) (row_from bytes place.First)
cons_unit here byte unit bytes e f = cons_taken here byte bytes (taken.Unit unit) e f ∙ unit_behind unit (row_from bytes place.First)

at_index : (bytes : List ℕ) (i : ℕ) → i < length bytes → drop i bytes ≡ get_or bytes i 0 ∷ drop (i + 1) bytes
at_index bytes i less = rw (add-one, drop-cons bytes i 0)

high_is : (byte : ℕ) → (byte < 0x20 → ⊥) → in_row byte ≡ true
high_is byte high = grind (arith, nat_tests, high)

low_is : (byte : ℕ) → byte < 0x20 → in_row byte ≡ false
low_is byte low = grind (arith, nat_tests, low)

pub reads_low : (bytes units : List ℕ) (i : ℕ) (here : Place) → Reads bytes units i here → i < length bytes → get_or bytes i 0 < 0x20 → row_units bytes ≡ None
reads_low bytes units i here r less low =
    r.reads ∙ ap (λ o. behind units o) (ap (λ bs. row_from bs here) (at_index bytes i less) ∙ cons_low here (get_or bytes i 0) (drop (i + 1) bytes) (low_is (get_or bytes i 0) low))

pub reads_refused : (bytes units : List ℕ) (i : ℕ) (here : Place) → Reads bytes units i here → i < length bytes → (get_or bytes i 0 < 0x20 → ⊥)
    → taken.Refused ≡ take_byte here (get_or bytes i 0) → row_units bytes ≡ None
reads_refused bytes units i here r less high e =
    r.reads ∙ ap (λ o. behind units o) (ap (λ bs. row_from bs here) (at_index bytes i less) ∙ cons_taken here (get_or bytes i 0) (drop (i + 1) bytes) taken.Refused (high_is (get_or bytes i 0) high) (sym e))

pub reads_unit : (bytes units : List ℕ) (i unit : ℕ) (here : Place) → Reads bytes units i here → i < length bytes → (get_or bytes i 0 < 0x20 → ⊥)
    → taken.Unit unit ≡ take_byte here (get_or bytes i 0) → Reads bytes (units ++ unit ∷ []) (i + 1) place.First
reads_unit bytes units i unit here r less high e = record {
  fits = tt;
  room = omega (arith, r.room, length-append units (unit ∷ []));
  reads = r.reads ∙ ap (λ o. behind units o) (ap (λ bs. row_from bs here) (at_index bytes i less) ∙ cons_unit here (get_or bytes i 0) unit (drop (i + 1) bytes) (high_is (get_or bytes i 0) high) (sym e))
      ∙ behind_behind units (unit ∷ []) (row_from (drop (i + 1) bytes) place.First);
}

pub part_fits : (here next : Place) (byte : ℕ) → Fits here → byte < 256 → take_byte here byte ≡ taken.Part next → Fits next
part_fits here place.First byte fits small e = tt
part_fits place.First (place.Middle high) byte fits small e = grind (arith, nat_tests)
part_fits place.First (place.Last high) byte fits small e = grind (arith, nat_tests)
part_fits (place.Middle before) (place.Middle high) byte fits small e = grind (arith, nat_tests)
part_fits (place.Middle before) (place.Last high) byte fits small e = grind (arith, nat_tests)
part_fits (place.Last before) (place.Middle high) byte fits small e = grind (arith, nat_tests)
part_fits (place.Last before) (place.Last high) byte fits small e = grind (arith, nat_tests)

pub reads_more : (bytes units : List ℕ) (i : ℕ) (here next : Place) → Reads bytes units i here → i < length bytes → get_or bytes i 0 < 256 → (get_or bytes i 0 < 0x20 → ⊥)
    → taken.Part next ≡ take_byte here (get_or bytes i 0) → Reads bytes units (i + 1) next
reads_more bytes units i here next r less small high e = record {
  fits = part_fits here next (get_or bytes i 0) r.fits small (sym e);
  room = omega (arith, r.room);
  reads = r.reads ∙ ap (λ o. behind units o) (ap (λ bs. row_from bs here) (at_index bytes i less) ∙ cons_taken here (get_or bytes i 0) (drop (i + 1) bytes) (taken.Part next) (high_is (get_or bytes i 0) high) (sym e));
}

put : (is : Bool) (units : List ℕ) → behind units (if is then Some [] else None) ≡ (if is then Some units else None)
put true units = ap Some (append-nil units)
put false units = refl

pub ended : (bytes units : List ℕ) (i : ℕ) (here : Place) (first : Bool) → Reads bytes units i here → i ≡ length bytes → first ≡ is_first here
    → row_units bytes ≡ (if first then Some units else None)
ended bytes units i here first r e f =
    r.reads ∙ ap (λ (n : ℕ). behind units (row_from (drop n bytes) here)) e ∙ ap (λ bs. behind units (row_from bs here)) (drop-length bytes)
    ∙ put (is_first here) units ∙ ap (λ b. if b then Some units else None) (sym f)
