-- What the slots have are stages of their places, and each stage that is to end a name is in them.
use Rattle.std.proofs.Common.{◌≡◌, ℕ, zero, suc, ◌+◌, ◌-◌, ◌*◌, ◌<◌, ◌∙◌, ap, sym, subst, Bool, true, false, not, ◌||◌, ◌==◌, ◌⊎◌, inl, inr, if◌then◌else◌, Option, Some, None, List, [], ◌∷◌, ◌++◌, length, refl, arith, length-append, eqb-true}
use Rattle.std.proofs.lemmas.Bool.Decides.{nat_tests}
use Rattle.jser_anywhere.specs.Texts.{in_row}
use Rattle.jser_anywhere.specs.Stages.{Whose, descriptor, row, Reading, Stage, nothing, head, text, between, halfway, no_units, is_length, in_name, begin, text_of, after_head, read, text_read, is_whole, after_text, onward, next, ended, stage_of}
use Rattle.jser_anywhere.specs.Slots.{Slot, Slots, new_name, new_row, is_even, is_odd, moved, filled, step, slots_of}
use Rattle.jser_anywhere.proofs.PlaceStages.{stage_here, stage_later}
use Rattle.jser_anywhere.proofs.SlotLemmas.{FitsDescriptor, FitsRow, NewName, NewRow, Flips, even_flips, odd_flips, new_name_cases, new_row_cases, wanted_cases, no_old_name, name_moved, name_filled, row_filled, row_moved, row_new, row_kept, row_slot_of}
use Rattle.jser_anywhere.proofs.FitsLemmas.{FitsSlots, slots_fit}

-- ---- a slot has the stage of its place

pub record Placed (back : List ℕ) (slot : Slot) : Type 0 where
  pub is : stage_of slot.place back ≡ slot.stage
  pub inside : slot.place < length back

abbrev pub Sound : List ℕ → Slot → Type 0
Sound back slot = (slot.stage ≡ nothing) ⊎ Placed back slot

not_last : (place : ℕ) (back : List ℕ) → place < length back → (place == length back) ≡ false
not_last place back less = grind (arith, nat_tests, less)

moved_sound : (back : List ℕ) (byte : ℕ) (slot : Slot) → Sound back slot → Sound (byte ∷ back) (moved slot byte)
moved_sound back byte slot (inl e) = inl (ap (λ s. next s byte) e)
moved_sound back byte slot (inr p) = inr (record {
  is = stage_later slot.place byte back (not_last slot.place back p.inside) ∙ ap (λ s. next s byte) p.is;
  inside = omega (arith, p.inside);
})

-- what the bytes behind a mark make of its stage
abbrev advance : List ℕ → Stage → Stage
advance [] stage = stage
advance (byte ∷ newer) stage = next (advance newer stage) byte

advanced : (newer : List ℕ) (mark : ℕ) (rest : List ℕ) → stage_of (length rest) (newer ++ mark ∷ rest) ≡ advance newer (begin mark)
advanced [] mark rest = stage_here mark rest
advanced (byte ∷ newer) mark rest =
    stage_later (length rest) byte (newer ++ mark ∷ rest) (not_last (length rest) (newer ++ mark ∷ rest) (omega (arith, length-append newer (mark ∷ rest))))
    ∙ ap (λ s. next s byte) (advanced newer mark rest)

new_name_sound : (back : List ℕ) (byte : ℕ) → (new : NewName back byte)
    → Placed (byte ∷ back) (record { place = length new.rest; stage = text descriptor (new.high * 256 + byte - 1) no_units })
new_name_sound back byte new = record {
  is = ap (λ (bs : List ℕ). stage_of (length new.rest) (byte ∷ bs)) new.split ∙ advanced (byte ∷ new.high ∷ []) 0x72 new.rest
      ∙ (ap (λ (bs : List ℕ). new_name bs byte) (sym new.split) ∙ new.stage);
  inside = omega (arith, ap length new.split);
}

new_row_sound : (back : List ℕ) (byte : ℕ) → (new : NewRow back byte) → Placed (byte ∷ back) (row_slot_of back byte new)
new_row_sound back byte new = record {
  is = ap (λ (bs : List ℕ). stage_of (length new.rest) (byte ∷ bs)) new.split ∙ advanced (byte ∷ new.high ∷ new.count_low ∷ new.count_high ∷ 0 ∷ 0 ∷ []) 0x7D new.rest
      ∙ (ap (λ (bs : List ℕ). new_row bs byte) (sym new.split) ∙ new.stage);
  inside = omega (arith, ap length new.split);
}

name_sound : (back : List ℕ) (byte : ℕ) (slot : Slot) → Sound back slot → Sound (byte ∷ back) (filled (length back - 2) (new_name back byte) (moved slot byte))
name_sound back byte slot s = elim (new_name_cases back byte) [
  | inl none ↦ subst (λ (t : Slot). Sound (byte ∷ back) t) (sym (name_moved back byte slot none)) (moved_sound back byte slot s)
  | inr new ↦ subst (λ (t : Slot). Sound (byte ∷ back) t) (sym (name_filled back byte slot new)) (inr (new_name_sound back byte new))
]

row_sound : (wanted : ℕ → Bool) (back : List ℕ) (byte : ℕ) (slot : Slot) → Sound back slot → Sound (byte ∷ back) (row_filled wanted back byte slot)
row_sound wanted back byte slot s = elim (wanted_cases wanted back byte) [
  | inl none ↦ subst (λ (t : Slot). Sound (byte ∷ back) t) (sym (row_moved wanted back byte slot none)) (moved_sound back byte slot s)
  | inr w ↦ subst (λ (t : Slot). Sound (byte ∷ back) t) (sym (row_new wanted back byte slot w)) (inr (new_row_sound back byte w.new))
]

pub record SoundSlots (back : List ℕ) (slots : Slots) : Type 0 where
  pub name : Sound back slots.name
  pub even : Sound back slots.even
  pub odd : Sound back slots.odd

pub slots_sound : (back : List ℕ) → SoundSlots back (slots_of back)
slots_sound [] = record { name = inl refl; even = inl refl; odd = inl refl }
slots_sound (byte ∷ back) =
    let s = slots_sound back in
    record {
      name = name_sound back byte (slots_of back).name s.name;
      even = row_sound is_even back byte (slots_of back).even s.even;
      odd = row_sound is_odd back byte (slots_of back).odd s.odd;
    }

-- ---- the slots have each stage that is to end a name

pub record HeadAt (place : ℕ) (bytes back : List ℕ) : Type 0 where
  pub rest : List ℕ
  pub split : back ≡ bytes ++ rest
  pub at : place ≡ length rest

-- the slot of the rows at such a place
abbrev pub row_slot : Slots → (place : ℕ) → Slot
row_slot slots place = if is_even place then slots.even else slots.odd

abbrev pub slot_at : (place : ℕ) → Stage → Slot
slot_at place stage = record { place = place; stage = stage }

abbrev pub Tracks : List ℕ → Slots → ℕ → Stage → Type 0
Tracks back slots place nothing = Unit {0}
Tracks back slots place (head bytes) = HeadAt place bytes back
Tracks back slots place (text descriptor left reading) = slots.name ≡ slot_at place (text descriptor left reading)
Tracks back slots place (text (row more) left reading) = row_slot slots place ≡ slot_at place (text (row more) left reading)
Tracks back slots place (between more) = row_slot slots place ≡ slot_at place (between more)
Tracks back slots place (halfway more high) = row_slot slots place ≡ slot_at place (halfway more high)

head_on : (place byte : ℕ) (bytes back : List ℕ) → HeadAt place bytes back → HeadAt place (byte ∷ bytes) (byte ∷ back)
head_on place byte bytes back h = record { rest = h.rest; split = ap (λ (bs : List ℕ). byte ∷ bs) h.split; at = h.at }

not_text : (whose : Whose) (left : ℕ) (reading : Reading) → text whose left reading ≡ nothing → ⊥
not_text whose left reading e = absurd cc

not_between : (more : ℕ) → between more ≡ nothing → ⊥
not_between more e = absurd cc

not_halfway : (more high : ℕ) → halfway more high ≡ nothing → ⊥
not_halfway more high e = absurd cc

-- a descriptor's name
abbrev OfName : Stage → Type 0
OfName nothing = Unit {0}
OfName (head bytes) = ⊥
OfName (text descriptor left reading) = Unit {0}
OfName (text (row more) left reading) = ⊥
OfName (between more) = ⊥
OfName (halfway more high) = ⊥

name_tracks : (back : List ℕ) (slots : Slots) (place : ℕ) (stage : Stage) → OfName stage → slots.name ≡ slot_at place stage → Tracks back slots place stage
name_tracks back slots place nothing o e = tt
name_tracks back slots place (head bytes) o e = absurd o
name_tracks back slots place (text descriptor left reading) o e = e
name_tracks back slots place (text (row more) left reading) o e = absurd o
name_tracks back slots place (between more) o e = absurd o
name_tracks back slots place (halfway more high) o e = absurd o

name_next_by : (left byte : ℕ) (is : Bool) (o : Option Reading) → OfName (onward (if is then text_read descriptor left o else nothing) byte)
name_next_by left byte false o = tt
name_next_by left byte true None = tt
name_next_by zero byte true (Some later) = tt
name_next_by (suc left) byte true (Some later) = tt

descriptor_on : (back : List ℕ) (byte : ℕ) (slots : Slots) (place left : ℕ) (reading : Reading) → FitsDescriptor slots.name.stage back
    → slots.name ≡ slot_at place (text descriptor left reading) → Tracks (byte ∷ back) (step back slots byte) place (next (text descriptor left reading) byte)
descriptor_on back byte slots place left reading f e = elim (new_name_cases back byte) [
  | inl none ↦ name_tracks (byte ∷ back) (step back slots byte) place (next (text descriptor left reading) byte) (name_next_by left byte (in_name byte) (read reading byte))
      (name_moved back byte slots.name none ∙ ap (λ (s : Slot). moved s byte) e)
  | inr new ↦ absurd (not_text descriptor left reading (sym (ap (λ (s : Slot). s.stage) e) ∙ no_old_name back byte slots.name.stage new f))
]

-- a row
abbrev OfRow : Stage → Type 0
OfRow nothing = Unit {0}
OfRow (head bytes) = ⊥
OfRow (text descriptor left reading) = ⊥
OfRow (text (row more) left reading) = Unit {0}
OfRow (between more) = Unit {0}
OfRow (halfway more high) = Unit {0}

row_tracks : (back : List ℕ) (slots : Slots) (place : ℕ) (stage : Stage) → OfRow stage → row_slot slots place ≡ slot_at place stage → Tracks back slots place stage
row_tracks back slots place nothing o e = tt
row_tracks back slots place (head bytes) o e = absurd o
row_tracks back slots place (text descriptor left reading) o e = absurd o
row_tracks back slots place (text (row more) left reading) o e = e
row_tracks back slots place (between more) o e = e
row_tracks back slots place (halfway more high) o e = e

slot_on : (wanted : ℕ → Bool) (back : List ℕ) (byte : ℕ) (slot : Slot) (place : ℕ) (stage : Stage) → Flips wanted → FitsRow wanted slot.place slot.stage back → (stage ≡ nothing → ⊥)
    → slot ≡ slot_at place stage → row_filled wanted back byte slot ≡ slot_at place (next stage byte)
slot_on wanted back byte slot place stage flips f live e =
    row_kept wanted back byte slot flips f (λ none. live (sym (ap (λ (s : Slot). s.stage) e) ∙ none)) ∙ ap (λ (s : Slot). moved s byte) e

row_slot_on : (back : List ℕ) (byte : ℕ) (slots : Slots) (place : ℕ) (stage : Stage) (is : Bool) → is_even place ≡ is → FitsSlots back slots → (stage ≡ nothing → ⊥)
    → (if is then slots.even else slots.odd) ≡ slot_at place stage
    → (if is then (step back slots byte).even else (step back slots byte).odd) ≡ slot_at place (next stage byte)
row_slot_on back byte slots place stage true i f live e = slot_on is_even back byte slots.even place stage even_flips f.even live e
row_slot_on back byte slots place stage false i f live e = slot_on is_odd back byte slots.odd place stage odd_flips f.odd live e

row_on : (back : List ℕ) (byte : ℕ) (slots : Slots) (place : ℕ) (stage : Stage) → FitsSlots back slots → (stage ≡ nothing → ⊥) → OfRow (next stage byte)
    → row_slot slots place ≡ slot_at place stage → Tracks (byte ∷ back) (step back slots byte) place (next stage byte)
row_on back byte slots place stage f live o e =
    row_tracks (byte ∷ back) (step back slots byte) place (next stage byte) o (row_slot_on back byte slots place stage (is_even place) refl f live e)

over_of : (more : ℕ) (whole : Bool) → OfRow (after_text (row more) whole)
over_of zero whole = tt
over_of (suc more) true = tt
over_of (suc more) false = tt

text_of_row : (more left byte : ℕ) (is : Bool) (o : Option Reading) → OfRow (onward (if is then text_read (row more) left o else nothing) byte)
text_of_row more left byte false o = tt
text_of_row more left byte true None = tt
text_of_row more zero byte true (Some later) = over_of more (is_whole later)
text_of_row more (suc left) byte true (Some later) = tt

between_of_row : (more byte : ℕ) (is : Bool) → OfRow (if is then nothing else halfway more byte)
between_of_row more byte true = tt
between_of_row more byte false = tt

halfway_of_row : (more high byte : ℕ) (is : Bool) → OfRow (if is then text (row more) (high * 256 + byte - 1) no_units else nothing)
halfway_of_row more high byte true = tt
halfway_of_row more high byte false = tt

-- a head that ends
third_on : (back : List ℕ) (byte : ℕ) (slots : Slots) (place high mark : ℕ) (is_mark is : Bool) → (mark == 0x72) ≡ is_mark → is_length high byte ≡ is
    → HeadAt place (high ∷ mark ∷ []) back
    → Tracks (byte ∷ back) (step back slots byte) place (if is_mark then (if is then text descriptor (high * 256 + byte - 1) no_units else nothing) else head (byte ∷ high ∷ mark ∷ []))
third_on back byte slots place high mark false is m i h = head_on place byte (high ∷ mark ∷ []) back h
third_on back byte slots place high mark true false m i h = tt
third_on back byte slots place high mark true true m i h =
    let at : length back - 2 ≡ place = omega (arith, ap length h.split, h.at) in
    let new : new_name back byte ≡ text descriptor (high * 256 + byte - 1) no_units =
    ap (λ (bs : List ℕ). new_name bs byte) h.split ∙ ap (λ b. if b then text_of descriptor high byte else nothing) m
    ∙ ap (λ b. if b then text descriptor (high * 256 + byte - 1) no_units else nothing) i in
    ap (λ s. filled (length back - 2) s (moved slots.name byte)) new
    ∙ ap (λ (n : ℕ). slot_at n (text descriptor (high * 256 + byte - 1) no_units)) at

seventh_slot : (back : List ℕ) (byte : ℕ) (slots : Slots) (place : ℕ) (is : Bool) → is_even place ≡ is → (new : NewRow back byte) → length new.rest ≡ place
    → (if is then (step back slots byte).even else (step back slots byte).odd) ≡ slot_at place (text (row (new.count_high * 256 + new.count_low - 1)) (new.high * 256 + byte - 1) no_units)
seventh_slot back byte slots place true i new at =
    row_new is_even back byte slots.even (record { new = new; kind = ap is_even at ∙ i })
    ∙ ap (λ (n : ℕ). slot_at n (text (row (new.count_high * 256 + new.count_low - 1)) (new.high * 256 + byte - 1) no_units)) at
seventh_slot back byte slots place false i new at =
    row_new is_odd back byte slots.odd (record { new = new; kind = ap is_odd at ∙ ap not i })
    ∙ ap (λ (n : ℕ). slot_at n (text (row (new.count_high * 256 + new.count_low - 1)) (new.high * 256 + byte - 1) no_units)) at

seventh_on : (back : List ℕ) (byte : ℕ) (slots : Slots) (place : ℕ) → place + 6 ≡ length back → Tracks (byte ∷ back) (step back slots byte) place (new_row back byte)
seventh_on back byte slots place at = elim (new_row_cases back byte) [
  | inl none ↦ subst (λ s. Tracks (byte ∷ back) (step back slots byte) place s) (sym none) tt
  | inr new ↦ subst (λ s. Tracks (byte ∷ back) (step back slots byte) place s) (sym new.stage)
      (seventh_slot back byte slots place (is_even place) refl new (omega (arith, at, ap length new.split)))
]

head_next : (back : List ℕ) (byte : ℕ) (slots : Slots) (place : ℕ) (bytes : List ℕ) → HeadAt place bytes back
    → Tracks (byte ∷ back) (step back slots byte) place (after_head (byte ∷ bytes))
head_next back byte slots place [] h = head_on place byte [] back h
head_next back byte slots place (a ∷ []) h = head_on place byte (a ∷ []) back h
head_next back byte slots place (a ∷ b ∷ []) h = third_on back byte slots place a b (b == 0x72) (is_length a byte) refl refl h
head_next back byte slots place (a ∷ b ∷ c ∷ []) h = head_on place byte (a ∷ b ∷ c ∷ []) back h
head_next back byte slots place (a ∷ b ∷ c ∷ d ∷ []) h = head_on place byte (a ∷ b ∷ c ∷ d ∷ []) back h
head_next back byte slots place (a ∷ b ∷ c ∷ d ∷ e ∷ []) h = head_on place byte (a ∷ b ∷ c ∷ d ∷ e ∷ []) back h
head_next back byte slots place (a ∷ b ∷ c ∷ d ∷ e ∷ g ∷ []) h =
    subst (λ s. Tracks (byte ∷ back) (step back slots byte) place s) (ap (λ (bs : List ℕ). new_row bs byte) h.split)
    (seventh_on back byte slots place (omega (arith, ap length h.split, h.at)))
head_next back byte slots place (a ∷ b ∷ c ∷ d ∷ e ∷ g ∷ i ∷ bytes) h = head_on place byte (a ∷ b ∷ c ∷ d ∷ e ∷ g ∷ i ∷ bytes) back h

tracks_next : (back : List ℕ) (byte : ℕ) (slots : Slots) (place : ℕ) (stage : Stage) → FitsSlots back slots → Tracks back slots place stage
    → Tracks (byte ∷ back) (step back slots byte) place (next stage byte)
tracks_next back byte slots place nothing f t = tt
tracks_next back byte slots place (head bytes) f t = head_next back byte slots place bytes t
tracks_next back byte slots place (text descriptor left reading) f t = descriptor_on back byte slots place left reading f.name t
tracks_next back byte slots place (text (row more) left reading) f t =
    row_on back byte slots place (text (row more) left reading) f (not_text (row more) left reading) (text_of_row more left byte (in_row byte) (read reading byte)) t
tracks_next back byte slots place (between more) f t = row_on back byte slots place (between more) f (not_between more) (between_of_row more byte (in_name byte)) t
tracks_next back byte slots place (halfway more high) f t =
    row_on back byte slots place (halfway more high) f (not_halfway more high) (halfway_of_row more high byte (is_length high byte)) t

begin_tracks : (back : List ℕ) (byte : ℕ) (slots : Slots) (place : ℕ) (is : Bool) → place ≡ length back → Tracks (byte ∷ back) slots place (if is then head (byte ∷ []) else nothing)
begin_tracks back byte slots place true e = record { rest = back; split = refl; at = e }
begin_tracks back byte slots place false e = tt

tracks_by : (back : List ℕ) (byte : ℕ) (slots : Slots) (place : ℕ) (is : Bool) → (place == length back) ≡ is → FitsSlots back slots → Tracks back slots place (stage_of place back)
    → Tracks (byte ∷ back) (step back slots byte) place (if is then begin byte else next (stage_of place back) byte)
tracks_by back byte slots place true e f t = begin_tracks back byte (step back slots byte) place (byte == 0x72 || byte == 0x7D) (eqb-true place (length back) e)
tracks_by back byte slots place false e f t = tracks_next back byte slots place (stage_of place back) f t

pub tracks : (back : List ℕ) → (place : ℕ) → Tracks back (slots_of back) place (stage_of place back)
tracks [] place = tt
tracks (byte ∷ back) place = tracks_by back byte (slots_of back) place (place == length back) refl (slots_fit back) (tracks back place)

-- a name that ends is met by the slot of its place
abbrev pub MetBy : Slot → (place byte : ℕ) → (units : List ℕ) → Type 0
MetBy slot place byte units = (ended slot.stage byte ≡ Some units) × (slot.place ≡ place)

abbrev pub Met : Slots → (place byte : ℕ) → (units : List ℕ) → Type 0
Met slots place byte units = MetBy slots.name place byte units ⊎ (MetBy slots.even place byte units ⊎ MetBy slots.odd place byte units)

met_by : (slot : Slot) (place byte : ℕ) (stage : Stage) (units : List ℕ) → slot ≡ slot_at place stage → ended stage byte ≡ Some units → MetBy slot place byte units
met_by slot place byte stage units t e = (ap (λ (s : Slot). ended s.stage byte) t ∙ e, ap (λ (s : Slot). s.place) t)

met_row : (slots : Slots) (place byte : ℕ) (stage : Stage) (units : List ℕ) (is : Bool) → (if is then slots.even else slots.odd) ≡ slot_at place stage → ended stage byte ≡ Some units → Met slots place byte units
met_row slots place byte stage units true t e = inr (inl (met_by slots.even place byte stage units t e))
met_row slots place byte stage units false t e = inr (inr (met_by slots.odd place byte stage units t e))

pub ended_met : (back : List ℕ) (slots : Slots) (place : ℕ) (stage : Stage) (byte : ℕ) (units : List ℕ) → Tracks back slots place stage → ended stage byte ≡ Some units
    → Met slots place byte units
ended_met back slots place nothing byte units t e = absurd cc
ended_met back slots place (head bytes) byte units t e = absurd cc
ended_met back slots place (text descriptor left reading) byte units t e = inl (met_by slots.name place byte (text descriptor left reading) units t e)
ended_met back slots place (text (row more) left reading) byte units t e = met_row slots place byte (text (row more) left reading) units (is_even place) t e
ended_met back slots place (between more) byte units t e = absurd cc
ended_met back slots place (halfway more high) byte units t e = absurd cc
