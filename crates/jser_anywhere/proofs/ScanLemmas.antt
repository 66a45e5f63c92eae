-- A byte more: the first hidden name, or none.
use Rattle.std.proofs.Common.{◌≡◌, ℕ, zero, suc, ◌+◌, ◌*◌, ◌≤◌, ◌∙◌, ap, sym, subst, Bool, true, false, ◌⊎◌, inl, inr, if◌then◌else◌, Option, Some, None, List, [], ◌∷◌, ◌++◌, length, drop, reverse, refl, arith, length-append, length-drop}
use Rattle.std.specs.Prelude.{min, IfSome}
use Rattle.std.proofs.lemmas.Bool.{cases_lt}
use Rattle.std.proofs.lemmas.List.{length-reverse, drop-append-le}
use Rattle.jser_anywhere.specs.Standing.{BeginsText, BeginsName, BeginsRow, Begins, HiddenAt, AllPass, IsFirstHidden}
use Rattle.jser_anywhere.specs.Texts.{row_units}
use Rattle.jser_anywhere.specs.Names.{name_units}
use Rattle.jser_anywhere.specs.Stages.{Stage, nothing, ended, stage_of}
use Rattle.jser_anywhere.specs.Slots.{Slot, Slots, slots_of, hidden_of, lower, slot_hidden, hidden_place}
use Rattle.jser_anywhere.proofs.PrefixLemmas.{name_within, stands_for_good}
use Rattle.jser_anywhere.proofs.FirstLemmas.{begins_long}
use Rattle.jser_anywhere.proofs.PlaceStages.{stands_ended, ended_stands}
use Rattle.jser_anywhere.proofs.TrackLemmas.{Sound, slots_sound, tracks, MetBy, Met, ended_met}

-- ---- a name that ends within the first bytes stands in these

-- where a longer list begins with some bytes, so does a shorter one that has as many
pub front_of : (front after bytes more : List ℕ) → bytes ++ more ≡ front ++ after → length front ≤ length bytes → (rest : List ℕ) × (bytes ≡ front ++ rest) × (after ≡ rest ++ more)
front_of [] after bytes more e long = (bytes, refl, sym e)
front_of (x ∷ front) after [] more e long = absurd (omega (arith, long))
front_of (x ∷ front) after (y ∷ bytes) more e long =
    let same : y ≡ x = cc in
    let others : bytes ++ more ≡ front ++ after = cc in
    let f = front_of front after bytes more others (omega (arith, long)) in
    (f.0, ap (λ (n : ℕ). n ∷ bytes) same ∙ ap (λ (xs : List ℕ). x ∷ xs) f.1, f.2)

name_shorter : (reader : List ℕ → Option (List ℕ)) (bytes more : List ℕ) (end : ℕ) (units : List ℕ) → BeginsText reader (bytes ++ more) end units → end ≤ length bytes → BeginsText reader bytes end units
name_shorter reader bytes more end units name within =
    let f = front_of (name.high ∷ name.low ∷ name.text) name.after bytes more name.split (omega (arith, within, name.ends)) in
    record {
      high = name.high;
      low = name.low;
      text = name.text;
      after = f.0;
      split = f.1;
      counted = name.counted;
      least = name.least;
      most = name.most;
      named = name.named;
      ends = name.ends;
    }

row_shorter : (most : ℕ) (bytes more : List ℕ) (end : ℕ) (units : List ℕ) → BeginsRow most (bytes ++ more) end units → end ≤ length bytes → BeginsRow most bytes end units
row_shorter zero bytes more end units r within = r
row_shorter (suc most) bytes more end units (inl name) within = inl (name_shorter name_units bytes more end units name within)
row_shorter (suc most) bytes more end units (inr later) within =
    let long : later.first ≤ length bytes = omega (arith, later.ends, within) in
    inr (record {
      first = later.first;
      others = later.others;
      name = name_shorter row_units bytes more later.first later.others later.name long;
      more = later.more;
      later = row_shorter most (drop later.first bytes) more later.more units
          (subst (λ (xs : List ℕ). BeginsRow most xs later.more units) (drop-append-le later.first bytes more long) later.later)
          (omega (arith, later.ends, within, length-drop later.first bytes));
      ends = later.ends;
    })

begins_shorter : (bytes more : List ℕ) (end : ℕ) (units : List ℕ) → Begins (bytes ++ more) end units → end ≤ length bytes → Begins bytes end units
begins_shorter bytes more end units (inl d) within =
    let f = front_of (0x72 ∷ []) d.rest bytes more d.split (omega (arith, within, d.ends)) in
    inl (record {
      rest = f.0;
      split = f.1;
      name_end = d.name_end;
      name = name_shorter name_units f.0 more d.name_end units (subst (λ (xs : List ℕ). BeginsName xs d.name_end units) f.2 d.name) (omega (arith, within, d.ends, ap length f.1));
      ends = d.ends;
    })
begins_shorter bytes more end units (inr i) within =
    let f = front_of (0x7D ∷ 0 ∷ 0 ∷ i.high ∷ i.low ∷ []) i.rest bytes more i.split (omega (arith, within, i.ends)) in
    inr (record {
      low = i.low;
      high = i.high;
      rest = f.0;
      split = f.1;
      row_end = i.row_end;
      row = row_shorter (i.high * 256 + i.low) f.0 more i.row_end units (subst (λ (xs : List ℕ). BeginsRow (i.high * 256 + i.low) xs i.row_end units) f.2 i.row)
          (omega (arith, within, i.ends, ap length f.1));
      ends = i.ends;
    })

pub hidden_shorter : (passes : List ℕ → Bool) (bytes more : List ℕ) (from to : ℕ) → HiddenAt passes (bytes ++ more) from to → to ≤ length bytes → HiddenAt passes bytes from to
hidden_shorter passes bytes more from to hidden within =
    let s = hidden.stands in
    let place : from ≤ length bytes = omega (arith, s.ends, within) in
    record {
      units = hidden.units;
      stands = record {
        end = s.end;
        begins = begins_shorter (drop from bytes) more s.end hidden.units
            (subst (λ (xs : List ℕ). Begins xs s.end hidden.units) (drop-append-le from bytes more place) s.begins)
            (omega (arith, s.ends, within, length-drop from bytes));
        ends = s.ends;
      };
      fails = hidden.fails;
    }

-- and no name ends beyond the bytes
row_within : (most : ℕ) (bytes : List ℕ) (end : ℕ) (units : List ℕ) → BeginsRow most bytes end units → end ≤ length bytes
row_within zero bytes end units r = absurd r
row_within (suc most) bytes end units (inl name) = name_within name_units bytes end units name
row_within (suc most) bytes end units (inr later) =
    omega (arith, later.ends, name_within row_units bytes later.first later.others later.name, row_within most (drop later.first bytes) later.more units later.later, length-drop later.first bytes)

begins_within : (bytes : List ℕ) (end : ℕ) (units : List ℕ) → Begins bytes end units → end ≤ length bytes
begins_within bytes end units (inl d) = omega (arith, d.ends, name_within name_units d.rest d.name_end units d.name, ap length d.split)
begins_within bytes end units (inr i) = omega (arith, i.ends, row_within (i.high * 256 + i.low) i.rest i.row_end units i.row, ap length i.split)

pub hidden_within : (passes : List ℕ → Bool) (bytes : List ℕ) (from to : ℕ) → HiddenAt passes bytes from to → to ≤ length bytes
hidden_within passes bytes from to hidden =
    let s = hidden.stands in
    omega (arith, s.ends, begins_within (drop from bytes) s.end hidden.units s.begins, begins_long (drop from bytes) s.end hidden.units s.begins, length-drop from bytes)

pub hidden_longer : (passes : List ℕ → Bool) (bytes more : List ℕ) (from to : ℕ) → HiddenAt passes bytes from to → HiddenAt passes (bytes ++ more) from to
hidden_longer passes bytes more from to hidden =
    record { units = hidden.units; stands = stands_for_good bytes more from to hidden.units hidden.stands; fails = hidden.fails }

-- ---- the hidden names that end with a byte

-- a name that a slot meets, and that does not pass, is hidden at its place
ended_place : (byte : ℕ) (stage : Stage) (units : List ℕ) → stage ≡ nothing → ended stage byte ≡ Some units → ⊥
ended_place byte stage units e f = let g : None ≡ Some units = sym (ap (λ s. ended s byte) e) ∙ f in absurd cc

slot_hidden_by : (passes : List ℕ → Bool) (taken : List ℕ) (byte : ℕ) (slot : Slot) (units : List ℕ) → Sound (reverse taken) slot → ended slot.stage byte ≡ Some units → passes units ≡ false
    → HiddenAt passes (taken ++ byte ∷ []) slot.place (length taken + 1)
slot_hidden_by passes taken byte slot units (inl none) e fails = absurd (ended_place byte slot.stage units none e)
slot_hidden_by passes taken byte slot units (inr placed) e fails = record {
  units = units;
  stands = ended_stands slot.place byte taken units (omega (arith, placed.inside, length-reverse taken)) (ap (λ s. ended s byte) placed.is ∙ e);
  fails = fails;
}

-- of the hidden names that end with the byte, those that some slots meet: where it is told, one is hidden there
abbrev HiddenWhere : (List ℕ → Bool) → (taken : List ℕ) → (byte : ℕ) → Option ℕ → Type 0
HiddenWhere passes taken byte told = IfSome told (λ place. HiddenAt passes (taken ++ byte ∷ []) place (length taken + 1))

slot_where_by : (passes : List ℕ → Bool) (taken : List ℕ) (byte : ℕ) (slot : Slot) (units : List ℕ) (good : Bool) → Sound (reverse taken) slot → ended slot.stage byte ≡ Some units → passes units ≡ good
    → HiddenWhere passes taken byte (if good then None else Some slot.place)
slot_where_by passes taken byte slot units true s e p = tt
slot_where_by passes taken byte slot units false s e p = slot_hidden_by passes taken byte slot units s e p

slot_where : (passes : List ℕ → Bool) (taken : List ℕ) (byte : ℕ) (slot : Slot) (name : Option (List ℕ)) → Sound (reverse taken) slot → ended slot.stage byte ≡ name
    → HiddenWhere passes taken byte (hidden_of passes slot.place name)
slot_where passes taken byte slot None s e = tt
slot_where passes taken byte slot (Some units) s e = slot_where_by passes taken byte slot units (passes units) s e refl

min_is : (a b : ℕ) → (min a b ≡ a) ⊎ (min a b ≡ b)
min_is a b = elim (cases_lt a b) [ inl less ↦ inl (omega arith) | inr not ↦ inr (omega arith) ]

min_hidden : (passes : List ℕ → Bool) (bytes : List ℕ) (a b to : ℕ) → HiddenAt passes bytes a to → HiddenAt passes bytes b to → HiddenAt passes bytes (min a b) to
min_hidden passes bytes a b to x y = elim (min_is a b) [
  | inl e ↦ subst (λ (n : ℕ). HiddenAt passes bytes n to) (sym e) x
  | inr e ↦ subst (λ (n : ℕ). HiddenAt passes bytes n to) (sym e) y
]

lower_where : (passes : List ℕ → Bool) (taken : List ℕ) (byte : ℕ) (a b : Option ℕ) → HiddenWhere passes taken byte a → HiddenWhere passes taken byte b → HiddenWhere passes taken byte (lower a b)
lower_where passes taken byte None b x y = y
lower_where passes taken byte (Some a) None x y = x
lower_where passes taken byte (Some a) (Some b) x y = min_hidden passes (taken ++ byte ∷ []) a b (length taken + 1) x y

-- a place is told, or one before it
abbrev ToldBy : Option ℕ → ℕ → Type 0
ToldBy None place = ⊥
ToldBy (Some told) place = told ≤ place

left_told : (a b : Option ℕ) (place : ℕ) → ToldBy a place → ToldBy (lower a b) place
left_told None b place t = absurd t
left_told (Some a) None place t = t
left_told (Some a) (Some b) place t = omega (arith, t)

right_told : (a b : Option ℕ) (place : ℕ) → ToldBy b place → ToldBy (lower a b) place
right_told None b place t = t
right_told (Some a) None place t = absurd t
right_told (Some a) (Some b) place t = omega (arith, t)

met_told : (passes : List ℕ → Bool) (slot : Slot) (place byte : ℕ) (units : List ℕ) → passes units ≡ false → MetBy slot place byte units → ToldBy (slot_hidden passes slot byte) place
met_told passes slot place byte units fails m =
    let told : slot_hidden passes slot byte ≡ Some slot.place = ap (λ o. hidden_of passes slot.place o) m.0 ∙ ap (λ b. if b then None else Some slot.place) fails in
    subst (λ o. ToldBy o place) (sym told) (omega (arith, m.1))

slots_told : (passes : List ℕ → Bool) (slots : Slots) (place byte : ℕ) (units : List ℕ) → passes units ≡ false → Met slots place byte units → ToldBy (hidden_place passes slots byte) place
slots_told passes slots place byte units fails (inl m) =
    left_told (slot_hidden passes slots.name byte) (lower (slot_hidden passes slots.even byte) (slot_hidden passes slots.odd byte)) place (met_told passes slots.name place byte units fails m)
slots_told passes slots place byte units fails (inr (inl m)) =
    right_told (slot_hidden passes slots.name byte) (lower (slot_hidden passes slots.even byte) (slot_hidden passes slots.odd byte)) place
    (left_told (slot_hidden passes slots.even byte) (slot_hidden passes slots.odd byte) place (met_told passes slots.even place byte units fails m))
slots_told passes slots place byte units fails (inr (inr m)) =
    right_told (slot_hidden passes slots.name byte) (lower (slot_hidden passes slots.even byte) (slot_hidden passes slots.odd byte)) place
    (right_told (slot_hidden passes slots.even byte) (slot_hidden passes slots.odd byte) place (met_told passes slots.odd place byte units fails m))

-- the answer of a byte: none, or the least place
pub record IsLeastHidden (passes : List ℕ → Bool) (taken : List ℕ) (byte place : ℕ) : Type 0 where
  pub hidden : HiddenAt passes (taken ++ byte ∷ []) place (length taken + 1)
  pub least : (other : ℕ) → HiddenAt passes (taken ++ byte ∷ []) other (length taken + 1) → place ≤ other

abbrev pub TellsByte : (List ℕ → Bool) → (taken : List ℕ) → (byte : ℕ) → Option ℕ → Type 0
TellsByte passes taken byte None = (other : ℕ) → HiddenAt passes (taken ++ byte ∷ []) other (length taken + 1) → ⊥
TellsByte passes taken byte (Some place) = IsLeastHidden passes taken byte place

tells_by : (passes : List ℕ → Bool) (taken : List ℕ) (byte : ℕ) (told : Option ℕ) → HiddenWhere passes taken byte told
    → ((place : ℕ) → HiddenAt passes (taken ++ byte ∷ []) place (length taken + 1) → ToldBy told place) → TellsByte passes taken byte told
tells_by passes taken byte None w t = t
tells_by passes taken byte (Some place) w t = record { hidden = w; least = t }

pub tells_byte : (passes : List ℕ → Bool) (taken : List ℕ) (byte : ℕ) → TellsByte passes taken byte (hidden_place passes (slots_of (reverse taken)) byte)
tells_byte passes taken byte =
    let slots = slots_of (reverse taken) in
    let sound = slots_sound (reverse taken) in
    tells_by passes taken byte (hidden_place passes slots byte)
    (lower_where passes taken byte (slot_hidden passes slots.name byte) (lower (slot_hidden passes slots.even byte) (slot_hidden passes slots.odd byte))
    (slot_where passes taken byte slots.name (ended slots.name.stage byte) sound.name refl)
    (lower_where passes taken byte (slot_hidden passes slots.even byte) (slot_hidden passes slots.odd byte)
    (slot_where passes taken byte slots.even (ended slots.even.stage byte) sound.even refl)
    (slot_where passes taken byte slots.odd (ended slots.odd.stage byte) sound.odd refl)))
    (λ place h. slots_told passes slots place byte h.units h.fails
    (ended_met (reverse taken) slots place (stage_of place (reverse taken)) byte h.units (tracks (reverse taken) place) (stands_ended place byte taken h.units h.stands)))

-- ---- of all bytes, after those before passed

pub all_pass_more : (passes : List ℕ → Bool) (taken : List ℕ) (byte : ℕ) → AllPass passes taken → TellsByte passes taken byte None → AllPass passes (taken ++ byte ∷ [])
all_pass_more passes taken byte all none = λ from to hidden. elim (cases_lt (length taken) to) [
  | inl last ↦
      let e : to ≡ length taken + 1 = omega (arith, last, hidden_within passes (taken ++ byte ∷ []) from to hidden, length-append taken (byte ∷ [])) in
      none from (subst (λ (n : ℕ). HiddenAt passes (taken ++ byte ∷ []) from n) e hidden)
  | inr not ↦ all from to (hidden_shorter passes taken (byte ∷ []) from to hidden (omega arith))
]

-- the first of some bytes is the first of all that begin with them
pub first_longer : (passes : List ℕ → Bool) (bytes more : List ℕ) (from to : ℕ) → IsFirstHidden passes bytes from to → IsFirstHidden passes (bytes ++ more) from to
first_longer passes bytes more from to f = record {
  hidden = hidden_longer passes bytes more from to f.hidden;
  first = λ other_from other_to other. elim (cases_lt to other_to) [
    | inl less ↦ inl less
    | inr not ↦ f.first other_from other_to (hidden_shorter passes bytes more other_from other_to other (omega (arith, not, hidden_within passes bytes from to f.hidden)))
  ];
}

pub first_of_byte : (passes : List ℕ → Bool) (taken : List ℕ) (byte place : ℕ) → AllPass passes taken → TellsByte passes taken byte (Some place)
    → IsFirstHidden passes (taken ++ byte ∷ []) place (length taken + 1)
first_of_byte passes taken byte place all least = record {
  hidden = least.hidden;
  first = λ from to hidden. elim (cases_lt (length taken) to) [
    | inl last ↦
        let e : to ≡ length taken + 1 = omega (arith, last, hidden_within passes (taken ++ byte ∷ []) from to hidden, length-append taken (byte ∷ [])) in
        inr (sym e, least.least from (subst (λ (n : ℕ). HiddenAt passes (taken ++ byte ∷ []) from n) e hidden))
    | inr not ↦ absurd (all from to (hidden_shorter passes taken (byte ∷ []) from to hidden (omega arith)))
  ];
}
