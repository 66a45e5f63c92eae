-- Three slots are enough: no other descriptor's name is being read where one begins, and no other row at an even place, or at an
-- odd one, where one begins there.
use Rattle.std.proofs.Common.{◌≡◌, ℕ, ◌+◌, ◌-◌, ◌*◌, ◌%◌, ◌≤◌, ◌∙◌, ap, sym, subst, Bool, true, false, not, ◌&&◌, ◌==◌, ◌⊎◌, inl, inr, if◌then◌else◌, List, [], ◌∷◌, ◌++◌, length, get_or, refl, arith, eqb-true}
use Rattle.std.specs.Prelude.{nat_le}
use Rattle.std.proofs.lemmas.Bool.Decides.{nat_tests}
use Rattle.jser_anywhere.specs.Stages.{descriptor, row, Stage, nothing, head, text, between, halfway, no_units, is_length, in_name, text_of, row_of}
use Rattle.jser_anywhere.specs.Slots.{Slot, ago, new_name, new_row, is_even, is_odd, if_wanted, moved, filled}
use Rattle.jser_anywhere.proofs.StageLemmas.{IsLength, is_length_of, high_out}

-- ---- new stages

pub record NewName (back : List ℕ) (byte : ℕ) : Type 0 where
  pub high : ℕ
  pub rest : List ℕ
  pub split : back ≡ high ∷ 0x72 ∷ rest
  pub is : IsLength high byte
  pub stage : new_name back byte ≡ text descriptor (high * 256 + byte - 1) no_units

pub record NewRow (back : List ℕ) (byte : ℕ) : Type 0 where
  pub high : ℕ
  pub count_low : ℕ
  pub count_high : ℕ
  pub rest : List ℕ
  pub split : back ≡ high ∷ count_low ∷ count_high ∷ 0 ∷ 0 ∷ 0x7D ∷ rest
  pub some : 1 ≤ count_high * 256 + count_low
  pub is : IsLength high byte
  pub stage : new_row back byte ≡ text (row (count_high * 256 + count_low - 1)) (high * 256 + byte - 1) no_units

new_name_by : (high mark byte : ℕ) (rest : List ℕ) (is_mark is : Bool) → (mark == 0x72) ≡ is_mark → is_length high byte ≡ is
    → (new_name (high ∷ mark ∷ rest) byte ≡ nothing) ⊎ NewName (high ∷ mark ∷ rest) byte
new_name_by high mark byte rest false is m l = inl (ap (λ b. if b then text_of descriptor high byte else nothing) m)
new_name_by high mark byte rest true false m l =
    inl (ap (λ b. if b then text_of descriptor high byte else nothing) m ∙ ap (λ b. if b then text descriptor (high * 256 + byte - 1) no_units else nothing) l)
new_name_by high mark byte rest true true m l = inr (record {
  high = high;
  rest = rest;
  split = ap (λ (n : ℕ). high ∷ n ∷ rest) (eqb-true mark 0x72 m);
  is = is_length_of high byte l;
  stage = ap (λ b. if b then text_of descriptor high byte else nothing) m ∙ ap (λ b. if b then text descriptor (high * 256 + byte - 1) no_units else nothing) l;
})

pub new_name_cases : (back : List ℕ) (byte : ℕ) → (new_name back byte ≡ nothing) ⊎ NewName back byte
new_name_cases [] byte = inl refl
new_name_cases (high ∷ []) byte = inl refl
new_name_cases (high ∷ mark ∷ rest) byte = new_name_by high mark byte rest (mark == 0x72) (is_length high byte) refl refl

new_row_length : (high count_low count_high byte : ℕ) (rest : List ℕ) (some is : Bool) → nat_le 1 (count_high * 256 + count_low) ≡ some → is_length high byte ≡ is
    → (new_row (high ∷ count_low ∷ count_high ∷ 0 ∷ 0 ∷ 0x7D ∷ rest) byte ≡ nothing) ⊎ NewRow (high ∷ count_low ∷ count_high ∷ 0 ∷ 0 ∷ 0x7D ∷ rest) byte
new_row_length high count_low count_high byte rest false is s l =
    inl (ap (λ b. if b then text_of (row (count_high * 256 + count_low - 1)) high byte else nothing) s)
new_row_length high count_low count_high byte rest true false s l =
    inl (ap (λ b. if b then text_of (row (count_high * 256 + count_low - 1)) high byte else nothing) s
    ∙ ap (λ b. if b then text (row (count_high * 256 + count_low - 1)) (high * 256 + byte - 1) no_units else nothing) l)
new_row_length high count_low count_high byte rest true true s l = inr (record {
  high = high;
  count_low = count_low;
  count_high = count_high;
  rest = rest;
  split = refl;
  some = grind (arith, nat_tests, s);
  is = is_length_of high byte l;
  stage = ap (λ b. if b then text_of (row (count_high * 256 + count_low - 1)) high byte else nothing) s
      ∙ ap (λ b. if b then text (row (count_high * 256 + count_low - 1)) (high * 256 + byte - 1) no_units else nothing) l;
})

new_row_by : (high count_low count_high second first mark byte : ℕ) (rest : List ℕ) (is_mark is_first is_second : Bool) → (mark == 0x7D) ≡ is_mark → (first == 0) ≡ is_first → (second == 0) ≡ is_second
    → (new_row (high ∷ count_low ∷ count_high ∷ second ∷ first ∷ mark ∷ rest) byte ≡ nothing) ⊎ NewRow (high ∷ count_low ∷ count_high ∷ second ∷ first ∷ mark ∷ rest) byte
new_row_by high count_low count_high second first mark byte rest false is_first is_second m f s =
    inl (ap (λ b. if b && (first == 0 && second == 0) then row_of count_high count_low high byte else nothing) m)
new_row_by high count_low count_high second first mark byte rest true false is_second m f s =
    inl (ap (λ b. if b && (first == 0 && second == 0) then row_of count_high count_low high byte else nothing) m
    ∙ ap (λ b. if b && second == 0 then row_of count_high count_low high byte else nothing) f)
new_row_by high count_low count_high second first mark byte rest true true false m f s =
    inl (ap (λ b. if b && (first == 0 && second == 0) then row_of count_high count_low high byte else nothing) m
    ∙ ap (λ b. if b && second == 0 then row_of count_high count_low high byte else nothing) f
    ∙ ap (λ b. if b then row_of count_high count_low high byte else nothing) s)
new_row_by high count_low count_high second first mark byte rest true true true m f s =
    let one : mark ≡ 0x7D = eqb-true mark 0x7D m in
    let two : first ≡ 0 = eqb-true first 0 f in
    let three : second ≡ 0 = eqb-true second 0 s in
    let e : high ∷ count_low ∷ count_high ∷ 0 ∷ 0 ∷ 0x7D ∷ rest ≡ high ∷ count_low ∷ count_high ∷ second ∷ first ∷ mark ∷ rest = cc in
    subst (λ (back : List ℕ). (new_row back byte ≡ nothing) ⊎ NewRow back byte) e
    (new_row_length high count_low count_high byte rest (nat_le 1 (count_high * 256 + count_low)) (is_length high byte) refl refl)

pub new_row_cases : (back : List ℕ) (byte : ℕ) → (new_row back byte ≡ nothing) ⊎ NewRow back byte
new_row_cases [] byte = inl refl
new_row_cases (a ∷ []) byte = inl refl
new_row_cases (a ∷ b ∷ []) byte = inl refl
new_row_cases (a ∷ b ∷ c ∷ []) byte = inl refl
new_row_cases (a ∷ b ∷ c ∷ d ∷ []) byte = inl refl
new_row_cases (a ∷ b ∷ c ∷ d ∷ e ∷ []) byte = inl refl
new_row_cases (a ∷ b ∷ c ∷ d ∷ e ∷ f ∷ rest) byte = new_row_by a b c d e f byte rest (f == 0x7D) (e == 0) (d == 0) refl refl refl

-- ---- what a new stage leaves no room for

pub true_false : (b : Bool) → b ≡ true → b ≡ false → ⊥
true_false b t f = let e : true ≡ false = sym t ∙ f in absurd cc

pub record Split (x : ℕ) (xs : List ℕ) (y : ℕ) (ys : List ℕ) : Type 0 where
  pub same : x ≡ y
  pub rest : xs ≡ ys

-- ---- what is known of the last bytes, by what a slot has

-- the last byte is one of the name, or it is the second of its length
abbrev pub NameLast : List ℕ → Type 0
NameLast back = (in_name (ago back 0) ≡ true) ⊎ (in_name (ago back 1) ≡ false)

abbrev pub FitsDescriptor : Stage → List ℕ → Type 0
FitsDescriptor nothing back = Unit {0}
FitsDescriptor (head bytes) back = ⊥
FitsDescriptor (text descriptor left reading) back = NameLast back
FitsDescriptor (text (row more) left reading) back = ⊥
FitsDescriptor (between more) back = ⊥
FitsDescriptor (halfway more high) back = ⊥

-- behind the count of a row no two bytes 0 stand together
abbrev pub NoPair : List ℕ → Type 0
NoPair [] = Unit {0}
NoPair (a ∷ []) = Unit {0}
NoPair (a ∷ b ∷ bytes) = (1 ≤ a + b) × NoPair (b ∷ bytes)

pub record RowShape (wanted : ℕ → Bool) (place : ℕ) (back : List ℕ) : Type 0 where
  pub behind : List ℕ
  pub low : ℕ
  pub high : ℕ
  pub rest : List ℕ
  pub split : back ≡ behind ++ (low ∷ high ∷ 0 ∷ 0 ∷ 0x7D ∷ rest)
  pub at : place ≡ length rest
  pub kind : wanted place ≡ true
  pub some : 1 ≤ high * 256 + low
  pub pairs : NoPair behind
  pub long : 2 ≤ length behind

abbrev pub FitsRow : (wanted : ℕ → Bool) → (place : ℕ) → Stage → List ℕ → Type 0
FitsRow wanted place nothing back = Unit {0}
FitsRow wanted place (head bytes) back = ⊥
FitsRow wanted place (text descriptor left reading) back = ⊥
FitsRow wanted place (text (row more) left reading) back = RowShape wanted place back
FitsRow wanted place (between more) back = RowShape wanted place back × (1 ≤ ago back 0)
FitsRow wanted place (halfway more high) back = RowShape wanted place back × (ago back 0 ≡ high)

-- ---- the name of a descriptor is not being read where another begins

no_name_last : (high byte : ℕ) (rest : List ℕ) → IsLength high byte → NameLast (high ∷ 0x72 ∷ rest) → ⊥
no_name_last high byte rest is (inl e) = true_false (in_name high) e (high_out high byte is)
no_name_last high byte rest is (inr e) = true_false (in_name 0x72) refl e

pub no_old_name : (back : List ℕ) (byte : ℕ) (stage : Stage) → NewName back byte → FitsDescriptor stage back → stage ≡ nothing
no_old_name back byte nothing new f = refl
no_old_name back byte (head bytes) new f = absurd f
no_old_name back byte (text descriptor left reading) new f =
    absurd (no_name_last new.high byte new.rest new.is (subst (λ (bs : List ℕ). NameLast bs) new.split f))
no_old_name back byte (text (row more) left reading) new f = absurd f
no_old_name back byte (between more) new f = absurd f
no_old_name back byte (halfway more high) new f = absurd f

-- ---- where a row begins while another goes on, it begins three places behind that

at_fifth : (xs ys : List ℕ) → xs ≡ ys → get_or xs 5 0 ≡ get_or ys 5 0
at_fifth xs ys e = ap (λ (zs : List ℕ). get_or zs 5 0) e

distance_by : (high count_low count_high : ℕ) (rest behind : List ℕ) (low2 high2 : ℕ) (rest2 : List ℕ) → NoPair behind → 2 ≤ length behind
    → high ∷ count_low ∷ count_high ∷ 0 ∷ 0 ∷ 0x7D ∷ rest ≡ behind ++ (low2 ∷ high2 ∷ 0 ∷ 0 ∷ 0x7D ∷ rest2) → length rest ≡ length rest2 + 3
distance_by high count_low count_high rest [] low2 high2 rest2 pairs long e = absurd (omega (arith, long))
distance_by high count_low count_high rest (a ∷ []) low2 high2 rest2 pairs long e = absurd (omega (arith, long))
distance_by high count_low count_high rest (a ∷ b ∷ []) low2 high2 rest2 pairs long e =
    let no : 0x7D ≡ 0 = at_fifth (high ∷ count_low ∷ count_high ∷ 0 ∷ 0 ∷ 0x7D ∷ rest) (a ∷ b ∷ low2 ∷ high2 ∷ 0 ∷ 0 ∷ 0x7D ∷ rest2) e in
    absurd (omega (arith, no))
distance_by high count_low count_high rest (a ∷ b ∷ c ∷ []) low2 high2 rest2 pairs long e =
    let no : 0x7D ≡ 0 = at_fifth (high ∷ count_low ∷ count_high ∷ 0 ∷ 0 ∷ 0x7D ∷ rest) (a ∷ b ∷ c ∷ low2 ∷ high2 ∷ 0 ∷ 0 ∷ 0x7D ∷ rest2) e in
    absurd (omega (arith, no))
distance_by high count_low count_high rest (a ∷ b ∷ c ∷ d ∷ []) low2 high2 rest2 pairs long e = omega (arith, ap length e)
distance_by high count_low count_high rest (a ∷ b ∷ c ∷ d ∷ x ∷ behind) low2 high2 rest2 pairs long e =
    let fourth : 0 ≡ d = ap (λ (zs : List ℕ). get_or zs 3 0) e in
    let fifth : 0 ≡ x = ap (λ (zs : List ℕ). get_or zs 4 0) e in
    absurd (omega (arith, pairs.1.1.1.0, fourth, fifth))

pub row_distance : (wanted : ℕ → Bool) (back : List ℕ) (byte place : ℕ) → (new : NewRow back byte) → RowShape wanted place back → length new.rest ≡ place + 3
row_distance wanted back byte place new s =
    omega (arith, s.at, distance_by new.high new.count_low new.count_high new.rest s.behind s.low s.high s.rest s.pairs s.long (sym new.split ∙ s.split))

-- the two kinds of places
abbrev pub Flips : (ℕ → Bool) → Type 0
Flips wanted = (place : ℕ) → wanted (place + 3) ≡ not (wanted place)

even_by : (place : ℕ) (is : Bool) → (place % 2 == 0) ≡ is → ((place + 3) % 2 == 0) ≡ not is
even_by place true e = grind (arith, nat_tests, e)
even_by place false e = grind (arith, nat_tests, e)

pub even_flips : Flips is_even
even_flips place = even_by place (place % 2 == 0) refl

pub odd_flips : Flips is_odd
odd_flips place = ap not (even_flips place)

pub record WantedRow (wanted : ℕ → Bool) (back : List ℕ) (byte : ℕ) : Type 0 where
  pub new : NewRow back byte
  pub kind : wanted (length new.rest) ≡ true

no_old_shape : (wanted : ℕ → Bool) (back : List ℕ) (byte place : ℕ) → Flips wanted → WantedRow wanted back byte → RowShape wanted place back → ⊥
no_old_shape wanted back byte place flips w s =
    let other : wanted (place + 3) ≡ true = ap wanted (sym (row_distance wanted back byte place w.new s)) ∙ w.kind in
    true_false (wanted (place + 3)) other (flips place ∙ ap not s.kind)

pub no_old_row : (wanted : ℕ → Bool) (back : List ℕ) (byte place : ℕ) (stage : Stage) → Flips wanted → WantedRow wanted back byte → FitsRow wanted place stage back → stage ≡ nothing
no_old_row wanted back byte place nothing flips w f = refl
no_old_row wanted back byte place (head bytes) flips w f = absurd f
no_old_row wanted back byte place (text descriptor left reading) flips w f = absurd f
no_old_row wanted back byte place (text (row more) left reading) flips w f = absurd (no_old_shape wanted back byte place flips w f)
no_old_row wanted back byte place (between more) flips w f = absurd (no_old_shape wanted back byte place flips w f.0)
no_old_row wanted back byte place (halfway more high) flips w f = absurd (no_old_shape wanted back byte place flips w f.0)

-- ---- what the slots have after a byte

-- the slot of a descriptor
pub name_moved : (back : List ℕ) (byte : ℕ) (slot : Slot) → new_name back byte ≡ nothing → filled (length back - 2) (new_name back byte) (moved slot byte) ≡ moved slot byte
name_moved back byte slot e = ap (λ s. filled (length back - 2) s (moved slot byte)) e

pub name_filled : (back : List ℕ) (byte : ℕ) (slot : Slot) → (new : NewName back byte)
    → filled (length back - 2) (new_name back byte) (moved slot byte) ≡ record { place = length new.rest; stage = text descriptor (new.high * 256 + byte - 1) no_units }
name_filled back byte slot new =
    let at : length back - 2 ≡ length new.rest = omega (arith, ap length new.split) in
    ap (λ s. filled (length back - 2) s (moved slot byte)) new.stage ∙ ap (λ (n : ℕ). record { place = n; stage = text descriptor (new.high * 256 + byte - 1) no_units }) at

-- the slot of a row
abbrev pub row_filled : (wanted : ℕ → Bool) → (back : List ℕ) → (byte : ℕ) → Slot → Slot
row_filled wanted back byte slot = filled (length back - 6) (if_wanted (wanted (length back - 6)) (new_row back byte)) (moved slot byte)

pub unwanted : (is : Bool) → if_wanted is nothing ≡ nothing
unwanted true = refl
unwanted false = refl

wanted_by : (wanted : ℕ → Bool) (back : List ℕ) (byte : ℕ) (is : Bool) → (new : NewRow back byte) → wanted (length back - 6) ≡ is
    → (if_wanted (wanted (length back - 6)) (new_row back byte) ≡ nothing) ⊎ WantedRow wanted back byte
wanted_by wanted back byte false new e = inl (ap (λ b. if b then new_row back byte else nothing) e)
wanted_by wanted back byte true new e =
    let at : length back - 6 ≡ length new.rest = omega (arith, ap length new.split) in
    inr (record { new = new; kind = ap wanted (sym at) ∙ e })

pub wanted_cases : (wanted : ℕ → Bool) (back : List ℕ) (byte : ℕ) → (if_wanted (wanted (length back - 6)) (new_row back byte) ≡ nothing) ⊎ WantedRow wanted back byte
wanted_cases wanted back byte = elim (new_row_cases back byte) [
  | inl none ↦ inl (ap (if_wanted (wanted (length back - 6))) none ∙ unwanted (wanted (length back - 6)))
  | inr new ↦ wanted_by wanted back byte (wanted (length back - 6)) new refl
]

pub row_moved : (wanted : ℕ → Bool) (back : List ℕ) (byte : ℕ) (slot : Slot) → if_wanted (wanted (length back - 6)) (new_row back byte) ≡ nothing → row_filled wanted back byte slot ≡ moved slot byte
row_moved wanted back byte slot e = ap (λ s. filled (length back - 6) s (moved slot byte)) e

abbrev pub row_slot_of : (back : List ℕ) → (byte : ℕ) → NewRow back byte → Slot
row_slot_of back byte new = record { place = length new.rest; stage = text (row (new.count_high * 256 + new.count_low - 1)) (new.high * 256 + byte - 1) no_units }

pub row_new : (wanted : ℕ → Bool) (back : List ℕ) (byte : ℕ) (slot : Slot) → (w : WantedRow wanted back byte) → row_filled wanted back byte slot ≡ row_slot_of back byte w.new
row_new wanted back byte slot w =
    let new = w.new in
    let at : length back - 6 ≡ length new.rest = omega (arith, ap length new.split) in
    ap (λ b. filled (length back - 6) (if_wanted b (new_row back byte)) (moved slot byte)) (ap wanted at ∙ w.kind)
    ∙ ap (λ s. filled (length back - 6) s (moved slot byte)) new.stage
    ∙ ap (λ (n : ℕ). record { place = n; stage = text (row (new.count_high * 256 + new.count_low - 1)) (new.high * 256 + byte - 1) no_units }) at

-- a row that is not over is kept
pub row_kept : (wanted : ℕ → Bool) (back : List ℕ) (byte : ℕ) (slot : Slot) → Flips wanted → FitsRow wanted slot.place slot.stage back → (slot.stage ≡ nothing → ⊥)
    → row_filled wanted back byte slot ≡ moved slot byte
row_kept wanted back byte slot flips f live = elim (wanted_cases wanted back byte) [
  | inl none ↦ row_moved wanted back byte slot none
  | inr w ↦ absurd (live (no_old_row wanted back byte slot.place slot.stage flips w f))
]
