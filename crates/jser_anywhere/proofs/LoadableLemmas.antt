-- The reader of names tells the core of each loadable name, and of nothing else.
use Rattle.std.proofs.Common.{◌≡◌, ℕ, zero, suc, Bool, true, false, ◌==◌, ◌&&◌, ◌+◌, ◌-◌, ◌≤◌, ◌<◌, if◌then◌else◌, List, [], ◌∷◌, ◌++◌, Option, Some, None, length, take, drop, get_or, refl, sym, ap, subst, ◌∙◌, append-nil, append_assoc, arith}
use Rattle.std.specs.Prelude.{nat_le}
use Rattle.std.proofs.lemmas.Bool.{eqb-true}
use Rattle.std.proofs.lemmas.Bool.Decides.{nat_tests}
use Rattle.std.proofs.lemmas.List.{length-append, length-take-le, take-append-drop, drop_more, drop_all, get_or-append-add}
use Rattle.std.proofs.Math.Seq.{take-append_seam, get_or-append_seam}
use Rattle.jser_table.specs.Names.{is_primitive_code}
use Rattle.jser_anywhere.specs.Names.{is_part, plain_from, is_plain, ends_in_brackets, ends_in_semicolon, behind_bracket, inside, peeled, core_next, core_within, core}
use Rattle.jser_anywhere.specs.LoadableNames.{AreParts, IsSegment, AreSegments, dotted, IsPlainName, Wrap, brackets, class, bracket, with_brackets, with_class, are_brackets, is_primitive, IsWrapped, HasCore, ReadsLoadable}
use Rattle.jser_anywhere.proofs.CoreLemmas.{core_is, core_peeled, core_whole, three_units}

-- ---- a unit that passes a test is no other one

other_by : (test : ℕ → Bool) (unit c : ℕ) (t : Bool) → (unit == c) ≡ t → test unit ≡ true → test c ≡ false → t ≡ false
other_by test unit c true is e f = absurd (cc (sym e ∙ ap test (eqb-true unit c is) ∙ f))
other_by test unit c false is e f = refl

pub other : (test : ℕ → Bool) (unit c : ℕ) → test unit ≡ true → test c ≡ false → (unit == c) ≡ false
other test unit c e f = other_by test unit c (unit == c) refl e f

-- ---- plain names are taken

part_on : (wants : Bool) (unit : ℕ) (units : List ℕ) → is_part unit ≡ true → plain_from wants (unit ∷ units) ≡ plain_from false units
part_on wants unit units e =
    ap (λ b. if b then (if wants then false else plain_from true units) else (if is_part unit then plain_from false units else false)) (other is_part unit 0x2E e refl)
    ∙ ap (λ b. if b then plain_from false units else false) e

parts_on : (units more : List ℕ) → AreParts units → plain_from false (units ++ more) ≡ plain_from false more
parts_on [] more h = refl
parts_on (unit ∷ units) more h = part_on false unit (units ++ more) h.0 ∙ parts_on units more h.1

segment_on : (first more : List ℕ) → IsSegment first → plain_from true (first ++ more) ≡ plain_from false more
segment_on [] more h = absurd h
segment_on (unit ∷ units) more h = part_on true unit (units ++ more) h.0 ∙ parts_on units more h.1

dotted_on : (first : List ℕ) (others : List (List ℕ)) → IsSegment first → AreSegments others → plain_from true (dotted first others) ≡ true
dotted_on first [] h k = ap (plain_from true) (sym (append-nil first)) ∙ segment_on first [] h
dotted_on first (next ∷ others) h k = segment_on first (0x2E ∷ dotted next others) h ∙ dotted_on next others k.0 k.1

plain_is : (units : List ℕ) → IsPlainName units → is_plain units ≡ true
plain_is units p = ap (plain_from true) p.units_are ∙ dotted_on p.first p.others p.segment p.segments

-- ---- and what is taken is plain

record Tail (units : List ℕ) : Type 0 where
  more : List ℕ
  others : List (List ℕ)
  inside : AreParts more
  segments : AreSegments others
  are : units ≡ dotted more others

one_before : (unit : ℕ) (more : List ℕ) (others : List (List ℕ)) → dotted (unit ∷ more) others ≡ unit ∷ dotted more others
one_before unit more [] = refl
one_before unit more (next ∷ others) = refl

abbrev Both : List ℕ → Type 0
Both units = (plain_from false units ≡ true → Tail units) × (plain_from true units ≡ true → IsPlainName units)

tail_by : (unit : ℕ) (units : List ℕ) (dot part : Bool) → (unit == 0x2E) ≡ dot → is_part unit ≡ part → Both units
    → (if dot then plain_from true units else (if part then plain_from false units else false)) ≡ true → Tail (unit ∷ units)
tail_by unit units true part d p both e =
    let w = both.1 e in
    record {
      more = [];
      others = w.first ∷ w.others;
      inside = tt;
      segments = (w.segment, w.segments);
      are = ap (λ u. u ∷ units) (eqb-true unit 0x2E d) ∙ ap (λ us. 0x2E ∷ us) w.units_are;
    }
tail_by unit units false false d p both e = absurd cc
tail_by unit units false true d p both e =
    let t = both.0 e in
    record {
      more = unit ∷ t.more;
      others = t.others;
      inside = (p, t.inside);
      segments = t.segments;
      are = ap (λ us. unit ∷ us) t.are ∙ sym (one_before unit t.more t.others);
    }

whole_by : (unit : ℕ) (units : List ℕ) (dot part : Bool) → (unit == 0x2E) ≡ dot → is_part unit ≡ part → Both units
    → (if dot then false else (if part then plain_from false units else false)) ≡ true → IsPlainName (unit ∷ units)
whole_by unit units true part d p both e = absurd cc
whole_by unit units false false d p both e = absurd cc
whole_by unit units false true d p both e =
    let t = both.0 e in
    record {
      first = unit ∷ t.more;
      others = t.others;
      segment = (p, t.inside);
      segments = t.segments;
      units_are = ap (λ us. unit ∷ us) t.are ∙ sym (one_before unit t.more t.others);
    }

both_of : (units : List ℕ) → Both units
both_of [] = (λ e. record { more = []; others = []; inside = tt; segments = tt; are = refl }, λ e. absurd cc)
both_of (unit ∷ units) = (
  λ e. tail_by unit units (unit == 0x2E) (is_part unit) refl refl (both_of units) e,
  λ e. whole_by unit units (unit == 0x2E) (is_part unit) refl refl (both_of units) e,
)

pub is_plain_name : (units : List ℕ) → is_plain units ≡ true → IsPlainName units
is_plain_name units e = (both_of units).1 e

-- ---- nothing can be taken off a plain name

true_false : (b : Bool) → b ≡ true → b ≡ false → ⊥
true_false b t f = let e : true ≡ false = sym t ∙ f in absurd cc

abbrev NoUnit : ℕ → List ℕ → Type 0
NoUnit c units = (wants : Bool) (i : ℕ) → plain_from wants units ≡ true → i < length units → (get_or units i 0 == c) ≡ true → ⊥

no_unit_by : (c : ℕ) (wants : Bool) (unit : ℕ) (units : List ℕ) (i : ℕ) (dot part : Bool) → (unit == 0x2E) ≡ dot → is_part unit ≡ part → is_part c ≡ false → (c == 0x2E) ≡ false → NoUnit c units
    → (if dot then (if wants then false else plain_from true units) else (if part then plain_from false units else false)) ≡ true → i < length (unit ∷ units) → (get_or (unit ∷ units) i 0 == c) ≡ true → ⊥
no_unit_by c true unit units i true part du pu p d later e less is = absurd cc
no_unit_by c false unit units zero true part du pu p d later e less is =
    true_false (c == 0x2E) (ap (λ (n : ℕ). n == 0x2E) (sym (eqb-true unit c is)) ∙ du) d
no_unit_by c false unit units (suc i) true part du pu p d later e less is = later true i e (omega (arith, less)) is
no_unit_by c wants unit units i false false du pu p d later e less is = absurd cc
no_unit_by c wants unit units zero false true du pu p d later e less is = true_false (is_part c) (ap is_part (sym (eqb-true unit c is)) ∙ pu) p
no_unit_by c wants unit units (suc i) false true du pu p d later e less is = later false i e (omega (arith, less)) is

no_unit : (c : ℕ) (units : List ℕ) → is_part c ≡ false → (c == 0x2E) ≡ false → NoUnit c units
no_unit c [] p d = λ wants i e less is. absurd (omega (arith, less))
no_unit c (unit ∷ units) p d = λ wants i e less is. no_unit_by c wants unit units i (unit == 0x2E) (is_part unit) refl refl p d (no_unit c units p d) e less is

last_of_three : (a b c : Bool) → (a && b && c) ≡ true → c ≡ true
last_of_three true true c e = e
last_of_three true false c e = absurd cc
last_of_three false b c e = absurd cc

second_of_three : (a b c : Bool) → (a && b && c) ≡ true → b ≡ true
second_of_three true true c e = refl
second_of_three true false c e = absurd cc
second_of_three false b c e = absurd cc

no_brackets : (units : List ℕ) (is : Bool) → is_plain units ≡ true → ends_in_brackets units ≡ is → is ≡ false
no_brackets units false p e = refl
no_brackets units true p e =
    let long = three_units units e in
    absurd (no_unit 0x5D units refl refl true (length units - 1) p (omega arith)
    (last_of_three (nat_le 3 (length units)) (get_or units (length units - 2) 0 == 0x5B) (get_or units (length units - 1) 0 == 0x5D) e))

inside_none : (a : ℕ) (rest : List ℕ) → (a == 0x5B) ≡ false → inside (a ∷ rest) ≡ None
inside_none a rest e = ap (λ t. if t then behind_bracket rest else None) e

plain_inside : (units : List ℕ) → is_plain units ≡ true → inside units ≡ None
plain_inside [] p = refl
plain_inside (a ∷ rest) p = inside_none a rest (first_other (a == 0x5B) refl)
  where
    first_other : (is : Bool) → (a == 0x5B) ≡ is → is ≡ false
    first_other false e = refl
    first_other true e = absurd (no_unit 0x5B (a ∷ rest) refl refl true 0 p (omega arith) e)

plain_core : (units : List ℕ) → IsPlainName units → core units ≡ Some units
plain_core units p =
    let is = plain_is units p in
    let none : peeled units ≡ None =
    ap (λ b. if b then Some (take (length units - 2) units) else inside units) (no_brackets units (ends_in_brackets units) is refl) ∙ plain_inside units is in
    core_whole units none ∙ ap (λ b. if b then Some units else None) is

-- ---- what is made of a name has its core

all_three : (a b c : Bool) → a ≡ true → b ≡ true → c ≡ true → (a && b && c) ≡ true
all_three a b c x y z = cc

unit_at : (front : List ℕ) (unit : ℕ) (rest : List ℕ) (i : ℕ) → i ≡ length front → get_or (front ++ unit ∷ rest) i 0 ≡ unit
unit_at front unit rest i e = ap (λ (n : ℕ). get_or (front ++ unit ∷ rest) n 0) e ∙ get_or-append_seam front unit rest 0

second_at : (front : List ℕ) (a b : ℕ) (i : ℕ) → i ≡ length front + 1 → get_or (front ++ a ∷ b ∷ []) i 0 ≡ b
second_at front a b i e = ap (λ (n : ℕ). get_or (front ++ a ∷ b ∷ []) n 0) e ∙ get_or-append-add front (a ∷ b ∷ []) 1 0

front_of : (front rest : List ℕ) (n : ℕ) → n ≡ length front → take n (front ++ rest) ≡ front
front_of front rest n e = ap (λ (k : ℕ). take k (front ++ rest)) e ∙ take-append_seam front rest

ends_so : (inner : List ℕ) → 1 ≤ length inner → ends_in_brackets (with_brackets inner) ≡ true
ends_so inner some =
    let whole = with_brackets inner in
    let long : length whole ≡ length inner + 2 = length-append inner (0x5B ∷ 0x5D ∷ []) in
    all_three (nat_le 3 (length whole)) (get_or whole (length whole - 2) 0 == 0x5B) (get_or whole (length whole - 1) 0 == 0x5D) (grind (arith, nat_tests, long, some))
    (ap (λ (u : ℕ). u == 0x5B) (unit_at inner 0x5B (0x5D ∷ []) (length whole - 2) (omega (arith, long))))
    (ap (λ (u : ℕ). u == 0x5D) (second_at inner 0x5B 0x5D (length whole - 1) (omega (arith, long))))

peels_brackets : (inner : List ℕ) → 1 ≤ length inner → peeled (with_brackets inner) ≡ Some inner
peels_brackets inner some =
    let whole = with_brackets inner in
    let long : length whole ≡ length inner + 2 = length-append inner (0x5B ∷ 0x5D ∷ []) in
    ap (λ b. if b then Some (take (length whole - 2) whole) else inside whole) (ends_so inner some) ∙ ap Some (front_of inner (0x5B ∷ 0x5D ∷ []) (length whole - 2) (omega (arith, long)))

semicolon_last : (inner : List ℕ) → ends_in_semicolon (inner ++ 0x3B ∷ []) ≡ true
semicolon_last inner =
    let long : length (inner ++ 0x3B ∷ []) ≡ length inner + 1 = length-append inner (0x3B ∷ []) in
    let some : nat_le 1 (length (inner ++ 0x3B ∷ [])) ≡ true = grind (arith, nat_tests, long) in
    ap (λ b. b && get_or (inner ++ 0x3B ∷ []) (length (inner ++ 0x3B ∷ []) - 1) 0 == 0x3B) some
    ∙ ap (λ (u : ℕ). u == 0x3B) (unit_at inner 0x3B [] (length (inner ++ 0x3B ∷ []) - 1) (omega (arith, long)))

none_last : (a b c : Bool) → c ≡ false → (a && b && c) ≡ false
none_last true true c e = e
none_last true false c e = refl
none_last false b c e = refl

class_no_brackets : (inner : List ℕ) → ends_in_brackets (with_class inner) ≡ false
class_no_brackets inner =
    let whole = with_class inner in
    let long : length whole ≡ length inner + 3 = omega (arith, length-append inner (0x3B ∷ [])) in
    none_last (nat_le 3 (length whole)) (get_or whole (length whole - 2) 0 == 0x5B) (get_or whole (length whole - 1) 0 == 0x5D)
    (ap (λ (u : ℕ). u == 0x5D) (unit_at (0x5B ∷ 0x4C ∷ inner) 0x3B [] (length whole - 1) (omega (arith, long))))

first_of_three : (a b c : Bool) → (a && b && c) ≡ true → a ≡ true
first_of_three true b c e = refl
first_of_three false b c e = absurd cc

both_true : (a b : Bool) → (a && b) ≡ true → (a ≡ true) × (b ≡ true)
both_true true true e = (refl, refl)
both_true true false e = absurd cc
both_true false b e = absurd cc

both_and : (a b : Bool) → a ≡ true → b ≡ true → (a && b) ≡ true
both_and a b x y = cc

suc_same : (n m : ℕ) → suc n ≡ suc m → n ≡ m
suc_same n m e = omega (arith, e)

two_last : (units : List ℕ) → 2 ≤ length units → units ≡ take (length units - 2) units ++ get_or units (length units - 2) 0 ∷ get_or units (length units - 1) 0 ∷ []
two_last units two =
    let first : drop (length units - 2) units ≡ get_or units (length units - 2) 0 ∷ drop (length units - 2 + 1) units = drop_more units (length units - 2) 0 (omega arith) in
    let next : length units - 2 + 1 ≡ length units - 1 = omega arith in
    let second : drop (length units - 1) units ≡ get_or units (length units - 1) 0 ∷ drop (length units - 1 + 1) units = drop_more units (length units - 1) 0 (omega arith) in
    sym (take-append-drop (length units - 2) units)
    ∙ ap (λ xs. take (length units - 2) units ++ xs) (first ∙ ap (λ xs. get_or units (length units - 2) 0 ∷ xs) (ap (λ (n : ℕ). drop n units) next
    ∙ second ∙ ap (λ xs. get_or units (length units - 1) 0 ∷ xs) (drop_all (length units - 1 + 1) units (omega arith))))

brackets_off : (units : List ℕ) → ends_in_brackets units ≡ true → units ≡ with_brackets (take (length units - 2) units)
brackets_off units e =
    let long = three_units units e in
    let a : get_or units (length units - 2) 0 ≡ 0x5B =
    eqb-true _ 0x5B (second_of_three (nat_le 3 (length units)) (get_or units (length units - 2) 0 == 0x5B) (get_or units (length units - 1) 0 == 0x5D) e) in
    let b : get_or units (length units - 1) 0 ≡ 0x5D =
    eqb-true _ 0x5D (last_of_three (nat_le 3 (length units)) (get_or units (length units - 2) 0 == 0x5B) (get_or units (length units - 1) 0 == 0x5D) e) in
    two_last units (omega arith) ∙ ap (λ (u : ℕ). take (length units - 2) units ++ u ∷ get_or units (length units - 1) 0 ∷ []) a
    ∙ ap (λ (u : ℕ). take (length units - 2) units ++ 0x5B ∷ u ∷ []) b

behind_class : (inner : List ℕ) → behind_bracket (0x4C ∷ (inner ++ 0x3B ∷ [])) ≡ Some inner
behind_class [] = refl
behind_class (u ∷ us) =
    let rest = us ++ 0x3B ∷ [] in
    ap (λ b. if b then Some (take (length rest) (u ∷ rest)) else Some (0x4C ∷ u ∷ rest)) (semicolon_last (u ∷ us))
    ∙ ap Some (front_of (u ∷ us) (0x3B ∷ []) (length rest) (omega (arith, length-append us (0x3B ∷ []))))

peels_class : (inner : List ℕ) → peeled (with_class inner) ≡ Some inner
peels_class inner =
    ap (λ b. if b then Some (take (length (with_class inner) - 2) (with_class inner)) else inside (with_class inner)) (class_no_brackets inner) ∙ behind_class inner

-- ---- one `[` more makes no difference, but before the letter of a primitive type

semicolon_no_brackets : (units : List ℕ) (is : Bool) → ends_in_semicolon units ≡ true → ends_in_brackets units ≡ is → is ≡ false
semicolon_no_brackets units false s e = refl
semicolon_no_brackets units true s e = absurd (true_false (0x3B == 0x5D) (ap (λ (u : ℕ). u == 0x5D) (sym last) ∙ bracket_last) refl)
  where
    last : get_or units (length units - 1) 0 ≡ 0x3B
    last = eqb-true _ 0x3B (both_true (nat_le 1 (length units)) (get_or units (length units - 1) 0 == 0x3B) s).1

    bracket_last : (get_or units (length units - 1) 0 == 0x5D) ≡ true
    bracket_last = last_of_three (nat_le 3 (length units)) (get_or units (length units - 2) 0 == 0x5B) (get_or units (length units - 1) 0 == 0x5D) e

-- what ends in `;` and does not begin with `[` names no class
semicolon_unnamed : (first : ℕ) (rest : List ℕ) → (first == 0x5B) ≡ false → ends_in_semicolon (first ∷ rest) ≡ true → core (first ∷ rest) ≡ None
semicolon_unnamed first rest e s =
    core_whole (first ∷ rest)
    (ap (λ b. if b then Some (take (length (first ∷ rest) - 2) (first ∷ rest)) else inside (first ∷ rest)) (semicolon_no_brackets (first ∷ rest) (ends_in_brackets (first ∷ rest)) s refl)
    ∙ inside_none first rest e)
    ∙ ap (λ b. if b then Some (first ∷ rest) else None) (not_plain (is_plain (first ∷ rest)) refl)
  where
    not_plain : (is : Bool) → is_plain (first ∷ rest) ≡ is → is ≡ false
    not_plain false p = refl
    not_plain true p = absurd (no_unit 0x3B (first ∷ rest) refl refl true (length (first ∷ rest) - 1) p (omega arith)
        (both_true (nat_le 1 (length (first ∷ rest))) (get_or (first ∷ rest) (length (first ∷ rest) - 1) 0 == 0x3B) s).1)

no_name : (units name : List ℕ) → core units ≡ None → core units ≡ Some name → ⊥
no_name units name n s = let e : None ≡ Some name = sym n ∙ s in absurd cc

none_named : (name : List ℕ) → core [] ≡ Some name → ⊥
unfolding core
none_named name e = absurd cc

only_brackets : (name : List ℕ) → core (0x5B ∷ 0x5D ∷ []) ≡ Some name → ⊥
unfolding core
only_brackets name e = absurd cc

letter_behind : (u : ℕ) (p : Bool) → is_primitive_code u ≡ p → (p && true) ≡ false → behind_bracket (u ∷ []) ≡ Some (u ∷ [])
letter_behind u true e f = absurd cc
letter_behind u false e f = ap (λ b. if b then None else Some (u ∷ [])) e

-- its last unit is that of the units behind its first
semicolon_longer : (a b : ℕ) (rest : List ℕ) → ends_in_semicolon (b ∷ rest) ≡ true → ends_in_semicolon (a ∷ b ∷ rest) ≡ true
semicolon_longer a b rest e =
    let whole = a ∷ b ∷ rest in
    let n : length (b ∷ rest) - 1 ≡ length rest = omega arith in
    let m : length whole - 1 ≡ suc (length rest) = omega arith in
    both_and (nat_le 1 (length whole)) (get_or whole (length whole - 1) 0 == 0x3B) (grind (arith, nat_tests))
    (ap (λ (i : ℕ). get_or whole i 0 == 0x3B) m ∙ ap (λ (i : ℕ). get_or (b ∷ rest) i 0 == 0x3B) (sym n)
    ∙ (both_true (nat_le 1 (length (b ∷ rest))) (get_or (b ∷ rest) (length (b ∷ rest) - 1) 0 == 0x3B) e).1)

class_behind : (u v : ℕ) (rest name : List ℕ) (p q : Bool) → (u == 0x4C) ≡ p → ends_in_semicolon (v ∷ rest) ≡ q → core (u ∷ v ∷ rest) ≡ Some name → behind_bracket (u ∷ v ∷ rest) ≡ Some (u ∷ v ∷ rest)
class_behind u v rest name false q e f c = ap (λ b. if b && ends_in_semicolon (v ∷ rest) then Some (take (length rest) (v ∷ rest)) else Some (u ∷ v ∷ rest)) e
class_behind u v rest name true false e f c =
    ap (λ b. if b && ends_in_semicolon (v ∷ rest) then Some (take (length rest) (v ∷ rest)) else Some (u ∷ v ∷ rest)) e
    ∙ ap (λ b. if b then Some (take (length rest) (v ∷ rest)) else Some (u ∷ v ∷ rest)) f
class_behind u v rest name true true e f c =
    let no : (u == 0x5B) ≡ false = ap (λ (n : ℕ). n == 0x5B) (eqb-true u 0x4C e) in
    absurd (no_name (u ∷ v ∷ rest) name (semicolon_unnamed u (v ∷ rest) no (semicolon_longer u v rest f)) c)

behind_named : (inner name : List ℕ) → core inner ≡ Some name → is_primitive inner ≡ false → behind_bracket inner ≡ Some inner
behind_named [] name c p = absurd (none_named name c)
behind_named (u ∷ []) name c p = letter_behind u (is_primitive_code u) refl p
behind_named (u ∷ v ∷ rest) name c p = class_behind u v rest name (u == 0x4C) (ends_in_semicolon (v ∷ rest)) refl refl c

more_brackets : (units : List ℕ) → are_brackets units ≡ true → are_brackets (with_brackets units) ≡ true
more_brackets [] e = refl
more_brackets (a ∷ []) e = absurd cc
more_brackets (a ∷ b ∷ units) e =
    all_three (a == 0x5B) (b == 0x5D) (are_brackets (with_brackets units)) (first_of_three (a == 0x5B) (b == 0x5D) (are_brackets units) e)
    (second_of_three (a == 0x5B) (b == 0x5D) (are_brackets units) e) (more_brackets units (last_of_three (a == 0x5B) (b == 0x5D) (are_brackets units) e))

more_primitive : (units : List ℕ) → is_primitive units ≡ true → is_primitive (with_brackets units) ≡ true
more_primitive [] e = absurd cc
more_primitive (u ∷ units) e =
    let both = both_true (is_primitive_code u) (are_brackets units) e in
    both_and (is_primitive_code u) (are_brackets (with_brackets units)) both.0 (more_brackets units both.1)

fewer_primitive : (front : List ℕ) (is : Bool) → is_primitive front ≡ is → is_primitive (with_brackets front) ≡ false → is ≡ false
fewer_primitive front false e f = refl
fewer_primitive front true e f = absurd (true_false (is_primitive (with_brackets front)) (more_primitive front e) f)

-- where the longer one ends in `[]`, so does the shorter one
same_end : (x y z : ℕ) (zs : List ℕ) → ends_in_brackets (0x5B ∷ x ∷ y ∷ z ∷ zs) ≡ true → ends_in_brackets (x ∷ y ∷ z ∷ zs) ≡ true
same_end x y z zs e =
    let longer = 0x5B ∷ x ∷ y ∷ z ∷ zs in
    let shorter = x ∷ y ∷ z ∷ zs in
    let a : length longer - 2 ≡ suc (suc (length zs)) = omega arith in
    let b : length longer - 1 ≡ suc (suc (suc (length zs))) = omega arith in
    let c : length shorter - 2 ≡ suc (length zs) = omega arith in
    let d : length shorter - 1 ≡ suc (suc (length zs)) = omega arith in
    all_three (nat_le 3 (length shorter)) (get_or shorter (length shorter - 2) 0 == 0x5B) (get_or shorter (length shorter - 1) 0 == 0x5D) (grind (arith, nat_tests))
    (ap (λ (n : ℕ). get_or shorter n 0 == 0x5B) c ∙ ap (λ (n : ℕ). get_or longer n 0 == 0x5B) (sym a)
    ∙ second_of_three (nat_le 3 (length longer)) (get_or longer (length longer - 2) 0 == 0x5B) (get_or longer (length longer - 1) 0 == 0x5D) e)
    (ap (λ (n : ℕ). get_or shorter n 0 == 0x5D) d ∙ ap (λ (n : ℕ). get_or longer n 0 == 0x5D) (sym b)
    ∙ last_of_three (nat_le 3 (length longer)) (get_or longer (length longer - 2) 0 == 0x5B) (get_or longer (length longer - 1) 0 == 0x5D) e)

peels_end : (units inner : List ℕ) (n : ℕ) → ends_in_brackets units ≡ true → length units - 2 ≡ n → take n units ≡ inner → peeled units ≡ Some inner
peels_end units inner n e long is =
    ap (λ b. if b then Some (take (length units - 2) units) else inside units) e ∙ ap (λ (k : ℕ). Some (take k units)) long ∙ ap Some is

abbrev SameCore : ℕ → Type 0
SameCore n = (inner name : List ℕ) → length inner ≤ n → core inner ≡ Some name → is_primitive inner ≡ false → core (0x5B ∷ inner) ≡ Some name

bracket_long : (n x y z : ℕ) (zs name : List ℕ) → SameCore n → length zs + 1 ≤ n → core (x ∷ y ∷ z ∷ zs) ≡ Some name → is_primitive (x ∷ y ∷ z ∷ zs) ≡ false
    → ends_in_brackets (0x5B ∷ x ∷ y ∷ z ∷ zs) ≡ true → core (0x5B ∷ x ∷ y ∷ z ∷ zs) ≡ Some name
bracket_long n x y z zs name later few c p e =
    let inner = x ∷ y ∷ z ∷ zs in
    let f : ends_in_brackets inner ≡ true = same_end x y z zs e in
    let front = take (suc (length zs)) inner in
    let same : length inner - 2 ≡ suc (length zs) = omega arith in
    let off : inner ≡ with_brackets front = brackets_off inner f ∙ ap (λ (k : ℕ). with_brackets (take k inner)) same in
    let named : core front ≡ Some name = sym (core_peeled inner front (peels_end inner front (suc (length zs)) f (omega arith) refl)) ∙ c in
    let no : is_primitive front ≡ false = fewer_primitive front (is_primitive front) refl (ap is_primitive (sym off) ∙ p) in
    core_peeled (0x5B ∷ inner) (0x5B ∷ front) (peels_end (0x5B ∷ inner) (0x5B ∷ front) (suc (suc (length zs))) e (omega arith) refl)
    ∙ later front name (omega (arith, few, length-take-le (suc (length zs)) inner (omega arith))) named no

bracket_ends : (n : ℕ) (inner name : List ℕ) → ((m : ℕ) → n ≡ suc m → SameCore m) → length inner ≤ n → core inner ≡ Some name → is_primitive inner ≡ false
    → ends_in_brackets (0x5B ∷ inner) ≡ true → core (0x5B ∷ inner) ≡ Some name
bracket_ends n [] name later few c p e = absurd cc
bracket_ends n (x ∷ []) name later few c p e = absurd cc
bracket_ends n (x ∷ y ∷ []) name later few c p e =
    let both = both_true (x == 0x5B) (y == 0x5D) e in
    absurd (only_brackets name (ap (λ (u : ℕ). core (u ∷ 0x5D ∷ [])) (sym (eqb-true x 0x5B both.0)) ∙ ap (λ (u : ℕ). core (x ∷ u ∷ [])) (sym (eqb-true y 0x5D both.1)) ∙ c))
bracket_ends zero (x ∷ y ∷ z ∷ zs) name later few c p e = absurd (omega (arith, few))
bracket_ends (suc m) (x ∷ y ∷ z ∷ zs) name later few c p e = bracket_long m x y z zs name (later m refl) (omega (arith, few)) c p e

bracket_by : (n : ℕ) (inner name : List ℕ) (is : Bool) → ends_in_brackets (0x5B ∷ inner) ≡ is → core inner ≡ Some name → is_primitive inner ≡ false
    → (ends_in_brackets (0x5B ∷ inner) ≡ true → core (0x5B ∷ inner) ≡ Some name) → core (0x5B ∷ inner) ≡ Some name
bracket_by n inner name false e c p later =
    core_peeled (0x5B ∷ inner) inner (ap (λ b. if b then Some (take (length (0x5B ∷ inner) - 2) (0x5B ∷ inner)) else inside (0x5B ∷ inner)) e ∙ behind_named inner name c p) ∙ c
bracket_by n inner name true e c p later = later e

bracket_core : (n : ℕ) → SameCore n
bracket_core zero = λ inner name few c p. bracket_by 0 inner name (ends_in_brackets (0x5B ∷ inner)) refl c p (λ e. bracket_ends 0 inner name (λ m same. absurd cc) few c p e)
bracket_core (suc n) = λ inner name few c p. bracket_by (suc n) inner name (ends_in_brackets (0x5B ∷ inner)) refl c p
    (λ e. bracket_ends (suc n) inner name (λ m same. subst SameCore (suc_same n m same) (bracket_core n)) few c p e)

core_some : (inner name : List ℕ) → core inner ≡ Some name → 1 ≤ length inner
unfolding core
core_some [] name e = absurd cc
core_some (unit ∷ inner) name e = omega arith

wrapped_core : (wraps : List Wrap) (name units : List ℕ) → IsPlainName name → IsWrapped wraps name units → core units ≡ Some name
wrapped_core [] name units p w = ap core w ∙ plain_core name p
wrapped_core (brackets ∷ wraps) name units p w =
    let within = wrapped_core wraps name w.inner p w.inner_is in
    ap core w.units_are ∙ core_peeled (with_brackets w.inner) w.inner (peels_brackets w.inner (core_some w.inner name within)) ∙ within
wrapped_core (class ∷ wraps) name units p w =
    ap core w.units_are ∙ core_peeled (with_class w.inner) w.inner (peels_class w.inner) ∙ wrapped_core wraps name w.inner p w.inner_is
wrapped_core (bracket ∷ wraps) name units p w =
    ap core w.units_are ∙ bracket_core (length w.inner) w.inner name (omega arith) (wrapped_core wraps name w.inner p w.inner_is.1) w.inner_is.0

-- ---- and nothing else has one

with_wrap : (wrap : Wrap) (name units : List ℕ) → IsPlainName name → (wraps : List Wrap) → IsWrapped (wrap ∷ wraps) name units → HasCore units name
with_wrap wrap name units p wraps w = record { plain = p; wraps = wrap ∷ wraps; wrapped = w }

one_last : (units : List ℕ) → 1 ≤ length units → units ≡ take (length units - 1) units ++ get_or units (length units - 1) 0 ∷ []
one_last units one =
    let last : drop (length units - 1) units ≡ get_or units (length units - 1) 0 ∷ drop (length units - 1 + 1) units = drop_more units (length units - 1) 0 (omega arith) in
    sym (take-append-drop (length units - 1) units)
    ∙ ap (λ xs. take (length units - 1) units ++ xs) (last ∙ ap (λ xs. get_or units (length units - 1) 0 ∷ xs) (drop_all (length units - 1 + 1) units (omega arith)))

semicolon_off : (units : List ℕ) → ends_in_semicolon units ≡ true → units ≡ take (length units - 1) units ++ 0x3B ∷ []
semicolon_off units e =
    let both = both_true (nat_le 1 (length units)) (get_or units (length units - 1) 0 == 0x3B) e in
    let some : 1 ≤ length units = grind (arith, nat_tests, both.0) in
    one_last units some ∙ ap (λ (u : ℕ). take (length units - 1) units ++ u ∷ []) (eqb-true _ 0x3B both.1)

class_has : (rest inner name : List ℕ) → ends_in_semicolon rest ≡ true → take (length rest - 1) rest ≡ inner → HasCore inner name → HasCore (0x5B ∷ 0x4C ∷ rest) name
class_has rest inner name e same h = with_wrap class name (0x5B ∷ 0x4C ∷ rest) h.plain h.wraps (record {
  inner = inner;
  units_are = ap (λ (xs : List ℕ). 0x5B ∷ 0x4C ∷ xs) (semicolon_off rest e ∙ ap (λ (xs : List ℕ). xs ++ 0x3B ∷ []) same);
  inner_is = h.wrapped;
})

bracket_has : (inner name : List ℕ) → is_primitive inner ≡ false → HasCore inner name → HasCore (0x5B ∷ inner) name
bracket_has inner name p h = with_wrap bracket name (0x5B ∷ inner) h.plain h.wraps (record { inner = inner; units_are = refl; inner_is = (p, h.wrapped) })

-- where `[]` stands behind some letter, the whole ends in it
brackets_end : (front units : List ℕ) (a b : ℕ) → 1 ≤ length front → are_brackets (a ∷ b ∷ units) ≡ true → ends_in_brackets (front ++ a ∷ b ∷ units) ≡ true
brackets_end front [] a b some e =
    let one : a ≡ 0x5B = eqb-true a 0x5B (first_of_three (a == 0x5B) (b == 0x5D) true e) in
    let two : b ≡ 0x5D = eqb-true b 0x5D (second_of_three (a == 0x5B) (b == 0x5D) true e) in
    ap (λ (u : ℕ). ends_in_brackets (front ++ u ∷ b ∷ [])) one ∙ ap (λ (u : ℕ). ends_in_brackets (front ++ 0x5B ∷ u ∷ [])) two ∙ ends_so front some
brackets_end front (c ∷ []) a b some e = absurd (let no : false ≡ true = last_of_three (a == 0x5B) (b == 0x5D) false e in cc no)
brackets_end front (c ∷ d ∷ units) a b some e =
    ap ends_in_brackets (sym (append_assoc front (a ∷ b ∷ []) (c ∷ d ∷ units)))
    ∙ brackets_end (front ++ a ∷ b ∷ []) units c d (omega (arith, length-append front (a ∷ b ∷ []))) (last_of_three (a == 0x5B) (b == 0x5D) (are_brackets (c ∷ d ∷ units)) e)

letters_end : (u : ℕ) (units : List ℕ) (p : Bool) → is_primitive_code u ≡ p → behind_bracket (u ∷ units) ≡ Some (u ∷ units) → ends_in_brackets (0x5B ∷ u ∷ units) ≡ false → (is : Bool) → are_brackets units ≡ is → (p && is) ≡ false
letters_end u units false c h e is f = refl
letters_end u units true c h e false f = refl
letters_end u [] true c h e true f = absurd (let none : None ≡ Some (u ∷ []) = ap (λ b. if b then None else Some (u ∷ [])) (sym c) ∙ h in cc none)
letters_end u (a ∷ []) true c h e true f = absurd cc
letters_end u (a ∷ b ∷ units) true c h e true f = absurd (true_false (ends_in_brackets (0x5B ∷ u ∷ a ∷ b ∷ units)) (brackets_end (0x5B ∷ u ∷ []) units a b (omega arith) f) e)

no_primitive : (units : List ℕ) → behind_bracket units ≡ Some units → ends_in_brackets (0x5B ∷ units) ≡ false → is_primitive units ≡ false
no_primitive [] h e = refl
no_primitive (u ∷ units) h e = letters_end u units (is_primitive_code u) refl h e (are_brackets units) refl

-- behind a `[` all of it stands inside, or what is between `L` and `;`
behind_has : (rest inner name : List ℕ) → behind_bracket rest ≡ Some inner → ends_in_brackets (0x5B ∷ rest) ≡ false → HasCore inner name → HasCore (0x5B ∷ rest) name
behind_has [] inner name b e h = absurd cc
behind_has (u ∷ []) inner name b e h = one_has (is_primitive_code u) refl b
  where
    one_has : (p : Bool) → is_primitive_code u ≡ p → (if p then None else Some (u ∷ [])) ≡ Some inner → HasCore (0x5B ∷ u ∷ []) name
    one_has true c f = absurd cc
    one_has false c f =
        let same : inner ≡ u ∷ [] = cc in
        bracket_has (u ∷ []) name (ap (λ t. t && true) c) (subst (λ (xs : List ℕ). HasCore xs name) same h)
behind_has (u ∷ v ∷ rest) inner name b e h = two_has (u == 0x4C) (ends_in_semicolon (v ∷ rest)) refl refl b
  where
    all_has : behind_bracket (u ∷ v ∷ rest) ≡ Some (u ∷ v ∷ rest) → Some (u ∷ v ∷ rest) ≡ Some inner → HasCore (0x5B ∷ u ∷ v ∷ rest) name
    all_has is f =
        let same : inner ≡ u ∷ v ∷ rest = cc in
        bracket_has (u ∷ v ∷ rest) name (no_primitive (u ∷ v ∷ rest) is e) (subst (λ (xs : List ℕ). HasCore xs name) same h)

    two_has : (p q : Bool) → (u == 0x4C) ≡ p → ends_in_semicolon (v ∷ rest) ≡ q → (if p && q then Some (take (length rest) (v ∷ rest)) else Some (u ∷ v ∷ rest)) ≡ Some inner → HasCore (0x5B ∷ u ∷ v ∷ rest) name
    two_has false q x y f = all_has (ap (λ t. if t && ends_in_semicolon (v ∷ rest) then Some (take (length rest) (v ∷ rest)) else Some (u ∷ v ∷ rest)) x) f
    two_has true false x y f = all_has (ap (λ t. if (u == 0x4C) && t then Some (take (length rest) (v ∷ rest)) else Some (u ∷ v ∷ rest)) y ∙ ap (λ t. if t && false then Some (take (length rest) (v ∷ rest)) else Some (u ∷ v ∷ rest)) x) f
    two_has true true x y f =
        let less : length (v ∷ rest) - 1 ≡ length rest = omega arith in
        let same : take (length (v ∷ rest) - 1) (v ∷ rest) ≡ inner = ap (λ (k : ℕ). take k (v ∷ rest)) less ∙ cc in
        subst (λ (k : ℕ). HasCore (0x5B ∷ k ∷ v ∷ rest) name) (sym (eqb-true u 0x4C x)) (class_has (v ∷ rest) inner name y same h)

inside_has : (a : ℕ) (rest inner name : List ℕ) (p : Bool) → (a == 0x5B) ≡ p → ends_in_brackets (a ∷ rest) ≡ false → (if p then behind_bracket rest else None) ≡ Some inner → HasCore inner name → HasCore (a ∷ rest) name
inside_has a rest inner name false e b f h = absurd cc
inside_has a rest inner name true e b f h =
    let first = eqb-true a 0x5B e in
    subst (λ (k : ℕ). HasCore (k ∷ rest) name) (sym first) (behind_has rest inner name f (ap (λ (k : ℕ). ends_in_brackets (k ∷ rest)) (sym first) ∙ b) h)

inside_core : (units inner name : List ℕ) → ends_in_brackets units ≡ false → inside units ≡ Some inner → HasCore inner name → HasCore units name
inside_core [] inner name b e h = absurd cc
inside_core (a ∷ rest) inner name b e h = inside_has a rest inner name (a == 0x5B) refl b e h

peeled_core : (units inner name : List ℕ) (is : Bool) → ends_in_brackets units ≡ is → (if is then Some (take (length units - 2) units) else inside units) ≡ Some inner → HasCore inner name → HasCore units name
peeled_core units inner name false b e h = inside_core units inner name b e h
peeled_core units inner name true b e h =
    let same : take (length units - 2) units ≡ inner = cc in
    with_wrap brackets name units h.plain h.wraps (record { inner = inner; units_are = brackets_off units b ∙ ap with_brackets same; inner_is = h.wrapped })

plain_only : (units name : List ℕ) (is : Bool) → is_plain units ≡ is → (if is then Some units else None) ≡ Some name → HasCore units name
plain_only units name false p e = absurd cc
plain_only units name true p e =
    let same : units ≡ name = cc in
    record { plain = subst (λ (xs : List ℕ). IsPlainName xs) same (is_plain_name units p); wraps = []; wrapped = same }

only_by : (n : ℕ) (units name : List ℕ) (o : Option (List ℕ)) → peeled units ≡ o → ((inner : List ℕ) → core_within n inner ≡ Some name → HasCore inner name)
    → core_next (core_within n) units o ≡ Some name → HasCore units name
only_by n units name None p later e = plain_only units name (is_plain units) refl e
only_by n units name (Some inner) p later e = peeled_core units inner name (ends_in_brackets units) refl p (later inner e)

only_within : (n : ℕ) (units name : List ℕ) → core_within n units ≡ Some name → HasCore units name
only_within zero units name e = absurd cc
only_within (suc n) units name e = only_by n units name (peeled units) refl (λ inner f. only_within n inner name f) e

pub core_only : (units name : List ℕ) → core units ≡ Some name → HasCore units name
core_only units name e = only_within (length units) units name (sym (core_is (length units) units (omega arith)) ∙ e)

pub reads_loadable : ReadsLoadable
reads_loadable = record { all = λ units name h. wrapped_core h.wraps name units h.plain h.wrapped; only = core_only }
