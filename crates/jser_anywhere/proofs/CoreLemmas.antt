-- What is taken off a name, and what is left.
use Rattle.std.proofs.Common.{◌≡◌, ℕ, zero, suc, ◌+◌, ◌-◌, ◌<◌, ◌≤◌, ◌∙◌, ap, sym, Bool, true, false, ◌&&◌, ◌==◌, if◌then◌else◌, Option, Some, None, List, [], ◌∷◌, length, take, drop, get_or, refl, arith, add-one, drop-cons}
use Rattle.std.specs.Prelude.{nat_le}
use Rattle.std.proofs.lemmas.Bool.Decides.{nat_tests}
use Rattle.std.proofs.lemmas.List.{length-take-le}
use Rattle.std.proofs.Math.Seq.{drop-length}
use Rattle.jser_table.specs.Names.{is_primitive_code}
use Rattle.jser_anywhere.specs.Names.{is_part, plain_from, is_plain, ends_in_brackets, ends_in_semicolon, behind_bracket, inside, peeled, core_next, core_within, core}

-- ---- plain names

pub plain_begins : (units : List ℕ) → is_plain units ≡ plain_from true (drop 0 units)
plain_begins units = refl

at_index : (units : List ℕ) (i : ℕ) → i < length units → drop i units ≡ get_or units i 0 ∷ drop (i + 1) units
at_index units i less = rw (add-one, drop-cons units i 0)

plain_at : (units : List ℕ) (i : ℕ) (wants : Bool) → i < length units → plain_from wants (drop i units)
    ≡ (if get_or units i 0 == 0x2E then (if wants then false else plain_from true (drop (i + 1) units)) else (if is_part (get_or units i 0) then plain_from false (drop (i + 1) units) else false))
plain_at units i wants less = ap (plain_from wants) (at_index units i less)

pub plain_twice : (units : List ℕ) (i : ℕ) (wants : Bool) → is_plain units ≡ plain_from wants (drop i units) → i < length units → (get_or units i 0 == 0x2E) ≡ true → wants ≡ true → false ≡ is_plain units
plain_twice units i wants here less dot w =
    sym (here ∙ plain_at units i wants less
    ∙ ap (λ b. if b then (if wants then false else plain_from true (drop (i + 1) units)) else (if is_part (get_or units i 0) then plain_from false (drop (i + 1) units) else false)) dot
    ∙ ap (λ b. if b then false else plain_from true (drop (i + 1) units)) w)

pub plain_dot : (units : List ℕ) (i : ℕ) (wants : Bool) → is_plain units ≡ plain_from wants (drop i units) → i < length units → (get_or units i 0 == 0x2E) ≡ true → wants ≡ false
    → is_plain units ≡ plain_from true (drop (i + 1) units)
plain_dot units i wants here less dot w =
    here ∙ plain_at units i wants less
    ∙ ap (λ b. if b then (if wants then false else plain_from true (drop (i + 1) units)) else (if is_part (get_or units i 0) then plain_from false (drop (i + 1) units) else false)) dot
    ∙ ap (λ b. if b then false else plain_from true (drop (i + 1) units)) w

pub plain_part : (units : List ℕ) (i : ℕ) (wants part : Bool) → is_plain units ≡ plain_from wants (drop i units) → i < length units → (get_or units i 0 == 0x2E) ≡ false → part ≡ is_part (get_or units i 0) → part ≡ true
    → is_plain units ≡ plain_from false (drop (i + 1) units)
plain_part units i wants part here less dot is p =
    here ∙ plain_at units i wants less
    ∙ ap (λ b. if b then (if wants then false else plain_from true (drop (i + 1) units)) else (if is_part (get_or units i 0) then plain_from false (drop (i + 1) units) else false)) dot
    ∙ ap (λ b. if b then plain_from false (drop (i + 1) units) else false) (sym is ∙ p)

small_is_part : (unit : ℕ) → (nat_le 0x61 unit && nat_le unit 0x7A) ≡ true → is_part unit ≡ true
small_is_part unit small = grind (arith, nat_tests, small)

small_is_no_dot : (unit : ℕ) → (nat_le 0x61 unit && nat_le unit 0x7A) ≡ true → (unit == 0x2E) ≡ false
small_is_no_dot unit small = grind (arith, nat_tests, small)

pub plain_small : (units : List ℕ) (i : ℕ) (wants small : Bool) → is_plain units ≡ plain_from wants (drop i units) → i < length units → small ≡ (nat_le 0x61 (get_or units i 0) && nat_le (get_or units i 0) 0x7A)
    → small ≡ true → is_plain units ≡ plain_from false (drop (i + 1) units)
plain_small units i wants small here less is s =
    let test : (nat_le 0x61 (get_or units i 0) && nat_le (get_or units i 0) 0x7A) ≡ true = sym is ∙ s in
    plain_part units i wants true here less (small_is_no_dot (get_or units i 0) test) (sym (small_is_part (get_or units i 0) test)) refl

pub plain_other : (units : List ℕ) (i : ℕ) (wants part : Bool) → is_plain units ≡ plain_from wants (drop i units) → i < length units → (get_or units i 0 == 0x2E) ≡ false → part ≡ is_part (get_or units i 0) → part ≡ false
    → false ≡ is_plain units
plain_other units i wants part here less dot is p =
    sym (here ∙ plain_at units i wants less
    ∙ ap (λ b. if b then (if wants then false else plain_from true (drop (i + 1) units)) else (if is_part (get_or units i 0) then plain_from false (drop (i + 1) units) else false)) dot
    ∙ ap (λ b. if b then plain_from false (drop (i + 1) units) else false) (sym is ∙ p))

pub plain_ends : (units : List ℕ) (i : ℕ) (wants : Bool) → is_plain units ≡ plain_from wants (drop i units) → i ≡ length units → (if wants then false else true) ≡ is_plain units
plain_ends units i wants here end = sym (here ∙ ap (λ (n : ℕ). plain_from wants (drop n units)) end ∙ ap (plain_from wants) (drop-length units))

-- ---- what is left is shorter

behind_by : (a b : ℕ) (rest inner : List ℕ) (p : Bool) → (if p then Some (take (length rest) (b ∷ rest)) else Some (a ∷ b ∷ rest)) ≡ Some inner → length inner ≤ length (a ∷ b ∷ rest)
behind_by a b rest inner false e = let same : a ∷ b ∷ rest ≡ inner = cc in omega (arith, ap length same)
behind_by a b rest inner true e =
    let same : take (length rest) (b ∷ rest) ≡ inner = cc in
    omega (arith, ap length same, length-take-le (length rest) (b ∷ rest) (omega arith))

letter_by : (a : ℕ) (inner : List ℕ) (p : Bool) → (if p then None else Some (a ∷ [])) ≡ Some inner → length inner ≤ 1
letter_by a inner true e = absurd cc
letter_by a inner false e = let same : a ∷ [] ≡ inner = cc in omega (arith, ap length same)

behind_shorter : (rest inner : List ℕ) → behind_bracket rest ≡ Some inner → length inner ≤ length rest
behind_shorter [] inner e = absurd cc
behind_shorter (a ∷ []) inner e = letter_by a inner (is_primitive_code a) e
behind_shorter (a ∷ b ∷ rest) inner e = behind_by a b rest inner (a == 0x4C && ends_in_semicolon (b ∷ rest)) e

inside_by : (a : ℕ) (rest inner : List ℕ) (p : Bool) → (if p then behind_bracket rest else None) ≡ Some inner → length inner < length (a ∷ rest)
inside_by a rest inner false e = absurd cc
inside_by a rest inner true e = omega (arith, behind_shorter rest inner e)

inside_shorter : (units inner : List ℕ) → inside units ≡ Some inner → length inner < length units
inside_shorter [] inner e = absurd cc
inside_shorter (a ∷ rest) inner e = inside_by a rest inner (a == 0x5B) e

first_of_three : (a b c : Bool) → (a && b && c) ≡ true → a ≡ true
first_of_three true b c e = refl
first_of_three false b c e = absurd cc

pub three_units : (units : List ℕ) → ends_in_brackets units ≡ true → 3 ≤ length units
three_units units e =
    let long : nat_le 3 (length units) ≡ true = first_of_three (nat_le 3 (length units)) (get_or units (length units - 2) 0 == 0x5B) (get_or units (length units - 1) 0 == 0x5D) e in
    grind (arith, nat_tests, long)

left_shorter : (units inner : List ℕ) (is : Bool) → ends_in_brackets units ≡ is → (if is then Some (take (length units - 2) units) else inside units) ≡ Some inner → length inner < length units
left_shorter units inner false e h = inside_shorter units inner h
left_shorter units inner true e h =
    let long = three_units units e in
    let same : take (length units - 2) units ≡ inner = cc in
    omega (arith, long, ap length same, length-take-le (length units - 2) units (omega arith))

pub peeled_shorter : (units inner : List ℕ) → peeled units ≡ Some inner → length inner < length units
peeled_shorter units inner e = left_shorter units inner (ends_in_brackets units) refl e

-- ---- it does not matter how often something may be taken off, where that is often enough

enough_by : (n m : ℕ) (units : List ℕ) (o : Option (List ℕ)) → peeled units ≡ o → ((inner : List ℕ) → length inner < length units → core_within n inner ≡ core_within m inner)
    → core_next (core_within n) units o ≡ core_next (core_within m) units o
enough_by n m units None e same = refl
enough_by n m units (Some inner) e same = same inner (peeled_shorter units inner e)

none_zero : (m : ℕ) (units : List ℕ) → length units ≤ 0 → core_within m units ≡ None
none_zero zero units few = refl
none_zero (suc m) [] few = refl
none_zero (suc m) (unit ∷ units) few = absurd (omega (arith, few))

enough : (n m : ℕ) (units : List ℕ) → length units ≤ n → length units ≤ m → core_within n units ≡ core_within m units
enough zero m units a b = sym (none_zero m units a)
enough (suc n) zero units a b = none_zero (suc n) units b
enough (suc n) (suc m) units a b = enough_by n m units (peeled units) refl (λ inner less. enough n m inner (omega (arith, less)) (omega (arith, less)))

-- ---- the core

pub core_is : (n : ℕ) (units : List ℕ) → length units ≤ n → core units ≡ core_within n units
unfolding core
core_is n units few = enough (length units) n units (omega arith) few

pub core_begins : (units : List ℕ) → core units ≡ core units
core_begins units = refl

pub core_peeled : (units inner : List ℕ) → peeled units ≡ Some inner → core units ≡ core inner
core_peeled units inner e =
    core_is (suc (length units)) units (omega arith) ∙ ap (core_next (core_within (length units)) units) e
    ∙ sym (core_is (length units) inner (omega (arith, peeled_shorter units inner e)))

pub core_whole : (units : List ℕ) → peeled units ≡ None → core units ≡ (if is_plain units then Some units else None)
core_whole units e = core_is (suc (length units)) units (omega arith) ∙ ap (core_next (core_within (length units)) units) e

pub core_named : (units rest : List ℕ) (is : Bool) → core units ≡ core rest → None ≡ peeled rest → is ≡ is_plain rest → is ≡ true → Some rest ≡ core units
core_named units rest is same none plain t = sym (same ∙ core_whole rest (sym none) ∙ ap (λ b. if b then Some rest else None) (sym plain ∙ t))

pub core_unnamed : (units rest : List ℕ) (is : Bool) → core units ≡ core rest → None ≡ peeled rest → is ≡ is_plain rest → is ≡ false → None ≡ core units
core_unnamed units rest is same none plain t = sym (same ∙ core_whole rest (sym none) ∙ ap (λ b. if b then Some rest else None) (sym plain ∙ t))
