-- Runs of whole units at the front of some bytes.
use Rattle.std.proofs.Common.{◌≡◌, ◌≢◌, ℕ, zero, suc, ◌+◌, ◌-◌, ◌*◌, ◌<◌, ◌≤◌, List, [], ◌∷◌, ◌++◌, length, take, drop, get_or, refl, arith, sym, ap, subst, ◌∙◌, append_assoc}
use Rattle.std.proofs.lemmas.List.{drop-drop, drop_more, get_or-take, length-append, length-take-le, take-append-drop, take_all}
use Rattle.std.proofs.Math.Seq.{take-add, take-append_seam}
use Rattle.jser_prim.specs.WholeUnits.{AreUnitsBetween, AreUnitsSpelled, FollowsUnits, IsAsciiBetween, IsUnitSpelled, PassesUnits}
use Rattle.jser_prim.proofs.Units.{spelling_one, spelling_two, spelling_three}
use Rattle.jser_prim.proofs.TextLemmas.{modified_utf8-append, modified_utf8-one, units-append, units_cons}

pub one_is_spelled : (first : ℕ) → 1 ≤ first → first < 0x80 → IsUnitSpelled (first ∷ [])
one_is_spelled first from to = record { unit = first; is_unit = omega arith; spelled = spelling_one first from to }

pub two_are_spelled : (first second : ℕ) → 0xC0 ≤ first → first < 0xE0 → first ≢ 0xC1 → 0x80 ≤ second → second < 0xC0 → (first ≡ 0xC0 → second ≡ 0x80)
    → IsUnitSpelled (first ∷ second ∷ [])
two_are_spelled first second f f' not_ascii s s' null =
    let unit = 64 * (first - 0xC0) + (second - 0x80) in
    let high : 0xC0 + (first - 0xC0) ≡ first = omega arith in
    let low : 0x80 + (second - 0x80) ≡ second = omega arith in
    record {
      unit = unit;
      is_unit = omega arith;
      spelled = spelling_two (first - 0xC0) (second - 0x80) unit refl (omega arith) (omega arith) (λ e. not_ascii (omega arith)) (λ e. let z = null (omega arith) in omega arith)
          ∙ ap (λ b. b ∷ (0x80 + (second - 0x80)) ∷ []) high ∙ ap (λ b. first ∷ b ∷ []) low;
    }

pub three_are_spelled : (first second third : ℕ) → 0xE0 ≤ first → first < 0xF0 → 0x80 ≤ second → second < 0xC0 → (first ≡ 0xE0 → 0xA0 ≤ second) → 0x80 ≤ third → third < 0xC0
    → IsUnitSpelled (first ∷ second ∷ third ∷ [])
three_are_spelled first second third f f' s s' long t t' =
    let unit = 4096 * (first - 0xE0) + 64 * (second - 0x80) + (third - 0x80) in
    let high : 0xE0 + (first - 0xE0) ≡ first = omega arith in
    let middle : 0x80 + (second - 0x80) ≡ second = omega arith in
    let low : 0x80 + (third - 0x80) ≡ third = omega arith in
    record {
      unit = unit;
      is_unit = omega arith;
      spelled = spelling_three (first - 0xE0) (second - 0x80) (third - 0x80) unit refl (omega arith) (omega arith) (omega arith) (grind arith)
          ∙ ap (λ b. b ∷ (0x80 + (second - 0x80)) ∷ (0x80 + (third - 0x80)) ∷ []) high ∙ ap (λ b. first ∷ b ∷ (0x80 + (third - 0x80)) ∷ []) middle ∙ ap (λ b. first ∷ second ∷ b ∷ []) low;
    }

-- one unit is some
one_unit : (front : List ℕ) → IsUnitSpelled front → AreUnitsSpelled front
one_unit front unit = record { units = unit.unit ∷ []; are_units = units_cons unit.unit [] unit.is_unit refl; spelled = modified_utf8-one unit.unit ∙ unit.spelled }

-- units, and then more
units_joined : (xs ys : List ℕ) → AreUnitsSpelled xs → AreUnitsSpelled ys → AreUnitsSpelled (xs ++ ys)
units_joined xs ys us vs =
    let first = us.spelled in
    let second = vs.spelled in
    record {
      units = us.units ++ vs.units;
      are_units = units-append us.units vs.units us.are_units vs.are_units;
      spelled = modified_utf8-append us.units vs.units ∙ cc;
    }

-- plain ASCII is units of one byte each
ascii_units : (bytes : List ℕ) → ((k : ℕ) → k < length bytes → (1 ≤ get_or bytes k 0) × (get_or bytes k 0 < 0x80)) → AreUnitsSpelled bytes
ascii_units [] ascii = record { units = []; are_units = refl; spelled = refl }
ascii_units (b ∷ bytes) ascii =
    let first = ascii 0 (omega arith) in
    units_joined (b ∷ []) bytes (one_unit (b ∷ []) (one_is_spelled b first.0 first.1)) (ascii_units bytes (λ k inside. ascii (suc k) (omega arith)))

-- what a run of units is made of: none, and a run with another behind it
pub units_none : (bytes : List ℕ) (at : ℕ) → AreUnitsBetween bytes at at
units_none bytes at =
    let none : at - at ≡ 0 = omega arith in
    subst (λ n. AreUnitsSpelled (take n (drop at bytes))) (sym none) (record { units = []; are_units = refl; spelled = refl })

pub units_more : (bytes : List ℕ) (from middle to : ℕ) → AreUnitsBetween bytes from middle → AreUnitsBetween bytes middle to → from ≤ middle → middle ≤ to → AreUnitsBetween bytes from to
units_more bytes from middle to first second le le' =
    let front = middle - from in
    let back = to - middle in
    let long : front + back ≡ to - from = omega arith in
    let place : from + front ≡ middle = omega arith in
    let rest : drop front (drop from bytes) ≡ drop middle bytes = drop-drop front from bytes ∙ ap (λ n. drop n bytes) place in
    let parts : take (to - from) (drop from bytes) ≡ take front (drop from bytes) ++ take back (drop middle bytes) =
    ap (λ n. take n (drop from bytes)) (sym long) ∙ take-add front back (drop from bytes) ∙ ap (λ xs. take front (drop from bytes) ++ take back xs) rest in
    subst AreUnitsSpelled (sym parts) (units_joined (take front (drop from bytes)) (take back (drop middle bytes)) first second)

pub front_none : (bytes : List ℕ) → AreUnitsSpelled (take 0 bytes)
front_none bytes = record { units = []; are_units = refl; spelled = refl }

pub front_more : (bytes : List ℕ) (middle to : ℕ) → AreUnitsSpelled (take middle bytes) → AreUnitsBetween bytes middle to → middle ≤ to → AreUnitsSpelled (take to bytes)
front_more bytes middle to first second le =
    let near : middle - 0 ≡ middle = omega arith in
    let far : to - 0 ≡ to = omega arith in
    subst (λ n. AreUnitsSpelled (take n bytes)) far (units_more bytes 0 middle to (subst (λ n. AreUnitsSpelled (take n bytes)) (sym near) first) second (omega arith) le)

-- one unit of two or three bytes
two_between : (bytes : List ℕ) (at : ℕ) → at + 2 ≤ length bytes → IsUnitSpelled (get_or bytes at 0 ∷ get_or bytes (at + 1) 0 ∷ []) → AreUnitsBetween bytes at (at + 2)
two_between bytes at within unit =
    let long : 2 ≡ at + 2 - at = omega arith in
    let split : drop at bytes ≡ get_or bytes at 0 ∷ get_or bytes (at + 1) 0 ∷ drop (at + 1 + 1) bytes =
    drop_more bytes at 0 (omega arith) ∙ ap (λ xs. get_or bytes at 0 ∷ xs) (drop_more bytes (at + 1) 0 (omega arith)) in
    subst (λ n. AreUnitsSpelled (take n (drop at bytes))) long (subst (λ xs. AreUnitsSpelled (take 2 xs)) (sym split) (one_unit _ unit))

three_between : (bytes : List ℕ) (at : ℕ) → at + 3 ≤ length bytes → IsUnitSpelled (get_or bytes at 0 ∷ get_or bytes (at + 1) 0 ∷ get_or bytes (at + 2) 0 ∷ []) → AreUnitsBetween bytes at (at + 3)
three_between bytes at within unit =
    let long : 3 ≡ at + 3 - at = omega arith in
    let next : at + 1 + 1 ≡ at + 2 = omega arith in
    let split : drop at bytes ≡ get_or bytes at 0 ∷ get_or bytes (at + 1) 0 ∷ get_or bytes (at + 2) 0 ∷ drop (at + 2 + 1) bytes =
    drop_more bytes at 0 (omega arith) ∙ ap (λ xs. get_or bytes at 0 ∷ xs) (drop_more bytes (at + 1) 0 (omega arith) ∙ ap (λ xs. get_or bytes (at + 1) 0 ∷ xs) (ap (λ n. drop n bytes) next ∙ drop_more bytes (at + 2) 0 (omega arith))) in
    subst (λ n. AreUnitsSpelled (take n (drop at bytes))) long (subst (λ xs. AreUnitsSpelled (take 3 xs)) (sym split) (one_unit _ unit))

-- so many units of two or three bytes
pub twos_between : (bytes : List ℕ) (at n : ℕ) → at + 2 * n ≤ length bytes → ((k : ℕ) → k < n → IsUnitSpelled (get_or bytes (at + 2 * k) 0 ∷ get_or bytes (at + 2 * k + 1) 0 ∷ []))
    → AreUnitsBetween bytes at (at + 2 * n)
twos_between bytes at zero within units =
    let here : at ≡ at + 2 * 0 = omega arith in
    subst (AreUnitsBetween bytes at) here (units_none bytes at)
twos_between bytes at (suc n) within units =
    let next : at + 2 * n + 2 ≡ at + 2 * suc n = omega arith in
    units_more bytes at (at + 2 * n) (at + 2 * suc n) (twos_between bytes at n (omega arith) (λ k inside. units k (omega arith)))
    (subst (AreUnitsBetween bytes (at + 2 * n)) next (two_between bytes (at + 2 * n) (omega arith) (units n (omega arith)))) (omega arith) (omega arith)

pub threes_between : (bytes : List ℕ) (at n : ℕ) → at + 3 * n ≤ length bytes
    → ((k : ℕ) → k < n → IsUnitSpelled (get_or bytes (at + 3 * k) 0 ∷ get_or bytes (at + 3 * k + 1) 0 ∷ get_or bytes (at + 3 * k + 2) 0 ∷ []))
    → AreUnitsBetween bytes at (at + 3 * n)
threes_between bytes at zero within units =
    let here : at ≡ at + 3 * 0 = omega arith in
    subst (AreUnitsBetween bytes at) here (units_none bytes at)
threes_between bytes at (suc n) within units =
    let next : at + 3 * n + 3 ≡ at + 3 * suc n = omega arith in
    units_more bytes at (at + 3 * n) (at + 3 * suc n) (threes_between bytes at n (omega arith) (λ k inside. units k (omega arith)))
    (subst (AreUnitsBetween bytes (at + 3 * n)) next (three_between bytes (at + 3 * n) (omega arith) (units n (omega arith)))) (omega arith) (omega arith)

-- some units at the front, and one more of two or three bytes
pub two_more : (bytes : List ℕ) (at : ℕ) → AreUnitsSpelled (take at bytes) → at + 2 ≤ length bytes → IsUnitSpelled (get_or bytes at 0 ∷ get_or bytes (at + 1) 0 ∷ []) → AreUnitsSpelled (take (at + 2) bytes)
two_more bytes at units within unit = front_more bytes at (at + 2) units (two_between bytes at within unit) (omega arith)

pub three_more : (bytes : List ℕ) (at : ℕ) → AreUnitsSpelled (take at bytes) → at + 3 ≤ length bytes → IsUnitSpelled (get_or bytes at 0 ∷ get_or bytes (at + 1) 0 ∷ get_or bytes (at + 2) 0 ∷ [])
    → AreUnitsSpelled (take (at + 3) bytes)
three_more bytes at units within unit = front_more bytes at (at + 3) units (three_between bytes at within unit) (omega arith)

-- what follows a unit and the units after it, where a slice pattern gives the tail
follows_front : (bytes first rest tail after : List ℕ) → IsUnitSpelled first → 0 < length first → bytes ≡ first ++ rest → tail ≡ rest → PassesUnits tail after → FollowsUnits bytes after
follows_front bytes first rest tail after unit some split whole passes = record {
  front = first ++ passes.front;
  units = units_joined first passes.front (one_unit first unit) passes.units;
  some = omega (arith, some, length-append first passes.front);
  split = split ∙ ap (λ xs. first ++ xs) (sym whole ∙ passes.split) ∙ sym (append_assoc first passes.front after);
}

pub passed_run : (bytes after : List ℕ) (run : ℕ) → AreUnitsSpelled (take run bytes) → after ≡ drop run bytes → PassesUnits bytes after
passed_run bytes after run units is = record { front = take run bytes; units = units; split = sym (take-append-drop run bytes) ∙ ap (λ xs. take run bytes ++ xs) (sym is) }

pub follows_one : (bytes after : List ℕ) (run : ℕ) → 1 ≤ length bytes → IsUnitSpelled (get_or bytes 0 0 ∷ [])
    → run ≤ length (take (length bytes - 1) (drop 1 bytes)) → IsAsciiBetween (take (length bytes - 1) (drop 1 bytes)) 0 run
    → after ≡ drop run (take (length bytes - 1) (drop 1 bytes)) → FollowsUnits bytes after
follows_one [] after run some unit within ascii is = absurd (omega arith)
follows_one (a ∷ rest) after run some unit within ascii is =
    let tail = take (suc (length rest) - 1) rest in
    let units = ascii_units (take run tail) (λ k inside.
    let before : k < run = omega (arith, inside, length-take-le run tail within) in
    subst (λ b. (1 ≤ b) × (b < 0x80)) (sym (get_or-take run tail k 0 before)) (ascii k (omega arith) before)) in
    follows_front (a ∷ rest) (a ∷ []) rest tail after unit (omega arith) refl (take_all (suc (length rest) - 1) rest (omega arith)) (passed_run tail after run units is)

pub follows_two : (bytes after : List ℕ) → 2 ≤ length bytes → IsUnitSpelled (get_or bytes 0 0 ∷ get_or bytes 1 0 ∷ []) → PassesUnits (take (length bytes - 2) (drop 2 bytes)) after → FollowsUnits bytes after
follows_two [] after some unit passes = absurd (omega arith)
follows_two (a ∷ []) after some unit passes = absurd (omega arith)
follows_two (a ∷ b ∷ rest) after some unit passes =
    follows_front (a ∷ b ∷ rest) (a ∷ b ∷ []) rest (take (suc (suc (length rest)) - 2) rest) after unit (omega arith) refl (take_all (suc (suc (length rest)) - 2) rest (omega arith)) passes

pub follows_three : (bytes after : List ℕ) → 3 ≤ length bytes → IsUnitSpelled (get_or bytes 0 0 ∷ get_or bytes 1 0 ∷ get_or bytes 2 0 ∷ []) → PassesUnits (take (length bytes - 3) (drop 3 bytes)) after
    → FollowsUnits bytes after
follows_three [] after some unit passes = absurd (omega arith)
follows_three (a ∷ []) after some unit passes = absurd (omega arith)
follows_three (a ∷ b ∷ []) after some unit passes = absurd (omega arith)
follows_three (a ∷ b ∷ c ∷ rest) after some unit passes =
    follows_front (a ∷ b ∷ c ∷ rest) (a ∷ b ∷ c ∷ []) rest (take (suc (suc (suc (length rest))) - 3) rest) after unit (omega arith) refl (take_all (suc (suc (suc (length rest))) - 3) rest (omega arith)) passes

-- units were passed
pub passed_none : (bytes : List ℕ) → PassesUnits bytes bytes
passed_none bytes = record { front = []; units = record { units = []; are_units = refl; spelled = refl }; split = refl }

pub passed_more : (bytes rest tail : List ℕ) → PassesUnits bytes rest → FollowsUnits rest tail → PassesUnits bytes tail
passed_more bytes rest tail passed follows = record {
  front = passed.front ++ follows.front;
  units = units_joined passed.front follows.front passed.units follows.units;
  split = passed.split ∙ ap (λ xs. passed.front ++ xs) follows.split ∙ sym (append_assoc passed.front follows.front tail);
}

pub shorter_tail : (bytes tail : List ℕ) → FollowsUnits bytes tail → length tail < length bytes
shorter_tail bytes tail follows = omega (arith, follows.some, ap length follows.split, length-append follows.front tail)

pub passed_within : (bytes rest : List ℕ) → PassesUnits bytes rest → length rest ≤ length bytes
passed_within bytes rest passed = omega (arith, ap length passed.split, length-append passed.front rest)

pub passed_front : (bytes rest : List ℕ) → PassesUnits bytes rest → AreUnitsSpelled (take (length bytes - length rest) bytes)
passed_front bytes rest passed =
    let long : length passed.front ≡ length bytes - length rest = omega (arith, ap length passed.split, length-append passed.front rest) in
    let front : take (length bytes - length rest) bytes ≡ passed.front =
    ap (λ n. take n bytes) (sym long) ∙ ap (take (length passed.front)) passed.split ∙ take-append_seam passed.front rest in
    subst AreUnitsSpelled (sym front) passed.units
