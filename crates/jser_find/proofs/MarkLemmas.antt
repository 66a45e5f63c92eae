-- Places behind which no header goes on.
use Rattle.std.proofs.Common.{◌≡◌, ◌↔◌, ℕ, ◌+◌, ◌-◌, ◌*◌, ◌/◌, ◌%◌, ◌<◌, ◌≤◌, ◌⊎◌, ◌==◌, ◌&&◌, ◌||◌, Bool, true, false, if◌then◌else◌, List, [], ◌∷◌, length, take, drop, get_or, IfSome, refl, sym, ap, subst, ◌∙◌, arith, inl, inr, Option, Some, None}
use Rattle.std.proofs.lemmas.Bool.Decides.{nat_tests}
use Rattle.jser_grammar.specs.Wire.{stream_header}
use Rattle.jser_find.specs.declared.spot.Digit.{Digit}
use Rattle.jser_find.specs.declared.spot.Last.{Last}
use Rattle.jser_find.specs.declared.spot.Last.TheVariants as last
use Rattle.jser_find.specs.declared.spot.Digit.TheVariants as digit
use Rattle.jser_find.specs.declared.spot.Spot.{Spot}
use Rattle.jser_find.specs.declared.spot.Step.{Step}
use Rattle.jser_find.specs.declared.spot.Step.TheVariants as step
use Rattle.hex.specs.Hex.{hex_digit_value}
use Rattle.jser_digits.specs.Digits.{either_value}
use Rattle.jser_find.specs.Marks.{AreUnmarked, marks, marks_at, parts_digits}
use Rattle.jser_find.specs.Spelled.{follows, spelled}
use Rattle.jser_find.specs.Spots.{behind, open_step, before, digit_step, digit_value, radix, step_of, step_with, value_step}
use Rattle.std.specs.Int.{bit_at}
use Rattle.std.specs.Prelude.{bit_and, bit_or}
use Rattle.std.proofs.Common.{cond, eqb}
use Rattle.std.specs.Simd.Lanes.{zip2}
use Rattle.std.proofs.lemmas.Simd.{get_or-chunk}
use Rattle.std.proofs.lemmas.List.{get_or-drop, get_or_past}
use Rattle.std.proofs.lemmas.Bool.{cases_lt}
use Rattle.std.proofs.lemmas.Nat.Bits.{bit_at-zero}
use lib.Lanes.{chunk}
use Rattle.memchr.proofs.lemmas.LaneLemmas.{HasLanes-zip2}
use Rattle.memchr.specs.Lanes.{HasLanes}
use Rattle.memchr.specs.Find.{Nowhere}
use Rattle.jser_find.specs.declared.spelled.Reading.{Reading}
use Rattle.jser_find.specs.Marks.{IsTest, PassesFrom}
use Rattle.jser_find.specs.Starts.{HasHeaderTextAt, ReadsGroup, ReadsPair, SpellsHeader}
use Rattle.jser_find.proofs.BytesLemmas.{value_small}

-- ---- the bits that a digit leaves are those of the byte that comes next

abbrev pub Leads : ℕ → Digit → Type 0
Leads byte digit.High = Unit {0}
Leads byte (digit.Low bits) = bits ≡ byte / 16
Leads byte digit.First = Unit {0}
Leads byte (digit.Second bits) = bits ≡ byte / 4
Leads byte (digit.Third bits) = bits ≡ byte / 16
Leads byte (digit.Fourth bits) = bits ≡ byte / 64

abbrev IsLed : ℕ → Digit → Step → Type 0
IsLed byte next (step.Goes spot) = (spot.next ≡ next) ⊎ Leads byte next
IsLed byte next (step.Gives given spot) = given ≡ byte → Leads byte next
IsLed byte next step.Ends = Unit {0}

led_value : (byte : ℕ) (next : Digit) (value : ℕ) → value < radix next → IsLed byte next (value_step next value)
led_value byte digit.High value small = inr tt
led_value byte digit.First value small = inr tt
led_value byte (digit.Low bits) value small = λ is. omega (arith, is, small)
led_value byte (digit.Second bits) value small = λ is. omega (arith, is, small)
led_value byte (digit.Third bits) value small = λ is. omega (arith, is, small)
led_value byte (digit.Fourth bits) value small = λ is. omega (arith, is, small)

led_with : (byte : ℕ) (next : Digit) (value : Option ℕ) → IfSome value (λ v. v < radix next) → IsLed byte next (step_with next value)
led_with byte next None small = tt
led_with byte next (Some value) small = led_value byte next value small

led_digit : (byte : ℕ) (next : Digit) (c : ℕ) → IsLed byte next (digit_step next c)
led_digit byte next c = led_with byte next (digit_value next c) (value_small next c)

led_open : (byte : ℕ) (next : Digit) (c : ℕ) → IsLed byte next (open_step next c)
led_open byte next c = by (c == 0x0A || c == 0x0D) (c == 0x5C)
  where
    by : (line slash : Bool)
        → IsLed byte next (if line then step.Goes (behind last.LineEnd next) else (if slash then step.Goes (behind last.Backslash next) else digit_step next c))
    by true slash = inl refl
    by false true = inl refl
    by false false = led_digit byte next c

led_step : (byte : ℕ) (next : Digit) (what : Last) (c : ℕ) → IsLed byte next (step_of (behind what next) c)
led_step byte next last.Digit c = led_open byte next c
led_step byte next last.LineEnd c = by (c == 0x20 || c == 0x09)
  where
    by : (blank : Bool) → IsLed byte next (if blank then step.Goes (behind last.LineEnd next) else open_step next c)
    by true = inl refl
    by false = led_open byte next c
led_step byte next last.Backslash c = by (c == 0x6E || c == 0x72) (c == 0x2F)
  where
    by : (line slash : Bool) → IsLed byte next (if line then step.Goes (behind last.LineEnd next) else (if slash then digit_step next c else step.Ends))
    by true slash = inl refl
    by false true = led_digit byte next c
    by false false = tt

abbrev BeginsBy : ℕ → List ℕ → Type 0
BeginsBy byte [] = ⊥
BeginsBy byte (b ∷ bs) = b ≡ byte

led : (byte : ℕ) (next : Digit) (what : Last) (text : List ℕ) → BeginsBy byte (spelled (behind what next) text) → Leads byte next
unfolding spelled
led byte next what [] is = absurd is
led byte next what (c ∷ text) is =
    by (λ again h. led byte next again text h) (step_of (behind what next) c) (led_step byte next what c) is
  where
    by : ((again : Last) → BeginsBy byte (spelled (behind again next) text) → Leads byte next) → (s : Step) → IsLed byte next s
        → BeginsBy byte (follows s (λ spot. spelled spot text)) → Leads byte next
    by f (step.Goes spot) (inl same) h = f spot.last (subst (λ n. BeginsBy byte (spelled (behind spot.last n) text)) same h)
    by f (step.Goes spot) (inr leads) h = leads
    by f (step.Gives given spot) leads h = leads h
    by f step.Ends leads h = absurd h

-- ---- which characters have the values that a header wants

is_c : (c v : ℕ) → hex_digit_value c ≡ Some v → v ≡ 12 → (c == 0x63 || c == 0x43) ≡ true
is_c c v is e = grind (arith, nat_tests, is, e)

is_e : (c v : ℕ) → hex_digit_value c ≡ Some v → v ≡ 14 → (c == 0x65 || c == 0x45) ≡ true
is_e c v is e = grind (arith, nat_tests, is, e)

is_O : (c v : ℕ) → either_value c ≡ Some v → v ≡ 14 → (c == 0x4F) ≡ true
is_O c v is e = grind (arith, nat_tests, is, e)

is_0 : (c v : ℕ) → either_value c ≡ Some v → v ≡ 52 → (c == 0x30) ≡ true
is_0 c v is e = grind (arith, nat_tests, is, e)

is_z : (c v : ℕ) → either_value c ≡ Some v → v ≡ 51 → (c == 0x7A) ≡ true
is_z c v is e = grind (arith, nat_tests, is, e)

is_t : (c v : ℕ) → either_value c ≡ Some v → v ≡ 45 → (c == 0x74) ≡ true
is_t c v is e = grind (arith, nat_tests, is, e)

is_s : (c v : ℕ) → either_value c ≡ Some v → v ≡ 44 → (c == 0x73) ≡ true
is_s c v is e = grind (arith, nat_tests, is, e)

is_7 : (c v : ℕ) → either_value c ≡ Some v → v ≡ 59 → (c == 0x37) ≡ true
is_7 c v is e = grind (arith, nat_tests, is, e)

-- ---- what is known of two tests

no_true : true ≡ false → ⊥
no_true e = cc

or_left : (a b : Bool) → (a || b) ≡ false → a ≡ false
or_left true b e = absurd (no_true e)
or_left false b e = refl

or_right : (a b : Bool) → (a || b) ≡ false → b ≡ false
or_right true b e = absurd (no_true e)
or_right false b e = e

both_true : (a b : Bool) → a ≡ true → b ≡ true → (a && b) ≡ false → ⊥
both_true true true x y e = no_true e
both_true true false x y e = no_true (sym y)
both_true false b x y e = no_true (sym x)

-- ---- behind the first digit

abbrev Quiet : List ℕ → Type 0
Quiet text = (marks (get_or text 0 0) (get_or text 1 0) ≡ false) × (parts_digits (get_or text 1 0) ≡ false)

plain_step : (next : Digit) (c : ℕ) → parts_digits c ≡ false → step_of (before next) c ≡ digit_step next c
plain_step next c e = by (c == 0x0A || c == 0x0D) (c == 0x5C) (or_left _ _ e) (or_right _ _ e)
  where
    by : (line slash : Bool) → line ≡ false → slash ≡ false
        → (if line then step.Goes (behind last.LineEnd next) else (if slash then step.Goes (behind last.Backslash next) else digit_step next c)) ≡ digit_step next c
    by true slash x y = absurd (no_true x)
    by false true x y = absurd (no_true y)
    by false false x y = refl

head_is : (byte : ℕ) (rest : List ℕ) → take 4 (byte ∷ rest) ≡ stream_header → byte ≡ 0xAC
head_is byte rest e = ap (λ xs. get_or xs 0 0) e

second_is : (byte : ℕ) (rest : List ℕ) → take 4 (byte ∷ rest) ≡ stream_header → BeginsBy 0xED rest
second_is byte [] e = let no : 1 ≡ 4 = ap length e in omega (arith, no)
second_is byte (b ∷ rest) e = ap (λ xs. get_or xs 1 0) e

third_is : (a b : ℕ) (rest : List ℕ) → take 4 (a ∷ b ∷ rest) ≡ stream_header → BeginsBy 0 rest
third_is a b [] e = let no : 2 ≡ 4 = ap length e in omega (arith, no)
third_is a b (c ∷ rest) e = ap (λ xs. get_or xs 2 0) e

no_empty : [] ≡ stream_header → ⊥
no_empty e = cc

no_one : (a : ℕ) → take 4 (a ∷ []) ≡ stream_header → ⊥
no_one a e = let no : 1 ≡ 4 = ap length e in omega (arith, no)

first_given : (next : Digit) (c : ℕ) (text : List ℕ) → parts_digits c ≡ false → take 4 (spelled (before next) (c ∷ text)) ≡ stream_header
    → take 4 (follows (step_with next (digit_value next c)) (λ n. spelled n text)) ≡ stream_header
unfolding spelled
first_given next c text p e = subst (λ s. take 4 (follows s (λ n. spelled n text)) ≡ stream_header) (plain_step next c p) e

second_given : (a : ℕ) (next : Digit) (c : ℕ) (text : List ℕ) → parts_digits c ≡ false → take 4 (a ∷ spelled (before next) (c ∷ text)) ≡ stream_header
    → take 4 (a ∷ follows (step_with next (digit_value next c)) (λ n. spelled n text)) ≡ stream_header
unfolding spelled
second_given a next c text p e = subst (λ s. take 4 (a ∷ follows s (λ n. spelled n text)) ≡ stream_header) (plain_step next c p) e

small_given : (next : Digit) (c : ℕ) (o : Option ℕ) → digit_value next c ≡ o → IfSome o (λ v. v < radix next)
small_given next c o is = subst (λ x. IfSome x (λ v. v < radix next)) is (value_small next c)

spells_none : (spot : Spot) → spelled spot [] ≡ []
unfolding spelled
spells_none spot = refl

-- hexadecimal

low_third : (a c d : ℕ) (text : List ℕ) (o : Option ℕ) → hex_digit_value d ≡ o → (c == 0x63 || c == 0x43) ≡ true
    → take 4 (a ∷ follows (step_with digit.High o) (λ n. spelled n text)) ≡ stream_header → marks c d ≡ false → ⊥
low_third a c d text None is hit e m = no_one a e
low_third a c d text (Some w) is hit e m =
    both_true (c == 0x63 || c == 0x43) (d == 0x65 || d == 0x45) hit (is_e d w is (led 0xED (digit.Low w) last.Digit text (second_is a _ e)))
    (or_left _ _ (or_left _ _ (or_left _ _ (or_right _ _ m))))

low_second : (a c : ℕ) (text : List ℕ) → (c == 0x63 || c == 0x43) ≡ true → take 4 (a ∷ spelled (before digit.High) text) ≡ stream_header → Quiet (c ∷ text) → ⊥
low_second a c [] hit e q = no_one a (subst (λ xs. take 4 (a ∷ xs) ≡ stream_header) (spells_none (before digit.High)) e)
low_second a c (d ∷ text) hit e q = low_third a c d text (hex_digit_value d) refl hit (second_given a digit.High d text q.1 e) q.0

low_first : (bits c : ℕ) (text : List ℕ) (o : Option ℕ) → hex_digit_value c ≡ o → take 4 (follows (step_with (digit.Low bits) o) (λ n. spelled n text)) ≡ stream_header
    → Quiet (c ∷ text) → ⊥
low_first bits c text None is e q = no_empty e
low_first bits c text (Some v) is e q =
    let small : v < 16 = small_given (digit.Low bits) c (Some v) is in
    let byte : bits * 16 + v ≡ 0xAC = head_is (bits * 16 + v) _ e in
    low_second (bits * 16 + v) c text (is_c c v is (omega (arith, small, byte))) e q

low : (bits : ℕ) (text : List ℕ) → Quiet text → take 4 (spelled (before (digit.Low bits)) text) ≡ stream_header → ⊥
low bits [] q e = no_empty (subst (λ xs. take 4 xs ≡ stream_header) (spells_none (before (digit.Low bits))) e)
low bits (c ∷ text) q e = low_first bits c text (hex_digit_value c) refl (first_given (digit.Low bits) c text (or_left _ _ q.0) e) q

-- base64 from the first byte of a group

group_third : (a v c d : ℕ) (text : List ℕ) (o : Option ℕ) → either_value c ≡ Some v → v / 16 ≡ 0 → either_value d ≡ o
    → take 4 (a ∷ follows (step_with (digit.Third (v % 16)) o) (λ n. spelled n text)) ≡ stream_header → marks c d ≡ false → ⊥
group_third a v c d text None is zero is_d e m = no_one a e
group_third a v c d text (Some w) is zero is_d e m =
    let small : w < 64 = small_given digit.First d (Some w) is_d in
    let rest = spelled (before (digit.Fourth (w % 4))) text in
    let byte : v % 16 * 16 + w / 4 ≡ 0xED = second_is a ((v % 16 * 16 + w / 4) ∷ rest) e in
    let none : w % 4 ≡ 0 = led 0 (digit.Fourth (w % 4)) last.Digit text (third_is a (v % 16 * 16 + w / 4) rest e) in
    both_true (c == 0x4F) (d == 0x30) (is_O c v is (omega (arith, small, byte, none, zero))) (is_0 d w is_d (omega (arith, small, byte, none)))
    (or_right _ _ (or_left _ _ (or_left _ _ (or_right _ _ m))))

group_second : (a v c : ℕ) (text : List ℕ) → either_value c ≡ Some v → v / 16 ≡ 0 → take 4 (a ∷ spelled (before (digit.Third (v % 16))) text) ≡ stream_header → Quiet (c ∷ text) → ⊥
group_second a v c [] is zero e q = no_one a (subst (λ xs. take 4 (a ∷ xs) ≡ stream_header) (spells_none (before (digit.Third (v % 16)))) e)
group_second a v c (d ∷ text) is zero e q = group_third a v c d text (either_value d) is zero refl (second_given a (digit.Third (v % 16)) d text q.1 e) q.0

group_first : (bits c : ℕ) (text : List ℕ) (o : Option ℕ) → either_value c ≡ o → take 4 (follows (step_with (digit.Second bits) o) (λ n. spelled n text)) ≡ stream_header
    → Quiet (c ∷ text) → ⊥
group_first bits c text None is e q = no_empty e
group_first bits c text (Some v) is e q =
    let small : v < 64 = small_given digit.First c (Some v) is in
    let byte : bits * 4 + v / 16 ≡ 0xAC = head_is (bits * 4 + v / 16) _ e in
    group_second (bits * 4 + v / 16) v c text is (omega (arith, small, byte)) e q

group : (bits : ℕ) (text : List ℕ) → Quiet text → take 4 (spelled (before (digit.Second bits)) text) ≡ stream_header → ⊥
group bits [] q e = no_empty (subst (λ xs. take 4 xs ≡ stream_header) (spells_none (before (digit.Second bits))) e)
group bits (c ∷ text) q e = group_first bits c text (either_value c) refl (first_given (digit.Second bits) c text (or_left _ _ q.0) e) q

-- base64 from the second

second_third : (a v c d : ℕ) (text : List ℕ) (o : Option ℕ) → either_value c ≡ Some v → v < 64 → v / 4 ≡ 12 → either_value d ≡ o
    → take 4 (a ∷ follows (step_with (digit.Fourth (v % 4)) o) (λ n. spelled n text)) ≡ stream_header → marks c d ≡ false → ⊥
second_third a v c d text None is few twelve is_d e m = no_one a e
second_third a v c d text (Some w) is few twelve is_d e m =
    let small : w < 64 = small_given digit.First d (Some w) is_d in
    let byte : v % 4 * 64 + w ≡ 0xED = second_is a ((v % 4 * 64 + w) ∷ spelled (before digit.First) text) e in
    both_true (c == 0x7A) (d == 0x74) (is_z c v is (omega (arith, small, byte, few, twelve))) (is_t d w is_d (omega (arith, small, byte)))
    (or_right _ _ (or_left _ _ (or_right _ _ m)))

second_second : (a v c : ℕ) (text : List ℕ) → either_value c ≡ Some v → v < 64 → v / 4 ≡ 12 → take 4 (a ∷ spelled (before (digit.Fourth (v % 4))) text) ≡ stream_header
    → Quiet (c ∷ text) → ⊥
second_second a v c [] is few twelve e q = no_one a (subst (λ xs. take 4 (a ∷ xs) ≡ stream_header) (spells_none (before (digit.Fourth (v % 4)))) e)
second_second a v c (d ∷ text) is few twelve e q = second_third a v c d text (either_value d) is few twelve refl (second_given a (digit.Fourth (v % 4)) d text q.1 e) q.0

second_first : (bits c : ℕ) (text : List ℕ) (o : Option ℕ) → either_value c ≡ o → take 4 (follows (step_with (digit.Third bits) o) (λ n. spelled n text)) ≡ stream_header
    → Quiet (c ∷ text) → ⊥
second_first bits c text None is e q = no_empty e
second_first bits c text (Some v) is e q =
    let small : v < 64 = small_given digit.First c (Some v) is in
    let byte : bits * 16 + v / 4 ≡ 0xAC = head_is (bits * 16 + v / 4) _ e in
    second_second (bits * 16 + v / 4) v c text is small (omega (arith, small, byte)) e q

second : (bits : ℕ) (text : List ℕ) → Quiet text → take 4 (spelled (before (digit.Third bits)) text) ≡ stream_header → ⊥
second bits [] q e = no_empty (subst (λ xs. take 4 xs ≡ stream_header) (spells_none (before (digit.Third bits))) e)
second bits (c ∷ text) q e = second_first bits c text (either_value c) refl (first_given (digit.Third bits) c text (or_left _ _ q.0) e) q

-- base64 from the third

third_third : (a v c d : ℕ) (text : List ℕ) (o : Option ℕ) → either_value c ≡ Some v → v ≡ 44 → either_value d ≡ o
    → take 4 (a ∷ follows (step_with digit.First o) (λ n. spelled n text)) ≡ stream_header → marks c d ≡ false → ⊥
third_third a v c d text None is v_is is_d e m = no_one a e
third_third a v c d text (Some w) is v_is is_d e m =
    both_true (c == 0x73) (d == 0x37) (is_s c v is v_is) (is_7 d w is_d (led 0xED (digit.Second w) last.Digit text (second_is a _ e))) (or_right _ _ (or_right _ _ m))

third_second : (a v c : ℕ) (text : List ℕ) → either_value c ≡ Some v → v ≡ 44 → take 4 (a ∷ spelled (before digit.First) text) ≡ stream_header → Quiet (c ∷ text) → ⊥
third_second a v c [] is v_is e q = no_one a (subst (λ xs. take 4 (a ∷ xs) ≡ stream_header) (spells_none (before digit.First)) e)
third_second a v c (d ∷ text) is v_is e q = third_third a v c d text (either_value d) is v_is refl (second_given a digit.First d text q.1 e) q.0

third_first : (bits c : ℕ) (text : List ℕ) (o : Option ℕ) → either_value c ≡ o → take 4 (follows (step_with (digit.Fourth bits) o) (λ n. spelled n text)) ≡ stream_header
    → Quiet (c ∷ text) → ⊥
third_first bits c text None is e q = no_empty e
third_first bits c text (Some v) is e q =
    let small : v < 64 = small_given digit.First c (Some v) is in
    let byte : bits * 64 + v ≡ 0xAC = head_is (bits * 64 + v) _ e in
    third_second (bits * 64 + v) v c text is (omega (arith, small, byte)) e q

third : (bits : ℕ) (text : List ℕ) → Quiet text → take 4 (spelled (before (digit.Fourth bits)) text) ≡ stream_header → ⊥
third bits [] q e = no_empty (subst (λ xs. take 4 xs ≡ stream_header) (spells_none (before (digit.Fourth bits))) e)
third bits (c ∷ text) q e = third_first bits c text (either_value c) refl (first_given (digit.Fourth bits) c text (or_left _ _ q.0) e) q

-- ---- so no header begins before two places that are not marked

pair_none : (text : List ℕ) (at : ℕ) (o : Option ℕ) (reading : Reading) → Quiet (drop (at + 1) text) → ReadsPair at o reading → SpellsHeader text reading → ⊥
pair_none text at None reading q reads e = reads
pair_none text at (Some value) reading q reads e = low value (drop (at + 1) text) q (subst (SpellsHeader text) reads e)

group_none : (text : List ℕ) (at : ℕ) (o : Option ℕ) (reading : Reading) → Quiet (drop (at + 1) text) → ReadsGroup at o reading → SpellsHeader text reading → ⊥
group_none text at None reading q reads e = reads
group_none text at (Some value) reading q (inl reads) e = group value (drop (at + 1) text) q (subst (SpellsHeader text) reads e)
group_none text at (Some value) reading q (inr (inl reads)) e = second (value % 16) (drop (at + 1) text) q (subst (SpellsHeader text) reads e)
group_none text at (Some value) reading q (inr (inr reads)) e = third (value % 4) (drop (at + 1) text) q (subst (SpellsHeader text) reads e)

quiet_behind : (text : List ℕ) (at : ℕ) → marks_at text (at + 1) ≡ false → marks_at text (at + 2) ≡ false → Quiet (drop (at + 1) text)
quiet_behind text at one two =
    let here : get_or (drop (at + 1) text) 0 0 ≡ get_or text (at + 1) 0 = get_or-drop (at + 1) text 0 0 ∙ ap (λ n. get_or text n 0) (omega arith) in
    let next : get_or (drop (at + 1) text) 1 0 ≡ get_or text (at + 1 + 1) 0 = get_or-drop (at + 1) text 1 0 ∙ ap (λ n. get_or text n 0) (omega arith) in
    let next2 : get_or (drop (at + 1) text) 1 0 ≡ get_or text (at + 2) 0 = get_or-drop (at + 1) text 1 0 ∙ ap (λ n. get_or text n 0) (omega arith) in
    (ap (λ c. marks c (get_or (drop (at + 1) text) 1 0)) here ∙ ap (λ d. marks (get_or text (at + 1) 0) d) next ∙ one, ap parts_digits next2 ∙ or_left _ _ two)

pub no_header : (text : List ℕ) (at : ℕ) → marks_at text (at + 1) ≡ false → marks_at text (at + 2) ≡ false → HasHeaderTextAt text at → ⊥
no_header text at one two (reading, (inl reads, e)) = pair_none text at (hex_digit_value (get_or text at 0)) reading (quiet_behind text at one two) reads e
no_header text at one two (reading, (inr reads, e)) = group_none text at (either_value (get_or text at 0)) reading (quiet_behind text at one two) reads e

pub none_before : (text : List ℕ) (at end : ℕ) → AreUnmarked text (at + 1) end → Nowhere (HasHeaderTextAt text) at (end - 2)
none_before text at end u = λ k low high. no_header text k (u.none (k + 1) (omega arith) (omega (arith, high))) (u.none (k + 2) (omega arith) (omega (arith, high)))

pub none_none : (text : List ℕ) (at : ℕ) → Nowhere (HasHeaderTextAt text) at at
none_none text at = λ k low high. absurd (omega (arith, low, high))

-- ---- runs of places

pub unmarked_none : (text : List ℕ) (from : ℕ) → from ≤ length text → AreUnmarked text from from
unmarked_none text from inside = record { low = omega arith; high = inside; none = λ k low high. absurd (omega (arith, low, high)) }

pub unmarked_joined : (text : List ℕ) (from mid to : ℕ) → AreUnmarked text from mid → AreUnmarked text mid to → AreUnmarked text from to
unmarked_joined text from mid to first second = record {
  low = omega (arith, first.low, second.low);
  high = second.high;
  none = λ k low high. elim (cases_lt k mid) [
    | inl l ↦ first.none k low l
    | inr not ↦ second.none k not high
  ];
}

-- ---- lanes

and_case : (x y : Bool) → bit_and (if x then 255 else 0) (if y then 255 else 0) ≡ (if x && y then 255 else 0)
and_case true true = refl
and_case true false = refl
and_case false true = refl
and_case false false = refl

or_case : (x y : Bool) → bit_or (if x then 255 else 0) (if y then 255 else 0) ≡ (if x || y then 255 else 0)
or_case true true = refl
or_case true false = refl
or_case false true = refl
or_case false false = refl

pub both_tests : (a b : List ℕ) (f g : ℕ → Bool) → IsTest a f → IsTest b g → IsTest (zip2 bit_and a b) (λ k. f k && g k)
both_tests a b f g ta tb =
    let h = HasLanes-zip2 bit_and a b ta.long tb.long in
    record {
      long = h.long;
      each = λ k l. h.each k l ∙ ap (λ n. bit_and n (get_or b k 0)) (ta.each k l) ∙ ap (λ n. bit_and (if f k then 255 else 0) n) (tb.each k l) ∙ and_case (f k) (g k);
    }

pub either_tests : (a b : List ℕ) (f g : ℕ → Bool) → IsTest a f → IsTest b g → IsTest (zip2 bit_or a b) (λ k. f k || g k)
either_tests a b f g ta tb =
    let h = HasLanes-zip2 bit_or a b ta.long tb.long in
    record {
      long = h.long;
      each = λ k l. h.each k l ∙ ap (λ n. bit_or n (get_or b k 0)) (ta.each k l) ∙ ap (λ n. bit_or (if f k then 255 else 0) n) (tb.each k l) ∙ or_case (f k) (g k);
    }

pub load_test : (bytes : List ℕ) (at byte : ℕ) (lanes : List ℕ) → at + 32 ≤ length bytes → HasLanes lanes (λ k. cond (eqb (get_or (chunk at 32 bytes) k 0) byte) 255 0)
    → IsTest lanes (λ k. get_or bytes (at + k) 0 == byte)
load_test bytes at byte lanes within h = record {
  long = h.long;
  each = λ k l. h.each k l ∙ ap (λ n. cond (eqb n byte) 255 0) (get_or-chunk at 32 bytes k 0 l);
}

lane_high : (b : Bool) (lane : ℕ) → lane ≡ (if b then 255 else 0) → (128 ≤ lane → ⊥) → b ≡ false
lane_high true lane is none = absurd (none (omega (arith, is)))
lane_high false lane is none = refl

pub not_set : (lanes : List ℕ) (test : ℕ → Bool) (m k : ℕ) → IsTest lanes test → ((bit_at m k ≡ 1) ↔ (128 ≤ get_or lanes k 0)) → k < 32 → bit_at m k ≡ 0 → test k ≡ false
not_set lanes test m k t tells l clear = lane_high (test k) (get_or lanes k 0) (t.each k l) (λ high. let no : bit_at m k ≡ 1 = tells.1 high in omega (arith, no, clear))

is_set_of : (lanes : List ℕ) (test : ℕ → Bool) (m k : ℕ) → IsTest lanes test → ((bit_at m k ≡ 1) ↔ (128 ≤ get_or lanes k 0)) → bit_at m k ≡ 1 → k < 32
is_set_of lanes test m k t tells one = elim (cases_lt k 32) [
  | inl l ↦ l
  | inr not ↦ let high : 128 ≤ get_or lanes k 0 = tells.0 one in let past : get_or lanes k 0 ≡ 0 = get_or_past lanes k 0 (omega (arith, not, t.long)) in omega (arith, high, past)
]

pub first_set : (lanes : List ℕ) (test : ℕ → Bool) (m first : ℕ) → ((k : ℕ) → (bit_at m k ≡ 1) ↔ (128 ≤ get_or lanes k 0)) → bit_at m first ≡ 1
    → ((k : ℕ) → k < first → bit_at m k ≡ 0) → IsTest lanes test → PassesFrom test first
first_set lanes test m first tells one clear t =
    let few : first < 32 = is_set_of lanes test m first t (tells first) one in
    record { few = omega (arith, few); before = λ k l. not_set lanes test m k t (tells k) (omega (arith, l, few)) (clear k l) }

pub none_set : (lanes : List ℕ) (test : ℕ → Bool) (m : ℕ) → ((k : ℕ) → (bit_at m k ≡ 1) ↔ (128 ≤ get_or lanes k 0)) → m ≡ 0 → IsTest lanes test → PassesFrom test 32
none_set lanes test m tells zero t =
    record { few = omega arith; before = λ k l. not_set lanes test m k t (tells k) l (ap (λ n. bit_at n k) zero ∙ bit_at-zero k) }

-- a load

module _ (text : List ℕ) (at : ℕ) where
  abbrev are : ℕ → ℕ → Bool
  are byte k = get_or text (at + k) 0 == byte

  abbrev then_are : ℕ → ℕ → Bool
  then_are byte k = get_or text (at + 1 + k) 0 == byte

  abbrev pub marked_lane : ℕ → Bool
  marked_lane k =
      ((are 0x0A k || are 0x0D k) || are 0x5C k)
      || (((((are 0x63 k || are 0x43 k) && (then_are 0x65 k || then_are 0x45 k)) || (are 0x4F k && then_are 0x30 k)) || (are 0x7A k && then_are 0x74 k)) || (are 0x73 k && then_are 0x37 k))

  lane_is : (k : ℕ) → marked_lane k ≡ marks_at text (at + k)
  lane_is k = ap (λ n. marks (get_or text (at + k) 0) (get_or text n 0)) (omega arith)

  pub run_unmarked : (run : ℕ) → at + 32 < length text → PassesFrom marked_lane run → AreUnmarked text at (at + run)
  run_unmarked run within p = record {
    low = omega arith;
    high = omega (arith, p.few, within);
    none = λ k low high.
        let place : at + (k - at) ≡ k = omega (arith, low) in
        subst (λ n. marks_at text n ≡ false) place (sym (lane_is (k - at)) ∙ p.before (k - at) (omega (arith, low, high)));
  }
