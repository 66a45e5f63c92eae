-- Where the header of a stream begins in a text.
use Rattle.std.proofs.Common.{◌≡◌, ℕ, ◌+◌, ◌%◌, ◌<◌, ◌≤◌, ◌⊎◌, ◌==◌, ◌||◌, Bool, true, false, if◌then◌else◌, List, [], ◌∷◌, length, take, drop, get_or, IfSome, refl, sym, ap, subst, ◌∙◌, arith, inl, inr, ⊎_elim, eq-or-lt_of_le, Option, Some, None}
use Rattle.std.proofs.lemmas.Bool.Decides.{nat_tests}
use Rattle.std.proofs.lemmas.Bool.{cases_lt}
use Rattle.memchr.specs.Find.{Nowhere}
use Rattle.jser_find.specs.declared.spot.Digit.TheVariants as digit
use Rattle.jser_find.specs.declared.spelled.Reading.{Reading}
use Rattle.jser_grammar.specs.Wire.{stream_header}
use Rattle.jser_find.specs.declared.spot.Digit.{Digit}
use Rattle.jser_find.specs.declared.spot.Last.{Last}
use Rattle.jser_find.specs.declared.spot.Last.TheVariants as last
use Rattle.jser_find.specs.declared.spot.Step.{Step}
use Rattle.jser_find.specs.declared.spot.Step.TheVariants as step
use Rattle.hex.specs.Hex.{hex_digit_value}
use Rattle.jser_digits.specs.Digits.{either_value}
use Rattle.jser_find.specs.Spelled.{follows, spelled}
use Rattle.jser_find.specs.Spots.{behind, digit_step, digit_value, open_step, radix, step_of, step_with, value_step}
use Rattle.jser_find.specs.Starts.{HasHeaderTextAt, IsFirstStart, ReadsFrom, ReadsGroup, ReadsPair, SpellsHeader, StartsAt, StartsBy, leads, reading_before}
use Rattle.jser_find.proofs.BytesLemmas.{value_small}

-- ---- a header's first byte

is_equal : (m n : ℕ) → m ≡ n → (m == n) ≡ true
is_equal m n e = grind (arith, nat_tests, e)

-- a step leaves the bits as they are, or it gives the header's first byte only where they lead to it
abbrev IsLed : Digit → Step → Type 0
IsLed next (step.Goes spot) = spot.next ≡ next
IsLed next (step.Gives byte spot) = byte ≡ 0xAC → leads next ≡ true
IsLed next step.Ends = Unit {0}

led_value : (next : Digit) (value : ℕ) → value < radix next → leads next ≡ false → IsLed next (value_step next value)
led_value digit.High value small e = absurd (let no : true ≡ false = e in cc)
led_value digit.First value small e = absurd (let no : true ≡ false = e in cc)
led_value (digit.Low bits) value small e = λ byte. is_equal bits 10 (omega (arith, byte, small))
led_value (digit.Second bits) value small e = λ byte. is_equal bits 43 (omega (arith, byte, small))
led_value (digit.Third bits) value small e = λ byte. is_equal bits 10 (omega (arith, byte, small))
led_value (digit.Fourth bits) value small e = λ byte. is_equal bits 2 (omega (arith, byte, small))

led_with : (next : Digit) (value : Option ℕ) → IfSome value (λ v. v < radix next) → leads next ≡ false → IsLed next (step_with next value)
led_with next None small e = tt
led_with next (Some value) small e = led_value next value small e

led_digit : (next : Digit) (c : ℕ) → leads next ≡ false → IsLed next (digit_step next c)
led_digit next c e = led_with next (digit_value next c) (value_small next c) e

led_open : (next : Digit) (c : ℕ) → leads next ≡ false → IsLed next (open_step next c)
led_open next c e = by (c == 0x0A || c == 0x0D) (c == 0x5C)
  where
    by : (line slash : Bool)
        → IsLed next (if line then step.Goes (behind last.LineEnd next) else (if slash then step.Goes (behind last.Backslash next) else digit_step next c))
    by true slash = refl
    by false true = refl
    by false false = led_digit next c e

led_step : (next : Digit) (what : Last) (c : ℕ) → leads next ≡ false → IsLed next (step_of (behind what next) c)
led_step next last.Digit c e = led_open next c e
led_step next last.LineEnd c e = by (c == 0x20 || c == 0x09)
  where
    by : (blank : Bool) → IsLed next (if blank then step.Goes (behind last.LineEnd next) else open_step next c)
    by true = refl
    by false = led_open next c e
led_step next last.Backslash c e = by (c == 0x6E || c == 0x72) (c == 0x2F)
  where
    by : (line slash : Bool) → IsLed next (if line then step.Goes (behind last.LineEnd next) else (if slash then digit_step next c else step.Ends))
    by true slash = refl
    by false true = led_digit next c e
    by false false = tt

first_is : (byte : ℕ) (rest : List ℕ) → take 4 (byte ∷ rest) ≡ stream_header → byte ≡ 0xAC
first_is byte rest e = ap (λ xs. get_or xs 0 0) e

not_spelled : (next : Digit) (what : Last) (text : List ℕ) → leads next ≡ false → take 4 (spelled (behind what next) text) ≡ stream_header → ⊥
unfolding spelled
not_spelled next what [] e is = let no : [] ≡ stream_header = is in cc
not_spelled next what (c ∷ text) e is =
    by (λ again h. not_spelled next again text e h) (step_of (behind what next) c) (led_step next what c e) is
  where
    by : ((again : Last) → take 4 (spelled (behind again next) text) ≡ stream_header → ⊥) → (s : Step) → IsLed next s
        → take 4 (follows s (λ spot. spelled spot text)) ≡ stream_header → ⊥
    by f (step.Goes spot) led h = f spot.last (subst (λ n. take 4 (spelled (behind spot.last n) text) ≡ stream_header) led h)
    by f (step.Gives byte spot) led h = let no : true ≡ false = sym (led (first_is byte (spelled spot text) h)) ∙ e in cc
    by f step.Ends led h = let no : [] ≡ stream_header = h in cc

pub not_led : (text : List ℕ) (from : Reading) → leads from.spot.next ≡ false → SpellsHeader text from → ⊥
not_led text from e = not_spelled from.spot.next from.spot.last (drop from.at text) e

-- ---- the ways in which a text is read from a place on

pub no_pair_digit : (text : List ℕ) (at : ℕ) (value : Option ℕ) → None ≡ value → StartsBy (ReadsPair at value) text None
no_pair_digit text at value is = subst (λ v. StartsBy (ReadsPair at v) text None) is (λ reading reads spells. reads)

pub no_pair : (text : List ℕ) (at value : ℕ) (found : Option ℕ) → Some value ≡ found → (SpellsHeader text (reading_before (at + 1) (digit.Low value)) → ⊥)
    → StartsBy (ReadsPair at found) text None
no_pair text at value found is none =
    subst (λ v. StartsBy (ReadsPair at v) text None) is (λ reading reads spells. none (subst (SpellsHeader text) reads spells))

pub pair_found : (text : List ℕ) (at value : ℕ) (found : Option ℕ) → Some value ≡ found → SpellsHeader text (reading_before (at + 1) (digit.Low value))
    → StartsBy (ReadsPair at found) text (Some (reading_before (at + 1) (digit.Low value)))
pair_found text at value found is spells =
    subst (λ v. StartsBy (ReadsPair at v) text (Some (reading_before (at + 1) (digit.Low value)))) is (refl, spells)

pub no_group_digit : (text : List ℕ) (at : ℕ) (value : Option ℕ) → None ≡ value → StartsBy (ReadsGroup at value) text None
no_group_digit text at value is = subst (λ v. StartsBy (ReadsGroup at v) text None) is (λ reading reads spells. reads)

pub no_group : (text : List ℕ) (at value : ℕ) (found : Option ℕ) → Some value ≡ found → (SpellsHeader text (reading_before (at + 1) (digit.Second value)) → ⊥)
    → (SpellsHeader text (reading_before (at + 1) (digit.Third (value % 16))) → ⊥) → (SpellsHeader text (reading_before (at + 1) (digit.Fourth (value % 4))) → ⊥)
    → StartsBy (ReadsGroup at found) text None
no_group text at value found is first second third = subst (λ v. StartsBy (ReadsGroup at v) text None) is none
  where
    none : StartsBy (ReadsGroup at (Some value)) text None
    none reading (inl same) spells = first (subst (SpellsHeader text) same spells)
    none reading (inr (inl same)) spells = second (subst (SpellsHeader text) same spells)
    none reading (inr (inr same)) spells = third (subst (SpellsHeader text) same spells)

pub first_found : (text : List ℕ) (at value : ℕ) (found : Option ℕ) → Some value ≡ found → SpellsHeader text (reading_before (at + 1) (digit.Second value))
    → StartsBy (ReadsGroup at found) text (Some (reading_before (at + 1) (digit.Second value)))
first_found text at value found is spells =
    subst (λ v. StartsBy (ReadsGroup at v) text (Some (reading_before (at + 1) (digit.Second value)))) is (inl refl, spells)

pub second_found : (text : List ℕ) (at value : ℕ) (found : Option ℕ) → Some value ≡ found → SpellsHeader text (reading_before (at + 1) (digit.Third (value % 16)))
    → StartsBy (ReadsGroup at found) text (Some (reading_before (at + 1) (digit.Third (value % 16))))
second_found text at value found is spells =
    subst (λ v. StartsBy (ReadsGroup at v) text (Some (reading_before (at + 1) (digit.Third (value % 16))))) is (inr (inl refl), spells)

pub third_found : (text : List ℕ) (at value : ℕ) (found : Option ℕ) → Some value ≡ found → SpellsHeader text (reading_before (at + 1) (digit.Fourth (value % 4)))
    → StartsBy (ReadsGroup at found) text (Some (reading_before (at + 1) (digit.Fourth (value % 4))))
third_found text at value found is spells =
    subst (λ v. StartsBy (ReadsGroup at v) text (Some (reading_before (at + 1) (digit.Fourth (value % 4))))) is (inr (inr refl), spells)

-- of both
pub no_start : (text : List ℕ) (at : ℕ) → StartsBy (ReadsPair at (hex_digit_value (get_or text at 0))) text None
    → StartsBy (ReadsGroup at (either_value (get_or text at 0))) text None → StartsAt text at None
no_start text at pair group = λ has. by has.0 has.1.0 has.1.1
  where
    by : (reading : Reading) → ReadsFrom text at reading → SpellsHeader text reading → ⊥
    by reading (inl reads) spells = pair reading reads spells
    by reading (inr reads) spells = group reading reads spells

pub pair_starts : (text : List ℕ) (at : ℕ) (reading : Reading) → StartsBy (ReadsPair at (hex_digit_value (get_or text at 0))) text (Some reading)
    → StartsAt text at (Some reading)
pair_starts text at reading h = (inl h.0, h.1)

pub group_starts : (text : List ℕ) (at : ℕ) (reading : Reading) → StartsBy (ReadsGroup at (either_value (get_or text at 0))) text (Some reading)
    → StartsAt text at (Some reading)
group_starts text at reading h = (inr h.0, h.1)

-- ---- one place after another

-- no header is spelled from there up to here
pub record NoneYet (text : List ℕ) (from at : ℕ) : Type 0 where
  pub low : from ≤ at
  pub high : at ≤ length text
  pub none : Nowhere (HasHeaderTextAt text) from at

pub none_yet : (text : List ℕ) (from : ℕ) → from ≤ length text → NoneYet text from from
none_yet text from inside = record { low = omega arith; high = inside; none = λ k low high is. absurd (omega (arith, low, high)) }

below_or : (k at : ℕ) → k ≤ at → (k ≡ at) ⊎ (k < at)
below_or k at le = eq-or-lt_of_le le

pub none_here : (text : List ℕ) (from at : ℕ) → at < length text → StartsAt text at None → NoneYet text from at → NoneYet text from (at + 1)
none_here text from at inside none yet =
    let low = yet.low in
    record {
      low = omega arith;
      high = omega arith;
      none = λ k k_low k_high is.
          ⊎_elim (λ same. none (subst (HasHeaderTextAt text) same is)) (λ less. yet.none k k_low less is) (below_or k at (omega (arith, k_high)));
    }

pub found_here : (text : List ℕ) (from at : ℕ) (reading : Reading) → at < length text → StartsAt text at (Some reading) → NoneYet text from at
    → IsFirstStart text from (Some (record { from = at; reading = reading }))
found_here text from at reading inside starts yet = (record { low = yet.low; high = inside; before = yet.none }, starts)

pub none_at_all : (text : List ℕ) (from at : ℕ) → length text ≤ at → NoneYet text from at → IsFirstStart text from None
none_at_all text from at over yet = λ k low high. yet.none k low (omega (arith, high, over))

pub none_passed : (text : List ℕ) (from at here : ℕ) → NoneYet text from at → at ≤ here → here < length text → Nowhere (HasHeaderTextAt text) at here → NoneYet text from here
none_passed text from at here yet low inside none = record {
  low = omega (arith, yet.low, low);
  high = omega arith;
  none = λ k k_low k_high is. elim (cases_lt k at) [
    | inl l ↦ yet.none k k_low l is
    | inr not ↦ none k not k_high is
  ];
}

pub found_behind : (text : List ℕ) (from at here : ℕ) (reading : Reading) → at ≤ here → here < length text → Nowhere (HasHeaderTextAt text) at here → StartsAt text here (Some reading)
    → NoneYet text from at → IsFirstStart text from (Some (record { from = here; reading = reading }))
found_behind text from at here reading low inside none starts yet = found_here text from here reading inside starts (none_passed text from at here yet low inside none)
