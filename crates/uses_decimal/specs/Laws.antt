-- The laws of the shortest decimal. A `size` is the `Size` of jser_decimal, which other crates cannot name.
use Rattle.std.specs.Prelude.{ℕ, ◌≡◌, ◌<◌, ◌+◌, ◌*◌, ◌/◌, ◌%◌, ◌^◌, true, false}
use Rattle.jser_decimal.specs.declared.Decimal.{Decimal}
use Rattle.jser_decimal.specs.declared.Magnitude.{Magnitude}
use Rattle.jser_decimal.specs.declared.Magnitude.TheVariants as magnitude
use Rattle.jser_decimal.specs.Floats.{double_of, single_of, size_with}
use Rattle.jser_decimal.specs.Shortest.{Range, range_at, reads_back, shortest}
use Rattle.uses_decimal.specs.Meaning.{IsShortest, IsSize, MeetHalfWay}

-- the decimal that the definition finds is the shortest, for floats of every kind: so 17 digits are always enough
abbrev pub TakesShortest : Type 0
TakesShortest = (least : ℕ) (size : _) → IsSize least size.significand size.power size.at_edge → IsShortest (λ place. range_at least place size) (shortest least size)

-- and no other decimal is
abbrev pub OnlyOne : Type 0
OnlyOne = (least : ℕ) (size : _) (one other : Decimal) → IsShortest (λ place. range_at least place size) one → IsShortest (λ place. range_at least place size) other → one ≡ other

-- ---- floats by their bits

-- what decimals of a float with these bits, without a sign, are measured with
abbrev pub range_of : (least one bits place : ℕ) → Range
range_of least one bits place = range_at least place (size_with one (bits / one) (bits % one))

abbrev pub double_range : (bits place : ℕ) → Range
double_range = range_of 1074 (2 ^ 52)

abbrev pub single_range : (bits place : ℕ) → Range
single_range = range_of 149 (2 ^ 23)

abbrev pub HasShortest : (range : (place : ℕ) → Range) → Magnitude → Type 0
HasShortest range (magnitude.Finite taken) = IsShortest range taken
HasShortest range _ = ⊥

-- each double that is finite and not zero has its shortest decimal
abbrev pub DoublesAreShortest : Type 0
DoublesAreShortest = (bits : ℕ) → 0 < bits % 2 ^ 63 → bits % 2 ^ 63 < 2047 * 2 ^ 52 → HasShortest (double_range (bits % 2 ^ 63)) (double_of bits).magnitude

abbrev pub SinglesAreShortest : Type 0
SinglesAreShortest = (bits : ℕ) → 0 < bits % 2 ^ 31 → bits % 2 ^ 31 < 255 * 2 ^ 23 → HasShortest (single_range (bits % 2 ^ 31)) (single_of bits).magnitude

-- Floats of bits that follow one another meet half way, and one of the two takes that point. So the quarters of `range_at` need not be believed.
abbrev pub NextMeets : Type 0
NextMeets = (least one bits place : ℕ) → 0 < one → one % 2 ≡ 0 → MeetHalfWay (range_of least one bits place) (range_of least one (bits + 1) place)

-- no decimal reads back as two floats
abbrev pub ReadsBackAsOne : Type 0
ReadsBackAsOne = (least one bits other place units : ℕ) → 0 < one → one % 2 ≡ 0 → bits < other
    → reads_back (range_of least one bits place) units ≡ true → reads_back (range_of least one other place) units ≡ false
