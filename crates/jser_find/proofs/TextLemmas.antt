-- The longest stream that a text spells.
use Rattle.std.proofs.Common.{◌≡◌, ℕ, ◌+◌, ◌<◌, ◌≤◌, ◌⊎◌, inl, inr, max, List, length, take, drop, Option, Some, None, refl, sym, ap, subst, ◌∙◌, arith, length-take, length-take-le, take_all, take-take}
use Rattle.memchr.specs.Find.{Nowhere}
use Rattle.jser_grammar.specs.Parts.{IsBytes}
use Rattle.jser_reader.specs.Gates.{open_gate}
use Rattle.jser_reader.specs.WholeContents.{IsWhole, StaysWhole}
use Rattle.jser_find.specs.declared.spelled.Reading.{Reading}
use Rattle.jser_find.specs.declared.start.Start.{Start}
use Rattle.jser_find.specs.declared.texts.TextFind.{TextFind}
use Rattle.jser_find.specs.Spelled.{IsIn, bytes_from, place_until}
use Rattle.jser_find.specs.Starts.{HasHeaderTextAt, IsFirstStart}
use Rattle.jser_find.specs.declared.finder.Whole.{Whole}
use Rattle.jser_find.specs.declared.longest.Turn.{Turn}
use Rattle.jser_find.specs.declared.longest.Turn.TheVariants as turn
use Rattle.jser_find.specs.Budgets.{deciding}
use Rattle.jser_find.specs.Texts.{IsCut, IsLongest, IsLongestIn, IsSpentAt, IsTextFindAt, IsTurn, TextSearch, form_of, place_after}
use Rattle.jser_find.proofs.BudgetLemmas.{front_left, front_over, front_reads, front_stays}
use Rattle.jser_find.proofs.BytesLemmas.{spells_bytes}

-- ---- a front that decides

-- the first n bytes of a front are the longest stream, and so they are of all
longest_by : (most n count : ℕ) (bytes front stream : List ℕ) → front ≡ take count bytes → n ≤ length front → stream ≡ take n front
    → IsWhole open_gate (take most bytes) n → IsLongest most bytes stream
longest_by most n count bytes front stream is within first whole =
    let long = length-take-le n front within in
    let size : length stream ≡ n = ap (λ xs. length xs) first ∙ long in
    let few = ap (λ xs. length xs) is ∙ length-take count bytes in
    record {
      whole = subst (IsWhole open_gate (take most bytes)) (sym size) whole;
      is = first ∙ ap (take n) is ∙ take-take n count bytes (omega arith) ∙ ap (λ m. take m bytes) (sym size);
    }

-- the stream is cut off the front where the budget lasts
turn_known : (most left count : ℕ) (bytes front : List ℕ) (whole : Whole) (result : Turn) → front ≡ take count bytes → IsWhole open_gate front whole.len
    → IsWhole open_gate (take most bytes) whole.len → whole.read ≡ deciding (take most bytes) → IsCut front whole left result → IsTurn most left bytes result
turn_known most left count bytes front whole (turn.Found longest) is here all read cut =
    (longest_by most whole.len count bytes front longest.stream.items is here.within cut.0 all, cut.1 ∙ read, subst (λ n. n ≤ left) (sym cut.1) cut.2)
turn_known most left count bytes front whole turn.Over is here all read cut = subst (λ n. left < n) read cut
turn_known most left count bytes front whole turn.More is here all read cut = absurd cut

-- a front that is no longer than the most is one of the first so many bytes
front_of_most : (most count : ℕ) (bytes front : List ℕ) → front ≡ take count bytes → count ≤ most → take count (take most bytes) ≡ front
front_of_most most count bytes front is few = take-take count most bytes few ∙ sym is

-- ---- a front decides

pub turn_sure : (most left count : ℕ) (bytes front slice : List ℕ) (whole : Whole) (result : Turn) → slice ≡ front → front ≡ take count bytes → count ≤ most
    → IsWhole open_gate slice whole.len → whole.read ≡ deciding slice → (whole.read < length slice → StaysWhole open_gate slice whole.len)
    → whole.read < length front → IsBytes bytes → IsCut front whole left result → IsTurn most left bytes result
turn_sure most left count bytes front slice whole result same is few here read sure less are cut =
    let B : List ℕ = take most bytes in
    let of_all : take count B ≡ slice = front_of_most most count bytes front is few ∙ sym same in
    let B_are : IsBytes B = front_left most bytes are in
    let shorter : whole.read < length slice = subst (λ xs. whole.read < length xs) (sym same) less in
    let read_here : whole.read ≡ deciding (take count B) = subst (λ xs. whole.read ≡ deciding xs) (sym of_all) read in
    let less_here : deciding (take count B) < length (take count B) =
    subst (λ xs. deciding xs < length xs) (sym of_all) (subst (λ n. n < length slice) read shorter) in
    turn_known most left count bytes front whole result is (subst (λ xs. IsWhole open_gate xs whole.len) same here)
    (front_stays count B whole.len B_are (subst (λ xs. StaysWhole open_gate xs whole.len) (sym of_all) (sure shorter)))
    (read_here ∙ sym (front_reads count B B_are less_here)) cut

-- ---- the text ends, or the most is read

all_in : (most count : ℕ) (bytes front : List ℕ) → front ≡ take count bytes → count ≤ most → (length front < count) ⊎ (most ≤ count) → front ≡ take most bytes
all_in most count bytes front is few (inl short) =
    let size = ap (λ xs. length xs) is ∙ length-take count bytes in
    is ∙ take_all count bytes (omega arith) ∙ sym (take_all most bytes (omega arith))
all_in most count bytes front is few (inr full) = let same : count ≡ most = omega arith in is ∙ ap (λ m. take m bytes) same

pub turn_all : (most left count : ℕ) (bytes front slice : List ℕ) (whole : Whole) (result : Turn) → slice ≡ front → front ≡ take count bytes → count ≤ most
    → IsWhole open_gate slice whole.len → whole.read ≡ deciding slice → (length front < count) ⊎ (most ≤ count) → IsCut front whole left result
    → IsTurn most left bytes result
turn_all most left count bytes front slice whole result same is few here read ends cut =
    let all : slice ≡ take most bytes = same ∙ all_in most count bytes front is few ends in
    turn_known most left count bytes front whole result is (subst (λ xs. IsWhole open_gate xs whole.len) same here)
    (subst (λ xs. IsWhole open_gate xs whole.len) all here) (read ∙ ap (λ xs. deciding xs) all) cut

-- ---- a front of more than is left does not

pub turn_over : (most left count : ℕ) (bytes front slice : List ℕ) (whole : Whole) → slice ≡ front → front ≡ take count bytes → count ≤ most
    → whole.read ≡ deciding slice → length front ≤ whole.read → count ≤ length front → left < count → IsBytes bytes → IsTurn most left bytes turn.Over
turn_over most left count bytes front slice whole same is few read full long over are =
    let B : List ℕ = take most bytes in
    let of_all : take count B ≡ slice = front_of_most most count bytes front is few ∙ sym same in
    let size : length slice ≡ length front = ap (λ xs. length xs) same in
    let here : length (take count B) ≤ deciding (take count B) = subst (λ xs. length xs ≤ deciding xs) (sym of_all) (omega (arith, size, full, read)) in
    let more : length (take count B) ≤ deciding B = front_over count B (front_left most bytes are) here in
    let n : length (take count B) ≡ length slice = ap (λ xs. length xs) of_all in
    omega (arith, more, n, size, long, over)

pub are_bytes : (text : List ℕ) (reading : Reading) → IsIn text reading → IsBytes (bytes_from text reading)
are_bytes text reading is = spells_bytes (drop reading.at text) reading.spot is.fits

-- ---- a find

pub longest_enough : (most : ℕ) (bytes stream : List ℕ) → IsLongest most bytes stream → length stream ≤ length bytes
longest_enough most bytes stream is =
    let within = is.whole.within in
    let few = length-take most bytes in
    omega arith

pub no_text_found : (search inside : TextSearch) (start : Option Start) → inside ≡ search → start ≡ None → IsFirstStart inside.text inside.place start
    → Nowhere (HasHeaderTextAt search.text) search.place (length search.text)
no_text_found search inside start same none first =
    subst (λ (s : TextSearch). Nowhere (HasHeaderTextAt s.text) s.place (length s.text)) same (subst (IsFirstStart inside.text inside.place) none first)

pub text_spent : (most : ℕ) (text : List ℕ) (place before : ℕ) (start : Start) → IsFirstStart text place (Some start)
    → IsLongestIn most before (bytes_from text start.reading) None → IsSpentAt most text place start.from before
text_spent most text place before start first over = record { start = start; first = first; from = refl; over = over }

pub text_found : (most : ℕ) (text : List ℕ) (place after : ℕ) (start : Start) (find : TextFind) → IsFirstStart text place (Some start)
    → find.from ≡ start.from → find.form ≡ form_of start.reading.spot.next
    → find.to ≡ place_until text start.reading (length find.stream.items)
    → after ≡ max (place_after text start.reading (length find.stream.items)) (start.from + 1)
    → IsLongest most (bytes_from text start.reading) find.stream.items → IsTextFindAt most text place after start find
text_found most text place after start find first from form to goes_on longest =
    record { first = first; from = from; form = form; longest = longest; to = to; goes_on = goes_on }
