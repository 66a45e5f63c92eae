-- What a front of so many bytes as are left says of all bytes.
use Rattle.std.proofs.Common.{◌≡◌, ℕ, ◌+◌, ◌<◌, ◌≤◌, List, length, take, drop, Some, None, sym, ◌∙◌, subst, arith, length-take-le}
use Rattle.std.proofs.lemmas.List.{take-append-drop}
use Rattle.jser_grammar.specs.Parts.{IsBytes}
use Rattle.jser_verdict.proofs.ByteLists.{bytes_left, bytes_right}
use Rattle.jser_reader.specs.Gates.{open_gate}
use Rattle.jser_reader.specs.WholeContents.{IsWhole, StaysWhole}
use Rattle.jser_find.specs.declared.finder.Whole.{Whole}
use Rattle.jser_find.specs.Budgets.{IsKnown, deciding}
use Rattle.jser_find.proofs.DecidingLemmas.{decide_within, front_decides, front_is_read}

-- the front and what is behind it
pub front_left : (count : ℕ) (bytes : List ℕ) → IsBytes bytes → IsBytes (take count bytes)
front_left count bytes h = bytes_left (take count bytes) (drop count bytes) (subst IsBytes (sym (take-append-drop count bytes)) h)

front_right : (count : ℕ) (bytes : List ℕ) → IsBytes bytes → IsBytes (drop count bytes)
front_right count bytes h = bytes_right (take count bytes) (drop count bytes) (subst IsBytes (sym (take-append-drop count bytes)) h)

-- ---- a front decides

pub front_reads : (count : ℕ) (bytes : List ℕ) → IsBytes bytes → deciding (take count bytes) < length (take count bytes) → deciding bytes ≡ deciding (take count bytes)
front_reads count bytes h less =
    subst (λ xs. deciding xs ≡ deciding (take count bytes)) (take-append-drop count bytes)
    (front_decides open_gate (take count bytes) (drop count bytes) (front_left count bytes h) (front_right count bytes h) less)

pub front_stays : (count : ℕ) (bytes : List ℕ) (n : ℕ) → IsBytes bytes → StaysWhole open_gate (take count bytes) n → IsWhole open_gate bytes n
front_stays count bytes n h stays =
    subst (λ xs. IsWhole open_gate xs n) (take-append-drop count bytes) (stays (drop count bytes) (front_right count bytes h))

-- ---- or it does not

pub front_over : (count : ℕ) (bytes : List ℕ) → IsBytes bytes → length (take count bytes) ≤ deciding (take count bytes) → length (take count bytes) ≤ deciding bytes
front_over count bytes h full =
    subst (λ xs. length (take count bytes) ≤ deciding xs) (take-append-drop count bytes)
    (front_is_read open_gate (take count bytes) (drop count bytes) (front_left count bytes h) (front_right count bytes h) full)

-- ---- what is known

pub known_all : (left : ℕ) (bytes : List ℕ) (whole : Whole) → length bytes ≤ left → IsBytes bytes → IsWhole open_gate bytes whole.len → whole.read ≡ deciding bytes
    → IsKnown left bytes (Some whole)
known_all left bytes whole few h is read = let w = decide_within open_gate bytes h in (is, read, omega arith)

pub known_front : (left : ℕ) (bytes front : List ℕ) (whole : Whole) → left < length bytes → IsBytes bytes → front ≡ take (left + 1) bytes → whole.read ≡ deciding front
    → (whole.read < length front → StaysWhole open_gate front whole.len) → whole.read ≤ left → IsKnown left bytes (Some whole)
known_front left bytes front whole long h is read stays few =
    let size : length (take (left + 1) bytes) ≡ left + 1 = length-take-le (left + 1) bytes (omega (arith, long)) in
    let here : whole.read ≡ deciding (take (left + 1) bytes) = subst (λ xs. whole.read ≡ deciding xs) is read in
    let less : deciding (take (left + 1) bytes) < length (take (left + 1) bytes) = omega (arith, here, size, few) in
    let sure : whole.read < length (take (left + 1) bytes) → StaysWhole open_gate (take (left + 1) bytes) whole.len =
    subst (λ xs. whole.read < length xs → StaysWhole open_gate xs whole.len) is stays in
    (front_stays (left + 1) bytes whole.len h (sure (omega (arith, here, less))), here ∙ sym (front_reads (left + 1) bytes h less), few)

pub not_known : (left : ℕ) (bytes front : List ℕ) (whole : Whole) → left < length bytes → IsBytes bytes → front ≡ take (left + 1) bytes → whole.read ≡ deciding front
    → left < whole.read → IsKnown left bytes None
not_known left bytes front whole long h is read more =
    let size : length (take (left + 1) bytes) ≡ left + 1 = length-take-le (left + 1) bytes (omega (arith, long)) in
    let here : whole.read ≡ deciding (take (left + 1) bytes) = subst (λ xs. whole.read ≡ deciding xs) is read in
    let over = front_over (left + 1) bytes h (omega (arith, here, size, more)) in
    omega (arith, over, size)
