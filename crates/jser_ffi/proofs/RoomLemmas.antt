-- From the first bytes of a text to what a room holds of it.
use Rattle.std.proofs.Common.{◌≡◌, ℕ, ◌<◌, ◌≤◌, true, List, [], ◌++◌, length, take, drop, sym, ap, subst, ◌∙◌, arith, length-append}
use Rattle.std.specs.Prelude.{min}
use Rattle.std.proofs.lemmas.List.{take-append-le}
use Rattle.jser_commands.specs.declared.Start.{Start}
use Rattle.jser_commands.specs.Limits.{BeginsText}
use Rattle.jser_ffi.specs.declared.answer.Answer.{Answer}
use Rattle.jser_ffi.specs.Rooms.{Puts, PutsUpTo}
use Rattle.jser_ffi.specs.Told.{bare_answer}

-- all of it
pub puts_within : (start : Start) (most : ℕ) (kept old new : List ℕ) (answer : Answer) → start.whole ≡ true → kept ≡ start.bytes.items → length kept ≤ most → Puts kept old new answer
    → (text : List ℕ) → BeginsText start text → PutsUpTo most text old new answer
puts_within start most kept old new answer whole is fits puts text begins =
    let same : kept ≡ text = is ∙ begins.all whole in
    record {
      within = λ l. subst (λ t. Puts t old new answer) same puts;
      beyond = λ l. absurd (omega (arith, l, fits, ap length same));
    }

-- more than is made of it
pub puts_beyond : (start : Start) (most : ℕ) (kept old new : List ℕ) (answer : Answer) → kept ≡ start.bytes.items → most < length kept → answer ≡ bare_answer 6
    → new ≡ take (min most (length old)) kept ++ drop (min most (length old)) old → (text : List ℕ) → BeginsText start text → PutsUpTo most text old new answer
puts_beyond start most kept old new answer is over small put text begins =
    let split : text ≡ kept ++ begins.rest = begins.begins ∙ ap (λ xs. xs ++ begins.rest) (sym is) in
    let long : most < length text = omega (arith, over, ap length split, length-append kept begins.rest) in
    let same : take (min most (length old)) text ≡ take (min most (length old)) kept =
    ap (take (min most (length old))) split ∙ take-append-le (min most (length old)) kept begins.rest (omega (arith, over)) in
    record {
      within = λ l. absurd (omega (arith, l, long));
      beyond = λ l. (
        ap (λ a. a.status) small,
        ap (λ a. a.bytes) small,
        record { over = long; front = put ∙ ap (λ xs. xs ++ drop (min most (length old)) old) (sym same) },
      );
    }
