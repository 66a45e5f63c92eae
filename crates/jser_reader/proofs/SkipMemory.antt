-- Memory in a call that takes a whole piece; and the size of a token, which other bytes after it do not change.
use Rattle.std.proofs.Common.{◌≡◌, ℕ, zero, suc, ◌+◌, ◌<◌, ◌≤◌, Bool, true, false, nat_lt, List, ◌++◌, length, Result, Ok, Err, refl, ap, arith, length-append}
use Rattle.std.proofs.lemmas.Bool.Decides.{nat_tests}
use Rattle.std.proofs.lemmas.List.{take-append-le}
use Rattle.jser_reading.specs.Labels.{Position, string_at, class_name_at, field_name_at, interface_name_at, block_length_at, raw_at, bytes_at}
use Rattle.jser_reading.specs.TokensFromBytes.{number_of, head_size, text_size, size_in}
use Rattle.jser_verdict.specs.Gates.{Gate}
use Rattle.jser_reader.specs.declared.phase.Phase.TheVariants as phase
use Rattle.jser_reader.specs.declared.refusal.Stop.{Stop}
use Rattle.jser_reader.specs.declared.tally.Tally.{Tally}
use Rattle.jser_reader.specs.Readers.{Seen}
use Rattle.jser_reader.specs.Bounds.{SkipMemoryFree}
use Rattle.jser_reader.proofs.MemoryLemmas.{never_stopped}

-- ---- bytes that are all of a token are not inside it

text_size_after : (long : Bool) (a b : List ℕ) → text_size long a ≤ length a → text_size long (a ++ b) ≡ text_size long a
text_size_after long a b h = go (nat_lt (length a) (head_size long)) refl
  where
    n : length (a ++ b) ≡ length a + length b
    n = length-append a b

    go : (x : Bool) → nat_lt (length a) (head_size long) ≡ x → text_size long (a ++ b) ≡ text_size long a
    go true ex =
        let short : length a < head_size long = grind (arith, nat_tests) in
        let size : text_size long a ≡ head_size long = rw ex refl in
        absurd (omega arith)
    go false ex =
        let enough : head_size long ≤ length a = grind (arith, nat_tests) in
        let ey : nat_lt (length (a ++ b)) (head_size long) ≡ false = grind (arith, nat_tests) in
        rw ey (rw ex (ap (λ xs. head_size long + number_of xs) (take-append-le (head_size long) a b enough)))

pub size_after : (w : Position) (a b : List ℕ) → size_in w a ≤ length a → size_in w (a ++ b) ≡ size_in w a
size_after (string_at long) a b h = text_size_after long a b h
size_after (class_name_at role) a b h = text_size_after false a b h
size_after field_name_at a b h = text_size_after false a b h
size_after interface_name_at a b h = text_size_after false a b h
size_after (block_length_at true) a b h = refl
size_after (block_length_at false) a b h = refl
size_after (raw_at c zero) a b h = refl
size_after (raw_at c (suc n)) a b h = refl
size_after (bytes_at zero) a b h = refl
size_after (bytes_at (suc n)) a b h = refl
size_after _ a b h = refl

pub inside_ok : (result : Result (Unit {0}) Stop) (x : Unit {0}) (piece : List ℕ) (gate : Gate) (r : Seen) (tally : Tally) → result ≡ Ok x → SkipMemoryFree gate piece result r tally
unfolding SkipMemoryFree
inside_ok result x piece gate r tally e = λ front cut label st k other inside none. absurd (cc)

pub inside_stopped : (why : Stop) (piece : List ℕ) (gate : Gate) (r : Seen) (tally : Tally) → r.phase ≡ phase.Stopped → SkipMemoryFree gate piece (Err why) r tally
unfolding SkipMemoryFree
inside_stopped why piece gate r tally e = λ front cut label st k other inside none. never_stopped gate front cut r tally st e
