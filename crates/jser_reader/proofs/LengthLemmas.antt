-- The length of a text, whole in a piece or cut.
use Rattle.std.proofs.Common.{◌≡◌, ℕ, ◌<◌, ◌≤◌, Bool, true, false, List, ◌++◌, length, take, sym, ◌∙◌, ap, subst, arith}
use Rattle.std.proofs.lemmas.List.{length-take-le}
use Rattle.jser_prim.specs.Bytes.{big_bytes}
use Rattle.jser_reading.specs.TokensFromBytes.{head_size}
use Rattle.jser_reading.proofs.Decoding.{length-big_bytes}
use Rattle.jser_verdict.specs.Gates.{Gate}
use Rattle.jser_reader.specs.declared.machine.take.taken.Taken.{Taken}
use Rattle.jser_reader.specs.declared.machine.take.taken.Taken.TheVariants as taken
use Rattle.jser_reader.specs.declared.phase.Phase.TheVariants as phase
use Rattle.jser_reader.specs.Readers.{Seen, length_phase}
use Rattle.jser_reader.specs.Walks.{open_phase, cut_of}
use Rattle.jser_reader.specs.Takes.{CutsOff, IsWholeLength, IsPart, TakesFromFor}
use Rattle.jser_reader.specs.TextTakes.{TakesLength, LastCases}
use Rattle.jser_reader.proofs.PhaseLemmas.{whole_open, cut_open}
use Rattle.jser_reader.proofs.CutLemmas.{first_kept, length_number}

part_of_length : (long : Bool) (kept piece : List ℕ) (count : ℕ) → length (kept ++ take count piece) ≡ head_size long
    → IsPart (length_phase long) kept piece count
part_of_length false kept piece count e = e
part_of_length true kept piece count e = e

whole_length : (long : Bool) (bytes : List ℕ) → length bytes ≡ head_size long → IsWholeLength (length_phase long) bytes
whole_length false bytes e = e
whole_length true bytes e = e

-- it came, whole or after what was kept of it
length_came : (gate : Gate) (long : Bool) (n count : ℕ) (result : Taken) (piece : List ℕ) (old new : Seen)
    → TakesLength gate (head_size long) n count result old new → 0 < count → count ≤ length piece
    → big_bytes (head_size long) n ≡ cut_of old ++ take count piece → open_phase old ≡ length_phase long → TakesFromFor gate result piece old new
unfolding TakesLength TakesFromFor
length_came gate long n count result piece old new h some within spelled eo =
    go result (h (take count piece) (length-take-le count piece within) spelled)
  where
    size : length (cut_of old ++ take count piece) ≡ head_size long
    size = ap length (sym spelled) ∙ length-big_bytes (head_size long) n

    go : (r : Taken) → LastCases gate (take count piece) count r old new → TakesFromFor gate r piece old new
    go (taken.Part k) x =
        rw x.0 (some, within, x.1, subst (λ q. IsPart q (cut_of old) piece count) (sym eo) (part_of_length long (cut_of old) piece count size))
    go (taken.Ended k) x =
        rw x.0 (some, within, x.1, subst (λ q. IsWholeLength q (cut_of old ++ take count piece)) (sym eo) (whole_length long (cut_of old ++ take count piece) size))
    go (taken.Stopped k) x = rw x.0 (some, within, x.1)
    go taken.Open x = absurd x

-- a length that comes next

pub short_kept : (gate : Gate) (piece : List ℕ) (old new : Seen) → CutsOff piece old new → old.phase ≡ phase.Length2 → 0 < length piece → length piece < 2
    → TakesFromFor gate taken.Open piece old new
short_kept gate piece old new c e some short = first_kept gate 2 piece old new c (rw e (length_number false)) some short

pub short_taken : (gate : Gate) (n : ℕ) (result : Taken) (piece number : List ℕ) (old new : Seen) → TakesLength gate 2 n 2 result old new
    → old.phase ≡ phase.Length2 → big_bytes 2 n ≡ number → number ≡ take 2 piece → 2 ≤ length piece
    → TakesFromFor gate result piece old new
short_taken gate n result piece number old new h e spelled en long =
    let w = whole_open phase.Length2 old e (omega arith) in
    length_came gate false n 2 result piece old new h (omega arith) long (spelled ∙ en ∙ sym (ap (λ xs. xs ++ take 2 piece) w.1)) w.0

pub long_kept : (gate : Gate) (piece : List ℕ) (old new : Seen) → CutsOff piece old new → old.phase ≡ phase.Length8 → 0 < length piece → length piece < 8
    → TakesFromFor gate taken.Open piece old new
long_kept gate piece old new c e some short = first_kept gate 8 piece old new c (rw e (length_number true)) some short

pub long_taken : (gate : Gate) (n : ℕ) (result : Taken) (piece number : List ℕ) (old new : Seen) → TakesLength gate 8 n 8 result old new
    → old.phase ≡ phase.Length8 → big_bytes 8 n ≡ number → number ≡ take 8 piece → 8 ≤ length piece
    → TakesFromFor gate result piece old new
long_taken gate n result piece number old new h e spelled en long =
    let w = whole_open phase.Length8 old e (omega arith) in
    length_came gate true n 8 result piece old new h (omega arith) long (spelled ∙ en ∙ sym (ap (λ xs. xs ++ take 8 piece) w.1)) w.0

-- a length that was cut

pub rest_of_length_taken : (gate : Gate) (text : Bool) (n missing : ℕ) (result : Taken) (piece last : List ℕ) (old new : Seen)
    → TakesLength gate (head_size text) n missing result old new → old.meter.cut_phase ≡ length_phase text → old.phase ≡ phase.Cut
    → big_bytes (head_size text) n ≡ old.meter.kept ++ last → last ≡ take missing piece → 0 < missing → missing ≤ length piece
    → TakesFromFor gate result piece old new
rest_of_length_taken gate text n missing result piece last old new h ec e spelled el some long =
    let w = cut_open old e in
    length_came gate text n missing result piece old new h some long
    (spelled ∙ ap (λ xs. old.meter.kept ++ xs) el ∙ sym (ap (λ xs. xs ++ take missing piece) w.1)) (w.0 ∙ ec)
