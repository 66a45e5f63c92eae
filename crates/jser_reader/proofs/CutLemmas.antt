-- Numbers that may be cut, and what becomes of their bytes.
use Rattle.std.proofs.Common.{◌≡◌, ℕ, ◌+◌, ◌<◌, ◌≤◌, Bool, true, false, List, ◌++◌, length, take, refl, sym, ◌∙◌, ap, subst, arith, length-append}
use Rattle.std.proofs.lemmas.List.{length-take-le}
use Rattle.jser_prim.specs.Bytes.{big_bytes}
use Rattle.jser_reading.specs.TokensFromBytes.{head_size}
use Rattle.jser_reading.proofs.Decoding.{length-big_bytes}
use Rattle.jser_verdict.specs.Gates.{Gate}
use Rattle.jser_reader.specs.declared.machine.flow.Flow.{Flow}
use Rattle.jser_reader.specs.declared.machine.take.taken.Taken.{Taken}
use Rattle.jser_reader.specs.declared.machine.take.taken.Taken.TheVariants as taken
use Rattle.jser_reader.specs.declared.phase.Phase.{Phase}
use Rattle.jser_reader.specs.declared.phase.Phase.TheVariants as phase
use Rattle.jser_reader.specs.Readers.{Seen, length_phase}
use Rattle.jser_reader.specs.Walks.{size_of_phase, open_phase, cut_of, Keeps}
use Rattle.jser_reader.specs.Cuts.{IsFour, CanBeCut, IsCutToken}
use Rattle.jser_reader.specs.Takes.{TakesNumber, CutsOff, IsWholeLength, TakesNumberFor, TakesFromFor, TakesFrom, taken_by}
use Rattle.jser_reader.proofs.PhaseLemmas.{IsFixed, whole_open, cut_open}
use Rattle.jser_reader.proofs.FixedWalks.{number_kept}
use Rattle.jser_reader.proofs.TakeLemmas.{taken_so_far}
use Rattle.jser_reader.proofs.TextSteps.{size_of_length, length_kept}

pub cuts_off : (piece : List ℕ) (old new : Seen) → IsCutToken old.phase piece
    → new.phase ≡ phase.Cut → new.meter.cut_phase ≡ old.phase → new.meter.kept ≡ piece
    → new.meter.at ≡ old.meter.at + length piece → new.meter.from ≡ old.meter.from → new.meter.limits ≡ old.meter.limits
    → new.frames ≡ old.frames → new.layers ≡ old.layers → new.table ≡ old.table → new.refs ≡ old.refs → new.owner ≡ old.owner
    → new.elements ≡ old.elements → new.header ≡ old.header → new.text ≡ old.text
    → CutsOff piece old new
cuts_off piece old new i ep ec ek ea em el ef ey et er eo es eh ex =
    let short = i.short in
    let w = whole_open old.phase old refl (omega arith) in
    record {
      phase_is = ep;
      cut_phase = ec ∙ sym w.0;
      kept = ek ∙ sym (ap (λ xs. xs ++ piece) w.1);
      counts = record { at = ea; from = em; limits = el; frames = ef; layers = ey; table = et; refs = er; owner = eo; elements = es; header = eh; text = ex };
    }

pub cuts_again : (piece : List ℕ) (old new : Seen) → old.phase ≡ phase.Cut
    → new.phase ≡ old.phase → new.meter.cut_phase ≡ old.meter.cut_phase → new.meter.kept ≡ old.meter.kept ++ piece
    → new.meter.at ≡ old.meter.at + length piece → new.meter.from ≡ old.meter.from → new.meter.limits ≡ old.meter.limits
    → new.frames ≡ old.frames → new.layers ≡ old.layers → new.table ≡ old.table → new.refs ≡ old.refs → new.owner ≡ old.owner
    → new.elements ≡ old.elements → new.header ≡ old.header → new.text ≡ old.text
    → CutsOff piece old new
cuts_again piece old new e ep ec ek ea em el ef ey et er eo es eh ex =
    let w = cut_open old e in
    record {
      phase_is = ep ∙ e;
      cut_phase = ec ∙ sym w.0;
      kept = ek ∙ sym (ap (λ xs. xs ++ piece) w.1);
      counts = record { at = ea; from = em; limits = el; frames = ef; layers = ey; table = et; refs = er; owner = eo; elements = es; header = eh; text = ex };
    }

-- ---- which numbers there are

pub no_other_four : (p : Phase) → IsFour p → (p ≡ phase.BackHandle → ⊥) → (p ≡ phase.ClassHandle → ⊥)
    → (p ≡ phase.SuperHandle → ⊥) → (p ≡ phase.TextHandle → ⊥) → (p ≡ phase.InterfaceCount → ⊥) → (p ≡ phase.ArrayLength → ⊥) → (p ≡ phase.BlockLength4 → ⊥) → ⊥
no_other_four phase.BackHandle i b c s t n a l = b refl
no_other_four phase.ClassHandle i b c s t n a l = c refl
no_other_four phase.SuperHandle i b c s t n a l = s refl
no_other_four phase.TextHandle i b c s t n a l = t refl
no_other_four phase.InterfaceCount i b c s t n a l = n refl
no_other_four phase.ArrayLength i b c s t n a l = a refl
no_other_four phase.BlockLength4 i b c s t n a l = l refl
no_other_four _ i b c s t n a l = absurd i

pub cut_four : (p : Phase) → CanBeCut p → (p ≡ phase.Header → ⊥) → (p ≡ phase.Length2 → ⊥) → (p ≡ phase.Length8 → ⊥) → (p ≡ phase.FieldCount → ⊥)
    → (p ≡ phase.Suid → ⊥) → IsFour p
cut_four phase.Header i h k l f s = absurd (h refl)
cut_four phase.Length2 i h k l f s = absurd (k refl)
cut_four phase.Length8 i h k l f s = absurd (l refl)
cut_four phase.FieldCount i h k l f s = absurd (f refl)
cut_four phase.Suid i h k l f s = absurd (s refl)
cut_four phase.Top i h k l f s = i
cut_four _ i h k l f s = i

-- the phase is a number of so many bytes; while it has fewer, it stays open
pub record IsNumberOf (size : ℕ) (p : Phase) : Type 0 where
  pub size_is : size_of_phase p ≡ size
  pub keeps : (gate : Gate) (piece : List ℕ) (old new : Seen) → CutsOff piece old new → open_phase old ≡ p
      → 0 < length (cut_of old ++ piece) → length (cut_of old ++ piece) < size → Keeps gate piece old new

fixed_number : (size : ℕ) (p : Phase) → IsFixed p → (p ≡ phase.Header → ⊥) → size_of_phase p ≡ size → IsNumberOf size p
fixed_number size p i other e = record {
  size_is = e;
  keeps = λ gate piece old new c eo some short. number_kept gate p old new piece c.phase_is (c.cut_phase ∙ eo) c.kept eo i other some (omega arith) c.counts;
}

-- the length of a text is one too
pub length_number : (long : Bool) → IsNumberOf (head_size long) (length_phase long)
length_number long = record {
  size_is = size_of_length long;
  keeps = λ gate piece old new c eo some short. length_kept gate long old new piece c.phase_is (c.cut_phase ∙ eo) c.kept eo some short c.counts;
}

pub field_count_is : IsNumberOf 2 phase.FieldCount
field_count_is = fixed_number 2 phase.FieldCount tt (λ e. absurd (cc)) refl

pub suid_is : IsNumberOf 8 phase.Suid
suid_is = fixed_number 8 phase.Suid tt (λ e. absurd (cc)) refl

pub four_is : (p : Phase) → IsFour p → IsNumberOf 4 p
four_is phase.BackHandle i = fixed_number 4 phase.BackHandle tt (λ e. absurd (cc)) refl
four_is phase.ClassHandle i = fixed_number 4 phase.ClassHandle tt (λ e. absurd (cc)) refl
four_is phase.SuperHandle i = fixed_number 4 phase.SuperHandle tt (λ e. absurd (cc)) refl
four_is phase.TextHandle i = fixed_number 4 phase.TextHandle tt (λ e. absurd (cc)) refl
four_is phase.InterfaceCount i = fixed_number 4 phase.InterfaceCount tt (λ e. absurd (cc)) refl
four_is phase.ArrayLength i = fixed_number 4 phase.ArrayLength tt (λ e. absurd (cc)) refl
four_is phase.BlockLength4 i = fixed_number 4 phase.BlockLength4 tt (λ e. absurd (cc)) refl
four_is _ i = absurd i

-- what may be cut, and is not the header, is a number
cut_is : (p : Phase) → CanBeCut p → (p ≡ phase.Header → ⊥) → IsNumberOf (size_of_phase p) p
cut_is phase.Header i h = absurd (h refl)
cut_is phase.Length2 i h = length_number false
cut_is phase.Length8 i h = length_number true
cut_is phase.FieldCount i h = field_count_is
cut_is phase.Suid i h = suid_is
cut_is phase.BackHandle i h = four_is phase.BackHandle i
cut_is phase.ClassHandle i h = four_is phase.ClassHandle i
cut_is phase.SuperHandle i h = four_is phase.SuperHandle i
cut_is phase.TextHandle i h = four_is phase.TextHandle i
cut_is phase.InterfaceCount i h = four_is phase.InterfaceCount i
cut_is phase.ArrayLength i h = four_is phase.ArrayLength i
cut_is phase.BlockLength4 i h = four_is phase.BlockLength4 i
cut_is _ i h = absurd i

-- ---- numbers of so many bytes

-- a number of which the piece has not all bytes
number_open : (gate : Gate) (size : ℕ) (p : Phase) (piece : List ℕ) (old new : Seen) → CutsOff piece old new → IsNumberOf size p → open_phase old ≡ p
    → 0 < length piece → length (cut_of old ++ piece) < size → TakesFromFor gate taken.Open piece old new
unfolding TakesFromFor
number_open gate size p piece old new c f eo some short =
    let n : length (cut_of old ++ piece) ≡ length (cut_of old) + length piece = length-append (cut_of old) piece in
    let z : size_of_phase (open_phase old) ≡ size = ap size_of_phase eo ∙ f.size_is in (
      f.keeps gate piece old new c eo (omega arith) short,
      record { same = (cut_open new c.phase_is).0 ∙ c.cut_phase; some = omega arith },
    )

whole_length : (p : Phase) (bytes : List ℕ) → length bytes ≡ size_of_phase p → IsWholeLength p bytes
whole_length phase.Length2 bytes e = e
whole_length phase.Length8 bytes e = e
whole_length phase.Top bytes e = tt
whole_length _ bytes e = tt

-- one of which it has
number_came : (gate : Gate) (size n count : ℕ) (found : Flow) (result : Taken) (piece : List ℕ) (old new : Seen)
    → TakesNumberFor gate size n count found old new → result ≡ taken_by count found → 0 < count → count ≤ length piece
    → big_bytes size n ≡ cut_of old ++ take count piece → size_of_phase (open_phase old) ≡ size → TakesFromFor gate result piece old new
unfolding TakesNumberFor
number_came gate size n count found result piece old new h er some within spelled es =
    taken_so_far gate count found result piece old new (h (take count piece) (length-take-le count piece within) spelled) er some within
    (whole_length (open_phase old) (cut_of old ++ take count piece) (ap length (sym spelled) ∙ length-big_bytes size n ∙ sym es))

-- a number that comes next

pub first_kept : (gate : Gate) (size : ℕ) (piece : List ℕ) (old new : Seen) → CutsOff piece old new → IsNumberOf size old.phase
    → 0 < length piece → length piece < size → TakesFromFor gate taken.Open piece old new
first_kept gate size piece old new c f some short =
    let s = f.size_is in
    let w = whole_open old.phase old refl (omega arith) in
    number_open gate size old.phase piece old new c f w.0 some (rw w.1 short)

pub all_taken : (gate : Gate) (size n : ℕ) (found : Flow) (result : Taken) (piece : List ℕ) (old new : Seen)
    → TakesNumberFor gate size n size found old new → result ≡ taken_by size found → IsNumberOf size old.phase → 0 < size
    → big_bytes size n ≡ take size piece → size ≤ length piece → TakesFromFor gate result piece old new
all_taken gate size n found result piece old new h er f some spelled long =
    let s = f.size_is in
    let w = whole_open old.phase old refl (omega arith) in
    number_came gate size n size found result piece old new h er some long (spelled ∙ sym (ap (λ xs. xs ++ take size piece) w.1))
    (ap size_of_phase w.0 ∙ s)

-- a number that was cut

pub rest_kept : (gate : Gate) (size missing : ℕ) (piece : List ℕ) (old new : Seen) → CutsOff piece old new → IsNumberOf size old.meter.cut_phase
    → old.phase ≡ phase.Cut → length old.meter.kept + missing ≡ size_of_phase old.meter.cut_phase → 0 < length piece → length piece < missing
    → TakesFromFor gate taken.Open piece old new
rest_kept gate size missing piece old new c f e all some short =
    let s = f.size_is in
    let w = cut_open old e in
    let n : length (old.meter.kept ++ piece) ≡ length old.meter.kept + length piece = length-append old.meter.kept piece in
    number_open gate size old.meter.cut_phase piece old new c f w.0 some (rw w.1 (omega arith))

pub rest_taken : (gate : Gate) (size n missing : ℕ) (found : Flow) (result : Taken) (piece last : List ℕ) (old new : Seen)
    → TakesNumberFor gate size n missing found old new → result ≡ taken_by missing found → IsNumberOf size old.meter.cut_phase → old.phase ≡ phase.Cut
    → big_bytes size n ≡ old.meter.kept ++ last → last ≡ take missing piece → 0 < missing → missing ≤ length piece
    → TakesFromFor gate result piece old new
rest_taken gate size n missing found result piece last old new h er f e spelled el some long =
    let w = cut_open old e in
    number_came gate size n missing found result piece old new h er some long
    (spelled ∙ ap (λ xs. old.meter.kept ++ xs) el ∙ sym (ap (λ xs. xs ++ take missing piece) w.1)) (ap size_of_phase w.0 ∙ f.size_is)

-- of the number that was cut more bytes came, and not all
pub cut_kept : (gate : Gate) (missing : ℕ) (piece : List ℕ) (old new : Seen) → CutsOff piece old new → CanBeCut old.meter.cut_phase
    → (old.meter.cut_phase ≡ phase.Header → ⊥) → old.phase ≡ phase.Cut → length old.meter.kept + missing ≡ size_of_phase old.meter.cut_phase
    → 0 < length piece → length piece < missing → TakesFromFor gate taken.Open piece old new
cut_kept gate missing piece old new c i h e all some short =
    rest_kept gate (size_of_phase old.meter.cut_phase) missing piece old new c (cut_is old.meter.cut_phase i h) e all some short

-- the last of them came
pub cut_taken : (gate : Gate) (size n missing : ℕ) (found : Flow) (result : Taken) (p : Phase) (piece last : List ℕ) (old new : Seen)
    → TakesNumber size n missing found old new → result ≡ taken_by missing found → IsNumberOf size p → old.meter.cut_phase ≡ p → old.phase ≡ phase.Cut
    → big_bytes size n ≡ old.meter.kept ++ last → last ≡ take missing piece → 0 < missing → missing ≤ length piece
    → TakesFromFor gate result piece old new
unfolding TakesNumber
cut_taken gate size n missing found result p piece last old new h er f ep e spelled el some long =
    rest_taken gate size n missing found result piece last old new (h gate) er (subst (IsNumberOf size) (sym ep) f) e spelled el some long

-- numbers that come next, of two bytes, of four and of eight

pub two_kept : (piece : List ℕ) (old new : Seen) → CutsOff piece old new → old.phase ≡ phase.FieldCount → 0 < length piece → length piece < 2
    → TakesFrom taken.Open piece old new
two_kept piece old new c e some short = λ gate. first_kept gate 2 piece old new c (subst (IsNumberOf 2) (sym e) field_count_is) some short

pub two_taken : (n : ℕ) (found : Flow) (result : Taken) (piece number : List ℕ) (old new : Seen) → TakesNumber 2 n 2 found old new → result ≡ taken_by 2 found
    → old.phase ≡ phase.FieldCount → big_bytes 2 n ≡ number → number ≡ take 2 piece → 2 ≤ length piece → TakesFrom result piece old new
unfolding TakesNumber
two_taken n found result piece number old new h er e spelled en long =
    λ gate. all_taken gate 2 n found result piece old new (h gate) er (subst (IsNumberOf 2) (sym e) field_count_is) (omega arith) (spelled ∙ en) long

pub four_kept : (piece : List ℕ) (old new : Seen) → CutsOff piece old new → IsFour old.phase → 0 < length piece → length piece < 4
    → TakesFrom taken.Open piece old new
four_kept piece old new c i some short = λ gate. first_kept gate 4 piece old new c (four_is old.phase i) some short

pub four_taken : (n : ℕ) (found : Flow) (result : Taken) (piece number : List ℕ) (old new : Seen) → TakesNumber 4 n 4 found old new → result ≡ taken_by 4 found
    → IsFour old.phase → big_bytes 4 n ≡ number → number ≡ take 4 piece → 4 ≤ length piece → TakesFrom result piece old new
unfolding TakesNumber
four_taken n found result piece number old new h er i spelled en long =
    λ gate. all_taken gate 4 n found result piece old new (h gate) er (four_is old.phase i) (omega arith) (spelled ∙ en) long

pub eight_kept : (piece : List ℕ) (old new : Seen) → CutsOff piece old new → old.phase ≡ phase.Suid → 0 < length piece → length piece < 8
    → TakesFrom taken.Open piece old new
eight_kept piece old new c e some short = λ gate. first_kept gate 8 piece old new c (subst (IsNumberOf 8) (sym e) suid_is) some short

pub eight_taken : (n : ℕ) (found : Flow) (result : Taken) (piece number : List ℕ) (old new : Seen) → TakesNumber 8 n 8 found old new → result ≡ taken_by 8 found
    → old.phase ≡ phase.Suid → big_bytes 8 n ≡ number → number ≡ take 8 piece → 8 ≤ length piece → TakesFrom result piece old new
unfolding TakesNumber
eight_taken n found result piece number old new h er e spelled en long =
    λ gate. all_taken gate 8 n found result piece old new (h gate) er (subst (IsNumberOf 8) (sym e) suid_is) (omega arith) (spelled ∙ en) long
