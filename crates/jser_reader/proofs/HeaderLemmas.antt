-- The header: how many of its bytes are right, and what comes of them.
use Rattle.std.proofs.Common.{◌≡◌, ℕ, ◌+◌, ◌<◌, ◌≤◌, ◌||◌, not, nat_eq, Bool, true, false, List, [], ◌∷◌, ◌++◌, length, get_or, take, refl, sym, ◌∙◌, ap, subst, arith, append_assoc, append-nil, length-append}
use Rattle.std.proofs.lemmas.Bool.Decides.{nat_tests}
use Rattle.std.proofs.lemmas.List.{length-take-le, take_more, take_all}
use Rattle.jser_reading.specs.Goals.{top_goal}
use Rattle.jser_verdict.specs.Reasons.{bad_header}
use Rattle.jser_verdict.specs.BytesSoFar.{differs}
use Rattle.jser_reader.specs.declared.machine.flow.Flow.{Flow}
use Rattle.jser_reader.specs.declared.machine.flow.Flow.TheVariants as flow
use Rattle.jser_reader.specs.declared.phase.Phase.TheVariants as phase
use Rattle.jser_reader.specs.declared.machine.take.taken.Taken.{Taken}
use Rattle.jser_reader.specs.declared.machine.take.taken.Taken.TheVariants as taken
use Rattle.jser_reader.specs.Reasons.{named}
use Rattle.jser_reader.specs.Readers.{Seen, Ready, moment_of}
use Rattle.jser_reader.specs.Handlers.{StopsWith, refusal, IsNext}
use Rattle.jser_reader.specs.Walks.{header_bytes, open_phase, cut_of}
use Rattle.jser_reader.specs.Takes.{farther, IsWholeLength, AreRight, CutsOff, TakesFromFor, TakesFrom, taken_by}
use Rattle.jser_reader.proofs.EndLemmas.{next_is, tells_next, tells_refusal}
use Rattle.jser_reader.proofs.PhaseLemmas.{cut_open, differs_less}
use Rattle.jser_reader.proofs.FixedWalks.{header_right, header_reason, header_taken, header_kept}
use Rattle.jser_reader.proofs.TakeLemmas.{counts_bytes, taken_so_far}

-- a byte more, after bytes that are right
differs_next : (wanted kept : List ℕ) (b : ℕ) → length kept < length wanted → differs wanted kept ≡ false
    → differs wanted (kept ++ (b ∷ [])) ≡ not (nat_eq b (get_or wanted (length kept) 0))
differs_next [] kept b short right = absurd (omega arith)
differs_next (x ∷ wanted) [] b short right = last wanted (nat_eq b x)
  where
    last : (w : List ℕ) (e : Bool) → (not e || differs w []) ≡ not e
    last [] true = refl
    last [] false = refl
    last (y ∷ w) true = refl
    last (y ∷ w) false = refl
differs_next (x ∷ wanted) (k ∷ kept) b short right = go (nat_eq k x) right (λ e. differs_next wanted kept b (omega arith) e)
  where
    go : (e : Bool) → (not e || differs wanted kept) ≡ false
        → (differs wanted kept ≡ false → differs wanted (kept ++ (b ∷ [])) ≡ not (nat_eq b (get_or wanted (length kept) 0)))
        → (not e || differs wanted (kept ++ (b ∷ []))) ≡ not (nat_eq b (get_or wanted (length kept) 0))
    go true right more = more right
    go false right more = absurd (cc)

header_next : (kept : List ℕ) (b place : ℕ) → place ≡ length kept → place < 4 → differs header_bytes kept ≡ false
    → differs header_bytes (kept ++ (b ∷ [])) ≡ not (nat_eq b (get_or header_bytes place 0))
header_next kept b place e short right =
    differs_next header_bytes kept b (omega arith) right ∙ ap (λ k. not (nat_eq b (get_or header_bytes k 0))) (sym e)

-- ---- how many bytes are right

pub none_right : (place : ℕ) (piece : List ℕ) → place < 4 → AreRight place piece 0
none_right place piece short = record {
  within = omega arith;
  most = omega arith;
  right = λ kept e right. subst (λ xs. differs header_bytes xs ≡ false) (sym (append-nil kept)) right;
}

-- after these bytes, and those at the front of a piece, comes a byte more
then_byte : (kept piece : List ℕ) (count : ℕ) → count < length piece → kept ++ take (count + 1) piece ≡ (kept ++ take count piece) ++ (get_or piece count 0 ∷ [])
then_byte kept piece count within = ap (λ xs. kept ++ xs) (take_more piece count 0 within) ∙ sym (append_assoc kept (take count piece) (get_or piece count 0 ∷ []))

byte_there : (kept piece : List ℕ) (place count : ℕ) → AreRight place piece count → count < length piece → place + count < 4 → length kept ≡ place → differs header_bytes kept ≡ false
    → differs header_bytes (kept ++ take (count + 1) piece) ≡ not (nat_eq (get_or piece count 0) (get_or header_bytes (place + count) 0))
byte_there kept piece place count are within short e right =
    let n : length (kept ++ take count piece) ≡ place + count = length-append kept (take count piece) ∙ ap (λ k. length kept + k) (length-take-le count piece are.within) ∙ ap (λ k. k + count) e in
    ap (differs header_bytes) (then_byte kept piece count within)
    ∙ header_next (kept ++ take count piece) (get_or piece count 0) (place + count) (sym n) short (are.right kept e right)

pub one_more_right : (place : ℕ) (piece : List ℕ) (count : ℕ) → AreRight place piece count → count < length piece → place + count < 4
    → get_or piece count 0 ≡ get_or header_bytes (place + count) 0 → AreRight place piece (count + 1)
one_more_right place piece count are within short is = record {
  within = omega arith;
  most = omega arith;
  right = λ kept e right.
      let same : nat_eq (get_or piece count 0) (get_or header_bytes (place + count) 0) ≡ true = grind (arith, nat_tests) in
      byte_there kept piece place count are within short e right ∙ ap not same;
}

-- ---- the bytes of a piece

-- how many bytes of the header there are with those of the piece
all_there : (piece : List ℕ) (place count : ℕ) (old : Seen) → count ≤ length piece → place ≡ length (cut_of old) → length (cut_of old ++ take count piece) ≡ place + count
all_there piece place count old within ep =
    length-append (cut_of old) (take count piece) ∙ ap (λ k. length (cut_of old) + k) (length-take-le count piece within) ∙ ap (λ k. k + count) (sym ep)

is_no_length : (old : Seen) (bytes : List ℕ) → open_phase old ≡ phase.Header → IsWholeLength (open_phase old) bytes
is_no_length old bytes eo = subst (λ p. IsWholeLength p bytes) (sym eo) tt

pub header_ends : (piece : List ℕ) (place count : ℕ) (found : Flow) (result : Taken) (old mid new : Seen) → AreRight place piece count
    → place ≡ length (cut_of old) → place < 4 → place + count ≡ 4 → mid ≡ farther old count → open_phase old ≡ phase.Header
    → IsNext phase.Top mid.owner mid.elements mid.header mid.text mid new → found ≡ flow.On → result ≡ taken_by count found → TakesFrom result piece old new
unfolding Ready
header_ends piece place count found result old mid new are ep short all m eo h ef er =
    let n = all_there piece place count old are.within ep in
    let some = length-take-le count piece are.within in
    λ gate. taken_so_far gate count found result piece old new
    (header_taken gate (take count piece) found old mid new (omega arith)
    (λ right none. tells_next (header_reason (cut_of old ++ take count piece)) (moment_of mid, top_goal ∷ []) found mid new
    (record {
      ready = rw (next_is phase.Top mid.owner mid.elements mid.header mid.text mid new h) (none, refl);
      meter = h.meter;
      max = ap (λ t. t.max) h.table;
    })
    ef (rw (are.right (cut_of old) (sym ep) right) refl))
    eo (omega arith) (λ right quiet. omega arith)
    (λ right a c d e. differs_less header_bytes a (c ∷ d) (subst (λ xs. differs header_bytes xs ≡ false) e (are.right (cut_of old) (sym ep) right)))
    (counts_bytes (take count piece) count old mid m some))
    er (omega arith) are.within (is_no_length old (cut_of old ++ take count piece) eo)

pub header_wrong : (piece : List ℕ) (place count : ℕ) (found : Flow) (result : Taken) (old mid new : Seen) → AreRight place piece count
    → (count < length piece → place + count < 4 → get_or piece count 0 ≡ get_or header_bytes (place + count) 0 → ⊥)
    → place ≡ length (cut_of old) → (place + count ≡ 4 → ⊥) → (count ≡ length piece → ⊥) → mid ≡ farther old (count + 1) → open_phase old ≡ phase.Header
    → StopsWith (refusal mid.meter (named bad_header)) mid new → found ≡ flow.Stopped → result ≡ taken_by (count + 1) found → TakesFrom result piece old new
header_wrong piece place count found result old mid new are wrong ep less out m eo h ef er =
    let w = are.within in
    let p = are.most in
    let within : count < length piece = omega arith in
    let short : place + count < 4 = omega arith in
    let differ : nat_eq (get_or piece count 0) (get_or header_bytes (place + count) 0) ≡ false = (let no = wrong within short in grind (arith, nat_tests)) in
    let n = all_there piece place (count + 1) old (omega arith) ep in
    let some = length-take-le (count + 1) piece (omega arith) in
    λ gate. taken_so_far gate (count + 1) found result piece old new
    (header_taken gate (take (count + 1) piece) found old mid new (omega arith)
    (λ right none. tells_refusal bad_header (header_reason (cut_of old ++ take (count + 1) piece)) (moment_of mid, top_goal ∷ []) found mid new h ef
    (rw (byte_there (cut_of old) piece place count are within short (sym ep) right ∙ ap not differ) refl))
    eo (omega arith)
    (λ right quiet. absurd (let k = rw (byte_there (cut_of old) piece place count are within short (sym ep) right ∙ ap not differ) at quiet in cc))
    (λ right a c d e. header_right (cut_of old ++ take count piece) (get_or piece count 0) (are.right (cut_of old) (sym ep) right) a c d (sym (then_byte (cut_of old) piece count within) ∙ e))
    (counts_bytes (take (count + 1) piece) (count + 1) old mid m some))
    er (omega arith) (omega arith) (is_no_length old (cut_of old ++ take (count + 1) piece) eo)

pub header_open : (piece : List ℕ) (place count : ℕ) (old new : Seen) → AreRight place piece count → count ≡ length piece → CutsOff piece old new
    → place ≡ length (cut_of old) → (place + count ≡ 4 → ⊥) → 0 < length piece → open_phase old ≡ phase.Header → TakesFrom taken.Open piece old new
unfolding TakesFromFor
header_open piece place count old new are all c ep less some eo =
    let n = length-append (cut_of old) piece in
    let p = are.most in
    λ gate. (
      header_kept gate piece old new c.phase_is (c.cut_phase ∙ eo) c.kept eo (omega arith) (omega arith)
          (λ right. subst (λ xs. differs header_bytes (cut_of old ++ xs) ≡ false) (take_all count piece (omega arith)) (are.right (cut_of old) (sym ep) right)) c.counts,
      record { same = (cut_open new c.phase_is).0 ∙ c.cut_phase; some = rw eo (omega arith) },
    )
