-- Bytes of raw tokens that are taken, and the walk over them.
use Rattle.std.proofs.Common.{◌≡◌, ℕ, ◌+◌, ◌<◌, ◌≤◌, max, min, List, ◌++◌, length, take, refl, sym, ◌∙◌, ap, subst, arith}
use Rattle.std.proofs.lemmas.List.{length-take-le, take_all}
use Rattle.jser_reading.specs.Goals.{settled}
use Rattle.jser_reader.specs.declared.machine.flow.Flow.TheVariants as flow
use Rattle.jser_reader.specs.declared.machine.take.taken.Taken.{Taken}
use Rattle.jser_reader.specs.declared.machine.take.taken.Taken.TheVariants as taken
use Rattle.jser_reader.specs.declared.phase.Phase.TheVariants as phase
use Rattle.jser_reader.specs.Readers.{Seen}
use Rattle.jser_reader.specs.Steps.{after_value}
use Rattle.jser_reader.specs.Handlers.{Comes}
use Rattle.jser_reader.specs.Walks.{PrimsStands, BytesStands, StandsAt, Takes, Keeps, open_in, cut_of}
use Rattle.jser_reader.specs.Takes.{farther, IsWholeLength, IsPart, TakesFromFor, TakesFrom, TakesRaw}
use Rattle.jser_reader.proofs.EndLemmas.{tells_next}
use Rattle.jser_reader.proofs.TakeLemmas.{counts_bytes}
use Rattle.jser_reader.proofs.RawWalks.{prims_taken, prims_kept, block_taken, block_kept}

-- what was taken is the whole piece, or all that was left

pub raw_ends : (count : ℕ) (piece : List ℕ) (old mid new : Seen) → Comes mid new (after_value mid) → mid ≡ farther old count
    → count ≡ min (max old.left 1) (length piece) → 0 < length piece → old.left ≤ count → TakesRaw (taken.Ended count) piece old new
unfolding TakesRaw
raw_ends count piece old mid new h m is some all =
    (omega arith, omega arith, λ left. omega arith, subst (λ r. Comes r new (after_value r)) m h)

pub raw_stays : (count : ℕ) (piece : List ℕ) (old new : Seen) → count ≡ min (max old.left 1) (length piece) → count < old.left
    → new.phase ≡ old.phase → new.left + count ≡ old.left → new.meter.at ≡ old.meter.at + count → new.meter.from ≡ old.meter.from
    → new.meter.limits ≡ old.meter.limits → new.frames ≡ old.frames → new.layers ≡ old.layers → new.table ≡ old.table → new.refs ≡ old.refs
    → new.owner ≡ old.owner → new.elements ≡ old.elements → new.header ≡ old.header → new.text ≡ old.text
    → TakesRaw (taken.Part (length piece)) piece old new
unfolding TakesRaw
raw_stays count piece old new is more ep el ea em ei ef ey et er eo es eh ex =
    let all : count ≡ length piece = omega arith in (
      refl,
      ep,
      omega arith,
      omega arith,
      record { at = ea ∙ ap (λ k. old.meter.at + k) all; from = em; limits = ei; frames = ef; layers = ey; table = et; refs = er; owner = eo; elements = es; header = eh; text = ex },
    )

-- ---- the walk

pub takes_prims : (result : Taken) (piece : List ℕ) (old new : Seen) → TakesRaw result piece old new → old.phase ≡ phase.Prims → 0 < length piece
    → TakesFrom result piece old new
unfolding TakesRaw TakesFromFor Takes
takes_prims (taken.Ended count) piece old new h ep some = λ gate. (
  h.0,
  h.1,
  λ s cut st.
      let x : PrimsStands old (settled s) cut = subst (λ p. StandsAt p old (settled s) cut) ep st.stands in
      let n = length-take-le count piece h.1 in
      prims_taken gate old (farther old count) new (take count piece)
      (tells_next _ (after_value (farther old count)) flow.On (farther old count) new h.3 refl refl) ep (let z = h.0 in omega arith) (n ∙ h.2 x.goes_on)
      (counts_bytes (take count piece) count old (farther old count) refl n) s cut st,
  subst (λ p. IsWholeLength (open_in p old.meter.cut_phase) (cut_of old ++ take count piece)) (sym ep) tt,
)
takes_prims (taken.Stopped count) piece old new h ep some = absurd h
takes_prims taken.Open piece old new h ep some = absurd h
takes_prims (taken.Part count) piece old new h ep some =
    let all : take count piece ≡ piece = take_all count piece (let e = h.0 in omega arith) in λ gate. (
      omega (arith, h.0, some),
      omega (arith, h.0),
      subst (λ xs. Keeps gate xs old new) (sym all) (prims_kept gate old new piece ep (h.1 ∙ ep) h.2 h.3 h.4),
      subst (λ p. IsPart (open_in p old.meter.cut_phase) (cut_of old) piece count) (sym ep) h.0,
    )

pub takes_block : (result : Taken) (piece : List ℕ) (old new : Seen) → TakesRaw result piece old new → old.phase ≡ phase.Bytes → 0 < length piece
    → TakesFrom result piece old new
unfolding TakesRaw TakesFromFor Takes
takes_block (taken.Ended count) piece old new h ep some = λ gate. (
  h.0,
  h.1,
  λ s cut st.
      let x : BytesStands old (settled s) cut = subst (λ p. StandsAt p old (settled s) cut) ep st.stands in
      let n = length-take-le count piece h.1 in
      block_taken gate old (farther old count) new (take count piece)
      (tells_next _ (after_value (farther old count)) flow.On (farther old count) new h.3 refl refl) ep (let z = h.0 in omega arith) (n ∙ h.2 x.goes_on)
      (counts_bytes (take count piece) count old (farther old count) refl n) s cut st,
  subst (λ p. IsWholeLength (open_in p old.meter.cut_phase) (cut_of old ++ take count piece)) (sym ep) tt,
)
takes_block (taken.Stopped count) piece old new h ep some = absurd h
takes_block taken.Open piece old new h ep some = absurd h
takes_block (taken.Part count) piece old new h ep some =
    let all : take count piece ≡ piece = take_all count piece (let e = h.0 in omega arith) in λ gate. (
      omega (arith, h.0, some),
      omega (arith, h.0),
      subst (λ xs. Keeps gate xs old new) (sym all) (block_kept gate old new piece ep (h.1 ∙ ep) h.2 h.3 h.4),
      subst (λ p. IsPart (open_in p old.meter.cut_phase) (cut_of old) piece count) (sym ep) h.0,
    )
