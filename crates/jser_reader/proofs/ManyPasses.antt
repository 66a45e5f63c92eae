-- The loop over whole values: its beginning and its end.
use Rattle.std.proofs.Common.{◌≡◌, ℕ, ◌+◌, ◌^◌, ◌<◌, ◌≤◌, List, ◌++◌, length, take, drop, Some, refl, sym, ◌∙◌, ap, ap₂, subst, arith}
use Rattle.jser_reading.specs.TokenBytes.{joined}
use Rattle.jser_verdict.specs.Gates.{Gate, IsGate}
use Rattle.jser_reader.specs.declared.machine.many.counts.Counts.{Counts}
use Rattle.jser_reader.specs.declared.machine.many.counts.Turn.{Turn}
use Rattle.jser_reader.specs.declared.machine.many.counts.Turn.TheVariants as turn
use Rattle.jser_reader.specs.declared.tally.Tally.{Tally}
use Rattle.jser_reader.specs.Handlers.{moved}
use Rattle.jser_reader.specs.ItemsTold.{StandsIn}
use Rattle.jser_reader.specs.Many.{seen_at, tally_at, counts_of, IsAtRest, Holds, HoldsNext, Ends, Goes, Turns, Settles}
use Rattle.jser_reader.specs.Passes.{Passes, PassTells, PassInside, CanPass}
use Rattle.jser_reader.specs.Readers.{Seen, Ready}
use Rattle.jser_reader.specs.ReaderStates.{StandsFor}
use Rattle.jser_reader.specs.Steps.{Kept, after_value}
use Rattle.jser_reader.specs.Takes.{counted_on}
use Rattle.jser_reader.specs.Tallies.{HasCounted}
use Rattle.jser_reader.proofs.CountLemmas.{counts_within}
use Rattle.jser_reader.proofs.ManyLemmas.{rest_can, leads_on, goes_on}
use Rattle.jser_reader.proofs.PassLemmas.{pass_none, for_bytes}

-- ---- a turn

pub turn_settles : (piece : List ℕ) (old mid new : Seen) (k i j : Counts) (t u : Turn) → Turns piece t old k mid i → t ≡ turn.Ended → Settles piece u mid i new j → Turns piece u old k new j
unfolding Turns Settles
turn_settles piece old mid new k i j turn.Ended turn.Next h e g =
    let a = h.2 in
    let b = g.2 in (g.0 old k h.0, g.1, omega arith)
turn_settles piece old mid new k i j turn.Ended turn.Ended h e g =
    let a = h.2 in
    let b = g.2 in (g.0 old k h.0, g.1, omega arith)
turn_settles piece old mid new k i j turn.Ended turn.Nothing h e g = absurd g
turn_settles piece old mid new k i j turn.Next u h e g = absurd (cc)
turn_settles piece old mid new k i j turn.Nothing u h e g = absurd (cc)

pub turn_holds : (piece : List ℕ) (old new : Seen) (k j : Counts) (t : Turn) → Turns piece t old k new j → t ≡ turn.Ended → Holds piece new j
unfolding Turns
turn_holds piece old new k j turn.Ended h e = h.1
turn_holds piece old new k j turn.Next h e = absurd (cc)
turn_holds piece old new k j turn.Nothing h e = absurd (cc)

-- ---- the loop

pub record GoesSo (piece : List ℕ) (old : Seen) (before : Tally) (now : Seen) (k : Counts) : Type 0 where
  pub goes : Goes piece old (counts_of old before) now k
  pub holds : HoldsNext piece now k

pub goes_first : (piece : List ℕ) (old : Seen) (before : Tally) (k : Counts) → CanPass old piece → 0 < length piece → before.depth ≤ old.meter.limits.depth → k ≡ counts_of old before
    → GoesSo piece old before old k
goes_first piece old before k can some deep e =
    let c : Counts = counts_of old before in
    let h : HoldsNext piece old c = record { holds = record { can = can; within = omega arith; depth = refl; deep = deep; items = omega arith; last = omega arith }; top = λ _. refl } in
    subst (GoesSo piece old before old) (sym e)
    (record {
      goes = record {
        size = 0;
        used = refl;
        can = rest_can piece old c h.holds some;
        meter = refl;
        passes = λ gate is_gate told. pass_none gate (drop c.used piece) (seen_at old c) (tally_at old.meter.at told c);
        nothing = λ none. (refl, refl);
      };
      holds = h;
    })

pub goes_next : (piece : List ℕ) (old mid new : Seen) (before : Tally) (i j : Counts) (t : Turn) → GoesSo piece old before mid i → Turns piece t mid i new j → t ≡ turn.Next
    → GoesSo piece old before new j × (i.used < j.used)
unfolding Turns
goes_next piece old mid new before i j turn.Next h g e =
    (record { goes = goes_on piece old mid new (counts_of old before) i j h.goes g.0; holds = g.1 }, g.2)
goes_next piece old mid new before i j turn.Ended h g e = absurd (cc)
goes_next piece old mid new before i j turn.Nothing h g e = absurd (cc)

pub goes_ended : (piece : List ℕ) (old mid new : Seen) (before : Tally) (i j : Counts) (t : Turn) → GoesSo piece old before mid i → Turns piece t mid i new j → t ≡ turn.Ended
    → Ends piece old (counts_of old before) new j × Holds piece new j
unfolding Turns Ends
goes_ended piece old mid new before i j turn.Ended h g e =
    (leads_on piece old mid new (counts_of old before) i j (after_value (seen_at new j)) h.goes g.0, g.1)
goes_ended piece old mid new before i j turn.Next h g e = absurd (cc)
goes_ended piece old mid new before i j turn.Nothing h g e = absurd (cc)

pub goes_still : (piece : List ℕ) (old mid new : Seen) (before : Tally) (i j : Counts) (t : Turn) → GoesSo piece old before mid i → Turns piece t mid i new j → t ≡ turn.Nothing
    → GoesSo piece old before new j
unfolding Turns
goes_still piece old mid new before i j turn.Nothing h g e = subst (λ r. GoesSo piece old before r j) (sym g.0) (subst (GoesSo piece old before mid) (sym g.1) h)
goes_still piece old mid new before i j turn.Ended h g e = absurd (cc)
goes_still piece old mid new before i j turn.Next h g e = absurd (cc)

-- ---- its end

-- nothing was taken
pub none_taken : (piece : List ℕ) (old now : Seen) (before : Tally) (k : Counts) → GoesSo piece old before now k → k.used ≡ 0 → now ≡ old
none_taken piece old now before k h e =
    let u = h.goes.used in
    let none : h.goes.size ≡ 0 = omega arith in (h.goes.nothing none).0

pub back_fits : (piece : List ℕ) (old now : Seen) (k : Counts) → Holds piece now k → 0 < length piece → now.meter.at + k.used < 2 ^ 64
back_fits piece old now k h some =
    let room = h.can.within.room some in
    let le = h.within in
    omega arith

-- the machine at the beginning

first_machine : (old : Seen) (before : Tally) → IsAtRest old → seen_at old (counts_of old before) ≡ old
first_machine old before h =
    let same : old.meter.at + 0 ≡ old.meter.at = omega arith in
    let meter : moved (counted_on old.meter 0) ≡ old.meter =
    ap (λ n. record { at = n; from = n; limits = old.meter.limits; stop = old.meter.stop; cut_phase = old.meter.cut_phase; kept = old.meter.kept }) same
    ∙ ap (λ n. record { at = old.meter.at; from = n; limits = old.meter.limits; stop = old.meter.stop; cut_phase = old.meter.cut_phase; kept = old.meter.kept }) (sym h.from) in
    ap₂ (λ m p. record old { meter = m; phase = p }) meter (sym h.phase_is)

first_tally : (old : Seen) (before : Tally) → tally_at old.meter.at before (counts_of old before) ≡ before
first_tally old before =
    let same : before.contents + 0 ≡ before.contents = omega arith in ap (λ n. record before { contents = n }) same

from_first : (gate : Gate) (piece : List ℕ) (old new : Seen) (before told : Tally) (size used : ℕ) → IsAtRest old → used ≡ 0 + size
    → Passes gate (drop 0 piece) (Some size) (seen_at old (counts_of old before)) (tally_at old.meter.at before (counts_of old before)) new told → Passes gate piece (Some used) old before new told
from_first gate piece old new before told size used rest e h =
    let same : size ≡ used = omega arith in
    subst (λ n. Passes gate piece (Some n) old before new told) same
    (subst (λ r. Passes gate piece (Some size) r before new told) (first_machine old before rest)
    (subst (λ t. Passes gate piece (Some size) (seen_at old (counts_of old before)) t new told) (first_tally old before) h))

-- the code counts without a look at what may not happen: that there are more contents than bytes
counted : (gate : Gate) (piece : List ℕ) (used items : ℕ) (old new : Seen) (before after told : Tally) → IsGate gate → CanPass old piece → 0 < length piece → items ≤ used → used ≤ length piece
    → (before.contents + items < 2 ^ 64 → after ≡ told) → Passes gate piece (Some used) old before new told → Passes gate piece (Some used) old before new after
unfolding PassTells PassInside StandsFor
counted gate piece used items old new before after told g can some few within counts all = record {
  tells = λ bytes st.
      let e = same bytes st.0 st.1 in
      subst (λ t. (used ≤ length piece) × StandsFor gate (bytes ++ take used piece) new t) (sym e) (all.tells bytes st);
  inside = λ front cut label st comes inside.
      let x = for_bytes gate front cut old before st in
      let e = same (joined front ++ cut) x.0 x.1 in
      subst (λ t. StandsIn gate front (cut ++ take used piece) new t) (sym e) (all.inside front cut label st comes inside);
}
  where
    same : (bytes : List ℕ) → HasCounted gate bytes old before → length bytes ≤ gate.bytes → after ≡ told
    same bytes st le =
        let n = counts_within gate bytes old before st in
        let c = n.0 in
        let at = st.taken.taken in
        let cap = g.0 in
        let room = can.within.room some in
        counts (omega arith)

-- what was written back
told_after : (old now : Seen) (before between after : Tally) (k : Counts) → between ≡ before → now.meter ≡ old.meter
    → (between.contents + k.items.count < 2 ^ 64 → after ≡ tally_at now.meter.at between k) → before.contents + k.items.count < 2 ^ 64 → after ≡ tally_at old.meter.at before k
told_after old now before between after k et em counts =
    subst (λ m. before.contents + k.items.count < 2 ^ 64 → after ≡ tally_at m.at before k) em
    (subst (λ t. t.contents + k.items.count < 2 ^ 64 → after ≡ tally_at now.meter.at t k) et counts)

pub many_pass : (piece : List ℕ) (old now new : Seen) (before between after : Tally) (k : Counts) → GoesSo piece old before now k → CanPass old piece → 0 < length piece → IsAtRest old
    → new ≡ seen_at now k → between ≡ before → (between.contents + k.items.count < 2 ^ 64 → after ≡ tally_at now.meter.at between k) → (gate : Gate) → IsGate gate → Passes gate piece (Some k.used) old before new after
many_pass piece old now new before between after k h can some rest en et counts gate g =
    counted gate piece k.used k.items.count old new before after (tally_at old.meter.at before k) g can some h.holds.holds.items h.holds.holds.within
    (told_after old now before between after k et h.goes.meter counts)
    (from_first gate piece old new before (tally_at old.meter.at before k) h.goes.size k.used rest h.goes.used
    (subst (λ r. Passes gate (drop 0 piece) (Some h.goes.size) (seen_at old (counts_of old before)) (tally_at old.meter.at before (counts_of old before)) r (tally_at old.meter.at before k)) (sym en) (h.goes.passes gate g before)))

pub many_end : (piece : List ℕ) (old now mid new : Seen) (before between after : Tally) (k : Counts) → Ends piece old (counts_of old before) now k × Holds piece now k → CanPass old piece → 0 < length piece
    → IsAtRest old → mid ≡ seen_at now k → Ready new (after_value mid) → Kept mid new → new.meter ≡ mid.meter → between ≡ before
    → (between.contents + k.items.count < 2 ^ 64 → after ≡ tally_at now.meter.at between k)
    → (gate : Gate) → IsGate gate → Passes gate piece (Some k.used) old before new after
unfolding Ends
many_end piece old now mid new before between after k h can some rest em ready kept meter et counts gate g =
    let leads = h.0 in
    let r : Seen = seen_at now k in
    counted gate piece k.used k.items.count old new before after (tally_at old.meter.at before k) g can some h.1.items h.1.within
    (told_after old now before between after k et leads.meter counts)
    (from_first gate piece old new before (tally_at old.meter.at before k) leads.size k.used rest leads.used
    (leads.to gate g before new
    (record {
      ready = subst (λ m. Ready new (after_value m)) em ready;
      meter = meter ∙ ap (λ m. m.meter) em;
      max = ap (λ t. t.max) kept.table ∙ ap (λ m. m.table.max) em;
    })
    (record { table = kept.table ∙ ap (λ m. m.table) em; layers = kept.layers ∙ ap (λ m. m.layers) em; refs = kept.refs ∙ ap (λ m. m.refs) em })))

pub ends_some : (piece : List ℕ) (old now : Seen) (before : Tally) (k : Counts) → Ends piece old (counts_of old before) now k → 0 < k.used
unfolding Ends
ends_some piece old now before k h =
    let u = h.used in
    let some = h.some in
    omega arith

pub none_passes : (piece : List ℕ) (old now : Seen) (before after : Tally) (k : Counts) → GoesSo piece old before now k → k.used ≡ 0 → after ≡ before
    → (gate : Gate) → IsGate gate → Passes gate piece (Some 0) old before now after
none_passes piece old now before after k h none et gate g =
    subst (λ t. Passes gate piece (Some 0) old before now t) (sym et)
    (subst (λ r. Passes gate piece (Some 0) old before r before) (sym (none_taken piece old now before k h none)) (pass_none gate piece old before))
