-- The loop over whole values: values without a class.
use Rattle.std.proofs.Common.{◌≡◌, ℕ, ◌+◌, ◌^◌, ◌<◌, ◌≤◌, true, List, length, get_or, take, drop, refl, sym, ◌∙◌, ap, subst, arith, false}
use Rattle.std.proofs.Common.{get_or-drop}
use Rattle.std.proofs.lemmas.List.{length-drop, drop-drop}
use Rattle.jser_prim.specs.Bytes.{big_bytes}
use Rattle.jser_table.specs.Entries.{text_entry}
use Rattle.jser_reading.specs.Labels.{null_tag, reference_tag, string_tag}
use Rattle.jser_reader.specs.declared.machine.flow.Flow.TheVariants as flow
use Rattle.jser_reader.specs.declared.machine.many.counts.Counts.{Counts}
use Rattle.jser_reader.specs.declared.machine.many.counts.Turn.TheVariants as turn
use Rattle.jser_reader.specs.declared.tag.ValueTag.TheVariants as value
use Rattle.jser_reader.specs.Handlers.{Comes, added, counted}
use Rattle.jser_reader.specs.Many.{seen_at, tally_at, HoldsNext, with_place, LeadsTo, Ends, Turns}
use Rattle.jser_reader.specs.Readers.{Seen}
use Rattle.jser_reader.specs.Steps.{after_value}
use Rattle.jser_reader.specs.Takes.{counted_on, farther}
use Rattle.jser_reader.specs.Wholes.{HasPlace, HasNumber, HasText, AssignsText, placed}
use Rattle.jser_reader.proofs.ManyLemmas.{place_on, rest_can, meter_there, place_counted, place_holds}
use Rattle.jser_reader.proofs.ValueLemmas.{null_begun, counted_tag}
use Rattle.jser_reader.proofs.WholeLemmas.{same_end, tag_passes, reference_passes, string_passes}
use Rattle.jser_verdict.specs.HandleRows.{is_no_handle}

-- ---- what is at a place of the piece

pub number_is : (piece : List ℕ) (at n : ℕ) → at + 5 ≤ length piece → big_bytes 4 n ≡ take 4 (drop (at + 1) piece) → HasNumber (drop at piece) n
number_is piece at n enough e =
    let l = length-drop at piece in
    record { within = omega arith; spelled = e ∙ ap (take 4) (sym (drop-drop 1 at piece)) }

pub tag_there : (piece : List ℕ) (at tag : ℕ) → tag ≡ get_or piece at 0 → tag ≡ get_or (drop at piece) 0 0
tag_there piece at tag e =
    let same : at + 0 ≡ at = omega arith in
    e ∙ ap (λ n. get_or piece n 0) (sym same) ∙ sym (get_or-drop at piece 0 0)

pub has_place_there : (piece : List ℕ) (r : Seen) (k : Counts) (depth : ℕ) → HoldsNext piece r k → (r.meter.limits.refs ≤ k.refs → ⊥) → k.depth < depth → depth ≤ r.meter.limits.depth → HasPlace (seen_at r k)
has_place_there piece r k depth h few low high =
    let d = h.holds.depth in
    record { shallow = omega arith; few = omega arith }

-- ---- after a value without a class

-- the machine that has counted the value, and the one with the counters
pub ends_there : (old far new next : Seen) (k j : Counts) (size : ℕ) → j.used ≡ k.used + size → j.refs ≡ far.refs → far.meter ≡ counted_on (seen_at old k).meter size
    → new.meter ≡ old.meter → new.frames ≡ far.frames → new.layers ≡ far.layers → new.table ≡ far.table
    → Comes (seen_at new j) next (after_value (seen_at new j)) → Comes far next (after_value far)
ends_there old far new next k j size eu er em enm ef ey et comes =
    same_end (seen_at new j) far next comes
    (ap (λ m. record { at = m.at; from = m.at; limits = m.limits; stop = m.stop; cut_phase = m.cut_phase; kept = m.kept }) em ∙ meter_there old k size j.used eu
    ∙ ap (λ m. record { at = m.at + j.used; from = m.at + j.used; limits = m.limits; stop = m.stop; cut_phase = m.cut_phase; kept = m.kept }) (sym enm))
    (sym ef) (sym ey) (sym et) (sym er)

pub null_ends : (piece : List ℕ) (old : Seen) (k j : Counts) → HoldsNext piece old k → HasPlace (seen_at old k) → k.used < length piece → 0x70 ≡ get_or piece k.used 0
    → j ≡ with_place k 1 → Ends piece old k old j
unfolding Ends
null_ends piece old k j h p more tag ej = subst (λ j. LeadsTo piece old k old j (after_value (seen_at old j))) (sym ej) (record {
  size = 1;
  some = omega arith;
  used = refl;
  can = rest_can piece old k h.holds more;
  meter = refl;
  to = λ gate g before next comes kept.
      let r : Seen = seen_at old k in
      let far : Seen = counted (farther r 1) in
      let l = length-drop k.used piece in
      tag_passes gate value.Null (drop k.used piece) r next (tally_at old.meter.at before k) (tally_at old.meter.at before (with_place k 1)) g (rest_can piece old k h.holds more) (place_on old.frames)
      (omega arith) (tag_there piece k.used 0x70 tag)
      (counted_tag null_tag flow.On (farther r 1) next (record { shallow = p.shallow; few = p.few })
      (null_begun flow.On far next (ends_there old far old next k (with_place k 1) 1 refl refl refl refl refl refl refl comes) refl))
      (λ _ _. place_counted piece before old k 1 null_tag h);
})

pub back_ends : (piece : List ℕ) (n : ℕ) (old : Seen) (k j : Counts) → HoldsNext piece old k → HasPlace (seen_at old k) → k.used < length piece → 0x71 ≡ get_or piece k.used 0
    → HasNumber (drop k.used piece) n → n < 2 ^ 32 → is_no_handle old.table.entries n ≡ false → j ≡ with_place k 5 → Ends piece old k old j
unfolding Ends
back_ends piece n old k j h p more tag is small named_is ej = subst (λ j. LeadsTo piece old k old j (after_value (seen_at old j))) (sym ej) (record {
  size = 5;
  some = omega arith;
  used = refl;
  can = rest_can piece old k h.holds more;
  meter = refl;
  to = λ gate g before next comes kept.
      let r : Seen = seen_at old k in
      reference_passes gate n (drop k.used piece) r (placed r 5) next (tally_at old.meter.at before k) (tally_at old.meter.at before (with_place k 5)) g
      (rest_can piece old k h.holds more) (place_on old.frames) (tag_there piece k.used 0x71 tag) is small p named_is refl
      (ends_there old (placed r 5) old next k (with_place k 5) 5 refl refl refl refl refl refl refl comes)
      (λ _ _. place_counted piece before old k 5 reference_tag h);
})

pub string_ends : (piece rest : List ℕ) (len : ℕ) (old new : Seen) (k j : Counts) → HoldsNext piece old k → HasPlace (seen_at old k) → k.used < length piece → 0x74 ≡ get_or piece k.used 0
    → rest ≡ drop k.used piece → HasText rest len → AssignsText true old new → j ≡ with_place k (len + 3) → Ends piece old k new j
unfolding Ends AssignsText
string_ends piece rest len old new k j h p more tag er is assigns ej =
    let r : Seen = seen_at old k in
    let mid : Seen = added r text_entry in
    let far : Seen = placed mid (len + 3) in
    subst (λ j. LeadsTo piece old k new j (after_value (seen_at new j))) (sym ej)
    (subst (λ x. LeadsTo piece old k x (with_place k (len + 3)) (after_value (seen_at x (with_place k (len + 3))))) (sym assigns.1)
    (record {
      size = len + 3;
      some = omega arith;
      used = refl;
      can = rest_can piece old k h.holds more;
      meter = refl;
      to = λ gate g before next comes kept.
          string_passes gate len (drop k.used piece) r mid far next (tally_at old.meter.at before k) (tally_at old.meter.at before (with_place k (len + 3))) g
          (rest_can piece old k h.holds more) (place_on old.frames) (tag_there piece k.used 0x74 tag) (subst (λ xs. HasText xs len) er is) p (assigns.0, refl) refl
          (ends_there old far (added old text_entry) next k (with_place k (len + 3)) (len + 3) refl refl refl refl refl refl refl comes)
          (λ _ _. place_counted piece before old k (len + 3) string_tag h);
    }))

-- ---- the turns

pub nothing_done : (piece : List ℕ) (old new : Seen) (k j : Counts) → new ≡ old → j ≡ k → Turns piece turn.Nothing old k new j
unfolding Turns
nothing_done piece old new k j e ek = (e, ek)

value_ended : (piece : List ℕ) (old new : Seen) (k j : Counts) (size : ℕ) → Ends piece old k new j → HoldsNext piece old k → HasPlace (seen_at old k) → 0 < size → k.used + size ≤ length piece
    → new.meter ≡ old.meter → new.frames ≡ old.frames → j ≡ with_place k size → Turns piece turn.Ended old k new j
unfolding Turns
value_ended piece old new k j size ends h p some enough em ef e =
    let used : j.used ≡ k.used + size = ap (λ x. x.used) e in
    (ends, place_holds piece old new k j size h.holds p some enough em ef e, omega arith)

pub null_turn : (piece : List ℕ) (old : Seen) (k j : Counts) → HoldsNext piece old k → k.used + 6 ≤ length piece → 0x70 ≡ get_or piece k.used 0 → HasPlace (seen_at old k)
    → j ≡ with_place k 1 → Turns piece turn.Ended old k old j
null_turn piece old k j h room tag p e =
    value_ended piece old old k j 1 (null_ends piece old k j h p (omega arith) tag e) h p (omega arith) (omega arith) refl refl e

pub back_turn : (piece : List ℕ) (n : ℕ) (old : Seen) (k j : Counts) → HoldsNext piece old k → k.used + 6 ≤ length piece → 0x71 ≡ get_or piece k.used 0 → HasNumber (drop k.used piece) n
    → n < 2 ^ 32 → is_no_handle old.table.entries n ≡ false → HasPlace (seen_at old k) → j ≡ with_place k 5 → Turns piece turn.Ended old k old j
back_turn piece n old k j h room tag is small named_is p e =
    value_ended piece old old k j 5 (back_ends piece n old k j h p (omega arith) tag is small named_is e) h p (omega arith) (omega arith) refl refl e

pub string_turn : (piece rest : List ℕ) (len : ℕ) (old new : Seen) (k j : Counts) → HoldsNext piece old k → k.used + 6 ≤ length piece → 0x74 ≡ get_or piece k.used 0 → rest ≡ drop k.used piece
    → HasText rest len → HasPlace (seen_at old k) → AssignsText true old new → j ≡ with_place k (len + 3) → Turns piece turn.Ended old k new j
unfolding AssignsText
string_turn piece rest len old new k j h room tag er is p assigns e =
    let within = is.within in
    let l = length-drop k.used piece in
    let lr : length rest ≡ length (drop k.used piece) = ap length er in
    value_ended piece old new k j (len + 3) (string_ends piece rest len old new k j h p (omega arith) tag er is assigns e) h p (omega arith) (omega arith)
    (ap (λ r. r.meter) assigns.1) (ap (λ r. r.frames) assigns.1) e

-- what the counters may hold
