-- The loop over whole values: arrays.
use Rattle.std.proofs.Common.{◌≡◌, ℕ, zero, suc, ◌+◌, ◌-◌, ◌*◌, ◌^◌, ◌<◌, ◌≤◌, false, List, ◌∷◌, length, get_or, take, drop, Option, Some, None, option_map, refl, sym, ◌∙◌, ap, ap₂, subst, arith}
use Rattle.std.proofs.lemmas.List.{length-drop, drop-drop}
use Rattle.jser_prim.specs.Bytes.{big_bytes}
use Rattle.jser_table.specs.Chains.{chain_in, elements_of}
use Rattle.jser_table.specs.Codes.{PrimCode, size_of}
use Rattle.jser_table.specs.Entries.{other_entry}
use Rattle.jser_reading.specs.Labels.{array_tag}
use Rattle.jser_verdict.specs.Gates.{Gate, IsGate}
use Rattle.jser_verdict.specs.Verdicts.{array_reason}
use Rattle.jser_reader.specs.declared.machine.flow.Flow.TheVariants as flow
use Rattle.jser_reader.specs.declared.frame.Frame.TheVariants as frame
use Rattle.jser_reader.specs.declared.frame.Owner.TheVariants as owner
use Rattle.jser_reader.specs.declared.machine.many.counts.Counts.{Counts}
use Rattle.jser_reader.specs.declared.machine.many.counts.Turn.TheVariants as turn
use Rattle.jser_reader.specs.declared.machine.take.taken.Taken.TheVariants as taken
use Rattle.jser_reader.specs.declared.phase.Phase.TheVariants as phase
use Rattle.jser_reader.specs.declared.tally.Tally.{Tally}
use Rattle.jser_reader.specs.Rules.{IsClassOf}
use Rattle.jser_reader.specs.Handlers.{Comes, Tells, moved, with_entry, added, pushed, is_full, plain_gate}
use Rattle.jser_reader.specs.Many.{phase_on, seen_at, tally_with, tally_at, HoldsNext, with_place, with_depth, LeadsTo, Ends, ArrayBegins, Turns}
use Rattle.jser_reader.specs.Numbers.{after_length}
use Rattle.jser_reader.specs.Passes.{Passes}
use Rattle.jser_reader.specs.Readers.{Seen, Ready}
use Rattle.jser_reader.specs.Steps.{after_value}
use Rattle.jser_reader.specs.Takes.{farther}
use Rattle.jser_reader.specs.Wholes.{HasPlace, HasReference, with_class}
use Rattle.jser_reader.proofs.ArrayLemmas.{raw_elements, value_state, no_elements, some_raw, some_values}
use Rattle.jser_reader.proofs.ClassLemmas.{right_class}
use Rattle.jser_reader.proofs.CutLemmas.{four_taken}
use Rattle.jser_reader.proofs.EndLemmas.{tells_next}
use Rattle.jser_reader.proofs.WholeLemmas.{assigned_other}
use Rattle.jser_reader.proofs.ManyLemmas.{place_on, rest_can, place_counted, place_holds, same_can}
use Rattle.jser_reader.proofs.ManyPlain.{tag_there}
use Rattle.jser_reader.proofs.OwnerLemmas.{array_owned}
use Rattle.jser_reader.proofs.PartLemmas.{made}
use Rattle.jser_reader.proofs.PassLemmas.{quiet_end, then_passes}
use Rattle.jser_reader.proofs.RestLemmas.{can_after}
use Rattle.jser_reader.proofs.TakeLemmas.{takes_array_length}
use Rattle.jser_reader.proofs.WholeLemmas.{TellsClass, owner_passes, raw_passes, same_end}
use Rattle.jser_reader.proofs.RuleLemmas.{right_length, is_short}
use Rattle.jser_reader.specs.Reasons.{named}

-- ---- the class

-- after the class: before the length
abbrev at_length : Seen → (chain : ℕ) → Seen
at_length r chain = record { meter = moved (with_class owner.Array r).meter; phase = phase.ArrayLength; frames = r.frames; layers = r.layers; table = with_entry r.table other_entry; refs = suc r.refs; owner = owner.Array; elements = option_map size_of (elements_of (chain_in r.table.chains chain)); header = r.header; text = r.text; left = r.left; scan = r.scan; name = r.name }

class_told : (r : Seen) (n chain : ℕ) → IsClassOf r.table owner.Array n chain → is_full r ≡ false → TellsClass n flow.On (with_class owner.Array r) (at_length r chain)
class_told r n chain c full =
    let mid : Seen = with_class owner.Array r in
    let new : Seen = at_length r chain in
    right_class owner.Array n chain flow.On mid new refl
    (array_owned (length r.table.entries) chain flow.On mid (added mid other_entry) new
    (record { phase_is = refl; frames = refl; layers = refl; table = refl; refs = refl; owner_is = refl; chain_is = refl; header_is = refl; text_is = refl; left = refl; meter = refl })
    refl (assigned_other mid full) refl)
    c

-- the length ends, and this machine comes after it
length_passes : (gate : Gate) (piece : List ℕ) (n chain count : ℕ) (old : Seen) (k : Counts) (before : Tally) (next : Seen) → ArrayBegins piece n chain count old k → is_full old ≡ false → IsGate gate
    → (let r : Seen = farther (at_length (seen_at old k) chain) 4 in
    (elements : Option PrimCode) → r.elements ≡ option_map size_of elements → Tells (array_reason (plain_gate r) count) (after_length r elements count) flow.On r next)
    → Passes gate (drop k.used piece) (Some 10) (seen_at old k) (tally_at old.meter.at before k) next (tally_at old.meter.at before (with_place k 10))
length_passes gate piece n chain count old k before next b full g told =
    let room = b.room in
    let low = b.low in
    let r : Seen = seen_at old k in
    let mid : Seen = with_class owner.Array r in
    let m : Seen = at_length r chain in
    let rest : List ℕ = drop k.used piece in
    let last : List ℕ = drop 6 rest in
    let l = length-drop k.used piece in
    let n6 = length-drop 6 rest in
    let can = rest_can piece old k b.holds.holds (omega arith) in
    let at : m.meter.at ≡ r.meter.at + 6 = omega arith in
    then_passes gate rest last 6 4 r m next (tally_at old.meter.at before k) (tally_at old.meter.at before (with_place k 10)) (tally_at old.meter.at before (with_place k 10))
    (owner_passes gate owner.Array n flow.On rest r mid m (tally_at old.meter.at before k) (tally_at old.meter.at before (with_place k 10)) g
    can (place_on old.frames) (tag_there piece k.used 0x75 b.tag) b.class b.small b.place refl (class_told r n chain b.is full)
    (λ _ _. place_counted piece before old k 10 array_tag b.holds))
    (quiet_end gate 4 (taken.Ended 4) last m next (tally_at old.meter.at before (with_place k 10))
    (four_taken count flow.On (taken.Ended 4) last (take 4 last) m next
    (takes_array_length count 4 flow.On m (farther m 4) next told refl refl (omega arith) (omega arith))
    refl tt (b.spelled ∙ ap (take 4) (sym (drop-drop 6 k.used piece))) refl (omega arith) gate)
    refl tt (can_after rest 6 r m can (omega arith) (omega arith) at refl))
    refl

-- ---- an array with no elements

pub empty_turn : (piece : List ℕ) (n chain count : ℕ) (old new : Seen) (k j : Counts) → ArrayBegins piece n chain count old k → count ≡ 0
    → (is_full old ≡ false) × (new ≡ added old other_entry) → j ≡ with_place k 10 → Turns piece turn.Ended old k new j
unfolding Turns Ends
empty_turn piece n chain count old new k j b none assigns ej =
    let en = assigns.1 in
    let room = b.room in
    let used : j.used ≡ k.used + 10 = ap (λ x. x.used) ej in
    let a : Seen = added old other_entry in
    let i : Counts = with_place k 10 in (
      subst (λ x. LeadsTo piece old k new x (after_value (seen_at new x))) (sym ej)
          (subst (λ x. LeadsTo piece old k x i (after_value (seen_at x i))) (sym en)
          (record {
            size = 10;
            some = omega arith;
            used = refl;
            can = rest_can piece old k b.holds.holds (omega arith);
            meter = refl;
            to = λ gate g before next comes kept.
                let r : Seen = farther (at_length (seen_at old k) chain) 4 in
                let at : old.meter.at + (k.used + 10) ≡ r.meter.at = omega arith in
                let end : Comes r next (after_value r) =
                same_end (seen_at a i) r next comes
                (ap (λ x. record { at = x; from = x; limits = old.meter.limits; stop = old.meter.stop; cut_phase = old.meter.cut_phase; kept = old.meter.kept }) (sym at)) refl refl refl refl in
                length_passes gate piece n chain count old k before next b assigns.0 g
                (λ elements es. no_elements count elements flow.On r next end refl none (right_length r count (λ over. let low = b.low in omega arith) (λ over. let short = b.short in omega arith)));
          })),
      place_holds piece old new k j 10 b.holds.holds b.place (omega arith) (omega arith) (ap (λ r. r.meter) en) (ap (λ r. r.frames) en) ej,
      omega arith,
    )

-- ---- raw elements

-- before them
abbrev at_elements : Seen → (left : ℕ) → Seen
at_elements r left = record { meter = moved r.meter; phase = phase.Prims; frames = r.frames; layers = r.layers; table = r.table; refs = r.refs; owner = r.owner; elements = r.elements; header = r.header; text = r.text; left = left; scan = r.scan; name = r.name }

abbrev with_left : Seen → (left : ℕ) → Seen
with_left r left = record { meter = r.meter; phase = r.phase; frames = r.frames; layers = r.layers; table = r.table; refs = r.refs; owner = r.owner; elements = r.elements; header = r.header; text = r.text; left = left; scan = r.scan; name = r.name }

pub raw_turn : (piece : List ℕ) (n chain count size bytes : ℕ) (old new : Seen) (k j : Counts) → ArrayBegins piece n chain count old k → 0 < count
    → option_map size_of (elements_of (chain_in old.table.chains chain)) ≡ Some size → bytes ≡ count * size → 0 < bytes → k.used + 10 + bytes ≤ length piece
    → (is_full old ≡ false) × (new ≡ added old other_entry) → j ≡ with_place k (bytes + 10) → Turns piece turn.Ended old k new j
unfolding Turns Ends
raw_turn piece n chain count size bytes old new k j b some elements eb any enough assigns ej =
    let en = assigns.1 in
    let room = b.room in
    let used : j.used ≡ k.used + (bytes + 10) = ap (λ x. x.used) ej in
    let a : Seen = added old other_entry in
    let i : Counts = with_place k (bytes + 10) in (
      subst (λ x. LeadsTo piece old k new x (after_value (seen_at new x))) (sym ej)
          (subst (λ x. LeadsTo piece old k x i (after_value (seen_at x i))) (sym en)
          (record {
            size = 10 + bytes;
            some = omega arith;
            used = omega arith;
            can = rest_can piece old k b.holds.holds (omega arith);
            meter = refl;
            to = λ gate g before next comes kept.
                let r : Seen = farther (at_length (seen_at old k) chain) 4 in
                let m : Seen = at_elements r bytes in
                let rest : List ℕ = drop k.used piece in
                let l = length-drop k.used piece in
                let l10 = length-drop 10 rest in
                let can = rest_can piece old k b.holds.holds (omega arith) in
                let at : old.meter.at + (k.used + (bytes + 10)) ≡ m.meter.at + bytes = omega arith in
                let there : m.meter.at ≡ (seen_at old k).meter.at + 10 = omega arith in
                let end : Comes (farther m bytes) next (after_value (farther m bytes)) =
                same_end (seen_at a i) (farther m bytes) next comes
                (ap (λ x. record { at = x; from = x; limits = old.meter.limits; stop = old.meter.stop; cut_phase = old.meter.cut_phase; kept = old.meter.kept }) (sym at)) refl refl refl refl in
                then_passes gate rest (drop 10 rest) 10 bytes (seen_at old k) m next (tally_at old.meter.at before k) (tally_at old.meter.at before i) (tally_at old.meter.at before i)
                (length_passes gate piece n chain count old k before m b assigns.0 g
                (some_raw count size flow.On r m
                (λ codes es. raw_elements size count codes flow.On r (with_left r bytes) m
                (record { phase_is = refl; frames = refl; layers = refl; table = refl; refs = refl; owner_is = refl; chain_is = refl; header_is = refl; text_is = refl; left = refl; meter = refl })
                refl eb some es refl refl refl refl refl)
                elements (right_length r count (λ over. let low = b.low in omega arith) (λ over. let short = b.short in omega arith))))
                (raw_passes gate bytes (drop 10 rest) m (farther m bytes) next (tally_at old.meter.at before i) (can_after rest 10 (seen_at old k) m can (omega arith) (omega arith) there refl) refl refl any (omega arith) refl end)
                refl;
          })),
      place_holds piece old new k j (bytes + 10) b.holds.holds b.place (omega arith) (omega arith) (ap (λ r. r.meter) en) (ap (λ r. r.frames) en) ej,
      omega arith,
    )

-- ---- elements that are values

elements_ready : (r new : Seen) (count : ℕ) → 0 < count → new.phase ≡ phase.Value → new.frames ≡ frame.Elements (count - 1) ∷ r.frames → new.layers ≡ r.layers → new.table ≡ r.table
    → new.refs ≡ r.refs → Ready new (after_length r None count)
unfolding Ready
elements_ready r new count some ep ef ey et er =
    subst (Ready new) (sym (value_state r count some))
    (rw (made new phase.Value (frame.Elements (count - 1) ∷ r.frames) r.layers r.table r.refs new.left ep ef ey et er refl) (tt, refl))

pub values_turn : (piece : List ℕ) (n chain count : ℕ) (old new : Seen) (k i j : Counts) → ArrayBegins piece n chain count old k → 0 < count
    → option_map size_of (elements_of (chain_in old.table.chains chain)) ≡ None → (is_full old ≡ false) × (new ≡ pushed (added old other_entry) (frame.Elements (count - 1)))
    → i ≡ with_place k 10 → j ≡ with_depth i (i.depth + 1) → Turns piece turn.Next old k new j
unfolding Turns Ends
values_turn piece n chain count old new k i j b some elements assigns ei ej =
    let en = assigns.1 in
    let room = b.room in
    let e : j ≡ with_depth (with_place k 10) (k.depth + 1) = ej ∙ ap (λ x. with_depth x (x.depth + 1)) ei in
    let used : j.used ≡ k.used + 10 = ap (λ x. x.used) e in
    let deeper : j.depth ≡ k.depth + 1 = ap (λ x. x.depth) e in
    let frames : length new.frames ≡ suc (length old.frames) = ap (λ r. length r.frames) en in
    let held = place_holds piece old (added old other_entry) k (with_place k 10) 10 b.holds.holds b.place (omega arith) (omega arith) refl refl refl in
    let items : j.items ≡ (with_place k 10).items = ap (λ x. x.items) e in
    let counted : j.items.count ≡ (with_place k 10).items.count = ap (λ b. b.count) items in
    let same_last : j.items.last ≡ k.items.last = ap (λ b. b.last) items in
    let deepest : j.deepest ≡ (with_place k 10).deepest = ap (λ x. x.deepest) e in
    let x = held.items in
    let y = held.deep in
    let z = held.last in
    let d = b.holds.holds.depth in
    let em : new.meter ≡ old.meter = ap (λ r. r.meter) en in
    let limit : new.meter.limits.depth ≡ old.meter.limits.depth = ap (λ m. m.limits.depth) em in
    let er : j.refs ≡ suc k.refs = ap (λ x. x.refs) e in (
      record {
        size = 10;
        used = used;
        can = rest_can piece old k b.holds.holds (omega arith);
        meter = em;
        passes = λ gate g before.
            let r : Seen = farther (at_length (seen_at old k) chain) 4 in
            let at : new.meter.at + j.used ≡ r.meter.at = let same : new.meter.at ≡ old.meter.at = ap (λ m. m.at) em in omega arith in
            let meter : (seen_at new j).meter ≡ moved r.meter =
            ap (λ m. record { at = m.at + j.used; from = m.at + j.used; limits = m.limits; stop = m.stop; cut_phase = m.cut_phase; kept = m.kept }) em
            ∙ ap (λ n. record { at = n; from = n; limits = old.meter.limits; stop = old.meter.stop; cut_phase = old.meter.cut_phase; kept = old.meter.kept }) (let same : new.meter.at ≡ old.meter.at = ap (λ m. m.at) em in let at' : old.meter.at + j.used ≡ r.meter.at = omega arith in at') in
            subst (λ t. Passes gate (drop k.used piece) (Some 10) (seen_at old k) (tally_at old.meter.at before k) (seen_at new j) t)
            (ap₂ (tally_with old.meter.at before) (sym items) (sym deepest))
            (length_passes gate piece n chain count old k before (seen_at new j) b assigns.0 g
            (some_values count flow.On r (seen_at new j)
            (tells_next None (after_length r None count) flow.On r (seen_at new j)
            (record {
              ready = elements_ready r (seen_at new j) count some (ap phase_on (ap (λ r. r.frames) en)) (ap (λ r. r.frames) en) (ap (λ r. r.layers) en) (ap (λ r. r.table) en) er;
              meter = meter;
              max = ap (λ r. r.table.max) en;
            }) refl refl)
            elements (right_length r count (λ over. let low = b.low in omega arith) (λ over. let short = b.short in omega arith))));
        nothing = λ none. absurd (omega arith);
      },
      record {
        holds = record { can = same_can piece old new em b.holds.holds.can; within = omega arith; depth = omega arith; deep = omega arith; items = omega arith; last = omega arith };
        top = λ none. absurd (omega arith);
      },
      omega arith,
    )

-- ---- what begins

pub array_begins : (piece : List ℕ) (n chain count at : ℕ) (r : Seen) (k : Counts) → HoldsNext piece r k → HasPlace (seen_at r k) → (length piece - k.used < 10 → ⊥) → k.used ≤ length piece
    → 0x75 ≡ get_or piece k.used 0 → HasReference (drop k.used piece) n → n < 2 ^ 32 → IsClassOf r.table owner.Array n chain → big_bytes 4 count ≡ take 4 (drop (k.used + 6) piece)
    → None ≡ option_map named (array_reason (plain_gate r) count) → ArrayBegins piece n chain count r k
array_begins piece n chain count at r k h p room le tag class small is spelled right = record {
  holds = h;
  place = p;
  room = omega arith;
  tag = tag;
  class = class;
  small = small;
  is = is;
  spelled = spelled;
  low = (is_short r count right).0;
  short = (is_short r count right).1;
}

pub no_count : (piece : List ℕ) (n chain count : ℕ) (r : Seen) (k : Counts) → ArrayBegins piece n chain count r k → count ≡ 0 → ArrayBegins piece n chain 0 r k
no_count piece n chain count r k b e = subst (λ c. ArrayBegins piece n chain c r k) e b

pub some_bytes : (n : ℕ) → (n ≡ 0 → ⊥) → 0 < n
some_bytes zero h = absurd (h refl)
some_bytes (suc n) h = omega arith
