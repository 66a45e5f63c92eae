-- The loop over whole values: from one place in the piece to another.
use Rattle.std.proofs.Common.{◌≡◌, ℕ, suc, ◌+◌, ◌-◌, ◌^◌, ◌<◌, ◌≤◌, ◌==◌, Bool, true, false, max, if◌then◌else◌, List, [], ◌∷◌, length, drop, Some, refl, sym, ◌∙◌, ap, ap₂, subst, arith}
use Rattle.std.proofs.lemmas.Bool.{eqb-true}
use Rattle.std.proofs.lemmas.Bool.Decides.{nat_tests}
use Rattle.std.proofs.lemmas.List.{drop-drop}
use Rattle.jser_reading.specs.Goals.{State}
use Rattle.jser_reading.specs.Labels.{Tag}
use Rattle.jser_reading.specs.TokenBytes.{tag_byte}
use Rattle.jser_reading.specs.TokensFromBytes.{tag_from}
use Rattle.jser_reading.specs.Totals.{number_if}
use Rattle.jser_reader.specs.declared.frame.Frame.{Frame}
use Rattle.jser_reader.specs.declared.frame.Frame.TheVariants as frame
use Rattle.jser_reader.specs.declared.machine.many.counts.Begun.{Begun}
use Rattle.jser_reader.specs.declared.machine.many.counts.Counts.{Counts}
use Rattle.jser_reader.specs.declared.phase.Phase.TheVariants as phase
use Rattle.jser_reader.specs.declared.tally.Tally.{Tally}
use Rattle.jser_reader.specs.Handlers.{moved}
use Rattle.jser_reader.specs.Many.{phase_on, seen_at, begun_at, tally_at, tally_with, Holds, HoldsNext, with_content, with_place, with_block, content_ended, LeadsTo, Goes}
use Rattle.jser_reader.specs.Passes.{Passes, CanPass}
use Rattle.jser_reader.specs.Readers.{Seen, Ready}
use Rattle.jser_reader.specs.Takes.{counted_on}
use Rattle.jser_reader.specs.Tallies.{is_top, may_count, content_begun, with_token, with_tag, tally_next}
use Rattle.jser_reader.specs.Wholes.{IsPlace, HasPlace}
use Rattle.jser_reader.proofs.CountSteps.{tag_found, block_found, end_found}
use Rattle.jser_reader.proofs.PassLemmas.{then_passes, passes_at_top}
use Rattle.jser_reader.proofs.RestLemmas.{can_after}

-- ---- where the loop is

pub place_on : (frames : List Frame) → IsPlace (phase_on frames)
place_on [] = tt
place_on (frame.Elements left ∷ fs) = tt
place_on (frame.Fields last section pos prims values ∷ fs) = tt
place_on (frame.Notes last section ∷ fs) = tt
place_on (frame.ExternalNotes ∷ fs) = tt
place_on (frame.Descriptor number role ∷ fs) = tt

pub top_on : (frames : List Frame) → is_top (phase_on frames) ≡ (length frames == 0)
top_on [] = refl
top_on (f ∷ fs) = inside f ∙ sym none
  where
    none : (suc (length fs) == 0) ≡ false
    none = grind (arith, nat_tests)

    inside : (f : Frame) → is_top (phase_on (f ∷ fs)) ≡ false
    inside (frame.Elements left) = refl
    inside (frame.Fields last section pos prims values) = refl
    inside (frame.Notes last section) = refl
    inside frame.ExternalNotes = refl
    inside (frame.Descriptor number role) = refl

-- what is left of the piece may be taken
pub rest_can : (piece : List ℕ) (r : Seen) (k : Counts) → Holds piece r k → k.used < length piece → CanPass (seen_at r k) (drop k.used piece)
rest_can piece r k h more =
    let le = h.within in can_after piece k.used r (seen_at r k) h.can (omega arith) le refl refl

pub meter_there : (r : Seen) (k : Counts) (size used : ℕ) → used ≡ k.used + size → moved (counted_on (seen_at r k).meter size) ≡ moved (counted_on r.meter used)
meter_there r k size used e =
    let at : (r.meter.at + k.used) + size ≡ r.meter.at + used = omega arith in
    ap (λ n. record { at = n; from = n; limits = r.meter.limits; stop = r.meter.stop; cut_phase = r.meter.cut_phase; kept = r.meter.kept }) at

-- ---- the counts

pub tally_is : (c e d b c' e' d' b' : ℕ) → c ≡ c' → e ≡ e' → d ≡ d' → b ≡ b'
    → (let x : Tally = record { contents = c; earlier = e; depth = d; begun = b } in let y : Tally = record { contents = c'; earlier = e'; depth = d'; begun = b' } in x ≡ y)
tally_is c e d b c' e' d' b' ec ee ed eb =
    ap (λ n. record { contents = n; earlier = e; depth = d; begun = b }) ec ∙ ap (λ n. record { contents = c'; earlier = n; depth = d; begun = b }) ee
    ∙ ap (λ n. record { contents = c'; earlier = e'; depth = n; begun = b }) ed ∙ ap (λ n. record { contents = c'; earlier = e'; depth = d'; begun = n }) eb

-- where the last content begins: at the top it is where the piece has been taken to
begun_here : (b : Bool) (at before used : ℕ) (items : Begun) → (b ≡ true → items.last ≡ used)
    → begun_at at before (with_content items b) ≡ (if b then at + used else begun_at at before items)
begun_here true at before used items h =
    let some : (items.count + 1 == 0) ≡ false = grind (arith, nat_tests) in ap (λ x. if x then before else at + items.last) some ∙ ap (λ n. at + n) (h refl)
begun_here false at before used items h = let none : items.count + 0 ≡ items.count = omega arith in ap (λ n. if n == 0 then before else at + items.last) none

-- a content or a value comes next, of which counts are made
counts_on : (fs : List Frame) → may_count (phase_on fs) ≡ true
counts_on [] = refl
counts_on (frame.Elements left ∷ fs) = refl
counts_on (frame.Fields last section pos prims values ∷ fs) = refl
counts_on (frame.Notes last section ∷ fs) = refl
counts_on (frame.ExternalNotes ∷ fs) = refl
counts_on (frame.Descriptor number role ∷ fs) = refl

-- a content begins, if the loop is at the top
content_counted : (at used deepest : ℕ) (before : Tally) (items : Begun) (b : Bool) → (b ≡ true → items.last ≡ used)
    → tally_with at before (with_content items b) deepest ≡ (if b then content_begun (tally_with at before items deepest) (at + used) else tally_with at before items deepest)
content_counted at used deepest before items true h =
    tally_is _ _ _ _ _ _ _ _ (let more : before.contents + (items.count + 1) ≡ suc (before.contents + items.count) = omega arith in more) refl refl (begun_here true at before.begun used items h)
content_counted at used deepest before items false h =
    ap (λ n. tally_with at before (record { count = n; last = items.last }) deepest) (let none : items.count + 0 ≡ items.count = omega arith in none)

-- what a tag counts there
tag_counted : (piece : List ℕ) (before : Tally) (old : Seen) (k : Counts) (tag deepest : ℕ) → HoldsNext piece old k
    → tally_with old.meter.at before k.items deepest ≡ with_token (seen_at old k) (tag_from tag) (tally_at old.meter.at before k)
    → tally_with old.meter.at before (with_content k.items (k.depth == 0)) deepest ≡ tally_next (seen_at old k) tag (tally_at old.meter.at before k)
tag_counted piece before old k tag deepest h is =
    let top : is_top (phase_on old.frames) ≡ (k.depth == 0) = top_on old.frames ∙ ap (λ n. n == 0) (sym h.holds.depth) in
    content_counted old.meter.at k.used deepest before k.items (k.depth == 0) (λ e. h.top (eqb-true k.depth 0 e))
    ∙ ap₂ (λ b t. if b then content_begun t (old.meter.at + k.used) else t) (sym top) is
    ∙ ap (λ b. if b then with_tag (seen_at old k) (tag_from tag) (tally_at old.meter.at before k) else tally_at old.meter.at before k) (sym (counts_on old.frames))

-- those of a place
pub place_counted : (piece : List ℕ) (before : Tally) (old : Seen) (k : Counts) (size : ℕ) (t : Tag) → HoldsNext piece old k
    → tally_at old.meter.at before (with_place k size) ≡ tally_next (seen_at old k) (tag_byte t) (tally_at old.meter.at before k)
place_counted piece before old k size t h =
    tag_counted piece before old k (tag_byte t) (max k.deepest (suc k.depth)) h
    (ap (λ n. tally_with old.meter.at before k.items (max k.deepest (suc n))) h.holds.depth
    ∙ ap (λ found. with_token (seen_at old k) found (tally_at old.meter.at before k)) (sym (tag_found t)))

-- those of a block, and of the end of an annotation

pub block_counted : (piece : List ℕ) (before : Tally) (old : Seen) (k : Counts) (size : ℕ) → HoldsNext piece old k
    → tally_at old.meter.at before (with_block k size) ≡ tally_next (seen_at old k) 0x77 (tally_at old.meter.at before k)
block_counted piece before old k size h =
    tag_counted piece before old k 0x77 k.deepest h (ap (λ found. with_token (seen_at old k) found (tally_at old.meter.at before k)) (sym (block_found false)))

pub end_counted : (piece : List ℕ) (before : Tally) (old : Seen) (k : Counts) (size : ℕ) → HoldsNext piece old k
    → tally_at old.meter.at before (with_block k size) ≡ tally_next (seen_at old k) 0x78 (tally_at old.meter.at before k)
end_counted piece before old k size h =
    tag_counted piece before old k 0x78 k.deepest h (ap (λ found. with_token (seen_at old k) found (tally_at old.meter.at before k)) (sym end_found))

pub items_within : (b : Bool) (items used size : ℕ) → items ≤ used → 0 < size → items + number_if b 1 ≤ used + size
items_within true items used size le some = omega arith
items_within false items used size le some = omega arith

-- all of the piece may be taken still
pub same_can : (piece : List ℕ) (old new : Seen) → new.meter ≡ old.meter → CanPass old piece → CanPass new piece
same_can piece old new em can = record {
  within = record {
    is_front = can.within.is_front;
    short = can.within.short;
    fits = subst (λ m. length piece ≤ m.limits.bytes - m.at) (sym em) can.within.fits;
    room = subst (λ m. 0 < length piece → m.at + length piece < 2 ^ 64) (sym em) can.within.room;
    full = subst (λ m. length piece < length piece → length piece ≡ m.limits.bytes - m.at) (sym em) can.within.full;
  };
  all_bytes = can.all_bytes;
}

-- inside something no content begins
pub holds_inside : (piece : List ℕ) (r : Seen) (k : Counts) → Holds piece r k → 0 < length r.frames → HoldsNext piece r k
holds_inside piece r k h some = let depth = h.depth in record { holds = h; top = λ none. absurd (omega arith) }

-- they are right after a place
pub place_holds : (piece : List ℕ) (old new : Seen) (k j : Counts) (size : ℕ) → Holds piece old k → HasPlace (seen_at old k) → 0 < size → k.used + size ≤ length piece
    → new.meter ≡ old.meter → new.frames ≡ old.frames → j ≡ with_place k size → Holds piece new j
place_holds piece old new k j size h p some enough em ef e =
    let deep = h.deep in
    let depth = h.depth in
    let shallow = p.shallow in
    let last = h.last in
    let limit : new.meter.limits.depth ≡ old.meter.limits.depth = ap (λ m. m.limits.depth) em in
    subst (Holds piece new) (sym e)
    (record {
      can = same_can piece old new em h.can;
      within = enough;
      depth = depth ∙ ap length (sym ef);
      deep = omega arith;
      items = items_within (k.depth == 0) k.items.count k.used size h.items some;
      last = omega arith;
    })

-- ---- one after another

rest_on : (piece : List ℕ) (used size there : ℕ) → there ≡ used + size → drop size (drop used piece) ≡ drop there piece
rest_on piece used size there e = drop-drop size used piece ∙ ap (λ n. drop n piece) (sym e)

pub leads_on : (piece : List ℕ) (old mid new : Seen) (k i j : Counts) (s : State) → Goes piece old k mid i → LeadsTo piece mid i new j s → LeadsTo piece old k new j s
leads_on piece old mid new k i j s h g =
    let u = h.used in
    let v = g.used in
    let some = g.some in
    record {
      size = h.size + g.size;
      some = omega arith;
      used = omega arith;
      can = h.can;
      meter = g.meter ∙ h.meter;
      to = λ gate is_gate before next comes kept.
          then_passes gate (drop k.used piece) (drop i.used piece) h.size g.size (seen_at old k) (seen_at mid i) next
          (tally_at old.meter.at before k) (tally_at old.meter.at before i) (tally_at old.meter.at before j)
          (h.passes gate is_gate before)
          (subst (λ at. Passes gate (drop i.used piece) (Some g.size) (seen_at mid i) (tally_at at before i) next (tally_at at before j)) (ap (λ m. m.at) h.meter)
          (g.to gate is_gate before next comes kept))
          (sym (rest_on piece k.used h.size i.used u));
    }

pub goes_on : (piece : List ℕ) (old mid new : Seen) (k i j : Counts) → Goes piece old k mid i → Goes piece mid i new j → Goes piece old k new j
goes_on piece old mid new k i j h g =
    let u = h.used in
    let v = g.used in
    record {
      size = h.size + g.size;
      used = omega arith;
      can = h.can;
      meter = g.meter ∙ h.meter;
      passes = λ gate is_gate before.
          then_passes gate (drop k.used piece) (drop i.used piece) h.size g.size (seen_at old k) (seen_at mid i) (seen_at new j)
          (tally_at old.meter.at before k) (tally_at old.meter.at before i) (tally_at old.meter.at before j)
          (h.passes gate is_gate before)
          (subst (λ at. Passes gate (drop i.used piece) (Some g.size) (seen_at mid i) (tally_at at before i) (seen_at new j) (tally_at at before j)) (ap (λ m. m.at) h.meter)
          (g.passes gate is_gate before))
          (sym (rest_on piece k.used h.size i.used u));
      nothing = λ none.
          let a : h.size ≡ 0 = omega arith in
          let b : g.size ≡ 0 = omega arith in
          let x = h.nothing a in
          let y = g.nothing b in
          (y.0 ∙ x.0, y.1 ∙ x.1);
    }

-- where what comes next is known
pub leads_there : (piece : List ℕ) (old new : Seen) (k j : Counts) (s : State) → LeadsTo piece old k new j s → Ready (seen_at new j) s → Goes piece old k new j
leads_there piece old new k j s h ready =
    let some = h.some in
    record {
      size = h.size;
      used = h.used;
      can = h.can;
      meter = h.meter;
      passes = λ gate is_gate before. h.to gate is_gate before (seen_at new j) (record { ready = ready; meter = refl; max = refl }) (record { table = refl; layers = refl; refs = refl });
      nothing = λ none. absurd (omega arith);
    }

-- where that is at the top: the next content begins there
pub leads_top : (piece : List ℕ) (old new : Seen) (k j : Counts) (s : State) → LeadsTo piece old k new j s → Ready (seen_at new j) s → phase_on new.frames ≡ phase.Top
    → Goes piece old k new (content_ended j)
leads_top piece old new k j s h ready top =
    let some = h.some in
    record {
      size = h.size;
      used = h.used;
      can = h.can;
      meter = h.meter;
      passes = λ gate is_gate before.
          passes_at_top gate (drop k.used piece) h.size (seen_at old k) (seen_at new j) (tally_at old.meter.at before k) (tally_at old.meter.at before j)
          (begun_at old.meter.at before.begun (content_ended j).items) top
          (h.to gate is_gate before (seen_at new j) (record { ready = ready; meter = refl; max = refl }) (record { table = refl; layers = refl; refs = refl }));
      nothing = λ none. absurd (omega arith);
    }
