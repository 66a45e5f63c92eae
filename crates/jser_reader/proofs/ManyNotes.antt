-- The loop over whole values: blocks, and the ends of annotations.
use Rattle.std.proofs.Common.{◌≡◌, ℕ, suc, ◌+◌, ◌-◌, ◌<◌, ◌≤◌, ◌==◌, false, List, [], ◌∷◌, length, get_or, drop, refl, sym, ◌∙◌, ap, subst, arith}
use Rattle.std.proofs.Common.{get_or-drop}
use Rattle.std.proofs.lemmas.Bool.Decides.{nat_tests}
use Rattle.std.proofs.lemmas.List.{length-drop}
use Rattle.jser_reading.specs.Goals.{Part, section_parts, settle}
use Rattle.jser_table.specs.Sections.{under}
use Rattle.jser_reader.specs.declared.machine.flow.Flow.TheVariants as flow
use Rattle.jser_reader.specs.declared.frame.Frame.{Frame}
use Rattle.jser_reader.specs.declared.frame.Frame.TheVariants as frame
use Rattle.jser_reader.specs.declared.machine.many.counts.Counts.{Counts}
use Rattle.jser_reader.specs.declared.machine.many.counts.Turn.TheVariants as turn
use Rattle.jser_reader.specs.declared.machine.take.taken.Taken.TheVariants as taken
use Rattle.jser_reader.specs.declared.phase.Phase.TheVariants as phase
use Rattle.jser_reader.specs.declared.tally.Tally.{Tally}
use Rattle.jser_reader.specs.Frames.{frame_goals}
use Rattle.jser_reader.specs.Handlers.{Comes, after_end, tail_goals}
use Rattle.jser_reader.specs.Many.{phase_on, seen_at, tally_with, tally_at, Holds, HoldsNext, with_content, with_block, with_used, with_depth, with_top, LeadsTo, Ends, RawsOn, OpensAs, Turns}
use Rattle.jser_reader.specs.Readers.{Seen, Ready, moment_of}
use Rattle.jser_reader.specs.Stacks.{tail_of}
use Rattle.jser_reader.specs.Steps.{before_parts, after_value}
use Rattle.jser_reader.specs.Takes.{farther, IsOne}
use Rattle.jser_reader.specs.Tallies.{tally_next}
use Rattle.jser_reader.specs.Many.{without_top}
use Rattle.jser_reader.proofs.ManyEnds.{leads_same, leads_raws, stands_there, used_holds}
use Rattle.jser_reader.proofs.ManyLemmas.{place_on, rest_can, items_within, leads_there, holds_inside, block_counted, end_counted}
use Rattle.jser_reader.proofs.ManyPlain.{tag_there, ends_there}
use Rattle.jser_reader.proofs.ManySections.{no_raws}
use Rattle.jser_reader.proofs.PassLemmas.{passes_end}
use Rattle.jser_reader.proofs.TagLemmas.{note_end}
use Rattle.jser_reader.proofs.TakeLemmas.{takes_note, one_taken}
use Rattle.jser_reader.proofs.WholeLemmas.{block_passes}

-- ---- a block

block_ends : (piece : List ℕ) (len : ℕ) (old : Seen) (k j : Counts) → HoldsNext piece old k → k.used + 6 ≤ length piece → 0x77 ≡ get_or piece k.used 0 → len ≡ get_or piece (k.used + 1) 0
    → k.used + (len + 2) ≤ length piece → (phase_on old.frames ≡ phase.Value → ⊥) → j ≡ with_block k (len + 2) → Ends piece old k old j
unfolding Ends
block_ends piece len old k j h room tag second enough other ej =
    let more : k.used < length piece = omega arith in
    let r : Seen = seen_at old k in
    let l = length-drop k.used piece in
    subst (λ j. LeadsTo piece old k old j (after_value (seen_at old j))) (sym ej) (record {
      size = len + 2;
      some = omega arith;
      used = refl;
      can = rest_can piece old k h.holds more;
      meter = refl;
      to = λ gate g before next comes kept.
          block_passes gate len (drop k.used piece) r (farther r (len + 2)) next (tally_at old.meter.at before k) (tally_at old.meter.at before (with_block k (len + 2))) g
          (rest_can piece old k h.holds more) (place_on old.frames) other (tag_there piece k.used 0x77 tag) (second ∙ sym (get_or-drop k.used piece 1 0)) (omega arith) refl
          (ends_there old (farther r (len + 2)) old next k (with_block k (len + 2)) (len + 2) refl refl refl refl refl refl refl comes)
          (λ _ _. block_counted piece before old k (len + 2) h);
    })

pub block_turn : (piece : List ℕ) (len : ℕ) (old : Seen) (k j : Counts) → HoldsNext piece old k → k.used + 6 ≤ length piece → 0x77 ≡ get_or piece k.used 0 → len ≡ get_or piece (k.used + 1) 0
    → k.used + (len + 2) ≤ length piece → (phase_on old.frames ≡ phase.Value → ⊥) → j ≡ with_block k (len + 2) → Turns piece turn.Ended old k old j
unfolding Turns
block_turn piece len old k j h room tag second enough other ej =
    let used : j.used ≡ k.used + (len + 2) = ap (λ x. x.used) ej in
    let deep = h.holds.deep in
    let last = h.holds.last in (
      block_ends piece len old k j h room tag second enough other ej,
      subst (Holds piece old) (sym ej) (record { can = h.holds.can; within = enough; depth = h.holds.depth; deep = deep; items = items_within (k.depth == 0) k.items.count k.used (len + 2) h.holds.items (omega arith); last = omega arith }),
      omega arith,
    )

-- ---- the end of an annotation

-- what comes after it

section_left : (r : Seen) (last section : ℕ) → r.frames ≡ frame.Notes last section ∷ tail_of r.frames
    → after_end r ≡ before_parts r (tail_of r.frames) (section_parts (under r.table.chains last section))
unfolding after_end before_parts
section_left r last section e = ap (λ fs. settle (moment_of r) (tail_goals (frame_goals r.table.chains r.layers fs))) e

external_left : (r : Seen) → r.frames ≡ frame.ExternalNotes ∷ tail_of r.frames → after_end r ≡ before_parts r (tail_of r.frames) []
unfolding after_end before_parts
external_left r e = ap (λ fs. settle (moment_of r) (tail_goals (frame_goals r.table.chains r.layers fs))) e

abbrev IsLeft : Seen → List Part → Type 0
IsLeft r parts = after_end r ≡ before_parts r (tail_of r.frames) parts

one_byte : (old next : Seen) (k : Counts) (parts : List Part) → IsLeft (farther (seen_at old k) 1) parts
    → Comes (seen_at old (with_used k 1)) next (before_parts (seen_at old (with_used k 1)) (tail_of old.frames) parts)
    → Comes (farther (seen_at old k) 1) next (after_end (farther (seen_at old k) 1))
unfolding before_parts
one_byte old next k parts left comes =
    let at : old.meter.at + (k.used + 1) ≡ old.meter.at + k.used + 1 = omega arith in
    record {
      ready = subst (Ready next) (sym left) comes.ready;
      meter = comes.meter ∙ ap (λ n. record { at = n; from = n; limits = old.meter.limits; stop = old.meter.stop; cut_phase = old.meter.cut_phase; kept = old.meter.kept }) at;
      max = comes.max;
    }

inside_depth : (fs : List Frame) (f : Frame) → fs ≡ f ∷ tail_of fs → (length fs == 0) ≡ false
inside_depth fs f e = let n : length fs ≡ suc (length (tail_of fs)) = ap length e in grind (arith, nat_tests)

notes_counted : (piece : List ℕ) (before : Tally) (old : Seen) (k : Counts) (f : Frame) → HoldsNext piece old k → old.frames ≡ f ∷ tail_of old.frames
    → tally_at old.meter.at before (with_used k 1) ≡ tally_next (seen_at old k) 0x78 (tally_at old.meter.at before k)
notes_counted piece before old k f h e =
    let inside : (k.depth == 0) ≡ false = ap (λ n. n == 0) h.holds.depth ∙ inside_depth old.frames f e in
    let none : k.items.count ≡ k.items.count + 0 = omega arith in
    ap (λ n. tally_with old.meter.at before (record { count = n; last = k.items.last }) k.deepest) none
    ∙ ap (λ b. tally_with old.meter.at before (with_content k.items b) k.deepest) (sym inside)
    ∙ end_counted piece before old k 1 h

notes_lead : (piece : List ℕ) (old : Seen) (k : Counts) (f : Frame) (parts : List Part) → HoldsNext piece old k → k.used + 6 ≤ length piece → 0x78 ≡ get_or piece k.used 0
    → old.frames ≡ f ∷ tail_of old.frames → phase_on old.frames ≡ phase.Note → IsLeft (farther (seen_at old k) 1) parts
    → LeadsTo piece old k old (with_used k 1) (before_parts (seen_at old (with_used k 1)) (tail_of old.frames) parts)
notes_lead piece old k f parts h room tag e ep left =
    let more : k.used < length piece = omega arith in
    let r : Seen = seen_at old k in
    let l = length-drop k.used piece in
    record {
      size = 1;
      some = omega arith;
      used = refl;
      can = rest_can piece old k h.holds more;
      meter = refl;
      to = λ gate g before next comes kept.
          passes_end gate 1 (taken.Ended 1) (drop k.used piece) r next (tally_at old.meter.at before k) (tally_at old.meter.at before (with_used k 1))
          (one_taken 0x78 flow.On (taken.Ended 1) (drop k.used piece) r next
          (takes_note 0x78 flow.On r (farther r 1) next (λ _. note_end 0x78 flow.On (farther r 1) next refl (one_byte old next k parts left comes) refl) refl ep)
          refl (tag_there piece k.used 0x78 tag) (omega arith) (subst IsOne (sym ep) tt) gate)
          refl (λ _ _. notes_counted piece before old k f h e ∙ ap (λ b. tally_next r b (tally_at old.meter.at before k)) (tag_there piece k.used 0x78 tag)) g (rest_can piece old k h.holds more);
    }

none_state : (old new : Seen) (i j : Counts) → new ≡ without_top old → j.refs ≡ i.refs → before_parts (seen_at old i) (tail_of old.frames) [] ≡ after_value (seen_at new j)
unfolding after_value before_parts
none_state old new i j en er =
    ap (λ n. settle (record { table = old.table.entries; places = n }) (frame_goals old.table.chains old.layers (tail_of old.frames))) (sym er)
    ∙ ap (λ r. settle (record { table = r.table.entries; places = j.refs }) (frame_goals r.table.chains r.layers r.frames)) (sym en)

notes_done : (piece : List ℕ) (old new : Seen) (k j : Counts) (f : Frame) (parts : List Part) (used : ℕ) → HoldsNext piece old k
    → LeadsTo piece old k old (with_used k 1) (before_parts (seen_at old (with_used k 1)) (tail_of old.frames) parts) → old.frames ≡ f ∷ tail_of old.frames
    → RawsOn old.table.chains used parts [] → k.used + 1 + used ≤ length piece → new ≡ without_top old → j ≡ with_depth (with_used k (used + 1)) (k.depth - 1) → Turns piece turn.Ended old k new j
unfolding Turns Ends
notes_done piece old new k j f parts used h leads e raws enough en ej =
    let i : Counts = with_used (with_used k 1) used in
    let n : length old.frames ≡ suc (length (tail_of old.frames)) = ap length e in
    let depth = h.holds.depth in
    let frames : length new.frames ≡ length (tail_of old.frames) = ap (λ r. length r.frames) en in
    let there : j.used ≡ k.used + (used + 1) = ap (λ x. x.used) ej in
    let deep : j.depth ≡ k.depth - 1 = ap (λ x. x.depth) ej in (
      leads_same piece old old new k i j (before_parts (seen_at old i) (tail_of old.frames) []) (after_value (seen_at new j))
          (leads_raws piece old old k (with_used k 1) (tail_of old.frames) used parts [] leads raws (omega arith))
          (ap (λ r. r.meter) en) (ap (λ r. r.layers) en) (ap (λ r. r.table) en) (omega arith) (ap (λ x. x.refs) ej) (ap (λ x. x.items) ej) (ap (λ x. x.deepest) ej)
          (none_state old new i j en (ap (λ x. x.refs) ej)),
      used_holds piece old new k j (used + 1) h.holds (ap (λ r. r.meter) en) (omega arith) there (ap (λ x. x.items) ej) (ap (λ x. x.deepest) ej) (omega arith),
      omega arith,
    )

notes_open : (piece : List ℕ) (old new : Seen) (k j : Counts) (f g : Frame) (parts : List Part) (used : ℕ) → HoldsNext piece old k
    → LeadsTo piece old k old (with_used k 1) (before_parts (seen_at old (with_used k 1)) (tail_of old.frames) parts) → old.frames ≡ f ∷ tail_of old.frames
    → OpensAs old.table.chains parts used g → k.used + 1 + used ≤ length piece → new ≡ with_top old g → j ≡ with_used k (used + 1) → Turns piece turn.Next old k new j
unfolding Turns Ends
notes_open piece old new k j f g parts used h leads e opens enough en ej =
    let i : Counts = with_used (with_used k 1) used in
    let n : length old.frames ≡ suc (length (tail_of old.frames)) = ap length e in
    let depth = h.holds.depth in
    let frames : length new.frames ≡ suc (length (tail_of old.frames)) = ap (λ r. length r.frames) en in
    let there : j.used ≡ k.used + (used + 1) = ap (λ x. x.used) ej in
    let deep : j.depth ≡ k.depth = ap (λ x. x.depth) ej in
    let s = before_parts (seen_at old i) (tail_of old.frames) opens.parts in (
      leads_there piece old new k j s
          (leads_same piece old old new k i j s s (leads_raws piece old old k (with_used k 1) (tail_of old.frames) used parts opens.parts leads opens.raws (omega arith))
          (ap (λ r. r.meter) en) (ap (λ r. r.layers) en) (ap (λ r. r.table) en) (omega arith) (ap (λ x. x.refs) ej) (ap (λ x. x.items) ej) (ap (λ x. x.deepest) ej) refl)
          (stands_there old new (with_used k 1) j g opens.parts used (tail_of old.frames) opens.stands (ap (λ r. r.frames) en) (ap (λ r. r.layers) en) (ap (λ r. r.table) en) (ap (λ x. x.refs) ej)),
      holds_inside piece new j (used_holds piece old new k j (used + 1) h.holds (ap (λ r. r.meter) en) (omega arith) there (ap (λ x. x.items) ej) (ap (λ x. x.deepest) ej) (omega arith)) (omega arith),
      omega arith,
    )

-- of a section

section_leads : (piece : List ℕ) (old : Seen) (k : Counts) (last section : ℕ) → HoldsNext piece old k → k.used + 6 ≤ length piece → 0x78 ≡ get_or piece k.used 0
    → old.frames ≡ frame.Notes last section ∷ tail_of old.frames
    → LeadsTo piece old k old (with_used k 1) (before_parts (seen_at old (with_used k 1)) (tail_of old.frames) (section_parts (under old.table.chains last section)))
section_leads piece old k last section h room tag e =
    notes_lead piece old k (frame.Notes last section) (section_parts (under old.table.chains last section)) h room tag e (ap phase_on e)
    (section_left (farther (seen_at old k) 1) last section e)

pub section_done : (piece : List ℕ) (old new : Seen) (k j : Counts) (last section used : ℕ) → HoldsNext piece old k → k.used + 6 ≤ length piece → 0x78 ≡ get_or piece k.used 0
    → old.frames ≡ frame.Notes last section ∷ tail_of old.frames → RawsOn old.table.chains used (section_parts (under old.table.chains last section)) [] → k.used + 1 + used ≤ length piece
    → new ≡ without_top old → j ≡ with_depth (with_used k (used + 1)) (k.depth - 1) → Turns piece turn.Ended old k new j
section_done piece old new k j last section used h room tag e raws enough en ej =
    notes_done piece old new k j (frame.Notes last section) (section_parts (under old.table.chains last section)) used h (section_leads piece old k last section h room tag e) e raws enough en ej

pub section_open : (piece : List ℕ) (old new : Seen) (k j : Counts) (last section used : ℕ) (g : Frame) → HoldsNext piece old k → k.used + 6 ≤ length piece → 0x78 ≡ get_or piece k.used 0
    → old.frames ≡ frame.Notes last section ∷ tail_of old.frames → OpensAs old.table.chains (section_parts (under old.table.chains last section)) used g → k.used + 1 + used ≤ length piece
    → new ≡ with_top old g → j ≡ with_used k (used + 1) → Turns piece turn.Next old k new j
section_open piece old new k j last section used g h room tag e opens enough en ej =
    notes_open piece old new k j (frame.Notes last section) g (section_parts (under old.table.chains last section)) used h (section_leads piece old k last section h room tag e) e opens enough en ej

-- of an externalizable object
pub external_done : (piece : List ℕ) (old new : Seen) (k j : Counts) → HoldsNext piece old k → k.used + 6 ≤ length piece → 0x78 ≡ get_or piece k.used 0
    → old.frames ≡ frame.ExternalNotes ∷ tail_of old.frames → new ≡ without_top old → j ≡ with_depth (with_used k 1) (k.depth - 1) → Turns piece turn.Ended old k new j
external_done piece old new k j h room tag e en ej =
    notes_done piece old new k j frame.ExternalNotes [] 0 h
    (notes_lead piece old k frame.ExternalNotes [] h room tag e (ap phase_on e) (external_left (farther (seen_at old k) 1) e)) e (no_raws old.table.chains []) (omega arith) en ej
