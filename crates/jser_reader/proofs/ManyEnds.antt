-- The loop over whole values: where a value has ended.
use Rattle.std.proofs.Common.{◌≡◌, ℕ, suc, ◌+◌, ◌-◌, ◌<◌, ◌≤◌, Bool, true, false, List, [], ◌∷◌, length, drop, Some, refl, sym, ◌∙◌, ap, ap₂, subst, arith}
use Rattle.std.proofs.lemmas.List.{length-drop}
use Rattle.jser_table.specs.declared.layer.Layer.{Layer}
use Rattle.jser_table.specs.Codes.{PrimCode, primitive_codes}
use Rattle.jser_table.specs.Entries.{TableEntry}
use Rattle.jser_table.specs.Sections.{layer_of}
use Rattle.jser_reading.specs.Goals.{Part, State, prim_parts, value_parts, parts_goal, settle}
use Rattle.jser_reader.specs.declared.frame.Frame.{Frame}
use Rattle.jser_reader.specs.declared.frame.Frame.TheVariants as frame
use Rattle.jser_reader.specs.declared.machine.many.counts.Counts.{Counts}
use Rattle.jser_reader.specs.declared.machine.many.counts.Turn.{Turn}
use Rattle.jser_reader.specs.declared.machine.many.counts.Turn.TheVariants as turn
use Rattle.jser_reader.specs.declared.phase.Phase.TheVariants as phase
use Rattle.jser_reader.specs.Fitting.{FrameFits, FramesFit, IsBelow, bound_below, AllFit, IsPart}
use Rattle.jser_reader.specs.Frames.{frame_goals}
use Rattle.jser_reader.specs.Handlers.{moved}
use Rattle.jser_reader.specs.Many.{phase_on, seen_at, tally_with, tally_at, Holds, HoldsNext, content_ended, with_used, with_depth, with_top, LeadsTo, Goes, Ends, RawsOn, StandsOn, OpensAs, parts_behind, FrameEnds, GivesNext, Settles}
use Rattle.jser_reader.specs.Passes.{Passes}
use Rattle.jser_reader.specs.Readers.{Seen, Ready, HasNotes, moment_of}
use Rattle.jser_reader.specs.Stacks.{tail_of, HasNoValue, IsOnTop, CountsValue}
use Rattle.jser_reader.specs.Steps.{before_parts, after_value, GoesOn}
use Rattle.jser_reader.specs.Takes.{counted_on}
use Rattle.jser_reader.specs.Many.{without_top}
use Rattle.jser_reader.proofs.ManyLemmas.{leads_there, leads_top, same_can, holds_inside}
use Rattle.jser_reader.proofs.ManySections.{none_dropped}
use Rattle.jser_reader.proofs.PartLemmas.{fits_without, leaves_elements, at_notes, at_top, value_comes, field_ready}

-- ---- frames whose numbers are right

bound_of_part : (f : Frame) (bound : ℕ) → IsPart f → IsBelow bound f × (bound_below bound f ≡ bound)
bound_of_part (frame.Elements left) bound i = (tt, refl)
bound_of_part (frame.Fields last section pos prims values) bound i = (tt, refl)
bound_of_part (frame.Notes last section) bound i = (tt, refl)
bound_of_part frame.ExternalNotes bound i = (tt, refl)
bound_of_part (frame.Descriptor number role) bound i = absurd i

pub fits_opened : (T : List TableEntry) (C : List (List Layer)) (frames now : List Frame) (f : Frame) → now ≡ f ∷ frames → FrameFits T C f → IsPart f → AllFit T C frames → AllFit T C now
fits_opened T C frames now f e h i fit =
    let b = bound_of_part f (length T) i in
    subst (AllFit T C) (sym e) (record { all = (h, b.0, subst (λ n. FramesFit T C n frames) (sym b.1) fit.all) })

pub fits_replaced : (T : List TableEntry) (C : List (List Layer)) (frames now : List Frame) (f : Frame) → now ≡ f ∷ tail_of frames → FrameFits T C f → IsPart f → AllFit T C frames → AllFit T C now
fits_replaced T C [] now f e h i fit = fits_opened T C [] now f e h i fit
fits_replaced T C (g ∷ fs) now f e h i fit = fits_opened T C fs now f e h i (record { all = fits_without T C (length T) g fs fit.all })

-- ---- the same place in the piece, of another stack

pub leads_same : (piece : List ℕ) (old mid new : Seen) (k i j : Counts) (s t : State) → LeadsTo piece old k mid i s → new.meter ≡ mid.meter → new.layers ≡ mid.layers → new.table ≡ mid.table
    → j.used ≡ i.used → j.refs ≡ i.refs → j.items ≡ i.items → j.deepest ≡ i.deepest → s ≡ t → LeadsTo piece old k new j t
leads_same piece old mid new k i j s t h em ey et eu er ei ed es = record {
  size = h.size;
  some = h.some;
  used = eu ∙ h.used;
  can = h.can;
  meter = em ∙ h.meter;
  to = λ gate is_gate before next comes kept.
      subst (λ n. Passes gate (drop k.used piece) (Some h.size) (seen_at old k) (tally_at old.meter.at before k) next n)
      (ap₂ (tally_with old.meter.at before) (sym ei) (sym ed))
      (h.to gate is_gate before next
      (record {
        ready = subst (Ready next) (sym es) comes.ready;
        meter = comes.meter ∙ ap₂ (λ m n. moved (counted_on m n)) em eu;
        max = comes.max ∙ ap (λ x. x.max) et;
      })
      (record { table = kept.table ∙ et; layers = kept.layers ∙ ey; refs = kept.refs ∙ er }));
}

-- after raw values
pub leads_raws : (piece : List ℕ) (old mid : Seen) (k i : Counts) (fs : List Frame) (bytes : ℕ) (from to : List Part) → LeadsTo piece old k mid i (before_parts (seen_at mid i) fs from)
    → RawsOn mid.table.chains bytes from to → i.used + bytes ≤ length piece
    → LeadsTo piece old k mid (with_used i bytes) (before_parts (seen_at mid (with_used i bytes)) fs to)
unfolding before_parts
leads_raws piece old mid k i fs bytes from to h raws enough =
    let some = h.some in
    let used = h.used in
    let meter = h.meter in
    let at : mid.meter.at ≡ old.meter.at = ap (λ m. m.at) meter in
    let n = length-drop k.used piece in
    let there : (mid.meter.at + i.used) + bytes ≡ mid.meter.at + (i.used + bytes) = omega arith in
    let same : moved (counted_on (seen_at mid i).meter bytes) ≡ moved (counted_on mid.meter (i.used + bytes)) =
    ap (λ n. record { at = n; from = n; limits = mid.meter.limits; stop = mid.meter.stop; cut_phase = mid.meter.cut_phase; kept = mid.meter.kept }) there in
    record {
      size = h.size + bytes;
      some = omega arith;
      used = omega arith;
      can = h.can;
      meter = meter;
      to = λ gate is_gate before next comes kept.
          raws.on gate (drop k.used piece) h.size (seen_at old k) (seen_at mid i) (tally_at old.meter.at before k) (tally_at old.meter.at before i) fs h.can some (omega arith) refl (omega arith) (ap (λ m. m.limits) meter)
          (λ x c q. h.to gate is_gate before x c q) next
          (record { ready = comes.ready; meter = comes.meter ∙ sym same; max = comes.max }) (record { table = kept.table; layers = kept.layers; refs = kept.refs });
    }

-- ---- what is on top has no token left

-- they are right still
pub used_holds : (piece : List ℕ) (old new : Seen) (i j : Counts) (size : ℕ) → Holds piece old i → new.meter ≡ old.meter → i.used + size ≤ length piece → j.used ≡ i.used + size → j.items ≡ i.items
    → j.deepest ≡ i.deepest → j.depth ≡ length new.frames → Holds piece new j
used_holds piece old new i j size h em enough eu ei ed en =
    let items = h.items in
    let count : j.items.count ≡ i.items.count = ap (λ b. b.count) ei in
    let last = h.last in
    let same_last : j.items.last ≡ i.items.last = ap (λ b. b.last) ei in
    let deep = h.deep in
    let limit : new.meter.limits.depth ≡ old.meter.limits.depth = ap (λ m. m.limits.depth) em in
    record { can = same_can piece old new em h.can; within = omega arith; depth = en; deep = omega arith; items = omega arith; last = omega arith }

no_element : (frames : List Frame) (left : ℕ) → frames ≡ frame.Elements left ∷ tail_of frames → IsOnTop HasNoValue frames → 0 < left → ⊥
no_element frames left e none = let h : IsOnTop HasNoValue (frame.Elements left ∷ tail_of frames) = subst (IsOnTop HasNoValue) e none in h

no_value : (frames : List Frame) (last section pos prims values : ℕ) → frames ≡ frame.Fields last section pos prims values ∷ tail_of frames → IsOnTop HasNoValue frames → (pos < prims → ⊥)
    → 0 < values → ⊥
no_value frames last section pos prims values e none over =
    let h : IsOnTop HasNoValue (frame.Fields last section pos prims values ∷ tail_of frames) = subst (IsOnTop HasNoValue) e none in h over

fewer : (frames : List Frame) (f : Frame) → frames ≡ f ∷ tail_of frames → length frames ≡ suc (length (tail_of frames))
fewer frames f e = ap length e

leaves_on : (m new : Seen) (i j : Counts) (left : ℕ) → m.frames ≡ frame.Elements left ∷ tail_of m.frames → (0 < left → ⊥) → new ≡ without_top m → j.refs ≡ i.refs
    → after_value (seen_at m i) ≡ after_value (seen_at new j)
unfolding GoesOn
leaves_on m new i j left e none en er =
    sym (leaves_elements (seen_at m i) (seen_at new j) left e none (ap (λ r. r.frames) en) (ap (λ r. r.layers) en) (ap (λ r. r.table) en) er).0

pub elements_end : (piece : List ℕ) (m new : Seen) (i j : Counts) (left : ℕ) → Holds piece m i → m.frames ≡ frame.Elements left ∷ tail_of m.frames → IsOnTop HasNoValue m.frames
    → new ≡ without_top m → j ≡ with_depth (with_used i 0) (i.depth - 1) → FrameEnds piece turn.Ended m i new j
unfolding FrameEnds Ends
elements_end piece m new i j left h e none en ej =
    let n = fewer m.frames (frame.Elements left) e in
    let depth = h.depth in
    let le = h.within in
    let frames : length new.frames ≡ length (tail_of m.frames) = ap (λ r. length r.frames) en in
    let used : j.used ≡ i.used + 0 = ap (λ x. x.used) ej in
    let deep : j.depth ≡ i.depth - 1 = ap (λ x. x.depth) ej in (
      λ old k ends.
          leads_same piece old m new k i j (after_value (seen_at m i)) (after_value (seen_at new j)) ends (ap (λ r. r.meter) en) (ap (λ r. r.layers) en) (ap (λ r. r.table) en)
          (omega arith) (ap (λ x. x.refs) ej) (ap (λ x. x.items) ej) (ap (λ x. x.deepest) ej)
          (leaves_on m new i j left e (no_element m.frames left e none) en (ap (λ x. x.refs) ej)),
      used_holds piece m new i j 0 h (ap (λ r. r.meter) en) (omega arith) used (ap (λ x. x.items) ej) (ap (λ x. x.deepest) ej) (omega arith),
      omega arith,
      omega arith,
    )

-- after the fields of a section
section_state : (m : Seen) (i : Counts) (last section pos prims values : ℕ) → m.frames ≡ frame.Fields last section pos prims values ∷ tail_of m.frames
    → FrameFits m.table.entries m.table.chains (frame.Fields last section pos prims values) → (pos < prims → ⊥) → (0 < values → ⊥)
    → after_value (seen_at m i) ≡ before_parts (seen_at m i) (tail_of m.frames) (parts_behind m.table.chains last section)
unfolding after_value before_parts
section_state m i last section pos prims values e fits over none =
    let C = m.table.chains in
    let codes : List PrimCode = primitive_codes (layer_of C section).codes in
    let behind = parts_behind C last section in
    let is : prims ≡ length codes = fits.1 in
    let no_prims : drop pos codes ≡ [] = none_dropped codes pos (omega arith) in
    let no_values : values ≡ 0 = omega arith in
    let r : Seen = seen_at m i in
    ap (λ fs. settle (moment_of r) (frame_goals C m.layers fs)) e
    ∙ ap₂ (λ cs n. settle (moment_of r) (parts_goal (suc (length (tail_of m.frames))) (prim_parts cs (value_parts n behind)) ∷ frame_goals C m.layers (tail_of m.frames))) no_prims no_values

none_state : (m new : Seen) (i j : Counts) (size : ℕ) → new ≡ without_top m → j.refs ≡ i.refs → before_parts (seen_at m (with_used i size)) (tail_of m.frames) [] ≡ after_value (seen_at new j)
unfolding after_value before_parts
none_state m new i j size en er =
    ap (λ n. settle (record { table = m.table.entries; places = n }) (frame_goals m.table.chains m.layers (tail_of m.frames))) (sym er)
    ∙ ap (λ r. settle (record { table = r.table.entries; places = j.refs }) (frame_goals r.table.chains r.layers r.frames)) (sym en)

pub section_ends : (piece : List ℕ) (m new : Seen) (i j : Counts) (last section pos prims values used : ℕ) → Holds piece m i
    → m.frames ≡ frame.Fields last section pos prims values ∷ tail_of m.frames → FrameFits m.table.entries m.table.chains (frame.Fields last section pos prims values) → IsOnTop HasNoValue m.frames
    → (pos < prims → ⊥) → RawsOn m.table.chains used (parts_behind m.table.chains last section) [] → i.used + used ≤ length piece
    → new ≡ without_top m → j ≡ with_depth (with_used i used) (i.depth - 1) → FrameEnds piece turn.Ended m i new j
unfolding FrameEnds Ends
section_ends piece m new i j last section pos prims values used h e fits none over raws enough en ej =
    let n = fewer m.frames (frame.Fields last section pos prims values) e in
    let depth = h.depth in
    let frames : length new.frames ≡ length (tail_of m.frames) = ap (λ r. length r.frames) en in
    let more : j.used ≡ i.used + used = ap (λ x. x.used) ej in
    let deep : j.depth ≡ i.depth - 1 = ap (λ x. x.depth) ej in
    let state = section_state m i last section pos prims values e fits over (no_value m.frames last section pos prims values e none over) in
    let from = parts_behind m.table.chains last section in (
      λ old k ends.
          leads_same piece old m new k (with_used i used) j (before_parts (seen_at m (with_used i used)) (tail_of m.frames) []) (after_value (seen_at new j))
          (leads_raws piece old m k i (tail_of m.frames) used from [] (subst (LeadsTo piece old k m i) state ends) raws enough)
          (ap (λ r. r.meter) en) (ap (λ r. r.layers) en) (ap (λ r. r.table) en) more (ap (λ x. x.refs) ej) (ap (λ x. x.items) ej) (ap (λ x. x.deepest) ej)
          (none_state m new i j used en (ap (λ x. x.refs) ej)),
      used_holds piece m new i j used h (ap (λ r. r.meter) en) enough more (ap (λ x. x.items) ej) (ap (λ x. x.deepest) ej) (omega arith),
      omega arith,
      omega arith,
    )

-- the frame that is on top then
pub stands_there : (m new : Seen) (i j : Counts) (f : Frame) (parts : List Part) (size : ℕ) (fs : List Frame) → StandsOn m.table.chains f parts → new.frames ≡ f ∷ fs → new.layers ≡ m.layers
    → new.table ≡ m.table → j.refs ≡ i.refs → Ready (seen_at new j) (before_parts (seen_at m (with_used i size)) fs parts)
stands_there m new i j f parts size fs h ef ey et er =
    h.ready (seen_at m (with_used i size)) (seen_at new j) fs refl (ap phase_on ef) ef ey et er

pub section_opens : (piece : List ℕ) (m new : Seen) (i j : Counts) (last section pos prims values used : ℕ) (f : Frame) → Holds piece m i
    → m.frames ≡ frame.Fields last section pos prims values ∷ tail_of m.frames → FrameFits m.table.entries m.table.chains (frame.Fields last section pos prims values) → IsOnTop HasNoValue m.frames
    → (pos < prims → ⊥) → OpensAs m.table.chains (parts_behind m.table.chains last section) used f → i.used + used ≤ length piece
    → new ≡ with_top m f → j ≡ with_used i used → FrameEnds piece turn.Next m i new j
unfolding FrameEnds Ends
section_opens piece m new i j last section pos prims values used f h e fits none over opens enough en ej =
    let n = fewer m.frames (frame.Fields last section pos prims values) e in
    let depth = h.depth in
    let frames : length new.frames ≡ suc (length (tail_of m.frames)) = ap (λ r. length r.frames) en in
    let more : j.used ≡ i.used + used = ap (λ x. x.used) ej in
    let deep : j.depth ≡ i.depth = ap (λ x. x.depth) ej in
    let state = section_state m i last section pos prims values e fits over (no_value m.frames last section pos prims values e none over) in
    let from = parts_behind m.table.chains last section in
    let s = before_parts (seen_at m (with_used i used)) (tail_of m.frames) opens.parts in (
      λ old k ends.
          leads_there piece old new k j s
          (leads_same piece old m new k (with_used i used) j s s
          (leads_raws piece old m k i (tail_of m.frames) used from opens.parts (subst (LeadsTo piece old k m i) state ends) opens.raws enough)
          (ap (λ r. r.meter) en) (ap (λ r. r.layers) en) (ap (λ r. r.table) en) more (ap (λ x. x.refs) ej) (ap (λ x. x.items) ej) (ap (λ x. x.deepest) ej) refl)
          (stands_there m new i j f opens.parts used (tail_of m.frames) opens.stands (ap (λ r. r.frames) en) (ap (λ r. r.layers) en) (ap (λ r. r.table) en) (ap (λ x. x.refs) ej)),
      holds_inside piece new j (used_holds piece m new i j used h (ap (λ r. r.meter) en) enough more (ap (λ x. x.items) ej) (ap (λ x. x.deepest) ej) (omega arith)) (omega arith),
      omega arith,
    )

-- an annotation goes on
notes_on : (frames : List Frame) (f : Frame) → frames ≡ f ∷ tail_of frames → HasNotes (f ∷ []) → HasNotes frames × (phase_on frames ≡ phase.Note)
notes_on frames f e h = subst (λ fs. HasNotes fs × (phase_on fs ≡ phase.Note)) (sym e) (go f (tail_of frames) h)
  where
    go : (f : Frame) (fs : List Frame) → HasNotes (f ∷ []) → HasNotes (f ∷ fs) × (phase_on (f ∷ fs) ≡ phase.Note)
    go (frame.Elements left) fs h = absurd h
    go (frame.Fields last section pos prims values) fs h = absurd h
    go (frame.Notes last section) fs h = (tt, refl)
    go frame.ExternalNotes fs h = (tt, refl)
    go (frame.Descriptor number role) fs h = (tt, refl)

pub notes_go_on : (piece : List ℕ) (m : Seen) (i : Counts) (f : Frame) → Holds piece m i → m.frames ≡ f ∷ tail_of m.frames → HasNotes (f ∷ []) → FrameEnds piece turn.Next m i m i
unfolding FrameEnds Ends GoesOn
notes_go_on piece m i f h e notes =
    let x = notes_on m.frames f e notes in (
      λ old k ends. leads_there piece old m k i (after_value (seen_at m i)) ends (at_notes (seen_at m i) (seen_at m i) x.0 x.1 refl refl refl refl).0,
      holds_inside piece m i h (let n = fewer m.frames f e in omega arith),
      omega arith,
    )

pub frame_stays : (piece : List ℕ) (m new : Seen) (i j : Counts) → new ≡ m → j ≡ i → FrameEnds piece turn.Nothing m i new j
unfolding FrameEnds
frame_stays piece m new i j e ej = (e, ej)

-- ---- a value has ended

value_phase : (old new : List Frame) → CountsValue true old new → phase_on new ≡ phase.Value
value_phase [] new h = absurd h
value_phase (frame.Elements left ∷ fs) new h = ap phase_on (h.2 ∙ ap (λ f. f ∷ fs) h.1.1)
value_phase (frame.Fields last section pos prims values ∷ fs) new h = ap phase_on (h.2 ∙ ap (λ f. f ∷ fs) h.1.2)
value_phase (frame.Notes last section ∷ fs) new h = absurd h.1
value_phase (frame.ExternalNotes ∷ fs) new h = absurd h.1
value_phase (frame.Descriptor number role ∷ fs) new h = absurd h.1

value_length : (old new : List Frame) → CountsValue true old new → length new ≡ length old
value_length [] new h = absurd h
value_length (f ∷ fs) new h = ap length h.2

value_some : (old new : List Frame) → CountsValue true old new → 0 < length new
value_some [] new h = absurd h
value_some (f ∷ fs) new h = let n : length new ≡ suc (length fs) = ap length h.2 in omega arith

-- so far
pub record EndsSo (piece : List ℕ) (m : Seen) (i : Counts) (new : Seen) (j : Counts) : Type 0 where
  pub ends : (old : Seen) (k : Counts) → Ends piece old k m i → Ends piece old k new j
  pub holds : Holds piece new j
  pub used : i.used ≤ j.used

pub ends_first : (piece : List ℕ) (m : Seen) (i : Counts) → Holds piece m i → EndsSo piece m i m i
ends_first piece m i h = record { ends = λ old k e. e; holds = h; used = omega arith }

pub ends_next : (piece : List ℕ) (m mid new : Seen) (i l j : Counts) (t : Turn) → EndsSo piece m i mid l → FrameEnds piece t mid l new j → t ≡ turn.Ended → EndsSo piece m i new j × (length new.frames < length mid.frames)
unfolding FrameEnds
ends_next piece m mid new i l j turn.Ended h g e =
    let a = h.used in
    let b = g.2 in (record { ends = λ old k x. g.0 old k (h.ends old k x); holds = g.1; used = omega arith }, g.3)
ends_next piece m mid new i l j turn.Next h g e = absurd (cc)
ends_next piece m mid new i l j turn.Nothing h g e = absurd (cc)

pub settles_next : (piece : List ℕ) (m mid new : Seen) (i l j : Counts) (t b : Turn) → EndsSo piece m i mid l → FrameEnds piece t mid l new j → t ≡ turn.Next → b ≡ turn.Next → Settles piece b m i new j
unfolding FrameEnds Settles
settles_next piece m mid new i l j turn.Next b h g e eb =
    let u = h.used in
    let v = g.2 in
    rw eb (λ old k x. g.0 old k (h.ends old k x), g.1, omega arith)
settles_next piece m mid new i l j turn.Ended b h g e eb = absurd (cc)
settles_next piece m mid new i l j turn.Nothing b h g e eb = absurd (cc)

abbrev SettlesTo : List ℕ → Seen → Counts → Seen → Counts → Type 0
SettlesTo piece m i r x = ((old : Seen) (k : Counts) → Ends piece old k m i → Ends piece old k r x) × Holds piece r x × (i.used ≤ x.used)

pub settles_not : (piece : List ℕ) (m mid new : Seen) (i l j : Counts) (t b : Turn) → EndsSo piece m i mid l → FrameEnds piece t mid l new j → t ≡ turn.Nothing → b ≡ turn.Ended → Settles piece b m i new j
unfolding FrameEnds Settles
settles_not piece m mid new i l j turn.Nothing b h g e eb =
    rw eb (subst (λ r. SettlesTo piece m i r j) (sym g.0) (subst (λ x. SettlesTo piece m i mid x) (sym g.1) (h.ends, h.holds, h.used)))
settles_not piece m mid new i l j turn.Ended b h g e eb = absurd (cc)
settles_not piece m mid new i l j turn.Next b h g e eb = absurd (cc)

pub gives_next : (result : Bool) (old new : Seen) → CountsValue result old.frames new.frames → AllFit old.table.entries old.table.chains old.frames → new ≡ record old { frames = new.frames }
    → GivesNext result old new
unfolding GivesNext
gives_next true old new h fit e = (h, fit, e)
gives_next false old new h fit e = (e ∙ ap (λ fs. record old { frames = fs }) h.0, h.1)

pub none_next : (b : Bool) (old new : Seen) → GivesNext b old new → b ≡ false → (new ≡ old) × IsOnTop HasNoValue new.frames
unfolding GivesNext
none_next true old new h e = absurd (cc)
none_next false old new h e = (h.0, subst (λ r. IsOnTop HasNoValue r.frames) (sym h.0) h.1)

pub ends_same : (piece : List ℕ) (m mid new : Seen) (i j : Counts) → EndsSo piece m i mid j → new ≡ mid → EndsSo piece m i new j
ends_same piece m mid new i j h e = subst (λ r. EndsSo piece m i r j) (sym e) h

pub settles_value : (piece : List ℕ) (m mid new : Seen) (i j : Counts) (b : Bool) → EndsSo piece m i mid j → GivesNext b mid new → b ≡ true → Settles piece turn.Next m i new j
unfolding Settles Ends GivesNext
settles_value piece m mid new i j false h g e = absurd (cc)
settles_value piece m mid new i j true h g e =
    let holds = h.holds in
    let le = holds.within in
    let none : j.used ≡ j.used + 0 = omega arith in
    let depth = holds.depth in
    let v = g.0 in
    let em : new.meter ≡ mid.meter = ap (λ r. r.meter) g.2 in
    let ey : new.layers ≡ mid.layers = ap (λ r. r.layers) g.2 in
    let et : new.table ≡ mid.table = ap (λ r. r.table) g.2 in
    let n = value_length mid.frames new.frames v in (
      λ old k x.
          leads_there piece old new k j (after_value (seen_at mid j))
          (leads_same piece old mid new k j j (after_value (seen_at mid j)) (after_value (seen_at mid j)) (h.ends old k x) em ey et refl refl refl refl refl)
          (field_ready (seen_at mid j) (seen_at new j) (value_comes (seen_at mid j) (seen_at new j) v g.1 (value_phase mid.frames new.frames v) ey et refl)),
      holds_inside piece new j (used_holds piece mid new j j 0 holds em (omega arith) none refl refl (omega arith)) (value_some mid.frames new.frames v),
      h.used,
    )

abbrev SettledTo : List ℕ → Seen → Counts → Seen → Counts → Type 0
SettledTo piece m i r x = ((old : Seen) (k : Counts) → Ends piece old k m i → Goes piece old k r x) × HoldsNext piece r x × (i.used ≤ x.used)

pub settles_top : (piece : List ℕ) (m mid : Seen) (i j l : Counts) (b : Turn) → EndsSo piece m i mid j → mid.frames ≡ [] → l ≡ content_ended j → b ≡ turn.Next → Settles piece b m i mid l
unfolding Settles Ends
settles_top piece m mid i j l b h none el eb =
    let holds = h.holds in
    rw eb (subst (SettledTo piece m i mid) (sym el) (
      λ old k x.
          leads_top piece old mid k j (after_value (seen_at mid j)) (h.ends old k x)
          (at_top (seen_at mid j) (seen_at mid j) (seen_at mid j) none refl (ap phase_on none) refl refl refl refl) (ap phase_on none),
      record {
        holds = record { can = holds.can; within = holds.within; depth = holds.depth; deep = holds.deep; items = holds.items; last = omega arith };
        top = λ _. refl;
      },
      h.used,
    ))
