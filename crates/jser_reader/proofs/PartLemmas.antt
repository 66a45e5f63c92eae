-- Frames stand for goals: what each step of the code does to the goals where a value has ended.
use Rattle.std.proofs.Common.{◌≡◌, ℕ, zero, suc, ◌+◌, ◌-◌, ◌*◌, ◌<◌, ◌≤◌, Bool, true, false, List, [], ◌∷◌, length, subst, drop, slice_get, Option, Some, None, option_map, IsTrue, not, ◌||◌, true≢false, refl, sym, ◌∙◌, ap, ap₂, arith}
use Rattle.jser_table.specs.declared.layer.Layer.{Layer}
use Rattle.jser_table.specs.declared.section.Section.{Section}
use Rattle.jser_table.specs.Chains.{has_write_method, is_filled, is_empty}
use Rattle.jser_table.specs.Codes.{PrimCode, size_of, primitive_codes, object_count, prim_code_of, with_code, one_more_value}
use Rattle.jser_table.specs.Entries.{TableEntry}
use Rattle.jser_table.specs.Tables.{TableView}
use Rattle.jser_table.specs.Sections.{HasSection, layer_of, under, IsOn, HoldsFor}
use Rattle.jser_reading.specs.Goals.{Part, raw_part, value_part, annotation_part, prim_parts, value_parts, annotation_if, section_parts, parts_goal, settle}
use Rattle.jser_reader.specs.declared.frame.Frame.{Frame}
use Rattle.jser_reader.specs.declared.frame.Frame.TheVariants as frame
use Rattle.jser_reader.specs.declared.frame.RawPlace.{RawPlace}
use Rattle.jser_reader.specs.declared.phase.Phase.{Phase}
use Rattle.jser_reader.specs.declared.phase.Phase.TheVariants as phase
use Rattle.jser_reader.specs.Stacks.{tail_of, HasNoRaw, IsOnTop, HasNoField, CountsValue, CountsRaw}
use Rattle.jser_reader.specs.Frames.{frame_goals, rest_of_section}
use Rattle.jser_reader.specs.Fitting.{FrameFits, IsBelow, bound_below, FramesFit, AllFit}
use Rattle.jser_reader.specs.Readers.{Seen, moment_of, Ready, ReadyAt, HasNotes}
use Rattle.jser_reader.specs.Steps.{Kept, before_parts, PartGives, after_value, GoesOn, FieldGoesOn}

-- what is seen of a machine whose phase, stack, table and counters are these
pub made : (new : Seen) (p : Phase) (fs : List Frame) (ls : List Layer) (T : TableView) (refs left : ℕ)
    → new.phase ≡ p → new.frames ≡ fs → new.layers ≡ ls → new.table ≡ T → new.refs ≡ refs → new.left ≡ left
    → new ≡ record { meter = new.meter; phase = p; frames = fs; layers = ls; table = T; refs = refs; owner = new.owner; elements = new.elements; header = new.header; text = new.text; left = left; scan = new.scan; name = new.name }
made new p fs ls T refs left ep ef ey et er el = rw (← ep) (rw (← ef) (rw (← ey) (rw (← et) (rw (← er) (rw (← el) refl)))))

values_step : (n : ℕ) (parts : List Part) → 0 < n → value_parts n parts ≡ value_part ∷ value_parts (n - 1) parts
values_step zero parts some = absurd (omega arith)
values_step (suc n) parts some =
    let e : n ≡ suc n - 1 = omega arith in ap (λ k. value_part ∷ value_parts k parts) e

-- the code at a place, and the codes after it
code_at : (codes : List PrimCode) (pos size : ℕ) → option_map size_of (slice_get codes pos) ≡ Some size
    → (c : PrimCode) × (drop pos codes ≡ c ∷ drop (suc pos) codes) × (size ≡ 1 * size_of c)
code_at [] pos size e = absurd (cc)
code_at (c ∷ codes) zero size e =
    let is : size ≡ size_of c = cc in (c, refl, omega arith)
code_at (c ∷ codes) (suc pos) size e = code_at codes pos size e

past_end : (codes : List PrimCode) (pos : ℕ) → length codes ≤ pos → drop pos codes ≡ []
past_end [] zero h = refl
past_end [] (suc pos) h = refl
past_end (c ∷ codes) zero h = absurd (omega arith)
past_end (c ∷ codes) (suc pos) h = past_end codes pos (omega arith)

abbrev after_fields : Layer → List Layer → List Part
after_fields layer below = annotation_if (has_write_method layer.flags) (section_parts below)

-- a raw value of the section comes next
pub goes_prims : (old new : Seen) (last section pos prims values size : ℕ)
    → option_map size_of (slice_get (primitive_codes (layer_of old.table.chains section).codes) pos) ≡ Some size
    → new.phase ≡ phase.Prims → new.frames ≡ frame.Fields last section (pos + 1) prims values ∷ tail_of old.frames
    → new.layers ≡ old.layers → new.table ≡ old.table → new.refs ≡ old.refs → new.left ≡ size
    → PartGives true old new (rest_of_section pos values (layer_of old.table.chains section) (under old.table.chains last section))
unfolding PartGives Ready before_parts
goes_prims old new last section pos prims values size code ep ef ey et er el =
    let C = old.table.chains in
    let fs = tail_of old.frames in
    let codes = primitive_codes (layer_of C section).codes in
    let x = code_at codes pos size code in
    let next : suc pos ≡ pos + 1 = omega arith in
    let split : drop pos codes ≡ x.0 ∷ drop (pos + 1) codes = x.1 ∙ ap (λ k. x.0 ∷ drop k codes) next in
    let tail = value_parts values (after_fields (layer_of C section) (under C last section)) in
    let e = made new phase.Prims (frame.Fields last section (pos + 1) prims values ∷ fs) old.layers old.table old.refs size ep ef ey et er el in
    let first : before_parts old fs (prim_parts (drop pos codes) tail)
    ≡ (moment_of old, parts_goal (suc (length fs)) (raw_part x.0 1 ∷ prim_parts (drop (pos + 1) codes) tail) ∷ frame_goals C old.layers fs) =
    ap (λ cs. before_parts old fs (prim_parts cs tail)) split in (
      rw e (record {
        depth = suc (length fs);
        type_code = x.0;
        more = 0;
        parts = prim_parts (drop (pos + 1) codes) tail;
        goals = frame_goals C old.layers fs;
        is = first;
        size = x.2;
        depth_is = record { most = omega arith; least = omega arith };
        after = refl;
      }),
      record { table = et; layers = ey; refs = er },
    )

-- a value of the section comes next
pub goes_value : (old new : Seen) (last section pos prims values : ℕ)
    → FrameFits old.table.entries old.table.chains (frame.Fields last section pos prims values) → (pos < prims → ⊥) → 0 < values
    → new.phase ≡ phase.Value → new.frames ≡ frame.Fields last section pos prims (values - 1) ∷ tail_of old.frames
    → new.layers ≡ old.layers → new.table ≡ old.table → new.refs ≡ old.refs
    → PartGives true old new (rest_of_section pos values (layer_of old.table.chains section) (under old.table.chains last section))
unfolding PartGives Ready before_parts
goes_value old new last section pos prims values fits over some ep ef ey et er =
    let C = old.table.chains in
    let fs = tail_of old.frames in
    let codes = primitive_codes (layer_of C section).codes in
    let behind = after_fields (layer_of C section) (under C last section) in
    let is : prims ≡ length codes = fits.1 in
    let none : drop pos codes ≡ [] = past_end codes pos (omega arith) in
    let e = made new phase.Value (frame.Fields last section pos prims (values - 1) ∷ fs) old.layers old.table old.refs new.left ep ef ey et er refl in
    let first : before_parts old fs (prim_parts (drop pos codes) (value_parts values behind))
    ≡ (moment_of old, parts_goal (suc (length fs)) (value_part ∷ value_parts (values - 1) behind) ∷ frame_goals C old.layers fs) =
    ap₂ (λ cs vs. before_parts old fs (prim_parts cs vs)) none (values_step values behind some) in
    let same : prim_parts (drop pos codes) (value_parts (values - 1) behind) ≡ value_parts (values - 1) behind =
    ap (λ cs. prim_parts cs (value_parts (values - 1) behind)) none in (
      rw e ((tt, first ∙ ap (λ ps. (moment_of old, parts_goal (suc (length fs)) (value_part ∷ ps) ∷ frame_goals C old.layers fs)) (sym same))),
      record { table = et; layers = ey; refs = er },
    )

-- the fields of the section are done
pub goes_on : (old new : Seen) (last section pos prims values : ℕ) (found : Bool)
    → FrameFits old.table.entries old.table.chains (frame.Fields last section pos prims values) → (pos < prims → ⊥) → (0 < values → ⊥)
    → PartGives found old new (annotation_if (has_write_method (layer_of old.table.chains section).flags) (section_parts (under old.table.chains last section)))
    → PartGives found old new (rest_of_section pos values (layer_of old.table.chains section) (under old.table.chains last section))
goes_on old new last section pos prims values found fits over none h =
    let C = old.table.chains in
    let codes = primitive_codes (layer_of C section).codes in
    let behind = after_fields (layer_of C section) (under C last section) in
    let is : prims ≡ length codes = fits.1 in
    let no_prims : drop pos codes ≡ [] = past_end codes pos (omega arith) in
    let zero_values : values ≡ 0 = omega arith in
    let e : rest_of_section pos values (layer_of C section) (under C last section) ≡ behind =
    ap₂ (λ cs n. prim_parts cs (value_parts n behind)) no_prims zero_values in
    rw e h

-- a section begins
pub begins_prims : (old new : Seen) (last section size : ℕ) (held : Section)
    → HoldsFor (layer_of old.table.chains section) held
    → option_map size_of (slice_get (primitive_codes (layer_of old.table.chains section).codes) 0) ≡ Some size
    → new.phase ≡ phase.Prims → new.frames ≡ frame.Fields last section 1 held.prims held.values ∷ tail_of old.frames
    → new.layers ≡ old.layers → new.table ≡ old.table → new.refs ≡ old.refs → new.left ≡ size
    → PartGives true old new (section_parts (layer_of old.table.chains section ∷ under old.table.chains last section))
begins_prims old new last section size held is code ep ef ey et er el =
    rw (← is.values) (goes_prims old new last section 0 held.prims held.values size code ep ef ey et er el)

pub begins_value : (old new : Seen) (last section : ℕ) (held : Section)
    → new.frames ≡ frame.Fields last section 0 0 (held.values - 1) ∷ tail_of old.frames
    → IsOn old.table.chains last section
    → HoldsFor (layer_of old.table.chains section) held → (0 < held.prims → ⊥) → 0 < held.values
    → new.phase ≡ phase.Value → new.layers ≡ old.layers → new.table ≡ old.table → new.refs ≡ old.refs
    → PartGives true old new (section_parts (layer_of old.table.chains section ∷ under old.table.chains last section))
begins_value old new last section held ef on is none some ep ey et er =
    let no_prims : 0 ≡ length (primitive_codes (layer_of old.table.chains section).codes) = let p = is.prims in omega arith in
    rw (← is.values) (goes_value old new last section 0 0 held.values (on, no_prims, omega arith) (λ h. omega arith) some ep ef ey et er)

no_codes : (codes : List ℕ) → length (primitive_codes codes) ≡ 0 → object_count codes ≡ 0 → codes ≡ []
no_codes [] p v = refl
no_codes (c ∷ codes) p v = go (prim_code_of c) p v
  where
    go : (o : Option PrimCode) → length (with_code o (primitive_codes codes)) ≡ 0 → one_more_value o (object_count codes) ≡ 0 → c ∷ codes ≡ []
    go None p v = absurd (cc)
    go (Some x) p v = absurd (cc)

only_notes : (layer : Layer) → layer.codes ≡ [] → IsTrue (is_filled layer) → has_write_method layer.flags ≡ true
only_notes layer none filled = go (has_write_method layer.flags) refl
  where
    go : (b : Bool) → has_write_method layer.flags ≡ b → b ≡ true
    go true e = refl
    go false e = absurd (true≢false (sym filled ∙ ap₂ (λ cs b. not (is_empty cs) || b) none e))

pub begins_notes : (old new : Seen) (last section : ℕ) (held : Section)
    → IsOn old.table.chains last section
    → HoldsFor (layer_of old.table.chains section) held → (0 < held.prims → ⊥) → (0 < held.values → ⊥)
    → new.phase ≡ phase.Note → new.frames ≡ frame.Notes last section ∷ tail_of old.frames
    → new.layers ≡ old.layers → new.table ≡ old.table → new.refs ≡ old.refs
    → PartGives true old new (section_parts (layer_of old.table.chains section ∷ under old.table.chains last section))
unfolding PartGives Ready before_parts
begins_notes old new last section held on is no_prims no_value ep ef ey et er =
    let layer = layer_of old.table.chains section in
    let below = under old.table.chains last section in
    let p0 : length (primitive_codes layer.codes) ≡ 0 = let p = is.prims in omega arith in
    let v0 : object_count layer.codes ≡ 0 = let v = is.values in omega arith in
    let none : layer.codes ≡ [] = no_codes layer.codes p0 v0 in
    let written = only_notes layer none on.filled in
    let parts : section_parts (layer ∷ below) ≡ annotation_part ∷ section_parts below =
    ap₂ (λ cs b. prim_parts (primitive_codes cs) (value_parts (object_count cs) (annotation_if b (section_parts below)))) none written in
    let e = made new phase.Note (frame.Notes last section ∷ tail_of old.frames) old.layers old.table old.refs new.left ep ef ey et er refl in
    (rw e (tt, ap (λ ps. before_parts old (tail_of old.frames) ps) parts), record { table = et; layers = ey; refs = er })

-- after the fields of a section
pub ends_in_notes : (old new : Seen) (last section : ℕ) (held : Section)
    → HoldsFor (layer_of old.table.chains section) held → held.is_annotated ≡ true
    → new.phase ≡ phase.Note → new.frames ≡ frame.Notes last section ∷ tail_of old.frames
    → new.layers ≡ old.layers → new.table ≡ old.table → new.refs ≡ old.refs
    → PartGives true old new (annotation_if (has_write_method (layer_of old.table.chains section).flags) (section_parts (under old.table.chains last section)))
unfolding PartGives Ready before_parts
ends_in_notes old new last section held is told ep ef ey et er =
    let e = made new phase.Note (frame.Notes last section ∷ tail_of old.frames) old.layers old.table old.refs new.left ep ef ey et er refl in
    let written : has_write_method (layer_of old.table.chains section).flags ≡ true = sym is.annotated ∙ told in
    rw written (rw e (tt, refl), record { table = et; layers = ey; refs = er })

pub ends_without : (old new : Seen) (last section : ℕ) (held : Section) (found : Bool)
    → HoldsFor (layer_of old.table.chains section) held → held.is_annotated ≡ false
    → PartGives found old new (section_parts (under old.table.chains last section))
    → PartGives found old new (annotation_if (has_write_method (layer_of old.table.chains section).flags) (section_parts (under old.table.chains last section)))
ends_without old new last section held found is told h =
    let none : has_write_method (layer_of old.table.chains section).flags ≡ false = sym is.annotated ∙ told in rw none h

-- the next section
pub one_section : (old new : Seen) (last section next : ℕ)
    → under old.table.chains last section ≡ layer_of old.table.chains next ∷ under old.table.chains last next
    → PartGives true old new (section_parts (layer_of old.table.chains next ∷ under old.table.chains last next))
    → PartGives true old new (section_parts (under old.table.chains last section))
one_section old new last section next e h = rw e h

pub no_section : (old : Seen) (last section : ℕ) → under old.table.chains last section ≡ []
    → PartGives false old old (section_parts (under old.table.chains last section))
unfolding PartGives Ready before_parts
no_section old last section e = (ap (λ ls. before_parts old (tail_of old.frames) (section_parts ls)) e, refl)

-- frames whose numbers are right

fits_new : (T : List TableEntry) (C : List (List Layer)) (bound : ℕ) (frames : List Frame) (f : Frame) → FramesFit T C bound frames
    → FrameFits T C f → ((b : ℕ) → IsBelow b f) → ((b : ℕ) → bound_below b f ≡ b)
    → ((g : Frame) (fs : List Frame) → FramesFit T C bound (g ∷ fs) → FramesFit T C bound fs) → FramesFit T C bound (f ∷ tail_of frames)
fits_new T C bound [] f fit h below same drop_one = (h, below bound, tt)
fits_new T C bound (g ∷ fs) f fit h below same drop_one =
    (h, below bound, subst (λ b. FramesFit T C b fs) (sym (same bound)) (drop_one g fs fit))

-- a lower bound is stronger
pub fits_lower : (T : List TableEntry) (C : List (List Layer)) (low high : ℕ) (fs : List Frame) → low ≤ high → FramesFit T C low fs → FramesFit T C high fs
fits_lower T C low high [] le fit = tt
fits_lower T C low high (frame.Elements left ∷ fs) le fit = (fit.0, tt, fits_lower T C low high fs le fit.2)
fits_lower T C low high (frame.Fields last section pos prims values ∷ fs) le fit = (fit.0, tt, fits_lower T C low high fs le fit.2)
fits_lower T C low high (frame.Notes last section ∷ fs) le fit = (fit.0, tt, fits_lower T C low high fs le fit.2)
fits_lower T C low high (frame.ExternalNotes ∷ fs) le fit = (fit.0, tt, fits_lower T C low high fs le fit.2)
fits_lower T C low high (frame.Descriptor number role ∷ fs) le fit = (fit.0, let b = fit.1 in omega arith, fit.2)

pub fits_without : (T : List TableEntry) (C : List (List Layer)) (bound : ℕ) (f : Frame) (fs : List Frame) → FramesFit T C bound (f ∷ fs) → FramesFit T C bound fs
fits_without T C bound (frame.Elements left) fs fit = fit.2
fits_without T C bound (frame.Fields last section pos prims values) fs fit = fit.2
fits_without T C bound (frame.Notes last section) fs fit = fit.2
fits_without T C bound frame.ExternalNotes fs fit = fit.2
fits_without T C bound (frame.Descriptor number role) fs fit = fits_lower T C number bound fs (let b = fit.1 in omega arith) fit.2

replaced : (T : List TableEntry) (C : List (List Layer)) (frames now : List Frame) (f : Frame) → now ≡ f ∷ tail_of frames → AllFit T C frames
    → FrameFits T C f → ((b : ℕ) → IsBelow b f) → ((b : ℕ) → bound_below b f ≡ b) → AllFit T C now
replaced T C frames now f e fit h below same =
    rw e (record { all = fits_new T C (length T) frames f fit.all h below same (λ g fs k. fits_without T C (length T) g fs k) })

pub fits_fields : (T : List TableEntry) (C : List (List Layer)) (frames now : List Frame) (last section pos prims values : ℕ)
    → now ≡ frame.Fields last section pos prims values ∷ tail_of frames → AllFit T C frames → IsOn C last section
    → prims ≡ length (primitive_codes (layer_of C section).codes) → pos ≤ prims → AllFit T C now
fits_fields T C frames now last section pos prims values e fit on is within =
    replaced T C frames now (frame.Fields last section pos prims values) e fit (on, is, within) (λ b. tt) (λ b. refl)

pub fits_notes : (T : List TableEntry) (C : List (List Layer)) (frames now : List Frame) (last section : ℕ)
    → now ≡ frame.Notes last section ∷ tail_of frames → AllFit T C frames → IsOn C last section → AllFit T C now
fits_notes T C frames now last section e fit on = replaced T C frames now (frame.Notes last section) e fit on (λ b. tt) (λ b. refl)

pub fits_elements : (T : List TableEntry) (C : List (List Layer)) (frames now : List Frame) (left : ℕ)
    → now ≡ frame.Elements left ∷ tail_of frames → AllFit T C frames → AllFit T C now
fits_elements T C frames now left e fit = replaced T C frames now (frame.Elements left) e fit tt (λ b. tt) (λ b. refl)

pub fits_tail : (T : List TableEntry) (C : List (List Layer)) (frames now : List Frame) → now ≡ tail_of frames → AllFit T C frames → AllFit T C now
fits_tail T C [] now e fit = rw e fit
fits_tail T C (f ∷ fs) now e fit = rw e (record { all = fits_without T C (length T) f fs fit.all })

pub fits_top : (T : List TableEntry) (C : List (List Layer)) (frames : List Frame) (f : Frame) → frames ≡ f ∷ tail_of frames → AllFit T C frames → FrameFits T C f
fits_top T C frames f e fit = let all : FramesFit T C (length T) (f ∷ tail_of frames) = subst (FramesFit T C (length T)) e fit.all in all.0

-- where a value has ended

leaves : (old new : Seen) → new.frames ≡ tail_of old.frames → new.layers ≡ old.layers → new.table ≡ old.table → new.refs ≡ old.refs
    → after_value new ≡ settle (moment_of old) (frame_goals old.table.chains old.layers (tail_of old.frames))
unfolding after_value
leaves old new ef ey et er = rw ef (rw ey (rw et (rw er refl)))

fewer : (frames : List Frame) (f : Frame) → frames ≡ f ∷ tail_of frames → length (tail_of frames) < length frames
fewer frames f e = let n : length frames ≡ suc (length (tail_of frames)) = ap length e in omega arith

pub leaves_elements : (old new : Seen) (left : ℕ)
    → old.frames ≡ frame.Elements left ∷ tail_of old.frames → (0 < left → ⊥)
    → new.frames ≡ tail_of old.frames → new.layers ≡ old.layers → new.table ≡ old.table → new.refs ≡ old.refs
    → GoesOn false old new
unfolding after_value GoesOn
leaves_elements old new left e none ef ey et er =
    let zero_left : left ≡ 0 = omega arith in
    let is : after_value old ≡ settle (moment_of old) (frame_goals old.table.chains old.layers (tail_of old.frames)) =
    ap (λ fs. settle (moment_of old) (frame_goals old.table.chains old.layers fs)) (e ∙ ap (λ n. frame.Elements n ∷ tail_of old.frames) zero_left) in
    let less = fewer old.frames (frame.Elements left) e in
    let n : length new.frames ≡ length (tail_of old.frames) = ap length ef in
    (leaves old new ef ey et er ∙ sym is, record { table = et; layers = ey; refs = er }, omega arith)

pub leaves_parts : (old mid new : Seen) (last section pos prims values : ℕ)
    → PartGives false old mid (rest_of_section pos values (layer_of old.table.chains section) (under old.table.chains last section))
    → old.frames ≡ frame.Fields last section pos prims values ∷ tail_of old.frames
    → new.frames ≡ tail_of mid.frames → new.layers ≡ mid.layers → new.table ≡ mid.table → new.refs ≡ mid.refs
    → GoesOn false old new
unfolding PartGives before_parts after_value GoesOn
leaves_parts old mid new last section pos prims values p e ef ey et er =
    let goes : after_value old ≡ settle (moment_of old) (frame_goals old.table.chains old.layers (tail_of old.frames)) =
    ap (λ fs. settle (moment_of old) (frame_goals old.table.chains old.layers fs)) e ∙ p.0 in
    let same = p.1 in
    let ef' : new.frames ≡ tail_of old.frames = ef ∙ ap (λ r. tail_of r.frames) same in
    let ey' : new.layers ≡ old.layers = ey ∙ ap (λ r. r.layers) same in
    let et' : new.table ≡ old.table = et ∙ ap (λ r. r.table) same in
    let er' : new.refs ≡ old.refs = er ∙ ap (λ r. r.refs) same in
    let less = fewer old.frames (frame.Fields last section pos prims values) e in
    let n : length new.frames ≡ length (tail_of old.frames) = ap length ef' in
    (leaves old new ef' ey' et' er' ∙ sym goes, record { table = et'; layers = ey'; refs = er' }, omega arith)

-- the steps of the loop
pub comes_at_last : (start old new : Seen) → GoesOn true old new → after_value old ≡ after_value start → Ready new (after_value start)
unfolding GoesOn
comes_at_last start old new h e = subst (Ready new) e h.0

pub kept_on : (start old new : Seen) (b : Bool) → GoesOn b old new → Kept start old → Kept start new
unfolding GoesOn
kept_on start old new true h k = record { table = h.1.table ∙ k.table; layers = h.1.layers ∙ k.layers; refs = h.1.refs ∙ k.refs }
kept_on start old new false h k = record { table = h.1.table ∙ k.table; layers = h.1.layers ∙ k.layers; refs = h.1.refs ∙ k.refs }

pub left_over : (start old new : Seen) → GoesOn false old new → after_value old ≡ after_value start → after_value new ≡ after_value start
unfolding GoesOn
left_over start old new h e = h.0 ∙ e

pub goes_shorter : (old new : Seen) → GoesOn false old new → length new.frames < length old.frames
unfolding GoesOn
goes_shorter old new h = h.2

pub at_part : (old new : Seen) (last section pos prims values : ℕ) → old.frames ≡ frame.Fields last section pos prims values ∷ tail_of old.frames
    → PartGives true old new (rest_of_section pos values (layer_of old.table.chains section) (under old.table.chains last section))
    → GoesOn true old new
unfolding PartGives before_parts after_value GoesOn
at_part old new last section pos prims values e h =
    let goes : after_value old ≡ before_parts old (tail_of old.frames) (rest_of_section pos values (layer_of old.table.chains section) (under old.table.chains last section)) =
    ap (λ fs. settle (moment_of old) (frame_goals old.table.chains old.layers fs)) e in
    (subst (Ready new) (sym goes) h.0, h.1)

pub at_element : (old new : Seen) (left : ℕ) → old.frames ≡ frame.Elements left ∷ tail_of old.frames → 0 < left
    → new.phase ≡ phase.Value → new.frames ≡ frame.Elements (left - 1) ∷ tail_of old.frames
    → new.layers ≡ old.layers → new.table ≡ old.table → new.refs ≡ old.refs
    → GoesOn true old new
unfolding Ready after_value GoesOn
at_element old new left e some ep ef ey et er =
    let made_new = made new phase.Value (frame.Elements (left - 1) ∷ tail_of old.frames) old.layers old.table old.refs new.left ep ef ey et er refl in
    let goes : after_value old
    ≡ (moment_of old, parts_goal (suc (length (tail_of old.frames))) (value_part ∷ value_parts (left - 1) []) ∷ frame_goals old.table.chains old.layers (tail_of old.frames)) =
    ap (λ fs. settle (moment_of old) (frame_goals old.table.chains old.layers fs)) e
    ∙ ap (λ ps. settle (moment_of old) (parts_goal (suc (length (tail_of old.frames))) ps ∷ frame_goals old.table.chains old.layers (tail_of old.frames))) (values_step left [] some) in
    (rw made_new (tt, goes), record { table = et; layers = ey; refs = er })

pub at_notes : (old new : Seen) → HasNotes old.frames
    → new.phase ≡ phase.Note → new.frames ≡ old.frames → new.layers ≡ old.layers → new.table ≡ old.table → new.refs ≡ old.refs
    → GoesOn true old new
unfolding Ready after_value GoesOn
at_notes old new notes ep ef ey et er =
    let made_new = made new phase.Note old.frames old.layers old.table old.refs new.left ep ef ey et er refl in
    (rw made_new (notes, still old.frames notes), record { table = et; layers = ey; refs = er })
  where
    still : (frames : List Frame) → HasNotes frames
        → settle (moment_of old) (frame_goals old.table.chains old.layers frames) ≡ (moment_of old, frame_goals old.table.chains old.layers frames)
    still [] n = absurd n
    still (frame.Elements left ∷ fs) n = absurd n
    still (frame.Fields last section pos prims values ∷ fs) n = absurd n
    still (frame.Notes last section ∷ fs) n = refl
    still (frame.ExternalNotes ∷ fs) n = refl
    still (frame.Descriptor number role ∷ fs) n = refl

pub at_top : (start old new : Seen) → old.frames ≡ [] → after_value old ≡ after_value start
    → new.phase ≡ phase.Top → new.frames ≡ old.frames → new.layers ≡ old.layers → new.table ≡ old.table → new.refs ≡ old.refs
    → Ready new (after_value start)
unfolding Ready after_value
at_top start old new none e ep ef ey et er =
    let made_new = made new phase.Top [] old.layers old.table old.refs new.left ep (ef ∙ none) ey et er refl in
    subst (λ s. ReadyAt new.phase new s) e (rw made_new (refl, ap (λ fs. settle (moment_of old) (frame_goals old.table.chains old.layers fs)) none))

-- a value of what is on top is counted where its frame stands

pub fits_value : (T : List TableEntry) (C : List (List Layer)) (counted : Bool) (frames now : List Frame) → CountsValue counted frames now → AllFit T C frames → AllFit T C now
fits_value T C false frames now h fit = rw h.0 fit
fits_value T C true [] now h fit = absurd h
fits_value T C true (frame.Elements left ∷ fs) now h fit =
    fits_elements T C (frame.Elements left ∷ fs) now (left - 1) (h.2 ∙ ap (λ f. f ∷ fs) h.1.1) fit
fits_value T C true (frame.Fields last section pos prims values ∷ fs) now h fit =
    let f = fit.all.0 in
    fits_fields T C (frame.Fields last section pos prims values ∷ fs) now last section pos prims (values - 1) (h.2 ∙ ap (λ f. f ∷ fs) h.1.2) fit f.0 f.1 f.2
fits_value T C true (frame.Notes last section ∷ fs) now h fit = absurd h.1
fits_value T C true (frame.ExternalNotes ∷ fs) now h fit = absurd h.1
fits_value T C true (frame.Descriptor number role ∷ fs) now h fit = absurd h.1

pub value_comes : (old new : Seen) → CountsValue true old.frames new.frames → AllFit old.table.entries old.table.chains old.frames
    → new.phase ≡ phase.Value → new.layers ≡ old.layers → new.table ≡ old.table → new.refs ≡ old.refs → FieldGoesOn true old new
unfolding FieldGoesOn
value_comes old new h fit ep ey et er = go old.frames refl h fit
  where
    go : (frames : List Frame) → old.frames ≡ frames → CountsValue true frames new.frames → AllFit old.table.entries old.table.chains frames → GoesOn true old new
    go [] e h fit = absurd h
    go (frame.Elements left ∷ fs) e h fit =
        let below : fs ≡ tail_of old.frames = sym (ap tail_of e) in
        at_element old new left (e ∙ ap (λ gs. frame.Elements left ∷ gs) below) h.1.0 ep (h.2 ∙ ap₂ (λ f gs. f ∷ gs) h.1.1 below) ey et er
    go (frame.Fields last section pos prims values ∷ fs) e h fit =
        let below : fs ≡ tail_of old.frames = sym (ap tail_of e) in
        at_part old new last section pos prims values (e ∙ ap (λ gs. frame.Fields last section pos prims values ∷ gs) below)
        (goes_value old new last section pos prims values fit.all.0 h.1.0 h.1.1 ep (h.2 ∙ ap₂ (λ f gs. f ∷ gs) h.1.2 below) ey et er)
    go (frame.Notes last section ∷ fs) e h fit = absurd h.1
    go (frame.ExternalNotes ∷ fs) e h fit = absurd h.1
    go (frame.Descriptor number role ∷ fs) e h fit = absurd h.1

-- or a raw value

pub fits_raw : (T : List TableEntry) (C : List (List Layer)) (raw : Option RawPlace) (frames now : List Frame) → CountsRaw raw frames now → AllFit T C frames → AllFit T C now
fits_raw T C None frames now h fit = rw h.0 fit
fits_raw T C (Some raw) [] now h fit = absurd h
fits_raw T C (Some raw) (frame.Elements left ∷ fs) now h fit = absurd h.1
fits_raw T C (Some raw) (frame.Fields last section pos prims values ∷ fs) now h fit =
    let f = fit.all.0 in
    let less = h.1.2 in
    fits_fields T C (frame.Fields last section pos prims values ∷ fs) now last section (pos + 1) prims values (h.2 ∙ ap (λ f. f ∷ fs) h.1.3) fit f.0 f.1 (omega arith)
fits_raw T C (Some raw) (frame.Notes last section ∷ fs) now h fit = absurd h.1
fits_raw T C (Some raw) (frame.ExternalNotes ∷ fs) now h fit = absurd h.1
fits_raw T C (Some raw) (frame.Descriptor number role ∷ fs) now h fit = absurd h.1

-- its section is one, and its place is in it
pub raw_stands : (T : List TableEntry) (C : List (List Layer)) (raw : RawPlace) (frames now : List Frame) → CountsRaw (Some raw) frames now → AllFit T C frames
    → HasSection C raw.section × (raw.pos < length (primitive_codes (layer_of C raw.section).codes))
raw_stands T C raw [] now h fit = absurd h
raw_stands T C raw (frame.Elements left ∷ fs) now h fit = absurd h.1
raw_stands T C raw (frame.Fields last section pos prims values ∷ fs) now h fit =
    let f = fit.all.0 in
    let codes = f.1 in
    let less = h.1.2 in
    let at = h.1.1 in (
      subst (HasSection C) (sym h.1.0) f.0.section_in,
      subst (λ (k : ℕ). raw.pos < length (primitive_codes (layer_of C k).codes)) (sym h.1.0) (omega arith),
    )
raw_stands T C raw (frame.Notes last section ∷ fs) now h fit = absurd h.1
raw_stands T C raw (frame.ExternalNotes ∷ fs) now h fit = absurd h.1
raw_stands T C raw (frame.Descriptor number role ∷ fs) now h fit = absurd h.1

pub raw_comes : (old new : Seen) (between : List Frame) (raw : RawPlace) (size : ℕ) → CountsValue false old.frames between → CountsRaw (Some raw) between new.frames
    → option_map size_of (slice_get (primitive_codes (layer_of old.table.chains raw.section).codes) raw.pos) ≡ Some size
    → new.phase ≡ phase.Prims → new.left ≡ size → new.layers ≡ old.layers → new.table ≡ old.table → new.refs ≡ old.refs → FieldGoesOn true old new
unfolding FieldGoesOn
raw_comes old new between raw size same h code ep el ey et er = go between (sym same.0) h
  where
    go : (frames : List Frame) → old.frames ≡ frames → CountsRaw (Some raw) frames new.frames → GoesOn true old new
    go [] e h = absurd h
    go (frame.Elements left ∷ fs) e h = absurd h.1
    go (frame.Fields last section pos prims values ∷ fs) e h =
        let below : fs ≡ tail_of old.frames = sym (ap tail_of e) in
        let here : option_map size_of (slice_get (primitive_codes (layer_of old.table.chains section).codes) pos) ≡ Some size =
        ap₂ (λ (k p : ℕ). option_map size_of (slice_get (primitive_codes (layer_of old.table.chains k).codes) p)) (sym h.1.0) (sym h.1.1) ∙ code in
        at_part old new last section pos prims values (e ∙ ap (λ gs. frame.Fields last section pos prims values ∷ gs) below)
        (goes_prims old new last section pos prims values size here ep (h.2 ∙ ap₂ (λ f gs. f ∷ gs) h.1.3 below) ey et er el)
    go (frame.Notes last section ∷ fs) e h = absurd h.1
    go (frame.ExternalNotes ∷ fs) e h = absurd h.1
    go (frame.Descriptor number role ∷ fs) e h = absurd h.1

-- or neither is left
pub none_comes : (old new : Seen) (between : List Frame) → CountsValue false old.frames between → CountsRaw None between new.frames
    → new ≡ record old { frames = new.frames } → FieldGoesOn false old new
unfolding FieldGoesOn
none_comes old new between v r same =
    let e : new.frames ≡ old.frames = r.0 ∙ v.0 in
    (same ∙ ap (λ fs. record old { frames = fs }) e, (subst (IsOnTop HasNoRaw) v.0 r.1, v.1))

-- the fields or elements of what is on top are done

no_field : (frames : List Frame) (last section pos prims values : ℕ) → frames ≡ frame.Fields last section pos prims values ∷ tail_of frames → HasNoField frames
    → (pos < prims → ⊥) × (0 < values → ⊥)
no_field frames last section pos prims values e none =
    let h : HasNoField (frame.Fields last section pos prims values ∷ tail_of frames) = subst HasNoField e none in (h.0, h.1 h.0)

no_element : (frames : List Frame) (left : ℕ) → frames ≡ frame.Elements left ∷ tail_of frames → HasNoField frames → 0 < left → ⊥
no_element frames left e none = let h : HasNoField (frame.Elements left ∷ tail_of frames) = subst HasNoField e none in h.1

pub after_elements : (old new : Seen) (left : ℕ) → old.frames ≡ frame.Elements left ∷ tail_of old.frames → HasNoField old.frames
    → new.frames ≡ tail_of old.frames → new.layers ≡ old.layers → new.table ≡ old.table → new.refs ≡ old.refs → GoesOn false old new
after_elements old new left e none ef ey et er = leaves_elements old new left e (no_element old.frames left e none) ef ey et er

pub after_section : (old new : Seen) (last section pos prims values : ℕ) → old.frames ≡ frame.Fields last section pos prims values ∷ tail_of old.frames
    → FrameFits old.table.entries old.table.chains (frame.Fields last section pos prims values) → HasNoField old.frames
    → PartGives true old new (annotation_if (has_write_method (layer_of old.table.chains section).flags) (section_parts (under old.table.chains last section)))
    → GoesOn true old new
after_section old new last section pos prims values e fits none p =
    let h = no_field old.frames last section pos prims values e none in
    at_part old new last section pos prims values e (goes_on old new last section pos prims values true fits h.0 h.1 p)

pub after_sections : (old mid new : Seen) (last section pos prims values : ℕ) → old.frames ≡ frame.Fields last section pos prims values ∷ tail_of old.frames
    → FrameFits old.table.entries old.table.chains (frame.Fields last section pos prims values) → HasNoField old.frames
    → PartGives false old mid (annotation_if (has_write_method (layer_of old.table.chains section).flags) (section_parts (under old.table.chains last section)))
    → new.frames ≡ tail_of mid.frames → new.layers ≡ mid.layers → new.table ≡ mid.table → new.refs ≡ mid.refs → GoesOn false old new
after_sections old mid new last section pos prims values e fits none p ef ey et er =
    let h = no_field old.frames last section pos prims values e none in
    leaves_parts old mid new last section pos prims values (goes_on old mid last section pos prims values false fits h.0 h.1 p) e ef ey et er

-- a field of what is on top comes next, or none is left there

pub field_ready : (old new : Seen) → FieldGoesOn true old new → Ready new (after_value old)
unfolding FieldGoesOn GoesOn
field_ready old new h = h.0

pub field_kept : (old new : Seen) → FieldGoesOn true old new → Kept old new
unfolding FieldGoesOn GoesOn
field_kept old new h = h.1

pub field_at_last : (start old new : Seen) → FieldGoesOn true old new → after_value old ≡ after_value start → Ready new (after_value start)
unfolding FieldGoesOn
field_at_last start old new h e = comes_at_last start old new h e

pub field_kept_on : (start old new : Seen) → FieldGoesOn true old new → Kept start old → Kept start new
unfolding FieldGoesOn
field_kept_on start old new h k = kept_on start old new true h k

pub field_same : (old new : Seen) → FieldGoesOn false old new → new ≡ old
unfolding FieldGoesOn
field_same old new h = h.0

pub none_left : (old new : Seen) → FieldGoesOn false old new → HasNoField new.frames
unfolding FieldGoesOn
none_left old new h = subst (λ (r : Seen). HasNoField r.frames) (sym h.0) h.1
