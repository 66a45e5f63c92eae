-- Closing a descriptor: the layers of the others, the numbers of their frames, and what the frames stand for.
use Rattle.std.proofs.Common.{◌≡◌, ℕ, zero, suc, ◌<◌, ◌≤◌, List, [], ◌∷◌, ◌++◌, length, reverse, slice_get, slice_set, Option, IsTrue, refl, sym, ◌∙◌, ap, subst, arith}
use Rattle.std.proofs.lemmas.List.{reverse-append}
use Rattle.jser_table.specs.declared.layer.Layer.{Layer}
use Rattle.jser_table.specs.Codes.{primitive_codes}
use Rattle.jser_table.specs.Entries.{TableEntry, is_pending}
use Rattle.jser_table.specs.Sections.{no_layer, layer_of, under}
use Rattle.jser_table.specs.Tables.{parent_chain, closed_under}
use Rattle.jser_table.proofs.SectionLemmas.{layer_of_grows, under_grows, is_on_grows}
use Rattle.jser_reading.specs.Goals.{section_parts, parts_goal, annotation_goal}
use Rattle.jser_reader.specs.declared.frame.Frame.{Frame}
use Rattle.jser_reader.specs.declared.frame.Frame.TheVariants as frame
use Rattle.jser_reader.specs.declared.frame.Role.{Role}
use Rattle.jser_reader.specs.Stacks.{tail_of}
use Rattle.jser_reader.specs.Fitting.{FramesFit, AllFit}
use Rattle.jser_reader.specs.Frames.{head_layer, tail_layers, chain_owner, rest_of_section, alone, with_frame, stack_goals, StackGoals}
use Rattle.jser_reader.specs.Readers.{Seen, top_number}
use Rattle.jser_reader.specs.Closing.{rest_layers, Closes, PopsLayer}
use Rattle.jser_reader.proofs.PartLemmas.{fits_lower}

-- layers

rest_snoc : (xs : List Layer) (l m : Layer) → rest_layers (l ∷ reverse (xs ++ (m ∷ []))) ≡ m ∷ reverse xs
rest_snoc xs l m = ap (λ ys. rest_layers (l ∷ ys)) (reverse-append xs (m ∷ []))

pub next_layer : (old new : Seen) (outer rest : List Layer) (l m : Layer) → old.layers ≡ l ∷ reverse outer → outer ≡ rest ++ (m ∷ []) → new.layers ≡ m ∷ reverse rest
    → new.table ≡ old.table → new.frames ≡ old.frames → new.refs ≡ old.refs → new.meter ≡ old.meter → PopsLayer old new
next_layer old new outer rest l m e eo en et ef er em =
    record { layers = en ∙ sym (ap rest_layers (e ∙ ap (λ ys. l ∷ reverse ys) eo) ∙ rest_snoc rest l m); table = et; frames = ef; refs = er; meter = em }

pub last_layer : (old new : Seen) (outer : List Layer) (l : Layer) → old.layers ≡ l ∷ reverse outer → outer ≡ [] → new.layers ≡ no_layer ∷ []
    → new.table ≡ old.table → new.frames ≡ old.frames → new.refs ≡ old.refs → new.meter ≡ old.meter → PopsLayer old new
last_layer old new outer l e eo en et ef er em =
    record { layers = en ∙ sym (ap rest_layers (e ∙ ap (λ ys. l ∷ reverse ys) eo)); table = et; frames = ef; refs = er; meter = em }

-- the numbers of the other frames stay right

still_pending : (T : List TableEntry) (n k : ℕ) (e : TableEntry) → k < n → IsTrue (is_pending (slice_get T k)) → IsTrue (is_pending (slice_get (slice_set T n e) k))
still_pending [] n k e h p = absurd (cc)
still_pending (x ∷ T) zero k e h p = absurd (omega arith)
still_pending (x ∷ T) (suc n) zero e h p = p
still_pending (x ∷ T) (suc n) (suc k) e h p = still_pending T n k e (omega arith) p

fits_after : (T : List TableEntry) (C more : List (List Layer)) (n bound : ℕ) (e : TableEntry) (fs : List Frame) → bound ≤ n → FramesFit T C bound fs
    → FramesFit (slice_set T n e) (C ++ more) bound fs
fits_after T C more n bound e [] le fit = tt
fits_after T C more n bound e (frame.Elements left ∷ fs) le fit = (tt, tt, fits_after T C more n bound e fs le fit.2)
fits_after T C more n bound e (frame.Fields last section pos prims values ∷ fs) le fit =
    let on = fit.0.0 in
    let same : primitive_codes (layer_of (C ++ more) section).codes ≡ primitive_codes (layer_of C section).codes =
    ap (λ l. primitive_codes l.codes) (layer_of_grows C more section on.section_in) in
    ((is_on_grows C more last section on, fit.0.1 ∙ sym (ap length same), fit.0.2), tt, fits_after T C more n bound e fs le fit.2)
fits_after T C more n bound e (frame.Notes last section ∷ fs) le fit = (is_on_grows C more last section fit.0, tt, fits_after T C more n bound e fs le fit.2)
fits_after T C more n bound e (frame.ExternalNotes ∷ fs) le fit = (tt, tt, fits_after T C more n bound e fs le fit.2)
fits_after T C more n bound e (frame.Descriptor number role ∷ fs) le fit =
    let below = fit.1 in
    (still_pending T n number e (omega arith) fit.0, fit.1, fits_after T C more n number e fs (omega arith) fit.2)

length_set : (T : List TableEntry) (n : ℕ) (x : TableEntry) → length (slice_set T n x) ≡ length T
length_set [] n x = refl
length_set (e ∷ T) zero x = refl
length_set (e ∷ T) (suc n) x = ap (λ n. suc n) (length_set T n x)

within : (T : List TableEntry) (k : ℕ) → IsTrue (is_pending (slice_get T k)) → k < length T
within [] k h = absurd (cc)
within (e ∷ T) zero h = omega arith
within (e ∷ T) (suc k) h = let l = within T k h in omega arith

pub fits_closed : (T U : List TableEntry) (C D : List (List Layer)) (frames now : List Frame) (number : ℕ) (role : Role) (e : TableEntry) (chain : List Layer)
    → AllFit T C frames → frames ≡ frame.Descriptor number role ∷ tail_of frames → now ≡ tail_of frames → U ≡ slice_set T number e → D ≡ C ++ (chain ∷ []) → AllFit U D now
fits_closed T U C D frames now number role e chain fit top en eu ed =
    let all : FramesFit T C (length T) (frame.Descriptor number role ∷ tail_of frames) = subst (FramesFit T C (length T)) top fit.all in
    let low = within T number all.0 in
    let size = length_set T number e in
    let after = fits_after T C (chain ∷ []) number number e (tail_of frames) (omega arith) all.2 in
    rw en (rw eu (rw ed (record { all = fits_lower (slice_set T number e) (C ++ (chain ∷ [])) number (length (slice_set T number e)) (tail_of frames) (omega arith) after })))

pub is_open : (T : List TableEntry) (C : List (List Layer)) (frames : List Frame) (number : ℕ) (role : Role)
    → AllFit T C frames → frames ≡ frame.Descriptor number role ∷ tail_of frames → IsTrue (is_pending (slice_get T number))
is_open T C frames number role fit top =
    let all : FramesFit T C (length T) (frame.Descriptor number role ∷ tail_of frames) = subst (FramesFit T C (length T)) top fit.all in all.0

pub closes : (old mid new : Seen) (parent : Option ℕ) (number : ℕ) (role : Role) → PopsLayer old mid → old.frames ≡ frame.Descriptor number role ∷ tail_of old.frames
    → new.table.entries ≡ slice_set mid.table.entries number (closed_under mid.table.entries parent (head_layer old.layers))
    → new.table.chains ≡ mid.table.chains ++ ((parent_chain mid.table.entries parent ++ (head_layer old.layers ∷ [])) ∷ [])
    → new.table.max ≡ mid.table.max → new.frames ≡ tail_of mid.frames → new.layers ≡ mid.layers → new.refs ≡ mid.refs → new.meter ≡ mid.meter
    → Closes parent old new
closes old mid new parent number role p top ee ec ex ef ey er em =
    let n : number ≡ top_number old.frames = sym (ap top_number top) in
    record {
      entries = ee ∙ ap (λ T. slice_set T.entries number (closed_under T.entries parent (head_layer old.layers))) p.table
          ∙ ap (λ k. slice_set old.table.entries k (closed_under old.table.entries parent (head_layer old.layers))) n;
      chains = ec ∙ ap (λ T. T.chains ++ ((parent_chain T.entries parent ++ (head_layer old.layers ∷ [])) ∷ [])) p.table;
      max = ex ∙ ap (λ T. T.max) p.table;
      frames = ef ∙ ap tail_of p.frames;
      layers = ey ∙ p.layers;
      refs = er ∙ p.refs;
      meter = em ∙ p.meter;
    }

-- what the frames stand for does not change

goals_of_one : (C : List (List Layer)) (fs : List Frame) → stack_goals C (no_layer ∷ []) fs ≡ stack_goals C [] fs
goals_of_one C [] = refl
goals_of_one C (frame.Elements left ∷ fs) = ap (with_frame C [] (frame.Elements left) (suc (length fs)) (chain_owner fs)) (goals_of_one C fs)
goals_of_one C (frame.Fields last section pos prims values ∷ fs) = ap (with_frame C [] (frame.Fields last section pos prims values) (suc (length fs)) (chain_owner fs)) (goals_of_one C fs)
goals_of_one C (frame.Notes last section ∷ fs) = ap (with_frame C [] (frame.Notes last section) (suc (length fs)) (chain_owner fs)) (goals_of_one C fs)
goals_of_one C (frame.ExternalNotes ∷ fs) = ap (with_frame C [] frame.ExternalNotes (suc (length fs)) (chain_owner fs)) (goals_of_one C fs)
goals_of_one C (frame.Descriptor number role ∷ fs) = refl

pub goals_of_rest : (C : List (List Layer)) (L : List Layer) (fs : List Frame) → stack_goals C (rest_layers L) fs ≡ stack_goals C (tail_layers L) fs
goals_of_rest C [] fs = goals_of_one C fs
goals_of_rest C (l ∷ []) fs = goals_of_one C fs
goals_of_rest C (l ∷ m ∷ ls) fs = refl

pub goals_grow : (T : List TableEntry) (C more : List (List Layer)) (L : List Layer) (bound : ℕ) (fs : List Frame) → FramesFit T C bound fs → stack_goals (C ++ more) L fs ≡ stack_goals C L fs
goals_grow T C more L bound [] fit = refl
goals_grow T C more L bound (frame.Elements left ∷ fs) fit =
    ap (with_frame C L (frame.Elements left) (suc (length fs)) (chain_owner fs)) (goals_grow T C more L bound fs fit.2)
goals_grow T C more L bound (frame.Fields last section pos prims values ∷ fs) fit =
    let on = fit.0.0 in
    let F : Layer → List Layer → StackGoals → StackGoals = λ l below outer. alone (parts_goal (suc (length fs)) (rest_of_section pos values l below) ∷ outer.inside) in
    ap (λ l. F l (under (C ++ more) last section) (stack_goals (C ++ more) L fs)) (layer_of_grows C more section on.section_in)
    ∙ ap (λ ls. F (layer_of C section) ls (stack_goals (C ++ more) L fs)) (under_grows C more last section on.last_in on.section_in)
    ∙ ap (F (layer_of C section) (under C last section)) (goals_grow T C more L bound fs fit.2)
goals_grow T C more L bound (frame.Notes last section ∷ fs) fit =
    let on = fit.0 in
    let F : List Layer → StackGoals → StackGoals = λ below outer. alone (annotation_goal (suc (length fs)) ∷ parts_goal (suc (length fs)) (section_parts below) ∷ outer.inside) in
    ap (λ ls. F ls (stack_goals (C ++ more) L fs)) (under_grows C more last section on.last_in on.section_in)
    ∙ ap (F (under C last section)) (goals_grow T C more L bound fs fit.2)
goals_grow T C more L bound (frame.ExternalNotes ∷ fs) fit =
    ap (with_frame C L frame.ExternalNotes (suc (length fs)) (chain_owner fs)) (goals_grow T C more L bound fs fit.2)
goals_grow T C more L bound (frame.Descriptor number role ∷ fs) fit =
    ap (with_frame C L (frame.Descriptor number role) (suc (length fs)) (chain_owner fs)) (goals_grow T C more (tail_layers L) number fs fit.2)
