-- Steps that need no token, by the frame on top.
use Rattle.std.proofs.Common.{◌≡◌, ℕ, suc, ◌+◌, Bool, true, false, List, [], ◌∷◌, ◌++◌, length, slice_set, zero, Option, Some, None, refl, ap, sym, ◌∙◌, subst, arith}
use Rattle.jser_shown.specs.Words.{Epoch}
use Rattle.jser_shown.specs.Known.{NamedField, NamedLayer, Known, known_class, classes_at, own_class_of, is_external_class, is_external_chain, elements_in, elements_of_chain}
use Rattle.jser_grammar.specs.Codes.{PrimCode}
use Rattle.jser_shown.specs.Shown.{field_named}
use Rattle.jser_shown.specs.Owners.{OwnerNode}
use Rattle.jser_shown.specs.Cues.{SectionPart, data_part, raw_part, value_part, note_part, note_cue, parts_cue, Teller, teller, object_parts}
use Rattle.jser_printer.specs.declared.frame.Frame.{Frame}
use Rattle.jser_printer.specs.declared.frame.Frame.TheVariants as frame
use Rattle.jser_printer.specs.declared.frame.Stage.{Stage}
use Rattle.jser_printer.specs.declared.frame.Stage.TheVariants as stage
use Rattle.jser_printer.specs.Steps.{Due, section_due, external_due, quiet_due, layer_name, due, due_at, due_end, due_in, due_part, due_says, pass_part, pass_at, pass_in}
use Rattle.jser_printer.specs.DueWords.{section_words}
use Rattle.jser_printer.specs.Says.{Says}
use Rattle.jser_prim.specs.Outgoing.{Outgoing, SinkState}
use Rattle.std.specs.Prelude.{codes}
use Rattle.jser_printer.proofs.SaysLemmas.{says_nothing}
use Rattle.jser_printer.specs.Phases.{in_phase}
use Rattle.jser_printer.specs.declared.phase.Head.{Head}
use Rattle.jser_printer.specs.declared.phase.Over.{Over}
use Rattle.jser_printer.specs.declared.phase.Phase.{Phase}
use Rattle.jser_printer.specs.declared.phase.Phase.TheVariants as phase
use Rattle.jser_printer.specs.Tables.{NamesView, layer_in, layers_in, IsChainOf}
use Rattle.jser_printer.specs.declared.frame.Sections.{Sections}
use Rattle.jser_printer.specs.Frames.{parts_of, go_on, cue_of, cues_of, tail_of, FramesFit, BeginsSection}
use Rattle.jser_printer.proofs.FrameLemmas.{cues_more_chains, fit_more_chains, tail_fits}

-- the frame of an object's sections

sections_are : (chain : List NamedLayer) (b : Bool) → is_external_class (own_class_of chain) ≡ b → object_parts (is_external_chain chain) chain ≡ object_parts b chain
sections_are chain b is = ap (λ t. object_parts t chain) is

pub external_sections : (table : NamesView) (level number chain : ℕ) (own : NamedLayer) (b : Bool) → IsChainOf table number (Some chain) → own_class_of (layers_in table.chains chain) ≡ own → b ≡ is_external_class own → b ≡ true → cue_of table.layers table.chains (frame.External level chain) ≡ parts_cue level (object_parts (is_external_chain (classes_at table.known number)) (classes_at table.known number))
external_sections table level number chain own b is owns external holds =
    let test : is_external_class (own_class_of (layers_in table.chains chain)) ≡ true = ap is_external_class owns ∙ sym external ∙ holds in
    sym (ap (λ c. parts_cue level (object_parts (is_external_chain c) c)) is.1 ∙ ap (parts_cue level) (sections_are (layers_in table.chains chain) true test))

pub serial_sections : (table : NamesView) (level number chain : ℕ) (own : NamedLayer) (b : Bool) → IsChainOf table number (Some chain) → own_class_of (layers_in table.chains chain) ≡ own → b ≡ is_external_class own → b ≡ false → cue_of table.layers table.chains (frame.Sections (record { level = level; chain = chain; index = 0; stage = stage.Start })) ≡ parts_cue level (object_parts (is_external_chain (classes_at table.known number)) (classes_at table.known number))
serial_sections table level number chain own b is owns external fails =
    let test : is_external_class (own_class_of (layers_in table.chains chain)) ≡ false = ap is_external_class owns ∙ sym external ∙ fails in
    sym (ap (λ c. parts_cue level (object_parts (is_external_chain c) c)) is.1 ∙ ap (parts_cue level) (sections_are (layers_in table.chains chain) false test))

pub no_sections : (table : NamesView) (level number : ℕ) → IsChainOf table number None → cue_of table.layers table.chains (frame.End level) ≡ parts_cue level (object_parts (is_external_chain (classes_at table.known number)) (classes_at table.known number))
no_sections table level number is = sym (ap (λ c. parts_cue level (object_parts (is_external_chain c) c)) is)

-- the elements of an array

pub elements_known : (table : NamesView) (number chain : ℕ) (own : NamedLayer) (elements : Option PrimCode) → IsChainOf table number (Some chain) → own_class_of (layers_in table.chains chain) ≡ own → elements ≡ elements_in own → elements ≡ elements_of_chain (classes_at table.known number)
elements_known table number chain own elements is owns told = told ∙ ap elements_in (sym owns) ∙ sym (ap elements_of_chain is.1)

pub no_elements : (table : NamesView) (number : ℕ) → IsChainOf table number None → None ≡ elements_of_chain (classes_at table.known number)
no_elements table number is = sym (ap elements_of_chain is)

-- a step by the frame on top

pub pass_first : (layers : List NamedLayer) (chains : List (List NamedLayer)) (frames : List Frame) (f : Frame) (e : Epoch) (known : Known) (os : List OwnerNode) → frames ≡ f ∷ tail_of frames → pass_in (cues_of layers chains frames) e known os ≡ pass_at (cue_of layers chains f) e known os (cues_of layers chains (tail_of frames))
pass_first layers chains frames f e known os is = ap (λ fs. pass_in (cues_of layers chains fs) e known os) is

pub part_first : (layers : List NamedLayer) (chains : List (List NamedLayer)) (frames : List Frame) (at : Sections) (parts : List SectionPart) (e : Epoch) (known : Known) (os : List OwnerNode) → frames ≡ frame.Sections at ∷ tail_of frames → parts_of chains at ≡ parts → pass_in (cues_of layers chains frames) e known os ≡ pass_part at.level parts e known os (cues_of layers chains (tail_of frames))
part_first layers chains frames at parts e known os top is =
    pass_first layers chains frames (frame.Sections at) e known os top
    ∙ ap (λ ps. pass_part at.level ps e known os (cues_of layers chains (tail_of frames))) is

pub section_passed : (layers : List NamedLayer) (chains : List (List NamedLayer)) (old new : List Frame) (at : Sections) (index : ℕ) (s : Stage) (name : Option (List ℕ)) (e : Epoch) (known : Known) (os : List OwnerNode) → old ≡ frame.Sections at ∷ tail_of old → new ≡ frame.Sections (go_on at index s) ∷ tail_of old → BeginsSection (parts_of chains at) name (parts_of chains (go_on at index s)) → teller e known os (cues_of layers chains new) ≡ pass_in (cues_of layers chains old) e known os
section_passed layers chains old new at index s name e known os top put begins =
    ap (λ fs. teller e known os (cues_of layers chains fs)) put
    ∙ sym (part_first layers chains old at _ e known os top begins.parts_are)

pub notes_passed : (layers : List NamedLayer) (chains : List (List NamedLayer)) (old mid new : List Frame) (at : Sections) (inner index : ℕ) (s : Stage) (e : Epoch) (known : Known) (os : List OwnerNode) → old ≡ frame.Sections at ∷ tail_of old → mid ≡ frame.Sections (go_on at index s) ∷ tail_of old → new ≡ frame.Notes inner ∷ mid → inner ≡ at.level + 1 → parts_of chains at ≡ note_part ∷ parts_of chains (go_on at index s) → teller e known os (cues_of layers chains new) ≡ pass_in (cues_of layers chains old) e known os
notes_passed layers chains old mid new at inner index s e known os top put pushed deep is =
    let deep' : inner ≡ suc at.level = omega arith in
    ap (λ fs. teller e known os (cues_of layers chains fs)) (pushed ∙ ap (λ fs. frame.Notes inner ∷ fs) put)
    ∙ ap (λ n. teller e known os (note_cue n ∷ parts_cue at.level (parts_of chains (go_on at index s)) ∷ cues_of layers chains (tail_of old))) deep'
    ∙ sym (part_first layers chains old at _ e known os top is)

pub sections_passed : (layers : List NamedLayer) (chains : List (List NamedLayer)) (old new : List Frame) (at : Sections) (e : Epoch) (known : Known) (os : List OwnerNode) → old ≡ frame.Sections at ∷ tail_of old → new ≡ tail_of old → parts_of chains at ≡ [] → teller e known os (cues_of layers chains new) ≡ pass_in (cues_of layers chains old) e known os
sections_passed layers chains old new at e known os top put is =
    ap (λ fs. teller e known os (cues_of layers chains fs)) put
    ∙ sym (part_first layers chains old at [] e known os top is)

-- what is due by the frame on top

pub due_first : (layers : List NamedLayer) (chains : List (List NamedLayer)) (frames : List Frame) (f : Frame) → frames ≡ f ∷ tail_of frames → due_in (cues_of layers chains frames) ≡ due_at (cue_of layers chains f)
due_first layers chains frames f is = ap (λ fs. due_in (cues_of layers chains fs)) is

part_due : (layers : List NamedLayer) (chains : List (List NamedLayer)) (frames : List Frame) (at : Sections) (parts : List SectionPart) → frames ≡ frame.Sections at ∷ tail_of frames → parts_of chains at ≡ parts → due_in (cues_of layers chains frames) ≡ due_part at.level parts
part_due layers chains frames at parts top is =
    due_first layers chains frames (frame.Sections at) top ∙ ap (due_part at.level) is

pub section_is_due : (layers : List NamedLayer) (chains : List (List NamedLayer)) (frames : List Frame) (at : Sections) (name : Option (List ℕ)) (others : List SectionPart) → frames ≡ frame.Sections at ∷ tail_of frames → BeginsSection (parts_of chains at) name others → due_in (cues_of layers chains frames) ≡ Some (section_due at.level name)
section_is_due layers chains frames at name others top begins =
    part_due layers chains frames at (data_part begins.layer ∷ others) top begins.parts_are
    ∙ ap (λ n. Some (section_due at.level n)) begins.name_is

pub notes_due : (layers : List NamedLayer) (chains : List (List NamedLayer)) (frames : List Frame) (at : Sections) (others : List SectionPart) → frames ≡ frame.Sections at ∷ tail_of frames → parts_of chains at ≡ note_part ∷ others → due_in (cues_of layers chains frames) ≡ Some quiet_due
notes_due layers chains frames at others top is = part_due layers chains frames at (note_part ∷ others) top is

pub end_due : (layers : List NamedLayer) (chains : List (List NamedLayer)) (frames : List Frame) (at : Sections) → frames ≡ frame.Sections at ∷ tail_of frames → parts_of chains at ≡ [] → due_in (cues_of layers chains frames) ≡ Some quiet_due
end_due layers chains frames at top is = part_due layers chains frames at [] top is

pub raw_waits : (layers : List NamedLayer) (chains : List (List NamedLayer)) (frames : List Frame) (at : Sections) (f : NamedField) (others : List SectionPart) → frames ≡ frame.Sections at ∷ tail_of frames → parts_of chains at ≡ raw_part f ∷ others → due_in (cues_of layers chains frames) ≡ None
raw_waits layers chains frames at f others top is = part_due layers chains frames at (raw_part f ∷ others) top is

pub value_waits : (layers : List NamedLayer) (chains : List (List NamedLayer)) (frames : List Frame) (at : Sections) (name : List ℕ) (others : List SectionPart) → frames ≡ frame.Sections at ∷ tail_of frames → parts_of chains at ≡ value_part (field_named name) ∷ others → due_in (cues_of layers chains frames) ≡ None
value_waits layers chains frames at name others top is = part_due layers chains frames at (value_part (field_named name) ∷ others) top is

-- what is said of it

pub due_said : (a b : Outgoing) (d e : SinkState) (due : Option Due) (due' : Option Due) → due ≡ due' → Says a b d e (λ k. due_says due' k) → Says a b d e (λ k. due_says due k)
due_said a b d e due due' is h = subst (λ x. Says a b d e (λ k. due_says x k)) (sym is) h

pub none_said : (a : Outgoing) (d : SinkState) (due : Option Due) → due ≡ None → Says a a d d (λ k. due_says due k)
none_said a d due is = says_nothing a d (λ k. due_says due k) (λ k. ap (λ x. due_says x k) is)

pub end_quiet : (left : ℕ) (k : List ℕ) → due_says (due_end left) k ≡ k
end_quiet zero k = refl
end_quiet (suc n) k = refl

-- nothing is said at this frame
pub quiet_frame : (a : Outgoing) (d : SinkState) (s : Teller) (e : Epoch) (known : Known) (os : List OwnerNode) (layers : List NamedLayer) (chains : List (List NamedLayer)) (frames : List Frame) (f f' : Frame) → teller e known os (cues_of layers chains frames) ≡ s → frames ≡ f ∷ tail_of frames → f ≡ f' → ((k : List ℕ) → due_says (due_at (cue_of layers chains f')) k ≡ k) → Says a a d d (λ k. due_says (due s) k)
quiet_frame a d s e known os layers chains frames f f' here top is quiet =
    says_nothing a d (λ k. due_says (due s) k)
    (λ k. ap (λ t. due_says (due t) k) (sym here) ∙ ap (λ x. due_says x k) (due_first layers chains frames f top)
    ∙ ap (λ x. due_says (due_at (cue_of layers chains x)) k) is ∙ quiet k)

-- nothing is said at this part
pub quiet_part : (a : Outgoing) (d : SinkState) (layers : List NamedLayer) (chains : List (List NamedLayer)) (frames : List Frame) (at : Sections) (parts : List SectionPart) → frames ≡ frame.Sections at ∷ tail_of frames → parts_of chains at ≡ parts → ((k : List ℕ) → due_says (due_part at.level parts) k ≡ k) → Says a a d d (λ k. due_says (due_in (cues_of layers chains frames)) k)
quiet_part a d layers chains frames at parts top is quiet =
    says_nothing a d (λ k. due_says (due_in (cues_of layers chains frames)) k)
    (λ k. ap (λ x. due_says x k) (part_due layers chains frames at parts top is) ∙ quiet k)

-- nothing is said in this phase
pub quiet_phase : (a : Outgoing) (d : SinkState) (s : Teller) (p p' : Phase) (name : List ℕ) (done : List NamedField) (standing : Teller) → in_phase p name done standing ≡ s → p ≡ p' → ((k : List ℕ) → due_says (due (in_phase p' name done standing)) k ≡ k) → Says a a d d (λ k. due_says (due s) k)
quiet_phase a d s p p' name done standing here is quiet =
    says_nothing a d (λ k. due_says (due s) k)
    (λ k. ap (λ t. due_says (due t) k) (sym here) ∙ ap (λ x. due_says (due (in_phase x name done standing)) k) is ∙ quiet k)

pub none_in_phase : (p : Phase) (name : List ℕ) (done : List NamedField) (standing : Teller) → (p ≡ phase.Frames → ⊥)
    → ((head : Head) (flags left : ℕ) (over : Over) → p ≡ phase.Fields head flags left over → ⊥)
    → ((head : Head) (left : ℕ) → p ≡ phase.Interfaces head left → ⊥) → due (in_phase p name done standing) ≡ None
none_in_phase phase.Frames name done standing a b c = absurd (a refl)
none_in_phase (phase.Fields head flags left over) name done standing a b c = absurd (b head flags left over refl)
none_in_phase (phase.Interfaces head left) name done standing a b c = absurd (c head left refl)
none_in_phase p name done standing a b c = refl

pub section_said : (a b : Outgoing) (d e : SinkState) (due : Option Due) (level : ℕ) (name : Option (List ℕ)) → due ≡ Some (section_due level name) → Says a b d e (λ k. section_words level (codes "data ") name k) → Says a b d e (λ k. due_says due k)
section_said a b d e due level name is h = due_said a b d e due (Some (section_due level name)) is h

-- a class that ends has one chain more

pub close_fits : (layers same : List NamedLayer) (old new : List (List NamedLayer)) (c : List NamedLayer) (frames popped : List Frame) → FramesFit (length layers) (length old) frames → same ≡ layers → new ≡ old ++ c ∷ [] → popped ≡ tail_of frames → FramesFit (length same) (length new) popped
close_fits layers same old new c frames popped fits unchanged added put =
    let all : FramesFit (length layers) (length new) (tail_of frames) =
    fit_more_chains layers old new c (tail_of frames) (tail_fits (length layers) (length old) frames fits) added
    in
    subst (λ fs. FramesFit (length same) (length new) fs) (sym put)
    (subst (λ (ls : List NamedLayer). FramesFit (length ls) (length new) (tail_of frames)) (sym unchanged) all)

pub close_cues : (layers same : List NamedLayer) (old new : List (List NamedLayer)) (c : List NamedLayer) (frames popped : List Frame) → FramesFit (length layers) (length old) frames → same ≡ layers → new ≡ old ++ c ∷ [] → popped ≡ tail_of frames → cues_of same new popped ≡ cues_of layers old (tail_of frames)
close_cues layers same old new c frames popped fits unchanged added put =
    ap (λ fs. cues_of same new fs) put ∙ ap (λ ls. cues_of ls new (tail_of frames)) unchanged
    ∙ ap (λ cs. cues_of layers cs (tail_of frames)) added
    ∙ cues_more_chains layers old c (tail_of frames) (tail_fits (length layers) (length old) frames fits)

pub close_passed : (layers same : List NamedLayer) (old new : List (List NamedLayer)) (c : List NamedLayer) (frames popped : List Frame) (number parent layer : ℕ) (e : Epoch) (known known' : Known) (os : List OwnerNode) → FramesFit (length layers) (length old) frames → same ≡ layers → new ≡ old ++ c ∷ [] → popped ≡ tail_of frames → frames ≡ frame.Close number parent layer ∷ tail_of frames → known' ≡ slice_set known number (known_class (classes_at known parent ++ layer_in layers layer ∷ [])) → teller e known' os (cues_of same new popped) ≡ pass_in (cues_of layers old frames) e known os
close_passed layers same old new c frames popped number parent layer e known known' os fits unchanged added put top is =
    ap (λ cues. teller e known' os cues) (close_cues layers same old new c frames popped fits unchanged added put)
    ∙ ap (λ k. teller e k os (cues_of layers old (tail_of frames))) is
    ∙ sym (pass_first layers old frames (frame.Close number parent layer) e known os top)

pub external_said : (a b : Outgoing) (d e : SinkState) (layers : List NamedLayer) (chains : List (List NamedLayer)) (frames : List Frame) (level chain : ℕ) (name : Option (List ℕ)) → frames ≡ frame.External level chain ∷ tail_of frames → name ≡ layer_name (own_class_of (layers_in chains chain)) → Says a b d e (λ k. section_words level (codes "external ") name k) → Says a b d e (λ k. due_says (due_in (cues_of layers chains frames)) k)
external_said a b d e layers chains frames level chain name top is h =
    due_said a b d e (due_in (cues_of layers chains frames)) (Some (external_due level name))
    (due_first layers chains frames (frame.External level chain) top ∙ ap (λ n. Some (external_due level n)) (sym is)) h
