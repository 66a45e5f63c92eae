-- Tokens by the frame on top.
use Rattle.std.proofs.Common.{◌≡◌, ℕ, suc, List, [], ◌∷◌, ◌++◌, length, slice_set, Option, Some, None, refl, ap, sym, subst, ◌∙◌, arith}
use Rattle.jser_reading.specs.Labels.{Tag, null_tag}
use Rattle.jser_shown.specs.Words.{Epoch}
use Rattle.jser_shown.specs.Known.{NamedField, NamedLayer, Known, known_class}
use Rattle.jser_grammar.specs.Codes.{PrimCode, prim_code_of}
use Rattle.jser_shown.specs.Shown.{field_named}
use Rattle.jser_shown.specs.Owners.{OwnerNode}
use Rattle.jser_shown.specs.Cues.{SectionPart, data_part, raw_part, value_part, note_part, top_cue, note_cue, elements_cue, parts_cue, Cue, teller}
use Rattle.jser_shown.specs.Telling.{SeenToken, seen_tag, seen_bytes, begin, goes_at, goes_in, parts_goes, raw_line}
use Rattle.jser_printer.specs.declared.frame.Frame.{Frame}
use Rattle.jser_printer.specs.declared.frame.Frame.TheVariants as frame
use Rattle.jser_printer.specs.declared.frame.Stage.{Stage}
use Rattle.jser_prim.specs.Outgoing.{Outgoing, SinkState}
use Rattle.std.proofs.Common.{Bor}
use Rattle.jser_printer.specs.Seen.{view_seen}
use Rattle.jser_printer.specs.declared.seen.Seen.{Seen}
use Rattle.jser_printer.specs.declared.seen.Seen.TheVariants as seen
use Rattle.jser_printer.specs.declared.seen.Tag.{Tag as DeclaredTag}
use Rattle.jser_shown.specs.Shown.{ValueName, name_text}
use Rattle.jser_shown.specs.Words.{begin_line}
use Rattle.jser_printer.specs.TokenWords.{cue_words, token_words}
use Rattle.jser_printer.specs.TagWords.{tag_words}
use Rattle.jser_printer.specs.Says.{Says}
use Rattle.jser_printer.specs.declared.words.tag.Marks.{Marks}
use Rattle.jser_printer.specs.Tables.{layer_in}
use Rattle.jser_printer.specs.declared.frame.Sections.{Sections}
use Rattle.jser_printer.specs.declared.frame.SuperPlace.{SuperPlace}
use Rattle.jser_printer.specs.Frames.{parts_of, go_on, cue_of, cues_of, others_of, tail_of, FramesFit, BeginsSection, TakesPart}
use Rattle.jser_printer.proofs.PassLemmas.{close_cues}
use Rattle.jser_printer.proofs.SaysLemmas.{says_nothing}

pub goes_first : (layers : List NamedLayer) (chains : List (List NamedLayer)) (frames : List Frame) (f : Frame) (e : Epoch) (known : Known) (os : List OwnerNode) (token : SeenToken) → frames ≡ f ∷ tail_of frames → goes_in e known os (cues_of layers chains frames) token ≡ goes_at e known os (cue_of layers chains f) (cues_of layers chains (tail_of frames)) token
goes_first layers chains frames f e known os token is = ap (λ fs. goes_in e known os (cues_of layers chains fs) token) is

-- what stands below a cue that is not the top of the stream

pub popped_note : (layers : List NamedLayer) (chains : List (List NamedLayer)) (frames : List Frame) (L : ℕ) (cues : List Cue) → cues_of layers chains frames ≡ note_cue L ∷ cues → cues_of layers chains (tail_of frames) ≡ cues
popped_note layers chains [] L cues is = absurd cc
popped_note layers chains (f ∷ frames) L cues is = ap others_of is

pub popped_elements : (layers : List NamedLayer) (chains : List (List NamedLayer)) (frames : List Frame) (L : ℕ) (c : Option PrimCode) (i left : ℕ) (cues : List Cue) → cues_of layers chains frames ≡ elements_cue L c i left ∷ cues → cues_of layers chains (tail_of frames) ≡ cues
popped_elements layers chains [] L c i left cues is = absurd cc
popped_elements layers chains (f ∷ frames) L c i left cues is = ap others_of is

-- nothing stands over the top of the stream
pub no_frames : (layers : List NamedLayer) (chains : List (List NamedLayer)) (frames : List Frame) → cues_of layers chains frames ≡ top_cue ∷ [] → frames ≡ []
no_frames layers chains [] is = refl
no_frames layers chains (f ∷ []) is = absurd (omega (arith, ap length is))
no_frames layers chains (f ∷ g ∷ frames) is = absurd (omega (arith, ap length is))

pub at_top : (layers : List NamedLayer) (chains : List (List NamedLayer)) (frames : List Frame) → frames ≡ [] → cues_of layers chains frames ≡ top_cue ∷ []
at_top layers chains frames none = ap (cues_of layers chains) none

-- a content of the stream is waited for there

-- at the sections of an object

part_goes : (layers : List NamedLayer) (chains : List (List NamedLayer)) (frames : List Frame) (at : Sections) (parts : List SectionPart) (e : Epoch) (known : Known) (os : List OwnerNode) (token : SeenToken) → frames ≡ frame.Sections at ∷ tail_of frames → parts_of chains at ≡ parts → goes_in e known os (cues_of layers chains frames) token ≡ parts_goes e known os (cues_of layers chains (tail_of frames)) at.level parts token
part_goes layers chains frames at parts e known os token top is =
    goes_first layers chains frames (frame.Sections at) e known os token top
    ∙ ap (λ ps. parts_goes e known os (cues_of layers chains (tail_of frames)) at.level ps token) is

same_frames : (layers : List NamedLayer) (chains : List (List NamedLayer)) (frames : List Frame) (at : Sections) (parts : List SectionPart) (e : Epoch) (known : Known) (os : List OwnerNode) → frames ≡ frame.Sections at ∷ tail_of frames → parts_of chains at ≡ parts → teller e known os (cues_of layers chains frames) ≡ teller e known os (parts_cue at.level parts ∷ cues_of layers chains (tail_of frames))
same_frames layers chains frames at parts e known os top is =
    ap (λ fs. teller e known os (cues_of layers chains fs)) top
    ∙ ap (λ ps. teller e known os (parts_cue at.level ps ∷ cues_of layers chains (tail_of frames))) is

-- the token is not this part's
left_there : (layers : List NamedLayer) (chains : List (List NamedLayer)) (frames : List Frame) (at : Sections) (parts : List SectionPart) (token : SeenToken) → frames ≡ frame.Sections at ∷ tail_of frames → parts_of chains at ≡ parts → ((e : Epoch) (known : Known) (os : List OwnerNode) (cues : List Cue) → parts_goes e known os cues at.level parts token ≡ teller e known os (parts_cue at.level parts ∷ cues)) → TakesPart layers chains at.level frames frames token None
left_there layers chains frames at parts token top is stays = λ e known os.
    part_goes layers chains frames at parts e known os token top is
    ∙ stays e known os (cues_of layers chains (tail_of frames))
    ∙ sym (same_frames layers chains frames at parts e known os top is)

pub section_left : (layers : List NamedLayer) (chains : List (List NamedLayer)) (frames : List Frame) (at : Sections) (name : Option (List ℕ)) (others : List SectionPart) (token : SeenToken) → frames ≡ frame.Sections at ∷ tail_of frames → BeginsSection (parts_of chains at) name others → TakesPart layers chains at.level frames frames token None
section_left layers chains frames at name others token top begins =
    left_there layers chains frames at (data_part begins.layer ∷ others) token top begins.parts_are (λ e known os cues. refl)

pub notes_left : (layers : List NamedLayer) (chains : List (List NamedLayer)) (frames : List Frame) (at : Sections) (others : List SectionPart) (token : SeenToken) → frames ≡ frame.Sections at ∷ tail_of frames → parts_of chains at ≡ note_part ∷ others → TakesPart layers chains at.level frames frames token None
notes_left layers chains frames at others token top is =
    left_there layers chains frames at (note_part ∷ others) token top is (λ e known os cues. refl)

pub end_left : (layers : List NamedLayer) (chains : List (List NamedLayer)) (frames : List Frame) (at : Sections) (token : SeenToken) → frames ≡ frame.Sections at ∷ tail_of frames → parts_of chains at ≡ [] → TakesPart layers chains at.level frames frames token None
end_left layers chains frames at token top is =
    left_there layers chains frames at [] token top is (λ e known os cues. refl)

-- the token is this part's

pub raw_taken : (layers : List NamedLayer) (chains : List (List NamedLayer)) (old new : List Frame) (at : Sections) (index : ℕ) (s : Stage) (f : NamedField) (bytes : List ℕ) → old ≡ frame.Sections at ∷ tail_of old → new ≡ frame.Sections (go_on at index s) ∷ tail_of old → parts_of chains at ≡ raw_part f ∷ parts_of chains (go_on at index s) → TakesPart layers chains at.level old new (seen_bytes bytes) None
raw_taken layers chains old new at index s name bytes top put is = λ e known os.
    part_goes layers chains old at _ e known os (seen_bytes bytes) top is
    ∙ sym (ap (λ fs. teller e known os (cues_of layers chains fs)) put)

pub value_taken : (layers : List NamedLayer) (chains : List (List NamedLayer)) (old new : List Frame) (at : Sections) (index : ℕ) (s : Stage) (name : List ℕ) (tag : Tag) → old ≡ frame.Sections at ∷ tail_of old → new ≡ frame.Sections (go_on at index s) ∷ tail_of old → parts_of chains at ≡ value_part (field_named name) ∷ parts_of chains (go_on at index s) → TakesPart layers chains at.level old new (seen_tag tag) (Some tag)
value_taken layers chains old new at index s name tag top put is = λ e known os.
    part_goes layers chains old at _ e known os (seen_tag tag) top is
    ∙ sym (ap (λ fs. begin e (suc at.level) known os tag (cues_of layers chains fs)) put)

-- what is said of a token by the frame on top

pub says_first : (a b : Outgoing) (d e : SinkState) (marks : Marks) (layers : List NamedLayer) (chains : List (List NamedLayer)) (frames : List Frame) (f : Frame) (token : SeenToken) → frames ≡ f ∷ tail_of frames → Says a b d e (λ k. cue_words marks (cue_of layers chains f) token k) → Says a b d e (λ k. token_words marks (cues_of layers chains frames) token k)
says_first a b d e marks layers chains frames f token top h =
    subst (λ fs. Says a b d e (λ k. token_words marks (cues_of layers chains fs) token k)) (sym top) h

pub says_last : (a b : Outgoing) (d e : SinkState) (marks : Marks) (layers : List NamedLayer) (chains : List (List NamedLayer)) (frames : List Frame) (token : SeenToken) → frames ≡ [] → Says a b d e (λ k. cue_words marks top_cue token k) → Says a b d e (λ k. token_words marks (cues_of layers chains frames) token k)
says_last a b d e marks layers chains frames token none h =
    subst (λ fs. Says a b d e (λ k. token_words marks (cues_of layers chains fs) token k)) (sym none) h

part_says : (a b : Outgoing) (d e : SinkState) (marks : Marks) (layers : List NamedLayer) (chains : List (List NamedLayer)) (frames : List Frame) (at : Sections) (parts : List SectionPart) (token : SeenToken) → frames ≡ frame.Sections at ∷ tail_of frames → parts_of chains at ≡ parts → Says a b d e (λ k. cue_words marks (parts_cue at.level parts) token k) → Says a b d e (λ k. token_words marks (cues_of layers chains frames) token k)
part_says a b d e marks layers chains frames at parts token top is h =
    says_first a b d e marks layers chains frames (frame.Sections at) token top
    (subst (λ ps. Says a b d e (λ k. cue_words marks (parts_cue at.level ps) token k)) (sym is) h)

pub raw_said : (a b : Outgoing) (d e : SinkState) (marks : Marks) (layers : List NamedLayer) (chains : List (List NamedLayer)) (frames : List Frame) (at : Sections) (f : NamedField) (others : List SectionPart) (token : SeenToken) (bytes : List ℕ) → frames ≡ frame.Sections at ∷ tail_of frames → parts_of chains at ≡ raw_part f ∷ others → token ≡ seen_bytes bytes → Says a b d e (λ k. raw_line marks.values (prim_code_of f.code) (suc at.level) (field_named f.name) bytes k) → Says a b d e (λ k. token_words marks (cues_of layers chains frames) token k)
raw_said a b d e marks layers chains frames at f others token bytes top is same h =
    part_says a b d e marks layers chains frames at (raw_part f ∷ others) token top is
    (subst (λ x. Says a b d e (λ k. cue_words marks (parts_cue at.level (raw_part f ∷ others)) x k)) (sym same) h)

pub value_said : (a b : Outgoing) (d e : SinkState) (marks : Marks) (layers : List NamedLayer) (chains : List (List NamedLayer)) (frames : List Frame) (at : Sections) (name : List ℕ) (others : List SectionPart) (token : SeenToken) (tag : Tag) → frames ≡ frame.Sections at ∷ tail_of frames → parts_of chains at ≡ value_part (field_named name) ∷ others → token ≡ seen_tag tag → Says a b d e (λ k. begin_line (suc at.level) (name_text (field_named name) (tag_words marks tag k))) → Says a b d e (λ k. token_words marks (cues_of layers chains frames) token k)
value_said a b d e marks layers chains frames at name others token tag top is same h =
    part_says a b d e marks layers chains frames at (value_part (field_named name) ∷ others) token top is
    (subst (λ f. Says a b d e (λ k. cue_words marks (parts_cue at.level (value_part (field_named name) ∷ others)) f k)) (sym same) h)

-- a token of which this part says nothing
pub part_silent : (a : Outgoing) (d : SinkState) (marks : Marks) (layers : List NamedLayer) (chains : List (List NamedLayer)) (frames : List Frame) (at : Sections) (parts : List SectionPart) (token : SeenToken) → frames ≡ frame.Sections at ∷ tail_of frames → parts_of chains at ≡ parts → ((k : List ℕ) → cue_words marks (parts_cue at.level parts) token k ≡ k) → Says a a d d (λ k. token_words marks (cues_of layers chains frames) token k)
part_silent a d marks layers chains frames at parts token top is same =
    part_says a a d d marks layers chains frames at parts token top is
    (says_nothing a d (λ k. cue_words marks (parts_cue at.level parts) token k) same)

pub section_silent : (a : Outgoing) (d : SinkState) (marks : Marks) (layers : List NamedLayer) (chains : List (List NamedLayer)) (frames : List Frame) (at : Sections) (name : Option (List ℕ)) (others : List SectionPart) (token : SeenToken) → frames ≡ frame.Sections at ∷ tail_of frames → BeginsSection (parts_of chains at) name others → Says a a d d (λ k. token_words marks (cues_of layers chains frames) token k)
section_silent a d marks layers chains frames at name others token top begins =
    part_silent a d marks layers chains frames at (data_part begins.layer ∷ others) token top begins.parts_are (λ k. refl)

pub notes_silent : (a : Outgoing) (d : SinkState) (marks : Marks) (layers : List NamedLayer) (chains : List (List NamedLayer)) (frames : List Frame) (at : Sections) (others : List SectionPart) (token : SeenToken) → frames ≡ frame.Sections at ∷ tail_of frames → parts_of chains at ≡ note_part ∷ others → Says a a d d (λ k. token_words marks (cues_of layers chains frames) token k)
notes_silent a d marks layers chains frames at others token top is =
    part_silent a d marks layers chains frames at (note_part ∷ others) token top is (λ k. refl)

pub end_silent : (a : Outgoing) (d : SinkState) (marks : Marks) (layers : List NamedLayer) (chains : List (List NamedLayer)) (frames : List Frame) (at : Sections) (token : SeenToken) → frames ≡ frame.Sections at ∷ tail_of frames → parts_of chains at ≡ [] → Says a a d d (λ k. token_words marks (cues_of layers chains frames) token k)
end_silent a d marks layers chains frames at token top is =
    part_silent a d marks layers chains frames at [] token top is (λ k. refl)

raw-says_nothing : (marks : Marks) (level : ℕ) (name : NamedField) (parts : List SectionPart) (sight : Seen) (k : List ℕ) → ((x : Bor (List ℕ)) → sight ≡ seen.Bytes x → ⊥) → cue_words marks (parts_cue level (raw_part name ∷ parts)) (view_seen sight) k ≡ k
raw-says_nothing marks level name parts (seen.Bytes x) k other = absurd (other x refl)
raw-says_nothing marks level name parts sight k other = refl

raw-stays : (level : ℕ) (name : NamedField) (parts : List SectionPart) (sight : Seen) → ((x : Bor (List ℕ)) → sight ≡ seen.Bytes x → ⊥) → (e : Epoch) (known : Known) (os : List OwnerNode) (cues : List Cue) → parts_goes e known os cues level (raw_part name ∷ parts) (view_seen sight) ≡ teller e known os (parts_cue level (raw_part name ∷ parts) ∷ cues)
raw-stays level name parts (seen.Bytes x) other e known os cues = absurd (other x refl)
raw-stays level name parts sight other e known os cues = refl

pub raw_silent : (a : Outgoing) (d : SinkState) (marks : Marks) (layers : List NamedLayer) (chains : List (List NamedLayer)) (frames : List Frame) (at : Sections) (name : NamedField) (others : List SectionPart) (sight : Seen) → frames ≡ frame.Sections at ∷ tail_of frames → parts_of chains at ≡ raw_part name ∷ others → ((x : Bor (List ℕ)) → sight ≡ seen.Bytes x → ⊥) → Says a a d d (λ k. token_words marks (cues_of layers chains frames) (view_seen sight) k)
raw_silent a d marks layers chains frames at name others sight top is other =
    part_silent a d marks layers chains frames at (raw_part name ∷ others) (view_seen sight) top is (λ k. raw-says_nothing marks at.level name others sight k other)

pub raw_left : (layers : List NamedLayer) (chains : List (List NamedLayer)) (frames : List Frame) (at : Sections) (name : NamedField) (others : List SectionPart) (sight : Seen) → frames ≡ frame.Sections at ∷ tail_of frames → parts_of chains at ≡ raw_part name ∷ others → ((x : Bor (List ℕ)) → sight ≡ seen.Bytes x → ⊥) → TakesPart layers chains at.level frames frames (view_seen sight) None
raw_left layers chains frames at name others sight top is other =
    left_there layers chains frames at (raw_part name ∷ others) (view_seen sight) top is (raw-stays at.level name others sight other)

value-says_nothing : (marks : Marks) (level : ℕ) (name : ValueName) (parts : List SectionPart) (sight : Seen) (k : List ℕ) → ((x : DeclaredTag) → sight ≡ seen.Tag x → ⊥) → cue_words marks (parts_cue level (value_part name ∷ parts)) (view_seen sight) k ≡ k
value-says_nothing marks level name parts (seen.Tag x) k other = absurd (other x refl)
value-says_nothing marks level name parts sight k other = refl

value-stays : (level : ℕ) (name : ValueName) (parts : List SectionPart) (sight : Seen) → ((x : DeclaredTag) → sight ≡ seen.Tag x → ⊥) → (e : Epoch) (known : Known) (os : List OwnerNode) (cues : List Cue) → parts_goes e known os cues level (value_part name ∷ parts) (view_seen sight) ≡ teller e known os (parts_cue level (value_part name ∷ parts) ∷ cues)
value-stays level name parts (seen.Tag x) other e known os cues = absurd (other x refl)
value-stays level name parts sight other e known os cues = refl

pub value_silent : (a : Outgoing) (d : SinkState) (marks : Marks) (layers : List NamedLayer) (chains : List (List NamedLayer)) (frames : List Frame) (at : Sections) (name : ValueName) (others : List SectionPart) (sight : Seen) → frames ≡ frame.Sections at ∷ tail_of frames → parts_of chains at ≡ value_part name ∷ others → ((x : DeclaredTag) → sight ≡ seen.Tag x → ⊥) → Says a a d d (λ k. token_words marks (cues_of layers chains frames) (view_seen sight) k)
value_silent a d marks layers chains frames at name others sight top is other =
    part_silent a d marks layers chains frames at (value_part name ∷ others) (view_seen sight) top is (λ k. value-says_nothing marks at.level name others sight k other)

pub value_left : (layers : List NamedLayer) (chains : List (List NamedLayer)) (frames : List Frame) (at : Sections) (name : ValueName) (others : List SectionPart) (sight : Seen) → frames ≡ frame.Sections at ∷ tail_of frames → parts_of chains at ≡ value_part name ∷ others → ((x : DeclaredTag) → sight ≡ seen.Tag x → ⊥) → TakesPart layers chains at.level frames frames (view_seen sight) None
value_left layers chains frames at name others sight top is other =
    left_there layers chains frames at (value_part name ∷ others) (view_seen sight) top is (value-stays at.level name others sight other)

-- a class with no superclass ends

pub null_taken : (layers same : List NamedLayer) (old new : List (List NamedLayer)) (c : List NamedLayer) (frames popped : List Frame) (at : SuperPlace) (e : Epoch) (known known' : Known) (os : List OwnerNode) → FramesFit (length layers) (length old) frames → same ≡ layers → new ≡ old ++ c ∷ [] → popped ≡ tail_of frames → frames ≡ frame.Super at ∷ tail_of frames → known' ≡ slice_set known at.number (known_class (layer_in layers at.layer ∷ [])) → teller e known' os (cues_of same new popped) ≡ goes_in e known os (cues_of layers old frames) (seen_tag null_tag)
null_taken layers same old new c frames popped at e known known' os fits unchanged added put top is =
    ap (λ cues. teller e known' os cues) (close_cues layers same old new c frames popped fits unchanged added put)
    ∙ ap (λ k. teller e k os (cues_of layers old (tail_of frames))) is
    ∙ sym (goes_first layers old frames (frame.Super at) e known os (seen_tag null_tag) top)
