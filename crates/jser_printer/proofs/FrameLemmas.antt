-- The frames of a stack, and their cues, where the table gets more layers and chains.
use Rattle.std.proofs.Common.{◌≡◌, ℕ, ◌≤◌, List, [], ◌∷◌, ◌++◌, length, refl, ap, sym, ◌∙◌, subst, arith}
use Rattle.std.proofs.lemmas.List.{get_or_append_left, get_or_push, length_push}
use Rattle.jser_shown.specs.Known.{NamedLayer, proxy_layer, own_class_of}
use Rattle.jser_shown.specs.Cues.{external_part, note_part, parts_cue, super_cue, super_handle_cue, close_cue}
use Rattle.jser_printer.specs.declared.frame.Frame.{Frame}
use Rattle.jser_printer.specs.declared.frame.Frame.TheVariants as frame
use Rattle.jser_printer.specs.declared.frame.SuperPlace.{SuperPlace}
use Rattle.jser_printer.specs.Frames.{parts_from, cue_of, cues_of, FrameFits, FramesFit, tail_of}

-- a frame still fits where there are more

frame_fits-more : (l c l' c' : ℕ) → l ≤ l' → c ≤ c' → (f : Frame) → FrameFits l c f → FrameFits l' c' f
frame_fits-more l c l' c' a b (frame.Notes level) fits = tt
frame_fits-more l c l' c' a b (frame.Elements at) fits = tt
frame_fits-more l c l' c' a b (frame.Sections at) fits = omega (arith, fits)
frame_fits-more l c l' c' a b (frame.External level chain) fits = omega (arith, fits)
frame_fits-more l c l' c' a b (frame.ExternalNotes level chain) fits = omega (arith, fits)
frame_fits-more l c l' c' a b (frame.ExternalEnd level chain) fits = omega (arith, fits)
frame_fits-more l c l' c' a b (frame.End level) fits = tt
frame_fits-more l c l' c' a b (frame.Made owner level number) fits = tt
frame_fits-more l c l' c' a b (frame.Super at) fits = omega (arith, fits)
frame_fits-more l c l' c' a b (frame.SuperHandle at) fits = omega (arith, fits)
frame_fits-more l c l' c' a b (frame.Close number parent layer) fits = omega (arith, fits)

pub fit_more : (l c l' c' : ℕ) (frames : List Frame) → l ≤ l' → c ≤ c' → FramesFit l c frames → FramesFit l' c' frames
fit_more l c l' c' [] a b fits = tt
fit_more l c l' c' (f ∷ frames) a b fits = (frame_fits-more l c l' c' a b f fits.0, fit_more l c l' c' frames a b fits.1)

-- one more layer, and one more chain, change no cue

cue-more_layers : (layers : List NamedLayer) (l : NamedLayer) (chains : List (List NamedLayer)) (f : Frame) → FrameFits (length layers) (length chains) f → cue_of (layers ++ l ∷ []) chains f ≡ cue_of layers chains f
cue-more_layers layers l chains (frame.Notes level) fits = refl
cue-more_layers layers l chains (frame.Elements at) fits = refl
cue-more_layers layers l chains (frame.Sections at) fits = refl
cue-more_layers layers l chains (frame.External level chain) fits = refl
cue-more_layers layers l chains (frame.ExternalNotes level chain) fits = refl
cue-more_layers layers l chains (frame.ExternalEnd level chain) fits = refl
cue-more_layers layers l chains (frame.End level) fits = refl
cue-more_layers layers l chains (frame.Made owner level number) fits = refl
cue-more_layers layers l chains (frame.Super at) fits = ap (super_cue at.level at.number) (get_or_append_left layers (l ∷ []) proxy_layer at.layer fits)
cue-more_layers layers l chains (frame.SuperHandle at) fits = ap (super_handle_cue at.level at.number) (get_or_append_left layers (l ∷ []) proxy_layer at.layer fits)
cue-more_layers layers l chains (frame.Close number parent layer) fits = ap (close_cue number parent) (get_or_append_left layers (l ∷ []) proxy_layer layer fits)

pub cues_more_layers : (layers : List NamedLayer) (l : NamedLayer) (chains : List (List NamedLayer)) (frames : List Frame) → FramesFit (length layers) (length chains) frames → cues_of (layers ++ l ∷ []) chains frames ≡ cues_of layers chains frames
cues_more_layers layers l chains [] fits = refl
cues_more_layers layers l chains (f ∷ frames) fits =
    let first = cue-more_layers layers l chains f fits.0 in
    let others = cues_more_layers layers l chains frames fits.1 in
    cc

cue-more_chains : (layers : List NamedLayer) (chains : List (List NamedLayer)) (c : List NamedLayer) (f : Frame) → FrameFits (length layers) (length chains) f → cue_of layers (chains ++ c ∷ []) f ≡ cue_of layers chains f
cue-more_chains layers chains c (frame.Notes level) fits = refl
cue-more_chains layers chains c (frame.Elements at) fits = refl
cue-more_chains layers chains c (frame.Sections at) fits = ap (λ ls. parts_cue at.level (parts_from ls at.index at.stage)) (get_or_append_left chains (c ∷ []) [] at.chain fits)
cue-more_chains layers chains c (frame.External level chain) fits = ap (λ ls. parts_cue level (external_part (own_class_of ls) ∷ note_part ∷ [])) (get_or_append_left chains (c ∷ []) [] chain fits)
cue-more_chains layers chains c (frame.ExternalNotes level chain) fits = refl
cue-more_chains layers chains c (frame.ExternalEnd level chain) fits = refl
cue-more_chains layers chains c (frame.End level) fits = refl
cue-more_chains layers chains c (frame.Made owner level number) fits = refl
cue-more_chains layers chains c (frame.Super at) fits = refl
cue-more_chains layers chains c (frame.SuperHandle at) fits = refl
cue-more_chains layers chains c (frame.Close number parent layer) fits = refl

pub cues_more_chains : (layers : List NamedLayer) (chains : List (List NamedLayer)) (c : List NamedLayer) (frames : List Frame) → FramesFit (length layers) (length chains) frames → cues_of layers (chains ++ c ∷ []) frames ≡ cues_of layers chains frames
cues_more_chains layers chains c [] fits = refl
cues_more_chains layers chains c (f ∷ frames) fits =
    let first = cue-more_chains layers chains c f fits.0 in
    let others = cues_more_chains layers chains c frames fits.1 in
    cc

-- the top of a stack

pub top_fits : (l c : ℕ) (frames : List Frame) (f : Frame) → FramesFit l c frames → frames ≡ f ∷ tail_of frames → FrameFits l c f
top_fits l c frames f fits is = let all : FramesFit l c (f ∷ tail_of frames) = subst (FramesFit l c) is fits in all.0

pub tail_fits : (l c : ℕ) (frames : List Frame) → FramesFit l c frames → FramesFit l c (tail_of frames)
tail_fits l c [] fits = tt
tail_fits l c (f ∷ frames) fits = fits.1

-- one more layer, and its superclass place at the top
pub super_pushed : (old new : List NamedLayer) (l : NamedLayer) (at : SuperPlace) (chains same : List (List NamedLayer)) (frames pushed : List Frame) → FramesFit (length old) (length chains) frames → new ≡ old ++ l ∷ [] → at.layer ≡ length old → same ≡ chains → pushed ≡ frame.Super at ∷ frames → cues_of new same pushed ≡ super_cue at.level at.number l ∷ cues_of old chains frames
super_pushed old new l at chains same frames pushed fits added is unchanged put =
    ap (λ fs. cues_of new same fs) put
    ∙ ap (λ cs. cues_of new cs (frame.Super at ∷ frames)) unchanged
    ∙ ap (λ ls. cues_of ls chains (frame.Super at ∷ frames)) added
    ∙ ap (λ x. super_cue at.level at.number x ∷ cues_of (old ++ l ∷ []) chains frames) (get_or_push old l proxy_layer at.layer (sym is))
    ∙ ap (λ cues. super_cue at.level at.number l ∷ cues) (cues_more_layers old l chains frames fits)

pub fit_more_layers : (old new : List NamedLayer) (l : NamedLayer) (chains : List (List NamedLayer)) (frames : List Frame) → FramesFit (length old) (length chains) frames → new ≡ old ++ l ∷ [] → FramesFit (length new) (length chains) frames
fit_more_layers old new l chains frames fits added =
    fit_more (length old) (length chains) (length new) (length chains) frames (omega (arith, ap length added, length_push old l)) (omega arith) fits

pub fit_more_chains : (layers : List NamedLayer) (old new : List (List NamedLayer)) (c : List NamedLayer) (frames : List Frame) → FramesFit (length layers) (length old) frames → new ≡ old ++ c ∷ [] → FramesFit (length layers) (length new) frames
fit_more_chains layers old new c frames fits added =
    fit_more (length layers) (length old) (length layers) (length new) frames (omega arith) (omega (arith, ap length added, length_push old c)) fits

pub super_fits : (old new : List NamedLayer) (l : NamedLayer) (at : SuperPlace) (chains same : List (List NamedLayer)) (frames pushed : List Frame) → FramesFit (length old) (length chains) frames → new ≡ old ++ l ∷ [] → at.layer ≡ length old → same ≡ chains → pushed ≡ frame.Super at ∷ frames → FramesFit (length new) (length same) pushed
super_fits old new l at chains same frames pushed fits added is unchanged put =
    let all : FramesFit (length new) (length chains) (frame.Super at ∷ frames) =
    (omega (arith, ap length added, length_push old l, is), fit_more_layers old new l chains frames fits added)
    in
    subst (λ fs. FramesFit (length new) (length same) fs) (sym put)
    (subst (λ (cs : List (List NamedLayer)). FramesFit (length new) (length cs) (frame.Super at ∷ frames)) (sym unchanged) all)
