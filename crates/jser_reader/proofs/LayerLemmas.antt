-- How many layers are kept, by the descriptors among the frames: what each step of the code does to the count.
use Rattle.std.proofs.Common.{◌≡◌, ℕ, suc, ◌+◌, ◌-◌, ◌<◌, ◌≤◌, Bool, true, false, List, [], ◌∷◌, ◌++◌, length, reverse, Option, Some, None, refl, sym, ◌∙◌, ap, subst, arith, length-append}
use Rattle.std.proofs.lemmas.List.{length-reverse}
use Rattle.jser_table.specs.declared.layer.Layer.{Layer}
use Rattle.jser_reader.specs.declared.frame.Frame.{Frame}
use Rattle.jser_reader.specs.declared.frame.Frame.TheVariants as frame
use Rattle.jser_reader.specs.declared.frame.RawPlace.{RawPlace}
use Rattle.jser_reader.specs.declared.frame.Role.{Role}
use Rattle.jser_reader.specs.Stacks.{tail_of, CountsValue, CountsRaw}
use Rattle.jser_reader.specs.Fitting.{IsPart, HasParts, descriptors_with, descriptors_in, LayersFit}
use Rattle.jser_reader.specs.Readers.{Seen}
use Rattle.jser_reader.specs.Closing.{rest_layers, PopsLayer}

-- arrays and objects are not counted

part_counts : (f : Frame) (below : ℕ) → IsPart f → descriptors_with f below ≡ below
part_counts (frame.Elements left) below i = refl
part_counts (frame.Fields last section pos prims values) below i = refl
part_counts (frame.Notes last section) below i = refl
part_counts frame.ExternalNotes below i = refl
part_counts (frame.Descriptor number role) below i = absurd i

parts_count : (frames : List Frame) → HasParts frames → descriptors_in (tail_of frames) ≡ descriptors_in frames
parts_count [] h = absurd h
parts_count (f ∷ fs) h = sym (part_counts f (descriptors_in fs) h)

-- what is on top is no descriptor

pub parts_are_some : (frames : List Frame) → HasParts frames → 0 < length frames
parts_are_some [] h = absurd h
parts_are_some (f ∷ fs) h = omega arith

pub other_is_part : (frames : List Frame) (f : Frame) → frames ≡ f ∷ tail_of frames → ((n : ℕ) (w : Role) → f ≡ frame.Descriptor n w → ⊥) → HasParts frames
other_is_part frames f e d = subst HasParts (sym e) (go f d)
  where
    go : (f : Frame) → ((n : ℕ) (w : Role) → f ≡ frame.Descriptor n w → ⊥) → IsPart f
    go (frame.Elements left) d = tt
    go (frame.Fields last section pos prims values) d = tt
    go (frame.Notes last section) d = tt
    go frame.ExternalNotes d = tt
    go (frame.Descriptor number role) d = absurd (d number role refl)

-- an array or an object is put on top, takes the place of what is on top, or is taken off

pub layers_under_part : (outer : List Layer) (frames now : List Frame) (f : Frame) → now ≡ f ∷ frames → IsPart f → LayersFit outer frames → LayersFit outer now
layers_under_part outer frames now f e i fit = rw e (record { few = subst (λ n. length outer ≤ n) (sym (part_counts f (descriptors_in frames) i)) fit.few })

pub layers_of_tail : (outer : List Layer) (frames now : List Frame) → now ≡ tail_of frames → HasParts frames → LayersFit outer frames → LayersFit outer now
layers_of_tail outer frames now e h fit = rw e (record { few = subst (λ n. length outer ≤ n) (sym (parts_count frames h)) fit.few })

pub layers_of_part : (outer : List Layer) (frames now : List Frame) (f : Frame) → now ≡ f ∷ tail_of frames → IsPart f → HasParts frames → LayersFit outer frames → LayersFit outer now
layers_of_part outer frames now f e i h fit = layers_under_part outer (tail_of frames) now f e i (layers_of_tail outer frames (tail_of frames) refl h fit)

-- a value or a raw value of what is on top is counted

pub layers_of_value : (outer : List Layer) (counted : Bool) (frames now : List Frame) → CountsValue counted frames now → LayersFit outer frames → LayersFit outer now
layers_of_value outer false frames now h fit = rw h.0 fit
layers_of_value outer true [] now h fit = absurd h
layers_of_value outer true (frame.Elements left ∷ fs) now h fit =
    layers_of_part outer (frame.Elements left ∷ fs) now (frame.Elements (left - 1)) (h.2 ∙ ap (λ f. f ∷ fs) h.1.1) tt tt fit
layers_of_value outer true (frame.Fields last section pos prims values ∷ fs) now h fit =
    layers_of_part outer (frame.Fields last section pos prims values ∷ fs) now (frame.Fields last section pos prims (values - 1)) (h.2 ∙ ap (λ f. f ∷ fs) h.1.2) tt tt fit
layers_of_value outer true (frame.Notes last section ∷ fs) now h fit = absurd h.1
layers_of_value outer true (frame.ExternalNotes ∷ fs) now h fit = absurd h.1
layers_of_value outer true (frame.Descriptor number role ∷ fs) now h fit = absurd h.1

pub layers_of_raw : (outer : List Layer) (raw : Option RawPlace) (frames now : List Frame) → CountsRaw raw frames now → LayersFit outer frames → LayersFit outer now
layers_of_raw outer None frames now h fit = rw h.0 fit
layers_of_raw outer (Some raw) [] now h fit = absurd h
layers_of_raw outer (Some raw) (frame.Elements left ∷ fs) now h fit = absurd h.1
layers_of_raw outer (Some raw) (frame.Fields last section pos prims values ∷ fs) now h fit =
    layers_of_part outer (frame.Fields last section pos prims values ∷ fs) now (frame.Fields last section (pos + 1) prims values) (h.2 ∙ ap (λ f. f ∷ fs) h.1.3) tt tt fit
layers_of_raw outer (Some raw) (frame.Notes last section ∷ fs) now h fit = absurd h.1
layers_of_raw outer (Some raw) (frame.ExternalNotes ∷ fs) now h fit = absurd h.1
layers_of_raw outer (Some raw) (frame.Descriptor number role ∷ fs) now h fit = absurd h.1

-- a descriptor is put on top, and then its layer

pub frame_opened : (outer : List Layer) (frames now : List Frame) (number : ℕ) (role : Role) → now ≡ frame.Descriptor number role ∷ frames → LayersFit outer frames → LayersFit outer now
frame_opened outer frames now number role e fit = rw e (record { few = let n = fit.few in omega arith })

pub layer_opened : (outer more : List Layer) (l : Layer) (frames now : List Frame) (number : ℕ) (role : Role)
    → more ≡ outer ++ (l ∷ []) → now ≡ frame.Descriptor number role ∷ frames → LayersFit outer frames → LayersFit more now
layer_opened outer more l frames now number role em e fit =
    let n : length more ≡ length outer + 1 = ap length em ∙ length-append outer (l ∷ []) in
    rw e (record { few = let k = fit.few in omega arith })

-- a layer is taken, and then the descriptor

pub no_layers : (outer : List Layer) (frames : List Frame) → outer ≡ [] → LayersFit outer frames
no_layers outer frames e = record { few = let n : length outer ≡ 0 = ap length e in omega arith }

pub layer_taken : (outer rest : List Layer) (m : Layer) (frames : List Frame) → outer ≡ rest ++ (m ∷ []) → LayersFit outer frames → LayersFit rest frames
layer_taken outer rest m frames e fit =
    let n : length outer ≡ length rest + 1 = ap length e ∙ length-append rest (m ∷ []) in
    record { few = let k = fit.few in omega arith }

rest_length : (l : Layer) (layers : List Layer) (n : ℕ) → length layers ≤ suc n → length (rest_layers (l ∷ layers)) ≤ suc n
rest_length l [] n h = omega arith
rest_length l (m ∷ layers) n h = h

pub layers_closed : (old mid : Seen) (outer rest : List Layer) (l m : Layer) (now : List Frame) (number : ℕ) (role : Role) → PopsLayer old mid
    → old.layers ≡ l ∷ reverse outer → mid.layers ≡ m ∷ reverse rest → old.frames ≡ frame.Descriptor number role ∷ tail_of old.frames
    → now ≡ tail_of mid.frames → LayersFit outer old.frames → LayersFit rest now
layers_closed old mid outer rest l m now number role p eo em top en fit =
    let n = descriptors_in (tail_of old.frames) in
    let all : length outer ≤ suc n = subst (λ fs. length outer ≤ descriptors_in fs) top fit.few in
    let back : length (reverse outer) ≡ length outer = length-reverse outer in
    let less = rest_length l (reverse outer) n (omega arith) in
    let is : m ∷ reverse rest ≡ rest_layers (l ∷ reverse outer) = sym em ∙ p.layers ∙ ap rest_layers eo in
    let size : suc (length (reverse rest)) ≡ length (rest_layers (l ∷ reverse outer)) = ap length is in
    let back_rest : length (reverse rest) ≡ length rest = length-reverse rest in
    rw (en ∙ ap tail_of p.frames) (record { few = omega arith })

-- all layers, by the frames

descriptors_are_frames : (frames : List Frame) → descriptors_in frames ≤ length frames
descriptors_are_frames [] = omega arith
descriptors_are_frames (frame.Elements left ∷ fs) = let n = descriptors_are_frames fs in omega arith
descriptors_are_frames (frame.Fields last section pos prims values ∷ fs) = let n = descriptors_are_frames fs in omega arith
descriptors_are_frames (frame.Notes last section ∷ fs) = let n = descriptors_are_frames fs in omega arith
descriptors_are_frames (frame.ExternalNotes ∷ fs) = let n = descriptors_are_frames fs in omega arith
descriptors_are_frames (frame.Descriptor number role ∷ fs) = let n = descriptors_are_frames fs in omega arith

pub layers_are_bounded : (layers outer : List Layer) (l : Layer) (frames : List Frame) (n : ℕ) → layers ≡ l ∷ reverse outer → n ≡ length frames → LayersFit outer frames → length layers ≤ n + 1
layers_are_bounded layers outer l frames n e en fit =
    let size : length layers ≡ suc (length (reverse outer)) = ap length e in
    let back : length (reverse outer) ≡ length outer = length-reverse outer in
    let few = fit.few in
    let all = descriptors_are_frames frames in
    omega arith
