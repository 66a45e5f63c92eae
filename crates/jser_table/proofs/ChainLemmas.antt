-- Chains of closed descriptors: one more descriptor, fronts of chains, and what the links of a descriptor
-- lead to.
use Rattle.std.proofs.Common.{set, get_or, ◌≡◌, ℕ, ◌+◌, ◌<◌, ◌≤◌, Bool, ◌&&◌, cond, List, [], ◌∷◌, ◌++◌, length, fold, Option, Some, None, option_map, refl, ap, sym, ◌∙◌, subst, arith, inl, inr, if◌then◌else◌}
use Rattle.std.proofs.lemmas.Bool.{cases_lt}
use Rattle.std.proofs.lemmas.List.{get_or_append_left, get_or_push, length_push}
use Rattle.std.proofs.Math.Seq.{set-append_seam}
use Rattle.std.proofs.lemmas.List.Sums.{fold_push, count_by-le-length}
use Rattle.jser_table.specs.declared.layer.Layer.{Layer}
use Rattle.jser_table.specs.declared.descriptor.Links.{Links}
use Rattle.jser_table.specs.declared.descriptor.Descriptor.{Descriptor}
use Rattle.jser_table.specs.declared.descriptor.Above.{Above}
use Rattle.jser_table.proofs.LayerLemmas.{IsFront-append, IsFront-trans, count_by_push, all_serial_push, own_layer_push}
use Rattle.jser_table.proofs.SectionLemmas.{last_grows, last_under}
use Rattle.jser_table.specs.declared.layer.Purpose.{Purpose}
use Rattle.jser_table.specs.declared.layer.Fit.{Fit}
use Rattle.jser_table.specs.Fits.{class_fit, fit_of_own, fit_of}
use Rattle.jser_table.specs.Sections.{sections_of}
use Rattle.jser_table.specs.Codes.{size_of}
use Rattle.jser_table.specs.Chains.{is_externalizable, is_external_layer, is_external, elements_of_kind, elements_of_layer, elements_of, own_layer, is_serial, is_filled, chain_in, IsFront}
use Rattle.jser_table.specs.Descriptors.{chain_above, with_chain, chains_of, AreLinks, IsTold, AreTold, LinkUnder, IsAbove, IsUnder, Knows, IsLast, chain_of_parent, descriptor_begun, descriptor_whole}

chains_of-push : (ds : List Descriptor) (d : Descriptor) → chains_of (ds ++ d ∷ []) ≡ with_chain (chains_of ds) d
unfolding chains_of
chains_of-push ds d = fold_push with_chain [] ds d

pub chains_of_none : (ds : List Descriptor) → ds ≡ [] → chains_of ds ≡ []
unfolding chains_of
chains_of_none ds e = ap (λ xs. fold with_chain [] xs) e

length-fold_with_chain : (chains : List (List Layer)) (ds : List Descriptor) → length (fold with_chain chains ds) ≡ length chains + length ds
length-fold_with_chain chains [] = omega arith
length-fold_with_chain chains (d ∷ ds) =
    length-fold_with_chain (with_chain chains d) ds ∙ omega (arith, length_push chains (chain_above chains d.links ++ d.layer ∷ []))

pub length_chains_of : (ds : List Descriptor) → length (chains_of ds) ≡ length ds
unfolding chains_of
length_chains_of ds = length-fold_with_chain [] ds ∙ omega arith

-- one more descriptor

chain_above-push : (chains others : List (List Layer)) (chain : List Layer) (place : ℕ) (links : Option Links) → AreLinks others place links → place ≤ length chains → chain_above (chains ++ chain ∷ []) links ≡ chain_above chains links
chain_above-push chains others chain place None told within = refl
chain_above-push chains others chain place (Some links) told within = get_or_append_left chains (chain ∷ []) [] links.parent (omega arith)

AreLinks-push : (chains : List (List Layer)) (chain : List Layer) (place : ℕ) (links : Option Links) → place < length chains → AreLinks chains place links → AreLinks (chains ++ chain ∷ []) place links
AreLinks-push chains chain place None inside told = tt
AreLinks-push chains chain place (Some links) inside told =
    let same : chain_in (chains ++ chain ∷ []) place ≡ chain_in chains place = get_or_append_left chains (chain ∷ []) [] place inside in
    let jump_same : chain_in (chains ++ chain ∷ []) links.jump ≡ chain_in chains links.jump = get_or_append_left chains (chain ∷ []) [] links.jump (omega arith) in
    (told.0, told.1, rw (jump_same, same) told.2)

IsTold-push : (chains : List (List Layer)) (chain : List Layer) (place : ℕ) (d : Descriptor) → place < length chains → IsTold chains place d → IsTold (chains ++ chain ∷ []) place d
IsTold-push chains chain place d inside told =
    let same : chain_in (chains ++ chain ∷ []) place ≡ chain_in chains place = get_or_append_left chains (chain ∷ []) [] place inside in
    let above : chain_above (chains ++ chain ∷ []) d.links ≡ chain_above chains d.links = chain_above-push chains chains chain place d.links told.links (omega arith) in
    record {
      own = same ∙ told.own ∙ ap (λ (front : List Layer). front ++ d.layer ∷ []) (sym above);
      known = subst (λ (whole : List Layer). Knows whole d) (sym same) told.known;
      within = told.within;
      links = AreLinks-push chains chain place d.links inside told.links;
      last = rw same (last_grows chains (chain ∷ []) (chain_in chains place) d.last told.last);
    }

above_of_parent : (chains : List (List Layer)) (parent : Option ℕ) (links : Option Links) → LinkUnder chains parent links → chain_above chains links ≡ chain_of_parent chains parent
above_of_parent chains None None under = refl
above_of_parent chains None (Some links) under = absurd under
above_of_parent chains (Some parent) None under = absurd under
above_of_parent chains (Some parent) (Some links) under = ap (chain_in chains) under.parent_is

AreLinks-new : (chains : List (List Layer)) (parent : Option ℕ) (links : Option Links) (layer : Layer) → LinkUnder chains parent links → AreLinks (chains ++ (chain_above chains links ++ layer ∷ []) ∷ []) (length chains) links
AreLinks-new chains None None layer under = tt
AreLinks-new chains None (Some links) layer under = absurd under
AreLinks-new chains (Some parent) None layer under = absurd under
AreLinks-new chains (Some parent) (Some links) layer under =
    let chain : List Layer = chain_in chains links.parent ++ layer ∷ [] in
    let here : chain_in (chains ++ chain ∷ []) (length chains) ≡ chain = get_or_push chains chain [] (length chains) refl in
    let jump_same : chain_in (chains ++ chain ∷ []) links.jump ≡ chain_in chains links.jump = get_or_append_left chains (chain ∷ []) [] links.jump under.jump_in in
    let front : IsFront (chain_in chains links.jump) (chain_in chains links.parent) = rw under.parent_is under.jump_front in (
      rw under.parent_is under.parent_in,
      under.jump_in,
      rw (jump_same, here) (IsFront-trans _ _ _ front (IsFront-append (chain_in chains links.parent) (layer ∷ []))),
    )

IsTold-new : (chains : List (List Layer)) (parent : Option ℕ) (layer : Layer) (d : Descriptor) → IsUnder chains parent layer d → IsTold (with_chain chains d) (length chains) d
IsTold-new chains parent layer d under =
    let chain : List Layer = chain_above chains d.links ++ d.layer ∷ [] in
    let here : chain_in (with_chain chains d) (length chains) ≡ chain = get_or_push chains chain [] (length chains) refl in
    let links : AreLinks (with_chain chains d) (length chains) d.links = AreLinks-new chains parent d.links d.layer under.links in
    let above : chain_above (with_chain chains d) d.links ≡ chain_above chains d.links = chain_above-push chains (with_chain chains d) chain (length chains) d.links links (omega arith) in
    let is_chain : chain_of_parent chains parent ++ layer ∷ [] ≡ chain =
    rw (above_of_parent chains parent d.links under.links, under.layer_is) refl
    in
    record {
      own = here ∙ ap (λ (front : List Layer). front ++ d.layer ∷ []) (sym above);
      known = subst (λ (whole : List Layer). Knows whole d) (is_chain ∙ sym here) under.known;
      within = under.within;
      links = links;
      last = subst (λ (whole : List Layer). IsLast (with_chain chains d) whole d.last) (sym here)
          (subst (λ (whole : List Layer). IsLast (chains ++ whole ∷ []) whole d.last) is_chain under.last);
    }

pub told_push : (old new : List Descriptor) (d : Descriptor) (parent : Option ℕ) (layer : Layer) → AreTold old → new ≡ old ++ d ∷ [] → IsUnder (chains_of old) parent layer d → AreTold new
told_push old new d parent layer told is under =
    subst AreTold (sym is) (λ place x inside read.
    rw (chains_of-push old d)
    (elim (cases_lt place (length old)) [
      | inl before ↦
          IsTold-push (chains_of old) _ place x (rw (length_chains_of old) before)
          (told place x before (read ∙ get_or_append_left old (d ∷ []) x place before))
      | inr after ↦
          let last : length old ≡ place = omega (arith, length_push old d) in
          let same : x ≡ d = read ∙ get_or_push old d x place last in
          rw (same, sym last, ← length_chains_of old) (IsTold-new (chains_of old) parent layer d under)
    ]))

pub chains_push : (old new : List Descriptor) (d : Descriptor) (parent : Option ℕ) (layer : Layer) → new ≡ old ++ d ∷ [] → IsUnder (chains_of old) parent layer d → chains_of new ≡ chains_of old ++ (chain_of_parent (chains_of old) parent ++ layer ∷ []) ∷ []
chains_push old new d parent layer is under =
    ap chains_of is ∙ chains_of-push old d ∙ rw (above_of_parent (chains_of old) parent d.links under.links, under.layer_is) refl

-- the superclasses of a class, and its descriptor under them

pub above_parent : (ds : List Descriptor) (parent : Option ℕ) (number jump : ℕ) (own : Descriptor) → parent ≡ Some number → number < length ds → IsTold (chains_of ds) number own → jump < length ds → IsFront (chain_in (chains_of ds) jump) (chain_in (chains_of ds) number) → IsAbove (chains_of ds) parent record { links = Some record { parent = number; jump = jump }; layers = own.layers; filled = own.filled; last = own.last; is_serial = own.is_serial }
above_parent ds parent number jump own is inside told jump_in front = rw is record {
  layers = told.known.layers;
  filled = told.known.filled;
  serial = told.known.serial;
  within = omega (arith, told.within, inside, length_chains_of ds);
  fewer = omega (arith, told.known.layers, told.known.filled, count_by-le-length is_filled (chain_in (chains_of ds) number));
  links = record { parent_is = refl; parent_in = rw (length_chains_of ds) inside; jump_in = rw (length_chains_of ds) jump_in; jump_front = front };
  last = told.last;
}

under_above : (chains : List (List Layer)) (parent : Option ℕ) (layer : Layer) (section : ℕ) (above : Above) (d : Descriptor) → IsAbove chains parent above → section ≡ length (sections_of chains) → d ≡ descriptor_whole (descriptor_begun above layer) section → IsUnder chains parent layer d
under_above chains parent layer section above d is here made =
    let chain : List Layer = chain_of_parent chains parent in
    rw made record {
      layer_is = refl;
      links = is.links;
      known = record {
        layers = ap (λ n. n + 1) is.layers ∙ sym (length_push chain layer);
        filled = ap (λ n. n + cond (is_filled layer) 1 0) is.filled ∙ sym (count_by_push chain layer);
        serial = ap (λ b. b && is_serial layer) is.serial ∙ sym (all_serial_push chain layer);
      };
      within = omega (arith, is.within);
      last = last_under chains chain layer section above.last (if is_filled layer then Some section else above.last) here is.last refl;
    }

-- A descriptor that is begun, put at the end of the list, and made whole there, is the next one.
pub record Completes (old new : List Descriptor) (number : ℕ) (parent : Option ℕ) (above : Above) (layer : Layer) (own whole : Descriptor) : Type 0 where
  pub items : set new number whole ≡ old ++ whole ∷ []
  pub layer_is : own.layer ≡ layer
  pub links : whole.links ≡ above.links
  pub under : IsUnder (chains_of old) parent layer whole

pub completes : (old new : List Descriptor) (number : ℕ) (parent : Option ℕ) (above : Above) (layer : Layer) (section : ℕ) (begun own whole : Descriptor) → IsAbove (chains_of old) parent above → section ≡ length (sections_of (chains_of old)) → begun ≡ descriptor_begun above layer → new ≡ old ++ begun ∷ [] → number ≡ length old → own ≡ get_or new number own → whole ≡ descriptor_whole own section → Completes old new number parent above layer own whole
completes old new number parent above layer section begun own whole is section_is made pushed here read completed =
    let own_is : own ≡ descriptor_begun above layer = read ∙ ap (λ items. get_or items number own) pushed ∙ get_or_push old begun own number (sym here) ∙ made in
    let whole_is : whole ≡ descriptor_whole (descriptor_begun above layer) section = completed ∙ ap (λ d. descriptor_whole d section) own_is in
    let layer_is : own.layer ≡ layer = ap (λ (d : Descriptor). d.layer) own_is in
    record {
      items = rw (pushed, here) (set-append_seam old begun [] whole);
      layer_is = layer_is;
      links = ap (λ (d : Descriptor). d.links) whole_is;
      under = under_above (chains_of old) parent layer section above whole is section_is whole_is;
    }

-- whether a class fits, by what its descriptor tells
pub fit_told : (chains : List (List Layer)) (place : ℕ) (d : Descriptor) (purpose : Purpose) (fit : Fit) → IsTold chains place d → fit ≡ class_fit purpose d.layer d.is_serial → fit ≡ fit_of purpose (chain_in chains place)
fit_told chains place d purpose fit told is =
    is ∙ ap (class_fit purpose d.layer) told.known.serial
    ∙ sym (ap (λ own. fit_of_own purpose own (chain_in chains place)) (ap own_layer told.own ∙ own_layer_push (chain_above chains d.links) d.layer))

-- the own layer of a chain, by its descriptor
pub own_told : (chains : List (List Layer)) (place : ℕ) (d : Descriptor) → IsTold chains place d → own_layer (chain_in chains place) ≡ Some d.layer
own_told chains place d told = ap own_layer told.own ∙ own_layer_push (chain_above chains d.links) d.layer

pub external_told : (chains : List (List Layer)) (place : ℕ) (d : Descriptor) (external : Bool) → IsTold chains place d → external ≡ is_externalizable d.layer.flags → external ≡ is_external (chain_in chains place)
external_told chains place d external told is = is ∙ sym (ap is_external_layer (own_told chains place d told))

pub elements_told : (chains : List (List Layer)) (place : ℕ) (d : Descriptor) (size : Option ℕ) → IsTold chains place d → size ≡ option_map size_of (elements_of_kind d.layer.kind) → size ≡ option_map size_of (elements_of (chain_in chains place))
elements_told chains place d size told is = is ∙ sym (ap (λ own. option_map size_of (elements_of_layer own)) (own_told chains place d told))
