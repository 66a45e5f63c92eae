-- Sections: one more class adds at most one, and changes none of those before it.
use Rattle.std.proofs.Common.{◌≡◌, ℕ, ◌≤◌, Bool, true, false, cond, List, [], ◌∷◌, ◌++◌, length, map, get_or, count_by, Option, Some, None, refl, ap, sym, ◌∙◌, arith, append-nil, length-append, if◌then◌else◌}
use Rattle.std.specs.List.{filter}
use Rattle.std.proofs.lemmas.List.{get_or_append_left, get_or_push, length_push, length-map, map-append}
use Rattle.std.proofs.lemmas.List.Elements.{filter-append}
use Rattle.std.proofs.lemmas.List.Sums.{length-filter, count_by-le-length}
use Rattle.jser_table.specs.declared.layer.Layer.{Layer}
use Rattle.jser_table.specs.Chains.{own_layer, is_filled}
use Rattle.jser_table.specs.Sections.{filled_layers, is_filled_own, ends_filled, sections_of, HasSection, down_to, or_no_layer, layer_of, under, IsOn}
use Rattle.jser_table.specs.Descriptors.{IsLast, IsLastUnder}
use Rattle.jser_table.proofs.LayerLemmas.{own_layer_push}

-- one more class

pub sections_none : (chains : List (List Layer)) → chains ≡ [] → length (sections_of chains) ≡ 0
unfolding sections_of
sections_none chains e = rw e refl

sections_of_append : (xs ys : List (List Layer)) → sections_of (xs ++ ys) ≡ sections_of xs ++ sections_of ys
unfolding sections_of
sections_of_append xs ys = ap (map filled_layers) (filter-append ends_filled xs ys) ∙ map-append filled_layers (filter ends_filled xs) (filter ends_filled ys)

sections_of_one : (chain : List Layer) (b : Bool) → ends_filled chain ≡ b → sections_of (chain ∷ []) ≡ cond b (filled_layers chain ∷ []) []
unfolding sections_of
sections_of_one chain true is = rw is refl
sections_of_one chain false is = rw is refl

pub ends_filled_push : (above : List Layer) (layer : Layer) → ends_filled (above ++ layer ∷ []) ≡ is_filled layer
ends_filled_push above layer = ap is_filled_own (own_layer_push above layer)

-- a class with a section adds the filled layers down to it
pub sections_push : (chains : List (List Layer)) (above : List Layer) (layer : Layer) → is_filled layer ≡ true → sections_of (chains ++ (above ++ layer ∷ []) ∷ []) ≡ sections_of chains ++ filled_layers (above ++ layer ∷ []) ∷ []
sections_push chains above layer is =
    sections_of_append chains ((above ++ layer ∷ []) ∷ [])
    ∙ ap (λ more. sections_of chains ++ more) (sections_of_one (above ++ layer ∷ []) true (ends_filled_push above layer ∙ is))

-- a class with none adds nothing
pub sections_same : (chains : List (List Layer)) (above : List Layer) (layer : Layer) → is_filled layer ≡ false → sections_of (chains ++ (above ++ layer ∷ []) ∷ []) ≡ sections_of chains
sections_same chains above layer is =
    sections_of_append chains ((above ++ layer ∷ []) ∷ [])
    ∙ ap (λ more. sections_of chains ++ more) (sections_of_one (above ++ layer ∷ []) false (ends_filled_push above layer ∙ is))
    ∙ append-nil (sections_of chains)

pub filled_push : (above : List Layer) (layer : Layer) → is_filled layer ≡ true → filled_layers (above ++ layer ∷ []) ≡ filled_layers above ++ layer ∷ []
filled_push above layer is = filter-append is_filled above (layer ∷ []) ∙ ap (λ b. filled_layers above ++ cond b (layer ∷ []) []) is

pub filled_same : (above : List Layer) (layer : Layer) → is_filled layer ≡ false → filled_layers (above ++ layer ∷ []) ≡ filled_layers above
filled_same above layer is = filter-append is_filled above (layer ∷ []) ∙ ap (λ b. filled_layers above ++ cond b (layer ∷ []) []) is ∙ append-nil (filled_layers above)

pub length_filled : (chain : List Layer) → length (filled_layers chain) ≡ count_by is_filled chain
length_filled chain = length-filter is_filled chain

-- more classes: what is said of older sections stays

-- a section that was there is there
pub has_section_grows : (chains more : List (List Layer)) (section : ℕ) → HasSection chains section → HasSection (chains ++ more) section
has_section_grows chains more section has =
    omega (arith, has, ap (λ (s : List (List Layer)). length s) (sections_of_append chains more), length-append (sections_of chains) (sections_of more))

-- it has the same layers
pub down_to_grows : (chains more : List (List Layer)) (section : ℕ) → HasSection chains section → down_to (chains ++ more) section ≡ down_to chains section
unfolding down_to
down_to_grows chains more section has =
    ap (λ s. get_or s section []) (sections_of_append chains more) ∙ get_or_append_left (sections_of chains) (sections_of more) [] section has

-- its own layer is the same
pub layer_of_grows : (chains more : List (List Layer)) (section : ℕ) → HasSection chains section → layer_of (chains ++ more) section ≡ layer_of chains section
unfolding layer_of
layer_of_grows chains more section has = ap (λ layers. or_no_layer (own_layer layers)) (down_to_grows chains more section has)

-- the layers after a section are the same
pub under_grows : (chains more : List (List Layer)) (last section : ℕ) → HasSection chains last → HasSection chains section → under (chains ++ more) last section ≡ under chains last section
unfolding under
under_grows chains more last section has_last has =
    rw (down_to_grows chains more last has_last, down_to_grows chains more section has) refl

-- data that held a section hold it
pub is_on_grows : (chains more : List (List Layer)) (last section : ℕ) → IsOn chains last section → IsOn (chains ++ more) last section
is_on_grows chains more last section on = record {
  last_in = has_section_grows chains more last on.last_in;
  section_in = has_section_grows chains more section on.section_in;
  front = rw (down_to_grows chains more last on.last_in, down_to_grows chains more section on.section_in) on.front;
  filled = rw (layer_of_grows chains more section on.section_in) on.filled;
}

-- the lowest section of a chain
pub last_grows : (chains more : List (List Layer)) (chain : List Layer) (last : Option ℕ) → IsLast chains chain last → IsLast (chains ++ more) chain last
last_grows chains more chain None is = is
last_grows chains more chain (Some last) is =
    (has_section_grows chains more last is.0, down_to_grows chains more last is.0 ∙ is.1)

-- the section of the class that was closed last

pub new_down_to : (chains : List (List Layer)) (above : List Layer) (layer : Layer) → is_filled layer ≡ true → down_to (chains ++ (above ++ layer ∷ []) ∷ []) (length (sections_of chains)) ≡ filled_layers (above ++ layer ∷ [])
unfolding down_to
new_down_to chains above layer is =
    ap (λ s. get_or s (length (sections_of chains)) []) (sections_push chains above layer is)
    ∙ get_or_push (sections_of chains) (filled_layers (above ++ layer ∷ [])) [] (length (sections_of chains)) refl

pub new_layer_of : (chains : List (List Layer)) (above : List Layer) (layer : Layer) → is_filled layer ≡ true → layer_of (chains ++ (above ++ layer ∷ []) ∷ []) (length (sections_of chains)) ≡ layer
unfolding layer_of
new_layer_of chains above layer is =
    ap (λ layers. or_no_layer (own_layer layers)) (new_down_to chains above layer is ∙ filled_push above layer is)
    ∙ ap or_no_layer (own_layer_push (filled_layers above) layer)

pub new_has_section : (chains : List (List Layer)) (above : List Layer) (layer : Layer) → is_filled layer ≡ true → HasSection (chains ++ (above ++ layer ∷ []) ∷ []) (length (sections_of chains))
new_has_section chains above layer is =
    omega (arith, ap (λ (s : List (List Layer)). length s) (sections_push chains above layer is), length_push (sections_of chains) (filled_layers (above ++ layer ∷ [])))

last_own : (chains : List (List Layer)) (above : List Layer) (layer : Layer) (last : Option ℕ) → is_filled layer ≡ true → last ≡ Some (length (sections_of chains)) → IsLast (chains ++ (above ++ layer ∷ []) ∷ []) (above ++ layer ∷ []) last
last_own chains above layer last is here = rw here (new_has_section chains above layer is, new_down_to chains above layer is)

last_same : (chains : List (List Layer)) (chain chain' : List Layer) (last : Option ℕ) → filled_layers chain' ≡ filled_layers chain → IsLast chains chain last → IsLast chains chain' last
last_same chains chain chain' None same is = same ∙ is
last_same chains chain chain' (Some last) same is = (is.0, is.1 ∙ sym same)

last_above : (chains : List (List Layer)) (above : List Layer) (layer : Layer) (last : Option ℕ) → is_filled layer ≡ false → IsLast chains above last → IsLast (chains ++ (above ++ layer ∷ []) ∷ []) (above ++ layer ∷ []) last
last_above chains above layer last is at_parent =
    last_grows chains ((above ++ layer ∷ []) ∷ []) (above ++ layer ∷ []) last (last_same chains above (above ++ layer ∷ []) last (filled_same above layer is) at_parent)

-- the lowest section of a class under one whose lowest section is `above`
last_under_if : (b : Bool) (chains : List (List Layer)) (front : List Layer) (layer : Layer) (section : ℕ) (above last : Option ℕ) → is_filled layer ≡ b → section ≡ length (sections_of chains) → IsLast chains front above → last ≡ (if b then Some section else above) → IsLast (chains ++ (front ++ layer ∷ []) ∷ []) (front ++ layer ∷ []) last
last_under_if true chains front layer section above last is here at_parent last_is = last_own chains front layer last is (last_is ∙ ap Some here)
last_under_if false chains front layer section above last is here at_parent last_is = rw last_is (last_above chains front layer above is at_parent)

pub last_under : (chains : List (List Layer)) (front : List Layer) (layer : Layer) (section : ℕ) (above last : Option ℕ) → section ≡ length (sections_of chains) → IsLast chains front above → IsLastUnder layer section above last → IsLast (chains ++ (front ++ layer ∷ []) ∷ []) (front ++ layer ∷ []) last
last_under chains front layer section above last here at_parent last_is = last_under_if (is_filled layer) chains front layer section above last refl here at_parent last_is

-- there are at most as many sections as classes
pub sections_fewer : (chains : List (List Layer)) → length (sections_of chains) ≤ length chains
unfolding sections_of
sections_fewer chains = omega (arith, length-map (filter ends_filled chains) filled_layers, length-filter ends_filled chains, count_by-le-length ends_filled chains)
