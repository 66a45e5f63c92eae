-- Where walks up from sections lead: one more section, and the end of a walk.
use Rattle.std.proofs.Common.{◌≡◌, ℕ, ◌+◌, ◌*◌, ◌<◌, ◌≤◌, ◌==◌, Bool, true, false, IsTrue, List, [], ◌∷◌, ◌++◌, length, drop, Option, Some, None, refl, ap, sym, ◌∙◌, arith, append_assoc, if◌then◌else◌}
use Rattle.std.proofs.lemmas.List.{get_or_default, length_push, drop_at}
use Rattle.jser_table.specs.declared.layer.Layer.{Layer}
use Rattle.jser_table.specs.declared.descriptor.Upward.{Upward}
use Rattle.jser_table.specs.declared.descriptor.Filed.{Filed}
use Rattle.jser_table.specs.Chains.{own_layer, is_filled, IsFront}
use Rattle.jser_table.specs.Sections.{sections_of, HasSection, down_to, or_no_layer, layer_of, under, IsOn, IsNext}
use Rattle.jser_table.specs.Descriptors.{AreFiled, IsLast}
use Rattle.jser_table.specs.Upwards.{no_filed, filed_in, at_top, upward_in, upward_below, upward_under, IsUpward, IsAfter}
use Rattle.jser_table.proofs.LayerLemmas.{IsFront-refl, IsFront-from, IsFront-trans}
use Rattle.jser_table.proofs.SectionLemmas.{down_to_grows, layer_of_grows, new_down_to, filled_push}
use Rattle.jser_table.proofs.PathLemmas.{under_above}

-- ---- one more section

-- more classes change nothing
pub upward_grows : (chains more : List (List Layer)) (number : ℕ) (up : Upward) → HasSection chains number → IsUpward chains number up → IsUpward (chains ++ more) number up
upward_grows chains more number up has is = record {
  count = rw (down_to_grows chains more number has) is.count;
  within = is.within;
  jump_in = is.jump_in;
  front = rw (down_to_grows chains more up.jump (omega (arith, has, is.jump_in)), down_to_grows chains more number has) is.front;
  back = is.back;
  above_in = is.above_in;
  above = λ some.
      rw (down_to_grows chains more number has, down_to_grows chains more up.above (omega (arith, has, is.above_in some)), layer_of_grows chains more number has)
      (is.above some);
}

pub upward_kept : (chains : List (List Layer)) (sections : List Filed) (number : ℕ) → AreFiled chains sections → number < length sections → IsUpward chains number (upward_in sections number)
upward_kept chains sections number are inside =
    (are.each number (filed_in sections number) inside (get_or_default sections number no_filed (filed_in sections number) inside)).upward

-- under no other section
upward_top : (chains : List (List Layer)) (front : List Layer) (layer : Layer) (up : Upward) → is_filled layer ≡ true → IsLast chains front None → up ≡ at_top (length (sections_of chains)) → IsUpward (chains ++ (front ++ layer ∷ []) ∷ []) (length (sections_of chains)) up
upward_top chains front layer up filled none is =
    let own : down_to (chains ++ (front ++ layer ∷ []) ∷ []) (length (sections_of chains)) ≡ layer ∷ [] =
    new_down_to chains front layer filled ∙ filled_push front layer filled ∙ ap (λ above. above ++ layer ∷ []) none
    in
    rw is record {
      count = sym (ap length own);
      within = omega arith;
      jump_in = omega arith;
      front = IsFront-refl (down_to (chains ++ (front ++ layer ∷ []) ∷ []) (length (sections_of chains)));
      back = λ some. absurd (omega (arith, some));
      above_in = λ some. absurd (omega (arith, some));
      above = λ some. absurd (omega (arith, some));
    }

-- the jump of a section leads to one above it
record JumpsUp (chains : List (List Layer)) (above jump : ℕ) : Type 0 where
  within : jump ≤ above
  front : IsFront (down_to chains jump) (down_to chains above)

jumps_up : (b : Bool) (chains : List (List Layer)) (above near far : ℕ) → JumpsUp chains above near → JumpsUp chains near far → JumpsUp chains above (if b then far else above)
jumps_up true chains above near far first second = record {
  within = omega (arith, first.within, second.within);
  front = IsFront-trans (down_to chains far) (down_to chains near) (down_to chains above) second.front first.front;
}
jumps_up false chains above near far first second = record { within = omega arith; front = IsFront-refl (down_to chains above) }

jumps_kept : (chains : List (List Layer)) (number : ℕ) (up : Upward) → IsUpward chains number up → JumpsUp chains number up.jump
jumps_kept chains number up is = record { within = is.jump_in; front = is.front }

-- just under another one
upward_under_one : (chains : List (List Layer)) (front : List Layer) (layer : Layer) (sections : List Filed) (a : ℕ) (up : Upward) → is_filled layer ≡ true → AreFiled chains sections → IsLast chains front (Some a) → up ≡ upward_below sections a → IsUpward (chains ++ (front ++ layer ∷ []) ∷ []) (length (sections_of chains)) up
upward_under_one chains front layer sections a up filled are at is =
    let more : List (List Layer) = (front ++ layer ∷ []) ∷ [] in
    let number : ℕ = length (sections_of chains) in
    let inside : a < length sections = omega (arith, at.0, are.count) in
    let near : Upward = upward_in sections a in
    let near_is : IsUpward chains a near = upward_kept chains sections a are inside in
    let middle : Upward = upward_in sections near.jump in
    let middle_is : IsUpward chains near.jump middle = upward_kept chains sections near.jump are (omega (arith, inside, near_is.jump_in)) in
    let top : Upward = upward_in sections middle.jump in
    let jumps : JumpsUp chains a up.jump =
    rw is (jumps_up (near.count + top.count == 2 * middle.count) chains a near.jump middle.jump (jumps_kept chains a near near_is) (jumps_kept chains near.jump middle middle_is))
    in
    let same : down_to (chains ++ more) a ≡ down_to chains a = down_to_grows chains more a at.0 in
    let step : down_to (chains ++ more) number ≡ down_to (chains ++ more) a ++ layer_of (chains ++ more) number ∷ [] = under_above chains front layer a filled at in
    let above_is : up.above ≡ a = ap (λ (u : Upward). u.above) is in
    let count_is : up.count ≡ near.count + 1 = ap (λ (u : Upward). u.count) is in
    record {
      count = omega (arith, count_is, near_is.count, ap length same, ap length step, length_push (down_to (chains ++ more) a) (layer_of (chains ++ more) number));
      within = omega (arith, count_is, near_is.within, at.0);
      jump_in = omega (arith, jumps.within, at.0);
      front =
          IsFront-trans (down_to (chains ++ more) up.jump) (down_to (chains ++ more) a) (down_to (chains ++ more) number)
          (rw (down_to_grows chains more up.jump (omega (arith, jumps.within, at.0)), same) jumps.front)
          (IsFront-from (down_to (chains ++ more) a) (layer_of (chains ++ more) number ∷ []) (down_to (chains ++ more) number) step);
      back = λ some. omega (arith, jumps.within, at.0);
      above_in = λ some. omega (arith, above_is, at.0);
      above = λ some. rw above_is step;
    }

pub upward_new : (chains : List (List Layer)) (front : List Layer) (layer : Layer) (above : Option ℕ) (sections : List Filed) (up : Upward) → is_filled layer ≡ true → AreFiled chains sections → IsLast chains front above → up ≡ upward_under sections above → IsUpward (chains ++ (front ++ layer ∷ []) ∷ []) (length (sections_of chains)) up
upward_new chains front layer None sections up filled are at is = upward_top chains front layer up filled at (is ∙ ap at_top (sym are.count))
upward_new chains front layer (Some a) sections up filled are at is = upward_under_one chains front layer sections a up filled are at is

-- ---- the end of a walk

-- layers end in the own one
record EndIn (layers : List Layer) (layer : Layer) : Type 0 where
  above : List Layer
  is : layers ≡ above ++ layer ∷ []

ends_in_own : (layers : List Layer) → 0 < length layers → EndIn layers (or_no_layer (own_layer layers))
ends_in_own [] some = absurd (omega (arith, some))
ends_in_own (layer ∷ []) some = record { above = []; is = refl }
ends_in_own (layer ∷ next ∷ layers) some =
    let rest = ends_in_own (next ∷ layers) (omega arith) in
    record { above = layer ∷ rest.above; is = ap (λ more. layer ∷ more) rest.is }

-- the section that has one more above it than another one, in the same data, comes after that
pub next_by_count : (chains : List (List Layer)) (last section before next : ℕ) → IsOn chains last section → before ≡ length (down_to chains section) → IsAfter chains last before next → IsTrue (is_filled (layer_of chains next)) → IsNext chains last section (Some next)
unfolding layer_of under
next_by_count chains last section before next on count found filled =
    let long : length (down_to chains next) ≡ length (down_to chains section) + 1 = found.long ∙ ap (λ n. n + 1) count in
    let own = ends_in_own (down_to chains next) (omega (arith, long)) in
    let layer : Layer = or_no_layer (own_layer (down_to chains next)) in
    let rest : List Layer = drop (length (down_to chains next)) (down_to chains last) in
    let all : down_to chains last ≡ own.above ++ layer ∷ rest =
    found.front.rest ∙ ap (λ front. front ++ rest) own.is ∙ append_assoc own.above (layer ∷ []) rest
    in
    let short : length own.above ≡ length (down_to chains section) = omega (arith, long, ap length own.is, length_push own.above layer) in (
      record { last_in = on.last_in; section_in = found.inside; front = found.front; filled = filled },
      ap (drop (length (down_to chains section))) all ∙ drop_at own.above (layer ∷ rest) (length (down_to chains section)) short,
    )
