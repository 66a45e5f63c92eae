-- Sections that are kept ahead: none, one more, and the one just above another.
use Rattle.std.proofs.Common.{◌≡◌, ℕ, ◌+◌, ◌<◌, List, [], ◌∷◌, ◌++◌, length, ap, sym, ◌∙◌, arith, inl, inr}
use Rattle.std.specs.Prelude.{slice_get, get_or, Some}
use Rattle.std.proofs.lemmas.Bool.{cases_lt}
use Rattle.std.proofs.lemmas.List.{length_push, get_or_append_left, get_or_push}
use Rattle.std.proofs.lemmas.Option.{slice_get_within, slice_get-get_or, get_or_from_slice_get}
use Rattle.jser_table.specs.declared.layer.Layer.{Layer}
use Rattle.jser_table.specs.declared.ahead.Ahead.{Ahead}
use Rattle.jser_table.specs.declared.descriptor.Filed.{Filed}
use Rattle.jser_table.specs.declared.descriptor.Descriptor.{Descriptor}
use Rattle.jser_table.specs.Sections.{HasSection, down_to, layer_of, IsOn, IsNext}
use Rattle.jser_table.specs.Descriptors.{AreShelved, IsFiled, chains_of}
use Rattle.jser_table.specs.Upwards.{no_filed, IsAfter}
use Rattle.jser_table.specs.Aheads.{IsKept, AreAhead}
use Rattle.jser_table.proofs.UpwardLemmas.{next_by_count}
use Rattle.jser_table.proofs.FiledLemmas.{filed_at_place}
use Rattle.jser_table.proofs.LayerLemmas.{IsFront-trans, IsFront-from}

pub ahead_none : (chains : List (List Layer)) (ahead : Ahead) → ahead.sections.items ≡ [] → AreAhead chains ahead
ahead_none chains ahead none last before section kept =
    absurd (omega (arith, slice_get_within ahead.sections.items kept.place section kept.is, ap (λ (xs : List ℕ). length xs) none))

-- one more, which has as many above it as are left up to the top
pub ahead_push : (chains : List (List Layer)) (old new : Ahead) (section last above : ℕ) → AreAhead chains old → new.last ≡ old.last → new.lowest ≡ old.lowest → new.sections.items ≡ old.sections.items ++ section ∷ [] → old.last ≡ last → length old.sections.items + above ≡ old.lowest → IsAfter chains last above section → AreAhead chains new
ahead_push chains old new section last above are same_last same_lowest pushed last_is left after other before found kept =
    let items : List ℕ = old.sections.items in
    let is : get_or (items ++ section ∷ []) kept.place 0 ≡ found = rw (← pushed) (get_or_from_slice_get new.sections.items kept.place found 0 kept.is) in
    let within : kept.place < length new.sections.items = slice_get_within new.sections.items kept.place found kept.is in
    let longer : length new.sections.items ≡ length items + 1 = ap (λ (xs : List ℕ). length xs) pushed ∙ length_push items section in
    elim (cases_lt kept.place (length items)) [
      | inl inside ↦
          are other before found record {
            last_is = sym same_last ∙ kept.last_is;
            place = kept.place;
            is = slice_get-get_or items kept.place 0 inside ∙ ap (λ (n : ℕ). Some n) (sym (get_or_append_left items (section ∷ []) 0 kept.place inside) ∙ is);
            below = kept.below ∙ same_lowest;
          }
      | inr past ↦
          let here : length items ≡ kept.place = omega (arith, within, longer, past) in
          let same : section ≡ found = sym (get_or_push items section 0 kept.place here) ∙ is in
          let last_same : last ≡ other = sym last_is ∙ sym same_last ∙ kept.last_is in
          let above_same : above ≡ before = omega (arith, here, left, kept.below, same_lowest) in
          rw (← last_same, ← above_same, ← same) after
    ]

-- the section just above one is the one that has one fewer above it
pub after_above : (chains : List (List Layer)) (section last before : ℕ) (filed : Filed) → HasSection chains section → IsFiled chains section filed → IsAfter chains last (before + 1) section → IsAfter chains last before filed.upward.above
after_above chains section last before filed has told at =
    let some : 1 < filed.upward.count = omega (arith, told.upward.count, at.long) in
    let above : down_to chains section ≡ down_to chains filed.upward.above ++ layer_of chains section ∷ [] = told.upward.above some in
    record {
      inside = omega (arith, told.upward.above_in some, has);
      front =
          IsFront-trans (down_to chains filed.upward.above) (down_to chains section) (down_to chains last)
          (IsFront-from (down_to chains filed.upward.above) (layer_of chains section ∷ []) (down_to chains section) above) at.front;
      long =
          omega
          (arith, ap (λ (layers : List Layer). length layers) above, length_push (down_to chains filed.upward.above) (layer_of chains section), at.long);
    }

-- the section that a walk finds comes next
pub next_after : (ds : List Descriptor) (sections : List Filed) (last section before next : ℕ) → AreShelved ds sections → IsOn (chains_of ds) last section → before ≡ length (down_to (chains_of ds) section) → IsAfter (chains_of ds) last before next → IsNext (chains_of ds) last section (Some next)
next_after ds sections last section before next are on count found =
    next_by_count (chains_of ds) last section before next on count found (filed_at_place ds sections next no_filed are found.inside).filled
