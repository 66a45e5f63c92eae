-- What is shown at once, after nothing else came, and under the gate of the call.
use Rattle.std.proofs.Common.{◌≡◌, ℕ, List, [], ◌∷◌, Result, Ok, Err, sym, subst}
use Rattle.jser_verdict.specs.Gates.{Gate}
use Rattle.jser_reader.specs.declared.item.Field.{Field}
use Rattle.jser_reader.specs.declared.item.Item.{Item}
use Rattle.jser_reader.specs.declared.item.Step.TheVariants as step
use Rattle.jser_reader.specs.declared.item.Whole.{Whole}
use Rattle.jser_reader.specs.declared.reader.feed.Showing.{Showing}
use Rattle.jser_reader.specs.declared.reader.feed.Showing.TheVariants as showing
use Rattle.jser_reader.specs.declared.refusal.Stop.{Stop}
use Rattle.jser_reader.specs.declared.tally.Tally.{Tally}
use Rattle.jser_reader.specs.declared.visit.Whereabouts.{Whereabouts}
use Rattle.jser_reader.specs.FieldsTold.{TakesField}
use Rattle.jser_reader.specs.ItemsTold.{TellsItems}
use Rattle.jser_reader.specs.Readers.{Seen}
use Rattle.jser_reader.specs.ReaderStates.{NextTells}
use Rattle.jser_reader.specs.Showing.{StepsOn, here, ShowingCases}
use Rattle.jser_reader.specs.Visits.{whole_items, whole_size, field_items, field_size}
use Rattle.jser_reader.proofs.FieldFurther.{field_steps}

-- ---- where it is taken

pub field_shown : (gate : Gate) (given : List ℕ) (f : Field) (old : Seen) (before : Tally) (new : Seen) (after : Tally) → TakesField given f old new → after ≡ before
    → StepsOn gate given (field_items f (here old new)) (field_size f) old before new after
field_shown gate given f old before new after t same =
    subst (λ y. StepsOn gate given (field_items f (here old new)) (field_size f) old before new y) (sym same) (field_steps gate given f old new before t)

-- Nothing was taken before it.
pub shown_after : (gate held : Gate) → held ≡ gate → (given : List ℕ) (result : Result Showing Stop) (old : Seen) (before : Tally) (first : Seen) (between : Tally) (new : Seen) (after : Tally)
    → first ≡ old → between ≡ before → ShowingCases held given result first between new after → ShowingCases gate given result old before new after
shown_after gate held same given result old before first between new after f b t =
    subst (λ h. ShowingCases h given result old before new after) same
    (subst (λ r. ShowingCases held given result r before new after) f (subst (λ y. ShowingCases held given result first y new after) b t))

-- ---- where it is shown

module _ (gate held : Gate) (same : held ≡ gate) (given : List ℕ) (s : Showing) (old : Seen) (before : Tally) (new : Seen) (after : Tally) (t : ShowingCases held given (Ok s) old before new after) where
  here_shown : (k : Showing) → s ≡ k → ShowingCases gate given (Ok k) old before new after
  here_shown k is = subst (λ o. ShowingCases gate given (Ok o) old before new after) is (subst (λ h. ShowingCases h given (Ok s) old before new after) same t)

  pub item_goes : (lent : Item) (used : ℕ) (whereabouts : Whereabouts) → whereabouts ≡ here old new → s ≡ showing.Item lent used
      → StepsOn gate given (record { lent = lent; whereabouts = whereabouts } ∷ []) used old before new after
  item_goes lent used whereabouts at is =
      subst (λ p. StepsOn gate given (record { lent = lent; whereabouts = p } ∷ []) used old before new after) (sym at) (here_shown (showing.Item lent used) is)

  pub whole_goes : (w : Whole) (whereabouts : Whereabouts) → whereabouts ≡ here old new → s ≡ showing.Whole w
      → StepsOn gate given (whole_items w whereabouts) (whole_size w) old before new after
  whole_goes w whereabouts at is = subst (λ p. StepsOn gate given (whole_items w p) (whole_size w) old before new after) (sym at) (here_shown (showing.Whole w) is)

  pub field_goes : (f : Field) (whereabouts : Whereabouts) → whereabouts ≡ here old new → s ≡ showing.Field f
      → StepsOn gate given (field_items f whereabouts) (field_size f) old before new after
  field_goes f whereabouts at is = subst (λ p. StepsOn gate given (field_items f p) (field_size f) old before new after) (sym at) (here_shown (showing.Field f) is)

  pub more_goes : s ≡ showing.More → NextTells gate given (Ok step.More) old before new after × TellsItems gate given (Ok step.More) old before new after
  more_goes is = here_shown showing.More is

pub stop_goes : (gate held : Gate) → held ≡ gate → (given : List ℕ) (why : Stop) (old : Seen) (before : Tally) (new : Seen) (after : Tally) → NextTells held given (Err why) old before new after
    → NextTells gate given (Err why) old before new after
stop_goes gate held same given why old before new after t = subst (λ h. NextTells h given (Err why) old before new after) same t
