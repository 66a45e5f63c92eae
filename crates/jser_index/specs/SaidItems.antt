-- The tokens of items, said one after another.
use Rattle.std.specs.Prelude.{ℕ, ◌≡◌, true, Bool, List, Option}
use Rattle.jser_prim.specs.Outgoing.{Outgoing, SinkState, sink_state}
use Rattle.jser_reading.specs.Labels.{StreamToken}
use Rattle.jser_shown.specs.Cues.{Teller}
use Rattle.jser_shown.specs.Telling.{goes, settled}
use Rattle.jser_reader.specs.declared.Item.{Item}
use Rattle.jser_printer.specs.Passing.{says_next}
use Rattle.jser_printer.specs.Says.{Begins, Says}
use Rattle.jser_index.specs.declared.show.Halt.{Halt}
use Rattle.jser_index.specs.declared.show.Halt.TheVariants as halt
use Rattle.jser_index.specs.declared.show.Writer.{Writer}
use Rattle.jser_index.specs.Along.{Ends, IsLength}

-- the token that an item ends was said, and the walk went past it; nothing was said of the length of a text that goes on
pub record SaysItem (lent : Item) (old new : Outgoing) (before after : SinkState) (walk next : Teller) : Type 0 where
  pub said : (told : StreamToken) → Ends lent told → Says old new before after (λ k. says_next walk told k)
  pub goes_on : (told : StreamToken) → Ends lent told → next ≡ goes (settled walk) told
  pub same : IsLength lent → Says old new before after (λ k. k) × (next ≡ walk)

-- memory ran out in an item that ends a token, and a beginning of it was said
pub record BeginsItem (lent : Item) (old new : Outgoing) (before after : SinkState) (walk : Teller) : Type 0 where
  pub begun : (told : StreamToken) → Ends lent told → Begins old new before after (λ k. says_next walk told k)
  pub no_length : IsLength lent → ⊥

-- the sink has failed, and nothing more was said; or memory ran out
abbrev pub Halts : Halt → Item → (old new : Outgoing) → (before after : SinkState) → Teller → Type 0
Halts halt.Sink lent old new before after walk = (old.failed ≡ true) × (new ≡ old) × (after ≡ before)
Halts halt.OutOfMemory lent old new before after walk = BeginsItem lent old new before after walk

-- a writer still holds the references of which it was made
abbrev pub HoldsOn : {S : Type 0} → (old new : Writer S) → Type 0
HoldsOn old new =
    (new.outbox.ghost_name ≡ old.outbox.ghost_name) × (new.sink.ghost_name ≡ old.sink.ghost_name)
    × (new.printer.ghost_name ≡ old.printer.ghost_name) × (new.units.ghost_name ≡ old.units.ghost_name)

-- how it is said to a sink, by what it tells

abbrev pub SaysItemTo : {S : Type 0} → (S → Option (List ℕ)) → (S → Bool) → Item → (old new : Outgoing) → S → S → (walk next : Teller) → Type 0
SaysItemTo gone_out has_failed lent old new before after walk next =
    SaysItem lent old new (sink_state (gone_out before) (has_failed before)) (sink_state (gone_out after) (has_failed after)) walk next

abbrev pub HaltsTo : {S : Type 0} → (S → Option (List ℕ)) → (S → Bool) → Halt → Item → (old new : Outgoing) → S → S → Teller → Type 0
HaltsTo gone_out has_failed why lent old new before after walk =
    Halts why lent old new (sink_state (gone_out before) (has_failed before)) (sink_state (gone_out after) (has_failed after)) walk
