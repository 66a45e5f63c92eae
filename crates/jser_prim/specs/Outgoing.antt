-- Bytes on their way to a sink: some wait in a buffer, and some have gone out.
use Rattle.std.specs.Prelude.{ℕ, ◌≡◌, ◌+◌, min, Bool, true, false, List, ◌++◌, length, Option}
use Rattle.std.specs.Io.KnownBytes.{Appends}

-- the bytes that wait, how many went out (as far as 64 bits count), and whether the sink failed
pub record Outgoing : Type 0 where
  pub waiting : List ℕ
  pub written : ℕ
  pub failed : Bool

-- what a sink tells: the bytes that went out to it, where it tells them, and whether it has failed
pub record SinkState : Type 0 where
  pub gone_out : Option (List ℕ)
  pub failed : Bool

abbrev pub sink_state : Option (List ℕ) → Bool → SinkState
sink_state gone_out failed = record { gone_out = gone_out; failed = failed }

-- of what waited and these bytes, some went out; the rest waits, unless the sink failed
pub record Hands (old new : Outgoing) (before after : SinkState) (bytes : List ℕ) : Type 0 where
  pub out : List ℕ
  pub left : List ℕ
  pub split : old.waiting ++ bytes ≡ out ++ left
  pub went : Appends before.gone_out after.gone_out out
  pub counted : min new.written 18446744073709551615 ≡ min (old.written + length out) 18446744073709551615
  pub waits : new.failed ≡ false → left ≡ new.waiting
  pub kept : new.failed ≡ false → after.failed ≡ before.failed
  pub fault : new.failed ≡ true → after.failed ≡ true

-- these bytes were put behind those that waited; after a failure nothing more is done
pub record Puts (old new : Outgoing) (before after : SinkState) (bytes : List ℕ) : Type 0 where
  pub stopped : old.failed ≡ true → (new ≡ old) × (after ≡ before)
  pub going : old.failed ≡ false → Hands old new before after bytes

-- these bytes were put on their way to a sink, by what it tells
abbrev pub PutsTo : {S : Type 0} → (S → Option (List ℕ)) → (S → Bool) → Outgoing → Outgoing → S → S → List ℕ → Type 0
PutsTo gone_out has_failed old new before after bytes =
    Puts old new (sink_state (gone_out before) (has_failed before)) (sink_state (gone_out after) (has_failed after)) bytes
