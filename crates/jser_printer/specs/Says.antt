-- What a call said: it put the bytes of a text before whatever follows. A text is a function of what follows it, so that
-- texts are joined by putting one function behind another.
use Rattle.std.specs.Prelude.{ℕ, ◌≡◌, Bool, List, ◌++◌, Option}
use Rattle.jser_prim.specs.Outgoing.{Outgoing, SinkState, Puts, sink_state}

-- Some bytes were put: with them all of a text is said but what is left of it.
pub record Saying (old new : Outgoing) (before after : SinkState) (all left : List ℕ → List ℕ) : Type 0 where
  pub bytes : List ℕ
  pub puts : Puts old new before after bytes
  pub is : (k : List ℕ) → all k ≡ bytes ++ left k

-- A text was said.
abbrev pub Says : Outgoing → Outgoing → SinkState → SinkState → (List ℕ → List ℕ) → Type 0
Says old new before after text = Saying old new before after text (λ k. k)

-- A text was said to a sink, by what it tells.
abbrev pub SaysTo : {S : Type 0} → (S → Option (List ℕ)) → (S → Bool) → Outgoing → Outgoing → S → S → (List ℕ → List ℕ) → Type 0
SaysTo gone_out has_failed old new before after text =
    Says old new (sink_state (gone_out before) (has_failed before)) (sink_state (gone_out after) (has_failed after)) text

-- Some of a text was said, and this is left.
abbrev pub SayingTo : {S : Type 0} → (S → Option (List ℕ)) → (S → Bool) → Outgoing → Outgoing → S → S → (all left : List ℕ → List ℕ) → Type 0
SayingTo gone_out has_failed old new before after all left =
    Saying old new (sink_state (gone_out before) (has_failed before)) (sink_state (gone_out after) (has_failed after)) all left

-- A beginning of a text was said.
pub record Begins (old new : Outgoing) (before after : SinkState) (all : List ℕ → List ℕ) : Type 0 where
  pub left : List ℕ → List ℕ
  pub said : Saying old new before after all left

abbrev pub BeginsTo : {S : Type 0} → (S → Option (List ℕ)) → (S → Bool) → Outgoing → Outgoing → S → S → (List ℕ → List ℕ) → Type 0
BeginsTo gone_out has_failed old new before after text =
    Begins old new (sink_state (gone_out before) (has_failed before)) (sink_state (gone_out after) (has_failed after)) text
