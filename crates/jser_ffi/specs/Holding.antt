-- A handle that holds something, or nothing.
use Rattle.std.specs.Prelude.{Bool, true, false, Option, Some, None}

abbrev pub Holds : {X : Type 0} → Option X → Type 0
Holds None = ⊥
Holds (Some x) = Unit {0}

abbrev pub is_held : {X : Type 0} → Option X → Bool
is_held None = false
is_held (Some x) = true

-- it holds something of which this holds
abbrev pub HoldsSuch : {X : Type 0} → (X → Type 0) → Option X → Type 0
HoldsSuch P None = ⊥
HoldsSuch P (Some x) = P x
