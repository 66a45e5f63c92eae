-- An input that keeps the last bytes that it gave, as contracts see it.
use Rattle.std.specs.Prelude.{◌≡◌, ℕ, Bool, List, ◌++◌, Option, None, Some}
use Rattle.jser_inputs.specs.declared.InputFault.{InputFault}
use Rattle.jser_scan.specs.LastSeen.{LastSeen, AreLast}

-- the bytes to come, where they are known; whether a read failed, and why; the last bytes that it gave
pub record ToldInput : Type 0 where
  pub bytes : Option (List ℕ)
  pub has_failed : Bool
  pub why : InputFault
  pub last : LastSeen

-- of all its bytes, from the first to the last, it has given all but the rest, and keeps the last ones of these
pub record HasGiven (last : LastSeen) (rest all : List ℕ) : Type 0 where
  pub given : List ℕ
  pub split : all ≡ given ++ rest
  pub ends : AreLast last given

-- an input that tells the rest has given so much, and keeps its end
abbrev pub KeepsEnd : (rest : Option (List ℕ)) → LastSeen → (all : List ℕ) → Type 0
KeepsEnd None last all = ⊥
KeepsEnd (Some rest) last all = HasGiven last rest all
