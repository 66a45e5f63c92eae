-- What a call of the builder tells of what stands at the front of the bytes.
use Rattle.std.specs.Prelude.{◌≡◌, ℕ, List, Option, Some, None, Result, Ok, Err}
use Rattle.jser_trees.specs.declared.cursor.Fault.{Fault}
use Rattle.jser_trees.specs.declared.cursor.Fault.TheVariants as fault
use Rattle.jser_trees.specs.Building.{Built}

-- Unless memory ran out: the part that the definition finds there, with the bytes that are left behind it; or that it
-- finds none.
abbrev pub Finds : {X Y : Type 0} → (X → Y) → Result X Fault → List ℕ → Built Y → Type 0
Finds view (Ok x) left built = built ≡ Some (view x, left)
Finds view (Err fault.Lost) left built = built ≡ None
Finds view (Err fault.OutOfMemory) left built = Unit {0}

-- what the definition finds in all the bytes, or that it finds nothing
abbrev pub FindsAll : {X Y : Type 0} → (X → Y) → Result X Fault → Option Y → Type 0
FindsAll view (Ok x) built = built ≡ Some (view x)
FindsAll view (Err fault.Lost) built = built ≡ None
FindsAll view (Err fault.OutOfMemory) built = Unit {0}
