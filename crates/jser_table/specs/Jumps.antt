-- How far the links of a class lead, so that a walk up a chain takes steps in the order of its logarithm: the links are those
-- of a skew-binary list, and a walk takes the longest one that does not lead too far.
use Rattle.std.specs.Prelude.{ℕ, ◌≡◌, ◌+◌, ◌*◌, ◌<◌, List, Some, slice_get}
use Rattle.jser_table.specs.declared.descriptor.Descriptor.{Descriptor}
use Rattle.jser_table.specs.declared.descriptor.Links.{Links}
use Rattle.jser_table.specs.declared.descriptor.Counted.{Counted}
use Rattle.jser_table.specs.Descriptors.{told_count}

-- Where the jump of the parent, and the jump of the class to which that leads, are as long as each other, a class jumps
-- beyond both.
abbrev pub JumpsFar : List Descriptor → (parent jump : ℕ) → Type 0
JumpsFar descriptors parent jump =
    (above middle top : Descriptor) (near far : Links)
    → slice_get descriptors parent ≡ Some above → above.links ≡ Some near
    → slice_get descriptors near.jump ≡ Some middle → middle.links ≡ Some far
    → slice_get descriptors far.jump ≡ Some top → above.layers + top.layers ≡ 2 * middle.layers
    → jump ≡ far.jump

-- a walk takes the jump wherever the count there is still over the bound
abbrev pub TakesJump : List Descriptor → Counted → (bound place higher : ℕ) → Type 0
TakesJump descriptors counted bound place higher =
    (class above : Descriptor) (links : Links)
    → slice_get descriptors place ≡ Some class → class.links ≡ Some links
    → slice_get descriptors links.jump ≡ Some above → bound < told_count counted above
    → higher ≡ links.jump
