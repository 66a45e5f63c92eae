-- What is written of contents passes the open gate, with its limits lowered to those of trees.
use Rattle.std.proofs.Common.{◌≡◌, ℕ, ◌-◌, ◌^◌, List, [], ◌∷◌, refl, arith}
use Rattle.jser_grammar.specs.CheckedNames.{checked_names}
use Rattle.jser_reading.specs.GateLimits.{Each}
use Rattle.jser_verdict.specs.Gates.{pass}
use Rattle.jser_reader.specs.Gates.{open_gate}
use Rattle.jser_trees.specs.Laws.{WrittenPasses}
use Rattle.jser_trees.proofs.RefsBounded.{refs_contents}
use Rattle.jser_trees.proofs.ArraysBounded.{arrays_contents}
use Rattle.jser_trees.proofs.HandlesBounded.{epochs_bounded}

all_pass : (names : List (List ℕ)) → Each (λ name. open_gate.answer name ≡ pass) names
all_pass [] = tt
all_pass (name ∷ names) = (refl, all_pass names)

pub written_passes : WrittenPasses
written_passes list c =
    let size = c.size in
    let depth = c.depth in (
      (refl, c.well_formed),
      all_pass (checked_names list),
      omega (arith, size),
      omega (arith, depth),
      omega (arith, size, refs_contents list),
      arrays_contents list (2 ^ 31 - 1) (omega (arith, size)),
      epochs_bounded list [] 2139226112 (omega (arith, size)),
    )
