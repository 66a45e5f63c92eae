-- Steps of the walks of calls that read a filter that is lent.
use mathlib.Core.List.{List}
use seplogic.Ra.Ura.{Ura}
use base.Logic.{SProp, emp, sep}
use types.Logic.{Logic}
use types.Kit.{Item, Step, step, prop, raw, ◌$◌, frame, use0}
use contract.Monad.{fact, fact_i}

module _ {M : Type 1} {𝓤 : Ura M} {𝓛 : Logic 𝓤} {K : Type 0} {Γ : List (Item 𝓤)} where
  -- a goal ⌜φ⌝ ∗ P: φ is shown, and P is left
  pub states : K → {φ : Type 0} {P : SProp 𝓤} → φ → Step K 𝓛 Γ (prop P) Γ (prop (sep 𝓤 (fact 𝓤 φ) P))
  states t {φ} x = step (λ s. use0 𝓛 (raw (fact 𝓤 φ)) (fact_i 𝓤 φ (emp 𝓤) x) $ frame t $ s)
