-- Names that stand at the front of a text and end where it ends.
use Rattle.std.proofs.Common.{◌≡◌, ℕ, List, ◌∷◌, length, Some, None, inl, inr, sym, subst}
use Rattle.jser_anywhere.specs.declared.names.Stand.{Stand}
use Rattle.jser_anywhere.specs.NamesIn.{Named, IsNamed, Telling, TellsNext, class_in, names_in, untold}
use Rattle.jser_anywhere.specs.Standing.{StandsAt}
use Rattle.jser_anywhere.proofs.NamedLemmas.{all_are_named, names_stand}

-- these names tell each of them, and no other
pub record AreOf (text : List ℕ) (names : List Named) : Type 0 where
  pub stand : (units : List ℕ) → IsNamed 0 (length text) units names → StandsAt text 0 (length text) units
  pub all : (units : List ℕ) → StandsAt text 0 (length text) units → IsNamed 0 (length text) units names

pub first_names : (text : List ℕ) (names : List Named) → names ≡ names_in 0 text → AreOf text names
first_names text names is = record {
  stand = λ units named. names_stand text 0 (length text) units (subst (λ ns. IsNamed 0 (length text) units ns) is named);
  all = λ units stands. subst (λ ns. IsNamed 0 (length text) units ns) (sym is) (all_are_named text 0 (length text) units stands);
}

-- the next name begins or ends at another place
behind_other : (text units : List ℕ) (first : Named) (names : List Named) → ((first.from ≡ 0) × (first.to ≡ length text) → ⊥) → IsNamed 0 (length text) units (first ∷ names) → IsNamed 0 (length text) units names
behind_other text units first names other (inl here) = absurd (other (here.0, here.1))
behind_other text units first names other (inr later) = later

later_names : (text : List ℕ) (old new : Telling) (found : Stand) → AreOf text (untold old) → TellsNext old (Some found) new
    → ((found.from ≡ 0) × (found.to ≡ length text) → ⊥) → AreOf text (untold new)
later_names text old new found are tells other = record {
  stand = λ units named. are.stand units (subst (λ ns. IsNamed 0 (length text) units ns) (sym tells) (inr named));
  all = λ units stands.
      behind_other text units (record { from = found.from; at = found.at; to = found.to; text = new.last; units = class_in new.last }) (untold new) other
      (subst (λ ns. IsNamed 0 (length text) units ns) tells (are.all units stands));
}

pub begins_later : (text : List ℕ) (old new : Telling) (found : Stand) → AreOf text (untold old) → TellsNext old (Some found) new
    → (found.from ≡ 0 → ⊥) → AreOf text (untold new)
begins_later text old new found are tells other = later_names text old new found are tells (λ here. other here.0)

pub ends_elsewhere : (text : List ℕ) (old new : Telling) (found : Stand) → AreOf text (untold old) → TellsNext old (Some found) new
    → (found.to ≡ length text → ⊥) → AreOf text (untold new)
ends_elsewhere text old new found are tells other = later_names text old new found are tells (λ here. other here.1)

pub named_here : (text units : List ℕ) (old new : Telling) (found : Stand) → AreOf text (untold old) → TellsNext old (Some found) new
    → found.from ≡ 0 → found.to ≡ length text → units ≡ class_in new.last → StandsAt text 0 (length text) units
named_here text units old new found are tells from to is =
    are.stand units (subst (λ ns. IsNamed 0 (length text) units ns) (sym tells) (inl (from, to, sym is)))

pub none_left : (text : List ℕ) (old new : Telling) → AreOf text (untold old) → TellsNext old None new → (units : List ℕ) → StandsAt text 0 (length text) units → ⊥
none_left text old new are none units stands = subst (λ ns. IsNamed 0 (length text) units ns) none (are.all units stands)
