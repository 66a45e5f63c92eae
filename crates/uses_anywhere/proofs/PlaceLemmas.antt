-- What the laws of the names that can be read at any place mean for those who read them one after another.
use Rattle.std.proofs.Common.{◌≡◌, ◌≢◌, inl, inr, ℕ, Bool, true, false, List, ◌∷◌, ◌++◌, Some, None, refl, sym, ◌∙◌, subst}
use Rattle.std.specs.Str.{bytes_eq}
use Rattle.std.proofs.lemmas.Slice.Eq.{bytes_eq-Decides}
use Rattle.jser_anywhere.specs.declared.names.Stand.{Stand}
use Rattle.jser_anywhere.specs.Laws.{StandsForGood}
use Rattle.jser_anywhere.specs.LoadableNames.{IsPlainName}
use Rattle.jser_anywhere.specs.NamesIn.{Named, Telling, class_in, untold, names_in, TellsNext, IsNamed, NamesStand, AllAreNamed}
use Rattle.jser_anywhere.specs.Standing.{AllPass, IsFirstHidden, StandsAt}
use Rattle.jser_filter.specs.Filters.{FilterView}
use Rattle.jser_check.specs.declared.Options.{Options}
use Rattle.jser_check.specs.Admitted.{gate_of_filter}
use Rattle.jser_check.specs.Passing.{NamesAreJudged, passes_as, passes_name}
use Rattle.jser_table.specs.Names.{NameKind, plain_name, array_name, malformed_name, name_kind, view_kind}
use Rattle.jser_verdict.specs.Gates.{Answer, is_pass}

-- of a name with these units, the names that are still to come tell as much as all
pub record IsOpen (all rest : List Named) (units : List ℕ) : Type 0 where
  pub within : (from to : ℕ) → IsNamed from to units rest → IsNamed from to units all
  pub others : (from to : ℕ) → IsNamed from to units all → IsNamed from to units rest

pub opens : (all rest : List Named) (units : List ℕ) → rest ≡ all → IsOpen all rest units
opens all rest units is = record {
  within = λ from to named. subst (IsNamed from to units) is named;
  others = λ from to named. subst (IsNamed from to units) (sym is) named;
}

later : (units last : List ℕ) (rest : List Named) (at : Named) (from to : ℕ) → at.units ≡ last → (last ≡ units → ⊥) → IsNamed from to units (at ∷ rest) → IsNamed from to units rest
later units last rest at from to is other (inl here) = absurd (other (sym is ∙ here.2))
later units last rest at from to is other (inr named) = named

unequal : (last units : List ℕ) → bytes_eq last units ≡ false → last ≡ units → ⊥
unequal last units other is = absurd (let same = (bytes_eq-Decides last units).1 is in cc)

-- the next name has other units
pub passed : (all : List Named) (units : List ℕ) (old new : Telling) (found : Stand) → TellsNext old (Some found) new → bytes_eq (class_in new.last) units ≡ false
    → IsOpen all (untold old) units → IsOpen all (untold new) units
passed all units old new found tells other told = record {
  within = λ from to named. told.within from to (subst (IsNamed from to units) (sym tells) (inr named));
  others = λ from to named. later units (class_in new.last) (untold new) (record { from = found.from; at = found.at; to = found.to; text = new.last; units = class_in new.last }) from to refl (unequal (class_in new.last) units other)
      (subst (IsNamed from to units) tells (told.others from to named));
}

-- the next name has these units
pub met : (bytes units : List ℕ) (old new : Telling) (found : Stand) → NamesStand → TellsNext old (Some found) new → bytes_eq (class_in new.last) units ≡ true
    → IsOpen (names_in 0 bytes) (untold old) units → StandsAt bytes found.from found.to units
met bytes units old new found stand tells is told =
    stand bytes found.from found.to units (told.within found.from found.to (subst (IsNamed found.from found.to units) (sym tells) (inl (refl, refl, (bytes_eq-Decides (class_in new.last) units).0 is))))

-- no name is left
pub unmet : (bytes units : List ℕ) (old new : Telling) → AllAreNamed → TellsNext old None new → IsOpen (names_in 0 bytes) (untold old) units
    → (from to : ℕ) → StandsAt bytes from to units → ⊥
unmet bytes units old new all none told from to stands =
    subst (IsNamed from to units) none (told.others from to (all bytes from to units stands))

-- a name that does not pass is in all that begin so
pub hidden_for_good : (passes : List ℕ → Bool) (bytes : List ℕ) (from to : ℕ) → StandsForGood → IsFirstHidden passes bytes from to
    → (more : List ℕ) → AllPass passes (bytes ++ more) → ⊥
hidden_for_good passes bytes from to good first more all =
    let hidden = first.hidden in
    all from to (record { units = hidden.units; stands = good bytes more from to hidden.units hidden.stands; fails = hidden.fails })

answer_of : (answer : Answer) (kind : NameKind) → kind ≢ malformed_name → passes_as answer (view_kind kind) ≡ is_pass answer
answer_of answer plain_name other = refl
answer_of answer (array_name body) other = refl
answer_of answer malformed_name other = absurd (other refl)

pub judged_as_checked : (filter : FilterView) (options : Options) (name : List ℕ) → NamesAreJudged → IsPlainName name
    → passes_name filter options name ≡ is_pass ((gate_of_filter filter options).answer name)
judged_as_checked filter options name judged loadable = answer_of ((gate_of_filter filter options).answer name) (name_kind name) (judged name loadable)
