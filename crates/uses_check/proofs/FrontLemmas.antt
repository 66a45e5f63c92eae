-- The front of some bytes, as a caller cuts it.
use Rattle.std.specs.Prelude.{IfSome}
use Rattle.std.proofs.Common.{◌≡◌, ◌⊎◌, ℕ, ◌<◌, ◌≤◌, List, [], ◌++◌, length, take, Option, Some, None, Result, Ok, Err, inl, inr, refl, sym, subst, append-nil, arith}
use Rattle.jser_grammar.specs.Parts.{IsBytes}
use Rattle.jser_filter.specs.Filters.{FilterView}
use Rattle.jser_check.specs.declared.Options.{Options}
use Rattle.jser_reader.specs.declared.Refusal.{Refusal}
use Rattle.jser_reader.specs.declared.Stop.{Stop}
use Rattle.jser_reader.specs.declared.Stop.TheVariants as stop
use Rattle.jser_reader.specs.declared.Totals.{Totals}
use Rattle.jser_check.specs.Admitted.{AreAdmitted, FilterWith}
use Rattle.jser_check.specs.Answers.{IfRefused}
use Rattle.jser_check.specs.Fronts.{IfDecided, IsFront, StaysFront}

abbrev IsFound : ℕ → ℕ → Type 0
IsFound whole n = (n ≡ whole) × (0 < n)

pub front_admitted : (filter : FilterView) (options : Options) (bytes : List ℕ) (whole : ℕ) (result : Option ℕ) → IsFront filter options bytes whole → IfSome result (IsFound whole)
    → IfSome result (λ n. AreAdmitted filter options (take n bytes))
front_admitted filter options bytes whole None f h = tt
front_admitted filter options bytes whole (Some n) f h = subst (λ k. AreAdmitted filter options (take k bytes)) (sym h.0) (some f.front)
  where
    some : (whole ≡ 0) ⊎ AreAdmitted filter options (take whole bytes) → AreAdmitted filter options (take whole bytes)
    some (inl none) = let is = h.0 in let more = h.1 in absurd (omega arith)
    some (inr are) = are

pub front_longest : (filter : FilterView) (options : Options) (bytes : List ℕ) (whole : ℕ) (result : Option ℕ) → IsFront filter options bytes whole → IfSome result (IsFound whole)
    → IfSome result (λ n. (m : ℕ) → n < m → m ≤ length bytes → AreAdmitted filter options (take m bytes) → ⊥)
front_longest filter options bytes whole None f h = tt
front_longest filter options bytes whole (Some n) f h = λ m lt le are. let is = h.0 in f.longest m (omega arith) le are

-- nothing comes after the bytes
pub front_now : (filter : FilterView) (options : Options) (bytes : List ℕ) (n : ℕ) → StaysFront filter options bytes n → IsFront filter options bytes n
front_now filter options bytes n h = subst (λ xs. IsFront filter options xs n) (append-nil bytes) (h [] no_bytes)
  where
    no_bytes : IsBytes []
    no_bytes = refl

-- a check that was decided
pub decided_yes : (P : Type 0) (answer : Result Totals Stop) (report : Totals) → answer ≡ Ok report → IfDecided P answer → P
decided_yes P answer report e h = subst (IfDecided P) e h

pub decided_no : (P : Type 0) (answer : Result Totals Stop) (why : Stop) (refusal : Refusal) → answer ≡ Err why → why ≡ stop.Refused refusal → IfDecided P answer → P
decided_no P answer why refusal e er h = subst (λ s. IfDecided {X = Totals} P (Err s)) er (subst (IfDecided P) e h)

-- the filter is as it was
pub same_filter : (old new : FilterWith) (bytes : List ℕ) (n : ℕ) → new ≡ old → IsFront new.filter new.options bytes n → IsFront old.filter old.options bytes n
same_filter old new bytes n e h = subst (λ (g : FilterWith). IsFront g.filter g.options bytes n) e h

pub told_front : (filter : FilterView) (options : Options) (bytes : List ℕ) (n m : ℕ) → n ≡ m → StaysFront filter options bytes m → IsFront filter options bytes n
told_front filter options bytes n m e h = subst (IsFront filter options bytes) (sym e) (front_now filter options bytes m h)

pub refused_front : (filter : FilterView) (options : Options) (bytes : List ℕ) (n m : ℕ) (why : Stop) (refusal : Refusal) → why ≡ stop.Refused refusal
    → IfRefused (λ _. StaysFront filter options bytes m) why → n ≡ m → IsFront filter options bytes n
refused_front filter options bytes n m why refusal er h e = told_front filter options bytes n m e (subst (IfRefused (λ _. StaysFront filter options bytes m)) er h)
