-- From what the laws say of all streams to what they say of two.
use Rattle.std.proofs.Common.{◌≡◌, ◌⊎◌, ℕ, true, List, [], ◌∷◌, Result, Ok, Err, IfOk, OnOk, inl, inr}
use Rattle.jser_table.specs.Names.{element}
use Rattle.jser_filter.specs.Filters.{FilterView, verdict_by}
use Rattle.jser_check.specs.declared.gate.Options.{Options}
use Rattle.jser_check.specs.Admitted.{AreAdmitted}
use Rattle.jser_suggest.specs.Suggested.{Known, is_plain}
use Rattle.jser_suggest.specs.Samples.{AreKnown, HasElement, OfStream, Some_of}
use Rattle.jser_suggest.specs.Answers.{Learns}
use Rattle.jser_suggest.specs.Laws.{Has, Admits, AllowsOnly, IsAllowed}

pub both_admitted : {X : Type 0} (first second : List ℕ) (known : Known) (result : Result FilterView X) → Admits → AreKnown (second ∷ first ∷ []) known → IfOk result (λ filter. Has filter known)
    → IfOk result (λ filter. (options : Options) → AreAdmitted filter options first × AreAdmitted filter options second)
both_admitted first second known (Ok filter) law are has = λ options. let each = law (second ∷ first ∷ []) known filter options are has in (each.1.0, each.0)
both_admitted first second known (Err why) law are has = tt

one_of : (first second : List ℕ) (P : List ℕ → Type 0) → Some_of P (second ∷ first ∷ []) → P first ⊎ P second
one_of first second P (inl p) = inr p
one_of first second P (inr (inl p)) = inl p
one_of first second P (inr (inr p)) = absurd p

pub one_has : {X : Type 0} (first second : List ℕ) (known : Known) (result : Result FilterView X) → AllowsOnly → AreKnown (second ∷ first ∷ []) known → IfOk result (λ filter. Has filter known)
    → IfOk result (λ filter. (name : List ℕ) → IsAllowed (verdict_by filter (element name)) → OfStream (λ bytes list. HasElement name list) first ⊎ OfStream (λ bytes list. HasElement name list) second)
one_has first second known (Ok filter) law are has =
    λ name allowed. one_of first second (OfStream (λ bytes list. HasElement name list)) (are.names_from name ((law known filter name has).0 allowed))
one_has first second known (Err why) law are has = tt

pub plain_alone : {X : Type 0} (first second : List ℕ) (known : Known) (result : Result FilterView X) → AllowsOnly → AreKnown (second ∷ first ∷ []) known → IfOk result (λ filter. Has filter known)
    → IfOk result (λ filter. (name : List ℕ) → IsAllowed (verdict_by filter (element name)) → is_plain name ≡ true)
plain_alone first second known (Ok filter) law are has = λ name allowed. are.plain name ((law known filter name has).0 allowed)
plain_alone first second known (Err why) law are has = tt

pub learns_again : {X : Type 0} (first second : List ℕ) (mid new : Known) (result : Result (Unit {0}) X) → OnOk result (Learns second mid new) → AreKnown (first ∷ []) mid
    → OnOk result (AreKnown (second ∷ first ∷ []) new)
learns_again first second mid new (Ok x) learns are = learns (first ∷ []) are
learns_again first second mid new (Err why) learns are = tt
