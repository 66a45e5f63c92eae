-- What the laws say that no filter can do.
use Rattle.std.proofs.Common.{◌≡◌, ◌⊎◌, ℕ, false, true, List, [], ◌∷◌, Result, Ok, Err, IfOk, inl, inr, sym, subst, ◌∙◌}
use Rattle.std.specs.Prelude.{Vec}
use Rattle.std.specs.Global.{Global}
use Rattle.jser_table.specs.Names.{element_of, malformed_element}
use Rattle.jser_grammar.specs.CheckedNames.{checked_names}
use Rattle.jser_filter.specs.Filters.{FilterView}
use Rattle.jser_check.specs.declared.gate.Options.{Options}
use Rattle.jser_check.specs.Admitted.{AreAdmitted}
use Rattle.jser_suggest.specs.declared.SampleFault.{SampleFault}
use Rattle.jser_suggest.specs.declared.SampleFault.TheVariants as fault
use Rattle.jser_suggest.specs.Answers.{IsNoSample}
use Rattle.jser_suggest.specs.Gathering.{CannotBeWritten, IsUnwritable}
use Rattle.jser_suggest.specs.Laws.{Has, IsLeast, IsTighter, OnlyWritable}
use Rattle.jser_suggest.specs.Samples.{AreKnown, Some_of}
use Rattle.jser_suggest.specs.Suggested.{Known}
use Rattle.uses_suggest.specs.Alone.{IsNeverAlone}

pub refuses_one : {X : Type 0} (others : List (List ℕ)) (few many : Known) (result : Result FilterView X) → IsLeast → AreKnown others many → IsTighter few many → IfOk result (λ filter. Has filter few)
    → IfOk result (λ filter. (options : Options) → Some_of (λ bytes. AreAdmitted filter options bytes → ⊥) others)
refuses_one others few many (Ok filter) least are tighter has = λ options. least others many few filter options are tighter has
refuses_one others few many (Err why) least are tighter has = tt

never : (name : List ℕ) → OnlyWritable → CannotBeWritten name → IsNeverAlone name
never name law (inl not_writable) = λ text alone. absurd (let no : true ≡ false = sym (law text name alone) ∙ not_writable in cc no)
never name law (inr not_plain) = λ text alone. not_plain

told : (name checked : List ℕ) → OnlyWritable → IsUnwritable name checked → (element_of name ≡ malformed_element) ⊎ IsNeverAlone name
told name checked law (inl cannot) = inr (never name law cannot.1)
told name checked law (inr malformed) = inl (subst (λ xs. element_of xs ≡ malformed_element) (sym malformed.1) malformed.0)

one_told : (name : List ℕ) (names : List (List ℕ)) → OnlyWritable → Some_of (IsUnwritable name) names → (element_of name ≡ malformed_element) ⊎ IsNeverAlone name
one_told name [] law some = absurd some
one_told name (checked ∷ names) law (inl here) = told name checked law here
one_told name (checked ∷ names) law (inr later) = one_told name names law later

pub no_sample : (bytes : List ℕ) (why : SampleFault) (name : Vec ℕ Global) → why ≡ fault.Unwritable name → OnlyWritable → IsNoSample bytes why → (element_of name.items ≡ malformed_element) ⊎ IsNeverAlone name.items
no_sample bytes why name is law bad =
    let told : IsNoSample bytes (fault.Unwritable name) = subst (IsNoSample bytes) is bad in
    one_told name.items (checked_names told.0) law told.2
