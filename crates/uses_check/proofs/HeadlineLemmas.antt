-- A check says yes exactly where the filter admits, and two checks of the same bytes answer the same.
use Rattle.std.proofs.Common.{◌≡◌, ℕ, true, false, List, length, Option, Some, None, refl, sym, ap, subst, ◌∙◌}
use Rattle.std.specs.Prelude.{◌↔◌, IfSome}
use Rattle.jser_grammar.specs.Parts.{IsBytes}
use Rattle.jser_grammar.specs.Trees.{ContentTrees}
use Rattle.jser_grammar.specs.Counts.{content_count, refs_of, depth_of, handle_count}
use Rattle.jser_reading.specs.ByteLaws.{OneReading}
use Rattle.jser_verdict.specs.Gates.{Gate}
use Rattle.jser_verdict.specs.AnswerLaws.{OneFirstFault}
use Rattle.jser_reader.specs.declared.Refusal.{Refusal}
use Rattle.jser_reader.specs.Reasons.{named}
use Rattle.jser_filter.specs.Filters.{FilterView}
use Rattle.jser_reader.specs.declared.Stop.{Stop}
use Rattle.jser_reader.specs.declared.Stop.TheVariants as stop
use Rattle.jser_check.specs.declared.CheckFault.{CheckFault}
use Rattle.jser_check.specs.declared.CheckFault.TheVariants as fault
use Rattle.jser_check.specs.SourceAnswers.{IfFaultRefused}
use Rattle.jser_check.specs.declared.Options.{Options}
use Rattle.jser_reader.specs.declared.Totals.{Totals}
use Rattle.jser_check.specs.Admitted.{AreAdmitted}
use Rattle.jser_reader.specs.Tallies.{AreTotals}
use Rattle.jser_check.specs.Answers.{Reports, Refuses, CarriesFirst}

-- ---- exactly

pub yes_admitted : (filter : FilterView) (options : Options) (bytes : List ℕ) (report : Totals) → Reports filter options bytes report
    → (true ≡ true) ↔ AreAdmitted filter options bytes
yes_admitted filter options bytes report r = (λ yes. (r.0, r.1), λ are. refl)

pub no_admitted : (filter : FilterView) (options : Options) (bytes : List ℕ) (refusal : Refusal) → Refuses filter options bytes refusal
    → (false ≡ true) ↔ AreAdmitted filter options bytes
no_admitted filter options bytes refusal r = (λ no. absurd (let e : false ≡ true = no in cc), λ are. absurd (r.none are))

pub yes_told : (filter : FilterView) (options : Options) (told : Option (List ℕ)) (report : Totals) → IfSome told (λ bytes. Reports filter options bytes report)
    → IfSome told (λ bytes. (true ≡ true) ↔ AreAdmitted filter options bytes)
yes_told filter options None report r = tt
yes_told filter options (Some bytes) report r = yes_admitted filter options bytes report r

pub no_told : (filter : FilterView) (options : Options) (told : Option (List ℕ)) (refusal : Refusal) → IfSome told (λ bytes. Refuses filter options bytes refusal)
    → IfSome told (λ bytes. (false ≡ true) ↔ AreAdmitted filter options bytes)
no_told filter options None refusal r = tt
no_told filter options (Some bytes) refusal r = no_admitted filter options bytes refusal r

-- ---- the same

counts_of : List ℕ → ContentTrees → Totals
counts_of bytes list =
    record { bytes = length bytes; contents = content_count list; refs = refs_of list; depth = depth_of list; handles = handle_count list }

report_is : (bytes : List ℕ) (list : ContentTrees) (report : Totals) → AreTotals bytes list report → report ≡ counts_of bytes list
unfolding counts_of
report_is bytes list report is =
    ap (λ n. record { bytes = n; contents = report.contents; refs = report.refs; depth = report.depth; handles = report.handles }) is.all_bytes
    ∙ ap (λ n. record { bytes = length bytes; contents = n; refs = report.refs; depth = report.depth; handles = report.handles }) is.contents
    ∙ ap (λ n. record { bytes = length bytes; contents = content_count list; refs = n; depth = report.depth; handles = report.handles }) is.refs
    ∙ ap (λ n. record { bytes = length bytes; contents = content_count list; refs = refs_of list; depth = n; handles = report.handles }) is.depth
    ∙ ap (λ n. record { bytes = length bytes; contents = content_count list; refs = refs_of list; depth = depth_of list; handles = n }) is.handles

pub reports_same : OneReading → (filter : FilterView) (options : Options) (bytes : List ℕ) (told : Option (List ℕ)) (report other : Totals)
    → told ≡ Some bytes → Reports filter options bytes report → IfSome told (λ bytes. Reports filter options bytes other) → report ≡ other
reports_same one filter options bytes told report other is r o =
    let s = subst (λ t. IfSome t (λ bytes. Reports filter options bytes other)) is o in
    report_is bytes r.0 report r.2 ∙ ap (counts_of bytes) (one bytes r.0 s.0 r.1.stream s.1.stream) ∙ sym (report_is bytes s.0 other s.2)

pub report_not_refused : (filter : FilterView) (options : Options) (bytes : List ℕ) (told : Option (List ℕ)) (report : Totals) (refusal : Refusal)
    → told ≡ Some bytes → Reports filter options bytes report → IfSome told (λ bytes. Refuses filter options bytes refusal) → ⊥
report_not_refused filter options bytes told report refusal is r o =
    (subst (λ t. IfSome t (λ bytes. Refuses filter options bytes refusal)) is o).none (r.0, r.1)

pub refused_not_reported : (filter : FilterView) (options : Options) (bytes : List ℕ) (told : Option (List ℕ)) (report : Totals) (refusal : Refusal)
    → told ≡ Some bytes → Refuses filter options bytes refusal → IfSome told (λ bytes. Reports filter options bytes report) → ⊥
refused_not_reported filter options bytes told report refusal is r o =
    let s = subst (λ t. IfSome t (λ bytes. Reports filter options bytes report)) is o in r.none (s.0, s.1)

first_same : OneFirstFault → (gate : Gate) (bytes : List ℕ) (refusal other : Refusal) → CarriesFirst gate bytes refusal → CarriesFirst gate bytes other
    → refusal ≡ other
first_same one gate bytes refusal other a b =
    let same = one gate bytes refusal.from_byte refusal.to_byte other.from_byte other.to_byte a.reason b.reason a.is_first b.is_first in
    ap (λ n. record { from_byte = n; to_byte = refusal.to_byte; reason = refusal.reason }) same.0
    ∙ ap (λ n. record { from_byte = other.from_byte; to_byte = n; reason = refusal.reason }) same.1
    ∙ ap (λ r. record { from_byte = other.from_byte; to_byte = other.to_byte; reason = r }) (a.is_named ∙ ap named same.2 ∙ sym b.is_named)

pub first_of_fault : (gate : Gate) (told : Option (List ℕ)) (f : CheckFault) (why : Stop) (other : Refusal) → f ≡ fault.Stop why → why ≡ stop.Refused other
    → IfSome told (λ bytes. IsBytes bytes → IfFaultRefused (CarriesFirst gate bytes) f) → IfSome told (λ bytes. IsBytes bytes → CarriesFirst gate bytes other)
first_of_fault gate told f why other is also first =
    subst (λ w. IfSome told (λ bytes. IsBytes bytes → IfFaultRefused (CarriesFirst gate bytes) (fault.Stop w))) also
    (subst (λ x. IfSome told (λ bytes. IsBytes bytes → IfFaultRefused (CarriesFirst gate bytes) x)) is first)

pub refused_same : OneFirstFault → (gate : Gate) (bytes : List ℕ) (told : Option (List ℕ)) (refusal other : Refusal) → IsBytes bytes → told ≡ Some bytes
    → CarriesFirst gate bytes refusal → IfSome told (λ bytes. IsBytes bytes → CarriesFirst gate bytes other) → refusal ≡ other
refused_same one gate bytes told refusal other all is r o =
    first_same one gate bytes refusal other r (subst (λ t. IfSome t (λ bytes. IsBytes bytes → CarriesFirst gate bytes other)) is o all)
