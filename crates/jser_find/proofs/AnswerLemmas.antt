-- The answer for a stream.
use Rattle.std.proofs.Common.{ℕ, List, sym, subst}
use Rattle.jser_reader.specs.declared.Refusal.{Refusal}
use Rattle.jser_reader.specs.declared.Totals.{Totals}
use Rattle.jser_check.specs.Answers.{Reports, Refuses}
use Rattle.jser_scan.specs.declared.check.Rules.{Rules}
use Rattle.jser_scan.specs.declared.found.Found.{Found}
use Rattle.jser_scan.specs.declared.found.Found.TheVariants as found
use Rattle.jser_scan.specs.Founds.{IsNameFor, IsRefusal, options_in}
use Rattle.jser_find.specs.Answers.{IsJudged}

pub judged_accepted : (rules : Rules) (bytes : List ℕ) (totals : Totals) → Reports rules.filter (options_in rules) bytes totals → IsJudged rules bytes (found.Accepted totals)
judged_accepted rules bytes totals is = is

pub judged_refused : (rules : Rules) (bytes : List ℕ) (refusal : Refusal) (result : Found) → Refuses rules.filter (options_in rules) bytes refusal
    → IsRefusal rules refusal result → IsJudged rules bytes result
judged_refused rules bytes refusal (found.Accepted totals) h is = absurd is
judged_refused rules bytes refusal (found.Refused same class) h is =
    (subst (λ r. Refuses rules.filter (options_in rules) bytes r) (sym is.0) h, subst (λ r. IsNameFor rules r.reason class) (sym is.0) is.1)
judged_refused rules bytes refusal (found.Hidden from to class) h is = absurd is
judged_refused rules bytes refusal found.NotOpened h is = absurd is
judged_refused rules bytes refusal (found.NotRead why) h is = absurd is
judged_refused rules bytes refusal found.OutOfMemory h is = tt
