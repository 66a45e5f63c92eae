-- From what the one check answers where it asks about no names to what the plain check promises.
use Rattle.std.specs.Prelude.{IfErr, IfOk, IfSome, OnOk}
use Rattle.std.proofs.Common.{◌≡◌, ◌≢◌, ℕ, Bool, List, ◌++◌, Option, Some, None, Result, Ok, Err, refl, sym, ap, ◌∙◌, subst}
use Rattle.jser_grammar.specs.Parts.{IsBytes}
use Rattle.jser_reader.specs.declared.Refusal.{Refusal}
use Rattle.jser_reader.specs.declared.Stop.{Stop}
use Rattle.jser_reader.specs.declared.Stop.TheVariants as stop
use Rattle.jser_reader.specs.declared.Totals.{Totals}
use Rattle.jser_check.specs.declared.answer.CheckFault.{CheckFault}
use Rattle.jser_check.specs.declared.answer.CheckFault.TheVariants as plain
use Rattle.jser_check.specs.Admitted.{gate_of_filter}
use Rattle.jser_check.specs.Answers.{IfRefused, Reports, Refuses, CarriesFirst, DecideNothing}
use Rattle.jser_check.specs.Checks.{DecidesIn, IsCut}
use Rattle.jser_check.specs.Fronts.{IsFront, StaysFront, whole_in}
use Rattle.jser_check.specs.Fronts.{IfDecided as IfDecidedPlain}
use Rattle.jser_check.specs.Sources.{FailsWith as FailsPlain}
use Rattle.jser_check.specs.SourceAnswers.{IfFaultRefused, TakesFew as TakesFewPlain}
use Rattle.jser_check.specs.SourceAnswers.{Undecided as UndecidedPlain}
use Rattle.jser_check.specs.declared.fault.AnywhereFault.{AnywhereFault}
use Rattle.jser_check.specs.declared.fault.AnywhereFault.TheVariants as fault
use Rattle.jser_check.specs.Passing.{Asked}
use Rattle.jser_check.specs.Pieces.{AreUndecided, Checking, EndTells, FeedTells, FrontAfter, FrontBy, HasTaken, ReportsBy, asked_by, gate_in}
use Rattle.jser_check.specs.Reads.{Answered, FailsWith}
use Rattle.jser_check.specs.Joins.{over, repeated}
use Rattle.jser_check.specs.Faces.{Ended, IsOver, Repeats, Stopped, as_plain, as_stop}

pub plain_report : (asked : Asked) (bytes : List ℕ) (report : Totals) → ReportsBy asked bytes report → Reports asked.filter asked.options bytes report
plain_report asked bytes report r = (r.0, r.1.admitted, r.2)

-- ---- in pieces

-- what the one check tells of a piece, in words of its face
abbrev pub FedAs : (old new : Checking) → (piece : List ℕ) → Result (Unit {0}) AnywhereFault → Type 0
FedAs old new piece answer = (taken : List ℕ) → HasTaken old taken → FeedTells (asked_by old) taken piece answer new

fed_as : (old new : Checking) (piece : List ℕ) (result : Result (Unit {0}) Stop) (answer : Result (Unit {0}) AnywhereFault) → as_stop result ≡ answer
    → FedAs old new piece answer → FedAs old new piece (as_stop result)
fed_as old new piece result answer e t = subst (λ (r : Result (Unit {0}) AnywhereFault). FedAs old new piece r) (sym e) t

pub piece_takes : (old new : Checking) (piece : List ℕ) (result : Result (Unit {0}) Stop) (answer : Result (Unit {0}) AnywhereFault) → as_stop result ≡ answer
    → FedAs old new piece answer → (taken : List ℕ) → HasTaken old taken → OnOk result (HasTaken new (taken ++ piece))
piece_takes old new piece result answer e t taken h = by result (fed_as old new piece result answer e t taken h)
  where
    by : (result : Result (Unit {0}) Stop) → FeedTells (asked_by old) taken piece (as_stop result) new → OnOk result (HasTaken new (taken ++ piece))
    by (Ok x) t = t
    by (Err why) t = tt

pub piece_undecided : (old new : Checking) (piece : List ℕ) (result : Result (Unit {0}) Stop) (answer : Result (Unit {0}) AnywhereFault) → as_stop result ≡ answer
    → ((taken : List ℕ) → HasTaken old taken → OnOk answer (AreUndecided (asked_by old) (taken ++ piece)))
    → (taken : List ℕ) → HasTaken old taken → OnOk result (DecideNothing (gate_in old) (taken ++ piece))
piece_undecided old new piece result answer e t taken h =
    by result (subst (λ (r : Result (Unit {0}) AnywhereFault). OnOk r (AreUndecided (asked_by old) (taken ++ piece))) (sym e) (t taken h))
  where
    by : (result : Result (Unit {0}) Stop) → OnOk (as_stop result) (AreUndecided (asked_by old) (taken ++ piece)) → OnOk result (DecideNothing (gate_in old) (taken ++ piece))
    by (Ok x) t = t.none
    by (Err why) t = tt

pub piece_refused : (old new : Checking) (piece : List ℕ) (result : Result (Unit {0}) Stop) (answer : Result (Unit {0}) AnywhereFault) → as_stop result ≡ answer
    → FedAs old new piece answer → (taken : List ℕ) → HasTaken old taken → IfErr result (IfRefused (DecidesIn old.reader.gate.filter old.reader.gate.options taken piece))
piece_refused old new piece result answer e t taken h = by result (fed_as old new piece result answer e t taken h)
  where
    by : (result : Result (Unit {0}) Stop) → FeedTells (asked_by old) taken piece (as_stop result) new → IfErr result (IfRefused (DecidesIn old.reader.gate.filter old.reader.gate.options taken piece))
    by (Ok x) t = tt
    by (Err (stop.Refused refusal)) t = t.0
    by (Err stop.OutOfMemory) t = tt
    by (Err stop.Spent) t = t

pub piece_front : (old new : Checking) (piece : List ℕ) (result : Result (Unit {0}) Stop) (answer : Result (Unit {0}) AnywhereFault) → as_stop result ≡ answer
    → FedAs old new piece answer
    → ((taken : List ℕ) → HasTaken old taken → IfErr answer (FrontBy old.reader.gate.filter old.reader.gate.options (taken ++ piece) (whole_in new.reader)))
    → (taken : List ℕ) → HasTaken old taken → IfErr result (IfRefused (λ _. StaysFront old.reader.gate.filter old.reader.gate.options (taken ++ piece) (whole_in new.reader)))
piece_front old new piece result answer e t w taken h =
    by result (fed_as old new piece result answer e t taken h)
    (subst (λ (r : Result (Unit {0}) AnywhereFault). IfErr r (FrontBy old.reader.gate.filter old.reader.gate.options (taken ++ piece) (whole_in new.reader))) (sym e) (w taken h))
  where
    by : (result : Result (Unit {0}) Stop) → FeedTells (asked_by old) taken piece (as_stop result) new
        → IfErr (as_stop result) (FrontBy old.reader.gate.filter old.reader.gate.options (taken ++ piece) (whole_in new.reader))
        → IfErr result (IfRefused (λ _. StaysFront old.reader.gate.filter old.reader.gate.options (taken ++ piece) (whole_in new.reader)))
    by (Ok x) t w = tt
    by (Err (stop.Refused refusal)) t w = w
    by (Err stop.OutOfMemory) t w = tt
    by (Err stop.Spent) t w = t

pub piece_stops : (old new : Checking) (result : Result (Unit {0}) Stop) (answer : Result (Unit {0}) AnywhereFault) → as_stop result ≡ answer
    → ((taken : List ℕ) → HasTaken old taken → IfErr answer (λ why. new.stopped ≡ Some (repeated why)))
    → (taken : List ℕ) → HasTaken old taken → IfErr result (λ why. Stopped why new)
piece_stops old new result answer e t taken h = by result (subst (λ (r : Result (Unit {0}) AnywhereFault). IfErr r (λ why. new.stopped ≡ Some (repeated why))) (sym e) (t taken h))
  where
    by : (result : Result (Unit {0}) Stop) → IfErr (as_stop result) (λ why. new.stopped ≡ Some (repeated why)) → IfErr result (λ why. Stopped why new)
    by (Ok x) t = tt
    by (Err why) t = t

-- ---- after it has stopped

abbrev pub StaysAs : {X : Type 0} → (old new : Checking) → Result X AnywhereFault → Type 0
StaysAs old new answer = (why : AnywhereFault) → old.stopped ≡ Some why → (answer ≡ Err why) × (new ≡ old)

as_told : {X : Type 0} (result : Result X Stop) (why : Stop) → as_stop result ≡ Err (fault.Stop why) → result ≡ Err why
as_told (Ok x) why e = absurd (cc)
as_told (Err other) why e = cc

pub same_repeats : {X : Type 0} (old new : Checking) (result : Result X Stop) (answer : Result X AnywhereFault) → as_stop result ≡ answer → StaysAs old new answer
    → (refusal : Refusal) → Repeats old refusal → (result ≡ Err (stop.Refused refusal)) × Repeats new refusal
same_repeats old new result answer e s refusal r =
    let both = s (fault.Stop (stop.Refused refusal)) r in (as_told result (stop.Refused refusal) (e ∙ both.0), ap (λ (c : Checking). c.stopped) both.1 ∙ r)

pub same_over : {X : Type 0} (old new : Checking) (result : Result X Stop) (answer : Result X AnywhereFault) → as_stop result ≡ answer → StaysAs old new answer
    → IsOver old → (result ≡ Err stop.Spent) × IsOver new
same_over old new result answer e s r =
    let both = s (fault.Stop stop.Spent) r in (as_told result stop.Spent (e ∙ both.0), ap (λ (c : Checking). c.stopped) both.1 ∙ r)

pub repeats_whole : {X : Type 0} (old new : Checking) (answer : Result X AnywhereFault) → StaysAs old new answer
    → (refusal : Refusal) → Repeats old refusal → whole_in new.reader ≡ whole_in old.reader
repeats_whole old new answer s refusal r = ap (λ (c : Checking). whole_in c.reader) (s (fault.Stop (stop.Refused refusal)) r).1

pub over_whole : {X : Type 0} (old new : Checking) (answer : Result X AnywhereFault) → StaysAs old new answer → IsOver old → whole_in new.reader ≡ whole_in old.reader
over_whole old new answer s r = ap (λ (c : Checking). whole_in c.reader) (s (fault.Stop stop.Spent) r).1

-- ---- at the end

abbrev pub EndsAs : Checking → Result Totals AnywhereFault → Type 0
EndsAs old answer = (taken : List ℕ) → HasTaken old taken → EndTells (asked_by old) taken answer

ends_as : (old : Checking) (result : Result Totals Stop) (answer : Result Totals AnywhereFault) → as_stop result ≡ answer → EndsAs old answer → EndsAs old (as_stop result)
ends_as old result answer e t = subst (λ (r : Result Totals AnywhereFault). EndsAs old r) (sym e) t

pub end_reports : (old : Checking) (result : Result Totals Stop) (answer : Result Totals AnywhereFault) → as_stop result ≡ answer → EndsAs old answer
    → (taken : List ℕ) → HasTaken old taken → IfOk result (Reports old.reader.gate.filter old.reader.gate.options taken)
end_reports old result answer e t taken h = by result (ends_as old result answer e t taken h)
  where
    by : (result : Result Totals Stop) → EndTells (asked_by old) taken (as_stop result) → IfOk result (Reports old.reader.gate.filter old.reader.gate.options taken)
    by (Ok report) t = plain_report (asked_by old) taken report t
    by (Err why) t = tt

pub end_refuses : (old : Checking) (result : Result Totals Stop) (answer : Result Totals AnywhereFault) → as_stop result ≡ answer → EndsAs old answer
    → (taken : List ℕ) → HasTaken old taken → IfErr result (IfRefused (Refuses old.reader.gate.filter old.reader.gate.options taken))
end_refuses old result answer e t taken h = by result (ends_as old result answer e t taken h)
  where
    by : (result : Result Totals Stop) → EndTells (asked_by old) taken (as_stop result) → IfErr result (IfRefused (Refuses old.reader.gate.filter old.reader.gate.options taken))
    by (Ok report) t = tt
    by (Err (stop.Refused refusal)) t = t.right
    by (Err stop.OutOfMemory) t = tt
    by (Err stop.Spent) t = t

pub end_first : (old : Checking) (result : Result Totals Stop) (answer : Result Totals AnywhereFault) → as_stop result ≡ answer → EndsAs old answer
    → (taken : List ℕ) → HasTaken old taken → IfErr result (IfRefused (CarriesFirst (gate_in old) taken))
end_first old result answer e t taken h = by result (ends_as old result answer e t taken h)
  where
    by : (result : Result Totals Stop) → EndTells (asked_by old) taken (as_stop result) → IfErr result (IfRefused (CarriesFirst (gate_in old) taken))
    by (Ok report) t = tt
    by (Err (stop.Refused refusal)) t = t.first
    by (Err stop.OutOfMemory) t = tt
    by (Err stop.Spent) t = t

pub end_cut : (old : Checking) (result : Result Totals Stop) (answer : Result Totals AnywhereFault) → as_stop result ≡ answer → EndsAs old answer
    → (taken : List ℕ) → HasTaken old taken → IfErr result (IfRefused IsCut)
end_cut old result answer e t taken h = by result (ends_as old result answer e t taken h)
  where
    by : (result : Result Totals Stop) → EndTells (asked_by old) taken (as_stop result) → IfErr result (IfRefused IsCut)
    by (Ok report) t = tt
    by (Err (stop.Refused refusal)) t = t.cut
    by (Err stop.OutOfMemory) t = tt
    by (Err stop.Spent) t = t

pub end_sure : (old : Checking) (result : Result Totals Stop) (answer : Result Totals AnywhereFault) → as_stop result ≡ answer → EndsAs old answer
    → (taken : List ℕ) → HasTaken old taken → result ≢ Err stop.OutOfMemory
end_sure old result answer e t taken h = by result (ends_as old result answer e t taken h)
  where
    by : (result : Result Totals Stop) → EndTells (asked_by old) taken (as_stop result) → result ≢ Err stop.OutOfMemory
    by (Ok report) t = λ e. absurd (cc)
    by (Err (stop.Refused refusal)) t = λ e. absurd (cc)
    by (Err stop.OutOfMemory) t = absurd t
    by (Err stop.Spent) t = absurd t

pub end_ended : (old new : Checking) (result : Result Totals Stop) (answer : Result Totals AnywhereFault) → as_stop result ≡ answer
    → ((taken : List ℕ) → HasTaken old taken → new.stopped ≡ Some (over answer)) → (taken : List ℕ) → HasTaken old taken → Ended result new
end_ended old new result answer e t taken h = by result (subst (λ (r : Result Totals AnywhereFault). new.stopped ≡ Some (over r)) (sym e) (t taken h))
  where
    by : (result : Result Totals Stop) → new.stopped ≡ Some (over (as_stop result)) → Ended result new
    by (Ok report) t = t
    by (Err why) t = t

-- ---- all bytes at once

pub bytes_front : (asked : Asked) (bytes : List ℕ) (n : ℕ) (result : Result Totals Stop) (answer : Result Totals AnywhereFault) → as_stop result ≡ answer
    → FrontAfter asked.filter asked.options bytes n answer → IfDecidedPlain (IsFront asked.filter asked.options bytes n) result
bytes_front asked bytes n result answer e w = by result (subst (λ (r : Result Totals AnywhereFault). FrontAfter asked.filter asked.options bytes n r) (sym e) w)
  where
    by : (result : Result Totals Stop) → FrontAfter asked.filter asked.options bytes n (as_stop result) → IfDecidedPlain (IsFront asked.filter asked.options bytes n) result
    by (Ok report) w = w
    by (Err (stop.Refused refusal)) w = w
    by (Err stop.OutOfMemory) w = tt
    by (Err stop.Spent) w = tt

-- ---- of a source

-- what the one check answers, of which the plain one is a face
abbrev pub AnswersAs : Asked → (had has : Option (List ℕ)) → Result Totals CheckFault → Type 0
AnswersAs asked had has result = Answered asked had has (as_plain result)

some_report : (asked : Asked) (had : Option (List ℕ)) (report : Totals) → IfSome had (λ bytes. ReportsBy asked bytes report) → IfSome had (λ bytes. Reports asked.filter asked.options bytes report)
some_report asked None report r = tt
some_report asked (Some bytes) report r = plain_report asked bytes report r

pub source_accepted : (asked : Asked) (had has : Option (List ℕ)) (result : Result Totals CheckFault) → AnswersAs asked had has result
    → IfOk result (λ report. IfSome had (λ bytes. Reports asked.filter asked.options bytes report))
source_accepted asked had has (Ok report) a = some_report asked had report a.tells
source_accepted asked had has (Err why) a = tt

pub source_refused : (asked : Asked) (had has : Option (List ℕ)) (result : Result Totals CheckFault) → AnswersAs asked had has result
    → IfErr result (λ why. IfSome had (λ bytes. IfFaultRefused (Refuses asked.filter asked.options bytes) why))
source_refused asked had has (Ok report) a = tt
source_refused asked None has (Err why) a = tt
source_refused asked (Some bytes) has (Err (plain.Stop (stop.Refused refusal))) a = a.tells.right
source_refused asked (Some bytes) has (Err (plain.Stop stop.OutOfMemory)) a = tt
source_refused asked (Some bytes) has (Err (plain.Stop stop.Spent)) a = absurd (a.unspent refl)
source_refused asked (Some bytes) has (Err plain.ReadFault) a = tt

pub source_first : (asked : Asked) (had has : Option (List ℕ)) (result : Result Totals CheckFault) → AnswersAs asked had has result
    → IfErr result (λ why. IfSome had (λ bytes. IsBytes bytes → IfFaultRefused (CarriesFirst (gate_of_filter asked.filter asked.options) bytes) why))
source_first asked had has (Ok report) a = tt
source_first asked None has (Err why) a = tt
source_first asked (Some bytes) has (Err (plain.Stop (stop.Refused refusal))) a = a.tells.first
source_first asked (Some bytes) has (Err (plain.Stop stop.OutOfMemory)) a = λ b. tt
source_first asked (Some bytes) has (Err (plain.Stop stop.Spent)) a = absurd (a.unspent refl)
source_first asked (Some bytes) has (Err plain.ReadFault) a = λ b. tt

pub source_undecided : (asked : Asked) (had has : Option (List ℕ)) (result : Result Totals CheckFault) → AnswersAs asked had has result
    → result ≡ Err plain.ReadFault → UndecidedPlain (gate_of_filter asked.filter asked.options) had has
source_undecided asked had has result a e =
    let u = a.undecided (ap as_plain e) in record { bytes = u.bytes; off = u.off; none = u.are.none }

pub source_unspent : (asked : Asked) (had has : Option (List ℕ)) (result : Result Totals CheckFault) → AnswersAs asked had has result → result ≢ Err (plain.Stop stop.Spent)
source_unspent asked had has result a = λ e. a.unspent (ap as_plain e)

pub source_prompt : (asked : Asked) (had has : Option (List ℕ)) (result : Result Totals CheckFault) → AnswersAs asked had has result → TakesFewPlain had has result
source_prompt asked had has (Ok report) a = tt
source_prompt asked had has (Err (plain.Stop (stop.Refused refusal))) a = a.prompt
source_prompt asked had has (Err (plain.Stop stop.OutOfMemory)) a = tt
source_prompt asked had has (Err (plain.Stop stop.Spent)) a = tt
source_prompt asked had has (Err plain.ReadFault) a = tt

pub source_fails : (result : Result Totals CheckFault) (before after : Bool) → FailsWith (as_plain result) before after → FailsPlain result before after
source_fails (Ok report) before after f = f
source_fails (Err (plain.Stop why)) before after f = f
source_fails (Err plain.ReadFault) before after f = f

-- as it is made
pub answers_made : (asked made : Asked) (had has : Option (List ℕ)) (result : Result Totals CheckFault) (answer : Result Totals AnywhereFault) → as_plain result ≡ answer → made ≡ asked
    → Answered made had has answer → AnswersAs asked had has result
answers_made asked made had has result answer e f a =
    subst (λ (r : Result Totals AnywhereFault). Answered asked had has r) (sym e) (subst (λ (x : Asked). Answered x had has answer) f a)
