-- What was found of a file.
use Rattle.std.proofs.Common.{◌≡◌, ℕ, List, Bool, true, false, Option, Some, None, Ok, Err, sym, subst, ◌≢◌}
use Rattle.std.specs.declared.alloc.Global.{Global}
use Rattle.std.specs.Prelude.{IfSome, Vec}
use Rattle.jser_reader.specs.declared.Refusal.{Refusal}
use Rattle.jser_reader.specs.declared.Totals.{Totals}
use Rattle.jser_reader.specs.declared.Stop.TheVariants as stop
use Rattle.jser_inputs.specs.declared.InputFault.{InputFault}
use Rattle.jser_grammar.specs.Parts.{IsBytes}
use Rattle.jser_check.specs.Admitted.{gate_of_filter}
use Rattle.jser_check.specs.Answers.{CarriesFirst, Reports, Refuses}
use Rattle.jser_check.specs.declared.AnywhereFault.TheVariants as fault
use Rattle.jser_check.specs.Passing.{asking}
use Rattle.jser_check.specs.Reads.{SourceTells}
use Rattle.jser_scan.specs.declared.check.Rules.{Rules}
use Rattle.jser_scan.specs.declared.found.Found.{Found}
use Rattle.jser_scan.specs.declared.found.Found.TheVariants as found
use Rattle.jser_scan.specs.Founds.{FailsAs, IsFound, IsFoundAnywhere, IsFoundBy, IsFoundIf, IsHidden, IsNameFor, IsRefusal, IsRefusedName, NamesFirst, options_in}

pub accepted : (rules : Rules) (told : Option (List ℕ)) (totals : Totals) → IfSome told (λ bytes. Reports rules.filter (options_in rules) bytes totals)
    → IfSome told (λ bytes. IsFoundBy rules bytes (found.Accepted totals))
accepted rules told totals h = h

pub refused : (rules : Rules) (told : Option (List ℕ)) (refusal : Refusal) (result : Found) → IfSome told (λ bytes. Refuses rules.filter (options_in rules) bytes refusal)
    → IsRefusal rules refusal result → IfSome told (λ bytes. IsFoundBy rules bytes result)
refused rules None refusal result h is = tt
refused rules (Some bytes) refusal (found.Accepted totals) h is = absurd is
refused rules (Some bytes) refusal (found.Refused same class) h is =
    (subst (λ r. Refuses rules.filter (options_in rules) bytes r) (sym is.0) h, subst (λ r. IsNameFor rules r.reason class) (sym is.0) is.1)
refused rules (Some bytes) refusal (found.Hidden from to class) h is = absurd is
refused rules (Some bytes) refusal found.NotOpened h is = absurd is
refused rules (Some bytes) refusal (found.NotRead why) h is = absurd is
refused rules (Some bytes) refusal found.OutOfMemory h is = tt

pub undecided : (rules : Rules) (told : Option (List ℕ)) → IfSome told (λ bytes. IsFoundBy rules bytes found.OutOfMemory)
undecided rules None = tt
undecided rules (Some bytes) = tt

pub unread : (rules : Rules) (told : Option (List ℕ)) (why : InputFault) → IfSome told (λ bytes. IsFoundBy rules bytes (found.NotRead why))
unread rules None why = tt
unread rules (Some bytes) why = tt

-- a refusal, or that memory ran out, is told where no read failed
pub refusal_fails : (rules : Rules) (refusal : Refusal) (result : Found) (failed_before failed_after : Bool) (why : InputFault) → IsRefusal rules refusal result → failed_after ≡ failed_before
    → FailsAs result failed_before failed_after why
refusal_fails rules refusal (found.Accepted totals) failed_before failed_after why is same = absurd is
refusal_fails rules refusal (found.Refused told class) failed_before failed_after why is same = same
refusal_fails rules refusal (found.Hidden from to class) failed_before failed_after why is same = absurd is
refusal_fails rules refusal found.NotOpened failed_before failed_after why is same = absurd is
refusal_fails rules refusal (found.NotRead fault) failed_before failed_after why is same = absurd is
refusal_fails rules refusal found.OutOfMemory failed_before failed_after why is same = same

-- a refusal is told with its first fault
pub names_first : (rules : Rules) (told : Option (List ℕ)) (refusal : Refusal) (result : Found)
    → IfSome told (λ bytes. IsBytes bytes → CarriesFirst (gate_of_filter rules.filter (options_in rules)) bytes refusal) → IsRefusal rules refusal result
    → IfSome told (λ bytes. NamesFirst rules bytes result)
names_first rules None refusal result h is = tt
names_first rules (Some bytes) refusal (found.Accepted totals) h is = tt
names_first rules (Some bytes) refusal (found.Refused same class) h is =
    subst (λ r. IsBytes bytes → CarriesFirst (gate_of_filter rules.filter (options_in rules)) bytes r) (sym is.0) h
names_first rules (Some bytes) refusal (found.Hidden from to class) h is = tt
names_first rules (Some bytes) refusal found.NotOpened h is = tt
names_first rules (Some bytes) refusal (found.NotRead why) h is = tt
names_first rules (Some bytes) refusal found.OutOfMemory h is = tt

-- a file that was opened is not told as one that was not
pub not_unopened : (result : Found) (failed_before failed_after : Bool) (why : InputFault) → FailsAs result failed_before failed_after why → result ≢ found.NotOpened
not_unopened result failed_before failed_after why fails is = subst (λ r. FailsAs r failed_before failed_after why) is fails

-- ---- with names at any place

pub accepted_anywhere : (rules : Rules) (told : Option (List ℕ)) (totals : Totals) → SourceTells (asking rules.filter (options_in rules) true) told (Ok totals)
    → IfSome told (λ bytes. IsFoundAnywhere rules bytes (found.Accepted totals))
accepted_anywhere rules told totals h = h

pub refused_anywhere : (rules : Rules) (told : Option (List ℕ)) (refusal : Refusal) (result : Found)
    → SourceTells (asking rules.filter (options_in rules) true) told (Err (fault.Stop (stop.Refused refusal)))
    → IsRefusal rules refusal result → IfSome told (λ bytes. IsFoundAnywhere rules bytes result)
refused_anywhere rules None refusal result h is = tt
refused_anywhere rules (Some bytes) refusal (found.Accepted totals) h is = absurd is
refused_anywhere rules (Some bytes) refusal (found.Refused same class) h is =
    (subst (λ r. SourceTells (asking rules.filter (options_in rules) true) (Some bytes) (Err (fault.Stop (stop.Refused r)))) (sym is.0) h, subst (λ r. IsNameFor rules r.reason class) (sym is.0) is.1)
refused_anywhere rules (Some bytes) refusal (found.Hidden from to class) h is = absurd is
refused_anywhere rules (Some bytes) refusal found.NotOpened h is = absurd is
refused_anywhere rules (Some bytes) refusal (found.NotRead why) h is = absurd is
refused_anywhere rules (Some bytes) refusal found.OutOfMemory h is = tt

pub hidden_anywhere : (rules : Rules) (told : Option (List ℕ)) (from to : ℕ) (class : Option (Vec ℕ Global))
    → SourceTells (asking rules.filter (options_in rules) true) told (Err (fault.Hidden from to)) → IsRefusedName rules class
    → IfSome told (λ bytes. IsFoundAnywhere rules bytes (found.Hidden from to class))
hidden_anywhere rules None from to class h is = tt
hidden_anywhere rules (Some bytes) from to class h is = (h, is)

pub undecided_anywhere : (rules : Rules) (told : Option (List ℕ)) → IfSome told (λ bytes. IsFoundAnywhere rules bytes found.OutOfMemory)
undecided_anywhere rules None = tt
undecided_anywhere rules (Some bytes) = tt

pub unread_anywhere : (rules : Rules) (told : Option (List ℕ)) (why : InputFault) → IfSome told (λ bytes. IsFoundAnywhere rules bytes (found.NotRead why))
unread_anywhere rules None why = tt
unread_anywhere rules (Some bytes) why = tt

pub hidden_first : (rules : Rules) (told : Option (List ℕ)) (from to : ℕ) (result : Found) → IsHidden rules from to result → IfSome told (λ bytes. NamesFirst rules bytes result)
hidden_first rules None from to result is = tt
hidden_first rules (Some bytes) from to (found.Accepted totals) is = tt
hidden_first rules (Some bytes) from to (found.Refused same class) is = absurd is
hidden_first rules (Some bytes) from to (found.Hidden starts ends class) is = tt
hidden_first rules (Some bytes) from to found.NotOpened is = tt
hidden_first rules (Some bytes) from to (found.NotRead why) is = tt
hidden_first rules (Some bytes) from to found.OutOfMemory is = tt

-- ---- by what is asked for

pub found_plainly : (rules : Rules) (told : Option (List ℕ)) (result : Found) → rules.anywhere ≡ false → IfSome told (λ bytes. IsFoundBy rules bytes result)
    → IfSome told (λ bytes. IsFound rules bytes result)
found_plainly rules told result is h = subst (λ b. IfSome told (λ bytes. IsFoundIf b rules bytes result)) (sym is) h

pub found_anywhere : (rules : Rules) (told : Option (List ℕ)) (result : Found) → rules.anywhere ≡ true → IfSome told (λ bytes. IsFoundAnywhere rules bytes result)
    → IfSome told (λ bytes. IsFound rules bytes result)
found_anywhere rules told result is h = subst (λ b. IfSome told (λ bytes. IsFoundIf b rules bytes result)) (sym is) h
