-- The check of one record after another, from what readers tell.
use Rattle.std.proofs.Common.{◌≡◌, ℕ, ◌<◌, ◌^◌, Bool, true, false, List, [], ◌++◌, length, take, drop, Result, Ok, Err, inl, inr, refl, sym, ap, subst, ◌∙◌, append_assoc, append-nil, take-append-drop}
use Rattle.jser_reader.specs.declared.Refusal.{Refusal}
use Rattle.jser_reader.specs.declared.Stop.{Stop}
use Rattle.jser_reader.specs.declared.Stop.TheVariants as stop
use Rattle.jser_reader.specs.declared.Totals.{Totals}
use Rattle.jser_reader.specs.ReaderStates.{FinishTells, Reading, SkipTells, StandsFor}
use Rattle.jser_reader.proofs.RefusalLemmas.{front_refused}
use Rattle.jser_check.specs.Admitted.{FilterWith, gate_of_filter}
use Rattle.jser_check.proofs.AnswerLemmas.{reports, right_refuses}
use Rattle.jser_check.proofs.SourceLemmas.{fault_of}
use Rattle.jser_check.specs.Passing.{asking}
use Rattle.jser_check.specs.Pieces.{Checking, EndTells, FeedTells, asked_by}
use Rattle.jser_check.specs.Reads.{FaultOf, HiddenIn}
use Rattle.jser_check.specs.declared.AnywhereFault.{AnywhereFault}
use Rattle.jser_check.specs.declared.AnywhereFault.TheVariants as fault
use Rattle.jser_scan.specs.declared.Found.{Found}
use Rattle.jser_scan.specs.declared.Found.TheVariants as found
use Rattle.jser_scan.specs.declared.Rules.{Rules}
use Rattle.jser_scan.specs.Founds.{IsFound, IsFoundIf, IsHidden, IsNameFor, IsRefusal, options_in}
use Rattle.jser_scan.specs.LastSeen.{AreLast, LastSeen}
use Rattle.jser_scan.specs.Lines.{is_accepted}
use Rattle.jser_scan.specs.NamePlaces.{NameStands}
use Rattle.jser_records.specs.declared.judge.Check.{Check}
use Rattle.jser_records.specs.declared.judge.Check.TheVariants as check
use Rattle.jser_records.specs.Judged.{Ends, FaultIf, Feeds, HasJudged, IsDecided, IsRead, IsSound, PlainFault, ReportsIf, Took, filter_in}

-- ---- under the filter alone

pub plain_takes : (rules : Rules) (old new : Reading FilterWith) (taken piece : List ℕ) → old.gate ≡ filter_in rules
    → SkipTells (gate_of_filter old.gate.filter old.gate.options) piece (Ok tt) old.machine old.tally new.machine new.tally
    → Took rules (check.Plain old) taken → Took rules (check.Plain new) (taken ++ piece)
unfolding SkipTells
plain_takes rules old new taken piece under t took =
    subst (λ g. StandsFor (gate_of_filter g.filter g.options) (taken ++ piece) new.machine new.tally) under
    (t taken (subst (λ g. StandsFor (gate_of_filter g.filter g.options) taken old.machine old.tally) (sym under) took))

plain_fault : (rules : Rules) (old new : Reading FilterWith) (taken piece more : List ℕ) (why : Stop)
    → SkipTells (gate_of_filter rules.filter (options_in rules)) piece (Err why) old.machine old.tally new.machine new.tally
    → Took rules (check.Plain old) taken → PlainFault rules ((taken ++ piece) ++ more) (fault.Stop why)
unfolding SkipTells
plain_fault rules old new taken piece more (stop.Refused refusal) t took =
    let x = t taken took in
    let rest : List ℕ = drop x.0 piece in
    let split : (taken ++ piece) ++ more ≡ (taken ++ take x.0 piece) ++ (rest ++ more) =
    ap (λ xs. (taken ++ xs) ++ more) (sym (take-append-drop x.0 piece)) ∙ ap (λ xs. xs ++ more) (sym (append_assoc taken (take x.0 piece) rest))
    ∙ append_assoc (taken ++ take x.0 piece) rest more in
    right_refuses rules.filter (options_in rules) ((taken ++ piece) ++ more) refusal
    (inl (front_refused (gate_of_filter rules.filter (options_in rules)) (taken ++ take x.0 piece) (rest ++ more) ((taken ++ piece) ++ more) refusal split x.2))
plain_fault rules old new taken piece more stop.OutOfMemory t took = tt
plain_fault rules old new taken piece more stop.Spent t took = t taken took

plainly : (rules : Rules) (bytes : List ℕ) (why : AnywhereFault) → rules.anywhere ≡ false → PlainFault rules bytes why → FaultIf rules.anywhere rules bytes why
plainly rules bytes why off h = subst (λ b. FaultIf b rules bytes why) (sym off) h

pub plain_stops : (rules : Rules) (old new : Reading FilterWith) (taken piece : List ℕ) (why : Stop) → rules.anywhere ≡ false → old.gate ≡ filter_in rules
    → SkipTells (gate_of_filter old.gate.filter old.gate.options) piece (Err why) old.machine old.tally new.machine new.tally
    → Took rules (check.Plain old) taken → Feeds rules (check.Plain new) taken piece (Err (fault.Stop why))
plain_stops rules old new taken piece why off under t took = λ more.
    plainly rules ((taken ++ piece) ++ more) (fault.Stop why) off
    (plain_fault rules old new taken piece more why
    (subst (λ g. SkipTells (gate_of_filter g.filter g.options) piece (Err why) old.machine old.tally new.machine new.tally) under t) took)

plain_end : (rules : Rules) (old new : Reading FilterWith) (taken : List ℕ) (why : Stop)
    → FinishTells (gate_of_filter rules.filter (options_in rules)) (Err why) old.machine old.tally new.machine
    → Took rules (check.Plain old) taken → PlainFault rules taken (fault.Stop why)
unfolding FinishTells
plain_end rules old new taken (stop.Refused refusal) t took = let x = t taken took in right_refuses rules.filter (options_in rules) taken refusal (inr x.0)
plain_end rules old new taken stop.OutOfMemory t took = absurd (t taken took)
plain_end rules old new taken stop.Spent t took = t taken took

pub plain_cut : (rules : Rules) (old new : Reading FilterWith) (taken : List ℕ) (why : Stop) → rules.anywhere ≡ false → old.gate ≡ filter_in rules
    → FinishTells (gate_of_filter old.gate.filter old.gate.options) (Err why) old.machine old.tally new.machine
    → Took rules (check.Plain old) taken → Ends rules taken (Err (fault.Stop why))
plain_cut rules old new taken why off under t took =
    plainly rules taken (fault.Stop why) off
    (plain_end rules old new taken why (subst (λ g. FinishTells (gate_of_filter g.filter g.options) (Err why) old.machine old.tally new.machine) under t) took)

plain_reports : (rules : Rules) (old new : Reading FilterWith) (taken : List ℕ) (totals : Totals)
    → FinishTells (gate_of_filter rules.filter (options_in rules)) (Ok totals) old.machine old.tally new.machine
    → Took rules (check.Plain old) taken → ReportsIf false rules taken totals
unfolding FinishTells
plain_reports rules old new taken totals t took = reports rules.filter (options_in rules) taken totals (t taken took).0

pub plain_ends : (rules : Rules) (old new : Reading FilterWith) (taken : List ℕ) (totals : Totals) → rules.anywhere ≡ false → old.gate ≡ filter_in rules
    → FinishTells (gate_of_filter old.gate.filter old.gate.options) (Ok totals) old.machine old.tally new.machine
    → Took rules (check.Plain old) taken → Ends rules taken (Ok totals)
plain_ends rules old new taken totals off under t took =
    subst (λ b. ReportsIf b rules taken totals) (sym off)
    (plain_reports rules old new taken totals (subst (λ g. FinishTells (gate_of_filter g.filter g.options) (Ok totals) old.machine old.tally new.machine) under t) took)

-- ---- with names at any place

pub anywhere_feeds : (rules : Rules) (old new : Checking) (taken piece : List ℕ) (result : Result (Unit {0}) AnywhereFault) → rules.anywhere ≡ true
    → asked_by old ≡ asking rules.filter (options_in rules) true → FeedTells (asked_by old) taken piece result new
    → Feeds rules (check.Anywhere new) taken piece result
anywhere_feeds rules old new taken piece (Ok x) on under t = t
anywhere_feeds rules old new taken piece (Err why) on under t = λ more.
    subst (λ b. FaultIf b rules ((taken ++ piece) ++ more) why) (sym on)
    (fault_of (asking rules.filter (options_in rules) true) taken piece more ((taken ++ piece) ++ more) why refl
    (subst (λ a. FeedTells a taken piece (Err why) new) under t))

end_of : (rules : Rules) (taken : List ℕ) (result : Result Totals AnywhereFault) (b : Bool) → b ≡ true → EndTells (asking rules.filter (options_in rules) true) taken result
    → rules.anywhere ≡ b → Ends rules taken result
end_of rules taken (Ok totals) b on t is = subst (λ x. ReportsIf x rules taken totals) (sym (is ∙ on)) t
end_of rules taken (Err (fault.Stop (stop.Refused refusal))) b on t is =
    subst (λ x. FaultIf x rules taken (fault.Stop (stop.Refused refusal))) (sym (is ∙ on))
    (record { right = t.right; first = λ b. t.first; names = λ from to hidden. absurd (t.passes from to hidden); cut = λ is. t.passes })
end_of rules taken (Err (fault.Stop stop.OutOfMemory)) b on t is = absurd t
end_of rules taken (Err (fault.Stop stop.Spent)) b on t is = absurd t
end_of rules taken (Err fault.ReadFault) b on t is = absurd t
end_of rules taken (Err (fault.Hidden from to)) b on t is = absurd t

pub anywhere_ends : (rules : Rules) (old : Checking) (taken : List ℕ) (result : Result Totals AnywhereFault) → rules.anywhere ≡ true → asked_by old ≡ asking rules.filter (options_in rules) true
    → EndTells (asked_by old) taken result → Ends rules taken result
anywhere_ends rules old taken result on under t =
    end_of rules taken result true refl (subst (λ a. EndTells a taken result) under t) on

-- ---- what is found

refused_if : (b : Bool) (rules : Rules) (bytes : List ℕ) (refusal : Refusal) (result : Found) → FaultIf b rules bytes (fault.Stop (stop.Refused refusal))
    → IsRefusal rules refusal result → IsFoundIf b rules bytes result
refused_if b rules bytes refusal (found.Accepted totals) h is = absurd is
refused_if false rules bytes refusal (found.Refused same class) h is =
    (subst (λ r. PlainFault rules bytes (fault.Stop (stop.Refused r))) (sym is.0) h, subst (λ r. IsNameFor rules r.reason class) (sym is.0) is.1)
refused_if true rules bytes refusal (found.Refused same class) h is =
    (subst (λ r. FaultOf (asking rules.filter (options_in rules) true) bytes (fault.Stop (stop.Refused r))) (sym is.0) h, subst (λ r. IsNameFor rules r.reason class) (sym is.0) is.1)
refused_if b rules bytes refusal (found.Hidden from to class) h is = absurd is
refused_if b rules bytes refusal found.NotOpened h is = absurd is
refused_if b rules bytes refusal (found.NotRead why) h is = absurd is
refused_if false rules bytes refusal found.OutOfMemory h is = tt
refused_if true rules bytes refusal found.OutOfMemory h is = tt

pub refused_is : (rules : Rules) (bytes : List ℕ) (refusal : Refusal) (result : Found) → FaultIf rules.anywhere rules bytes (fault.Stop (stop.Refused refusal))
    → IsRefusal rules refusal result → IsFound rules bytes result
refused_is rules bytes refusal result h is = refused_if rules.anywhere rules bytes refusal result h is

hidden_if : (b : Bool) (rules : Rules) (bytes : List ℕ) (from to : ℕ) (result : Found) → FaultIf b rules bytes (fault.Hidden from to) → IsHidden rules from to result
    → IsFoundIf b rules bytes result
hidden_if false rules bytes from to result h is = absurd h
hidden_if true rules bytes from to (found.Accepted totals) h is = absurd is
hidden_if true rules bytes from to (found.Refused refusal class) h is = absurd is
hidden_if true rules bytes from to (found.Hidden starts ends class) h is =
    (subst (λ a. HiddenIn (asking rules.filter (options_in rules) true) bytes a ends) (sym is.0.0) (subst (λ e. HiddenIn (asking rules.filter (options_in rules) true) bytes from e) (sym is.0.1) h), is.1)
hidden_if true rules bytes from to found.NotOpened h is = absurd is
hidden_if true rules bytes from to (found.NotRead why) h is = absurd is
hidden_if true rules bytes from to found.OutOfMemory h is = tt

pub hidden_is : (rules : Rules) (bytes : List ℕ) (from to : ℕ) (result : Found) → FaultIf rules.anywhere rules bytes (fault.Hidden from to) → IsHidden rules from to result
    → IsFound rules bytes result
hidden_is rules bytes from to result h is = hidden_if rules.anywhere rules bytes from to result h is

undecided_if : (b : Bool) (rules : Rules) (bytes : List ℕ) → IsFoundIf b rules bytes found.OutOfMemory
undecided_if false rules bytes = tt
undecided_if true rules bytes = tt

pub undecided_is : (rules : Rules) (bytes : List ℕ) → IsFound rules bytes found.OutOfMemory
undecided_is rules bytes = undecided_if rules.anywhere rules bytes

accepted_if : (b : Bool) (rules : Rules) (bytes : List ℕ) (totals : Totals) → ReportsIf b rules bytes totals → IsFoundIf b rules bytes (found.Accepted totals)
accepted_if false rules bytes totals h = h
accepted_if true rules bytes totals h = h

pub accepted_is : (rules : Rules) (bytes : List ℕ) (totals : Totals) → ReportsIf rules.anywhere rules bytes totals → IsFound rules bytes (found.Accepted totals)
accepted_is rules bytes totals h = accepted_if rules.anywhere rules bytes totals h

-- ---- of a record

pub refusal_refuses : (rules : Rules) (refusal : Refusal) (result : Found) → IsRefusal rules refusal result → is_accepted result ≡ false
refusal_refuses rules refusal (found.Accepted totals) is = absurd is
refusal_refuses rules refusal (found.Refused same class) is = refl
refusal_refuses rules refusal (found.Hidden from to class) is = refl
refusal_refuses rules refusal found.NotOpened is = refl
refusal_refuses rules refusal (found.NotRead why) is = refl
refusal_refuses rules refusal found.OutOfMemory is = refl

pub hidden_refuses : (rules : Rules) (from to : ℕ) (result : Found) → IsHidden rules from to result → is_accepted result ≡ false
hidden_refuses rules from to (found.Accepted totals) is = absurd is
hidden_refuses rules from to (found.Refused refusal class) is = refl
hidden_refuses rules from to (found.Hidden starts ends class) is = refl
hidden_refuses rules from to found.NotOpened is = refl
hidden_refuses rules from to (found.NotRead why) is = refl
hidden_refuses rules from to found.OutOfMemory is = refl

pub refusal_read : (rules : Rules) (refusal : Refusal) (result : Found) → IsRefusal rules refusal result → IsRead result
refusal_read rules refusal (found.Accepted totals) is = tt
refusal_read rules refusal (found.Refused same class) is = tt
refusal_read rules refusal (found.Hidden from to class) is = tt
refusal_read rules refusal found.NotOpened is = tt
refusal_read rules refusal (found.NotRead why) is = is
refusal_read rules refusal found.OutOfMemory is = tt

pub hidden_read : (rules : Rules) (from to : ℕ) (result : Found) → IsHidden rules from to result → IsRead result
hidden_read rules from to (found.Accepted totals) is = tt
hidden_read rules from to (found.Refused refusal class) is = tt
hidden_read rules from to (found.Hidden starts ends class) is = tt
hidden_read rules from to found.NotOpened is = tt
hidden_read rules from to (found.NotRead why) is = is
hidden_read rules from to found.OutOfMemory is = tt

pub judged_on : (rules : Rules) (old new : Check) (before after : LastSeen) (taken piece : List ℕ) → HasJudged (record { rules = rules; check = old; last = before }) taken
    → Took rules new (taken ++ piece) → ((bytes : List ℕ) → AreLast before bytes → AreLast after (bytes ++ piece))
    → HasJudged (record { rules = rules; check = new; last = after }) (taken ++ piece)
judged_on rules old new before after taken piece had took keeps = record { took = took; last = keeps taken had.last }

pub decided : (rules : Rules) (last : LastSeen) (bytes : List ℕ) (why : AnywhereFault) (result : Found)
    → ((more : List ℕ) → FaultIf rules.anywhere rules (bytes ++ more) why)
    → ((all : List ℕ) → FaultIf rules.anywhere rules all why → IsFound rules all result) → AreLast last bytes
    → ((seen : List ℕ) → AreLast last seen → length seen < 2 ^ 64 → NameStands seen result) → is_accepted result ≡ false → IsDecided rules bytes result
decided rules last bytes why result stops is are name refuses = record {
  sound = λ more. record { found = is (bytes ++ more) (stops more); name = record { first = bytes; rest = more; split = refl; stands = λ few. name bytes are few } };
  refuses = refuses;
}

pub sound_fault : (rules : Rules) (last : LastSeen) (bytes : List ℕ) (why : AnywhereFault) (result : Found) → FaultIf rules.anywhere rules bytes why
    → ((all : List ℕ) → FaultIf rules.anywhere rules all why → IsFound rules all result) → AreLast last bytes
    → ((seen : List ℕ) → AreLast last seen → length seen < 2 ^ 64 → NameStands seen result) → IsSound rules bytes result
sound_fault rules last bytes why result stops is are name =
    record { found = is bytes stops; name = record { first = bytes; rest = []; split = sym (append-nil bytes); stands = λ few. name bytes are few } }

pub sound_yes : (rules : Rules) (bytes : List ℕ) (totals : Totals) → ReportsIf rules.anywhere rules bytes totals → IsSound rules bytes (found.Accepted totals)
sound_yes rules bytes totals h =
    record { found = accepted_is rules bytes totals h; name = record { first = bytes; rest = []; split = sym (append-nil bytes); stands = λ few. tt } }
