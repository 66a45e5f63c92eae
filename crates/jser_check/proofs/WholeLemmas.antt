-- The longest front that the filter admits, of a check that also asks about names at any place.
use Rattle.std.specs.Prelude.{IfSome, nat_lt, if◌then◌else◌}
use Rattle.std.proofs.Common.{Bool, true, false, refl, ◌≡◌, ℕ, List, [], ◌++◌, Result, Ok, Err, Option, Some, None, inr, sym, subst, append-nil}
use Rattle.jser_grammar.specs.Parts.{IsBytes}
use Rattle.jser_reader.specs.declared.Stop.{Stop}
use Rattle.jser_reader.specs.declared.Stop.TheVariants as stop
use Rattle.jser_reader.specs.ReaderStates.{SkipTells, WholeTold, WholeAtEnd}
use Rattle.jser_check.specs.Fronts.{IsFront, StaysFront, whole_in}
use Rattle.jser_check.specs.Fronts.{IfDecided as IfDecidedPlain}
use Rattle.jser_check.proofs.Readers.{Reader as Plain}
use Rattle.jser_check.proofs.CheckLemmas.{told}
use Rattle.jser_check.proofs.FrontLemmas.{stays_front, skip_front, end_front, told_front}
use Rattle.jser_check.proofs.FeedLemmas.{feed_whole}
use Rattle.jser_reader.specs.declared.Refusal.{Refusal}
use Rattle.jser_filter.specs.Filters.{FilterView}
use Rattle.jser_check.specs.declared.gate.Options.{Options}
use Rattle.jser_check.specs.Admitted.{FilterWith}
use Rattle.jser_anywhere.specs.Steps.{Scanning}
use Rattle.jser_anywhere.specs.declared.Hidden.{Hidden}
use Rattle.jser_check.specs.Joins.{first_of, repeated}
use Rattle.jser_check.specs.declared.fault.AnywhereFault.{AnywhereFault}
use Rattle.jser_check.specs.declared.fault.AnywhereFault.TheVariants as fault
use Rattle.jser_reader.specs.declared.Totals.{Totals}
use Rattle.jser_check.specs.Passing.{Asked}
use Rattle.jser_check.specs.Pieces.{scans, AnswerTells, Checking, EndTells, FrontAfter, FrontBy, HasTaken, IfDecided, Keeps, KeepsTo, MayScan}

abbrev FrontIn : (old new : Plain) → List ℕ → Type 0
FrontIn old new bytes = IsFront old.gate.filter old.gate.options bytes (whole_in new)

-- of a refusal and a hidden name the sooner
sooner_front : (filter : FilterView) (options : Options) (bytes : List ℕ) (n : ℕ) (refusal : Refusal) (hidden : Hidden) (is : Bool) → StaysFront filter options bytes n → IsFront filter options bytes n
    → FrontBy filter options bytes n (if is then fault.Hidden hidden.from hidden.to else fault.Stop (stop.Refused refusal))
sooner_front filter options bytes n refusal hidden true s f = f
sooner_front filter options bytes n refusal hidden false s f = s

-- a piece in which a name is hidden, or a byte decides
pub both_front : (old new : Checking) (taken piece : List ℕ) (checked : Result (Unit {0}) Stop) (hidden : Option Hidden) (why : Option AnywhereFault) → why ≡ first_of checked hidden → HasTaken old taken
    → IsBytes piece → SkipTells (told old.reader.gate) piece checked old.reader.machine old.reader.tally new.reader.machine new.reader.tally
    → IfSome why (FrontBy old.reader.gate.filter old.reader.gate.options (taken ++ piece) (whole_in new.reader))
both_front old new taken piece checked hidden why e h bytes s =
    subst (λ w. IfSome w (FrontBy old.reader.gate.filter old.reader.gate.options (taken ++ piece) (whole_in new.reader))) (sym e)
    (by checked hidden s (skip_front old.reader new.reader taken piece checked bytes s h.stands))
  where
    by : (checked : Result (Unit {0}) Stop) (hidden : Option Hidden) → SkipTells (told old.reader.gate) piece checked old.reader.machine old.reader.tally new.reader.machine new.reader.tally
        → IfDecidedPlain (FrontIn old.reader new.reader (taken ++ piece)) checked
        → IfSome (first_of checked hidden) (FrontBy old.reader.gate.filter old.reader.gate.options (taken ++ piece) (whole_in new.reader))
    by (Ok x) None s f = tt
    by (Ok x) (Some hidden) s f = f
    by (Err (stop.Refused refusal)) None s f =
        stays_front old.reader.gate.filter old.reader.gate.options (taken ++ piece) (whole_in new.reader)
        (feed_whole (told old.reader.gate) piece taken (stop.Refused refusal) old.reader.machine old.reader.tally new.reader.machine new.reader.tally bytes s h.stands)
    by (Err (stop.Refused refusal)) (Some hidden) s f =
        sooner_front old.reader.gate.filter old.reader.gate.options (taken ++ piece) (whole_in new.reader) refusal hidden (nat_lt hidden.to refusal.to_byte)
        (stays_front old.reader.gate.filter old.reader.gate.options (taken ++ piece) (whole_in new.reader)
        (feed_whole (told old.reader.gate) piece taken (stop.Refused refusal) old.reader.machine old.reader.tally new.reader.machine new.reader.tally bytes s h.stands)) f
    by (Err stop.OutOfMemory) hidden s f = tt
    by (Err stop.Spent) hidden s f = tt

-- ---- what it stops for

keeps_sooner : (anywhere : Bool) (refusal : Refusal) (hidden : Hidden) (is : Bool) → anywhere ≡ true → Keeps anywhere (if is then fault.Hidden hidden.from hidden.to else fault.Stop (stop.Refused refusal))
keeps_sooner anywhere refusal hidden true e = e
keeps_sooner anywhere refusal hidden false e = tt

keeps_by : (anywhere : Bool) (checked : Result (Unit {0}) Stop) (hidden : Option Hidden) → (anywhere ≡ false → hidden ≡ None) → KeepsTo anywhere (first_of checked hidden)
keeps_by anywhere (Ok x) None none = tt
keeps_by true (Ok x) (Some hidden) none = refl
keeps_by false (Ok x) (Some hidden) none = let e = none refl in absurd (cc)
keeps_by anywhere (Err (stop.Refused refusal)) None none = tt
keeps_by true (Err (stop.Refused refusal)) (Some hidden) none = keeps_sooner true refusal hidden (nat_lt hidden.to refusal.to_byte) refl
keeps_by false (Err (stop.Refused refusal)) (Some hidden) none = let e = none refl in absurd (cc)
keeps_by anywhere (Err stop.OutOfMemory) hidden none = tt
keeps_by anywhere (Err stop.Spent) hidden none = tt

none_told : (gate : FilterWith) (old new : Option Scanning) (piece : List ℕ) (hidden : Option Hidden) → MayScan gate old new piece hidden → scans old ≡ false → hidden ≡ None
none_told gate None None piece hidden m e = m
none_told gate None (Some new) piece hidden m e = absurd m
none_told gate (Some old) new piece hidden m e = absurd (cc)

pub keeps_both : (gate : FilterWith) (old new : Option Scanning) (piece : List ℕ) (checked : Result (Unit {0}) Stop) (hidden : Option Hidden) (why : Option AnywhereFault) → why ≡ first_of checked hidden
    → MayScan gate old new piece hidden → KeepsTo (scans old) why
keeps_both gate old new piece checked hidden why e m =
    subst (λ w. KeepsTo (scans old) w) (sym e) (keeps_by (scans old) checked hidden (none_told gate old new piece hidden m))

pub keeps_repeated : (anywhere : Bool) (why : AnywhereFault) → Keeps anywhere why → Keeps anywhere (repeated why)
keeps_repeated anywhere (fault.Stop (stop.Refused refusal)) k = tt
keeps_repeated anywhere (fault.Stop stop.OutOfMemory) k = tt
keeps_repeated anywhere (fault.Stop stop.Spent) k = tt
keeps_repeated anywhere fault.ReadFault k = k
keeps_repeated anywhere (fault.Hidden from to) k = k

-- the end
pub ended_front : (old new : Checking) (taken : List ℕ) → WholeAtEnd (told old.reader.gate) old.reader.machine old.reader.tally new.reader.machine new.reader.tally → HasTaken old taken
    → FrontIn old.reader new.reader taken
ended_front old new taken w h = end_front old.reader new.reader taken w h.stands

pub whole_told : (check : Checking) (taken : List ℕ) (n : ℕ) → WholeTold (told check.reader.gate) n check.reader.machine check.reader.tally → HasTaken check taken
    → IsFront check.reader.gate.filter check.reader.gate.options taken n
whole_told check taken n w h = told_front check.reader taken n w h.stands

-- ---- all bytes at once

stays_now : (filter : FilterView) (options : Options) (bytes : List ℕ) (n : ℕ) → StaysFront filter options bytes n → IsFront filter options bytes n
stays_now filter options bytes n s = subst (λ (xs : List ℕ). IsFront filter options xs n) (append-nil bytes) (s [] no_bytes)
  where
    no_bytes : IsBytes []
    no_bytes = refl

-- what stays the longest front is it now
pub front_decided : (filter : FilterView) (options : Options) (bytes : List ℕ) (n : ℕ) (why : AnywhereFault) → FrontBy filter options bytes n why → IfDecided (IsFront filter options bytes n) why
front_decided filter options bytes n (fault.Stop (stop.Refused refusal)) f = stays_now filter options bytes n f
front_decided filter options bytes n (fault.Stop stop.OutOfMemory) f = tt
front_decided filter options bytes n (fault.Stop stop.Spent) f = tt
front_decided filter options bytes n fault.ReadFault f = tt
front_decided filter options bytes n (fault.Hidden from to) f = f

decided : (P : Type 0) (why : AnywhereFault) → P → IfDecided P why
decided P (fault.Stop (stop.Refused refusal)) h = h
decided P (fault.Stop stop.OutOfMemory) h = tt
decided P (fault.Stop stop.Spent) h = tt
decided P fault.ReadFault h = tt
decided P (fault.Hidden from to) h = h

pub front_after : (asked mid : Asked) (bytes : List ℕ) (n : ℕ) (result : Result Totals AnywhereFault) → mid ≡ asked → IsFront mid.filter mid.options bytes n
    → FrontAfter asked.filter asked.options bytes n result
front_after asked mid bytes n result e f = by result (subst (λ (a : Asked). IsFront a.filter a.options bytes n) e f)
  where
    by : (result : Result Totals AnywhereFault) → IsFront asked.filter asked.options bytes n → FrontAfter asked.filter asked.options bytes n result
    by (Ok report) f = f
    by (Err why) f = decided (IsFront asked.filter asked.options bytes n) why f

pub answer_ends : (asked mid : Asked) (bytes : List ℕ) (result : Result Totals AnywhereFault) → mid ≡ asked → EndTells mid bytes result → AnswerTells asked bytes result
answer_ends asked mid bytes result e t = by result (subst (λ (a : Asked). EndTells a bytes result) e t)
  where
    by : (result : Result Totals AnywhereFault) → EndTells asked bytes result → AnswerTells asked bytes result
    by (Ok report) t = t
    by (Err why) t = inr t
