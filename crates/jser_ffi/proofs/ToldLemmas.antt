-- From what a check answers to what the numbers of the answer say.
use Rattle.std.proofs.Common.{[], ◌≡◌, ◌<◌, ℕ, ◌∙◌, length, List, ◌++◌, Result, Ok, Err, inl, inr, sym, subst}
use Rattle.jser_reader.specs.declared.Refusal.{Refusal}
use Rattle.jser_reader.specs.declared.Stop.TheVariants as stop
use Rattle.jser_reader.specs.declared.Totals.{Totals}
use Rattle.jser_check.specs.declared.AnywhereFault.{AnywhereFault}
use Rattle.jser_check.specs.declared.AnywhereFault.TheVariants as fault
use Rattle.jser_check.specs.Pieces.{AnswerTells, Checking, EndTells, FrontAfter, HasTaken, IfDecided, ReportsBy, TellsFault, TellsHidden}
use Rattle.jser_check.specs.Passing.{Asked}
use Rattle.jser_check.specs.declared.Options.{Options}
use Rattle.jser_filter.specs.Filters.{FilterView}
use Rattle.jser_check.specs.Fronts.{IsFront}
use Rattle.jser_ffi.specs.declared.answer.Answer.{Answer}
use Rattle.jser_ffi.specs.Told.{FedSays, DecidesAlone, TellsNameIn, TellsRefusal, KnowsWhole, HasAnswer, HasWhole, SaysWhole, HasFault, HasHidden, HasRefusal, HasReport, IsRightAnywhere, SaysOf}

-- ---- one answer says one thing

says_yes : (asked : Asked) (bytes : List ℕ) (report : Totals) (answer : Answer) → HasReport answer report
    → ReportsBy asked bytes report → SaysOf asked bytes answer
says_yes asked bytes report answer h r = record {
  accepted = λ e. subst (λ x. ReportsBy asked bytes x) (sym h.same) r;
  refused = λ e. let zero = h.status in absurd (cc);
  known = inl h.status;
}

says_no : (asked : Asked) (bytes : List ℕ) (refusal : Refusal) (answer : Answer) → HasRefusal answer refusal
    → IsRightAnywhere asked bytes refusal → SaysOf asked bytes answer
says_no asked bytes refusal answer h r = record {
  accepted = λ e. let one = h.status in absurd (cc);
  refused = λ e. inl (record { reason = refusal.reason; number = h.number; right = subst (λ x. IsRightAnywhere asked bytes x) (sym h.same) r });
  known = inr (inl h.status);
}

says_hidden : (asked : Asked) (bytes : List ℕ) (from to : ℕ) (answer : Answer) → HasHidden answer from to
    → TellsHidden asked bytes from to → SaysOf asked bytes answer
says_hidden asked bytes from to answer h t = record {
  accepted = λ e. let one = h.status in absurd (cc);
  refused = λ e. inr (h.number, subst (λ x. TellsHidden asked bytes answer.from_byte x) (sym h.ends) (subst (λ x. TellsHidden asked bytes x to) (sym h.begins) t));
  known = inr (inl h.status);
}

pub says_none : (asked : Asked) (bytes : List ℕ) (answer : Answer) → answer.status ≡ 3 → SaysOf asked bytes answer
says_none asked bytes answer s = record {
  accepted = λ e. absurd (cc);
  refused = λ e. absurd (cc);
  known = inr (inr s);
}

-- ---- what a check answers

fault_says : (asked : Asked) (taken piece : List ℕ) (why : AnywhereFault) (answer : Answer) → TellsFault asked taken piece why
    → HasFault answer why → SaysOf asked (taken ++ piece) answer
fault_says asked taken piece (fault.Stop (stop.Refused refusal)) answer t h = says_no asked (taken ++ piece) refusal answer h (((t.0.right, t.0.first), t.1), λ is. absurd (t.0.whole is))
fault_says asked taken piece (fault.Stop stop.OutOfMemory) answer t h = says_none asked (taken ++ piece) answer h
fault_says asked taken piece (fault.Stop stop.Spent) answer t h = absurd t
fault_says asked taken piece fault.ReadFault answer t h = absurd t
fault_says asked taken piece (fault.Hidden from to) answer t h = says_hidden asked (taken ++ piece) from to answer h t.0

end_says : (asked : Asked) (taken : List ℕ) (why : AnywhereFault) (answer : Answer) → EndTells asked taken (Err why)
    → HasFault answer why → SaysOf asked taken answer
end_says asked taken (fault.Stop (stop.Refused refusal)) answer t h = says_no asked taken refusal answer h (((t.right, t.first), λ from to hidden. absurd (t.passes from to hidden)), λ is. t.passes)
end_says asked taken (fault.Stop stop.OutOfMemory) answer t h = absurd t
end_says asked taken (fault.Stop stop.Spent) answer t h = absurd t
end_says asked taken fault.ReadFault answer t h = absurd t
end_says asked taken (fault.Hidden from to) answer t h = absurd t

pub answer_says : (asked : Asked) (bytes : List ℕ) (result : Result Totals AnywhereFault) (answer : Answer) → AnswerTells asked bytes result → HasAnswer answer result → SaysOf asked bytes answer
answer_says asked bytes (Ok report) answer t h = says_yes asked bytes report answer h t
answer_says asked bytes (Err why) answer (inl t) h = fault_says asked [] bytes why answer t h
answer_says asked bytes (Err why) answer (inr t) h = end_says asked bytes why answer t h

pub ended_says : (asked : Asked) (taken : List ℕ) (result : Result Totals AnywhereFault) (answer : Answer) → EndTells asked taken result → HasAnswer answer result → SaysOf asked taken answer
ended_says asked taken (Ok report) answer t h = says_yes asked taken report answer h t
ended_says asked taken (Err why) answer t h = end_says asked taken why answer t h

-- ---- a piece

decides_alone : (asked : Asked) (taken piece : List ℕ) (answer : Answer) (refusal : Refusal) → HasRefusal answer refusal
    → DecidesAlone asked taken piece refusal → TellsRefusal (DecidesAlone asked taken piece) answer
decides_alone asked taken piece answer refusal h d = record {
  reason = refusal.reason;
  number = h.number;
  right = subst (λ x. DecidesAlone asked taken piece x) (sym h.same) d;
}

tells_name : (asked : Asked) (taken piece : List ℕ) (answer : Answer) (from to : ℕ) → HasHidden answer from to
    → TellsHidden asked (taken ++ piece) from to → length taken < to → TellsNameIn asked taken piece answer
tells_name asked taken piece answer from to h t later = record {
  number = h.number;
  hidden = subst (λ x. TellsHidden asked (taken ++ piece) answer.from_byte x) (sym h.ends) (subst (λ x. TellsHidden asked (taken ++ piece) x to) (sym h.begins) t);
  later = subst (λ x. length taken < x) (sym h.ends) later;
}

pub fed_more : (asked : Asked) (new : Checking) (taken piece : List ℕ) (answer : Answer) → answer.status ≡ 4 → HasTaken new (taken ++ piece) → FedSays asked new taken piece answer
fed_more asked new taken piece answer h t = record { more = λ e. t; refused = λ e. absurd (cc); known = inl h }

pub fed_fault : (asked : Asked) (new : Checking) (taken piece : List ℕ) (why : AnywhereFault) (answer : Answer) → HasFault answer why
    → TellsFault asked taken piece why → FedSays asked new taken piece answer
fed_fault asked new taken piece (fault.Stop (stop.Refused refusal)) answer h t = record {
  more = λ e. let one = h.status in absurd (cc);
  refused = λ e. inl (decides_alone asked taken piece answer refusal h t);
  known = inr (inl h.status);
}
fed_fault asked new taken piece (fault.Stop stop.OutOfMemory) answer h t = record { more = λ e. absurd (cc); refused = λ e. absurd (cc); known = inr (inr h) }
fed_fault asked new taken piece (fault.Stop stop.Spent) answer h t = absurd t
fed_fault asked new taken piece fault.ReadFault answer h t = absurd t
fed_fault asked new taken piece (fault.Hidden from to) answer h t = record {
  more = λ e. let one = h.status in absurd (cc);
  refused = λ e. inr (tells_name asked taken piece answer from to h t.0 t.1);
  known = inr (inl h.status);
}

-- ---- how many bytes are whole contents

no_memory : (status : ℕ) → status ≡ 3 → KnowsWhole status → ⊥
no_memory status e (inl k) = absurd (cc)
no_memory status e (inr (inl k)) = absurd (cc)
no_memory status e (inr (inr k)) = absurd (cc)

spent : (status : ℕ) → status ≡ 5 → KnowsWhole status → ⊥
spent status e (inl k) = absurd (cc)
spent status e (inr (inl k)) = absurd (cc)
spent status e (inr (inr k)) = absurd (cc)

pub says_whole : (filter : FilterView) (options : Options) (bytes : List ℕ) (answer : Answer) (n m : ℕ) → HasWhole answer n → n ≡ m → IsFront filter options bytes m → SaysWhole filter options bytes answer
unfolding SaysWhole
says_whole filter options bytes answer n m w e i = λ k. subst (IsFront filter options bytes) (sym (w k ∙ e)) i

pub fault_whole : (filter : FilterView) (options : Options) (bytes : List ℕ) (why : AnywhereFault) (answer : Answer) (n m : ℕ) → HasFault answer why → HasWhole answer n → n ≡ m
    → IfDecided (IsFront filter options bytes m) why → SaysWhole filter options bytes answer
unfolding SaysWhole
fault_whole filter options bytes (fault.Stop (stop.Refused refusal)) answer n m h w e i = says_whole filter options bytes answer n m w e i
fault_whole filter options bytes (fault.Stop stop.OutOfMemory) answer n m h w e i = λ k. absurd (no_memory answer.status h k)
fault_whole filter options bytes (fault.Stop stop.Spent) answer n m h w e i = λ k. absurd (spent answer.status h k)
fault_whole filter options bytes fault.ReadFault answer n m h w e i = λ k. absurd (spent answer.status h k)
fault_whole filter options bytes (fault.Hidden from to) answer n m h w e i = says_whole filter options bytes answer n m w e i

pub answer_whole : (filter : FilterView) (options : Options) (bytes : List ℕ) (result : Result Totals AnywhereFault) (answer : Answer) (n m : ℕ) → HasAnswer answer result → HasWhole answer n
    → n ≡ m → FrontAfter filter options bytes m result → SaysWhole filter options bytes answer
answer_whole filter options bytes (Ok report) answer n m h w e i = says_whole filter options bytes answer n m w e i
answer_whole filter options bytes (Err why) answer n m h w e i = fault_whole filter options bytes why answer n m h w e i

-- where there was no memory to begin, it says none
pub none_whole : (filter : FilterView) (options : Options) (bytes : List ℕ) (answer : Answer) → answer.status ≡ 3 → SaysWhole filter options bytes answer
unfolding SaysWhole
none_whole filter options bytes answer e = λ k. absurd (no_memory answer.status e k)
