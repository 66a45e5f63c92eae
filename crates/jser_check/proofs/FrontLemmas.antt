-- The longest front that a filter admits, by the longest one that its gate lets pass.
use Rattle.std.proofs.Common.{ℕ, List, [], ◌++◌, take, Result, Ok, Err, inl, inr, refl, subst, append-nil}
use Rattle.jser_grammar.specs.Parts.{IsBytes}
use Rattle.jser_verdict.specs.Gates.{Gate}
use Rattle.jser_reader.specs.declared.Stop.{Stop}
use Rattle.jser_reader.specs.declared.Stop.TheVariants as stop
use Rattle.jser_reader.specs.ReaderStates.{StandsFor, SkipTells, WholeTold, WholeAtEnd}
use Rattle.jser_reader.specs.WholeContents.{IsWhole, StaysWhole}
use Rattle.jser_filter.specs.Filters.{FilterView}
use Rattle.jser_check.specs.declared.gate.Options.{Options}
use Rattle.jser_check.specs.Admitted.{gate_of_filter}
use Rattle.jser_check.proofs.Readers.{Reader, gate_of, HasTaken}
use Rattle.jser_check.specs.Fronts.{IfDecided, IsFront, StaysFront, whole_in}
use Rattle.jser_check.proofs.AdmittedLemmas.{admits_exactly}
use Rattle.jser_check.proofs.FeedLemmas.{feed_whole}

pub whole_front : (filter : FilterView) (options : Options) (bytes : List ℕ) (n : ℕ) → IsWhole (gate_of_filter filter options) bytes n → IsFront filter options bytes n
whole_front filter options bytes n w = record {
  within = w.within;
  front = elim w.front [
    | inl none ↦ inl none
    | inr some ↦ inr (some.0, (admits_exactly filter options (take n bytes) some.0).1 some.1)
  ];
  longest = λ m lt le x. w.longest m lt le x.0 ((admits_exactly filter options (take m bytes) x.0).0 x.1);
}

pub stays_front : (filter : FilterView) (options : Options) (bytes : List ℕ) (n : ℕ) → StaysWhole (gate_of_filter filter options) bytes n → StaysFront filter options bytes n
stays_front filter options bytes n w = λ after h. whole_front filter options (bytes ++ after) n (w after h)

-- ---- the check in pieces

pub end_front : (old new : Reader) (taken : List ℕ) → WholeAtEnd (gate_of old) old.machine old.tally new.machine new.tally → HasTaken old taken
    → IsFront old.gate.filter old.gate.options taken (whole_in new)
unfolding WholeAtEnd
end_front old new taken w st = whole_front old.gate.filter old.gate.options taken (whole_in new) (w taken st)

pub told_front : (check : Reader) (taken : List ℕ) (n : ℕ) → WholeTold (gate_of check) n check.machine check.tally → HasTaken check taken
    → IsFront check.gate.filter check.gate.options taken n
unfolding WholeTold
told_front check taken n w st = whole_front check.gate.filter check.gate.options taken n (w taken st)

-- ---- a reader and a piece

nothing_more : (gate : Gate) (bytes : List ℕ) (n : ℕ) → StaysWhole gate bytes n → IsWhole gate bytes n
nothing_more gate bytes n h = subst (λ xs. IsWhole gate xs n) (append-nil bytes) (h [] no_bytes)
  where
    no_bytes : IsBytes []
    no_bytes = refl

-- what it says of the bytes up to the piece's end, unless memory ran out
pub skip_front : (old new : Reader) (taken piece : List ℕ) (result : Result (Unit {0}) Stop) → IsBytes piece
    → SkipTells (gate_of old) piece result old.machine old.tally new.machine new.tally → HasTaken old taken
    → IfDecided (IsFront old.gate.filter old.gate.options (taken ++ piece) (whole_in new)) result
unfolding SkipTells StandsFor
skip_front old new taken piece (Ok x) h s st =
    let now = s taken st in whole_front old.gate.filter old.gate.options (taken ++ piece) (whole_in new) (now.0.whole now.1)
skip_front old new taken piece (Err (stop.Refused refusal)) h s st =
    whole_front old.gate.filter old.gate.options (taken ++ piece) (whole_in new)
    (nothing_more (gate_of old) (taken ++ piece) (whole_in new) (feed_whole (gate_of old) piece taken (stop.Refused refusal) old.machine old.tally new.machine new.tally h s st))
skip_front old new taken piece (Err stop.OutOfMemory) h s st = tt
skip_front old new taken piece (Err stop.Spent) h s st = tt
