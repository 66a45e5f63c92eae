-- From what a reader tells under a gate to what the call that makes trees answers.
use Rattle.std.proofs.Common.{◌≡◌, ℕ, ◌+◌, List, [], ◌∷◌, ◌++◌, length, take, drop, Result, Ok, Err, inl, inr, refl, sym, ◌∙◌, ap, subst, arith, length-append, take-append-drop}
use Rattle.jser_grammar.specs.Parts.{IsBytes}
use Rattle.jser_grammar.specs.Trees.{ContentTrees}
use Rattle.jser_grammar.specs.Streams.{IsStreamOf}
use Rattle.jser_reading.proofs.OneReading.{one_reading_law}
use Rattle.jser_verdict.specs.Gates.{Gate}
use Rattle.jser_verdict.specs.Passing.{Passes}
use Rattle.jser_verdict.proofs.ByteLists.{bytes_right}
use Rattle.jser_reader.specs.declared.Refusal.{Refusal}
use Rattle.jser_reader.specs.declared.Stop.{Stop}
use Rattle.jser_reader.specs.declared.Stop.TheVariants as stop
use Rattle.jser_reader.specs.declared.Totals.{Totals}
use Rattle.jser_reader.specs.Streams.{AreRefused, AreTruncated}
use Rattle.jser_reader.specs.declared.tally.Tally.{Tally}
use Rattle.jser_reader.specs.Readers.{Seen}
use Rattle.jser_reader.specs.ReaderStates.{Reading, StandsFor, SkipTells, FinishTells}
use Rattle.jser_reader.specs.Answers.{IfRefused, FrontRefused, IsRightOf, PassesWith, Tells}
use Rattle.jser_reader.proofs.RefusalLemmas.{front_refused}
use Rattle.jser_trees.specs.Answers.{tree_gate, SomePasses, Refuses}

-- ---- what the reader tells

stop_cases : (gate : Gate) (bytes : List ℕ) (why : Stop) (old : Seen) (before : Tally) (new : Seen) (after : Tally) → StandsFor gate [] old before
    → SkipTells gate bytes (Err why) old before new after → Tells gate bytes (Err why)
unfolding SkipTells
stop_cases gate bytes (stop.Refused refusal) old before new after st t =
    let x = t [] st in
    inl (front_refused gate (take x.0 bytes) (drop x.0 bytes) bytes refusal (sym (take-append-drop x.0 bytes)) x.2)
stop_cases gate bytes stop.OutOfMemory old before new after st t = tt
stop_cases gate bytes stop.Spent old before new after st t = t [] st

pub stop_tells : {G : Type 0} (told : G → Gate) (gate : G) (old new : Reading G) (bytes : List ℕ) (why : Stop) → old.gate ≡ gate
    → StandsFor (told gate) [] old.machine old.tally → SkipTells (told old.gate) bytes (Err why) old.machine old.tally new.machine new.tally
    → Tells (told gate) bytes (Err why)
stop_tells told gate old new bytes why same st t =
    stop_cases (told gate) bytes why old.machine old.tally new.machine new.tally st
    (subst (λ g. SkipTells (told g) bytes (Err why) old.machine old.tally new.machine new.tally) same t)

finish_cases : (gate : Gate) (bytes : List ℕ) (result : Result Totals Stop) (old : Seen) (tally : Tally) (new : Seen) → StandsFor gate bytes old tally
    → FinishTells gate result old tally new → Tells gate bytes result
unfolding FinishTells
finish_cases gate bytes (Ok totals) old tally new st t = (t bytes st).0
finish_cases gate bytes (Err (stop.Refused refusal)) old tally new st t = inr (t bytes st).0
finish_cases gate bytes (Err stop.OutOfMemory) old tally new st t = tt
finish_cases gate bytes (Err stop.Spent) old tally new st t = t bytes st

skipped : (gate : Gate) (bytes : List ℕ) (old : Seen) (before : Tally) (new : Seen) (after : Tally) → StandsFor gate [] old before
    → SkipTells gate bytes (Ok tt) old before new after → StandsFor gate bytes new after
unfolding SkipTells
skipped gate bytes old before new after st t = t [] st

pub finish_tells : {G : Type 0} (told : G → Gate) (gate : G) (old mid new : Reading G) (bytes : List ℕ) (result : Result Totals Stop) → old.gate ≡ gate
    → StandsFor (told gate) [] old.machine old.tally → mid.gate ≡ old.gate
    → SkipTells (told old.gate) bytes (Ok tt) old.machine old.tally mid.machine mid.tally
    → FinishTells (told mid.gate) result mid.machine mid.tally new.machine → Tells (told gate) bytes result
finish_tells told gate old mid new bytes result same st kept s t =
    finish_cases (told gate) bytes result mid.machine mid.tally new.machine
    (skipped (told gate) bytes old.machine old.tally mid.machine mid.tally st
    (subst (λ g. SkipTells (told g) bytes (Ok tt) old.machine old.tally mid.machine mid.tally) same s))
    (subst (λ g. FinishTells (told g) result mid.machine mid.tally new.machine) (kept ∙ same) t)

-- ---- what that says of streams

front_refuses : (gate : Gate) (bytes : List ℕ) (refusal : Refusal) → IsBytes bytes → FrontRefused gate bytes refusal → Refuses gate bytes refusal
front_refuses gate bytes refusal h f =
    let front = take refusal.to_byte bytes in
    let e = take-append-drop refusal.to_byte bytes in
    let left : IsBytes (drop refusal.to_byte bytes) = bytes_right front (drop refusal.to_byte bytes) (subst IsBytes (sym e) h) in
    record {
      none =
          λ a. f.refused.none_passes (drop refusal.to_byte bytes) a.0 left (subst (λ xs. Passes gate xs a.0) (sym e) a.1);
      begins = λ n after some a. f.refused.none_passes after a.0 some a.1;
      within = f.within;
    }

cut_refuses : (gate : Gate) (bytes : List ℕ) (refusal : Refusal) → AreTruncated gate bytes refusal → Refuses gate bytes refusal
cut_refuses gate bytes refusal t =
    let all = t.all in
    record {
      none = λ a. t.none_passes a.0 a.1;
      begins = λ n after some a. absurd (n t.is_named);
      within = omega arith;
    }

right_refuses : (gate : Gate) (bytes : List ℕ) (refusal : Refusal) → IsBytes bytes → IsRightOf gate bytes refusal → Refuses gate bytes refusal
right_refuses gate bytes refusal h (inl f) = front_refuses gate bytes refusal h f
right_refuses gate bytes refusal h (inr t) = cut_refuses gate bytes refusal t

pub tells_refused : (gate : Gate) (bytes : List ℕ) (why : Stop) → IsBytes bytes → Tells gate bytes (Err why) → IfRefused (Refuses gate bytes) why
tells_refused gate bytes (stop.Refused refusal) h t = right_refuses gate bytes refusal h t
tells_refused gate bytes stop.OutOfMemory h t = tt
tells_refused gate bytes stop.Spent h t = t

-- the list that the bytes spell is the one that passes
pub tells_list : (gate : Gate) (bytes : List ℕ) (list : ContentTrees) (totals : Totals) → PassesWith gate bytes totals → IsStreamOf bytes list → Passes gate bytes list
tells_list gate bytes list totals a spelled = subst (λ x. Passes gate bytes x) (one_reading_law bytes a.0 list a.1.0 spelled) a.1

-- the lowered gate is that of the caller
pub lowered_tells : {G : Type 0} (told : G → Gate) (gate given : G) (bytes : List ℕ) (result : Result Totals Stop) → gate ≡ given
    → Tells (tree_gate (told gate)) bytes result → Tells (tree_gate (told given)) bytes result
lowered_tells told gate given bytes result same t = subst (λ g. Tells (tree_gate (told g)) bytes result) same t
