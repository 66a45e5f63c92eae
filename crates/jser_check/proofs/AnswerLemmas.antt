-- From what a reader tells under a gate to what a check answers of a filter.
use Rattle.std.proofs.Common.{ℕ, ◌≤◌, List, [], ◌++◌, take, drop, inl, inr, refl, sym, subst, arith, take-append-drop}
use Rattle.jser_verdict.specs.Reasons.{Reason as ToldReason}
use Rattle.jser_verdict.specs.Reasons.{truncated}
use Rattle.jser_verdict.specs.Gates.{Gate}
use Rattle.jser_verdict.specs.FirstFault.{IsFirstFault}
use Rattle.jser_verdict.proofs.ByteLists.{bytes_right}
use Rattle.jser_reader.specs.declared.Refusal.{Refusal}
use Rattle.jser_reader.specs.declared.Totals.{Totals}
use Rattle.jser_reader.specs.Streams.{AreTruncated}
use Rattle.jser_filter.specs.Filters.{FilterView}
use Rattle.jser_check.specs.declared.gate.Options.{Options}
use Rattle.jser_check.specs.Admitted.{AreAdmitted, gate_of_filter}
use Rattle.jser_reader.specs.Answers.{FrontRefused, IsRightOf, PassesWith}
use Rattle.jser_check.specs.Answers.{Reports, Refuses}
use Rattle.jser_reader.proofs.RefusalLemmas.{refused_whole}
use Rattle.jser_check.proofs.SpelledBytes.{stream_bytes}
use Rattle.jser_check.proofs.AdmittedLemmas.{admits_exactly}

pub reports : (filter : FilterView) (options : Options) (bytes : List ℕ) (totals : Totals) → PassesWith (gate_of_filter filter options) bytes totals
    → Reports filter options bytes totals
reports filter options bytes totals (list, passes, are) = (list, (admits_exactly filter options bytes list).1 passes, are)

fault_ordered : (gate : Gate) (bytes : List ℕ) (at end : ℕ) (r : ToldReason) → IsFirstFault gate bytes at end r → at ≤ end
fault_ordered gate bytes at end r f = let e = f.0.4 in omega arith

front_refuses : (filter : FilterView) (options : Options) (bytes : List ℕ) (refusal : Refusal) → FrontRefused (gate_of_filter filter options) bytes refusal
    → Refuses filter options bytes refusal
front_refuses filter options bytes refusal f =
    let gate = gate_of_filter filter options in
    let front = take refusal.to_byte bytes in
    let begins : (after : List ℕ) → AreAdmitted filter options (front ++ after) → ⊥ =
    λ after a.
    f.refused.none_passes after a.0 (bytes_right front after (stream_bytes (front ++ after) a.0 a.1.stream))
    ((admits_exactly filter options (front ++ after) a.0).0 a.1) in
    record {
      none =
          λ a.
          begins (drop refusal.to_byte bytes) (subst (λ xs. AreAdmitted filter options xs) (sym (take-append-drop refusal.to_byte bytes)) a);
      begins = λ e after a. begins after a;
      front = λ e. f.refused;
      cut = λ e. absurd (refused_whole gate front refusal f.refused e);
      ordered = fault_ordered gate (front ++ []) refusal.from_byte refusal.to_byte f.refused.reason (f.refused.is_first [] refl);
      within = f.within;
    }

cut_refuses : (filter : FilterView) (options : Options) (bytes : List ℕ) (refusal : Refusal) → AreTruncated (gate_of_filter filter options) bytes refusal
    → Refuses filter options bytes refusal
cut_refuses filter options bytes refusal t =
    let all = t.all in
    record {
      none = λ a. t.none_passes a.0 ((admits_exactly filter options bytes a.0).0 a.1);
      begins = λ e after a. absurd (e t.is_named);
      front = λ e. absurd (e t.is_named);
      cut = λ e. t;
      ordered = fault_ordered (gate_of_filter filter options) bytes refusal.from_byte refusal.to_byte truncated t.is_first;
      within = omega arith;
    }

pub right_refuses : (filter : FilterView) (options : Options) (bytes : List ℕ) (refusal : Refusal) → IsRightOf (gate_of_filter filter options) bytes refusal
    → Refuses filter options bytes refusal
right_refuses filter options bytes refusal (inl f) = front_refuses filter options bytes refusal f
right_refuses filter options bytes refusal (inr t) = cut_refuses filter options bytes refusal t
