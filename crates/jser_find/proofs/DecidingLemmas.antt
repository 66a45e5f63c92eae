-- How many bytes decide of a front, and of all.
use Rattle.std.proofs.Common.{◌≡◌, ℕ, ◌+◌, ◌<◌, ◌≤◌, inl, inr, List, [], ◌++◌, length, take, drop, refl, sym, ◌∙◌, ap, subst, arith, append_assoc, length-append, IsTrue}
use Rattle.std.proofs.lemmas.Bool.{cases_lt}
use Rattle.std.proofs.lemmas.List.{take-append-drop, take-append-le}
use Rattle.jser_grammar.specs.Parts.{IsBytes}
use Rattle.jser_verdict.specs.Reasons.{Reason, bytes_exceeded, truncated}
use Rattle.jser_verdict.specs.Gates.{Gate}
use Rattle.jser_verdict.specs.Rows.{row}
use Rattle.jser_verdict.specs.FirstFault.{IsFault, RowHolds}
use Rattle.jser_verdict.specs.Answers.{Told, accepted, refused_at, answer}
use Rattle.jser_verdict.proofs.AnswerLaws.{refuses_first_fault}
use Rattle.jser_verdict.proofs.ForGood.{refused_for_good}
use Rattle.jser_verdict.proofs.ByteLists.{bytes_both, bytes_right}
use Rattle.jser_find.specs.Budgets.{decided, deciding_by}

pub all_decide : (gate : Gate) (bytes : List ℕ) → answer gate bytes ≡ accepted → deciding_by gate bytes ≡ length bytes
unfolding deciding_by
all_decide gate bytes e = ap (decided (length bytes)) e

pub some_decide : (gate : Gate) (bytes : List ℕ) (at end : ℕ) (reason : Reason) → answer gate bytes ≡ refused_at at end reason → deciding_by gate bytes ≡ end
unfolding deciding_by
some_decide gate bytes at end reason e = ap (decided (length bytes)) e

-- ---- a fault ends in the bytes, and that they end too early is told at their end

fault_within : (gate : Gate) (bytes : List ℕ) (at end : ℕ) (reason : Reason) → IsFault gate bytes at end reason → end ≤ length bytes
fault_within gate bytes at end reason (l, some, rest, opened, e, h) =
    let sp : length bytes ≡ at + (length some + length rest) =
    ap length opened.split ∙ length-append _ (some ++ rest) ∙ ap (λ k. k + length (some ++ rest)) (sym opened.begins) ∙ ap (λ k. at + k) (length-append some rest) in
    omega arith

cut_at_end : (gate : Gate) (bytes : List ℕ) (at end : ℕ) → IsFault gate bytes at end truncated → end ≡ length bytes
cut_at_end gate bytes at end (l, some, rest, opened, e, h) = go h
  where
    ends : rest ≡ [] → end ≡ length bytes
    ends er =
        let z : length rest ≡ 0 = ap length er in
        let sp : length bytes ≡ at + (length some + length rest) =
        ap length opened.split ∙ length-append _ (some ++ rest) ∙ ap (λ k. k + length (some ++ rest)) (sym opened.begins) ∙ ap (λ k. at + k) (length-append some rest) in
        omega arith

    go : RowHolds gate bytes at end l some rest truncated → end ≡ length bytes
    go (inl r) = let k : IsTrue (row truncated gate l some) = r in absurd (cc)
    go (inr (inl x)) = let k : truncated ≡ bytes_exceeded = x.0 in absurd (cc)
    go (inr (inr x)) = ends x.1.0

-- the first fault of bytes that are refused
fault_of : (gate : Gate) (bytes : List ℕ) (at end : ℕ) (reason : Reason) → IsBytes bytes → answer gate bytes ≡ refused_at at end reason → IsFault gate bytes at end reason
fault_of gate bytes at end reason h e = ((refuses_first_fault gate bytes at end reason h).0 e).0

-- a refusal that ends before the bytes do is none of those that their end decides
early : (gate : Gate) (bytes : List ℕ) (at end : ℕ) (reason : Reason) → IsBytes bytes → answer gate bytes ≡ refused_at at end reason → end < length bytes → reason ≡ truncated → ⊥
early gate bytes at end reason h e less er =
    let all = cut_at_end gate bytes at end (subst (λ r. IsFault gate bytes at end r) er (fault_of gate bytes at end reason h e)) in
    omega arith

-- ---- no more than all

pub decide_within : (gate : Gate) (bytes : List ℕ) → IsBytes bytes → deciding_by gate bytes ≤ length bytes
decide_within gate bytes h = by (answer gate bytes) refl
  where
    by : (told : Told) → answer gate bytes ≡ told → deciding_by gate bytes ≤ length bytes
    by accepted e = let d = all_decide gate bytes e in omega arith
    by (refused_at at end reason) e =
        let d = some_decide gate bytes at end reason e in
        let w = fault_within gate bytes at end reason (fault_of gate bytes at end reason h e) in
        omega arith

-- ---- where a front decides, what is behind it does not matter

pub front_decides : (gate : Gate) (front after : List ℕ) → IsBytes front → IsBytes after → deciding_by gate front < length front
    → deciding_by gate (front ++ after) ≡ deciding_by gate front
front_decides gate front after h ha less = by (answer gate front) refl
  where
    by : (told : Told) → answer gate front ≡ told → deciding_by gate (front ++ after) ≡ deciding_by gate front
    by accepted e = let d = all_decide gate front e in absurd (omega (arith, d, less))
    by (refused_at at end reason) e =
        let d : deciding_by gate front ≡ end = some_decide gate front at end reason e in
        let split : take end front ++ drop end front ≡ front = take-append-drop end front in
        let left : IsBytes (drop end front) = bytes_right (take end front) (drop end front) (subst IsBytes (sym split) h) in
        let x = refused_for_good gate front at end reason h e (early gate front at end reason h e (omega (arith, d, less))) (drop end front ++ after)
        (bytes_both (drop end front) after left ha) in
        let same : take end front ++ (drop end front ++ after) ≡ front ++ after =
        sym (append_assoc (take end front) (drop end front) after) ∙ ap (λ xs. xs ++ after) split in
        some_decide gate (front ++ after) at end reason (ap (answer gate) (sym same) ∙ x.0) ∙ sym d

-- where it does not, no fewer bytes do
pub front_is_read : (gate : Gate) (front after : List ℕ) → IsBytes front → IsBytes after → length front ≤ deciding_by gate front
    → length front ≤ deciding_by gate (front ++ after)
front_is_read gate front after h ha full = by (answer gate (front ++ after)) refl
  where
    both : IsBytes (front ++ after)
    both = bytes_both front after h ha

    longer : length front ≤ length (front ++ after)
    longer = let n = length-append front after in omega arith

    short : (at end : ℕ) (reason : Reason) → answer gate (front ++ after) ≡ refused_at at end reason → end < length front → ⊥
    short at end reason e less =
        let split : take end front ++ drop end front ≡ front = take-append-drop end front in
        let left : IsBytes (drop end front) = bytes_right (take end front) (drop end front) (subst IsBytes (sym split) h) in
        let x = refused_for_good gate (front ++ after) at end reason both e (early gate (front ++ after) at end reason both e (omega (arith, less, longer))) (drop end front) left in
        let same : take end (front ++ after) ++ drop end front ≡ front =
        ap (λ xs. xs ++ drop end front) (take-append-le end front after (omega (arith, less))) ∙ split in
        let d : deciding_by gate front ≡ end = some_decide gate front at end reason (ap (answer gate) (sym same) ∙ x.0) in
        omega (arith, d, less, full)

    by : (told : Told) → answer gate (front ++ after) ≡ told → length front ≤ deciding_by gate (front ++ after)
    by accepted e = let d = all_decide gate (front ++ after) e in omega (arith, d, longer)
    by (refused_at at end reason) e =
        let d = some_decide gate (front ++ after) at end reason e in
        elim (cases_lt end (length front)) [
          | inl less ↦ absurd (short at end reason e less)
          | inr not ↦ omega (arith, d, not)
        ]
