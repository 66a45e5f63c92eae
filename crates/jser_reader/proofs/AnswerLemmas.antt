-- From the walk over the bytes to streams and first faults, by the laws of the verdict.
use Rattle.std.proofs.Common.{◌≡◌, ℕ, suc, ◌+◌, ◌≤◌, inl, inr, Bool, true, false, nat_le, List, [], ◌∷◌, ◌++◌, length, take, refl, sym, ◌∙◌, ap, subst, arith, IsTrue, append_assoc, append-nil, length-append}
use Rattle.std.proofs.lemmas.Bool.Decides.{nat_tests}
use Rattle.jser_grammar.specs.Trees.{ContentTrees}
use Rattle.jser_grammar.specs.Parts.{IsBytes}
use Rattle.jser_reading.specs.Goals.{State, settled}
use Rattle.jser_reading.specs.Machine.{begin_state, IsDone}
use Rattle.jser_reading.specs.Scanner.{walk, ended, refused}
use Rattle.jser_verdict.specs.Reasons.{Reason, bytes_exceeded, truncated, turn, reason_with}
use Rattle.jser_verdict.specs.Gates.{Gate}
use Rattle.jser_verdict.specs.Rows.{row}
use Rattle.jser_verdict.specs.Passing.{Passes}
use Rattle.jser_verdict.specs.FirstFault.{IsFault, IsFirstFault, RowHolds}
use Rattle.jser_verdict.specs.Answers.{accepted, refused_at, answer}
use Rattle.jser_verdict.specs.Verdicts.{verdict}
use Rattle.jser_verdict.proofs.Turns.{reason_of_turn}
use Rattle.jser_verdict.proofs.WalkFaults.{refuses_the_first, cut_is_the_first, over_is_the_first}
use Rattle.jser_verdict.proofs.AnswerLaws.{accepts_passing, accepts_no_fault, refuses_first_fault}
use Rattle.jser_verdict.proofs.ForGood.{refused_for_good}
use Rattle.jser_verdict.proofs.ByteLists.{bytes_both}
use Rattle.jser_reader.specs.declared.refusal.Refusal.{Refusal}
use Rattle.jser_reader.specs.Reasons.{named}
use Rattle.jser_reader.specs.Walks.{IsRefusedBy}
use Rattle.jser_reader.specs.Streams.{AreRefused, AreTruncated}

-- ---- what passes has no fault

fault_passes : (gate : Gate) (bytes : List ℕ) (at end : ℕ) (reason : Reason) (list : ContentTrees) → IsBytes bytes → IsFirstFault gate bytes at end reason
    → Passes gate bytes list → ⊥
fault_passes gate bytes at end reason list h f p =
    accepts_no_fault gate bytes h ((accepts_passing gate bytes h).1 (list, p)) at end reason f.0

-- ---- bytes that are accepted

whole_answer : (gate : Gate) (bytes : List ℕ) (s : State) → length bytes ≤ gate.bytes → walk (verdict gate) begin_state [] bytes ≡ ended s [] → IsDone (settled s)
    → answer gate bytes ≡ accepted
whole_answer gate bytes s le e d =
    let few : nat_le (length bytes) gate.bytes ≡ true = grind (arith, nat_tests) in
    rw few (rw e (rw d refl))

pub passes : (gate : Gate) (bytes : List ℕ) (s : State) → IsBytes bytes → length bytes ≤ gate.bytes → walk (verdict gate) begin_state [] bytes ≡ ended s []
    → IsDone (settled s) → (list : ContentTrees) × Passes gate bytes list
passes gate bytes s h le e d = (accepts_passing gate bytes h).0 (whole_answer gate bytes s le e d)

-- ---- bytes that end too early

pub truncates : (gate : Gate) (bytes cut : List ℕ) (s : State) (refusal : Refusal) → IsBytes bytes → length bytes ≤ gate.bytes
    → walk (verdict gate) begin_state [] bytes ≡ ended s cut → (IsDone (settled s) × (cut ≡ []) → ⊥)
    → refusal.reason ≡ named truncated → refusal.from_byte + length cut ≡ length bytes → refusal.to_byte ≡ length bytes
    → AreTruncated gate bytes refusal
truncates gate bytes cut s refusal h le e d er ef et =
    let x = cut_is_the_first gate bytes cut s h le e d in
    let at : x.0 ≡ refusal.from_byte = let k = x.1 in omega arith in
    let f : IsFirstFault gate bytes refusal.from_byte refusal.to_byte truncated =
    subst (λ n. IsFirstFault gate bytes refusal.from_byte n truncated) (sym et) (subst (λ a. IsFirstFault gate bytes a (length bytes) truncated) at x.2) in
    record {
      is_named = er;
      all = et;
      is_first = f;
      none_passes = λ list p. fault_passes gate bytes refusal.from_byte refusal.to_byte truncated list h f p;
    }

-- ---- bytes that are refused

take_all : (xs : List ℕ) → take (length xs) xs ≡ xs
take_all [] = refl
take_all (x ∷ xs) = ap (λ ys. x ∷ ys) (take_all xs)

-- a refusal that any byte may follow is none that the end alone decides
row_decides : (gate : Gate) (bytes : List ℕ) (b : ℕ) (at : ℕ) (reason : Reason) → IsFault gate (bytes ++ (b ∷ [])) at (length bytes) reason → reason ≡ truncated → ⊥
row_decides gate bytes b at reason (l, some, rest, opened, e, h) et = go h
  where
    some_rest : rest ≡ [] → ⊥
    some_rest er =
        let n : length (bytes ++ (b ∷ [])) ≡ length bytes + 1 = length-append bytes (b ∷ []) in
        let sp : length (bytes ++ (b ∷ [])) ≡ at + (length some + length rest) =
        ap length opened.split ∙ length-append _ (some ++ rest) ∙ ap (λ k. k + length (some ++ rest)) (sym opened.begins) ∙ ap (λ k. at + k) (length-append some rest) in
        let z : length rest ≡ 0 = ap length er in
        omega arith

    go : RowHolds gate (bytes ++ (b ∷ [])) at (length bytes) l some rest reason → ⊥
    go (inl r) = let k : IsTrue (row truncated gate l some) = subst (λ t. IsTrue (row t gate l some)) et r in absurd (cc)
    go (inr (inl x)) = let k : bytes_exceeded ≡ truncated = sym x.0 ∙ et in absurd (cc)
    go (inr (inr x)) = some_rest x.1.0

same_turn : (r t : Reason) → turn r ≡ turn t → r ≡ t
same_turn r t e = sym (reason_of_turn r) ∙ ap reason_with e ∙ reason_of_turn t

-- the walk that refuses the last of these bytes names the first fault, whatever comes after them
first_after : (gate : Gate) (bytes wrong : List ℕ) (reason : Reason) (from : ℕ) (b : ℕ) → IsBytes bytes → IsBytes (b ∷ []) → length bytes ≤ gate.bytes
    → ((rest : List ℕ) → walk (verdict gate) begin_state [] (bytes ++ rest) ≡ refused wrong rest (turn reason)) → from + length wrong ≡ length bytes
    → IsFirstFault gate (bytes ++ (b ∷ [])) from (length bytes) reason
first_after gate bytes wrong reason from b h hb le w e = go (nat_le (suc (length bytes)) gate.bytes) refl
  where
    named_first : (seen after rest : List ℕ) → (x : (at : ℕ) × (r : Reason) × (turn reason ≡ turn r) × (length seen ≡ at + length wrong + length rest) × IsFirstFault gate (seen ++ after) at (at + length wrong) r)
        → length seen ≡ length bytes + length rest → IsFirstFault gate (seen ++ after) from (length bytes) reason
    named_first seen after rest x n =
        let k = x.3 in
        let ea : x.0 ≡ from = omega arith in
        let er : reason ≡ x.1 = same_turn reason x.1 x.2 in
        let el : x.0 + length wrong ≡ length bytes = omega arith in
        subst (λ r. IsFirstFault gate (seen ++ after) from (length bytes) r) (sym er)
        (subst (λ n. IsFirstFault gate (seen ++ after) from n x.1) el (subst (λ a. IsFirstFault gate (seen ++ after) a (x.0 + length wrong) x.1) ea x.4))

    go : (k : Bool) → nat_le (suc (length bytes)) gate.bytes ≡ k → IsFirstFault gate (bytes ++ (b ∷ [])) from (length bytes) reason
    go true ek =
        let n : length (bytes ++ (b ∷ [])) ≡ length bytes + 1 = length-append bytes (b ∷ []) in
        let short : suc (length bytes) ≤ gate.bytes = grind (arith, nat_tests) in
        let x = refuses_the_first gate (bytes ++ (b ∷ [])) [] wrong (b ∷ []) (turn reason) (bytes_both bytes (b ∷ []) h hb) (omega arith, inl refl) (w (b ∷ [])) in
        subst (λ bs. IsFirstFault gate bs from (length bytes) reason) (append-nil (bytes ++ (b ∷ []))) (named_first (bytes ++ (b ∷ [])) [] (b ∷ []) x n)
    go false ek =
        let long : length bytes ≡ gate.bytes = grind (arith, nat_tests) in
        let e0 : walk (verdict gate) begin_state [] bytes ≡ refused wrong [] (turn reason) = ap (walk (verdict gate) begin_state []) (sym (append-nil bytes)) ∙ w [] in
        let x = refuses_the_first gate bytes (b ∷ []) wrong [] (turn reason) h (le, inr long) e0 in
        named_first bytes (b ∷ []) [] x (omega arith)

pub refuses : (gate : Gate) (bytes : List ℕ) (refusal : Refusal) → IsBytes bytes → length bytes ≤ gate.bytes → IsRefusedBy gate bytes refusal → AreRefused gate bytes refusal
refuses gate bytes refusal h le r =
    let e0 : walk (verdict gate) begin_state [] bytes ≡ refused r.wrong [] (turn r.reason) =
    ap (walk (verdict gate) begin_state []) (sym (append-nil bytes)) ∙ r.walks [] in
    let x = refuses_the_first gate bytes [] r.wrong [] (turn r.reason) h (le, inl refl) e0 in
    let k = x.3 in
    let n = r.begins in
    let er : r.reason ≡ x.1 = same_turn r.reason x.1 x.2 in
    let ea : x.0 ≡ refusal.from_byte = omega arith in
    let el : x.0 + length r.wrong ≡ length bytes = omega arith in
    let first : IsFirstFault gate bytes refusal.from_byte (length bytes) r.reason =
    subst (λ t. IsFirstFault gate bytes refusal.from_byte (length bytes) t) (sym er)
    (subst (λ n. IsFirstFault gate bytes refusal.from_byte n x.1) el
    (subst (λ a. IsFirstFault gate bytes a (x.0 + length r.wrong) x.1) ea (subst (λ bs. IsFirstFault gate bs x.0 (x.0 + length r.wrong) x.1) (append-nil bytes) x.4))) in
    let zero_is : IsBytes (0 ∷ []) = refl in
    let not_cut : r.reason ≡ truncated → ⊥ =
    row_decides gate bytes 0 refusal.from_byte r.reason (first_after gate bytes r.wrong r.reason refusal.from_byte 0 h zero_is le r.walks r.begins).0 in
    let told : answer gate bytes ≡ refused_at refusal.from_byte (length bytes) r.reason =
    (refuses_first_fault gate bytes refusal.from_byte (length bytes) r.reason h).1 first in
    record {
      reason = r.reason;
      is_named = r.is_named;
      not_truncated = not_cut;
      all = r.ends;
      is_first =
          λ after ha. subst (λ n. IsFirstFault gate (bytes ++ after) refusal.from_byte n r.reason) (sym r.ends)
          ((refuses_first_fault gate (bytes ++ after) refusal.from_byte (length bytes) r.reason (bytes_both bytes after h ha)).0
          (ap (λ bs. answer gate (bs ++ after)) (sym (take_all bytes)) ∙ (refused_for_good gate bytes refusal.from_byte (length bytes) r.reason h told not_cut after ha).0));
      none_passes = λ after list ha p. (refused_for_good gate bytes refusal.from_byte (length bytes) r.reason h told not_cut after ha).1 list (subst (λ bs. Passes gate (bs ++ after) list) (sym (take_all bytes)) p);
    }

-- ---- one byte more than the limit

pub exceeds : (gate : Gate) (seen cut : List ℕ) (b : ℕ) (s : State) (refusal : Refusal) → IsBytes seen → IsBytes (b ∷ []) → length seen ≡ gate.bytes
    → walk (verdict gate) begin_state [] seen ≡ ended s cut → refusal.reason ≡ named bytes_exceeded
    → refusal.from_byte + length cut ≡ length seen → refusal.to_byte ≡ suc (length seen)
    → AreRefused gate (seen ++ (b ∷ [])) refusal
exceeds gate seen cut b s refusal h hb le e er ef et =
    let n : length (seen ++ (b ∷ [])) ≡ length seen + 1 = length-append seen (b ∷ []) in
    let first : (after : List ℕ) → IsFirstFault gate ((seen ++ (b ∷ [])) ++ after) refusal.from_byte refusal.to_byte bytes_exceeded =
    λ after.
    let x = over_is_the_first gate seen cut b after s h le e in
    let at : x.0 ≡ refusal.from_byte = let k = x.1 in omega arith in
    subst (λ n. IsFirstFault gate ((seen ++ (b ∷ [])) ++ after) refusal.from_byte n bytes_exceeded) (sym et)
    (subst (λ a. IsFirstFault gate ((seen ++ (b ∷ [])) ++ after) a (suc (length seen)) bytes_exceeded) at
    (subst (λ bs. IsFirstFault gate bs x.0 (suc (length seen)) bytes_exceeded) (sym (append_assoc seen (b ∷ []) after)) x.2)) in
    record {
      reason = bytes_exceeded;
      is_named = er;
      not_truncated = λ k. absurd (cc);
      all = omega arith;
      is_first = λ after ha. first after;
      none_passes =
          λ after list ha p. fault_passes gate ((seen ++ (b ∷ [])) ++ after) refusal.from_byte refusal.to_byte bytes_exceeded list
          (bytes_both (seen ++ (b ∷ [])) after (bytes_both seen (b ∷ []) h hb) ha) (first after) p;
    }
