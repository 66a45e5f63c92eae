-- The walk by the verdict tells the first fault, by the rows of the reasons and their order.
use Rattle.std.proofs.Common.{◌≡◌, ℕ, suc, ◌+◌, ◌<◌, ◌≤◌, List, [], ◌∷◌, ◌++◌, length, refl, sym, ◌∙◌, ap, subst, arith, append_assoc, append-nil, length-append, ◌⊎◌, inl, inr}
use Rattle.std.proofs.lemmas.Bool.{cases_lt, cases_eq}
use Rattle.jser_reading.proofs.Vocabulary.{IsBytes, Label, Piece, State, settled, begin_state, IsDone}
use Rattle.jser_reading.specs.TokenBytes.{joined}
use Rattle.jser_reading.specs.Scanner.{VerdictOn, ended, refused, walk, HasNoToken}
use Rattle.jser_reading.proofs.Walking.{snoc_more, undecided_no_token, Quiet, undecided_more}
use Rattle.jser_reading.proofs.Faults.{cut_short_law}
use Rattle.jser_verdict.specs.Reasons.{Reason, bytes_exceeded, truncated, turn}
use Rattle.jser_verdict.specs.Gates.{Gate}
use Rattle.jser_verdict.proofs.Scanning.{scanning_verdict}
use Rattle.jser_verdict.specs.FirstFault.{IsFault, IsFirstFault, RowHolds}
use Rattle.jser_verdict.specs.FaultLaws.{IsCapped}
use Rattle.jser_verdict.proofs.Turns.{by_turns, turn_most, turn_least}
use Rattle.jser_verdict.proofs.Scans.{gate, verdict_scans}
use Rattle.jser_verdict.proofs.RefusedRows.{has_row_told, row_no_earlier}
use Rattle.jser_verdict.proofs.OpenTokens.{open_end, quiet_no_token, no_row}
use Rattle.jser_verdict.proofs.ByteLists.{split_at}

module _ (g : Gate) where
  abbrev v : VerdictOn
  v = scanning_verdict g

  -- a fault of all the bytes that ends within the first ones is theirs
  abbrev Within : (seen : List ℕ) (front : List Piece) (some : List ℕ) → Type 0
  Within seen front some = (rest : List ℕ) × (seen ≡ joined front ++ (some ++ rest))

  within : (seen behind : List ℕ) (front : List Piece) (some rest : List ℕ) → seen ++ behind ≡ joined front ++ (some ++ rest)
      → length (joined front) + length some ≤ length seen → Within seen front some
  within seen behind front some rest e h =
      let x = split_at (joined front ++ some) seen behind rest (e ∙ sym (append_assoc (joined front) some rest))
      (omega (arith, length-append (joined front) some)) in
      (x.0, x.1 ∙ append_assoc (joined front) some x.0)

  pub refuses_first : (seen behind wrong rest : List ℕ) (k : ℕ) → IsBytes seen → IsCapped g.bytes seen behind
      → walk v begin_state [] seen ≡ refused wrong rest k
      → (at : ℕ) × (r : Reason) × (k ≡ turn r) × (length seen ≡ at + length wrong + length rest)
      × IsFirstFault g (seen ++ behind) at (at + length wrong) r
  refuses_first seen behind wrong rest k hb cap e =
      let x = has_row_told g seen wrong rest k hb e in
      let at : ℕ = length (joined x.0) in
      let ls : length seen ≡ at + length wrong + length rest =
      omega (arith, ap length x.4, length-append (joined x.0) (wrong ++ rest), length-append wrong rest) in
      let sp : seen ++ behind ≡ joined x.0 ++ (wrong ++ (rest ++ behind)) =
      ap (λ z. z ++ behind) x.4 ∙ append_assoc (joined x.0) (wrong ++ rest) behind ∙ ap (λ z. joined x.0 ++ z) (append_assoc wrong rest behind) in (
        at,
        x.2,
        x.6,
        ls,
        (
          (x.1, wrong, rest ++ behind, record { front = x.0; next = x.3; split = sp; begins = refl; no_token = x.5 }, refl, inl x.7),
          λ at' end' r' f. by_turns (at + length wrong) end' x.2 r' (first at x.2 x.6 ls at' end' r' f),
        ),
      )
    where
      first : (at : ℕ) (r : Reason) → k ≡ turn r → length seen ≡ at + length wrong + length rest → (at' end' : ℕ) (r' : Reason)
          → IsFault g (seen ++ behind) at' end' r' → (at + length wrong < end') ⊎ ((at + length wrong ≡ end') × (turn r ≤ turn r'))
      first at r ek ls at' end' r' (l', some', rest', o, ee, rh) = elim (cases_lt (at + length wrong) end') [
        | inl lt ↦ inl lt
        | inr ge ↦ no_later rh
      ]
        where
          bg : at' ≡ length (joined o.front)
          bg = o.begins

          no_later : RowHolds g (seen ++ behind) at' end' l' some' rest' r'
              → (at + length wrong < end') ⊎ ((at + length wrong ≡ end') × (turn r ≤ turn r'))
          no_later (inl h) = elim (cases_lt (at + length wrong) end') [
            | inl lt ↦ inl lt
            | inr ge ↦
                let w = within seen behind o.front some' rest' o.split (omega (arith, bg, ee, ls)) in
                let lw : length seen ≡ length (joined o.front) + length some' + length w.0 =
                omega (arith, ap length w.1, length-append (joined o.front) (some' ++ w.0), length-append some' w.0) in
                elim (row_no_earlier g seen wrong rest k e o.front l' some' w.0 r' o.next w.1 o.no_token h) [
                  | inl a ↦ inl (omega (arith, a, lw, ls, ee, bg))
                  | inr (a, b) ↦ inr (omega (arith, a, lw, ls, ee, bg), subst (λ z. z ≤ turn r') ek b)
                ]
          ]
          no_later (inr (inl (er, et))) =
              let cl = cap.0 in
              let e1 = et.0 in
              inl (omega (arith, cl, e1, ls))
          no_later (inr (inr (er, c))) =
              let lb : length (seen ++ behind) ≡ end' =
              omega (arith, ap length o.split, length-append (joined o.front) (some' ++ rest'), length-append some' rest', ap length c.0, ee, bg) in
              let la = length-append seen behind in
              elim (cases_lt (at + length wrong) end') [
                | inl lt ↦ inl lt
                | inr ge ↦ inr (omega (arith, lb, la, ls), rw er (turn_most r))
              ]

  pub cut_first : (bytes cut : List ℕ) (s : State) → length bytes ≤ g.bytes
      → walk v begin_state [] bytes ≡ ended s cut → (IsDone (settled s) × (cut ≡ []) → ⊥)
      → (at : ℕ) × (length bytes ≡ at + length cut) × IsFirstFault g bytes at (length bytes) truncated
  cut_first bytes cut s cap e nd =
      let x = open_end g bytes cut s e in
      let lb : length bytes ≡ length (joined x.front) + length cut = omega (arith, ap length x.split, length-append (joined x.front) cut) in
      let sp : bytes ≡ joined x.front ++ (cut ++ []) = x.split ∙ ap (λ z. joined x.front ++ z) (sym (append-nil cut)) in (
        length (joined x.front),
        lb,
        (
          (
            x.label,
            cut,
            [],
            record { front = x.front; next = x.next; split = sp; begins = refl; no_token = quiet_fronts x.label x.quiet },
            lb,
            inr (inr (refl, (refl, quiet_no_token g x.label cut x.quiet, λ list st. nd (cut_short_law (gate g) v (verdict_scans g) bytes cut s e list st)))),
          ),
          λ at' end' r' f. by_turns (length bytes) end' truncated r' (first at' end' r' f),
        ),
      )
    where
      quiet_fronts : (l : Label) → Quiet (gate g) v (verdict_scans g) l cut → HasNoToken l cut
      quiet_fronts l q a c b f ec ac ef = quiet_no_token g l a (λ p r ep. q p (r ++ (c ∷ b)) (ec ∙ ap (λ z. z ++ (c ∷ b)) ep ∙ append_assoc p r (c ∷ b))) f ac ef

      first : (at' end' : ℕ) (r' : Reason) → IsFault g bytes at' end' r' → (length bytes < end') ⊎ ((length bytes ≡ end') × (turn truncated ≤ turn r'))
      first at' end' r' (l', some', rest', o, ee, inl h) = absurd (no_row g bytes cut s e o.front l' some' rest' r' o.next o.split o.no_token h)
      first at' end' r' (l', some', rest', o, ee, inr (inl (er, et))) = let e1 = et.0 in inl (omega (arith, e1, cap))
      first at' end' r' (l', some', rest', o, ee, inr (inr (er, c))) =
          let bg = o.begins in
          inr
          (omega (arith, ap length o.split, length-append (joined o.front) (some' ++ rest'), length-append some' rest', ap length c.0, ee, bg), rw er (omega arith))

  pub over_first : (seen cut : List ℕ) (b : ℕ) (more' : List ℕ) (s : State) → length seen ≡ g.bytes
      → walk v begin_state [] seen ≡ ended s cut
      → (at : ℕ) × (length seen ≡ at + length cut) × IsFirstFault g (seen ++ (b ∷ more')) at (suc (length seen)) bytes_exceeded
  over_first seen cut b more' s cap e =
      let x = open_end g seen cut s e in
      let lb : length seen ≡ length (joined x.front) + length cut = omega (arith, ap length x.split, length-append (joined x.front) cut) in
      let sp : seen ++ (b ∷ more') ≡ joined x.front ++ ((cut ++ (b ∷ [])) ++ more') =
      ap (λ z. z ++ (b ∷ more')) x.split ∙ append_assoc (joined x.front) cut (b ∷ more')
      ∙ ap (λ z. joined x.front ++ z) (sym (snoc_more cut b more')) in (
        length (joined x.front),
        lb,
        (
          (
            x.label,
            cut ++ (b ∷ []),
            more',
            record {
              front = x.front;
              next = x.next;
              split = sp;
              begins = refl;
              no_token = undecided_no_token (gate g) v (verdict_scans g) x.label (cut ++ (b ∷ [])) (undecided_more (gate g) v (verdict_scans g) x.label cut b x.quiet);
            },
            omega (arith, lb, length-append cut (b ∷ [])),
            inr (inl (refl, (omega (arith, cap), omega (arith, lb)))),
          ),
          λ at' end' r' f. by_turns (suc (length seen)) end' bytes_exceeded r' (first at' end' r' f),
        ),
      )
    where
      first : (at' end' : ℕ) (r' : Reason) → IsFault g (seen ++ (b ∷ more')) at' end' r'
          → (suc (length seen) < end') ⊎ ((suc (length seen) ≡ end') × (turn bytes_exceeded ≤ turn r'))
      first at' end' r' (l', some', rest', o, ee, rh) = elim (cases_lt (suc (length seen)) end') [
        | inl lt ↦ inl lt
        | inr ge ↦ elim (cases_eq (suc (length seen)) end') [
          | inl eq ↦ inr (eq, turn_least r')
          | inr ne ↦ absurd (early rh (omega (arith, ge, ne)))
        ]
      ]
        where
          bg : at' ≡ length (joined o.front)
          bg = o.begins

          early : RowHolds g (seen ++ (b ∷ more')) at' end' l' some' rest' r' → end' ≤ length seen → ⊥
          early (inl h) le =
              let w = within seen (b ∷ more') o.front some' rest' o.split (omega (arith, bg, ee, le)) in
              no_row g seen cut s e o.front l' some' w.0 r' o.next w.1 o.no_token h
          early (inr (inl (er, et))) le = let e1 = et.0 in omega (arith, e1, cap, le)
          early (inr (inr (er, c))) le =
              let lb : length (seen ++ (b ∷ more')) ≡ end' =
              omega (arith, ap length o.split, length-append (joined o.front) (some' ++ rest'), length-append some' rest', ap length c.0, ee, bg) in
              omega (arith, lb, le, length-append seen (b ∷ more'))
