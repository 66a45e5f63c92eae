-- What the walk refuses has a row, and no row is earlier.
use Rattle.std.proofs.Common.{◌≡◌, ℕ, ◌<◌, ◌≤◌, true, List, [], ◌∷◌, ◌++◌, length, refl, sym, ◌∙◌, ap, ap₂, subst, arith, Some, IsTrue, append_assoc, length-append, ◌⊎◌, inl, inr}
use Rattle.jser_reading.proofs.Vocabulary.{IsBytes, Label, Piece, piece, State, settled, label_of, begin_state, Runs, left}
use Rattle.jser_reading.specs.TokenBytes.{bytes_of, joined}
use Rattle.jser_reading.specs.ComesNext.{ComesNext}
use Rattle.jser_reading.specs.Scanner.{Verdict, more, good, bad, VerdictOn, refused, walk, AllPass, HasNoToken}
use Rattle.jser_reading.proofs.Next.{next_law}
use Rattle.jser_reading.proofs.Walking.{snoc_more, joined-append, walk_front, refuses, Found, walked, undecided_no_token}
use Rattle.jser_reading.proofs.Faults.{Stopped, all_or_stopped}
use Rattle.jser_verdict.specs.Reasons.{Reason, in_order, turn}
use Rattle.jser_verdict.specs.Gates.{Gate}
use Rattle.jser_verdict.specs.Rows.{row}
use Rattle.jser_verdict.specs.Verdicts.{reason_at}
use Rattle.jser_verdict.proofs.Scanning.{scanning_verdict}
use Rattle.jser_verdict.proofs.Order.{in_turn}
use Rattle.jser_verdict.proofs.Turns.{first_holds}
use Rattle.jser_verdict.proofs.Scans.{gate, verdict_scans}
use Rattle.jser_verdict.proofs.ToldRows.{told_bad, row_bad}
use Rattle.jser_verdict.proofs.ByteLists.{bytes_left, bytes_right, last_split}
use Rattle.jser_verdict.proofs.ReadTokens.{read_next}

module _ (g : Gate) where
  abbrev v : VerdictOn
  v = scanning_verdict g

  -- a refusal has a row

  abbrev pub HasRow : List ℕ → List ℕ → List ℕ → ℕ → Type 0
  HasRow bytes wrong rest k =
      (front : List Piece) × (l : Label) × (r : Reason) × ComesNext front l × (bytes ≡ joined front ++ (wrong ++ rest)) × HasNoToken l wrong
      × (k ≡ turn r) × IsTrue (row r g l wrong)

  pub has_row_told : (bytes wrong rest : List ℕ) (k : ℕ) → IsBytes bytes → walk v begin_state [] bytes ≡ refused wrong rest k
      → HasRow bytes wrong rest k
  has_row_told bytes wrong rest k hb e = go wrong refl
    where
      x : Found (gate g) v (verdict_scans g) begin_state bytes (refused wrong rest k)
      x = rw e at (walked (gate g) v (verdict_scans g) bytes)

      l : Label
      l = label_of (settled (left begin_state x.0))

      go : (w : List ℕ) → wrong ≡ w → HasRow bytes wrong rest k
      go [] ew =
          let n = (verdict_scans g).nothing_yet l in
          let z : bad k ≡ more = sym x.4 ∙ ap (v l) ew ∙ n in
          absurd (cc)
      go (c ∷ b) ew =
          let s = last_split c b in
          let es : wrong ≡ s.0 ++ (s.1 ∷ []) = ew ∙ s.2 in
          let m : v l s.0 ≡ more = x.5 s.0 s.1 [] es in
          let nx : ComesNext x.0 l = (next_law x.0 l).1 (x.1, refl) in
          let hw : IsBytes wrong = bytes_left wrong rest (bytes_right (joined x.0) (wrong ++ rest) (subst (λ z. IsBytes z) x.3 hb)) in
          let t = told_bad g l s.0 s.1 k (read_next x.0 l nx) (subst (λ z. IsBytes z) es hw) m (ap (v l) (sym es) ∙ x.4) in
          let rt : reason_at g l l.position wrong ≡ Some t.0 = ap (reason_at g l l.position) es ∙ t.1 in
          let h : row t.0 g l wrong ≡ true = first_holds (λ r. row r g l wrong) in_order t.0 (sym (in_turn g l wrong) ∙ rt) in
          (x.0, l, t.0, nx, x.3, undecided_no_token (gate g) v (verdict_scans g) l wrong x.5, t.2, h)

  -- no row ends before the refusal, and none that ends with it comes earlier

  walk_tie : (b : List ℕ) (c : ℕ) (a : List ℕ) (s : State) (rest w q : List ℕ) (r k : ℕ) → v (label_of (settled s)) (a ++ (c ∷ b)) ≡ bad r
      → HasNoToken (label_of (settled s)) (a ++ (c ∷ b)) → walk v s a (c ∷ (b ++ rest)) ≡ refused w q k
      → (length rest < length q) ⊎ ((length rest ≡ length q) × (k ≡ r))
  walk_tie [] c a s rest w q r k vb u e =
      let e' : refused (a ++ (c ∷ [])) rest r ≡ refused w q k = rw vb at e in
      let eq : rest ≡ q = cc in
      let ek : k ≡ r = cc in
      inr (ap length eq, ek)
  walk_tie (c' ∷ b) c a s rest w q r k vb u e =
      let es : (a ++ (c ∷ [])) ++ (c' ∷ b) ≡ a ++ (c ∷ c' ∷ b) = snoc_more a c (c' ∷ b) in
      go (v l (a ++ (c ∷ []))) refl (λ e1. walk_tie b c' (a ++ (c ∷ [])) s rest w q r k (rw es vb) (rw es u) e1)
    where
      l : Label
      l = label_of (settled s)

      go : (x : Verdict) → v l (a ++ (c ∷ [])) ≡ x
          → (walk v s (a ++ (c ∷ [])) (c' ∷ (b ++ rest)) ≡ refused w q k → (length rest < length q) ⊎ ((length rest ≡ length q) × (k ≡ r)))
          → (length rest < length q) ⊎ ((length rest ≡ length q) × (k ≡ r))
      go more ex ih = ih (rw ex at e)
      go (good f) ex ih =
          let y = (verdict_scans g).good_is l (a ++ (c ∷ [])) f ex in
          absurd (u (a ++ (c ∷ [])) c' b f (sym (snoc_more a c (c' ∷ b))) y.1 y.0)
      go (bad j) ex ih =
          let e' : refused (a ++ (c ∷ [])) ((c' ∷ b) ++ rest) j ≡ refused w q k = rw ex at e in
          let eq : (c' ∷ b) ++ rest ≡ q = cc in
          inl (omega (arith, ap length eq, length-append (c' ∷ b) rest))

  pub row_no_earlier : (bytes w q : List ℕ) (k : ℕ) → walk v begin_state [] bytes ≡ refused w q k
      → (front : List Piece) (l : Label) (wrong rest : List ℕ) (r : Reason) → ComesNext front l → bytes ≡ joined front ++ (wrong ++ rest)
      → HasNoToken l wrong → IsTrue (row r g l wrong) → (length rest < length q) ⊎ ((length rest ≡ length q) × (k ≤ turn r))
  row_no_earlier bytes w q k e front l wrong rest r nx eb u h = go wrong refl
    where
      x : Runs begin_state front × (l ≡ label_of (settled (left begin_state front)))
      x = (next_law front l).0 nx

      y : (j : ℕ) × (v l wrong ≡ bad j) × (j ≤ turn r)
      y = row_bad g l wrong r h

      nothing : wrong ≡ [] → ⊥
      nothing ew =
          let n = (verdict_scans g).nothing_yet l in
          let z : bad y.0 ≡ more = sym y.1 ∙ ap (v l) ew ∙ n in
          cc

      passed_by : (c : ℕ) (b : List ℕ) → wrong ≡ c ∷ b → AllPass (gate g) front
          → (length rest < length q) ⊎ ((length rest ≡ length q) × (k ≤ turn r))
      passed_by c b ew ga =
          let e1 : bytes ≡ joined front ++ (c ∷ (b ++ rest)) = eb ∙ ap (λ z. joined front ++ (z ++ rest)) ew in
          let e2 : walk v (left begin_state front) [] (c ∷ (b ++ rest)) ≡ refused w q k =
          sym (walk_front (gate g) v (verdict_scans g) front begin_state (c ∷ (b ++ rest)) x.0 ga) ∙ ap (λ z. walk v begin_state [] z) (sym e1) ∙ e in
          let vb : v (label_of (settled (left begin_state front))) (c ∷ b) ≡ bad y.0 = ap₂ (λ m z. v m z) (sym x.1) (sym ew) ∙ y.1 in
          let u' : HasNoToken (label_of (settled (left begin_state front))) (c ∷ b) =
          subst (λ m. HasNoToken m (c ∷ b)) x.1 (subst (λ z. HasNoToken l z) ew u) in
          elim (walk_tie b c [] (left begin_state front) rest w q y.0 k vb u' e2) [
            | inl a ↦ inl a
            | inr (a, ek) ↦ inr (a, subst (λ z. z ≤ turn r) (sym ek) y.2)
          ]

      stopped_by : (c : ℕ) (b : List ℕ) → wrong ≡ c ∷ b → Stopped (gate g) v (verdict_scans g) begin_state front
          → (length rest < length q) ⊎ ((length rest ≡ length q) × (k ≤ turn r))
      stopped_by c b ew (a, b', f, eq, ra, ga, ac, np) =
          let l' : Label = label_of (settled (left begin_state a)) in
          let z = (verdict_scans g).stops l' f ac np in
          let tail : List ℕ = joined b' ++ (wrong ++ rest) in
          let e1 : joined front ≡ joined a ++ (bytes_of f ++ joined b') = ap joined eq ∙ joined-append a (piece l' f ∷ b') in
          let e2 : bytes ≡ joined a ++ (z.0 ++ (z.1 ++ tail)) =
          eb ∙ ap (λ t. t ++ (wrong ++ rest)) e1 ∙ append_assoc (joined a) (bytes_of f ++ joined b') (wrong ++ rest)
          ∙ ap (λ t. joined a ++ t) (append_assoc (bytes_of f) (joined b') (wrong ++ rest) ∙ ap (λ t. t ++ tail) z.3 ∙ append_assoc z.0 z.1 tail) in
          let e3 : walk v begin_state [] bytes ≡ refused z.0 (z.1 ++ tail) z.2 =
          rw e2 (refuses (gate g) v (verdict_scans g) a z.0 (z.1 ++ tail) z.2 ra ga z.4 z.5) in
          let e4 : refused z.0 (z.1 ++ tail) z.2 ≡ refused w q k = sym e3 ∙ e in
          let e5 : z.1 ++ tail ≡ q = cc in
          inl (omega (arith, ap length e5, length-append z.1 tail, length-append (joined b') (wrong ++ rest), length-append wrong rest, ap length ew))

      go : (z : List ℕ) → wrong ≡ z → (length rest < length q) ⊎ ((length rest ≡ length q) × (k ≤ turn r))
      go [] ew = absurd (nothing ew)
      go (c ∷ b) ew =
          elim (all_or_stopped (gate g) v (verdict_scans g) front begin_state x.0) [
            | inl ga ↦ passed_by c b ew ga
            | inr s ↦ stopped_by c b ew s
          ]
