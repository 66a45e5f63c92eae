-- Where the walk refuses nothing: the token that is open, and that no row holds.
use Rattle.std.proofs.Common.{◌≡◌, ℕ, List, [], ◌∷◌, ◌++◌, refl, sym, subst, IsTrue}
use Rattle.jser_reading.proofs.Vocabulary.{StreamToken, Label, Piece, State, settled, label_of, Accepts, begin_state, left}
use Rattle.jser_reading.specs.TokenBytes.{bytes_of, joined}
use Rattle.jser_reading.specs.ComesNext.{ComesNext}
use Rattle.jser_reading.specs.Scanner.{VerdictOn, ended, walk, HasNoToken}
use Rattle.jser_reading.proofs.Next.{next_law}
use Rattle.jser_reading.proofs.Walking.{Found, walked, undecided_no_token, Quiet, undecided_more}
use Rattle.jser_reading.proofs.Faults.{no_fault_law}
use Rattle.jser_verdict.specs.Reasons.{Reason}
use Rattle.jser_verdict.specs.Gates.{Gate}
use Rattle.jser_verdict.specs.Rows.{row}
use Rattle.jser_verdict.proofs.Scanning.{scanning_verdict}
use Rattle.jser_verdict.proofs.Scans.{gate, verdict_scans}
use Rattle.jser_verdict.proofs.ToldRows.{row_bad}

module _ (g : Gate) where
  abbrev v : VerdictOn
  v = scanning_verdict g

  -- an open token, behind what the walk took
  pub record Open (bytes cut : List ℕ) : Type 0 where
    pub front : List Piece
    pub label : Label
    pub next : ComesNext front label
    pub split : bytes ≡ joined front ++ cut
    pub quiet : Quiet (gate g) v (verdict_scans g) label cut

  pub open_end : (bytes cut : List ℕ) (s : State) → walk v begin_state [] bytes ≡ ended s cut → Open bytes cut
  open_end bytes cut s e =
      let x : Found (gate g) v (verdict_scans g) begin_state bytes (ended s cut) = rw e at (walked (gate g) v (verdict_scans g) bytes) in
      let l : Label = label_of (settled (left begin_state x.0)) in
      record {
        front = x.0;
        label = l;
        next = (next_law x.0 l).1 (x.1, refl);
        split = x.4;
        quiet = subst (λ t. Quiet (gate g) v (verdict_scans g) (label_of (settled t)) cut) (sym x.3) x.5;
      }

  -- no front of quiet bytes, all of them too, is a whole token
  pub quiet_no_token : (l : Label) (p : List ℕ) → Quiet (gate g) v (verdict_scans g) l p → (f : StreamToken) → Accepts l f → p ≡ bytes_of f → ⊥
  quiet_no_token l p q f a e =
      undecided_no_token (gate g) v (verdict_scans g) l (p ++ (0 ∷ [])) (undecided_more (gate g) v (verdict_scans g) l p 0 q) p 0 [] f refl a e

  -- where nothing is refused no row holds
  pub no_row : (bytes cut : List ℕ) (s : State) → walk v begin_state [] bytes ≡ ended s cut
      → (front : List Piece) (l : Label) (wrong rest : List ℕ) (r : Reason) → ComesNext front l → bytes ≡ joined front ++ (wrong ++ rest)
      → HasNoToken l wrong → IsTrue (row r g l wrong) → ⊥
  no_row bytes cut s e front l wrong rest r nx eb u h =
      let y = row_bad g l wrong r h in
      no_fault_law (gate g) v (verdict_scans g) bytes cut s e wrong rest y.0 (front, l, nx, eb, u, y.1)
