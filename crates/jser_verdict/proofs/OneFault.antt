-- There is one first fault: its end and its reason by the order, its start because bytes are cut into tokens in one way.
use Rattle.std.proofs.Common.{◌≡◌, ℕ, ◌+◌, ◌<◌, ◌≤◌, true, false, List, [], ◌∷◌, ◌++◌, length, refl, sym, ◌∙◌, ap, ap₂, subst, arith, append_assoc, append-nil, length-append, true≢false, ◌⊎◌, inl, inr}
use Rattle.jser_reading.proofs.Vocabulary.{Label, Piece, piece, State, settled, label_of, Accepts, advance, begin_state, Runs, left}
use Rattle.jser_reading.specs.TokenBytes.{bytes_of, joined}
use Rattle.jser_reading.specs.Scanner.{TokenGate, more, bad}
use Rattle.jser_reading.proofs.Next.{next_law}
use Rattle.jser_reading.proofs.PlainVerdict.{plain_verdict, scanner}
use Rattle.jser_reading.proofs.Reading.{same_token}
use Rattle.jser_reading.proofs.Walking.{joined-append}
use Rattle.jser_verdict.specs.Reasons.{Reason, bytes_exceeded, truncated, turn}
use Rattle.jser_verdict.specs.Gates.{Gate}
use Rattle.jser_verdict.specs.Rows.{row}
use Rattle.jser_verdict.proofs.Scanning.{scanning_verdict}
use Rattle.jser_verdict.specs.FirstFault.{OpenAt, RowHolds, IsFault}
use Rattle.jser_verdict.specs.AnswerLaws.{OneFirstFault}
use Rattle.jser_verdict.proofs.Turns.{one_turn, to_turns}
use Rattle.jser_verdict.proofs.Scans.{verdict_scans}
use Rattle.jser_verdict.proofs.ToldRows.{row_bad}
use Rattle.jser_verdict.proofs.ByteLists.{split_at}

-- a gate that lets each token through
abbrev open_gate : TokenGate
open_gate label token = true

-- Of two fronts of tokens of the same bytes one begins the other.
abbrev Begins : List Piece → List Piece → Type 0
Begins a b = (rest : List Piece) × (b ≡ a ++ rest)

same_fronts : (a b : List Piece) (s : State) (x y : List ℕ) → Runs s a → Runs s b → joined a ++ x ≡ joined b ++ y
    → Begins a b ⊎ Begins b a
same_fronts [] b s x y h k e = inl (b, refl)
same_fronts (p ∷ a) [] s x y h k e = inr (p ∷ a, refl)
same_fronts (piece l f ∷ a) (piece m g ∷ b) s x y h k e =
    let el : l ≡ m = h.0 ∙ sym k.0 in
    let kg : Accepts (label_of (settled s)) g = k.1 in
    let c = same_token open_gate (plain_verdict open_gate) (scanner open_gate) (label_of (settled s)) f g (joined a ++ x) (joined b ++ y)
    h.1 refl k.1 refl (sym (append_assoc (bytes_of f) (joined a) x) ∙ e ∙ append_assoc (bytes_of g) (joined b) y) in
    let kb : Runs (advance (settled s) f) b = subst (λ z. Runs (advance (settled s) z) b) (sym c.0) k.2 in
    elim (same_fronts a b (advance (settled s) f) x y h.2 kb c.1) [
      | inl z ↦ inl (z.0, ap₂ (λ q qs. q ∷ qs) (ap₂ piece (sym el) (sym c.0)) z.1)
      | inr z ↦ inr (z.0, ap₂ (λ q qs. q ∷ qs) (ap₂ piece el c.0) z.1)
    ]

module _ (g : Gate) (bytes : List ℕ) (r : Reason) where
  -- a fault whose front goes on beyond another's, to the same end: there is none
  no_longer_front : (at at' end : ℕ) (l l' : Label) (some some' rest rest' : List ℕ) → (o : OpenAt bytes at l some rest)
      → (o' : OpenAt bytes at' l' some' rest') → end ≡ at + length some → end ≡ at' + length some'
      → RowHolds g bytes at end l some rest r → RowHolds g bytes at' end l' some' rest' r
      → (p : Piece) (more' : List Piece) → o'.front ≡ o.front ++ (p ∷ more') → ⊥
  no_longer_front at at' end l l' some some' rest rest' o o' ee ee' h h' (piece m f) more' ef = go some' refl
    where
      ran : Runs begin_state o.front × (l ≡ label_of (settled (left begin_state o.front)))
      ran = (next_law o.front l).0 o.next

      ran' : Runs begin_state o'.front × (l' ≡ label_of (settled (left begin_state o'.front)))
      ran' = (next_law o'.front l').0 o'.next

      taken : Accepts l f
      taken = rw ran.1 (second_part o.front begin_state (subst (λ z. Runs begin_state z) ef ran'.0))
        where
          second_part : (a : List Piece) (s : State) → Runs s (a ++ (piece m f ∷ more')) → Accepts (label_of (settled (left s a))) f
          second_part [] s h = h.1
          second_part (piece k q ∷ a) s h = second_part a (advance (settled s) q) h.2

      tail : List ℕ
      tail = joined more' ++ (some' ++ rest')

      cut : joined o.front ++ (some ++ rest) ≡ joined o.front ++ (bytes_of f ++ tail)
      cut =
          sym o.split ∙ o'.split ∙ ap (λ z. joined z ++ (some' ++ rest')) ef
          ∙ ap (λ z. z ++ (some' ++ rest')) (joined-append o.front (piece m f ∷ more'))
          ∙ append_assoc (joined o.front) (bytes_of f ++ joined more') (some' ++ rest')
          ∙ ap (λ z. joined o.front ++ z) (append_assoc (bytes_of f) (joined more') (some' ++ rest'))

      cancel : (a x y : List ℕ) → a ++ x ≡ a ++ y → x ≡ y
      cancel [] x y e = e
      cancel (b ∷ a) x y e = cancel a x y (cc)

      sizes : length some ≡ length (bytes_of f) + length (joined more') + length some'
      sizes =
          let b = o.begins in
          let b' = o'.begins in
          omega (
            arith,
            ee,
            ee',
            b,
            b',
            ap (λ z. length (joined z)) ef,
            ap length (joined-append o.front (piece m f ∷ more')),
            length-append (joined o.front) (bytes_of f ++ joined more'),
            length-append (bytes_of f) (joined more'),
          )

      parts : (over : List ℕ) × (some ≡ bytes_of f ++ over) × (tail ≡ over ++ rest)
      parts = split_at (bytes_of f) some rest tail (cancel (joined o.front) (some ++ rest) (bytes_of f ++ tail) cut) (omega (arith, sizes))

      whole : length some' ≡ 0 → (over : List ℕ) → some ≡ bytes_of f ++ over → some ≡ bytes_of f
      whole z [] e = e ∙ append-nil (bytes_of f)
      whole z (b ∷ over) e = absurd (o.no_token (bytes_of f) b over f e taken refl)

      -- both are Truncated, and the first token is whole
      cut_whole : length some' ≡ 0 → r ≡ truncated → RowHolds g bytes at end l some rest r → ⊥
      cut_whole z er (inl t) = let n : row r g l some ≡ false = rw er refl in true≢false (sym t ∙ n)
      cut_whole z er (inr (inl (eb, t))) = let n : bytes_exceeded ≡ truncated = sym eb ∙ er in cc
      cut_whole z er (inr (inr (et, c))) = c.1 f taken (whole z parts.0 parts.1)

      at_end : length some' ≡ 0 → some' ≡ [] → RowHolds g bytes at' end l' some' rest' r → ⊥
      at_end z es (inl t) =
          let b = row_bad g l' some' r t in
          let n = (verdict_scans g).nothing_yet l' in
          let q : bad b.0 ≡ more = sym b.1 ∙ ap (scanning_verdict g l') es ∙ n in
          absurd (cc)
      at_end z es (inr (inl (eb, t))) = let u = t.1 in omega (arith, u, ee', z)
      at_end z es (inr (inr (et, c))) = cut_whole z et h

      go : (q : List ℕ) → some' ≡ q → ⊥
      go [] e = at_end (ap length e) e h'
      go (b ∷ q) e = within parts.0 parts.1
        where
          within : (over : List ℕ) → some ≡ bytes_of f ++ over → ⊥
          within [] ex = omega (arith, sizes, ap length ex, length-append (bytes_of f) [], ap length e)
          within (c ∷ over) ex = o.no_token (bytes_of f) c over f ex taken refl

  same_start : (at at' end : ℕ) → IsFault g bytes at end r → IsFault g bytes at' end r → at ≡ at'
  same_start at at' end (l, some, rest, o, ee, h) (l', some', rest', o', ee', h') =
      elim (same_fronts o.front o'.front begin_state (some ++ rest) (some' ++ rest') ((next_law o.front l).0 o.next).0
      ((next_law o'.front l').0 o'.next).0 (sym o.split ∙ o'.split)) [
        | inl z ↦ longer z.0 z.1
        | inr z ↦ shorter z.0 z.1
      ]
    where
      longer : (c : List Piece) → o'.front ≡ o.front ++ c → at ≡ at'
      longer [] e = o.begins ∙ ap (λ z. length (joined z)) (sym (e ∙ append-nil o.front)) ∙ sym o'.begins
      longer (p ∷ c) e = absurd (no_longer_front at at' end l l' some some' rest rest' o o' ee ee' h h' p c e)

      shorter : (c : List Piece) → o.front ≡ o'.front ++ c → at ≡ at'
      shorter [] e = o.begins ∙ ap (λ z. length (joined z)) (e ∙ append-nil o'.front) ∙ sym o'.begins
      shorter (p ∷ c) e = absurd (no_longer_front at' at end l' l some' some rest' rest o' o ee' ee h' h p c e)

pub one_first_fault : OneFirstFault
one_first_fault g bytes at end at' end' r r' x y = go (to_turns end end' r r' (x.1 at' end' r' y.0)) (to_turns end' end r' r (y.1 at end r x.0))
  where
    same : end ≡ end' → turn r ≤ turn r' → turn r' ≤ turn r → (at ≡ at') × (end ≡ end') × (r ≡ r')
    same ee a b =
        let er : r ≡ r' = one_turn r r' (omega (arith, a, b)) in
        let f : IsFault g bytes at' end r =
        subst (λ k. IsFault g bytes at' k r) (sym ee) (subst (λ q. IsFault g bytes at' end' q) (sym er) y.0) in
        (same_start g bytes r at at' end x.0 f, ee, er)

    go : (end < end') ⊎ ((end ≡ end') × (turn r ≤ turn r')) → (end' < end) ⊎ ((end' ≡ end) × (turn r' ≤ turn r))
        → (at ≡ at') × (end ≡ end') × (r ≡ r')
    go (inl a) (inl b) = absurd (omega (arith, a, b))
    go (inl a) (inr (e, b)) = absurd (omega (arith, a, e))
    go (inr (e, a)) (inl b) = absurd (omega (arith, b, e))
    go (inr (e, a)) (inr (e', b)) = same e a b
