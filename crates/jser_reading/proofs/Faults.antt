-- The laws of the walk: it accepts exactly the streams that pass, it refuses at the first fault, and where it
-- refuses nothing there is none.
use Rattle.std.proofs.Common.{◌≡◌, ℕ, ◌≤◌, Bool, true, false, List, [], ◌∷◌, ◌++◌, length, refl, sym, ◌∙◌, ap, subst, arith, IsFalse, append_assoc, append-nil, ◌⊎◌, inl, inr}
use Rattle.jser_reading.proofs.Vocabulary.{ContentTrees, WellFormed, StreamToken, Label, Piece, piece, tokens_of, State, settled, label_of, Accepts, advance, begin_state, IsDone, Runs, left, Reads}
use Rattle.std.proofs.Common.{length-append}
use Rattle.jser_reading.specs.TokenBytes.{bytes_of, joined}
use Rattle.jser_grammar.specs.Streams.{IsStreamOf}
use Rattle.jser_reading.specs.Scanner.{VerdictOn, TokenGate, IsScanner, ended, refused, walk, AllPass, PassesBy, IsFaultBy}
use Rattle.jser_reading.specs.WalkLaws.{AcceptsExactly, RefusesFirst, NoFaultPassed, CutShort}
use Rattle.jser_reading.proofs.Exact.{exact_law}
use Rattle.jser_reading.proofs.Fronts.{reads_split, Reads-append}
use Rattle.jser_reading.proofs.Next.{next_law}
use Rattle.jser_reading.proofs.SpelledTokens.{spelled_law}
use Rattle.jser_reading.proofs.Walking.{joined-append, walk_front, refuses, RefusesBy, refuses_by, Found, walked, undecided_no_token}

-- all tokens of a stream, and nothing behind them
runs_all : (fs : List Piece) → Reads begin_state fs → Runs begin_state fs × IsDone (settled (left begin_state fs))
runs_all fs h = reads_split fs [] begin_state (subst (λ ps. Reads begin_state ps) (sym (append-nil fs)) h)

module _ (gate : TokenGate) (verdict : VerdictOn) (sc : IsScanner gate verdict) where
  walk_all : (fs : List Piece) → Runs begin_state fs → AllPass gate fs
      → walk verdict begin_state [] (joined fs) ≡ ended (left begin_state fs) []
  walk_all fs r g =
      ap (λ z. walk verdict begin_state [] z) (sym (append-nil (joined fs))) ∙ walk_front gate verdict sc fs begin_state [] r g

  yes_right : (bs : List ℕ) (s : State) → IsDone (settled s) → walk verdict begin_state [] bs ≡ ended s []
      → (list : ContentTrees) × PassesBy gate bs list
  yes_right bs s d e =
      let x : Found gate verdict sc begin_state bs (ended s []) = rw e at (walked gate verdict sc bs) in
      let k : Reads (left begin_state x.0) [] = rw x.3 d in
      let y = (exact_law (x.0 ++ [])).0 (Reads-append x.0 [] begin_state x.1 k) in
      let z : x.0 ≡ tokens_of y.0 = sym (append-nil x.0) ∙ y.2 in
      (y.0, ((x.4 ∙ append-nil (joined x.0) ∙ ap joined z ∙ spelled_law y.0 y.1, y.1), subst (λ ps. AllPass gate ps) z x.2))

  right_yes : (bs : List ℕ) (list : ContentTrees) → PassesBy gate bs list → (s : State) × IsDone (settled s)
      × (walk verdict begin_state [] bs ≡ ended s [])
  right_yes bs list p =
      let w : WellFormed list = p.0.1 in
      let eb : bs ≡ joined (tokens_of list) = p.0.0 ∙ sym (spelled_law list w) in
      let x = runs_all (tokens_of list) ((exact_law (tokens_of list)).1 (list, w, refl)) in
      (left begin_state (tokens_of list), x.1, ap (λ z. walk verdict begin_state [] z) eb ∙ walk_all (tokens_of list) x.0 p.1)

  no_right : (bs wrong rest : List ℕ) (r : ℕ) → walk verdict begin_state [] bs ≡ refused wrong rest r
      → IsFaultBy verdict bs wrong rest r
  no_right bs wrong rest r e =
      let x : Found gate verdict sc begin_state bs (refused wrong rest r) = rw e at (walked gate verdict sc bs) in
      let l : Label = label_of (settled (left begin_state x.0)) in
      (x.0, l, (next_law x.0 l).1 (x.1, refl), x.3, undecided_no_token gate verdict sc l wrong x.5, x.4)

  -- the first token that the gate stops
  abbrev pub Stopped : State → List Piece → Type 0
  Stopped s front =
      (a b : List Piece) × (f : StreamToken) × (front ≡ a ++ (piece (label_of (settled (left s a))) f ∷ b)) × Runs s a
      × AllPass gate a
      × Accepts (label_of (settled (left s a))) f × IsFalse (gate (label_of (settled (left s a))) f)

  pub all_or_stopped : (front : List Piece) (s : State) → Runs s front → AllPass gate front ⊎ Stopped s front
  all_or_stopped [] s h = inl tt
  all_or_stopped (piece l f ∷ ps) s h = go (gate l f) refl (all_or_stopped ps (advance (settled s) f) h.2)
    where
      go : (b : Bool) → gate l f ≡ b → (AllPass gate ps ⊎ Stopped (advance (settled s) f) ps) → AllPass gate (piece l f ∷ ps)
          ⊎ Stopped s (piece l f ∷ ps)
      go false e x = inr ([], ps, f, ap (λ k. piece k f ∷ ps) h.0, tt, tt, h.1, rw (← h.0) e)
      go true e (inl x) = inl (e, x)
      go true e (inr (a, b, g, eq, ra, ga, ac, stopped)) =
          inr (piece l f ∷ a, b, g, ap (λ k. piece l f ∷ k) eq, (h.0, h.1, ra), (e, ga), ac, stopped)

  -- each fault makes a refusal, by no more bytes
  earlier : (bs wrong rest : List ℕ) (r : ℕ) → IsFaultBy verdict bs wrong rest r
      → RefusesBy gate verdict sc begin_state [] bs rest
  earlier bs wrong rest r (front, l, nx, eb, u, v) = go (all_or_stopped front begin_state x.0)
    where
      x : Runs begin_state front × (l ≡ label_of (settled (left begin_state front)))
      x = (next_law front l).0 nx

      go : AllPass gate front ⊎ Stopped begin_state front → RefusesBy gate verdict sc begin_state [] bs rest
      go (inl g) =
          let y = refuses_by gate verdict sc front wrong rest r x.0 g (rw x.1 at v) (rw x.1 at u) in
          (y.0, y.1, y.2, rw eb y.3, y.4)
      go (inr (a, b, f, eq, ra, ga, ac, np)) =
          let l' : Label = label_of (settled (left begin_state a)) in
          let y = sc.stops l' f ac np in
          let tail : List ℕ = joined b ++ (wrong ++ rest) in
          let e1 : joined front ≡ joined a ++ (bytes_of f ++ joined b) = ap joined eq ∙ joined-append a (piece l' f ∷ b) in
          let e2 : bs ≡ joined a ++ (y.0 ++ (y.1 ++ tail)) =
          eb ∙ ap (λ z. z ++ (wrong ++ rest)) e1 ∙ append_assoc (joined a) (bytes_of f ++ joined b) (wrong ++ rest)
          ∙ ap (λ z. joined a ++ z) (append_assoc (bytes_of f) (joined b) (wrong ++ rest) ∙ ap (λ z. z
          ++ tail) y.3 ∙ append_assoc y.0 y.1 tail) in (
            y.0,
            y.1 ++ tail,
            y.2,
            rw e2 (refuses gate verdict sc a y.0 (y.1 ++ tail) y.2 ra ga y.4 y.5),
            omega (arith, length-append y.1 tail, length-append (joined b) (wrong ++ rest), length-append wrong rest),
          )

  least : (bs wrong rest : List ℕ) (r : ℕ) → walk verdict begin_state [] bs ≡ refused wrong rest r
      → (wrong' rest' : List ℕ) (r' : ℕ) → IsFaultBy verdict bs wrong' rest' r' → length rest' ≤ length rest
  least bs wrong rest r e wrong' rest' r' f =
      let x = earlier bs wrong' rest' r' f in
      let e' : refused wrong rest r ≡ refused x.0 x.1 x.2 = sym e ∙ x.3 in
      let z : rest ≡ x.1 = cc in
      rw z x.4

  none_passed : (bs cut : List ℕ) (s : State) → walk verdict begin_state [] bs ≡ ended s cut → (wrong rest : List ℕ) (r : ℕ)
      → IsFaultBy verdict bs wrong rest r → ⊥
  none_passed bs cut s e wrong rest r f =
      let x = earlier bs wrong rest r f in
      let e' : ended s cut ≡ refused x.0 x.1 x.2 = sym e ∙ x.3 in
      cc

  no_stream_cut : (bs cut : List ℕ) (s : State) → walk verdict begin_state [] bs ≡ ended s cut → (list : ContentTrees)
      → IsStreamOf bs list → IsDone (settled s) × (cut ≡ [])
  no_stream_cut bs cut s e list st = go (all_or_stopped (tokens_of list) begin_state x.0)
    where
      eb : bs ≡ joined (tokens_of list)
      eb = st.0 ∙ sym (spelled_law list st.1)

      x : Runs begin_state (tokens_of list) × IsDone (settled (left begin_state (tokens_of list)))
      x = runs_all (tokens_of list) ((exact_law (tokens_of list)).1 (list, st.1, refl))

      go : AllPass gate (tokens_of list) ⊎ Stopped begin_state (tokens_of list) → IsDone (settled s) × (cut ≡ [])
      go (inl g) =
          let y = right_yes bs list (st, g) in
          let z : ended s cut ≡ ended y.0 [] = sym e ∙ y.2 in
          let es : s ≡ y.0 = cc in
          let ep : cut ≡ [] = cc in
          (rw es y.1, ep)
      go (inr (a, b, f, eq, ra, ga, ac, np)) =
          let l' : Label = label_of (settled (left begin_state a)) in
          let y = sc.stops l' f ac np in
          let tail : List ℕ = joined b in
          let e1 : bs ≡ joined a ++ (bytes_of f ++ tail) = eb ∙ ap joined eq ∙ joined-append a (piece l' f ∷ b) in
          let e2 : bs ≡ joined a ++ (y.0 ++ (y.1 ++ tail)) =
          e1 ∙ ap (λ z. joined a ++ z) (ap (λ z. z ++ tail) y.3 ∙ append_assoc y.0 y.1 tail) in
          let r : walk verdict begin_state [] bs ≡ refused y.0 (y.1 ++ tail) y.2 =
          rw e2 (refuses gate verdict sc a y.0 (y.1 ++ tail) y.2 ra ga y.4 y.5) in
          let z : ended s cut ≡ refused y.0 (y.1 ++ tail) y.2 = sym e ∙ r in
          absurd (cc)

pub accepts_law : AcceptsExactly
accepts_law gate verdict sc bs =
    (λ (s, d, e). yes_right gate verdict sc bs s d e, λ (list, p). right_yes gate verdict sc bs list p)

pub refuses_law : RefusesFirst
refuses_law gate verdict sc bs wrong rest r e =
    (no_right gate verdict sc bs wrong rest r e, least gate verdict sc bs wrong rest r e)

pub no_fault_law : NoFaultPassed
no_fault_law gate verdict sc bs cut s e wrong rest r f = none_passed gate verdict sc bs cut s e wrong rest r f

pub cut_short_law : CutShort
cut_short_law gate verdict sc bs cut s e list st = no_stream_cut gate verdict sc bs cut s e list st
