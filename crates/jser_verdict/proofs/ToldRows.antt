-- The verdict tells a row that holds, and the one that comes first; and that the two verdicts say the same.
use Rattle.std.proofs.Common.{◌≡◌, ℕ, suc, ◌<◌, ◌≤◌, Bool, true, false, cond, List, [], ◌∷◌, ◌++◌, length, refl, sym, ◌∙◌, ap, arith, Option, Some, None, IsTrue, nat_lt, leb-true, ltb-false}
use Rattle.jser_reading.proofs.Vocabulary.{IsBytes, StreamToken, Position, Label, Accepts}
use Rattle.jser_reading.specs.TokenBytes.{bytes_of}
use Rattle.jser_reading.specs.Scanner.{more, good, bad, VerdictOn}
use Rattle.jser_reading.proofs.PlainVerdict.{judge, judged, whole}
use Rattle.jser_verdict.specs.Reasons.{Reason, in_order, first_that, turn}
use Rattle.jser_verdict.specs.Gates.{Gate}
use Rattle.jser_verdict.specs.Rows.{row}
use Rattle.jser_verdict.specs.Verdicts.{reason_at, by_reason, found_token, verdict}
use Rattle.jser_verdict.proofs.Scanning.{scanning_verdict}
use Rattle.jser_verdict.specs.TokenLaws.{IsRead, TellsEachRow, TellsTheFirstRow}
use Rattle.jser_verdict.proofs.Order.{in_turn}
use Rattle.jser_verdict.proofs.Turns.{first_holds, found_first}
use Rattle.jser_verdict.proofs.Ends.{Agrees, ends_agree}
use Rattle.jser_verdict.proofs.Scans.{gate, with_none, with_some, verdict_scans}
use Rattle.jser_verdict.proofs.Wholes.{complete_at}
use Rattle.jser_reading.specs.TokensFromBytes.{token_in, size_in}
use Rattle.jser_verdict.proofs.ByteLists.{bytes_left}
use Rattle.jser_verdict.proofs.ReadTokens.{size_next}

some_none : {o : Option Reason} → (r : Reason) × (o ≡ Some r) → o ≡ None → {A : Type 0} → A
some_none (r, e) n = absurd (cc)

module _ (g : Gate) where
  abbrev pub v : VerdictOn
  v = scanning_verdict g

  judge_told : {A B : Type 0} (f : StreamToken) (x : Dec A) (b : Bool) (y : Dec B) → judge f x b y ≡ more → ⊥
  judge_told f (yes a) true (yes e) h = absurd (cc)
  judge_told f (yes a) true (no k) h = absurd (cc)
  judge_told f (yes a) false e h = absurd (cc)
  judge_told f (no k) b e h = absurd (cc)

  judged_told : (l : Label) (o : Option StreamToken) (p : List ℕ) → judged (gate g) l o p ≡ more → ⊥
  judged_told l None p h = absurd (cc)
  judged_told l (Some f) p h = judge_told f _ _ _ h

  -- bytes that want more are fewer than the token needs
  pub more_short : (l : Label) (p : List ℕ) → v l p ≡ more → length p < size_in l.position p
  more_short l p e = go (reason_at g l l.position p) refl
    where
      plain : (x : Bool) → nat_lt (length p) (size_in l.position p) ≡ x → cond x more (judged (gate g) l (token_in l.position p) p) ≡ more
          → length p < size_in l.position p
      plain true ex h = leb-true (suc (length p)) (size_in l.position p) ex
      plain false ex h = absurd (judged_told l (token_in l.position p) p h)

      go : (o : Option Reason) → reason_at g l l.position p ≡ o → length p < size_in l.position p
      go (Some r) eo = let z : bad (turn r) ≡ more = sym (with_some g l p r eo) ∙ e in absurd (cc)
      go None eo = plain (nat_lt (length p) (size_in l.position p)) refl (sym (with_none g l p eo) ∙ e)

  -- bytes that are a token, and have no reason, are found
  pub good_at : (l : Label) (p : List ℕ) → IsRead l.position → IsBytes p → length p ≡ size_in l.position p
      → reason_at g l l.position p ≡ None → (f : (f : StreamToken) × (p ≡ bytes_of f) × Accepts l f) → v l p ≡ good f.0
  good_at l p rd hb le en f =
      let en' : reason_at g l l.position (bytes_of f.0) ≡ None = ap (reason_at g l l.position) (sym f.1) ∙ en in
      ap (v l) f.1 ∙ (verdict_scans g).is_good l f.0 f.2 (passes f.0 (gate g l f.0) refl (ends_agree g l f.0 f.2) en')
    where
      passes : (f : StreamToken) (x : Bool) → gate g l f ≡ x → Agrees (gate g l f) (reason_at g l l.position (bytes_of f))
          → reason_at g l l.position (bytes_of f) ≡ None → IsTrue (gate g l f)
      passes f true ex a n = ex
      passes f false ex a n = some_none (rw ex at a) n

  -- what is refused has a reason
  pub told_bad : (l : Label) (p : List ℕ) (b k : ℕ) → IsRead l.position → IsBytes (p ++ (b ∷ [])) → v l p ≡ more
      → v l (p ++ (b ∷ [])) ≡ bad k → (r : Reason) × (reason_at g l l.position (p ++ (b ∷ [])) ≡ Some r) × (k ≡ turn r)
  told_bad l p b k rd h m e = go (reason_at g l l.position q) refl
    where
      q : List ℕ
      q = p ++ (b ∷ [])

      fits : length (p ++ (b ∷ [])) ≤ size_in l.position (p ++ (b ∷ []))
      fits = size_next l.position p b (more_short l p m)

      never : reason_at g l l.position (p ++ (b ∷ [])) ≡ None → (x : Bool)
          → nat_lt (length (p ++ (b ∷ []))) (size_in l.position (p ++ (b ∷ []))) ≡ x → ⊥
      never en true ex =
          let z : v l (p ++ (b ∷ [])) ≡ more =
          with_none g l (p ++ (b ∷ [])) en ∙ ap (λ x. cond x more (judged (gate g) l (token_in l.position (p ++ (b ∷ []))) (p ++ (b ∷ [])))) ex in
          let y : bad k ≡ more = sym e ∙ z in
          absurd (cc)
      never en false ex =
          let le : size_in l.position (p ++ (b ∷ [])) ≤ length (p ++ (b ∷ [])) = ltb-false (length (p ++ (b ∷ []))) (size_in l.position (p ++ (b ∷ []))) ex in
          let f = complete_at g l (p ++ (b ∷ [])) rd h (omega (arith, fits)) en in
          let z : v l (p ++ (b ∷ [])) ≡ good f.0 = good_at l (p ++ (b ∷ [])) rd h (omega (arith, fits)) en f in
          let y : bad k ≡ good f.0 = sym e ∙ z in
          absurd (cc)

      go : (o : Option Reason) → reason_at g l l.position (p ++ (b ∷ [])) ≡ o
          → (r : Reason) × (reason_at g l l.position (p ++ (b ∷ [])) ≡ Some r) × (k ≡ turn r)
      go (Some r) eo = let z : bad k ≡ bad (turn r) = sym e ∙ with_some g l (p ++ (b ∷ [])) r eo in (r, eo, cc)
      go None eo = absurd (never eo (nat_lt (length (p ++ (b ∷ []))) (size_in l.position (p ++ (b ∷ [])))) refl)

  -- where a row holds the bytes are refused
  pub row_bad : (l : Label) (wrong : List ℕ) (r : Reason) → IsTrue (row r g l wrong)
      → (k : ℕ) × (v l wrong ≡ bad k) × (k ≤ turn r)
  row_bad l wrong r h =
      let x = found_first (λ r. row r g l wrong) r h in
      (turn x.0, with_some g l wrong x.0 (in_turn g l wrong ∙ x.1), x.2)

told_some : (g : Gate) (l : Label) (p : List ℕ) (r : Reason) → reason_at g l l.position p ≡ Some r → verdict g l p ≡ bad (turn r)
told_some g l p r e =
    ap (λ o. by_reason o (cond (nat_lt (length p) (size_in l.position p)) more (found_token (token_in l.position p)))) e

pub tells_each_row : TellsEachRow
tells_each_row g l p r h =
    let x = found_first (λ r. row r g l p) r h in (x.0, told_some g l p x.0 (in_turn g l p ∙ x.1), x.2)

abbrev SameVerdict : Type 0
SameVerdict =
    (g : Gate) (l : Label) (p : List ℕ) → IsRead l.position → IsBytes p → length p ≤ size_in l.position p
    → verdict g l p ≡ scanning_verdict g l p

pub same_verdict : SameVerdict
same_verdict g l p rd hb le = go (reason_at g l l.position p) refl
  where
    w : Position
    w = l.position

    direct : (o : Option Reason) → reason_at g l l.position p ≡ o
        → verdict g l p ≡ by_reason o (cond (nat_lt (length p) (size_in l.position p)) more (found_token (token_in l.position p)))
    direct o eo = ap (λ x. by_reason x (cond (nat_lt (length p) (size_in l.position p)) more (found_token (token_in l.position p)))) eo

    sized : reason_at g l l.position p ≡ None → (x : Bool) → nat_lt (length p) (size_in l.position p) ≡ x
        → cond (nat_lt (length p) (size_in l.position p)) more (found_token (token_in l.position p)) ≡ scanning_verdict g l p
    sized en true ex =
        ap (λ x. cond x more (found_token (token_in l.position p))) ex
        ∙ sym (with_none g l p en ∙ ap (λ x. cond x more (judged (gate g) l (token_in l.position p) p)) ex)
    sized en false ex =
        let ge : size_in l.position p ≤ length p = ltb-false (length p) (size_in l.position p) ex in
        let f = complete_at g l p rd hb (omega (arith, le)) en in
        let fd : token_in l.position p ≡ Some f.0 = ap (token_in l.position) f.1 ∙ (whole l.position l.moment f.0 f.2).found in
        ap (λ x. cond x more (found_token (token_in l.position p))) ex ∙ ap found_token fd ∙ sym (good_at g l p rd hb (omega (arith, le)) en f)

    go : (o : Option Reason) → reason_at g l l.position p ≡ o → verdict g l p ≡ scanning_verdict g l p
    go (Some r) eo = direct (Some r) eo ∙ sym (with_some g l p r eo)
    go None eo = direct None eo ∙ sized eo (nat_lt (length p) (size_in l.position p)) refl

-- bytes that want more are fewer than the token needs
verdict_short : (g : Gate) (l : Label) (p : List ℕ) → verdict g l p ≡ more → length p < size_in l.position p
verdict_short g l p e = go (reason_at g l l.position p) e
  where
    counted : (x : Bool) → nat_lt (length p) (size_in l.position p) ≡ x → (o : Option StreamToken) → cond x more (found_token o) ≡ more
        → length p < size_in l.position p
    counted true ex o h = leb-true (suc (length p)) (size_in l.position p) ex
    counted false ex None h = absurd (cc)
    counted false ex (Some f) h = absurd (cc)

    go : (o : Option Reason) → by_reason o (cond (nat_lt (length p) (size_in l.position p)) more (found_token (token_in l.position p))) ≡ more
        → length p < size_in l.position p
    go (Some r) h = absurd (cc)
    go None h = counted (nat_lt (length p) (size_in l.position p)) refl (token_in l.position p) h

pub tells_the_first_row : TellsTheFirstRow
tells_the_first_row g l p b k rd hb m e =
    let short : length p < size_in l.position p = verdict_short g l p m in
    let hp : IsBytes p = bytes_left p (b ∷ []) hb in
    let same : verdict g l p ≡ scanning_verdict g l p = same_verdict g l p rd hp (omega (arith, short)) in
    let next : verdict g l (p ++ (b ∷ [])) ≡ scanning_verdict g l (p ++ (b ∷ [])) =
    same_verdict g l (p ++ (b ∷ [])) rd hb (size_next l.position p b short) in
    let t = told_bad g l p b k rd hb (sym same ∙ m) (sym next ∙ e) in
    let first : first_that (λ r. row r g l (p ++ (b ∷ []))) in_order ≡ Some t.0 = sym (in_turn g l (p ++ (b ∷ []))) ∙ t.1 in (
      t.0,
      t.2,
      first_holds (λ r. row r g l (p ++ (b ∷ []))) in_order t.0 first,
      λ other h. least t.0 first other h,
    )
  where
    least : (r : Reason) → first_that (λ r. row r g l (p ++ (b ∷ []))) in_order ≡ Some r → (other : Reason)
        → IsTrue (row other g l (p ++ (b ∷ []))) → turn r ≤ turn other
    least r first other h =
        let y = found_first (λ r. row r g l (p ++ (b ∷ []))) other h in
        let z : Some r ≡ Some y.0 = sym first ∙ y.1 in
        let q : r ≡ y.0 = cc in
        rw q y.2
