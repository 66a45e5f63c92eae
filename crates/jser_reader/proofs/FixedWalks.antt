-- A tag, a number or the header, whole or cut, and the walk over its bytes.
use Rattle.std.proofs.Common.{◌≡◌, ℕ, ◌+◌, ◌<◌, ◌≤◌, false, List, [], ◌∷◌, ◌++◌, length, Option, None, refl, sym, ◌∙◌, ap, subst, arith, length-append, append-nil, inl, inr}
use Rattle.jser_reading.specs.Labels.{header_token, Label}
use Rattle.jser_reading.specs.TokensFromBytes.{size_in, token_in}
use Rattle.jser_reading.specs.Goals.{top_goal, State, settled}
use Rattle.jser_reading.specs.Accepts.{label_of}
use Rattle.jser_reading.specs.Machine.{advance}
use Rattle.jser_reading.specs.Scanner.{IsUndecided}
use Rattle.jser_verdict.specs.Reasons.{Reason, bad_header}
use Rattle.jser_verdict.specs.Gates.{Gate}
use Rattle.jser_verdict.specs.BytesSoFar.{differs}
use Rattle.jser_verdict.specs.Verdicts.{told_if, reason_at, verdict}
use Rattle.jser_reader.specs.declared.machine.flow.Flow.{Flow}
use Rattle.jser_reader.specs.declared.phase.Phase.{Phase}
use Rattle.jser_reader.specs.declared.phase.Phase.TheVariants as phase
use Rattle.jser_reader.specs.Readers.{Seen, moment_of, ReadyAt}
use Rattle.jser_reader.specs.Memory.{IsForgotten}
use Rattle.jser_reader.specs.Handlers.{Tells, plain_gate, label_at}
use Rattle.jser_reader.specs.Walks.{gate_with, size_of_phase, header_bytes, IsRightSoFar, CutStands, StandsAt, Stands, Took, Takes, Keeps, Counts, open_phase, cut_of}
use Rattle.jser_reader.proofs.WalkLemmas.{before_last, walk_open}
use Rattle.jser_reader.proofs.StandLemmas.{LeadsTo, same_limits, judged}
use Rattle.jser_reader.proofs.PhaseLemmas.{IsFixed, phase_position, phase_depth, label_is, not_forgotten, short_fixed, is_open, ready_counted, differs_less, fixed_undecided}

pub fixed_some : (p : Phase) → IsFixed p → 0 < size_of_phase p
fixed_some phase.Length2 i = absurd i
fixed_some phase.Length8 i = absurd i
fixed_some phase.Text i = absurd i
fixed_some phase.Prims i = absurd i
fixed_some phase.Bytes i = absurd i
fixed_some phase.Cut i = absurd i
fixed_some phase.Stopped i = absurd i
fixed_some phase.Header i = omega arith
fixed_some _ i = omega arith

-- the limits of the machine are those of the gate still
pub limits_counted : (gate : Gate) (bytes : List ℕ) (old mid : Seen) → Counts bytes old mid → gate_with old gate.answer ≡ gate → gate_with mid gate.answer ≡ gate
limits_counted gate bytes old mid c e = same_limits old mid gate.answer c.limits (ap (λ t. t.max) c.table) ∙ e

-- what the verdict tells of these bytes at this state, and where their token leads
pub record IsJudged (gate : Gate) (told : Option Reason) (next s : State) (bytes : List ℕ) : Type 0 where
  pub reason : reason_at gate (label_of s) (label_of s).position bytes ≡ told
  pub leads : told ≡ None → LeadsTo s bytes next

-- a number or a tag ends, as its handler told
pub fixed_took : (gate : Gate) (p : Phase) (told : Option Reason) (next : State) (found : Flow) (old mid new : Seen) (taken : List ℕ) (s : State) (cut : List ℕ)
    → Stands gate old (settled s) cut → (ReadyAt p mid (settled s) → Tells told next found mid new)
    → (ReadyAt p mid (settled s) → gate_with mid gate.answer ≡ gate → IsJudged gate told next (settled s) (cut_of old ++ taken))
    → open_phase old ≡ p → IsFixed p → 0 < length taken → length (cut_of old ++ taken) ≤ size_of_phase p
    → (IsRightSoFar p (cut_of old) → (a : List ℕ) (c : ℕ) (d : List ℕ) → cut_of old ++ taken ≡ a ++ (c ∷ d) → IsRightSoFar p a)
    → Counts taken old mid
    → Took gate s cut taken found old new
fixed_took gate p told next found old mid new taken s cut st h j eo i some size right c =
    let o = is_open p old (settled s) cut st.stands eo (fixed_some p i) in
    let is : cut_of old ++ taken ≡ cut ++ taken = ap (λ x. x ++ taken) (sym o.cut_is) in
    let ready : ReadyAt p mid (settled s) = ready_counted p taken old mid (settled s) c (fixed_some p i) o.ready in
    let k = j ready (limits_counted gate taken old mid c st.limits_are) in
    subst (λ bytes. IsUndecided (verdict gate) (label_of (settled s)) bytes
    → reason_at gate (label_of (settled s)) (label_of (settled s)).position bytes ≡ told
    → (told ≡ None → LeadsTo (settled s) bytes next) → Took gate s cut taken found old new) (sym is)
    (λ u e leads. judged gate told next found old mid new s cut taken (h ready) st c some u e leads
    (λ _ _ k. not_forgotten p old i (subst IsForgotten (ap (λ l. l.position) (label_is p old (settled s) i o.ready)) k)))
    (fixed_undecided gate p old (settled s) (cut_of old ++ taken) i o.ready size (right (subst (IsRightSoFar p) o.cut_is o.right)))
    k.reason (λ e. k.leads e)

pub fixed_taken : (gate : Gate) (p : Phase) (told : Option Reason) (next : State) (found : Flow) (old mid new : Seen) (taken : List ℕ)
    → ((s : State) → ReadyAt p mid s → Tells told next found mid new)
    → ((s : State) → ReadyAt p mid s → gate_with mid gate.answer ≡ gate → IsJudged gate told next s (cut_of old ++ taken))
    → open_phase old ≡ p → IsFixed p → 0 < length taken → length (cut_of old ++ taken) ≤ size_of_phase p
    → (IsRightSoFar p (cut_of old) → (a : List ℕ) (c : ℕ) (d : List ℕ) → cut_of old ++ taken ≡ a ++ (c ∷ d) → IsRightSoFar p a)
    → Counts taken old mid
    → Takes gate taken found old new
unfolding Takes
fixed_taken gate p told next found old mid new taken h j eo i some size right c = λ s cut st.
    fixed_took gate p told next found old mid new taken s cut st (λ r. h (settled s) r) (λ r e. j (settled s) r e) eo i some size right c

-- all bytes are right but those of the header
pub right_but_header : (p : Phase) (a : List ℕ) → (p ≡ phase.Header → ⊥) → IsRightSoFar p a
right_but_header phase.Header a h = absurd (h refl)
right_but_header phase.Top a h = tt
right_but_header _ a h = tt

-- a tag, of one byte
pub byte_taken : (gate : Gate) (p : Phase) (told : Option Reason) (next : State) (found : Flow) (old mid new : Seen) (b : ℕ)
    → ((s : State) → ReadyAt p mid s → Tells told next found mid new)
    → ((s : State) → ReadyAt p mid s → gate_with mid gate.answer ≡ gate → IsJudged gate told next s (b ∷ []))
    → open_phase old ≡ p → cut_of old ≡ [] → IsFixed p → (p ≡ phase.Header → ⊥) → Counts (b ∷ []) old mid
    → Takes gate (b ∷ []) found old new
byte_taken gate p told next found old mid new b h j eo ec i other c =
    let is : cut_of old ++ (b ∷ []) ≡ b ∷ [] = ap (λ x. x ++ (b ∷ [])) ec in
    fixed_taken gate p told next found old mid new (b ∷ []) h
    (λ s r e. subst (IsJudged gate told next s) (sym is) (j s r e)) eo i (omega arith)
    (let n : length (cut_of old ++ (b ∷ [])) ≡ 1 = ap length is in let k = fixed_some p i in omega arith)
    (λ _ a c d e. right_but_header p a other) c

-- a number or the header is cut, or cut again: `bytes` are those that were kept of it
pub fixed_kept : (gate : Gate) (p : Phase) (old new : Seen) (piece : List ℕ)
    → new.phase ≡ phase.Cut → new.meter.cut_phase ≡ p → new.meter.kept ≡ cut_of old ++ piece
    → open_phase old ≡ p → IsFixed p → 0 < length (cut_of old ++ piece) → length (cut_of old ++ piece) < size_of_phase p
    → (IsRightSoFar p (cut_of old) → (a : List ℕ) (b : List ℕ) → cut_of old ++ piece ≡ a ++ b → IsRightSoFar p a)
    → Counts piece old new
    → Keeps gate piece old new
unfolding Keeps
fixed_kept gate p old new piece ep ec ek eo i some short is_right c = λ s cut st.
    let o = is_open p old (settled s) cut st.stands eo (fixed_some p i) in
    let right = is_right (subst (IsRightSoFar p) o.cut_is o.right) in
    let is : cut ++ piece ≡ cut_of old ++ piece = ap (λ x. x ++ piece) o.cut_is in
    let n : length (cut ++ piece) < size_of_phase p = rw is short in
    let n2 : length (cut ++ piece) ≡ length cut + length piece = length-append cut piece in
    let a = c.at in
    let f = c.from in
    let k = st.counts in
    let here : IsRightSoFar p (cut ++ piece) = right (cut ++ piece) [] (sym is ∙ sym (append-nil (cut ++ piece))) in
    let ready : ReadyAt p new (settled s) = ready_counted p piece old new (settled s) c (fixed_some p i) o.ready in
    let cs : CutStands new (settled s) (cut ++ piece) = record {
      ready = subst (λ q. ReadyAt q new (settled s)) (sym ec) ready;
      cut_is = is ∙ sym ek;
      some = rw is some;
      short = subst (λ q. length (cut ++ piece) < size_of_phase q) (sym ec) n;
      right = subst (λ q. IsRightSoFar q (cut ++ piece)) (sym ec) here;
    } in
    record {
      walks = walk_open (verdict gate) s piece cut
          (fixed_undecided gate p old (settled s) (cut ++ piece) i o.ready (omega arith) (λ a c d e. right a (c ∷ d) (sym is ∙ e)))
          (short_fixed gate p old (label_of (settled s)) (cut ++ piece) i (ap (λ l. l.position) (label_is p old (settled s) i o.ready)) n here);
      stands = record {
        limits_are = limits_counted gate piece old new c st.limits_are;
        stands = subst (λ q. StandsAt q new (settled s) (cut ++ piece)) (sym ep) cs;
        counts = omega arith;
      };
      at = c.at;
    }

-- ---- a gate whose names do not matter

pub plain_reason : (gate : Gate) (p : Phase) (r : Seen) (l : Label) (bytes : List ℕ) → IsFixed p → gate_with r gate.answer ≡ gate
    → reason_at gate l (phase_position p r) bytes ≡ reason_at (plain_gate r) l (phase_position p r) bytes
plain_reason gate p r l bytes i e = ap (λ g. reason_at g l (phase_position p r) bytes) (sym e) ∙ go p i
  where
    go : (p : Phase) → IsFixed p → reason_at (gate_with r gate.answer) l (phase_position p r) bytes ≡ reason_at (plain_gate r) l (phase_position p r) bytes
    go phase.Header i = refl
    go phase.Top i = refl
    go phase.Note i = refl
    go phase.Value i = refl
    go phase.ClassTag i = refl
    go phase.SuperTag i = refl
    go phase.TextTag i = refl
    go phase.BackHandle i = refl
    go phase.ClassHandle i = refl
    go phase.SuperHandle i = refl
    go phase.TextHandle i = refl
    go phase.Suid i = refl
    go phase.Flags i = refl
    go phase.FieldCount i = refl
    go phase.TypeCode i = refl
    go phase.InterfaceCount i = refl
    go phase.ArrayLength i = refl
    go phase.BlockLength1 i = refl
    go phase.BlockLength4 i = refl
    go phase.Length2 i = absurd i
    go phase.Length8 i = absurd i
    go phase.Text i = absurd i
    go phase.Prims i = absurd i
    go phase.Bytes i = absurd i
    go phase.Cut i = absurd i
    go phase.Stopped i = absurd i

-- the reason at the token that the phase is, by the limits of the machine
pub phase_reason : (gate : Gate) (p : Phase) (r : Seen) (s : State) (bytes : List ℕ) → IsFixed p → ReadyAt p r s → gate_with r gate.answer ≡ gate
    → reason_at gate (label_of s) (label_of s).position bytes
    ≡ reason_at (plain_gate r) (label_at (phase_position p r) (phase_depth p r) r) (phase_position p r) bytes
phase_reason gate p r s bytes i h e =
    ap (λ l. reason_at gate l l.position bytes) (label_is p r s i h)
    ∙ plain_reason gate p r (label_at (phase_position p r) (phase_depth p r) r) bytes i e

-- a number is cut, or cut again
pub number_kept : (gate : Gate) (p : Phase) (old new : Seen) (piece : List ℕ)
    → new.phase ≡ phase.Cut → new.meter.cut_phase ≡ p → new.meter.kept ≡ cut_of old ++ piece
    → open_phase old ≡ p → IsFixed p → (p ≡ phase.Header → ⊥) → 0 < length (cut_of old ++ piece) → length (cut_of old ++ piece) < size_of_phase p
    → Counts piece old new → Keeps gate piece old new
number_kept gate p old new piece ep ec ek eo i other some short c =
    fixed_kept gate p old new piece ep ec ek eo i some short (λ _ a b e. right_but_header p a other) c

-- ---- the header

pub header_right : (cut : List ℕ) (b : ℕ) → differs header_bytes cut ≡ false → (a : List ℕ) (c : ℕ) (d : List ℕ) → cut ++ (b ∷ []) ≡ a ++ (c ∷ d)
    → differs header_bytes a ≡ false
header_right cut b h a c d e =
    elim (before_last cut b a c d e) [
      | inl k ↦ subst (λ x. differs header_bytes x ≡ false) (sym k) h
      | inr k ↦ differs_less header_bytes a (c ∷ k.0) (subst (λ x. differs header_bytes x ≡ false) k.1 h)
    ]

-- what is told of the bytes of the header up to here
abbrev pub header_reason : List ℕ → Option Reason
header_reason bytes = told_if (differs header_bytes bytes) bad_header None

header_judged : (gate : Gate) (r : Seen) (s : State) (bytes : List ℕ) → ReadyAt phase.Header r s → (header_reason bytes ≡ None → length bytes ≡ 4)
    → IsJudged gate (header_reason bytes) (moment_of r, top_goal ∷ []) s bytes
header_judged gate r s bytes h whole = record {
  reason = ap (λ l. reason_at gate l l.position bytes) (label_is phase.Header r s tt h);
  leads =
      λ k. record {
        token = header_token;
        enough =
            let size : size_in (label_of s).position bytes ≡ 4 = ap (λ l. size_in l.position bytes) (label_is phase.Header r s tt h) in
            let n = whole k in
            omega arith;
        found = ap (λ l. token_in l.position bytes) (label_is phase.Header r s tt h);
        goes = ap (λ t. settled (advance t header_token)) h.1;
      };
}

-- the bytes are the last of the header, or the last of them differs
pub header_taken : (gate : Gate) (taken : List ℕ) (found : Flow) (old mid new : Seen) → 0 < length taken
    → (differs header_bytes (cut_of old) ≡ false → mid.frames ≡ [] → Tells (header_reason (cut_of old ++ taken)) (moment_of mid, top_goal ∷ []) found mid new)
    → open_phase old ≡ phase.Header → length (cut_of old ++ taken) ≤ 4
    → (differs header_bytes (cut_of old) ≡ false → header_reason (cut_of old ++ taken) ≡ None → length (cut_of old ++ taken) ≡ 4)
    → (differs header_bytes (cut_of old) ≡ false → (a : List ℕ) (c : ℕ) (d : List ℕ) → cut_of old ++ taken ≡ a ++ (c ∷ d) → differs header_bytes a ≡ false)
    → Counts taken old mid
    → Takes gate taken found old new
unfolding Takes
header_taken gate taken found old mid new some h ep size whole right c = λ s cut st.
    let o = is_open phase.Header old (settled s) cut st.stands ep (omega arith) in
    let so_far : differs header_bytes (cut_of old) ≡ false = subst (IsRightSoFar phase.Header) o.cut_is o.right in
    fixed_took gate phase.Header (header_reason (cut_of old ++ taken)) (moment_of mid, top_goal ∷ []) found old mid new taken s cut st
    (λ r. h so_far r.0) (λ r e. header_judged gate mid (settled s) (cut_of old ++ taken) r (whole so_far)) ep tt some size
    (λ is a d e f. right is a d e f) c

-- the bytes are right, and others are to come
pub header_kept : (gate : Gate) (piece : List ℕ) (old new : Seen)
    → new.phase ≡ phase.Cut → new.meter.cut_phase ≡ phase.Header → new.meter.kept ≡ cut_of old ++ piece
    → open_phase old ≡ phase.Header → 0 < length (cut_of old ++ piece) → length (cut_of old ++ piece) < 4
    → (differs header_bytes (cut_of old) ≡ false → differs header_bytes (cut_of old ++ piece) ≡ false)
    → Counts piece old new → Keeps gate piece old new
header_kept gate piece old new ep ec ek eo some short right c =
    fixed_kept gate phase.Header old new piece ep ec ek eo tt some short
    (λ so_far a d e. differs_less header_bytes a d (subst (λ x. differs header_bytes x ≡ false) e (right so_far))) c
