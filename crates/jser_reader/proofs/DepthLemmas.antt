-- How many frames are open while a token is read, by the depth in its label.
use Rattle.std.proofs.Common.{◌≡◌, ℕ, suc, ◌≤◌, Bool, true, false, List, [], ◌∷◌, length, refl, sym, ◌∙◌, ap, subst, arith}
use Rattle.jser_reading.specs.Goals.{Goal, State}
use Rattle.jser_reading.specs.Accepts.{label_of}
use Rattle.jser_verdict.specs.Gates.{Gate}
use Rattle.jser_reader.specs.declared.phase.Phase.{Phase}
use Rattle.jser_reader.specs.declared.phase.Phase.TheVariants as phase
use Rattle.jser_reader.specs.declared.phase.TextFor.{TextFor}
use Rattle.jser_reader.specs.declared.phase.TextFor.TheVariants as text
use Rattle.jser_reader.specs.Stacks.{FitsDepth}
use Rattle.jser_reader.specs.Readers.{Seen, moment_of, text_depth, text_rest, text_goal, ReadyAt}
use Rattle.jser_reader.specs.Walks.{StandsAt, Stands}
use Rattle.jser_reader.proofs.PhaseLemmas.{IsFixed, phase_depth, label_is}

as_many : (n : ℕ) → FitsDepth n n
as_many n = record { most = omega arith; least = omega arith }

one_fewer : (n : ℕ) → FitsDepth n (suc n)
one_fewer n = record { most = omega arith; least = omega arith }

-- ---- texts

text_fits : (r : Seen) (t : TextFor) → FitsDepth (length r.frames) (text_depth r t)
text_fits r text.Value = one_fewer (length r.frames)
text_fits r text.FieldType = as_many (length r.frames)
text_fits r (text.FieldName is_object) = as_many (length r.frames)
text_fits r text.ClassName = one_fewer (length r.frames)
text_fits r text.InterfaceName = as_many (length r.frames)

depth_of_text : (r : Seen) (t : TextFor) (long : Bool) (goals : List Goal) → (label_of (moment_of r, text_goal r t long ∷ goals)).depth ≡ text_depth r t
depth_of_text r text.Value long goals = refl
depth_of_text r text.FieldType long goals = refl
depth_of_text r (text.FieldName is_object) long goals = refl
depth_of_text r text.ClassName long goals = refl
depth_of_text r text.InterfaceName long goals = refl

text_at : (r : Seen) (s : State) (long : Bool) → s ≡ (moment_of r, text_goal r r.text long ∷ text_rest r r.text) → FitsDepth (length r.frames) (label_of s).depth
text_at r s long e =
    subst (FitsDepth (length r.frames)) (sym (ap (λ t. (label_of t).depth) e ∙ depth_of_text r r.text long (text_rest r r.text))) (text_fits r r.text)

-- ---- tags and numbers

no_frame : (r : Seen) (depth : ℕ) → r.frames ≡ [] → depth ≤ 1 → FitsDepth (length r.frames) depth
no_frame r depth e h = let n : length r.frames ≡ 0 = ap length e in record { most = omega arith; least = omega arith }

fixed_fits : (p : Phase) (r : Seen) (s : State) → IsFixed p → ReadyAt p r s → FitsDepth (length r.frames) (phase_depth p r)
fixed_fits phase.Header r s i h = no_frame r 0 h.0 (omega arith)
fixed_fits phase.Top r s i h = no_frame r 1 h.0 (omega arith)
fixed_fits phase.TextTag r s i h = text_fits r r.text
fixed_fits phase.TextHandle r s i h = text_fits r r.text
fixed_fits phase.Flags r s i h = as_many (length r.frames)
fixed_fits phase.FieldCount r s i h = as_many (length r.frames)
fixed_fits phase.TypeCode r s i h = as_many (length r.frames)
fixed_fits phase.InterfaceCount r s i h = as_many (length r.frames)
fixed_fits phase.BlockLength1 r s i h = as_many (length r.frames)
fixed_fits phase.BlockLength4 r s i h = as_many (length r.frames)
fixed_fits phase.Length2 r s i h = absurd i
fixed_fits phase.Length8 r s i h = absurd i
fixed_fits phase.Text r s i h = absurd i
fixed_fits phase.Prims r s i h = absurd i
fixed_fits phase.Bytes r s i h = absurd i
fixed_fits phase.Cut r s i h = absurd i
fixed_fits phase.Stopped r s i h = absurd i
fixed_fits _ r s i h = one_fewer (length r.frames)

fixed_at : (p : Phase) (r : Seen) (s : State) → IsFixed p → ReadyAt p r s → FitsDepth (length r.frames) (label_of s).depth
fixed_at p r s i h = subst (FitsDepth (length r.frames)) (sym (ap (λ l. l.depth) (label_is p r s i h))) (fixed_fits p r s i h)

-- ---- every token

ready_fits : (p : Phase) (r : Seen) (s : State) → ReadyAt p r s → FitsDepth (length r.frames) (label_of s).depth
ready_fits phase.Length2 r s h = text_at r s false h.1
ready_fits phase.Length8 r s h = text_at r s true h.2
ready_fits phase.Prims r s h = subst (FitsDepth (length r.frames)) (sym (ap (λ t. (label_of t).depth) h.is)) h.depth_is
ready_fits phase.Bytes r s h = subst (FitsDepth (length r.frames)) (sym (ap (λ t. (label_of t).depth) h.is)) (as_many (length r.frames))
ready_fits phase.Text r s h = absurd h
ready_fits phase.Cut r s h = absurd h
ready_fits phase.Stopped r s h = absurd h
ready_fits phase.Header r s h = fixed_at phase.Header r s tt h
ready_fits p r s h = fixed_at p r s tt h

stands_fits : (p : Phase) (r : Seen) (s : State) (cut : List ℕ) → StandsAt p r s cut → FitsDepth (length r.frames) (label_of s).depth
stands_fits phase.Text r s cut h = text_at r s h.long h.is
stands_fits phase.Prims r s cut h = subst (FitsDepth (length r.frames)) (sym (ap (λ t. (label_of t).depth) h.is)) h.depth_is
stands_fits phase.Bytes r s cut h = subst (FitsDepth (length r.frames)) (sym (ap (λ t. (label_of t).depth) h.is)) (as_many (length r.frames))
stands_fits phase.Cut r s cut h = ready_fits r.meter.cut_phase r s h.ready
stands_fits phase.Stopped r s cut h = absurd h
stands_fits p r s cut h = ready_fits p r s h.0

-- the frames of a machine that stands for a settled state
pub frames_fit : (gate : Gate) (r : Seen) (s : State) (cut : List ℕ) → Stands gate r s cut → FitsDepth (length r.frames) (label_of s).depth
frames_fit gate r s cut st = stands_fits r.phase r s cut st.stands
