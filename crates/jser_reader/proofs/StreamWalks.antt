-- What a machine that stands for bytes says of the stream: where it begins, where it may end, and why it stops.
use Rattle.std.proofs.Common.{◌≡◌, ℕ, ◌+◌, ◌<◌, Bool, true, false, List, [], ◌∷◌, ◌++◌, length, refl, sym, ◌∙◌, ap, subst, arith, append_assoc, length-append}
use Rattle.jser_reading.specs.Goals.{Goal, State, settled}
use Rattle.jser_reading.specs.Machine.{begin_state, left, IsDone}
use Rattle.jser_reading.specs.Scanner.{walk}
use Rattle.jser_verdict.specs.Gates.{Gate}
use Rattle.jser_verdict.specs.Verdicts.{verdict}
use Rattle.jser_reader.specs.declared.machine.flow.Flow.TheVariants as flow
use Rattle.jser_reader.specs.declared.frame.Frame.{Frame}
use Rattle.jser_reader.specs.declared.frame.Frame.TheVariants as frame
use Rattle.jser_reader.specs.declared.phase.Phase.{Phase}
use Rattle.jser_reader.specs.declared.phase.Phase.TheVariants as phase
use Rattle.jser_reader.specs.declared.phase.TextFor.{TextFor}
use Rattle.jser_reader.specs.declared.phase.TextFor.TheVariants as text
use Rattle.jser_reader.specs.declared.refusal.Stop.{Stop}
use Rattle.jser_reader.specs.declared.refusal.Stop.TheVariants as stop
use Rattle.jser_reader.specs.Fitting.{HasDescriptor}
use Rattle.jser_reader.specs.Readers.{Seen, moment_of, goals_of, text_goal, text_rest, HasNotes, HasPart, value_goals, superclass_goals, superclass_handle_goals}
use Rattle.jser_reader.specs.Walks.{gate_with, size_of_phase, StandsAt, Stands, HasTaken, StopTold, Takes, StopsFor, IsNew}
use Rattle.jser_reader.proofs.StandLemmas.{stands_at}
use Rattle.jser_reader.proofs.WalkLemmas.{walk_on}

-- a new machine stands for no bytes
unfoldable pub new_stands : (gate : Gate) (r : Seen) → IsNew r → gate_with r gate.answer ≡ gate → HasTaken gate [] r
new_stands gate r n e =
    let a = n.at in
    let f = n.from in
    record {
      tokens = [];
      cut = [];
      runs = tt;
      are_tokens = refl;
      walked = refl;
      stands = record {
        limits_are = e;
        stands = subst (λ p. StandsAt p r (settled begin_state) []) (sym n.phase_is) ((n.frames, rw (n.entries, n.refs) refl), refl);
        counts = omega arith;
      };
      taken = omega arith;
      all_bytes = refl;
    }

-- the machine stops, and says why
pub stop_stands : (gate : Gate) (old new : Seen) (bytes taken : List ℕ) → Takes gate taken flow.Stopped old new → HasTaken gate bytes old
    → StopsFor gate (bytes ++ taken) new.meter.stop
unfolding Takes
stop_stands gate old new bytes taken h st = go new.meter.stop (h (left begin_state st.tokens) st.cut st.stands).1
  where
    go : (why : Stop) → StopTold gate (left begin_state st.tokens) st.cut taken old.meter.from why → StopsFor gate (bytes ++ taken) why
    go (stop.Refused refusal) x =
        let n : length (bytes ++ taken) ≡ length bytes + length taken = length-append bytes taken in
        let m : length (st.cut ++ taken) ≡ length st.cut + length taken = length-append st.cut taken in
        let c = st.stands.counts in
        let t = st.taken in
        let b = x.begins in
        let e = x.ends in
        record {
          wrong = st.cut ++ taken;
          reason = x.reason;
          is_named = x.is_named;
          walks =
              λ rest. ap (walk (verdict gate) begin_state []) (append_assoc bytes taken rest)
              ∙ walk_on (verdict gate) bytes (taken ++ rest) begin_state (left begin_state st.tokens) [] st.cut st.walked ∙ x.walks rest;
          begins = omega arith;
          ends = omega arith;
        }
    go stop.OutOfMemory x = tt
    go stop.Spent x = absurd x

-- ---- the end: at the top, and nowhere else

-- only the top is left, and no token is cut
abbrev pub MayEnd : State → List ℕ → Type 0
MayEnd s cut = IsDone s × (cut ≡ [])

pub ends_at_top : (gate : Gate) (r : Seen) (s : State) (cut : List ℕ) → Stands gate r s cut → r.phase ≡ phase.Top → MayEnd s cut
ends_at_top gate r s cut st e =
    let h = subst (λ p. StandsAt p r s cut) e st.stands in
    (subst IsDone (sym h.0.1) refl, h.1)

-- the goals are others
not_done : (s t : State) → s ≡ t → (IsDone t → ⊥) → IsDone s → ⊥
not_done s t e h d = h (subst IsDone e d)

note_not_done : (r : Seen) (fs : List Frame) → HasNotes fs → r.frames ≡ fs → IsDone (moment_of r, goals_of r) → ⊥
note_not_done r (frame.Notes last section ∷ fs) h e d = let k = rw e at d in absurd (cc)
note_not_done r (frame.ExternalNotes ∷ fs) h e d = let k = rw e at d in absurd (cc)
note_not_done r (frame.Descriptor number role ∷ fs) h e d = let k = rw e at d in absurd (cc)
note_not_done r (frame.Elements left ∷ fs) h e d = absurd h
note_not_done r (frame.Fields last section pos prims values ∷ fs) h e d = absurd h
note_not_done r [] h e d = absurd h

value_not_done : (r : Seen) (fs : List Frame) → HasPart fs → r.frames ≡ fs → IsDone (moment_of r, value_goals r.table.chains r.layers r.frames) → ⊥
value_not_done r (frame.Elements left ∷ fs) h e d = let k = rw e at d in absurd (cc)
value_not_done r (frame.Fields last section pos prims values ∷ fs) h e d = let k = rw e at d in absurd (cc)
value_not_done r (frame.Notes last section ∷ fs) h e d = absurd h
value_not_done r (frame.ExternalNotes ∷ fs) h e d = absurd h
value_not_done r (frame.Descriptor number role ∷ fs) h e d = absurd h
value_not_done r [] h e d = absurd h

super_not_done : (r : Seen) (fs : List Frame) → HasDescriptor fs → r.frames ≡ fs
    → (IsDone (moment_of r, superclass_goals r.table.chains r.layers r.frames) → ⊥) × (IsDone (moment_of r, superclass_handle_goals r.table.chains r.layers r.frames) → ⊥)
super_not_done r (frame.Descriptor number role ∷ fs) h e = (λ d. let k = rw e at d in absurd (cc), λ d. let k = rw e at d in absurd (cc))
super_not_done r (frame.Elements left ∷ fs) h e = absurd h
super_not_done r (frame.Fields last section pos prims values ∷ fs) h e = absurd h
super_not_done r (frame.Notes last section ∷ fs) h e = absurd h
super_not_done r (frame.ExternalNotes ∷ fs) h e = absurd h
super_not_done r [] h e = absurd h

text_not_done : (r : Seen) (t : TextFor) (long : Bool) (goals : List Goal) → IsDone (moment_of r, text_goal r t long ∷ goals) → ⊥
text_not_done r text.Value long goals d = absurd (cc)
text_not_done r text.FieldType long goals d = absurd (cc)
text_not_done r (text.FieldName is_object) long goals d = absurd (cc)
text_not_done r text.ClassName long goals d = absurd (cc)
text_not_done r text.InterfaceName long goals d = absurd (cc)

no_end_at : (p : Phase) (r : Seen) (s : State) (cut : List ℕ) → StandsAt p r s cut → (p ≡ phase.Top → ⊥) → MayEnd s cut → ⊥
no_end_at phase.Top r s cut h top d = top refl
no_end_at phase.Header r s cut h top d = not_done s _ h.0.1 (λ k. absurd (cc)) d.0
no_end_at phase.Note r s cut h top d = not_done s _ h.0.1 (note_not_done r r.frames h.0.0 refl) d.0
no_end_at phase.Value r s cut h top d = not_done s _ h.0.1 (value_not_done r r.frames h.0.0 refl) d.0
no_end_at phase.ClassTag r s cut h top d = not_done s _ h.0 (λ k. absurd (cc)) d.0
no_end_at phase.SuperTag r s cut h top d = not_done s _ h.0.1 (super_not_done r r.frames h.0.0 refl).0 d.0
no_end_at phase.TextTag r s cut h top d = not_done s _ h.0.2 (λ k. absurd (cc)) d.0
no_end_at phase.BackHandle r s cut h top d = not_done s _ h.0 (λ k. absurd (cc)) d.0
no_end_at phase.ClassHandle r s cut h top d = not_done s _ h.0 (λ k. absurd (cc)) d.0
no_end_at phase.SuperHandle r s cut h top d = not_done s _ h.0.1 (super_not_done r r.frames h.0.0 refl).1 d.0
no_end_at phase.TextHandle r s cut h top d = not_done s _ h.0.2 (λ k. absurd (cc)) d.0
no_end_at phase.Length2 r s cut h top d = not_done s _ h.0.1 (text_not_done r r.text false (text_rest r r.text)) d.0
no_end_at phase.Length8 r s cut h top d = not_done s _ h.0.2 (text_not_done r r.text true (text_rest r r.text)) d.0
no_end_at phase.Text r s cut h top d = not_done s _ h.is (text_not_done r r.text h.long (text_rest r r.text)) d.0
no_end_at phase.Suid r s cut h top d = not_done s _ h.0 (λ k. absurd (cc)) d.0
no_end_at phase.Flags r s cut h top d = not_done s _ h.0.1 (λ k. absurd (cc)) d.0
no_end_at phase.FieldCount r s cut h top d = not_done s _ h.0.1 (λ k. absurd (cc)) d.0
no_end_at phase.TypeCode r s cut h top d = not_done s _ h.0.2 (λ k. absurd (cc)) d.0
no_end_at phase.InterfaceCount r s cut h top d = not_done s _ h.0.1 (λ k. absurd (cc)) d.0
no_end_at phase.ArrayLength r s cut h top d = not_done s _ h.0.is (λ k. absurd (cc)) d.0
no_end_at phase.BlockLength1 r s cut h top d = not_done s _ h.0 (λ k. absurd (cc)) d.0
no_end_at phase.BlockLength4 r s cut h top d = not_done s _ h.0 (λ k. absurd (cc)) d.0
no_end_at phase.Prims r s cut h top d = not_done s _ h.is (λ k. absurd (cc)) d.0
no_end_at phase.Bytes r s cut h top d = not_done s _ h.is (λ k. absurd (cc)) d.0
no_end_at phase.Cut r s cut h top d = let k = h.some in let e = ap length d.1 in absurd (omega arith)
no_end_at phase.Stopped r s cut h top d = h

pub ends_only_at_top : (gate : Gate) (r : Seen) (s : State) (cut : List ℕ) → Stands gate r s cut → (r.phase ≡ phase.Top → ⊥) → MayEnd s cut → ⊥
ends_only_at_top gate r s cut st top d = no_end_at r.phase r s cut st.stands top d

-- where only the top is left, the machine is at the top

other_than_top : (p : Phase) (cut : List ℕ) → 0 < length cut → length cut < size_of_phase p → p ≡ phase.Top → ⊥
other_than_top p cut some short e = let one : size_of_phase p ≡ 1 = ap size_of_phase e in omega arith

done_top : (p : Phase) (r : Seen) (s : State) (cut : List ℕ) → StandsAt p r s cut → IsDone s → (p ≡ phase.Top → ⊥) → ⊥
done_top phase.Top r s cut h d top = top refl
done_top phase.Header r s cut h d top = no_end_at phase.Header r s cut h top (d, h.1)
done_top phase.Note r s cut h d top = no_end_at phase.Note r s cut h top (d, h.1)
done_top phase.Value r s cut h d top = no_end_at phase.Value r s cut h top (d, h.1)
done_top phase.ClassTag r s cut h d top = no_end_at phase.ClassTag r s cut h top (d, h.1)
done_top phase.SuperTag r s cut h d top = no_end_at phase.SuperTag r s cut h top (d, h.1)
done_top phase.TextTag r s cut h d top = no_end_at phase.TextTag r s cut h top (d, h.1)
done_top phase.BackHandle r s cut h d top = no_end_at phase.BackHandle r s cut h top (d, h.1)
done_top phase.ClassHandle r s cut h d top = no_end_at phase.ClassHandle r s cut h top (d, h.1)
done_top phase.SuperHandle r s cut h d top = no_end_at phase.SuperHandle r s cut h top (d, h.1)
done_top phase.TextHandle r s cut h d top = no_end_at phase.TextHandle r s cut h top (d, h.1)
done_top phase.Length2 r s cut h d top = no_end_at phase.Length2 r s cut h top (d, h.1)
done_top phase.Length8 r s cut h d top = no_end_at phase.Length8 r s cut h top (d, h.1)
done_top phase.Text r s cut h d top = not_done s _ h.is (text_not_done r r.text h.long (text_rest r r.text)) d
done_top phase.Suid r s cut h d top = no_end_at phase.Suid r s cut h top (d, h.1)
done_top phase.Flags r s cut h d top = no_end_at phase.Flags r s cut h top (d, h.1)
done_top phase.FieldCount r s cut h d top = no_end_at phase.FieldCount r s cut h top (d, h.1)
done_top phase.TypeCode r s cut h d top = no_end_at phase.TypeCode r s cut h top (d, h.1)
done_top phase.InterfaceCount r s cut h d top = no_end_at phase.InterfaceCount r s cut h top (d, h.1)
done_top phase.ArrayLength r s cut h d top = no_end_at phase.ArrayLength r s cut h top (d, h.1)
done_top phase.BlockLength1 r s cut h d top = no_end_at phase.BlockLength1 r s cut h top (d, h.1)
done_top phase.BlockLength4 r s cut h d top = no_end_at phase.BlockLength4 r s cut h top (d, h.1)
done_top phase.Prims r s cut h d top = not_done s _ h.is (λ k. absurd (cc)) d
done_top phase.Bytes r s cut h d top = not_done s _ h.is (λ k. absurd (cc)) d
done_top phase.Cut r s cut h d top = no_end_at r.meter.cut_phase r s [] (stands_at r.meter.cut_phase r s h.ready) (other_than_top r.meter.cut_phase cut h.some h.short) (d, refl)
done_top phase.Stopped r s cut h d top = h

pub done_at_top : (gate : Gate) (r : Seen) (s : State) (cut : List ℕ) → Stands gate r s cut → IsDone s → (r.phase ≡ phase.Top → ⊥) → ⊥
done_at_top gate r s cut st d top = done_top r.phase r s cut st.stands d top
