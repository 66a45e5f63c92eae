-- How reading ended, and what is told of that.
use Rattle.std.proofs.Common.{◌≡◌, ◌≢◌, ◌⊎◌, ℕ, ◌<◌, Bool, true, false, List, [], ◌++◌, Option, Result, Ok, Err, inl, inr, refl, sym, ap, subst, ◌∙◌, codes}
use Rattle.std.specs.Prelude.{OnOk, OnErr}
use Rattle.std.specs.Io.KnownBytes.{Appends}
use Rattle.jser_prim.specs.Outgoing.{SinkState}
use Rattle.jser_prim.proofs.GiveLemmas.{appends_both}
use Rattle.jser_settings.specs.Settings.{Tells}
use Rattle.jser_scan.specs.declared.Rules.{Rules}
use Rattle.jser_scan.specs.declared.Tally.{Tally}
use Rattle.jser_scan.specs.Tallies.{no_files, status_of}
use Rattle.jser_records.specs.declared.run.Asked.{Asked}
use Rattle.jser_records.specs.declared.run.End.{End}
use Rattle.jser_records.specs.declared.run.End.TheVariants as end
use Rattle.jser_records.specs.declared.run.Trouble.{Trouble}
use Rattle.jser_records.specs.declared.run.Trouble.TheVariants as trouble
use Rattle.jser_records.specs.Ends.{IsWhy, ToldAt, Written, end_by, status_at, told_at}
use Rattle.jser_records.specs.Inputs.{IsFine, Wrote, terms_in}
use Rattle.jser_records.specs.Records.{AreRecords}
use Rattle.jser_records.specs.Sized.{At, at_line, at_loss}
use Rattle.jser_records.specs.Told.{all_counted, all_put, all_told}
use Rattle.jser_records.proofs.InputLemmas.{less_whole, none_so_far}
use Rattle.jser_records.proofs.LossLemmas.{records_lost, status_unread}

-- ---- what is told

-- a line was told
pub told_line : (text : List ℕ) (old new : Option (List ℕ)) (before after : Bool) → Tells after old new text → (after ≡ true) ⊎ (after ≡ before) → ToldAt text old new before after
told_line text old new before after tells kept = λ fine. (
  elim kept [ inl off ↦ absurd (cc) | inr same ↦ sym same ∙ fine ],
  elim tells [ inl off ↦ absurd (cc) | inr told ↦ told ],
)

-- the counts were
pub told_whole : {X Y : Type 0} → (result : Result X Y) (text : List ℕ) (old new : Option (List ℕ)) (before after : Bool) → OnOk result (Appends old new text) → OnOk result (after ≡ before)
    → OnErr result (after ≡ true) → ToldAt text old new before after
told_whole (Ok x) text old new before after told kept failed = λ fine. (sym kept ∙ fine, told)
told_whole (Err y) text old new before after told kept failed = λ fine. absurd (cc)

-- the counts were, behind a line
pub told_failed : {X Y : Type 0} → (result : Result X Y) (line text : List ℕ) (old mid new : Option (List ℕ)) (before between after : Bool) → Tells between old mid line
    → (between ≡ true) ⊎ (between ≡ before) → OnOk result (Appends mid new text) → OnOk result (after ≡ between) → OnErr result (after ≡ true)
    → ToldAt (line ++ text) old new before after
told_failed result line text old mid new before between after tells kept told same failed = λ fine.
    let behind = told_whole result text mid new between after told same failed fine in
    let front = told_line line old mid before between tells kept behind.0 in
    (front.0, appends_both old mid new line text front.1 behind.1)

-- ---- all

why_by : (read : Result (Unit {0}) Trouble) (source output : Bool) → IsWhy (end_by read source output) source output
why_by (Ok x) source true = refl
why_by (Ok x) source false = refl
why_by (Err trouble.Read) source true = refl
why_by (Err trouble.Read) true false = refl
why_by (Err trouble.Read) false false = tt
why_by (Err trouble.Write) source true = refl
why_by (Err trouble.Write) source false = tt
why_by (Err trouble.Memory) source true = refl
why_by (Err trouble.Memory) source false = tt

fine_by : (read : Result (Unit {0}) Trouble) (source output : Bool) → end_by read source output ≡ end.Whole → IsFine read
fine_by (Ok x) source output is = tt
fine_by (Err trouble.Read) source true is = absurd (cc)
fine_by (Err trouble.Read) true false is = absurd (cc)
fine_by (Err trouble.Read) false false is = absurd (cc)
fine_by (Err trouble.Write) source true is = absurd (cc)
fine_by (Err trouble.Write) source false is = absurd (cc)
fine_by (Err trouble.Memory) source true is = absurd (cc)
fine_by (Err trouble.Memory) source false is = absurd (cc)

-- reading went on to the end, where the status is not that of a failure
whole_by : (ends : End) (tally : Tally) → status_at ends tally ≢ 3 → ends ≡ end.Whole
whole_by end.Whole tally not = refl
whole_by end.ReadFailed tally not = absurd (not refl)
whole_by end.WriteFailed tally not = absurd (not refl)
whole_by end.NoMemory tally not = absurd (not refl)

-- no record is lost where the status is not that of a failure
lost_status : (ends : End) (tally : Tally) → 0 < tally.unread → status_at ends tally ≡ 3
lost_status end.Whole tally some = status_unread tally some
lost_status end.ReadFailed tally some = refl
lost_status end.WriteFailed tally some = refl
lost_status end.NoMemory tally some = refl

-- by what the devices are asked
pub ended : (read : Result (Unit {0}) Trouble) (ends : End) (source output failed_in failed_out : Bool) → ends ≡ end_by read failed_in failed_out → failed_in ≡ source → failed_out ≡ output
    → ends ≡ end_by read source output
ended read ends source output failed_in failed_out is a b = is ∙ ap (λ x. end_by read x failed_out) a ∙ ap (λ y. end_by read source y) b

pub written_by : (asked : Asked) (rules : Rules) (input : Option (List ℕ)) (p q s t u : SinkState) (read : Result (Unit {0}) Trouble) (tally : Tally) (source : Bool) (ends : End) (status : ℕ)
    → Wrote asked rules input p q s t read tally → ends ≡ end_by read source q.failed → status ≡ status_at ends tally
    → ToldAt (told_at ends tally) t.gone_out u.gone_out t.failed u.failed → Written asked rules input source p q s u status
written_by asked rules input p q s t u read tally source ends status w is_end is_status tells =
    let counts = all_counted no_files w.events in
    let is : status ≡ status_at ends counts = is_status ∙ ap (status_at ends) w.tally_is in
    record {
      events = w.events;
      ends = ends;
      put = w.put;
      told =
          λ fine.
          let last = tells fine in
          subst (λ text. Appends s.gone_out u.gone_out text) (sym (w.tells (told_at ends counts)))
          (appends_both s.gone_out t.gone_out u.gone_out w.told (told_at ends counts) (w.went last.0) (subst (λ z. Appends t.gone_out u.gone_out (told_at ends z)) w.tally_is last.1));
      status = is;
      why = subst (λ e. IsWhy e source q.failed) (sym is_end) (why_by read source q.failed);
      are =
          less_whole asked.layout.shape (terms_in asked rules) input w.events (λ to. IsFine read × (to ≢ at_loss)) (λ to. (status ≢ 3) ⊎ ((ends ≡ end.Whole) × (to ≢ at_loss)))
          (λ bytes rest to are whole. elim whole [
            | inl not ↦ (
              fine_by read source q.failed (sym is_end ∙ whole_by ends counts (λ lost. not (is ∙ lost))),
              λ lost. not (is ∙ lost_status ends counts (records_lost asked.layout.shape (terms_in asked rules) at_line to bytes rest w.events no_files are lost (λ same. absurd (cc)))),
            )
            | inr (went, there) ↦ (fine_by read source q.failed (sym is_end ∙ went), there)
          ])
          w.are;
    }

-- the output had failed before
pub written_none : (asked : Asked) (rules : Rules) (input : Option (List ℕ)) (source : Bool) (p s t : SinkState) (status : ℕ) → p.failed ≡ true → status ≡ 3
    → ToldAt (codes "write failed\n") s.gone_out t.gone_out s.failed t.failed → Written asked rules input source p p s t status
written_none asked rules input source p s t status off is tells = record {
  events = [];
  ends = end.WriteFailed;
  put = λ fine. absurd (cc);
  told = λ fine. (tells fine).1;
  status = is;
  why = off;
  are = none_so_far asked.layout.shape (terms_in asked rules) input (λ to. (status ≢ 3) ⊎ ((end.WriteFailed ≡ end.Whole) × (to ≢ at_loss)))
      (λ whole. elim whole [ inl not ↦ not is | inr both ↦ absurd (cc) ]);
}
