-- What is written of the records of an input.
use Rattle.std.proofs.Common.{◌≡◌, ◌≢◌, ◌⊎◌, ℕ, Bool, true, false, List, [], Option, Some, None, Result, Ok, Err, inl, inr, refl, sym, ap, subst, ◌∙◌, append-nil}
use Rattle.std.specs.Prelude.{OnOk}
use Rattle.std.specs.Io.KnownBytes.{Appends}
use Rattle.jser_prim.specs.Outgoing.{Outgoing, SinkState, Puts}
use Rattle.jser_prim.proofs.OutgoingLemmas.{nothing, went_out}
use Rattle.jser_prim.proofs.GiveLemmas.{appends_none}
use Rattle.jser_printer.specs.Says.{Says}
use Rattle.jser_scan.specs.declared.Rules.{Rules}
use Rattle.jser_scan.specs.declared.Tally.{Tally}
use Rattle.jser_scan.specs.Tallies.{no_files}
use Rattle.jser_records.specs.declared.clerk.Clerk.{Clerk}
use Rattle.jser_records.specs.declared.layout.Lines.{Lines}
use Rattle.jser_records.specs.declared.layout.Shape.{Shape}
use Rattle.jser_records.specs.declared.layout.Shape.TheVariants as shape
use Rattle.jser_records.specs.declared.run.Asked.{Asked}
use Rattle.jser_records.specs.declared.run.Trouble.{Trouble}
use Rattle.jser_records.specs.Arriving.{Arriving, IsOver, ahead}
use Rattle.jser_records.specs.Records.{AllSizedBy, AreRecords, RecordsBy, RecordsFront, RecordsGo}
use Rattle.jser_records.specs.Sized.{At, at_line, at_loss}
use Rattle.jser_records.specs.Held.{Terms, terms_of}
use Rattle.jser_records.specs.Inputs.{AreAll, IsFine, Reads, Wrote, terms_in}
use Rattle.jser_records.specs.Told.{Event, Quiet, SaysAll, all_counted, all_put, all_told}
use Rattle.jser_records.proofs.RoomLemmas.{ahead_over}
use Rattle.jser_records.proofs.ToldLemmas.{says_all}

-- ---- the records of an input

-- it may be said of less
pub less_whole : (layout : Shape) (terms : Terms) (input : Option (List ℕ)) (events : List Event) (whole other : At → Type 0)
    → ((bytes rest : List ℕ) (to : At) → AreRecords layout terms at_line bytes events to rest → other to → whole to) → AreAll layout terms input events whole → AreAll layout terms input events other
less_whole layout terms None events whole other so are = tt
less_whole layout terms (Some bytes) events whole other so (to, rest, are, ends) = (to, rest, are, λ w. ends (so bytes rest to are w))

-- before anything was read
pub none_so_far : (layout : Shape) (terms : Terms) (input : Option (List ℕ)) (whole : At → Type 0) → (whole at_line → ⊥) → AreAll layout terms input [] whole
none_so_far layout terms None whole not = tt
none_so_far layout terms (Some bytes) whole not = (at_line, bytes, (refl, refl), λ w. absurd (not w))

-- ---- one shape

all_gone : (layout : Shape) (to : At) (old new : Clerk) (from now : Arriving) (p q s t : SinkState) (whole : At → Type 0) (input : Option (List ℕ)) → ahead from ≡ input
    → (f : RecordsGo layout at_line to old new from now p q s t) → (whole to → IsOver now) → AreAll layout (terms_of old.current) input f.events whole
all_gone layout to old new from now p q s t whole None is f over = tt
all_gone layout to old new from now p q s t whole (Some bytes) is f over = let x = f.are bytes is in (to, x.0, x.2, λ w. ahead_over now x.0 (over w) x.1)

all_front : (layout : Shape) (old new : Clerk) (from : Arriving) (p q s t : SinkState) (whole : At → Type 0) (input : Option (List ℕ)) → ahead from ≡ input
    → (f : RecordsFront layout at_line old new from p q s t) → ((to : At) → whole to → ⊥) → AreAll layout (terms_of old.current) input f.events whole
all_front layout old new from p q s t whole None is f not = tt
all_front layout old new from p q s t whole (Some bytes) is f not = let x = f.are bytes is in (x.0, x.1, x.2, λ w. absurd (not x.0 w))

pub reads_front : (layout : Shape) (old new : Clerk) (from : Arriving) (p q s t : SinkState) → RecordsFront layout at_line old new from p q s t → Reads layout old new (ahead from) p q s t ⊥
reads_front layout old new from p q s t f =
    record { events = f.events; says = f.says; are = all_front layout old new from p q s t (λ to. ⊥ × (to ≢ at_loss)) (ahead from) refl f (λ to w. w.0) }

reads_by : (layout : Shape) (result : Result (Unit {0}) Trouble) (old new : Clerk) (from now : Arriving) (p q s t : SinkState)
    → RecordsBy result layout old new from now p q s t → OnOk result (IsOver now) → Reads layout old new (ahead from) p q s t (IsFine result)
reads_by layout (Ok x) old new from now p q s t f over =
    record { events = f.events; says = f.says; are = all_gone layout at_line old new from now p q s t (λ to. Unit {0} × (to ≢ at_loss)) (ahead from) refl f (λ w. over) }
reads_by layout (Err trouble) old new from now p q s t f over = reads_front layout old new from p q s t f

pub reads_frames : (result : Result (Unit {0}) Trouble) (old new : Clerk) (from now : Arriving) (p q s t : SinkState) → RecordsBy result shape.Frames old new from now p q s t
    → OnOk result (IsOver now) → Reads shape.Frames old new (ahead from) p q s t (IsFine result)
reads_frames result old new from now p q s t f over = reads_by shape.Frames result old new from now p q s t f over

pub reads_lines : (lines : Lines) (result : Result (Unit {0}) Trouble) (old new : Clerk) (from now : Arriving) (p q s t : SinkState)
    → RecordsBy result (shape.Lines lines) old new from now p q s t → OnOk result (IsOver now) → Reads (shape.Lines lines) old new (ahead from) p q s t (IsFine result)
reads_lines lines result old new from now p q s t f over = reads_by (shape.Lines lines) result old new from now p q s t f over

over_if : (to : At) (now : Arriving) → (to ≡ at_loss) ⊎ IsOver now → to ≢ at_loss → IsOver now
over_if to now (inl is) not = absurd (not is)
over_if to now (inr over) not = over

pub reads_sized : (result : Result (Unit {0}) Trouble) (old new : Clerk) (from now : Arriving) (p q s t : SinkState) → AllSizedBy result old new from now p q s t
    → Reads shape.Sized old new (ahead from) p q s t (IsFine result)
reads_sized (Ok x) old new from now p q s t (to, f, over) = record {
  events = f.events;
  says = f.says;
  are = all_gone shape.Sized to old new from now p q s t (λ to. Unit {0} × (to ≢ at_loss)) (ahead from) refl f (λ w. over_if to now over w.1);
}
reads_sized (Err trouble) old new from now p q s t f = reads_front shape.Sized old new from p q s t f

-- ---- all

-- what waits at the end goes out
pub reads_flushed : {X Y : Type 0} → (layout : Shape) (result : Result X Trouble) (last : Result Y Trouble) (a b c : Clerk) (input : Option (List ℕ)) (p q r s t u : SinkState)
    → Reads layout a b input p q s t (IsFine result) → Quiet b c q r t u → (IsFine last → IsFine result) → Reads layout a c input p r s u (IsFine last)
reads_flushed layout result last a b c input p q r s t u f g so = record {
  events = f.events;
  says = subst (λ es. SaysAll a c p r s u es) (append-nil f.events) (says_all a b c p q r s t u f.events [] f.says g.says);
  are = less_whole layout (terms_of a.current) input f.events (λ to. IsFine result × (to ≢ at_loss)) (λ to. IsFine last × (to ≢ at_loss)) (λ bytes rest to are w. (so w.0, w.1)) f.are;
}

-- a sink that has not failed has no fault that an outbox met
unbroken : (old new : Outgoing) (p q : SinkState) (bytes : List ℕ) → old ≡ nothing → Puts old new p q bytes → q.failed ≡ false → (b : Bool) → new.failed ≡ b → b ≡ false
unbroken old new p q bytes begins puts on false is = refl
unbroken old new p q bytes begins puts on true is =
    let off : q.failed ≡ true = (puts.going (ap (λ o. o.failed) begins)).fault is in absurd (cc)

bytes_out : (old new : Outgoing) (p q : SinkState) (bytes : List ℕ) → old ≡ nothing → Puts old new p q bytes → (new.failed ≡ false → new.waiting ≡ []) → q.failed ≡ false
    → Appends p.gone_out q.gone_out bytes
bytes_out old new p q bytes begins puts empty on =
    let fine : new.failed ≡ false = unbroken old new p q bytes begins puts on new.failed refl in (went_out old new p q bytes begins puts fine empty).0

put_all : (old new : Outgoing) (p q : SinkState) (text : List ℕ → List ℕ) → old ≡ nothing → Says old new p q text → (new.failed ≡ false → new.waiting ≡ []) → q.failed ≡ false
    → Appends p.gone_out q.gone_out (text [])
put_all old new p q text begins says empty on =
    subst (Appends p.gone_out q.gone_out) (sym (says.is [] ∙ append-nil says.bytes)) (bytes_out old new p q says.bytes begins says.puts empty on)

pub wrote : (asked : Asked) (rules : Rules) (input : Option (List ℕ)) (old new : Clerk) (p q s t : SinkState) (result : Result (Unit {0}) Trouble) (tally : Tally) → old.how ≡ asked.how
    → old.passes ≡ asked.pass → old.number ≡ 0 → old.tally ≡ no_files → old.output ≡ nothing → old.faults ≡ nothing → terms_of old.current ≡ terms_in asked rules
    → Reads asked.layout.shape old new input p q s t (IsFine result) → (new.output.failed ≡ false → new.output.waiting ≡ []) → (new.faults.failed ≡ false → new.faults.waiting ≡ [])
    → tally ≡ new.tally → Wrote asked rules input p q s t result tally
wrote asked rules input old new p q s t result tally is_how is_on zeroth none begins silent under reads empty told is = record {
  events = reads.events;
  put =
      λ fine.
      subst (λ h. Appends p.gone_out q.gone_out (all_put h asked.pass 0 reads.events [])) is_how
      (subst (λ o. Appends p.gone_out q.gone_out (all_put old.how o 0 reads.events [])) is_on
      (subst (λ n. Appends p.gone_out q.gone_out (all_put old.how old.passes n reads.events [])) zeroth
      (put_all old.output new.output p q (λ k. all_put old.how old.passes old.number reads.events k) begins reads.says.output empty fine)));
  told = reads.says.faults.bytes;
  tells =
      λ k.
      ap (λ h. all_told h asked.pass 0 reads.events k) (sym is_how) ∙ ap (λ o. all_told old.how o 0 reads.events k) (sym is_on)
      ∙ ap (λ n. all_told old.how old.passes n reads.events k) (sym zeroth) ∙ reads.says.faults.is k;
  went = λ fine. bytes_out old.faults new.faults s t reads.says.faults.bytes silent reads.says.faults.puts told fine;
  tally_is = is ∙ reads.says.tally ∙ ap (λ z. all_counted z reads.events) none;
  are = subst (λ t. AreAll asked.layout.shape t input reads.events (λ to. IsFine result × (to ≢ at_loss))) under reads.are;
}

-- nothing was read
pub wrote_none : (asked : Asked) (rules : Rules) (input : Option (List ℕ)) (p s : SinkState) (trouble : Trouble) → Wrote asked rules input p p s s (Err trouble) no_files
wrote_none asked rules input p s trouble = record {
  events = [];
  put = λ fine. appends_none p.gone_out;
  told = [];
  tells = λ k. refl;
  went = λ fine. appends_none s.gone_out;
  tally_is = refl;
  are = none_so_far asked.layout.shape (terms_in asked rules) input (λ to. ⊥ × (to ≢ at_loss)) (λ w. w.0);
}
