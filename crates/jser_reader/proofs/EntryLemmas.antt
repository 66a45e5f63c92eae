-- A new entry in the table of handles.
use Rattle.std.proofs.Common.{◌≡◌, ℕ, zero, suc, ◌+◌, ◌<◌, true, false, List, [], ◌∷◌, ◌++◌, length, slice_get, Some, None, IsTrue, sym, subst, arith, length-append, le-leb}
use Rattle.std.proofs.lemmas.Bool.{lt-leb}
use Rattle.jser_table.specs.declared.layer.Layer.{Layer}
use Rattle.jser_table.specs.Entries.{TableEntry, is_pending}
use Rattle.jser_verdict.specs.Reasons.{handle_space}
use Rattle.jser_reader.specs.declared.frame.Frame.{Frame}
use Rattle.jser_reader.specs.declared.frame.Frame.TheVariants as frame
use Rattle.jser_reader.specs.declared.refusal.Stop.TheVariants as stop
use Rattle.jser_reader.specs.Fitting.{FramesFit, AllFit}
use Rattle.jser_reader.proofs.PartLemmas.{fits_lower}
use Rattle.jser_reader.specs.Reasons.{named}
use Rattle.jser_reader.specs.Readers.{Seen}
use Rattle.jser_reader.specs.Handlers.{StopsWith, refusal, Assigns, AssignCases, is_full, added}

get_more : (T : List TableEntry) (e : TableEntry) (k : ℕ) → IsTrue (is_pending (slice_get T k)) → IsTrue (is_pending (slice_get (T ++ (e ∷ [])) k))
get_more [] e k h = absurd (cc)
get_more (x ∷ T) e zero h = h
get_more (x ∷ T) e (suc k) h = get_more T e k h

pub fits_more : (T : List TableEntry) (e : TableEntry) (C : List (List Layer)) (bound : ℕ) (fs : List Frame) → FramesFit T C bound fs → FramesFit (T ++ (e ∷ [])) C bound fs
fits_more T e C bound [] fit = tt
fits_more T e C bound (frame.Elements left ∷ fs) fit = (tt, tt, fits_more T e C bound fs fit.2)
fits_more T e C bound (frame.Fields last section pos prims values ∷ fs) fit = (fit.0, tt, fits_more T e C bound fs fit.2)
fits_more T e C bound (frame.Notes last section ∷ fs) fit = (fit.0, tt, fits_more T e C bound fs fit.2)
fits_more T e C bound (frame.ExternalNotes ∷ fs) fit = (tt, tt, fits_more T e C bound fs fit.2)
fits_more T e C bound (frame.Descriptor number role ∷ fs) fit = (get_more T e number fit.0, fit.1, fits_more T e C number fs fit.2)

pub fits_entry : (T U : List TableEntry) (e : TableEntry) (C D : List (List Layer)) (fs : List Frame) → U ≡ T ++ (e ∷ []) → D ≡ C → AllFit T C fs → AllFit U D fs
fits_entry T U e C D fs eu ed fit =
    let n : length (T ++ (e ∷ [])) ≡ length T + 1 = length-append T (e ∷ []) in
    rw eu (rw ed (record { all = fits_lower (T ++ (e ∷ [])) C (length T) (length (T ++ (e ∷ []))) fs (omega arith) (fits_more T e C (length T) fs fit.all) }))

pub assigned_full : (old new : Seen) (entry : TableEntry) → StopsWith (refusal old.meter (named handle_space)) old new
    → length old.table.entries ≡ old.table.max → Assigns entry None old new
unfolding Assigns
assigned_full old new entry h e =
    let full : is_full old ≡ true = le-leb old.table.max (length old.table.entries) (omega arith) in
    subst (λ b. AssignCases entry None b old new) (sym full) h

pub assigned_no_memory : (old new : Seen) (entry : TableEntry) → StopsWith stop.OutOfMemory old new
    → length old.table.entries < old.table.max → Assigns entry None old new
unfolding Assigns
assigned_no_memory old new entry h lt =
    let full : is_full old ≡ false = lt-leb old.table.max (length old.table.entries) lt in
    subst (λ b. AssignCases entry None b old new) (sym full) h

pub assigned : (old new : Seen) (entry : TableEntry) (number : ℕ) → number ≡ length old.table.entries → number < old.table.max → new ≡ added old entry
    → Assigns entry (Some number) old new
unfolding Assigns
assigned old new entry number e lt h =
    let full : is_full old ≡ false = lt-leb old.table.max (length old.table.entries) (omega arith) in (e, full, h)
