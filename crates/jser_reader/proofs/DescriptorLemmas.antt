-- The head of a descriptor: its handle and its frame, its suid and its flags.
use Rattle.std.proofs.Common.{◌≡◌, ℕ, ◌+◌, Bool, true, false, List, [], ◌∷◌, ◌++◌, length, reverse, slice_get, Some, None, IsTrue, refl, sym, ◌∙◌, ap, subst, arith, length-append}
use Rattle.std.proofs.lemmas.List.{reverse-append}
use Rattle.jser_table.specs.declared.layer.Layer.{Layer}
use Rattle.jser_table.specs.Entries.{TableEntry, pending_entry, is_pending}
use Rattle.jser_table.specs.Sections.{no_layer}
use Rattle.jser_reading.specs.Goals.{State}
use Rattle.jser_verdict.specs.Reasons.{handle_space}
use Rattle.jser_verdict.specs.Verdicts.{told_if}
use Rattle.jser_reader.specs.declared.machine.flow.Flow.{Flow}
use Rattle.jser_reader.specs.declared.machine.flow.Flow.TheVariants as flow
use Rattle.jser_reader.specs.declared.frame.Frame.{Frame}
use Rattle.jser_reader.specs.declared.frame.Frame.TheVariants as frame
use Rattle.jser_reader.specs.declared.frame.Role.{Role}
use Rattle.jser_reader.specs.declared.phase.Phase.TheVariants as phase
use Rattle.jser_reader.specs.declared.refusal.Stop.TheVariants as stop
use Rattle.jser_reader.specs.Fitting.{AllFit}
use Rattle.jser_reader.specs.Readers.{Seen, Ready}
use Rattle.jser_reader.specs.Handlers.{StopsWith, moved, Tells, TellCases, IsNext, Assigns, AssignCases, is_full, added, opens_proxy}
use Rattle.jser_reader.specs.Descriptors.{CanOpen, opened, Opens, OpensNew, NewCases, after_suid}
use Rattle.jser_reader.proofs.EndLemmas.{next_is, tells_next}
use Rattle.jser_reader.proofs.EntryLemmas.{fits_more}

-- the frame is put on the stack

pub fits_opened : (T : List TableEntry) (C : List (List Layer)) (frames now : List Frame) (number : ℕ) (role : Role)
    → now ≡ frame.Descriptor number role ∷ frames → CanOpen T C number frames → AllFit T C now
fits_opened T C frames now number role e h = rw e (record { all = (h.pending, h.inside, h.below) })

pub opens_nothing : (old new : Seen) (role : Role) (number : ℕ) (b : Flow) → StopsWith stop.OutOfMemory old new → b ≡ flow.Stopped → Opens role number b old new
unfolding Opens
opens_nothing old new role number b h e = rw e h

pub opens : (old new : Seen) (role : Role) (number : ℕ) (outer : List Layer) (l : Layer) (b : Flow) → old.layers ≡ l ∷ reverse outer
    → new ≡ record { meter = old.meter; phase = old.phase; frames = frame.Descriptor number role ∷ old.frames; layers = no_layer ∷ reverse (outer ++ (l ∷ [])); table = old.table; refs = old.refs; owner = old.owner; elements = old.elements; header = old.header; text = old.text; left = old.left; scan = old.scan; name = old.name }
    → b ≡ flow.On → Opens role number b old new
unfolding Opens
opens old new role number outer l b el h e =
    let w : reverse (outer ++ (l ∷ [])) ≡ old.layers = reverse-append outer (l ∷ []) ∙ sym el in
    rw e (h ∙ ap (λ L. record { meter = old.meter; phase = old.phase; frames = frame.Descriptor number role ∷ old.frames; layers = no_layer ∷ L; table = old.table; refs = old.refs; owner = old.owner; elements = old.elements; header = old.header; text = old.text; left = old.left; scan = old.scan; name = old.name }) w)

-- a new descriptor

last_pending : (T : List TableEntry) → IsTrue (is_pending (slice_get (T ++ (pending_entry ∷ [])) (length T)))
last_pending [] = refl
last_pending (e ∷ T) = last_pending T

pub can_open : (old mid : Seen) (number : ℕ) → Assigns pending_entry (Some number) old mid → AllFit old.table.entries old.table.chains old.frames
    → CanOpen mid.table.entries mid.table.chains number mid.frames
unfolding Assigns
can_open old mid number h fit =
    let n : length (old.table.entries ++ (pending_entry ∷ [])) ≡ length old.table.entries + 1 = length-append old.table.entries (pending_entry ∷ []) in
    rw h.2 (rw h.0 (record {
      pending = last_pending old.table.entries;
      inside = omega arith;
      below = fits_more old.table.entries pending_entry old.table.chains (length old.table.entries) old.frames fit.all;
    }))

pub not_new : (role : Role) (b : Flow) (old new : Seen) → Assigns pending_entry None old new → b ≡ flow.Stopped → OpensNew role b old new
unfolding Assigns OpensNew
not_new role b old new h e = rw e (by_room (is_full old) h)
  where
    by_room : (full : Bool) → AssignCases pending_entry None full old new → NewCases role flow.Stopped full old new
    by_room true k = k
    by_room false k = k

pub opens_new : (role : Role) (number : ℕ) (b : Flow) (old mid new : Seen) → Assigns pending_entry (Some number) old mid → Opens role number b mid new → OpensNew role b old new
unfolding Assigns Opens OpensNew
opens_new role number flow.On old mid new h k = (h.1, k ∙ ap (λ r. opened r role number) h.2 ∙ ap (opened (added old pending_entry) role) h.0)
opens_new role number flow.Stopped old mid new h k = subst (λ f. NewCases role flow.Stopped f old new) (sym h.1) (record { phase = k.phase; stop = k.stop })

-- its suid, or the tag of a proxy

pub no_descriptor : (role : Role) (s : State) (found b : Flow) (old new : Seen) → OpensNew role found old new → found ≡ flow.Stopped → b ≡ flow.Stopped
    → Tells (told_if (is_full old) handle_space None) s b old new
unfolding OpensNew Tells
no_descriptor role s flow.On b old new h ef e = absurd (cc)
no_descriptor role s flow.Stopped b old new h ef e = rw e (by_room (is_full old) h)
  where
    by_room : (full : Bool) → NewCases role flow.Stopped full old new → TellCases (told_if full handle_space None) s flow.Stopped old new
    by_room true k = k
    by_room false k = k

pub suid_goes : (role : Role) (found b : Flow) (old mid new : Seen) → OpensNew role found old mid → found ≡ flow.On → role ≡ old.header.role
    → IsNext phase.Flags mid.owner mid.elements mid.header mid.text mid new → b ≡ flow.On
    → Tells (told_if (is_full old) handle_space None) (after_suid old) b old new
unfolding OpensNew after_suid Ready
suid_goes role flow.Stopped b old mid new h ef er n e = absurd (cc)
suid_goes role flow.On b old mid new h ef er n e =
    let ready : Ready new (after_suid old) = rw (next_is phase.Flags mid.owner mid.elements mid.header mid.text mid new n) (rw h.1 (tt, rw er refl)) in
    tells_next (told_if (is_full old) handle_space None) (after_suid old) b old new
    (record { ready = ready; meter = n.meter ∙ ap (λ r. moved r.meter) h.1; max = ap (λ t. t.max) n.table ∙ ap (λ r. r.table.max) h.1 }) e
    (ap (λ f. told_if f handle_space None) h.0)

pub new_proxy : (role : Role) (found b : Flow) (old mid new : Seen) → OpensNew role found old mid → found ≡ flow.On
    → IsNext phase.InterfaceCount mid.owner mid.elements mid.header mid.text mid new → b ≡ flow.On
    → Tells (told_if (is_full old) handle_space None) (opens_proxy old role) b old new
unfolding OpensNew opens_proxy Ready
new_proxy role flow.Stopped b old mid new h ef n e = absurd (cc)
new_proxy role flow.On b old mid new h ef n e =
    let ready : Ready new (opens_proxy old role) = rw (next_is phase.InterfaceCount mid.owner mid.elements mid.header mid.text mid new n) (rw h.1 (tt, refl)) in
    tells_next (told_if (is_full old) handle_space None) (opens_proxy old role) b old new
    (record { ready = ready; meter = n.meter ∙ ap (λ r. moved r.meter) h.1; max = ap (λ t. t.max) n.table ∙ ap (λ r. r.table.max) h.1 }) e
    (ap (λ f. told_if f handle_space None) h.0)
