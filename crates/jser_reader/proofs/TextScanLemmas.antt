-- The bytes of a text: scanning some of them after others, and the walk over them.
use Rattle.std.proofs.Common.{◌≡◌, ℕ, ◌+◌, ◌<◌, ◌≤◌, min, max, inl, inr, Bool, true, false, List, [], ◌∷◌, ◌++◌, length, take, Option, Some, None, refl, sym, ◌∙◌, ap, ap₂, subst, arith, append_assoc, append-nil, length-append, length-take-le}
use Rattle.std.specs.Option.{option_to_list}
use Rattle.std.proofs.lemmas.List.{take_all, take-take}
use Rattle.jser_prim.specs.Texts.{BeginsText, Scan, HasAccepted, HasAcceptedAfter, FaultsAfter}
use Rattle.jser_reading.specs.Goals.{State, settled}
use Rattle.jser_reading.specs.Accepts.{label_of}
use Rattle.jser_verdict.specs.Reasons.{bad_text}
use Rattle.jser_verdict.specs.Gates.{Gate}
use Rattle.jser_reader.specs.declared.machine.take.text_bytes.ScanEnd.{ScanEnd}
use Rattle.jser_reader.specs.declared.machine.take.text_bytes.ScanEnd.TheVariants as scan_end
use Rattle.jser_reader.specs.declared.machine.flow.Flow.{Flow}
use Rattle.jser_reader.specs.declared.machine.flow.Flow.TheVariants as flow
use Rattle.jser_reader.specs.declared.machine.take.taken.Taken.TheVariants as taken
use Rattle.jser_reader.specs.declared.phase.Phase.TheVariants as phase
use Rattle.jser_reader.specs.declared.refusal.Reason.TheVariants as reason
use Rattle.jser_reader.specs.declared.refusal.Stop.TheVariants as stop
use Rattle.jser_reader.specs.Readers.{Seen, Meter, moment_of, is_checked}
use Rattle.jser_reader.specs.declared.phase.TextFor.{TextFor}
use Rattle.jser_reader.specs.declared.phase.TextFor.TheVariants as text
use Rattle.jser_reader.specs.Memory.{IsCheckedName}
use Rattle.jser_reader.specs.Handlers.{StopsWith, refusal, TellsSurely}
use Rattle.jser_reader.specs.TextStates.{text_reason, after_text, EndsText}
use Rattle.jser_reader.specs.Walks.{HasRead, TextStands, StandsAt, StopTold, Took, Takes, Keeps, open_in, cut_of}
use Rattle.jser_reader.specs.Takes.{counted_on, farther, taken_by, IsWholeLength, IsPart, TakenCases, TakesFromFor}
use Rattle.jser_reader.specs.TextTakes.{with_unit, KeepsUnit, Scanned, Faults, RunsOut, ScansByte, Scans}
use Rattle.jser_reader.proofs.EndLemmas.{tells_refusal}
use Rattle.jser_reader.proofs.PhaseLemmas.{text_position, text_is}
use Rattle.jser_reader.proofs.TakeLemmas.{counts_bytes}
use Rattle.jser_reader.proofs.TextSteps.{text_kept, text_taken, bad_text_taken}

-- ---- a unit that is kept

pub keeps_none : (unit : Option ℕ) (b : Flow) (old new : Seen) → new ≡ old → b ≡ flow.On → unit ≡ None → KeepsUnit unit b old new
unfolding KeepsUnit
keeps_none unit b old new e eb none =
    rw eb (rw none (e ∙ ap (λ name. record { meter = old.meter; phase = old.phase; frames = old.frames; layers = old.layers; table = old.table; refs = old.refs; owner = old.owner; elements = old.elements; header = old.header; text = old.text; left = old.left; scan = old.scan; name = name }) (sym (append-nil old.name))))

pub keeps_unit : (unit : Option ℕ) (u : ℕ) (b : Flow) (old new : Seen) → new ≡ with_unit old (Some u) → b ≡ flow.On → unit ≡ Some u → KeepsUnit unit b old new
unfolding KeepsUnit
keeps_unit unit u b old new e eb some = rw eb (rw some e)

pub no_room : (unit : Option ℕ) (b : Flow) (old new : Seen) → StopsWith stop.OutOfMemory old new → b ≡ flow.Stopped → KeepsUnit unit b old new
unfolding KeepsUnit
no_room unit b old new h eb = rw eb h

-- ---- one byte of a checked name

-- so many bytes were counted, and scanned
abbrev pub scanned_on : Seen → ℕ → Scan → Seen
scanned_on r k scan = record { meter = counted_on r.meter k; phase = r.phase; frames = r.frames; layers = r.layers; table = r.table; refs = r.refs; owner = r.owner; elements = r.elements; header = r.header; text = r.text; left = r.left; scan = scan; name = r.name }

-- so many bytes were counted, and scanned, and these units were kept
abbrev pub named_on : Seen → ℕ → Scan → List ℕ → Seen
named_on r k scan units = record { meter = counted_on r.meter k; phase = r.phase; frames = r.frames; layers = r.layers; table = r.table; refs = r.refs; owner = r.owner; elements = r.elements; header = r.header; text = r.text; left = r.left; scan = scan; name = r.name ++ units }

units_scanned : (part added : List ℕ) (old new : Seen) (scan : Scan) → new ≡ named_on old (length part) scan added
    → ((len : ℕ) (bytes units : List ℕ) → HasAccepted len bytes units old.scan → HasAccepted len (bytes ++ part) (units ++ added) scan)
    → scan.left + length part ≡ old.scan.left → Scanned part old new
units_scanned part added old new scan e push left = record {
  phase_is = ap (λ r. r.phase) e;
  counts = record {
    at = ap (λ r. r.meter.at) e;
    from = ap (λ r. r.meter.from) e;
    limits = ap (λ r. r.meter.limits) e;
    frames = ap (λ r. r.frames) e;
    layers = ap (λ r. r.layers) e;
    table = ap (λ r. r.table) e;
    refs = ap (λ r. r.refs) e;
    owner = ap (λ r. r.owner) e;
    elements = ap (λ r. r.elements) e;
    header = ap (λ r. r.header) e;
    text = ap (λ r. r.text) e;
  };
  left = ap (λ r. r.scan.left + length part) e ∙ left;
  reads =
      λ len before units h. record {
        more = added;
        read = record {
          accepted = subst (λ s. HasAccepted len (before ++ part) (units ++ added) s) (sym (ap (λ r. r.scan) e)) (push len before units h.accepted);
          kept = λ checked. ap (λ r. r.name) e ∙ ap (λ name. name ++ added) (h.kept (sym (ap (λ r. is_checked r.text) e) ∙ checked));
        };
      };
}

unit_scanned : (b : ℕ) (unit : Option ℕ) (old new : Seen) (scan : Scan) → new ≡ named_on old 1 scan (option_to_list unit)
    → ((len : ℕ) (bytes units : List ℕ) → HasAccepted len bytes units old.scan → HasAccepted len (bytes ++ (b ∷ [])) (units ++ option_to_list unit) scan)
    → scan.left + 1 ≡ old.scan.left → Scanned (b ∷ []) old new
unit_scanned b unit old new scan e push left = units_scanned (b ∷ []) (option_to_list unit) old new scan e push left

pub name_goes_on : (b : ℕ) (unit : Option ℕ) (scan : Scan) (found : Flow) (old mid new : Seen) → KeepsUnit unit found mid new → mid ≡ scanned_on old 1 mid.scan
    → ((len : ℕ) (bytes units : List ℕ) → HasAccepted len bytes units scan → HasAccepted len (bytes ++ (b ∷ [])) (units ++ option_to_list unit) mid.scan)
    → mid.scan.left + 1 ≡ scan.left → scan ≡ old.scan → is_checked old.text ≡ true → ScansByte b found old new
unfolding KeepsUnit ScansByte
name_goes_on b unit scan flow.On old mid new h m push left e checked =
    unit_scanned b unit old new mid.scan (h ∙ ap (λ r. with_unit r unit) m)
    (λ len bytes units a. push len bytes units (subst (HasAccepted len bytes units) (sym e) a)) (left ∙ ap (λ k. k.left) e)
name_goes_on b unit scan flow.Stopped old mid new h m push left e checked =
    inr (record { some = omega arith; within = omega arith; checked = checked; stops = record { phase = h.phase; stop = h.stop } })

pub name_fault : (b : ℕ) (scan : Scan) (found : Flow) (old mid new : Seen) → StopsWith (refusal mid.meter reason.BadText) mid new → found ≡ flow.Stopped
    → mid.meter ≡ counted_on old.meter 1
    → ((len : ℕ) (bytes units : List ℕ) → HasAccepted len bytes units scan → BeginsText len (bytes ++ (b ∷ [])) → ⊥)
    → scan ≡ old.scan → ScansByte b found old new
unfolding ScansByte
name_fault b scan found old mid new h ef m none e =
    rw ef (inl (record {
      accepted = 0;
      is_last = refl;
      within = omega arith;
      stops = record { phase = h.phase; stop = h.stop ∙ ap (λ x. refusal x reason.BadText) m };
      faults =
          λ len before units r. record {
            within = omega arith;
            begins = subst (BeginsText len) (sym (append-nil before)) r.accepted.begins;
            fault = none len before units (subst (HasAccepted len before units) (sym e) r.accepted);
          };
    }))

-- ---- bytes after others

pub none_scanned : (r : Seen) → Scanned [] r r
none_scanned r = record {
  phase_is = refl;
  counts = record { at = omega arith; from = refl; limits = refl; frames = refl; layers = refl; table = refl; refs = refl; owner = refl; elements = refl; header = refl; text = refl };
  left = omega arith;
  reads =
      λ len before units h. record {
        more = [];
        read = record {
          accepted = subst (λ xs. HasAccepted len xs (units ++ []) r.scan) (sym (append-nil before)) (subst (λ ys. HasAccepted len before ys r.scan) (sym (append-nil units)) h.accepted);
          kept = λ checked. h.kept checked ∙ sym (append-nil units);
        };
      };
}

scanned_after : (xs ys : List ℕ) (old mid new : Seen) → Scanned xs old mid → Scanned ys mid new → Scanned (xs ++ ys) old new
scanned_after xs ys old mid new p q =
    let n : length (xs ++ ys) ≡ length xs + length ys = length-append xs ys in
    let a = p.counts in
    let b = q.counts in
    record {
      phase_is = q.phase_is ∙ p.phase_is;
      counts = record {
        at = let x = a.at in let y = b.at in omega arith;
        from = b.from ∙ a.from;
        limits = b.limits ∙ a.limits;
        frames = b.frames ∙ a.frames;
        layers = b.layers ∙ a.layers;
        table = b.table ∙ a.table;
        refs = b.refs ∙ a.refs;
        owner = b.owner ∙ a.owner;
        elements = b.elements ∙ a.elements;
        header = b.header ∙ a.header;
        text = b.text ∙ a.text;
      };
      left = let x = p.left in let y = q.left in omega arith;
      reads =
          λ len before units h.
          let f = p.reads len before units h in
          let s = q.reads len (before ++ xs) (units ++ f.more) f.read in
          record {
            more = f.more ++ s.more;
            read = subst (λ bytes. HasRead new len bytes (units ++ (f.more ++ s.more))) (append_assoc before xs ys)
                (subst (λ us. HasRead new len ((before ++ xs) ++ ys) us) (append_assoc units f.more s.more) s.read);
          };
    }

pub one_more : (part : List ℕ) (i b : ℕ) (found : Flow) (old mid new : Seen) → Scanned (take i part) old mid → ScansByte b found mid new → found ≡ flow.On
    → take (i + 1) part ≡ take i part ++ (b ∷ []) → Scanned (take (i + 1) part) old new
unfolding ScansByte
one_more part i b flow.On old mid new p q ef e = subst (λ xs. Scanned xs old new) (sym e) (scanned_after (take i part) (b ∷ []) old mid new p q)
one_more part i b flow.Stopped old mid new p q ef e = absurd (cc)

pub all_scanned : (part : List ℕ) (i : ℕ) (result : ScanEnd) (old new : Seen) → Scanned (take i part) old new → length part ≤ i → result ≡ scan_end.All → Scans part result old new
unfolding Scans
all_scanned part i result old new p all er = rw er (subst (λ xs. Scanned xs old new) (take_all i part all) p)

-- ---- units of one byte each

-- so many bytes were counted, and scanned, and the name is this
abbrev pub renamed_on : Seen → ℕ → Scan → List ℕ → Seen
renamed_on r k scan name = record { meter = counted_on r.meter k; phase = r.phase; frames = r.frames; layers = r.layers; table = r.table; refs = r.refs; owner = r.owner; elements = r.elements; header = r.header; text = r.text; left = r.left; scan = scan; name = name }

pub units_kept : (part : List ℕ) (scan : Scan) (old new : Seen) → new ≡ renamed_on old (length part) new.scan new.name → new.name ≡ old.name ++ part
    → ((len : ℕ) (before units : List ℕ) → HasAccepted len before units scan → HasAccepted len (before ++ part) (units ++ part) new.scan)
    → new.scan.left + length part ≡ scan.left → scan ≡ old.scan → Scanned part old new
units_kept part scan old new e en push left es =
    units_scanned part part old new new.scan (e ∙ ap (renamed_on old (length part) new.scan) en)
    (λ len before units a. push len before units (subst (HasAccepted len before units) (sym es) a)) (left ∙ ap (λ k. k.left) es)

pub units_scan : (part : List ℕ) (result : ScanEnd) (old new : Seen) → Scanned part old new → result ≡ scan_end.All → Scans part result old new
unfolding Scans
units_scan part result old new h er = rw er h

-- a byte with which no text goes on, after others

same_refusal : (m k : Meter) (n : ℕ) → m.from ≡ k.from → m.at ≡ k.at + n → refusal (counted_on m 1) reason.BadText ≡ refusal (counted_on k (n + 1)) reason.BadText
same_refusal m k n ef ea =
    let to : m.at + 1 ≡ k.at + (n + 1) = omega arith in
    ap₂ (λ a b. stop.Refused (record { from_byte = a; to_byte = b; reason = reason.BadText })) ef to

fault_after : (part : List ℕ) (i b : ℕ) (old mid new : Seen) → Scanned (take i part) old mid → Faults (b ∷ []) 1 mid new → i < length part
    → take (i + 1) part ≡ take i part ++ (b ∷ []) → Faults part (i + 1) old new
fault_after part i b old mid new p f inside e =
    let n : length (take i part) ≡ i = length-take-le i part (omega arith) in
    let last = f.is_last in
    let first : f.accepted ≡ 0 = omega arith in
    let c = p.counts in
    let at = c.at in
    let far : mid.meter.at ≡ old.meter.at + i = omega arith in
    record {
      accepted = i;
      is_last = refl;
      within = inside;
      stops = record { phase = f.stops.phase; stop = f.stops.stop ∙ same_refusal mid.meter old.meter i c.from far };
      faults =
          λ len before units h.
          let r = p.reads len before units h in
          let g = subst (λ k. FaultsAfter len (before ++ take i part) (b ∷ []) k) first (f.faults len (before ++ take i part) (units ++ r.more) r.read) in
          record {
            within = inside;
            begins = r.read.accepted.begins;
            fault = λ t. g.fault (subst (BeginsText len) (ap (λ xs. before ++ xs) e ∙ sym (append_assoc before (take i part) (b ∷ []))) t);
          };
    }

pub stops_at : (part : List ℕ) (i b : ℕ) (found : Flow) (result : ScanEnd) (old mid new : Seen) → Scanned (take i part) old mid → ScansByte b found mid new → found ≡ flow.Stopped
    → result ≡ scan_end.Stopped (i + 1) → i < length part → take (i + 1) part ≡ take i part ++ (b ∷ []) → Scans part result old new
unfolding ScansByte Scans
stops_at part i b flow.On result old mid new p q ef er inside e = absurd (cc)
stops_at part i b flow.Stopped result old mid new p (inl f) ef er inside e = rw er (inl (fault_after part i b old mid new p f inside e))
stops_at part i b flow.Stopped result old mid new p (inr r) ef er inside e =
    rw er (inr (record {
      some = omega arith;
      within = omega arith;
      checked = sym (ap is_checked p.counts.text) ∙ r.checked;
      stops = record { phase = r.stops.phase; stop = r.stops.stop };
    }))

-- ---- a text whose units are not kept

pub plain_scanned : (part : List ℕ) (scan : Scan) (result : ScanEnd) (old new : Seen) → new ≡ scanned_on old (length part) new.scan
    → ((len : ℕ) (before units : List ℕ) → HasAccepted len before units scan → HasAcceptedAfter len (before ++ part) units new.scan)
    → new.scan.left + length part ≡ scan.left → scan ≡ old.scan → is_checked old.text ≡ false → result ≡ scan_end.All → Scans part result old new
unfolding Scans
plain_scanned part scan result old new e push left es plain er =
    rw er (record {
      phase_is = ap (λ r. r.phase) e;
      counts = record {
        at = ap (λ r. r.meter.at) e;
        from = ap (λ r. r.meter.from) e;
        limits = ap (λ r. r.meter.limits) e;
        frames = ap (λ r. r.frames) e;
        layers = ap (λ r. r.layers) e;
        table = ap (λ r. r.table) e;
        refs = ap (λ r. r.refs) e;
        owner = ap (λ r. r.owner) e;
        elements = ap (λ r. r.elements) e;
        header = ap (λ r. r.header) e;
        text = ap (λ r. r.text) e;
      };
      left = left ∙ ap (λ k. k.left) es;
      reads =
          λ len before units h.
          let y = push len before units (subst (HasAccepted len before units) (sym es) h.accepted) in
          record {
            more = y.more;
            read = record { accepted = y.accepted; kept = λ checked. let not_so : is_checked new.text ≡ false = ap (λ r. is_checked r.text) e ∙ plain in absurd (cc) };
          };
    })

pub plain_fault : (part : List ℕ) (accepted : ℕ) (scan : Scan) (result : ScanEnd) (old mid new : Seen) → StopsWith (refusal mid.meter reason.BadText) mid new
    → result ≡ scan_end.Stopped (accepted + 1) → mid.meter ≡ counted_on old.meter (accepted + 1) → accepted < length part
    → ((len : ℕ) (before units : List ℕ) → HasAccepted len before units scan → FaultsAfter len before part accepted)
    → scan ≡ old.scan → Scans part result old new
unfolding Scans
plain_fault part accepted scan result old mid new h er m within push es =
    rw er (inl (record {
      accepted = accepted;
      is_last = refl;
      within = within;
      stops = record { phase = h.phase; stop = h.stop ∙ ap (λ x. refusal x reason.BadText) m };
      faults = λ len before units r. push len before units (subst (HasAccepted len before units) (sym es) r.accepted);
    }))

-- ---- the bytes of a piece

-- the machine refuses the text after so many bytes
fault_taken : (gate : Gate) (piece part : List ℕ) (used count : ℕ) (old new : Seen) → Faults part count old new → part ≡ take used piece
    → old.phase ≡ phase.Text → length part ≤ old.scan.left → used ≤ length piece → TakenCases gate (taken.Stopped count) piece old new
fault_taken gate piece part used count old new f e ep room within =
    let n : length part ≡ used = ap length e ∙ length-take-le used piece within in
    let inside = f.within in
    let last = f.is_last in
    let same : take (f.accepted + 1) part ≡ take count piece =
    ap (take (f.accepted + 1)) e ∙ take-take (f.accepted + 1) used piece (omega arith) ∙ ap (λ k. take k piece) (sym last) in
    let size : length (take (f.accepted + 1) part) ≡ count = length-take-le (f.accepted + 1) part (omega arith) ∙ sym last in
    let mid : Seen = farther old count in (
      omega arith,
      omega arith,
      subst (λ xs. Takes gate xs flow.Stopped old new) same
          (bad_text_taken gate (moment_of old, []) flow.Stopped old mid new part f.accepted
          (tells_refusal bad_text (Some bad_text) (moment_of old, []) flow.Stopped mid new (record { phase = f.stops.phase; stop = f.stops.stop }) refl refl)
          ep room f.faults (counts_bytes (take (f.accepted + 1) part) count old mid refl size)),
    )

checked_at : (t : TextFor) (r : Seen) (long : Bool) → is_checked t ≡ true → IsCheckedName (text_position r t long)
checked_at text.ClassName r long checked = tt
checked_at text.InterfaceName r long checked = tt
checked_at text.Value r long checked = absurd (cc)
checked_at text.FieldType r long checked = absurd (cc)
checked_at (text.FieldName is_object) r long checked = absurd (cc)

-- the open text is a checked name
open_name : (r : Seen) (s : State) (cut : List ℕ) → TextStands r (settled s) cut → is_checked r.text ≡ true → IsCheckedName (label_of (settled s)).position
open_name r s cut x checked =
    subst IsCheckedName (sym (text_is r x.long s x.form x.is).position) (checked_at r.text r x.long checked)

no_memory_taken : (gate : Gate) (piece part : List ℕ) (used count : ℕ) (old new : Seen) → RunsOut part count old new → part ≡ take used piece → used ≤ length piece
    → old.phase ≡ phase.Text → TakenCases gate (taken.Stopped count) piece old new
unfolding Takes
no_memory_taken gate piece part used count old new r e within ep =
    let n : length part ≡ used = ap length e ∙ length-take-le used piece within in
    let inside = r.within in (
      r.some,
      omega arith,
      λ s cut st.
          let x : TextStands old (settled s) cut = subst (λ p. StandsAt p old (settled s) cut) ep st.stands in
          (r.stops.phase, subst (λ why. StopTold gate s cut (take count piece) old.meter.from why) (sym r.stops.stop) (inl (open_name old s cut x r.checked))),
    )

pub text_stops : (gate : Gate) (piece part : List ℕ) (used count : ℕ) (result : ScanEnd) (old new : Seen) → Scans part result old new → result ≡ scan_end.Stopped count
    → part ≡ take used piece → old.phase ≡ phase.Text → used ≡ min old.scan.left (length piece) → TakesFromFor gate (taken.Stopped count) piece old new
unfolding Scans TakesFromFor
text_stops gate piece part used count scan_end.All old new h er e ep size = absurd (cc)
text_stops gate piece part used count (scan_end.Stopped k) old new h er e ep size =
    let same : k ≡ count = cc in
    let within : used ≤ length piece = omega arith in
    let n : length part ≡ used = ap length e ∙ length-take-le used piece within in
    subst (λ c. TakenCases gate (taken.Stopped c) piece old new) same (elim h [
      | inl f ↦ fault_taken gate piece part used k old new f e ep (omega arith) within
      | inr r ↦ no_memory_taken gate piece part used k old new r e within ep
    ])

is_scanned : (part : List ℕ) (result : ScanEnd) (old new : Seen) → Scans part result old new → result ≡ scan_end.All → Scanned part old new
unfolding Scans
is_scanned part scan_end.All old new h er = h
is_scanned part (scan_end.Stopped count) old new h er = absurd (cc)

pub text_stays_open : (gate : Gate) (piece part : List ℕ) (used : ℕ) (result : ScanEnd) (old new : Seen) → Scans part result old new → result ≡ scan_end.All
    → part ≡ take used piece → old.phase ≡ phase.Text → used ≡ min old.scan.left (length piece) → 0 < new.scan.left → 0 < length piece
    → TakesFromFor gate (taken.Part (length piece)) piece old new
unfolding TakesFromFor
text_stays_open gate piece part used result old new h er e ep size left some =
    let s = is_scanned part result old new h er in
    let within : used ≤ length piece = omega arith in
    let n : length part ≡ used = ap length e ∙ length-take-le used piece within in
    let l = s.left in
    let all : part ≡ take (length piece) piece = e ∙ take_all used piece (omega arith) ∙ sym (take_all (length piece) piece (omega arith)) in (
      some,
      omega arith,
      subst (λ xs. Keeps gate xs old new) all (text_kept gate old new part ep (s.phase_is ∙ ep) s.reads left s.counts),
      subst (λ p. IsPart (open_in p old.meter.cut_phase) (cut_of old) piece (length piece)) (sym ep) refl,
    )

-- while a text is open at least one byte of it is left
one_left : (gate : Gate) (piece : List ℕ) (used : ℕ) (found : Flow) (old new : Seen) → Takes gate (take used piece) found old new → old.phase ≡ phase.Text
    → (0 < old.scan.left → 0 < used) → Takes gate (take (max used 1) piece) found old new
unfolding Takes
one_left gate piece used found old new h ep some = λ s cut st.
    let x : TextStands old (settled s) cut = subst (λ p. StandsAt p old (settled s) cut) ep st.stands in
    let counted = x.read.accepted.counted in
    let goes_on = x.goes_on in
    let one = some (omega arith) in
    let same : used ≡ max used 1 = omega arith in
    subst (λ k. Took gate s cut (take k piece) found old new) same (h s cut st)

taken_cases : (gate : Gate) (piece : List ℕ) (count : ℕ) (found : Flow) (old new : Seen) → 0 < count → count ≤ length piece
    → Takes gate (take count piece) found old new → old.phase ≡ phase.Text → TakenCases gate (taken_by count found) piece old new
taken_cases gate piece count flow.On old new some within h ep =
    (some, within, h, subst (λ p. IsWholeLength (open_in p old.meter.cut_phase) (cut_of old ++ take count piece)) (sym ep) tt)
taken_cases gate piece count flow.Stopped old new some within h ep = (some, within, h)

pub text_ends : (gate : Gate) (piece part : List ℕ) (used : ℕ) (result : ScanEnd) (found : Flow) (old mid new : Seen)
    → ((units : List ℕ) → EndsText mid units → TellsSurely (text_reason gate mid units) (after_text mid units) found mid new)
    → Scans part result old mid → result ≡ scan_end.All → part ≡ take used piece → old.phase ≡ phase.Text → used ≡ min old.scan.left (length piece)
    → (0 < mid.scan.left → ⊥) → 0 < length piece → TakesFromFor gate (taken_by (max used 1) found) piece old new
unfolding TakesFromFor
text_ends gate piece part used result found old mid new t h er e ep size none some =
    let s = is_scanned part result old mid h er in
    let within : used ≤ length piece = omega arith in
    let n : length part ≡ used = ap length e ∙ length-take-le used piece within in
    let ends : Takes gate (take used piece) found old new =
    subst (λ xs. Takes gate xs found old new) e
    (text_taken gate found old mid new part t ep (λ left. omega arith) s.reads (omega (arith, none)) s.counts) in
    taken_cases gate piece (max used 1) found old new (omega arith) (omega arith)
    (one_left gate piece used found old new ends ep (λ left. omega arith)) ep
