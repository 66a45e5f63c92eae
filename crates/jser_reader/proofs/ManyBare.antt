-- The loop over whole values: objects with no sections, and externalizable ones.
use Rattle.std.proofs.Common.{◌≡◌, ℕ, suc, ◌+◌, ◌^◌, ◌<◌, ◌≤◌, true, false, List, length, get_or, drop, Some, None, refl, sym, ◌∙◌, ap, ap₂, subst, arith}
use Rattle.jser_table.specs.declared.section.Sections.{Sections}
use Rattle.jser_table.specs.Chains.{chain_in, is_external}
use Rattle.jser_table.specs.Entries.{other_entry}
use Rattle.jser_table.specs.Sections.{AreSections}
use Rattle.jser_reading.specs.Labels.{object_tag}
use Rattle.jser_reader.specs.declared.machine.flow.Flow.TheVariants as flow
use Rattle.jser_reader.specs.declared.frame.Frame.TheVariants as frame
use Rattle.jser_reader.specs.declared.frame.Owner.TheVariants as owner
use Rattle.jser_reader.specs.declared.machine.many.counts.Counts.{Counts}
use Rattle.jser_reader.specs.declared.machine.many.counts.Turn.TheVariants as turn
use Rattle.jser_reader.specs.Rules.{IsClassOf}
use Rattle.jser_reader.specs.Many.{HasSections}
use Rattle.jser_reader.specs.Handlers.{Pushes, BeginsObject, moved, added, pushed, is_full}
use Rattle.jser_reader.specs.Many.{phase_on, seen_at, tally_with, tally_at, HoldsNext, with_place, with_depth, LeadsTo, Ends, ObjectBegins, Turns}
use Rattle.jser_reader.specs.Passes.{Passes}
use Rattle.jser_reader.specs.Readers.{Seen}
use Rattle.jser_reader.specs.Steps.{after_value}
use Rattle.jser_reader.specs.Takes.{counted_on}
use Rattle.jser_reader.specs.Wholes.{HasPlace, HasReference, with_class}
use Rattle.jser_reader.proofs.ClassLemmas.{right_class}
use Rattle.jser_reader.proofs.WholeLemmas.{assigned_other}
use Rattle.jser_reader.proofs.ManyLemmas.{place_on, rest_can, place_counted, place_holds, same_can}
use Rattle.jser_reader.proofs.ManyPlain.{tag_there}
use Rattle.jser_reader.proofs.OwnerLemmas.{bare_object, external_object, object_begins, object_owned}
use Rattle.jser_reader.proofs.WholeLemmas.{TellsClass, owner_passes}

-- ---- what the code asks

pub object_begins_here : (piece : List ℕ) (n chain : ℕ) (r : Seen) (k : Counts) → HoldsNext piece r k → HasPlace (seen_at r k) → k.used + 6 ≤ length piece → 0x73 ≡ get_or piece k.used 0
    → HasReference (drop k.used piece) n → n < 2 ^ 32 → IsClassOf r.table owner.Object n chain → ObjectBegins piece n chain r k
object_begins_here piece n chain r k h p room tag class small is = record { holds = h; place = p; room = room; tag = tag; class = class; small = small; is = is }

pub sections_of : (r : Seen) (n chain : ℕ) (sections : Sections) → IsClassOf r.table owner.Object n chain → is_external (chain_in r.table.chains chain) ≡ false
    → AreSections r.table.chains (chain_in r.table.chains chain) (Some sections) → HasSections r n sections
sections_of r n chain sections is plain are = record { chain = chain; is = is; plain = plain; are = are }

-- ---- the class

-- its data begin
abbrev begins : Seen → Seen
begins r = let o : Seen = added (with_class owner.Object r) other_entry in record o { meter = moved o.meter }

class_told : (r next : Seen) (n chain : ℕ) → IsClassOf r.table owner.Object n chain → is_full r ≡ false → BeginsObject (chain_in r.table.chains chain) flow.On (begins r) next
    → TellsClass n flow.On (with_class owner.Object r) next
class_told r next n chain c full object =
    let mid : Seen = with_class owner.Object r in
    let with_other : Seen = added mid other_entry in
    right_class owner.Object n chain flow.On mid next refl
    (object_owned (length r.table.entries) chain flow.On mid with_other next
    (object_begins (chain_in r.table.chains chain) flow.On with_other (begins r) next object refl refl refl refl refl) (assigned_other mid full) refl)
    c

same_meter : (old : Seen) (k : Counts) → moved (counted_on old.meter (k.used + 6)) ≡ moved (with_class owner.Object (seen_at old k)).meter
same_meter old k =
    let at : old.meter.at + (k.used + 6) ≡ old.meter.at + k.used + 2 + 4 = omega arith in
    ap (λ n. record { at = n; from = n; limits = old.meter.limits; stop = old.meter.stop; cut_phase = old.meter.cut_phase; kept = old.meter.kept }) at

-- ---- no sections

bare_leads : (piece : List ℕ) (n chain : ℕ) (old : Seen) (k : Counts) → ObjectBegins piece n chain old k → is_full old ≡ false → is_external (chain_in old.table.chains chain) ≡ false
    → AreSections old.table.chains (chain_in old.table.chains chain) None
    → LeadsTo piece old k (added old other_entry) (with_place k 6) (after_value (seen_at (added old other_entry) (with_place k 6)))
unfolding after_value
bare_leads piece n chain old k b full plain none =
    let room = b.room in
    let more : k.used < length piece = omega arith in
    let r : Seen = seen_at old k in
    let mid : Seen = with_class owner.Object r in
    record {
      size = 6;
      some = omega arith;
      used = refl;
      can = rest_can piece old k b.holds.holds more;
      meter = refl;
      to = λ gate g before next comes kept.
          owner_passes gate owner.Object n flow.On (drop k.used piece) r mid next (tally_at old.meter.at before k) (tally_at old.meter.at before (with_place k 6)) g
          (rest_can piece old k b.holds.holds more) (place_on old.frames) (tag_there piece k.used 0x73 b.tag) b.class b.small b.place refl
          (class_told r next n chain b.is full
          (bare_object old.table.chains (chain_in old.table.chains chain) flow.On (begins r) next none refl plain comes.ready (comes.meter ∙ same_meter old k)
          (record { table = kept.table; layers = kept.layers; refs = kept.refs })))
          (λ _ _. place_counted piece before old k 6 object_tag b.holds);
    }

pub bare_turn : (piece : List ℕ) (n chain : ℕ) (old new : Seen) (k j : Counts) → ObjectBegins piece n chain old k → is_external (chain_in old.table.chains chain) ≡ false
    → AreSections old.table.chains (chain_in old.table.chains chain) None → (is_full old ≡ false) × (new ≡ added old other_entry) → j ≡ with_place k 6 → Turns piece turn.Ended old k new j
unfolding Turns Ends
bare_turn piece n chain old new k j b plain none assigns ej =
    let en = assigns.1 in
    let room = b.room in
    let used : j.used ≡ k.used + 6 = ap (λ x. x.used) ej in
    let i : Counts = with_place k 6 in (
      subst (λ x. LeadsTo piece old k new x (after_value (seen_at new x))) (sym ej)
          (subst (λ x. LeadsTo piece old k x i (after_value (seen_at x i))) (sym en) (bare_leads piece n chain old k b assigns.0 plain none)),
      place_holds piece old new k j 6 b.holds.holds b.place (omega arith) (omega arith) (ap (λ r. r.meter) en) (ap (λ r. r.frames) en) ej,
      omega arith,
    )

-- ---- an annotation alone

pushed_frame : (r : Seen) → Pushes frame.ExternalNotes flow.On r (pushed r frame.ExternalNotes)
unfolding Pushes
pushed_frame r = refl

pub external_turn : (piece : List ℕ) (n chain : ℕ) (old new : Seen) (k i j : Counts) → ObjectBegins piece n chain old k → is_external (chain_in old.table.chains chain) ≡ true
    → (is_full old ≡ false) × (new ≡ pushed (added old other_entry) frame.ExternalNotes) → i ≡ with_place k 6 → j ≡ with_depth i (i.depth + 1) → Turns piece turn.Next old k new j
unfolding Turns
external_turn piece n chain old new k i j b external assigns ei ej =
    let en = assigns.1 in
    let room = b.room in
    let more : k.used < length piece = omega arith in
    let r : Seen = seen_at old k in
    let mid : Seen = with_class owner.Object r in
    let e : j ≡ with_depth (with_place k 6) (k.depth + 1) = ej ∙ ap (λ x. with_depth x (x.depth + 1)) ei in
    let used : j.used ≡ k.used + 6 = ap (λ x. x.used) e in
    let deeper : j.depth ≡ k.depth + 1 = ap (λ x. x.depth) e in
    let frames : length new.frames ≡ suc (length old.frames) = ap (λ r. length r.frames) en in
    let held = place_holds piece old (added old other_entry) k (with_place k 6) 6 b.holds.holds b.place (omega arith) (omega arith) refl refl refl in
    let items : j.items ≡ (with_place k 6).items = ap (λ x. x.items) e in
    let counted : j.items.count ≡ (with_place k 6).items.count = ap (λ b. b.count) items in
    let same_last : j.items.last ≡ k.items.last = ap (λ b. b.last) items in
    let deepest : j.deepest ≡ (with_place k 6).deepest = ap (λ x. x.deepest) e in
    let x = held.items in
    let y = held.deep in
    let z = held.last in
    let d = b.holds.holds.depth in
    let em : new.meter ≡ old.meter = ap (λ r. r.meter) en in
    let limit : new.meter.limits.depth ≡ old.meter.limits.depth = ap (λ m. m.limits.depth) em in
    let meter : (seen_at new j).meter ≡ moved (begins r).meter =
    ap₂ (λ m u. moved (counted_on m u)) em used ∙ same_meter old k in (
      record {
        size = 6;
        used = used;
        can = rest_can piece old k b.holds.holds more;
        meter = em;
        passes = λ gate g before.
            subst (λ t. Passes gate (drop k.used piece) (Some 6) (seen_at old k) (tally_at old.meter.at before k) (seen_at new j) t)
            (ap₂ (tally_with old.meter.at before) (sym items) (sym deepest))
            (owner_passes gate owner.Object n flow.On (drop k.used piece) r mid (seen_at new j) (tally_at old.meter.at before k) (tally_at old.meter.at before (with_place k 6)) g
            (rest_can piece old k b.holds.holds more) (place_on old.frames) (tag_there piece k.used 0x73 b.tag) b.class b.small b.place refl
            (class_told r (seen_at new j) n chain b.is assigns.0
            (external_object (chain_in old.table.chains chain) flow.On flow.On (begins r) (pushed (begins r) frame.ExternalNotes) (seen_at new j) (pushed_frame (begins r)) refl refl external
            (ap phase_on (ap (λ r. r.frames) en)) (ap (λ r. r.frames) en) (ap (λ r. r.layers) en) (ap (λ r. r.table) en) (ap (λ x. x.refs) e) meter))
            (λ _ _. place_counted piece before old k 6 object_tag b.holds));
        nothing = λ none. absurd (omega arith);
      },
      record {
        holds = record { can = same_can piece old new em b.holds.holds.can; within = omega arith; depth = omega arith; deep = omega arith; items = omega arith; last = omega arith };
        top = λ none. absurd (omega arith);
      },
      omega arith,
    )
