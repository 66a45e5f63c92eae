-- The loop over whole values: objects.
use Rattle.std.proofs.Common.{◌≡◌, ℕ, suc, ◌+◌, ◌^◌, ◌<◌, ◌≤◌, Bool, true, false, List, [], ◌∷◌, length, get_or, take, drop, refl, sym, ◌∙◌, ap, subst, arith}
use Rattle.std.proofs.Common.{get_or-drop}
use Rattle.std.proofs.lemmas.List.{length-drop, drop-drop}
use Rattle.jser_prim.specs.Bytes.{big_bytes}
use Rattle.jser_table.specs.declared.layer.Layer.{Layer}
use Rattle.jser_table.specs.declared.section.Sections.{Sections}
use Rattle.jser_table.specs.Chains.{chain_in}
use Rattle.jser_table.specs.Entries.{other_entry}
use Rattle.jser_table.specs.Sections.{layer_of, under}
use Rattle.jser_reading.specs.Goals.{Part, section_parts, settle}
use Rattle.jser_reading.specs.Labels.{object_tag}
use Rattle.jser_reader.specs.declared.machine.flow.Flow.TheVariants as flow
use Rattle.jser_reader.specs.declared.frame.Frame.{Frame}
use Rattle.jser_reader.specs.declared.frame.Frame.TheVariants as frame
use Rattle.jser_reader.specs.declared.frame.Owner.TheVariants as owner
use Rattle.jser_reader.specs.declared.machine.many.counts.Counts.{Counts}
use Rattle.jser_reader.specs.declared.machine.many.counts.Turn.TheVariants as turn
use Rattle.jser_reader.specs.Fitting.{HasParts, IsPart}
use Rattle.jser_reader.specs.Many.{HasSections}
use Rattle.jser_reader.specs.Wholes.{AssignsOther, with_class}
use Rattle.jser_reader.specs.Frames.{frame_goals}
use Rattle.jser_reader.specs.Handlers.{Pushes, BeginsObject, moved, added, pushed, is_full}
use Rattle.jser_reader.specs.Many.{seen_at, tally_at, HoldsNext, with_place, with_used, with_depth, LeadsTo, Ends, RawsOn, OpensAs, Puts, Opened, Turns}
use Rattle.jser_reader.specs.Readers.{Seen, Ready}
use Rattle.jser_reader.specs.Steps.{Kept, before_parts, after_value, PartGives}
use Rattle.jser_reader.specs.Takes.{counted_on}
use Rattle.jser_reader.specs.Many.{without_top}
use Rattle.jser_reader.specs.Wholes.{HasPlace, HasReference}
use Rattle.jser_reader.proofs.ClassLemmas.{right_class}
use Rattle.jser_reader.proofs.WholeLemmas.{assigned_other}
use Rattle.jser_reader.proofs.ManyEnds.{leads_same, leads_raws, stands_there}
use Rattle.jser_reader.proofs.ManyLemmas.{place_on, rest_can, place_counted, place_holds, leads_there, same_can}
use Rattle.jser_reader.proofs.OwnerLemmas.{filled_object, object_begins, object_owned}
use Rattle.jser_reader.proofs.WholeLemmas.{TellsClass, owner_passes}

-- ---- what the code asks

pub reference_is : (piece : List ℕ) (at n : ℕ) → at + 6 ≤ length piece → 0x71 ≡ get_or piece (at + 1) 0 → big_bytes 4 n ≡ take 4 (drop (at + 2) piece) → HasReference (drop at piece) n
reference_is piece at n enough tag e =
    let l = length-drop at piece in
    record { within = omega arith; tag = tag ∙ sym (get_or-drop at piece 1 0); spelled = e ∙ ap (take 4) (sym (drop-drop 2 at piece)) }

tag_there : (piece : List ℕ) (at tag : ℕ) → tag ≡ get_or piece at 0 → tag ≡ get_or (drop at piece) 0 0
tag_there piece at tag e =
    let same : at + 0 ≡ at = omega arith in
    e ∙ ap (λ n. get_or piece n 0) (sym same) ∙ sym (get_or-drop at piece 0 0)

-- ---- the stack

pub puts_frame : (f : Frame) (result : Bool) (old new : Seen) → new ≡ pushed old f → result ≡ true → Puts result f old new
unfolding Puts
puts_frame f result old new h er = rw er h

pub puts_nothing : (f : Frame) (result : Bool) (old new : Seen) → new ≡ old → result ≡ false → Puts result f old new
unfolding Puts
puts_nothing f result old new h er = rw er h

pub has_put : (f : Frame) (result : Bool) (old new : Seen) → Puts result f old new → result ≡ true → new ≡ pushed old f
unfolding Puts
has_put f true old new h e = h
has_put f false old new h e = absurd (cc)

pub none_put : (f : Frame) (result : Bool) (old new : Seen) → Puts result f old new → result ≡ false → Opened false f old new
unfolding Puts Opened
none_put f true old new h e = absurd (cc)
none_put f false old new h e = h

pub opens : (f : Frame) (old mid new : Seen) → mid ≡ pushed old f → AssignsOther true mid new → Opened true f old new
unfolding AssignsOther Opened
opens f old mid new em assigns = (ap is_full (sym em) ∙ assigns.0, assigns.1 ∙ ap (λ r. added r other_entry) em)

pub put_parts : (f : Frame) (old mid same : Seen) → IsPart f → mid ≡ pushed old f → same ≡ mid → HasParts same.frames
put_parts f old mid same i em es = subst (λ r. HasParts r.frames) (sym (es ∙ em)) i

pub opens_nothing : (f : Frame) (old mid same new : Seen) → mid ≡ pushed old f → same ≡ mid → new ≡ without_top same → Opened false f old new
unfolding Opened
opens_nothing f old mid same new em es en = en ∙ ap without_top (es ∙ em)

pub not_opened : (f : Frame) (result : Bool) (old new : Seen) → Opened result f old new → result ≡ false → new ≡ old
unfolding Opened
not_opened f true old new h e = absurd (cc)
not_opened f false old new h e = h

pub was_opened : (f : Frame) (result : Bool) (old new : Seen) → Opened result f old new → result ≡ true → (is_full old ≡ false) × (new ≡ pushed (added old other_entry) f)
unfolding Opened
was_opened f true old new h e = h
was_opened f false old new h e = absurd (cc)

pub was_assigned : (result : Bool) (old new : Seen) → AssignsOther result old new → result ≡ true → (is_full old ≡ false) × (new ≡ added old other_entry)
unfolding AssignsOther
was_assigned true old new h e = h
was_assigned false old new h e = absurd (cc)

-- ---- the class

pushed_frame : (r : Seen) → Pushes frame.ExternalNotes flow.On r (pushed r frame.ExternalNotes)
unfolding Pushes
pushed_frame r = refl

abbrev data_parts : Seen → Sections → List Part
data_parts r sections = section_parts (layer_of r.table.chains sections.first ∷ under r.table.chains sections.last sections.first)

class_told : (r next : Seen) (n : ℕ) (meter_at : ℕ) (sections : Sections) → HasSections r n sections → is_full r ≡ false
    → Ready next (before_parts (added (record r { refs = suc r.refs }) other_entry) r.frames (data_parts r sections)) → Kept (added (record r { refs = suc r.refs }) other_entry) next
    → next.meter ≡ moved (with_class owner.Object r).meter → TellsClass n flow.On (with_class owner.Object r) next
unfolding PartGives before_parts
class_told r next n meter_at sections c full ready kept meter =
    let mid : Seen = with_class owner.Object r in
    let with_other : Seen = added mid other_entry in
    let begins : Seen = record with_other { meter = moved with_other.meter } in
    let opened : Seen = pushed begins frame.ExternalNotes in
    let chain : List Layer = chain_in r.table.chains c.chain in
    let part : PartGives true opened next (section_parts (layer_of opened.table.chains sections.first ∷ under opened.table.chains sections.last sections.first)) =
    (ready, record { table = kept.table; layers = kept.layers; refs = kept.refs }) in
    let object : BeginsObject chain flow.On begins next =
    filled_object chain sections flow.On flow.On begins opened next part (pushed_frame begins) refl refl c.plain c.are meter in
    right_class owner.Object n c.chain flow.On mid next refl
    (object_owned (length r.table.entries) c.chain flow.On mid with_other next
    (object_begins chain flow.On with_other begins next object refl refl refl refl refl) (assigned_other mid full) refl)
    c.is

abbrev with_other : Seen → Seen
with_other r = added r other_entry

object_leads : (piece : List ℕ) (n : ℕ) (old : Seen) (k : Counts) (sections : Sections) → HoldsNext piece old k → HasPlace (seen_at old k) → k.used + 6 ≤ length piece → 0x73 ≡ get_or piece k.used 0
    → HasReference (drop k.used piece) n → n < 2 ^ 32 → HasSections old n sections → is_full old ≡ false
    → LeadsTo piece old k (with_other old) (with_place k 6) (before_parts (seen_at (with_other old) (with_place k 6)) old.frames (data_parts old sections))
unfolding before_parts
object_leads piece n old k sections h p room tag class small c full =
    let more : k.used < length piece = omega arith in
    let r : Seen = seen_at old k in
    let mid : Seen = with_class owner.Object r in
    let at : old.meter.at + (k.used + 6) ≡ old.meter.at + k.used + 2 + 4 = omega arith in
    let same : moved (counted_on old.meter (k.used + 6)) ≡ moved mid.meter =
    ap (λ n. record { at = n; from = n; limits = old.meter.limits; stop = old.meter.stop; cut_phase = old.meter.cut_phase; kept = old.meter.kept }) at in
    record {
      size = 6;
      some = omega arith;
      used = refl;
      can = rest_can piece old k h.holds more;
      meter = refl;
      to = λ gate g before next comes kept.
          owner_passes gate owner.Object n flow.On (drop k.used piece) r mid next (tally_at old.meter.at before k) (tally_at old.meter.at before (with_place k 6)) g
          (rest_can piece old k h.holds more) (place_on old.frames) (tag_there piece k.used 0x73 tag) class small p refl
          (class_told r next n 0 sections
          (record { chain = c.chain; is = c.is; plain = c.plain; are = c.are }) full comes.ready
          (record { table = kept.table; layers = kept.layers; refs = kept.refs }) (comes.meter ∙ same))
          (λ _ _. place_counted piece before old k 6 object_tag h);
    }

-- ---- all of it, as far as its first value

none_left : (old new : Seen) (i j : Counts) → new ≡ with_other old → j.refs ≡ i.refs → before_parts (seen_at (with_other old) i) old.frames [] ≡ after_value (seen_at new j)
unfolding after_value before_parts
none_left old new i j en er =
    ap (λ n. settle (record { table = (with_other old).table.entries; places = n }) (frame_goals old.table.chains old.layers old.frames)) (sym er)
    ∙ ap (λ r. settle (record { table = r.table.entries; places = j.refs }) (frame_goals r.table.chains r.layers r.frames)) (sym en)

pub object_ended : (piece : List ℕ) (n used : ℕ) (old new : Seen) (k j : Counts) (sections : Sections) → HoldsNext piece old k → k.used + 6 ≤ length piece → 0x73 ≡ get_or piece k.used 0
    → HasReference (drop k.used piece) n → n < 2 ^ 32 → HasSections old n sections → HasPlace (seen_at old k) → RawsOn old.table.chains used (data_parts old sections) []
    → k.used + 6 + used ≤ length piece → (is_full old ≡ false) × (new ≡ with_other old) → j ≡ with_place k (used + 6) → Turns piece turn.Ended old k new j
unfolding Turns Ends
object_ended piece n used old new k j sections h room tag class small c p raws enough assigns ej =
    let i : Counts = with_used (with_place k 6) used in
    let en = assigns.1 in
    let there : j.used ≡ k.used + (used + 6) = ap (λ x. x.used) ej in
    let leads = leads_raws piece old (with_other old) k (with_place k 6) old.frames used (data_parts old sections) [] (object_leads piece n old k sections h p room tag class small c assigns.0) raws (omega arith) in (
      leads_same piece old (with_other old) new k i j (before_parts (seen_at (with_other old) i) old.frames []) (after_value (seen_at new j)) leads
          (ap (λ r. r.meter) en) (ap (λ r. r.layers) en) (ap (λ r. r.table) en) (omega arith) (ap (λ x. x.refs) ej) (ap (λ x. x.items) ej) (ap (λ x. x.deepest) ej)
          (none_left old new i j en (ap (λ x. x.refs) ej)),
      place_holds piece old new k j (used + 6) h.holds p (omega arith) (omega arith) (ap (λ r. r.meter) en) (ap (λ r. r.frames) en) ej,
      omega arith,
    )

pub object_opened : (piece : List ℕ) (n used : ℕ) (f : Frame) (old new : Seen) (k i j : Counts) (sections : Sections) → HoldsNext piece old k → k.used + 6 ≤ length piece → 0x73 ≡ get_or piece k.used 0
    → HasReference (drop k.used piece) n → n < 2 ^ 32 → HasSections old n sections → HasPlace (seen_at old k) → OpensAs old.table.chains (data_parts old sections) used f
    → k.used + 6 + used ≤ length piece → (is_full old ≡ false) × (new ≡ pushed (with_other old) f) → i ≡ with_place k (used + 6) → j ≡ with_depth i (i.depth + 1) → Turns piece turn.Next old k new j
unfolding Turns Ends
object_opened piece n used f old new k i j sections h room tag class small c p opens enough assigns ei ej =
    let l : Counts = with_used (with_place k 6) used in
    let en = assigns.1 in
    let e : j ≡ with_depth (with_place k (used + 6)) (k.depth + 1) = ej ∙ ap (λ x. with_depth x (x.depth + 1)) ei in
    let there : j.used ≡ k.used + (used + 6) = ap (λ x. x.used) e in
    let deeper : j.depth ≡ k.depth + 1 = ap (λ x. x.depth) e in
    let frames : length new.frames ≡ suc (length old.frames) = ap (λ r. length r.frames) en in
    let leads = leads_raws piece old (with_other old) k (with_place k 6) old.frames used (data_parts old sections) opens.parts (object_leads piece n old k sections h p room tag class small c assigns.0) opens.raws (omega arith) in
    let s = before_parts (seen_at (with_other old) l) old.frames opens.parts in
    let held = place_holds piece old (with_other old) k (with_place k (used + 6)) (used + 6) h.holds p (omega arith) (omega arith) refl refl refl in
    let items : j.items ≡ (with_place k (used + 6)).items = ap (λ x. x.items) e in
    let counted : j.items.count ≡ (with_place k (used + 6)).items.count = ap (λ b. b.count) items in
    let same_last : j.items.last ≡ k.items.last = ap (λ b. b.last) items in
    let deepest : j.deepest ≡ (with_place k (used + 6)).deepest = ap (λ x. x.deepest) e in
    let a = held.items in
    let b = held.deep in
    let z = held.last in
    let d = h.holds.depth in
    let limit : new.meter.limits.depth ≡ old.meter.limits.depth = ap (λ r. r.meter.limits.depth) en in (
      leads_there piece old new k j s
          (leads_same piece old (with_other old) new k l j s s leads (ap (λ r. r.meter) en) (ap (λ r. r.layers) en) (ap (λ r. r.table) en) (omega arith) (ap (λ x. x.refs) e) items deepest refl)
          (stands_there (with_other old) new (with_place k 6) j f opens.parts used old.frames opens.stands (ap (λ r. r.frames) en) (ap (λ r. r.layers) en) (ap (λ r. r.table) en) (ap (λ x. x.refs) e)),
      record {
        holds = record { can = same_can piece old new (ap (λ r. r.meter) en) h.holds.can; within = omega arith; depth = omega arith; deep = omega arith; items = omega arith; last = omega arith };
        top = λ none. absurd (omega arith);
      },
      omega arith,
    )
