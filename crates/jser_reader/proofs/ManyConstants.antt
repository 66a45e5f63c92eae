-- The loop over whole values: enum constants.
use Rattle.std.proofs.Common.{◌≡◌, ℕ, zero, suc, ◌+◌, ◌-◌, ◌^◌, ◌<◌, ◌≤◌, true, false, List, [], ◌∷◌, ◌++◌, length, get_or, take, drop, slice_get, refl, sym, ◌∙◌, ap, subst, arith}
use Rattle.std.proofs.Common.{get_or-drop}
use Rattle.std.proofs.lemmas.List.{length-drop, drop-drop}
use Rattle.jser_prim.specs.Bytes.{big_bytes}
use Rattle.jser_table.specs.Chains.{chain_in}
use Rattle.jser_table.specs.Entries.{TableEntry, is_text, other_entry}
use Rattle.jser_reading.specs.Labels.{enum_tag}
use Rattle.jser_reader.specs.declared.machine.flow.Flow.TheVariants as flow
use Rattle.jser_reader.specs.declared.frame.Owner.TheVariants as owner
use Rattle.jser_reader.specs.declared.machine.many.counts.Counts.{Counts}
use Rattle.jser_reader.specs.declared.machine.many.counts.Turn.TheVariants as turn
use Rattle.jser_reader.specs.declared.machine.take.taken.Taken.TheVariants as taken
use Rattle.jser_reader.specs.declared.phase.Phase.TheVariants as phase
use Rattle.jser_reader.specs.declared.phase.TextFor.TheVariants as text
use Rattle.jser_reader.specs.declared.tally.Tally.{Tally}
use Rattle.jser_reader.specs.Rules.{IsClassOf, IsTextHandle}
use Rattle.jser_reader.specs.Handlers.{Comes, moved, with_entry, added, is_full}
use Rattle.jser_reader.specs.Many.{seen_at, tally_at, HoldsNext, with_place, LeadsTo, Ends, ConstantBegins, Turns}
use Rattle.jser_reader.specs.Readers.{Seen}
use Rattle.jser_reader.specs.Steps.{after_value}
use Rattle.jser_reader.specs.Takes.{counted_on, farther}
use Rattle.jser_reader.specs.Wholes.{HasPlace, HasReference, with_class}
use Rattle.jser_reader.proofs.ClassLemmas.{right_class}
use Rattle.jser_reader.proofs.CutLemmas.{four_taken}
use Rattle.jser_reader.proofs.WholeLemmas.{assigned_other}
use Rattle.jser_reader.proofs.ManyLemmas.{place_on, rest_can, place_counted, place_holds}
use Rattle.jser_reader.proofs.ManyPlain.{tag_there}
use Rattle.jser_reader.proofs.OwnerLemmas.{constant_owned}
use Rattle.jser_reader.proofs.PassLemmas.{quiet_end, then_passes}
use Rattle.jser_reader.proofs.RestLemmas.{can_after}
use Rattle.jser_reader.proofs.TakeLemmas.{takes_text_tag, one_taken}
use Rattle.jser_reader.proofs.TextLemmas.{text_reference, constant_named, right_text as text_named}
use Rattle.jser_reader.proofs.RuleLemmas.{right_text as text_right}
use Rattle.jser_reader.proofs.TextTakeLemmas.{takes_text_handle}
use Rattle.jser_reader.proofs.WholeLemmas.{TellsClass, owner_passes, same_end}

-- ---- what the code asks

pub constant_begins : (piece : List ℕ) (n name chain : ℕ) (r : Seen) (k : Counts) → HoldsNext piece r k → HasPlace (seen_at r k) → (length piece - k.used < 11 → ⊥) → k.used ≤ length piece
    → 0x7E ≡ get_or piece k.used 0 → HasReference (drop k.used piece) n → n < 2 ^ 32 → IsClassOf r.table owner.EnumConst n chain → HasReference (drop (k.used + 5) piece) name → name < 2 ^ 32 → IsTextHandle r.table name
    → ConstantBegins piece n name chain r k
constant_begins piece n name chain r k h p room le tag class small is name_is name_small text =
    record { holds = h; place = p; room = omega arith; tag = tag; class = class; small = small; is = is; name_is = name_is; name_small = name_small; text = text }

-- ---- the tokens

-- after the class
abbrev at_name : Seen → Seen
at_name r = record { meter = moved (with_class owner.EnumConst r).meter; phase = phase.TextTag; frames = r.frames; layers = r.layers; table = with_entry r.table other_entry; refs = suc r.refs; owner = owner.EnumConst; elements = r.elements; header = r.header; text = text.Value; left = r.left; scan = r.scan; name = r.name }

class_told : (r : Seen) (n chain : ℕ) → IsClassOf r.table owner.EnumConst n chain → is_full r ≡ false → TellsClass n flow.On (with_class owner.EnumConst r) (at_name r)
class_told r n chain c full =
    let mid : Seen = with_class owner.EnumConst r in
    right_class owner.EnumConst n chain flow.On mid (at_name r) refl
    (constant_owned (length r.table.entries) (chain_in r.table.chains chain) flow.On mid (added mid other_entry) (at_name r)
    (record { phase_is = refl; frames = refl; layers = refl; table = refl; refs = refl; owner_is = refl; chain_is = refl; header_is = refl; text_is = refl; left = refl; meter = refl })
    refl (assigned_other mid full) refl)
    c

-- after the tag of the name
abbrev at_handle : Seen → Seen
at_handle m = record { meter = moved (counted_on m.meter 1); phase = phase.TextHandle; frames = m.frames; layers = m.layers; table = m.table; refs = m.refs; owner = m.owner; elements = m.elements; header = m.header; text = m.text; left = m.left; scan = m.scan; name = m.name }

-- an entry that was there stays
still_text : (xs ys : List TableEntry) (n : ℕ) → true ≡ is_text (slice_get xs n) → true ≡ is_text (slice_get (xs ++ ys) n)
still_text [] ys n h = absurd (cc)
still_text (x ∷ xs) ys zero h = h
still_text (x ∷ xs) ys (suc n) h = still_text xs ys n h

not_type : (m : Seen) → m.text ≡ text.Value → m.text ≡ text.FieldType → ⊥
not_type m e f = let same = sym e ∙ f in absurd (cc)

-- ---- the references

name_tag : (piece : List ℕ) (used name : ℕ) → HasReference (drop (used + 5) piece) name → 0x71 ≡ get_or (drop 6 (drop used piece)) 0 0
name_tag piece used name h =
    let here : used + 5 + 1 ≡ used + (6 + 0) = omega arith in
    h.tag ∙ get_or-drop (used + 5) piece 1 0 ∙ ap (λ n. get_or piece n 0) here ∙ sym (get_or-drop used piece (6 + 0) 0) ∙ sym (get_or-drop 6 (drop used piece) 0 0)

name_spelled : (piece : List ℕ) (used name : ℕ) → HasReference (drop (used + 5) piece) name → big_bytes 4 name ≡ take 4 (drop 1 (drop 6 (drop used piece)))
name_spelled piece used name h =
    let here : used + 5 + 2 ≡ used + 6 + 1 = omega arith in
    h.spelled ∙ ap (take 4) (drop-drop 2 (used + 5) piece ∙ ap (λ n. drop n piece) here ∙ sym (drop-drop 1 (used + 6) piece) ∙ ap (drop 1) (sym (drop-drop 6 used piece)))

-- ---- all of it

constant_leads : (piece : List ℕ) (n name chain : ℕ) (old : Seen) (k : Counts) → ConstantBegins piece n name chain old k → is_full old ≡ false
    → LeadsTo piece old k (added old other_entry) (with_place k 11) (after_value (seen_at (added old other_entry) (with_place k 11)))
constant_leads piece n name chain old k b full =
    let room = b.room in
    let more : k.used < length piece = omega arith in
    let r : Seen = seen_at old k in
    let mid : Seen = with_class owner.EnumConst r in
    let m : Seen = at_name r in
    let q : Seen = at_handle m in
    let rest : List ℕ = drop k.used piece in
    let last : List ℕ = drop 6 rest in
    let l = length-drop k.used piece in
    let l6 = length-drop 6 rest in
    let l1 = length-drop 1 last in
    let can = rest_can piece old k b.holds.holds more in
    let at_m : m.meter.at ≡ r.meter.at + 6 = omega arith in
    let can_m = can_after rest 6 r m can (omega arith) (omega arith) at_m refl in
    let can_q = can_after last 1 m q can_m (omega arith) (omega arith) refl refl in
    record {
      size = 11;
      some = omega arith;
      used = refl;
      can = can;
      meter = refl;
      to = λ gate g before next comes kept.
          let told : Tally = tally_at old.meter.at before (with_place k 11) in
          let far : Seen = farther q 4 in
          let at : old.meter.at + (k.used + 11) ≡ far.meter.at = omega arith in
          let end : Comes far next (after_value far) =
          same_end (seen_at (added old other_entry) (with_place k 11)) far next comes
          (ap (λ x. record { at = x; from = x; limits = old.meter.limits; stop = old.meter.stop; cut_phase = old.meter.cut_phase; kept = old.meter.kept }) (sym at)) refl refl refl refl in
          then_passes gate rest last 6 5 r m next (tally_at old.meter.at before k) told told
          (owner_passes gate owner.EnumConst n flow.On rest r mid m (tally_at old.meter.at before k) told g can (place_on old.frames) (tag_there piece k.used 0x7E b.tag) b.class b.small b.place
          refl (class_told r n chain b.is full) (λ _ _. place_counted piece before old k 11 enum_tag b.holds))
          (then_passes gate last (drop 1 last) 1 4 m q next told told told
          (quiet_end gate 1 (taken.Ended 1) last m q told
          (one_taken 0x71 flow.On (taken.Ended 1) last m q
          (takes_text_tag 0x71 flow.On m (farther m 1) q
          (text_reference 0x71 flow.On (farther m 1) q
          (record { phase_is = refl; frames = refl; layers = refl; table = refl; refs = refl; owner_is = refl; chain_is = refl; header_is = refl; text_is = refl; left = refl; meter = refl }) refl refl)
          refl refl)
          refl (name_tag piece k.used name b.name_is) (omega arith) tt gate)
          refl tt can_m)
          (quiet_end gate 4 (taken.Ended 4) (drop 1 last) q next told
          (four_taken name flow.On (taken.Ended 4) (drop 1 last) (take 4 (drop 1 last)) q next
          (takes_text_handle name 4 flow.On q far next
          (text_named name _ flow.On far next (constant_named flow.On far next end refl (not_type far refl))
          (text_right far.table name (still_text old.table.entries (other_entry ∷ []) (name - 0x7E0000) b.text.is) b.text.low))
          refl refl (omega arith) b.name_small)
          refl tt (name_spelled piece k.used name b.name_is) refl (omega arith) gate)
          refl tt can_q) refl) refl;
    }

pub constant_turn : (piece : List ℕ) (n name chain : ℕ) (old new : Seen) (k j : Counts) → ConstantBegins piece n name chain old k → (is_full old ≡ false) × (new ≡ added old other_entry)
    → j ≡ with_place k 11 → Turns piece turn.Ended old k new j
unfolding Turns Ends
constant_turn piece n name chain old new k j b assigns ej =
    let en = assigns.1 in
    let room = b.room in
    let used : j.used ≡ k.used + 11 = ap (λ x. x.used) ej in
    let i : Counts = with_place k 11 in (
      subst (λ x. LeadsTo piece old k new x (after_value (seen_at new x))) (sym ej)
          (subst (λ x. LeadsTo piece old k x i (after_value (seen_at x i))) (sym en) (constant_leads piece n name chain old k b assigns.0)),
      place_holds piece old new k j 11 b.holds.holds b.place (omega arith) (omega arith) (ap (λ r. r.meter) en) (ap (λ r. r.frames) en) ej,
      omega arith,
    )
