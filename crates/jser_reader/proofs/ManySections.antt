-- The loop over whole values: raw values of sections.
use Rattle.std.proofs.Common.{◌≡◌, ℕ, zero, suc, ◌+◌, ◌-◌, ◌<◌, ◌≤◌, true, false, List, [], ◌∷◌, length, drop, Some, None, refl, sym, ◌∙◌, ap, subst, arith}
use Rattle.std.proofs.lemmas.List.{length-drop}
use Rattle.jser_table.specs.declared.layer.Layer.{Layer}
use Rattle.jser_table.specs.declared.section.Section.{Section}
use Rattle.jser_table.specs.Chains.{has_write_method}
use Rattle.jser_table.specs.Codes.{PrimCode, size_of, primitive_codes, object_count, raw_size}
use Rattle.jser_table.specs.Sections.{layer_of, under, IsOn, IsNext, HoldsFor}
use Rattle.jser_reading.specs.Goals.{Part, annotation_part, prim_parts, value_parts, annotation_if, section_parts}
use Rattle.jser_reader.specs.declared.frame.Frame.{Frame}
use Rattle.jser_reader.specs.declared.frame.Frame.TheVariants as frame
use Rattle.jser_reader.specs.declared.machine.many.sections.Began.{Began}
use Rattle.jser_reader.specs.declared.machine.many.sections.Began.TheVariants as began
use Rattle.jser_reader.specs.declared.phase.Phase.TheVariants as phase
use Rattle.jser_reader.specs.Frames.{frame_goals}
use Rattle.jser_reader.specs.Handlers.{Comes, moved}
use Rattle.jser_reader.specs.Many.{RawsOn, StandsOn, OpensAs, Begins, parts_behind}
use Rattle.jser_reader.specs.Passes.{Passes}
use Rattle.jser_reader.specs.Readers.{Seen, Ready}
use Rattle.jser_reader.specs.Steps.{before_parts, after_value, PartGives}
use Rattle.jser_reader.specs.Takes.{counted_on, farther}
use Rattle.jser_reader.proofs.PartLemmas.{made, goes_value}
use Rattle.jser_reader.proofs.PassLemmas.{then_passes}
use Rattle.jser_reader.proofs.RestLemmas.{can_after}
use Rattle.jser_reader.proofs.WholeLemmas.{raw_passes}

-- ---- one raw value

pub none_dropped : (codes : List PrimCode) (n : ℕ) → length codes ≤ n → drop n codes ≡ []
none_dropped [] zero e = refl
none_dropped [] (suc n) e = refl
none_dropped (c ∷ codes) zero e = absurd (omega arith)
none_dropped (c ∷ codes) (suc n) e = none_dropped codes n (omega arith)

abbrev codes_of : List (List Layer) → (section : ℕ) → List PrimCode
codes_of C section = primitive_codes (layer_of C section).codes

abbrev fields_behind : List (List Layer) → (last section values : ℕ) → List Part
fields_behind C last section values = value_parts values (parts_behind C last section)

-- before it
abbrev at_raw : Seen → List Frame → (last section pos values size : ℕ) → Seen
at_raw r fs last section pos values size = record { meter = moved r.meter; phase = phase.Prims; frames = frame.Fields last section pos 0 values ∷ fs; layers = r.layers; table = r.table; refs = r.refs; owner = r.owner; elements = r.elements; header = r.header; text = r.text; left = size; scan = r.scan; name = r.name }

drop_tail : (codes cs : List PrimCode) (c : PrimCode) (pos : ℕ) → drop pos codes ≡ c ∷ cs → drop (suc pos) codes ≡ cs
drop_tail [] cs c zero e = absurd (cc)
drop_tail [] cs c (suc pos) e = absurd (cc)
drop_tail (d ∷ codes) cs c zero e = cc
drop_tail (d ∷ codes) cs c (suc pos) e = drop_tail codes cs c pos e

size_some : (c : PrimCode) → 0 < size_of c
size_some c = grind (arith)

raw_ready : (r : Seen) (fs : List Frame) (last section pos values : ℕ) (c : PrimCode) (cs : List PrimCode) → drop (suc pos) (codes_of r.table.chains section) ≡ cs
    → Ready (at_raw r fs last section (suc pos) values (size_of c)) (before_parts r fs (prim_parts (c ∷ cs) (fields_behind r.table.chains last section values)))
unfolding Ready before_parts
raw_ready r fs last section pos values c cs e = record {
  depth = suc (length fs);
  type_code = c;
  more = 0;
  parts = prim_parts cs (fields_behind r.table.chains last section values);
  goals = frame_goals r.table.chains r.layers fs;
  is = refl;
  size = omega arith;
  depth_is = record { most = omega arith; least = omega arith };
  after = ap (λ xs. before_parts r fs (prim_parts xs (fields_behind r.table.chains last section values))) (sym e);
}

after_raw : (r next : Seen) (fs : List Frame) (last section pos values : ℕ) (c : PrimCode) (cs : List PrimCode) → drop (suc pos) (codes_of r.table.chains section) ≡ cs
    → Comes (farther r (size_of c)) next (before_parts r fs (prim_parts cs (fields_behind r.table.chains last section values)))
    → (let m : Seen = farther (at_raw r fs last section (suc pos) values (size_of c)) (size_of c) in Comes m next (after_value m))
unfolding before_parts after_value
after_raw r next fs last section pos values c cs e comes = record {
  ready = subst (λ xs. Ready next (before_parts r fs (prim_parts xs (fields_behind r.table.chains last section values)))) (sym e) comes.ready;
  meter = comes.meter;
  max = comes.max;
}

one_raw : (C : List (List Layer)) (last section pos values : ℕ) (c : PrimCode) (cs : List PrimCode) → drop (suc pos) (codes_of C section) ≡ cs
    → RawsOn C (size_of c) (prim_parts (c ∷ cs) (fields_behind C last section values)) (prim_parts cs (fields_behind C last section values))
one_raw C last section pos values c cs e = record {
  on = λ gate piece used old r before tally fs can some enough ec at limits h next comes kept.
      let m : Seen = at_raw r fs last section (suc pos) values (size_of c) in
      let er : drop (suc pos) (codes_of r.table.chains section) ≡ cs = ap (λ X. drop (suc pos) (codes_of X section)) ec ∙ e in
      let size = size_some c in
      let n = length-drop used piece in
      let parts : fields_behind C last section values ≡ fields_behind r.table.chains last section values = ap (λ X. fields_behind X last section values) (sym ec) in
      then_passes gate piece (drop used piece) used (size_of c) old m next before tally tally
      (h m
      (record { ready = subst (λ ps. Ready m (before_parts r fs (prim_parts (c ∷ cs) ps))) (sym parts) (raw_ready r fs last section pos values c cs er); meter = refl; max = refl })
      (record { table = refl; layers = refl; refs = refl }))
      (raw_passes gate (size_of c) (drop used piece) m (farther m (size_of c)) next tally
      (can_after piece used old m can (omega arith) (omega arith) at (ap (λ l. l.bytes) limits)) refl refl size (omega arith) refl
      (after_raw r next fs last section pos values c cs er
      (subst (λ ps. Comes (farther r (size_of c)) next (before_parts r fs (prim_parts cs ps))) parts comes)))
      refl;
}

-- ---- one after another

pub no_raws : (C : List (List Layer)) (parts : List Part) → RawsOn C 0 parts parts
no_raws C parts = record {
  on = λ gate piece used old r before tally fs can some enough ec at limits h next comes kept.
      let same : r.meter.at + 0 ≡ r.meter.at = omega arith in
      let all : used ≡ used + 0 = omega arith in
      let meter : moved (counted_on r.meter 0) ≡ moved r.meter =
      ap (λ n. record { at = n; from = n; limits = r.meter.limits; stop = r.meter.stop; cut_phase = r.meter.cut_phase; kept = r.meter.kept }) same in
      subst (λ n. Passes gate piece (Some n) old before next tally) all
      (h next (record { ready = comes.ready; meter = comes.meter ∙ meter; max = comes.max }) (record { table = kept.table; layers = kept.layers; refs = kept.refs }));
}

pub raws_then : (C : List (List Layer)) (a b all : ℕ) (from mid to : List Part) → a + b ≡ all → RawsOn C a from mid → RawsOn C b mid to → RawsOn C all from to
unfolding before_parts
raws_then C a b all from mid to e g h = record {
  on = λ gate piece used old r before tally fs can some enough ec at limits first next comes kept.
      let here : used + a + b ≡ used + all = omega arith in
      let there : r.meter.at + all ≡ r.meter.at + a + b = omega arith in
      let meter : moved (counted_on r.meter all) ≡ moved (counted_on (counted_on r.meter a) b) =
      ap (λ n. record { at = n; from = n; limits = r.meter.limits; stop = r.meter.stop; cut_phase = r.meter.cut_phase; kept = r.meter.kept }) there in
      subst (λ n. Passes gate piece (Some n) old before next tally) here
      (h.on gate piece (used + a) old (farther r a) before tally fs can (omega arith) (omega arith) ec (omega arith) limits
      (g.on gate piece used old r before tally fs can some (omega arith) ec at limits first) next
      (record { ready = comes.ready; meter = comes.meter ∙ meter; max = comes.max }) (record { table = kept.table; layers = kept.layers; refs = kept.refs }));
}

all_raws : (cs : List PrimCode) (C : List (List Layer)) (last section pos values : ℕ) → drop pos (codes_of C section) ≡ cs
    → RawsOn C (raw_size cs) (prim_parts cs (fields_behind C last section values)) (fields_behind C last section values)
all_raws [] C last section pos values e = no_raws C (fields_behind C last section values)
all_raws (c ∷ cs) C last section pos values e =
    let rest = drop_tail (codes_of C section) cs c pos e in
    raws_then C (size_of c) (raw_size cs) (raw_size (c ∷ cs)) (prim_parts (c ∷ cs) (fields_behind C last section values)) (prim_parts cs (fields_behind C last section values))
    (fields_behind C last section values) refl (one_raw C last section pos values c cs rest) (all_raws cs C last section (suc pos) values rest)

-- all of a section
pub section_raws : (C : List (List Layer)) (last section : ℕ) (held : Section) → HoldsFor (layer_of C section) held
    → RawsOn C held.raw_bytes (section_parts (layer_of C section ∷ under C last section)) (fields_behind C last section held.values)
section_raws C last section held is =
    subst (λ n. RawsOn C held.raw_bytes (section_parts (layer_of C section ∷ under C last section)) (fields_behind C last section n)) (sym is.values)
    (subst (λ n. RawsOn C n (section_parts (layer_of C section ∷ under C last section)) (fields_behind C last section (object_count (layer_of C section).codes))) (sym is.raw_bytes)
    (all_raws (codes_of C section) C last section 0 (object_count (layer_of C section).codes) refl))

-- ---- what comes after them

-- values

same_parts : (r new : Seen) (fs : List Frame) (ps : List Part) → Ready new (before_parts (record r { frames = frame.ExternalNotes ∷ fs }) fs ps) → Ready new (before_parts r fs ps)
unfolding before_parts
same_parts r new fs ps h = h

values_stand : (C : List (List Layer)) (last section prims values : ℕ) → IsOn C last section → prims ≡ length (codes_of C section) → 0 < values
    → StandsOn C (frame.Fields last section prims prims (values - 1)) (fields_behind C last section values)
unfolding PartGives
values_stand C last section prims values on is some = record {
  ready = λ r new fs ec ep ef ey et er.
      let old : Seen = record r { frames = frame.ExternalNotes ∷ fs } in
      let D : List (List Layer) = r.table.chains in
      let on_here : IsOn D last section = subst (λ X. IsOn X last section) (sym ec) on in
      let is_here : prims ≡ length (codes_of D section) = is ∙ ap (λ X. length (codes_of X section)) (sym ec) in
      let none : drop prims (codes_of D section) ≡ [] = none_dropped (codes_of D section) prims (omega arith) in
      let h = goes_value old new last section prims prims values (on_here, is_here, omega arith) (λ over. omega arith) some ep ef ey et er in
      subst (λ ps. Ready new (before_parts r fs ps))
      (ap (λ cs. prim_parts cs (fields_behind D last section values)) none ∙ ap (λ X. fields_behind X last section values) ec) (same_parts r new fs (prim_parts (drop prims (codes_of D section)) (fields_behind D last section values)) h.0);
}

pub opens_values : (C : List (List Layer)) (from : List Part) (last section prims values used : ℕ) → IsOn C last section → prims ≡ length (codes_of C section) → 0 < values
    → RawsOn C used from (fields_behind C last section values) → OpensAs C from used (frame.Fields last section prims prims (values - 1))
opens_values C from last section prims values used on is some h = record {
  parts = fields_behind C last section values;
  raws = h;
  stands = values_stand C last section prims values on is some;
  fits = λ T. (on, is, omega arith);
  part = tt;
}

-- an annotation
notes_stand : (C : List (List Layer)) (last section : ℕ) → StandsOn C (frame.Notes last section) (annotation_part ∷ section_parts (under C last section))
unfolding Ready before_parts
notes_stand C last section = record {
  ready = λ r new fs ec ep ef ey et er.
      let e = made new phase.Note (frame.Notes last section ∷ fs) r.layers r.table r.refs new.left ep ef ey et er refl in
      subst (λ X. Ready new (before_parts r fs (annotation_part ∷ section_parts (under X last section)))) ec (rw e (tt, refl));
}

pub opens_notes : (C : List (List Layer)) (from : List Part) (last section used : ℕ) → IsOn C last section → has_write_method (layer_of C section).flags ≡ true
    → RawsOn C used from (parts_behind C last section) → OpensAs C from used (frame.Notes last section)
opens_notes C from last section used on written h = record {
  parts = annotation_part ∷ section_parts (under C last section);
  raws = subst (λ b. RawsOn C used from (annotation_if b (section_parts (under C last section)))) written h;
  stands = notes_stand C last section;
  fits = λ T. on;
  part = tt;
}

-- ---- the loop over sections

-- so many bytes of raw values, and then this section comes
abbrev pub SectionAhead : List (List Layer) → List Part → (last section used : ℕ) → Type 0
SectionAhead C from last section used = RawsOn C used from (section_parts (layer_of C section ∷ under C last section))

after_its_raws : (C : List (List Layer)) (from : List Part) (last section used all : ℕ) (held : Section) → HoldsFor (layer_of C section) held → used + held.raw_bytes ≡ all
    → SectionAhead C from last section used → RawsOn C all from (fields_behind C last section held.values)
after_its_raws C from last section used all held is e h =
    raws_then C used held.raw_bytes all from (section_parts (layer_of C section ∷ under C last section)) (fields_behind C last section held.values) e h (section_raws C last section held is)

no_values : (C : List (List Layer)) (from : List Part) (last section used values : ℕ) → RawsOn C used from (fields_behind C last section values) → values ≡ 0
    → RawsOn C used from (parts_behind C last section)
no_values C from last section used values h e = subst (λ n. RawsOn C used from (fields_behind C last section n)) e h

no_annotation : (C : List (List Layer)) (from : List Part) (last section used : ℕ) → RawsOn C used from (parts_behind C last section) → has_write_method (layer_of C section).flags ≡ false
    → RawsOn C used from (section_parts (under C last section))
no_annotation C from last section used h e = subst (λ b. RawsOn C used from (annotation_if b (section_parts (under C last section)))) e h

pub began_values : (C : List (List Layer)) (from : List Part) (last section used room : ℕ) (held : Section) → IsOn C last section → SectionAhead C from last section used
    → HoldsFor (layer_of C section) held → used + held.raw_bytes ≤ room → 0 < held.values
    → Begins C from room (began.Open (used + held.raw_bytes) (frame.Fields last section held.prims held.prims (held.values - 1)))
unfolding Begins
began_values C from last section used room held on h is enough some =
    (enough, opens_values C from last section held.prims held.values (used + held.raw_bytes) on is.prims some (after_its_raws C from last section used (used + held.raw_bytes) held is refl h))

pub began_notes : (C : List (List Layer)) (from : List Part) (last section used room : ℕ) (held : Section) → IsOn C last section → SectionAhead C from last section used
    → HoldsFor (layer_of C section) held → used + held.raw_bytes ≤ room → (0 < held.values → ⊥) → held.is_annotated ≡ true
    → Begins C from room (began.Open (used + held.raw_bytes) (frame.Notes last section))
unfolding Begins
began_notes C from last section used room held on h is enough none told = (
  enough,
  opens_notes C from last section (used + held.raw_bytes) on (sym is.annotated ∙ told)
      (no_values C from last section (used + held.raw_bytes) held.values (after_its_raws C from last section used (used + held.raw_bytes) held is refl h) (omega arith)),
)

ahead_on : (C : List (List Layer)) (from : List Part) (last section used : ℕ) (held : Section) → SectionAhead C from last section used
    → HoldsFor (layer_of C section) held → (0 < held.values → ⊥) → held.is_annotated ≡ false → RawsOn C (used + held.raw_bytes) from (section_parts (under C last section))
ahead_on C from last section used held h is none told =
    no_annotation C from last section (used + held.raw_bytes)
    (no_values C from last section (used + held.raw_bytes) held.values (after_its_raws C from last section used (used + held.raw_bytes) held is refl h) (omega arith))
    (sym is.annotated ∙ told)

pub began_ended : (C : List (List Layer)) (from : List Part) (last section used room : ℕ) (held : Section) → SectionAhead C from last section used
    → HoldsFor (layer_of C section) held → used + held.raw_bytes ≤ room → (0 < held.values → ⊥) → held.is_annotated ≡ false → IsNext C last section None
    → Begins C from room (began.Ended (used + held.raw_bytes))
unfolding Begins
began_ended C from last section used room held h is enough none told end =
    (enough, subst (λ ls. RawsOn C (used + held.raw_bytes) from (section_parts ls)) end (ahead_on C from last section used held h is none told))

pub next_ahead : (C : List (List Layer)) (from : List Part) (last section next used : ℕ) (held : Section) → SectionAhead C from last section used
    → HoldsFor (layer_of C section) held → (0 < held.values → ⊥) → held.is_annotated ≡ false → IsNext C last section (Some next)
    → SectionAhead C from last next (used + held.raw_bytes)
next_ahead C from last section next used held h is none told on =
    subst (λ ls. RawsOn C (used + held.raw_bytes) from (section_parts ls)) on.1 (ahead_on C from last section used held h is none told)

pub began_short : (C : List (List Layer)) (from : List Part) (room : ℕ) → Begins C from room began.Short
unfolding Begins
began_short C from room = tt

-- ---- the sections after one

pub none_after : (C : List (List Layer)) (last section room : ℕ) → IsNext C last section None → Begins C (section_parts (under C last section)) room (began.Ended 0)
unfolding Begins
none_after C last section room e =
    (omega arith, subst (λ ls. RawsOn C 0 (section_parts (under C last section)) (section_parts ls)) e (no_raws C (section_parts (under C last section))))

pub some_after : (C : List (List Layer)) (last section next room : ℕ) (b : Began) → IsNext C last section (Some next) → Begins C (section_parts (layer_of C next ∷ under C last next)) room b
    → Begins C (section_parts (under C last section)) room b
some_after C last section next room b e h = subst (λ ls. Begins C (section_parts ls) room b) (sym e.1) h

pub notes_after : (C : List (List Layer)) (last section room : ℕ) (held : Section) → IsOn C last section → HoldsFor (layer_of C section) held → held.is_annotated ≡ true
    → Begins C (parts_behind C last section) room (began.Open 0 (frame.Notes last section))
unfolding Begins
notes_after C last section room held on is told =
    (omega arith, opens_notes C (parts_behind C last section) last section 0 on (sym is.annotated ∙ told) (no_raws C (parts_behind C last section)))

pub sections_behind : (C : List (List Layer)) (last section room : ℕ) (held : Section) (b : Began) → HoldsFor (layer_of C section) held → held.is_annotated ≡ false
    → Begins C (section_parts (under C last section)) room b → Begins C (parts_behind C last section) room b
sections_behind C last section room held b is told h =
    subst (λ a. Begins C (annotation_if a (section_parts (under C last section))) room b) (sym (sym is.annotated ∙ told)) h

-- ---- what is known of an answer

pub opens_of : (C : List (List Layer)) (from : List Part) (room used : ℕ) (f : Frame) → Begins C from room (began.Open used f) → (used ≤ room) × OpensAs C from used f
unfolding Begins
opens_of C from room used f h = h

pub ended_of : (C : List (List Layer)) (from : List Part) (room used : ℕ) → Begins C from room (began.Ended used) → (used ≤ room) × RawsOn C used from []
unfolding Begins
ended_of C from room used h = h
