-- A field of a descriptor that is taken in one step: the machines between its type code, its name and its type are named
-- here alone, and no code makes them.
use Rattle.std.proofs.Common.{◌≡◌, ℕ, ◌+◌, ◌<◌, ◌≤◌, Bool, true, false, List, length, get_or, take, drop, Some, refl, sym, ◌∙◌, ap, subst, arith}
use Rattle.std.proofs.lemmas.Bool.{false≢true}
use Rattle.std.proofs.lemmas.List.{length-drop, length-take-le}
use Rattle.jser_table.specs.Entries.{text_entry}
use Rattle.jser_reading.specs.Goals.{settle}
use Rattle.jser_verdict.specs.Gates.{Gate}
use Rattle.jser_reader.specs.declared.machine.flow.Flow.{Flow}
use Rattle.jser_reader.specs.declared.machine.flow.Flow.TheVariants as flow
use Rattle.jser_reader.specs.declared.machine.take.taken.Taken.TheVariants as taken
use Rattle.jser_reader.specs.declared.phase.Phase.TheVariants as phase
use Rattle.jser_reader.specs.declared.phase.TextFor.{TextFor}
use Rattle.jser_reader.specs.declared.phase.TextFor.TheVariants as text
use Rattle.jser_reader.specs.declared.tally.Tally.{Tally}
use Rattle.jser_reader.specs.Fitting.{HasDescriptor}
use Rattle.jser_reader.specs.Readers.{Seen, Header, Ready, moment_of, fields_goals, text_rest, is_checked}
use Rattle.jser_reader.specs.Handlers.{Comes, TellsSurely, IsNext, moved, with_entry, added, is_full}
use Rattle.jser_reader.specs.Descriptors.{GoesOnFields}
use Rattle.jser_reader.specs.Takes.{counted_on, farther, TakesByte, TakesFromFor}
use Rattle.jser_reader.specs.Walks.{Takes}
use Rattle.jser_reader.specs.Passes.{Passes, CanPass}
use Rattle.jser_reader.specs.Wholes.{HasText, AssignsText}
use Rattle.jser_reader.specs.Members.{HasType, with_header, BeginsMember}
use Rattle.jser_reader.proofs.FieldLemmas.{begins_field, right_code}
use Rattle.jser_reader.proofs.TakeLemmas.{counts_bytes, takes_type_code, takes_text_tag, one_taken}
use Rattle.jser_reader.proofs.TextLemmas.{text_reference, short_text, right_text, type_named, type_ends, field_named, object_field_named}
use Rattle.jser_reader.proofs.TextSteps.{short_text_taken}
use Rattle.jser_reader.proofs.TextTakeLemmas.{takes_text_handle}
use Rattle.jser_reader.proofs.CutLemmas.{four_taken}
use Rattle.jser_reader.proofs.PassLemmas.{then_passes, quiet_end, quiet_takes}
use Rattle.jser_reader.proofs.ValueLemmas.{new_text}
use Rattle.jser_reader.proofs.WholeLemmas.{rest_can, can_go_on, same_meter, assigned_text}

-- ---- the type code

-- after it
abbrev pub begun_member : Seen → Header → Bool → Seen
begun_member r header is_object = record {
  meter = moved (counted_on r.meter 1);
  phase = phase.Length2;
  frames = r.frames;
  layers = r.layers;
  table = r.table;
  refs = r.refs;
  owner = r.owner;
  elements = r.elements;
  header = header;
  text = text.FieldName is_object;
  left = r.left;
  scan = r.scan;
  name = r.name;
}

pub code_taken : (code : ℕ) (is_object : Bool) (r mid : Seen) → r.phase ≡ phase.TypeCode → BeginsMember code is_object r mid
    → TakesByte code flow.On r (begun_member r mid.header is_object)
code_taken code is_object r mid ep b =
    takes_type_code code flow.On r (farther r 1) (begun_member r mid.header is_object)
    (right_code code flow.On (farther r 1) (begun_member r mid.header is_object)
    (begins_field code is_object flow.On (farther r 1) (with_header (farther r 1) mid.header) (begun_member r mid.header is_object)
    (record { phase_is = refl; frames = refl; layers = refl; table = refl; refs = refl; owner_is = refl; chain_is = refl; header_is = refl; text_is = refl; left = refl; meter = refl })
    refl b.object refl refl refl refl refl b.kind (λ some. (b.codes some, b.fields some, b.seen some)))
    b.sound)
    refl ep

code_passes : (gate : Gate) (code : ℕ) (is_object : Bool) (piece : List ℕ) (r mid : Seen) (tally : Tally) → CanPass r piece → r.phase ≡ phase.TypeCode → 0 < length piece
    → code ≡ get_or piece 0 0 → BeginsMember code is_object r mid → Passes gate piece (Some 1) r tally (begun_member r mid.header is_object) tally
code_passes gate code is_object piece r mid tally can ep some ec b =
    quiet_end gate 1 (taken.Ended 1) piece r (begun_member r mid.header is_object) tally
    (one_taken code flow.On (taken.Ended 1) piece r (begun_member r mid.header is_object) (code_taken code is_object r mid ep b) refl ec some (rw ep tt) gate)
    refl (rw ep tt) can

-- ---- what comes after a field

-- what comes after a declared field, said of a machine that was as far and has the same
goes_as : (a k new : Seen) → GoesOnFields flow.On a new → moved k.meter ≡ moved a.meter → k.frames ≡ a.frames → k.layers ≡ a.layers → k.table ≡ a.table → k.refs ≡ a.refs
    → k.header ≡ a.header → GoesOnFields flow.On k new
unfolding GoesOnFields TellsSurely
goes_as a k new h em ef ey et er eh = λ d.
    let c : Comes a new (settle (moment_of a) (fields_goals a a.header.fields)) = h (subst HasDescriptor ef d) in
    let same : settle (moment_of k) (fields_goals k k.header.fields) ≡ settle (moment_of a) (fields_goals a a.header.fields) =
    rw ef (rw ey (rw et (rw er (rw eh refl)))) in
    record {
      ready = subst (Ready new) (sym same) c.ready;
      meter = c.meter ∙ sym em;
      max = c.max ∙ sym (ap (λ t. t.max) et);
    }

-- ---- a field of a primitive type

-- its name
pub raw_name_taken : (gate : Gate) (code len : ℕ) (found : Flow) (piece : List ℕ) (old mid far new : Seen) → HasText piece len → BeginsMember code false old mid
    → GoesOnFields found far new → found ≡ flow.On → far ≡ farther mid (len + 3) → Takes gate (take (2 + len) (drop 1 piece)) flow.On (begun_member old mid.header false) new
raw_name_taken gate code len found piece old mid far new t b goes_on true_is ef =
    let goes : GoesOnFields flow.On far new = subst (λ x. GoesOnFields x far new) true_is goes_on in
    let m : Seen = begun_member old mid.header false in
    let k : Seen = farther m (2 + len) in
    let rest : List ℕ = drop 1 piece in
    let n = length-drop 1 piece in
    let enough = t.within in
    let size : length (take (2 + len) rest) ≡ 2 + len = length-take-le (2 + len) rest (omega arith) in
    let far_is : far ≡ farther (with_header old mid.header) (len + 3) = ef ∙ ap (λ r. farther r (len + 3)) b.rest in
    let e : 2 + len + 1 ≡ len + 3 = omega arith in
    let ends : GoesOnFields flow.On k new =
    goes_as (farther (with_header old mid.header) (len + 3)) k new (subst (λ r. GoesOnFields flow.On r new) far_is goes)
    (same_meter old (2 + len) ∙ ap (λ j. moved (counted_on old.meter j)) e) refl refl refl refl refl in
    short_text_taken gate m k new (take (2 + len) rest) t.units
    (λ inside. field_named gate flow.On k new ends refl t.units (record { inside = inside; kept = λ checked. absurd (cc) }))
    refl (omega arith) (counts_bytes (take (2 + len) rest) (2 + len) m k refl size) t.are_text t.spelled

pub raw_member_passes : (gate : Gate) (code len : ℕ) (found : Flow) (piece : List ℕ) (old mid far new : Seen) (tally : Tally) → CanPass old piece
    → old.phase ≡ phase.TypeCode → code ≡ get_or piece 0 0 → HasText piece len → BeginsMember code false old mid → GoesOnFields found far new → found ≡ flow.On
    → far ≡ farther mid (len + 3) → Passes gate piece (Some (len + 3)) old tally new tally
raw_member_passes gate code len found piece old mid far new tally can ep ec t b goes_on true_is ef =
    let m : Seen = begun_member old mid.header false in
    let rest : List ℕ = drop 1 piece in
    let n = length-drop 1 piece in
    let enough = t.within in
    let body : Passes gate rest (Some (2 + len)) m tally new tally =
    quiet_takes gate (2 + len) rest m new tally (omega arith) (raw_name_taken gate code len found piece old mid far new t b goes_on true_is ef)
    tt (rest_can piece old m can (omega arith) refl refl) in
    subst (λ u. Passes gate piece (Some u) old tally new tally) (let s : 1 + (2 + len) ≡ len + 3 = omega arith in s)
    (then_passes gate piece rest 1 (2 + len) old m new tally tally tally (code_passes gate code false piece old mid tally can ep (omega arith) ec b) body refl)

-- ---- a field of an object or an array

-- after its name
abbrev pub named_member : Seen → Header → ℕ → Seen
named_member r header len = record {
  meter = moved (counted_on (moved (counted_on r.meter 1)) (2 + len));
  phase = phase.TextTag;
  frames = r.frames;
  layers = r.layers;
  table = r.table;
  refs = r.refs;
  owner = r.owner;
  elements = r.elements;
  header = header;
  text = text.FieldType;
  left = r.left;
  scan = r.scan;
  name = r.name;
}

-- its name, whatever the machine holds where the type comes next
name_taken : (gate : Gate) (code len : ℕ) (piece : List ℕ) (old mid new : Seen) → HasText piece len → BeginsMember code true old mid
    → (let k : Seen = farther (begun_member old mid.header true) (2 + len) in IsNext phase.TextTag k.owner k.elements k.header text.FieldType k new)
    → Takes gate (take (2 + len) (drop 1 piece)) flow.On (begun_member old mid.header true) new
name_taken gate code len piece old mid new t b next =
    let m : Seen = begun_member old mid.header true in
    let k : Seen = farther m (2 + len) in
    let rest : List ℕ = drop 1 piece in
    let n = length-drop 1 piece in
    let enough = t.within in
    let size : length (take (2 + len) rest) ≡ 2 + len = length-take-le (2 + len) rest (omega arith) in
    short_text_taken gate m k new (take (2 + len) rest) t.units
    (λ inside. object_field_named gate flow.On k new next refl refl t.units (record { inside = inside; kept = λ checked. absurd (cc) }))
    refl (omega arith) (counts_bytes (take (2 + len) rest) (2 + len) m k refl size) t.are_text t.spelled

named_goes : (gate : Gate) (code len : ℕ) (piece : List ℕ) (old mid new : Seen) (tally : Tally) → CanPass old piece → old.phase ≡ phase.TypeCode
    → code ≡ get_or piece 0 0 → HasText piece len → BeginsMember code true old mid
    → (let k : Seen = farther (begun_member old mid.header true) (2 + len) in IsNext phase.TextTag k.owner k.elements k.header text.FieldType k new)
    → Passes gate piece (Some (len + 3)) old tally new tally
named_goes gate code len piece old mid new tally can ep ec t b next =
    let m : Seen = begun_member old mid.header true in
    let rest : List ℕ = drop 1 piece in
    let n = length-drop 1 piece in
    let enough = t.within in
    let body : Passes gate rest (Some (2 + len)) m tally new tally =
    quiet_takes gate (2 + len) rest m new tally (omega arith) (name_taken gate code len piece old mid new t b next)
    tt (rest_can piece old m can (omega arith) refl refl) in
    subst (λ u. Passes gate piece (Some u) old tally new tally) (let s : 1 + (2 + len) ≡ len + 3 = omega arith in s)
    (then_passes gate piece rest 1 (2 + len) old m new tally tally tally (code_passes gate code true piece old mid tally can ep (omega arith) ec b) body refl)

named_passes : (gate : Gate) (code len : ℕ) (piece : List ℕ) (old mid : Seen) (tally : Tally) → CanPass old piece → old.phase ≡ phase.TypeCode
    → code ≡ get_or piece 0 0 → HasText piece len → BeginsMember code true old mid → Passes gate piece (Some (len + 3)) old tally (named_member old mid.header len) tally
named_passes gate code len piece old mid tally can ep ec t b =
    named_goes gate code len piece old mid (named_member old mid.header len) tally can ep ec t b
    (record { phase_is = refl; frames = refl; layers = refl; table = refl; refs = refl; owner_is = refl; chain_is = refl; header_is = refl; text_is = refl; left = refl; meter = refl })

-- its name, where the type comes next in the same step
pub named_taken : (gate : Gate) (code len : ℕ) (piece : List ℕ) (old mid : Seen) → HasText piece len → BeginsMember code true old mid
    → Takes gate (take (2 + len) (drop 1 piece)) flow.On (begun_member old mid.header true) (named_member old mid.header len)
named_taken gate code len piece old mid t b =
    name_taken gate code len piece old mid (named_member old mid.header len) t b
    (record { phase_is = refl; frames = refl; layers = refl; table = refl; refs = refl; owner_is = refl; chain_is = refl; header_is = refl; text_is = refl; left = refl; meter = refl })

-- what comes next, said of a machine that was as far and has the same
next_as : (len : ℕ) (old mid far new : Seen) (code : ℕ) → BeginsMember code true old mid → far ≡ farther mid (len + 3)
    → IsNext phase.TextTag far.owner far.elements far.header text.FieldType far new
    → (let k : Seen = farther (begun_member old mid.header true) (2 + len) in IsNext phase.TextTag k.owner k.elements k.header text.FieldType k new)
next_as len old mid far new code b ef next =
    let far_is : far ≡ farther (with_header old mid.header) (len + 3) = ef ∙ ap (λ r. farther r (len + 3)) b.rest in
    let e : 2 + len + 1 ≡ len + 3 = omega arith in
    let meter : moved (farther (with_header old mid.header) (len + 3)).meter ≡ moved (farther (begun_member old mid.header true) (2 + len)).meter =
    sym (same_meter old (2 + len) ∙ ap (λ j. moved (counted_on old.meter j)) e) in
    record {
      phase_is = next.phase_is;
      frames = next.frames ∙ ap (λ r. r.frames) far_is;
      layers = next.layers ∙ ap (λ r. r.layers) far_is;
      table = next.table ∙ ap (λ r. r.table) far_is;
      refs = next.refs ∙ ap (λ r. r.refs) far_is;
      owner_is = next.owner_is ∙ ap (λ r. r.owner) far_is;
      chain_is = next.chain_is ∙ ap (λ r. r.elements) far_is;
      header_is = next.header_is ∙ ap (λ r. r.header) far_is;
      text_is = next.text_is;
      left = next.left ∙ ap (λ r. r.left) far_is;
      meter = next.meter ∙ ap (λ r. moved r.meter) far_is ∙ meter;
    }

pub next_name_taken : (gate : Gate) (code len : ℕ) (piece : List ℕ) (old mid far new : Seen) → HasText piece len → BeginsMember code true old mid → far ≡ farther mid (len + 3)
    → IsNext phase.TextTag far.owner far.elements far.header text.FieldType far new
    → Takes gate (take (2 + len) (drop 1 piece)) flow.On (begun_member old mid.header true) new
next_name_taken gate code len piece old mid far new t b ef next = name_taken gate code len piece old mid new t b (next_as len old mid far new code b ef next)

pub named_member_passes : (gate : Gate) (code len : ℕ) (piece : List ℕ) (old mid far new : Seen) (tally : Tally) → CanPass old piece → old.phase ≡ phase.TypeCode
    → code ≡ get_or piece 0 0 → HasText piece len → BeginsMember code true old mid → far ≡ farther mid (len + 3)
    → IsNext phase.TextTag far.owner far.elements far.header text.FieldType far new → Passes gate piece (Some (len + 3)) old tally new tally
named_member_passes gate code len piece old mid far new tally can ep ec t b ef next =
    named_goes gate code len piece old mid new tally can ep ec t b (next_as len old mid far new code b ef next)

pub named_can : (piece : List ℕ) (used : ℕ) (old mid far new : Seen) (code : ℕ) → CanPass old piece → used ≤ length piece
    → BeginsMember code true old mid → IsNext phase.TextTag far.owner far.elements far.header text.FieldType far new → far ≡ farther mid used → CanPass new (drop used piece)
named_can piece used old mid far new code can le b next ef =
    can_go_on piece used old new can le (next.meter ∙ ap (λ r. moved r.meter) (ef ∙ ap (λ r. farther r used) b.rest))

-- after the tag of its type
abbrev pub at_type : Seen → Seen
at_type r = record {
  meter = moved (counted_on r.meter 1);
  phase = phase.TextHandle;
  frames = r.frames;
  layers = r.layers;
  table = r.table;
  refs = r.refs;
  owner = r.owner;
  elements = r.elements;
  header = r.header;
  text = r.text;
  left = r.left;
  scan = r.scan;
  name = r.name;
}

pub type_tag_taken : (r : Seen) → r.phase ≡ phase.TextTag → TakesByte 0x71 flow.On r (at_type r)
type_tag_taken r ep =
    takes_text_tag 0x71 flow.On r (farther r 1) (at_type r)
    (text_reference 0x71 flow.On (farther r 1) (at_type r)
    (record { phase_is = refl; frames = refl; layers = refl; table = refl; refs = refl; owner_is = refl; chain_is = refl; header_is = refl; text_is = refl; left = refl; meter = refl })
    refl refl)
    refl ep

pub type_handle_taken : (gate : Gate) (n : ℕ) (piece : List ℕ) (r new : Seen) → r.text ≡ text.FieldType → HasType piece n r
    → GoesOnFields flow.On (farther (at_type r) 4) new → TakesFromFor gate (taken.Ended 4) (drop 1 piece) (at_type r) new
type_handle_taken gate n piece r new et t goes =
    let m : Seen = at_type r in
    let far : Seen = farther m 4 in
    let rest : List ℕ = drop 1 piece in
    let len = length-drop 1 piece in
    let enough = t.is.within in
    four_taken n flow.On (taken.Ended 4) rest (take 4 rest) m new
    (takes_text_handle n 4 flow.On m far new
    (right_text n (settle (moment_of far) (text_rest far far.text)) flow.On far new (type_named flow.On far new goes et) t.text)
    refl refl (omega arith) t.few)
    refl tt t.is.spelled refl (omega arith) gate

type_passes : (gate : Gate) (n : ℕ) (piece : List ℕ) (r new : Seen) (tally : Tally) → CanPass r piece → r.phase ≡ phase.TextTag → r.text ≡ text.FieldType
    → HasType piece n r → GoesOnFields flow.On (farther (at_type r) 4) new → Passes gate piece (Some 5) r tally new tally
type_passes gate n piece r new tally can ep et t goes =
    let m : Seen = at_type r in
    let far : Seen = farther m 4 in
    let rest : List ℕ = drop 1 piece in
    let len = length-drop 1 piece in
    let enough = t.is.within in
    let tag : Passes gate piece (Some 1) r tally m tally =
    quiet_end gate 1 (taken.Ended 1) piece r m tally
    (one_taken 0x71 flow.On (taken.Ended 1) piece r m (type_tag_taken r ep) refl t.tag (omega arith) (rw ep tt) gate)
    refl (rw ep tt) can in
    let handle : Passes gate rest (Some 4) m tally new tally =
    quiet_end gate 4 (taken.Ended 4) rest m new tally (type_handle_taken gate n piece r new et t goes) refl tt (rest_can piece r m can (omega arith) refl refl) in
    then_passes gate piece rest 1 4 r m new tally tally tally tag handle refl

-- where the type comes next, and after it
pub typed_can : (len : ℕ) (piece rest : List ℕ) (old mid : Seen) → CanPass old piece → HasText piece len → rest ≡ drop (len + 3) piece → len + 3 ≤ length piece
    → CanPass (named_member old mid.header len) rest
typed_can len piece rest old mid can t er le =
    let m : Seen = named_member old mid.header len in
    let there : m.meter ≡ moved (counted_on old.meter (len + 3)) = same_meter old (2 + len) ∙ ap (λ j. moved (counted_on old.meter j)) (let s : 2 + len + 1 ≡ len + 3 = omega arith in s) in
    subst (CanPass m) (sym er) (can_go_on piece (len + 3) old m can le there)

pub typed_here : (len n : ℕ) (rest : List ℕ) (old mid : Seen) → HasType rest n old → HasType rest n (named_member old mid.header len)
typed_here len n rest old mid y = record { tag = y.tag; is = y.is; few = y.few; text = y.text }

pub typed_goes : (len : ℕ) (found : Flow) (old mid far new : Seen) (code : ℕ) → BeginsMember code true old mid → GoesOnFields found far new → found ≡ flow.On
    → far ≡ farther mid (len + 8) → GoesOnFields flow.On (farther (at_type (named_member old mid.header len)) 4) new
typed_goes len found old mid far new code b goes_on true_is ef =
    let goes : GoesOnFields flow.On far new = subst (λ x. GoesOnFields x far new) true_is goes_on in
    let k : Seen = farther (at_type (named_member old mid.header len)) 4 in
    let far_is : far ≡ farther (with_header old mid.header) (len + 8) = ef ∙ ap (λ r. farther r (len + 8)) b.rest in
    let e : old.meter.at + 1 + (2 + len) + 1 + 4 ≡ old.meter.at + (len + 8) = omega arith in
    let meter : moved k.meter ≡ moved (farther (with_header old mid.header) (len + 8)).meter =
    ap (λ j. record { at = j; from = j; limits = old.meter.limits; stop = old.meter.stop; cut_phase = old.meter.cut_phase; kept = old.meter.kept }) e in
    goes_as (farther (with_header old mid.header) (len + 8)) k new (subst (λ r. GoesOnFields flow.On r new) far_is goes) meter refl refl refl refl refl

pub typed_member_passes : (gate : Gate) (code len n : ℕ) (found : Flow) (piece rest : List ℕ) (old mid far new : Seen) (tally : Tally) → CanPass old piece
    → old.phase ≡ phase.TypeCode → code ≡ get_or piece 0 0 → HasText piece len → rest ≡ drop (len + 3) piece → HasType rest n old
    → BeginsMember code true old mid → GoesOnFields found far new → found ≡ flow.On → far ≡ farther mid (len + 8) → Passes gate piece (Some (len + 8)) old tally new tally
typed_member_passes gate code len n found piece rest old mid far new tally can ep ec t er y b goes_on true_is ef =
    let m : Seen = named_member old mid.header len in
    let enough = t.within in
    let can_m : CanPass m rest = typed_can len piece rest old mid can t er (omega arith) in
    subst (λ u. Passes gate piece (Some u) old tally new tally) (let s : len + 3 + 5 ≡ len + 8 = omega arith in s)
    (then_passes gate piece rest (len + 3) 5 old m new tally tally tally (named_passes gate code len piece old mid tally can ep ec t b)
    (type_passes gate n rest m new tally can_m refl refl (typed_here len n rest old mid y) (typed_goes len found old mid far new code b goes_on true_is ef)) er)

-- what is left of the piece may be taken too
pub member_can : (piece : List ℕ) (used : ℕ) (found : Flow) (old mid far new : Seen) (code : ℕ) (is_object : Bool) → CanPass old piece → used ≤ length piece
    → BeginsMember code is_object old mid → GoesOnFields found far new → new.meter ≡ moved far.meter → far ≡ farther mid used → CanPass new (drop used piece)
member_can piece used found old mid far new code is_object can le b goes em ef =
    can_go_on piece used old new can le (em ∙ ap (λ r. moved r.meter) (ef ∙ ap (λ r. farther r used) b.rest))

-- ---- a type that is a new string

-- after its tag
abbrev begun_type : Seen → Seen
begun_type r = record {
  meter = moved (counted_on r.meter 1);
  phase = phase.Length2;
  frames = r.frames;
  layers = r.layers;
  table = with_entry r.table text_entry;
  refs = r.refs;
  owner = r.owner;
  elements = r.elements;
  header = r.header;
  text = r.text;
  left = r.left;
  scan = r.scan;
  name = r.name;
}

new_type_tag_taken : (r : Seen) → r.phase ≡ phase.TextTag → is_full r ≡ false → TakesByte 0x74 flow.On r (begun_type r)
new_type_tag_taken r ep full =
    takes_text_tag 0x74 flow.On r (farther r 1) (begun_type r)
    (short_text 0x74 flow.On (farther r 1) (begun_type r)
    (λ form inside. new_text (length r.table.entries) false r.text flow.On (farther r 1) (added (farther r 1) text_entry) (begun_type r) (assigned_text (farther r 1) full)
    (record { phase_is = refl; frames = refl; layers = refl; table = refl; refs = refl; owner_is = refl; chain_is = refl; header_is = refl; text_is = refl; left = refl; meter = refl })
    refl form inside) refl)
    refl ep

-- the text of a type is not checked
unchecked_type : (t : TextFor) → t ≡ text.FieldType → is_checked t ≡ true → ⊥
unchecked_type t e checked = false≢true (ap is_checked (sym e) ∙ checked)

pub new_type_passes : (gate : Gate) (len : ℕ) (found : Flow) (piece : List ℕ) (old mid far new : Seen) (tally : Tally) → CanPass old piece
    → old.phase ≡ phase.TextTag → old.text ≡ text.FieldType → 0x74 ≡ get_or piece 0 0 → HasText piece len → AssignsText true old mid
    → GoesOnFields found far new → found ≡ flow.On → far ≡ farther mid (len + 3) → Passes gate piece (Some (len + 3)) old tally new tally
unfolding AssignsText
new_type_passes gate len found piece old mid far new tally can ep et first t assigns goes_on true_is ef =
    let goes : GoesOnFields flow.On far new = subst (λ x. GoesOnFields x far new) true_is goes_on in
    let m : Seen = begun_type old in
    let k : Seen = farther m (2 + len) in
    let rest : List ℕ = drop 1 piece in
    let n = length-drop 1 piece in
    let enough = t.within in
    let size : length (take (2 + len) rest) ≡ 2 + len = length-take-le (2 + len) rest (omega arith) in
    let far_is : far ≡ farther (added old text_entry) (len + 3) = ef ∙ ap (λ r. farther r (len + 3)) assigns.1 in
    let e : 2 + len + 1 ≡ len + 3 = omega arith in
    let ends : GoesOnFields flow.On k new =
    goes_as (farther (added old text_entry) (len + 3)) k new (subst (λ r. GoesOnFields flow.On r new) far_is goes)
    (same_meter old (2 + len) ∙ ap (λ j. moved (counted_on old.meter j)) e) refl refl refl refl refl in
    let tag : Passes gate piece (Some 1) old tally m tally =
    quiet_end gate 1 (taken.Ended 1) piece old m tally
    (one_taken 0x74 flow.On (taken.Ended 1) piece old m (new_type_tag_taken old ep assigns.0) refl first (omega arith) (rw ep tt) gate)
    refl (rw ep tt) can in
    let body : Passes gate rest (Some (2 + len)) m tally new tally =
    quiet_takes gate (2 + len) rest m new tally (omega arith)
    (short_text_taken gate m k new (take (2 + len) rest) t.units
    (λ inside. type_ends gate flow.On k new ends et t.units (record { inside = inside; kept = λ checked. absurd (unchecked_type old.text et checked) }))
    refl (omega arith) (counts_bytes (take (2 + len) rest) (2 + len) m k refl size) t.are_text t.spelled)
    tt (rest_can piece old m can (omega arith) refl refl) in
    subst (λ u. Passes gate piece (Some u) old tally new tally) (let s : 1 + (2 + len) ≡ len + 3 = omega arith in s)
    (then_passes gate piece rest 1 (2 + len) old m new tally tally tally tag body refl)

-- what is left of the piece may be taken too
pub type_can : (piece : List ℕ) (used : ℕ) (found : Flow) (old mid far new : Seen) → CanPass old piece → used ≤ length piece → AssignsText true old mid
    → GoesOnFields found far new → new.meter ≡ moved far.meter → far ≡ farther mid used → CanPass new (drop used piece)
unfolding AssignsText
type_can piece used found old mid far new can le assigns goes em ef =
    can_go_on piece used old new can le (em ∙ ap (λ r. moved r.meter) (ef ∙ ap (λ r. farther r used) assigns.1))
