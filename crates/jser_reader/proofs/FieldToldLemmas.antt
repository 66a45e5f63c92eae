-- A declared field that is lent at once: its items, one after another.
use Rattle.std.proofs.Common.{◌≡◌, ℕ, ◌+◌, ◌^◌, ◌<◌, Bool, true, false, List, [], length, get_or, take, drop, Some, None, Ok, refl, sym, ◌∙◌, ap, subst, arith}
use denote.Bor.{Bor}
use Rattle.std.proofs.lemmas.List.{length-drop, length-take-le}
use Rattle.jser_prim.specs.Bytes.{big_bytes}
use Rattle.jser_reading.specs.TokensFromBytes.{number_of}
use Rattle.jser_reading.proofs.Decoding.{number_4}
use Rattle.jser_verdict.specs.Gates.{Gate}
use Rattle.jser_reader.specs.declared.item.Item.TheVariants as item
use Rattle.jser_reader.specs.declared.item.Step.TheVariants as step
use Rattle.jser_reader.specs.declared.machine.flow.Flow.{Flow}
use Rattle.jser_reader.specs.declared.machine.flow.Flow.TheVariants as flow
use Rattle.jser_reader.specs.declared.machine.take.taken.Taken.TheVariants as taken
use Rattle.jser_reader.specs.declared.phase.Phase.TheVariants as phase
use Rattle.jser_reader.specs.declared.phase.TextFor.TheVariants as text
use Rattle.jser_reader.specs.declared.tally.Tally.{Tally}
use Rattle.jser_reader.specs.Descriptors.{GoesOnFields}
use Rattle.jser_reader.specs.FieldsTold.{TellsReferenceType, TellsField}
use Rattle.jser_reader.specs.Handlers.{IsNext}
use Rattle.jser_reader.specs.ItemsMade.{MakesItem}
use Rattle.jser_reader.specs.ItemsTold.{TellsItems}
use Rattle.jser_reader.specs.Members.{HasType, BeginsMember, TakesMember}
use Rattle.jser_reader.specs.Passes.{CanPass}
use Rattle.jser_reader.specs.Readers.{Seen}
use Rattle.jser_reader.specs.Takes.{farther}
use Rattle.jser_reader.specs.Visits.{field_size}
use Rattle.jser_reader.specs.Walks.{Takes, open_in, cut_in, open_phase, cut_of}
use Rattle.jser_reader.specs.Wholes.{HasText}
use Rattle.jser_reader.specs.WholesTold.{TellsText}
use Rattle.jser_reader.proofs.LentLemmas.{one_number, quiet_tells, text_bytes, text_tells}
use Rattle.jser_reader.proofs.MemberLemmas.{begun_member, code_taken, raw_name_taken, named_member, named_taken, next_name_taken, at_type, type_tag_taken, type_handle_taken, typed_can, typed_here, typed_goes}
use Rattle.jser_reader.proofs.MemoryLemmas.{are_assigned}
use Rattle.jser_reader.proofs.TakeLemmas.{one_taken}
use Rattle.jser_reader.proofs.WholeLemmas.{rest_can}

-- ---- the type code

makes_code : (r : Seen) (piece : List ℕ) (code : ℕ) → r.phase ≡ phase.TypeCode → code ≡ get_or piece 0 0 → 0 < length piece
    → MakesItem (open_phase r) (cut_of r) (take 1 piece) (item.TypeCode code)
unfolding MakesItem
makes_code r piece code e is some =
    subst (λ q. MakesItem (open_in q r.meter.cut_phase) (cut_in q r.meter.kept) (take 1 piece) (item.TypeCode code)) (sym e)
    (λ n. ap item.TypeCode (one_number piece code is some))

code_tells : (gate : Gate) (code : ℕ) (is_object : Bool) (piece : List ℕ) (r mid : Seen) (tally : Tally) → CanPass r piece → r.phase ≡ phase.TypeCode → 0 < length piece
    → code ≡ get_or piece 0 0 → BeginsMember code is_object r mid
    → TellsItems gate piece (Ok (step.Item (item.TypeCode code) 1)) r tally (begun_member r mid.header is_object) tally
code_tells gate code is_object piece r mid tally can ep some ec b =
    quiet_tells gate (item.TypeCode code) 1 piece r (begun_member r mid.header is_object) tally
    (one_taken code flow.On (taken.Ended 1) piece r (begun_member r mid.header is_object) (code_taken code is_object r mid ep b) refl ec some (rw ep tt) gate)
    (rw ep tt) can (makes_code r piece code ep ec some)

-- ---- the name

name_tells : (gate : Gate) (len : ℕ) (piece text : List ℕ) (m new : Seen) (tally : Tally) → HasText piece len → text ≡ take len (drop 3 piece) → m.phase ≡ phase.Length2
    → CanPass m (drop 1 piece) → Takes gate (take (2 + len) (drop 1 piece)) flow.On m new → TellsText gate (drop 1 piece) text m tally new tally
name_tells gate len piece text m new tally h is ep can t =
    let enough = h.within in
    let n = length-drop 1 piece in
    let n3 = length-drop 3 piece in
    let long : length text ≡ len = ap length is ∙ length-take-le len (drop 3 piece) (omega arith) in
    text_tells gate text (drop 1 piece) m new tally (subst (λ j. Takes gate (take (2 + j) (drop 1 piece)) flow.On m new) (sym long) t) (omega arith)
    (is ∙ text_bytes piece len (omega arith) ∙ ap (λ j. drop 2 (take (2 + j) (drop 1 piece))) (sym long)) ep can

name_size : (len : ℕ) (piece text : List ℕ) → HasText piece len → text ≡ take len (drop 3 piece) → length text ≡ len
name_size len piece text h is =
    let enough = h.within in
    let n3 = length-drop 3 piece in
    ap length is ∙ length-take-le len (drop 3 piece) (omega arith)

-- ---- the type

makes_type_tag : (r : Seen) (piece : List ℕ) → r.phase ≡ phase.TextTag → 0x71 ≡ get_or piece 0 0 → 0 < length piece
    → MakesItem (open_phase r) (cut_of r) (take 1 piece) (item.Tag 0x71)
unfolding MakesItem
makes_type_tag r piece e is some =
    subst (λ q. MakesItem (open_in q r.meter.cut_phase) (cut_in q r.meter.kept) (take 1 piece) (item.Tag 0x71)) (sym e)
    (λ n. ap item.Tag (one_number piece 0x71 is some))

makes_type_handle : (piece : List ℕ) (n : ℕ) → n < 2 ^ 32 → big_bytes 4 n ≡ take 4 piece → MakesItem phase.TextHandle [] (take 4 piece) (item.Handle n)
unfolding MakesItem
makes_type_handle piece n small spelled = λ _. ap item.Handle (sym (number_4 n small) ∙ ap number_of spelled)

type_tells : (gate : Gate) (n : ℕ) (piece : List ℕ) (r new : Seen) (tally : Tally) → CanPass r piece → r.phase ≡ phase.TextTag → r.text ≡ text.FieldType
    → HasType piece n r → GoesOnFields flow.On (farther (at_type r) 4) new → TellsReferenceType gate piece n (length r.table.entries) r new tally
type_tells gate n piece r new tally can ep et t goes =
    let enough = t.is.within in
    let m : Seen = at_type r in
    let rest : List ℕ = drop 1 piece in
    record {
      within = t.is.within;
      assigned = are_assigned gate (length r.table.entries) r tally refl;
      between = m;
      tag =
          quiet_tells gate (item.Tag 0x71) 1 piece r m tally
          (one_taken 0x71 flow.On (taken.Ended 1) piece r m (type_tag_taken r ep) refl t.tag (omega arith) (rw ep tt) gate)
          (rw ep tt) can (makes_type_tag r piece ep t.tag (omega arith));
      assigned_then = are_assigned gate (length r.table.entries) m tally refl;
      number =
          quiet_tells gate (item.Handle n) 4 rest m new tally (type_handle_taken gate n piece r new et t goes)
          tt (rest_can piece r m can (omega arith) refl refl) (makes_type_handle rest n t.few t.is.spelled);
    }

-- ---- fields

-- the bytes of one that tells no type, and of one whose type is a reference
pub takes_none : (code len : ℕ) (piece : List ℕ) (name : Bor (List ℕ)) (old new : Seen) → HasText piece len → name.now ≡ take len (drop 3 piece)
    → TakesMember piece (len + 3) old new → TakesMember piece (field_size (record { code = code; name = name; type_handle = None })) old new
takes_none code len piece name old new h is t =
    let long = name_size len piece name.now h is in
    let same : len + 3 ≡ length name.now + (3 + 0) = omega arith in
    subst (λ n. TakesMember piece n old new) same t

pub takes_some : (code len n : ℕ) (piece : List ℕ) (name : Bor (List ℕ)) (old new : Seen) → HasText piece len → name.now ≡ take len (drop 3 piece)
    → TakesMember piece (len + 8) old new → TakesMember piece (field_size (record { code = code; name = name; type_handle = Some n })) old new
takes_some code len n piece name old new h is t =
    let long = name_size len piece name.now h is in
    let same : len + 8 ≡ length name.now + (3 + 5) = omega arith in
    subst (λ n. TakesMember piece n old new) same t

pub raw_member_told : (gate : Gate) (code len : ℕ) (found : Flow) (piece : List ℕ) (name : Bor (List ℕ)) (old mid far new : Seen) (tally : Tally) → CanPass old piece
    → old.phase ≡ phase.TypeCode → code ≡ get_or piece 0 0 → HasText piece len → BeginsMember code false old mid → GoesOnFields found far new → found ≡ flow.On
    → far ≡ farther mid (len + 3) → name.now ≡ take len (drop 3 piece) → TellsField gate piece (record { code = code; name = name; type_handle = None }) old new tally
raw_member_told gate code len found piece name old mid far new tally can ep ec t b goes_on true_is ef is =
    let enough = t.within in
    let m : Seen = begun_member old mid.header false in
    record {
      coded = m;
      named = new;
      code = code_tells gate code false piece old mid tally can ep (omega arith) ec b;
      assigned = are_assigned gate (length old.table.entries) m tally refl;
      name =
          name_tells gate len piece name.now m new tally t is refl (rest_can piece old m can (omega arith) refl refl)
          (raw_name_taken gate code len found piece old mid far new t b goes_on true_is ef);
      type = refl;
    }

pub named_member_told : (gate : Gate) (code len : ℕ) (piece : List ℕ) (name : Bor (List ℕ)) (old mid far new : Seen) (tally : Tally) → CanPass old piece
    → old.phase ≡ phase.TypeCode → code ≡ get_or piece 0 0 → HasText piece len → BeginsMember code true old mid → far ≡ farther mid (len + 3)
    → IsNext phase.TextTag far.owner far.elements far.header text.FieldType far new → name.now ≡ take len (drop 3 piece)
    → TellsField gate piece (record { code = code; name = name; type_handle = None }) old new tally
named_member_told gate code len piece name old mid far new tally can ep ec t b ef next is =
    let enough = t.within in
    let m : Seen = begun_member old mid.header true in
    record {
      coded = m;
      named = new;
      code = code_tells gate code true piece old mid tally can ep (omega arith) ec b;
      assigned = are_assigned gate (length old.table.entries) m tally refl;
      name =
          name_tells gate len piece name.now m new tally t is refl (rest_can piece old m can (omega arith) refl refl)
          (next_name_taken gate code len piece old mid far new t b ef next);
      type = refl;
    }

pub typed_member_told : (gate : Gate) (code len n : ℕ) (found : Flow) (piece rest : List ℕ) (name : Bor (List ℕ)) (old mid far new : Seen) (tally : Tally) → CanPass old piece
    → old.phase ≡ phase.TypeCode → code ≡ get_or piece 0 0 → HasText piece len → rest ≡ drop (len + 3) piece → HasType rest n old
    → BeginsMember code true old mid → GoesOnFields found far new → found ≡ flow.On → far ≡ farther mid (len + 8) → name.now ≡ take len (drop 3 piece)
    → TellsField gate piece (record { code = code; name = name; type_handle = Some n }) old new tally
typed_member_told gate code len n found piece rest name old mid far new tally can ep ec t er y b goes_on true_is ef is =
    let enough = t.within in
    let m : Seen = begun_member old mid.header true in
    let k : Seen = named_member old mid.header len in
    let there : rest ≡ drop (length name.now + 3) piece = er ∙ ap (λ j. drop (j + 3) piece) (sym (name_size len piece name.now t is)) in
    record {
      coded = m;
      named = k;
      code = code_tells gate code true piece old mid tally can ep (omega arith) ec b;
      assigned = are_assigned gate (length old.table.entries) m tally refl;
      name =
          name_tells gate len piece name.now m k tally t is refl (rest_can piece old m can (omega arith) refl refl)
          (named_taken gate code len piece old mid t b);
      type =
          subst (λ xs. TellsReferenceType gate xs n (length old.table.entries) k new tally) there
          (type_tells gate n rest k new tally (typed_can len piece rest old mid can t er (omega arith)) refl refl (typed_here len n rest old mid y)
          (typed_goes len found old mid far new code b goes_on true_is ef));
    }
