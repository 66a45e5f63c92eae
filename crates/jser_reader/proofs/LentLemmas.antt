-- A value that is lent at once: its items, one after another.
use Rattle.std.proofs.Common.{◌≡◌, ℕ, suc, ◌+◌, ◌^◌, ◌<◌, ◌≤◌, true, List, [], ◌∷◌, ◌++◌, length, get_or, take, drop, Some, Ok, refl, sym, ◌∙◌, ap, subst, arith, length-append, not, false}
use Rattle.std.proofs.lemmas.List.{length-drop, length-take-le}
use Rattle.jser_prim.specs.Bytes.{big_bytes}
use Rattle.jser_table.specs.Entries.{text_entry}
use Rattle.jser_reading.specs.TokenBytes.{tag_byte}
use Rattle.jser_reading.specs.TokensFromBytes.{tag_from, number_of}
use Rattle.jser_reading.specs.Goals.{State, settled}
use Rattle.jser_reading.specs.Accepts.{label_of}
use Rattle.jser_reading.specs.Machine.{begin_state, left}
use Rattle.jser_reading.proofs.Decoding.{number_4}
use Rattle.jser_verdict.specs.Gates.{Gate, IsGate}
use Rattle.jser_reader.specs.declared.machine.flow.Flow.{Flow}
use Rattle.jser_reader.specs.declared.machine.flow.Flow.TheVariants as flow
use Rattle.jser_reader.specs.declared.frame.Owner.{Owner}
use Rattle.jser_reader.specs.declared.item.Item.{Item}
use Rattle.jser_reader.specs.declared.item.Item.TheVariants as item
use Rattle.jser_reader.specs.declared.item.Step.TheVariants as step
use Rattle.jser_reader.specs.declared.machine.take.taken.Taken.TheVariants as taken
use Rattle.jser_reader.specs.declared.phase.Phase.{Phase}
use Rattle.jser_reader.specs.declared.phase.Phase.TheVariants as phase
use Rattle.jser_reader.specs.declared.tag.ValueTag.{ValueTag}
use Rattle.jser_reader.specs.declared.tag.ValueTag.TheVariants as value
use Rattle.jser_reader.specs.declared.tally.Tally.{Tally}
use Rattle.jser_reader.specs.Tags.{view_tag}
use Rattle.jser_reader.specs.Readers.{Seen}
use Rattle.jser_reader.specs.Steps.{after_value}
use Rattle.jser_reader.specs.Handlers.{Comes, Tells, added, place_reason, after_tag}
use Rattle.jser_reader.specs.Walks.{Takes, open_in, cut_in, open_phase, cut_of}
use Rattle.jser_reader.specs.Takes.{farther, TakesFromFor}
use Rattle.jser_reader.specs.Tallies.{CountsNext}
use Rattle.jser_reader.specs.Items.{items_at}
use Rattle.jser_reader.specs.ItemsMade.{MakesItem, MakesStep}
use Rattle.jser_reader.specs.ItemsTold.{TokenEnds, TellsItems}
use Rattle.jser_reader.specs.Passes.{PassTells, IsQuiet, CanPass}
use Rattle.jser_reader.specs.Wholes.{IsPlace, HasPlace, HasNumber, HasText, HasReference, tag_of_owner, placed, with_class, AssignsText}
use Rattle.jser_reader.specs.WholesTold.{TellsReference, TellsText, TellsString, OwnerCases}
use Rattle.jser_reader.proofs.NumberLemmas.{right_handle}
use Rattle.jser_reader.proofs.TakeLemmas.{counts_bytes, one_taken, takes_back_handle, takes_class_handle}
use Rattle.jser_reader.proofs.CutLemmas.{four_taken}
use Rattle.jser_reader.proofs.TextLemmas.{value_ends}
use Rattle.jser_reader.proofs.TextSteps.{short_text_taken}
use Rattle.jser_reader.proofs.PhaseLemmas.{is_open, whole_open}
use Rattle.jser_reader.proofs.MemoryLemmas.{are_assigned}
use Rattle.jser_reader.proofs.ItemStands.{OpenItems, stands_items}
use Rattle.jser_reader.proofs.ItemCalls.{machine_stands, comes_next, token_ended, lends_end, tells_end}
use Rattle.jser_reader.proofs.PassLemmas.{quiet_next}
use Rattle.jser_reader.proofs.WholeLemmas.{place_is_one, tag_taken, rest_can, same_end, same_meter, begun_reference, reference_begins, reference_passes, begun_string, string_begins, string_passes, begun_owner, owner_begins, at_class, class_tag_taken, same_class, TellsClass, second_is, two_on, owner_passes}
use Rattle.jser_verdict.specs.HandleRows.{is_no_handle}

-- ---- the tag

pub one_number : (piece : List ℕ) (b : ℕ) → b ≡ get_or piece 0 0 → 0 < length piece → b ≡ number_of (take 1 piece)
one_number [] b e some = absurd (omega arith)
one_number (x ∷ piece) b e some = omega arith

makes_tag : (p : Phase) (piece : List ℕ) (b : ℕ) (r : Seen) → IsPlace p → r.phase ≡ p → b ≡ get_or piece 0 0 → 0 < length piece
    → MakesStep (open_phase r) (cut_of r) (take 1 piece) (step.Item (item.Tag b) 1)
unfolding MakesItem MakesStep
makes_tag phase.Top piece b r i e is some =
    subst (λ q. MakesStep (open_in q r.meter.cut_phase) (cut_in q r.meter.kept) (take 1 piece) (step.Item (item.Tag b) 1)) (sym e)
    (λ n. ap item.Tag (one_number piece b is some))
makes_tag phase.Note piece b r i e is some =
    subst (λ q. MakesStep (open_in q r.meter.cut_phase) (cut_in q r.meter.kept) (take 1 piece) (step.Item (item.Tag b) 1)) (sym e)
    (λ n. ap item.Tag (one_number piece b is some))
makes_tag phase.Value piece b r i e is some =
    subst (λ q. MakesStep (open_in q r.meter.cut_phase) (cut_in q r.meter.kept) (take 1 piece) (step.Item (item.Tag b) 1)) (sym e)
    (λ n. ap item.Tag (one_number piece b is some))
makes_tag _ piece b r i e is some = absurd i

tag_tells : (gate : Gate) (t : ValueTag) (piece : List ℕ) (r m : Seen) (before after : Tally) → IsGate gate → CanPass r piece → IsPlace r.phase
    → 0 < length piece → tag_byte (view_tag t) ≡ get_or piece 0 0
    → Tells (place_reason (farther r 1) (view_tag t)) (after_tag (farther r 1) (view_tag t)) flow.On (farther r 1) m
    → CountsNext r (tag_byte (view_tag t)) before after → TellsItems gate piece (Ok (step.Item (item.Tag (tag_byte (view_tag t))) 1)) r before m after
tag_tells gate t piece r m before after g can i some first h c =
    tells_end (step.Item (item.Tag (tag_byte (view_tag t))) 1) (open_phase r) (cut_of r) 1 (taken.Ended 1) piece piece gate r m before after
    (one_taken (tag_byte (view_tag t)) flow.On (taken.Ended 1) piece r m (tag_taken r.phase t r m i refl h) refl first some (place_is_one r.phase i) gate)
    refl (subst (λ b. CountsNext r b before after) first c) g can.within can.all_bytes refl refl refl (makes_tag r.phase piece (tag_byte (view_tag t)) r i refl first some)

-- ---- a token with which no count changes

pub quiet_tells : (gate : Gate) (lent : Item) (used : ℕ) (given : List ℕ) (old new : Seen) (tally : Tally) → TakesFromFor gate (taken.Ended used) given old new
    → IsQuiet old.phase → CanPass old given → MakesItem (open_phase old) (cut_of old) (take used given) lent
    → TellsItems gate given (Ok (step.Item lent used)) old tally new tally
unfolding TakesFromFor TellsItems
quiet_tells gate lent used given old new tally k q can m = λ tokens cut st.
    lends_end gate given given used lent old new tally tally tokens cut st can.within k.1 can.all_bytes k.2 k.3
    (sym (quiet_next old (get_or (take used given) 0 0) tally q)) m

-- ---- a reference

makes_handle : (piece : List ℕ) (n : ℕ) → n < 2 ^ 32 → big_bytes 4 n ≡ take 4 piece → MakesItem phase.BackHandle [] (take 4 piece) (item.Handle n)
unfolding MakesItem
makes_handle piece n small spelled = λ _. ap item.Handle (sym (number_4 n small) ∙ ap number_of spelled)

pub reference_tells : (gate : Gate) (n : ℕ) (piece : List ℕ) (old far new : Seen) (before after : Tally) → IsGate gate → CanPass old piece → IsPlace old.phase
    → 0x71 ≡ get_or piece 0 0 → HasNumber piece n → n < 2 ^ 32 → HasPlace old → is_no_handle old.table.entries n ≡ false
    → far ≡ placed old 5 → Comes far new (after_value far) → CountsNext old 0x71 before after
    → TellsReference gate piece n old before new after
reference_tells gate n piece old far new before after g can i first h small p named_is ef end count =
    let comes : Comes (placed old 5) new (after_value (placed old 5)) = subst (λ r. Comes r new (after_value r)) ef end in
    let enough = h.within in
    let m : Seen = begun_reference old in
    let rest : List ℕ = drop 1 piece in
    let len = length-drop 1 piece in
    let ends : Comes (farther m 4) new (after_value (farther m 4)) =
    same_end (placed old 5) (farther m 4) new comes (same_meter old 4) refl refl refl refl in
    record {
      within = h.within;
      between = m;
      tag = tag_tells gate value.Reference piece old m before after g can i (omega arith) first (reference_begins old p) count;
      assigned = are_assigned gate (length old.table.entries) m after refl;
      number =
          quiet_tells gate (item.Handle n) 4 rest m new after
          (four_taken n flow.On (taken.Ended 4) rest (take 4 rest) m new
          (takes_back_handle n 4 flow.On m (farther m 4) new (right_handle n true flow.On (farther m 4) new (sym (ap not named_is)) refl ends refl) refl refl (omega arith) small)
          refl tt h.spelled refl (omega arith) gate)
          tt (rest_can piece old m can (omega arith) refl refl) (makes_handle rest n small h.spelled);
      tells = (reference_passes gate n piece old far new before after g can i first h small p named_is ef end count).tells;
    }

-- ---- a string

pub text_bytes : (piece : List ℕ) (len : ℕ) → 3 ≤ length piece → take len (drop 3 piece) ≡ drop 2 (take (2 + len) (drop 1 piece))
text_bytes [] len enough = absurd (omega arith)
text_bytes (a ∷ []) len enough = absurd (omega arith)
text_bytes (a ∷ b ∷ []) len enough = absurd (omega arith)
text_bytes (a ∷ b ∷ c ∷ piece) len enough = ap (λ k. drop 2 (take k (b ∷ c ∷ piece))) (let e : suc (suc len) ≡ 2 + len = omega arith in e)

pub text_tells : (gate : Gate) (text given : List ℕ) (m new : Seen) (tally : Tally) → Takes gate (take (2 + length text) given) flow.On m new
    → 2 + length text ≤ length given → text ≡ drop 2 (take (2 + length text) given) → m.phase ≡ phase.Length2 → CanPass m given
    → TellsText gate given text m tally new tally
unfolding TellsText
text_tells gate text given m new tally t enough bytes ep can = λ tokens cut st.
    let s : State = settled (left begin_state tokens) in
    let so = machine_stands gate tokens cut m tally st in
    let w = whole_open phase.Length2 m ep (omega arith) in
    let o = is_open phase.Length2 m s cut so.stands w.0 (omega arith) in
    let none : cut ≡ [] = o.cut_is ∙ w.1 in
    record {
      none = none;
      label = label_of s;
      comes = comes_next gate tokens cut m tally st;
      is_text = subst (λ p. OpenItems p cut (items_at (label_of s).position)) w.0 (stands_items m.phase m (left begin_state tokens) cut so.stands);
      bytes = bytes;
      ends =
          subst (λ c. TokenEnds gate tokens (label_of s) (c ++ take (2 + length text) given) new tally) none
          (token_ended gate given given (2 + length text) m new tally tally tokens cut st can.within enough can.all_bytes t
          (sym (quiet_next m (get_or (take (2 + length text) given) 0 0) tally (subst IsQuiet (sym ep) tt))));
    }

-- its tag counts the same after its handle was assigned
pub string_counts : (old mid : Seen) (before after : Tally) → AssignsText true old mid → CountsNext mid 0x74 before after → CountsNext old 0x74 before after
unfolding AssignsText tag_from
string_counts old mid before after assigns h = subst (λ r. CountsNext r 0x74 before after) assigns.1 h

pub string_tells : (gate : Gate) (len : ℕ) (piece text : List ℕ) (old mid far new : Seen) (before after : Tally) → IsGate gate → CanPass old piece → IsPlace old.phase
    → 0x74 ≡ get_or piece 0 0 → HasText piece len → HasPlace old → AssignsText true old mid
    → far ≡ placed mid (len + 3) → Comes far new (after_value far) → CountsNext old 0x74 before after
    → text ≡ take len (drop 3 piece) → TellsString gate piece text old before new after
unfolding AssignsText
string_tells gate len piece text old mid far new before after g can i first h p assigns ef end counted is =
    let comes : Comes (placed mid (len + 3)) new (after_value (placed mid (len + 3))) = subst (λ r. Comes r new (after_value r)) ef end in
    let enough = h.within in
    let m : Seen = begun_string old in
    let k : Seen = added old text_entry in
    let rest : List ℕ = drop 1 piece in
    let n = length-drop 1 piece in
    let n3 = length-drop 3 piece in
    let size : length (take (2 + len) rest) ≡ 2 + len = length-take-le (2 + len) rest (omega arith) in
    let long : length text ≡ len = ap length is ∙ length-take-le len (drop 3 piece) (omega arith) in
    let e : 2 + len + 1 ≡ len + 3 = omega arith in
    let come : Comes (placed k (2 + len + 1)) new (after_value (placed k (2 + len + 1))) =
    subst (λ b. Comes (placed k b) new (after_value (placed k b))) (sym e) (subst (λ r. Comes (placed r (len + 3)) new (after_value (placed r (len + 3)))) assigns.1 comes) in
    let ends : Comes (farther m (2 + len)) new (after_value (farther m (2 + len))) =
    same_end (placed k (2 + len + 1)) (farther m (2 + len)) new come (same_meter old (2 + len)) refl refl refl refl in
    let body : Takes gate (take (2 + len) rest) flow.On m new =
    short_text_taken gate m (farther m (2 + len)) new (take (2 + len) rest) h.units
    (λ inside. value_ends gate flow.On (farther m (2 + len)) new ends refl refl h.units (record { inside = inside; kept = λ checked. absurd (cc) }))
    refl (omega arith) (counts_bytes (take (2 + len) rest) (2 + len) m (farther m (2 + len)) refl size) h.are_text h.spelled in
    let all = length-append old.table.entries (text_entry ∷ []) in
    record {
      within = omega arith;
      between = m;
      tag = tag_tells gate value.String piece old m before after g can i (omega arith) first (string_begins old p assigns.0) counted;
      assigned = are_assigned gate (suc (length old.table.entries)) m after (omega arith);
      body =
          text_tells gate text rest m new after (subst (λ j. Takes gate (take (2 + j) rest) flow.On m new) (sym long) body) (omega arith)
          (is ∙ text_bytes piece len (omega arith) ∙ ap (λ j. drop 2 (take (2 + j) rest)) (sym long)) refl (rest_can piece old m can (omega arith) refl refl);
      tells =
          subst (λ j. PassTells gate piece (Some (j + 3)) old before new after) (sym long)
          (string_passes gate len piece old mid far new before after g can i first h p assigns ef end counted).tells;
    }

-- ---- the beginning of what has a class

makes_class_tag : (piece : List ℕ) → 0x71 ≡ get_or piece 0 0 → 0 < length piece → MakesItem phase.ClassTag [] (take 1 piece) (item.Tag 0x71)
unfolding MakesItem
makes_class_tag piece is some = λ _. ap item.Tag (one_number piece 0x71 is some)

makes_class_handle : (piece : List ℕ) (n : ℕ) → n < 2 ^ 32 → big_bytes 4 n ≡ take 4 piece → MakesItem phase.ClassHandle [] (take 4 piece) (item.Handle n)
unfolding MakesItem
makes_class_handle piece n small spelled = λ _. ap item.Handle (sym (number_4 n small) ∙ ap number_of spelled)

pub owner_told : (gate : Gate) (o : Owner) (n : ℕ) (found : Flow) (piece : List ℕ) (old mid new : Seen) (before after : Tally) → IsGate gate → CanPass old piece
    → IsPlace old.phase → tag_byte (view_tag (tag_of_owner o)) ≡ get_or piece 0 0 → HasReference piece n → n < 2 ^ 32 → HasPlace old
    → mid ≡ with_class o old → TellsClass n found mid new → CountsNext old (tag_byte (view_tag (tag_of_owner o))) before after
    → OwnerCases gate piece (get_or piece 0 0) n found old before new after
owner_told gate o n flow.Stopped piece old mid new before after g can i first h small p em told count =
    owner_passes gate o n flow.Stopped piece old mid new before after g can i first h small p em told count
owner_told gate o n flow.On piece old mid new before after g can i first h small p em told count =
    let enough = h.within in
    let m : Seen = begun_owner o old in
    let k : Seen = at_class m in
    let rest : List ℕ = drop 1 piece in
    let last : List ℕ = drop 1 rest in
    let l = length-drop 1 piece in
    let r = length-drop 1 rest in
    let can_m : CanPass m rest = rest_can piece old m can (omega arith) refl refl in
    let can_k : CanPass k last = rest_can rest m k can_m (omega arith) refl refl in
    let spelled : big_bytes 4 n ≡ take 4 last = h.spelled ∙ ap (take 4) (two_on piece) in
    let class : TellsClass n flow.On (farther k 4) new = subst (λ r. TellsClass n flow.On r new) (em ∙ same_class o old) told in
    record {
      within = h.within;
      first = m;
      second = k;
      own =
          subst (λ b. TellsItems gate piece (Ok (step.Item (item.Tag b) 1)) old before m after) first
          (tag_tells gate (tag_of_owner o) piece old m before after g can i (omega arith) first (owner_begins o old p) count);
      assigned = are_assigned gate (length old.table.entries) m after refl;
      place =
          quiet_tells gate (item.Tag 0x71) 1 rest m k after
          (one_taken 0x71 flow.On (taken.Ended 1) rest m k (class_tag_taken m refl) refl (second_is piece 0x71 h.tag) (omega arith) tt gate)
          tt can_m (makes_class_tag rest (second_is piece 0x71 h.tag) (omega arith));
      assigned_then = are_assigned gate (length old.table.entries) k after refl;
      number =
          quiet_tells gate (item.Handle n) 4 last k new after
          (four_taken n flow.On (taken.Ended 4) last (take 4 last) k new
          (takes_class_handle n 4 flow.On k (farther k 4) new class refl refl (omega arith) small)
          refl tt spelled refl (omega arith) gate)
          tt can_k (makes_class_handle last n small spelled);
      tells = (owner_passes gate o n flow.On piece old mid new before after g can i first h small p em told count).tells;
    }
