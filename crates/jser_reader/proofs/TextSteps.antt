-- The length of a text and its bytes, and the walk over them.
use Rattle.std.proofs.Common.{◌≡◌, ℕ, zero, suc, ◌+◌, ◌-◌, ◌^◌, ◌<◌, ◌≤◌, Bool, true, false, List, [], ◌∷◌, ◌++◌, length, take, Some, refl, sym, ◌∙◌, ap, ap₂, subst, arith, append_assoc, append-nil, length-append, length-take-le, inl, inr}
use Rattle.jser_prim.specs.Bytes.{big_bytes}
use Rattle.jser_prim.specs.ModifiedUtf8.{modified_utf8}
use Rattle.jser_prim.specs.Texts.{BeginsText, FaultsAfter}
use Rattle.jser_prim.proofs.ScanLemmas.{accepts_text}
use Rattle.jser_grammar.specs.Parts.{IsText, text_bound}
use Rattle.jser_reading.specs.Labels.{text_token, Label}
use Rattle.jser_reading.specs.TokensFromBytes.{head_size}
use Rattle.jser_reading.specs.Goals.{State, settled}
use Rattle.jser_reading.specs.Accepts.{label_of}
use Rattle.jser_reading.specs.Machine.{advance}
use Rattle.jser_reading.specs.Scanner.{more, IsUndecided}
use Rattle.jser_reading.proofs.Decoding.{length-big_bytes}
use Rattle.jser_verdict.specs.Reasons.{bad_text, negative_length}
use Rattle.jser_verdict.specs.Gates.{Gate}
use Rattle.jser_verdict.specs.Verdicts.{reason_at, verdict}
use Rattle.jser_reader.specs.declared.machine.flow.Flow.{Flow}
use Rattle.jser_reader.specs.declared.machine.flow.Flow.TheVariants as flow
use Rattle.jser_reader.specs.declared.phase.Phase.TheVariants as phase
use Rattle.jser_reader.specs.declared.phase.TextFor.{TextFor}
use Rattle.jser_reader.specs.declared.phase.TextFor.TheVariants as text
use Rattle.jser_reader.specs.Readers.{Seen, moment_of, text_goal, text_rest, IsForm, IsInside, ReadyAt, length_phase}
use Rattle.jser_reader.specs.Handlers.{Tells, TellsSurely}
use Rattle.jser_reader.specs.TextStates.{text_reason_of, text_reason, text_state_of, after_text, EndsText}
use Rattle.jser_reader.specs.Walks.{size_of_phase, IsRightSoFar, CutStands, HasRead, HasReadAfter, TextStands, StandsAt, Stands, Took, Takes, Keeps, Counts, open_phase, cut_of}
use Rattle.jser_reader.proofs.WalkLemmas.{before_last, walk_open}
use Rattle.jser_reader.proofs.StandLemmas.{LeadsTo, tells_surely, surely_goes_on, judged}
use Rattle.jser_reader.proofs.PhaseLemmas.{text_position, IsTextOf, text_is, is_open, whole_open, ready_counted, counted_is}
use Rattle.jser_reader.proofs.FixedWalks.{limits_counted}
use Rattle.jser_reader.proofs.TextWalks.{IsTextAt, name_reason, no_head, spelled, spelled_undecided, spelled_reason, spelled_found, with_length, begun_undecided, begun_more, fault_reason, negative_reason}

-- ---- the text that is open

-- the length of a text is open, or its bytes
pub record TextOpen (r : Seen) (s : State) (long : Bool) : Type 0 where
  pub form : IsForm r.text long
  pub inside : IsInside r.text r.frames
  pub is : settled s ≡ (moment_of r, text_goal r r.text long ∷ text_rest r r.text)

short_form : (t : TextFor) → IsForm t false
short_form text.Value = tt
short_form text.FieldType = tt
short_form (text.FieldName is_object) = tt
short_form text.ClassName = tt
short_form text.InterfaceName = tt

pub length_open : (long : Bool) (r : Seen) (s : State) → ReadyAt (length_phase long) r (settled s) → TextOpen r s long
length_open false r s h = record { form = short_form r.text; inside = h.0; is = h.1 }
length_open true r s h = record { form = h.0; inside = h.1; is = h.2 }

pub text_of : (r : Seen) (s : State) (long : Bool) → TextOpen r s long → IsTextOf r long (settled s)
text_of r s long o = text_is r long s o.form o.is

-- it is the same text after bytes were counted
same_text : (bytes : List ℕ) (old mid : Seen) (s : State) (long : Bool) → Counts bytes old mid → TextOpen old s long → TextOpen mid s long
same_text bytes old mid s long c o =
    subst (λ r. TextOpen r s long) (sym (counted_is bytes old mid c)) (record { form = o.form; inside = o.inside; is = o.is })

-- where its end leads
text_goes : (t : TextFor) (r : Seen) (long : Bool) (units : List ℕ) → (t ≡ text.InterfaceName → 0 < r.header.interfaces)
    → settled (advance (moment_of r, text_goal r t long ∷ text_rest r t) (text_token long units)) ≡ text_state_of r t units
text_goes text.Value r long units k = refl
text_goes text.FieldType r long units k = refl
text_goes (text.FieldName is_object) r long units k = refl
text_goes text.ClassName r long units k = refl
text_goes text.InterfaceName r long units k = go r.header.interfaces refl (k refl)
  where
    go : (n : ℕ) → r.header.interfaces ≡ n → 0 < r.header.interfaces
        → settled (advance (moment_of r, text_goal r text.InterfaceName long ∷ text_rest r text.InterfaceName) (text_token long units))
        ≡ text_state_of r text.InterfaceName units
    go zero e h = absurd (omega arith)
    go (suc n) e h = let d : suc n - 1 ≡ n = omega arith in rw (e, d) refl

same_reason : (gate : Gate) (r : Seen) (t : TextFor) (long : Bool) (units : List ℕ) → name_reason gate (text_position r t long) units ≡ text_reason_of gate r t units
same_reason gate r text.Value long units = refl
same_reason gate r text.FieldType long units = refl
same_reason gate r (text.FieldName is_object) long units = refl
same_reason gate r text.ClassName long units = refl
same_reason gate r text.InterfaceName long units = refl

-- ---- a whole text

whole_taken : (gate : Gate) (found : Flow) (old mid new : Seen) (s : State) (cut taken : List ℕ) (long : Bool) (units : List ℕ)
    → (IsInside mid.text mid.frames → TellsSurely (text_reason gate mid units) (after_text mid units) found mid new)
    → Stands gate old (settled s) cut → Counts taken old mid → 0 < length taken
    → TextOpen old s long → IsText long units → spelled long units ≡ cut ++ taken
    → Took gate s cut taken found old new
unfolding after_text
whole_taken gate found old mid new s cut taken long units h st c some o t e =
    let om = same_text taken old mid s long c o in
    let told = tells_surely (text_reason gate mid units) (after_text mid units) found mid new (h om.inside) in
    let i = text_of mid s long om in
    let f = spelled_found (label_of (settled s)) long units i.is_text t in
    judged gate (text_reason gate mid units) (after_text mid units) found old mid new s cut taken told st c some
    (subst (λ bytes. IsUndecided (verdict gate) (label_of (settled s)) bytes) e (spelled_undecided gate (label_of (settled s)) long units i.is_text t))
    (subst (λ bytes. reason_at gate (label_of (settled s)) (label_of (settled s)).position bytes ≡ text_reason gate mid units) e
    (spelled_reason gate (label_of (settled s)) long units i.is_text t ∙ ap (λ w. name_reason gate w units) i.position ∙ same_reason gate mid mid.text long units))
    (λ _. subst (λ bytes. LeadsTo (settled s) bytes (after_text mid units)) e (record {
      token = text_token long units;
      enough = f.0;
      found = f.1;
      goes = ap (λ t. settled (advance t (text_token long units))) om.is ∙ text_goes mid.text mid long units i.some;
    }))
    (λ stops none _. surely_goes_on (text_reason gate mid units) (after_text mid units) found mid new (h om.inside) stops none)

-- ---- the length

pub size_of_length : (long : Bool) → size_of_phase (length_phase long) ≡ head_size long
size_of_length false = refl
size_of_length true = refl

length_some : (long : Bool) → 0 < size_of_phase (length_phase long)
length_some false = omega arith
length_some true = omega arith

head_undecided : (g : Gate) (l : Label) (long : Bool) (bytes : List ℕ) → IsTextAt long l.position → length bytes ≤ head_size long
    → IsUndecided (verdict g) l bytes
head_undecided g l long bytes i k a c d e =
    let n : length bytes ≡ length a + suc (length d) = ap length e ∙ length-append a (c ∷ d) in
    no_head g l long a i (omega arith)

right_length : (long : Bool) (a : List ℕ) → IsRightSoFar (length_phase long) a
right_length false a = tt
right_length true a = tt

-- the length is cut, or cut again
pub length_kept : (gate : Gate) (long : Bool) (old new : Seen) (piece : List ℕ)
    → new.phase ≡ phase.Cut → new.meter.cut_phase ≡ length_phase long → new.meter.kept ≡ cut_of old ++ piece
    → open_phase old ≡ length_phase long → 0 < length (cut_of old ++ piece) → length (cut_of old ++ piece) < head_size long
    → Counts piece old new → Keeps gate piece old new
unfolding Keeps
length_kept gate long old new piece ep ec ek eo some short c = λ s cut st.
    let o = is_open (length_phase long) old (settled s) cut st.stands eo (length_some long) in
    let i = text_of old s long (length_open long old s o.ready) in
    let is : cut ++ piece ≡ cut_of old ++ piece = ap (λ x. x ++ piece) o.cut_is in
    let n : length (cut ++ piece) < head_size long = rw is short in
    let n2 : length (cut ++ piece) ≡ length cut + length piece = length-append cut piece in
    let a = c.at in
    let f = c.from in
    let k = st.counts in
    let cs : CutStands new (settled s) (cut ++ piece) = record {
      ready = subst (λ q. ReadyAt q new (settled s)) (sym ec) (ready_counted (length_phase long) piece old new (settled s) c (length_some long) o.ready);
      cut_is = is ∙ sym ek;
      some = rw is some;
      short = subst (λ q. length (cut ++ piece) < size_of_phase q) (sym ec) (rw (size_of_length long) n);
      right = subst (λ q. IsRightSoFar q (cut ++ piece)) (sym ec) (right_length long (cut ++ piece));
    } in
    record {
      walks = walk_open (verdict gate) s piece cut (head_undecided gate (label_of (settled s)) long (cut ++ piece) i.is_text (omega arith))
          (no_head gate (label_of (settled s)) long (cut ++ piece) i.is_text n);
      stands = record {
        limits_are = limits_counted gate piece old new c st.limits_are;
        stands = subst (λ q. StandsAt q new (settled s) (cut ++ piece)) (sym ep) cs;
        counts = omega arith;
      };
      at = c.at;
    }

-- the length of a text with no bytes ends it
pub empty_text_taken : (gate : Gate) (long : Bool) (found : Flow) (old mid new : Seen) (taken : List ℕ)
    → (IsInside mid.text mid.frames → TellsSurely (text_reason gate mid []) (after_text mid []) found mid new)
    → open_phase old ≡ length_phase long → 0 < length taken → big_bytes (head_size long) 0 ≡ cut_of old ++ taken
    → Counts taken old mid
    → Takes gate taken found old new
unfolding Takes
empty_text_taken gate long found old mid new taken h eo some e c = λ s cut st.
    let o = is_open (length_phase long) old (settled s) cut st.stands eo (length_some long) in
    whole_taken gate found old mid new s cut taken long [] h st c some (length_open long old s o.ready) (empty long)
    (append-nil (big_bytes (head_size long) 0) ∙ e ∙ ap (λ x. x ++ taken) (sym o.cut_is))
  where
    empty : (long : Bool) → IsText long []
    empty false = (refl, omega arith)
    empty true = (refl, omega arith)

-- the length of a text and its bytes, all at once
pub short_text_found : (gate : Gate) (found : Flow) (old mid new : Seen) (taken units : List ℕ)
    → (IsInside mid.text mid.frames → TellsSurely (text_reason gate mid units) (after_text mid units) found mid new)
    → old.phase ≡ phase.Length2 → 0 < length taken → Counts taken old mid → IsText false units → spelled false units ≡ taken → Takes gate taken found old new
unfolding Takes
short_text_found gate found old mid new taken units h ep some c t e = λ s cut st.
    let w = whole_open phase.Length2 old ep (omega arith) in
    let o = is_open phase.Length2 old (settled s) cut st.stands w.0 (omega arith) in
    whole_taken gate found old mid new s cut taken false units h st c some (length_open false old s o.ready) t
    (e ∙ ap (λ xs. xs ++ taken) (sym (o.cut_is ∙ w.1)))

pub short_text_taken : (gate : Gate) (old mid new : Seen) (taken units : List ℕ)
    → (IsInside mid.text mid.frames → TellsSurely (text_reason gate mid units) (after_text mid units) flow.On mid new)
    → old.phase ≡ phase.Length2 → 0 < length taken → Counts taken old mid → IsText false units → spelled false units ≡ taken → Takes gate taken flow.On old new
short_text_taken gate old mid new taken units h ep some c t e = short_text_found gate flow.On old mid new taken units h ep some c t e

-- the bytes of a text come next
pub text_opened : (gate : Gate) (long : Bool) (len : ℕ) (old new : Seen) (taken : List ℕ)
    → new.phase ≡ phase.Text → HasRead new len [] [] → 0 < len → len < text_bound long
    → open_phase old ≡ length_phase long → big_bytes (head_size long) len ≡ cut_of old ++ taken
    → Counts taken old new → Keeps gate taken old new
unfolding Keeps
text_opened gate long len old new taken ep read some bound eo e c = λ s cut st.
    let o = is_open (length_phase long) old (settled s) cut st.stands eo (length_some long) in
    let to = length_open long old s o.ready in
    let tn = same_text taken old new s long c to in
    let i = text_of old s long to in
    let is : cut ++ taken ≡ with_length long len [] =
    ap (λ x. x ++ taken) o.cut_is ∙ sym e ∙ sym (append-nil (big_bytes (head_size long) len)) in
    let n2 : length (cut ++ taken) ≡ length cut + length taken = length-append cut taken in
    let a = c.at in
    let f = c.from in
    let k = st.counts in
    let ts : TextStands new (settled s) (cut ++ taken) = record {
      long = long;
      len = len;
      before = [];
      units = [];
      form = tn.form;
      inside = tn.inside;
      is = tn.is;
      bound = bound;
      cut_is = is;
      read = read;
      goes_on = some;
    } in
    record {
      walks = walk_open (verdict gate) s taken cut
          (subst (λ bytes. IsUndecided (verdict gate) (label_of (settled s)) bytes) (sym is)
          (begun_undecided gate (label_of (settled s)) long len [] i.is_text bound read.accepted.begins))
          (subst (λ bytes. verdict gate (label_of (settled s)) bytes ≡ more) (sym is)
          (begun_more gate (label_of (settled s)) long len [] i.is_text bound read.accepted.begins some));
      stands = record {
        limits_are = limits_counted gate taken old new c st.limits_are;
        stands = subst (λ q. StandsAt q new (settled s) (cut ++ taken)) (sym ep) ts;
        counts = omega arith;
      };
      at = c.at;
    }

-- a long length whose highest bit is set
pub negative_taken : (gate : Gate) (n : ℕ) (next : State) (found : Flow) (old mid new : Seen) (taken : List ℕ)
    → Tells (Some negative_length) next found mid new → 2 ^ 63 ≤ n → n < 2 ^ 64
    → open_phase old ≡ phase.Length8 → 0 < length taken → big_bytes 8 n ≡ cut_of old ++ taken
    → Counts taken old mid
    → Takes gate taken found old new
unfolding Takes
negative_taken gate n next found old mid new taken h lo hi eo some e c = λ s cut st.
    let o = is_open phase.Length8 old (settled s) cut st.stands eo (omega arith) in
    let i = text_of old s true (length_open true old s o.ready) in
    let is : big_bytes 8 n ≡ cut ++ taken = e ∙ ap (λ x. x ++ taken) (sym o.cut_is) in
    let k : length (cut ++ taken) ≡ 8 = sym (ap length is) ∙ length-big_bytes 8 n in
    judged gate (Some negative_length) next found old mid new s cut taken h st c some
    (head_undecided gate (label_of (settled s)) true (cut ++ taken) i.is_text (omega arith))
    (subst (λ bytes. reason_at gate (label_of (settled s)) (label_of (settled s)).position bytes ≡ Some negative_length) is
    (negative_reason gate (label_of (settled s)) n i.is_text lo hi))
    (λ x. absurd (cc)) (λ _ none. absurd (cc))

-- ---- the bytes

text_stands : (r : Seen) (s : State) (cut : List ℕ) → r.phase ≡ phase.Text → StandsAt r.phase r (settled s) cut → TextStands r (settled s) cut
text_stands r s cut ep h = subst (λ p. StandsAt p r (settled s) cut) ep h

text_open : (r : Seen) (s : State) (cut : List ℕ) (x : TextStands r (settled s) cut) → TextOpen r s x.long
text_open r s cut x = record { form = x.form; inside = x.inside; is = x.is }

with_more : (long : Bool) (len : ℕ) (cut before taken : List ℕ) → cut ≡ with_length long len before → cut ++ taken ≡ with_length long len (before ++ taken)
with_more long len cut before taken e = ap (λ x. x ++ taken) e ∙ append_assoc (big_bytes (head_size long) len) before taken

-- the text goes on with them
pub text_kept : (gate : Gate) (old new : Seen) (piece : List ℕ)
    → old.phase ≡ phase.Text → new.phase ≡ phase.Text
    → ((len : ℕ) (before units : List ℕ) → HasRead old len before units → HasReadAfter new len (before ++ piece) units)
    → 0 < new.scan.left → Counts piece old new → Keeps gate piece old new
unfolding Keeps
text_kept gate old new piece ep en push left c = λ s cut st.
    let x = text_stands old s cut ep st.stands in
    let y = push x.len x.before x.units x.read in
    let to = text_open old s cut x in
    let tn = same_text piece old new s x.long c to in
    let i = text_of old s x.long to in
    let is = with_more x.long x.len cut x.before piece x.cut_is in
    let counted = y.read.accepted.counted in
    let short : length (x.before ++ piece) < x.len = omega arith in
    let n2 : length (cut ++ piece) ≡ length cut + length piece = length-append cut piece in
    let a = c.at in
    let f = c.from in
    let k = st.counts in
    let ts : TextStands new (settled s) (cut ++ piece) = record {
      long = x.long;
      len = x.len;
      before = x.before ++ piece;
      units = x.units ++ y.more;
      form = tn.form;
      inside = tn.inside;
      is = tn.is;
      bound = x.bound;
      cut_is = is;
      read = y.read;
      goes_on = short;
    } in
    record {
      walks = walk_open (verdict gate) s piece cut
          (subst (λ bytes. IsUndecided (verdict gate) (label_of (settled s)) bytes) (sym is)
          (begun_undecided gate (label_of (settled s)) x.long x.len (x.before ++ piece) i.is_text x.bound y.read.accepted.begins))
          (subst (λ bytes. verdict gate (label_of (settled s)) bytes ≡ more) (sym is)
          (begun_more gate (label_of (settled s)) x.long x.len (x.before ++ piece) i.is_text x.bound y.read.accepted.begins short));
      stands = record {
        limits_are = limits_counted gate piece old new c st.limits_are;
        stands = subst (λ q. StandsAt q new (settled s) (cut ++ piece)) (sym en) ts;
        counts = omega arith;
      };
      at = c.at;
    }

-- they end the text
pub text_taken : (gate : Gate) (found : Flow) (old mid new : Seen) (taken : List ℕ)
    → ((units : List ℕ) → EndsText mid units → TellsSurely (text_reason gate mid units) (after_text mid units) found mid new)
    → old.phase ≡ phase.Text → (0 < old.scan.left → 0 < length taken)
    → ((len : ℕ) (before units : List ℕ) → HasRead old len before units → HasReadAfter mid len (before ++ taken) units)
    → mid.scan.left ≡ 0 → Counts taken old mid
    → Takes gate taken found old new
unfolding Takes
text_taken gate found old mid new taken h ep some push left c = λ s cut st.
    let x = text_stands old s cut ep st.stands in
    let y = push x.len x.before x.units x.read in
    let counted = y.read.accepted.counted in
    let first = x.read.accepted.counted in
    let goes_on = x.goes_on in
    let whole : length (x.before ++ taken) ≡ x.len = omega arith in
    let units : List ℕ = x.units ++ y.more in
    let text : x.before ++ taken ≡ modified_utf8 units = accepts_text x.len (x.before ++ taken) units mid.scan y.read.accepted whole in
    let size : length (modified_utf8 units) ≡ x.len = sym (ap length text) ∙ whole in
    let bound = x.bound in
    whole_taken gate found old mid new s cut taken x.long units (λ inside. h units (record { inside = inside; kept = y.read.kept })) st c (some (omega arith)) (text_open old s cut x)
    (y.read.accepted.are_units, omega arith)
    (ap₂ (λ n bytes. big_bytes (head_size x.long) n ++ bytes) size (sym text) ∙ sym (with_more x.long x.len cut x.before taken x.cut_is))

-- no text of its length goes on with the last of them

pub take_last : (n : ℕ) (xs : List ℕ) → n < length xs → (b : ℕ) × (take (suc n) xs ≡ take n xs ++ (b ∷ []))
take_last n [] h = absurd (omega arith)
take_last zero (x ∷ xs) h = (x, refl)
take_last (suc n) (x ∷ xs) h = let r = take_last n xs (omega arith) in (r.0, ap (λ z. x ∷ z) r.1)

-- only the last of these bytes decides
last_undecided : (g : Gate) (l : Label) (long : Bool) (len : ℕ) (body : List ℕ) (b : ℕ) → IsTextAt long l.position → len < text_bound long
    → BeginsText len body → length body < len → IsUndecided (verdict g) l (with_length long len (body ++ (b ∷ [])))
last_undecided g l long len body b i k t short a c d e =
    elim (before_last (with_length long len body) b a c d (append_assoc (big_bytes (head_size long) len) body (b ∷ []) ∙ e)) [
      | inl h ↦ subst (λ bytes. verdict g l bytes ≡ more) (sym h) (begun_more g l long len body i k t short)
      | inr h ↦ begun_undecided g l long len body i k t a c h.0 h.1
    ]

bad_text_last : (gate : Gate) (next : State) (found : Flow) (old mid new : Seen) (s : State) (cut front taken : List ℕ) (b : ℕ) (x : TextStands old (settled s) cut)
    → Tells (Some bad_text) next found mid new → Stands gate old (settled s) cut → Counts taken old mid
    → taken ≡ front ++ (b ∷ []) → length (x.before ++ taken) ≤ x.len → BeginsText x.len (x.before ++ front) → (BeginsText x.len (x.before ++ taken) → ⊥)
    → Took gate s cut taken found old new
bad_text_last gate next found old mid new s cut front taken b x h st c et size t none =
    let i = text_of old s x.long (text_open old s cut x) in
    let is = with_more x.long x.len cut x.before taken x.cut_is in
    let eb : x.before ++ taken ≡ (x.before ++ front) ++ (b ∷ []) = ap (λ z. x.before ++ z) et ∙ sym (append_assoc x.before front (b ∷ [])) in
    let n : length (x.before ++ taken) ≡ length (x.before ++ front) + 1 = ap length eb ∙ length-append (x.before ++ front) (b ∷ []) in
    let m : length taken ≡ length front + 1 = ap length et ∙ length-append front (b ∷ []) in
    judged gate (Some bad_text) next found old mid new s cut taken h st c (omega arith)
    (subst (λ bytes. IsUndecided (verdict gate) (label_of (settled s)) bytes) (sym (is ∙ ap (with_length x.long x.len) eb))
    (last_undecided gate (label_of (settled s)) x.long x.len (x.before ++ front) b i.is_text x.bound t (omega arith)))
    (subst (λ bytes. reason_at gate (label_of (settled s)) (label_of (settled s)).position bytes ≡ Some bad_text) (sym is)
    (fault_reason gate (label_of (settled s)) x.long x.len (x.before ++ taken) i.is_text x.bound size none))
    (λ e. absurd (cc)) (λ _ refused. absurd (cc))

pub bad_text_taken : (gate : Gate) (next : State) (found : Flow) (old mid new : Seen) (piece : List ℕ) (accepted : ℕ)
    → Tells (Some bad_text) next found mid new
    → old.phase ≡ phase.Text → length piece ≤ old.scan.left
    → ((len : ℕ) (before units : List ℕ) → HasRead old len before units → FaultsAfter len before piece accepted)
    → Counts (take (accepted + 1) piece) old mid
    → Takes gate (take (accepted + 1) piece) found old new
unfolding Takes
bad_text_taken gate next found old mid new piece accepted h ep within push c = λ s cut st.
    let x = text_stands old s cut ep st.stands in
    let y = push x.len x.before x.units x.read in
    let r = take_last accepted piece y.within in
    let one : accepted + 1 ≡ suc accepted = omega arith in
    let split : take (accepted + 1) piece ≡ take accepted piece ++ (r.0 ∷ []) = ap (λ k. take k piece) one ∙ r.1 in
    let counted = x.read.accepted.counted in
    let inside = y.within in
    let n : length (take (accepted + 1) piece) ≡ accepted + 1 = length-take-le (accepted + 1) piece (omega arith) in
    let m : length (x.before ++ take (accepted + 1) piece) ≡ length x.before + length (take (accepted + 1) piece) = length-append x.before (take (accepted + 1) piece) in
    bad_text_last gate next found old mid new s cut (take accepted piece) (take (accepted + 1) piece) r.0 x h st c split (omega arith) y.begins y.fault
