-- What is wrong with a place, a handle or a length.
use Rattle.std.proofs.Common.{◌≡◌, ℕ, zero, suc, ◌-◌, ◌^◌, ◌<◌, ◌≤◌, Bool, true, false, not, nat_le, nat_lt, List, [], ◌∷◌, length, slice_get, Option, Some, None, option_map, is_some, inl, inr, refl, sym, ◌∙◌, ap, subst, arith}
use Rattle.std.proofs.lemmas.Bool.Decides.{nat_tests}
use Rattle.jser_table.specs.declared.class.Class.TheVariants as class
use Rattle.jser_table.specs.declared.layer.Fit.{Fit}
use Rattle.jser_table.specs.declared.layer.Fit.TheVariants as fit
use Rattle.jser_table.specs.Chains.{chain_in}
use Rattle.jser_table.specs.Entries.{TableEntry, text_entry, other_entry, pending_entry, closed_entry, is_pending, is_text}
use Rattle.jser_table.specs.Tables.{TableView, IsClass}
use Rattle.jser_reading.specs.Goals.{State}
use Rattle.jser_verdict.specs.ClassRows.{fit_at, fit_of_owner, is_wrong, is_raw, is_unserial}
use Rattle.jser_verdict.specs.HandleRows.{is_no_handle, is_no_descriptor, is_no_text, entry_named}
use Rattle.jser_verdict.specs.Reasons.{Reason, depth_exceeded, refs_exceeded, no_such_handle, wrong_kind, open_descriptor, wrong_class, external_raw, not_serializable, negative_length, array_exceeded}
use Rattle.jser_verdict.specs.Verdicts.{told_if, array_reason}
use Rattle.jser_reader.specs.declared.frame.Owner.{Owner}
use Rattle.jser_reader.specs.declared.machine.flow.Flow.{Flow}
use Rattle.jser_reader.specs.declared.machine.flow.Flow.TheVariants as flow
use Rattle.jser_reader.specs.declared.refusal.Reason.{Reason as CodeReason}
use Rattle.jser_reader.specs.declared.refusal.Reason.TheVariants as reason
use Rattle.jser_reader.specs.Frames.{goal_owner}
use Rattle.jser_reader.specs.Handlers.{refusal, plain_gate, StopsWith, Tells}
use Rattle.jser_reader.specs.Readers.{Seen}
use Rattle.jser_reader.specs.Reasons.{named}
use Rattle.jser_reader.specs.Rules.{fit_reason, is_deep, is_one_too_many, with_closed, with_fit, with_limits, with_text, IsClassOf, IsClosed, IsTextHandle}
use Rattle.jser_reader.specs.Wholes.{HasPlace}
use Rattle.jser_reader.proofs.EndLemmas.{tells_refusal}

-- a refusal for the first of these reasons, where others may come after them
pub tells_first : (few told : Option Reason) (why : CodeReason) (s : State) (b : Flow) (old new : Seen) → Some why ≡ option_map named few → ((k : Reason) → few ≡ Some k → told ≡ Some k)
    → StopsWith (refusal old.meter why) old new → b ≡ flow.Stopped → Tells told s b old new
tells_first None told why s b old new e on h eb = absurd (cc)
tells_first (Some k) told why s b old new e on h eb =
    let is : why ≡ named k = cc in tells_refusal k told s b old new (subst (λ w. StopsWith (refusal old.meter w) old new) is h) eb (on k refl)

-- ---- places

pub deep : (r : Seen) → r.meter.limits.depth ≤ length r.frames → Some reason.DepthExceeded ≡ option_map named (with_limits r None)
deep r le = let is : is_deep r ≡ true = grind (arith, nat_tests) in rw is refl

pub many : (r : Seen) → (r.meter.limits.depth ≤ length r.frames → ⊥) → r.meter.limits.refs ≤ r.refs → Some reason.RefsExceeded ≡ option_map named (with_limits r None)
many r shallow le =
    let first : is_deep r ≡ false = grind (arith, nat_tests) in
    let is : is_one_too_many r ≡ true = grind (arith, nat_tests) in rw first (rw is refl)

pub no_limit : (r : Seen) → (r.meter.limits.depth ≤ length r.frames → ⊥) → (r.meter.limits.refs ≤ r.refs → ⊥) → None ≡ option_map named (with_limits r None)
no_limit r shallow few =
    let first : is_deep r ≡ false = grind (arith, nat_tests) in
    let second : is_one_too_many r ≡ false = grind (arith, nat_tests) in rw first (rw second refl)

pub has_place : (r : Seen) → None ≡ option_map named (with_limits r None) → HasPlace r
has_place r e = go (is_deep r) (is_one_too_many r) refl refl e
  where
    go : (d m : Bool) → is_deep r ≡ d → is_one_too_many r ≡ m → None ≡ option_map named (told_if d depth_exceeded (told_if m refs_exceeded None)) → HasPlace r
    go true m ed em e = absurd (cc)
    go false true ed em e = absurd (cc)
    go false false ed em e = record { shallow = grind (arith, nat_tests); few = grind (arith, nat_tests) }

-- ---- handles

pub low_handle : (T : List TableEntry) (n : ℕ) → n < 0x7E0000 → false ≡ not (is_no_handle T n)
low_handle T n l = let is : is_no_handle T n ≡ true = grind (arith, nat_tests) in rw is refl

pub other_handle : (T : List TableEntry) (n count : ℕ) → count ≡ length T → (n < 0x7E0000 → ⊥) → nat_lt (n - 0x7E0000) count ≡ not (is_no_handle T n)
other_handle T n count e low = go (nat_lt (n - 0x7E0000) count) refl
  where
    go : (b : Bool) → nat_lt (n - 0x7E0000) count ≡ b → b ≡ not (is_no_handle T n)
    go true eb = let is : is_no_handle T n ≡ false = grind (arith, nat_tests) in rw is refl
    go false eb = let is : is_no_handle T n ≡ true = grind (arith, nat_tests) in rw is refl

pub assigned : (there none : Bool) → there ≡ not none → there ≡ true → none ≡ false
assigned there true e is = absurd (cc)
assigned there false e is = refl

pub unassigned : (there none : Bool) → there ≡ not none → there ≡ false → none ≡ true
unassigned there true e is = refl
unassigned there false e is = absurd (cc)

pub within : (T : List TableEntry) (k : ℕ) (e : TableEntry) → slice_get T k ≡ Some e → k < length T
within [] k e h = absurd (cc)
within (x ∷ T) zero e h = omega arith
within (x ∷ T) (suc k) e h = let l = within T k e h in omega arith

pub beyond : (T : List TableEntry) (k : ℕ) → slice_get T k ≡ None → length T ≤ k
beyond [] k h = omega arith
beyond (x ∷ T) zero h = absurd (cc)
beyond (x ∷ T) (suc k) h = let l = beyond T k h in omega arith

-- where the handle is that of an entry
pub is_named : (T : List TableEntry) (n : ℕ) (e : TableEntry) → (n < 0x7E0000 → ⊥) → slice_get T (n - 0x7E0000) ≡ Some e → (is_no_handle T n ≡ false) × (entry_named T n ≡ Some e)
is_named T n e low h =
    let l = within T (n - 0x7E0000) e h in
    (grind (arith, nat_tests), let t : nat_le 0x7E0000 n ≡ true = grind (arith, nat_tests) in rw t h)

-- ---- texts

text_at : (t : TableView) (n : ℕ) (e : TableEntry) → (n < 0x7E0000 → ⊥) → slice_get t.entries (n - 0x7E0000) ≡ Some e → with_text t n ≡ told_if (is_no_text (Some e)) wrong_kind None
text_at t n e low h = let is = is_named t.entries n e low h in rw is.0 (rw is.1 refl)

pub low_text : (t : TableView) (n : ℕ) → n < 0x7E0000 → Some reason.NoSuchHandle ≡ option_map named (with_text t n)
low_text t n l = let is : is_no_handle t.entries n ≡ true = grind (arith, nat_tests) in rw is refl

pub no_such_text : (t : TableView) (n : ℕ) → false ≡ is_some (slice_get t.entries (n - 0x7E0000)) → (n < 0x7E0000 → ⊥) → Some reason.NoSuchHandle ≡ option_map named (with_text t n)
no_such_text t n none low = go (slice_get t.entries (n - 0x7E0000)) refl none
  where
    go : (e : Option TableEntry) → slice_get t.entries (n - 0x7E0000) ≡ e → false ≡ is_some e → Some reason.NoSuchHandle ≡ option_map named (with_text t n)
    go (Some e) k none = absurd (cc)
    go None k none =
        let l = beyond t.entries (n - 0x7E0000) k in let is : is_no_handle t.entries n ≡ true = grind (arith, nat_tests) in rw is refl

pub no_text : (t : TableView) (n : ℕ) → true ≡ is_some (slice_get t.entries (n - 0x7E0000)) → false ≡ is_text (slice_get t.entries (n - 0x7E0000)) → (n < 0x7E0000 → ⊥)
    → Some reason.WrongKind ≡ option_map named (with_text t n)
no_text t n some other low = go (slice_get t.entries (n - 0x7E0000)) refl some other
  where
    go : (e : Option TableEntry) → slice_get t.entries (n - 0x7E0000) ≡ e → true ≡ is_some e → false ≡ is_text e → Some reason.WrongKind ≡ option_map named (with_text t n)
    go None k some other = absurd (cc)
    go (Some text_entry) k some other = absurd (cc)
    go (Some other_entry) k some other = sym (ap (option_map named) (text_at t n other_entry low k))
    go (Some pending_entry) k some other = sym (ap (option_map named) (text_at t n pending_entry low k))
    go (Some (closed_entry chain)) k some other = sym (ap (option_map named) (text_at t n (closed_entry chain) low k))

pub right_text : (t : TableView) (n : ℕ) → true ≡ is_text (slice_get t.entries (n - 0x7E0000)) → (n < 0x7E0000 → ⊥) → None ≡ option_map named (with_text t n)
right_text t n is low = go (slice_get t.entries (n - 0x7E0000)) refl is
  where
    go : (e : Option TableEntry) → slice_get t.entries (n - 0x7E0000) ≡ e → true ≡ is_text e → None ≡ option_map named (with_text t n)
    go None k is = absurd (cc)
    go (Some text_entry) k is = sym (ap (option_map named) (text_at t n text_entry low k))
    go (Some other_entry) k is = absurd (cc)
    go (Some pending_entry) k is = absurd (cc)
    go (Some (closed_entry chain)) k is = absurd (cc)

pub text_handle : (t : TableView) (n : ℕ) → true ≡ is_text (slice_get t.entries (n - 0x7E0000)) → (n < 0x7E0000 → ⊥) → IsTextHandle t n
text_handle t n is low = record { low = low; is = is }

-- ---- classes that were read

three : (a b c : Bool) (x y z k : Reason) (others : Option Reason) → told_if a x (told_if b y (told_if c z None)) ≡ Some k → told_if a x (told_if b y (told_if c z others)) ≡ Some k
three true b c x y z k others e = e
three false true c x y z k others e = e
three false false true x y z k others e = e
three false false false x y z k others e = absurd (cc)

-- a reason of a handle stands before all others
pub closed_first : (t : TableView) (n : ℕ) (others : Option Reason) (k : Reason) → with_closed t n None ≡ Some k → with_closed t n others ≡ Some k
closed_first t n others k e =
    three (is_no_handle t.entries n) (is_no_descriptor (entry_named t.entries n)) (is_pending (entry_named t.entries n)) no_such_handle wrong_kind open_descriptor k others e

closed_at : (t : TableView) (n : ℕ) (e : TableEntry) (others : Option Reason) → (n < 0x7E0000 → ⊥) → slice_get t.entries (n - 0x7E0000) ≡ Some e
    → with_closed t n others ≡ told_if (is_no_descriptor (Some e)) wrong_kind (told_if (is_pending (Some e)) open_descriptor others)
closed_at t n e others low h =
    let is = is_named t.entries n e low h in rw is.0 (rw is.1 refl)

pub low_class : (t : TableView) (n : ℕ) → n < 0x7E0000 → Some reason.NoSuchHandle ≡ option_map named (with_closed t n None)
low_class t n l = let is : is_no_handle t.entries n ≡ true = grind (arith, nat_tests) in rw is refl

pub no_such_class : (t : TableView) (n : ℕ) → IsClass t.chains (slice_get t.entries (n - 0x7E0000)) class.NotThere → (n < 0x7E0000 → ⊥)
    → Some reason.NoSuchHandle ≡ option_map named (with_closed t n None)
no_such_class t n none low =
    let l = beyond t.entries (n - 0x7E0000) none in let is : is_no_handle t.entries n ≡ true = grind (arith, nat_tests) in rw is refl

pub no_class : (t : TableView) (n : ℕ) → IsClass t.chains (slice_get t.entries (n - 0x7E0000)) class.NoClass → (n < 0x7E0000 → ⊥)
    → Some reason.WrongKind ≡ option_map named (with_closed t n None)
no_class t n (inl h) low = sym (ap (option_map named) (closed_at t n text_entry None low h))
no_class t n (inr h) low = sym (ap (option_map named) (closed_at t n other_entry None low h))

pub open_class : (t : TableView) (n : ℕ) → IsClass t.chains (slice_get t.entries (n - 0x7E0000)) class.Open → (n < 0x7E0000 → ⊥)
    → Some reason.OpenDescriptor ≡ option_map named (with_closed t n None)
open_class t n h low = sym (ap (option_map named) (closed_at t n pending_entry None low h))

pub closed_class : (t : TableView) (n chain : ℕ) → IsClass t.chains (slice_get t.entries (n - 0x7E0000)) (class.Closed chain) → (n < 0x7E0000 → ⊥) → IsClosed t n chain
closed_class t n chain h low = record { low = low; is_class = h }

-- where it is closed, none of these is told
pub is_closed_at : (t : TableView) (n chain : ℕ) (others : Option Reason) → IsClosed t n chain → with_closed t n others ≡ others
is_closed_at t n chain others c = closed_at t n (closed_entry (chain_in t.chains chain)) others c.low c.is_class.0

-- ---- classes that fit

pub not_closed : (t : TableView) (o : Owner) (n : ℕ) (why : CodeReason) → Some why ≡ option_map named (with_closed t n None) → Some why ≡ option_map named (with_fit t (goal_owner o) n None)
not_closed t o n why e = go (with_closed t n None) refl e
  where
    go : (told : Option Reason) → with_closed t n None ≡ told → Some why ≡ option_map named told → Some why ≡ option_map named (with_fit t (goal_owner o) n None)
    go None et e = absurd (cc)
    go (Some k) et e =
        e ∙ sym (ap (option_map named) (closed_first t n
        (told_if (fit_at (goal_owner o) (entry_named t.entries n) is_wrong) wrong_class
        (told_if (fit_at (goal_owner o) (entry_named t.entries n) is_raw) external_raw
        (told_if (fit_at (goal_owner o) (entry_named t.entries n) is_unserial) not_serializable None))) k et))

-- the reasons by what is wrong
abbrev pub fit_told : Fit → Option Reason → Option Reason
fit_told f others = told_if (is_wrong f) wrong_class (told_if (is_raw f) external_raw (told_if (is_unserial f) not_serializable others))

pub fit_at_class : (t : TableView) (o : Owner) (n chain : ℕ) (others : Option Reason) → IsClosed t n chain
    → with_fit t (goal_owner o) n others ≡ fit_told (fit_of_owner (goal_owner o) (chain_in t.chains chain)) others
fit_at_class t o n chain others c =
    let is = is_named t.entries n (closed_entry (chain_in t.chains chain)) c.low c.is_class.0 in
    rw is.0 (rw is.1 refl)

pub class_unfit : (t : TableView) (o : Owner) (n chain : ℕ) (why : CodeReason) → IsClosed t n chain → Some why ≡ fit_reason (fit_of_owner (goal_owner o) (chain_in t.chains chain))
    → Some why ≡ option_map named (with_fit t (goal_owner o) n None)
class_unfit t o n chain why c e =
    go (fit_of_owner (goal_owner o) (chain_in t.chains chain)) e ∙ sym (ap (option_map named) (fit_at_class t o n chain None c))
  where
    go : (f : Fit) → Some why ≡ fit_reason f → Some why ≡ option_map named (fit_told f None)
    go fit.Fits e = absurd (cc)
    go fit.WrongClass e = e
    go fit.ExternalRaw e = e
    go fit.NotSerializable e = e

pub class_fits : (t : TableView) (o : Owner) (n chain : ℕ) → IsClosed t n chain → None ≡ fit_reason (fit_of_owner (goal_owner o) (chain_in t.chains chain)) → IsClassOf t o n chain
class_fits t o n chain c e = record { closed = c; fits = e }

six : (a b c d e f : Bool) (u v w x y z k : Reason) (others : Option Reason)
    → told_if a u (told_if b v (told_if c w (told_if d x (told_if e y (told_if f z None))))) ≡ Some k
    → told_if a u (told_if b v (told_if c w (told_if d x (told_if e y (told_if f z others))))) ≡ Some k
six true b c d e f u v w x y z k others h = h
six false true c d e f u v w x y z k others h = h
six false false true d e f u v w x y z k others h = h
six false false false true e f u v w x y z k others h = h
six false false false false true f u v w x y z k others h = h
six false false false false false true u v w x y z k others h = h
six false false false false false false u v w x y z k others h = absurd (cc)

pub fit_first : (t : TableView) (o : Owner) (n : ℕ) (others : Option Reason) (k : Reason) → with_fit t (goal_owner o) n None ≡ Some k → with_fit t (goal_owner o) n others ≡ Some k
fit_first t o n others k h =
    six (is_no_handle t.entries n) (is_no_descriptor (entry_named t.entries n)) (is_pending (entry_named t.entries n)) (fit_at (goal_owner o) (entry_named t.entries n) is_wrong)
    (fit_at (goal_owner o) (entry_named t.entries n) is_raw) (fit_at (goal_owner o) (entry_named t.entries n) is_unserial) no_such_handle wrong_kind open_descriptor wrong_class
    external_raw not_serializable k others h

-- ---- the length of an array

pub negative : (r : Seen) (n : ℕ) → 0x80000000 ≤ n → Some reason.NegativeLength ≡ option_map named (array_reason (plain_gate r) n)
negative r n l = let is : nat_le (2 ^ 31) n ≡ true = grind (arith, nat_tests) in rw is refl

pub too_long : (r : Seen) (n : ℕ) → (0x80000000 ≤ n → ⊥) → r.meter.limits.array < n → Some reason.ArrayExceeded ≡ option_map named (array_reason (plain_gate r) n)
too_long r n small l =
    let is : nat_le (2 ^ 31) n ≡ false = grind (arith, nat_tests) in
    let long : nat_lt r.meter.limits.array n ≡ true = grind (arith, nat_tests) in rw is (rw long refl)

pub right_length : (r : Seen) (n : ℕ) → (0x80000000 ≤ n → ⊥) → (r.meter.limits.array < n → ⊥) → None ≡ option_map named (array_reason (plain_gate r) n)
right_length r n small short =
    let is : nat_le (2 ^ 31) n ≡ false = grind (arith, nat_tests) in
    let long : nat_lt r.meter.limits.array n ≡ false = grind (arith, nat_tests) in rw is (rw long refl)

pub is_short : (r : Seen) (n : ℕ) → None ≡ option_map named (array_reason (plain_gate r) n) → (n < 2 ^ 31) × (n ≤ r.meter.limits.array)
is_short r n e = go (nat_le (2 ^ 31) n) (nat_lt r.meter.limits.array n) refl refl e
  where
    go : (a b : Bool) → nat_le (2 ^ 31) n ≡ a → nat_lt r.meter.limits.array n ≡ b → None ≡ option_map named (told_if a negative_length (told_if b array_exceeded None))
        → (n < 2 ^ 31) × (n ≤ r.meter.limits.array)
    go true b ea eb e = absurd (cc)
    go false true ea eb e = absurd (cc)
    go false false ea eb e = (grind (arith, nat_tests), grind (arith, nat_tests))

pub no_reason : (told : Option Reason) → None ≡ option_map named told → told ≡ None
no_reason None e = refl
no_reason (Some k) e = absurd (cc)
