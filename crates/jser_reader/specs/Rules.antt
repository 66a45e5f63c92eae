-- The rules that handlers share with the loop over whole values: where a place may begin, what a handle names, and how many
-- elements an array may have. What is wrong is the first of several reasons.
use Rattle.std.specs.Prelude.{◌≡◌, ℕ, suc, ◌-◌, ◌<◌, Bool, true, length, slice_get, nat_le, nat_lt, Option, Some, None, option_map, Result, Ok, Err}
use Rattle.jser_table.specs.declared.class.Class.TheVariants as class
use Rattle.jser_table.specs.declared.layer.Fit.{Fit}
use Rattle.jser_table.specs.declared.layer.Fit.TheVariants as fit
use Rattle.jser_table.specs.Chains.{chain_in}
use Rattle.jser_table.specs.Entries.{is_pending, is_text}
use Rattle.jser_table.specs.Tables.{TableView, IsClass}
use Rattle.jser_reading.specs.Roles.{Owner as GoalOwner}
use Rattle.jser_verdict.specs.ClassRows.{fit_at, fit_of_owner, is_wrong, is_raw, is_unserial}
use Rattle.jser_verdict.specs.HandleRows.{is_no_handle, is_no_descriptor, is_no_text, entry_named}
use Rattle.jser_verdict.specs.Reasons.{depth_exceeded, refs_exceeded, no_such_handle, wrong_kind, open_descriptor, wrong_class, external_raw, not_serializable}
use Rattle.jser_verdict.specs.Reasons.{Reason as ToldReason}
use Rattle.jser_verdict.specs.Verdicts.{told_if}
use Rattle.jser_reader.specs.declared.frame.Owner.{Owner}
use Rattle.jser_reader.specs.declared.refusal.Reason.{Reason}
use Rattle.jser_reader.specs.declared.refusal.Reason.TheVariants as reason
use Rattle.jser_reader.specs.Frames.{goal_owner}
use Rattle.jser_reader.specs.Readers.{Seen}
use Rattle.jser_reader.specs.Reasons.{named}

-- a place is too deep, or one too many

abbrev pub is_deep : Seen → Bool
is_deep r = nat_lt r.meter.limits.depth (suc (length r.frames))

abbrev pub is_one_too_many : Seen → Bool
is_one_too_many r = nat_le r.meter.limits.refs r.refs

abbrev pub with_limits : Seen → Option ToldReason → Option ToldReason
with_limits r others = told_if (is_deep r) depth_exceeded (told_if (is_one_too_many r) refs_exceeded others)

-- a handle names no class whose superclass has been read

abbrev pub with_closed : TableView → ℕ → Option ToldReason → Option ToldReason
with_closed t n others =
    told_if (is_no_handle t.entries n) no_such_handle
    (told_if (is_no_descriptor (entry_named t.entries n)) wrong_kind (told_if (is_pending (entry_named t.entries n)) open_descriptor others))

-- it names no class that this owner may have

abbrev pub fit_reason : Fit → Option Reason
fit_reason fit.Fits = None
fit_reason fit.WrongClass = Some reason.WrongClass
fit_reason fit.ExternalRaw = Some reason.ExternalRaw
fit_reason fit.NotSerializable = Some reason.NotSerializable

abbrev pub with_fit : TableView → GoalOwner → ℕ → Option ToldReason → Option ToldReason
with_fit t o n others =
    with_closed t n
    (told_if (fit_at o (entry_named t.entries n) is_wrong) wrong_class
    (told_if (fit_at o (entry_named t.entries n) is_raw) external_raw
    (told_if (fit_at o (entry_named t.entries n) is_unserial) not_serializable others)))

-- a handle names no text
abbrev pub with_text : TableView → ℕ → Option ToldReason
with_text t n = told_if (is_no_handle t.entries n) no_such_handle (told_if (is_no_text (entry_named t.entries n)) wrong_kind None)

-- the handle of a text
pub record IsTextHandle (t : TableView) (n : ℕ) : Type 0 where
  pub low : n < 0x7E0000 → ⊥
  pub is : true ≡ is_text (slice_get t.entries (n - 0x7E0000))

-- a closed class with this chain
pub record IsClosed (t : TableView) (n chain : ℕ) : Type 0 where
  pub low : n < 0x7E0000 → ⊥
  pub is_class : IsClass t.chains (slice_get t.entries (n - 0x7E0000)) (class.Closed chain)

-- the class with this handle has this chain, or what is wrong with it
abbrev pub ClosedCases : TableView → ℕ → Result ℕ Reason → Type 0
ClosedCases t n (Ok chain) = IsClosed t n chain
ClosedCases t n (Err reason) = Some reason ≡ option_map named (with_closed t n None)

-- a closed class with this chain, which fits its owner
pub record IsClassOf (t : TableView) (o : Owner) (n chain : ℕ) : Type 0 where
  pub closed : IsClosed t n chain
  pub fits : None ≡ fit_reason (fit_of_owner (goal_owner o) (chain_in t.chains chain))

abbrev pub ClassCases : TableView → Owner → ℕ → Result ℕ Reason → Type 0
ClassCases t o n (Ok chain) = IsClassOf t o n chain
ClassCases t o n (Err reason) = Some reason ≡ option_map named (with_fit t (goal_owner o) n None)
