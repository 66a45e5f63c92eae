-- The line of what was found went out, and then why.
use Rattle.std.proofs.Common.{◌≡◌, ℕ, Bool, true, false, List, ◌++◌, Option, Some, None, length, refl, sym, ap, ◌∙◌, subst, inl, inr}
use Rattle.std.specs.Prelude.{IfSome, ◌⊎◌, ◌<◌, ◌^◌}
use Rattle.std.specs.Io.KnownBytes.{Appends}
use Rattle.jser_commands.specs.Lines.{yes_line, no_line, hidden_line, options_of, AppendsSome, SaysAccepted, SaysFailed, SaysNo, SaysNoAnywhere, SaysRefused, SaysYes, SaysYesAnywhere}
use Rattle.jser_commands.proofs.Lines.{no_cut, yes_cut}
use Rattle.jser_scan.specs.declared.check.Rules.{Rules}
use Rattle.jser_scan.specs.declared.found.Found.{Found}
use Rattle.jser_scan.specs.declared.found.Found.TheVariants as found
use Rattle.jser_scan.specs.Founds.{IsFound, IsFoundIf, NamesFirst}
use Rattle.jser_scan.specs.LastSeen.{AreLast, KeepsEndOfFront, LastSeen}
use Rattle.jser_explain.specs.Whys.{SaysSomeWhy, SaysWhy}
use Rattle.jser_explain.specs.Explains.{asked, check_of, line_of, Explained, ExplainedSome, ExplainsSome, HasStatus, LeavesLine, LeavesSome, SaidOfFront, SaidOfKept}

-- ---- the line of an answer

accepted_if : (anywhere : Bool) (rules : Rules) (bytes : List ℕ) (result : Found) (Went : List ℕ → Type 0) → HasStatus result 0
    → IsFoundIf anywhere rules bytes result → Went (line_of result) → SaysAccepted (check_of anywhere rules.strict rules.filter) bytes Went
accepted_if false rules bytes (found.Accepted totals) Went has is went = record { report = totals; reported = is; printed = went }
accepted_if true rules bytes (found.Accepted totals) Went has is went = record { report = totals; reported = is; printed = went }
accepted_if anywhere rules bytes (found.Refused refusal class) Went (inl one) is went = absurd (cc)
accepted_if anywhere rules bytes (found.Refused refusal class) Went (inr three) is went = absurd (cc)
accepted_if anywhere rules bytes (found.Hidden from to class) Went (inl one) is went = absurd (cc)
accepted_if anywhere rules bytes (found.Hidden from to class) Went (inr three) is went = absurd (cc)
accepted_if anywhere rules bytes found.NotOpened Went has is went = absurd (cc)
accepted_if anywhere rules bytes (found.NotRead fault) Went has is went = absurd (cc)
accepted_if anywhere rules bytes found.OutOfMemory Went has is went = absurd (cc)

refused_by : (anywhere : Bool) (rules : Rules) (bytes : List ℕ) (result : Found) (Went : List ℕ → Type 0) → HasStatus result 1
    → IsFoundIf anywhere rules bytes result → NamesFirst rules bytes result → Went (line_of result)
    → SaysRefused (check_of anywhere rules.strict rules.filter) bytes Went
refused_by anywhere rules bytes (found.Accepted totals) Went (inl none) is first went = absurd (cc)
refused_by anywhere rules bytes (found.Accepted totals) Went (inr three) is first went = absurd (cc)
refused_by false rules bytes (found.Refused refusal class) Went has is first went = record { refusal = refusal; refused = is.0; first = first; printed = went }
refused_by true rules bytes (found.Refused refusal class) Went has is first went = inl (record { refusal = refusal; refused = is.0; printed = went })
refused_by false rules bytes (found.Hidden from to class) Went has is first went = absurd is
refused_by true rules bytes (found.Hidden from to class) Went has is first went = inr (record { from = from; to = to; hidden = is.0; printed = went })
refused_by anywhere rules bytes found.NotOpened Went has is first went = absurd (cc)
refused_by anywhere rules bytes (found.NotRead fault) Went has is first went = absurd (cc)
refused_by anywhere rules bytes found.OutOfMemory Went has is first went = absurd (cc)

-- where the bytes are known

if_accepted : (anywhere : Bool) (rules : Rules) (told : Option (List ℕ)) (result : Found) (Went : List ℕ → Type 0) → HasStatus result 0
    → IfSome told (λ bytes. IsFoundIf anywhere rules bytes result) → Went (line_of result)
    → IfSome told (λ bytes. SaysAccepted (check_of anywhere rules.strict rules.filter) bytes Went)
if_accepted anywhere rules None result Went has is went = tt
if_accepted anywhere rules (Some bytes) result Went has is went = accepted_if anywhere rules bytes result Went has is went

if_refused : (anywhere : Bool) (rules : Rules) (told : Option (List ℕ)) (result : Found) (Went : List ℕ → Type 0) → HasStatus result 1
    → IfSome told (λ bytes. IsFoundIf anywhere rules bytes result) → IfSome told (λ bytes. NamesFirst rules bytes result) → Went (line_of result)
    → IfSome told (λ bytes. SaysRefused (check_of anywhere rules.strict rules.filter) bytes Went)
if_refused anywhere rules None result Went has is first went = tt
if_refused anywhere rules (Some bytes) result Went has is first went = refused_by anywhere rules bytes result Went has is first went

pub accepts : (rules : Rules) (told : Option (List ℕ)) (result : Found) (status : ℕ) (Went : List ℕ → Type 0) → HasStatus result status → status ≡ 0
    → IfSome told (λ bytes. IsFound rules bytes result) → Went (line_of result) → IfSome told (λ bytes. SaysAccepted (asked rules) bytes Went)
accepts rules told result status Went has zero is went =
    if_accepted rules.anywhere rules told result Went (subst (λ s. HasStatus result s) zero has) is went

-- ---- why

front_of : (rules : Rules) (bytes : List ℕ) (result : Found) (last : LastSeen) (Said : List ℕ → Type 0) → IsFound rules bytes result → KeepsEndOfFront last bytes
    → SaidOfKept last Said → SaidOfFront rules bytes result Said
front_of rules bytes result last Said is ends of = record {
  found = is;
  front = of.kept;
  rest = ends.rest;
  split = ends.split ∙ ap (λ xs. xs ++ ends.rest) (sym (of.all ends.front ends.ends ends.few));
  said = of.said;
}

pub explained : (rules : Rules) (told : Option (List ℕ)) (result : Found) (last : LastSeen) (status : ℕ) (old mid new : Option (List ℕ)) → HasStatus result status
    → status ≡ 1 → IfSome told (λ bytes. IsFound rules bytes result) → IfSome told (λ bytes. NamesFirst rules bytes result)
    → IfSome told (λ bytes. KeepsEndOfFront last bytes) → Appends old mid (line_of result) → SaidOfKept last (λ kept. SaysWhy kept result mid new)
    → IfSome told (λ bytes. SaysRefused (asked rules) bytes (Explained rules bytes old new))
explained rules None result last status old mid new has one is first ends went of = tt
explained rules (Some bytes) result last status old mid new has one is first ends went of =
    refused_by rules.anywhere rules bytes result (Explained rules bytes old new) (subst (λ s. HasStatus result s) one has) is first (record {
      result = result;
      line_is = refl;
      between = mid;
      printed = went;
      why = front_of rules bytes result last (λ front. SaysWhy front result mid new) is ends of;
    })

some_of : (rules : Rules) (bytes : List ℕ) (result : Found) (last : LastSeen) (failed : Bool) (old new : Option (List ℕ)) → IsFound rules bytes result → KeepsEndOfFront last bytes
    → (new ≡ old) ⊎ ((failed ≡ true) × SaidOfKept last (λ kept. SaysSomeWhy kept result old new)) → ExplainsSome rules bytes result failed old new
some_of rules bytes result last failed old new is ends (inl same) = inl same
some_of rules bytes result last failed old new is ends (inr of) =
    inr (of.0, front_of rules bytes result last (λ front. SaysSomeWhy front result old new) is ends of.1)

pub explained_some : (rules : Rules) (told : Option (List ℕ)) (result : Found) (last : LastSeen) (status : ℕ) (failed : Bool) (old mid new : Option (List ℕ)) → HasStatus result status
    → status ≡ 1 → IfSome told (λ bytes. IsFound rules bytes result) → IfSome told (λ bytes. NamesFirst rules bytes result)
    → IfSome told (λ bytes. KeepsEndOfFront last bytes) → Appends old mid (line_of result)
    → (new ≡ mid) ⊎ ((failed ≡ true) × SaidOfKept last (λ kept. SaysSomeWhy kept result mid new)) → LeavesSome rules told failed old new
explained_some rules None result last status failed old mid new has one is first ends went of = inr tt
explained_some rules (Some bytes) result last status failed old mid new has one is first ends went of =
    inr (refused_by rules.anywhere rules bytes result (ExplainedSome rules bytes failed old new) (subst (λ s. HasStatus result s) one has) is first (record {
      result = result;
      line_is = refl;
      between = mid;
      printed = went;
      why = some_of rules bytes result last failed mid new is ends of;
    }))

-- of the bytes that are kept

pub said_of_kept : (last : LastSeen) (kept : List ℕ) (Said : List ℕ → Type 0) → ((bytes : List ℕ) → AreLast last bytes → length bytes < 2 ^ 64 → kept ≡ bytes)
    → Said kept → SaidOfKept last Said
said_of_kept last kept Said all said = record { kept = kept; all = all; said = said }

pub some_said_of_kept : (last : LastSeen) (kept : List ℕ) (failed : Bool) (old new : Option (List ℕ)) (Said : List ℕ → Type 0)
    → ((bytes : List ℕ) → AreLast last bytes → length bytes < 2 ^ 64 → kept ≡ bytes) → failed ≡ true → Said kept
    → (new ≡ old) ⊎ ((failed ≡ true) × SaidOfKept last Said)
some_said_of_kept last kept failed old new Said all off said = inr (off, record { kept = kept; all = all; said = said })

pub nothing_said : (last : LastSeen) (failed : Bool) (old : Option (List ℕ)) (Said : List ℕ → Type 0) → (old ≡ old) ⊎ ((failed ≡ true) × SaidOfKept last Said)
nothing_said last failed old Said = inl refl

-- ---- where there is no answer

leaves_if : (anywhere : Bool) (rules : Rules) (told : Option (List ℕ)) (result : Found) (failed : Bool) (old new : Option (List ℕ))
    → IfSome told (λ bytes. IsFoundIf anywhere rules bytes result) → IfSome told (λ bytes. NamesFirst rules bytes result) → LeavesLine result failed old new
    → SaysFailed (check_of anywhere rules.strict rules.filter) told failed old new
leaves_if false rules told (found.Accepted totals) failed old new is first leaves =
    yes_cut failed old new told (yes_line totals) (SaysYes rules.filter (options_of rules.strict)) (SaysNo rules.filter (options_of rules.strict))
    (if_accepted false rules told (found.Accepted totals) (AppendsSome old new) (inl refl) is) leaves
leaves_if true rules told (found.Accepted totals) failed old new is first leaves =
    yes_cut failed old new told (yes_line totals) (SaysYesAnywhere rules.filter (options_of rules.strict)) (SaysNoAnywhere rules.filter (options_of rules.strict))
    (if_accepted true rules told (found.Accepted totals) (AppendsSome old new) (inl refl) is) leaves
leaves_if false rules told (found.Refused refusal class) failed old new is first leaves =
    no_cut failed old new told (no_line refusal) (SaysYes rules.filter (options_of rules.strict)) (SaysNo rules.filter (options_of rules.strict))
    (if_refused false rules told (found.Refused refusal class) (AppendsSome old new) (inl refl) is first) leaves
leaves_if true rules told (found.Refused refusal class) failed old new is first leaves =
    no_cut failed old new told (no_line refusal) (SaysYesAnywhere rules.filter (options_of rules.strict)) (SaysNoAnywhere rules.filter (options_of rules.strict))
    (if_refused true rules told (found.Refused refusal class) (AppendsSome old new) (inl refl) is first) leaves
leaves_if false rules told (found.Hidden from to class) failed old new is first leaves =
    no_cut failed old new told (hidden_line from to) (SaysYes rules.filter (options_of rules.strict)) (SaysNo rules.filter (options_of rules.strict))
    (if_refused false rules told (found.Hidden from to class) (AppendsSome old new) (inl refl) is first) leaves
leaves_if true rules told (found.Hidden from to class) failed old new is first leaves =
    no_cut failed old new told (hidden_line from to) (SaysYesAnywhere rules.filter (options_of rules.strict)) (SaysNoAnywhere rules.filter (options_of rules.strict))
    (if_refused true rules told (found.Hidden from to class) (AppendsSome old new) (inl refl) is first) leaves
leaves_if false rules told found.NotOpened failed old new is first leaves = inl leaves
leaves_if true rules told found.NotOpened failed old new is first leaves = inl leaves
leaves_if false rules told (found.NotRead fault) failed old new is first leaves = inl leaves
leaves_if true rules told (found.NotRead fault) failed old new is first leaves = inl leaves
leaves_if false rules told found.OutOfMemory failed old new is first leaves = inl leaves
leaves_if true rules told found.OutOfMemory failed old new is first leaves = inl leaves

pub leaves_line : (rules : Rules) (told : Option (List ℕ)) (result : Found) (failed : Bool) (old new : Option (List ℕ)) → IfSome told (λ bytes. IsFound rules bytes result)
    → IfSome told (λ bytes. NamesFirst rules bytes result) → LeavesLine result failed old new → LeavesSome rules told failed old new
leaves_line rules told result failed old new is first leaves = inl (leaves_if rules.anywhere rules told result failed old new is first leaves)

-- the statuses
pub status_of : (result : Found) (status : ℕ) → HasStatus result status → (status ≡ 0) ⊎ ((status ≡ 1) ⊎ (status ≡ 3))
status_of (found.Accepted totals) status (inl is) = inl is
status_of (found.Accepted totals) status (inr is) = inr (inr is)
status_of (found.Refused refusal class) status is = inr is
status_of (found.Hidden from to class) status is = inr is
status_of found.NotOpened status is = inr (inr is)
status_of (found.NotRead fault) status is = inr (inr is)
status_of found.OutOfMemory status is = inr (inr is)
