-- What the scan does with a byte.
use Rattle.std.proofs.Common.{◌≡◌, ℕ, ◌≤◌, ◌-◌, ◌∙◌, refl, ap, sym, subst, Bool, true, false, not, Option, Some, None, List, length}
use Rattle.jser_anywhere.specs.declared.open.Name.{Name}
use Rattle.jser_anywhere.specs.declared.open.Row.{Row}
use Rattle.jser_anywhere.specs.declared.recent.Begun.{Begun}
use Rattle.jser_anywhere.specs.declared.text.Taken.{Taken}
use Rattle.jser_anywhere.specs.declared.text.Taken.TheVariants as taken
use Rattle.jser_anywhere.specs.Slots.{lower}
use Rattle.jser_anywhere.specs.Steps.{Scanning, HasRoom, NameFits, RowFits, keeping, kept_with, taken_by, or_taken, name_hidden, row_hidden, name_taken, row_taken, name_with, row_with, reading, noted, noted_hidden, gone_on, scan_hidden, scan_after}

-- the texts take the byte, one step after another
pub noted_by : (old first second : Scanning) (byte : ℕ) (taken : Taken) → (HasRoom old → taken ≡ taken_by old byte) → (length old.kept ≤ 9216 → first ≡ keeping old (kept_with old.kept taken))
    → (NameFits first.name → RowFits first.even → RowFits first.odd → second ≡ reading first byte) → HasRoom old → second ≡ noted old byte
noted_by old first second byte taken is kept_is read_is room =
    let kept : first ≡ keeping old (kept_with old.kept (taken_by old byte)) = kept_is room.room ∙ ap (λ t. keeping old (kept_with old.kept t)) (is room) in
    read_is (subst (λ (s : Scanning). NameFits s.name) (sym kept) room.name) (subst (λ (s : Scanning). RowFits s.even) (sym kept) room.even)
    (subst (λ (s : Scanning). RowFits s.odd) (sym kept) room.odd) ∙ ap (λ (s : Scanning). reading s byte) kept

-- and all steps of one byte
pub went_on : (old first after : Scanning) (byte : ℕ) → (HasRoom old → first ≡ noted old byte) → after ≡ gone_on first byte → HasRoom old → after ≡ scan_after old byte
went_on old first after byte noted_is gone room = gone ∙ ap (λ (s : Scanning). gone_on s byte) (noted_is room)

pub was_hidden : (passes : List ℕ → Bool) (old first : Scanning) (byte : ℕ) (place : Option ℕ) → (HasRoom old → first ≡ noted old byte) → place ≡ noted_hidden passes first → HasRoom old → place ≡ scan_hidden passes old byte
was_hidden passes old first byte place noted_is is room = is ∙ ap (λ (s : Scanning). noted_hidden passes s) (noted_is room)

-- ---- where no row is being read

name_alone : (t : Taken) → t ≡ or_taken t (or_taken taken.Refused taken.Refused)
name_alone (taken.Unit unit) = refl
name_alone (taken.Part here) = refl
name_alone taken.Refused = refl

lowest_alone : (a : Option ℕ) → a ≡ lower a (lower None None)
lowest_alone None = refl
lowest_alone (Some place) = refl

-- the scan with another descriptor's name that is being read
abbrev renamed : Scanning → Option Name → Scanning
renamed s name = record s { name = name }

-- the descriptor's name alone takes the byte
pub noted_outside_rows : (old first : Scanning) (byte : ℕ) (t : Taken) → old.even ≡ None → old.odd ≡ None → (NameFits old.name → t ≡ name_taken old.name byte)
    → (length old.kept ≤ 9216 → first ≡ keeping old (kept_with old.kept t)) → (name : Option Name) → (NameFits first.name → name ≡ name_with first.name byte)
    → HasRoom old → renamed first name ≡ noted old byte
noted_outside_rows old first byte t even odd is kept_is name named room =
    let taken_is : t ≡ taken_by old byte = is room.name ∙ name_alone (name_taken old.name byte)
    ∙ ap (λ r. or_taken (name_taken old.name byte) (or_taken (row_taken r byte) taken.Refused)) (sym even)
    ∙ ap (λ r. or_taken (name_taken old.name byte) (or_taken (row_taken old.even byte) (row_taken r byte))) (sym odd) in
    let first_is : first ≡ keeping old (kept_with old.kept (taken_by old byte)) = kept_is room.room ∙ ap (λ x. keeping old (kept_with old.kept x)) taken_is in
    let name_is : name ≡ name_with old.name byte = named (subst (λ (s : Scanning). NameFits s.name) (sym first_is) room.name) ∙ ap (λ (s : Scanning). name_with s.name byte) first_is in
    let kept : List ℕ = kept_with old.kept (taken_by old byte) in
    ap (λ (s : Scanning). renamed s name) first_is
    ∙ ap (λ (n : Option Name). renamed (keeping old kept) n) name_is
    ∙ ap (λ (r : Option Row). record old { kept = kept; name = name_with old.name byte; even = r }) (even ∙ ap (λ r. row_with r byte) (sym even))
    ∙ ap (λ (r : Option Row). record { count = old.count; recent = old.recent; kept = kept; name = name_with old.name byte; even = row_with old.even byte; odd = r }) (odd ∙ ap (λ r. row_with r byte) (sym odd))

-- and is asked
pub hidden_outside_rows : (passes : List ℕ → Bool) (old first : Scanning) (byte : ℕ) (place : Option ℕ) → (HasRoom old → first ≡ noted old byte) → first.even ≡ None → first.odd ≡ None
    → place ≡ name_hidden passes first.name first.kept → HasRoom old → place ≡ scan_hidden passes old byte
hidden_outside_rows passes old first byte place noted_is even odd is room =
    was_hidden passes old first byte place noted_is
    (is ∙ lowest_alone (name_hidden passes first.name first.kept)
    ∙ ap (λ r. lower (name_hidden passes first.name first.kept) (lower (row_hidden passes r first.kept) None)) (sym even)
    ∙ ap (λ r. lower (name_hidden passes first.name first.kept) (lower (row_hidden passes first.even first.kept) (row_hidden passes r first.kept))) (sym odd))
    room
