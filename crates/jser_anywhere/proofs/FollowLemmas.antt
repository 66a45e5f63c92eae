-- What the scan has follows the slots.
use Rattle.std.proofs.Common.{◌≡◌, ℕ, zero, suc, ◌+◌, ◌-◌, ◌*◌, ◌<◌, ◌≤◌, ◌∙◌, ap, sym, subst, Bool, true, false, ◌&&◌, ◌==◌, ◌⊎◌, inl, inr, if◌then◌else◌, Option, Some, None, List, [], ◌∷◌, ◌++◌, length, drop, refl, arith, length-append}
use Rattle.std.specs.Prelude.{nat_le, IfSome}
use Rattle.std.specs.Option.{is_some, option_map}
use Rattle.std.proofs.lemmas.Bool.Decides.{nat_tests}
use Rattle.std.proofs.lemmas.List.{drop-append-le, drop_all}
use Rattle.jser_anywhere.specs.Texts.{Fits, is_first, take_byte}
use Rattle.jser_anywhere.specs.Stages.{Whose, descriptor, row, naming, passing, Stage, nothing, text, between, halfway, no_units, is_length, in_name, in_text, text_of, row_of, read, name_taken, other_taken, text_read, with_byte, class_of, is_whole, ended_with, after_text, onward, next}
use Rattle.jser_anywhere.specs.Slots.{Slot, slots_of, ago, new_name, new_row, is_even, is_odd, if_wanted, moved, filled, hidden_of, lower, slot_hidden, hidden_place}
use Rattle.jser_anywhere.specs.declared.text.Place.{Place}
use Rattle.jser_anywhere.specs.declared.text.Place.TheVariants as place
use Rattle.jser_anywhere.specs.declared.text.Taken.{Taken}
use Rattle.jser_anywhere.specs.declared.text.Taken.TheVariants as taken
use Rattle.jser_anywhere.specs.declared.recent.Begun.{Begun}
use Rattle.jser_anywhere.specs.declared.open.Text.{Text}
use Rattle.jser_anywhere.specs.declared.open.Name.{Name}
use Rattle.jser_anywhere.specs.declared.open.Row.{Row}
use Rattle.jser_anywhere.specs.declared.open.RowAt.{RowAt}
use Rattle.jser_anywhere.specs.declared.open.RowAt.TheVariants as at
use Rattle.jser_anywhere.specs.Steps.{Scanning, HasRoom, NameFits, AtFits, RowFits, with_byte as recent_with, recent_of, left_of, name_left, begun, row_left, skip_on, text_with, with_text, as_name, new_text, one_less, class_behind, name_with, name_taken as name_took, name_hidden, name_onward, name_after, row_at, at_with, row_with, at_taken, row_taken, at_hidden, row_hidden, text_begins, text_onward, at_onward, row_onward, row_after, or_taken, taken_by, kept_with, scan_hidden, scan_after}
use Rattle.jser_anywhere.specs.Scans.{Has, Follows, reading_of, text_stage, name_stage, row_at_stage, row_stage, name_group, at_group, row_group, SkipFits, SameGroup, Agree, name_place, row_place}
use Rattle.jser_anywhere.proofs.NameLemmas.{part_fits}
use Rattle.jser_anywhere.proofs.StageLemmas.{is_length_of, high_out}
use Rattle.jser_anywhere.proofs.SlotLemmas.{FitsRow, NewName, NewRow, WantedRow, new_name_cases, new_row_cases, wanted_cases, row_filled, row_new}
use Rattle.jser_anywhere.proofs.SlotLemmas as slot
use Rattle.jser_anywhere.proofs.FitsLemmas.{slots_fit}
use Rattle.jser_anywhere.proofs.TextLemmas.{IsJoined, unit_refused, took, name_took_is, row_took_is, all_joined, group_after, ReadText, the_text, Roomy, ReadName, name_noted, name_reads, ReadAt, ReadRow, row_noted, row_reads}

pub has_room : (back : List ℕ) (scan : Scanning) → Follows back scan → HasRoom scan
has_room back scan f = record { room = f.few; name = f.name_fits; even = f.even_fits; odd = f.odd_fits }

-- ---- places stay

name_place_with : (slot_place : ℕ) (n : Option Name) (byte : ℕ) → IfSome (name_place n) (λ p. slot_place ≡ p) → IfSome (name_place (name_with n byte)) (λ p. slot_place ≡ p)
name_place_with slot_place None byte e = tt
name_place_with slot_place (Some n) byte e = by_opt (with_text descriptor n.text byte)
  where
    by_opt : (o : Option Text) → IfSome (name_place (option_map (λ t. record { place = n.place; text = t }) o)) (λ p. slot_place ≡ p)
    by_opt None = tt
    by_opt (Some t) = e

row_place_opt : (slot_place : ℕ) (r : Row) (o : Option Text) → slot_place ≡ r.place → IfSome (row_place (option_map (λ t. row_at r r.more (at.Text t)) o)) (λ p. slot_place ≡ p)
row_place_opt slot_place r None e = tt
row_place_opt slot_place r (Some t) e = e

at_place_with : (slot_place : ℕ) (r : Row) (here : RowAt) (byte : ℕ) → slot_place ≡ r.place → IfSome (row_place (at_with r here byte)) (λ p. slot_place ≡ p)
at_place_with slot_place r at.Between byte e = e
at_place_with slot_place r (at.Halfway high) byte e = e
at_place_with slot_place r (at.Text t) byte e = row_place_opt slot_place r (with_text (row r.more) t byte) e

row_place_with : (slot_place : ℕ) (r : Option Row) (byte : ℕ) → IfSome (row_place r) (λ p. slot_place ≡ p) → IfSome (row_place (row_with r byte)) (λ p. slot_place ≡ p)
row_place_with slot_place None byte e = tt
row_place_with slot_place (Some r) byte e = at_place_with slot_place r r.at byte e

-- ---- the names that end

not_zero : (n : ℕ) → (suc n == 0) ≡ false
not_zero n = grind (arith, nat_tests)

class_same : (skip : Option ℕ) (group : Place) (kept : List ℕ) → class_of (reading_of skip group kept) ≡ class_behind skip group kept
class_same None group kept = refl
class_same (Some k) group kept = refl

text_hidden_by : (passes : List ℕ → Bool) (place : ℕ) (whose : Whose) (left : ℕ) (group : Place) (skip : Option ℕ) (kept : List ℕ)
    → hidden_of passes place (ended_with (text whose left (reading_of skip group kept))) ≡ hidden_of passes place (if left == 0 then class_behind skip group kept else None)
text_hidden_by passes place whose zero group skip kept = ap (λ o. hidden_of passes place o) (class_same skip group kept)
text_hidden_by passes place whose (suc left) group skip kept = sym (ap (λ b. hidden_of passes place (if b then class_behind skip group kept else None)) (not_zero left))

name_hidden_is : (passes : List ℕ → Bool) (slot_place : ℕ) (n : Option Name) (kept : List ℕ) → IfSome (name_place n) (λ p. slot_place ≡ p)
    → hidden_of passes slot_place (ended_with (name_stage n kept)) ≡ name_hidden passes n kept
name_hidden_is passes slot_place None kept e = refl
name_hidden_is passes slot_place (Some n) kept e =
    ap (λ (p : ℕ). hidden_of passes p (ended_with (text_stage descriptor n.text kept))) e ∙ text_hidden_by passes n.place descriptor n.text.left n.text.group n.text.skip kept

at_hidden_is : (passes : List ℕ → Bool) (place more : ℕ) (here : RowAt) (kept : List ℕ) → hidden_of passes place (ended_with (row_at_stage more here kept)) ≡ at_hidden passes place here kept
at_hidden_is passes place more at.Between kept = refl
at_hidden_is passes place more (at.Halfway high) kept = refl
at_hidden_is passes place more (at.Text t) kept = text_hidden_by passes place (row more) t.left t.group t.skip kept

row_hidden_is : (passes : List ℕ → Bool) (slot_place : ℕ) (r : Option Row) (kept : List ℕ) → IfSome (row_place r) (λ p. slot_place ≡ p)
    → hidden_of passes slot_place (ended_with (row_stage r kept)) ≡ row_hidden passes r kept
row_hidden_is passes slot_place None kept e = refl
row_hidden_is passes slot_place (Some r) kept e =
    ap (λ (p : ℕ). hidden_of passes p (ended_with (row_at_stage r.more r.at kept))) e ∙ at_hidden_is passes r.place r.more r.at kept

name_slot_hidden : (passes : List ℕ → Bool) (s : Slot) (n : Option Name) (byte : ℕ) (kept : List ℕ) (joined : Taken) → Has s (name_place n) (name_stage n kept)
    → IsJoined (took (name_group n) byte) joined → SkipFits (name_group n) kept → slot_hidden passes s byte ≡ name_hidden passes (name_with n byte) (kept_with kept joined)
name_slot_hidden passes s n byte kept joined h j f =
    ap (λ x. hidden_of passes s.place (ended_with (with_byte x byte))) h.stage_is ∙ ap (λ x. hidden_of passes s.place (ended_with x)) (name_noted n byte kept joined j f)
    ∙ name_hidden_is passes s.place (name_with n byte) (kept_with kept joined) (name_place_with s.place n byte h.place_is)

row_slot_hidden : (passes : List ℕ → Bool) (s : Slot) (r : Option Row) (byte : ℕ) (kept : List ℕ) (joined : Taken) → Has s (row_place r) (row_stage r kept)
    → IsJoined (took (row_group r) byte) joined → SkipFits (row_group r) kept → slot_hidden passes s byte ≡ row_hidden passes (row_with r byte) (kept_with kept joined)
row_slot_hidden passes s r byte kept joined h j f =
    ap (λ x. hidden_of passes s.place (ended_with (with_byte x byte))) h.stage_is ∙ ap (λ x. hidden_of passes s.place (ended_with x)) (row_noted r byte kept joined j f)
    ∙ row_hidden_is passes s.place (row_with r byte) (kept_with kept joined) (row_place_with s.place r byte h.place_is)

pub hidden_follows : (passes : List ℕ → Bool) (back : List ℕ) (scan : Scanning) (byte : ℕ) → Follows back scan → scan_hidden passes scan byte ≡ hidden_place passes (slots_of back) byte
hidden_follows passes back scan byte f =
    let slots = slots_of back in
    let all = all_joined back scan byte f in
    let joined = taken_by scan byte in
    let name_is = name_slot_hidden passes slots.name scan.name byte scan.kept joined f.name all.name f.name_skip in
    let even_is = row_slot_hidden passes slots.even scan.even byte scan.kept joined f.even all.even f.even_skip in
    let odd_is = row_slot_hidden passes slots.odd scan.odd byte scan.kept joined f.odd all.odd f.odd_skip in
    ap (λ x. lower x (lower (row_hidden passes (row_with scan.even byte) (kept_with scan.kept joined)) (row_hidden passes (row_with scan.odd byte) (kept_with scan.kept joined)))) (sym name_is)
    ∙ ap (λ x. lower (slot_hidden passes slots.name byte) (lower x (row_hidden passes (row_with scan.odd byte) (kept_with scan.kept joined)))) (sym even_is)
    ∙ ap (λ x. lower (slot_hidden passes slots.name byte) (lower (slot_hidden passes slots.even byte) x)) (sym odd_is)

-- ---- what is read after a byte

one_more : (left : ℕ) → left ≡ suc left - 1
one_more left = omega arith

whole_same : (skip : Option ℕ) (group : Place) (kept : List ℕ) → is_whole (reading_of skip group kept) ≡ is_first group
whole_same None group kept = refl
whole_same (Some k) group kept = refl

-- a descriptor's name goes on
name_gone_by : (place left : ℕ) (group : Place) (skip : Option ℕ) (byte : ℕ) (kept : List ℕ)
    → onward (text descriptor left (reading_of skip group kept)) byte ≡ name_stage (if left == 0 then None else Some (record { place = place; text = one_less (the_text left group skip) })) kept
name_gone_by place zero group skip byte kept = refl
name_gone_by place (suc left) group skip byte kept =
    ap (λ (n : ℕ). text descriptor n (reading_of skip group kept)) (one_more left)
    ∙ sym (ap (λ b. name_stage (if b then None else Some (record { place = place; text = one_less (the_text (suc left) group skip) })) kept) (not_zero left))

name_gone : (n : Option Name) (byte : ℕ) (kept : List ℕ) → onward (name_stage n kept) byte ≡ name_stage (name_onward n) kept
name_gone None byte kept = refl
name_gone (Some n) byte kept = name_gone_by n.place n.text.left n.text.group n.text.skip byte kept

if_place : (place : ℕ) (n : Name) (is : Bool) (t : Text) → place ≡ n.place → IfSome (name_place (if is then None else Some (record { place = n.place; text = t }))) (λ p. place ≡ p)
if_place place n true t e = tt
if_place place n false t e = e

name_place_on : (place : ℕ) (n : Option Name) → IfSome (name_place n) (λ p. place ≡ p) → IfSome (name_place (name_onward n)) (λ p. place ≡ p)
name_place_on place None e = tt
name_place_on place (Some n) e = if_place place n (n.text.left == 0) (one_less n.text) e

-- a row goes on
left_stage : (whose : Whose) (r : Row) (high low : ℕ) (kept : List ℕ) (is : Bool) → is_length high low ≡ is → whose ≡ row r.more
    → text_of whose high low ≡ row_stage (text_begins r (length kept) (if is then Some (high * 256 + low - 1) else None)) kept
left_stage whose r high low kept false e w = ap (λ b. if b then text whose (high * 256 + low - 1) no_units else nothing) e
left_stage whose r high low kept true e w =
    ap (λ b. if b then text whose (high * 256 + low - 1) no_units else nothing) e ∙ ap (λ x. text x (high * 256 + low - 1) no_units) w
    ∙ ap (λ us. text (row r.more) (high * 256 + low - 1) (naming us place.First)) (sym (drop_all (length kept) kept (omega arith)))

between_gone : (r : Row) (byte : ℕ) (kept : List ℕ) (is : Bool)
    → (if is then nothing else halfway r.more byte) ≡ row_stage (if is then None else Some (row_at r r.more (at.Halfway byte))) kept
between_gone r byte kept true = refl
between_gone r byte kept false = refl

some_more : (more : ℕ) → nat_le 1 (suc more) ≡ true
some_more more = grind (arith, nat_tests)

over_gone : (r : Row) (more : ℕ) (kept : List ℕ) (whole : Bool) → after_text (row more) whole ≡ row_stage (if whole && nat_le 1 more then Some (row_at r (more - 1) at.Between) else None) kept
over_gone r zero kept true = refl
over_gone r zero kept false = refl
over_gone r (suc more) kept false = refl
over_gone r (suc more) kept true =
    ap (λ (n : ℕ). between n) (one_more more) ∙ ap (λ b. row_stage (if b then Some (row_at r (suc more - 1) at.Between) else None) kept) (sym (some_more more))

text_gone_by : (r : Row) (left : ℕ) (group : Place) (skip : Option ℕ) (byte : ℕ) (kept : List ℕ)
    → onward (text (row r.more) left (reading_of skip group kept)) byte ≡ row_stage (text_onward r (the_text left group skip)) kept
text_gone_by r zero group skip byte kept = ap (after_text (row r.more)) (whole_same skip group kept) ∙ over_gone r r.more kept (is_first group)
text_gone_by r (suc left) group skip byte kept =
    ap (λ (n : ℕ). text (row r.more) n (reading_of skip group kept)) (one_more left)
    ∙ sym (ap (λ b. row_stage (if b then (if is_first group && nat_le 1 r.more then Some (row_at r (r.more - 1) at.Between) else None)
    else Some (row_at r r.more (at.Text (one_less (the_text (suc left) group skip))))) kept) (not_zero left))

at_gone : (r : Row) (here : RowAt) (byte : ℕ) (kept : List ℕ) → onward (row_at_stage r.more here kept) byte ≡ row_stage (at_onward r here byte (length kept)) kept
at_gone r at.Between byte kept = between_gone r byte kept (in_name byte)
at_gone r (at.Halfway high) byte kept = left_stage (row r.more) r high byte kept (is_length high byte) refl refl
at_gone r (at.Text t) byte kept = text_gone_by r t.left t.group t.skip byte kept

row_gone : (r : Option Row) (byte : ℕ) (kept : List ℕ) → onward (row_stage r kept) byte ≡ row_stage (row_onward r byte (length kept)) kept
row_gone None byte kept = refl
row_gone (Some r) byte kept = at_gone r r.at byte kept

-- what holds of all rows made of one
either : (P : Option Row → Type 0) (is : Bool) (a b : Option Row) → P a → P b → P (if is then a else b)
either P true a b x y = x
either P false a b x y = y

begins_any : (P : Option Row → Type 0) (r : Row) (kept : ℕ) (left : Option ℕ) → P None → ((n : ℕ) → left ≡ Some n → P (Some (row_at r r.more (at.Text (new_text kept n))))) → P (text_begins r kept left)
begins_any P r kept None none some = none
begins_any P r kept (Some n) none some = some n refl

abbrev AtPlace : ℕ → Option Row → Type 0
AtPlace place r = IfSome (row_place r) (λ p. place ≡ p)

at_place_on : (place : ℕ) (r : Row) (here : RowAt) (byte kept : ℕ) → place ≡ r.place → AtPlace place (at_onward r here byte kept)
at_place_on place r at.Between byte kept e = either (AtPlace place) (in_name byte) None (Some (row_at r r.more (at.Halfway byte))) tt e
at_place_on place r (at.Halfway high) byte kept e = begins_any (AtPlace place) r kept (left_of high byte) tt (λ n is. e)
at_place_on place r (at.Text t) byte kept e =
    either (AtPlace place) (t.left == 0) (if is_first t.group && nat_le 1 r.more then Some (row_at r (r.more - 1) at.Between) else None) (Some (row_at r r.more (at.Text (one_less t))))
    (either (AtPlace place) (is_first t.group && nat_le 1 r.more) (Some (row_at r (r.more - 1) at.Between)) None e tt) e

row_place_on : (place : ℕ) (r : Option Row) (byte kept : ℕ) → AtPlace place r → AtPlace place (row_onward r byte kept)
row_place_on place None byte kept e = tt
row_place_on place (Some r) byte kept e = at_place_on place r r.at byte kept e

-- ---- what holds of the texts

pub record GoodText (kept : List ℕ) (joined : Taken) (t : Text) : Type 0 where
  pub skip : IfSome t.skip (λ k. (k ≤ length kept) × (length kept + t.left < 9216))
  pub fits : Fits t.group
  pub aligned : IfSome t.skip (λ _. (t.group ≡ group_after joined) ⊎ (t.group ≡ place.First))

abbrev Good : (kept : List ℕ) → Taken → Option Text → Type 0
Good kept joined o = IfSome o (λ t. GoodText kept joined t)

less_skip : (kept : List ℕ) (left : ℕ) (skip : Option ℕ) → (left == 0) ≡ false → IfSome skip (λ k. (k ≤ length kept) × (length kept + left < 9217)) → IfSome skip (λ k. (k ≤ length kept) × (length kept + (left - 1) < 9216))
less_skip kept left None some s = tt
less_skip kept zero (Some k) some s = absurd cc
less_skip kept (suc left) (Some k) some s = (s.0, omega (arith, s.1))

or_first : (group : Place) (joined : Taken) (skip : Option ℕ) → IfSome skip (λ _. group ≡ group_after joined) → IfSome skip (λ _. (group ≡ group_after joined) ⊎ (group ≡ place.First))
or_first group joined None a = tt
or_first group joined (Some k) a = inl a

good_less : (kept : List ℕ) (joined : Taken) (t : Text) → (t.left == 0) ≡ false → ReadText kept joined t → GoodText kept joined (one_less t)
good_less kept joined t some r = record { skip = less_skip kept t.left t.skip some r.skip; fits = r.fits; aligned = or_first t.group joined t.skip r.aligned }

good_new : (kept : List ℕ) (joined : Taken) (left : ℕ) → length kept + left < 9216 → GoodText kept joined (new_text (length kept) left)
good_new kept joined left room = record { skip = (omega arith, room); fits = tt; aligned = inr refl }

name_good_by : (kept : List ℕ) (joined : Taken) (n : Name) (is : Bool) → (n.text.left == 0) ≡ is → ReadText kept joined n.text
    → Good kept joined (name_group (if is then None else Some (record { place = n.place; text = one_less n.text })))
name_good_by kept joined n true e r = tt
name_good_by kept joined n false e r = good_less kept joined n.text e r

name_good : (kept : List ℕ) (joined : Taken) (n : Option Name) → ReadName kept joined n → Good kept joined (name_group (name_onward n))
name_good kept joined None r = tt
name_good kept joined (Some n) r = name_good_by kept joined n (n.text.left == 0) refl r

-- there is room where a text begins
abbrev HalfAt : RowAt → (byte : ℕ) → (kept : List ℕ) → Type 0
HalfAt at.Between byte kept = Unit {0}
HalfAt (at.Halfway high) byte kept = (n : ℕ) → left_of high byte ≡ Some n → length kept + n < 9216
HalfAt (at.Text t) byte kept = Unit {0}

abbrev HalfRow : Option Row → (byte : ℕ) → (kept : List ℕ) → Type 0
HalfRow r byte kept = IfSome r (λ r. HalfAt r.at byte kept)

abbrev GoodRow : (kept : List ℕ) → Taken → Option Row → Type 0
GoodRow kept joined r = Good kept joined (row_group r)

text_good_by : (kept : List ℕ) (joined : Taken) (r : Row) (t : Text) (is : Bool) → (t.left == 0) ≡ is → ReadText kept joined t
    → GoodRow kept joined (if is then (if is_first t.group && nat_le 1 r.more then Some (row_at r (r.more - 1) at.Between) else None) else Some (row_at r r.more (at.Text (one_less t))))
text_good_by kept joined r t true e x = either (GoodRow kept joined) (is_first t.group && nat_le 1 r.more) (Some (row_at r (r.more - 1) at.Between)) None tt tt
text_good_by kept joined r t false e x = good_less kept joined t e x

at_good : (kept : List ℕ) (joined : Taken) (r : Row) (here : RowAt) (byte : ℕ) → ReadAt kept joined here → HalfAt here byte kept → GoodRow kept joined (at_onward r here byte (length kept))
at_good kept joined r at.Between byte x h = either (GoodRow kept joined) (in_name byte) None (Some (row_at r r.more (at.Halfway byte))) tt tt
at_good kept joined r (at.Halfway high) byte x h = begins_any (GoodRow kept joined) r (length kept) (left_of high byte) tt (λ n is. good_new kept joined n (h n is))
at_good kept joined r (at.Text t) byte x h = text_good_by kept joined r t (t.left == 0) refl x

row_good : (kept : List ℕ) (joined : Taken) (r : Option Row) (byte : ℕ) → ReadRow kept joined r → HalfRow r byte kept → GoodRow kept joined (row_onward r byte (length kept))
row_good kept joined None byte x h = tt
row_good kept joined (Some r) byte x h = at_good kept joined r r.at byte x h

-- at most one unit is kept where a length was just read: its first byte is in no name
few_kept : (kept : List ℕ) (t : Taken) → kept ≡ [] → length (kept_with kept t) ≤ 1
few_kept kept (taken.Unit unit) e = omega (arith, length-append kept (unit ∷ []), ap length e)
few_kept kept (taken.Part here) e = omega (arith, ap length e)
few_kept kept taken.Refused e = omega arith

left_few_by : (high low n : ℕ) (is : Bool) → is_length high low ≡ is → (if is then Some (high * 256 + low - 1) else None) ≡ Some n → (in_name high ≡ false) × (n ≤ 9214)
left_few_by high low n false i e = absurd cc
left_few_by high low n true i e =
    let is = is_length_of high low i in
    let same : high * 256 + low - 1 ≡ n = cc in
    (high_out high low is, omega (arith, same, is.most))

left_few : (high low n : ℕ) → left_of high low ≡ Some n → (in_name high ≡ false) × (n ≤ 9214)
left_few high low n e = left_few_by high low n (is_length high low) refl e

room_for : (back : List ℕ) (kept : List ℕ) (joined : Taken) (byte n : ℕ) → (in_name (ago back 0) ≡ false → kept ≡ []) → left_of (ago back 0) byte ≡ Some n → length (kept_with kept joined) + n < 9216
room_for back kept joined byte n last e =
    let few = left_few (ago back 0) byte n e in
    omega (arith, few.1, few_kept kept joined (last few.0))

half_opt : (r : Row) (o : Option Text) (byte : ℕ) (kept : List ℕ) → HalfRow (option_map (λ t. row_at r r.more (at.Text t)) o) byte kept
half_opt r None byte kept = tt
half_opt r (Some t) byte kept = tt

half_at : (back : List ℕ) (wanted : ℕ → Bool) (place : ℕ) (r : Row) (here : RowAt) (byte : ℕ) (kept : List ℕ) (joined : Taken) → FitsRow wanted place (row_at_stage r.more here kept) back
    → (in_name (ago back 0) ≡ false → kept ≡ []) → HalfRow (at_with r here byte) byte (kept_with kept joined)
half_at back wanted place r at.Between byte kept joined f last = tt
half_at back wanted place r (at.Halfway high) byte kept joined f last = λ n e. room_for back kept joined byte n last (ap (λ (h : ℕ). left_of h byte) f.1 ∙ e)
half_at back wanted place r (at.Text t) byte kept joined f last = half_opt r (with_text (row r.more) t byte) byte (kept_with kept joined)

half_row : (back : List ℕ) (wanted : ℕ → Bool) (place : ℕ) (r : Option Row) (byte : ℕ) (kept : List ℕ) (joined : Taken) → FitsRow wanted place (row_stage r kept) back
    → (in_name (ago back 0) ≡ false → kept ≡ []) → HalfRow (row_with r byte) byte (kept_with kept joined)
half_row back wanted place None byte kept joined f last = tt
half_row back wanted place (Some r) byte kept joined f last = half_at back wanted place r r.at byte kept joined f last

-- ---- what begins

abbrev stage_left : Whose → Option ℕ → Stage
stage_left whose None = nothing
stage_left whose (Some left) = text whose left no_units

begin_stage : (whose : Whose) (high low : ℕ) (is : Bool) → is_length high low ≡ is → text_of whose high low ≡ stage_left whose (left_of high low)
begin_stage whose high low true e =
    ap (λ b. if b then text whose (high * 256 + low - 1) no_units else nothing) e ∙ ap (λ b. stage_left whose (if b then Some (high * 256 + low - 1) else None)) (sym e)
begin_stage whose high low false e =
    ap (λ b. if b then text whose (high * 256 + low - 1) no_units else nothing) e ∙ ap (λ b. stage_left whose (if b then Some (high * 256 + low - 1) else None)) (sym e)

name_left_by : (a b byte : ℕ) (is : Bool) → (b == 0x72) ≡ is → (if b == 0x72 then text_of descriptor a byte else nothing) ≡ stage_left descriptor (if b == 0x72 then left_of a byte else None)
name_left_by a b byte true e =
    ap (λ t. if t then text_of descriptor a byte else nothing) e ∙ begin_stage descriptor a byte (is_length a byte) refl
    ∙ ap (λ t. stage_left descriptor (if t then left_of a byte else None)) (sym e)
name_left_by a b byte false e =
    ap (λ t. if t then text_of descriptor a byte else nothing) e ∙ ap (λ t. stage_left descriptor (if t then left_of a byte else None)) (sym e)

name_left_stage : (back : List ℕ) (byte : ℕ) → new_name back byte ≡ stage_left descriptor (name_left (recent_of back) byte)
name_left_stage back byte = name_left_by (ago back 0) (ago back 1) byte (ago back 1 == 0x72) refl

name_left_of : (a b byte n : ℕ) (is : Bool) → (if is then left_of a byte else None) ≡ Some n → left_of a byte ≡ Some n
name_left_of a b byte n true e = e
name_left_of a b byte n false e = absurd cc

-- the first text of a row
abbrev stage_begun : Option Begun → Stage
stage_begun None = nothing
stage_begun (Some b) = text (row b.more) b.left no_units

begun_left : (more : ℕ) (left : Option ℕ) → stage_left (row more) left ≡ stage_begun (begun more left)
begun_left more None = refl
begun_left more (Some left) = refl

row_some_by : (count a byte : ℕ) (is : Bool) → nat_le 1 count ≡ is
    → (if nat_le 1 count then text_of (row (count - 1)) a byte else nothing) ≡ stage_begun (if nat_le 1 count then begun (count - 1) (left_of a byte) else None)
row_some_by count a byte true e =
    ap (λ t. if t then text_of (row (count - 1)) a byte else nothing) e ∙ begin_stage (row (count - 1)) a byte (is_length a byte) refl ∙ begun_left (count - 1) (left_of a byte)
    ∙ ap (λ t. stage_begun (if t then begun (count - 1) (left_of a byte) else None)) (sym e)
row_some_by count a byte false e =
    ap (λ t. if t then text_of (row (count - 1)) a byte else nothing) e ∙ ap (λ t. stage_begun (if t then begun (count - 1) (left_of a byte) else None)) (sym e)

row_left_by : (is : Bool) (stage : Stage) (b : Option Begun) → stage ≡ stage_begun b → (if is then stage else nothing) ≡ stage_begun (if is then b else None)
row_left_by true stage b e = e
row_left_by false stage b e = refl

row_left_stage : (back : List ℕ) (byte : ℕ) → new_row back byte ≡ stage_begun (row_left (recent_of back) byte)
row_left_stage back byte =
    row_left_by (ago back 5 == 0x7D && (ago back 4 == 0 && ago back 3 == 0)) (row_of (ago back 2) (ago back 1) (ago back 0) byte)
    (if nat_le 1 (ago back 2 * 256 + ago back 1) then begun (ago back 2 * 256 + ago back 1 - 1) (left_of (ago back 0) byte) else None)
    (row_some_by (ago back 2 * 256 + ago back 1) (ago back 0) byte (nat_le 1 (ago back 2 * 256 + ago back 1)) refl)

begun_of : (more : ℕ) (left : Option ℕ) (b : Begun) → begun more left ≡ Some b → left ≡ Some b.left
begun_of more None b e = absurd cc
begun_of more (Some left) b e = let h : record { more = more; left = left } ≡ b = cc in ap (λ (x : Begun). Some x.left) h

row_left_of : (a byte count : ℕ) (b : Begun) (is some : Bool) → (if is then (if some then begun (count - 1) (left_of a byte) else None) else None) ≡ Some b → left_of a byte ≡ Some b.left
row_left_of a byte count b true true e = begun_of (count - 1) (left_of a byte) b e
row_left_of a byte count b true false e = absurd cc
row_left_of a byte count b false some e = absurd cc

-- ---- all of it after a byte

name_follows : (back : List ℕ) (s : Slot) (n : Option Name) (byte count : ℕ) (kept : List ℕ) (joined : Taken) (left : Option ℕ) → count ≡ length back → name_left (recent_of back) byte ≡ left
    → Has s (name_place n) (name_stage n kept) → IsJoined (took (name_group n) byte) joined → SkipFits (name_group n) kept
    → (let new = name_after count (length (kept_with kept joined)) left (name_with n byte) in
    Has (filled (length back - 2) (new_name back byte) (moved s byte)) (name_place new) (name_stage new (kept_with kept joined)))
name_follows back s n byte count kept joined None c e h j f =
    let none : new_name back byte ≡ nothing = name_left_stage back byte ∙ ap (stage_left descriptor) e in
    let same : filled (length back - 2) (new_name back byte) (moved s byte) ≡ moved s byte = ap (λ x. filled (length back - 2) x (moved s byte)) none in
    subst (λ (x : Slot). Has x (name_place (name_onward (name_with n byte))) (name_stage (name_onward (name_with n byte)) (kept_with kept joined))) (sym same) (record {
      stage_is = ap (λ x. next x byte) h.stage_is ∙ ap (λ x. onward x byte) (name_noted n byte kept joined j f) ∙ name_gone (name_with n byte) byte (kept_with kept joined);
      place_is = name_place_on s.place (name_with n byte) (name_place_with s.place n byte h.place_is);
    })
name_follows back s n byte count kept joined (Some left) c e h j f =
    let is : new_name back byte ≡ text descriptor left no_units = name_left_stage back byte ∙ ap (stage_left descriptor) e in
    let same : filled (length back - 2) (new_name back byte) (moved s byte) ≡ record { place = length back - 2; stage = text descriptor left no_units } =
    ap (λ x. filled (length back - 2) x (moved s byte)) is in
    let new = kept_with kept joined in
    subst (λ (x : Slot). Has x (Some (count - 2)) (text_stage descriptor (new_text (length new) left) new)) (sym same) (record {
      stage_is = ap (λ us. text descriptor left (naming us place.First)) (sym (drop_all (length new) new (omega arith)));
      place_is = ap (λ (k : ℕ). k - 2) (sym c);
    })

row_follows : (wanted : ℕ → Bool) (back : List ℕ) (s : Slot) (r : Option Row) (byte count : ℕ) (kept : List ℕ) (joined : Taken) (b : Option Begun) (is : Bool) → count ≡ length back
    → wanted (length back - 6) ≡ is → row_left (recent_of back) byte ≡ b → Has s (row_place r) (row_stage r kept) → IsJoined (took (row_group r) byte) joined → SkipFits (row_group r) kept
    → (let new = row_after is (count - 6) (length (kept_with kept joined)) b (row_with r byte) byte in
    Has (row_filled wanted back byte s) (row_place new) (row_stage new (kept_with kept joined)))
row_follows wanted back s r byte count kept joined (Some b) true c w e h j f =
    let begins : new_row back byte ≡ text (row b.more) b.left no_units = row_left_stage back byte ∙ ap stage_begun e in
    let same : row_filled wanted back byte s ≡ record { place = length back - 6; stage = text (row b.more) b.left no_units } =
    ap (λ x. filled (length back - 6) (if_wanted x (new_row back byte)) (moved s byte)) w ∙ ap (λ x. filled (length back - 6) x (moved s byte)) begins in
    let new = kept_with kept joined in
    subst (λ (x : Slot). Has x (Some (count - 6)) (text_stage (row b.more) (new_text (length new) b.left) new)) (sym same) (record {
      stage_is = ap (λ us. text (row b.more) b.left (naming us place.First)) (sym (drop_all (length new) new (omega arith)));
      place_is = ap (λ (k : ℕ). k - 6) (sym c);
    })
row_follows wanted back s r byte count kept joined (Some b) false c w e h j f =
    let same : row_filled wanted back byte s ≡ moved s byte = ap (λ x. filled (length back - 6) (if_wanted x (new_row back byte)) (moved s byte)) w in
    subst (λ (x : Slot). Has x (row_place (row_onward (row_with r byte) byte (length (kept_with kept joined)))) (row_stage (row_onward (row_with r byte) byte (length (kept_with kept joined))) (kept_with kept joined))) (sym same) (record {
      stage_is = ap (λ x. next x byte) h.stage_is ∙ ap (λ x. onward x byte) (row_noted r byte kept joined j f) ∙ row_gone (row_with r byte) byte (kept_with kept joined);
      place_is = row_place_on s.place (row_with r byte) byte (length (kept_with kept joined)) (row_place_with s.place r byte h.place_is);
    })
row_follows wanted back s r byte count kept joined None is c w e h j f =
    let none : new_row back byte ≡ nothing = row_left_stage back byte ∙ ap stage_begun e in
    let same : row_filled wanted back byte s ≡ moved s byte =
    ap (λ x. filled (length back - 6) (if_wanted (wanted (length back - 6)) x) (moved s byte)) none ∙ ap (λ x. filled (length back - 6) x (moved s byte)) (slot.unwanted (wanted (length back - 6))) in
    subst (λ (x : Slot). Has x (row_place (row_onward (row_with r byte) byte (length (kept_with kept joined)))) (row_stage (row_onward (row_with r byte) byte (length (kept_with kept joined))) (kept_with kept joined))) (sym same) (record {
      stage_is = ap (λ x. next x byte) h.stage_is ∙ ap (λ x. onward x byte) (row_noted r byte kept joined j f) ∙ row_gone (row_with r byte) byte (kept_with kept joined);
      place_is = row_place_on s.place (row_with r byte) byte (length (kept_with kept joined)) (row_place_with s.place r byte h.place_is);
    })

name_after_good : (back : List ℕ) (n : Option Name) (byte count : ℕ) (kept : List ℕ) (joined : Taken) (left : Option ℕ) → name_left (recent_of back) byte ≡ left
    → (in_name (ago back 0) ≡ false → kept ≡ []) → ReadName (kept_with kept joined) joined (name_with n byte)
    → Good (kept_with kept joined) joined (name_group (name_after count (length (kept_with kept joined)) left (name_with n byte)))
name_after_good back n byte count kept joined None e last r = name_good (kept_with kept joined) joined (name_with n byte) r
name_after_good back n byte count kept joined (Some left) e last r =
    good_new (kept_with kept joined) joined left (room_for back kept joined byte left last (name_left_of (ago back 0) (ago back 1) byte left (ago back 1 == 0x72) e))

row_after_good : (back : List ℕ) (r : Option Row) (byte at_place : ℕ) (kept : List ℕ) (joined : Taken) (b : Option Begun) (is : Bool) → row_left (recent_of back) byte ≡ b
    → (in_name (ago back 0) ≡ false → kept ≡ []) → ReadRow (kept_with kept joined) joined (row_with r byte) → HalfRow (row_with r byte) byte (kept_with kept joined)
    → GoodRow (kept_with kept joined) joined (row_after is at_place (length (kept_with kept joined)) b (row_with r byte) byte)
row_after_good back r byte at_place kept joined None is e last x h = row_good (kept_with kept joined) joined (row_with r byte) byte x h
row_after_good back r byte at_place kept joined (Some b) false e last x h = row_good (kept_with kept joined) joined (row_with r byte) byte x h
row_after_good back r byte at_place kept joined (Some b) true e last x h =
    good_new (kept_with kept joined) joined b.left (room_for back kept joined byte b.left last
    (row_left_of (ago back 0) byte (ago back 2 * 256 + ago back 1) b (ago back 5 == 0x7D && (ago back 4 == 0 && ago back 3 == 0)) (nat_le 1 (ago back 2 * 256 + ago back 1)) e))

-- what follows of that
good_skip : (kept : List ℕ) (joined : Taken) (o : Option Text) → Good kept joined o → SkipFits o kept
good_skip kept joined None g = tt
good_skip kept joined (Some t) g = g.skip

same_group : (joined : Taken) (a b : Place) → (a ≡ group_after joined) ⊎ (a ≡ place.First) → (b ≡ group_after joined) ⊎ (b ≡ place.First) → SameGroup a b
same_group joined a b (inl e) (inl d) = inl (e ∙ sym d)
same_group joined a b (inl e) (inr d) = inr (inr d)
same_group joined a b (inr e) x = inr (inl e)

agree_by : (joined : Taken) (p q : Option ℕ) (a b : Place) → IfSome p (λ _. (a ≡ group_after joined) ⊎ (a ≡ place.First)) → IfSome q (λ _. (b ≡ group_after joined) ⊎ (b ≡ place.First))
    → IfSome p (λ _. IfSome q (λ _. SameGroup a b))
agree_by joined None q a b x y = tt
agree_by joined (Some p) None a b x y = tt
agree_by joined (Some p) (Some q) a b x y = same_group joined a b x y

good_agree : (kept : List ℕ) (joined : Taken) (a b : Option Text) → Good kept joined a → Good kept joined b → Agree a b
good_agree kept joined None b x y = tt
good_agree kept joined (Some a) None x y = tt
good_agree kept joined (Some a) (Some b) x y = agree_by joined a.skip b.skip a.group b.group x.aligned y.aligned

name_fits : (kept : List ℕ) (joined : Taken) (n : Option Name) → Good kept joined (name_group n) → NameFits n
name_fits kept joined None g = tt
name_fits kept joined (Some n) g = g.fits

at_fits : (kept : List ℕ) (joined : Taken) (here : RowAt) → Good kept joined (at_group here) → AtFits here
at_fits kept joined at.Between g = tt
at_fits kept joined (at.Halfway high) g = tt
at_fits kept joined (at.Text t) g = g.fits

row_fits : (kept : List ℕ) (joined : Taken) (r : Option Row) → GoodRow kept joined r → RowFits r
row_fits kept joined None g = tt
row_fits kept joined (Some r) g = at_fits kept joined r.at g

-- a byte that is in no name leaves nothing
low_taken : (skip : Option ℕ) (n : Bool) (x : Taken) → n ≡ false → (if is_some skip && n then x else taken.Refused) ≡ taken.Refused
low_taken None n x e = refl
low_taken (Some k) n x e = ap (λ b. if b then x else taken.Refused) e

low_took : (o : Option Text) (byte : ℕ) → in_name byte ≡ false → took o byte ≡ taken.Refused
low_took None byte e = refl
low_took (Some t) byte e = low_taken t.skip (in_name byte) (take_byte t.group byte) e

low_kept : (scan : Scanning) (byte : ℕ) → in_name byte ≡ false → kept_with scan.kept (taken_by scan byte) ≡ []
low_kept scan byte e =
    let n : name_took scan.name byte ≡ taken.Refused = name_took_is scan.name byte ∙ low_took (name_group scan.name) byte e in
    let v : row_taken scan.even byte ≡ taken.Refused = row_took_is scan.even byte ∙ low_took (row_group scan.even) byte e in
    let o : row_taken scan.odd byte ≡ taken.Refused = row_took_is scan.odd byte ∙ low_took (row_group scan.odd) byte e in
    ap (λ x. kept_with scan.kept (or_taken x (or_taken (row_taken scan.even byte) (row_taken scan.odd byte)))) n
    ∙ ap (λ x. kept_with scan.kept (or_taken x (row_taken scan.odd byte))) v ∙ ap (kept_with scan.kept) o

-- and there is room
abbrev Fewer : List ℕ → Taken → Type 0
Fewer kept t = (t ≡ taken.Refused) ⊎ (length kept < 9216)

fewer_by : (kept : List ℕ) (skip : Option ℕ) (left : ℕ) (n : Bool) (x : Taken) → Roomy skip left kept → Fewer kept (if is_some skip && n then x else taken.Refused)
fewer_by kept None left n x r = inl refl
fewer_by kept (Some k) left false x r = inl refl
fewer_by kept (Some k) left true x r = inr (omega (arith, r.1))

fewer : (kept : List ℕ) (o : Option Text) (byte : ℕ) → SkipFits o kept → Fewer kept (took o byte)
fewer kept None byte s = inl refl
fewer kept (Some t) byte s = fewer_by kept t.skip t.left (in_name byte) (take_byte t.group byte) s

fewer_or : (kept : List ℕ) (a b : Taken) → Fewer kept a → Fewer kept b → Fewer kept (or_taken a b)
fewer_or kept (taken.Unit unit) b x y = x
fewer_or kept (taken.Part here) b x y = x
fewer_or kept taken.Refused b x y = y

fewer_kept : (kept : List ℕ) (t : Taken) → Fewer kept t → length kept ≤ 9216 → length (kept_with kept t) ≤ 9216
fewer_kept kept (taken.Unit unit) (inl e) most = absurd (unit_refused unit e)
fewer_kept kept (taken.Unit unit) (inr less) most = omega (arith, less, length-append kept (unit ∷ []))
fewer_kept kept (taken.Part here) f most = most
fewer_kept kept taken.Refused f most = omega arith

pub few_after : (back : List ℕ) (scan : Scanning) (byte : ℕ) → Follows back scan → length (kept_with scan.kept (taken_by scan byte)) ≤ 9216
few_after back scan byte f =
    let n = subst (λ x. Fewer scan.kept x) (sym (name_took_is scan.name byte)) (fewer scan.kept (name_group scan.name) byte f.name_skip) in
    let v = subst (λ x. Fewer scan.kept x) (sym (row_took_is scan.even byte)) (fewer scan.kept (row_group scan.even) byte f.even_skip) in
    let o = subst (λ x. Fewer scan.kept x) (sym (row_took_is scan.odd byte)) (fewer scan.kept (row_group scan.odd) byte f.odd_skip) in
    fewer_kept scan.kept (taken_by scan byte)
    (fewer_or scan.kept (name_took scan.name byte) (or_taken (row_taken scan.even byte) (row_taken scan.odd byte)) n (fewer_or scan.kept (row_taken scan.even byte) (row_taken scan.odd byte) v o)) f.few

pub follows_byte : (back : List ℕ) (scan : Scanning) (byte : ℕ) → Follows back scan → byte < 256 → length back < 0xFFFFFFFFFFFFFFFF → Follows (byte ∷ back) (scan_after scan byte)
follows_byte back scan byte f small fits =
    let all = all_joined back scan byte f in
    let joined = taken_by scan byte in
    let kept = kept_with scan.kept joined in
    let slots = slots_fit back in
    let left_same : name_left scan.recent byte ≡ name_left (recent_of back) byte = ap (λ r. name_left r byte) f.recent in
    let row_same : row_left scan.recent byte ≡ row_left (recent_of back) byte = ap (λ r. row_left r byte) f.recent in
    let even_kind : is_even (length back - 6) ≡ is_even (scan.count - 6) = ap (λ (n : ℕ). is_even (n - 6)) (sym f.count) in
    let odd_kind : is_odd (length back - 6) ≡ is_odd (scan.count - 6) = ap (λ (n : ℕ). is_odd (n - 6)) (sym f.count) in
    let even_half = half_row back is_even (slots_of back).even.place scan.even byte scan.kept joined (subst (λ s. FitsRow is_even (slots_of back).even.place s back) f.even.stage_is slots.even) f.last in
    let odd_half = half_row back is_odd (slots_of back).odd.place scan.odd byte scan.kept joined (subst (λ s. FitsRow is_odd (slots_of back).odd.place s back) f.odd.stage_is slots.odd) f.last in
    let name_reading = name_reads scan.name byte scan.kept joined all.name f.name_skip f.name_fits small in
    let even_reading = row_reads scan.even byte scan.kept joined all.even f.even_skip f.even_fits small in
    let odd_reading = row_reads scan.odd byte scan.kept joined all.odd f.odd_skip f.odd_fits small in
    let n_good = name_after_good back scan.name byte scan.count scan.kept joined (name_left scan.recent byte) (sym left_same) f.last name_reading in
    let e_good = row_after_good back scan.even byte (scan.count - 6) scan.kept joined (row_left scan.recent byte) (is_even (scan.count - 6)) (sym row_same) f.last even_reading even_half in
    let o_good = row_after_good back scan.odd byte (scan.count - 6) scan.kept joined (row_left scan.recent byte) (is_odd (scan.count - 6)) (sym row_same) f.last odd_reading odd_half in
    let new = scan_after scan byte in
    record {
      count = omega (arith, f.count, fits);
      recent = ap (λ x. recent_with x byte) f.recent;
      name = name_follows back (slots_of back).name scan.name byte scan.count scan.kept joined (name_left scan.recent byte) f.count (sym left_same) f.name all.name f.name_skip;
      even = row_follows is_even back (slots_of back).even scan.even byte scan.count scan.kept joined (row_left scan.recent byte) (is_even (scan.count - 6)) f.count even_kind (sym row_same) f.even all.even f.even_skip;
      odd = row_follows is_odd back (slots_of back).odd scan.odd byte scan.count scan.kept joined (row_left scan.recent byte) (is_odd (scan.count - 6)) f.count odd_kind (sym row_same) f.odd all.odd f.odd_skip;
      name_skip = good_skip kept joined (name_group new.name) n_good;
      even_skip = good_skip kept joined (row_group new.even) e_good;
      odd_skip = good_skip kept joined (row_group new.odd) o_good;
      name_even = good_agree kept joined (name_group new.name) (row_group new.even) n_good e_good;
      name_odd = good_agree kept joined (name_group new.name) (row_group new.odd) n_good o_good;
      even_odd = good_agree kept joined (row_group new.even) (row_group new.odd) e_good o_good;
      last = λ e. low_kept scan byte e;
      few = few_after back scan byte f;
      name_fits = name_fits kept joined new.name n_good;
      even_fits = row_fits kept joined new.even e_good;
      odd_fits = row_fits kept joined new.odd o_good;
    }
