-- A value that is lent at once has no name in it, nor has a declared field where none comes next: their items, one after
-- another.
use Rattle.std.proofs.Common.{◌≡◌, ℕ, zero, suc, ◌+◌, ◌-◌, Bool, true, false, List, length, Option, Some, None, Result, Ok, Err, OnOk, refl, sym, ◌∙◌, ap, subst}
use denote.Bor.{Bor}
use Rattle.jser_grammar.specs.Wire.{TC_REFERENCE}
use Rattle.jser_reader.specs.declared.Field.{Field}
use Rattle.jser_reader.specs.declared.Item.TheVariants as item
use Rattle.jser_reader.specs.declared.Whole.{Whole}
use Rattle.jser_reader.specs.declared.Whole.TheVariants as whole
use Rattle.jser_reader.specs.declared.Whereabouts.{Whereabouts}
use Rattle.jser_reader.specs.Visits.{TakesAll, part_items, name_items, type_items, type_size, field_items, whole_items}
use Rattle.jser_reader.proofs.FieldShownLemmas.{takes_then}
use Rattle.jser_names.specs.Standing.{Names, Adds, Closes, ClosesThen, Takes, begun, left_behind}
use Rattle.jser_names.proofs.StepLemmas.{begun_none}

closed_now : (was_open : Bool) (x mid : Names) → x.is_open ≡ was_open → Closes was_open x mid → mid.is_open ≡ false
closed_now true x mid is c = c.is
closed_now false x mid is c = ap (λ y. y.is_open) c ∙ is

passed_closed : (x y : Names) → ClosesThen x y (λ z. record z { left = 0 }) → y.is_open ≡ false
passed_closed x y p = ap (λ z. z.is_open) p.is ∙ closed_now x.is_open x p.mid refl p.closes

left_none : (x y : Names) → ClosesThen x y (λ z. record z { left = 0 }) → y.left ≡ 0
left_none x y p = ap (λ z. z.left) p.is

none_to_close : (y : Names) → y.is_open ≡ false → Closes y.is_open y y
none_to_close y is = subst (λ b. Closes b y y) (sym is) refl

-- another item does nothing, where nothing is open
nothing_more : (y : Names) → y.is_open ≡ false → ClosesThen y y (λ z. record z { left = z.left })
nothing_more y is = record { mid = y; closes = none_to_close y is; is = refl }

-- nor does a text that is no name
no_name : (y : Names) → y.is_open ≡ false → y.left ≡ 0 → ClosesThen y y begun
no_name y is none = record { mid = y; closes = none_to_close y is; is = sym (begun_none y none) }

no_name_part : (text : Bor (List ℕ)) (handles end size : ℕ) (y : Names) → y.is_open ≡ false → TakesAll (λ lent w a b. Takes lent a b) (part_items text handles end size) y y
no_name_part text handles end zero y is = refl
no_name_part text handles end (suc n) y is = (y, subst (λ b. Adds b text.now y y) (sym is) refl, refl)

-- the first tag, and the tag of a reference
tag_first : (x y : Names) (tag : ℕ) → ClosesThen x y (λ z. record z { left = 0 }) → ClosesThen x (record y { left = left_behind (item.Tag tag) 0 }) (λ z. record z { left = left_behind (item.Tag tag) z.left })
tag_first x y tag p =
    let same : record y { left = left_behind (item.Tag tag) 0 } ≡ record p.mid { left = left_behind (item.Tag tag) 0 } =
    ap (λ (z : Names). record { names = z.names; left = left_behind (item.Tag tag) 0; is_open = z.is_open; text = z.text; longest = z.longest }) p.is in
    record { mid = p.mid; closes = p.closes; is = same }

tag_next : (y : Names) (left : ℕ) → y.is_open ≡ false → y.left ≡ 0 → ClosesThen (record y { left = left }) y (λ z. record z { left = left_behind (item.Tag TC_REFERENCE) z.left })
tag_next y left closed none = record {
  mid = record y { left = left };
  closes = none_to_close (record y { left = left }) closed;
  is = ap (λ (n : ℕ). record { names = y.names; left = n; is_open = y.is_open; text = y.text; longest = y.longest }) none;
}

pub passes_whole : (w : Whole) (at : Whereabouts) (x y : Names) → ClosesThen x y (λ z. record z { left = 0 }) → TakesAll (λ lent w a b. Takes lent a b) (whole_items w at) x y
passes_whole (whole.Reference handle) at x y p = (y, p, (y, nothing_more y (passed_closed x y p), refl))
passes_whole (whole.String text) at x y p =
    let closed = passed_closed x y p in
    (y, p, (y, no_name y closed (left_none x y p), no_name_part text (at.handles + 1) at.end (length text.now) y closed))
passes_whole (whole.Owner tag class) at x y p =
    let closed = passed_closed x y p in
    (record y { left = left_behind (item.Tag tag) 0 }, tag_first x y tag p, (y, tag_next y (left_behind (item.Tag tag) 0) closed (left_none x y p), (y, nothing_more y closed, refl)))

-- ---- a declared field

coded_closed : (code : ℕ) (x y : Names) → Takes (item.TypeCode code) x y → y.is_open ≡ false
coded_closed code x y p = ap (λ z. z.is_open) p.is ∙ closed_now x.is_open x p.mid refl p.closes

no_name_type : (handle : Option ℕ) (handles end : ℕ) (y : Names) → y.is_open ≡ false → y.left ≡ 0 → TakesAll (λ lent w a b. Takes lent a b) (type_items handle handles end) y y
no_name_type None handles end y closed none = refl
no_name_type (Some handle) handles end y closed none = (y, tag_next y y.left closed none, (y, nothing_more y closed, refl))

-- where no name comes next, only its type code does something
pub passes_field : (field : Field) (at : Whereabouts) (x y : Names) → Takes (item.TypeCode field.code) x y → y.left ≡ 0 → TakesAll (λ lent w a b. Takes lent a b) (field_items field at) x y
passes_field field at x y p none =
    let closed = coded_closed field.code x y p in
    let end : ℕ = at.end - type_size field.type_handle in (
      y,
      p,
      takes_then (λ lent w a b. Takes lent a b) (name_items field.name at.handles end) (type_items field.type_handle at.handles at.end) y y y
          (y, no_name y closed none, no_name_part field.name at.handles end (length field.name.now) y closed) (no_name_type field.type_handle at.handles at.end y closed none),
    )

-- else it is taken item by item
pub takes_field : {F : Type 0} (field : Field) (at : Whereabouts) (x y z w : Names) (last : Result (Unit {0}) F) → Takes (item.TypeCode field.code) x y
    → ((handles end : ℕ) → TakesAll (λ lent w a b. Takes lent a b) (name_items field.name handles end) y z)
    → OnOk last ((handles end : ℕ) → TakesAll (λ lent w a b. Takes lent a b) (type_items field.type_handle handles end) z w) → OnOk last (TakesAll (λ lent w a b. Takes lent a b) (field_items field at) x w)
takes_field field at x y z w (Err fault) p n t = tt
takes_field field at x y z w (Ok done) p n t =
    let end : ℕ = at.end - type_size field.type_handle in
    (y, p, takes_then (λ lent w a b. Takes lent a b) (name_items field.name at.handles end) (type_items field.type_handle at.handles at.end) y z w (n at.handles end) (t at.handles at.end))
