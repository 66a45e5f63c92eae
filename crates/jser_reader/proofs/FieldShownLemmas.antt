-- The items of a declared field, as a visitor takes them one by one.
use Rattle.std.proofs.Common.{◌≡◌, inl, inr, ℕ, zero, suc, ◌+◌, ◌-◌, ◌<◌, List, [], ◌∷◌, ◌++◌, length, Some, Result, Ok, Err, OnOk, refl, sym, subst, arith}
use Rattle.std.specs.Prelude.{IfErr}
use denote.Bor.{Bor}
use Rattle.jser_grammar.specs.Wire.{TC_REFERENCE}
use Rattle.jser_reader.specs.declared.item.Field.{Field}
use Rattle.jser_reader.specs.declared.item.Item.{Item}
use Rattle.jser_reader.specs.declared.item.Item.TheVariants as item
use Rattle.jser_reader.specs.declared.visit.Whereabouts.{Whereabouts}
use Rattle.jser_reader.specs.Visits.{Shown, TakesAll, StopsAmong, part_items, name_items, type_items, type_size, field_items}

module _ {S : Type 0} (takes : Item → Whereabouts → S → S → Type 0) where
  -- items, and then others
  pub takes_then : (items more : List Shown) (x y z : S) → TakesAll takes items x y → TakesAll takes more y z → TakesAll takes (items ++ more) x z
  takes_then [] more x y z t u = subst (λ s. TakesAll takes more s z) t u
  takes_then (one ∷ items) more x y z t u = (t.0, t.1, takes_then items more t.0 y z t.2 u)

  stops_then : {F : Type 0} (stops : Item → F → S → S → Type 0) (items more : List Shown) (fault : F) (x y z : S) → TakesAll takes items x y → StopsAmong takes stops more fault y z
      → StopsAmong takes stops (items ++ more) fault x z
  stops_then stops [] more fault x y z t u = subst (λ s. StopsAmong takes stops more fault s z) t u
  stops_then stops (one ∷ items) more fault x y z t u = inr (t.0, t.1, stops_then stops items more fault t.0 y z t.2 u)

  -- a name of no bytes, and one of some
  pub unnamed : (name : Bor (List ℕ)) (handles end : ℕ) (at : Whereabouts) (x y : S) → length name.now ≡ 0 → at ≡ record { handles = handles; end = end - length name.now }
      → takes (item.TextLength (length name.now)) at x y → TakesAll takes (name_items name handles end) x y
  unnamed name handles end at x y none is t =
      (y, subst (λ w. takes (item.TextLength (length name.now)) w x y) is t, subst (λ n. TakesAll takes (part_items name handles end n) y y) (sym none) refl)

  pub named : (name : Bor (List ℕ)) (handles end : ℕ) (at behind : Whereabouts) (x y z : S) → 0 < length name.now → at ≡ record { handles = handles; end = end - length name.now }
      → behind ≡ record { handles = handles; end = end } → takes (item.TextLength (length name.now)) at x y → takes (item.TextPart name) behind y z
      → TakesAll takes (name_items name handles end) x z
  named name handles end at behind x y z some is same t u = (y, subst (λ w. takes (item.TextLength (length name.now)) w x y) is t, part (length name.now) some)
    where
      part : (n : ℕ) → 0 < n → TakesAll takes (part_items name handles end n) y z
      part zero some = absurd (omega arith)
      part (suc n) some = (z, subst (λ w. takes (item.TextPart name) w y z) same u, refl)

  module _ (field : Field) (at : Whereabouts) (handle : ℕ) (coded tagged : Whereabouts) (x a b c y : S) (is : field.type_handle ≡ Some handle)
      (coded_is : coded ≡ record { handles = at.handles; end = at.end - type_size field.type_handle - (length field.name.now + 2) })
      (tagged_is : tagged ≡ record { handles = at.handles; end = at.end - 4 }) (t : takes (item.TypeCode field.code) coded x a)
      (n : TakesAll takes (name_items field.name at.handles (at.end - type_size field.type_handle)) a b) where
    coded_at : takes (item.TypeCode field.code) (record { handles = at.handles; end = at.end - type_size field.type_handle - (length field.name.now + 2) }) x a
    coded_at = subst (λ w. takes (item.TypeCode field.code) w x a) coded_is t

    -- its type is taken after its name
    pub typed_takes : {F : Type 0} (last : Result (Unit {0}) F) → takes (item.Tag TC_REFERENCE) tagged b c → OnOk last (takes (item.Handle handle) at c y)
        → OnOk last (TakesAll takes (field_items field at) x y)
    typed_takes (Err fault) u v = tt
    typed_takes (Ok done) u v = (
      a,
      coded_at,
      takes_then (name_items field.name at.handles (at.end - type_size field.type_handle)) (type_items field.type_handle at.handles at.end) a b y n
          (subst (λ h. TakesAll takes (type_items h at.handles at.end) b y) (sym is) (c, subst (λ w. takes (item.Tag TC_REFERENCE) w b c) tagged_is u, (y, v, refl))),
    )

    -- the visitor stops at the handle of its type
    pub typed_stops : {F : Type 0} (stops : Item → F → S → S → Type 0) (last : Result (Unit {0}) F) → takes (item.Tag TC_REFERENCE) tagged b c
        → IfErr last (λ fault. stops (item.Handle handle) fault c y) → IfErr last (λ fault. StopsAmong takes stops (field_items field at) fault x y)
    typed_stops stops (Ok done) u v = tt
    typed_stops stops (Err fault) u v =
        inr (
          a,
          coded_at,
          stops_then stops (name_items field.name at.handles (at.end - type_size field.type_handle)) (type_items field.type_handle at.handles at.end) fault a b y n
              (subst (λ h. StopsAmong takes stops (type_items h at.handles at.end) fault b y) (sym is) (inr (c, subst (λ w. takes (item.Tag TC_REFERENCE) w b c) tagged_is u, inl v))),
        )

    -- it stops at the tag of its type
    pub tag_stops : {F : Type 0} (stops : Item → F → S → S → Type 0) (fault : F) → stops (item.Tag TC_REFERENCE) fault b y → StopsAmong takes stops (field_items field at) fault x y
    tag_stops stops fault s =
        inr (
          a,
          coded_at,
          stops_then stops (name_items field.name at.handles (at.end - type_size field.type_handle)) (type_items field.type_handle at.handles at.end) fault a b y n
              (subst (λ h. StopsAmong takes stops (type_items h at.handles at.end) fault b y) (sym is) (inl s)),
        )

-- a result that is this fault
pub is_fault : {A F : Type 0} (P : F → Type 0) (result : Result A F) (fault : F) → result ≡ Err fault → P fault → IfErr result P
is_fault P result fault is p = subst (λ r. IfErr r P) (sym is) p
