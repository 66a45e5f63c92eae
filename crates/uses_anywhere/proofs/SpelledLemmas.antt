-- Names that are said without a reader, and those that stand.
use Rattle.std.proofs.Common.{◌≡◌, inl, inr, ℕ, zero, suc, ◌+◌, ◌*◌, Bool, true, false, if◌then◌else◌, List, [], ◌∷◌, ◌++◌, length, drop, Option, Some, None, refl, sym, ap, ◌∙◌, subst}
use Rattle.std.proofs.Math.Seq.{drop-append_seam}
use Rattle.jser_anywhere.specs.LoadableNames.{NamesAreInRows, ReadsLoadable}
use Rattle.jser_anywhere.specs.LooseText.{ReadsRows}
use Rattle.jser_anywhere.specs.Names.{core, core_in, name_units}
use Rattle.jser_anywhere.specs.Standing.{AllPass, Begins, BeginsRow, StandsAt}
use Rattle.jser_anywhere.specs.Texts.{row_units}
use Rattle.jser_anywhere.specs.Worked.{WorkedRows, three_names}
use Rattle.uses_anywhere.specs.Spelled.{HoldsName, CanBeAskedFor}

-- ---- a name that is said so stands

named : (text units class : List ℕ) → row_units text ≡ Some units → core units ≡ Some class → name_units text ≡ Some class
unfolding name_units
named text units class read loadable = ap core_in read ∙ loadable

stands : (bytes units : List ℕ) → NamesAreInRows → ReadsRows → ReadsLoadable → (h : HoldsName bytes units) → StandsAt bytes (length h.front) (length h.front + (1 + (2 + length h.text))) units
stands bytes units rows loose loadable h = record {
  end = 1 + (2 + length h.text);
  begins = inl (record {
    rest = h.high ∷ h.low ∷ (h.text ++ h.after);
    split = ap (drop (length h.front)) h.split ∙ drop-append_seam h.front (0x72 ∷ h.high ∷ h.low ∷ (h.text ++ h.after));
    name_end = 2 + length h.text;
    name = record {
      high = h.high;
      low = h.low;
      text = h.text;
      after = h.after;
      split = refl;
      counted = h.counted;
      least = h.least;
      most = h.most;
      named = named h.text h.units units (loose.all h.text h.units h.loose (rows h.text h.units units h.loose h.loadable)) (loadable.all h.units units h.loadable);
      ends = refl;
    };
    ends = refl;
  });
  ends = refl;
}

not_false : (b : Bool) → (b ≡ false → ⊥) → b ≡ true
not_false true other = refl
not_false false other = absurd (other refl)

pub clear : (passes : List ℕ → Bool) (bytes : List ℕ) → NamesAreInRows → ReadsRows → ReadsLoadable → AllPass passes bytes → (units : List ℕ) → HoldsName bytes units → passes units ≡ true
clear passes bytes rows loose loadable all units h =
    not_false (passes units) (λ fails. all (length h.front) (length h.front + (1 + (2 + length h.text))) (record { units = units; stands = stands bytes units rows loose loadable h; fails = fails }))

-- ---- and one that stands is said so

row_text : (most : ℕ) (bytes : List ℕ) (end : ℕ) (units : List ℕ) → BeginsRow most bytes end units → (text : List ℕ) × (name_units text ≡ Some units)
row_text zero bytes end units row = absurd row
row_text (suc most) bytes end units (inl name) = (name.text, name.named)
row_text (suc most) bytes end units (inr others) = row_text most (drop others.first bytes) others.more units others.later

begun_text : (bytes : List ℕ) (end : ℕ) (units : List ℕ) → Begins bytes end units → (text : List ℕ) × (name_units text ≡ Some units)
begun_text bytes end units (inl descriptor) = (descriptor.name.text, descriptor.name.named)
begun_text bytes end units (inr interfaces) = row_text (interfaces.high * 256 + interfaces.low) interfaces.rest interfaces.row_end units interfaces.row

-- its units, and the class that they name
record HasUnits (text class : List ℕ) : Type 0 where
  pub units : List ℕ
  pub read : row_units text ≡ Some units
  pub named : core units ≡ Some class

has_units : (text class : List ℕ) (o : Option (List ℕ)) → row_units text ≡ o → core_in o ≡ Some class → HasUnits text class
has_units text class None r e = cc e
has_units text class (Some units) r e = record { units = units; read = r; named = e }

units_of : (text class : List ℕ) → name_units text ≡ Some class → HasUnits text class
unfolding name_units
units_of text class e = has_units text class (row_units text) refl e

pub asked_for : (bytes : List ℕ) (from to : ℕ) (class : List ℕ) → ReadsRows → ReadsLoadable → StandsAt bytes from to class → CanBeAskedFor class
asked_for bytes from to class rows loadable stands =
    let found = begun_text (drop from bytes) stands.end class stands.begins in
    let h = units_of found.0 class found.1 in
    let loose = rows.only found.0 h.units h.read in
    record { text = found.0; units = h.units; loose = loose.0; loadable = loadable.only h.units class h.named }

-- ---- a worked row

pub third_hidden : (passes : List ℕ → Bool) → WorkedRows → passes (0x63 ∷ []) ≡ false → AllPass passes three_names → ⊥
third_hidden passes worked fails all = all 0 14 (record { units = 0x63 ∷ []; stands = worked.third; fails = fails })
