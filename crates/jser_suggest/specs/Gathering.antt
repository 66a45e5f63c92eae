-- How element names are gathered.
use Rattle.std.specs.Prelude.{◌≡◌, ◌⊎◌, ℕ, true, false, List, map}
use Rattle.std.specs.BTreeSet.{BTreeSet, keys}
use Rattle.std.specs.Prelude.{String, string_bytes}
use Rattle.jser_prim.specs.ModifiedUtf8.{utf16_units}
use Rattle.jser_table.specs.Names.{element, malformed_element, element_of}
use Rattle.jser_reading.specs.GateLimits.{Each}
use Rattle.jser_reader.specs.declared.Stop.TheVariants as stop
use Rattle.jser_suggest.specs.declared.samples.SampleFault.{SampleFault}
use Rattle.jser_suggest.specs.declared.samples.SampleFault.TheVariants as fault
use Rattle.jser_suggest.specs.Suggested.{is_plain, is_writable}
use Rattle.jser_suggest.specs.Samples.{Some_of, Among, ElementAmong}

-- the units of the texts that a set keeps
abbrev pub name_list : {Y : Type 0} → BTreeSet (String Y) → List (List ℕ)
name_list set = map (λ text. utf16_units (string_bytes text)) (keys set)

-- a name was added, and no other
pub record InsertsName (name : List ℕ) (old new : List (List ℕ)) : Type 0 where
  pub there : Among new name
  pub keeps : (other : List ℕ) → Among old other → Among new other
  pub gains : (other : List ℕ) → Among new other → Among old other ⊎ (other ≡ name)

-- a pattern means it alone, and it has only plain signs
abbrev pub CanBeWritten : List ℕ → Type 0
CanBeWritten name = (is_writable name ≡ true) × (is_plain name ≡ true)

abbrev pub AddsName : (name : List ℕ) → (old new : List (List ℕ)) → Type 0
AddsName name old new = CanBeWritten name × InsertsName name old new

-- a checked name has this element
abbrev pub IsElement : (name checked : List ℕ) → Type 0
IsElement name checked = element_of checked ≡ element name

-- the element names of these checked names were added, each of which can be written, and no others
pub record GainsAll (checked : List (List ℕ)) (old new : List (List ℕ)) : Type 0 where
  pub there : Each (λ name. ElementAmong new (element_of name)) checked
  pub keeps : (other : List ℕ) → Among old other → Among new other
  pub gains : (other : List ℕ) → Among new other → Among old other ⊎ (Some_of (IsElement other) checked × CanBeWritten other)

-- no piece of a filter's text allows the name alone; or it has a sign that is not plain
abbrev pub CannotBeWritten : List ℕ → Type 0
CannotBeWritten name = (is_writable name ≡ false) ⊎ (is_plain name ≡ false)

abbrev pub IsNoMemory : SampleFault → Type 0
IsNoMemory why = why ≡ fault.Stop stop.OutOfMemory

-- memory ran out, or the name is told
abbrev pub IsTold : List ℕ → SampleFault → Type 0
IsTold name (fault.Stop stop.OutOfMemory) = Unit {0}
IsTold name (fault.Stop _) = ⊥
IsTold name (fault.Unwritable units) = units.items ≡ name

abbrev pub IsFaultOf : List ℕ → SampleFault → Type 0
IsFaultOf name (fault.Stop stop.OutOfMemory) = Unit {0}
IsFaultOf name (fault.Stop _) = ⊥
IsFaultOf name (fault.Unwritable units) = (units.items ≡ name) × CannotBeWritten name

-- the name that is told is the element of this checked name and cannot be written; or it is malformed
abbrev pub IsUnwritable : (units checked : List ℕ) → Type 0
IsUnwritable units checked = (IsElement units checked × CannotBeWritten units) ⊎ ((element_of checked ≡ malformed_element) × (units ≡ checked))

abbrev pub IfUnwritable : (checked : List (List ℕ)) → SampleFault → Type 0
IfUnwritable checked (fault.Stop stop.OutOfMemory) = Unit {0}
IfUnwritable checked (fault.Stop _) = ⊥
IfUnwritable checked (fault.Unwritable units) = Some_of (IsUnwritable units.items) checked
