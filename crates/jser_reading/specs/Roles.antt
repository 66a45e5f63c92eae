-- For what a class is read, and what that asks of each of its descriptors (Java Object Serialization
-- Specification, section 6.4.1). The conditions are those of `fits` on the whole chain, told at the token of
-- the descriptor at which they show: its name, its flags, or the tag of a proxy.
use Rattle.std.specs.Prelude.{ℕ, Bool, true, false, not, IsTrue, if◌then◌else◌, List, Option, Some, None}
use Rattle.jser_table.specs.declared.layer.Layer.{Layer}
use Rattle.jser_table.specs.declared.layer.Purpose.TheVariants as purpose
use Rattle.jser_table.specs.Chains.{is_serializable, is_externalizable, has_block_data, is_enum, all_serial}
use Rattle.jser_table.specs.Fits.{fits}
use Rattle.jser_table.specs.Names.{NameKind, plain_name, array_name, malformed_name}

-- the owner of a class place: what is read with the class in it
pub data Owner : Type 0 where
  object_owner array_owner enum_owner class_owner : Owner

-- a chain belongs to the owner of a class place, or to a descriptor that stands as a value and has no owner
abbrev pub ChainOwner : Type 0
ChainOwner = Option Owner

-- The role of a descriptor in its chain: the own class, or a superclass, at any level. `strict` tells that
-- superclasses must be proxies or have SC_SERIALIZABLE.
pub data Role : Type 0 where
  own_class : ChainOwner → Role
  superclass : ChainOwner → (strict : Bool) → Role

abbrev pub owner_of : Role → ChainOwner
owner_of (own_class owner) = owner
owner_of (superclass owner strict) = owner

-- whether the superclasses of a descriptor with these flags must be serializable
abbrev pub is_strict_above : Role → ℕ → Bool
is_strict_above (own_class None) flags = false
is_strict_above (own_class (Some object_owner)) flags = not (is_externalizable flags)
is_strict_above (own_class (Some array_owner)) flags = false
is_strict_above (own_class (Some enum_owner)) flags = false
is_strict_above (own_class (Some class_owner)) flags = false
is_strict_above (superclass owner strict) flags = strict

-- the chain fits its role
abbrev pub FitsOwner : Owner → List Layer → Type 0
FitsOwner object_owner chain = IsTrue (fits purpose.Object chain)
FitsOwner array_owner chain = IsTrue (fits purpose.Array chain)
FitsOwner enum_owner chain = IsTrue (fits purpose.EnumConst chain)
FitsOwner class_owner chain = Unit {0}

abbrev pub FitsRole : Role → List Layer → Type 0
FitsRole (own_class None) chain = Unit {0}
FitsRole (own_class (Some owner)) chain = FitsOwner owner chain
FitsRole (superclass owner false) chain = Unit {0}
FitsRole (superclass owner true) chain = IsTrue (all_serial chain)

-- the name of a plain descriptor fits its role
abbrev pub NameFitsOwner : Owner → NameKind → Type 0
NameFitsOwner object_owner plain_name = Unit {0}
NameFitsOwner object_owner (array_name elements) = ⊥
NameFitsOwner object_owner malformed_name = ⊥
NameFitsOwner array_owner plain_name = ⊥
NameFitsOwner array_owner (array_name elements) = Unit {0}
NameFitsOwner array_owner malformed_name = ⊥
NameFitsOwner enum_owner kind = Unit {0}
NameFitsOwner class_owner kind = Unit {0}

abbrev pub NameFits : Role → NameKind → Type 0
NameFits (own_class None) kind = Unit {0}
NameFits (own_class (Some owner)) kind = NameFitsOwner owner kind
NameFits (superclass owner strict) kind = Unit {0}

-- the flags of a plain descriptor fit its role
abbrev pub FlagsFitOwner : Owner → ℕ → Type 0
FlagsFitOwner object_owner flags =
    IsTrue (if is_externalizable flags then has_block_data flags else is_serializable flags)
FlagsFitOwner array_owner flags = Unit {0}
FlagsFitOwner enum_owner flags = IsTrue (is_enum flags)
FlagsFitOwner class_owner flags = Unit {0}

abbrev pub FlagsFit : Role → ℕ → Type 0
FlagsFit (own_class None) flags = Unit {0}
FlagsFit (own_class (Some owner)) flags = FlagsFitOwner owner flags
FlagsFit (superclass owner false) flags = Unit {0}
FlagsFit (superclass owner true) flags = IsTrue (is_serializable flags)

-- a proxy descriptor fits its role: it is the class of no array and no enum constant
abbrev pub ProxyFitsOwner : Owner → Type 0
ProxyFitsOwner object_owner = Unit {0}
ProxyFitsOwner array_owner = ⊥
ProxyFitsOwner enum_owner = ⊥
ProxyFitsOwner class_owner = Unit {0}

abbrev pub ProxyFits : Role → Type 0
ProxyFits (own_class None) = Unit {0}
ProxyFits (own_class (Some owner)) = ProxyFitsOwner owner
ProxyFits (superclass owner strict) = Unit {0}
