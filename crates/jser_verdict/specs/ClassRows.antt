-- Classes by purpose, and where a class is refused that does not fit (Java Object Serialization Specification, section
-- 6.4.1): an object wants a class that is no array, and is externalizable with block data, or serializable with all its
-- superclasses; an array wants an array class, an enum constant an enum. What is wrong shows at a new descriptor's
-- name, flags or tag, at the flags of a superclass, or at the handle of a descriptor that was read before.
use Rattle.std.specs.Prelude.{ℕ, ◌&&◌, not, Bool, true, false, List, Option, Some}
use Rattle.jser_table.specs.Chains.{is_serializable, is_externalizable, has_block_data, is_enum, all_serial}
use Rattle.jser_table.specs.declared.layer.Layer.{Layer}
use Rattle.jser_table.specs.declared.layer.Fit.{Fit}
use Rattle.jser_table.specs.declared.layer.Fit.TheVariants as fit
use Rattle.jser_table.specs.declared.layer.Purpose.TheVariants as purpose
use Rattle.jser_table.specs.Entries.{TableEntry, is_closed, chain_of}
use Rattle.jser_table.specs.Fits.{fit_of}
use Rattle.jser_table.specs.Names.{NameKind, plain_name, array_name, malformed_name, name_kind}
use Rattle.jser_grammar.specs.TableAfter.{Entries}
use Rattle.jser_reading.specs.Roles.{Owner, object_owner, array_owner, enum_owner, class_owner, Role, own_class, superclass}
use Rattle.jser_reading.specs.Labels.{Position, class_place_at, class_handle_at, superclass_handle_at, class_name_at, flags_at}
use Rattle.jser_verdict.specs.BytesSoFar.{of_byte, of_number}
use Rattle.jser_verdict.specs.TextsSoFar.{of_text}
use Rattle.jser_verdict.specs.TagRows.{is_wrong_proxy}
use Rattle.jser_verdict.specs.HandleRows.{entry_named}

-- a class that was read before, as the class of an owner

abbrev pub is_wrong : Fit → Bool
is_wrong fit.Fits = false
is_wrong fit.WrongClass = true
is_wrong fit.ExternalRaw = false
is_wrong fit.NotSerializable = false

abbrev pub is_raw : Fit → Bool
is_raw fit.Fits = false
is_raw fit.WrongClass = false
is_raw fit.ExternalRaw = true
is_raw fit.NotSerializable = false

abbrev pub is_unserial : Fit → Bool
is_unserial fit.Fits = false
is_unserial fit.WrongClass = false
is_unserial fit.ExternalRaw = false
is_unserial fit.NotSerializable = true

abbrev pub fit_of_owner : Owner → List Layer → Fit
fit_of_owner object_owner chain = fit_of purpose.Object chain
fit_of_owner array_owner chain = fit_of purpose.Array chain
fit_of_owner enum_owner chain = fit_of purpose.EnumConst chain
fit_of_owner class_owner chain = fit.Fits

abbrev pub fit_at : Owner → Option TableEntry → (Fit → Bool) → Bool
fit_at owner entry test = is_closed entry && test (fit_of_owner owner (chain_of entry))

-- a class that was read before, as a superclass in a chain that must be serializable
abbrev pub is_unserial_superclass : (strict : Bool) → Option TableEntry → Bool
is_unserial_superclass false entry = false
is_unserial_superclass true entry = is_closed entry && not (all_serial (chain_of entry))

-- a new plain descriptor: its name, and its flags

abbrev pub is_array_kind_name : NameKind → Bool
is_array_kind_name plain_name = false
is_array_kind_name (array_name elements) = true
is_array_kind_name malformed_name = false

abbrev pub is_wrong_name : Role → NameKind → Bool
is_wrong_name (own_class (Some object_owner)) kind = is_array_kind_name kind
is_wrong_name (own_class (Some array_owner)) kind = not (is_array_kind_name kind)
is_wrong_name _ kind = false

abbrev pub has_wrong_flags : Role → ℕ → Bool
has_wrong_flags (own_class (Some enum_owner)) flags = not (is_enum flags)
has_wrong_flags _ flags = false

abbrev pub has_raw_flags : Role → ℕ → Bool
has_raw_flags (own_class (Some object_owner)) flags = is_externalizable flags && not (has_block_data flags)
has_raw_flags _ flags = false

abbrev pub has_unserial_flags : Role → ℕ → Bool
has_unserial_flags (own_class (Some object_owner)) flags = not (is_externalizable flags) && not (is_serializable flags)
has_unserial_flags (superclass owner true) flags = not (is_serializable flags)
has_unserial_flags _ flags = false

-- by position

abbrev pub of_entry : Entries → List ℕ → (Option TableEntry → Bool) → Bool
of_entry table bytes test = of_number 4 bytes (λ n. test (entry_named table n))

abbrev pub wrong_class_row : Position → Entries → List ℕ → Bool
wrong_class_row (class_place_at owner) table bytes = of_byte bytes (is_wrong_proxy owner)
wrong_class_row (class_name_at role) table bytes = of_text false bytes (λ name. is_wrong_name role (name_kind name))
wrong_class_row (flags_at role) table bytes = of_byte bytes (has_wrong_flags role)
wrong_class_row (class_handle_at owner) table bytes = of_entry table bytes (λ entry. fit_at owner entry is_wrong)
wrong_class_row _ table bytes = false

abbrev pub external_raw_row : Position → Entries → List ℕ → Bool
external_raw_row (flags_at role) table bytes = of_byte bytes (has_raw_flags role)
external_raw_row (class_handle_at owner) table bytes = of_entry table bytes (λ entry. fit_at owner entry is_raw)
external_raw_row _ table bytes = false

abbrev pub not_serializable_row : Position → Entries → List ℕ → Bool
not_serializable_row (flags_at role) table bytes = of_byte bytes (has_unserial_flags role)
not_serializable_row (class_handle_at owner) table bytes = of_entry table bytes (λ entry. fit_at owner entry is_unserial)
not_serializable_row (superclass_handle_at owner strict) table bytes = of_entry table bytes (is_unserial_superclass strict)
not_serializable_row _ table bytes = false
