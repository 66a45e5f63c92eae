-- Which classes may stand in the class place of an object, an array and an enum constant.
use Rattle.std.specs.Prelude.{Bool, true, false, not, ◌&&◌, if◌then◌else◌, List, Option, Some, None}
use Rattle.jser_table.specs.declared.layer.Layer.{Layer}
use Rattle.jser_table.specs.declared.layer.Purpose.{Purpose}
use Rattle.jser_table.specs.declared.layer.Purpose.TheVariants as purpose
use Rattle.jser_table.specs.declared.layer.Fit.{Fit}
use Rattle.jser_table.specs.declared.layer.Fit.TheVariants as fit
use Rattle.jser_table.specs.Chains.{is_externalizable, has_block_data, is_enum, is_proxy_kind, is_array_kind, own_layer, all_serial}

-- An object's class is no array; and either it is externalizable, and then it writes block data, or each
-- class of its chain is a proxy or serializable (`serial`).
abbrev pub object_fit : Layer → Bool → Fit
object_fit own serial =
    if is_array_kind own.kind then fit.WrongClass
    else (if is_externalizable own.flags then (if has_block_data own.flags then fit.Fits else fit.ExternalRaw)
    else (if serial then fit.Fits else fit.NotSerializable))

abbrev pub fit_of_object : Layer → List Layer → Fit
fit_of_object own chain = object_fit own (all_serial chain)

-- an array's class is plain and its name an array name
abbrev pub fit_of_array : Layer → Fit
fit_of_array own = if is_array_kind own.kind then fit.Fits else fit.WrongClass

-- an enum constant's class is plain and has flag 10
abbrev pub fit_of_enum : Layer → Fit
fit_of_enum own = if not (is_proxy_kind own.kind) && is_enum own.flags then fit.Fits else fit.WrongClass

-- of a class by its own layer, and whether each class of its chain is a proxy or serializable
abbrev pub class_fit : Purpose → Layer → Bool → Fit
class_fit purpose.Object own serial = object_fit own serial
class_fit purpose.Array own serial = fit_of_array own
class_fit purpose.EnumConst own serial = fit_of_enum own

-- an empty chain is no class
abbrev pub fit_of_own : Purpose → Option Layer → List Layer → Fit
fit_of_own purpose None chain = fit.WrongClass
fit_of_own purpose (Some own) chain = class_fit purpose own (all_serial chain)

-- What is wrong with a class for this purpose, if anything. Where several faults hold, WrongClass comes
-- before ExternalRaw, and that before NotSerializable.
abbrev pub fit_of : Purpose → List Layer → Fit
fit_of purpose chain = fit_of_own purpose (own_layer chain) chain

abbrev pub does_fit : Fit → Bool
does_fit fit.Fits = true
does_fit fit.WrongClass = false
does_fit fit.ExternalRaw = false
does_fit fit.NotSerializable = false

-- the class fits the purpose
abbrev pub fits : Purpose → List Layer → Bool
fits purpose chain = does_fit (fit_of purpose chain)
