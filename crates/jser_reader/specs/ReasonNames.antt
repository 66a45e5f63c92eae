-- The names by which the reasons of a refusal are printed.
use Rattle.std.specs.Prelude.{ℕ, List, codes}
use Rattle.jser_reader.specs.declared.refusal.Reason.{Reason}
use Rattle.jser_reader.specs.declared.refusal.Reason.TheVariants as reason

abbrev pub reason_name : Reason → List ℕ
reason_name reason.BytesExceeded = codes "BytesExceeded"
reason_name reason.BadHeader = codes "BadHeader"
reason_name reason.BadTag = codes "BadTag"
reason_name reason.ExceptionTag = codes "ExceptionTag"
reason_name reason.ResetInside = codes "ResetInside"
reason_name reason.BadText = codes "BadText"
reason_name reason.NegativeLength = codes "NegativeLength"
reason_name reason.BadTypeCode = codes "BadTypeCode"
reason_name reason.FieldOrder = codes "FieldOrder"
reason_name reason.BadFlags = codes "BadFlags"
reason_name reason.NullClass = codes "NullClass"
reason_name reason.NoSuchHandle = codes "NoSuchHandle"
reason_name reason.WrongKind = codes "WrongKind"
reason_name reason.OpenDescriptor = codes "OpenDescriptor"
reason_name reason.BadArrayName = codes "BadArrayName"
reason_name reason.WrongClass = codes "WrongClass"
reason_name reason.ExternalRaw = codes "ExternalRaw"
reason_name reason.NotSerializable = codes "NotSerializable"
reason_name reason.ClassRejected = codes "ClassRejected"
reason_name reason.ClassUnmatched = codes "ClassUnmatched"
reason_name reason.DepthExceeded = codes "DepthExceeded"
reason_name reason.RefsExceeded = codes "RefsExceeded"
reason_name reason.ArrayExceeded = codes "ArrayExceeded"
reason_name reason.Truncated = codes "Truncated"
reason_name reason.HandleSpace = codes "HandleSpace"
