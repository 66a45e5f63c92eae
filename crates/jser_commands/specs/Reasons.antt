-- What each reason of a refusal means, in a sentence.
use Rattle.std.specs.Prelude.{ℕ, List, codes}
use Rattle.jser_reader.specs.declared.Reason.{Reason}
use Rattle.jser_reader.specs.declared.Reason.TheVariants as reason

abbrev pub reason_meaning : Reason → List ℕ
reason_meaning reason.BytesExceeded = codes "The stream has more bytes than the limit."
reason_meaning reason.BadHeader = codes "The bytes do not begin with the header of a stream, aced0005."
reason_meaning reason.BadTag = codes "This byte is no tag, or none that may stand here."
reason_meaning reason.ExceptionTag = codes "The writer of the stream met an exception here. Such streams are refused."
reason_meaning reason.ResetInside = codes "A reset may only stand between the contents at the top."
reason_meaning reason.BadText = codes "These bytes are no modified UTF-8, or not the shortest spelling."
reason_meaning reason.NegativeLength = codes "This number is negative."
reason_meaning reason.BadTypeCode = codes "This byte is none of the type codes B C D F I J S Z [ L."
reason_meaning reason.FieldOrder = codes "A descriptor has its fields of primitive types before all others; this one comes late."
reason_meaning reason.BadFlags = codes "No class has these flags: a bit of E0, or serializable and externalizable at once."
reason_meaning reason.NullClass = codes "A class must stand here, and this is null."
reason_meaning reason.NoSuchHandle = codes "No object of the stream has this handle yet."
reason_meaning reason.WrongKind = codes "The handle names something else than is wanted here."
reason_meaning reason.OpenDescriptor = codes "The handle names a class whose description has not ended."
reason_meaning reason.BadArrayName = codes "The name begins with [ and is not the name of an array class."
reason_meaning reason.WrongClass = codes "This class cannot be that of an object, array or enum constant here."
reason_meaning reason.ExternalRaw = codes "The class writes its own data without block data mode, so nobody else can find their end."
reason_meaning reason.NotSerializable = codes "A class of the object is not serializable."
reason_meaning reason.ClassRejected = codes "A pattern of the filter rejects this class."
reason_meaning reason.ClassUnmatched = codes "No pattern of the filter matches this class, and --strict is set."
reason_meaning reason.DepthExceeded = codes "Values are nested deeper than the limit."
reason_meaning reason.RefsExceeded = codes "The stream has more places for values than the limit."
reason_meaning reason.ArrayExceeded = codes "The array is longer than the limit."
reason_meaning reason.Truncated = codes "The input ends here, and the stream does not."
reason_meaning reason.HandleSpace = codes "The stream has used up all handles."

-- and that a name can be read at some place
abbrev pub hidden_meaning : List ℕ
hidden_meaning = codes "A class name can be read at this place, though it is none of the stream's own, and the filter does not let it pass."
