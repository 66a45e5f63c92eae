-- The reasons of the table of refusals, as the code names them.
use Rattle.jser_verdict.specs.Reasons.{bytes_exceeded, bad_header, bad_tag, exception_tag, reset_inside, bad_text, negative_length, bad_type_code, field_order, bad_flags, null_class, no_such_handle, wrong_kind, open_descriptor, bad_array_name, wrong_class, external_raw, not_serializable, class_rejected, class_unmatched, depth_exceeded, refs_exceeded, array_exceeded, truncated, handle_space}
use Rattle.jser_verdict.specs.Reasons.{Reason as ToldReason}
use Rattle.jser_reader.specs.declared.refusal.Reason.{Reason}
use Rattle.jser_reader.specs.declared.refusal.Reason.TheVariants as reason

abbrev pub named : ToldReason → Reason
named bytes_exceeded = reason.BytesExceeded
named bad_header = reason.BadHeader
named bad_tag = reason.BadTag
named exception_tag = reason.ExceptionTag
named reset_inside = reason.ResetInside
named bad_text = reason.BadText
named negative_length = reason.NegativeLength
named bad_type_code = reason.BadTypeCode
named field_order = reason.FieldOrder
named bad_flags = reason.BadFlags
named null_class = reason.NullClass
named no_such_handle = reason.NoSuchHandle
named wrong_kind = reason.WrongKind
named open_descriptor = reason.OpenDescriptor
named bad_array_name = reason.BadArrayName
named wrong_class = reason.WrongClass
named external_raw = reason.ExternalRaw
named not_serializable = reason.NotSerializable
named class_rejected = reason.ClassRejected
named class_unmatched = reason.ClassUnmatched
named depth_exceeded = reason.DepthExceeded
named refs_exceeded = reason.RefsExceeded
named array_exceeded = reason.ArrayExceeded
named truncated = reason.Truncated
named handle_space = reason.HandleSpace
