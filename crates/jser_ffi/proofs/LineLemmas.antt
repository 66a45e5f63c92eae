-- The name and the meaning of a reason are those of its number.
use Rattle.std.proofs.Common.{◌≡◌, ℕ, List, sym, subst}
use Rattle.jser_reader.specs.declared.Reason.{Reason}
use Rattle.jser_reader.specs.declared.Reason.TheVariants as reason
use Rattle.jser_reader.specs.ReasonNames.{reason_name}
use Rattle.jser_commands.specs.Reasons.{reason_meaning}
use Rattle.jser_ffi.specs.declared.answer.Answer.{Answer}
use Rattle.jser_ffi.specs.Lines.{PutsAny, meaning_at, name_at}
use Rattle.jser_ffi.specs.Rooms.{Puts}
use Rattle.jser_ffi.specs.Told.{reason_number}

at_number : (why : Reason) (old new : List ℕ) (answer : Answer) → PutsAny (name_at (reason_number why)) old new answer → Puts (reason_name why) old new answer
at_number reason.BytesExceeded old new answer puts = puts
at_number reason.BadHeader old new answer puts = puts
at_number reason.BadTag old new answer puts = puts
at_number reason.ExceptionTag old new answer puts = puts
at_number reason.ResetInside old new answer puts = puts
at_number reason.BadText old new answer puts = puts
at_number reason.NegativeLength old new answer puts = puts
at_number reason.BadTypeCode old new answer puts = puts
at_number reason.FieldOrder old new answer puts = puts
at_number reason.BadFlags old new answer puts = puts
at_number reason.NullClass old new answer puts = puts
at_number reason.NoSuchHandle old new answer puts = puts
at_number reason.WrongKind old new answer puts = puts
at_number reason.OpenDescriptor old new answer puts = puts
at_number reason.BadArrayName old new answer puts = puts
at_number reason.WrongClass old new answer puts = puts
at_number reason.ExternalRaw old new answer puts = puts
at_number reason.NotSerializable old new answer puts = puts
at_number reason.ClassRejected old new answer puts = puts
at_number reason.ClassUnmatched old new answer puts = puts
at_number reason.DepthExceeded old new answer puts = puts
at_number reason.RefsExceeded old new answer puts = puts
at_number reason.ArrayExceeded old new answer puts = puts
at_number reason.Truncated old new answer puts = puts
at_number reason.HandleSpace old new answer puts = puts

pub named : (number : ℕ) (old new : List ℕ) (answer : Answer) → PutsAny (name_at number) old new answer
    → (why : Reason) → reason_number why ≡ number → Puts (reason_name why) old new answer
named number old new answer puts why is = at_number why old new answer (subst (λ n. PutsAny (name_at n) old new answer) (sym is) puts)

means_number : (why : Reason) (old new : List ℕ) (answer : Answer) → PutsAny (meaning_at (reason_number why)) old new answer → Puts (reason_meaning why) old new answer
means_number reason.BytesExceeded old new answer puts = puts
means_number reason.BadHeader old new answer puts = puts
means_number reason.BadTag old new answer puts = puts
means_number reason.ExceptionTag old new answer puts = puts
means_number reason.ResetInside old new answer puts = puts
means_number reason.BadText old new answer puts = puts
means_number reason.NegativeLength old new answer puts = puts
means_number reason.BadTypeCode old new answer puts = puts
means_number reason.FieldOrder old new answer puts = puts
means_number reason.BadFlags old new answer puts = puts
means_number reason.NullClass old new answer puts = puts
means_number reason.NoSuchHandle old new answer puts = puts
means_number reason.WrongKind old new answer puts = puts
means_number reason.OpenDescriptor old new answer puts = puts
means_number reason.BadArrayName old new answer puts = puts
means_number reason.WrongClass old new answer puts = puts
means_number reason.ExternalRaw old new answer puts = puts
means_number reason.NotSerializable old new answer puts = puts
means_number reason.ClassRejected old new answer puts = puts
means_number reason.ClassUnmatched old new answer puts = puts
means_number reason.DepthExceeded old new answer puts = puts
means_number reason.RefsExceeded old new answer puts = puts
means_number reason.ArrayExceeded old new answer puts = puts
means_number reason.Truncated old new answer puts = puts
means_number reason.HandleSpace old new answer puts = puts

pub means : (number : ℕ) (old new : List ℕ) (answer : Answer) → PutsAny (meaning_at number) old new answer
    → (why : Reason) → reason_number why ≡ number → Puts (reason_meaning why) old new answer
means number old new answer puts why is = means_number why old new answer (subst (λ n. PutsAny (meaning_at n) old new answer) (sym is) puts)
