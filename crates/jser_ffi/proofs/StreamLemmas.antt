-- The stream of a handle, taken out of it.
use Rattle.std.proofs.Common.{◌≡◌, Some, sym, subst}
use Rattle.jser_ffi.specs.declared.answer.Answer.{Answer}
use Rattle.jser_ffi.specs.declared.stream.Stream.{Stream}
use Rattle.jser_ffi.specs.Streams.{IsOver}

pub same_stream : (a b : Stream) → Some a ≡ Some b → a ≡ b
same_stream a b e = cc

-- it is over, by whatever name it goes
pub over_too : (answer : Answer) (a b : Stream) → a ≡ b → IsOver answer b → IsOver answer a
over_too answer a b e over = subst (λ (s : Stream). IsOver answer s) (sym e) over
