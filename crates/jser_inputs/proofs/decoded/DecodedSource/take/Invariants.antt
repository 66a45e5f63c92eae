use Rattle.std.proofs.Common.{◌≡◌, ◌≤◌, true, length}
use Rattle.std.specs.Prelude.{◌⊎◌}
use Rattle.std.specs.Io.KnownBytes.{Keeps}
use Rattle.jser_inputs.specs.Places.{is_wrong}
use Rattle.jser_inputs.specs.Decoding.{bytes_to_come, right_in, KeepsNumber}
use Rattle.jser_inputs.proofs.decoded.DecodedSource.take.Given as goal

-- no byte has come so far
abbrev pub invariant-turns : goal.invariant-turns
invariant-turns g l = record {
  bytes : Keeps (bytes_to_come l.fn.self) (bytes_to_come l.self);
  number : KeepsNumber (right_in l.fn.self) (right_in l.self);
  form : l.self.form ≡ l.fn.self.form;
  failed : l.self.has_failed ≡ l.fn.self.has_failed;
  size : length l.buf ≡ length l.fn.buf;
  counted : (is_wrong l.self.spot.place ≡ true) ⊎ (l.turns ≤ l.self.at);
}
