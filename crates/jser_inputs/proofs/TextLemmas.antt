-- A text in a buffer of the caller's.
use Rattle.std.proofs.Common.{◌≡◌, ℕ, ◌+◌, ◌-◌, ◌^◌, List, [], length, take, min, subst}
use Rattle.std.proofs.Math.Seq.{take-length}
use Rattle.jser_inputs.specs.Decoding.{ReadsOn, TextRead}
use Rattle.jser_inputs.specs.Spelled.{Reads}

pub reads_on : (old new : TextRead) (text out : List ℕ) (taken : ℕ) → Reads old.spot new.spot (take (length text) text) [] out taken
    → new.at ≡ min (old.at + taken) (2 ^ 64 - 1) → new.form ≡ old.form → ReadsOn old new text out
reads_on old new text out taken reads counted form = record {
  taken = taken;
  reads = subst (λ xs. Reads old.spot new.spot xs [] out taken) (take-length text) reads;
  counted = counted;
  form = form;
}
