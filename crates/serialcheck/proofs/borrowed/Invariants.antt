use Rattle.std.proofs.Common.{◌≡◌, vec_len}
use Rattle.serialcheck.proofs.borrowed.Given as goal

abbrev pub invariant-loop-word : goal.invariant-loop-word
invariant-loop-word l = vec_len l.words ≡ l.word-index
