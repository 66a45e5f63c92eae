-- What a reading answers of all the bytes: the walk by the verdict, with the limit on the number of bytes put round it.
use Rattle.std.specs.Prelude.{ℕ, suc, ◌-◌, ◌&&◌, Bool, true, false, if◌then◌else◌, nat_le, List, [], ◌∷◌, length, take}
use Rattle.jser_reading.specs.Goals.{Goal, top_goal, settled}
use Rattle.jser_reading.specs.Machine.{begin_state}
use Rattle.jser_reading.specs.Scanner.{Outcome, ended, refused, walk}
use Rattle.jser_verdict.specs.Reasons.{Reason, bytes_exceeded, truncated, reason_with}
use Rattle.jser_verdict.specs.Gates.{Gate}
use Rattle.jser_verdict.specs.Verdicts.{verdict}

-- accepted; or refused, with the start of the token, the number of bytes that decide, and the reason
pub data Told : Type 0 where
  accepted : Told
  refused_at : (at end : ℕ) → Reason → Told

abbrev pub is_top : List Goal → Bool
is_top (top_goal ∷ []) = true
is_top _ = false

abbrev pub is_none : List ℕ → Bool
is_none [] = true
is_none (b ∷ bytes) = false

-- of the outcome for so many bytes, all there are
abbrev pub told_whole : ℕ → Outcome → Told
told_whole n (refused wrong rest k) = refused_at (n - length rest - length wrong) (n - length rest) (reason_with k)
told_whole n (ended s cut) =
    if is_top (settled s).1 && is_none cut then accepted else refused_at (n - length cut) n truncated

-- of the outcome for so many bytes, the limit, where there are more
abbrev pub told_over : ℕ → Outcome → Told
told_over n (refused wrong rest k) = refused_at (n - length rest - length wrong) (n - length rest) (reason_with k)
told_over n (ended s cut) = refused_at (n - length cut) (suc n) bytes_exceeded

abbrev pub answer : Gate → List ℕ → Told
answer gate bytes =
    if nat_le (length bytes) gate.bytes then told_whole (length bytes) (walk (verdict gate) begin_state [] bytes)
    else told_over gate.bytes (walk (verdict gate) begin_state [] (take gate.bytes bytes))
