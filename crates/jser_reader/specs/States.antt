-- A machine that has stopped, or may take no more bytes.
use Rattle.std.specs.Prelude.{◌≡◌, ℕ, ◌+◌, ◌-◌, ◌≤◌, ◌<◌, ◌^◌, List, length, take}
use Rattle.jser_reader.specs.declared.gate.Limits.{Limits}
use Rattle.jser_reader.specs.declared.refusal.Reason.TheVariants as reason
use Rattle.jser_reader.specs.declared.refusal.Stop.{Stop}
use Rattle.jser_reader.specs.declared.refusal.Stop.TheVariants as stop
use Rattle.jser_reader.specs.Readers.{Seen, Meter}

-- the limits that it was made with
pub record HasLimits (limits : Limits) (r : Seen) : Type 0 where
  pub bytes : r.meter.limits.bytes ≡ limits.bytes
  pub depth : r.meter.limits.depth ≡ limits.depth
  pub refs : r.meter.limits.refs ≡ limits.refs
  pub array : r.meter.limits.array ≡ limits.array
  pub handles_are : r.table.max ≡ limits.handles

-- that memory ran out is answered once
abbrev pub stop_after : Stop → Stop
stop_after (stop.Refused refusal) = stop.Refused refusal
stop_after stop.OutOfMemory = stop.Spent
stop_after stop.Spent = stop.Spent

pub record AnswersStop (result : Stop) (old new : Seen) : Type 0 where
  pub is : result ≡ old.meter.stop
  pub phase : new.phase ≡ old.phase
  pub stop_is : new.meter.stop ≡ stop_after old.meter.stop

-- the refusal of the byte after the last one that is allowed
abbrev pub exceeded : Meter → Stop
exceeded meter = stop.Refused (record { from_byte = meter.from; to_byte = meter.at + 1; reason = reason.BytesExceeded })

-- the front of a piece that is within the limit of bytes
pub record IsWithin (r : Seen) (piece front : List ℕ) : Type 0 where
  pub is_front : front ≡ take (length front) piece
  pub short : length front ≤ length piece
  pub fits : length front ≤ r.meter.limits.bytes - r.meter.at
  pub room : 0 < length front → r.meter.at + length front < 2 ^ 64
  pub full : length front < length piece → length front ≡ r.meter.limits.bytes - r.meter.at
