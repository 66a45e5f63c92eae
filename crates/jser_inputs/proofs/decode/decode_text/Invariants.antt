use Rattle.std.proofs.Common.{◌≡◌, ◌≤◌, ◌+◌, ◌-◌, length, take, drop}
use Rattle.jser_inputs.specs.Places.{Fits}
use Rattle.jser_inputs.specs.Spelled.{Reads}
use Rattle.jser_inputs.proofs.decode.decode_text.Given as goal

-- the characters so far spelled the bytes at the front, and those that are left are as they were
abbrev pub invariant-characters : goal.invariant-characters
invariant-characters l = record {
  reads : Reads l.fn.start l.spot (take l.count l.fn.buf) (drop l.taken (take l.count l.fn.buf)) (take l.given l.buf) l.taken;
  left : drop l.taken l.buf ≡ drop l.taken l.fn.buf;
  few : l.given ≤ l.taken;
  within : l.taken ≤ l.count;
  fits : Fits l.spot.place;
  room : l.spot.spare ≤ l.fn.start.spare + l.taken;
  size : length l.buf ≡ length l.fn.buf;
}

abbrev pub decreases-characters : goal.decreases-characters
decreases-characters l = l.count - l.taken
