use Rattle.std.proofs.Common.{◌≡◌, ◌<◌, ◌^◌, drop}
use Rattle.jser_records.specs.Headers.{number_from}
use Rattle.jser_records.proofs.header.value_of.Given as goal

-- the digits so far are a number of so many digits
abbrev pub invariant-digits : goal.invariant-digits
invariant-digits l = record {
  small : l.number < 10 ^ l.digit-index;
  same : number_from l.number (drop l.digit-index l.digits) ≡ number_from 0 l.digits;
}
