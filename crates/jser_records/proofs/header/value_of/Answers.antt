use Rattle.std.proofs.Common.{◌≡◌, ◌+◌, ◌-◌, ◌*◌, ◌<◌, length, get_or, ◌∙◌, arith}
use Rattle.jser_records.proofs.HeaderLemmas.{digit_value, number_step, small_enough}
use Rattle.jser_records.proofs.header.value_of.Goals as goal

pub digits-preserved : goal.digits-preserved
digits-preserved c =
    let digits = c.args.digits.now in
    let i = c.digits.digit-index in
    let n = c.digits.number in
    let few = c.requires.few in
    let inside : i < length digits = let test = c.digits-test.true in let end = c.digits.auto.digit-index-end in omega (arith, test, end) in
    let one = digit_value digits i c.requires.digits inside in
    let fits = small_enough i n (get_or digits i 0 - 0x30) (omega (arith, inside, few)) c.digits.invariant.small one in
    let is : c.saturating_add-number.result ≡ n * 10 + (get_or digits i 0 - 0x30) =
    let a = c.saturating_add-number.ensures in let b = c.saturating_mul.ensures in let d = c.from.ensures in let e = c.saturating_sub.ensures in let small = fits.1 in omega (arith, a, b, d, e, small) in
    record {
      small = let below = fits.0 in omega (arith, is, below);
      same = number_step digits i n c.saturating_add-number.result inside is ∙ c.digits.invariant.same;
    }
