use Rattle.std.proofs.Common.{◌≡◌, ◌+◌, ◌-◌, ℕ, List, length, arith, subst, rules, ap}
use Rattle.std.proofs.lemmas.List.{length_push}
use Rattle.jser_table.specs.Descriptors.{chains_of}
use Rattle.jser_table.specs.Upwards.{IsAfter}
use Rattle.jser_table.proofs.AheadLemmas.{ahead_push}
use Rattle.jser_table.proofs.walks.look_ahead.Goals as goal

-- one more section, just above the one before
pub up-preserved : goal.up-preserved
up-preserved c =
    let more : c.up.above ≡ c.up.above - 1 + 1 = omega (arith, c.up-test.true) in
    let found = c.section_above-section.ensures c.args.last (c.up.above - 1) (subst (λ (n : ℕ). IsAfter (chains_of c.args.descriptors.now) c.args.last n c.up.section) more c.up.invariant.after) in
    let left : length c.up.ahead.sections.items + (c.up.above - 1) ≡ c.up.ahead.lowest = omega (arith, more, c.up.invariant.count, c.up.invariant.lowest) in
    record {
      reached = omega (arith, c.up-test.true);
      after = found;
      ahead =
          ahead_push _ c.up.ahead c.push-in-up.new.self c.section_above-section.result c.args.last (c.up.above - 1) c.up.invariant.ahead c.push-in-up.ensures.last c.push-in-up.ensures.lowest
          c.push-in-up.ensures.sections c.up.invariant.last left found;
      last = search rules;
      lowest = search rules;
      count = omega (arith, more, c.up.invariant.count, ap (λ (xs : List ℕ). length xs) c.push-in-up.ensures.sections, length_push c.up.ahead.sections.items c.section_above-section.result);
      few = c.up.invariant.few;
    }
