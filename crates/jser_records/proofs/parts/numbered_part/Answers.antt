use Rattle.std.proofs.Common.{◌≡◌, ◌+◌, ◌-◌, List, ℕ, Some, None, drop, subst, arith}
use Rattle.memchr.specs.Find.{IsFirstByte, is_byte}
use Rattle.jser_records.specs.Fields.{StartsAt}
use Rattle.jser_records.proofs.FieldLemmas.{first_tab, no_tab, numbered_missing, starts_next, starts_none}
use Rattle.jser_records.proofs.parts.numbered_part.Goals as goal

pub fields-init : goal.fields-init
fields-init c =
    let left = c.saturating_sub-left.ensures in
    let none : 0 ≡ c.args.number - 1 - c.saturating_sub-left.result = omega (arith, left) in
    record { few = omega (arith, left); starts = subst (λ n. StartsAt c.args.line.now 0 n) none (starts_none c.args.line.now) }

pub fields-preserved : goal.fields-preserved
fields-preserved c =
    let line : List ℕ = c.args.line.now in
    let from = c.fields.from in
    let at = c.in-Some.at in
    let left = c.fields.left in
    let few = c.fields.invariant.few in
    let more = c.fields-test.true in
    let one : c.args.number - 1 - left + 1 ≡ c.args.number - 1 - (left - 1) = omega (arith, few, more) in
    record {
      few = omega (arith, few);
      starts =
          subst (λ n. StartsAt line (from + (at + 1)) n) one
          (starts_next line from at (c.args.number - 1 - left) c.fields.invariant.starts
          (first_tab (drop from line) at (subst (λ xs. IsFirstByte (is_byte 0x09) xs (Some at)) c.split_at.ensures.back c.in-Some.ensures)));
    }

pub returns-in-None-clause-value : goal.returns-in-None-clause-value
returns-in-None-clause-value c =
    let line : List ℕ = c.args.line.now in
    let from = c.fields.from in
    let left = c.fields.left in
    let few = c.fields.invariant.few in
    numbered_missing line c.args.number from (c.args.number - 1 - left) left c.fields.invariant.starts (omega (arith, few)) c.fields-test.true
    (no_tab (drop from line) (subst (λ xs. IsFirstByte (is_byte 0x09) xs None) c.split_at.ensures.back c.in-None.ensures))

pub returns-clause-value : goal.returns-clause-value
returns-clause-value c =
    let left = c.fields.left in
    let none = c.fields-test.false in
    let all : c.args.number - 1 - left ≡ c.args.number - 1 = omega (arith, none) in
    c.part_from.ensures.value c.args.number (subst (λ n. StartsAt c.args.line.now c.fields.from n) all c.fields.invariant.starts)
