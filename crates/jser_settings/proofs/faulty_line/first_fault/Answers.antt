use Rattle.std.proofs.Common.{rules, Some, None, ap, sym, ◌∙◌, arith}
use Rattle.jser_settings.specs.FilterFiles.{uncommented}
use Rattle.jser_settings.specs.FileFaults.{begins_with_mark, cause_of, fault_at, file_fault}
use Rattle.jser_settings.proofs.FilterFileLemmas.{shorter_rest}
use Rattle.jser_settings.proofs.FileFaultLemmas.{fault_here, fault_last, fault_later, no_mark}
use Rattle.jser_settings.proofs.faulty_line.first_fault.Goals as goal

pub returns-in-Some-cause_of : goal.returns-in-Some-cause_of
returns-in-Some-cause_of c =
    let all = no_mark c.args.text.now (ap begins_with_mark (sym c.as_bytes.ensures.value) ∙ sym c.begins_with_mark.ensures ∙ c.if-begins_with_mark.false) in
    let found = ap cause_of (sym (c.uncommented.ensures ∙ ap uncommented c.without_return.ensures)) ∙ sym c.cause_of.ensures ∙ c.in-Some-cause_of.is in
    fault_here c.lines.number c.lines.rest.now c.in-Some.line.now c.in-Some.after.now c.in-Some-cause_of.cause (file_fault c.args.text.now) (c.lines.invariant.1 ∙ all)
    (c.in-Some.ensures.byte (omega arith) (λ w o h. h)) found

pub lines-preserved : goal.lines-preserved
lines-preserved c =
    let cut = c.in-Some.ensures.byte (omega arith) (λ w o h. h) in
    let found = ap cause_of (sym (c.uncommented.ensures ∙ ap uncommented c.without_return.ensures)) ∙ sym c.cause_of.ensures ∙ c.in_default-cause_of.is in
    let shorter = shorter_rest c.lines.rest.now c.in-Some.line.now c.in-Some.after.now cut in (
      search rules,
      fault_later c.lines.number c.lines.rest.now c.in-Some.line.now c.in-Some.after.now _ c.lines.invariant.1 cut found,
      omega (arith, shorter, c.lines.invariant.2),
    )

pub returns-in-Some-cause_of-2 : goal.returns-in-Some-cause_of-2
returns-in-Some-cause_of-2 c =
    let all = no_mark c.args.text.now (ap begins_with_mark (sym c.as_bytes.ensures.value) ∙ sym c.begins_with_mark.ensures ∙ c.if-begins_with_mark.false) in
    let found = ap cause_of (sym (c.uncommented-2.ensures)) ∙ sym c.cause_of-2.ensures ∙ c.in-Some-cause_of-2.is in
    ap (λ o. fault_at c.lines.number o None) (sym found)
    ∙ fault_last c.lines.number c.lines.rest.now (file_fault c.args.text.now) (c.lines.invariant.1 ∙ all) (c.in_default.ensures.byte (omega arith) (λ w o h. h))

pub returns-in-None : goal.returns-in-None
returns-in-None c =
    let all = no_mark c.args.text.now (ap begins_with_mark (sym c.as_bytes.ensures.value) ∙ sym c.begins_with_mark.ensures ∙ c.if-begins_with_mark.false) in
    let found = ap cause_of (sym (c.uncommented-2.ensures)) ∙ sym c.cause_of-2.ensures ∙ c.in-None.is in
    ap (λ o. fault_at c.lines.number o None) (sym found)
    ∙ fault_last c.lines.number c.lines.rest.now (file_fault c.args.text.now) (c.lines.invariant.1 ∙ all) (c.in_default.ensures.byte (omega arith) (λ w o h. h))
