use Rattle.std.proofs.Common.{◌≡◌, rules}
use Rattle.jser_suggest.specs.declared.SampleFault.TheVariants as fault
use Rattle.uses_suggest.proofs.LimitLemmas.{no_sample}
use Rattle.uses_suggest.proofs.limits.unwritable_name.Goals as goal

pub returns-in-Err-Unwritable : goal.returns-in-Err-Unwritable
returns-in-Err-Unwritable c =
    let is : c.in-Err-Unwritable.field-0 ≡ fault.Unwritable c.in-Err-Unwritable.name = search rules in
    no_sample c.args.bytes.now c.in-Err-Unwritable.field-0 c.in-Err-Unwritable.name is c.only_writable.ensures c.in-Err-Unwritable.ensures.fault
