use Rattle.jser_reader.proofs.ReaderLemmas.{all_bytes}
use Rattle.jser_check.specs.Admitted.{gate_of_filter}
use Rattle.uses_check.proofs.HeadlineLemmas.{first_of_fault, refused_same}
use Rattle.uses_check.proofs.headline.refuses_again.Goals as goal

pub returns-in-Err-Stop-Refused : goal.returns-in-Err-Stop-Refused
returns-in-Err-Stop-Refused g c =
    let gate = gate_of_filter c.args.filter.now c.args.options in
    refused_same c.one_first_fault.ensures gate c.args.bytes.now _ c.args.refusal c.in-Err-Stop-Refused.other
    (all_bytes c.args.bytes.now (λ k. (c.type_inv.bytes k).fits)) c.requires.told c.requires.first
    (first_of_fault gate _ _ _ c.in-Err-Stop-Refused.other c.in-Err-Stop-Refused.field-0-is c.in-Err-Stop-Refused.field-0-0-is c.in-Err-Stop-Refused.ensures.first)
