use Rattle.std.proofs.Common.{Err, subst}
use Rattle.jser_reader.specs.Gates.{open_gate}
use Rattle.jser_reader.specs.ReaderStates.{SkipTells}
use Rattle.jser_reader.proofs.ReaderLemmas.{all_bytes}
use Rattle.jser_find.proofs.FindLemmas.{some_read, some_taken, sure_taken}
use Rattle.jser_find.proofs.finder.whole_by.Goals as goal

pub returns-in-Err-Refused-clause-whole : goal.returns-in-Err-Refused-clause-whole
returns-in-Err-Refused-clause-whole c =
    some_taken open_gate c.args.bytes.now c.whole-in-Err-Refused.result c.in-Err-Refused.refusal c.args.reader.now.machine c.args.reader.now.tally c.skip.new.self.machine
    c.skip.new.self.tally (all_bytes c.args.bytes.now (λ k. (c.type_inv.bytes k).fits))
    (subst (λ why. SkipTells open_gate c.args.bytes.now (Err why) c.args.reader.now.machine c.args.reader.now.tally c.skip.new.self.machine c.skip.new.self.tally)
    c.in-Err-Refused.field-0-is c.in-Err-Refused.ensures.tells) c.requires c.whole-in-Err-Refused.ensures.is

pub returns-in-Err-Refused-clause-sure : goal.returns-in-Err-Refused-clause-sure
returns-in-Err-Refused-clause-sure c = λ sure.
    sure_taken open_gate c.args.bytes.now c.whole-in-Err-Refused.result c.in-Err-Refused.refusal c.args.reader.now.machine c.args.reader.now.tally c.skip.new.self.machine
    c.skip.new.self.tally (all_bytes c.args.bytes.now (λ k. (c.type_inv.bytes k).fits))
    (subst (λ why. SkipTells open_gate c.args.bytes.now (Err why) c.args.reader.now.machine c.args.reader.now.tally c.skip.new.self.machine c.skip.new.self.tally)
    c.in-Err-Refused.field-0-is c.in-Err-Refused.ensures.tells) c.requires c.whole-in-Err-Refused.ensures.is

pub returns-in-Err-Refused-clause-read : goal.returns-in-Err-Refused-clause-read
returns-in-Err-Refused-clause-read c =
    some_read c.args.bytes.now c.in-Err-Refused.refusal c.args.reader.now.machine c.args.reader.now.tally c.skip.new.self.machine c.skip.new.self.tally
    (all_bytes c.args.bytes.now (λ k. (c.type_inv.bytes k).fits))
    (subst (λ why. SkipTells open_gate c.args.bytes.now (Err why) c.args.reader.now.machine c.args.reader.now.tally c.skip.new.self.machine c.skip.new.self.tally)
    c.in-Err-Refused.field-0-is c.in-Err-Refused.ensures.tells) c.requires
