use Rattle.std.proofs.Common.{refl}
use Rattle.jser_records.proofs.ToldLemmas.{said_behind}
use Rattle.jser_records.proofs.clerk.Clerk.pass_on.Goals as goal

pub returns-then-self-clause-says : goal.returns-then-self-clause-says
returns-then-self-clause-says g c = said_behind c.args.self.now _ _ _ _ c.args.passed c.args.bytes.now c.if-passed.true c.if-self.true c.write.ensures refl refl refl refl refl
