use Rattle.std.proofs.Common.{rules}
use Rattle.jser_reader.proofs.FieldLemmas.{begins_field}
use Rattle.jser_reader.proofs.machine.Machine.begin_field.Goals as goal

pub returns : goal.returns
returns c =
    begins_field c.args.code c.is_object_code-is_object.result _ c.args.self.now _ _ c.next_text.ensures.next c.next_text.ensures.result
    (search rules) (search rules) (search rules) (search rules) (search rules) (search rules) (search rules)
    (λ some. (search rules, search rules, search rules))
