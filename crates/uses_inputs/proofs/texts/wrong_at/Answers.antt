use Rattle.std.proofs.Common.{◌∙◌, sym}
use Rattle.uses_inputs.proofs.WrongLemmas.{told_place}
use Rattle.uses_inputs.proofs.texts.wrong_at.Goals as goal

pub returns-in-NotHexadecimal : goal.returns-in-NotHexadecimal
returns-in-NotHexadecimal g c =
    told_place c.new-input.result c.take.new.self (g.R.Source.to_come c.args.text) c.in-NotHexadecimal.at c.new-input.ensures.begins.0 c.new-input.ensures.right
    c.in-Err.ensures.form c.in-Err.ensures.place (sym c.fault.ensures ∙ c.in-NotHexadecimal.is)
