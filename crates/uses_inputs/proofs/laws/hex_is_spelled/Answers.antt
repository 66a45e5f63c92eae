use Rattle.uses_inputs.proofs.HexTexts as laws
use Rattle.uses_inputs.proofs.laws.hex_is_spelled.Goals as goal

pub returns : goal.returns
returns c = laws.hex_is_spelled
