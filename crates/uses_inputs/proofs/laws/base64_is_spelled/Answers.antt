use Rattle.uses_inputs.proofs.Base64Texts as laws
use Rattle.uses_inputs.proofs.laws.base64_is_spelled.Goals as goal

pub returns : goal.returns
returns c = laws.base64_is_spelled
