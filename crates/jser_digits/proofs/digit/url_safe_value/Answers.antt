use Rattle.std.proofs.Common.{◌≡◌, ℕ, ◌<◌, map, get_or, refl, ap, ◌∙◌, arith}
use Rattle.std.specs.Prelude.{unwrap_or}
use Rattle.std.proofs.lemmas.List.FromFn.{get_or-map-range_with_len}
use Rattle.std.specs.List.{range_with_len}
use Rattle.jser_digits.specs.Digits.{url_safe_value}
use Rattle.jser_digits.specs.declared.digit.TheConstants.{URL_SAFE}
use Rattle.jser_digits.proofs.digit.url_safe_value.Goals as goal

abbrev value : ℕ → ℕ
value byte = unwrap_or (url_safe_value byte) 16777216

-- the table has the value of each byte
table_is : URL_SAFE ≡ map value (range_with_len 0 256)
table_is = refl

read : (byte : ℕ) → byte < 256 → get_or URL_SAFE byte 0 ≡ value byte
read byte small = ap (λ t. get_or t byte 0) table_is ∙ get_or-map-range_with_len value 0 256 byte byte 0 small (omega arith)

pub returns : goal.returns
returns c = rw c.from.ensures (read c.args.byte (omega arith))
