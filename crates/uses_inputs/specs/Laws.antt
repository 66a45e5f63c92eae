-- What an encoder of the kit writes spells the bytes that it was given.
use Rattle.std.specs.Prelude.{◌≡◌, ℕ, List}
use Rattle.base64.specs.Engines.{standard, standard_no_pad, url_safe, url_safe_no_pad}
use Rattle.base64.specs.GeneralPurpose.{encode_of}
use Rattle.hex.specs.Hex.{IsBytes, encode_lower, encode_upper}
use Rattle.jser_inputs.specs.declared.Form.TheVariants as form
use Rattle.jser_inputs.specs.Spelled.{spelling_of}

abbrev pub HexIsSpelled : Type 0
HexIsSpelled =
    (bytes : List ℕ) → IsBytes bytes → (spelling_of form.Hex (encode_lower bytes) ≡ bytes) × (spelling_of form.Hex (encode_upper bytes) ≡ bytes)

-- each alphabet in its own form, with padding and without it
abbrev pub Base64IsSpelled : Type 0
Base64IsSpelled =
    (bytes : List ℕ) → IsBytes bytes → (spelling_of form.Base64 (encode_of standard bytes) ≡ bytes) × (spelling_of form.Base64 (encode_of standard_no_pad bytes) ≡ bytes)
    × (spelling_of form.Base64Url (encode_of url_safe bytes) ≡ bytes) × (spelling_of form.Base64Url (encode_of url_safe_no_pad bytes) ≡ bytes)
