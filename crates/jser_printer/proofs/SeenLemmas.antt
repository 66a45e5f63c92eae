-- Tokens are seen as what they are.
use Rattle.std.proofs.Common.{◌≡◌, ℕ, true, false, Option, Some, None, option_map, refl, ◌∙◌}
use Rattle.jser_reading.specs.Labels.{null_tag, reference_tag, class_desc_tag, object_tag, string_tag, array_tag, class_tag, long_string_tag, proxy_desc_tag, enum_tag, StreamToken, tag_token, block_tag_token, end_tag_token, reset_tag_token}
use Rattle.jser_shown.specs.Telling.{seen as seen_of}
use Rattle.jser_printer.specs.declared.token.Token.TheVariants as token
use Rattle.jser_printer.specs.declared.seen.Seen.{Seen}
use Rattle.jser_printer.specs.Given.{IsOf}
use Rattle.jser_printer.specs.Seen.{view_seen, Sees, tag_seen}

sees_by : (s : Option Seen) (told : StreamToken) → option_map view_seen s ≡ Some (seen_of told) → Sees s told
sees_by None told is = cc
sees_by (Some s) told is = cc

seen_byte : (b : ℕ) (told : StreamToken) → IsOf (token.Tag b) told → tag_seen b ≡ Some (seen_of told)
seen_byte b (tag_token null_tag) is = rw is refl
seen_byte b (tag_token reference_tag) is = rw is refl
seen_byte b (tag_token class_desc_tag) is = rw is refl
seen_byte b (tag_token object_tag) is = rw is refl
seen_byte b (tag_token string_tag) is = rw is refl
seen_byte b (tag_token array_tag) is = rw is refl
seen_byte b (tag_token class_tag) is = rw is refl
seen_byte b (tag_token long_string_tag) is = rw is refl
seen_byte b (tag_token proxy_desc_tag) is = rw is refl
seen_byte b (tag_token enum_tag) is = rw is refl
seen_byte b (block_tag_token false) is = rw is refl
seen_byte b (block_tag_token true) is = rw is refl
seen_byte b end_tag_token is = rw is refl
seen_byte b reset_tag_token is = rw is refl
seen_byte b _ is = absurd is

pub sees_tag : (b : ℕ) (s : Option Seen) → option_map view_seen s ≡ tag_seen b → (told : StreamToken) → IsOf (token.Tag b) told → Sees s told
sees_tag b s same told is = sees_by s told (same ∙ seen_byte b told is)
