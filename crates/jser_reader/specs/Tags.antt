-- The bytes of tags (`java.io.ObjectStreamConstants`), and the tokens that they are.
use Rattle.std.specs.Prelude.{◌≡◌, ℕ, ◌<◌, ◌⊎◌, Bool, true, false, Option, Some, None}
use Rattle.jser_grammar.specs.Wire.{TC_NULL, TC_BLOCKDATA, TC_ENDBLOCKDATA, TC_RESET, TC_BLOCKDATALONG, TC_EXCEPTION, TC_ENUM}
use Rattle.jser_reading.specs.Labels.{null_tag, reference_tag, class_desc_tag, object_tag, string_tag, array_tag, class_tag, long_string_tag, proxy_desc_tag, enum_tag}
use Rattle.jser_reading.specs.Labels.{Tag as ToldTag}
use Rattle.jser_reading.specs.TokenBytes.{tag_byte}
use Rattle.jser_reader.specs.declared.tag.Tag.{Tag}
use Rattle.jser_reader.specs.declared.tag.Tag.TheVariants as tag
use Rattle.jser_reader.specs.declared.tag.ValueTag.{ValueTag}
use Rattle.jser_reader.specs.declared.tag.ValueTag.TheVariants as value

abbrev pub view_tag : ValueTag → ToldTag
view_tag value.Null = null_tag
view_tag value.Reference = reference_tag
view_tag value.ClassDesc = class_desc_tag
view_tag value.Object = object_tag
view_tag value.String = string_tag
view_tag value.LongString = long_string_tag
view_tag value.Array = array_tag
view_tag value.Class = class_tag
view_tag value.ProxyClassDesc = proxy_desc_tag
view_tag value.Enum = enum_tag

-- TC_BLOCKDATA and TC_BLOCKDATALONG
abbrev pub block_byte : (long : Bool) → ℕ
block_byte false = TC_BLOCKDATA
block_byte true = TC_BLOCKDATALONG

abbrev pub byte_of : Tag → ℕ
byte_of (tag.Value t) = tag_byte (view_tag t)
byte_of (tag.Block long) = block_byte long
byte_of tag.EndBlockData = TC_ENDBLOCKDATA
byte_of tag.Reset = TC_RESET
byte_of tag.Exception = TC_EXCEPTION

-- the byte is this tag, or no tag
abbrev pub IsTagOf : ℕ → Option Tag → Type 0
IsTagOf byte None = (byte < TC_NULL) ⊎ (TC_ENUM < byte)
IsTagOf byte (Some t) = byte ≡ byte_of t
