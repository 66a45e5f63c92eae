-- What a printer sees of a token stands for what a teller sees of it.
use Rattle.std.specs.Prelude.{ℕ, ◌≡◌, ◌==◌, true, false, if◌then◌else◌, Option, Some, None}
use Rattle.jser_grammar.specs.Wire.{TC_NULL, TC_REFERENCE, TC_CLASSDESC, TC_OBJECT, TC_STRING, TC_ARRAY, TC_CLASS, TC_BLOCKDATA, TC_ENDBLOCKDATA, TC_RESET, TC_BLOCKDATALONG, TC_LONGSTRING, TC_PROXYCLASSDESC, TC_ENUM}
use Rattle.jser_reading.specs.Labels.{null_tag, reference_tag, class_desc_tag, object_tag, string_tag, array_tag, class_tag, long_string_tag, proxy_desc_tag, enum_tag, StreamToken}
use Rattle.jser_reading.specs.Labels.{Tag as ToldTag}
use Rattle.jser_shown.specs.Telling.{SeenToken, seen_header, seen_end_tag, seen_reset_tag, seen_tag, seen_block_tag, seen_handle, seen_suid, seen_flags, seen_field_count, seen_interface_count, seen_array_length, seen_code, seen_block_length, seen_text, seen_bytes}
use Rattle.jser_shown.specs.Telling.{seen as seen_of}
use Rattle.jser_printer.specs.Names.{view_text}
use Rattle.jser_printer.specs.declared.seen.Tag.{Tag}
use Rattle.jser_printer.specs.declared.seen.Tag.TheVariants as tag
use Rattle.jser_printer.specs.declared.seen.Seen.{Seen}
use Rattle.jser_printer.specs.declared.seen.Seen.TheVariants as seen

abbrev pub view_tag : Tag → ToldTag
view_tag tag.Null = null_tag
view_tag tag.Reference = reference_tag
view_tag tag.ClassDesc = class_desc_tag
view_tag tag.Object = object_tag
view_tag tag.String = string_tag
view_tag tag.Array = array_tag
view_tag tag.Class = class_tag
view_tag tag.LongString = long_string_tag
view_tag tag.ProxyDesc = proxy_desc_tag
view_tag tag.Enum = enum_tag

abbrev pub view_seen : Seen → SeenToken
view_seen seen.Header = seen_header
view_seen (seen.Tag tag) = seen_tag (view_tag tag)
view_seen (seen.BlockTag long) = seen_block_tag long
view_seen seen.EndTag = seen_end_tag
view_seen seen.ResetTag = seen_reset_tag
view_seen (seen.Handle n) = seen_handle n
view_seen (seen.Suid n) = seen_suid n
view_seen (seen.Flags n) = seen_flags n
view_seen (seen.FieldCount n) = seen_field_count n
view_seen (seen.InterfaceCount n) = seen_interface_count n
view_seen (seen.ArrayLength n) = seen_array_length n
view_seen (seen.TypeCode n) = seen_code n
view_seen (seen.BlockLength n) = seen_block_length n
view_seen (seen.Text text) = seen_text (view_text text)
view_seen (seen.Bytes bytes) = seen_bytes bytes.now

-- the token is seen as what it is
abbrev pub Sees : Option Seen → StreamToken → Type 0
Sees None told = ⊥
Sees (Some s) told = view_seen s ≡ seen_of told

-- what is seen of a tag
abbrev pub tag_seen : ℕ → Option SeenToken
tag_seen b =
    if b == TC_NULL then Some (seen_tag null_tag)
    else (if b == TC_REFERENCE then Some (seen_tag reference_tag)
    else (if b == TC_CLASSDESC then Some (seen_tag class_desc_tag)
    else (if b == TC_OBJECT then Some (seen_tag object_tag)
    else (if b == TC_STRING then Some (seen_tag string_tag)
    else (if b == TC_ARRAY then Some (seen_tag array_tag)
    else (if b == TC_CLASS then Some (seen_tag class_tag)
    else (if b == TC_BLOCKDATA then Some (seen_block_tag false)
    else (if b == TC_ENDBLOCKDATA then Some seen_end_tag
    else (if b == TC_RESET then Some seen_reset_tag
    else (if b == TC_BLOCKDATALONG then Some (seen_block_tag true)
    else (if b == TC_LONGSTRING then Some (seen_tag long_string_tag)
    else (if b == TC_PROXYCLASSDESC then Some (seen_tag proxy_desc_tag)
    else (if b == TC_ENUM then Some (seen_tag enum_tag)
    else None)))))))))))))
