-- What the calls of a printer are given, and what it stands for: the tokens of a stream as a reader lends them, the owners
-- of class places, and the nodes of these.
use Rattle.std.specs.Prelude.{◌≡◌, ◌+◌, true, false, List, map}
use Rattle.jser_grammar.specs.Spelling.{prims_spelling}
use Rattle.jser_grammar.specs.Wire.{TC_BLOCKDATA, TC_ENDBLOCKDATA, TC_RESET, TC_BLOCKDATALONG, BASE_WIRE_HANDLE}
use Rattle.jser_reading.specs.Roles.{object_owner, array_owner, enum_owner, class_owner}
use Rattle.jser_reading.specs.Roles.{Owner as ToldOwner}
use Rattle.jser_reading.specs.Labels.{StreamToken, header_token, tag_token, block_tag_token, end_tag_token, reset_tag_token, handle_token, suid_token, flags_token, field_count_token, interface_count_token, array_length_token, code_token, text_token, block_length_token, prims_token, bytes_token}
use Rattle.jser_reading.specs.TokenBytes.{tag_byte}
use Rattle.jser_shown.specs.Owners.{owner_node}
use Rattle.jser_shown.specs.Owners.{OwnerNode as ToldNode}
use Rattle.jser_printer.specs.declared.token.Token.{Token}
use Rattle.jser_printer.specs.declared.token.Token.TheVariants as token
use Rattle.jser_printer.specs.declared.owner.Owner.{Owner}
use Rattle.jser_printer.specs.declared.owner.Owner.TheVariants as owner
use Rattle.jser_printer.specs.declared.owner.OwnerNode.{OwnerNode}

-- what a reader lends is this token
abbrev pub IsOf : Token → StreamToken → Type 0
IsOf token.Header header_token = Unit {0}
IsOf (token.Tag b) (tag_token tag) = b ≡ tag_byte tag
IsOf (token.Tag b) (block_tag_token false) = b ≡ TC_BLOCKDATA
IsOf (token.Tag b) (block_tag_token true) = b ≡ TC_BLOCKDATALONG
IsOf (token.Tag b) end_tag_token = b ≡ TC_ENDBLOCKDATA
IsOf (token.Tag b) reset_tag_token = b ≡ TC_RESET
IsOf (token.Handle h) (handle_token n) = h ≡ BASE_WIRE_HANDLE + n
IsOf (token.Suid m) (suid_token n) = m ≡ n
IsOf (token.Flags m) (flags_token n) = m ≡ n
IsOf (token.FieldCount m) (field_count_token n) = m ≡ n
IsOf (token.InterfaceCount m) (interface_count_token n) = m ≡ n
IsOf (token.ArrayLength m) (array_length_token n) = m ≡ n
IsOf (token.TypeCode m) (code_token n) = m ≡ n
IsOf (token.BlockLength m) (block_length_token long n) = m ≡ n
IsOf (token.Text units) (text_token long told) = units.now ≡ told
IsOf (token.Raw bytes) (prims_token ps) = bytes.now ≡ prims_spelling ps
IsOf (token.Raw bytes) (bytes_token told) = bytes.now ≡ told
IsOf lent told = ⊥

abbrev pub view_owner : Owner → ToldOwner
view_owner owner.Object = object_owner
view_owner owner.Array = array_owner
view_owner owner.EnumConst = enum_owner
view_owner owner.ClassObject = class_owner

abbrev pub view_node : OwnerNode → ToldNode
view_node o = owner_node o.number o.elements

abbrev pub view_nodes : List OwnerNode → List ToldNode
view_nodes os = map view_node os
