-- A stream is cut into tokens, one after the other: a tag, a number, a text, raw bytes. A label says what is
-- known of a token before its bytes: which token it is, for what it is read, how deep it stands, and the moment
-- at its beginning.
use Rattle.std.specs.Prelude.{ℕ, Bool, List}
use Rattle.jser_grammar.specs.Codes.{PrimCode}
use Rattle.jser_grammar.specs.Trees.{PrimTree}
use Rattle.jser_reading.specs.Roles.{Owner, ChainOwner, Role}
use Rattle.jser_reading.specs.Moments.{Moment}

-- the tags that begin a value, or stand in a class place or a text place
pub data Tag : Type 0 where
  null_tag reference_tag class_desc_tag object_tag string_tag array_tag class_tag long_string_tag proxy_desc_tag enum_tag : Tag

-- What the bytes of one token say. A number is as big as its bytes; a handle is told by its number, less
-- 0x7E0000; a text by its form and its units.
pub data StreamToken : Type 0 where
  header_token : StreamToken
  tag_token : Tag → StreamToken
  block_tag_token : (long : Bool) → StreamToken
  end_tag_token reset_tag_token : StreamToken
  handle_token suid_token flags_token field_count_token interface_count_token array_length_token code_token : ℕ → StreamToken
  text_token : (long : Bool) → List ℕ → StreamToken
  block_length_token : (long : Bool) → ℕ → StreamToken
  prims_token : List PrimTree → StreamToken
  bytes_token : List ℕ → StreamToken

-- Which token is read. The first ones are the tags: at the top, in an annotation, in a value place (an object
-- field or an array element), in a class place, a superclass place and a text place. Then the handle of a
-- reference in each of these; the texts: of a string, a class name (a checked name), a field's name, an interface
-- name (a checked name); and the rest. `seen` tells of an object field before, in the same descriptor; `raw_at`
-- is so many raw values of a primitive, `bytes_at` so many bytes. At `nowhere` no token is read.
pub data Position : Type 0 where
  nowhere header_at top_at annotation_at value_at text_place_at : Position
  class_place_at : Owner → Position
  superclass_place_at : ChainOwner → (strict : Bool) → Position
  back_handle_at text_handle_at : Position
  class_handle_at : Owner → Position
  superclass_handle_at : ChainOwner → (strict : Bool) → Position
  string_at : (long : Bool) → Position
  class_name_at : Role → Position
  field_name_at interface_name_at : Position
  suid_at field_count_at interface_count_at array_length_at : Position
  flags_at : Role → Position
  type_code_at : (seen : Bool) → Position
  block_length_at : (long : Bool) → Position
  raw_at : PrimCode → ℕ → Position
  bytes_at : ℕ → Position

-- The depth is that of the place that a tag there may begin, else of the place in which the token stands, and
-- 0 at the top.
pub record Label : Type 0 where
  pub position : Position
  pub depth : ℕ
  pub moment : Moment

-- a token with its label
pub data Piece : Type 0 where
  piece : Label → StreamToken → Piece

abbrev pub at : Position → ℕ → Moment → StreamToken → Piece
at position depth moment token = piece (record { position = position; depth = depth; moment = moment }) token
