-- The bytes of a source that are kept while their names are collected.
use Rattle.std.specs.Prelude.{ℕ, ◌≡◌, List}
use Rattle.jser_names.specs.Sources.{HasNames}
use Rattle.jser_names.specs.declared.named.NamedStream.{NamedStream}

-- these are the bytes, they are a stream within the greatest limits, and these are its checked names
abbrev pub IsNamed : List ℕ → NamedStream → Type 0
IsNamed bytes named = (named.bytes.items ≡ bytes) × HasNames bytes named.names
