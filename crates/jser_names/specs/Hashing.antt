-- The hash of a name under a key.
use Rattle.std.specs.Prelude.{ℕ, ◌+◌, ◌*◌, ◌%◌, ◌^◌, if◌then◌else◌, List, [], ◌∷◌, fold, nat_lt}
use Rattle.std.specs.Hash as fed
use Rattle.std.specs.Hash.DefaultHasher as sip
use Rattle.std.specs.declared.hash.DefaultHasher.{DefaultHasher}
use Rattle.jser_names.specs.declared.keyed.Keyed.{Keyed}
use Rattle.jser_names.specs.declared.keyed.NameHasher.{NameHasher}

-- a word more
abbrev pub with_word : DefaultHasher → ℕ → DefaultHasher
with_word hasher word = fold sip.write hasher (fed.u64 word)

-- the hash of what was written under a key
abbrev pub keyed_by : ℕ → Keyed
keyed_by key = record { begun = with_word sip.initial key }

-- one unit more: the fourth makes a word with the three that wait behind a 1
abbrev pub with_unit : NameHasher → ℕ → NameHasher
with_unit hasher unit =
    if nat_lt hasher.waiting (2 ^ 48) then record hasher { waiting = hasher.waiting * 65536 + unit }
    else record { words = with_word hasher.words (hasher.waiting % 2 ^ 48 * 65536 + unit); waiting = 1 }

-- two bytes are a unit
abbrev pub written : NameHasher → List ℕ → NameHasher
written hasher (low ∷ high ∷ []) = with_unit hasher (high * 256 + low)
written hasher bytes = record hasher { words = sip.write hasher.words bytes }

-- the hash so far
abbrev pub finished : NameHasher → ℕ
finished hasher = sip.finish (with_word hasher.words hasher.waiting)
