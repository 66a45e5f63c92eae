-- The greatest limits: what no gate and no call goes beyond, whatever is asked for.
use Rattle.std.specs.Prelude.{ℕ, ◌^◌, ◌-◌}

-- the bytes of a stream
abbrev pub most_bytes : ℕ
most_bytes = 2 ^ 40

-- the depth of a place
abbrev pub most_depth : ℕ
most_depth = 65535

-- the places of a stream
abbrev pub most_refs : ℕ
most_refs = 2 ^ 63 - 1

-- the length of an array
abbrev pub most_array : ℕ
most_array = 2 ^ 31 - 1

-- the handles of an epoch: those from BASE_WIRE_HANDLE to 2 ^ 31 - 1
abbrev pub most_handles : ℕ
most_handles = 2139226112

-- the bytes of a stream that is kept as a tree
abbrev pub most_tree_bytes : ℕ
most_tree_bytes = 2 ^ 31 - 1

-- the depth of a tree
abbrev pub most_tree_depth : ℕ
most_tree_depth = 1000
