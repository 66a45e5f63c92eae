-- Numbers as bytes. The order is that of `java.io.DataOutput`: the highest byte first.
use Rattle.std.specs.Prelude.{ℕ, List}
use Rattle.std.specs.Int.{bytes_high_first}

-- the k bytes of n, the highest first
abbrev pub big_bytes : ℕ → ℕ → List ℕ
big_bytes k n = bytes_high_first k n
