-- The fields of a descriptor of which some have begun.
use Rattle.std.specs.Prelude.{ℕ, Bool, List}

pub record FieldsRead : Type 0 where
  pub codes : List ℕ
  pub left : ℕ
  pub has_object : Bool
