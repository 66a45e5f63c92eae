-- What stands behind a class in a stream, by whether the class is externalizable, and by the size of an
-- array's raw elements.
use Rattle.std.specs.Prelude.{ℕ, Bool, true, false, Option, Some, None}
use Rattle.uses_table.specs.declared.classes.Layout.{Layout}
use Rattle.uses_table.specs.declared.classes.Layout.TheVariants as layout

abbrev pub layout_by : Bool → Option ℕ → Layout
layout_by true size = layout.Blocks
layout_by false (Some size) = layout.RawElements size
layout_by false None = layout.Values
