-- How a table keeps a layer: with its type codes in place where they are few, and else in a list of their own.
use Rattle.std.specs.Prelude.{◌^◌, ◌<◌, ◌≤◌, length, take}
use Rattle.jser_table.specs.declared.layer.Layer.{Layer}
use Rattle.jser_table.specs.declared.kept.Form.{Form}
use Rattle.jser_table.specs.declared.kept.Form.TheVariants as form

-- the layer that is kept so
abbrev pub layer_kept : Form → Layer
layer_kept (form.Few kind flags count codes) = record { kind = kind; flags = flags; codes = take count codes }
layer_kept (form.Many kind flags codes) = record { kind = kind; flags = flags; codes = codes }

-- no more codes lie in place than there is room for, and a class has at most 32,767
abbrev pub IsKept : Form → Type 0
IsKept (form.Few kind flags count codes) = count ≤ 26
IsKept (form.Many kind flags codes) = length codes < 2 ^ 15
