-- What the handle of a filter owns: what a `Box` of it does, where it holds one.
use base.Fml.{Fml, ftrue}
use base.Stored.{Coded}
use denote.RawPtr.{Ptr}
use Rattle.std.specs.Prelude.{Option, Some, None}
use Rattle.std.specs.Coded.{coded_option}
use Rattle.std.specs.Box.Ownership.{box_owns}
use Rattle.std.specs.Global.{Global}
use Rattle.std_heap.specs.contracts.GlobalAllocator.TheImpl.{ghosts}
use Rattle.jser_ffi.specs.contracts.compiled.Compiled.{the_row}

abbrev pub held_owns : Global → Ptr → Option the_row.Denot → Fml
held_owns alloc at None = ftrue
held_owns alloc at (Some compiled) = box_owns (ghosts.dealloc_token alloc) the_row at compiled

abbrev pub held_coded : Coded (Option the_row.Denot)
held_coded = coded_option the_row.coded
