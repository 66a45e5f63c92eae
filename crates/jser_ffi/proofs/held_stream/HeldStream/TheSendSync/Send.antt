-- The handle of a stream may cross threads: the stream may, and what a box owns names no thread.
use mir.Raw.{raw}
use base.Shift.{Keyless}
use denote.Memory.{lone}
use denote.RawPtr.{Ptr}
use denote.Param.Send.{IsSend, AllSend, owning_send, struct_send, sendable}
use denote.Struct.Struct.{exits_of}
use denote.Struct.Owning.{shape, fields, to}
use Rattle.std.specs.Prelude.{Option, Some, None}
use Rattle.std.proofs.Crossing.{crosses, frees}
use Rattle.std_alloc.proofs.SendSync.{lies, quiet}
use Rattle.std_heap.specs.contracts.Global as Heap
use Rattle.jser_ffi.specs.StreamOwning.{held_owns}
use Rattle.jser_ffi.specs.contracts.stream.Stream as Home
use Rattle.jser_ffi.proofs.stream.Stream.TheSendSync as home
use Rattle.jser_ffi.specs.contracts.held_stream.HeldStream.{the_row, the_type}

keyless : (alloc : Heap.the_row.Denot) (at : Ptr) (held : Option Home.the_row.Denot) → Keyless (held_owns alloc at held)
keyless alloc at None = tt
keyless alloc at (Some x) = (lies Home.the_row home.the_send at x, frees.frees alloc (raw (lone Home.the_row.mir)) at)

all : AllSend (fields the_type)
all = search (sendable, crosses)

pub send : IsSend the_row
send = owning_send the_type all (λ d. keyless d.alloc d.at d.held) (λ k. quiet (to the_type) (exits_of k (fields the_type)) ((struct_send (shape the_type) all).leaving k))
