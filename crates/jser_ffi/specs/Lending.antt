-- A filter that is lent for a while to any number of calls at once, and what they say.
use base.Fml.{Fml, Lft, Share, fsep, flft}
use denote.RawPtr.{Ptr}
use denote.Struct.Lending.{lent_at}
use Rattle.std.specs.Prelude.{ℕ, ◌≡◌, ◌≢◌, ◌⊎◌, Bool, true, false, List}
use Rattle.jser_ffi.specs.contracts.compiled.Compiled.{the_row}
use Rattle.jser_ffi.specs.declared.answer.Answer.{Answer}
use Rattle.jser_ffi.specs.declared.compiled.Compiled.{Compiled}
use Rattle.jser_ffi.specs.declared.stream_handle.StreamHandle.{StreamHandle}
use Rattle.jser_ffi.specs.Holding.{HoldsSuch}
use Rattle.jser_ffi.specs.Streams.{Begins}
use Rattle.jser_ffi.specs.Told.{Says, Zeros}

-- a call reads this filter, which is lent for this lifetime, and has this share of the lifetime's token
pub record Reading : Type 0 where
  pub life : Lft
  pub share : Share
  pub compiled : the_row.Denot

-- behind the pointer of a handle that holds a filter lies the one that is lent
abbrev pub reads_at : Ptr → Reading → Fml
reads_at at g = fsep (flft g.life g.share) (lent_at the_row at g.compiled g.life)

abbrev pub reads : (is_open : Bool) → Ptr → Reading → Fml
reads true at g = reads_at at g
reads false at g = flft g.life g.share

-- what a check under such a filter says
pub record Checks (compiled : Compiled) (bytes : List ℕ) (answer : Answer) (result : ℕ) : Type 0 where
  pub status : result ≡ answer.status
  pub says : Says compiled bytes answer
  pub zeros : Zeros answer

-- what is left of a handle where a stream is begun under such a filter
pub record BeginsIn (compiled : Compiled) (old new : StreamHandle) (answer : Answer) (result : ℕ) : Type 0 where
  pub status : result ≡ answer.status
  pub begins : result ≡ 4 → HoldsSuch (Begins compiled) new.owner.held
  pub kept : result ≢ 4 → new ≡ old
  pub known : (result ≡ 4) ⊎ (result ≡ 3)
  pub zeros : Zeros answer

-- a handle that holds nothing reads nothing
pub record IsSpent (answer : Answer) (result : ℕ) : Type 0 where
  pub status : result ≡ answer.status
  pub is : result ≡ 5
  pub zeros : Zeros answer
