-- What a record is read under, which records are handed on, and that the bytes of such a record are kept.
use Rattle.std.specs.Prelude.{ℕ, ◌≡◌, Bool, true, false, List, ◌++◌, Option, Some, None}
use Rattle.jser_scan.specs.declared.Rules.{Rules}
use Rattle.jser_scan.specs.Lines.{is_accepted}
use Rattle.jser_records.specs.declared.answer.Answer.{Answer}
use Rattle.jser_records.specs.declared.answer.Answer.TheVariants as answer
use Rattle.jser_records.specs.declared.current.Record.{Record}

-- the rules, how many bytes of a record are read at most, and whether records that pass are handed on
pub record Terms : Type 0 where
  pub rules : Rules
  pub most : ℕ
  pub hands_on : Bool

abbrev pub terms_of : Record → Terms
terms_of r = record { rules = r.reading.judge.rules; most = r.reading.most; hands_on = r.passes }

-- a record is read under the terms of before
abbrev pub Keeps : (old new : Record) → Type 0
Keeps old new = terms_of new ≡ terms_of old

-- an answer that lets a record pass: it is accepted, or has no value
abbrev pub passes : Answer → Bool
passes (answer.Checked result) = is_accepted result
passes answer.Null = true
passes (answer.Longer most) = false
passes answer.LongKey = false
passes answer.LineEndInKey = false
passes (answer.Cut at total) = false
passes answer.ErrorReply = false
passes answer.NoLength = false

-- what is answered so far lets it pass
abbrev pub may_pass : Option Answer → Bool
may_pass None = true
may_pass (Some a) = passes a

-- these bytes are kept, if the record may be handed on
abbrev pub Holds : Record → List ℕ → Type 0
Holds r raw = r.passes ≡ true → may_pass r.reading.answer ≡ true → r.held.items ≡ raw

-- what was kept is, and these bytes behind it
abbrev pub HoldsMore : (old new : Record) → (more : List ℕ) → Type 0
HoldsMore old new more = (raw : List ℕ) → Holds old raw → Holds new (raw ++ more)

abbrev pub HoldsSame : (old new : Record) → Type 0
HoldsSame old new = (raw : List ℕ) → Holds old raw → Holds new raw
