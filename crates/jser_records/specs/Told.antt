-- What is told of records, one after another: on standard output, and on standard error.
use Rattle.std.specs.Prelude.{ℕ, ◌≡◌, Bool, true, ◌⊎◌, ◌&&◌, not, if◌then◌else◌, List, [], ◌∷◌, ◌++◌, Option}
use Rattle.jser_prim.specs.Outgoing.{SinkState, sink_state}
use Rattle.jser_printer.specs.Says.{Says}
use Rattle.jser_scan.specs.declared.Found.TheVariants as found
use Rattle.jser_scan.specs.declared.How.{How}
use Rattle.jser_scan.specs.declared.Tally.{Tally}
use Rattle.jser_scan.specs.Tallies.{noted, one_accepted, one_unread, one_more}
use Rattle.jser_records.specs.declared.answer.Answer.{Answer}
use Rattle.jser_records.specs.declared.answer.Answer.TheVariants as answer
use Rattle.jser_records.specs.declared.clerk.Clerk.{Clerk}
use Rattle.jser_records.specs.declared.key.Key.{Key}
use Rattle.jser_records.specs.declared.sign.Sign.{Sign}
use Rattle.jser_records.specs.Held.{Keeps, Terms, may_pass, passes}
use Rattle.jser_records.specs.Keys.{HasNoKey, IsKeyOf, KeepsKey}
use Rattle.jser_records.specs.Readings.{Came, IsFor, Value}
use Rattle.jser_records.specs.Words.{line_words, object_words}

-- the counts with one record more
abbrev pub counted : Tally → Answer → Tally
counted tally (answer.Checked result) = noted tally result
counted tally answer.Null = one_accepted tally
counted tally (answer.Longer most) = one_unread tally
counted tally answer.LongKey = one_unread tally
counted tally answer.LineEndInKey = one_unread tally
counted tally (answer.Cut at total) = one_unread tally
counted tally answer.ErrorReply = one_unread tally
counted tally answer.NoLength = one_unread tally

-- a record that has ended: its KEY with its signs, its answer, and the bytes of it that were kept
pub record Entry : Type 0 where
  pub key : Key
  pub signs : List Sign
  pub answer : Answer
  pub held : List ℕ

-- where records are handed on and this one passes, that is these bytes
abbrev pub HandsOn : Terms → Entry → List ℕ → Type 0
HandsOn terms entry raw = terms.hands_on ≡ true → passes entry.answer ≡ true → entry.held ≡ raw

-- this is the KEY that is told of it, unless that is too long or there was no memory
abbrev pub KeyTold : Entry → Option (List ℕ) → Type 0
KeyTold entry has = IsKeyOf entry.key has ⊎ (HasNoKey entry.key × (entry.answer ≡ answer.Checked found.OutOfMemory))

-- its line, or its object
abbrev pub entry_words : (json : Bool) → (number : ℕ) → Key → List Sign → Answer → List ℕ → List ℕ
entry_words json number key signs result k = if json then object_words number key signs result k else line_words number key signs result k

-- What goes to standard output of a record. Where records are handed on, the bytes of one that passes, and nothing of another
-- one; else its line or its object, unless it passes and only the others are asked for.
abbrev pub put_of : How → (hands_on : Bool) → (number : ℕ) → Key → List Sign → Answer → (held : List ℕ) → List ℕ → List ℕ
put_of how hands_on number key signs result held k =
    if hands_on then (if passes result then held ++ k else k)
    else (if how.refused && passes result then k else entry_words how.json number key signs result k)

-- and to standard error: where records are handed on, the line or the object of one that does not pass
abbrev pub told_of : How → (hands_on : Bool) → (number : ℕ) → Key → List Sign → Answer → List ℕ → List ℕ
told_of how hands_on number key signs result k = if hands_on && not (passes result) then entry_words how.json number key signs result k else k

-- A record ended; or bytes behind one that passes were handed on with it; or bytes were passed over that are no part of one that
-- passes.
pub data Event : Type 0 where
  ended : Entry → Event
  behind : List ℕ → Event
  passed_over : List ℕ → Event

-- bytes behind a record, which passed or not
abbrev pub behind_it : (passed : Bool) → List ℕ → Event
behind_it passed bytes = if passed then behind bytes else passed_over bytes

-- ---- of one event after another, where so many records ended before

abbrev pub number_after : ℕ → Event → ℕ
number_after number (ended e) = one_more number
number_after number (behind bytes) = number
number_after number (passed_over bytes) = number

abbrev pub put_event : How → Bool → ℕ → Event → List ℕ → List ℕ
put_event how hands_on number (ended e) k = put_of how hands_on number e.key e.signs e.answer e.held k
put_event how hands_on number (behind bytes) k = if hands_on then bytes ++ k else k
put_event how hands_on number (passed_over bytes) k = k

abbrev pub told_event : How → Bool → ℕ → Event → List ℕ → List ℕ
told_event how hands_on number (ended e) k = told_of how hands_on number e.key e.signs e.answer k
told_event how hands_on number (behind bytes) k = k
told_event how hands_on number (passed_over bytes) k = k

abbrev pub counted_event : Tally → Event → Tally
counted_event tally (ended e) = counted tally e.answer
counted_event tally (behind bytes) = tally
counted_event tally (passed_over bytes) = tally

abbrev pub number_at_end : ℕ → List Event → ℕ
number_at_end number [] = number
number_at_end number (e ∷ es) = number_at_end (number_after number e) es

abbrev pub all_put : How → Bool → ℕ → List Event → List ℕ → List ℕ
all_put how hands_on number [] k = k
all_put how hands_on number (e ∷ es) k = put_event how hands_on number e (all_put how hands_on (number_after number e) es k)

abbrev pub all_told : How → Bool → ℕ → List Event → List ℕ → List ℕ
all_told how hands_on number [] k = k
all_told how hands_on number (e ∷ es) k = told_event how hands_on number e (all_told how hands_on (number_after number e) es k)

abbrev pub all_counted : Tally → List Event → Tally
all_counted tally [] = tally
all_counted tally (e ∷ es) = all_counted (counted_event tally e) es

-- these events came to a clerk, and it said all of them, and nothing else
pub record SaysAll (old new : Clerk) (before after : SinkState) (told_before told_after : SinkState) (events : List Event) : Type 0 where
  pub output : Says old.output new.output before after (λ k. all_put old.how old.passes old.number events k)
  pub faults : Says old.faults new.faults told_before told_after (λ k. all_told old.how old.passes old.number events k)
  pub number : new.number ≡ number_at_end old.number events
  pub tally : new.tally ≡ all_counted old.tally events
  pub how : new.how ≡ old.how
  pub passes : new.passes ≡ old.passes

-- none came, and the record that is read stays under its terms
pub record Quiet (old new : Clerk) (before after : SinkState) (told_before told_after : SinkState) : Type 0 where
  pub says : SaysAll old new before after told_before told_after []
  pub keeps : Keeps old.current new.current

abbrev pub QuietTo : {S T : Type 0} → (S → Option (List ℕ)) → (S → Bool) → (T → Option (List ℕ)) → (T → Bool) → (old new : Clerk) → (before after : S) → (told_before told_after : T) → Type 0
QuietTo gone_out has_failed told_out told_failed old new before after told_before told_after =
    Quiet old new (sink_state (gone_out before) (has_failed before)) (sink_state (gone_out after) (has_failed after))
    (sink_state (told_out told_before) (told_failed told_before)) (sink_state (told_out told_after) (told_failed told_after))

-- events came to devices that tell what they were given
abbrev pub SaysAllTo : {S T : Type 0} → (S → Option (List ℕ)) → (S → Bool) → (T → Option (List ℕ)) → (T → Bool) → (old new : Clerk) → (before after : S) → (told_before told_after : T)
    → List Event → Type 0
SaysAllTo gone_out has_failed told_out told_failed old new before after told_before told_after events =
    SaysAll old new (sink_state (gone_out before) (has_failed before)) (sink_state (gone_out after) (has_failed after))
    (sink_state (told_out told_before) (told_failed told_before)) (sink_state (told_out told_after) (told_failed told_after)) events

-- One record ended. Its answer is right of the value that came of it, and the bytes are those that were kept.
pub record Closes (old new : Clerk) (before after : SinkState) (told_before told_after : SinkState) (result : Bool) : Type 0 where
  pub entry : Entry
  pub says : SaysAll old new before after told_before told_after (ended entry ∷ [])
  pub held : entry.held ≡ old.current.held.items
  pub passed : result ≡ passes entry.answer
  pub may : passes entry.answer ≡ true → may_pass old.current.reading.answer ≡ true
  pub right : (value : Value) → Came old.current.reading value → IsFor old.current.reading.judge.rules old.current.reading.most entry.key.is_lost value entry.answer
  pub keeps : Keeps old.current new.current
  pub key : KeepsKey old.current.reading.key entry.key entry.answer

abbrev pub ClosesTo : {S T : Type 0} → (S → Option (List ℕ)) → (S → Bool) → (T → Option (List ℕ)) → (T → Bool) → (old new : Clerk) → (before after : S) → (told_before told_after : T) → (passed : Bool) → Type 0
ClosesTo gone_out has_failed told_out told_failed old new before after told_before told_after passed =
    Closes old new (sink_state (gone_out before) (has_failed before)) (sink_state (gone_out after) (has_failed after))
    (sink_state (told_out told_before) (told_failed told_before)) (sink_state (told_out told_after) (told_failed told_after)) passed
