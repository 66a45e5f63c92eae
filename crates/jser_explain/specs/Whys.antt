-- What is said of a refusal behind its line.
use Rattle.std.specs.Prelude.{ℕ, ◌≡◌, ◌≤◌, Bool, List, [], ◌++◌, length, Option, Some, None}
use Rattle.std.specs.Io.KnownBytes.{Appends}
use Rattle.jser_prim.specs.Outgoing.{Outgoing}
use Rattle.jser_printer.specs.Says.{SaysTo}
use Rattle.jser_scan.specs.declared.found.Found.{Found}
use Rattle.jser_explain.specs.declared.token.Spot.{Spot}
use Rattle.jser_explain.specs.Heads.{class_in, token_of, head_words}
use Rattle.jser_explain.specs.Rest.{More, rest_words, without_piece}

-- how many bytes it has at most, without the piece of the filter
abbrev pub MOST_TEXT : ℕ
MOST_TEXT = 102400

-- the head of what was found, and then more; nothing where it is no refusal
abbrev pub why_at : Option Spot → (sentence bytes : List ℕ) → Option (List ℕ) → More → List ℕ → List ℕ
why_at None sentence bytes class more k = k
why_at (Some spot) sentence bytes class more k = head_words sentence bytes spot class (rest_words more k)

abbrev pub why_words : (sentence bytes : List ℕ) → Found → More → List ℕ → List ℕ
why_words sentence bytes result more k = why_at (token_of result) sentence bytes (class_in result) more k

abbrev pub IsShort : (sentence bytes : List ℕ) → Found → More → Type 0
IsShort sentence bytes result more = length (why_words sentence bytes result (without_piece more) []) ≤ MOST_TEXT

-- Why the bytes are refused went out: a sentence, the bytes of the refusal, its class, and then more; nothing where they are
-- not refused.
pub record SaysWhy (bytes : List ℕ) (result : Found) (old new : Option (List ℕ)) : Type 0 where
  pub sentence : List ℕ
  pub more : More
  pub short : IsShort sentence bytes result more
  pub printed : Appends old new (why_words sentence bytes result more [])

-- the first bytes of that went out
pub record SaysSomeWhy (bytes : List ℕ) (result : Found) (old new : Option (List ℕ)) : Type 0 where
  pub sentence : List ℕ
  pub more : More
  pub short : IsShort sentence bytes result more
  pub out : List ℕ
  pub left : List ℕ
  pub split : why_words sentence bytes result more [] ≡ out ++ left
  pub printed : Appends old new out

-- such a text is what was said to a sink
pub record SaysWhyTo {S : Type 0} (gone_out : S → Option (List ℕ)) (has_failed : S → Bool) (bytes : List ℕ) (result : Found) (old new : Outgoing) (before after : S) : Type 0 where
  pub sentence : List ℕ
  pub more : More
  pub short : IsShort sentence bytes result more
  pub said : SaysTo gone_out has_failed old new before after (λ k. why_words sentence bytes result more k)
