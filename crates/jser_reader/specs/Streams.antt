-- What a reader says of the bytes that it took: that they are a stream, that they are refused and why, or that they end
-- too early.
use Rattle.std.specs.Prelude.{ℕ, ◌≡◌, List, ◌++◌, length}
use Rattle.jser_grammar.specs.Trees.{ContentTrees}
use Rattle.jser_grammar.specs.Parts.{IsBytes}
use Rattle.jser_verdict.specs.Reasons.{truncated}
use Rattle.jser_verdict.specs.Reasons.{Reason as ToldReason}
use Rattle.jser_verdict.specs.Gates.{Gate}
use Rattle.jser_verdict.specs.Passing.{Passes}
use Rattle.jser_verdict.specs.FirstFault.{IsFirstFault}
use Rattle.jser_reader.specs.declared.refusal.Refusal.{Refusal}
use Rattle.jser_reader.specs.Reasons.{named}

-- These bytes, and no fewer, decide: whatever comes after them, the refusal names the first fault, and no stream that
-- begins with them passes.
pub record AreRefused (gate : Gate) (bytes : List ℕ) (refusal : Refusal) : Type 0 where
  pub reason : ToldReason
  pub is_named : refusal.reason ≡ named reason
  pub not_truncated : reason ≡ truncated → ⊥
  pub all : refusal.to_byte ≡ length bytes
  pub is_first : (after : List ℕ) → IsBytes after → IsFirstFault gate (bytes ++ after) refusal.from_byte refusal.to_byte reason
  pub none_passes : (after : List ℕ) (list : ContentTrees) → IsBytes after → Passes gate (bytes ++ after) list → ⊥

-- The bytes end too early: that is their first fault, and they are no stream that passes.
pub record AreTruncated (gate : Gate) (bytes : List ℕ) (refusal : Refusal) : Type 0 where
  pub is_named : refusal.reason ≡ named truncated
  pub all : refusal.to_byte ≡ length bytes
  pub is_first : IsFirstFault gate bytes refusal.from_byte refusal.to_byte truncated
  pub none_passes : (list : ContentTrees) → Passes gate bytes list → ⊥
