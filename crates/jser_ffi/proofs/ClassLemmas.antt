-- The class name of an answer: where it stands, and its quoted text.
use Rattle.std.proofs.Common.{◌≡◌, ℕ, Bool, false, List, [], ◌++◌, Some, inl, inr, sym, ◌∙◌, subst}
use Rattle.std.specs.Prelude.{◌⊎◌, ◌≢◌}
use Rattle.jser_prim.specs.Outgoing.{Outgoing, Puts as Hands, sink_state}
use Rattle.jser_prim.proofs.OutgoingLemmas.{nothing, puts_both, went_out}
use Rattle.jser_printer.specs.Says.{Says}
use Rattle.jser_shown.specs.Words.{quoted}
use Rattle.jser_ffi.specs.declared.answer.Answer.{Answer}
use Rattle.jser_ffi.specs.Classes.{IsNamedIn, PutsClass}
use Rattle.jser_ffi.specs.Rooms.{Puts}
use Rattle.jser_ffi.specs.Streams.{HasNotPassed, PutsRefused}
use Rattle.jser_ffi.specs.declared.stream.Stream.{Stream}

-- ---- its quoted text

pub quoted_went : (start mid now : Outgoing) (out middle after : List ℕ) (failed_before failed_middle failed_after : Bool) (units : List ℕ) → start ≡ nothing → out ≡ []
    → Says start mid (sink_state (Some out) failed_before) (sink_state (Some middle) failed_middle) (λ k. quoted units k)
    → Hands mid now (sink_state (Some middle) failed_middle) (sink_state (Some after) failed_after) [] → now.failed ≡ false → (now.failed ≡ false → now.waiting ≡ [])
    → after ≡ quoted units []
quoted_went start mid now out middle after failed_before failed_middle failed_after units new none says flush on empty =
    let all : after ≡ out ++ (says.bytes ++ []) =
    (went_out start now (sink_state (Some out) failed_before) (sink_state (Some after) failed_after) (says.bytes ++ []) new
    (puts_both start mid now (sink_state (Some out) failed_before) (sink_state (Some middle) failed_middle) (sink_state (Some after) failed_after) says.bytes [] says.puts flush) on empty).0 in
    all ∙ subst (λ xs. xs ++ (says.bytes ++ []) ≡ quoted units []) (sym none) (sym (says.is []))

-- ---- both

pub puts_class : (bytes units old new : List ℕ) (answer told : Answer) → IsNamedIn bytes answer units
    → (told.status ≢ 3 → Puts (quoted units []) old new told) → (told.status ≡ 0) ⊎ (told.status ≡ 6) → PutsClass bytes answer old new told
puts_class bytes units old new answer told named puts (inl all) = record { units = units; named = named; puts = puts (λ e. absurd (cc)) }
puts_class bytes units old new answer told named puts (inr front) = record { units = units; named = named; puts = puts (λ e. absurd (cc)) }

pub puts_refused : (now : Stream) (units old new : List ℕ) (told : Answer) → HasNotPassed now units
    → (told.status ≢ 3 → Puts (quoted units []) old new told) → (told.status ≡ 0) ⊎ (told.status ≡ 6) → PutsRefused now old new told
puts_refused now units old new told refused puts (inl all) = record { units = units; refused = refused; puts = puts (λ e. absurd (cc)) }
puts_refused now units old new told refused puts (inr front) = record { units = units; refused = refused; puts = puts (λ e. absurd (cc)) }
