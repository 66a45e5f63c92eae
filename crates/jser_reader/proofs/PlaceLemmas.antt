-- Counting a place.
use Rattle.std.proofs.Common.{◌≡◌, Bool, true, false, Option, Some, None, option_map, refl, sym, ◌∙◌, ap, subst, arith}
use Rattle.jser_reading.specs.Goals.{State}
use Rattle.jser_verdict.specs.Reasons.{Reason, depth_exceeded, refs_exceeded}
use Rattle.jser_verdict.specs.Verdicts.{told_if}
use Rattle.jser_reader.specs.declared.machine.flow.Flow.{Flow}
use Rattle.jser_reader.specs.declared.refusal.Reason.{Reason as CodeReason}
use Rattle.jser_reader.specs.declared.machine.flow.Flow.TheVariants as flow
use Rattle.jser_reader.specs.Reasons.{named}
use Rattle.jser_reader.specs.Readers.{Seen}
use Rattle.jser_reader.specs.Handlers.{StopsWith, refusal, counted, CountCases, CountsPlace, Tells}
use Rattle.jser_reader.specs.Rules.{is_deep, is_one_too_many, with_limits}
use Rattle.jser_reader.proofs.EndLemmas.{tells_refusal, tells_from}
use Rattle.std.proofs.lemmas.Bool.Decides.{nat_tests}
use Rattle.jser_reader.specs.Wholes.{HasPlace}

pub counts_not : (b : Flow) (why : CodeReason) (old new : Seen) → Some why ≡ option_map named (with_limits old None) → StopsWith (refusal old.meter why) old new → b ≡ flow.Stopped
    → CountsPlace b old new
unfolding CountsPlace
counts_not b why old new e h eb = rw eb (go (is_deep old) (is_one_too_many old) e)
  where
    go : (d m : Bool) → Some why ≡ option_map named (told_if d depth_exceeded (told_if m refs_exceeded None)) → CountCases flow.Stopped d m old new
    go true m e = let is : why ≡ named depth_exceeded = cc in subst (λ w. StopsWith (refusal old.meter w) old new) is h
    go false true e = let is : why ≡ named refs_exceeded = cc in subst (λ w. StopsWith (refusal old.meter w) old new) is h
    go false false e = absurd (cc)

pub counts : (b : Flow) (old new : Seen) → None ≡ option_map named (with_limits old None) → new ≡ counted old → b ≡ flow.On → CountsPlace b old new
unfolding CountsPlace
counts b old new e h eb = let is = go (is_deep old) (is_one_too_many old) e in rw eb (h, is.0, is.1)
  where
    go : (d m : Bool) → None ≡ option_map named (told_if d depth_exceeded (told_if m refs_exceeded None)) → (d ≡ false) × (m ≡ false)
    go true m e = absurd (cc)
    go false true e = absurd (cc)
    go false false e = (refl, refl)

-- the reasons of a place's tag begin with these

pub not_counted : (b found : Flow) (others : Option Reason) (s : State) (old new : Seen) → CountsPlace b old new → b ≡ flow.Stopped → found ≡ flow.Stopped → Tells (with_limits old others) s found old new
unfolding CountsPlace
not_counted flow.On found others s old new h e ef = absurd (cc)
not_counted flow.Stopped found others s old new h e ef = go (is_deep old) (is_one_too_many old) h
  where
    go : (d m : Bool) → CountCases flow.Stopped d m old new → Tells (told_if d depth_exceeded (told_if m refs_exceeded others)) s found old new
    go true m k = tells_refusal depth_exceeded (Some depth_exceeded) s found old new k ef refl
    go false true k = tells_refusal refs_exceeded (Some refs_exceeded) s found old new k ef refl
    go false false k = absurd k

pub after_count : (b found : Flow) (others : Option Reason) (s : State) (old mid new : Seen) → CountsPlace b old mid → b ≡ flow.On → Tells others s found mid new → Tells (with_limits old others) s found old new
unfolding CountsPlace
after_count flow.Stopped found others s old mid new h e k = absurd (cc)
after_count flow.On found others s old mid new h e k =
    let same : others ≡ with_limits old others = sym (ap (λ d. told_if d depth_exceeded (told_if (is_one_too_many old) refs_exceeded others)) h.1 ∙ ap (λ m. told_if m refs_exceeded others) h.2) in
    subst (λ t. Tells t s found old new) same (tells_from others s s found old mid new k (ap (λ r. r.meter) h.0) (ap (λ r. r.table.max) h.0) refl)

pub is_counted : (b : Flow) (old mid : Seen) → CountsPlace b old mid → b ≡ flow.On → mid ≡ counted old
unfolding CountsPlace
is_counted flow.On old mid h e = h.0
is_counted flow.Stopped old mid h e = absurd (cc)

pub counts_here : (old : Seen) → HasPlace old → CountsPlace flow.On old (counted old)
unfolding CountsPlace
counts_here old p =
    let shallow = p.shallow in
    let few = p.few in (refl, grind (arith, nat_tests), grind (arith, nat_tests))
