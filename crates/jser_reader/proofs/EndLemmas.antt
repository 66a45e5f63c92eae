-- How the handler of a token ends.
use Rattle.std.proofs.Common.{◌≡◌, ℕ, Option, Some, None, refl, ◌∙◌, ap, subst}
use Rattle.jser_reading.specs.Goals.{State}
use Rattle.jser_verdict.specs.Reasons.{Reason}
use Rattle.jser_reader.specs.declared.machine.flow.Flow.{Flow}
use Rattle.jser_reader.specs.declared.machine.flow.Flow.TheVariants as flow
use Rattle.jser_reader.specs.declared.frame.Owner.{Owner}
use Rattle.jser_reader.specs.declared.phase.Phase.{Phase}
use Rattle.jser_reader.specs.declared.phase.TextFor.{TextFor}
use Rattle.jser_reader.specs.Reasons.{named}
use Rattle.jser_reader.specs.Readers.{Seen, Header, Ready}
use Rattle.jser_reader.specs.Steps.{Kept, after_value}
use Rattle.jser_reader.specs.Handlers.{StopsWith, refusal, moved, Comes, Tells, TellsSurely, IsNext}

pub same_value : (old new : Seen) → new.frames ≡ old.frames → new.layers ≡ old.layers → new.table ≡ old.table → new.refs ≡ old.refs → after_value new ≡ after_value old
unfolding after_value
same_value old new ef ey et er = rw ef (rw ey (rw et (rw er refl)))

pub ends : (old mid new : Seen) → Ready new (after_value mid) → Kept mid new → new.meter ≡ mid.meter → mid.meter ≡ moved old.meter
    → mid.frames ≡ old.frames → mid.layers ≡ old.layers → mid.table ≡ old.table → mid.refs ≡ old.refs
    → Comes old new (after_value old)
ends old mid new h k em en ef ey et er =
    record { ready = subst (Ready new) (same_value old mid ef ey et er) h; meter = em ∙ en; max = ap (λ t. t.max) (k.table ∙ et) }

-- what is seen where this token comes next
pub next_is : (p : Phase) (o : Owner) (chain : Option ℕ) (h : Header) (t : TextFor) (old new : Seen) → IsNext p o chain h t old new
    → new ≡ record { meter = moved old.meter; phase = p; frames = old.frames; layers = old.layers; table = old.table; refs = old.refs; owner = o; elements = chain; header = h; text = t; left = new.left; scan = new.scan; name = new.name }
next_is p o chain h t old new n =
    rw (← n.meter) (rw (← n.phase_is) (rw (← n.frames) (rw (← n.layers) (rw (← n.table) (rw (← n.refs) (rw (← n.owner_is) (rw (← n.chain_is) (rw (← n.header_is) (rw (← n.text_is) refl)))))))))

-- a handler that refuses, runs out of memory, or goes on

pub tells_refusal : (reason : Reason) (told : Option Reason) (s : State) (b : Flow) (old new : Seen) → StopsWith (refusal old.meter (named reason)) old new → b ≡ flow.Stopped → told ≡ Some reason → Tells told s b old new
unfolding Tells
tells_refusal reason told s b old new h eb et = rw eb (rw et h)

pub tells_next : (told : Option Reason) (s : State) (b : Flow) (old new : Seen) → Comes old new s → b ≡ flow.On → told ≡ None → Tells told s b old new
unfolding Tells
tells_next told s b old new h eb et = rw eb (rw et h)

-- what a handler tells, said of a machine that was as far
pub tells_from : (told : Option Reason) (s t : State) (b : Flow) (old mid new : Seen) → Tells told s b mid new → mid.meter ≡ old.meter → mid.table.max ≡ old.table.max → s ≡ t → Tells told t b old new
unfolding Tells
tells_from None s t flow.On old mid new h em ex e = record { ready = subst (Ready new) e h.ready; meter = h.meter ∙ ap moved em; max = h.max ∙ ex }
tells_from None s t flow.Stopped old mid new h em ex e = record { phase = h.phase; stop = h.stop }
tells_from (Some r) s t flow.On old mid new h em ex e = h
tells_from (Some r) s t flow.Stopped old mid new h em ex e = record { phase = h.phase; stop = h.stop ∙ ap (λ m. refusal m (named r)) em }

pub surely_from : (told : Option Reason) (s t : State) (b : Flow) (old mid new : Seen) → TellsSurely told s b mid new → mid.meter ≡ old.meter → mid.table.max ≡ old.table.max → s ≡ t → TellsSurely told t b old new
unfolding TellsSurely
surely_from None s t flow.On old mid new h em ex e = record { ready = subst (Ready new) e h.ready; meter = h.meter ∙ ap moved em; max = h.max ∙ ex }
surely_from None s t flow.Stopped old mid new h em ex e = h
surely_from (Some r) s t flow.On old mid new h em ex e = h
surely_from (Some r) s t flow.Stopped old mid new h em ex e = record { phase = h.phase; stop = h.stop ∙ ap (λ m. refusal m (named r)) em }
