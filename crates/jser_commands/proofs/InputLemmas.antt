-- The stream of an input, and why there is none.
use Rattle.std.proofs.Common.{◌≡◌, ℕ, Bool, true, List, Option, Some, None, Result, Ok, Err, sym, ◌∙◌, subst, inl, inr}
use Rattle.std.specs.Prelude.{◌⊎◌, IfOk, IfErr, IfSome}
use Rattle.std.specs.Io.KnownBytes.{Keeps}
use Rattle.jser_reader.specs.declared.Refusal.{Refusal}
use Rattle.jser_index.specs.Graphs.{GraphView, StandsForSome}
use Rattle.jser_index.specs.Reading.{IsRefused}
use Rattle.jser_inputs.specs.declared.InputFault.{InputFault}
use Rattle.jser_names.specs.Sources.{IfRefused, FailsWith}
use Rattle.jser_names.specs.Sources.{IsRefused as RefusedNames}
use Rattle.jser_names.specs.Wholes.{IsStream}
use Rattle.jser_names.specs.declared.NamesFault.{NamesFault}
use Rattle.jser_names.specs.declared.NamesFault.TheVariants as fault
use Rattle.jser_commands.specs.Inputs.{IfUnreadRefused, PrintsUnread, WhyUnread, IsReadFault, IsUnread}
use Rattle.jser_commands.specs.Lines.{AppendsSome, SaysRefusal, SaysWhy, KeptOrSaidSome}
use Rattle.jser_commands.specs.declared.input.Unread.{Unread}
use Rattle.jser_commands.specs.declared.input.Unread.TheVariants as unread

-- ---- why there is none

refused_so : (bytes : List ℕ) (refusal : Refusal) → RefusedNames bytes refusal → IsRefused bytes refusal
refused_so bytes refusal (inl front) = inl (record { within = front.within; refused = front.refused })
refused_so bytes refusal (inr cut) = inr cut

pub unread_refuses : (told : Option (List ℕ)) (why : NamesFault) (said : Unread) → IsUnread why said → IfSome told (λ bytes. IfRefused (RefusedNames bytes) why)
    → IfSome told (λ bytes. IfUnreadRefused (IsRefused bytes) said)
unread_refuses None why said is right = tt
unread_refuses (Some bytes) (fault.Refused refusal) said is right = subst (IfUnreadRefused (IsRefused bytes)) (sym is) (refused_so bytes refusal right)
unread_refuses (Some bytes) fault.ReadFault said is right = subst (IfUnreadRefused (IsRefused bytes)) (sym is) tt
unread_refuses (Some bytes) fault.OutOfMemory said is right = subst (IfUnreadRefused (IsRefused bytes)) (sym is) tt

pub unread_fails : (why : NamesFault) (said : Unread) (before after : Bool) → IsUnread why said → FailsWith why before after → IsReadFault said before after
unread_fails (fault.Refused refusal) said before after is fails = subst (λ u. IsReadFault u before after) (sym is) fails
unread_fails fault.ReadFault said before after is fails = subst (λ u. IsReadFault u before after) (sym is) fails
unread_fails fault.OutOfMemory said before after is fails = subst (λ u. IsReadFault u before after) (sym is) fails

-- ---- of a source, whose bytes these are

pub read_accepts : (told : Option (List ℕ)) (whole bytes : List ℕ) (result : Result GraphView Unread) → bytes ≡ whole → IfSome told (λ all. IsStream all whole)
    → IfOk result (StandsForSome bytes) → IfOk result (λ graph. IfSome told (λ all. StandsForSome all graph))
read_accepts None whole bytes (Ok graph) same is stands = tt
read_accepts (Some all) whole bytes (Ok graph) same is stands = subst (λ xs. StandsForSome xs graph) (same ∙ is.is) stands
read_accepts told whole bytes (Err why) same is stands = tt

pub read_refuses : (told : Option (List ℕ)) (whole bytes : List ℕ) (result : Result GraphView Unread) → bytes ≡ whole → IfSome told (λ all. IsStream all whole)
    → IfErr result (IfUnreadRefused (IsRefused bytes)) → IfErr result (λ why. IfSome told (λ all. IfUnreadRefused (IsRefused all) why))
read_refuses told whole bytes (Ok graph) same is right = tt
read_refuses None whole bytes (Err why) same is right = tt
read_refuses (Some all) whole bytes (Err why) same is right = subst (λ xs. IfUnreadRefused (IsRefused xs) why) (same ∙ is.is) right

-- ---- what was printed of it

pub says_refusal : (told : Option (List ℕ)) (why : Unread) (Went : List ℕ → Type 0)
    → IfSome told (λ bytes. IfUnreadRefused (IsRefused bytes) why) → PrintsUnread Went why → IfSome told (λ bytes. SaysRefusal bytes Went)
says_refusal None why Went right printed = tt
says_refusal (Some bytes) (unread.Refused refusal) Went right printed = record { refusal = refusal; refused = right; printed = printed }
says_refusal (Some bytes) unread.Failed Went right printed = absurd printed
says_refusal (Some bytes) unread.OutOfMemory Went right printed = absurd printed

-- its first bytes, where the output failed
pub refusal_cut : (failed : Bool) (old new told : Option (List ℕ)) (why : Unread) (Yes : List ℕ → (List ℕ → Type 0) → Type 0)
    → IfSome told (λ bytes. IfUnreadRefused (IsRefused bytes) why) → Keeps old new ⊎ ((failed ≡ true) × PrintsUnread (AppendsSome old new) why)
    → KeptOrSaidSome failed old new told Yes SaysRefusal
refusal_cut failed old new told why Yes right (inl kept) = inl kept
refusal_cut failed old new None why Yes right (inr some) = inr (some.0, tt)
refusal_cut failed old new (Some bytes) why Yes right (inr some) = inr (some.0, inr (says_refusal (Some bytes) why (AppendsSome old new) right some.1))

-- a line was written only of a refusal, and then no read has failed
pub unbroken_refusal : (why : Unread) (Went : List ℕ → Type 0) (before after : Bool) → PrintsUnread Went why → IsReadFault why before after → after ≡ before
unbroken_refusal (unread.Refused refusal) Went before after printed fault = fault
unbroken_refusal unread.Failed Went before after printed fault = absurd printed
unbroken_refusal unread.OutOfMemory Went before after printed fault = absurd printed

-- why there is no stream is told
pub why_unread : (told_fault : InputFault) (why : Unread) (read_before read_after write_before write_after failed : Bool) (old new : Option (List ℕ))
    → IsReadFault why read_before read_after → WhyUnread told_fault why write_before write_after failed old new
    → SaysWhy told_fault read_before read_after write_before write_after failed old new
why_unread told_fault (unread.Refused refusal) rb ra wb wa failed old new fault told = inr (fault, told)
why_unread told_fault unread.Failed rb ra wb wa failed old new fault told = inl (fault, told.0, told.1)
why_unread told_fault unread.OutOfMemory rb ra wb wa failed old new fault told = inr (fault, inr told)
