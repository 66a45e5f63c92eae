-- The reads of a source, one after another, and its end.
use Rattle.std.proofs.Common.{◌≡◌, ◌⊎◌, inl, inr, ℕ, ◌+◌, ◌-◌, Bool, true, List, [], ◌++◌, length, take, drop, Option, Some, None, Err, refl, sym, ◌∙◌, ap, subst, arith, append_assoc, append-nil, length-append, length-take-le}
use Rattle.std.proofs.KnownBytes.{Consumes-nil, Consumes-trans}
use Rattle.std.proofs.lemmas.List.{take-append-drop}
use Rattle.std.specs.Global.{Global}
use Rattle.std.specs.Prelude.{IfSome, Vec}
use Rattle.std.specs.Io.KnownBytes.{Consumes, IsAtEnd}
use Rattle.jser_grammar.specs.Caps.{most_bytes}
use Rattle.jser_reader.specs.declared.Refusal.{Refusal}
use Rattle.jser_reader.specs.declared.Stop.{Stop}
use Rattle.jser_reader.specs.declared.Stop.TheVariants as stop
use Rattle.jser_reader.specs.declared.Totals.{Totals}
use Rattle.jser_reader.specs.Answers.{PassesWith}
use Rattle.jser_reader.specs.Gates.{open_gate}
use Rattle.jser_reader.specs.Streams.{AreRefused}
use Rattle.jser_shown.specs.Counting.{NameTally}
use Rattle.jser_reader.proofs.RefusalLemmas.{front_refused}
use Rattle.jser_names.specs.Found.{HasFound}
use Rattle.jser_names.specs.Named.{IsNamed}
use Rattle.jser_names.specs.Sources.{HasNames, IsRefused, IfRefused, FailsWith, TakesSome, Ends, Reads}
use Rattle.jser_names.specs.Takers.{TookCases}
use Rattle.jser_names.specs.Wholes.{IsStream}
use Rattle.jser_names.specs.declared.found.Found.{Found}
use Rattle.jser_names.specs.declared.source.NamesFault.{NamesFault}
use Rattle.jser_names.specs.declared.source.NamesFault.TheVariants as fault

-- ---- what is found

pub of_found : (told : Option (List ℕ)) (found : Found) (names : List NameTally) → names ≡ found.names → IfSome told (λ bytes. HasFound bytes found)
    → IfSome told (λ bytes. HasNames bytes names)
of_found None found names is h = tt
of_found (Some bytes) found names is h = record { list = h.0; passes = h.1.passes; names_are = is ∙ h.1.names_are }

pub of_kept : (told : Option (List ℕ)) (whole : Vec ℕ Global) (totals : Totals) → IfSome told (λ bytes. (whole.items ≡ bytes) × PassesWith open_gate bytes totals)
    → IfSome told (λ bytes. IsStream bytes whole.items)
of_kept None whole totals h = tt
of_kept (Some bytes) whole totals h = record { is = h.0; list = h.1.0; passes = h.1.1 }

pub of_named : (told : Option (List ℕ)) (whole : Vec ℕ Global) (found : Found) → IfSome told (λ bytes. (whole.items ≡ bytes) × HasFound bytes found)
    → IfSome told (λ bytes. IsNamed bytes (record { bytes = whole; names = found.names }))
of_named None whole found h = tt
of_named (Some bytes) whole found h = (h.0, of_found (Some bytes) found found.names refl h.1)

-- ---- reads

pub reads_none : {S : Type 0} (took : List ℕ → S → Type 0) (had : Option (List ℕ)) (x : S) → took [] x → Reads took had had (most_bytes + 1) x
reads_none took had x st = record { bytes = []; size = refl; off = Consumes-nil had; stands = st }

pub reads_more : {S : Type 0} (took : List ℕ → S → Type 0) (had mid has : Option (List ℕ)) (left count : ℕ) (buffer piece : List ℕ) (x y : S) → Reads took had mid left x
    → TakesSome left buffer mid has count → piece ≡ take count buffer → ((taken : List ℕ) → took taken x → took (taken ++ piece) y) → Reads took had has (left - count) y
reads_more took had mid has left count buffer piece x y h t is p =
    let size : length piece ≡ count = ap length is ∙ length-take-le count buffer t.within in
    let both = length-append h.bytes piece in
    let a = h.size in
    let b = t.few in
    record {
      bytes = h.bytes ++ piece;
      size = omega arith;
      off = Consumes-trans had mid has h.bytes piece h.off (subst (Consumes mid has) (sym is) t.off);
      stands = p h.bytes h.stands;
    }

pub refused_in : (had has : Option (List ℕ)) (taken piece : List ℕ) (refusal : Refusal) (used : ℕ) → Consumes had has (taken ++ piece)
    → AreRefused open_gate (taken ++ take used piece) refusal → IfSome had (λ bytes. IsRefused bytes refusal)
refused_in None has taken piece refusal used off r = tt
refused_in (Some all) None taken piece refusal used off r = absurd off
refused_in (Some all) (Some rest) taken piece refusal used off r =
    let split : all ≡ (taken ++ take used piece) ++ (drop used piece ++ rest) =
    off ∙ ap (λ xs. (taken ++ xs) ++ rest) (sym (take-append-drop used piece))
    ∙ ap (λ xs. xs ++ rest) (sym (append_assoc taken (take used piece) (drop used piece)))
    ∙ append_assoc (taken ++ take used piece) (drop used piece) rest in
    inl (front_refused open_gate (taken ++ take used piece) (drop used piece ++ rest) all refusal split r)

pub refused_as : (had : Option (List ℕ)) (refusal : Refusal) (why : NamesFault) → why ≡ fault.Refused refusal → IfSome had (λ bytes. IsRefused bytes refusal)
    → IfSome had (λ bytes. IfRefused (IsRefused bytes) why)
refused_as None refusal why is r = tt
refused_as (Some bytes) refusal why is r = subst (IfRefused (IsRefused bytes)) (sym is) r

pub none_refused : (had : Option (List ℕ)) (why : NamesFault) → why ≡ fault.OutOfMemory → IfSome had (λ bytes. IfRefused (IsRefused bytes) why)
none_refused None why is = tt
none_refused (Some bytes) why is = subst (IfRefused (IsRefused bytes)) (sym is) tt

pub failed_refused : (had : Option (List ℕ)) (why : NamesFault) → why ≡ fault.ReadFault → IfSome had (λ bytes. IfRefused (IsRefused bytes) why)
failed_refused None why is = tt
failed_refused (Some bytes) why is = subst (IfRefused (IsRefused bytes)) (sym is) tt

pub reads_stop : {S : Type 0} (took : List ℕ → S → Type 0) (had mid has : Option (List ℕ)) (left count : ℕ) (buffer piece : List ℕ) (why : Stop) (fault_told : NamesFault) (x y : S)
    → Reads took had mid left x → TakesSome left buffer mid has count → piece ≡ take count buffer
    → ((taken : List ℕ) → took taken x → TookCases (λ bytes. took bytes y) taken piece (Err why)) → Ends why fault_told → IfSome had (λ bytes. IfRefused (IsRefused bytes) fault_told)
reads_stop took had mid has left count buffer piece (stop.Refused refusal) told x y h t is p e =
    let s = p h.bytes h.stands in
    refused_as had refusal told e
    (refused_in had has h.bytes piece refusal s.0 (Consumes-trans had mid has h.bytes piece h.off (subst (Consumes mid has) (sym is) t.off)) s.2)
reads_stop took had mid has left count buffer piece stop.OutOfMemory told x y h t is p e = none_refused had told e
reads_stop took had mid has left count buffer piece stop.Spent told x y h t is p e = none_refused had told e

-- a fault of the bytes is none of the source
pub stop_fails : (why : Stop) (told : NamesFault) (before after : Bool) → Ends why told → after ≡ before → FailsWith told before after
stop_fails (stop.Refused refusal) told before after e same = subst (λ f. FailsWith f before after) (sym e) same
stop_fails stop.OutOfMemory told before after e same = subst (λ f. FailsWith f before after) (sym e) same
stop_fails stop.Spent told before after e same = subst (λ f. FailsWith f before after) (sym e) same

-- ---- the end of the source

pub whole_read : (had has : Option (List ℕ)) (bytes : List ℕ) → Consumes had has bytes → IsAtEnd has → IfSome had (λ all. bytes ≡ all)
whole_read None has bytes off done = tt
whole_read (Some all) None bytes off done = absurd off
whole_read (Some all) (Some rest) bytes off done = sym (off ∙ ap (λ xs. bytes ++ xs) done ∙ append-nil bytes)

-- ---- what is told

abbrev pub IsTold : (told why : NamesFault) → (before after : Bool) → Type 0
IsTold told why before after = ((told ≡ why) × (after ≡ before)) ⊎ ((told ≡ fault.ReadFault) × (after ≡ true))

pub told_refused : (had : Option (List ℕ)) (told why : NamesFault) (before after : Bool) → IsTold told why before after
    → IfSome had (λ bytes. IfRefused (IsRefused bytes) why) → IfSome had (λ bytes. IfRefused (IsRefused bytes) told)
told_refused None told why before after is h = tt
told_refused (Some bytes) told why before after (inl same) h = subst (IfRefused (IsRefused bytes)) (sym same.0) h
told_refused (Some bytes) told why before after (inr failed) h = subst (IfRefused (IsRefused bytes)) (sym failed.0) tt

pub told_fails : (told why : NamesFault) (first before after : Bool) → IsTold told why before after → FailsWith why first before → FailsWith told first after
told_fails told (fault.Refused refusal) first before after (inl same) f = subst (λ w. FailsWith w first after) (sym same.0) (same.1 ∙ f)
told_fails told fault.ReadFault first before after (inl same) f = subst (λ w. FailsWith w first after) (sym same.0) (same.1 ∙ f)
told_fails told fault.OutOfMemory first before after (inl same) f = subst (λ w. FailsWith w first after) (sym same.0) (same.1 ∙ f)
told_fails told why first before after (inr failed) f = subst (λ w. FailsWith w first after) (sym failed.0) failed.1
