-- How far a source is read whose bytes are refused.
use Rattle.std.proofs.Common.{◌≡◌, ◌⊎◌, inl, inr, Bool, ℕ, ◌+◌, ◌-◌, ◌≤◌, List, [], ◌∷◌, ◌++◌, length, take, Option, Some, None, refl, sym, ap, subst, arith, length-append, length-take-le}
use Rattle.std.proofs.KnownBytes.{Consumes-nil, Consumes-trans}
use Rattle.std.specs.Prelude.{IfSome}
use Rattle.std.specs.Io.KnownBytes.{Consumes, IsAtEnd}
use Rattle.jser_grammar.specs.Caps.{most_bytes}
use Rattle.jser_names.specs.declared.source.Halt.{Halt}
use Rattle.jser_names.specs.declared.source.NamesFault.{NamesFault}
use Rattle.jser_names.specs.declared.source.NamesFault.TheVariants as fault
use Rattle.jser_names.specs.Sources.{IfRefused, IsHalted, IsReadOn, Passed, Reads, TakesSome}
use Rattle.jser_names.proofs.SourceLemmas.{IsTold}

-- ---- reads that keep nothing

pub passed_none : (had : Option (List ℕ)) (most : ℕ) → Passed most most had had
passed_none had most = record { bytes = []; off = Consumes-nil had; all = enough had }
  where
    enough : (told : Option (List ℕ)) → IfSome told (λ tells. IsAtEnd had ⊎ (most ≤ 0 + most))
    enough None = tt
    enough (Some xs) = inr (omega arith)

rest_ended : (ys piece zs : List ℕ) → ys ≡ [] → ys ≡ piece ++ zs → zs ≡ []
rest_ended ys piece [] none split = refl
rest_ended ys piece (z ∷ zs) none split = absurd (omega (arith, ap length none, ap length split, length-append piece (z ∷ zs)))

-- Bytes that come off a source behind others: at its end none come; else there are as many more.
further : (had mid has : Option (List ℕ)) (most left more : ℕ) (bytes piece : List ℕ) → Consumes had mid bytes → Consumes mid has piece → left ≤ length piece + more
    → IfSome had (λ tells. IsAtEnd mid ⊎ (most ≤ length bytes + left)) → IfSome had (λ tells. IsAtEnd has ⊎ (most ≤ length (bytes ++ piece) + more))
further None mid has most left more bytes piece off next long all = tt
further (Some xs) None has most left more bytes piece off next long all = absurd off
further (Some xs) (Some ys) None most left more bytes piece off next long all = absurd next
further (Some xs) (Some ys) (Some zs) most left more bytes piece off next long (inl done) = inl (rest_ended ys piece zs done next)
further (Some xs) (Some ys) (Some zs) most left more bytes piece off next long (inr enough) = inr (omega (arith, enough, long, length-append bytes piece))

pub passed_more : (had mid has : Option (List ℕ)) (most left count : ℕ) (buffer : List ℕ) → Passed most left had mid → TakesSome left buffer mid has count
    → Passed most (left - count) had has
passed_more had mid has most left count buffer h t = record {
  bytes = h.bytes ++ take count buffer;
  off = Consumes-trans had mid has h.bytes (take count buffer) h.off t.off;
  all = further had mid has most left (left - count) h.bytes (take count buffer) h.off t.off (omega (arith, t.few, length-take-le count buffer t.within)) h.all;
}

-- the end of the source has come
pub passed_end : (had mid has : Option (List ℕ)) (most left : ℕ) (buffer : List ℕ) → Passed most left had mid → TakesSome left buffer mid has 0 → Passed most 0 had has
passed_end had mid has most left buffer h t = record {
  bytes = h.bytes ++ take 0 buffer;
  off = Consumes-trans had mid has h.bytes (take 0 buffer) h.off t.off;
  all = told had (t.end refl);
}
  where
    told : (xs : Option (List ℕ)) → IsAtEnd has → IfSome xs (λ tells. IsAtEnd has ⊎ (most ≤ length (h.bytes ++ take 0 buffer) + 0))
    told None done = tt
    told (Some bytes) done = inl done

-- no more may come
pub passed_all : (had has : Option (List ℕ)) (most left : ℕ) → Passed most left had has → left ≤ 0 → Passed most 0 had has
passed_all had has most left h none = subst (λ n. Passed most n had has) (omega (arith, none)) h

-- ---- a halt, and what is told of it

pub halted_failed : (had has : Option (List ℕ)) (halt : Halt) → halt.fault ≡ fault.ReadFault → IsHalted had has halt
halted_failed had has halt is = subst (IfRefused (λ refusal. Passed (most_bytes + 1) halt.left had has)) (sym is) tt

of_fault : (P : Type 0) (why : NamesFault) → P → IfRefused (λ refusal. P) why
of_fault P (fault.Refused refusal) p = p
of_fault P fault.ReadFault p = tt
of_fault P fault.OutOfMemory p = tt

off_so_far : (had has : Option (List ℕ)) (left : ℕ) (bytes : List ℕ) → length bytes + left ≡ most_bytes + 1 → Consumes had has bytes → Passed (most_bytes + 1) left had has
off_so_far had has left bytes size off = record { bytes = bytes; off = off; all = enough had }
  where
    enough : (told : Option (List ℕ)) → IfSome told (λ tells. IsAtEnd has ⊎ (most_bytes + 1 ≤ length bytes + left))
    enough None = tt
    enough (Some xs) = inr (omega (arith, size))

pub none_read : (had has : Option (List ℕ)) (why : NamesFault) → why ≡ fault.OutOfMemory → IsReadOn had has why
none_read had has why is = subst (IfRefused (λ refusal. Passed (most_bytes + 1) 0 had has)) (sym is) tt

joined : (had mid has : Option (List ℕ)) (left : ℕ) → Passed (most_bytes + 1) left had mid → Passed left 0 mid has → Passed (most_bytes + 1) 0 had has
joined had mid has left h g = record {
  bytes = h.bytes ++ g.bytes;
  off = Consumes-trans had mid has h.bytes g.bytes h.off g.off;
  all = both had mid has h.off g.off h.all g.all;
}
  where
    both : (xs ys zs : Option (List ℕ)) → Consumes xs ys h.bytes → Consumes ys zs g.bytes → IfSome xs (λ tells. IsAtEnd ys ⊎ (most_bytes + 1 ≤ length h.bytes + left))
        → IfSome ys (λ tells. IsAtEnd zs ⊎ (left ≤ length g.bytes + 0)) → IfSome xs (λ tells. IsAtEnd zs ⊎ (most_bytes + 1 ≤ length (h.bytes ++ g.bytes) + 0))
    both None ys zs off next one two = tt
    both (Some xs) None zs off next one two = absurd off
    both (Some xs) (Some ys) None off next one two = absurd next
    both (Some xs) (Some ys) (Some zs) off next (inl done) two = inl (rest_ended ys g.bytes zs done next)
    both (Some xs) (Some ys) (Some zs) off next (inr enough) (inl done) = inl done
    both (Some xs) (Some ys) (Some zs) off next (inr enough) (inr more) = inr (omega (arith, enough, more, length-append h.bytes g.bytes))

pub reads_on : (had mid has : Option (List ℕ)) (halt : Halt) (told : NamesFault) (before after : Bool) → IsTold told halt.fault before after → IsHalted had mid halt
    → IfRefused (λ refusal. Passed halt.left 0 mid has) told → IsReadOn had has told
reads_on had mid has halt (fault.Refused refusal) before after (inl same) h g =
    joined had mid has halt.left (subst (IfRefused (λ refusal. Passed (most_bytes + 1) halt.left had mid)) (sym same.0) h) g
reads_on had mid has halt (fault.Refused refusal) before after (inr failed) h g = absurd (cc)
reads_on had mid has halt fault.ReadFault before after is h g = tt
reads_on had mid has halt fault.OutOfMemory before after is h g = tt

-- ---- the halts of reads

halted_from : (had mid has : Option (List ℕ)) (left count : ℕ) (buffer bytes : List ℕ) (halt : Halt) → length bytes + left ≡ most_bytes + 1 → Consumes had mid bytes
    → TakesSome left buffer mid has count → halt.left ≡ left - count → IsHalted had has halt
halted_from had mid has left count buffer bytes halt size off t left_is =
    of_fault (Passed (most_bytes + 1) halt.left had has) halt.fault
    (off_so_far had has halt.left (bytes ++ take count buffer)
    (omega (arith, size, left_is, t.few, length-append bytes (take count buffer), length-take-le count buffer t.within))
    (Consumes-trans had mid has bytes (take count buffer) off t.off))

pub halted_stop : {S : Type 0} (took : List ℕ → S → Type 0) (had mid has : Option (List ℕ)) (left count : ℕ) (buffer : List ℕ) (x : S) (halt : Halt) → Reads took had mid left x
    → TakesSome left buffer mid has count → halt.left ≡ left - count → IsHalted had has halt
halted_stop took had mid has left count buffer x halt h t is = halted_from had mid has left count buffer h.bytes halt h.size h.off t is
