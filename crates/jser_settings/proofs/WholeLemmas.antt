-- Reads of a source, one after another.
use Rattle.std.proofs.Common.{◌≡◌, ℕ, ◌+◌, ◌≤◌, ◌<◌, min, List, [], ◌++◌, length, take, Some, None, sym, subst, ap, ◌∙◌, arith, append-nil}
use Rattle.std.proofs.Math.Seq.{take-append_seam}
use Rattle.std.proofs.lemmas.List.{take_all, length-take}
use Rattle.std.specs.Prelude.{IfSome}
use Rattle.std.specs.declared.option.Option.{Option}
use Rattle.std.specs.Io.KnownBytes.{Consumes, IsAtEnd}
use Rattle.std.proofs.KnownBytes.{Consumes-nil, Consumes-trans}
use Rattle.jser_settings.specs.Whole.{ReadsOnto}

-- one more read
pub reads_on : (old mid new : Option (List ℕ)) (xs ys : List ℕ) → Consumes old mid xs → ReadsOnto mid new xs ys → Consumes old new ys
reads_on old mid new xs ys h r = subst (Consumes old new) (sym r.added) (Consumes-trans old mid new xs r.bytes h r.off)

-- nothing was read yet
pub reads_nothing : (old : Option (List ℕ)) → Consumes old old []
reads_nothing old = Consumes-nil old

-- all bytes, at the end
consumed_all : (old new : Option (List ℕ)) (xs : List ℕ) → Consumes old new xs → IsAtEnd new → IfSome old (λ bytes. bytes ≡ xs)
consumed_all None new xs h e = tt
consumed_all (Some a) None xs h e = absurd h
consumed_all (Some a) (Some b) xs h e = h ∙ ap (λ t. xs ++ t) e ∙ append-nil xs

-- they are the first ones, where they are not too many
front_whole : (told : Option (List ℕ)) (xs : List ℕ) (n : ℕ) → length xs ≤ n → IfSome told (λ bytes. bytes ≡ xs)
    → IfSome told (λ bytes. take n bytes ≡ xs)
front_whole None xs n few h = tt
front_whole (Some bytes) xs n few h = ap (take n) h ∙ take_all n xs few

pub front_at_end : (old new : Option (List ℕ)) (xs : List ℕ) (n : ℕ) → Consumes old new xs → IsAtEnd new → length xs ≤ n
    → IfSome old (λ bytes. take n bytes ≡ xs)
front_at_end old new xs n h e few = front_whole old xs n few (consumed_all old new xs h e)

-- the first bytes, as many as are wanted
pub front_of_many : (old new : Option (List ℕ)) (xs : List ℕ) (n : ℕ) → Consumes old new xs → length xs ≡ n
    → IfSome old (λ bytes. take n bytes ≡ xs)
front_of_many None new xs n h e = tt
front_of_many (Some a) None xs n h e = absurd h
front_of_many (Some a) (Some b) xs n h e = ap (take n) h ∙ ap (λ k. take k (xs ++ b)) (sym e) ∙ take-append_seam xs b

-- there are more than these, where they are as many as were wanted
pub more_than : (told : Option (List ℕ)) (xs : List ℕ) (n : ℕ) → n < length xs → IfSome told (λ bytes. take (n + 1) bytes ≡ xs)
    → IfSome told (λ bytes. n < length bytes)
more_than None xs n many h = tt
more_than (Some bytes) xs n many h =
    let size : min (n + 1) (length bytes) ≡ length xs = sym (length-take (n + 1) bytes) ∙ ap length h in
    omega (arith, size, many)

-- the first bytes are all, where they are fewer than were wanted
pub few_are_all : (bytes xs : List ℕ) (n : ℕ) → take (n + 1) bytes ≡ xs → length xs ≤ n → bytes ≡ xs
few_are_all bytes xs n e few =
    let size : min (n + 1) (length bytes) ≡ length xs = sym (length-take (n + 1) bytes) ∙ ap length e in
    sym (take_all (n + 1) bytes (omega (arith, size, few))) ∙ e

pub all_of_few : (told : Option (List ℕ)) (xs : List ℕ) (n : ℕ) → length xs ≤ n → IfSome told (λ bytes. take (n + 1) bytes ≡ xs)
    → IfSome told (λ bytes. bytes ≡ xs)
all_of_few None xs n few h = tt
all_of_few (Some bytes) xs n few h = few_are_all bytes xs n h few
