-- One read of a text: what comes of the source over it.
use Rattle.std.proofs.Common.{◌≡◌, ℕ, ◌+◌, true, false, if◌then◌else◌, List, [], ◌∷◌, Option, Some, None, option_map, refl, sym, ap, ◌∙◌, arith}
use Rattle.std.specs.Io.KnownBytes.{Consumes, IsAtEnd, Keeps}
use Rattle.jser_inputs.specs.declared.spot.Spot.{Spot}
use Rattle.jser_inputs.specs.Places.{is_whole}
use Rattle.jser_inputs.specs.Spelled.{Reads, spelled, right_until, no_byte}
use Rattle.jser_inputs.specs.Decoding.{KeepsNumber}
use Rattle.jser_inputs.proofs.ReadLemmas.{wrong}

-- a source that gave nothing
pub keeps_bytes : (at : Spot) (old new : Option (List ℕ)) → Keeps old new → Keeps (option_map (spelled at) old) (option_map (spelled at) new)
keeps_bytes at None new kept = tt
keeps_bytes at (Some a) None kept = absurd kept
keeps_bytes at (Some a) (Some b) kept = ap (spelled at) kept

pub keeps_number : (at : Spot) (n : ℕ) (old new : Option (List ℕ)) → Keeps old new
    → KeepsNumber (option_map (λ text. n + right_until at text) old) (option_map (λ text. n + right_until at text) new)
keeps_number at n None new kept = tt
keeps_number at n (Some a) None kept = absurd kept
keeps_number at n (Some a) (Some b) kept = ap (λ text. n + right_until at text) kept

pub same_bytes : (told : Option (List ℕ)) → Keeps told told
same_bytes None = tt
same_bytes (Some a) = refl

pub same_number : (told : Option ℕ) → KeepsNumber told told
same_number None = tt
same_number (Some n) = refl

-- one whose characters spelled some bytes
pub gives_bytes : (start now : Spot) (text out : List ℕ) (n : ℕ) (old new : Option (List ℕ)) → Reads start now text [] out n → Consumes old new text
    → Consumes (option_map (spelled start) old) (option_map (spelled now) new) out
gives_bytes start now text out n None new r took = tt
gives_bytes start now text out n (Some a) None r took = absurd took
gives_bytes start now text out n (Some a) (Some b) r took = ap (spelled start) took ∙ r.spells b

-- none at all
pub gives_none : (start now : Spot) (text : List ℕ) (n : ℕ) (old new : Option (List ℕ)) → Reads start now text [] [] n → Consumes old new text
    → Keeps (option_map (spelled start) old) (option_map (spelled now) new)
gives_none start now text n None new r took = tt
gives_none start now text n (Some a) None r took = absurd took
gives_none start now text n (Some a) (Some b) r took = sym (ap (spelled start) took ∙ r.spells b)

pub counts_on : (start now : Spot) (text out : List ℕ) (n at : ℕ) (old new : Option (List ℕ)) → Reads start now text [] out n → Consumes old new text
    → KeepsNumber (option_map (λ text. at + right_until start text) old) (option_map (λ text. (at + n) + right_until now text) new)
counts_on start now text out n at None new r took = tt
counts_on start now text out n at (Some a) None r took = absurd took
counts_on start now text out n at (Some a) (Some b) r took =
    let same : right_until start a ≡ n + right_until now b = ap (right_until start) took ∙ r.right b in
    omega (arith, same)

-- the text has ended

nothing_more : (at : Spot) → is_whole at.place ≡ true → spelled at [] ≡ []
unfolding spelled
nothing_more at whole = ap (λ b. if b then [] else no_byte ∷ []) whole

no_more : (at : Spot) → is_whole at.place ≡ false → spelled at [] ≡ spelled (wrong at.spare) []
unfolding spelled
no_more at cut = ap (λ b. if b then [] else no_byte ∷ []) cut

pub ends_whole : (at : Spot) (told : Option (List ℕ)) → IsAtEnd told → is_whole at.place ≡ true → IsAtEnd (option_map (spelled at) told)
ends_whole at None ended whole = tt
ends_whole at (Some a) ended whole = ap (spelled at) ended ∙ nothing_more at whole

pub ends_bytes : (at : Spot) (old new : Option (List ℕ)) → Consumes old new [] → Consumes (option_map (spelled at) old) (option_map (spelled at) new) []
ends_bytes at None new took = tt
ends_bytes at (Some a) None took = absurd took
ends_bytes at (Some a) (Some b) took = ap (spelled at) took

pub ends_wrong : (at : Spot) (old new : Option (List ℕ)) → Consumes old new [] → IsAtEnd new → is_whole at.place ≡ false
    → Keeps (option_map (spelled at) old) (option_map (spelled (wrong at.spare)) new)
ends_wrong at None new took ended cut = tt
ends_wrong at (Some a) None took ended cut = absurd took
ends_wrong at (Some a) (Some b) took ended cut = ap (spelled (wrong at.spare)) ended ∙ sym (ap (spelled at) (took ∙ ended) ∙ no_more at cut)

pub ends_number : (at now : Spot) (n : ℕ) (old new : Option (List ℕ)) → Consumes old new [] → IsAtEnd new
    → KeepsNumber (option_map (λ text. n + right_until at text) old) (option_map (λ text. n + right_until now text) new)
unfolding right_until
ends_number at now n None new took ended = tt
ends_number at now n (Some a) None took ended = absurd took
ends_number at now n (Some a) (Some b) took ended =
    ap (λ text. n + right_until now text) ended ∙ sym (ap (λ text. n + right_until at text) (took ∙ ended))

-- ---- read after read

pub keeps_all : (a b c : Option (List ℕ)) → Keeps a b → Keeps b c → Keeps a c
keeps_all None b c first next = tt
keeps_all (Some x) None c first next = absurd first
keeps_all (Some x) (Some y) None first next = absurd next
keeps_all (Some x) (Some y) (Some z) first next = next ∙ first

pub keeps_consumes : (a b c : Option (List ℕ)) (out : List ℕ) → Keeps a b → Consumes b c out → Consumes a c out
keeps_consumes None b c out first next = tt
keeps_consumes (Some x) None c out first next = absurd first
keeps_consumes (Some x) (Some y) None out first next = absurd next
keeps_consumes (Some x) (Some y) (Some z) out first next = sym first ∙ next

pub keeps_count : (a b c : Option ℕ) → KeepsNumber a b → KeepsNumber b c → KeepsNumber a c
keeps_count None b c first next = tt
keeps_count (Some x) None c first next = absurd first
keeps_count (Some x) (Some y) None first next = absurd next
keeps_count (Some x) (Some y) (Some z) first next = next ∙ first
