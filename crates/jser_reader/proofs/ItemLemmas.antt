-- The items that are made of the bytes of a token.
use Rattle.std.proofs.Common.{◌≡◌, ◌⊎◌, inl, inr, ℕ, ◌<◌, ◌≤◌, ◌^◌, List, ◌++◌, length, refl, sym, ◌∙◌, ap, subst, arith}
use Rattle.jser_prim.specs.Bytes.{big_bytes}
use Rattle.jser_reading.specs.TokensFromBytes.{number_of}
use Rattle.jser_reading.proofs.Decoding.{number_2, number_4, number_8}
use Rattle.jser_reader.specs.declared.item.Item.{Item}
use Rattle.jser_reader.specs.declared.item.Step.TheVariants as step
use Rattle.jser_reader.specs.declared.phase.Phase.{Phase}
use Rattle.jser_reader.specs.declared.phase.Phase.TheVariants as phase
use Rattle.jser_reader.specs.Walks.{size_of_phase}
use Rattle.jser_reader.specs.Items.{IsRawPart}
use Rattle.jser_reader.specs.ItemsMade.{IsTextPart, number_item, ItemCases, MakesItem, MakesStep}

-- ---- the number in the bytes of a token

pub number_of_two : (n : ℕ) (bytes : List ℕ) → big_bytes 2 n ≡ bytes → n < 2 ^ 16 → n ≡ number_of bytes
number_of_two n bytes e small = sym (number_2 n small) ∙ ap number_of e

pub number_of_four : (n : ℕ) (bytes : List ℕ) → big_bytes 4 n ≡ bytes → n < 2 ^ 32 → n ≡ number_of bytes
number_of_four n bytes e small = sym (number_4 n small) ∙ ap number_of e

pub number_of_eight : (n : ℕ) (bytes : List ℕ) → big_bytes 8 n ≡ bytes → n < 2 ^ 64 → n ≡ number_of bytes
number_of_eight n bytes e small = sym (number_8 n small) ∙ ap number_of e

-- ---- the item

pub makes_text : (p : Phase) (kept part : List ℕ) (lent : Item) → p ≡ phase.Text → IsTextPart part lent → MakesItem p kept part lent
unfolding MakesItem
makes_text p kept part lent e h = subst (λ p. ItemCases p kept part lent) (sym e) h

pub makes_raw : (p : Phase) (kept part : List ℕ) (lent : Item) → (p ≡ phase.Prims) ⊎ (p ≡ phase.Bytes) → IsRawPart part lent → MakesItem p kept part lent
unfolding MakesItem
makes_raw p kept part lent (inl e) h = subst (λ p. ItemCases p kept part lent) (sym e) h
makes_raw p kept part lent (inr e) h = subst (λ p. ItemCases p kept part lent) (sym e) h

-- no more bytes than a number has
pub at_most_eight : (p : Phase) → size_of_phase p ≤ 8
at_most_eight phase.Header = omega arith
at_most_eight phase.Top = omega arith
at_most_eight _ = omega arith

whole : (p : Phase) (kept part bytes : List ℕ) (lent : Item) → (length bytes ≡ size_of_phase p → lent ≡ number_item p (number_of bytes))
    → (length (kept ++ part) ≤ 8 → bytes ≡ kept ++ part) → length (kept ++ part) ≡ size_of_phase p → lent ≡ number_item p (number_of (kept ++ part))
whole p kept part bytes lent h e size =
    let le = at_most_eight p in
    let same : bytes ≡ kept ++ part = e (omega arith) in
    subst (λ bytes. lent ≡ number_item p (number_of bytes)) same (h (ap length same ∙ size))

pub makes_number : (p : Phase) (kept part bytes : List ℕ) (lent : Item) → (p ≡ phase.Text → ⊥) → (p ≡ phase.Prims → ⊥) → (p ≡ phase.Bytes → ⊥)
    → (length bytes ≡ size_of_phase p → lent ≡ number_item p (number_of bytes)) → (length (kept ++ part) ≤ 8 → bytes ≡ kept ++ part)
    → MakesItem p kept part lent
unfolding MakesItem
makes_number phase.Text kept part bytes lent t r b h e = absurd (t refl)
makes_number phase.Prims kept part bytes lent t r b h e = absurd (r refl)
makes_number phase.Bytes kept part bytes lent t r b h e = absurd (b refl)
makes_number phase.Header kept part bytes lent t r b h e = whole phase.Header kept part bytes lent h e
makes_number phase.Top kept part bytes lent t r b h e = whole phase.Top kept part bytes lent h e
makes_number p kept part bytes lent t r b h e = whole p kept part bytes lent h e

pub makes_cut : (p : Phase) (kept part : List ℕ) (lent : Item) → (p ≡ phase.Text → ⊥) → (p ≡ phase.Prims → ⊥) → (p ≡ phase.Bytes → ⊥)
    → (length (kept ++ part) ≤ 8 → length (kept ++ part) ≡ size_of_phase p → lent ≡ number_item p (number_of (kept ++ part))) → MakesItem p kept part lent
makes_cut p kept part lent t r b h =
    makes_number p kept part (kept ++ part) lent t r b (λ size. let le = at_most_eight p in h (omega arith) size) (λ le. refl)

pub makes_step : (p : Phase) (kept part taken : List ℕ) (lent : Item) (used : ℕ) → MakesItem p kept part lent → part ≡ taken
    → MakesStep p kept taken (step.Item lent used)
unfolding MakesStep
makes_step p kept part taken lent used h e = subst (λ xs. MakesItem p kept xs lent) e h
