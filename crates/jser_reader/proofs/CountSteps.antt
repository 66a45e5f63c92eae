-- What a tag counts, by the byte that it is.
use Rattle.std.proofs.Common.{◌≡◌, ◌⊎◌, inl, inr, Bool, ℕ, suc, ◌+◌, ◌^◌, ◌%◌, ◌<◌, max, false, true, length, Some, None, refl, sym, ◌∙◌, ap, subst, arith}
use Rattle.std.proofs.lemmas.Bool.Decides.{nat_tests}
use Rattle.jser_reading.specs.Labels.{Tag, tag_token, block_tag_token, end_tag_token, reset_tag_token, null_tag, reference_tag, class_desc_tag, object_tag, string_tag, array_tag, class_tag, long_string_tag, proxy_desc_tag, enum_tag}
use Rattle.jser_reading.specs.TokenBytes.{tag_byte}
use Rattle.jser_reading.specs.TokensFromBytes.{tag_from}
use Rattle.jser_reader.specs.declared.tag.ValueTag.{ValueTag}
use Rattle.jser_reader.specs.declared.tally.Tally.{Tally}
use Rattle.jser_reader.specs.Readers.{Seen}
use Rattle.jser_reader.specs.Tags.{view_tag, block_byte, IsTagOf}
use Rattle.jser_reader.specs.Tallies.{with_token, EpochFits}

-- ---- the token that a byte is

pub tag_found : (t : Tag) → tag_from (tag_byte t) ≡ Some (tag_token t)
unfolding tag_from
tag_found null_tag = refl
tag_found reference_tag = refl
tag_found class_desc_tag = refl
tag_found object_tag = refl
tag_found string_tag = refl
tag_found array_tag = refl
tag_found class_tag = refl
tag_found long_string_tag = refl
tag_found proxy_desc_tag = refl
tag_found enum_tag = refl

pub block_found : (long : Bool) → tag_from (block_byte long) ≡ Some (block_tag_token long)
unfolding tag_from
block_found false = refl
block_found true = refl

pub end_found : tag_from 0x78 ≡ Some end_tag_token
unfolding tag_from
end_found = refl

reset_found : tag_from 0x79 ≡ Some reset_tag_token
unfolding tag_from
reset_found = refl

exception_found : tag_from 0x7B ≡ None
unfolding tag_from
exception_found = refl

other_found : (b : ℕ) → (b < 0x70) ⊎ (0x7E < b) → tag_from b ≡ None
unfolding tag_from
other_found b (inl h) = grind (arith, nat_tests)
other_found b (inr h) = grind (arith, nat_tests)

-- ---- what it counts

abbrev with_depth : Tally → ℕ → Tally
with_depth tally depth = record { contents = tally.contents; earlier = tally.earlier; depth = depth; begun = tally.begun }

abbrev with_earlier : Tally → ℕ → Tally
with_earlier tally earlier = record { contents = tally.contents; earlier = earlier; depth = tally.depth; begun = tally.begun }

pub counts_value : (r : Seen) (tag depth : ℕ) (t : ValueTag) (before : Tally) → tag ≡ tag_byte (view_tag t) → depth ≡ max before.depth (length r.frames + 1)
    → with_depth before depth ≡ with_token r (tag_from tag) before
counts_value r tag depth t before e ed =
    let deep : depth ≡ max before.depth (suc (length r.frames)) = omega arith in
    ap (with_depth before) deep ∙ ap (λ found. with_token r found before) (sym (ap tag_from e ∙ tag_found (view_tag t)))

pub counts_reset : (r : Seen) (tag handles earlier : ℕ) (before : Tally) → tag ≡ 0x79 → handles ≡ length r.table.entries → earlier ≡ (before.earlier + handles) % 2 ^ 64
    → EpochFits r (tag_from tag) before → with_earlier before earlier ≡ with_token r (tag_from tag) before
counts_reset r tag handles earlier before e eh ea fits =
    let is : tag_from tag ≡ Some reset_tag_token = ap tag_from e ∙ reset_found in
    let few : before.earlier + length r.table.entries < 2 ^ 64 = subst (λ found. EpochFits r found before) is fits in
    let sum : earlier ≡ before.earlier + length r.table.entries = omega arith in
    ap (with_earlier before) sum ∙ ap (λ found. with_token r found before) (sym is)

pub counts_block : (r : Seen) (tag : ℕ) (long : Bool) (before : Tally) → tag ≡ block_byte long → before ≡ with_token r (tag_from tag) before
counts_block r tag long before e = ap (λ found. with_token r found before) (sym (ap tag_from e ∙ block_found long))

pub counts_end : (r : Seen) (tag : ℕ) (before : Tally) → tag ≡ 0x78 → before ≡ with_token r (tag_from tag) before
counts_end r tag before e = ap (λ found. with_token r found before) (sym (ap tag_from e ∙ end_found))

pub counts_exception : (r : Seen) (tag : ℕ) (before : Tally) → tag ≡ 0x7B → before ≡ with_token r (tag_from tag) before
counts_exception r tag before e = ap (λ found. with_token r found before) (sym (ap tag_from e ∙ exception_found))

pub counts_other : (r : Seen) (tag : ℕ) (before : Tally) → IsTagOf tag None → before ≡ with_token r (tag_from tag) before
counts_other r tag before h = ap (λ found. with_token r found before) (sym (other_found tag h))
