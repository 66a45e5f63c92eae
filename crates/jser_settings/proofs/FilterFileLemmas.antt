-- The lines of a filter's file.
use Rattle.std.proofs.Common.{◌≡◌, ◌≢◌, ℕ, suc, ◌+◌, ◌-◌, ◌<◌, ◌≤◌, ◌==◌, Bool, true, false, not, cond, if◌then◌else◌, List, [], ◌∷◌, ◌++◌, length, take, drop, slice_index, refl, sym, ap, subst, ◌∙◌, arith, append_assoc, inr}
use denote.Bor.{Bor}
use Rattle.std.specs.Prelude.{Option, Some, None, MatchOption, IfSome, ◌⊎◌}
use Rattle.std.specs.Str.Pattern.{FindsCharSuffix}
use Rattle.std.proofs.lemmas.Bool.{eqb-true}
use Rattle.std.proofs.lemmas.Str.Pattern.{strip_suffix_char}
use Rattle.std.specs.List.{position_or_len, before_first, after_first, onto_first}
use Rattle.std.proofs.lemmas.List.{length-drop}
use Rattle.std.proofs.lemmas.List.Splits.{slice_split_first, length-slice_split}
use Rattle.jser_filter.specs.Cuts.{split_at_each}
use Rattle.jser_prim.specs.ModifiedUtf8.{utf16_units}
use Rattle.jser_filter.specs.Filters.{AreSound, FilterView}
use Rattle.jser_filter.specs.Pieces.{pieces_of}
use Rattle.jser_settings.specs.FilterFiles.{filter_text, joined, uncommented, without_return}
use Rattle.jser_settings.specs.Settings.{IsTextOf, IsFilterOf, FilterIsFaulty, FilterFileIsFaulty}

-- ---- a line

return_dropped : (front : List ℕ) → without_return (front ++ 0x0D ∷ []) ≡ front
unfolding without_return
return_dropped [] = refl
return_dropped (c ∷ []) = refl
return_dropped (c ∷ d ∷ front) = ap (λ line. c ∷ line) (return_dropped (d ∷ front))

last_stays : (c : ℕ) (test : Bool) → (c == 0x0D) ≡ test → ((front : List ℕ) → c ∷ [] ≢ front ++ 0x0D ∷ []) → (if test then [] else c ∷ []) ≡ c ∷ []
last_stays c true is none = absurd (none [] (ap (λ k. k ∷ []) (eqb-true c 0x0D is)))
last_stays c false is none = refl

no_return : (line : List ℕ) → ((front : List ℕ) → line ≢ front ++ 0x0D ∷ []) → without_return line ≡ line
unfolding without_return
no_return [] none = refl
no_return (c ∷ []) none = last_stays c (c == 0x0D) refl none
no_return (c ∷ d ∷ line) none = ap (λ rest. c ∷ rest) (no_return (d ∷ line) (λ front is. none (c ∷ front) (ap (λ rest. c ∷ rest) is)))

-- what `strip_suffix` gives
dropped_is : (line front : List ℕ) → line ≡ front ++ 0x0D ∷ [] → front ≡ without_return line
dropped_is line front is = sym (ap without_return is ∙ return_dropped front)

kept_is : (line : List ℕ) → ((front : List ℕ) → line ≢ front ++ 0x0D ∷ []) → line ≡ without_return line
kept_is line none = sym (no_return line none)

-- a line without its return, in the words of `strip_suffix`

abbrev Drops : List ℕ → Option (Bor (List ℕ)) → Type 0
Drops line r = MatchOption r (FindsCharSuffix 0x0D line None) (λ x. (n : ℕ) × FindsCharSuffix 0x0D line (Some n) × (x.now ≡ take (length line - n) line) × (length x.now + n ≡ length line))

pub suffix_dropped : (line : List ℕ) (r : Option (Bor (List ℕ))) (front : Bor (List ℕ)) → r ≡ Some front → Drops line r → front.now ≡ without_return line
suffix_dropped line r front is h = dropped_is line front.now (strip_suffix_char 0x0D line (Some front) (subst (Drops line) is h) (omega arith))

pub suffix_kept : (line : List ℕ) (r : Option (Bor (List ℕ))) → r ≡ None → Drops line r → line ≡ without_return line
suffix_kept line r is h = kept_is line (strip_suffix_char 0x0D line None (subst (Drops line) is h) (omega arith))

-- what `starts_with` says
pub comment : (line : List ℕ) (test : Bool) → test ≡ (slice_index line 0 == 0x23) → test ≡ true → [] ≡ uncommented line
comment [] test is h = refl
comment (c ∷ line) test is h = sym (ap (λ b. if b then [] else c ∷ line) (sym is ∙ h))

pub no_comment : (line : List ℕ) (test : Bool) → test ≡ (slice_index line 0 == 0x23) → test ≡ false → line ≡ uncommented line
no_comment [] test is h = refl
no_comment (c ∷ line) test is h = sym (ap (λ b. if b then [] else c ∷ line) (sym is ∙ h))

-- ---- the lines of a text

none_step : (unit : ℕ) (units : List ℕ) (test : Bool) → (length units ≤ position_or_len (λ u. u == 0x0A) units → split_at_each 0x0A units ≡ units ∷ []) → suc (length units) ≤ cond (not test) (1 + position_or_len (λ u. u == 0x0A) units) 0 → cond test ([] ∷ split_at_each 0x0A units) (onto_first unit (split_at_each 0x0A units)) ≡ (unit ∷ units) ∷ []
none_step unit units true others none = absurd (omega arith)
none_step unit units false others none = ap (onto_first unit) (others (omega arith))

pub one_line : (units : List ℕ) → length units ≤ position_or_len (λ u. u == 0x0A) units → split_at_each 0x0A units ≡ units ∷ []
one_line [] none = refl
one_line (unit ∷ units) none = none_step unit units (unit == 0x0A) (one_line units) none

joined_line : (line : List ℕ) (lines : List (List ℕ)) → 0 < length lines → joined (line ∷ lines) ≡ uncommented (without_return line) ++ 0x3B ∷ joined lines
joined_line line [] some = absurd (omega arith)
joined_line line (next ∷ lines) some = refl

-- the last line
pub joined_last : (done rest text : List ℕ) → done ++ filter_text rest ≡ text → position_or_len (λ b. b == 0x0A) rest ≡ length rest
    → done ++ uncommented rest ≡ text
joined_last done rest text is none = ap (λ lines. done ++ joined lines) (sym (one_line rest (omega (arith, none)))) ∙ is

-- one line more
pub joined_more : (done rest line after text : List ℕ) → done ++ filter_text rest ≡ text
    → (line ≡ before_first (λ b. b == 0x0A) rest) × (after ≡ after_first (λ b. b == 0x0A) rest) × (position_or_len (λ b. b == 0x0A) rest < length rest)
    → ((done ++ uncommented (without_return line)) ++ 0x3B ∷ []) ++ filter_text after ≡ text
joined_more done rest line after text is cut =
    let parts : split_at_each 0x0A rest ≡ line ∷ split_at_each 0x0A after =
    slice_split_first (λ b. b == 0x0A) rest 0 cut.2 ∙ ap (λ l. l ∷ split_at_each 0x0A (after_first (λ b. b == 0x0A) rest)) (sym cut.0) ∙ ap (λ a. line ∷ split_at_each 0x0A a) (sym cut.1) in
    let some : 0 < length (split_at_each 0x0A after) = omega (arith, length-slice_split (λ b. b == 0x0A) after) in
    append_assoc (done ++ uncommented (without_return line)) (0x3B ∷ []) (filter_text after)
    ∙ append_assoc done (uncommented (without_return line)) (0x3B ∷ filter_text after)
    ∙ ap (λ t. done ++ t) (sym (ap joined parts ∙ joined_line line (split_at_each 0x0A after) some)) ∙ is

pub shorter_rest : (rest line after : List ℕ) → (line ≡ before_first (λ b. b == 0x0A) rest) × (after ≡ after_first (λ b. b == 0x0A) rest) × (position_or_len (λ b. b == 0x0A) rest < length rest)
    → length after < length rest
shorter_rest rest line after cut = omega (arith, ap length cut.1, length-drop (position_or_len (λ b. b == 0x0A) rest + 1) rest, cut.2)

-- ---- the filter of a text that a file holds

pub filter_of_text : (told : Option (List ℕ)) (text : List ℕ) (filter : FilterView) → IfSome told (λ bytes. IsTextOf bytes text) → AreSound (pieces_of (utf16_units text))
    → filter.pieces ≡ pieces_of (utf16_units text) → filter.modules ≡ [] → IfSome told (λ bytes. IsFilterOf bytes filter)
filter_of_text None text filter is sound pieces modules = tt
filter_of_text (Some bytes) text filter is sound pieces modules = record {
  size = is.size;
  text = is.utf8;
  lines = is.lines;
  sound = subst (λ t. AreSound (pieces_of (utf16_units t))) is.is sound;
  pieces = pieces ∙ ap (λ t. pieces_of (utf16_units t)) is.is;
  modules = modules;
}

pub text_is_faulty : (told : Option (List ℕ)) (text : List ℕ) (failed : Bool) (old new : Option (List ℕ)) → IfSome told (λ bytes. IsTextOf bytes text)
    → FilterIsFaulty (pieces_of (utf16_units text)) failed old new → IfSome told (λ bytes. FilterFileIsFaulty bytes failed old new)
text_is_faulty None text failed old new is faulty = tt
text_is_faulty (Some bytes) text failed old new is faulty = inr (subst (λ t. FilterIsFaulty (pieces_of (utf16_units t)) failed old new) is.is faulty)
