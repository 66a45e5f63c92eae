-- Packages: the pattern `P.*`, and the names that are in a package.
use Rattle.std.proofs.Common.{◌≡◌, ℕ, ◌+◌, ◌-◌, Bool, true, false, ◌&&◌, cond, nat_eq, codes, List, [], ◌∷◌, ◌++◌, length, take, drop, Some, refl, ap, sym, ◌∙◌, arith, append_assoc, length-append}
use Rattle.std.specs.List.{ends_with}
use Rattle.std.specs.Str.{bytes_eq}
use Rattle.std.proofs.lemmas.List.{take_at, take-append-drop}
use Rattle.std.proofs.lemmas.Slice.Eq.{bytes_eq-Decides}
use Rattle.std.proofs.lemmas.Cmp.{nat_eq_equiv}
use Rattle.jser_filter.specs.declared.places.Places.{Places}
use Rattle.jser_filter.specs.Places.{place_of, or_else, PutsFirst}
use Rattle.jser_filter.specs.Patterns.{in_package, without_last}

-- the `P` of `P.*`, and its `.`

two_last : (front : List ℕ) (one two : ℕ) → without_last 2 (front ++ one ∷ two ∷ []) ++ one ∷ [] ≡ without_last 1 (front ++ one ∷ two ∷ [])
two_last front one two =
    let longer : length (front ++ one ∷ two ∷ []) ≡ length front + 2 = length-append front (one ∷ two ∷ []) in
    let short : length (front ++ one ∷ []) ≡ length front + 1 = length-append front (one ∷ []) in
    ap (λ f. f ++ one ∷ []) (take_at front (one ∷ two ∷ []) (length (front ++ one ∷ two ∷ []) - 2) (omega (arith, longer)))
    ∙ sym (take_at (front ++ one ∷ []) (two ∷ []) (length (front ++ one ∷ two ∷ []) - 1) (omega (arith, longer, short)))
    ∙ ap (take (length (front ++ one ∷ two ∷ []) - 1)) (append_assoc front (one ∷ []) (two ∷ []))

pub package_read : (units package_name : List ℕ) → ends_with nat_eq units (codes ".*") ≡ true → package_name ≡ without_last 2 units → in_package (package_name ++ 0x2E ∷ []) ≡ in_package (without_last 1 units)
package_read units package_name ends is =
    let n : ℕ = length units - 2 in
    let back : 0x2E ∷ 0x2A ∷ [] ≡ drop n units = (bytes_eq-Decides (0x2E ∷ 0x2A ∷ []) (drop n units)).0 ends in
    let whole : take n units ++ 0x2E ∷ 0x2A ∷ [] ≡ units = ap (λ b. take n units ++ b) back ∙ take-append-drop n units in
    ap (λ p. in_package (p ++ 0x2E ∷ [])) is
    ∙ ap (λ us. in_package (without_last 2 us ++ 0x2E ∷ [])) (sym whole)
    ∙ ap in_package (two_last (take n units) 0x2E 0x2A)
    ∙ ap (λ us. in_package (without_last 1 us)) whole

-- a `.` behind both changes nothing

never_ends : (b : Bool) (units : List ℕ) (unit : ℕ) → (b && bytes_eq (units ++ unit ∷ []) []) ≡ false
never_ends true [] unit = refl
never_ends true (first ∷ units) unit = refl
never_ends false units unit = refl

never_begins : (b : Bool) (units : List ℕ) (unit : ℕ) → (b && bytes_eq [] (units ++ unit ∷ [])) ≡ false
never_begins true [] unit = refl
never_begins true (first ∷ units) unit = refl
never_begins false units unit = refl

pub dotted : (kept given : List ℕ) → bytes_eq kept given ≡ bytes_eq (given ++ 0x2E ∷ []) (kept ++ 0x2E ∷ [])
dotted [] [] = refl
dotted [] (unit ∷ given) = sym (never_ends (nat_eq unit 0x2E) given 0x2E)
dotted (unit ∷ kept) [] = sym (never_begins (nat_eq 0x2E unit) kept 0x2E)
dotted (unit ∷ kept) (other ∷ given) = ap (λ b. nat_eq unit other && b) (dotted kept given) ∙ ap (λ b. b && bytes_eq (given ++ 0x2E ∷ []) (kept ++ 0x2E ∷ [])) (nat_eq_equiv.symm unit other)

pub puts_dotted : (old new : Places) (kept : List ℕ) (place : ℕ) → PutsFirst old new kept place → (name : List ℕ)
    → place_of new name ≡ cond (bytes_eq (name ++ 0x2E ∷ []) (kept ++ 0x2E ∷ [])) (or_else (place_of old name) (Some place)) (place_of old name)
puts_dotted old new kept place puts name =
    puts name ∙ ap (λ b. cond b (or_else (place_of old name) (Some place)) (place_of old name)) (dotted kept name)
