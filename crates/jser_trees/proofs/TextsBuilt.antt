-- The units of a text that is whole, or of bytes that are none.
use Rattle.std.proofs.Common.{◌≡◌, ◌∙◌, refl, sym, ap, ◌<◌, ℕ, Bool, true, false, ◌==◌, nat_lt, List, [], ◌∷◌, length, Some, None, eqb-true}
use Rattle.std.specs.List.{list_all}
use Rattle.jser_prim.specs.ModifiedUtf8.{modified_utf8, IsUnits}
use Rattle.jser_grammar.proofs.Bools.{and_left, and_right}
use Rattle.jser_reading.specs.TokensFromBytes.{units_in}
use Rattle.jser_trees.specs.Building.{is_same, units_from}
use Rattle.jser_trees.proofs.PartsBuilt.{units_found}

pub text_there : (bytes units : List ℕ) → IsUnits units → modified_utf8 units ≡ bytes → units_from bytes ≡ Some units
text_there bytes units u e = ap units_from (sym e) ∙ units_found units u

same_list : (xs ys : List ℕ) → is_same xs ys ≡ true → xs ≡ ys
same_list [] [] e = refl
same_list [] (y ∷ ys) e = absurd (cc)
same_list (x ∷ xs) [] e = absurd (cc)
same_list (x ∷ xs) (y ∷ ys) e =
    ap (λ z. z ∷ xs) (eqb-true x y (and_left (x == y) (is_same xs ys) e)) ∙ ap (λ zs. y ∷ zs) (same_list xs ys (and_right (x == y) (is_same xs ys) e))

pub text_nowhere : (bytes : List ℕ) → ((told : List ℕ) → IsUnits told → modified_utf8 told ≡ bytes → ⊥) → units_from bytes ≡ None
unfolding units_from
text_nowhere bytes n = go (list_all (λ unit. nat_lt unit 0x10000) units) (is_same (modified_utf8 units) bytes) refl refl
  where
    units : List ℕ
    units = units_in (length bytes) bytes

    go : (a b : Bool) → list_all (λ unit. nat_lt unit 0x10000) units ≡ a → is_same (modified_utf8 units) bytes ≡ b → units_from bytes ≡ None
    go false b ea eb = rw ea refl
    go true false ea eb = rw (ea, eb) refl
    go true true ea eb = absurd (n units ea (same_list (modified_utf8 units) bytes eb))
