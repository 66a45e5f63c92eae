-- Parts of trees and their tests.
use Rattle.std.proofs.Common.{◌≡◌, ℕ, suc, ◌+◌, ◌<◌, Bool, true, false, ◌&&◌, nat_lt, List, [], ◌∷◌, length, map, get_or, refl, sym, ap, ◌∙◌, arith, Option, Some, None, is_some}
use Rattle.std.proofs.lemmas.Bool.Decides.{nat_tests}
use Rattle.jser_prim.specs.ModifiedUtf8.{modified_utf8}
use Rattle.jser_value.specs.declared.tree.Field.{Field}
use Rattle.jser_grammar.specs.Parts.{text_bound, block_bound}
use Rattle.jser_value.specs.PartTests.{all_below, obeys_text, obeys_block}
use Rattle.jser_value.specs.Rooms.{Leaves}
use Rattle.jser_grammar.specs.TableAfter.{codes_of}
use Rattle.jser_value.specs.View.{view_field}

-- the type codes of fields, one by one
pub codes_of_fields : (fields : List Field) → codes_of (map view_field fields) ≡ map (λ field. field.code) fields
codes_of_fields [] = refl
codes_of_fields (field ∷ fields) = ap (λ codes. field.code ∷ codes) (codes_of_fields fields)

pub length_codes_of : (fields : List Field) → length (codes_of (map view_field fields)) ≡ length fields
length_codes_of [] = refl
length_codes_of (field ∷ fields) = ap (λ n. suc n) (length_codes_of fields)

pub test_below : (n bound : ℕ) → n < bound → nat_lt n bound ≡ true
test_below n bound h = grind (arith, nat_tests)

pub test_not_below : (n m : ℕ) → m < n → nat_lt n (m + 1) ≡ false
test_not_below n m h = grind (arith, nat_tests)

-- numbers that are below a bound one by one
pub all_below_each : (bound : ℕ) (numbers : List ℕ) → ((k : ℕ) → k < length numbers → get_or numbers k 0 < bound) → all_below bound numbers ≡ true
all_below_each bound [] each = refl
all_below_each bound (n ∷ numbers) each =
    let first : n < bound = each 0 (omega arith) in
    let others = all_below_each bound numbers (λ k h. each (suc k) (omega arith)) in
    ap (λ b. b && all_below bound numbers) (test_below n bound first) ∙ others

pub text_test : (long : Bool) (units : List ℕ) (most : ℕ) (left : Option ℕ) → all_below 0x10000 units ≡ true → most + 1 ≡ text_bound long
    → Leaves most (length (modified_utf8 units)) left → is_some left ≡ obeys_text long units
text_test long units most (Some x) all bound h =
    sym (ap (λ b. b && nat_lt (length (modified_utf8 units)) (text_bound long)) all ∙ test_below (length (modified_utf8 units)) (text_bound long) (omega arith))
text_test long units most None all bound h =
    sym (ap (λ b. b && nat_lt (length (modified_utf8 units)) (text_bound long)) all ∙ ap (nat_lt (length (modified_utf8 units))) (sym bound) ∙ test_not_below (length (modified_utf8 units)) most h)

pub block_test : (long : Bool) (bytes : List ℕ) (bound : ℕ) → all_below 0x100 bytes ≡ true → bound ≡ block_bound long
    → nat_lt (length bytes) bound ≡ obeys_block long bytes
block_test long bytes bound all e = ap (nat_lt (length bytes)) e ∙ ap (λ b. b && nat_lt (length bytes) (block_bound long)) (sym all)
