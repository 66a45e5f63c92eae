-- The signs of a text, one after another.
use Rattle.std.proofs.Common.{◌≡◌, ◌≢◌, ℕ, ◌+◌, ◌<◌, ◌==◌, Bool, true, false, if◌then◌else◌, List, [], ◌∷◌, Option, Some, None, length, get_or, drop, refl, sym, ap, ◌∙◌, arith}
use Rattle.std.proofs.lemmas.List.{at_drop_more, at_drop_all}
use Rattle.std.proofs.lemmas.Bool.{ne_eqb, eq-eqb}
use Rattle.jser_settings.specs.Unseen.{first_unseen_behind, is_unseen, is_unseen_between, number_behind}

-- one sign more
turn : (text : List ℕ) (n sign number before : ℕ) (all : Option ℕ) → (n < length text) × (sign ≡ get_or text n sign) → first_unseen_behind number before (drop n text) ≡ all
    → (if is_unseen_between before sign then Some number else first_unseen_behind (number_behind number sign) sign (drop (n + 1) text)) ≡ all
turn text n sign number before all at is =
    sym (at_drop_more (first_unseen_behind number before) text n sign at.0
    ∙ ap (λ x. if is_unseen_between before x then Some number else first_unseen_behind (number_behind number x) x (drop (n + 1) text)) (sym at.1)) ∙ is

pub found_here : (text : List ℕ) (n sign number before : ℕ) (all : Option ℕ) → (n < length text) × (sign ≡ get_or text n sign) → first_unseen_behind number before (drop n text) ≡ all
    → is_unseen_between before sign ≡ true → Some number ≡ all
found_here text n sign number before all at is found =
    ap (λ b. if b then Some number else first_unseen_behind (number_behind number sign) sign (drop (n + 1) text)) (sym found) ∙ turn text n sign number before all at is

goes_on : (text : List ℕ) (n sign number before : ℕ) (all : Option ℕ) → (n < length text) × (sign ≡ get_or text n sign) → first_unseen_behind number before (drop n text) ≡ all
    → is_unseen_between before sign ≡ false → first_unseen_behind (number_behind number sign) sign (drop (n + 1) text) ≡ all
goes_on text n sign number before all at is none =
    ap (λ b. if b then Some number else first_unseen_behind (number_behind number sign) sign (drop (n + 1) text)) (sym none) ∙ turn text n sign number before all at is

pub goes_on_in_piece : (text : List ℕ) (n sign number before : ℕ) (all : Option ℕ) → (n < length text) × (sign ≡ get_or text n sign) → first_unseen_behind number before (drop n text) ≡ all
    → is_unseen_between before sign ≡ false → sign ≢ 0x3B → first_unseen_behind number sign (drop (n + 1) text) ≡ all
goes_on_in_piece text n sign number before all at is none inside =
    ap (λ b. first_unseen_behind (if b then number + 1 else number) sign (drop (n + 1) text)) (sym (ne_eqb sign 0x3B inside)) ∙ goes_on text n sign number before all at is none

pub goes_on_behind : (text : List ℕ) (n sign number before : ℕ) (all : Option ℕ) → (n < length text) × (sign ≡ get_or text n sign) → first_unseen_behind number before (drop n text) ≡ all
    → is_unseen_between before sign ≡ false → sign ≡ 0x3B → first_unseen_behind (number + 1) sign (drop (n + 1) text) ≡ all
goes_on_behind text n sign number before all at is none ends =
    ap (λ b. first_unseen_behind (if b then number + 1 else number) sign (drop (n + 1) text)) (sym (eq-eqb sign 0x3B ends)) ∙ goes_on text n sign number before all at is none

-- the end of the text
pub at_end : (text : List ℕ) (n number before : ℕ) (all : Option ℕ) → length text ≡ n → first_unseen_behind number before (drop n text) ≡ all
    → (if is_unseen before then Some number else None) ≡ all
at_end text n number before all whole is = sym (at_drop_all (first_unseen_behind number before) text n (omega (arith, whole))) ∙ is
