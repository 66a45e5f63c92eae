-- Maps from names: what an insert leaves at any name.
use Rattle.std.proofs.Common.{◌≡◌, ℕ, Bool, true, false, cond, length, List, Option, Some, None, sym, ap, subst, ◌∙◌, ⊎_elim}
use Rattle.std.specs.declared.vec.Vec.{Vec}
use Rattle.std.specs.HashMap as hash
use Rattle.std.specs.HashMap.{HashMap}
use Rattle.std.specs.Map.{KeepsOthers, IsKeyTest, AreApart, lookup}
use Rattle.std.specs.Str.{bytes_eq}
use Rattle.std.proofs.lemmas.List.{nil_from_length}
use Rattle.std.proofs.lemmas.Bool.{cases_Bool, cond-true, cond-false}
use Rattle.std.proofs.lemmas.Cmp.{nat_list_eq_equiv}
use Rattle.std.proofs.lemmas.Slice.Eq.{bytes_eq-Decides}
use Rattle.jser_filter.specs.Places.{or_else}

keeps : {K X : Type 0} (eq : K → K → Bool) (test : K → Bool) (old new : List (K × X)) → KeepsOthers eq test old new → (other : K → Bool) → IsKeyTest eq other → AreApart test other → lookup other new ≡ lookup other old
unfolding KeepsOthers
keeps eq test old new h = h

apart : (bs cs ks : List ℕ) → bytes_eq bs cs ≡ false → bytes_eq bs ks ≡ true → bytes_eq cs ks ≡ false
apart bs cs ks n y = nat_list_eq_equiv.symm cs ks ∙ sym (nat_list_eq_equiv.congr bs ks cs y) ∙ n

-- the value at the name
abbrev at_name : {Z S : Type 0} → HashMap (Vec ℕ Z) ℕ S → List ℕ → Option ℕ
at_name m q = hash.get_by (λ key. bytes_eq q key.items) m

insert_leaves : {Z S : Type 0} (m n : HashMap (Vec ℕ Z) ℕ S) (key : Vec ℕ Z) (place : ℕ) → hash.UpdatesBy (λ x y. bytes_eq x.items y.items) (λ k. bytes_eq key.items k.items) m n (Some place)
    → (q : List ℕ) → at_name n q ≡ cond (bytes_eq key.items q) (Some place) (at_name m q)
insert_leaves m n key place h q =
    ⊎_elim
    (λ y. subst (λ l. at_name n l ≡ Some place) ((bytes_eq-Decides key.items q).0 y) h.1 ∙ sym (cond-true (bytes_eq key.items q) (Some place) (at_name m q) y))
    (λ other. keeps _ _ _ _ h.3 (λ k. bytes_eq q k.items) (λ x y. nat_list_eq_equiv.congr q x.items y.items) (λ k. apart key.items q k.items other) ∙ sym (cond-false (bytes_eq key.items q) (Some place) (at_name m q) other))
    (cases_Bool (bytes_eq key.items q))

pub put_first : {Z S : Type 0} (m n : HashMap (Vec ℕ Z) ℕ S) (key : Vec ℕ Z) (name : List ℕ) (place : ℕ) → hash.UpdatesBy (λ x y. bytes_eq x.items y.items) (λ k. bytes_eq key.items k.items) m n (Some place) → key.items ≡ name → None ≡ at_name m name
    → (q : List ℕ) → at_name n q ≡ cond (bytes_eq name q) (or_else (at_name m q) (Some place)) (at_name m q)
put_first m n key name place h is absent q =
    insert_leaves m n key place h q ∙ ap (λ bs. cond (bytes_eq bs q) (Some place) (at_name m q)) is
    ∙ ⊎_elim
    (λ y. let none : at_name m q ≡ None = ap (at_name m) (sym ((bytes_eq-Decides name q).0 y)) ∙ sym absent in
    ap (λ o. cond (bytes_eq name q) (or_else o (Some place)) (at_name m q)) (sym none))
    (λ other. cond-false (bytes_eq name q) (Some place) (at_name m q) other ∙ sym (cond-false (bytes_eq name q) (or_else (at_name m q) (Some place)) (at_name m q) other))
    (cases_Bool (bytes_eq name q))

pub no_place : {K Z S : Type 0} (m : HashMap K Z S) (test : K → Bool) → length m.entries ≡ 0 → None ≡ hash.get_by test m
no_place m test none = sym (ap (lookup test) (nil_from_length m.entries none))
