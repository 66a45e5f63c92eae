-- Names that are counted, each under a number.
use Rattle.std.proofs.Common.{◌≡◌, ℕ, zero, suc, ◌+◌, ◌<◌, Bool, true, false, cond, not, nat_lt, List, [], ◌∷◌, ◌++◌, map, length, position, slice_get, bytes_eq, Option, Some, None, option_map, Result, Ok, Err, OnOk, refl, sym, ap, subst, ◌∙◌, arith, inl, inr}
use Rattle.std.proofs.lemmas.Bool.{lt-ltb, ltb-true, le-ltb, ltb-false}
use Rattle.std.proofs.lemmas.Cmp.{nat_list_eq_equiv}
use Rattle.std.proofs.lemmas.Slice.Eq.{bytes_eq-Decides}
use Rattle.std.specs.declared.alloc.AllocError.{AllocError}
use Rattle.std.specs.Global.{Global}
use Rattle.std.specs.List.{AllByRecursion, IsDistinct, position_or_len}
use Rattle.std.specs.Prelude.{Vec}
use Rattle.indexmap.specs.IndexMap.{insert_entry, set_value_at}
use Rattle.jser_prim.specs.ModifiedUtf8.{IsUnits, modified_utf8}
use Rattle.jser_prim.proofs.TextLemmas.{one_text}
use Rattle.jser_shown.specs.Counting.{NameTally, name_tally, tally_one}
use Rattle.jser_names.specs.declared.counts.Seen.{Seen}
use Rattle.jser_names.specs.Counts.{tally_of, IsSpelledBy, AreApart, AreSpelled, number_in}

abbrev Entry : Type 0
Entry = Vec ℕ Global × Seen

abbrev same_key : Vec ℕ Global → Vec ℕ Global → Bool
same_key a b = bytes_eq a.items b.items

same_name : (a b : List ℕ) → bytes_eq a b ≡ true → a ≡ b
same_name a b e = (bytes_eq-Decides a b).0 e

is_same : (a b : List ℕ) → a ≡ b → bytes_eq a b ≡ true
is_same a b e = (bytes_eq-Decides a b).1 e

-- ---- numbers

suc_none : (o : Option ℕ) → option_map suc o ≡ None → o ≡ None
suc_none None e = refl
suc_none (Some n) e = absurd (let no : Some (suc n) ≡ None = e in cc)

suc_some : (o : Option ℕ) (n : ℕ) → option_map suc o ≡ Some (suc n) → o ≡ Some n
suc_some None n e = absurd (let no : None ≡ Some (suc n) = e in cc)
suc_some (Some m) n e = cc

suc_zero : (o : Option ℕ) → option_map suc o ≡ Some 0 → ⊥
suc_zero None e = let no : None ≡ Some 0 = e in cc
suc_zero (Some m) e = let no : Some (suc m) ≡ Some 0 = e in cc

-- a name that is new comes last
pub counts_new : (name : List ℕ) (tallies : List NameTally) → number_in name tallies ≡ None → tally_one name tallies ≡ tallies ++ name_tally name 1 ∷ []
counts_new name [] e = refl
counts_new name (t ∷ ts) e = by (λ h. counts_new name ts h) (bytes_eq t.name name) e
  where
    by : (number_in name ts ≡ None → tally_one name ts ≡ ts ++ name_tally name 1 ∷ []) → (b : Bool) → cond b (Some 0) (option_map suc (number_in name ts)) ≡ None
        → cond b (name_tally t.name (suc t.times) ∷ ts) (t ∷ tally_one name ts) ≡ t ∷ ts ++ name_tally name 1 ∷ []
    by f true h = absurd (let no : Some 0 ≡ None = h in cc)
    by f false h = ap (λ us. t ∷ us) (f (suc_none (number_in name ts) h))

pub inside_of : (name : List ℕ) (tallies : List NameTally) (number : ℕ) → number_in name tallies ≡ Some number → number < length tallies
inside_of name [] number e = absurd (let no : None ≡ Some number = e in cc)
inside_of name (t ∷ ts) number e = by (λ n h. inside_of name ts n h) (bytes_eq t.name name) number e
  where
    by : ((n : ℕ) → number_in name ts ≡ Some n → n < length ts) → (b : Bool) (n : ℕ) → cond b (Some 0) (option_map suc (number_in name ts)) ≡ Some n → n < suc (length ts)
    by f true zero h = omega arith
    by f true (suc n) h = absurd (let no : Some 0 ≡ Some (suc n) = h in cc)
    by f false zero h = omega arith
    by f false (suc n) h = omega (arith, f n (suc_some (number_in name ts) n h))

-- ---- as the map has them

pub as_many : (entries : List Entry) (n : ℕ) → n ≡ length entries → n ≡ length (map tally_of entries)
as_many entries n is = is ∙ all entries
  where
    all : (es : List Entry) → length es ≡ length (map tally_of es)
    all [] = refl
    all (e ∷ es) = ap suc (all es)

next_below : (m n : ℕ) → nat_lt (suc m) (suc n) ≡ nat_lt m n
next_below m n = by (nat_lt m n) refl
  where
    by : (b : Bool) → nat_lt m n ≡ b → nat_lt (suc m) (suc n) ≡ b
    by true e = lt-ltb (suc m) (suc n) (omega (arith, ltb-true m n e))
    by false e = le-ltb (suc m) (suc n) (omega (arith, ltb-false m n e))

position_behind : {X : Type 0} (p : X → Bool) (x : X) (xs : List X) → position p (x ∷ xs) ≡ cond (p x) (Some 0) (option_map suc (position p xs))
position_behind p x xs = by (p x)
  where
    later : (b : Bool) (n : ℕ) → cond b (Some (suc n)) None ≡ option_map suc (cond b (Some n) None)
    later true n = refl
    later false n = refl

    by : (b : Bool) → cond (nat_lt (cond (not b) (1 + position_or_len p xs) 0) (suc (length xs))) (Some (cond (not b) (1 + position_or_len p xs) 0)) None
        ≡ cond b (Some 0) (option_map suc (position p xs))
    by true = ap (λ b. cond b (Some 0) None) (lt-ltb 0 (suc (length xs)) (omega arith))
    by false =
        let one : 1 + position_or_len p xs ≡ suc (position_or_len p xs) = omega arith in
        ap (λ n. cond (nat_lt n (suc (length xs))) (Some n) None) one
        ∙ ap (λ b. cond b (Some (suc (position_or_len p xs))) None) (next_below (position_or_len p xs) (length xs))
        ∙ later (nat_lt (position_or_len p xs) (length xs)) (position_or_len p xs)

-- the map has a name where its number is
pub numbered : (name : List ℕ) (entries : List Entry) → position (λ key. bytes_eq name key.items) (map (λ e. e.0) entries) ≡ number_in name (map tally_of entries)
numbered name [] = refl
numbered name (e ∷ es) =
    position_behind (λ key. bytes_eq name key.items) e.0 (map (λ x. x.0) es)
    ∙ ap (λ b. cond b (Some 0) (option_map suc (position (λ key. bytes_eq name key.items) (map (λ x. x.0) es)))) (nat_list_eq_equiv.symm name e.0.items)
    ∙ ap (λ o. cond (bytes_eq e.0.items name) (Some 0) (option_map suc o)) (numbered name es)

-- the name at a number is that of the number
apart_from : (x : Entry) (es : List Entry) (n : ℕ) (e : Entry) → AllByRecursion (λ y. same_key x.0 y ≡ false) (map (λ y. y.0) es) → slice_get es n ≡ Some e
    → same_key x.0 e.0 ≡ false
apart_from x [] n e all here = absurd (let no : None ≡ Some e = here in cc)
apart_from x (y ∷ ys) zero e all here = subst (λ z. same_key x.0 z.0 ≡ false) (let same : y ≡ e = cc in same) all.0
apart_from x (y ∷ ys) (suc n) e all here = apart_from x ys n e all.1 here

pub number_at : (entries : List Entry) (n : ℕ) (e : Entry) → AreApart entries → slice_get entries n ≡ Some e → number_in e.0.items (map tally_of entries) ≡ Some n
unfolding IsDistinct
number_at [] n e apart here = absurd (let no : None ≡ Some e = here in cc)
number_at (x ∷ xs) zero e apart here =
    let same : x ≡ e = cc in ap (λ b. cond b (Some 0) (option_map suc (number_in e.0.items (map tally_of xs)))) (is_same x.0.items e.0.items (ap (λ y. y.0.items) same))
number_at (x ∷ xs) (suc n) e apart here =
    ap (λ b. cond b (Some 0) (option_map suc (number_in e.0.items (map tally_of xs)))) (apart_from x xs n e apart.0 here)
    ∙ ap (option_map suc) (number_at xs n e apart.1 here)

-- ---- a name that is new

-- it is put last
pub added : (name : List ℕ) (key : Vec ℕ Global) (seen : Seen) (entries : List Entry) → number_in name (map tally_of entries) ≡ None → key.items ≡ name
    → insert_entry same_key entries key seen ≡ entries ++ (key, seen) ∷ []
added name key seen [] none is = refl
added name key seen (e ∷ es) none is =
    by (λ h. added name key seen es h is) (bytes_eq e.0.items name) (same_key key e.0)
    (nat_list_eq_equiv.symm key.items e.0.items ∙ ap (bytes_eq e.0.items) is) none
  where
    by : (number_in name (map tally_of es) ≡ None → insert_entry same_key es key seen ≡ es ++ (key, seen) ∷ []) → (b c : Bool) → c ≡ b
        → cond b (Some 0) (option_map suc (number_in name (map tally_of es))) ≡ None
        → cond c ((e.0, seen) ∷ es) (e ∷ insert_entry same_key es key seen) ≡ e ∷ es ++ (key, seen) ∷ []
    by f true c s h = absurd (let no : Some 0 ≡ None = h in cc)
    by f false true s h = absurd (let no : true ≡ false = s in cc)
    by f false false s h = ap (λ us. e ∷ us) (f (suc_none (number_in name (map tally_of es)) h))

tallies_last : (entries : List Entry) (e : Entry) → map tally_of (entries ++ e ∷ []) ≡ map tally_of entries ++ tally_of e ∷ []
tallies_last [] e = refl
tallies_last (x ∷ xs) e = ap (λ ts. tally_of x ∷ ts) (tallies_last xs e)

pub added_tally : (name : List ℕ) (key : Vec ℕ Global) (seen : Seen) (old new : List Entry) (tallies : List NameTally) → map tally_of old ≡ tallies
    → number_in name tallies ≡ None → key.items ≡ name → seen.times ≡ 1 → new ≡ insert_entry same_key old key seen → map tally_of new ≡ tallies ++ name_tally name 1 ∷ []
added_tally name key seen old new tallies same none is once put =
    ap (map tally_of) (put ∙ added name key seen old (ap (number_in name) same ∙ none) is)
    ∙ tallies_last old (key, seen)
    ∙ ap (λ n. map tally_of old ++ name_tally n seen.times ∷ []) is
    ∙ ap (λ t. map tally_of old ++ name_tally name t ∷ []) once
    ∙ ap (λ ts. ts ++ name_tally name 1 ∷ []) same

pub added_spelled : (name text : List ℕ) (key : Vec ℕ Global) (seen : Seen) (old new : List Entry) (tallies : List NameTally) → map tally_of old ≡ tallies
    → number_in name tallies ≡ None → key.items ≡ name → seen.spelled.items ≡ text → IsSpelledBy name text → new ≡ insert_entry same_key old key seen
    → AreSpelled old → AreSpelled new
added_spelled name text key seen old new tallies same none is bytes spells put are =
    subst AreSpelled (sym (put ∙ added name key seen old (ap (number_in name) same ∙ none) is)) (behind_all old are)
  where
    here : IsSpelledBy key.items seen.spelled.items
    here = subst (λ n. IsSpelledBy n seen.spelled.items) (sym is) (subst (λ b. IsSpelledBy name b) (sym bytes) spells)

    behind_all : (es : List Entry) → AreSpelled es → AreSpelled (es ++ (key, seen) ∷ [])
    behind_all [] a = (here, tt)
    behind_all (e ∷ es) a = (a.0, behind_all es a.1)

-- ---- a name once more

abbrev seen_of : List Entry → List Seen
seen_of entries = map (λ e. e.1) entries

pub raised : (name : List ℕ) (entries : List Entry) (tallies : List NameTally) (number : ℕ) (seen more : Seen) → map tally_of entries ≡ tallies
    → number_in name tallies ≡ Some number → slice_get (seen_of entries) number ≡ Some seen → more.times ≡ seen.times + 1
    → map tally_of (set_value_at entries number more) ≡ tally_one name tallies
raised name entries tallies number seen more same e here is =
    all entries number (ap (number_in name) same ∙ e) here ∙ ap (tally_one name) same
  where
    all : (es : List Entry) (n : ℕ) → number_in name (map tally_of es) ≡ Some n → slice_get (seen_of es) n ≡ Some seen
        → map tally_of (set_value_at es n more) ≡ tally_one name (map tally_of es)
    all [] n h at = absurd (let no : None ≡ Some n = h in cc)
    all (x ∷ xs) n h at = by (λ m g a. all xs m g a) (bytes_eq x.0.items name) n h at
      where
        by : ((m : ℕ) → number_in name (map tally_of xs) ≡ Some m → slice_get (seen_of xs) m ≡ Some seen
            → map tally_of (set_value_at xs m more) ≡ tally_one name (map tally_of xs)) → (b : Bool) (m : ℕ)
            → cond b (Some 0) (option_map suc (number_in name (map tally_of xs))) ≡ Some m → slice_get (seen_of (x ∷ xs)) m ≡ Some seen
            → map tally_of (set_value_at (x ∷ xs) m more)
            ≡ cond b (name_tally x.0.items (suc x.1.times) ∷ map tally_of xs) (tally_of x ∷ tally_one name (map tally_of xs))
        by f true zero g a =
            let own : x.1 ≡ seen = cc in
            ap (λ t. name_tally x.0.items t ∷ map tally_of xs) (let times : more.times ≡ suc seen.times = omega (arith, is) in times ∙ ap (λ s. suc s.times) (sym own))
        by f true (suc m) g a = absurd (let no : Some 0 ≡ Some (suc m) = g in cc)
        by f false zero g a = absurd (suc_zero (number_in name (map tally_of xs)) g)
        by f false (suc m) g a = ap (λ ts. tally_of x ∷ ts) (f m (suc_some (number_in name (map tally_of xs)) m g) a)

keys_stay : (entries : List Entry) (number : ℕ) (more : Seen) → map (λ e. e.0) (set_value_at entries number more) ≡ map (λ e. e.0) entries
keys_stay [] n more = refl
keys_stay (e ∷ es) zero more = refl
keys_stay (e ∷ es) (suc n) more = ap (λ ks. e.0 ∷ ks) (keys_stay es n more)

pub raised_kept : (entries : List Entry) (number : ℕ) (seen more : Seen) → AreApart entries × AreSpelled entries → slice_get (seen_of entries) number ≡ Some seen
    → more.spelled ≡ seen.spelled → AreApart (set_value_at entries number more) × AreSpelled (set_value_at entries number more)
raised_kept entries number seen more are here same = (
  subst (IsDistinct same_key) (sym (keys_stay entries number more)) are.0,
  all entries number are.1 here,
)
  where
    all : (es : List Entry) (n : ℕ) → AreSpelled es → slice_get (seen_of es) n ≡ Some seen → AreSpelled (set_value_at es n more)
    all [] n a h = tt
    all (e ∷ es) zero a h =
        let own : e.1 ≡ seen = cc in
        (subst (λ t. IsSpelledBy e.0.items t.items) (ap (λ s. s.spelled) own ∙ sym same) a.0, a.1)
    all (e ∷ es) (suc n) a h = (a.0, all es n a.1 h)

-- a value that is put back
pub put_back : (entries : List Entry) (number : ℕ) (seen : Seen) → slice_get (seen_of entries) number ≡ Some seen → set_value_at entries number seen ≡ entries
put_back [] n seen here = refl
put_back (e ∷ es) zero seen here = ap (λ s. (e.0, s) ∷ es) (let own : seen ≡ e.1 = cc in own)
put_back (e ∷ es) (suc n) seen here = ap (λ xs. e ∷ xs) (put_back es n seen here)

-- ---- by its bytes

spelled_at : (entries : List Entry) (number : ℕ) (e : Entry) → AreSpelled entries → slice_get entries number ≡ Some e → IsSpelledBy e.0.items e.1.spelled.items
spelled_at [] number e are here = absurd (let no : None ≡ Some e = here in cc)
spelled_at (x ∷ xs) zero e are here = subst (λ y. IsSpelledBy y.0.items y.1.spelled.items) (let same : x ≡ e = cc in same) are.0
spelled_at (x ∷ xs) (suc n) e are here = spelled_at xs n e are.1 here

pub named_at : (name : List ℕ) (entries : List Entry) (tallies : List NameTally) (number : ℕ) (e : Entry) → map tally_of entries ≡ tallies → AreApart entries
    → slice_get entries number ≡ Some e → bytes_eq e.0.items name ≡ true → number_in name tallies ≡ Some number
named_at name entries tallies number e same apart here is =
    sym (ap (number_in name) same) ∙ ap (λ n. number_in n (map tally_of entries)) (sym (same_name e.0.items name is)) ∙ number_at entries number e apart here

-- a name at a number is the one that its bytes spell
pub spelled_so : (text : List ℕ) (entries : List Entry) (tallies : List NameTally) (number : ℕ) (e : Entry) → map tally_of entries ≡ tallies
    → AreApart entries × AreSpelled entries → slice_get entries number ≡ Some e → (text ≡ [] → ⊥) → bytes_eq e.1.spelled.items text ≡ true
    → (name : List ℕ) → IsUnits name → modified_utf8 name ≡ text → number_in name tallies ≡ Some number
spelled_so text entries tallies number e same are here some is name units spells =
    let bytes : e.1.spelled.items ≡ text = same_name e.1.spelled.items text is in
    elim (spelled_at entries number e are.1 here) [
      | inl none ↦ absurd (some (sym bytes ∙ none))
      | inr known ↦
          named_at name entries tallies number e same are.0 here
          (is_same e.0.items name (one_text e.0.items name known.0 units (sym known.1 ∙ bytes ∙ sym spells)))
    ]

-- a name that was read from bytes, and is new, comes last
pub text_added : (units text : List ℕ) (old new : List NameTally) (X : Type 0) (result : Result X AllocError)
    → ((told : List ℕ) → IsUnits told → modified_utf8 told ≡ text → units ≡ told) → number_in units old ≡ None
    → OnOk result (new ≡ old ++ name_tally units 1 ∷ [])
    → OnOk result ((name : List ℕ) → IsUnits name → modified_utf8 name ≡ text → new ≡ tally_one name old)
text_added units text old new X (Ok x) decodes none is =
    λ name are spells. is ∙ sym (counts_new units old none) ∙ ap (λ n. tally_one n old) (decodes name are spells)
text_added units text old new X (Err e) decodes none is = tt
