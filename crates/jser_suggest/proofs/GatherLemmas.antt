-- Element names are gathered one by one.
use Rattle.std.specs.Prelude.{IfErr, OnOk, string_bytes, String}
use Rattle.std.specs.BTreeSet.{BTreeSet, keys, insert_key}
use Rattle.std.specs.Ordering.{is_eq, match_ordering}
use Rattle.std.specs.String.{IsUtf16Of, string_cmp}
use Rattle.std.proofs.Common.{◌≡◌, ◌⊎◌, ◌==◌, ℕ, zero, suc, ◌+◌, ◌<◌, ◌≤◌, Bool, true, false, if◌then◌else◌, List, [], ◌∷◌, ◌++◌, length, take, map, slice_get, bytes_eq, Ordering, Less, Equal, Greater, Option, Some, None, Result, Ok, Err, inl, inr, refl, sym, ap, subst, ◌∙◌, arith}
use Rattle.std.specs.List.{flat_map}
use Rattle.std.specs.Char.Escape.{encode_utf16}
use Rattle.std.proofs.lemmas.Str.{IsUtf8-string_bytes, chars_from_encodes}
use Rattle.std.proofs.lemmas.Slice.Eq.{bytes_eq-Decides}
use Rattle.std.proofs.lemmas.Map.Text.{is_eq-slice_cmp}
use Rattle.std.proofs.lemmas.List.{take_all}
use Rattle.jser_prim.specs.ModifiedUtf8.{utf16_units}
use Rattle.jser_table.specs.Names.{ElementOf, element, primitive_element, malformed_element, element_of, ends_in}
use Rattle.jser_reading.specs.GateLimits.{Each}
use Rattle.jser_suggest.specs.Suggested.{is_plain, is_writable}
use Rattle.jser_suggest.specs.Samples.{Some_of, Among, ElementAmong}
use Rattle.jser_names.specs.Finds.{Finds}
use Rattle.jser_names.specs.Counts.{IsCount, names_counted}
use Rattle.jser_names.specs.declared.NameCount.{NameCount}
use Rattle.jser_grammar.specs.CheckedNames.{checked_names}
use Rattle.jser_shown.specs.Counting.{NameTally, name_tally, tally_one, tally_all}
use Rattle.jser_names.specs.declared.Found.{Found}
use Rattle.jser_reader.specs.declared.Stop.TheVariants as stop
use Rattle.jser_suggest.specs.declared.samples.SampleFault.{SampleFault}
use Rattle.jser_suggest.specs.declared.samples.SampleFault.TheVariants as fault
use Rattle.jser_suggest.specs.Answers.{IsNoSample, IsNoSampleFound}
use Rattle.jser_suggest.specs.Gathering.{name_list, InsertsName, AddsName, IsElement, GainsAll, IsUnwritable, IfUnwritable}

-- ---- the last unit

ends_pushed : (c last : ℕ) (rest : List ℕ) → ends_in c (rest ++ last ∷ []) ≡ (last == c)
ends_pushed c last [] = refl
ends_pushed c last (x ∷ []) = refl
ends_pushed c last (x ∷ y ∷ rest) = ends_pushed c last (y ∷ rest)

pub ends_last : (c last : ℕ) (name rest : List ℕ) → name ≡ rest ++ last ∷ [] → (last == c) ≡ ends_in c name
ends_last c last name rest e = sym (ends_pushed c last rest) ∙ ap (ends_in c) (sym e)

-- ---- a text that is inserted

abbrev told : {Y : Type 0} → String Y → List ℕ
told text = utf16_units (string_bytes text)

same_text : {Y : Type 0} (k x : String Y) → string_cmp k x ≡ Equal → told k ≡ told x
same_text k x e =
    let is : bytes_eq (string_bytes k) (string_bytes x) ≡ true = sym (is_eq-slice_cmp (string_bytes k) (string_bytes x)) ∙ ap is_eq e in
    ap utf16_units ((bytes_eq-Decides (string_bytes k) (string_bytes x)).0 is)

abbrev after : {Y : Type 0} → String Y → String Y → List (String Y) → List (String Y) → Ordering → List (String Y)
after k x xs more o = match_ordering o (k ∷ x ∷ xs) (x ∷ xs) (x ∷ more)

there_by : {Y : Type 0} (k x : String Y) (xs more : List (String Y)) → Among (map told more) (told k) → (o : Ordering) → string_cmp k x ≡ o → Among (map told (after k x xs more o)) (told k)
there_by k x xs more later Less e = inl refl
there_by k x xs more later Equal e = inl (same_text k x e)
there_by k x xs more later Greater e = inr later

there : {Y : Type 0} (k : String Y) (xs : List (String Y)) → Among (map told (insert_key string_cmp xs k)) (told k)
there k [] = inl refl
there k (x ∷ xs) = there_by k x xs (insert_key string_cmp xs k) (there k xs) (string_cmp k x) refl

keeps_by : {Y : Type 0} (k x : String Y) (xs more : List (String Y)) (name : List ℕ) → (Among (map told xs) name → Among (map told more) name) → (o : Ordering)
    → Among (map told (x ∷ xs)) name → Among (map told (after k x xs more o)) name
keeps_by k x xs more name later Less a = inr a
keeps_by k x xs more name later Equal a = a
keeps_by k x xs more name later Greater (inl e) = inl e
keeps_by k x xs more name later Greater (inr a) = inr (later a)

keeps : {Y : Type 0} (k : String Y) (xs : List (String Y)) (name : List ℕ) → Among (map told xs) name → Among (map told (insert_key string_cmp xs k)) name
keeps k [] name a = absurd a
keeps k (x ∷ xs) name a = keeps_by k x xs (insert_key string_cmp xs k) name (keeps k xs name) (string_cmp k x) a

gains_by : {Y : Type 0} (k x : String Y) (xs more : List (String Y)) (name : List ℕ) → (Among (map told more) name → Among (map told xs) name ⊎ (name ≡ told k)) → (o : Ordering)
    → Among (map told (after k x xs more o)) name → Among (map told (x ∷ xs)) name ⊎ (name ≡ told k)
gains_by k x xs more name later Less (inl e) = inr e
gains_by k x xs more name later Less (inr a) = inl a
gains_by k x xs more name later Equal a = inl a
gains_by k x xs more name later Greater (inl e) = inl (inl e)
gains_by k x xs more name later Greater (inr a) = elim (later a) [ inl b ↦ inl (inr b) | inr e ↦ inr e ]

gains : {Y : Type 0} (k : String Y) (xs : List (String Y)) (name : List ℕ) → Among (map told (insert_key string_cmp xs k)) name → Among (map told xs) name ⊎ (name ≡ told k)
gains k [] name (inl e) = inr e
gains k [] name (inr a) = absurd a
gains k (x ∷ xs) name a = gains_by k x xs (insert_key string_cmp xs k) name (gains k xs name) (string_cmp k x) a

pub inserts : {Y : Type 0} (k : String Y) (old new : BTreeSet (String Y)) → keys new ≡ insert_key string_cmp (keys old) k → InsertsName (told k) (name_list old) (name_list new)
inserts k old new e =
    subst (λ ks. InsertsName (told k) (name_list old) (map told ks)) (sym e)
    (record { there = there k (keys old); keeps = keeps k (keys old); gains = gains k (keys old) })

-- of the name that the text is
units_of : {Y : Type 0} (name : List ℕ) (text : String Y) → IsUtf16Of name (string_bytes text) → utf16_units (string_bytes text) ≡ name
units_of name text u =
    ap (λ cs. flat_map encode_utf16 cs) (sym (chars_from_encodes u.0 (string_bytes text) (IsUtf8-string_bytes text) (sym u.2))) ∙ sym u.1

pub adds_name : {X Y : Type 0} (name : List ℕ) (text : String Y) (old new : List (List ℕ)) (result : Result (Unit {0}) X) → IsUtf16Of name (string_bytes text) → is_writable name ≡ true → is_plain name ≡ true
    → OnOk result (InsertsName (utf16_units (string_bytes text)) old new) → OnOk result (AddsName name old new)
adds_name name text old new (Ok x) u w l i = ((w, l), subst (λ n. InsertsName n old new) (units_of name text u) i)
adds_name name text old new (Err why) u w l i = tt

-- ---- one checked name, and several

pub gains_one : {X : Type 0} (name class : List ℕ) (old new : List (List ℕ)) (result : Result (Unit {0}) X) → element class ≡ element_of name → OnOk result (AddsName class old new)
    → OnOk result (GainsAll (name ∷ []) old new)
gains_one name class old new (Ok x) e a = record {
  there = (subst (ElementAmong new) e a.1.there, tt);
  keeps = a.1.keeps;
  gains = λ other among. elim (a.1.gains other among) [ inl was ↦ inl was | inr same ↦ inr (inl (sym e ∙ ap element (sym same)), (ap is_writable same ∙ a.0.0, ap is_plain same ∙ a.0.1)) ];
}
gains_one name class old new (Err why) e a = tt

each_more : {A : Type 0} (P Q : A → Type 0) (xs ys : List A) → ((x : A) → P x → Q x) → Each P xs → Each Q ys → Each Q (xs ++ ys)
each_more P Q [] ys f h k = k
each_more P Q (x ∷ xs) ys f h k = (f x h.0, each_more P Q xs ys f h.1 k)

pub element_kept : (old new : List (List ℕ)) → ((other : List ℕ) → Among old other → Among new other) → (e : ElementOf) → ElementAmong old e → ElementAmong new e
element_kept old new f (element name) a = f name a
element_kept old new f primitive_element a = tt
element_kept old new f malformed_element a = a

some_first : {A : Type 0} (P : A → Type 0) (xs ys : List A) → Some_of P xs → Some_of P (xs ++ ys)
some_first P [] ys s = absurd s
some_first P (x ∷ xs) ys (inl p) = inl p
some_first P (x ∷ xs) ys (inr s) = inr (some_first P xs ys s)

some_last : {A : Type 0} (P : A → Type 0) (xs ys : List A) → Some_of P ys → Some_of P (xs ++ ys)
some_last P [] ys s = s
some_last P (x ∷ xs) ys s = inr (some_last P xs ys s)

pub gains_both : (xs ys : List (List ℕ)) (old mid new : List (List ℕ)) → GainsAll xs old mid → GainsAll ys mid new → GainsAll (xs ++ ys) old new
gains_both xs ys old mid new g h = record {
  there = each_more (λ name. ElementAmong mid (element_of name)) (λ name. ElementAmong new (element_of name)) xs ys (λ name a. element_kept mid new h.keeps (element_of name) a) g.there h.there;
  keeps = λ other among. h.keeps other (g.keeps other among);
  gains =
      λ other among.
      elim (h.gains other among) [
        | inl was ↦ elim (g.gains other was) [ inl before ↦ inl before | inr new ↦ inr (some_first (IsElement other) xs ys new.0, new.1) ]
        | inr new ↦ inr (some_last (IsElement other) xs ys new.0, new.1)
      ];
}

-- ---- the next of a list

pub take_next : {A : Type 0} (xs : List A) (n : ℕ) (x : A) → slice_get xs n ≡ Some x → take (n + 1) xs ≡ take n xs ++ x ∷ []
take_next [] n x e = absurd (cc)
take_next (y ∷ xs) zero x e = ap (λ o. some_list o) e
  where
    some_list : {A : Type 0} → Option A → List A
    some_list None = []
    some_list (Some a) = a ∷ []
take_next (y ∷ xs) (suc n) x e =
    let next : suc n + 1 ≡ suc (n + 1) = omega arith in
    ap (λ k. take k (y ∷ xs)) next ∙ ap (λ zs. y ∷ zs) (take_next xs n x e)

-- ---- names that were counted

counted_at : (tallies : List NameTally) (number : ℕ) (lent : NameCount) → IsCount (slice_get tallies number) (Some lent)
    → slice_get (names_counted tallies) number ≡ Some lent.name.now
counted_at [] number lent is = absurd is
counted_at (t ∷ ts) zero lent is = ap (λ x. Some x.name) (sym is)
counted_at (t ∷ ts) (suc number) lent is = counted_at ts number lent is

pub count_is_there : (tallies : List NameTally) (number : ℕ) → number < length tallies → IsCount (slice_get tallies number) None → ⊥
count_is_there [] number inside none = absurd (omega (arith, inside))
count_is_there (t ∷ ts) zero inside none = none
count_is_there (t ∷ ts) (suc number) inside none = count_is_there ts number (omega (arith, inside)) none

names_length : (tallies : List NameTally) → length (names_counted tallies) ≡ length tallies
names_length [] = refl
names_length (t ∷ ts) = ap suc (names_length ts)

-- each that was counted, and each that is
each_one : (P : List ℕ → Type 0) (name : List ℕ) (tallies : List NameTally) → Each P (names_counted (tally_one name tallies)) → Each P (names_counted tallies) × P name
each_one P name [] e = (tt, e.0)
each_one P name (t ∷ ts) e = by (λ h. each_one P name ts h) (bytes_eq t.name name) refl e
  where
    by : (Each P (names_counted (tally_one name ts)) → Each P (names_counted ts) × P name) → (b : Bool) → bytes_eq t.name name ≡ b
        → Each P (names_counted (if b then name_tally t.name (suc t.times) ∷ ts else t ∷ tally_one name ts)) → Each P (names_counted (t ∷ ts)) × P name
    by f true is e = (e, subst P ((bytes_eq-Decides t.name name).0 is) e.0)
    by f false is e = ((e.0, (f e.1).0), (f e.1).1)

each_counted : (P : List ℕ → Type 0) (tallies : List NameTally) (names : List (List ℕ)) → Each P (names_counted (tally_all tallies names))
    → Each P (names_counted tallies) × Each P names
each_counted P tallies [] e = (e, tt)
each_counted P tallies (n ∷ ns) e =
    let later = each_counted P (tally_one n tallies) ns e in
    let here = each_one P n tallies later.0 in (here.0, (here.1, later.1))

some_one : (P : List ℕ → Type 0) (name : List ℕ) (tallies : List NameTally) → Some_of P (names_counted (tally_one name tallies)) → Some_of P (names_counted tallies) ⊎ P name
some_one P name [] (inl p) = inr p
some_one P name [] (inr s) = absurd s
some_one P name (t ∷ ts) s = by (λ h. some_one P name ts h) (bytes_eq t.name name) s
  where
    by : (Some_of P (names_counted (tally_one name ts)) → Some_of P (names_counted ts) ⊎ P name) → (b : Bool)
        → Some_of P (names_counted (if b then name_tally t.name (suc t.times) ∷ ts else t ∷ tally_one name ts)) → Some_of P (names_counted (t ∷ ts)) ⊎ P name
    by f true s = inl s
    by f false (inl p) = inl (inl p)
    by f false (inr s) = elim (f s) [ inl h ↦ inl (inr h) | inr p ↦ inr p ]

some_counted : (P : List ℕ → Type 0) (tallies : List NameTally) (names : List (List ℕ)) → Some_of P (names_counted (tally_all tallies names))
    → Some_of P (names_counted tallies) ⊎ Some_of P names
some_counted P tallies [] s = inl s
some_counted P tallies (n ∷ ns) s =
    elim (some_counted P (tally_one n tallies) ns s) [
      | inl was ↦ elim (some_one P n tallies was) [ inl h ↦ inl h | inr p ↦ inr (inl p) ]
      | inr later ↦ inr (inr later)
    ]

some_of_all : (P : List ℕ → Type 0) (names : List (List ℕ)) → Some_of P (names_counted (tally_all [] names)) → Some_of P names
some_of_all P names s = elim (some_counted P [] names s) [ inl none ↦ absurd none | inr some ↦ some ]

-- the names of a stream that were counted are its names
pub gains_counted : (names : List (List ℕ)) (old new : List (List ℕ)) → GainsAll (names_counted (tally_all [] names)) old new → GainsAll names old new
gains_counted names old new g = record {
  there = (each_counted (λ name. ElementAmong new (element_of name)) [] names g.there).1;
  keeps = g.keeps;
  gains = λ other among. elim (g.gains other among) [ inl was ↦ inl was | inr own ↦ inr (some_of_all (IsElement other) names own.0, own.1) ];
}

-- one checked name more
pub gains_next : (tallies : List NameTally) (number : ℕ) (old mid new : List (List ℕ)) (lent : NameCount) (name : List ℕ) → IsCount (slice_get tallies number) (Some lent)
    → name ≡ lent.name.now → GainsAll (take number (names_counted tallies)) old mid → GainsAll (name ∷ []) mid new
    → GainsAll (take (number + 1) (names_counted tallies)) old new
gains_next tallies number old mid new lent name is same g h =
    let at : slice_get (names_counted tallies) number ≡ Some name = counted_at tallies number lent is ∙ ap Some (sym same) in
    subst (λ ns. GainsAll ns old new) (sym (take_next (names_counted tallies) number name at))
    (gains_both (take number (names_counted tallies)) (name ∷ []) old mid new g h)

-- none is left
pub gained_all : (tallies : List NameTally) (number : ℕ) (old new : List (List ℕ)) → length tallies ≤ number → GainsAll (take number (names_counted tallies)) old new
    → GainsAll (names_counted tallies) old new
gained_all tallies number old new past g =
    subst (λ ns. GainsAll ns old new) (take_all number (names_counted tallies) (omega (arith, past, names_length tallies))) g

some_at : {A : Type 0} (P : A → Type 0) (xs : List A) (n : ℕ) (x : A) → slice_get xs n ≡ Some x → P x → Some_of P xs
some_at P [] n x e p = absurd (cc)
some_at P (y ∷ xs) zero x e p = inl (subst P (same y x e) p)
  where
    same : {A : Type 0} (a b : A) → Some a ≡ Some b → b ≡ a
    same a b e = cc
some_at P (y ∷ xs) (suc n) x e p = inr (some_at P xs n x e p)

unwritable_of : (names : List (List ℕ)) (number : ℕ) (name : List ℕ) (why : SampleFault) → slice_get names number ≡ Some name → IfUnwritable (name ∷ []) why → IfUnwritable names why
unwritable_of names number name (fault.Stop stop.OutOfMemory) e u = tt
unwritable_of names number name (fault.Stop (stop.Refused refusal)) e u = u
unwritable_of names number name (fault.Stop stop.Spent) e u = u
unwritable_of names number name (fault.Unwritable units) e (inl u) = some_at (IsUnwritable units.items) names number name e u
unwritable_of names number name (fault.Unwritable units) e (inr u) = absurd u

pub unwritable_at : (tallies : List NameTally) (number : ℕ) (lent : NameCount) (name : List ℕ) (why : SampleFault) → IsCount (slice_get tallies number) (Some lent)
    → name ≡ lent.name.now → IfUnwritable (name ∷ []) why → IfUnwritable (names_counted tallies) why
unwritable_at tallies number lent name why is same u =
    unwritable_of (names_counted tallies) number name why (counted_at tallies number lent is ∙ ap Some (sym same)) u

-- ---- what is no sample

-- a name of a stream that cannot be written
pub no_sample : (found : Found) (why : SampleFault) → IfUnwritable (names_counted found.names) why → IsNoSampleFound found why
no_sample found (fault.Stop (stop.Refused refusal)) u = λ bytes h. absurd u
no_sample found (fault.Stop stop.OutOfMemory) u = λ bytes h. tt
no_sample found (fault.Stop stop.Spent) u = λ bytes h. u
no_sample found (fault.Unwritable units) u = λ bytes h.
    (h.0, h.1.passes, some_of_all (IsUnwritable units.items) (checked_names h.0) (subst (λ ts. Some_of (IsUnwritable units.items) (names_counted ts)) h.1.names_are u))

pub fault_so : (bytes : List ℕ) (found : Found) (result : Result (Unit {0}) SampleFault) → Finds bytes (Ok found) → IfErr result (IsNoSampleFound found) → IfErr result (IsNoSample bytes)
fault_so bytes found (Ok done) f h = tt
fault_so bytes found (Err why) f h = h bytes f
