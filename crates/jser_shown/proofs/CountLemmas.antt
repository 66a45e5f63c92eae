-- The text of list by counting: the first name takes all its equals, and the others are counted without them.
use Rattle.std.proofs.Common.{◌≡◌, ℕ, zero, suc, ◌+◌, ◌≤◌, Bool, true, false, true≢false, if◌then◌else◌, List, [], ◌∷◌, ◌++◌, length, refl, sym, ap, subst, ◌∙◌, arith}
use Rattle.std.specs.Str.{bytes_eq}
use Rattle.std.specs.Fmt.{decimal}
use Rattle.std.proofs.lemmas.Slice.Eq.{bytes_eq-Decides}
use Rattle.jser_grammar.specs.CheckedNames.{checked_names}
use Rattle.jser_shown.specs.Words.{end_line, quoted}
use Rattle.jser_shown.specs.Listed.{count_name, has_name, name_line, name_lines}
use Rattle.jser_shown.specs.Counting.{NameTally, name_tally, tally_one, tally_all, tally_lines}
use Rattle.jser_shown.specs.Laws.{Counted}

abbrev without : List ℕ → List (List ℕ) → List (List ℕ)
without n [] = []
without n (m ∷ ms) = if bytes_eq n m then without n ms else m ∷ without n ms

-- truth values

either_true : (b : Bool) → (if b then true else true) ≡ true
either_true true = refl
either_true false = refl

same_truth : (a b : Bool) → (a ≡ true → b ≡ true) → (b ≡ true → a ≡ true) → a ≡ b
same_truth true b f g = sym (f refl)
same_truth false true f g = g refl
same_truth false false f g = refl

same_name : (m n : List ℕ) → bytes_eq m n ≡ true → m ≡ n
same_name m n e = (bytes_eq-Decides m n).0 e

own_name : (n : List ℕ) → bytes_eq n n ≡ true
own_name n = (bytes_eq-Decides n n).1 refl

turned : (m n : List ℕ) → bytes_eq m n ≡ bytes_eq n m
turned m n = same_truth (bytes_eq m n) (bytes_eq n m) (λ e. (bytes_eq-Decides n m).1 (sym (same_name m n e))) (λ e. (bytes_eq-Decides m n).1 (sym (same_name n m e)))

-- tallies

tally_step : (b : Bool) (x : NameTally) (n : List ℕ) (c : List NameTally) (ns : List (List ℕ))
    → tally_all (name_tally x.name (suc x.times) ∷ c) ns ≡ name_tally x.name (count_name x.name ns + suc x.times) ∷ tally_all c (without x.name ns)
    → tally_all (x ∷ tally_one n c) ns ≡ name_tally x.name (count_name x.name ns + x.times) ∷ tally_all (tally_one n c) (without x.name ns)
    → tally_all (if b then name_tally x.name (suc x.times) ∷ c else x ∷ tally_one n c) ns
    ≡ name_tally x.name ((if b then suc (count_name x.name ns) else count_name x.name ns) + x.times) ∷ tally_all c (if b then without x.name ns else n ∷ without x.name ns)
tally_step true x n c ns f g = f ∙ ap (λ t. name_tally x.name t ∷ tally_all c (without x.name ns)) (omega arith)
tally_step false x n c ns f g = g

tally_first : (names : List (List ℕ)) (x : NameTally) (c : List NameTally)
    → tally_all (x ∷ c) names ≡ name_tally x.name (count_name x.name names + x.times) ∷ tally_all c (without x.name names)
tally_first [] x c = ap (λ t. name_tally x.name t ∷ c) (omega arith)
tally_first (n ∷ ns) x c =
    tally_step (bytes_eq x.name n) x n c ns (tally_first ns (name_tally x.name (suc x.times)) c) (tally_first ns x (tally_one n c))

-- names that were seen

seen_in : (before seen : List (List ℕ)) (m n : List ℕ) → bytes_eq m n ≡ true → has_name m (before ++ (n ∷ seen)) ≡ true
seen_in [] seen m n e = ap (λ b. if b then true else has_name m seen) e
seen_in (k ∷ before) seen m n e = ap (λ b. if bytes_eq m k then true else b) (seen_in before seen m n e) ∙ either_true (bytes_eq m k)

seen_out : (before seen : List (List ℕ)) (m n : List ℕ) → bytes_eq m n ≡ false → has_name m (before ++ (n ∷ seen)) ≡ has_name m (before ++ seen)
seen_out [] seen m n e = ap (λ b. if b then true else has_name m seen) e
seen_out (k ∷ before) seen m n e = ap (λ b. if bytes_eq m k then true else b) (seen_out before seen m n e)

lines_step : (b : Bool) (verdict : List ℕ → List ℕ) (all before seen ms : List (List ℕ)) (m n L1 L2 : List ℕ) → bytes_eq n m ≡ b
    → L1 ≡ name_lines verdict all (before ++ seen) (without n ms)
    → L2 ≡ name_lines verdict all (m ∷ (before ++ seen)) (without n ms)
    → (if has_name m (before ++ (n ∷ seen)) then L1 else name_line verdict all m L2)
    ≡ name_lines verdict all (before ++ seen) (if b then without n ms else m ∷ without n ms)
lines_step true verdict all before seen ms m n L1 L2 e f g =
    ap (λ h. if h then L1 else name_line verdict all m L2) (seen_in before seen m n (turned m n ∙ e)) ∙ f
lines_step false verdict all before seen ms m n L1 L2 e f g =
    ap (λ h. if h then L1 else name_line verdict all m L2) (seen_out before seen m n (turned m n ∙ e))
    ∙ (ap (λ x. if has_name m (before ++ seen) then x else name_line verdict all m L2) f
    ∙ ap (λ x. if has_name m (before ++ seen) then name_lines verdict all (before ++ seen) (without n ms) else name_line verdict all m x) g)

-- a name that was seen is as good as none
lines_without : (names : List (List ℕ)) (verdict : List ℕ → List ℕ) (all before seen : List (List ℕ)) (n : List ℕ)
    → name_lines verdict all (before ++ (n ∷ seen)) names ≡ name_lines verdict all (before ++ seen) (without n names)
lines_without [] verdict all before seen n = refl
lines_without (m ∷ ms) verdict all before seen n =
    lines_step (bytes_eq n m) verdict all before seen ms m n
    (name_lines verdict all (before ++ (n ∷ seen)) ms) (name_lines verdict all (m ∷ (before ++ (n ∷ seen))) ms) refl
    (lines_without ms verdict all before seen n) (lines_without ms verdict all (m ∷ before) seen n)

-- what is left without a name

shorter_step : (b : Bool) (m : List ℕ) (ws ms : List (List ℕ)) → length ws ≤ length ms → length (if b then ws else m ∷ ws) ≤ suc (length ms)
shorter_step true m ws ms h = omega (arith, h)
shorter_step false m ws ms h = omega (arith, h)

shorter : (ms : List (List ℕ)) (n : List ℕ) → length (without n ms) ≤ length ms
shorter [] n = omega arith
shorter (m ∷ ms) n = shorter_step (bytes_eq n m) m (without n ms) ms (shorter ms n)

gone_step : (b : Bool) (n m : List ℕ) (ws : List (List ℕ)) → bytes_eq n m ≡ b → has_name n ws ≡ false → has_name n (if b then ws else m ∷ ws) ≡ false
gone_step true n m ws e h = h
gone_step false n m ws e h = ap (λ b. if b then true else has_name n ws) e ∙ h

gone : (ms : List (List ℕ)) (n : List ℕ) → has_name n (without n ms) ≡ false
gone [] n = refl
gone (m ∷ ms) n = gone_step (bytes_eq n m) n m (without n ms) refl (gone ms n)

kept_step : (b c : Bool) (k m : List ℕ) (ws ms : List (List ℕ)) → bytes_eq k m ≡ c → (has_name k ws ≡ true → has_name k ms ≡ true)
    → has_name k (if b then ws else m ∷ ws) ≡ true → (if c then true else has_name k ms) ≡ true
kept_step b true k m ws ms e f h = refl
kept_step true false k m ws ms e f h = f h
kept_step false false k m ws ms e f h = f (sym (ap (λ b. if b then true else has_name k ws) e) ∙ h)

kept : (ms : List (List ℕ)) (k n : List ℕ) → has_name k (without n ms) ≡ true → has_name k ms ≡ true
kept [] k n h = h
kept (m ∷ ms) k n h = kept_step (bytes_eq n m) (bytes_eq k m) k m (without n ms) ms refl (kept ms k n) h

-- another name is counted as before
count_step : (b : Bool) (k n m : List ℕ) (ws ms : List (List ℕ)) → bytes_eq n m ≡ b → bytes_eq k n ≡ false → count_name k ws ≡ count_name k ms
    → count_name k (if b then ws else m ∷ ws) ≡ count_name k (m ∷ ms)
count_step true k n m ws ms e d f =
    f ∙ sym (ap (λ b. if b then suc (count_name k ms) else count_name k ms) (subst (λ x. bytes_eq k x ≡ false) (same_name n m e) d))
count_step false k n m ws ms e d f = ap (λ t. if bytes_eq k m then suc t else t) f

count_without : (ms : List (List ℕ)) (k n : List ℕ) → bytes_eq k n ≡ false → count_name k (without n ms) ≡ count_name k ms
count_without [] k n d = refl
count_without (m ∷ ms) k n d = count_step (bytes_eq n m) k n m (without n ms) ms refl d (count_without ms k n d)

-- a name that is left is another one
other_step : (b : Bool) (k n : List ℕ) (ms : List (List ℕ)) → bytes_eq k n ≡ b → has_name k (without n ms) ≡ true → bytes_eq k n ≡ false
other_step true k n ms e h =
    absurd (true≢false (sym (subst (λ x. has_name x (without n ms) ≡ true) (same_name k n e) h) ∙ gone ms n))
other_step false k n ms e h = e

-- each of these names stands as often among them as among all
abbrev AllHere : List (List ℕ) → List (List ℕ) → Type 0
AllHere all names = (k : List ℕ) → has_name k names ≡ true → count_name k names ≡ count_name k all

left_here : (all ns : List (List ℕ)) (n : List ℕ) → AllHere all (n ∷ ns) → AllHere all (without n ns)
left_here all ns n here k h =
    let d = other_step (bytes_eq k n) k n ns refl h in
    count_without ns k n d
    ∙ (sym (ap (λ b. if b then suc (count_name k ns) else count_name k ns) d)
    ∙ here k (ap (λ b. if b then true else has_name k ns) d ∙ kept ns k n h))

first_count : (all ns : List (List ℕ)) (n : List ℕ) → AllHere all (n ∷ ns) → count_name n all ≡ count_name n ns + 1
first_count all ns n here =
    sym (here n (ap (λ b. if b then true else has_name n ns) (own_name n)))
    ∙ (ap (λ b. if b then suc (count_name n ns) else count_name n ns) (own_name n) ∙ omega arith)

-- `bound` is at least the number of names
listed_left : (bound : ℕ) (verdict : List ℕ → List ℕ) (all names : List (List ℕ)) → length names ≤ bound → AllHere all names
    → name_lines verdict all [] names ≡ tally_lines verdict (tally_all [] names)
listed_left bound verdict all [] h here = refl
listed_left zero verdict all (n ∷ ns) h here = absurd (omega (arith, h))
listed_left (suc bound) verdict all (n ∷ ns) h here =
    ap (λ k. name_line verdict all n k)
    (lines_without ns verdict all [] [] n ∙ listed_left bound verdict all (without n ns) (omega (arith, h, shorter ns n)) (left_here all ns n here))
    ∙ (ap (λ t. decimal t ++ (0x20 ∷ (verdict n ++ (0x20 ∷ quoted n (end_line (tally_lines verdict (tally_all [] (without n ns)))))))) (first_count all ns n here)
    ∙ sym (ap (λ t. tally_lines verdict t) (tally_first ns (name_tally n 1) [])))

pub counted_law : Counted
counted_law verdict list = listed_left (length (checked_names list)) verdict (checked_names list) (checked_names list) (omega arith) (λ k h. refl)
