-- What is open, said one after another.
use Rattle.std.proofs.Common.{◌≡◌, ℕ, zero, suc, ◌-◌, ◌<◌, ◌≤◌, length, take, drop, arith, List, [], ◌∷◌, ◌++◌, Option, Some, None, sym, ap, subst, ◌∙◌}
use denote.Bor.{Bor}
use Rattle.std.specs.Prelude.{codes}
use Rattle.jser_printer.specs.Names.{view_name}
use Rattle.jser_prim.specs.Outgoing.{Outgoing, SinkState}
use Rattle.jser_printer.specs.Says.{Saying, Says}
use Rattle.std.proofs.lemmas.List.{drop_all, take_all}
use Rattle.jser_printer.proofs.SaysLemmas.{says_before, says_both}
use Rattle.jser_printer.specs.declared.opened.Open.{Open}
use Rattle.jser_explain.specs.Short.{short_name}
use Rattle.jser_explain.specs.Opened.{inner_words, left_out_line, left_out_words, name_words, open_words, opened_words, own_writer_words, places_words, writer_words}

pub says_one : (a b : Outgoing) (d e : SinkState) (all others : List Open) (first : Open) → all ≡ first ∷ others → Says a b d e (λ k. open_words first k)
    → Saying a b d e (λ k. opened_words all k) (λ k. opened_words others k)
says_one a b d e all others first is says =
    subst (λ os. Saying a b d e (λ k. opened_words os k) (λ k. opened_words others k)) (sym is)
    (says_before a b d e (λ k. open_words first k) (λ k. opened_words others k) says)

pub says_no_more : (a b : Outgoing) (d e : SinkState) (all : List ℕ → List ℕ) (left : List Open) → Saying a b d e all (λ k. opened_words left k) → left ≡ [] → Says a b d e all
says_no_more a b d e all left says none =
    record { bytes = says.bytes; puts = says.puts; is = λ k. says.is k ∙ ap (λ os. says.bytes ++ opened_words os k) none }

-- ---- the outermost and the innermost

pub places_few : (a b : Outgoing) (d e : SinkState) (opened : List Open) → length opened ≤ 20 → Says a b d e (λ k. opened_words opened k) → Says a b d e (λ k. places_words opened k)
places_few a b d e opened few says =
    subst (λ os. Says a b d e (λ k. opened_words os (inner_words (drop 20 opened) k))) (sym (take_all 20 opened few))
    (subst (λ os. Says a b d e (λ k. opened_words opened (inner_words os k))) (sym (drop_all 20 opened few)) says)

pub places_many : (a b c : Outgoing) (d e f : SinkState) (opened outer others : List Open) → outer ≡ take 20 opened → others ≡ drop 20 opened
    → Says a b d e (λ k. opened_words outer k) → Says b c e f (λ k. inner_words others k) → Says a c d f (λ k. places_words opened k)
places_many a b c d e f opened outer others front rest says more =
    says_both a b c d e f (λ k. opened_words (take 20 opened) k) (λ k. inner_words (drop 20 opened) k)
    (subst (λ os. Says a b d e (λ k. opened_words os k)) front says) (subst (λ os. Says b c e f (λ k. inner_words os k)) rest more)

pub inner_few : (a b : Outgoing) (d e : SinkState) (others : List Open) → length others ≤ 20 → Says a b d e (λ k. opened_words others k) → Says a b d e (λ k. inner_words others k)
inner_few a b d e others few says =
    subst (λ n. Says a b d e (λ k. left_out_words n (opened_words (drop n others) k))) (sym (none_left (length others) few)) says
  where
    none_left : (n : ℕ) → n ≤ 20 → n - 20 ≡ 0
    none_left n le = omega (arith, le)

pub inner_many : (a b c : Outgoing) (d e f : SinkState) (others inner : List Open) (count : ℕ) → count ≡ length others - 20 → 20 < length others → inner ≡ drop count others
    → Says a b d e (λ k. left_out_line count k) → Says b c e f (λ k. opened_words inner k) → Says a c d f (λ k. inner_words others k)
inner_many a b c d e f others inner count many more rest left says =
    subst (λ n. Says a c d f (λ k. left_out_words n (opened_words (drop n others) k))) many
    (says_both a b c d e f (λ k. left_out_words count k) (λ k. opened_words (drop count others) k) (line count (omega (arith, many, more)) left)
    (subst (λ os. Says b c e f (λ k. opened_words os k)) rest says))
  where
    line : (n : ℕ) → 0 < n → Says a b d e (λ k. left_out_line n k) → Says a b d e (λ k. left_out_words n k)
    line zero some said = absurd (omega (arith, some))
    line (suc n) some said = said

-- ---- a class

pub class_named : (a b : Outgoing) (d e : SinkState) (class : Option (Bor (List ℕ))) (name : Bor (List ℕ)) → class ≡ Some name → Says a b d e (λ k. short_name name.now k)
    → Says a b d e (λ k. name_words (view_name class) k)
class_named a b d e class name is says = subst (λ o. Says a b d e (λ k. name_words (view_name o) k)) (sym is) says

pub class_of_proxy : (a b : Outgoing) (d e : SinkState) (class : Option (Bor (List ℕ))) → class ≡ None → Says a b d e (λ k. codes "a proxy class" ++ k)
    → Says a b d e (λ k. name_words (view_name class) k)
class_of_proxy a b d e class is says = subst (λ o. Says a b d e (λ k. name_words (view_name o) k)) (sym is) says

pub writer_known : (a b : Outgoing) (d e : SinkState) (class : Option (Bor (List ℕ))) (name : Bor (List ℕ)) → class ≡ Some name → Says a b d e (λ k. own_writer_words name.now k)
    → Says a b d e (λ k. writer_words (view_name class) k)
writer_known a b d e class name is says = subst (λ o. Says a b d e (λ k. writer_words (view_name o) k)) (sym is) says

pub writer_unknown : (a b : Outgoing) (d e : SinkState) (class : Option (Bor (List ℕ))) → class ≡ None → Says a b d e (λ k. [] ++ k) → Says a b d e (λ k. writer_words (view_name class) k)
writer_unknown a b d e class is says = subst (λ o. Says a b d e (λ k. writer_words (view_name o) k)) (sym is) says
