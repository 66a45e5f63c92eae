-- Telling all names, one after another.
use Rattle.std.proofs.Common.{◌≡◌, ℕ, suc, ◌+◌, ◌-◌, ◌<◌, ◌≤◌, ◌∙◌, ap, sym, Some, None, List, [], ◌∷◌, ◌++◌, length, drop, arith}
use Rattle.std.proofs.lemmas.List.{drop_all, drop_more, drop-drop, length-drop}
use Rattle.jser_anywhere.specs.Names.{core}
use Rattle.jser_anywhere.specs.Search.{text_of, text_end, TellsText}
use Rattle.jser_anywhere.specs.declared.names.RowHead.{RowHead}
use Rattle.jser_anywhere.specs.NamesIn.{Telling, untold, class_or_none, class_in, named_or, named_then, row_names, row_of, names_at, names_in}

one_less : (n : ℕ) → 0 < n → n ≡ suc (n - 1)
one_less n some = omega arith

-- where no name stands, the row has none
row_stops : (from left at : ℕ) (rest : List ℕ) → 0 < left → text_of rest ≡ None → row_names from left at rest ≡ []
row_stops from left at rest some none =
    ap (λ n. row_names from n at rest) (one_less left some)
    ∙ ap (λ o. named_then from at (at + text_end rest) (row_names from (left - 1) (at + text_end rest) (drop (text_end rest) rest)) o) none

pub row_broken : (bytes : List ℕ) (next from left at : ℕ) → 0 < left → text_of (drop at bytes) ≡ None
    → names_in next (drop next bytes) ≡ row_names from left at (drop at bytes) ++ names_in next (drop next bytes)
row_broken bytes next from left at some none = sym (ap (λ names. names ++ names_in next (drop next bytes)) (row_stops from left at (drop at bytes) some none))

-- where a text stands, it is told if it is a name, and the row goes on behind it
row_goes : (from left at end : ℕ) (rest text : List ℕ) → 0 < left → TellsText rest (Some end) text
    → row_names from left at rest ≡ named_or from at (at + end) (row_names from (left - 1) (at + end) (drop end rest)) text (core text)
row_goes from left at end rest text some told =
    ap (λ n. row_names from n at rest) (one_less left some)
    ∙ ap (λ o. named_then from at (at + text_end rest) (row_names from (left - 1) (at + text_end rest) (drop (text_end rest) rest)) o) (told.0)
    ∙ ap (λ n. named_or from at (at + n) (row_names from (left - 1) (at + n) (drop n rest)) text (core text)) (sym (told.1))

class_is : (text class : List ℕ) → core text ≡ Some class → class ≡ class_in text
class_is text class e = sym (ap class_or_none e)

pub row_told : (bytes text class : List ℕ) (next from left at end : ℕ) → 0 < left → TellsText (drop at bytes) (Some end) text → Some class ≡ core text
    → row_names from left at (drop at bytes) ++ names_in next (drop next bytes)
    ≡ record { from = from; at = at; to = at + end; text = text; units = class_in text } ∷ (row_names from (left - 1) (at + end) (drop (at + end) bytes) ++ names_in next (drop next bytes))
row_told bytes text class next from left at end some told named =
    ap (λ names. names ++ names_in next (drop next bytes)) (row_goes from left at end (drop at bytes) text some told
    ∙ ap (λ o. named_or from at (at + end) (row_names from (left - 1) (at + end) (drop end (drop at bytes))) text o) (sym named)
    ∙ ap (λ c. record { from = from; at = at; to = at + end; text = text; units = c } ∷ row_names from (left - 1) (at + end) (drop end (drop at bytes))) (class_is text class (sym named)))
    ∙ ap (λ xs. record { from = from; at = at; to = at + end; text = text; units = class_in text } ∷ (row_names from (left - 1) (at + end) xs ++ names_in next (drop next bytes))) (drop-drop end at bytes)

pub row_passed : (bytes text : List ℕ) (next from left at end : ℕ) → 0 < left → TellsText (drop at bytes) (Some end) text → None ≡ core text
    → row_names from (left - 1) (at + end) (drop (at + end) bytes) ++ names_in next (drop next bytes)
    ≡ row_names from left at (drop at bytes) ++ names_in next (drop next bytes)
row_passed bytes text next from left at end some told none =
    sym (ap (λ names. names ++ names_in next (drop next bytes)) (row_goes from left at end (drop at bytes) text some told
    ∙ ap (λ o. named_or from at (at + end) (row_names from (left - 1) (at + end) (drop end (drop at bytes))) text o) (sym none))
    ∙ ap (λ xs. row_names from (left - 1) (at + end) xs ++ names_in next (drop next bytes)) (drop-drop end at bytes))

-- the class of the text that was read last
pub class_some : (text class : List ℕ) → Some class ≡ core text → class ≡ class_in text
class_some text class e = class_is text class (sym e)

pub class_none : (text : List ℕ) → None ≡ core text → [] ≡ class_in text
class_none text e = sym (ap class_or_none (sym e))

-- it has at least its length, and all of it is there
text_long : (rest units : List ℕ) (end : ℕ) → TellsText rest (Some end) units → 2 ≤ end
unfolding text_of
text_long [] units end told = let no : None ≡ Some units = told.0 in absurd cc
text_long (high ∷ []) units end told = let no : None ≡ Some units = told.0 in absurd cc
text_long (high ∷ low ∷ rest) units end told = omega (arith, told.1)

pub text_inside : (bytes units : List ℕ) (at end : ℕ) → at ≤ length bytes → TellsText (drop at bytes) (Some end) units → (at < at + end) × (at + end ≤ length bytes)
text_inside bytes units at end within told =
    (omega (arith, text_long (drop at bytes) units end told), omega (arith, told.2, length-drop at bytes, within))

-- the names of the next place come next
pub opened : (bytes : List ℕ) (next d : ℕ) (row : RowHead) → next < length bytes → row ≡ row_of (drop next bytes)
    → row_names next row.most (next + row.head) (drop (next + row.head) bytes) ++ names_in (next + 1) (drop (next + 1) bytes) ≡ names_in next (drop next bytes)
unfolding names_in
opened bytes next d row inside is =
    ap (λ xs. row_names next row.most (next + row.head) xs ++ names_in (next + 1) (drop (next + 1) bytes)) (sym (drop-drop row.head next bytes))
    ∙ ap (λ r. names_at next r (drop next bytes) ++ names_in (next + 1) (drop (next + 1) bytes)) is
    ∙ ap (λ xs. names_at next (row_of xs) xs ++ names_in (next + 1) (drop (next + 1) bytes)) (drop_more bytes next d inside)
    ∙ sym (ap (names_in next) (drop_more bytes next d inside))

-- behind the last place none is left
none_left : (bytes : List ℕ) (next : ℕ) → length bytes ≤ next → names_in next (drop next bytes) ≡ []
unfolding names_in
none_left bytes next past = ap (names_in next) (drop_all next bytes past)

pub none_untold : (t : Telling) → t.left ≡ 0 → length t.bytes ≤ t.next → untold t ≡ []
none_untold t over past =
    ap (λ n. row_names t.from n t.at (drop t.at t.bytes) ++ names_in t.next (drop t.next t.bytes)) over ∙ none_left t.bytes t.next past
