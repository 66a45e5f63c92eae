-- The table of handles as a descriptor ends: one more class, under that of the parent, if there is one.
use Rattle.std.proofs.Common.{◌≡◌, ℕ, ◌+◌, ◌<◌, ◌≤◌, ◌^◌, List, [], ◌∷◌, ◌++◌, length, map, set, Option, Some, None, refl, ap, sym, ◌∙◌, subst, inl, inr, arith, All, append_assoc}
use Rattle.std.specs.List.{zip, range_with_len}
use Rattle.std.proofs.lemmas.Bool.{cases_lt}
use Rattle.std.proofs.lemmas.List.{get_or_append_left, get_or_push, map_push, length_push, length-set}
use Rattle.std.proofs.lemmas.List.Elements.{All-set, All-weaker, All-push}
use Rattle.jser_table.specs.Entries.{TableEntry, chain_of}
use Rattle.jser_table.specs.Lines.{line_in, line_of_parent, parent_number}
use Rattle.jser_table.specs.Tables.{parent_chain, closed_under}
use Rattle.jser_table.specs.Tables.{TableView as Handles}
use Rattle.jser_shown.specs.Known.{NamedLayer, known_class}
use Rattle.jser_printer.specs.declared.class.KeptClass.{KeptClass}
use Rattle.jser_printer.specs.declared.class.Parent.{Parent}
use Rattle.jser_printer.specs.Tables.{NamesView, layer_in, layers_above, no_class, class_in, named_class, named_line, named_lines, view_entries, view_handles, table_of, IsAmong, AreAmong, IsOwn, IsNumbered, counted, IsSound, HasClass, IsParent, handle_of, layers_under, IsStraight, IsChainOf, Closes}
use Rattle.jser_printer.proofs.HandleLemmas.{view_set, view_more}
use Rattle.jser_printer.proofs.TableLemmas.{length_view, length_classes, length_chains, line_same, lines_same, line_named, range_push, long_alike, counted_line, is_chain}

among_more : (m n : ℕ) → m ≤ n → (number : Option ℕ) → IsAmong m number → IsAmong n number
among_more m n more None among = tt
among_more m n more (Some k) among = omega (arith, among)

are_among_more : (m n : ℕ) → m ≤ n → (line : List ℕ) → AreAmong m line → AreAmong n line
are_among_more m n more line among = All-weaker (λ k. k < m) (λ k. k < n) (λ k inside. omega (arith, inside)) line among

-- classes stay numbered

numbered_more : (lines : List (List ℕ)) (line : List ℕ) (classes : List KeptClass) (c : KeptClass) (n : ℕ) → n < length lines → length classes ≡ length lines → IsNumbered lines classes n → IsNumbered (lines ++ line ∷ []) (classes ++ c ∷ []) n
numbered_more lines line classes c n inside long numbered =
    let same : class_in (classes ++ c ∷ []) n ≡ class_in classes n = get_or_append_left classes (c ∷ []) no_class n (omega (arith, inside, long)) in
    record {
      above = numbered.above;
      first = numbered.first;
      line = rw same (get_or_append_left lines (line ∷ []) [] n inside ∙ numbered.line);
      last = rw same numbered.last;
      number = rw same numbered.number;
    }

-- the numbers at the end of a line
record EndsStraight (line : List ℕ) (straight n : ℕ) : Type 0 where
  above : List ℕ
  first : ℕ
  line_is : line ≡ above ++ range_with_len first (straight + 1)
  last : first + straight ≡ n

numbered_new : (lines : List (List ℕ)) (line : List ℕ) (classes : List KeptClass) (c : KeptClass) (n : ℕ) → length lines ≡ n → length classes ≡ n → c.chain ≡ n → EndsStraight line c.straight n → IsNumbered (lines ++ line ∷ []) (classes ++ c ∷ []) n
numbered_new lines line classes c n last long number ends =
    let same : class_in (classes ++ c ∷ []) n ≡ c = get_or_push classes c no_class n long in
    record {
      above = ends.above;
      first = ends.first;
      line = rw same (get_or_push lines line [] n last ∙ ends.line_is);
      last = rw same ends.last;
      number = rw same number;
    }

numbered_all : (lines : List (List ℕ)) (line : List ℕ) (classes : List KeptClass) (c : KeptClass) → length classes ≡ length lines → c.chain ≡ length lines → EndsStraight line c.straight (length lines) → ((n : ℕ) → n < length lines → IsNumbered lines classes n) → (n : ℕ) → n < length (lines ++ line ∷ []) → IsNumbered (lines ++ line ∷ []) (classes ++ c ∷ []) n
numbered_all lines line classes c long number ends each n inside = elim (cases_lt n (length lines)) [
  | inl before ↦ numbered_more lines line classes c n before long (each n before)
  | inr past ↦
      let here : length lines ≡ n = omega (arith, inside, length_push lines line) in
      subst (IsNumbered (lines ++ line ∷ []) (classes ++ c ∷ [])) here
      (numbered_new lines line classes c (length lines) refl long number ends)
]

ends_alone : (line : List ℕ) (straight n : ℕ) → straight ≡ 0 → EndsStraight (line ++ n ∷ []) straight n
ends_alone line straight n none = rw none (record { above = line; first = n; line_is = refl; last = omega arith })

ends_on : (lines : List (List ℕ)) (classes : List KeptClass) (p straight n : ℕ) → IsNumbered lines classes p → p + 1 ≡ n → straight ≡ (class_in classes p).straight + 1 → EndsStraight (line_in lines p ++ n ∷ []) straight n
ends_on lines classes p straight n numbered next more =
    let before : ℕ = (class_in classes p).straight in
    let here : numbered.first + (before + 1) ≡ n = omega (arith, numbered.last, next) in
    record {
      above = numbered.above;
      first = numbered.first;
      line_is =
          ap (λ xs. xs ++ n ∷ []) numbered.line
          ∙ append_assoc numbered.above (range_with_len numbered.first (before + 1)) (n ∷ [])
          ∙ ap (λ k. numbered.above ++ (range_with_len numbered.first (before + 1) ++ k ∷ [])) (sym here)
          ∙ ap (λ xs. numbered.above ++ xs) (sym (range_push numbered.first (before + 1)))
          ∙ ap (λ k. numbered.above ++ range_with_len numbered.first (k + 1)) (sym more);
      last = rw more here;
    }

-- the line of the parent's class
abbrev parent_line : Handles → Option Parent → List ℕ
parent_line h parent = line_of_parent h.lines (parent_number h.numbers (handle_of parent))

-- `given` is the handle that was asked for, `parent` the class that it names, if it is one
module _ (h : Handles) (layers : List NamedLayer) (classes : List KeptClass) (view : NamesView) (is : table_of h layers classes ≡ view) (sound : IsSound h layers classes) where
  class_inside : (p : Parent) → HasClass h p.handle p.class → p.class < length h.lines
  class_inside p has = omega (arith, has.inside, length_chains h layers classes view is sound)

  parent_among : (given : Option ℕ) (parent : Option Parent) → IsParent h given parent → AreAmong (length h.lines) (parent_line h parent)
  parent_among given None at = λ i x inside. absurd (omega (arith, inside))
  parent_among given (Some p) at = rw at.1.number_is (sound.of p.class [] (class_inside p at.1))

  parent_named : (given : Option ℕ) (parent : Option Parent) → IsParent h given parent → named_line layers classes (parent_line h parent) ≡ layers_above view.known given
  parent_named None None at = refl
  parent_named (Some handle) None at = sym (is_chain h layers classes view is sound handle None at)
  parent_named given (Some p) at =
      let chain : IsChainOf view p.handle (Some p.class) = is_chain h layers classes view is sound p.handle (Some p.class) at.1 in
      ap (λ n. named_line layers classes (line_of_parent h.lines n)) at.1.number_is
      ∙ sym (line_named h layers classes view is sound p.class (class_inside p at.1))
      ∙ sym chain.1
      ∙ ap (layers_above view.known) (sym at.0)

  parent_long : (given : Option ℕ) (parent : Option Parent) → IsParent h given parent → length (parent_chain h.entries (handle_of parent)) ≡ length (parent_line h parent)
  parent_long given None at = refl
  parent_long given (Some p) at =
      ap (λ e. length (chain_of e)) at.1.entry_is
      ∙ long_alike h layers classes view is sound p.class (class_inside p at.1)
      ∙ ap (λ n. length (line_of_parent h.lines n)) (sym at.1.number_is)

  parent_counted : (given : Option ℕ) (parent : Option Parent) → IsParent h given parent → layers_under classes parent ≡ length (parent_line h parent) + 1
  parent_counted given None at = refl
  parent_counted given (Some p) at =
      ap (λ k. k + 1) (counted_line h layers classes view is sound p.class (class_inside p at.1) ∙ ap (λ n. length (line_of_parent h.lines n)) (sym at.1.number_is))

  parent_straight : (given : Option ℕ) (parent : Option Parent) (straight : ℕ) → IsParent h given parent → IsStraight classes parent straight → EndsStraight (parent_line h parent ++ length h.lines ∷ []) straight (length h.lines)
  parent_straight given None straight at is_straight = ends_alone [] straight (length h.lines) is_straight
  parent_straight given (Some p) straight at is_straight = elim is_straight [
    | inl none ↦ ends_alone (parent_line h (Some p)) straight (length h.lines) none
    | inr more ↦
        rw at.1.number_is
        (ends_on h.lines classes p.class straight (length h.lines) (sound.numbered p.class (class_inside p at.1)) (more.0 ∙ length_classes h layers classes view is sound) more.1)
  ]

  pub chains_closed : (new : Handles) (more : List KeptClass) (c : KeptClass) (handle : ℕ) (given : Option ℕ) (parent : Option Parent) → IsParent h given parent → Closes h new handle (handle_of parent) → more ≡ classes ++ c ∷ [] → named_lines layers more new.lines ≡ view.chains ++ (layers_above view.known given ++ layer_in view.layers c.own ∷ []) ∷ []
  chains_closed new more c handle given parent at closes added =
      let n = length h.lines in
      let line : List ℕ = parent_line h parent in
      let long : length classes ≡ n = length_classes h layers classes view is sound in
      let with_c : ℕ → NamedLayer = named_class layers (classes ++ c ∷ []) in
      let same : (m : ℕ) → m < n → with_c m ≡ named_class layers classes m =
      λ m inside. ap (λ (class : KeptClass). layer_in layers class.own) (get_or_append_left classes (c ∷ []) no_class m (omega (arith, inside, long)))
      in
      let own : with_c n ≡ layer_in view.layers c.own =
      ap (λ (class : KeptClass). layer_in layers class.own) (get_or_push classes c no_class n long)
      ∙ ap (λ (v : NamesView). layer_in v.layers c.own) is
      in
      let made : map with_c (line ++ n ∷ []) ≡ layers_above view.known given ++ layer_in view.layers c.own ∷ [] =
      map_push with_c line n
      ∙ ap (λ l. map with_c line ++ l ∷ []) own
      ∙ ap (λ ls. ls ++ layer_in view.layers c.own ∷ []) (line_same with_c (named_class layers classes) n same line (parent_among given parent at) ∙ parent_named given parent at)
      in
      ap (λ cs. named_lines layers cs new.lines) added
      ∙ ap (map (map with_c)) closes.lines
      ∙ map_push (map with_c) h.lines (line ++ n ∷ [])
      ∙ ap (λ cs. map (map with_c) h.lines ++ cs ∷ []) made
      ∙ ap (λ cs. cs ++ (layers_above view.known given ++ layer_in view.layers c.own ∷ []) ∷ []) (lines_same with_c (named_class layers classes) n same h.lines sound.of)
      ∙ ap (λ (v : NamesView). v.chains ++ (layers_above view.known given ++ layer_in view.layers c.own ∷ []) ∷ []) is

  pub known_closed : (new : Handles) (more : List KeptClass) (c : KeptClass) (handle : ℕ) (given : Option ℕ) (parent : Option Parent) → IsParent h given parent → Closes h new handle (handle_of parent) → more ≡ classes ++ c ∷ [] → view_handles (named_lines layers more new.lines) new ≡ set view.known handle (known_class (layers_above view.known given ++ layer_in view.layers c.own ∷ []))
  known_closed new more c handle given parent at closes added =
      let C : List (List NamedLayer) = view.chains in
      let made : List NamedLayer = layers_above view.known given ++ layer_in view.layers c.own ∷ [] in
      let long : length C ≡ length h.lines = length_view h layers classes view is sound in
      let last : length C ≡ length h.chains = long ∙ sym (length_chains h layers classes view is sound) in
      let closed : TableEntry = closed_under h.entries (handle_of parent) closes.layer in
      ap (λ cs. view_handles cs new) (chains_closed new more c handle given parent at closes added)
      ∙ ap (λ es. view_entries (C ++ made ∷ []) (zip es new.numbers)) closes.entries
      ∙ ap (λ ns. view_entries (C ++ made ∷ []) (zip (set h.entries handle closed) ns)) closes.numbers
      ∙ view_set (C ++ made ∷ []) h.entries h.numbers handle closed (Some (length h.chains))
      ∙ ap (λ ls. set (view_entries (C ++ made ∷ []) (zip h.entries h.numbers)) handle (known_class ls)) (get_or_push C made [] (length h.chains) last)
      ∙ ap (λ es. set es handle (known_class made)) (view_more C made h.entries h.numbers (subst (λ m. All (IsAmong m) h.numbers) (sym long) sound.among))
      ∙ ap (λ cs. set (view_handles cs h) handle (known_class made)) (ap (λ (v : NamesView). v.chains) (sym is))
      ∙ ap (λ (v : NamesView). set v.known handle (known_class made)) is

  pub sound_closed : (new : Handles) (more : List KeptClass) (c : KeptClass) (handle : ℕ) (given : Option ℕ) (parent : Option Parent) → IsParent h given parent → Closes h new handle (handle_of parent) → more ≡ classes ++ c ∷ [] → c.chain ≡ length h.chains → c.own < length view.layers → c.layers ≡ layers_under classes parent → IsStraight classes parent c.straight → length new.chains < 2 ^ 32 → IsSound new layers more
  sound_closed new more c handle given parent at closes added chain own count straight fewer =
      let n = length h.lines in
      let line : List ℕ = parent_line h parent in
      let made : List ℕ = line ++ n ∷ [] in
      let long : length (h.lines ++ made ∷ []) ≡ n + 1 = length_push h.lines made in
      let same : length h.chains ≡ n = length_chains h layers classes view is sound in
      let above : length (parent_chain h.entries (handle_of parent)) ≡ length line = parent_long given parent at in
      let ends : length made ≡ length line + 1 = length_push line n in
      let entries : length new.entries ≡ length h.entries = ap length closes.entries ∙ length-set h.entries handle (closed_under h.entries (handle_of parent) closes.layer) in
      record {
        most = rw closes.max sound.most;
        within = omega (arith, sound.within, closes.max, entries);
        fewer = fewer;
        paired = ap length closes.numbers ∙ length-set h.numbers handle (Some (length h.chains)) ∙ sound.paired ∙ sym entries;
        among = rw (closes.lines, closes.numbers)
            (All-set (IsAmong (length (h.lines ++ made ∷ []))) h.numbers handle (Some (length h.chains)) (omega (arith, long, same))
            (All-weaker (IsAmong n) (IsAmong (length (h.lines ++ made ∷ []))) (among_more n _ (omega (arith, long))) h.numbers sound.among));
        long = rw (closes.chains, closes.lines)
            (map_push length h.chains (parent_chain h.entries (handle_of parent) ++ closes.layer ∷ [])
            ∙ ap (λ ls. ls ++ length (parent_chain h.entries (handle_of parent) ++ closes.layer ∷ []) ∷ []) sound.long
            ∙ ap (λ k. map length h.lines ++ k ∷ []) (length_push (parent_chain h.entries (handle_of parent)) closes.layer ∙ omega (arith, above, ends))
            ∙ sym (map_push length h.lines made));
        counts = rw (added, closes.lines)
            (map_push counted classes c
            ∙ ap (λ ls. ls ++ c.layers ∷ []) sound.counts
            ∙ ap (λ k. map length h.lines ++ k ∷ []) (count ∙ parent_counted given parent at ∙ sym ends)
            ∙ sym (map_push length h.lines made));
        owns = rw added (All-push (IsOwn (length layers)) classes c sound.owns (omega (arith, own, ap (λ (v : NamesView). length v.layers) is)));
        of = rw closes.lines
            (All-push (AreAmong (length (h.lines ++ made ∷ []))) h.lines made
            (All-weaker (AreAmong n) (AreAmong (length (h.lines ++ made ∷ []))) (are_among_more n _ (omega (arith, long))) h.lines sound.of)
            (All-push (λ m. m < length (h.lines ++ made ∷ [])) line n (are_among_more n _ (omega (arith, long)) line (parent_among given parent at)) (omega (arith, long))));
        numbered = rw (added, closes.lines)
            (numbered_all h.lines made classes c (length_classes h layers classes view is sound) (chain ∙ same) (parent_straight given parent c.straight at straight) sound.numbered);
      }
