-- Lines of closed descriptors: one more descriptor, what its links lead to, and the class at an index of a chain.
use Rattle.std.proofs.Common.{◌≡◌, ℕ, ◌+◌, ◌-◌, ◌<◌, List, [], ◌∷◌, ◌++◌, length, drop, fold, get_or, slice_get, Option, Some, None, refl, ap, sym, ◌∙◌, subst, arith, inl, inr, append_assoc, length-append}
use Rattle.std.proofs.lemmas.Bool.{cases_lt}
use Rattle.std.proofs.lemmas.Option.{slice_get-get_or}
use Rattle.std.proofs.lemmas.List.{get_or_append_left, get_or_default, get_or_past, get_or_push, get_or_at, length_push, drop_at, length-take-le}
use Rattle.std.proofs.lemmas.List.Sums.{fold_push}
use Rattle.jser_table.specs.declared.layer.Layer.{Layer}
use Rattle.jser_table.specs.declared.descriptor.Links.{Links}
use Rattle.jser_table.specs.declared.descriptor.Descriptor.{Descriptor}
use Rattle.jser_table.specs.declared.descriptor.Counted.TheVariants as counted
use Rattle.jser_table.specs.Chains.{own_layer, chain_in}
use Rattle.jser_table.specs.Descriptors.{chain_above, with_chain, chains_of, AreLinks, IsTold, AreTold, IsUnder, LinkUnder, IsHighest}
use Rattle.jser_table.specs.Lines.{line_in, line_of_parent, next_line, LeadsTo}
use Rattle.jser_table.specs.Lined.{parent_of, with_line, lines_of, IsLined, AreLined, LinesUnder}
use Rattle.jser_table.proofs.ChainLemmas.{length_chains_of, own_told}
use Rattle.jser_table.proofs.WalkLemmas.{layer_found}

-- fronts of lines

LeadsTo-from : (xs ys whole : List ℕ) → whole ≡ xs ++ ys → LeadsTo xs whole
LeadsTo-from xs ys whole e = record { rest = e ∙ ap (λ rest. xs ++ rest) (sym (ap (drop (length xs)) e ∙ drop_at xs ys (length xs) refl)) }

pub LeadsTo-trans : (xs ys zs : List ℕ) → LeadsTo xs ys → LeadsTo ys zs → LeadsTo xs zs
LeadsTo-trans xs ys zs f g =
    LeadsTo-from xs (drop (length xs) ys ++ drop (length ys) zs) zs
    (g.rest ∙ ap (λ front. front ++ drop (length ys) zs) f.rest ∙ append_assoc xs (drop (length xs) ys) (drop (length ys) zs))

-- one more descriptor

lines_of-push : (ds : List Descriptor) (d : Descriptor) → lines_of (ds ++ d ∷ []) ≡ with_line (lines_of ds) d
unfolding lines_of
lines_of-push ds d = fold_push with_line [] ds d

pub lines_of_none : (ds : List Descriptor) → ds ≡ [] → lines_of ds ≡ []
unfolding lines_of
lines_of_none ds e = ap (λ xs. fold with_line [] xs) e

length-fold_with_line : (lines : List (List ℕ)) (ds : List Descriptor) → length (fold with_line lines ds) ≡ length lines + length ds
length-fold_with_line lines [] = omega arith
length-fold_with_line lines (d ∷ ds) =
    length-fold_with_line (with_line lines d) ds ∙ omega (arith, length_push lines (next_line lines (parent_of d.links)))

pub length_lines_of : (ds : List Descriptor) → length (lines_of ds) ≡ length ds
unfolding lines_of
length_lines_of ds = length-fold_with_line [] ds ∙ omega arith

parent_under : (chains : List (List Layer)) (parent : Option ℕ) (links : Option Links) → LinkUnder chains parent links → parent_of links ≡ parent
parent_under chains None None under = refl
parent_under chains None (Some links) under = absurd under
parent_under chains (Some parent) None under = absurd under
parent_under chains (Some parent) (Some links) under = ap Some under.parent_is

pub lines_push : (old new : List Descriptor) (d : Descriptor) (parent : Option ℕ) (layer : Layer) → new ≡ old ++ d ∷ [] → IsUnder (chains_of old) parent layer d → lines_of new ≡ lines_of old ++ next_line (lines_of old) parent ∷ []
lines_push old new d parent layer is under =
    ap lines_of is ∙ lines_of-push old d ∙ ap (λ p. lines_of old ++ next_line (lines_of old) p ∷ []) (parent_under (chains_of old) parent d.links under.links)

-- the lines before keep theirs

line_before : (lines : List (List ℕ)) (line : List ℕ) (place : ℕ) → place < length lines → line_in (lines ++ line ∷ []) place ≡ line_in lines place
line_before lines line place inside = get_or_append_left lines (line ∷ []) [] place inside

IsLined-push : (chains : List (List Layer)) (lines : List (List ℕ)) (line : List ℕ) (place : ℕ) (links : Option Links) → place < length lines → AreLinks chains place links → IsLined lines place links → IsLined (lines ++ line ∷ []) place links
IsLined-push chains lines line place None inside told lined = tt
IsLined-push chains lines line place (Some links) inside told lined =
    let own = line_before lines line place inside in
    let parent = line_before lines line links.parent (omega (arith, told.0)) in
    let jump = line_before lines line links.jump (omega (arith, told.1)) in
    (rw (parent, own) lined.0, rw (jump, own) lined.1)

IsLined-new : (chains : List (List Layer)) (lines : List (List ℕ)) (parent : Option ℕ) (links : Option Links) → length chains ≡ length lines → LinkUnder chains parent links → LinesUnder lines parent links → IsLined (lines ++ next_line lines (parent_of links) ∷ []) (length lines) links
IsLined-new chains lines None None same under lined = tt
IsLined-new chains lines None (Some links) same under lined = absurd lined
IsLined-new chains lines (Some parent) None same under lined = absurd lined
IsLined-new chains lines (Some parent) (Some links) same under lined =
    let line : List ℕ = line_in lines links.parent ++ length lines ∷ [] in
    let own : line_in (lines ++ line ∷ []) (length lines) ≡ line = get_or_push lines line [] (length lines) refl in
    let at_parent = line_before lines line links.parent (omega (arith, under.parent_in, under.parent_is)) in
    let at_jump = line_before lines line links.jump (omega (arith, under.jump_in)) in
    let front : LeadsTo (line_in lines links.parent) line = LeadsTo-from (line_in lines links.parent) (length lines ∷ []) line refl in
    let up : LeadsTo (line_in lines links.jump) (line_in lines links.parent) = rw lined.0 lined.1 in
    (rw (at_parent, own) front, rw (at_jump, own) (LeadsTo-trans _ _ _ up front))

pub lined_push : (old new : List Descriptor) (d : Descriptor) (parent : Option ℕ) (layer : Layer) → AreTold old → AreLined old → new ≡ old ++ d ∷ [] → IsUnder (chains_of old) parent layer d → LinesUnder (lines_of old) parent d.links → AreLined new
lined_push old new d parent layer told lined is under links =
    subst AreLined (sym is) (λ place x inside read.
    rw (lines_of-push old d)
    (elim (cases_lt place (length old)) [
      | inl before ↦
          let known : x ≡ get_or old place x = read ∙ get_or_append_left old (d ∷ []) x place before in
          IsLined-push (chains_of old) (lines_of old) _ place x.links (rw (length_lines_of old) before)
          (told place x before known).links
          (lined place x before known)
      | inr after ↦
          let last : length old ≡ place = omega (arith, length_push old d) in
          let same : x ≡ d = read ∙ get_or_push old d x place last in
          rw (same, sym last, ← length_lines_of old)
          (IsLined-new (chains_of old) (lines_of old) parent d.links (length_chains_of old ∙ sym (length_lines_of old)) under.links links)
    ]))

pub lined_none : (ds : List Descriptor) → ds ≡ [] → AreLined ds
lined_none ds e = rw e (λ place d inside read. absurd (omega arith))

-- links

-- a line is as long as its chain

record SameLengths (lines : List (List ℕ)) (chains : List (List Layer)) : Type 0 where
  count : length lines ≡ length chains
  each : (place : ℕ) → length (line_in lines place) ≡ length (chain_in chains place)

same_above : (lines : List (List ℕ)) (chains : List (List Layer)) (links : Option Links) → SameLengths lines chains → length (line_of_parent lines (parent_of links)) ≡ length (chain_above chains links)
same_above lines chains None same = refl
same_above lines chains (Some links) same = same.each links.parent

same_push : (lines : List (List ℕ)) (chains : List (List Layer)) (line : List ℕ) (chain : List Layer) → SameLengths lines chains → length line ≡ length chain → SameLengths (lines ++ line ∷ []) (chains ++ chain ∷ [])
same_push lines chains line chain same long = record {
  count = omega (arith, same.count, length_push lines line, length_push chains chain);
  each = λ place. elim (cases_lt place (length lines)) [
    | inl before ↦
        ap length (line_before lines line place before) ∙ same.each place
        ∙ sym (ap length (get_or_append_left chains (chain ∷ []) [] place (omega (arith, same.count, before))))
    | inr after ↦ elim (cases_lt (length lines) place) [
      | inl past ↦
          ap length (get_or_past (lines ++ line ∷ []) place [] (omega (arith, past, length_push lines line)))
          ∙ sym (ap length (get_or_past (chains ++ chain ∷ []) place [] (omega (arith, past, same.count, length_push chains chain))))
      | inr here ↦
          ap length (get_or_push lines line [] place (omega (arith, after, here))) ∙ long
          ∙ sym (ap length (get_or_push chains chain [] place (omega (arith, after, here, same.count))))
    ]
  ];
}

same_fold : (ds : List Descriptor) (lines : List (List ℕ)) (chains : List (List Layer)) → SameLengths lines chains → SameLengths (fold with_line lines ds) (fold with_chain chains ds)
same_fold [] lines chains same = same
same_fold (d ∷ ds) lines chains same =
    same_fold ds (with_line lines d) (with_chain chains d)
    (same_push lines chains _ _ same
    (omega (arith, length_push (line_of_parent lines (parent_of d.links)) (length lines), length_push (chain_above chains d.links) d.layer, same_above lines chains d.links same)))

pub same_lengths : (ds : List Descriptor) (place : ℕ) → length (line_in (lines_of ds) place) ≡ length (chain_in (chains_of ds) place)
unfolding lines_of chains_of
same_lengths ds place = (same_fold ds [] [] (record { count = refl; each = λ k. refl })).each place

-- a line ends in its own class

record EndsAt (line : List ℕ) (place : ℕ) : Type 0 where
  above : List ℕ
  is : line ≡ above ++ place ∷ []

abbrev AllEnd : List (List ℕ) → Type 0
AllEnd lines = (place : ℕ) → place < length lines → EndsAt (line_in lines place) place

ends_push : (lines : List (List ℕ)) (parent : Option ℕ) → AllEnd lines → AllEnd (lines ++ next_line lines parent ∷ [])
ends_push lines parent all = λ place inside. elim (cases_lt place (length lines)) [
  | inl before ↦ subst (λ line. EndsAt line place) (sym (line_before lines (next_line lines parent) place before)) (all place before)
  | inr after ↦
      let last : length lines ≡ place = omega (arith, after, inside, length_push lines (next_line lines parent)) in
      record {
        above = line_of_parent lines parent;
        is = get_or_push lines (next_line lines parent) [] place last ∙ ap (λ n. line_of_parent lines parent ++ n ∷ []) last;
      }
]

ends_fold : (ds : List Descriptor) (lines : List (List ℕ)) → AllEnd lines → AllEnd (fold with_line lines ds)
ends_fold [] lines all = all
ends_fold (d ∷ ds) lines all = ends_fold ds (with_line lines d) (ends_push lines (parent_of d.links) all)

line_ends : (ds : List Descriptor) (place : ℕ) → place < length ds → EndsAt (line_in (lines_of ds) place) place
unfolding lines_of
line_ends ds place inside = ends_fold ds [] (λ k no. absurd (omega arith)) place (omega (arith, inside, length-fold_with_line [] ds))

-- the class at the end of a walk

highest_long : (k : ℕ) (whole front : List Layer) → IsHighest counted.Layers k whole front → length front ≡ k + 1
highest_long k whole front highest =
    omega (arith, highest.over, highest.least, length-take-le (length front - 1) front (omega arith))

number_at_end : (line front : List ℕ) (place k : ℕ) → LeadsTo front line → EndsAt front place → length front ≡ k + 1 → slice_get line k ≡ Some place
number_at_end line front place k leads ends long =
    let rest : List ℕ = drop (length front) line in
    let split : line ≡ ends.above ++ place ∷ rest = leads.rest ∙ ap (λ f. f ++ rest) ends.is ∙ append_assoc ends.above (place ∷ []) rest in
    let at : length ends.above ≡ k = omega (arith, long, ap length ends.is, length_push ends.above place) in
    let inside : k < length (ends.above ++ place ∷ rest) = omega (arith, at, length-append ends.above (place ∷ rest)) in
    rw split (slice_get-get_or (ends.above ++ place ∷ rest) k place inside ∙ ap Some (get_or_at ends.above place rest place k at))

pub class_found : (ds : List Descriptor) (start index place : ℕ) → place < length ds → LeadsTo (line_in (lines_of ds) place) (line_in (lines_of ds) start) → IsHighest counted.Layers index (chain_in (chains_of ds) start) (chain_in (chains_of ds) place) → slice_get (line_in (lines_of ds) start) index ≡ Some place
class_found ds start index place inside leads highest =
    number_at_end (line_in (lines_of ds) start) (line_in (lines_of ds) place) place index leads (line_ends ds place inside)
    (same_lengths ds place ∙ highest_long index _ _ highest)

abbrev some_at : (ds : List Descriptor) (place : ℕ) → place < length ds → Descriptor
some_at [] place inside = absurd (omega (arith, inside))
some_at (d ∷ ds) place inside = get_or (d ∷ ds) place d

read_some : (ds : List Descriptor) (place : ℕ) (inside : place < length ds) → some_at ds place inside ≡ get_or ds place (some_at ds place inside)
read_some [] place inside = absurd (omega (arith, inside))
read_some (d ∷ ds) place inside = get_or_default (d ∷ ds) place d (get_or (d ∷ ds) place d) inside

-- its own layer is the one at the index
pub layer_of_found : (ds : List Descriptor) (start index place : ℕ) → AreTold ds → place < length ds → IsHighest counted.Layers index (chain_in (chains_of ds) start) (chain_in (chains_of ds) place) → own_layer (chain_in (chains_of ds) place) ≡ slice_get (chain_in (chains_of ds) start) index
layer_of_found ds start index place told inside highest =
    let here : IsTold (chains_of ds) place (some_at ds place inside) = told place (some_at ds place inside) inside (read_some ds place inside) in
    own_told (chains_of ds) place (some_at ds place inside) here
    ∙ sym (layer_found (chains_of ds) place index (some_at ds place inside) (chain_in (chains_of ds) start) here highest)
