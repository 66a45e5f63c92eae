-- Paths: one more section, and sections of one path.
use Rattle.std.proofs.Common.{◌≡◌, ℕ, zero, suc, ◌+◌, ◌<◌, ◌≤◌, true, List, [], ◌∷◌, ◌++◌, length, set, Option, Some, refl, ap, sym, ◌∙◌, subst, arith, inl, inr}
use Rattle.std.proofs.lemmas.Bool.{cases_lt, cases_eq}
use Rattle.std.proofs.lemmas.List.{get_or_append_left, get_or_push, get_or-set_same, get_or-set_other, length-set, length_push}
use Rattle.jser_table.specs.declared.layer.Layer.{Layer}
use Rattle.jser_table.specs.declared.descriptor.Filed.{Filed}
use Rattle.jser_table.specs.Chains.{is_filled, IsFront}
use Rattle.jser_table.specs.Sections.{sections_of, HasSection, down_to, layer_of}
use Rattle.jser_table.specs.Descriptors.{IsLast}
use Rattle.jser_table.specs.Upwards.{no_filed, filed_in}
use Rattle.jser_table.specs.Paths.{path_of, below_of, leading_to, LeadsOn, ArePaths, FilesOne}
use Rattle.jser_table.proofs.LayerLemmas.{IsFront-refl, IsFront-from, IsFront-trans}
use Rattle.jser_table.proofs.SectionLemmas.{down_to_grows, layer_of_grows, new_down_to, new_layer_of, filled_push}

-- more classes change no path

lead_on_grows : (chains more : List (List Layer)) (sections : List Filed) (number end : ℕ) → HasSection chains number → HasSection chains (below_of sections number) → LeadsOn chains sections number end → LeadsOn (chains ++ more) sections number end
lead_on_grows chains more sections number end here next leads = record {
  after = leads.after;
  upto = leads.upto;
  path = leads.path;
  under = rw (down_to_grows chains more (below_of sections number) next, down_to_grows chains more number here, layer_of_grows chains more (below_of sections number) next) leads.under;
}

pub paths_grow : (chains more : List (List Layer)) (sections : List Filed) → length (sections_of chains) ≡ length sections → ArePaths chains sections → ArePaths (chains ++ more) sections
paths_grow chains more sections count are = record {
  each = λ number end before inside same.
      let leads : LeadsOn chains sections number end = are.each number end before inside same in
      lead_on_grows chains more sections number end (omega (arith, count)) (omega (arith, count, leads.upto)) leads;
  begin = are.begin;
  first = are.first;
}

pub paths_none : (chains : List (List Layer)) (sections : List Filed) → sections ≡ [] → ArePaths chains sections
paths_none chains sections e = rw e record {
  each = λ number end before inside same. absurd (omega arith);
  begin = λ number inside. absurd (omega arith);
  first = λ number inside. absurd (omega arith);
}

-- one more section

-- One more section, of this path, stands at the end of the list; each one before is of the path that it was of, and leads
-- where it did, if it did.
record Longer (old new : List Filed) (end path : ℕ) : Type 0 where
  end_is : end ≡ length old
  long : length new ≡ end + 1
  paths : (n : ℕ) → n < end → path_of new n ≡ path_of old n
  own : path_of new end ≡ path
  kept : (n : ℕ) → n < end → n < below_of old n → below_of new n ≡ below_of old n

longer_begun : (old new : List Filed) (filed : Filed) → new ≡ old ++ filed ∷ [] → Longer old new (length old) filed.path
longer_begun old new filed is = rw is record {
  end_is = refl;
  long = length_push old filed;
  paths = λ n before. ap (λ (f : Filed). f.path) (get_or_append_left old (filed ∷ []) no_filed n before);
  own = ap (λ (f : Filed). f.path) (get_or_push old filed no_filed (length old) refl);
  kept = λ n before leads. ap (λ (f : Filed). f.below) (get_or_append_left old (filed ∷ []) no_filed n before);
}

-- a link that is set at one place
path_of_set : (old : List Filed) (a n next : ℕ) → a < length old → path_of (set old a (leading_to next (filed_in old a))) n ≡ path_of old n
path_of_set old a n next inside = elim (cases_eq n a) [
  | inl same ↦ rw same (ap (λ (f : Filed). f.path) (get_or-set_same old a (leading_to next (filed_in old a)) no_filed inside))
  | inr other ↦ ap (λ (f : Filed). f.path) (get_or-set_other old a n (leading_to next (filed_in old a)) no_filed other)
]

longer_on : (old linked new : List Filed) (a : ℕ) (filed : Filed) → a < length old → below_of old a ≡ a → linked ≡ set old a (leading_to (length old) (filed_in old a)) → new ≡ linked ++ filed ∷ [] → Longer old new (length old) filed.path
longer_on old linked new a filed inside last linked_is is =
    let long : length linked ≡ length old = ap length linked_is ∙ length-set old a (leading_to (length old) (filed_in old a)) in
    rw is record {
      end_is = refl;
      long = omega (arith, length_push linked filed, long);
      paths = λ n before.
          ap (λ (f : Filed). f.path) (get_or_append_left linked (filed ∷ []) no_filed n (omega (arith, long)))
          ∙ ap (λ sections. path_of sections n) linked_is ∙ path_of_set old a n (length old) inside;
      own = ap (λ (f : Filed). f.path) (get_or_push linked filed no_filed (length old) long);
      kept = λ n before leads.
          ap (λ (f : Filed). f.below) (get_or_append_left linked (filed ∷ []) no_filed n (omega (arith, long)))
          ∙ ap (λ sections. below_of sections n) linked_is
          ∙ ap (λ (f : Filed). f.below) (get_or-set_other old a n (leading_to (length old) (filed_in old a)) no_filed (λ (e : n ≡ a). omega (arith, leads, ap (below_of old) e, last, e)));
    }

lead_on_kept : (chains : List (List Layer)) (old new : List Filed) (last path number end : ℕ) → Longer old new last path → number < last → end < last → LeadsOn chains old number end → LeadsOn chains new number end
lead_on_kept chains old new last path number end longer here inside leads =
    let same : below_of new number ≡ below_of old number = longer.kept number here leads.after in
    record {
      after = rw same leads.after;
      upto = rw same leads.upto;
      path = rw (same, longer.paths (below_of old number) (omega (arith, leads.upto, inside)), longer.paths number here) leads.path;
      under = rw same leads.under;
    }

-- the same towards a section further down
lead_on_further : (chains : List (List Layer)) (sections : List Filed) (number end further : ℕ) → end ≤ further → LeadsOn chains sections number end → LeadsOn chains sections number further
lead_on_further chains sections number end further more leads = record { after = leads.after; upto = omega (arith, leads.upto, more); path = leads.path; under = leads.under }

begin_longer : (chains : List (List Layer)) (old new : List Filed) (last path : ℕ) → Longer old new last path → path ≤ last → ArePaths chains old → (number : ℕ) → number < length new → path_of new number ≤ number
begin_longer chains old new last path longer low are number inside = elim (cases_lt number last) [
  | inl before ↦ omega (arith, longer.paths number before, are.begin number (omega (arith, longer.end_is, before)))
  | inr after ↦
      let same : number ≡ last = omega (arith, longer.long) in
      omega (arith, ap (path_of new) same, longer.own, low, same)
]

first_longer : (chains : List (List Layer)) (old new : List Filed) (last path : ℕ) → Longer old new last path → path_of new path ≡ path → ArePaths chains old → (number : ℕ) → number < length new → path_of new (path_of new number) ≡ path_of new number
first_longer chains old new last path longer own are number inside = elim (cases_lt number last) [
  | inl before ↦
      let older : number < length old = omega (arith, longer.end_is, before) in
      rw (longer.paths number before, longer.paths (path_of old number) (omega (arith, are.begin number older, before))) (are.first number older)
  | inr after ↦
      let same : number ≡ last = omega (arith, longer.long) in
      rw (same, longer.own) own
]

paths_begun : (chains : List (List Layer)) (old new : List Filed) (last : ℕ) → Longer old new last last → ArePaths chains old → ArePaths chains new
paths_begun chains old new last longer are = record {
  each = λ number end before inside same. elim (cases_lt end last) [
    | inl older ↦
        lead_on_kept chains old new last last number end longer (omega (arith, before, older)) older
        (are.each number end before (omega (arith, longer.end_is, older)) (sym (longer.paths number (omega (arith, before, older))) ∙ same ∙ longer.paths end older))
    | inr newest ↦
        let at_end : end ≡ last = omega (arith, longer.long) in
        let older : number < last = omega (arith, before, at_end) in
        absurd (omega (arith, older, longer.paths number older, same, ap (path_of new) at_end, longer.own, are.begin number (omega (arith, longer.end_is, older))))
  ];
  begin = begin_longer chains old new last last longer (omega arith) are;
  first = first_longer chains old new last last longer longer.own are;
}

-- The newest section stands just under the one at `above`, which was the last of its path.
record IsUnderEnd (chains : List (List Layer)) (old new : List Filed) (last above : ℕ) : Type 0 where
  before : above < last
  end : below_of old above ≡ above
  next : below_of new above ≡ last
  under : down_to chains last ≡ down_to chains above ++ layer_of chains last ∷ []

-- each section of that path leads on to the newest
toward_newest : (chains : List (List Layer)) (old new : List Filed) (last above number : ℕ) → Longer old new last (path_of old above) → IsUnderEnd chains old new last above → ArePaths chains old → number < last → path_of old number ≡ path_of old above → LeadsOn chains new number last
toward_newest chains old new last above number longer at are before same = elim (cases_lt number above) [
  | inl higher ↦
      lead_on_further chains new number above last (omega (arith, at.before))
      (lead_on_kept chains old new last (path_of old above) number above longer before at.before
      (are.each number above higher (omega (arith, longer.end_is, at.before)) same))
  | inr after ↦ elim (cases_lt above number) [
    | inl lower ↦
        let leads : LeadsOn chains old above number = are.each above number lower (omega (arith, longer.end_is, before)) (sym same) in
        absurd (omega (arith, leads.after, at.end))
    | inr here ↦
        let is : number ≡ above = omega arith in
        rw is record {
          after = rw at.next at.before;
          upto = rw at.next (omega arith);
          path = rw (at.next, longer.own) (sym (longer.paths above at.before));
          under = rw at.next at.under;
        }
  ]
]

paths_go_on : (chains : List (List Layer)) (old new : List Filed) (last above : ℕ) → Longer old new last (path_of old above) → IsUnderEnd chains old new last above → ArePaths chains old → ArePaths chains new
paths_go_on chains old new last above longer at are =
    let inside : above < length old = omega (arith, longer.end_is, at.before) in
    let head : path_of old above ≤ above = are.begin above inside in
    record {
      each = λ number end before within same. elim (cases_lt end last) [
        | inl older ↦
            lead_on_kept chains old new last (path_of old above) number end longer (omega (arith, before, older)) older
            (are.each number end before (omega (arith, longer.end_is, older)) (sym (longer.paths number (omega (arith, before, older))) ∙ same ∙ longer.paths end older))
        | inr newest ↦
            let at_end : end ≡ last = omega (arith, longer.long) in
            let older : number < last = omega (arith, before, at_end) in
            rw at_end
            (toward_newest chains old new last above number longer at are older (sym (longer.paths number older) ∙ same ∙ ap (path_of new) at_end ∙ longer.own))
      ];
      begin = begin_longer chains old new last (path_of old above) longer (omega (arith, head, at.before)) are;
      first = first_longer chains old new last (path_of old above) longer (longer.paths (path_of old above) (omega (arith, head, at.before)) ∙ are.first above inside) are;
    }

-- the section of the class that was closed last

pub under_above : (chains : List (List Layer)) (front : List Layer) (layer : Layer) (above : ℕ) → is_filled layer ≡ true → IsLast chains front (Some above) → down_to (chains ++ (front ++ layer ∷ []) ∷ []) (length (sections_of chains)) ≡ down_to (chains ++ (front ++ layer ∷ []) ∷ []) above ++ layer_of (chains ++ (front ++ layer ∷ []) ∷ []) (length (sections_of chains)) ∷ []
under_above chains front layer above filled at =
    let more : List (List Layer) = (front ++ layer ∷ []) ∷ [] in
    rw (down_to_grows chains more above at.0, new_layer_of chains front layer filled, at.1)
    (new_down_to chains front layer filled ∙ filled_push front layer filled)

pub paths_push : (chains : List (List Layer)) (front : List Layer) (layer : Layer) (class : ℕ) (above : Option ℕ) (old new : List Filed) → is_filled layer ≡ true → length (sections_of chains) ≡ length old → IsLast chains front above → FilesOne layer class above old new → ArePaths chains old → ArePaths (chains ++ (front ++ layer ∷ []) ∷ []) new
paths_push chains front layer class above old new filled count at files are =
    let more : List (List Layer) = (front ++ layer ∷ []) ∷ [] in
    let older : ArePaths (chains ++ more) old = paths_grow chains more old count are in
    elim files.path [
      | inl begins ↦
          let longer : Longer old new (length old) files.filed.path = longer_begun old new files.filed (files.added ∙ ap (λ l. l ++ files.filed ∷ []) begins.1) in
          paths_begun (chains ++ more) old new (length old) (subst (Longer old new (length old)) begins.0 longer) older
      | inr on ↦
          let longer : Longer old new (length old) files.filed.path = longer_on old files.linked new on.number files.filed on.inside on.last on.new_is files.added in
          let long : length files.linked ≡ length old = ap length on.new_is ∙ length-set old on.number (leading_to (length old) (filed_in old on.number)) in
          let next : below_of new on.number ≡ length old =
          ap (λ sections. below_of sections on.number) files.added
          ∙ ap (λ (f : Filed). f.below) (get_or_append_left files.linked (files.filed ∷ []) no_filed on.number (omega (arith, long, on.inside)))
          ∙ ap (λ sections. below_of sections on.number) on.new_is
          ∙ ap (λ (f : Filed). f.below) (get_or-set_same old on.number (leading_to (length old) (filed_in old on.number)) no_filed on.inside)
          in
          let step = under_above chains front layer on.number filled (subst (IsLast chains front) on.above_is at) in
          paths_go_on (chains ++ more) old new (length old) on.number (subst (Longer old new (length old)) on.path_is longer)
          record { before = on.inside; end = on.last; next = next; under = rw (← count) step }
          older
    ]

-- sections of one path

-- one of them stands above another: it is `steps` before it or less
front_within : (chains : List (List Layer)) (sections : List Filed) (steps number end : ℕ) → ArePaths chains sections → number ≤ end → end ≤ number + steps → end < length sections → path_of sections number ≡ path_of sections end → IsFront (down_to chains number) (down_to chains end)
front_within chains sections zero number end are low high inside same =
    let is : number ≡ end = omega arith in
    rw is (IsFront-refl (down_to chains end))
front_within chains sections (suc steps) number end are low high inside same = elim (cases_lt number end) [
  | inl before ↦
      let leads : LeadsOn chains sections number end = are.each number end before inside same in
      IsFront-trans (down_to chains number) (down_to chains (below_of sections number)) (down_to chains end)
      (IsFront-from (down_to chains number) (layer_of chains (below_of sections number) ∷ []) (down_to chains (below_of sections number)) leads.under)
      (front_within chains sections steps (below_of sections number) end are leads.upto (omega (arith, leads.after, high)) inside (leads.path ∙ same))
  | inr after ↦
      let is : number ≡ end = omega arith in
      rw is (IsFront-refl (down_to chains end))
]

pub path_front : (chains : List (List Layer)) (sections : List Filed) (number end : ℕ) → ArePaths chains sections → number ≤ end → end < length sections → path_of sections number ≡ path_of sections end → IsFront (down_to chains number) (down_to chains end)
path_front chains sections number end are low inside same = front_within chains sections end number end are low (omega arith) inside same
