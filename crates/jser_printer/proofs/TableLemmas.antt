-- The table of handles by its fields: what its classes are called.
use Rattle.std.proofs.Common.{◌≡◌, ℕ, zero, suc, ◌+◌, ◌-◌, ◌<◌, ◌≤◌, ◌^◌, List, [], ◌∷◌, ◌++◌, length, map, get_or, slice_get, slice_index_or, Option, Some, None, option_map, refl, ap, sym, ◌∙◌, arith, All, append_assoc, length-append}
use Rattle.std.specs.List.{zip, range_with_len}
use Rattle.std.proofs.lemmas.Option.{slice_get-map, slice_get-get_or}
use Rattle.std.proofs.lemmas.List.{get_or_append_left, get_or-append_right, get_or_default, map_push, length-map, get_or-map}
use Rattle.std.proofs.lemmas.List.Elements.{All-head, All-tail}
use Rattle.std.proofs.lemmas.List.FromFn.{length-range_with_len, get_or-range_with_len}
use Rattle.jser_table.specs.declared.Kind.{Kind}
use Rattle.jser_table.specs.Chains.{chain_in}
use Rattle.jser_table.specs.Lines.{line_in}
use Rattle.jser_table.specs.Tables.{new_entry}
use Rattle.jser_table.specs.Tables.{TableView as Handles}
use Rattle.jser_shown.specs.Known.{NamedLayer, proxy_layer, with_entry, classes_at, own_class_of}
use Rattle.jser_printer.specs.declared.class.KeptClass.{KeptClass}
use Rattle.jser_printer.specs.declared.layer.Layer.{Layer}
use Rattle.jser_printer.specs.Layers.{view_layer, view_layers}
use Rattle.jser_printer.specs.Tables.{NamesView, layer_in, layers_in, no_class, class_in, named_class, named_line, named_lines, view_new, view_entries, view_handles, table_of, AreAmong, IsNumbered, counted, IsSound, IsClassAt, IsChainOf}
use Rattle.jser_printer.proofs.HandleLemmas.{view_push, classes_of_handle}

-- an empty table

pub sound_none : (h : Handles) (layers : List Layer) (classes : List KeptClass) → h.entries ≡ [] → h.chains ≡ [] → h.numbers ≡ [] → h.lines ≡ [] → h.max < 2 ^ 32 → layers ≡ [] → classes ≡ [] → IsSound h (view_layers layers) classes
sound_none h layers classes entries chains numbers lines max l c = record {
  most = max;
  within = omega (arith, ap length entries);
  fewer = omega (arith, ap length chains);
  paired = omega (arith, ap length entries, ap length numbers);
  among = λ i x inside. absurd (omega (arith, ap length numbers));
  long = rw (chains, lines) refl;
  counts = rw (c, lines) refl;
  owns = λ i x inside. absurd (omega (arith, ap length c));
  of = λ i x inside. absurd (omega (arith, ap length lines));
  numbered = λ n inside. absurd (omega (arith, ap length lines));
}

pub table_none : (h : Handles) (layers : List Layer) (classes : List KeptClass) → h.entries ≡ [] → h.lines ≡ [] → layers ≡ [] → table_of h (view_layers layers) classes ≡ record { known = []; layers = []; chains = [] }
table_none h layers classes entries lines l = rw (entries, lines, l) refl

-- where the names of so many classes are the same, so are those of lines of them

pub line_same : (f g : ℕ → NamedLayer) (n : ℕ) → ((m : ℕ) → m < n → f m ≡ g m) → (line : List ℕ) → AreAmong n line → map f line ≡ map g line
line_same f g n same [] among = refl
line_same f g n same (m ∷ line) among =
    let first = same m (All-head (λ m. m < n) m line among) in
    let others = line_same f g n same line (All-tail (λ m. m < n) m line among) in
    cc

pub lines_same : (f g : ℕ → NamedLayer) (n : ℕ) → ((m : ℕ) → m < n → f m ≡ g m) → (lines : List (List ℕ)) → All (AreAmong n) lines → map (map f) lines ≡ map (map g) lines
lines_same f g n same [] among = refl
lines_same f g n same (line ∷ lines) among =
    let first = line_same f g n same line (All-head (AreAmong n) line lines among) in
    let others = lines_same f g n same lines (All-tail (AreAmong n) line lines among) in
    cc

-- the own layer of a chain is its last

own_of_push : (layers : List NamedLayer) (l : NamedLayer) → own_class_of (layers ++ l ∷ []) ≡ l
own_of_push [] l = refl
own_of_push (first ∷ []) l = refl
own_of_push (first ∷ second ∷ layers) l = own_of_push (second ∷ layers) l

-- lines that end with numbers one after another

pub range_push : (a n : ℕ) → range_with_len a (n + 1) ≡ range_with_len a n ++ (a + n) ∷ []
range_push a zero = ap (λ x. x ∷ []) (omega arith)
range_push a (suc n) =
    let e : suc n + 1 ≡ suc (n + 1) = omega arith in
    rw e (ap (λ xs. a ∷ xs) (range_push (a + 1) n ∙ ap (λ x. range_with_len (a + 1) n ++ x ∷ []) (omega arith)))

straight_ends : (above line : List ℕ) (first straight n : ℕ) → line ≡ above ++ range_with_len first (straight + 1) → first + straight ≡ n → line ≡ (above ++ range_with_len first straight) ++ n ∷ []
straight_ends above line first straight n is last =
    is ∙ ap (λ xs. above ++ xs) (range_push first straight)
    ∙ sym (append_assoc above (range_with_len first straight) ((first + straight) ∷ []))
    ∙ ap (λ x. (above ++ range_with_len first straight) ++ x ∷ []) last

straight_at : (above line : List ℕ) (first straight n index back : ℕ) → line ≡ above ++ range_with_len first (straight + 1) → first + straight ≡ n → back ≤ straight → index + back + 1 ≡ length line → slice_get line index ≡ Some (n - back)
straight_at above line first straight n index back is last low at =
    let tail : List ℕ = range_with_len first (straight + 1) in
    let long : length line ≡ length above + (straight + 1) =
    ap length is ∙ length-append above tail ∙ ap (λ k. length above + k) (length-range_with_len first (straight + 1))
    in
    slice_get-get_or line index 0 (omega (arith, at))
    ∙ ap Some
    (ap (λ xs. get_or xs index 0) is
    ∙ get_or-append_right above tail (length above) index 0 refl (omega (arith, at, long, low))
    ∙ get_or-range_with_len first (straight + 1) (index - length above) 0 (omega (arith, at, long, low))
    ∙ omega (arith, at, long, low, last))

-- a table with these fields, and what contracts see of it

module _ (h : Handles) (layers : List NamedLayer) (classes : List KeptClass) (view : NamesView) (is : table_of h layers classes ≡ view) (sound : IsSound h layers classes) where
  pub length_view : length view.chains ≡ length h.lines
  length_view = sym (ap (λ (v : NamesView). length v.chains) is) ∙ length-map h.lines (named_line layers classes)

  pub length_classes : length classes ≡ length h.lines
  length_classes = omega (arith, ap length sound.counts, length-map classes counted, length-map h.lines length)

  pub length_chains : length h.chains ≡ length h.lines
  length_chains = omega (arith, ap length sound.long, length-map h.chains length, length-map h.lines length)

  pub line_named : (n : ℕ) → n < length h.lines → layers_in view.chains n ≡ named_line layers classes (line_in h.lines n)
  line_named n inside = ap (λ (v : NamesView). layers_in v.chains n) (sym is) ∙ get_or-map (named_line layers classes) h.lines n [] [] inside

  -- what is kept of a class

  class_read : (n : ℕ) (class : KeptClass) → n < length h.lines → class ≡ slice_index_or classes n class → class ≡ class_in classes n
  class_read n class inside read = read ∙ get_or_default classes n class no_class (omega (arith, inside, length_classes))

  pub number_kept : (n : ℕ) (class : KeptClass) → n < length view.chains → class ≡ slice_index_or classes n class → class.chain ≡ n
  number_kept n class inside read =
      let here : n < length h.lines = omega (arith, inside, length_view) in
      let numbered : IsNumbered h.lines classes n = sound.numbered n here in
      ap (λ (c : KeptClass). c.chain) (class_read n class here read) ∙ numbered.number

  pub counted_line : (n : ℕ) → n < length h.lines → (class_in classes n).layers ≡ length (line_in h.lines n)
  counted_line n inside =
      sym (get_or-map counted classes n no_class 0 (omega (arith, inside, length_classes)))
      ∙ ap (λ counts. get_or counts n 0) sound.counts
      ∙ get_or-map length h.lines n [] 0 inside

  line_long : (n : ℕ) → n < length h.lines → length (layers_in view.chains n) ≡ length (line_in h.lines n)
  line_long n inside = ap length (line_named n inside) ∙ length-map (line_in h.lines n) (named_class layers classes)

  pub layers_kept : (n : ℕ) (class : KeptClass) → n < length view.chains → class ≡ slice_index_or classes n class → class.layers ≡ length (layers_in view.chains n)
  layers_kept n class inside read =
      let here : n < length h.lines = omega (arith, inside, length_view) in
      ap counted (class_read n class here read) ∙ counted_line n here ∙ sym (line_long n here)

  own_inside : (n : ℕ) → n < length h.lines → (class_in classes n).own < length layers
  own_inside n inside = sound.owns n no_class (omega (arith, inside, length_classes))

  -- the own layer of a class

  abbrev front_of : (n : ℕ) → IsNumbered h.lines classes n → List ℕ
  front_of n numbered = numbered.above ++ range_with_len numbered.first (class_in classes n).straight

  line_ends : (n : ℕ) → n < length h.lines → (numbered : IsNumbered h.lines classes n) → layers_in view.chains n ≡ named_line layers classes (front_of n numbered) ++ named_class layers classes n ∷ []
  line_ends n inside numbered =
      line_named n inside
      ∙ ap (named_line layers classes) (straight_ends numbered.above (line_in h.lines n) numbered.first (class_in classes n).straight n numbered.line numbered.last)
      ∙ map_push (named_class layers classes) (front_of n numbered) n

  own_named : (n : ℕ) → n < length h.lines → own_class_of (layers_in view.chains n) ≡ named_class layers classes n
  own_named n inside =
      let numbered : IsNumbered h.lines classes n = sound.numbered n inside in
      ap own_class_of (line_ends n inside numbered) ∙ own_of_push (named_line layers classes (front_of n numbered)) (named_class layers classes n)

  pub own_kept : (kept : List Layer) (n : ℕ) (class : KeptClass) (l : Layer) → layers ≡ view_layers kept → n < length view.chains → class ≡ slice_index_or classes n class → l ≡ slice_index_or kept class.own l → own_class_of (layers_in view.chains n) ≡ view_layer l
  own_kept kept n class l told inside read read_layer =
      let here : n < length h.lines = omega (arith, inside, length_view) in
      let same : class ≡ class_in classes n = class_read n class here read in
      let below : class.own < length kept =
      omega (arith, own_inside n here, ap (λ (c : KeptClass). c.own) same, ap length told, length-map kept view_layer)
      in
      own_named n here
      ∙ ap (λ (c : KeptClass). layer_in layers c.own) (sym same)
      ∙ ap (λ ls. layer_in ls class.own) told
      ∙ get_or-map view_layer kept class.own l proxy_layer below
      ∙ ap view_layer (sym read_layer)

  -- the class that has the layer of a chain at some index

  pub straight_inside : (n : ℕ) (class : KeptClass) → n < length view.chains → class ≡ slice_index_or classes n class → class.straight ≤ n
  straight_inside n class inside read =
      let here : n < length h.lines = omega (arith, inside, length_view) in
      let numbered : IsNumbered h.lines classes n = sound.numbered n here in
      omega (arith, numbered.last, ap (λ (c : KeptClass). c.straight) (class_read n class here read))

  pub layer_straight : (n index layers_n back : ℕ) (class : KeptClass) → n < length view.chains → class ≡ slice_index_or classes n class → layers_n ≡ length (layers_in view.chains n) → index < length (layers_in view.chains n) → back ≡ layers_n - 1 - index → back ≤ class.straight → slice_get (layers_in view.chains n) index ≡ Some (own_class_of (layers_in view.chains (n - back)))
  layer_straight n index layers_n back class inside read count low is_back straight =
      let here : n < length h.lines = omega (arith, inside, length_view) in
      let numbered : IsNumbered h.lines classes n = sound.numbered n here in
      let same : class.straight ≡ (class_in classes n).straight = ap (λ (c : KeptClass). c.straight) (class_read n class here read) in
      ap (λ ls. slice_get ls index) (line_named n here)
      ∙ slice_get-map (named_class layers classes) (line_in h.lines n) index
      ∙ ap (option_map (named_class layers classes))
      (straight_at numbered.above (line_in h.lines n) numbered.first (class_in classes n).straight n index back numbered.line numbered.last (omega (arith, straight, same)) (omega (arith, count, low, is_back, line_long n here)))
      ∙ ap Some (sym (own_named (n - back) (omega (arith, here))))

  pub layer_at_number : (n number index m : ℕ) → n < length view.chains → number ≡ n → slice_get (line_in h.lines number) index ≡ Some m → m < length h.chains → slice_get (layers_in view.chains n) index ≡ Some (own_class_of (layers_in view.chains m))
  layer_at_number n number index m inside same at inside_m =
      ap (λ ls. slice_get ls index) (line_named n (omega (arith, inside, length_view)))
      ∙ slice_get-map (named_class layers classes) (line_in h.lines n) index
      ∙ ap (option_map (named_class layers classes)) (ap (λ k. slice_get (line_in h.lines k) index) (sym same) ∙ at)
      ∙ ap Some (sym (own_named m (omega (arith, inside_m, length_chains))))

  -- a chain of `jser_table` is as long as the line of its class

  pub long_alike : (n : ℕ) → n < length h.lines → length (chain_in h.chains n) ≡ length (line_in h.lines n)
  long_alike n inside =
      sym (get_or-map length h.chains n [] 0 (omega (arith, inside, length_chains)))
      ∙ ap (λ ls. get_or ls n 0) sound.long ∙ get_or-map length h.lines n [] 0 inside

  pub chain_inside : (n number : ℕ) → n < length view.chains → number ≡ n → number < length h.chains
  chain_inside n number inside same = omega (arith, inside, length_view, length_chains, same)

  pub index_inside : (n number index : ℕ) → n < length view.chains → number ≡ n → index < length (layers_in view.chains n) → index < length (chain_in h.chains number)
  index_inside n number index inside same low =
      let here : n < length h.lines = omega (arith, inside, length_view) in
      omega (
        arith,
        low,
        long_alike n here,
        ap (λ k. length (chain_in h.chains k)) same,
        line_long n here,
      )

  -- the chain of a handle
  pub is_chain : (handle : ℕ) (chain : Option ℕ) → IsClassAt h handle chain → IsChainOf view handle chain
  is_chain handle None at =
      ap (λ (v : NamesView). classes_at v.known handle) (sym is)
      ∙ classes_of_handle (named_lines layers classes h.lines) h handle None sound.paired at
  is_chain handle (Some n) has = (
    omega (arith, has.inside, length_view, length_chains),
    ap (λ (v : NamesView). classes_at v.known handle) (sym is)
        ∙ classes_of_handle (named_lines layers classes h.lines) h handle (Some n) sound.paired has.number_is
        ∙ ap (λ (v : NamesView). layers_in v.chains n) is,
  )

  -- one more layer changes no chain
  pub chains_same : (old new : List Layer) (l : Layer) → layers ≡ view_layers old → new ≡ old ++ l ∷ [] → named_lines (view_layers new) classes h.lines ≡ view.chains
  chains_same old new l told added =
      let more : view_layers new ≡ layers ++ view_layer l ∷ [] =
      ap view_layers added ∙ map_push view_layer old l ∙ ap (λ ls. ls ++ view_layer l ∷ []) (sym told)
      in
      ap (λ ls. named_lines ls classes h.lines) more
      ∙ lines_same (named_class (layers ++ view_layer l ∷ []) classes) (named_class layers classes) (length h.lines)
      (λ m inside. get_or_append_left layers (view_layer l ∷ []) proxy_layer (class_in classes m).own (own_inside m inside)) h.lines sound.of
      ∙ ap (λ (v : NamesView). v.chains) is

  pub known_same : (old new : List Layer) (l : Layer) → layers ≡ view_layers old → new ≡ old ++ l ∷ [] → view_handles (named_lines (view_layers new) classes h.lines) h ≡ view.known
  known_same old new l told added =
      ap (λ chains. view_handles chains h) (chains_same old new l told added ∙ ap (λ (v : NamesView). v.chains) (sym is))
      ∙ ap (λ (v : NamesView). v.known) is

  -- one more handle
  pub known_more : (new : Handles) (kind : Kind) → new.entries ≡ h.entries ++ new_entry kind ∷ [] → new.numbers ≡ h.numbers ++ None ∷ [] → new.lines ≡ h.lines → view_handles (named_lines layers classes new.lines) new ≡ with_entry view.known (view_new kind)
  known_more new kind entries numbers lines =
      let C = named_lines layers classes h.lines in
      ap (λ ls. view_handles (named_lines layers classes ls) new) lines
      ∙ ap (λ es. view_entries C (zip es new.numbers)) entries
      ∙ ap (λ ns. view_entries C (zip (h.entries ++ new_entry kind ∷ []) ns)) numbers
      ∙ view_push C h.entries h.numbers (new_entry kind) sound.paired
      ∙ ap (λ (v : NamesView). v.known ++ view_new kind ∷ []) is
