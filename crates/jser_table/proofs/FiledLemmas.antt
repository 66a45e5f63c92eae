-- The list of sections beside that of closed descriptors: one more class, and what a section and the walks up a
-- chain tell of the sections of an object.
use Rattle.std.proofs.Common.{◌≡◌, ℕ, ◌+◌, ◌-◌, ◌<◌, ◌≤◌, ◌^◌, Bool, true, false, IsTrue, List, [], ◌∷◌, ◌++◌, length, drop, set, get_or, count_by, Option, Some, refl, ap, sym, ◌∙◌, subst, arith, append_assoc, inl, inr}
use Rattle.std.proofs.lemmas.Bool.{cases_lt, cases_eq, false≢true}
use Rattle.std.proofs.lemmas.List.{get_or_default, get_or_append_left, get_or_push, get_or-set_same, get_or-set_other, length-set, length_push, drop_at, drop_all}
use Rattle.jser_table.specs.declared.layer.Layer.{Layer}
use Rattle.jser_table.specs.declared.descriptor.Descriptor.{Descriptor}
use Rattle.jser_table.specs.declared.descriptor.Filed.{Filed}
use Rattle.jser_table.specs.Codes.{AreLeading}
use Rattle.jser_table.specs.Chains.{own_layer, is_filled, chain_in, IsFront}
use Rattle.jser_table.specs.Sections.{filled_layers, sections_of, HasSection, down_to, or_no_layer, layer_of, under, IsOn, HoldsFor, IsNext, AreSections}
use Rattle.jser_table.specs.Descriptors.{chain_above, chain_of_parent, chains_of, IsTold, IsUnder, IsLast, IsFiled, AreFiled, AreShelved}
use Rattle.jser_table.specs.Upwards.{no_filed, filed_in, IsUpward, IsAfter}
use Rattle.jser_table.specs.Paths.{section_in, path_of, below_of, leading_to, LeadsOn, ArePaths, IsPathUnder, FilesOne, FilesIf, Files}
use Rattle.jser_table.proofs.LayerLemmas.{IsFront-refl, own_layer_push}
use Rattle.jser_table.proofs.SectionLemmas.{sections_none, sections_push, sections_same, length_filled, down_to_grows, layer_of_grows, new_down_to, new_layer_of}
use Rattle.jser_table.proofs.UpwardLemmas.{upward_grows, upward_new}
use Rattle.jser_table.proofs.PathLemmas.{paths_grow, paths_none, paths_push, path_front}
use Rattle.jser_table.specs.Lined.{lines_of, LinesUnder}
use Rattle.jser_table.proofs.LineLemmas.{lined_none, lined_push}
use Rattle.jser_table.proofs.ChainLemmas.{chains_of_none, length_chains_of, told_push, chains_push}

some_injective : {X : Type 0} {x y : X} → Some x ≡ Some y → x ≡ y
some_injective e = cc

-- what was said of a section stays
filed_grows : (chains : List (List Layer)) (chain : List Layer) (number : ℕ) (filed : Filed) → HasSection chains number → IsFiled chains number filed → IsFiled (chains ++ chain ∷ []) number filed
filed_grows chains chain number filed has told =
    let same : chain_in (chains ++ chain ∷ []) filed.class ≡ chain_in chains filed.class = get_or_append_left chains (chain ∷ []) [] filed.class told.class_in in
    let layer_same : layer_of (chains ++ chain ∷ []) number ≡ layer_of chains number = layer_of_grows chains (chain ∷ []) number has in
    record {
      class_in = omega (arith, told.class_in, length_push chains chain);
      chain = rw (down_to_grows chains (chain ∷ []) number has, same) told.chain;
      filled = rw layer_same told.filled;
      own = rw (same, layer_same) told.own;
      holds = rw layer_same told.holds;
      leading = rw layer_same told.leading;
      upward = upward_grows chains (chain ∷ []) number filed.upward has told.upward;
    }

-- the section of the class that was closed last
filed_new : (chains : List (List Layer)) (above : List Layer) (layer : Layer) (filed : Filed) → is_filled layer ≡ true → filed.class ≡ length chains → HoldsFor layer (section_in filed) → AreLeading layer.codes filed.leading → IsUpward (chains ++ (above ++ layer ∷ []) ∷ []) (length (sections_of chains)) filed.upward → IsFiled (chains ++ (above ++ layer ∷ []) ∷ []) (length (sections_of chains)) filed
filed_new chains above layer filed is here holds leading upward =
    let chain : List Layer = above ++ layer ∷ [] in
    let own_chain : chain_in (chains ++ chain ∷ []) filed.class ≡ chain = get_or_push chains chain [] filed.class (sym here) in
    let own : layer_of (chains ++ chain ∷ []) (length (sections_of chains)) ≡ layer = new_layer_of chains above layer is in
    record {
      class_in = omega (arith, here, length_push chains chain);
      chain = rw own_chain (new_down_to chains above layer is);
      filled = rw own is;
      own = rw (own_chain, own) (own_layer_push above layer);
      holds = rw own holds;
      leading = rw own leading;
      upward = upward;
    }

-- a class with a section: it comes at the end
pub filed_push : (chains : List (List Layer)) (above : List Layer) (layer : Layer) (sections : List Filed) (filed : Filed) → AreFiled chains sections → is_filled layer ≡ true → filed.class ≡ length chains → HoldsFor layer (section_in filed) → AreLeading layer.codes filed.leading → IsUpward (chains ++ (above ++ layer ∷ []) ∷ []) (length (sections_of chains)) filed.upward → AreFiled (chains ++ (above ++ layer ∷ []) ∷ []) (sections ++ filed ∷ [])
filed_push chains above layer sections filed are is here holds leading upward =
    let longer : length (sections_of (chains ++ (above ++ layer ∷ []) ∷ [])) ≡ length (sections_of chains) + 1 =
    ap (λ (s : List (List Layer)). length s) (sections_push chains above layer is) ∙ length_push (sections_of chains) (filled_layers (above ++ layer ∷ []))
    in
    record {
      count = omega (arith, longer, are.count, length_push sections filed);
      each = λ number x inside read. elim (cases_lt number (length sections)) [
        | inl before ↦
            filed_grows chains (above ++ layer ∷ []) number x (omega (arith, before, are.count))
            (are.each number x before (read ∙ get_or_append_left sections (filed ∷ []) x number before))
        | inr after ↦
            let last : length sections ≡ number = omega (arith, length_push sections filed) in
            let same : x ≡ filed = read ∙ get_or_push sections filed x number last in
            rw (same, sym last, sym are.count) (filed_new chains above layer filed is here holds leading upward)
      ];
    }

-- a class with none
pub filed_same : (chains : List (List Layer)) (above : List Layer) (layer : Layer) (sections : List Filed) → AreFiled chains sections → is_filled layer ≡ false → AreFiled (chains ++ (above ++ layer ∷ []) ∷ []) sections
filed_same chains above layer sections are is = record {
  count = ap (λ (s : List (List Layer)). length s) (sections_same chains above layer is) ∙ are.count;
  each = λ number x inside read. filed_grows chains (above ++ layer ∷ []) number x (omega (arith, inside, are.count)) (are.each number x inside read);
}

-- no classes
pub shelved_none : (ds : List Descriptor) (sections : List Filed) → ds ≡ [] → sections ≡ [] → AreShelved ds sections
shelved_none ds sections e f = rw (e, f) record {
  told = λ place d inside read. absurd (omega arith);
  lined = lined_none [] refl;
  filed = record {
    count = sections_none _ (chains_of_none [] refl);
    each = λ number filed inside read. absurd (omega arith);
  };
  paths = paths_none _ [] refl;
  fewer = omega arith;
}

-- a link between two sections changes nothing that is said of them
linked_filed : (chains : List (List Layer)) (number next : ℕ) (f : Filed) → IsFiled chains number f → IsFiled chains number (leading_to next f)
linked_filed chains number next f is = record {
  class_in = is.class_in;
  chain = is.chain;
  filled = is.filled;
  own = is.own;
  holds = is.holds;
  leading = is.leading;
  upward = is.upward;
}

set_filed : (chains : List (List Layer)) (sections : List Filed) (a next : ℕ) → a < length sections → AreFiled chains sections → AreFiled chains (set sections a (leading_to next (filed_in sections a)))
set_filed chains sections a next inside are =
    let f : Filed = filed_in sections a in
    let told : IsFiled chains a f = are.each a f inside (get_or_default sections a no_filed f inside) in
    record {
      count = are.count ∙ sym (length-set sections a (leading_to next f));
      each = λ number x within read. elim (cases_eq number a) [
        | inl here ↦
            let same : x ≡ leading_to next f = read ∙ ap (λ n. get_or (set sections a (leading_to next f)) n x) here ∙ get_or-set_same sections a (leading_to next f) x inside in
            rw (same, here) (linked_filed chains a next f told)
        | inr other ↦ are.each number x (omega (arith, within, length-set sections a (leading_to next f))) (read ∙ get_or-set_other sections a number (leading_to next f) x other)
      ];
    }

path_filed : (chains : List (List Layer)) (above : Option ℕ) (path : ℕ) (old new : List Filed) → IsPathUnder above path old new → AreFiled chains old → AreFiled chains new
path_filed chains above path old new (inl begins) are = rw begins.1 are
path_filed chains above path old new (inr on) are = rw on.new_is (set_filed chains old on.number (length old) on.inside are)

-- one more class

filed_if : (b : Bool) (chains : List (List Layer)) (front : List Layer) (layer : Layer) (above : Option ℕ) (old new : List Filed) → is_filled layer ≡ b → IsLast chains front above → AreFiled chains old → FilesIf b layer (length chains) above old new → AreFiled (chains ++ (front ++ layer ∷ []) ∷ []) new
filed_if true chains front layer above old new is at are files =
    rw files.added
    (filed_push chains front layer files.linked files.filed (path_filed chains above files.filed.path old files.linked files.path are) is files.class_is files.holds files.leading
    (upward_new chains front layer above old files.filed.upward is are at files.upward))
filed_if false chains front layer above old new is at are files = rw files (filed_same chains front layer old are is)

paths_if : (b : Bool) (chains : List (List Layer)) (front : List Layer) (layer : Layer) (class : ℕ) (above : Option ℕ) (old new : List Filed) → is_filled layer ≡ b → length (sections_of chains) ≡ length old → IsLast chains front above → ArePaths chains old → FilesIf b layer class above old new → ArePaths (chains ++ (front ++ layer ∷ []) ∷ []) new
paths_if true chains front layer class above old new is count at are files = paths_push chains front layer class above old new is count at files are
paths_if false chains front layer class above old new is count at are files = rw files (paths_grow chains ((front ++ layer ∷ []) ∷ []) old count are)

pub shelved_push : (old new : List Descriptor) (d : Descriptor) (parent : Option ℕ) (layer : Layer) (last : Option ℕ) (sections filed : List Filed) → AreShelved old sections → length old < 2 ^ 32 - 3 → new ≡ old ++ d ∷ [] → IsUnder (chains_of old) parent layer d → IsLast (chains_of old) (chain_of_parent (chains_of old) parent) last → Files layer (length old) last sections filed → LinesUnder (lines_of old) parent d.links → AreShelved new filed
shelved_push old new d parent layer last sections filed are few is under at_last files lines = record {
  told = told_push old new d parent layer are.told is under;
  lined = lined_push old new d parent layer are.told are.lined is under lines;
  filed =
      rw (chains_push old new d parent layer is under)
      (filed_if (is_filled layer) (chains_of old) (chain_of_parent (chains_of old) parent) layer last sections filed refl at_last are.filed (rw (length_chains_of old) files));
  paths =
      rw (chains_push old new d parent layer is under)
      (paths_if (is_filled layer) (chains_of old) (chain_of_parent (chains_of old) parent) layer (length old) last sections filed refl are.filed.count at_last are.paths files);
  fewer = omega (arith, few, ap length is, length_push old d);
}

-- a class files its section, or none
pub files_one : (layer own whole : Layer) (class : ℕ) (above : Option ℕ) (old new : List Filed) → true ≡ is_filled own → own ≡ layer → whole ≡ layer → FilesOne whole class above old new → Files layer class above old new
files_one layer own whole class above old new filled same whole_same files =
    subst (λ b. FilesIf b layer class above old new) (filled ∙ ap is_filled same) (subst (λ l. FilesOne l class above old new) whole_same files)

pub files_none : (layer own : Layer) (class : ℕ) (above : Option ℕ) (old : List Filed) → false ≡ is_filled own → own ≡ layer → Files layer class above old old
files_none layer own class above old empty same = subst (λ b. FilesIf b layer class above old old) (empty ∙ ap is_filled same) refl

-- the section at a place of the list
pub filed_at_place : (ds : List Descriptor) (sections : List Filed) (number : ℕ) (other : Filed) → AreShelved ds sections → HasSection (chains_of ds) number → IsFiled (chains_of ds) number (get_or sections number other)
filed_at_place ds sections number other are has =
    let inside : number < length sections = omega (arith, has, are.filed.count) in
    are.filed.each number (get_or sections number other) inside (get_or_default sections number other (get_or sections number other) inside)

not_empty : (layers : List Layer) → IsTrue (is_filled (or_no_layer (own_layer layers))) → 0 < length layers
not_empty [] filled = absurd (false≢true filled)
not_empty (layer ∷ layers) filled = omega arith

-- there is a layer down to each section: its own
pub has_layers : (ds : List Descriptor) (sections : List Filed) (number : ℕ) → AreShelved ds sections → HasSection (chains_of ds) number → 0 < length (down_to (chains_of ds) number)
unfolding layer_of
has_layers ds sections number are has = not_empty (down_to (chains_of ds) number) (filed_at_place ds sections number no_filed are has).filled

-- the layer of a section is that of its class
pub layer_of_class : (chains : List (List Layer)) (number place : ℕ) (filed : Filed) (d : Descriptor) → IsFiled chains number filed → filed.class ≡ place → IsTold chains place d → d.layer ≡ layer_of chains number
layer_of_class chains number place filed d told is class =
    some_injective (sym (ap own_layer class.own ∙ own_layer_push (chain_above chains d.links) d.layer) ∙ ap (λ n. own_layer (chain_in chains n)) (sym is) ∙ told.own)

-- after the last one there is none
pub none_after : (chains : List (List Layer)) (last section : ℕ) → length (down_to chains last) ≤ length (down_to chains section) → under chains last section ≡ []
unfolding under
none_after chains last section few = drop_all (length (down_to chains section)) (down_to chains last) few

-- on a path

-- the last section has none after it
pub after_last : (chains : List (List Layer)) (last section : ℕ) → section ≡ last → under chains last section ≡ []
after_last chains last section is = none_after chains last section (rw is (omega arith))

-- the next one is the one that this one leads to
pub next_on_path : (ds : List Descriptor) (sections : List Filed) (last section : ℕ) (own lowest : Filed) → AreShelved ds sections → IsOn (chains_of ds) last section → own ≡ filed_in sections section → lowest ≡ filed_in sections last → own.path ≡ lowest.path → section < last → IsNext (chains_of ds) last section (Some own.below)
unfolding under
next_on_path ds sections last section own lowest are on own_is lowest_is on_path before =
    let chains : List (List Layer) = chains_of ds in
    let same : path_of sections section ≡ path_of sections last = sym (ap (λ (f : Filed). f.path) own_is) ∙ on_path ∙ ap (λ (f : Filed). f.path) lowest_is in
    let inside : last < length sections = omega (arith, on.last_in, are.filed.count) in
    let leads : LeadsOn chains sections section last = are.paths.each section last before inside same in
    let below : ℕ = below_of sections section in
    let here : HasSection chains below = omega (arith, on.last_in, leads.upto) in
    let front : IsFront (down_to chains below) (down_to chains last) = path_front chains sections below last are.paths leads.upto inside (leads.path ∙ same) in
    let rest : List Layer = drop (length (down_to chains below)) (down_to chains last) in
    let all : down_to chains last ≡ down_to chains section ++ layer_of chains below ∷ rest =
    front.rest ∙ ap (λ front. front ++ rest) leads.under ∙ append_assoc (down_to chains section) (layer_of chains below ∷ []) rest
    in
    rw (ap (λ (f : Filed). f.below) own_is) (
      record { last_in = on.last_in; section_in = here; front = front; filled = (filed_at_place ds sections below no_filed are here).filled },
      ap (drop (length (down_to chains section))) all ∙ drop_at (down_to chains section) (layer_of chains below ∷ rest) (length (down_to chains section)) refl,
    )

one_layer : (layers : List Layer) → length layers ≡ 1 → layers ≡ or_no_layer (own_layer layers) ∷ []
one_layer [] e = absurd (omega arith)
one_layer (layer ∷ []) e = refl
one_layer (layer ∷ more ∷ layers) e = absurd (omega arith)

-- a section with no layer above, from which data lead down to their last section, is the first of these
first_at_top : (ds : List Descriptor) (sections : List Filed) (whole : List Layer) (first last : ℕ) → AreShelved ds sections → IsLast (chains_of ds) whole (Some last) → HasSection (chains_of ds) first → IsFront (down_to (chains_of ds) first) (down_to (chains_of ds) last) → length (down_to (chains_of ds) first) ≡ 1 → AreSections (chains_of ds) whole (Some record { first = first; last = last })
unfolding layer_of under
first_at_top ds sections whole first last are at_last here front one =
    let chains : List (List Layer) = chains_of ds in
    let single = one_layer (down_to chains first) one in (
      record { last_in = at_last.0; section_in = here; front = front; filled = (filed_at_place ds sections first no_filed are here).filled },
      sym at_last.1 ∙ front.rest ∙ ap (λ front. front ++ drop (length (down_to chains first)) (down_to chains last)) single,
    )

-- as the first section of the path of the last one, where it has none above
pub first_on_path : (ds : List Descriptor) (sections : List Filed) (whole : List Layer) (last path : ℕ) (filed : Filed) → AreShelved ds sections → IsLast (chains_of ds) whole (Some last) → path ≡ path_of sections last → IsFiled (chains_of ds) path filed → filed.upward.count ≡ 1 → AreSections (chains_of ds) whole (Some record { first = path; last = last })
first_on_path ds sections whole last path filed are at_last path_is is one =
    let inside : last < length sections = omega (arith, at_last.0, are.filed.count) in
    let low : path_of sections last ≤ last = are.paths.begin last inside in
    let front = path_front (chains_of ds) sections (path_of sections last) last are.paths low inside (are.paths.first last inside) in
    first_at_top ds sections whole path last are at_last (omega (arith, at_last.0, low, path_is)) (rw path_is front)
    (sym is.upward.count ∙ one)

-- as the one that a walk finds with none above it
pub first_by_walk : (ds : List Descriptor) (sections : List Filed) (whole : List Layer) (last first : ℕ) → AreShelved ds sections → IsLast (chains_of ds) whole (Some last) → IsAfter (chains_of ds) last 0 first → AreSections (chains_of ds) whole (Some record { first = first; last = last })
first_by_walk ds sections whole last first are at_last found = first_at_top ds sections whole first last are at_last found.inside found.front found.long

-- as the last one itself, where a chain has but one
pub alone : (ds : List Descriptor) (sections : List Filed) (whole : List Layer) (last : ℕ) → AreShelved ds sections → IsLast (chains_of ds) whole (Some last) → count_by is_filled whole ≡ 1 → AreSections (chains_of ds) whole (Some record { first = last; last = last })
alone ds sections whole last are at_last one =
    first_at_top ds sections whole last last are at_last at_last.0 (IsFront-refl (down_to (chains_of ds) last))
    (ap length at_last.1 ∙ length_filled whole ∙ one)
