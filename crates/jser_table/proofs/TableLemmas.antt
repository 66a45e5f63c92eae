-- The entries of a table, seen through the numbers of their chains.
use Rattle.std.proofs.Common.{◌≡◌, ℕ, zero, suc, ◌+◌, ◌-◌, ◌<◌, ◌≤◌, cond, IsTrue, List, [], ◌∷◌, ◌++◌, length, map, set, slice_get, count_by, Option, Some, None, option_map, refl, ap, sym, ◌∙◌, subst, arith}
use Rattle.std.specs.List.{All}
use Rattle.std.proofs.lemmas.Bool.{false≢true}
use Rattle.std.proofs.lemmas.Option.{slice_get-map, slice_get-get_or, get_or_from_slice_get, slice_get_within}
use Rattle.std.proofs.lemmas.List.{get_or_append_left, get_or-set_same, get_or_push, map-set, map_push, length-set, length_push}
use Rattle.std.proofs.lemmas.List.Elements.{All-set, All-head, All-tail, All-weaker}
use Rattle.std.proofs.lemmas.List.Sums.{sum_by-cons}
use Rattle.jser_table.specs.declared.layer.Layer.{Layer}
use Rattle.jser_table.specs.declared.entry.Kind.{Kind}
use Rattle.jser_table.specs.declared.entry.Kind.TheVariants as kind
use Rattle.jser_table.specs.declared.entry.Kept.{Kept}
use Rattle.jser_table.specs.declared.entry.Kept.TheVariants as kept
use Rattle.jser_table.specs.Entries.{closed_entry, chain_of, chain_at, is_pending, is_closed}
use Rattle.jser_table.specs.Chains.{chain_in}
use Rattle.jser_table.specs.Descriptors.{chain_of_parent}
use Rattle.jser_table.specs.declared.class.Class.{Class}
use Rattle.jser_table.specs.Lines.{told_number, number_at, parent_number, answered_number}
use Rattle.jser_table.specs.Stored.{ChainList}
use Rattle.jser_table.specs.Tables.{TableView, new_entry, view_entry, closed_under, parent_chain, new_kept, closed_kept, is_pending_kept, kept_number, is_pending_slot, is_closed_slot, IsAmong, IsNumberOf, IsSound}

count_by_pending : (e : Kept) (entries : List Kept) → count_by is_pending_kept (e ∷ entries) ≡ cond (is_pending_kept e) 1 0 + count_by is_pending_kept entries
count_by_pending e entries = sum_by-cons (λ x. cond (is_pending_kept x) 1 0) e entries

some_injective : {X : Type 0} {x y : X} → Some x ≡ Some y → x ≡ y
some_injective e = cc

view_closed : (chains : List (List Layer)) (e : Option Kept) → is_closed (option_map (view_entry chains) e) ≡ is_closed_slot e
view_closed chains None = refl
view_closed chains (Some kept.Text) = refl
view_closed chains (Some kept.Other) = refl
view_closed chains (Some kept.Pending) = refl
view_closed chains (Some (kept.Closed chain)) = refl

view_pending : (chains : List (List Layer)) (e : Option Kept) → is_pending (option_map (view_entry chains) e) ≡ is_pending_slot e
view_pending chains None = refl
view_pending chains (Some kept.Text) = refl
view_pending chains (Some kept.Other) = refl
view_pending chains (Some kept.Pending) = refl
view_pending chains (Some (kept.Closed chain)) = refl

pub is_closed_view : (chains : List (List Layer)) (entries : List Kept) (i : ℕ) → is_closed (slice_get (map (view_entry chains) entries) i) ≡ is_closed_slot (slice_get entries i)
is_closed_view chains entries i = ap is_closed (slice_get-map (view_entry chains) entries i) ∙ view_closed chains (slice_get entries i)

pub is_pending_view : (chains : List (List Layer)) (entries : List Kept) (i : ℕ) → is_pending (slice_get (map (view_entry chains) entries) i) ≡ is_pending_slot (slice_get entries i)
is_pending_view chains entries i = ap is_pending (slice_get-map (view_entry chains) entries i) ∙ view_pending chains (slice_get entries i)

pub chain_at_view : (chains : List (List Layer)) (entries : List Kept) (i chain : ℕ) → slice_get entries i ≡ Some (closed_kept chain) → chain_at (map (view_entry chains) entries) i ≡ chain_in chains chain
chain_at_view chains entries i chain is =
    ap chain_of (slice_get-map (view_entry chains) entries i ∙ ap (option_map (view_entry chains)) is)

-- closed entries keep numbers of chains

pub among_chains : (n : ℕ) (entries : List Kept) (i chain : ℕ) → All (IsAmong n) entries → slice_get entries i ≡ Some (closed_kept chain) → chain < n
among_chains n entries i chain among is =
    subst (IsAmong n) (get_or_from_slice_get entries i (closed_kept chain) (closed_kept chain) is)
    (among i (closed_kept chain) (slice_get_within entries i (closed_kept chain) is))

IsAmong-more : (n m : ℕ) → n ≤ m → (e : Kept) → IsAmong n e → IsAmong m e
IsAmong-more n m le kept.Text among = tt
IsAmong-more n m le kept.Other among = tt
IsAmong-more n m le kept.Pending among = tt
IsAmong-more n m le (kept.Closed chain) among = omega (arith, among)

-- one more chain changes no entry
view_entry-more : (chains : List (List Layer)) (chain : List Layer) (e : Kept) → IsAmong (length chains) e → view_entry (chains ++ chain ∷ []) e ≡ view_entry chains e
view_entry-more chains chain kept.Text among = refl
view_entry-more chains chain kept.Other among = refl
view_entry-more chains chain kept.Pending among = refl
view_entry-more chains chain (kept.Closed n) among = ap closed_entry (get_or_append_left chains (chain ∷ []) [] n among)

view_more : (chains : List (List Layer)) (chain : List Layer) (entries : List Kept) → All (IsAmong (length chains)) entries → map (view_entry (chains ++ chain ∷ [])) entries ≡ map (view_entry chains) entries
view_more chains chain [] among = refl
view_more chains chain (e ∷ entries) among =
    let first = view_entry-more chains chain e (All-head (IsAmong (length chains)) e entries among) in
    let others = view_more chains chain entries (All-tail (IsAmong (length chains)) e entries among) in
    cc

view_close : (chains : List (List Layer)) (chain : List Layer) (entries : List Kept) (i : ℕ) → All (IsAmong (length chains)) entries → map (view_entry (chains ++ chain ∷ [])) (set entries i (closed_kept (length chains))) ≡ set (map (view_entry chains) entries) i (closed_entry chain)
view_close chains chain entries i among =
    map-set (view_entry (chains ++ chain ∷ [])) entries i (closed_kept (length chains))
    ∙ ap (λ es. set es i (closed_entry (chain_in (chains ++ chain ∷ []) (length chains)))) (view_more chains chain entries among)
    ∙ ap (λ c. set (map (view_entry chains) entries) i (closed_entry c)) (get_or_push chains chain [] (length chains) refl)

-- the chain of the parent, by its number
pub parent_among : (n : ℕ) (entries : List Kept) (parent chain : Option ℕ) → All (IsAmong n) entries → IsNumberOf entries parent chain → (x : ℕ) → chain ≡ Some x → x < n
parent_among n entries None None among is x here = cc
parent_among n entries None (Some chain) among is x here = absurd is
parent_among n entries (Some number) None among is x here = absurd is
parent_among n entries (Some number) (Some chain) among is x here =
    subst (λ c. c < n) (some_injective here) (among_chains n entries number chain among is)

parent_same : (chains : List (List Layer)) (entries : List Kept) (parent chain : Option ℕ) → IsNumberOf entries parent chain → parent_chain (map (view_entry chains) entries) parent ≡ chain_of_parent chains chain
parent_same chains entries None None is = refl
parent_same chains entries None (Some chain) is = absurd is
parent_same chains entries (Some number) None is = absurd is
parent_same chains entries (Some number) (Some chain) is = chain_at_view chains entries number chain is

pub closed_view : (old new : List (List Layer)) (entries : List Kept) (i : ℕ) (parent chain : Option ℕ) (layer : Layer) → All (IsAmong (length old)) entries → IsNumberOf entries parent chain → new ≡ old ++ (chain_of_parent old chain ++ layer ∷ []) ∷ [] → map (view_entry new) (set entries i (closed_kept (length old))) ≡ set (map (view_entry old) entries) i (closed_under (map (view_entry old) entries) parent layer)
closed_view old new entries i parent chain layer among is added =
    ap (λ chains. map (view_entry chains) (set entries i (closed_kept (length old)))) added
    ∙ view_close old (chain_of_parent old chain ++ layer ∷ []) entries i among
    ∙ ap (λ above. set (map (view_entry old) entries) i (closed_entry (above ++ layer ∷ []))) (sym (parent_same old entries parent chain is))

-- the numbers of classes

number_view : (entries : List Kept) (i chain : ℕ) → slice_get entries i ≡ Some (closed_kept chain) → number_at (map kept_number entries) i ≡ Some chain
number_view entries i chain is =
    ap told_number (slice_get-map kept_number entries i ∙ ap (option_map kept_number) is)

pub parent_number_view : (entries : List Kept) (parent chain : Option ℕ) → IsNumberOf entries parent chain → parent_number (map kept_number entries) parent ≡ chain
parent_number_view entries None None is = refl
parent_number_view entries None (Some chain) is = absurd is
parent_number_view entries (Some number) None is = absurd is
parent_number_view entries (Some number) (Some chain) is = number_view entries number chain is

pub number_closed : (entries : List Kept) (i chain : ℕ) → i < length entries → number_at (map kept_number (set entries i (closed_kept chain))) i ≡ Some chain
number_closed entries i chain inside =
    number_view (set entries i (closed_kept chain)) i chain
    (slice_get-get_or (set entries i (closed_kept chain)) i kept.Text (rw (length-set entries i (closed_kept chain)) inside)
    ∙ ap Some (get_or-set_same entries i (closed_kept chain) kept.Text inside))

pub numbers_close : (entries : List Kept) (i chain : ℕ) → map kept_number (set entries i (closed_kept chain)) ≡ set (map kept_number entries) i (Some chain)
numbers_close entries i chain = map-set kept_number entries i (closed_kept chain)

-- a new entry

pub entries_assign : (chains : List (List Layer)) (entries : List Kept) (kind : Kind) → map (view_entry chains) (entries ++ new_kept kind ∷ []) ≡ map (view_entry chains) entries ++ new_entry kind ∷ []
entries_assign chains entries kind.Text = map_push (view_entry chains) entries kept.Text
entries_assign chains entries kind.Other = map_push (view_entry chains) entries kept.Other
entries_assign chains entries kind.Pending = map_push (view_entry chains) entries kept.Pending

pub numbers_assign : (entries : List Kept) (kind : Kind) → map kept_number (entries ++ new_kept kind ∷ []) ≡ map kept_number entries ++ None ∷ []
numbers_assign entries kind.Text = map_push kept_number entries kept.Text
numbers_assign entries kind.Other = map_push kept_number entries kept.Other
numbers_assign entries kind.Pending = map_push kept_number entries kept.Pending

-- the number that `class_at` answers is that of the entry
pub number_answered : (entries : List Kept) (i : ℕ) (answer : Class) → answered_number answer ≡ told_number (option_map kept_number (slice_get entries i)) → answered_number answer ≡ number_at (map kept_number entries) i
number_answered entries i answer is = is ∙ sym (ap told_number (slice_get-map kept_number entries i))

-- pending entries

some_pending : (entries : List Kept) (i : ℕ) → IsTrue (is_pending_slot (slice_get entries i)) → (i < length entries) × (1 ≤ count_by is_pending_kept entries)
some_pending [] i is = absurd (false≢true is)
some_pending (kept.Pending ∷ entries) zero is = (omega arith, rw count_by_pending (omega arith))
some_pending (kept.Text ∷ entries) zero is = absurd (false≢true is)
some_pending (kept.Other ∷ entries) zero is = absurd (false≢true is)
some_pending (kept.Closed chain ∷ entries) zero is = absurd (false≢true is)
some_pending (e ∷ entries) (suc i) is =
    let more = some_pending entries i is in
    (omega (arith, more.0), rw count_by_pending (omega (arith, more.1)))

-- a closed entry is pending no more
one_less : (entries : List Kept) (i chain : ℕ) → IsTrue (is_pending_slot (slice_get entries i)) → count_by is_pending_kept (set entries i (closed_kept chain)) + 1 ≡ count_by is_pending_kept entries
one_less [] i chain is = absurd (false≢true is)
one_less (kept.Pending ∷ entries) zero chain is = rw (count_by_pending (closed_kept chain) entries, count_by_pending kept.Pending entries) (omega arith)
one_less (kept.Text ∷ entries) zero chain is = absurd (false≢true is)
one_less (kept.Other ∷ entries) zero chain is = absurd (false≢true is)
one_less (kept.Closed n ∷ entries) zero chain is = absurd (false≢true is)
one_less (e ∷ entries) (suc i) chain is =
    let others = one_less entries i chain is in
    rw (count_by_pending e (set entries i (closed_kept chain)), count_by_pending e entries) (omega (arith, others))

pub sound_close : (entries : List Kept) (old new : ChainList) (pending max i : ℕ) (chain : List Layer) → IsSound entries old pending max → IsTrue (is_pending_slot (slice_get entries i)) → new.listed ≡ old.listed ++ chain ∷ [] → old.room ≤ new.room + 1 → IsSound (set entries i (closed_kept (length old.listed))) new (pending - 1) max
sound_close entries old new pending max i chain sound is added room =
    let longer : length new.listed ≡ length old.listed + 1 = ap length added ∙ length_push old.listed chain in
    let less = one_less entries i (length old.listed) is in
    record {
      within = rw (length-set entries i (closed_kept (length old.listed))) sound.within;
      max_fits = sound.max_fits;
      counted = omega (arith, less, sound.counted);
      fewer = omega (arith, longer, sound.fewer, less, sound.counted, length-set entries i (closed_kept (length old.listed)));
      room = omega (arith, sound.room, room);
      among = All-set (IsAmong (length new.listed)) entries i (closed_kept (length old.listed)) (omega (arith, longer))
          (All-weaker (IsAmong (length old.listed)) (IsAmong (length new.listed)) (IsAmong-more (length old.listed) (length new.listed) (omega (arith, longer))) entries sound.among);
    }

-- what callers say of the entries, of the kept ones

pub pending_kept : (chains : List (List Layer)) (entries : List Kept) (lines : List (List ℕ)) (seen : TableView) (max i : ℕ) → record { entries = map (view_entry chains) entries; chains = chains; numbers = map kept_number entries; lines = lines; max = max } ≡ seen → IsTrue (is_pending (slice_get seen.entries i)) → IsTrue (is_pending_slot (slice_get entries i))
pending_kept chains entries lines seen max i is pending =
    sym (is_pending_view chains entries i) ∙ ap (λ (table : TableView). is_pending (slice_get table.entries i)) is ∙ pending

pub closed_kept_in : (chains : List (List Layer)) (entries : List Kept) (lines : List (List ℕ)) (seen : TableView) (max i : ℕ) → record { entries = map (view_entry chains) entries; chains = chains; numbers = map kept_number entries; lines = lines; max = max } ≡ seen → IsTrue (is_closed (slice_get seen.entries i)) → IsTrue (is_closed_slot (slice_get entries i))
closed_kept_in chains entries lines seen max i is closed =
    sym (is_closed_view chains entries i) ∙ ap (λ (table : TableView). is_closed (slice_get table.entries i)) is ∙ closed

pub pending_counted : (chains : List (List Layer)) (entries : List Kept) (lines : List (List ℕ)) (seen : TableView) (max i : ℕ) → record { entries = map (view_entry chains) entries; chains = chains; numbers = map kept_number entries; lines = lines; max = max } ≡ seen → IsTrue (is_pending (slice_get seen.entries i)) → (i < length entries) × (1 ≤ count_by is_pending_kept entries)
pending_counted chains entries lines seen max i is pending = some_pending entries i (pending_kept chains entries lines seen max i is pending)
