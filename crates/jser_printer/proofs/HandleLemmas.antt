-- Handles, each with the number of its class: what is known of them, and how that changes.
use Rattle.std.proofs.Common.{◌≡◌, ℕ, zero, suc, ◌≤◌, List, [], ◌∷◌, ◌++◌, length, set, Option, Some, None, refl, ap, ◌∙◌, arith, All}
use Rattle.std.specs.List.{zip}
use Rattle.std.proofs.lemmas.Option.{slice_get_past}
use Rattle.std.proofs.lemmas.List.{get_or_append_left, length-map}
use Rattle.std.proofs.lemmas.List.Elements.{All-head, All-tail}
use Rattle.std.proofs.lemmas.Slice.Zip.{length-zip}
use Rattle.jser_table.specs.Entries.{TableEntry, text_entry, other_entry, pending_entry, closed_entry}
use Rattle.jser_table.specs.Lines.{told_number, number_at}
use Rattle.jser_table.specs.Tables.{TableView as Handles}
use Rattle.jser_shown.specs.Known.{NamedLayer, known_class, classes_in, classes_at}
use Rattle.jser_printer.specs.Tables.{layers_in, view_other, view_entry, view_entries, view_handles, IsAmong}

-- no handle is as great as this
pub no_class_past : (numbers : List (Option ℕ)) (n : ℕ) → length numbers ≤ n → number_at numbers n ≡ None
no_class_past numbers n past = ap told_number (slice_get_past numbers n past)

pub count_handles : (chains : List (List NamedLayer)) (handles : Handles) → length handles.numbers ≡ length handles.entries → length (view_handles chains handles) ≡ length handles.entries
count_handles chains handles paired =
    length-map (zip handles.entries handles.numbers) (λ (e : TableEntry × Option ℕ). view_entry chains e.0 e.1)
    ∙ omega (arith, length-zip handles.entries handles.numbers)

-- one more handle

pub view_push : (chains : List (List NamedLayer)) (entries : List TableEntry) (numbers : List (Option ℕ)) (entry : TableEntry) → length numbers ≡ length entries → view_entries chains (zip (entries ++ entry ∷ []) (numbers ++ None ∷ [])) ≡ view_entries chains (zip entries numbers) ++ view_other entry ∷ []
view_push chains [] [] entry paired = refl
view_push chains [] (n ∷ numbers) entry paired = absurd (omega (arith, paired))
view_push chains (e ∷ entries) [] entry paired = absurd (omega (arith, paired))
view_push chains (e ∷ entries) (n ∷ numbers) entry paired =
    ap (λ es. view_entry chains e n ∷ es) (view_push chains entries numbers entry (omega (arith, paired)))

-- a handle is that of a class from now on

pub view_set : (chains : List (List NamedLayer)) (entries : List TableEntry) (numbers : List (Option ℕ)) (i : ℕ) (entry : TableEntry) (n : Option ℕ) → view_entries chains (zip (set entries i entry) (set numbers i n)) ≡ set (view_entries chains (zip entries numbers)) i (view_entry chains entry n)
view_set chains [] numbers i entry n = refl
view_set chains (e ∷ entries) [] zero entry n = refl
view_set chains (e ∷ entries) [] (suc i) entry n = refl
view_set chains (e ∷ entries) (m ∷ numbers) zero entry n = refl
view_set chains (e ∷ entries) (m ∷ numbers) (suc i) entry n =
    ap (λ es. view_entry chains e m ∷ es) (view_set chains entries numbers i entry n)

-- one more chain changes no entry

view_entry-more : (chains : List (List NamedLayer)) (chain : List NamedLayer) (e : TableEntry) (n : Option ℕ) → IsAmong (length chains) n → view_entry (chains ++ chain ∷ []) e n ≡ view_entry chains e n
view_entry-more chains chain e None among = refl
view_entry-more chains chain e (Some n) among = ap known_class (get_or_append_left chains (chain ∷ []) [] n among)

pub view_more : (chains : List (List NamedLayer)) (chain : List NamedLayer) (entries : List TableEntry) (numbers : List (Option ℕ)) → All (IsAmong (length chains)) numbers → view_entries (chains ++ chain ∷ []) (zip entries numbers) ≡ view_entries chains (zip entries numbers)
view_more chains chain [] numbers among = refl
view_more chains chain (e ∷ entries) [] among = refl
view_more chains chain (e ∷ entries) (n ∷ numbers) among =
    let first = view_entry-more chains chain e n (All-head (IsAmong (length chains)) n numbers among) in
    let others = view_more chains chain entries numbers (All-tail (IsAmong (length chains)) n numbers among) in
    cc

-- the chain of a handle

abbrev pub chain_of_number : List (List NamedLayer) → Option ℕ → List NamedLayer
chain_of_number chains None = []
chain_of_number chains (Some n) = layers_in chains n

classes_of_entry : (chains : List (List NamedLayer)) (e : TableEntry) (n : Option ℕ) → classes_in (Some (view_entry chains e n)) ≡ chain_of_number chains n
classes_of_entry chains text_entry None = refl
classes_of_entry chains other_entry None = refl
classes_of_entry chains pending_entry None = refl
classes_of_entry chains (closed_entry chain) None = refl
classes_of_entry chains e (Some n) = refl

classes_of_number : (chains : List (List NamedLayer)) (entries : List TableEntry) (numbers : List (Option ℕ)) (i : ℕ) → length numbers ≡ length entries → classes_at (view_entries chains (zip entries numbers)) i ≡ chain_of_number chains (number_at numbers i)
classes_of_number chains [] [] i paired = refl
classes_of_number chains [] (n ∷ numbers) i paired = absurd (omega (arith, paired))
classes_of_number chains (e ∷ entries) [] i paired = absurd (omega (arith, paired))
classes_of_number chains (e ∷ entries) (n ∷ numbers) zero paired = classes_of_entry chains e n
classes_of_number chains (e ∷ entries) (n ∷ numbers) (suc i) paired = classes_of_number chains entries numbers i (omega (arith, paired))

pub classes_of_handle : (chains : List (List NamedLayer)) (handles : Handles) (i : ℕ) (n : Option ℕ) → length handles.numbers ≡ length handles.entries → number_at handles.numbers i ≡ n → classes_at (view_handles chains handles) i ≡ chain_of_number chains n
classes_of_handle chains handles i n paired is =
    classes_of_number chains handles.entries handles.numbers i paired ∙ ap (chain_of_number chains) is
