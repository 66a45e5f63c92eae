-- Items are the tokens: from the machine before and after some bytes of a token to the item that is lent of them.
use Rattle.std.proofs.Common.{◌≡◌, ℕ, ◌<◌, ◌≤◌, Bool, true, false, List, [], ◌∷◌, ◌++◌, length, take, refl, sym, ◌∙◌, ap, subst, arith, length-append, append-nil}
use Rattle.jser_prim.specs.Bytes.{big_bytes}
use Rattle.jser_reading.specs.Labels.{Position, string_at, class_name_at, field_name_at, interface_name_at}
use Rattle.jser_reading.specs.TokensFromBytes.{number_of, head_size, size_in}
use Rattle.jser_reading.specs.Goals.{State, settled}
use Rattle.jser_reading.specs.Accepts.{label_of}
use Rattle.jser_grammar.specs.Parts.{text_bound}
use Rattle.jser_reading.proofs.Decoding.{length-big_bytes, number_2, number_8}
use Rattle.jser_reader.specs.declared.item.Item.{Item}
use Rattle.jser_reader.specs.declared.item.Item.TheVariants as item
use Rattle.jser_reader.specs.declared.phase.Phase.{Phase}
use Rattle.jser_reader.specs.declared.phase.Phase.TheVariants as phase
use Rattle.jser_reader.specs.Readers.{Seen, ReadyAt}
use Rattle.jser_reader.specs.Walks.{size_of_phase, StandsAt, open_in}
use Rattle.jser_reader.specs.Takes.{IsWholeLength, IsPart}
use Rattle.jser_reader.specs.Items.{Items, header_items, raw_items, number_items, text_items, items_at, IsOfText, IsRawPart, IsLent, first_size}
use Rattle.jser_reader.specs.ItemsMade.{number_item, IsTextPart, MakesItem}
use Rattle.jser_reader.specs.ItemsTold.{MayGoOn}
use Rattle.jser_reader.proofs.TextWalks.{IsTextAt}
use Rattle.jser_reader.proofs.TextSteps.{length_open, text_of}
use Rattle.jser_reader.proofs.PhaseLemmas.{IsFixed, phase_position, label_is, size_of_fixed, text_is}

-- ---- the items of the open token, by its phase

abbrev pub OpenItems : Phase → (cut : List ℕ) → Items → Type 0
OpenItems phase.Header cut i = i ≡ header_items
OpenItems phase.Length2 cut i = i ≡ text_items false
OpenItems phase.Length8 cut i = i ≡ text_items true
OpenItems phase.Text cut i = (long : Bool) × (i ≡ text_items long) × (head_size long ≤ length cut)
OpenItems phase.Prims cut i = i ≡ raw_items
OpenItems phase.Bytes cut i = i ≡ raw_items
OpenItems phase.Cut cut i = ⊥
OpenItems phase.Stopped cut i = ⊥
OpenItems p cut i = i ≡ number_items (number_item p) (size_of_phase p)

text_items_at : (long : Bool) (w : Position) → IsTextAt long w → items_at w ≡ text_items long
text_items_at false (string_at false) h = refl
text_items_at true (string_at true) h = refl
text_items_at false (class_name_at role) h = refl
text_items_at false field_name_at h = refl
text_items_at false interface_name_at h = refl
text_items_at false (string_at true) h = absurd h
text_items_at true (string_at false) h = absurd h
text_items_at _ _ h = absurd h

fixed_items : (p : Phase) (r : Seen) (cut : List ℕ) → IsFixed p → OpenItems p cut (items_at (phase_position p r))
fixed_items phase.Length2 r cut i = absurd i
fixed_items phase.Length8 r cut i = absurd i
fixed_items phase.Text r cut i = absurd i
fixed_items phase.Prims r cut i = absurd i
fixed_items phase.Bytes r cut i = absurd i
fixed_items phase.Cut r cut i = absurd i
fixed_items phase.Stopped r cut i = absurd i
fixed_items _ r cut i = refl

ready_items : (p : Phase) (r : Seen) (s : State) (cut : List ℕ) → ReadyAt p r (settled s) → OpenItems p cut (items_at (label_of (settled s)).position)
ready_items phase.Length2 r s cut h = text_items_at false _ (text_of r s false (length_open false r s h)).is_text
ready_items phase.Length8 r s cut h = text_items_at true _ (text_of r s true (length_open true r s h)).is_text
ready_items phase.Text r s cut h = absurd h
ready_items phase.Prims r s cut h = ap (λ t. items_at (label_of t).position) h.is
ready_items phase.Bytes r s cut h = ap (λ t. items_at (label_of t).position) h.is
ready_items phase.Cut r s cut h = absurd h
ready_items phase.Stopped r s cut h = absurd h
ready_items p r s cut h = subst (λ l. OpenItems p cut (items_at l.position)) (sym (label_is p r (settled s) tt h)) (fixed_items p r cut tt)

pub stands_items : (p : Phase) (r : Seen) (s : State) (cut : List ℕ) → StandsAt p r (settled s) cut
    → OpenItems (open_in p r.meter.cut_phase) cut (items_at (label_of (settled s)).position)
stands_items phase.Text r s cut h =
    let e = ap length h.cut_is in
    let n = length-append (big_bytes (head_size h.long) h.len) h.before in
    let m = length-big_bytes (head_size h.long) h.len in
    (h.long, text_items_at h.long _ (text_is r h.long s h.form h.is).is_text, omega arith)
stands_items phase.Prims r s cut h = ap (λ t. items_at (label_of t).position) h.is
stands_items phase.Bytes r s cut h = ap (λ t. items_at (label_of t).position) h.is
stands_items phase.Cut r s cut h = ready_items r.meter.cut_phase r s cut h.ready
stands_items phase.Stopped r s cut h = absurd h
stands_items p r s cut h = ready_items p r s cut h.0

pub first_size_is : (p : Phase) (cut : List ℕ) (i : Items) → OpenItems p cut i → 0 < size_of_phase p → first_size i ≡ size_of_phase p
first_size_is phase.Text cut i o some = absurd (omega arith)
first_size_is phase.Prims cut i o some = absurd (omega arith)
first_size_is phase.Bytes cut i o some = absurd (omega arith)
first_size_is phase.Cut cut i o some = absurd o
first_size_is phase.Stopped cut i o some = absurd o
first_size_is _ cut i o some = ap first_size o

-- ---- a text that is open after its length has bytes to come

abbrev IsTexts : Items → Type 0
IsTexts (text_items long) = Unit {0}
IsTexts _ = ⊥

abbrev long_of : Items → Bool
long_of (text_items long) = long
long_of _ = false

-- a number or a length that is cut is shorter than the length of a text
cut_short : (p : Phase) (cut : List ℕ) (i : Items) (long : Bool) → OpenItems p cut i → i ≡ text_items long → length cut < size_of_phase p
    → length cut ≡ head_size long → ⊥
cut_short phase.Header cut i long o e short n = subst IsTexts (sym e ∙ o) tt
cut_short phase.Length2 cut i long o e short n =
    let m = ap (λ l. head_size l) (ap long_of (sym e ∙ o)) in omega arith
cut_short phase.Length8 cut i long o e short n =
    let m = ap (λ l. head_size l) (ap long_of (sym e ∙ o)) in omega arith
cut_short phase.Text cut i long o e short n = omega arith
cut_short phase.Prims cut i long o e short n = omega arith
cut_short phase.Bytes cut i long o e short n = omega arith
cut_short phase.Cut cut i long o e short n = o
cut_short phase.Stopped cut i long o e short n = o
cut_short _ cut i long o e short n = subst IsTexts (sym e ∙ o) tt

-- nothing was taken yet
none_taken : (cut : List ℕ) (long : Bool) → cut ≡ [] → length cut ≡ head_size long → ⊥
none_taken cut false e n = let m = ap length e in omega arith
none_taken cut true e n = let m = ap length e in omega arith

number_alone : (long : Bool) (len : ℕ) (before : List ℕ) → len < text_bound long → length before < len
    → length (big_bytes (head_size long) len ++ before) ≡ head_size long → 0 < number_of (big_bytes (head_size long) len ++ before)
number_alone false len [] bound more n = subst (λ m. 0 < m) (sym (ap number_of (append-nil (big_bytes 2 len)) ∙ number_2 len (omega arith))) more
number_alone true len [] bound more n = subst (λ m. 0 < m) (sym (ap number_of (append-nil (big_bytes 8 len)) ∙ number_8 len (omega arith))) more
number_alone long len (b ∷ before) bound more n =
    let a = length-append (big_bytes (head_size long) len) (b ∷ before) in
    let c = length-big_bytes (head_size long) len in
    absurd (omega arith)

pub text_goes : (p : Phase) (r : Seen) (s : State) (cut : List ℕ) (long : Bool) → StandsAt p r (settled s) cut
    → items_at (label_of (settled s)).position ≡ text_items long → length cut ≡ head_size long → 0 < number_of cut
text_goes phase.Text r s cut long h e n =
    let same : h.long ≡ long = ap long_of (sym (text_items_at h.long _ (text_is r h.long s h.form h.is).is_text) ∙ e) in
    subst (λ c. 0 < number_of c) (sym h.cut_is)
    (number_alone h.long h.len h.before h.bound h.goes_on (sym (ap length h.cut_is) ∙ n ∙ sym (ap head_size same)))
text_goes phase.Prims r s cut long h e n = absurd (subst IsTexts (sym e ∙ ap (λ t. items_at (label_of t).position) h.is) tt)
text_goes phase.Bytes r s cut long h e n = absurd (subst IsTexts (sym e ∙ ap (λ t. items_at (label_of t).position) h.is) tt)
text_goes phase.Cut r s cut long h e n = absurd (cut_short r.meter.cut_phase cut _ long (ready_items r.meter.cut_phase r s cut h.ready) e h.short n)
text_goes phase.Stopped r s cut long h e n = absurd h
text_goes p r s cut long h e n = absurd (none_taken cut long h.1 n)

-- ---- how many bytes there are of it

-- all, at its end
pub whole_size : (p : Phase) (r : Seen) (s : State) (bytes : List ℕ) → ReadyAt p r (settled s) → 0 < size_of_phase p → IsWholeLength p bytes
    → size_in (label_of (settled s)).position bytes ≡ length bytes → length bytes ≡ size_of_phase p
whole_size phase.Length2 r s bytes h some e w = e
whole_size phase.Length8 r s bytes h some e w = e
whole_size phase.Text r s bytes h some e w = absurd h
whole_size phase.Prims r s bytes h some e w = absurd (omega arith)
whole_size phase.Bytes r s bytes h some e w = absurd (omega arith)
whole_size phase.Cut r s bytes h some e w = absurd h
whole_size phase.Stopped r s bytes h some e w = absurd h
whole_size p r s bytes h some e w = sym w ∙ ap (λ l. size_in l.position bytes) (label_is p r (settled s) tt h) ∙ size_of_fixed p r bytes tt

-- a length, where the text goes on
pub part_size : (p : Phase) (kept given : List ℕ) (count : ℕ) → IsPart p kept given count → 0 < size_of_phase p
    → length (kept ++ take count given) ≡ size_of_phase p
part_size phase.Length2 kept given count h some = h
part_size phase.Length8 kept given count h some = h
part_size phase.Text kept given count h some = absurd (omega arith)
part_size phase.Prims kept given count h some = absurd (omega arith)
part_size phase.Bytes kept given count h some = absurd (omega arith)
part_size _ kept given count h some = absurd h

-- ---- the item

number_lent : (p : Phase) (cut kept taken : List ℕ) (lent : Item) → cut ≡ kept → length (cut ++ taken) ≡ size_of_phase p
    → (length (kept ++ taken) ≡ size_of_phase p → lent ≡ number_item p (number_of (kept ++ taken))) → lent ≡ number_item p (number_of (cut ++ taken))
number_lent p cut kept taken lent e n h =
    subst (λ c. (length (c ++ taken) ≡ size_of_phase p → lent ≡ number_item p (number_of (c ++ taken)))) (sym e) h n

text_part : (long : Bool) (cut taken : List ℕ) (lent : Item) → head_size long ≤ length cut → IsTextPart taken lent → IsOfText long cut taken lent
text_part long cut taken (item.TextPart part) le h = (le, h)
text_part long cut taken _ le h = absurd h

-- the item that is made of the bytes is the one of the token
pub is_lent : (p : Phase) (i : Items) (cut kept taken : List ℕ) (lent : Item) → OpenItems p cut i
    → (0 < size_of_phase p → (cut ≡ kept) × (length (cut ++ taken) ≡ size_of_phase p)) → MakesItem p kept taken lent → IsLent i cut taken lent
unfolding MakesItem
is_lent phase.Header i cut kept taken lent o n h =
    let x = n (omega arith) in subst (λ i. IsLent i cut taken lent) (sym o) (x.1, number_lent phase.Header cut kept taken lent x.0 x.1 h)
is_lent phase.Length2 i cut kept taken lent o n h =
    let x = n (omega arith) in
    subst (λ i. IsLent i cut taken lent) (sym o)
    (subst (λ a. IsOfText false cut taken a) (sym (number_lent phase.Length2 cut kept taken lent x.0 x.1 h)) (x.1, refl))
is_lent phase.Length8 i cut kept taken lent o n h =
    let x = n (omega arith) in
    subst (λ i. IsLent i cut taken lent) (sym o)
    (subst (λ a. IsOfText true cut taken a) (sym (number_lent phase.Length8 cut kept taken lent x.0 x.1 h)) (x.1, refl))
is_lent phase.Text i cut kept taken lent o n h = subst (λ i. IsLent i cut taken lent) (sym o.1) (text_part o.0 cut taken lent o.2 h)
is_lent phase.Prims i cut kept taken lent o n h = subst (λ i. IsLent i cut taken lent) (sym o) h
is_lent phase.Bytes i cut kept taken lent o n h = subst (λ i. IsLent i cut taken lent) (sym o) h
is_lent phase.Cut i cut kept taken lent o n h = absurd o
is_lent phase.Stopped i cut kept taken lent o n h = absurd o
is_lent p i cut kept taken lent o n h =
    let x = n (omega arith) in subst (λ i. IsLent i cut taken lent) (sym o) (x.1, number_lent p cut kept taken lent x.0 x.1 h)

-- a token that goes on after it
text_goes_on : (taken : List ℕ) (lent : Item) (full : Type 0) → IsTextPart taken lent → full → MayGoOn lent full
text_goes_on taken (item.TextPart part) full h f = f
text_goes_on taken _ full h f = absurd h

raw_goes_on : (taken : List ℕ) (lent : Item) (full : Type 0) → IsRawPart taken lent → full → MayGoOn lent full
raw_goes_on taken (item.RawPart part) full h f = f
raw_goes_on taken _ full h f = absurd h

pub goes_on : (p : Phase) (i : Items) (cut kept given : List ℕ) (count : ℕ) (lent : Item) (full : Type 0) → OpenItems p cut i → IsPart p kept given count
    → (0 < size_of_phase p → (long : Bool) → i ≡ text_items long → length (kept ++ take count given) ≡ head_size long
    → 0 < number_of (kept ++ take count given))
    → (count ≡ length given → full) → MakesItem p kept (take count given) lent → MayGoOn lent full
unfolding MakesItem
goes_on phase.Length2 i cut kept given count lent full o part more f h =
    subst (λ a. MayGoOn a full) (sym (h part)) (more (omega arith) false o part)
goes_on phase.Length8 i cut kept given count lent full o part more f h =
    subst (λ a. MayGoOn a full) (sym (h part)) (more (omega arith) true o part)
goes_on phase.Text i cut kept given count lent full o part more f h = text_goes_on (take count given) lent full h (f part)
goes_on phase.Prims i cut kept given count lent full o part more f h = raw_goes_on (take count given) lent full h (f part)
goes_on phase.Bytes i cut kept given count lent full o part more f h = raw_goes_on (take count given) lent full h (f part)
goes_on _ i cut kept given count lent full o part more f h = absurd part
