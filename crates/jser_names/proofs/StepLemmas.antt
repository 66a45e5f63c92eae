-- Where a reader stands after an item, with the names collected.
use Rattle.std.proofs.Common.{◌≡◌, ◌⊎◌, inl, inr, ℕ, zero, suc, ◌-◌, ◌<◌, ◌≤◌, Bool, true, false, List, [], ◌∷◌, ◌++◌, length, refl, sym, ◌∙◌, ap, subst, arith, append_assoc, append-nil, length-append}
use Rattle.std.proofs.lemmas.Bool.Decides.{nat_tests}
use Rattle.std.specs.Prelude.{if◌then◌else◌, nat_eq}
use Rattle.jser_reading.specs.Labels.{StreamToken, text_token, Label, Piece, piece}
use Rattle.jser_reading.specs.TokenBytes.{bytes_of}
use Rattle.jser_reading.specs.TokensFromBytes.{head_size}
use Rattle.jser_reading.specs.ComesNext.{ComesNext}
use Rattle.jser_reader.specs.declared.Item.{Item}
use Rattle.jser_reader.specs.declared.Item.TheVariants as item
use Rattle.jser_reader.specs.Items.{text_items, items_at, first_size, IsOfText, IsLent}
use Rattle.jser_reader.specs.ItemsTold.{MayGoOn}
use Rattle.jser_reader.specs.Visits.{Spot, EndsToken, StaysInToken, IsNext, IsShort}
use Rattle.jser_reader.proofs.TextTokens.{IsTextToken, text_told}
use Rattle.jser_names.specs.Collecting.{begin_collecting, collect, collected, measure, measured}
use Rattle.jser_names.specs.Standing.{Names, view_of, ClosesName, Closes, Adds, begun, behind, ClosesThen, Takes, InText, Closed, Ended, GoesOn, IsAt}
use Rattle.jser_names.proofs.ItemLemmas.{collected_one, measured_one, same_label, text_none, less_one, behind_head, IsTextItem, text_at, ends_plain, ends_measured}

-- ---- no text, and the end of a name

pub head_some : (long : Bool) → 0 < head_size long
head_some false = omega arith
head_some true = omega arith

no_text : (front : List Piece) → InText front [] → ⊥
no_text front t = let a = head_some t.long in let b = t.past in omega arith

pub close_closed : (front : List Piece) (cut : List ℕ) (old mid : Names) → Closed front cut old → Closes old.is_open old mid → Closed front cut mid
close_closed front cut old mid c closes =
    subst (Closed front cut) (sym (subst (λ b. Closes b old mid) c.is closes)) c

pub close_ended : (front : List Piece) (cut : List ℕ) (old mid : Names) → Ended front cut old → Closes old.is_open old mid → Closed front cut mid
close_ended front cut old mid e closes =
    let c : ClosesName old mid = subst (λ b. Closes b old mid) e.is closes in
    record {
      is = c.is;
      so_far =
          ap (collected begin_collecting) e.front_is ∙ collected_one begin_collecting e.before e.label (text_token e.long e.units)
          ∙ ap (collect (text_token e.long e.units)) e.so_far ∙ less_one e.units (view_of old) old.left e.some
          ∙ ap (λ names. record { names = names; left = old.left - 1 }) (sym (c.names e.units e.are_units e.spelled))
          ∙ ap (λ n. record { names = mid.names; left = n }) (sym c.left);
      plain = λ t. absurd (e.plain t);
    }

-- ---- after a token, and within one

abbrev spot : List Piece → List ℕ → Spot
spot front cut = record { front = front; cut = cut }

-- where the names stand at a spot; the longest array had this length behind these tokens
record Further (front : List Piece) (longest : ℕ) (to : Spot) (new : Names) : Type 0 where
  at : IsAt to.front to.cut new
  measures : measured 0 front ≡ longest → measured 0 to.front ≡ new.longest

past_token : (front : List Piece) (cut taken : List ℕ) (label : Label) (longest : ℕ) (to : Spot) (new : Names) (e : EndsToken (spot front cut) label (cut ++ taken) to)
    → IsAt (front ++ (piece label e.token ∷ [])) [] new → measure e.token longest ≡ new.longest → Further front longest to new
past_token front cut taken label longest to new e at measures = record {
  at = subst (λ xs. IsAt xs to.cut new) (sym e.front_is) (subst (λ xs. IsAt (front ++ (piece label e.token ∷ [])) xs new) (sym e.cut_is) at);
  measures = λ before. ap (measured 0) e.front_is ∙ measured_one 0 front label e.token ∙ ap (measure e.token) before ∙ measures;
}

-- the bytes of the next token are these
record StaysIn (front : List Piece) (bytes : List ℕ) (to : Spot) : Type 0 where
  front_is : to.front ≡ front
  cut_is : to.cut ≡ bytes

in_token : (front : List Piece) (bytes : List ℕ) (longest : ℕ) (to : Spot) (new : Names) → StaysIn front bytes to
    → IsAt front bytes new → longest ≡ new.longest → Further front longest to new
in_token front bytes longest to new st at same = record {
  at = subst (λ xs. IsAt xs to.cut new) (sym st.front_is) (subst (λ xs. IsAt front xs new) (sym st.cut_is) at);
  measures = λ before. ap (measured 0) st.front_is ∙ before ∙ same;
}

stays_in : (front : List Piece) (bytes : List ℕ) (lent : Item) (to : Spot) {cut : List ℕ} → StaysInToken (spot front cut) bytes lent to → StaysIn front bytes to
stays_in front bytes lent to o = record { front_is = o.front_is; cut_is = o.cut_is }

-- a text has no length of an array
text_measures : (told : StreamToken) (long : Bool) (units : List ℕ) (longest : ℕ) → told ≡ text_token long units → measure told longest ≡ longest
text_measures told long units longest is = ap (λ f. measure f longest) is

-- ---- bytes of a text

part_closed : (front : List Piece) (cut taken : List ℕ) (label : Label) (long : Bool) (to : Spot) (old new : Names) → Closed front cut old
    → ComesNext front label → items_at label.position ≡ text_items long → head_size long ≤ length cut → new ≡ old
    → (e : EndsToken (spot front cut) label (cut ++ taken) to) → Further front old.longest to new
part_closed front cut taken label long to old new c comes texts past same e =
    let none : old.left ≡ 0 = c.plain (record { label = label; comes = comes; long = long; is_text = texts; past = past }) in
    let t : IsTextToken long e.token = text_told label.position label.moment e.token long e.accepted texts in
    past_token front cut taken label old.longest to new e
    (inl (record {
      is = ap (λ y. y.is_open) same ∙ c.is;
      so_far =
          collected_one begin_collecting front label e.token ∙ ap (λ f. collect f (collected begin_collecting front)) t.2
          ∙ ap (collect (text_token long t.0)) c.so_far ∙ text_none t.0 (view_of old) none ∙ ap view_of (sym same);
      plain = λ i. absurd (no_text (front ++ (piece label e.token ∷ [])) i);
    })) (text_measures e.token long t.0 old.longest t.2 ∙ sym (ap (λ y. y.longest) same))

part_closed_on : (front : List Piece) (cut taken : List ℕ) (label : Label) (long : Bool) (to : Spot) (old new : Names) → Closed front cut old
    → ComesNext front label → items_at label.position ≡ text_items long → head_size long ≤ length cut → new ≡ old
    → StaysIn front (cut ++ taken) to → Further front old.longest to new
part_closed_on front cut taken label long to old new c comes texts past same st =
    let none : old.left ≡ 0 = c.plain (record { label = label; comes = comes; long = long; is_text = texts; past = past }) in
    in_token front (cut ++ taken) old.longest to new st
    (inl (record { is = ap (λ y. y.is_open) same ∙ c.is; so_far = c.so_far ∙ ap view_of (sym same); plain = λ i. ap (λ y. y.left) same ∙ none }))
    (sym (ap (λ y. y.longest) same))

part_goes : (front : List Piece) (cut taken : List ℕ) (label : Label) (long : Bool) (to : Spot) (old new : Names) (g : GoesOn front cut old)
    → items_at label.position ≡ text_items g.long → new ≡ record old { text = old.text ++ taken }
    → (e : EndsToken (spot front cut) label (cut ++ taken) to) → Further front old.longest to new
part_goes front cut taken label long to old new g texts is e =
    let t : IsTextToken g.long e.token = text_told label.position label.moment e.token g.long e.accepted texts in
    let bytes : bytes_of e.token ≡ g.head ++ (old.text ++ taken) =
    e.spelled ∙ ap (λ c. c ++ taken) g.cut_is ∙ append_assoc g.head old.text taken in
    past_token front cut taken label old.longest to new e
    (inr (inl (record {
      is = ap (λ y. y.is_open) is ∙ g.is;
      some = subst (λ n. 0 < n) (sym (ap (λ y. y.left) is)) g.some;
      before = front;
      label = label;
      long = g.long;
      units = t.0;
      front_is = ap (λ f. front ++ (piece label f ∷ [])) t.2;
      so_far = g.so_far ∙ ap view_of (sym is);
      are_units = t.1.0;
      spelled = behind_head g.long t.0 g.head (old.text ++ taken) e.token t.2 g.size bytes ∙ ap (λ y. y.text) (sym is);
      plain = λ i. no_text (front ++ (piece label e.token ∷ [])) i;
    }))) (text_measures e.token g.long t.0 old.longest t.2 ∙ sym (ap (λ y. y.longest) is))

part_goes_on : (front : List Piece) (cut taken : List ℕ) (to : Spot) (old new : Names) (g : GoesOn front cut old)
    → new ≡ record old { text = old.text ++ taken } → StaysIn front (cut ++ taken) to → Further front old.longest to new
part_goes_on front cut taken to old new g is st =
    in_token front (cut ++ taken) old.longest to new st
    (inr (inr (record {
      is = ap (λ y. y.is_open) is ∙ g.is;
      some = subst (λ n. 0 < n) (sym (ap (λ y. y.left) is)) g.some;
      so_far = g.so_far ∙ ap view_of (sym is);
      label = g.label;
      comes = g.comes;
      long = g.long;
      is_text = g.is_text;
      head = g.head;
      size = g.size;
      cut_is = ap (λ c. c ++ taken) g.cut_is ∙ append_assoc g.head old.text taken ∙ ap (λ t. g.head ++ t) (sym (ap (λ y. y.text) is));
    }))) (sym (ap (λ y. y.longest) is))

-- ---- the length of a text

pub begun_none : (mid : Names) → mid.left ≡ 0 → begun mid ≡ mid
begun_none mid none = ap (λ n. if nat_eq n 0 then mid else record mid { is_open = true; text = [] }) none

not_none : (n : ℕ) → nat_eq (suc n) 0 ≡ false
not_none n = grind (arith, nat_tests)

begun_some : (left : ℕ) (mid : Names) → 0 < left → (if nat_eq left 0 then mid else record mid { is_open = true; text = [] }) ≡ record mid { is_open = true; text = [] }
begun_some zero mid some = absurd (omega arith)
begun_some (suc n) mid some = ap (λ b. if b then mid else record mid { is_open = true; text = [] }) (not_none n)

-- a number is 0, or more
data Many (n : ℕ) : Type 0 where
  none_left : n ≡ 0 → Many n
  some_left : 0 < n → Many n

many : (n : ℕ) → Many n
many zero = none_left refl
many (suc n) = some_left (omega arith)

length_ends : (front : List Piece) (cut taken : List ℕ) (label : Label) (long : Bool) (to : Spot) (mid new : Names) → Closed front cut mid
    → ComesNext front label → items_at label.position ≡ text_items long → length (cut ++ taken) ≡ head_size long → new ≡ begun mid → Many mid.left
    → (e : EndsToken (spot front cut) label (cut ++ taken) to) → Further front mid.longest to new
length_ends front cut taken label long to mid new c comes texts size is (none_left none) e =
    let t : IsTextToken long e.token = text_told label.position label.moment e.token long e.accepted texts in
    let same : new ≡ mid = is ∙ begun_none mid none in
    past_token front cut taken label mid.longest to new e
    (inl (record {
      is = ap (λ y. y.is_open) same ∙ c.is;
      so_far =
          collected_one begin_collecting front label e.token ∙ ap (λ f. collect f (collected begin_collecting front)) t.2
          ∙ ap (collect (text_token long t.0)) c.so_far ∙ text_none t.0 (view_of mid) none ∙ ap view_of (sym same);
      plain = λ i. absurd (no_text (front ++ (piece label e.token ∷ [])) i);
    })) (text_measures e.token long t.0 mid.longest t.2 ∙ sym (ap (λ y. y.longest) same))
length_ends front cut taken label long to mid new c comes texts size is (some_left some) e =
    let t : IsTextToken long e.token = text_told label.position label.moment e.token long e.accepted texts in
    let same : new ≡ record mid { is_open = true; text = [] } = is ∙ begun_some mid.left mid some in
    past_token front cut taken label mid.longest to new e
    (inr (inl (record {
      is = ap (λ y. y.is_open) same;
      some = subst (λ n. 0 < n) (sym (ap (λ y. y.left) same)) some;
      before = front;
      label = label;
      long = long;
      units = t.0;
      front_is = ap (λ f. front ++ (piece label f ∷ [])) t.2;
      so_far = c.so_far ∙ ap view_of (sym same);
      are_units = t.1.0;
      spelled =
          behind_head long t.0 (cut ++ taken) [] e.token t.2 size (e.spelled ∙ sym (append-nil (cut ++ taken))) ∙ ap (λ y. y.text) (sym same);
      plain = λ i. no_text (front ++ (piece label e.token ∷ [])) i;
    }))) (text_measures e.token long t.0 mid.longest t.2 ∙ sym (ap (λ y. y.longest) same))

length_goes_on : (front : List Piece) (cut taken : List ℕ) (label : Label) (long : Bool) (to : Spot) (mid new : Names) → Closed front cut mid
    → ComesNext front label → items_at label.position ≡ text_items long → length (cut ++ taken) ≡ head_size long → new ≡ begun mid → Many mid.left
    → StaysIn front (cut ++ taken) to → Further front mid.longest to new
length_goes_on front cut taken label long to mid new c comes texts size is (none_left none) st =
    let same : new ≡ mid = is ∙ begun_none mid none in
    in_token front (cut ++ taken) mid.longest to new st
    (inl (record { is = ap (λ y. y.is_open) same ∙ c.is; so_far = c.so_far ∙ ap view_of (sym same); plain = λ i. ap (λ y. y.left) same ∙ none }))
    (sym (ap (λ y. y.longest) same))
length_goes_on front cut taken label long to mid new c comes texts size is (some_left some) st =
    let same : new ≡ record mid { is_open = true; text = [] } = is ∙ begun_some mid.left mid some in
    in_token front (cut ++ taken) mid.longest to new st
    (inr (inr (record {
      is = ap (λ y. y.is_open) same;
      some = subst (λ n. 0 < n) (sym (ap (λ y. y.left) same)) some;
      so_far = c.so_far ∙ ap view_of (sym same);
      label = label;
      comes = comes;
      long = long;
      is_text = texts;
      head = cut ++ taken;
      size = size;
      cut_is = sym (append-nil (cut ++ taken)) ∙ ap (λ t. (cut ++ taken) ++ t) (sym (ap (λ y. y.text) same));
    }))) (sym (ap (λ y. y.longest) same))

-- ---- another item

plain_ends : (front : List Piece) (cut taken : List ℕ) (lent : Item) (label : Label) (to : Spot) (mid new : Names) → Closed front cut mid
    → (IsTextItem lent → ⊥) → IsLent (items_at label.position) cut taken lent → new ≡ behind lent mid
    → (e : EndsToken (spot front cut) label (cut ++ taken) to) → Further front mid.longest to new
plain_ends front cut taken lent label to mid new c plain h is e =
    past_token front cut taken label mid.longest to new e
    (inl (record {
      is = ap (λ y. y.is_open) is ∙ c.is;
      so_far =
          collected_one begin_collecting front label e.token ∙ ap (collect e.token) c.so_far
          ∙ ends_plain label.position label.moment e.token cut taken lent (view_of mid) e.accepted plain e.spelled h ∙ ap view_of (sym is);
      plain = λ i. absurd (no_text (front ++ (piece label e.token ∷ [])) i);
    })) (ends_measured label.position label.moment e.token cut taken lent mid.longest e.accepted plain e.spelled h ∙ sym (ap (λ y. y.longest) is))

is_raw : (lent : Item) (full : Type 0) → (IsTextItem lent → ⊥) → MayGoOn lent full → (x : Names) → behind lent x ≡ x
is_raw (item.TextLength n) full plain may x = absurd (plain tt)
is_raw (item.TextPart part) full plain may x = absurd (plain tt)
is_raw (item.RawPart part) full plain may x = refl
is_raw _ full plain may x = absurd may

no_text_lent : (long : Bool) (cut taken : List ℕ) (lent : Item) → (IsTextItem lent → ⊥) → IsOfText long cut taken lent → ⊥
no_text_lent long cut taken (item.TextLength n) plain h = plain tt
no_text_lent long cut taken (item.TextPart part) plain h = plain tt
no_text_lent long cut taken _ plain h = h

plain_goes_on : (front : List Piece) (cut taken : List ℕ) (lent : Item) (label : Label) (to : Spot) (mid new : Names)
    → Closed front cut mid → ComesNext front label → (IsTextItem lent → ⊥) → IsLent (items_at label.position) cut taken lent
    → new ≡ behind lent mid → StaysInToken (spot front cut) (cut ++ taken) lent to
    → Further front mid.longest to new
plain_goes_on front cut taken lent label to mid new c comes plain h is o =
    let same : new ≡ mid = is ∙ is_raw lent (Unit {0}) plain o.may mid in
    in_token front (cut ++ taken) mid.longest to new (stays_in front (cut ++ taken) lent to o)
    (inl (record {
      is = ap (λ y. y.is_open) same ∙ c.is;
      so_far = c.so_far ∙ ap view_of (sym same);
      plain = λ i.
          let texts : items_at label.position ≡ text_items i.long = ap (λ l. items_at l.position) (same_label front label i.label comes i.comes) ∙ i.is_text in
          absurd (no_text_lent i.long cut taken lent plain (subst (λ k. IsLent k cut taken lent) texts h));
    })) (sym (ap (λ y. y.longest) same))

-- ---- where a name is being read, bytes of it come

abbrev IsPart : Item → Type 0
IsPart (item.TextPart part) = Unit {0}
IsPart _ = ⊥

going_part : (front : List Piece) (cut taken : List ℕ) (lent : Item) (label : Label) (x : Names) → GoesOn front cut x → ComesNext front label → 0 < length taken
    → IsLent (items_at label.position) cut taken lent → IsPart lent
going_part front cut taken lent label x g comes some h =
    let texts : items_at label.position ≡ text_items g.long = ap (λ l. items_at l.position) (same_label front label g.label comes g.comes) ∙ g.is_text in
    cases lent (subst (λ k. IsLent k cut taken lent) texts h)
  where
    cases : (lent : Item) → IsOfText g.long cut taken lent → IsPart lent
    cases (item.TextPart part) k = tt
    cases (item.TextLength n) k =
        let a = k.0 in
        let b = length-append cut taken in
        let d = ap length g.cut_is ∙ length-append g.head x.text in
        let e = g.size in
        absurd (omega arith)
    cases _ k = k

-- ---- an item

-- where no name is being read, once the last one is closed
closes_there : (front : List Piece) (cut taken : List ℕ) (lent : Item) (label : Label) (old mid : Names) → IsAt front cut old → ComesNext front label → 0 < length taken
    → IsLent (items_at label.position) cut taken lent → (IsPart lent → ⊥) → Closes old.is_open old mid → Closed front cut mid
closes_there front cut taken lent label old mid (inl c) comes some h other closes = close_closed front cut old mid c closes
closes_there front cut taken lent label old mid (inr (inl e)) comes some h other closes = close_ended front cut old mid e closes
closes_there front cut taken lent label old mid (inr (inr g)) comes some h other closes = absurd (other (going_part front cut taken lent label old g comes some h))

pub closes_longest : (was : Bool) (x mid : Names) → Closes was x mid → mid.longest ≡ x.longest
closes_longest true x mid c = c.longest
closes_longest false x mid c = ap (λ y. y.longest) c

after_length : (front : List Piece) (cut : List ℕ) (n : ℕ) (to : Spot) (old new : Names) → IsAt front cut old → IsNext (spot front cut) (item.TextLength n) to
    → ClosesThen old new begun → Further front old.longest to new
after_length front cut n to old new at l did =
    let t = text_at l.label.position cut l.taken (item.TextLength n) tt l.is in
    let size : length (cut ++ l.taken) ≡ head_size t.0 = (subst (λ k. IsLent k cut l.taken (item.TextLength n)) t.1 l.is).0 in
    let c = closes_there front cut l.taken (item.TextLength n) l.label old did.mid at l.comes l.some l.is (λ p. p) did.closes in
    subst (λ k. Further front k to new) (closes_longest old.is_open old did.mid did.closes) (cases t size c l.after)
  where
    cases : (t : (long : Bool) × (items_at l.label.position ≡ text_items long)) → length (cut ++ l.taken) ≡ head_size t.0 → Closed front cut did.mid
        → EndsToken (spot front cut) l.label (cut ++ l.taken) to ⊎ StaysInToken (spot front cut) (cut ++ l.taken) (item.TextLength n) to
        → Further front did.mid.longest to new
    cases t size c (inl e) = length_ends front cut l.taken l.label t.0 to did.mid new c l.comes t.1 size did.is (many did.mid.left) e
    cases t size c (inr o) =
        length_goes_on front cut l.taken l.label t.0 to did.mid new c l.comes t.1 size did.is (many did.mid.left)
        (stays_in front (cut ++ l.taken) (item.TextLength n) to o)

after_plain : (front : List Piece) (cut : List ℕ) (lent : Item) (to : Spot) (old new : Names) → IsAt front cut old
    → (IsTextItem lent → ⊥) → (IsPart lent → ⊥) → IsNext (spot front cut) lent to → ClosesThen old new (behind lent) → Further front old.longest to new
after_plain front cut lent to old new at plain other l did =
    let c = closes_there front cut l.taken lent l.label old did.mid at l.comes l.some l.is other did.closes in
    subst (λ k. Further front k to new) (closes_longest old.is_open old did.mid did.closes) (cases c l.after)
  where
    cases : Closed front cut did.mid
        → EndsToken (spot front cut) l.label (cut ++ l.taken) to ⊎ StaysInToken (spot front cut) (cut ++ l.taken) lent to
        → Further front did.mid.longest to new
    cases c (inl e) = plain_ends front cut l.taken lent l.label to did.mid new c plain l.is did.is e
    cases c (inr o) = plain_goes_on front cut l.taken lent l.label to did.mid new c l.comes plain l.is did.is o

adds_part : (part taken : List ℕ) (old new : Names) → new ≡ record old { text = old.text ++ part } → part ≡ taken → new ≡ record old { text = old.text ++ taken }
adds_part part taken old new adds is = adds ∙ ap (λ bs. record old { text = old.text ++ bs }) is

after_part : (front : List Piece) (cut taken part : List ℕ) (label : Label) (long : Bool) (to : Spot) (old new : Names)
    → (is_lent : items_at label.position ≡ text_items long) → head_size long ≤ length cut → part ≡ taken → ComesNext front label → IsAt front cut old → Adds old.is_open part old new
    → EndsToken (spot front cut) label (cut ++ taken) to ⊎ StaysIn front (cut ++ taken) to
    → Further front old.longest to new
after_part front cut taken part label long to old new texts past is comes (inl c) adds (inl e) =
    part_closed front cut taken label long to old new c comes texts past (subst (λ b. Adds b part old new) c.is adds) e
after_part front cut taken part label long to old new texts past is comes (inl c) adds (inr st) =
    part_closed_on front cut taken label long to old new c comes texts past (subst (λ b. Adds b part old new) c.is adds) st
after_part front cut taken part label long to old new texts past is comes (inr (inl e)) adds x =
    absurd (e.plain (record { label = label; comes = comes; long = long; is_text = texts; past = past }))
after_part front cut taken part label long to old new texts past is comes (inr (inr g)) adds (inl e) =
    let texts_there : items_at label.position ≡ text_items g.long = ap (λ l. items_at l.position) (same_label front label g.label comes g.comes) ∙ g.is_text in
    part_goes front cut taken label long to old new g texts_there
    (adds_part part taken old new (subst (λ b. Adds b part old new) g.is adds) is) e
after_part front cut taken part label long to old new texts past is comes (inr (inr g)) adds (inr st) =
    part_goes_on front cut taken to old new g
    (adds_part part taken old new (subst (λ b. Adds b part old new) g.is adds) is) st

stands_after : (front : List Piece) (label : Label) (bytes : List ℕ) (lent : Item) (to : Spot) {cut : List ℕ}
    → EndsToken (spot front cut) label bytes to ⊎ StaysInToken (spot front cut) bytes lent to → EndsToken (spot front cut) label bytes to ⊎ StaysIn front bytes to
stands_after front label bytes lent to (inl e) = inl e
stands_after front label bytes lent to (inr o) = inr (stays_in front bytes lent to o)

further : (front : List Piece) (cut : List ℕ) (lent : Item) (to : Spot) (old new : Names) → IsAt front cut old → IsNext (spot front cut) lent to → Takes lent old new
    → Further front old.longest to new
further front cut (item.TextPart part) to old new at l did =
    let t = text_at l.label.position cut l.taken (item.TextPart part) tt l.is in
    let k = subst (λ k. IsLent k cut l.taken (item.TextPart part)) t.1 l.is in
    after_part front cut l.taken part.now l.label t.0 to old new t.1 k.0 k.1 l.comes at did
    (stands_after front l.label (cut ++ l.taken) (item.TextPart part) to l.after)
further front cut (item.TextLength n) to old new at l did = after_length front cut n to old new at l did
further front cut item.Header to old new at l did = after_plain front cut item.Header to old new at (λ x. x) (λ x. x) l did
further front cut (item.Tag n) to old new at l did = after_plain front cut (item.Tag n) to old new at (λ x. x) (λ x. x) l did
further front cut (item.Handle n) to old new at l did = after_plain front cut (item.Handle n) to old new at (λ x. x) (λ x. x) l did
further front cut (item.Suid n) to old new at l did = after_plain front cut (item.Suid n) to old new at (λ x. x) (λ x. x) l did
further front cut (item.Flags n) to old new at l did = after_plain front cut (item.Flags n) to old new at (λ x. x) (λ x. x) l did
further front cut (item.FieldCount n) to old new at l did = after_plain front cut (item.FieldCount n) to old new at (λ x. x) (λ x. x) l did
further front cut (item.InterfaceCount n) to old new at l did = after_plain front cut (item.InterfaceCount n) to old new at (λ x. x) (λ x. x) l did
further front cut (item.TypeCode n) to old new at l did = after_plain front cut (item.TypeCode n) to old new at (λ x. x) (λ x. x) l did
further front cut (item.ArrayLength n) to old new at l did = after_plain front cut (item.ArrayLength n) to old new at (λ x. x) (λ x. x) l did
further front cut (item.BlockLength n) to old new at l did = after_plain front cut (item.BlockLength n) to old new at (λ x. x) (λ x. x) l did
further front cut (item.RawPart part) to old new at l did = after_plain front cut (item.RawPart part) to old new at (λ x. x) (λ x. x) l did

-- ---- all that a visitor took

-- the names and the longest array are those of the tokens before a spot
abbrev pub StandsAt : Spot → Names → Type 0
StandsAt at x = IsAt at.front at.cut x × (measured 0 at.front ≡ x.longest)

pub takes_item : (at to : Spot) (lent : Item) (old new : Names) → StandsAt at old → IsNext at lent to → Takes lent old new → StandsAt to new
takes_item at to lent old new h n did = let f = further at.front at.cut lent to old new h.0 n did in (f.at, f.measures h.1)

pub takes_short : (at to : Spot) (x : Names) → StandsAt at x → IsShort at to → StandsAt to x
takes_short at to x h w =
    (subst (λ xs. IsAt xs to.cut x) (sym w.front_is) (subst (λ xs. IsAt at.front xs x) (sym w.cut_is) (cases h.0)), ap (measured 0) w.front_is ∙ h.1)
  where
    not_past : InText at.front (at.cut ++ w.taken) → ⊥
    not_past i =
        let texts : items_at w.label.position ≡ text_items i.long = ap (λ l. items_at l.position) (same_label at.front w.label i.label w.comes i.comes) ∙ i.is_text in
        let short : length (at.cut ++ w.taken) < head_size i.long = subst (λ k. length (at.cut ++ w.taken) < first_size k) texts w.short in
        let past = i.past in
        omega arith

    cases : IsAt at.front at.cut x → IsAt at.front (at.cut ++ w.taken) x
    cases (inl c) = inl (record { is = c.is; so_far = c.so_far; plain = λ i. absurd (not_past i) })
    cases (inr (inl e)) = inr (inl (record {
      is = e.is;
      some = e.some;
      before = e.before;
      label = e.label;
      long = e.long;
      units = e.units;
      front_is = e.front_is;
      so_far = e.so_far;
      are_units = e.are_units;
      spelled = e.spelled;
      plain = not_past;
    }))
    cases (inr (inr g)) =
        let a = ap length g.cut_is ∙ length-append g.head x.text in
        let b = length-append at.cut w.taken in
        let d = g.size in
        absurd (not_past (record { label = g.label; comes = g.comes; long = g.long; is_text = g.is_text; past = omega arith }))
