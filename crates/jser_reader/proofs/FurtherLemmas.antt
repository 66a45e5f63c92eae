-- Where a reader stands after an item, and after a value that is lent at once: by which items it went on.
use Rattle.std.proofs.Common.{◌≡◌, ◌⊎◌, inl, inr, ℕ, zero, suc, ◌^◌, false, Some, length-drop, ◌+◌, ◌-◌, ◌<◌, ◌≤◌, List, [], ◌∷◌, ◌++◌, length, take, drop, Ok, refl, sym, ◌∙◌, ap, subst, arith, append_assoc, append-nil, length-append}
use denote.Bor.{Bor}
use Rattle.std.proofs.lemmas.List.{take-append-drop, length-take-le}
use Rattle.std.proofs.Math.Seq.{take-append_seam, drop-append_seam}
use Rattle.jser_prim.specs.Bytes.{big_bytes}
use Rattle.jser_prim.specs.ModifiedUtf8.{modified_utf8}
use Rattle.jser_grammar.specs.Wire.{TC_REFERENCE, TC_STRING}
use Rattle.jser_reading.specs.Labels.{StreamToken, Label, Piece, piece}
use Rattle.jser_reading.specs.TokenBytes.{bytes_of, joined}
use Rattle.jser_reading.specs.TokensFromBytes.{number_of}
use Rattle.jser_reading.specs.ComesNext.{ComesNext}
use Rattle.jser_reading.proofs.Decoding.{number_2, length-big_bytes}
use Rattle.jser_reading.proofs.Walking.{joined-append}
use Rattle.jser_verdict.specs.Gates.{Gate}
use Rattle.jser_reader.specs.declared.item.Item.{Item}
use Rattle.jser_reader.specs.declared.item.Item.TheVariants as item
use Rattle.jser_reader.specs.declared.item.Step.TheVariants as step
use Rattle.jser_reader.specs.declared.item.Whole.{Whole}
use Rattle.jser_reader.specs.declared.item.Whole.TheVariants as whole
use Rattle.jser_reader.specs.declared.tally.Tally.{Tally}
use Rattle.jser_reader.specs.declared.visit.Whereabouts.{Whereabouts}
use Rattle.jser_reader.specs.Bounds.{AreAssigned}
use Rattle.jser_reader.specs.Feeds.{all_after}
use Rattle.jser_reader.specs.Items.{IsLent, items_at}
use Rattle.jser_reader.specs.ItemsTold.{StandsIn, TokenEnds, TokenGoesOn, IsFull, MayGoOn, Lends, TellsItems}
use Rattle.jser_reader.specs.Passes.{PassTells}
use Rattle.jser_reader.specs.Readers.{Seen}
use Rattle.jser_reader.specs.ReaderStates.{StandsFor, NextTells}
use Rattle.jser_reader.specs.Showing.{AllFurther, StepsOn, here}
use Rattle.jser_reader.specs.Visits.{Spot, bytes_at, EndsCall, IsShown, Shown, shown, AreShown, part_items, string_items, whole_items, whole_size}
use Rattle.jser_reader.specs.WholesTold.{TellsText, TextEnds, TellsWhole}
use Rattle.jser_reader.proofs.MemoryLemmas.{are_assigned}
use Rattle.jser_reader.proofs.PassLemmas.{joined_takes}
use Rattle.jser_reader.proofs.TextTokens.{IsTextToken, text_told}

-- ---- one item

pub one_more : (front : List Piece) (label : Label) (told : StreamToken) → joined (front ++ (piece label told ∷ [])) ≡ joined front ++ bytes_of told
one_more front label told = joined-append front (piece label told ∷ []) ∙ ap (λ xs. joined front ++ xs) (append-nil (bytes_of told))

-- an item further
pub record Further (gate : Gate) (all : ℕ) (at : Spot) (lent : Item) (whereabouts : Whereabouts) (taken : List ℕ) (r : Seen) (tally : Tally) : Type 0 where
  pub to : Spot
  pub shown : IsShown gate all at lent whereabouts to
  pub bytes : bytes_at to ≡ bytes_at at ++ taken
  pub reads : StandsIn gate to.front to.cut r tally

may_go : (lent : Item) (full then : Type 0) → (full → then) → MayGoOn lent full → MayGoOn lent then
may_go (item.TextLength n) full then f m = m
may_go (item.TextPart part) full then f m = f m
may_go (item.RawPart part) full then f m = f m
may_go _ full then f m = absurd m

-- so many handles are assigned before the token that comes there
abbrev pub Assigned : Spot → ℕ → Type 0
Assigned at handles = (label : Label) → ComesNext at.front label → length label.moment.table ≡ handles

pub assigned_at : (gate : Gate) (handles : ℕ) (at : Spot) (r : Seen) (tally : Tally) → AreAssigned gate handles r tally → StandsIn gate at.front at.cut r tally → Assigned at handles
unfolding AreAssigned
assigned_at gate handles at r tally a st = λ label comes. a at.front at.cut label st comes

pub size_after : (at to : Spot) (given : List ℕ) (size : ℕ) → bytes_at to ≡ bytes_at at ++ take size given → size ≤ length given → length (bytes_at to) ≡ length (bytes_at at) + size
size_after at to given size e le = ap length e ∙ length-append (bytes_at at) (take size given) ∙ ap (λ n. length (bytes_at at) + n) (length-take-le size given le)

-- a part that has all of the piece is the last item of the call
at_end : (gate : Gate) (all : ℕ) (at : Spot) (given : List ℕ) (used : ℕ) (r : Seen) (tally : Tally) → all ≡ length (bytes_at at) + length given
    → length (joined at.front ++ (at.cut ++ take used given)) ≡ length (bytes_at at) + used → StandsIn gate at.front (at.cut ++ take used given) r tally
    → IsFull gate at.front (at.cut ++ take used given) given used → EndsCall gate all (record { front = at.front; cut = at.cut ++ take used given })
at_end gate all at given used r tally most size st (inl e) =
    record { reader = r; tally = tally; reads = st; at_end = inl (size ∙ ap (λ n. length (bytes_at at) + n) e ∙ sym most) }
at_end gate all at given used r tally most size st (inr e) = record { reader = r; tally = tally; reads = st; at_end = inr e }

pub further : (gate : Gate) (all : ℕ) (at : Spot) (given : List ℕ) (lent : Item) (handles end used : ℕ) (r : Seen) (tally : Tally) → 0 < used → used ≤ length given
    → all ≡ length (bytes_at at) + length given → Assigned at handles → end ≡ length (bytes_at at) + used
    → Lends gate at.front at.cut given lent used r tally → Further gate all at lent (record { handles = handles; end = end }) (take used given) r tally
further gate all at given lent handles end used r tally some le most assigned ends l = cases l.after
  where
    taken : List ℕ
    taken = take used given

    gone : 0 < length (take used given)
    gone = let size = length-take-le used given le in omega arith

    cases : TokenEnds gate at.front l.label (at.cut ++ take used given) r tally ⊎ TokenGoesOn gate at.front (at.cut ++ take used given) given used lent r tally
        → Further gate all at lent (record { handles = handles; end = end }) (take used given) r tally
    cases (inl e) =
        let to : Spot = record { front = at.front ++ (piece l.label e.token ∷ []); cut = [] } in
        let bytes : bytes_at to ≡ bytes_at at ++ take used given =
        append-nil (joined (at.front ++ (piece l.label e.token ∷ []))) ∙ one_more at.front l.label e.token
        ∙ ap (λ xs. joined at.front ++ xs) e.spelled ∙ sym (append_assoc (joined at.front) at.cut (take used given)) in
        record {
          to = to;
          shown = record {
            next = record {
              label = l.label;
              comes = l.comes;
              taken = take used given;
              some = gone;
              is = l.is;
              after = inl (record { token = e.token; spelled = e.spelled; accepted = e.accepted; front_is = refl; cut_is = refl });
            };
            handles = assigned;
            end = ends ∙ sym (size_after at to given used bytes le);
            full = inl refl;
          };
          bytes = bytes;
          reads = e.stands;
        }
    cases (inr o) =
        let to : Spot = record { front = at.front; cut = at.cut ++ take used given } in
        let bytes : bytes_at to ≡ bytes_at at ++ take used given = sym (append_assoc (joined at.front) at.cut (take used given)) in
        let size = size_after at to given used bytes le in
        record {
          to = to;
          shown = record {
            next = record {
              label = l.label;
              comes = l.comes;
              taken = take used given;
              some = gone;
              is = l.is;
              after = inr (record { may = may_go lent _ _ (λ _. tt) o.full; front_is = refl; cut_is = refl });
            };
            handles = assigned;
            end = ends ∙ sym size;
            full = inr (may_go lent _ _ (at_end gate all at given used r tally most size o.stands) o.full);
          };
          bytes = bytes;
          reads = o.stands;
        }

-- ---- several items

pub take_then : (n m : ℕ) (xs : List ℕ) → n ≤ length xs → take (n + m) xs ≡ take n xs ++ take m (drop n xs)
take_then n m xs le = sym (joined_takes xs (drop n xs) n m le (sym (take-append-drop n xs)))

pub one_then : (gate : Gate) (all : ℕ) (at : Spot) (one : Shown) (more : List Shown) (size len : ℕ) (given : List ℕ) (mid : Seen) (between : Tally) (r : Seen) (tally : Tally)
    → (f : Further gate all at one.lent one.whereabouts (take size given) mid between) → AllFurther gate all f.to more (take len (drop size given)) r tally → size ≤ length given
    → AllFurther gate all at (one ∷ more) (take (size + len) given) r tally
one_then gate all at one more size len given mid between r tally f g le = record {
  to = g.to;
  next = (f.to, f.shown, g.next);
  bytes =
      g.bytes ∙ ap (λ xs. xs ++ take len (drop size given)) f.bytes ∙ append_assoc (bytes_at at) (take size given) (take len (drop size given))
      ∙ ap (λ xs. bytes_at at ++ xs) (sym (take_then size len given le));
  reads = g.reads;
}

pub only_one : (gate : Gate) (all : ℕ) (at : Spot) (one : Shown) (taken : List ℕ) (r : Seen) (tally : Tally) → Further gate all at one.lent one.whereabouts taken r tally
    → AllFurther gate all at (one ∷ []) taken r tally
only_one gate all at one taken r tally f = record { to = f.to; next = (f.to, f.shown, refl); bytes = f.bytes; reads = f.reads }

-- ---- a text

text_number : (units : List ℕ) (given : List ℕ) (len : ℕ) → length (modified_utf8 units) < 2 ^ 16 → big_bytes 2 (length (modified_utf8 units)) ++ modified_utf8 units ≡ take (2 + len) given
    → 2 + len ≤ length given → (number_of (take 2 given) ≡ len) × (length (modified_utf8 units) ≡ len)
text_number units given len small spelled le =
    let n = length (modified_utf8 units) in
    let head = length-big_bytes 2 n in
    let whole = length-take-le (2 + len) given le in
    let both = length-append (big_bytes 2 n) (modified_utf8 units) in
    let same = ap length spelled in
    let size : n ≡ len = omega arith in
    let two : 2 ≤ length given = omega arith in
    let start : big_bytes 2 n ≡ take 2 given =
    sym (take-append_seam (big_bytes 2 n) (modified_utf8 units)) ∙ ap (λ k. take k (big_bytes 2 n ++ modified_utf8 units)) head ∙ ap (take 2) (spelled ∙ take_then 2 len given two)
    ∙ ap (λ k. take k (take 2 given ++ take len (drop 2 given))) (sym (length-take-le 2 given two)) ∙ take-append_seam (take 2 given) (take len (drop 2 given)) in
    (ap number_of (sym start) ∙ number_2 n small ∙ size, size)

-- the parts of a text, after its length
pub text_further : (gate : Gate) (all : ℕ) (at : Spot) (given : List ℕ) (text : Bor (List ℕ)) (handles end : ℕ) (r : Seen) (tally : Tally) → Assigned at handles
    → end ≡ length (bytes_at at) + (2 + length text.now) → TextEnds gate at.front at.cut given text.now r tally → 2 + length text.now ≤ length given
    → AllFurther gate all at (shown (item.TextLength (length text.now)) handles (end - length text.now) ∷ part_items text handles end (length text.now))
    (take (2 + length text.now) given) r tally
text_further gate all at given text handles end r tally assigned ends t le = cases (length text.now) refl
  where
    told : IsTextToken false t.ends.token
    told = text_told t.label.position t.label.moment t.ends.token false t.ends.accepted t.is_text

    numbers : (number_of (take 2 given) ≡ length text.now) × (length (modified_utf8 told.0) ≡ length text.now)
    numbers = text_number told.0 given (length text.now) told.1.1 (sym (ap bytes_of told.2) ∙ t.ends.spelled) le

    two : 2 ≤ length given
    two = omega arith

    last : Spot
    last = record { front = at.front ++ (piece t.label t.ends.token ∷ []); cut = [] }

    cut_none : (xs : List ℕ) → at.cut ++ xs ≡ xs
    cut_none xs = ap (λ c. c ++ xs) t.none

    is_length : IsLent (items_at t.label.position) at.cut (take 2 given) (item.TextLength (length text.now))
    is_length =
        subst (λ k. IsLent k at.cut (take 2 given) (item.TextLength (length text.now))) (sym t.is_text)
        (ap length (cut_none (take 2 given)) ∙ length-take-le 2 given two, sym (numbers.0) ∙ ap number_of (sym (cut_none (take 2 given))))

    bytes : bytes_at last ≡ bytes_at at ++ take (2 + length text.now) given
    bytes =
        append-nil (joined (at.front ++ (piece t.label t.ends.token ∷ []))) ∙ one_more at.front t.label t.ends.token ∙ ap (λ xs. joined at.front ++ xs) t.ends.spelled
        ∙ ap (λ xs. joined at.front ++ xs) (sym (cut_none (take (2 + length text.now) given))) ∙ sym (append_assoc (joined at.front) at.cut (take (2 + length text.now) given))

    at_last : end ≡ length (bytes_at last)
    at_last = ends ∙ sym (size_after at last given (2 + length text.now) bytes le)

    cases : (n : ℕ) → length text.now ≡ n
        → AllFurther gate all at (shown (item.TextLength (length text.now)) handles (end - length text.now) ∷ part_items text handles end (length text.now))
        (take (2 + length text.now) given) r tally
    cases zero none = record {
      to = last;
      next =
          subst (λ n. AreShown gate all (shown (item.TextLength (length text.now)) handles (end - length text.now) ∷ part_items text handles end n) at last) (sym none) (
            last,
            record {
              next = record {
                label = t.label;
                comes = t.comes;
                taken = take 2 given;
                some = let size = length-take-le 2 given two in omega arith;
                is = is_length;
                after = inl (record {
                  token = t.ends.token;
                  spelled = t.ends.spelled ∙ ap (λ n. take (2 + n) given) none ∙ sym (cut_none (take 2 given));
                  accepted = t.ends.accepted;
                  front_is = refl;
                  cut_is = refl;
                });
              };
              handles = assigned;
              end = let e = at_last in omega arith;
              full = inl refl;
            },
            refl,
          );
      bytes = bytes;
      reads = t.ends.stands;
    }
    cases (suc n) more = record {
      to = last;
      next =
          let len = length text.now in
          let mid : Spot = record { front = at.front; cut = at.cut ++ take 2 given } in
          let size = length-take-le 2 given two in
          let rest = length-drop 2 given in
          let size_then = length-take-le len (drop 2 given) (omega arith) in
          let head = ap length (cut_none (take 2 given)) in
          let at_mid = size_after at mid given 2 (sym (append_assoc (joined at.front) at.cut (take 2 given))) two in
          subst (λ n. AreShown gate all (shown (item.TextLength len) handles (end - len) ∷ part_items text handles end n) at last) (sym more) (
            mid,
            record {
              next = record {
                label = t.label;
                comes = t.comes;
                taken = take 2 given;
                some = omega arith;
                is = is_length;
                after = inr (record { may = omega arith; front_is = refl; cut_is = refl });
              };
              handles = assigned;
              end = omega arith;
              full = inr (omega arith);
            },
            (
              last,
              record {
                next = record {
                  label = t.label;
                  comes = t.comes;
                  taken = take len (drop 2 given);
                  some = omega arith;
                  is =
                      subst (λ k. IsLent k mid.cut (take len (drop 2 given)) (item.TextPart text)) (sym t.is_text) (
                        omega arith,
                        t.bytes ∙ ap (drop 2) (take_then 2 len given two) ∙ ap (λ k. drop k (take 2 given ++ take len (drop 2 given))) (sym size)
                            ∙ drop-append_seam (take 2 given) (take len (drop 2 given)),
                      );
                  after = inl (record {
                    token = t.ends.token;
                    spelled = t.ends.spelled ∙ take_then 2 len given two ∙ ap (λ xs. xs ++ take len (drop 2 given)) (sym (cut_none (take 2 given)));
                    accepted = t.ends.accepted;
                    front_is = refl;
                    cut_is = refl;
                  });
                };
                handles = assigned;
                end = at_last;
                full = inl refl;
              },
              refl,
            ),
          );
      bytes = bytes;
      reads = t.ends.stands;
    }

-- ---- a value that is lent at once

module _ (gate : Gate) (all : ℕ) (at : Spot) (given : List ℕ) (end : ℕ) (old : Seen) (before : Tally) (new : Seen) (after : Tally) (st : StandsIn gate at.front at.cut old before)
    (most : all ≡ length (bytes_at at) + length given) where
  whole_further : (w : Whole) → end ≡ length (bytes_at at) + whole_size w → TellsWhole gate given w old before new after
      → AllFurther gate all at (whole_items w (record { handles = length old.table.entries; end = end })) (take (whole_size w) given) new after
  unfolding TellsItems TellsText
  whole_further (whole.Reference handle) ends t =
      let n = length old.table.entries in
      let enough = t.within in
      let one = length-drop 1 given in
      let a = assigned_at gate n at old before (are_assigned gate n old before refl) st in
      let f = further gate all at given (item.Tag TC_REFERENCE) n (end - 4) 1 t.between after (omega arith) (omega arith) most a (omega arith) (t.tag at.front at.cut st) in
      let there = size_after at f.to given 1 f.bytes (omega arith) in
      let b = assigned_at gate n f.to t.between after t.assigned f.reads in
      let g = further gate all f.to (drop 1 given) (item.Handle handle) n end 4 new after (omega arith) (omega arith) (omega arith) b (omega arith) (t.number f.to.front f.to.cut f.reads) in
      one_then gate all at (shown (item.Tag TC_REFERENCE) n (end - 4)) (shown (item.Handle handle) n end ∷ []) 1 4 given t.between after new after f
      (only_one gate all f.to (shown (item.Handle handle) n end) (take 4 (drop 1 given)) new after g) (omega arith)
  whole_further (whole.String text) ends t =
      let n = length old.table.entries in
      let enough = t.within in
      let one = length-drop 1 given in
      let len = length text.now in
      let same : 1 + (2 + len) ≡ len + 3 = omega arith in
      let next : suc n ≡ n + 1 = omega arith in
      let a = assigned_at gate n at old before (are_assigned gate n old before refl) st in
      let f = further gate all at given (item.Tag TC_STRING) n (end - (len + 2)) 1 t.between after (omega arith) (omega arith) most a (omega arith) (t.tag at.front at.cut st) in
      let there = size_after at f.to given 1 f.bytes (omega arith) in
      let b = assigned_at gate (n + 1) f.to t.between after (subst (λ k. AreAssigned gate k t.between after) next t.assigned) f.reads in
      subst (λ k. AllFurther gate all at (string_items text n end) (take k given) new after) same
      (one_then gate all at (shown (item.Tag TC_STRING) n (end - (len + 2))) (shown (item.TextLength len) (n + 1) (end - len) ∷ part_items text (n + 1) end len) 1 (2 + len) given t.between after new after f
      (text_further gate all f.to (drop 1 given) text (n + 1) end new after b (omega arith) (t.body f.to.front f.to.cut f.reads) (omega arith)) (omega arith))
  whole_further (whole.Owner tag class) ends t =
      let n = length old.table.entries in
      let enough = t.within in
      let one = length-drop 1 given in
      let two = length-drop 1 (drop 1 given) in
      let a = assigned_at gate n at old before (are_assigned gate n old before refl) st in
      let f = further gate all at given (item.Tag tag) n (end - 5) 1 t.first after (omega arith) (omega arith) most a (omega arith) (t.own at.front at.cut st) in
      let there = size_after at f.to given 1 f.bytes (omega arith) in
      let b = assigned_at gate n f.to t.first after t.assigned f.reads in
      let g = further gate all f.to (drop 1 given) (item.Tag TC_REFERENCE) n (end - 4) 1 t.second after (omega arith) (omega arith) (omega arith) b (omega arith) (t.place f.to.front f.to.cut f.reads) in
      let then = size_after f.to g.to (drop 1 given) 1 g.bytes (omega arith) in
      let c = assigned_at gate n g.to t.second after t.assigned_then g.reads in
      let k = further gate all g.to (drop 1 (drop 1 given)) (item.Handle class) n end 4 new after (omega arith) (omega arith) (omega arith) c (omega arith) (t.number g.to.front g.to.cut g.reads) in
      one_then gate all at (shown (item.Tag tag) n (end - 5)) (shown (item.Tag TC_REFERENCE) n (end - 4) ∷ (shown (item.Handle class) n end ∷ [])) 1 5 given t.first after new after f
      (one_then gate all f.to (shown (item.Tag TC_REFERENCE) n (end - 4)) (shown (item.Handle class) n end ∷ []) 1 4 (drop 1 given) t.second after new after g
      (only_one gate all g.to (shown (item.Handle class) n end) (take 4 (drop 1 (drop 1 given))) new after k) (omega arith)) (omega arith)

-- ---- a step that takes some items

-- the place behind it
pub taken_to : (gate : Gate) (given : List ℕ) (size : ℕ) (old : Seen) (before : Tally) (new : Seen) (after : Tally) (at : Spot) → PassTells gate given (Some size) old before new after
    → StandsIn gate at.front at.cut old before → new.meter.at ≡ length (bytes_at at) + size
unfolding PassTells StandsFor
taken_to gate given size old before new after at t st =
    let r = t (bytes_at at) (st.counted, st.within) in
    r.1.0.taken.taken ∙ length-append (bytes_at at) (take size given) ∙ ap (λ n. length (bytes_at at) + n) (length-take-le size given r.0)

pub item_steps : (gate : Gate) (given : List ℕ) (lent : Item) (used : ℕ) (old : Seen) (before : Tally) (new : Seen) (after : Tally)
    → NextTells gate given (Ok (step.Item lent used)) old before new after → TellsItems gate given (Ok (step.Item lent used)) old before new after
    → 0 < used → used ≤ length given → StepsOn gate given (record { lent = lent; whereabouts = here old new } ∷ []) used old before new after
unfolding NextTells TellsItems PassTells
item_steps gate given lent used old before new after t i some le =
    let tells : PassTells gate given (Some used) old before new after = λ bytes st. let r = t bytes st in (r.1, r.2) in
    let n = length old.table.entries in
    record {
      tells = tells;
      shows = λ at st.
          only_one gate (all_after at given) at (shown lent n new.meter.at) (take used given) new after
          (further gate (all_after at given) at given lent n new.meter.at used new after some le (length-append (bytes_at at) given)
          (assigned_at gate n at old before (are_assigned gate n old before refl) st) (taken_to gate given used old before new after at tells st) (i at.front at.cut st));
    }

whole_tells : (gate : Gate) (given : List ℕ) (w : Whole) (old : Seen) (before : Tally) (new : Seen) (after : Tally) → TellsWhole gate given w old before new after
    → PassTells gate given (Some (whole_size w)) old before new after
whole_tells gate given (whole.Reference handle) old before new after t = t.tells
whole_tells gate given (whole.String text) old before new after t = t.tells
whole_tells gate given (whole.Owner tag class) old before new after t = t.tells

pub whole_steps : (gate : Gate) (given : List ℕ) (w : Whole) (old : Seen) (before : Tally) (new : Seen) (after : Tally) → TellsWhole gate given w old before new after
    → StepsOn gate given (whole_items w (here old new)) (whole_size w) old before new after
whole_steps gate given w old before new after told = record {
  tells = whole_tells gate given w old before new after told;
  shows = λ at st.
      whole_further gate (all_after at given) at given new.meter.at old before new after st (length-append (bytes_at at) given) w
      (taken_to gate given (whole_size w) old before new after at (whole_tells gate given w old before new after told) st) told;
}

-- it takes something, and no more than the piece has
pub whole_within : (gate : Gate) (given : List ℕ) (w : Whole) (old : Seen) (before : Tally) (new : Seen) (after : Tally) → TellsWhole gate given w old before new after
    → (0 < whole_size w) × (whole_size w ≤ length given)
whole_within gate given (whole.Reference handle) old before new after t = (omega arith, t.within)
whole_within gate given (whole.String text) old before new after t = let a = t.within in (omega arith, omega arith)
whole_within gate given (whole.Owner tag class) old before new after t = (omega arith, t.within)
