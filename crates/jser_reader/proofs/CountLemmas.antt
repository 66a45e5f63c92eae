-- A tally goes on from token to token, and at the end of a stream it tells the counts of its list.
use Rattle.std.proofs.Common.{◌≡◌, ℕ, zero, suc, ◌+◌, ◌^◌, ◌<◌, ◌≤◌, ◌&&◌, max, Bool, true, false, List, [], ◌∷◌, ◌++◌, length, get_or, if◌then◌else◌, Option, Some, refl, sym, ◌∙◌, ap, ap₂, subst, arith, append_assoc, append-nil, length-append}
use Rattle.jser_grammar.specs.Parts.{IsBytes}
use Rattle.jser_grammar.specs.TableAfter.{Entries}
use Rattle.jser_grammar.specs.Trees.{ContentTrees}
use Rattle.jser_grammar.specs.Spelling.{spelling}
use Rattle.jser_grammar.specs.Streams.{IsStreamOf}
use Rattle.jser_reading.specs.Moments.{Moment}
use Rattle.jser_reading.specs.Labels.{StreamToken, tag_token, reset_tag_token, Position, top_at, string_at, block_length_at, raw_at, bytes_at, Label, Piece, piece}
use Rattle.jser_reading.specs.Tokens.{tokens_of}
use Rattle.jser_reading.specs.TokenBytes.{bytes_of, joined}
use Rattle.jser_reading.specs.TokensFromBytes.{tag_from, size_in}
use Rattle.jser_reading.specs.Goals.{State, settled}
use Rattle.jser_reading.specs.Accepts.{label_of, AcceptsAt, Accepts}
use Rattle.jser_reading.specs.Machine.{begin_state, Runs, Reads, IsDone, left, advance}
use Rattle.jser_reading.specs.GateLimits.{begins_place, assigns_handle}
use Rattle.jser_reading.specs.Totals.{begins_content, one_more_if, count_of, number_if, deepest}
use Rattle.jser_reading.specs.Scanner.{TokenGate, more, good}
use Rattle.jser_reading.proofs.Exact.{exact_law}
use Rattle.jser_reading.proofs.Fronts.{Reads-append}
use Rattle.jser_reading.proofs.OneReading.{one_reading_law}
use Rattle.jser_reading.proofs.PlainVerdict.{plain_verdict, scanner}
use Rattle.jser_reading.proofs.SpelledTokens.{spelled_law}
use Rattle.jser_reading.proofs.TotalsObserved.{totalled_law}
use Rattle.jser_verdict.specs.Gates.{Gate, IsGate}
use Rattle.jser_verdict.proofs.ByteLists.{bytes_both, bytes_right}
use Rattle.jser_reader.specs.declared.machine.flow.Flow.TheVariants as flow
use Rattle.jser_reader.specs.declared.phase.Phase.{Phase}
use Rattle.jser_reader.specs.declared.phase.Phase.TheVariants as phase
use Rattle.jser_reader.specs.declared.tally.Tally.{Tally}
use Rattle.jser_reader.specs.Readers.{Seen}
use Rattle.jser_reader.specs.Walks.{gate_with, Stands, HasTaken, Takes, Keeps, IsNew}
use Rattle.jser_reader.specs.WholeContents.{IsWhole}
use Rattle.jser_reader.specs.Tallies.{ended_by, earlier_handles, no_tally, is_top, may_count, Tallied, begun_next, content_begun, with_token, with_tag, tally_next, EpochFits, HasCounted, totals_of, AreTotals}
use Rattle.jser_reader.proofs.GoalCounts.{counted_from_start, label_moment}
use Rattle.jser_reader.proofs.LabelLemmas.{is_tag, moment_is, tells_is, tag_is}
use Rattle.jser_reader.proofs.StandLemmas.{token_read, took_stands, kept_stands}
use Rattle.jser_reader.proofs.StreamWalks.{new_stands, ends_at_top}
use Rattle.jser_reader.proofs.WholeContentLemmas.{whole_of_none, whole_inside, whole_top, took_whole, kept_whole}

-- ---- one piece more

both_more : (b c : Bool) (n : ℕ) → one_more_if b (one_more_if c n) ≡ one_more_if c (one_more_if b n)
both_more true true n = refl
both_more true false n = refl
both_more false true n = refl
both_more false false n = refl

pub count_one_more : (test : Position → StreamToken → Bool) (tokens : List Piece) (l : Label) (f : StreamToken)
    → count_of test (tokens ++ (piece l f ∷ [])) ≡ one_more_if (test l.position f) (count_of test tokens)
count_one_more test [] l f = refl
count_one_more test (piece k g ∷ tokens) l f =
    ap (one_more_if (test k.position g)) (count_one_more test tokens l f)
    ∙ both_more (test k.position g) (test l.position f) (count_of test tokens)

deepest_one_more : (tokens : List Piece) (l : Label) (f : StreamToken)
    → deepest (tokens ++ (piece l f ∷ [])) ≡ max (deepest tokens) (number_if (begins_place l.position f) l.depth)
deepest_one_more [] l f = omega arith
deepest_one_more (piece k g ∷ tokens) l f = let e = deepest_one_more tokens l f in omega arith

earlier_one_more : (tokens : List Piece) (l : Label) (f : StreamToken)
    → earlier_handles (tokens ++ (piece l f ∷ [])) ≡ earlier_handles tokens + ended_by f l.moment.table
earlier_one_more [] l f = omega arith
earlier_one_more (piece k g ∷ tokens) l f = let e = earlier_one_more tokens l f in omega arith

-- ---- what the next token counts

-- a reset is taken at the top alone
ended_at_top : (f : StreamToken) (position : Position) (m : Moment) → AcceptsAt position m f → begins_content position f ≡ false → ended_by f m.table ≡ 0
ended_at_top reset_tag_token top_at m a e = absurd (cc)
ended_at_top reset_tag_token (string_at true) m a e = absurd a
ended_at_top reset_tag_token (block_length_at true) m a e = absurd a
ended_at_top reset_tag_token (raw_at c zero) m a e = absurd a
ended_at_top reset_tag_token (bytes_at zero) m a e = absurd a
ended_at_top reset_tag_token _ m a e = absurd a
ended_at_top f position m a e = refl

-- what the token counts

same_contents : (r : Seen) (f : StreamToken) (tally : Tally) → (with_token r (Some f) tally).contents ≡ tally.contents
same_contents r (tag_token tag) tally = refl
same_contents r reset_tag_token tally = refl
same_contents r _ tally = refl

ended_with : (r : Seen) (f : StreamToken) (T : Entries) (tally : Tally) → length r.table.entries ≡ length T → (with_token r (Some f) tally).earlier ≡ tally.earlier + ended_by f T
ended_with r (tag_token tag) T tally e = omega arith
ended_with r reset_tag_token T tally e = omega arith
ended_with r _ T tally e = omega arith

deep_with : (r : Seen) (f : StreamToken) (tally : Tally) → (with_token r (Some f) tally).depth ≡ max tally.depth (number_if (is_tag f) (suc (length r.frames)))
deep_with r (tag_token tag) tally = refl
deep_with r reset_tag_token tally = omega arith
deep_with r _ tally = omega arith

below_top : (p : Phase) → may_count p ≡ false → is_top p ≡ false
below_top phase.Top e = absurd (cc)
below_top _ e = refl

-- the tally tells one token more
pub tallied_on : (gate : Gate) (old : Seen) (s : State) (cut taken : List ℕ) (tokens : List Piece) (token : StreamToken) (tally : Tally)
    → Stands gate old s cut → Accepts (label_of s) token → cut ++ taken ≡ bytes_of token → size_in (label_of s).position (cut ++ taken) ≡ length (cut ++ taken)
    → Tallied tokens tally → Tallied (tokens ++ (piece (label_of s) token ∷ [])) (tally_next old (get_or taken 0 0) tally)
tallied_on gate old s cut taken tokens token tally st a spelled size c = go (may_count old.phase) refl
  where
    l : Label
    l = label_of s

    x : (begins_content l.position token ≡ is_top old.phase)
        × (number_if (begins_place l.position token) l.depth ≡ number_if (begins_place l.position token) (suc (length old.frames)))
        × (begins_place l.position token ≡ (may_count old.phase && is_tag token))
    x = tells_is gate old s cut token st

    entries : length old.table.entries ≡ length l.moment.table
    entries = ap (λ m. length m.table) (sym (moment_is gate old s cut st)) ∙ ap (λ m. length m.table) (sym (label_moment s))

    -- but for a content
    one : Tally
    one = with_token old (Some token) tally

    earlier : one.earlier ≡ earlier_handles (tokens ++ (piece l token ∷ []))
    earlier = ended_with old token l.moment.table tally entries ∙ ap (λ n. n + ended_by token l.moment.table) c.earlier ∙ sym (earlier_one_more tokens l token)

    depth : begins_place l.position token ≡ is_tag token → one.depth ≡ deepest (tokens ++ (piece l token ∷ []))
    depth place =
        deep_with old token tally ∙ ap₂ (λ k n. max k n) c.depth (ap (λ b. number_if b (suc (length old.frames))) (sym place) ∙ sym x.1)
        ∙ sym (deepest_one_more tokens l token)

    contents : (b : Bool) → is_top old.phase ≡ b → one_more_if b one.contents ≡ count_of begins_content (tokens ++ (piece l token ∷ []))
    contents b top = ap₂ one_more_if (sym (x.0 ∙ top)) (same_contents old token tally ∙ c.contents) ∙ sym (count_one_more begins_content tokens l token)

    at_top : (b : Bool) → is_top old.phase ≡ b → begins_place l.position token ≡ is_tag token
        → Tallied (tokens ++ (piece l token ∷ [])) (if b then content_begun one old.meter.at else one)
    at_top true top place = record { contents = contents true top; earlier = earlier; depth = depth place }
    at_top false top place = record { contents = contents false top; earlier = earlier; depth = depth place }

    go : (b : Bool) → may_count old.phase ≡ b → Tallied (tokens ++ (piece l token ∷ [])) (if b then with_tag old (tag_from (get_or taken 0 0)) tally else tally)
    go false e =
        let outside : begins_content l.position token ≡ false = x.0 ∙ below_top old.phase e in
        let none : begins_place l.position token ≡ false = x.2 ∙ ap (λ b. b && is_tag token) e in
        let same = ended_at_top token l.position l.moment a outside in
        let q = c.earlier in
        let z = earlier_one_more tokens l token in
        let p = c.depth in
        let y = deepest_one_more tokens l token ∙ ap (λ b. max (deepest tokens) (number_if b l.depth)) none in
        record {
          contents = c.contents ∙ sym (count_one_more begins_content tokens l token ∙ ap (λ b. one_more_if b (count_of begins_content tokens)) outside);
          earlier = omega arith;
          depth = omega arith;
        }
    go true e =
        subst (λ found. Tallied (tokens ++ (piece l token ∷ [])) (with_tag old found tally)) (sym (tag_is gate old s cut taken token st e a spelled size))
        (at_top (is_top old.phase) refl (x.2 ∙ ap (λ b. b && is_tag token) e))

-- ---- a machine with its tally

pub shorter : (bytes came : List ℕ) (n : ℕ) → length (bytes ++ came) ≤ n → length bytes ≤ n
shorter bytes came n le = let l = length-append bytes came in omega arith

-- a new machine has counted nothing
unfoldable pub new_counts : (gate : Gate) (r : Seen) → IsNew r → gate_with r gate.answer ≡ gate → HasCounted gate [] r no_tally
unfolding new_stands
new_counts gate r n e = record {
  taken = new_stands gate r n e;
  tallied = record { contents = refl; earlier = refl; depth = refl };
  whole = λ room. subst (IsWhole gate []) (sym (whole_inside r no_tally (ap is_top n.phase_is))) (whole_of_none gate);
}

-- where the last content begins after it
pub begun_is : (r : Seen) (byte : ℕ) (tally : Tally) → (tally_next r byte tally).begun ≡ begun_next r tally
begun_is r byte tally = go (may_count r.phase) refl
  where
    same : (found : Option StreamToken) → (with_token r found tally).begun ≡ tally.begun
    same (Some (tag_token tag)) = refl
    same (Some reset_tag_token) = refl
    same _ = refl

    at_top : (b : Bool) (found : Option StreamToken) → (if b then content_begun (with_token r found tally) r.meter.at else with_token r found tally).begun ≡ (if b then r.meter.at else tally.begun)
    at_top true found = refl
    at_top false found = same found

    go : (b : Bool) → may_count r.phase ≡ b → (if b then with_tag r (tag_from byte) tally else tally).begun ≡ begun_next r tally
    go true e = at_top (is_top r.phase) (tag_from byte)
    go false e = sym (ap (λ b. if b then r.meter.at else tally.begun) (below_top r.phase e))

-- the open token has ended
unfoldable pub took_counts : (gate : Gate) (old new : Seen) (bytes taken : List ℕ) (tally : Tally) → Takes gate taken flow.On old new → IsBytes taken
    → HasCounted gate bytes old tally → HasCounted gate (bytes ++ taken) new (tally_next old (get_or taken 0 0) tally)
unfolding Takes took_stands
took_counts gate old new bytes taken tally h bt c =
    let st = c.taken in
    let s = settled (left begin_state st.tokens) in
    let x = h (left begin_state st.tokens) st.cut st.stands in
    let is : bytes ++ taken ≡ joined st.tokens ++ (st.cut ++ taken) = ap (λ b. b ++ taken) st.are_tokens ∙ append_assoc (joined st.tokens) st.cut taken in
    let all : IsBytes (bytes ++ taken) = bytes_both bytes taken st.all_bytes bt in
    let of_token : IsBytes (st.cut ++ taken) = bytes_right (joined st.tokens) (st.cut ++ taken) (subst IsBytes is all) in
    let f = token_read gate st.tokens (st.cut ++ taken) x.token st.runs x.is_good x.whole of_token in
    record {
      taken = took_stands gate old new bytes taken h bt st;
      tallied = tallied_on gate old s st.cut taken st.tokens x.token tally st.stands f.1 f.0 x.whole c.tallied;
      whole = λ room. took_whole gate old new bytes taken tally (tally_next old (get_or taken 0 0) tally) (begun_is old (get_or taken 0 0) tally) h bt st room (c.whole (shorter bytes taken gate.bytes room));
    }

-- the same token is still open
unfoldable pub kept_counts : (gate : Gate) (old new : Seen) (bytes taken : List ℕ) (tally : Tally) → Keeps gate taken old new → IsBytes taken
    → HasCounted gate bytes old tally → HasCounted gate (bytes ++ taken) new tally
unfolding Keeps kept_stands
kept_counts gate old new bytes taken tally h bt c = record {
  taken = kept_stands gate old new bytes taken h bt c.taken;
  tallied = c.tallied;
  whole = λ room. kept_whole gate old new bytes taken tally h bt c.taken room (c.whole (shorter bytes taken gate.bytes room));
}

-- at the top all bytes are whole contents, wherever the last one began
unfoldable pub counts_at_top : (gate : Gate) (bytes : List ℕ) (r : Seen) (tally : Tally) (begun : ℕ) → r.phase ≡ phase.Top → HasCounted gate bytes r tally → HasCounted gate bytes r (record tally { begun = begun })
counts_at_top gate bytes r tally begun top c = record {
  taken = c.taken;
  tallied = record { contents = c.tallied.contents; earlier = c.tallied.earlier; depth = c.tallied.depth };
  whole = λ room. subst (IsWhole gate bytes) (whole_top r tally top ∙ sym (whole_top r (record tally { begun = begun }) top)) (c.whole room);
}

-- ---- no count is more than the number of the bytes

-- a token has a byte at least
abbrev open_gate : TokenGate
open_gate label token = true

some_bytes : (l : Label) (f : StreamToken) → Accepts l f → 0 < length (bytes_of f)
some_bytes l f a = go (bytes_of f) ((scanner open_gate).is_good l f a refl)
  where
    go : (bytes : List ℕ) → plain_verdict open_gate l bytes ≡ good f → 0 < length bytes
    go [] e = let k : more ≡ good f = sym ((scanner open_gate).nothing_yet l) ∙ e in absurd (cc)
    go (b ∷ bytes) e = omega arith

count_below : (test : Position → StreamToken → Bool) (tokens : List Piece) (s : State) → Runs s tokens → count_of test tokens ≤ length (joined tokens)
count_below test [] s r = omega arith
count_below test (piece l f ∷ tokens) s r =
    let some : 0 < length (bytes_of f) = some_bytes (label_of (settled s)) f r.1 in
    let n : length (joined (piece l f ∷ tokens)) ≡ length (bytes_of f) + length (joined tokens) = length-append (bytes_of f) (joined tokens) in
    let k = count_below test tokens (advance (settled s) f) r.2 in
    one_at_most (test l.position f) (count_of test tokens) (length (bytes_of f)) (length (joined tokens)) (length (joined (piece l f ∷ tokens))) some k n
  where
    one_at_most : (b : Bool) (k n m all : ℕ) → 0 < n → k ≤ m → all ≡ n + m → one_more_if b k ≤ all
    one_at_most true k n m all h le e = omega arith
    one_at_most false k n m all h le e = omega arith

-- the places of the machine, and the handles that it assigned, are those of its tokens
pub places_are : (gate : Gate) (bytes : List ℕ) (r : Seen) (h : HasTaken gate bytes r) → r.refs ≡ count_of begins_place h.tokens
places_are gate bytes r h =
    let c = (counted_from_start h.tokens h.runs).places in
    let m = moment_is gate r (settled (left begin_state h.tokens)) h.cut h.stands in
    let e = ap (λ m. m.places) m in
    omega arith

pub handles_are : (gate : Gate) (bytes : List ℕ) (r : Seen) (h : HasTaken gate bytes r)
    → earlier_handles h.tokens + length r.table.entries ≡ count_of assigns_handle h.tokens
handles_are gate bytes r h =
    let c = (counted_from_start h.tokens h.runs).handles in
    let m = moment_is gate r (settled (left begin_state h.tokens)) h.cut h.stands in
    let e = ap (λ m. length m.table) m in
    omega arith

pub counts_within : (gate : Gate) (bytes : List ℕ) (r : Seen) (tally : Tally) → HasCounted gate bytes r tally
    → (tally.contents ≤ length bytes) × (tally.earlier + length r.table.entries ≤ length bytes) × (r.refs ≤ length bytes)
counts_within gate bytes r tally h =
    let st = h.taken in
    let n : length bytes ≡ length (joined st.tokens) + length st.cut = ap length st.are_tokens ∙ length-append (joined st.tokens) st.cut in
    let c = count_below begins_content st.tokens begin_state st.runs in
    let p = count_below begins_place st.tokens begin_state st.runs in
    let a = count_below assigns_handle st.tokens begin_state st.runs in
    let tc = h.tallied.contents in
    let te = h.tallied.earlier in
    let ep = places_are gate bytes r st in
    let eh = handles_are gate bytes r st in
    (omega arith, omega arith, omega arith)

-- so none of them wraps with the next token
pub counts_fit : (gate : Gate) (bytes : List ℕ) (r : Seen) (tally : Tally) → HasCounted gate bytes r tally → length bytes ≤ gate.bytes → IsGate gate
    → (tally.contents + 1 < 2 ^ 64) × ((found : Option StreamToken) → EpochFits r found tally)
counts_fit gate bytes r tally h room g = (omega (arith, n.0, g.0), fits)
  where
    n : (tally.contents ≤ length bytes) × (tally.earlier + length r.table.entries ≤ length bytes) × (r.refs ≤ length bytes)
    n = counts_within gate bytes r tally h

    fits : (found : Option StreamToken) → EpochFits r found tally
    fits (Some reset_tag_token) = omega (arith, n.1, g.0)
    fits _ = tt

-- ---- the end

reads_whole : (tokens : List Piece) → Runs begin_state tokens → IsDone (settled (left begin_state tokens)) → Reads begin_state tokens
reads_whole tokens r d = subst (Reads begin_state) (append-nil tokens) (Reads-append tokens [] begin_state r d)

-- at the end of a stream the tokens are those of its list
pub tokens_are : (gate : Gate) (bytes : List ℕ) (r : Seen) (list : ContentTrees) (h : HasTaken gate bytes r) → r.phase ≡ phase.Top → IsStreamOf bytes list
    → h.tokens ≡ tokens_of list
tokens_are gate bytes r list h top is =
    let d = ends_at_top gate r (settled (left begin_state h.tokens)) h.cut h.stands top in
    let x = (exact_law h.tokens).0 (reads_whole h.tokens h.runs d.0) in
    let e : bytes ≡ spelling x.0 =
    h.are_tokens ∙ ap (λ c. joined h.tokens ++ c) d.1 ∙ append-nil (joined h.tokens) ∙ ap joined x.2 ∙ spelled_law x.0 x.1 in
    x.2 ∙ ap tokens_of (one_reading_law bytes x.0 list (e, x.1) is)

pub counts_are_totals : (gate : Gate) (bytes : List ℕ) (r : Seen) (tally : Tally) (list : ContentTrees) → HasCounted gate bytes r tally
    → r.phase ≡ phase.Top → IsStreamOf bytes list → AreTotals bytes list (totals_of r tally)
counts_are_totals gate bytes r tally list h top is =
    let e = tokens_are gate bytes r list h.taken top is in
    let t = totalled_law list is.1 in
    record {
      all_bytes = h.taken.taken;
      contents = h.tallied.contents ∙ ap (count_of begins_content) e ∙ t.0;
      refs = places_are gate bytes r h.taken ∙ ap (count_of begins_place) e ∙ t.1;
      depth = h.tallied.depth ∙ ap deepest e ∙ t.2;
      handles =
          ap (λ n. n + length r.table.entries) h.tallied.earlier ∙ handles_are gate bytes r h.taken ∙ ap (count_of assigns_handle) e ∙ t.3;
    }
