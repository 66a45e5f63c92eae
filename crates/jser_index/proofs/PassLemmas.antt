-- What is known along the bytes of a stream that passes: the reader's tokens are the first of its list, and in the end
-- all of them.
use Rattle.std.proofs.Common.{◌≡◌, ◌⊎◌, inl, inr, ℕ, true, List, [], ◌∷◌, ◌++◌, length, refl, sym, ◌∙◌, ap, subst, arith, append_assoc, append-nil, length-append}
use Rattle.jser_grammar.specs.Trees.{ContentTrees}
use Rattle.jser_reading.specs.Labels.{StreamToken, Label, Piece, piece}
use Rattle.jser_reading.specs.TokenBytes.{bytes_of, joined}
use Rattle.jser_reading.specs.Tokens.{tokens_of}
use Rattle.jser_reading.specs.Goals.{State, settled}
use Rattle.jser_reading.specs.Accepts.{label_of, Accepts}
use Rattle.jser_reading.specs.Machine.{begin_state, Reads, Runs, left}
use Rattle.jser_reading.specs.Scanner.{TokenGate, AllPass, more, good}
use Rattle.jser_reading.proofs.Exact.{exact_law}
use Rattle.jser_reading.proofs.Fronts.{reads_split}
use Rattle.jser_reading.proofs.Reading.{begin_pieces}
use Rattle.jser_reading.proofs.PlainVerdict.{plain_verdict, scanner}
use Rattle.jser_reading.proofs.SpelledTokens.{spelled_law}
use Rattle.jser_verdict.specs.Passing.{Passes}
use Rattle.jser_verdict.specs.Reasons.{truncated}
use Rattle.jser_reader.specs.Gates.{open_gate}
use Rattle.jser_reader.specs.Reasons.{named}
use Rattle.jser_reader.specs.declared.Refusal.{Refusal}
use Rattle.jser_reader.specs.declared.tally.Tally.{Tally}
use Rattle.jser_reader.specs.Readers.{Seen}
use Rattle.jser_reader.specs.ItemsTold.{StandsIn}
use Rattle.jser_reader.proofs.AnswerLemmas.{truncates}
use Rattle.jser_reader.proofs.ItemLaws.{tokens_begin_streams_law}
use Rattle.jser_index.specs.Along.{IsStuck, Where, GoesAlong}
use Rattle.jser_index.proofs.TurnLemmas.{whole}

-- a gate that lets all tokens through
abbrev all_tokens : TokenGate
all_tokens label token = true

-- the tokens so far, and those that are to come
pub record BeginsList (front : List Piece) (list : ContentTrees) : Type 0 where
  pub later : List Piece
  pub is : tokens_of list ≡ front ++ later

pub begins_list : (bytes rest : List ℕ) (front : List Piece) (cut : List ℕ) (r : Seen) (tally : Tally) (list : ContentTrees)
    → bytes ≡ (joined front ++ cut) ++ rest → StandsIn open_gate front cut r tally → Passes open_gate bytes list → BeginsList front list
begins_list bytes rest front cut r tally list split st p =
    let x = tokens_begin_streams_law open_gate front cut r tally st rest list (sym split ∙ p.0.0, p.0.1) in
    record { later = x.0; is = x.1 }

all_pass : (tokens : List Piece) → AllPass all_tokens tokens
all_pass [] = tt
all_pass (piece label token ∷ tokens) = (refl, all_pass tokens)

-- and so are tokens that may come one after another
pub begins_runs : (bytes behind : List ℕ) (front : List Piece) (list : ContentTrees) → Runs begin_state front → bytes ≡ joined front ++ behind → Passes open_gate bytes list
    → BeginsList front list
begins_runs bytes behind front list runs split p =
    let x =
    begin_pieces all_tokens (plain_verdict all_tokens) (scanner all_tokens) front (tokens_of list) begin_state behind runs ((exact_law (tokens_of list)).1 (list, p.0.1, refl)) (all_pass front)
    (sym split ∙ p.0.0 ∙ sym (spelled_law list p.0.1)) in
    record { later = x.0; is = x.1 }

-- bytes that are a stream leave no token open

no_cut : (front : List Piece) (cut : List ℕ) (r : Seen) (tally : Tally) (list : ContentTrees) → StandsIn open_gate front cut r tally
    → Passes open_gate (joined front ++ cut) list → cut ≡ []
no_cut front [] r tally list st p = refl
no_cut front (b ∷ cut) r tally list st p =
    let bytes = joined front ++ (b ∷ cut) in
    let n = length-append (joined front) (b ∷ cut) in
    let taken = st.counted.taken in
    let same = ap length st.cut_is in
    let refusal : Refusal = record { from_byte = length (joined front); to_byte = length bytes; reason = named truncated } in
    absurd ((truncates open_gate bytes taken.cut (left begin_state taken.tokens) refusal taken.all_bytes st.within taken.walked
    (λ d. let z = ap length d.1 in omega arith) refl (omega arith) refl).none_passes list p)

no_rest : (rest : List ℕ) → length rest ≡ 0 → rest ≡ []
no_rest [] n = refl
no_rest (b ∷ rest) n = absurd (omega arith)

pub not_stuck : (bytes rest : List ℕ) (front : List Piece) (cut : List ℕ) (r : Seen) (tally : Tally) (list : ContentTrees)
    → bytes ≡ (joined front ++ cut) ++ rest → StandsIn open_gate front cut r tally → Passes open_gate bytes list → IsStuck open_gate front cut rest → ⊥
not_stuck bytes rest front cut r tally list split st p s = by_end s.at_end
  where
    at_end : length rest ≡ 0 → ⊥
    at_end n = s.some (no_cut front cut r tally list st (subst (λ xs. Passes open_gate xs list) (whole bytes rest front cut split n) p))

    by_end : (rest ≡ []) ⊎ (length (joined front ++ cut) ≡ open_gate.bytes) → ⊥
    by_end (inl e) = at_end (ap length e)
    by_end (inr full) =
        let n = ap length split ∙ length-append (joined front ++ cut) rest in
        let le = p.2 in
        at_end (omega arith)

-- what holds of the tokens so far, while the bytes are gone along
pub record Reached (list : ContentTrees) (P : List Piece → Type 0) : Type 0 where
  pub front : List Piece
  pub begins : BeginsList front list
  pub holds : P front

pub reached : (bytes rest : List ℕ) (r : Seen) (tally : Tally) (P : List Piece → Type 0) (list : ContentTrees) → GoesAlong open_gate bytes rest r tally P
    → Passes open_gate bytes list → Reached list P
reached bytes rest r tally P list h p = goes h.where_it_is
  where
    goes : Where open_gate P h.front h.cut rest → Reached list P
    goes (inl (b, holds)) =
        record { front = h.front; begins = begins_list bytes rest h.front h.cut r tally list h.split h.stands p; holds = holds }
    goes (inr s) = absurd (not_stuck bytes rest h.front h.cut r tally list h.split h.stands p s)

-- ---- the end

-- each token has bytes
no_bytes : (label : Label) (token : StreamToken) → Accepts label token → bytes_of token ≡ [] → ⊥
no_bytes label token h e =
    let yet = (scanner all_tokens).nothing_yet label in
    let whole : plain_verdict all_tokens label [] ≡ good token =
    subst (λ bytes. plain_verdict all_tokens label bytes ≡ good token) e ((scanner all_tokens).is_good label token h refl) in
    let no : good token ≡ more = sym whole ∙ yet in cc

none_before : (xs ys : List ℕ) → xs ++ ys ≡ [] → xs ≡ []
none_before [] ys e = refl
none_before (x ∷ xs) ys e = absurd (let n = ap length e in omega arith)

none_more : (pieces : List Piece) (s : State) → Reads s pieces → joined pieces ≡ [] → pieces ≡ []
none_more [] s h e = refl
none_more (piece label token ∷ pieces) s h e = absurd (no_bytes (label_of (settled s)) token h.1 (none_before (bytes_of token) (joined pieces) e))

joined_both : (front later : List Piece) → joined (front ++ later) ≡ joined front ++ joined later
joined_both [] later = refl
joined_both (piece label token ∷ front) later =
    ap (λ xs. bytes_of token ++ xs) (joined_both front later) ∙ sym (append_assoc (bytes_of token) (joined front) (joined later))

no_back : (xs ys : List ℕ) → xs ++ ys ≡ xs → ys ≡ []
no_back xs ys e = no_rest ys (let n = ap length e in let m = length-append xs ys in omega arith)

all_tokens_are : (front later : List Piece) (list : ContentTrees) → tokens_of list ≡ front ++ later → Passes open_gate (joined front) list → front ≡ tokens_of list
all_tokens_are front later list is p =
    let none : joined later ≡ [] =
    no_back (joined front) (joined later) (sym (joined_both front later) ∙ ap joined (sym is) ∙ spelled_law list p.0.1 ∙ sym p.0.0) in
    let reads = subst (Reads begin_state) is ((exact_law (tokens_of list)).1 (list, p.0.1, refl)) in
    let all = none_more later (left begin_state front) (reads_split front later begin_state reads).1 none in
    sym (is ∙ ap (λ m. front ++ m) all ∙ append-nil front)

-- at the end of a stream that passes all its tokens have gone by
pub reached_all : (bytes rest : List ℕ) (r : Seen) (tally : Tally) (P : List Piece → Type 0) (list : ContentTrees) → GoesAlong open_gate bytes rest r tally P
    → Passes open_gate bytes list → length rest ≡ 0 → P (tokens_of list)
reached_all bytes rest r tally P list h p n = goes h.where_it_is
  where
    goes : Where open_gate P h.front h.cut rest → P (tokens_of list)
    goes (inl (b, holds)) =
        let begins = begins_list bytes rest h.front h.cut r tally list h.split h.stands p in
        let passes = subst (λ xs. Passes open_gate xs list) (whole bytes rest h.front h.cut h.split n) p in
        let none = no_cut h.front h.cut r tally list h.stands passes in
        let same : joined h.front ++ h.cut ≡ joined h.front = ap (λ c. joined h.front ++ c) none ∙ append-nil (joined h.front) in
        subst P (all_tokens_are h.front begins.later list begins.is (subst (λ xs. Passes open_gate xs list) same passes)) holds
    goes (inr s) = absurd (not_stuck bytes rest h.front h.cut r tally list h.split h.stands p s)
