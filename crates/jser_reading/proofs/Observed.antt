-- What is observed along tokens: the depth and the number of each place, the length of each array, the number of
-- each handle, each checked name. A gate lets tokens through exactly where what is observed is within its limits.
use Rattle.std.proofs.Common.{ℕ, suc, ◌≤◌, max, Bool, true, false, not, ◌&&◌, ◌||◌, List, [], ◌∷◌, ◌++◌, length, refl, arith, IsTrue, nat_lt}
use Rattle.jser_reading.proofs.Vocabulary.{StreamToken, array_length_token, text_token, Position, class_name_at, interface_name_at, Piece, piece}
use Rattle.std.proofs.Common.{nat_le, le-leb, leb-true}
use Rattle.jser_reading.specs.Scanner.{AllPass}
use Rattle.jser_reading.specs.GateLimits.{GateLimits, begins_place, assigns_handle, array_is_within, name_passes, gate_of, Each}
use Rattle.jser_reading.specs.Totals.{number_if, deepest}
use Rattle.jser_grammar.proofs.Bools.{and_left, and_right, and_both}

-- the greatest number of places, the place itself counted
abbrev pub most_places : List Piece → ℕ
most_places [] = 0
most_places (piece l f ∷ ps) = max (number_if (begins_place l.position f) (suc l.moment.places)) (most_places ps)

-- the greatest number of handles in a table, the new one counted
abbrev pub most_handles : List Piece → ℕ
most_handles [] = 0
most_handles (piece l f ∷ ps) = max (number_if (assigns_handle l.position f) (suc (length l.moment.table))) (most_handles ps)

-- what is gathered along tokens: something for each array length, something for each checked name

abbrev gathered_name : {X : Type 0} → (List (List ℕ) → List X) → Position → List ℕ → List X → List X
gathered_name names (class_name_at role) units xs = names (units ∷ []) ++ xs
gathered_name names interface_name_at units xs = names (units ∷ []) ++ xs
gathered_name names _ units xs = xs

abbrev gathered_by : {X : Type 0} → (ℕ → List X) → (List (List ℕ) → List X) → Position → StreamToken → List X → List X
gathered_by lengths names w (array_length_token n) xs = lengths n ++ xs
gathered_by lengths names w (text_token long units) xs = gathered_name names w units xs
gathered_by lengths names w _ xs = xs

abbrev pub gathered : {X : Type 0} → (ℕ → List X) → (List (List ℕ) → List X) → List Piece → List X
gathered lengths names [] = []
gathered lengths names (piece l f ∷ ps) = gathered_by lengths names l.position f (gathered lengths names ps)

abbrev length_in : Position → StreamToken → List ℕ → List ℕ
length_in w f ns = gathered_by (λ n. n ∷ []) (λ names. []) w f ns

abbrev pub lengths_in : List Piece → List ℕ
lengths_in ps = gathered (λ n. n ∷ []) (λ names. []) ps

abbrev name_in : Position → StreamToken → List (List ℕ) → List (List ℕ)
name_in w f ns = gathered_by (λ n. []) (λ names. names) w f ns

abbrev pub names_in : List Piece → List (List ℕ)
names_in ps = gathered (λ n. []) (λ names. names) ps

-- tests and what they say

le_to : (b c : Bool) (x D : ℕ) → IsTrue (not b || (nat_le x D && c)) → number_if b x ≤ D
le_to true c x D h = leb-true x D (and_left (nat_le x D) c h)
le_to false c x D h = omega arith

lt_to : (b c : Bool) (x D : ℕ) → IsTrue (not b || (c && nat_lt x D)) → number_if b (suc x) ≤ D
lt_to true c x D h = leb-true (suc x) D (and_right c (nat_lt x D) h)
lt_to false c x D h = omega arith

both_from : (b : Bool) (x y D R : ℕ) → number_if b x ≤ D → number_if b (suc y) ≤ R → IsTrue (not b || (nat_le x D && nat_lt y R))
both_from true x y D R h k = and_both (nat_le x D) (nat_lt y R) (le-leb x D h) (le-leb (suc y) R k)
both_from false x y D R h k = refl

one_to : (b : Bool) (x D : ℕ) → IsTrue (not b || nat_lt x D) → number_if b (suc x) ≤ D
one_to true x D h = leb-true (suc x) D h
one_to false x D h = omega arith

one_from : (b : Bool) (x D : ℕ) → number_if b (suc x) ≤ D → IsTrue (not b || nat_lt x D)
one_from true x D h = le-leb (suc x) D h
one_from false x D h = refl

length_to : (w : Position) (f : StreamToken) (A : ℕ) (ns : List ℕ) → IsTrue (array_is_within A f) → Each (λ n. n ≤ A) ns
    → Each (λ n. n ≤ A) (length_in w f ns)
length_to w (array_length_token n) A ns h k = (leb-true n A h, k)
length_to (class_name_at role) (text_token long units) A ns h k = k
length_to interface_name_at (text_token long units) A ns h k = k
length_to _ _ A ns h k = k

length_from : (w : Position) (f : StreamToken) (A : ℕ) (ns : List ℕ) → Each (λ n. n ≤ A) (length_in w f ns)
    → IsTrue (array_is_within A f) × Each (λ n. n ≤ A) ns
length_from w (array_length_token n) A ns h = (le-leb n A h.0, h.1)
length_from (class_name_at role) (text_token long units) A ns h = (refl, h)
length_from interface_name_at (text_token long units) A ns h = (refl, h)
length_from _ _ A ns h = (refl, h)

name_to : (w : Position) (f : StreamToken) (passes : List ℕ → Bool) (ns : List (List ℕ)) → IsTrue (name_passes passes w f)
    → Each (λ n. IsTrue (passes n)) ns
    → Each (λ n. IsTrue (passes n)) (name_in w f ns)
name_to w (array_length_token n) passes ns h k = k
name_to (class_name_at role) (text_token long units) passes ns h k = (h, k)
name_to interface_name_at (text_token long units) passes ns h k = (h, k)
name_to _ _ passes ns h k = k

name_from : (w : Position) (f : StreamToken) (passes : List ℕ → Bool) (ns : List (List ℕ))
    → Each (λ n. IsTrue (passes n)) (name_in w f ns)
    → IsTrue (name_passes passes w f) × Each (λ n. IsTrue (passes n)) ns
name_from (class_name_at role) (text_token long units) passes ns h = h
name_from interface_name_at (text_token long units) passes ns h = h
name_from _ (array_length_token n) passes ns h = (refl, h)
name_from _ (text_token long units) passes ns h = (refl, h)
name_from _ _ passes ns h = (refl, h)

-- what is observed is within the limits
pub record IsObserved (limits : GateLimits) (ps : List Piece) : Type 0 where
  pub depth : deepest ps ≤ limits.depth
  pub refs : most_places ps ≤ limits.refs
  pub array : Each (λ n. n ≤ limits.array) (lengths_in ps)
  pub handles : most_handles ps ≤ limits.handles
  pub names : Each (λ n. IsTrue (limits.passes n)) (names_in ps)

pub observed : (limits : GateLimits) (ps : List Piece) → AllPass (gate_of limits) ps → IsObserved limits ps
observed limits [] h = record { depth = omega arith; refs = omega arith; array = tt; handles = omega arith; names = tt }
observed limits (piece l f ∷ ps) h =
    let place = not (begins_place l.position f) || (nat_le l.depth limits.depth && nat_lt l.moment.places limits.refs) in
    let array = array_is_within limits.array f in
    let handle = not (assigns_handle l.position f) || nat_lt (length l.moment.table) limits.handles in
    let name = name_passes limits.passes l.position f in
    let h3 = and_left (place && array && handle) name h.0 in
    let h2 = and_left (place && array) handle h3 in
    let r = observed limits ps h.1 in
    let d =
    le_to (begins_place l.position f) (nat_lt l.moment.places limits.refs) l.depth limits.depth (and_left place array h2) in
    let p =
    lt_to (begins_place l.position f) (nat_le l.depth limits.depth) l.moment.places limits.refs (and_left place array h2) in
    let t = one_to (assigns_handle l.position f) (length l.moment.table) limits.handles (and_right (place && array) handle h3) in
    record {
      depth = both_below (number_if (begins_place l.position f) l.depth) (deepest ps) limits.depth d r.depth;
      refs = both_below (number_if (begins_place l.position f) (suc l.moment.places)) (most_places ps) limits.refs p r.refs;
      array = length_to l.position f limits.array (lengths_in ps) (and_right place array h2) r.array;
      handles =
          both_below (number_if (assigns_handle l.position f) (suc (length l.moment.table)))
          (most_handles ps) limits.handles t r.handles;
      names = name_to l.position f limits.passes (names_in ps) (and_right (place && array && handle) name h.0) r.names;
    }
  where
    both_below : (x y D : ℕ) → x ≤ D → y ≤ D → max x y ≤ D
    both_below x y D h k = omega arith

pub observed_passes : (limits : GateLimits) (ps : List Piece) → IsObserved limits ps → AllPass (gate_of limits) ps
observed_passes limits [] h = tt
observed_passes limits (piece l f ∷ ps) h =
    let place = not (begins_place l.position f) || (nat_le l.depth limits.depth && nat_lt l.moment.places limits.refs) in
    let array = array_is_within limits.array f in
    let handle = not (assigns_handle l.position f) || nat_lt (length l.moment.table) limits.handles in
    let name = name_passes limits.passes l.position f in
    let d = max_below (number_if (begins_place l.position f) l.depth) (deepest ps) limits.depth h.depth in
    let p = max_below (number_if (begins_place l.position f) (suc l.moment.places)) (most_places ps) limits.refs h.refs in
    let t =
    max_below (number_if (assigns_handle l.position f) (suc (length l.moment.table)))
    (most_handles ps) limits.handles h.handles in
    let a = length_from l.position f limits.array (lengths_in ps) h.array in
    let n = name_from l.position f limits.passes (names_in ps) h.names in (
      and_both (place && array && handle) name
          (and_both (place && array) handle
          (and_both place array
          (both_from (begins_place l.position f) l.depth l.moment.places limits.depth limits.refs d.0 p.0) a.0)
          (one_from (assigns_handle l.position f) (length l.moment.table) limits.handles t.0))
          n.0,
      observed_passes limits ps (record { depth = d.1; refs = p.1; array = a.1; handles = t.1; names = n.1 }),
    )
  where
    max_below : (x y D : ℕ) → max x y ≤ D → (x ≤ D) × (y ≤ D)
    max_below x y D h = (omega arith, omega arith)
