-- A list of parts on the way to being built: of so many, these were found, and what is left gives the others.
use Rattle.std.proofs.Common.{◌≡◌, ℕ, zero, suc, ◌+◌, ◌-◌, ◌<◌, ◌≤◌, true, false, true≢false, List, [], ◌∷◌, ◌++◌, map, length, drop, slice_index_or, Option, Some, None, is_some, refl, sym, ◌∙◌, ap, arith, subst, append-nil, append_assoc, add-one}
use Rattle.std.proofs.lemmas.List.{drop_all}
use Rattle.jser_grammar.specs.Codes.{PrimCode, prim_code_of, with_code, primitive_codes}
use Rattle.jser_grammar.specs.Trees.{PrimTree}
use Rattle.jser_trees.specs.Building.{Built, ◌>>=◌, many_in, prim_at, prims_in}

-- what was found before, and then what is found
abbrev pub behind : {X : Type 0} → List X → Built (List X) → Built (List X)
behind found None = None
behind found (Some x) = Some (found ++ x.0, x.1)

pub record AwaitsMany {X : Type 0} (read : List ℕ → Built X) (count left : ℕ) (old now : List ℕ) (found : List X) : Type 0 where
  pub same : many_in read count old ≡ behind found (many_in read left now)

behind_none : {X : Type 0} → (x : Built (List X)) → x ≡ behind [] x
behind_none None = refl
behind_none (Some x) = refl

pub many_begun : {X : Type 0} → (read : List ℕ → Built X) (count : ℕ) (old : List ℕ) → AwaitsMany read count count old old []
many_begun read count old = record { same = behind_none (many_in read count old) }

behind_more : {X : Type 0} → (found : List X) (x : X) (others : Built (List X))
    → behind found (others >>= λ xs. Some (x ∷ xs.0, xs.1)) ≡ behind (found ++ (x ∷ [])) others
behind_more found x None = refl
behind_more found x (Some xs) = ap (λ ys. Some (ys, xs.1)) (sym (append_assoc found (x ∷ []) xs.0))

one_more : {X : Type 0} → (read : List ℕ → Built X) (left : ℕ) (now then : List ℕ) (x : X) → read now ≡ Some (x, then)
    → many_in read (suc left) now ≡ (many_in read left then >>= λ xs. Some (x ∷ xs.0, xs.1))
unfolding many_in
one_more read left now then x e = rw e refl

map_more : {X Y : Type 0} → (view : X → Y) (xs : List X) (x : X) → map view (xs ++ (x ∷ [])) ≡ map view xs ++ (view x ∷ [])
map_more view [] x = refl
map_more view (y ∷ xs) x = ap (λ zs. view y ∷ zs) (map_more view xs x)

pub many_next : {X Y : Type 0} → (view : X → Y) (read : List ℕ → Built Y) (count left : ℕ) (old now then : List ℕ) (found more : List X) (x : X)
    → AwaitsMany read count left old now (map view found) → 0 < left → read now ≡ Some (view x, then) → more ≡ found ++ (x ∷ [])
    → AwaitsMany read count (left - 1) old then (map view more)
many_next view read count zero old now then found more x h l e m = absurd (omega arith)
many_next view read count (suc left) old now then found more x h l e m =
    let less : left ≡ suc left - 1 = omega arith in
    subst (λ n. AwaitsMany read count n old then (map view more)) less
    (record {
      same =
          h.same ∙ ap (behind (map view found)) (one_more read left now then (view x) e)
          ∙ behind_more (map view found) (view x) (many_in read left then)
          ∙ ap (λ xs. behind xs (many_in read left then)) (sym (map_more view found x) ∙ ap (map view) (sym m));
    })

pub many_done : {X : Type 0} → (read : List ℕ → Built X) (count left : ℕ) (old now : List ℕ) (found : List X)
    → AwaitsMany read count left old now found → left ≡ 0 → many_in read count old ≡ Some (found, now)
unfolding many_in
many_done read count zero old now found h e = h.same ∙ ap (λ xs. Some (xs, now)) (append-nil found)
many_done read count (suc left) old now found h e = absurd (omega arith)

none_left : {X : Type 0} → (read : List ℕ → Built X) (left : ℕ) (now : List ℕ) → read now ≡ None → many_in read (suc left) now ≡ None
unfolding many_in
none_left read left now e = rw e refl

pub many_failed : {X : Type 0} → (read : List ℕ → Built X) (count left : ℕ) (old now : List ℕ) (found : List X)
    → AwaitsMany read count left old now found → 0 < left → read now ≡ None → many_in read count old ≡ None
many_failed read count zero old now found h l e = absurd (omega arith)
many_failed read count (suc left) old now found h l e = h.same ∙ ap (behind found) (none_left read left now e)

-- ---- one raw value for each primitive among the codes of a class

pub record AwaitsPrims (codes : List ℕ) (index : ℕ) (old now : List ℕ) (found : List PrimTree) : Type 0 where
  pub same : prims_in (primitive_codes codes) old ≡ behind found (prims_in (primitive_codes (drop index codes)) now)

pub prims_begun : (codes old : List ℕ) → AwaitsPrims codes 0 old old []
prims_begun codes old = record { same = behind_none (prims_in (primitive_codes codes) old) }

code_at : (codes : List ℕ) (i d : ℕ) → i < length codes → drop i codes ≡ slice_index_or codes i d ∷ drop (i + 1) codes
code_at codes i d h = go codes i h ∙ ap (λ k. slice_index_or codes i d ∷ drop k codes) (sym (add-one i))
  where
    go : (codes : List ℕ) (i : ℕ) → i < length codes → drop i codes ≡ slice_index_or codes i d ∷ drop (suc i) codes
    go [] i h = absurd (omega arith)
    go (c ∷ codes) zero h = refl
    go (c ∷ codes) (suc i) h = go codes i (omega arith)

one_skipped : (code : ℕ) (codes now : List ℕ) (p : Option PrimCode) → prim_code_of code ≡ p → is_some p ≡ false
    → primitive_codes (code ∷ codes) ≡ primitive_codes codes
one_skipped code codes now None e h = ap (λ p. with_code p (primitive_codes codes)) e
one_skipped code codes now (Some c) e h = absurd (true≢false h)

pub prims_skip : (codes : List ℕ) (i : ℕ) (old now : List ℕ) (found : List PrimTree) → AwaitsPrims codes i old now found → i < length codes
    → is_some (prim_code_of (slice_index_or codes i 0)) ≡ false → AwaitsPrims codes (i + 1) old now found
prims_skip codes i old now found h l e =
    let code = slice_index_or codes i 0 in
    let left : primitive_codes (drop i codes) ≡ primitive_codes (drop (i + 1) codes) =
    ap primitive_codes (code_at codes i 0 l) ∙ one_skipped code (drop (i + 1) codes) now (prim_code_of code) refl e in
    record { same = h.same ∙ ap (λ cs. behind found (prims_in cs now)) left }

next_prim : (code : ℕ) (codes now then : List ℕ) (x : PrimTree) (p : Option PrimCode) → prim_code_of code ≡ p → prim_at p now ≡ Some (x, then)
    → prims_in (primitive_codes (code ∷ codes)) now ≡ (prims_in (primitive_codes codes) then >>= λ xs. Some (x ∷ xs.0, xs.1))
unfolding prims_in
next_prim code codes now then x None e h = absurd (cc)
next_prim code codes now then x (Some c) e h = ap (λ p. prims_in (with_code p (primitive_codes codes)) now) e ∙ rw h refl

lost_prim : (code : ℕ) (codes now : List ℕ) (p : Option PrimCode) → prim_code_of code ≡ p → is_some p ≡ true → prim_at p now ≡ None
    → prims_in (primitive_codes (code ∷ codes)) now ≡ None
unfolding prims_in
lost_prim code codes now None e s h = absurd (true≢false (sym s))
lost_prim code codes now (Some c) e s h = ap (λ p. prims_in (with_code p (primitive_codes codes)) now) e ∙ rw h refl

pub prims_next : {X : Type 0} → (view : X → PrimTree) (codes : List ℕ) (i : ℕ) (old now then : List ℕ) (found more : List X) (x : X)
    → AwaitsPrims codes i old now (map view found) → i < length codes
    → prim_at (prim_code_of (slice_index_or codes i 0)) now ≡ Some (view x, then) → more ≡ found ++ (x ∷ [])
    → AwaitsPrims codes (i + 1) old then (map view more)
prims_next view codes i old now then found more x h l e m =
    let code = slice_index_or codes i 0 in
    record {
      same =
          h.same ∙ ap (λ cs. behind (map view found) (prims_in (primitive_codes cs) now)) (code_at codes i 0 l)
          ∙ ap (behind (map view found)) (next_prim code (drop (i + 1) codes) now then (view x) (prim_code_of code) refl e)
          ∙ behind_more (map view found) (view x) (prims_in (primitive_codes (drop (i + 1) codes)) then)
          ∙ ap (λ xs. behind xs (prims_in (primitive_codes (drop (i + 1) codes)) then)) (sym (map_more view found x) ∙ ap (map view) (sym m));
    }

pub prims_failed : (codes : List ℕ) (i : ℕ) (old now : List ℕ) (found : List PrimTree) → AwaitsPrims codes i old now found → i < length codes
    → is_some (prim_code_of (slice_index_or codes i 0)) ≡ true → prim_at (prim_code_of (slice_index_or codes i 0)) now ≡ None
    → prims_in (primitive_codes codes) old ≡ None
prims_failed codes i old now found h l s e =
    let code = slice_index_or codes i 0 in
    h.same ∙ ap (λ cs. behind found (prims_in (primitive_codes cs) now)) (code_at codes i 0 l)
    ∙ ap (behind found) (lost_prim code (drop (i + 1) codes) now (prim_code_of code) refl s e)

pub prims_done : (codes : List ℕ) (i : ℕ) (old now : List ℕ) (found : List PrimTree) → AwaitsPrims codes i old now found → length codes ≤ i
    → prims_in (primitive_codes codes) old ≡ Some (found, now)
unfolding prims_in
prims_done codes i old now found h l =
    h.same ∙ ap (λ cs. behind found (prims_in (primitive_codes cs) now)) (drop_all i codes l) ∙ ap (λ xs. Some (xs, now)) (append-nil found)
