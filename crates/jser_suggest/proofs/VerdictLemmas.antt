-- What a filter with the suggested pieces says of a class name, and which limits it sets.
use Rattle.std.proofs.Common.{◌≡◌, ◌⊎◌, ℕ, suc, ◌+◌, ◌<◌, Bool, true, false, cond, not, List, [], ◌∷◌, ◌++◌, length, map, slice_get, bytes_eq, Option, Some, None, inl, inr, refl, sym, ap, subst, ◌∙◌, arith, lt-ltb}
use Rattle.std.proofs.lemmas.Slice.Eq.{bytes_eq-Decides}
use Rattle.std.specs.List.{position, position_or_len}
use Rattle.jser_table.specs.Names.{ElementOf, element, primitive_element, malformed_element}
use Rattle.jser_filter.specs.declared.limit.Limit.{Limit}
use Rattle.jser_filter.specs.declared.limit.Limit.TheVariants as limit
use Rattle.jser_filter.specs.declared.verdict.Verdict.{Verdict}
use Rattle.jser_filter.specs.declared.verdict.Verdict.TheVariants as verdict
use Rattle.jser_filter.specs.Tables.{module_of_class}
use Rattle.jser_filter.specs.Pieces.{Piece}
use Rattle.jser_filter.specs.Filters.{FilterView, matches_piece, rejects, verdict_at, verdict_by, later_or, last_value, limits_of}
use Rattle.jser_check.specs.declared.gate.Options.{Options}
use Rattle.jser_check.specs.Admitted.{AdmitsAt}
use Rattle.jser_suggest.specs.Suggested.{Known, only, no_other, suggested}
use Rattle.jser_suggest.specs.Samples.{Among, ElementAmong}
use Rattle.jser_suggest.specs.Laws.{Has, IsAllowed}

-- ---- the first piece that passes a test

abbrev decided : (Piece → Bool) → List Piece → Option Piece
decided test [] = None
decided test (p ∷ ps) = cond (test p) (Some p) (decided test ps)

-- where it is
record Found (test : Piece → Bool) (ps : List Piece) (p : Piece) : Type 0 where
  pub place : position_or_len test ps < length ps
  pub is : slice_get ps (position_or_len test ps) ≡ Some p

next_get : (q : Piece) (qs : List Piece) (k : ℕ) → slice_get (q ∷ qs) (1 + k) ≡ slice_get qs k
next_get q qs k = ap (λ n. slice_get (q ∷ qs) n) one ∙ refl
  where
    one : 1 + k ≡ suc k
    one = omega arith

found_by : (test : Piece → Bool) (q p : Piece) (qs : List Piece) → (decided test qs ≡ Some p → Found test qs p) → (t : Bool) → test q ≡ t → cond t (Some q) (decided test qs) ≡ Some p
    → Found test (q ∷ qs) p
found_by test q p qs later true is e =
    let here : position_or_len test (q ∷ qs) ≡ 0 = ap (λ t. cond (not t) (1 + position_or_len test qs) 0) is in
    record { place = omega (arith, here); is = ap (slice_get (q ∷ qs)) here ∙ e }
found_by test q p qs later false is e =
    let f = later e in
    let here : position_or_len test (q ∷ qs) ≡ 1 + position_or_len test qs = ap (λ t. cond (not t) (1 + position_or_len test qs) 0) is in
    record { place = omega (arith, here, f.place); is = ap (slice_get (q ∷ qs)) here ∙ next_get q qs (position_or_len test qs) ∙ f.is }

found : (test : Piece → Bool) (ps : List Piece) (p : Piece) → decided test ps ≡ Some p → Found test ps p
found test [] p e = absurd (cc)
found test (q ∷ qs) p e = found_by test q p qs (found test qs p) (test q) refl e

-- a piece that allows, and one that rejects
abbrev Says : Bool → Verdict → Type 0
Says true (verdict.Rejected index) = Unit {0}
Says true _ = ⊥
Says false (verdict.Allowed index) = Unit {0}
Says false _ = ⊥

says_at : (ps : List Piece) (p : Piece) (index : ℕ) → slice_get ps index ≡ Some p → (r : Bool) → rejects (Some p) ≡ r → Says r (verdict_at ps (Some index))
says_at ps p index is true e = rw (is, e) tt
says_at ps p index is false e = rw (is, e) tt

says : (test : Piece → Bool) (ps : List Piece) (p : Piece) (r : Bool) → rejects (Some p) ≡ r → decided test ps ≡ Some p → Says r (verdict_at ps (position test ps))
says test ps p r e d =
    let f = found test ps p d in
    let place : position test ps ≡ Some (position_or_len test ps) =
    ap (λ t. cond t (Some (position_or_len test ps)) None) (lt-ltb (position_or_len test ps) (length ps) f.place) in
    subst (λ o. Says r (verdict_at ps o)) (sym place) (says_at ps p (position_or_len test ps) f.is r e)

-- ---- names

abbrev module_in : FilterView → List ℕ → Option (List ℕ)
module_in filter name = module_of_class filter.modules name

abbrev test_of : Option (List ℕ) → List ℕ → Piece → Bool
test_of m name = matches_piece m name

allowed_by : (m : Option (List ℕ)) (n name : List ℕ) (rest : List Piece) → (t : Bool) → bytes_eq name n ≡ t → (name ≡ n) ⊎ (decided (test_of m name) rest ≡ Some (only name))
    → cond t (Some (only n)) (decided (test_of m name) rest) ≡ Some (only name)
allowed_by m n name rest true is h = ap (λ k. Some (only k)) (sym ((bytes_eq-Decides name n).0 is))
allowed_by m n name rest false is (inl same) = absurd (cc (sym is ∙ (bytes_eq-Decides name n).1 same))
allowed_by m n name rest false is (inr later) = later

allowed_name : (m : Option (List ℕ)) (names : List (List ℕ)) (name : List ℕ) → Among names name → decided (test_of m name) (map only names ++ no_other ∷ []) ≡ Some (only name)
allowed_name m [] name among = absurd among
allowed_name m (n ∷ names) name (inl same) = allowed_by m n name (map only names ++ no_other ∷ []) (bytes_eq name n) refl (inl same)
allowed_name m (n ∷ names) name (inr later) = allowed_by m n name (map only names ++ no_other ∷ []) (bytes_eq name n) refl (inr (allowed_name m names name later))

other_by : (m : Option (List ℕ)) (n name : List ℕ) (rest : List Piece) → (t : Bool) → bytes_eq name n ≡ t → (name ≡ n → ⊥) → decided (test_of m name) rest ≡ Some no_other
    → cond t (Some (only n)) (decided (test_of m name) rest) ≡ Some no_other
other_by m n name rest true is other later = absurd (other ((bytes_eq-Decides name n).0 is))
other_by m n name rest false is other later = later

other_name : (m : Option (List ℕ)) (names : List (List ℕ)) (name : List ℕ) → (Among names name → ⊥) → decided (test_of m name) (map only names ++ no_other ∷ []) ≡ Some no_other
other_name m [] name other = refl
other_name m (n ∷ names) name other =
    other_by m n name (map only names ++ no_other ∷ []) (bytes_eq name n) refl (λ e. other (inl e)) (other_name m names name (λ a. other (inr a)))

pub is_among : (names : List (List ℕ)) (name : List ℕ) → Among names name ⊎ (Among names name → ⊥)
is_among [] name = inr (λ a. a)
is_among (n ∷ names) name = by_test n names name (bytes_eq name n) refl (is_among names name)
  where
    by_test : (n : List ℕ) (names : List (List ℕ)) (name : List ℕ) (t : Bool) → bytes_eq name n ≡ t → Among names name ⊎ (Among names name → ⊥)
        → Among (n ∷ names) name ⊎ (Among (n ∷ names) name → ⊥)
    by_test n names name true is later = inl (inl ((bytes_eq-Decides name n).0 is))
    by_test n names name false is (inl a) = inl (inr a)
    by_test n names name false is (inr other) = inr (λ a. elim a [ inl same ↦ absurd (cc (sym is ∙ (bytes_eq-Decides name n).1 same)) | inr b ↦ other b ])

pub allows : (known : Known) (filter : FilterView) (name : List ℕ) → Has filter known → Among known.names name → Says false (verdict_by filter (element name))
allows known filter name has among =
    subst (λ ps. Says false (verdict_at ps (position (test_of (module_in filter name) name) ps))) (sym has)
    (says (test_of (module_in filter name) name) (suggested known) (only name) false refl (allowed_name (module_in filter name) known.names name among))

pub rejects_others : (known : Known) (filter : FilterView) (name : List ℕ) → Has filter known → (Among known.names name → ⊥) → Says true (verdict_by filter (element name))
rejects_others known filter name has other =
    subst (λ ps. Says true (verdict_at ps (position (test_of (module_in filter name) name) ps))) (sym has)
    (says (test_of (module_in filter name) name) (suggested known) no_other true refl (other_name (module_in filter name) known.names name other))

pub is_allowed : (v : Verdict) → Says false v → IsAllowed v
is_allowed (verdict.Allowed index) s = tt
is_allowed (verdict.Rejected index) s = absurd s
is_allowed verdict.Undecided s = absurd s
is_allowed verdict.NoClass s = absurd s

pub not_both : (v : Verdict) → Says true v → IsAllowed v → ⊥
not_both (verdict.Allowed index) s a = s
not_both (verdict.Rejected index) s a = a
not_both verdict.Undecided s a = a
not_both verdict.NoClass s a = a

pub admits_allowed : (options : Options) (v : Verdict) → Says false v → AdmitsAt options v
admits_allowed options (verdict.Allowed index) s = tt
admits_allowed options (verdict.Rejected index) s = absurd s
admits_allowed options verdict.Undecided s = absurd s
admits_allowed options verdict.NoClass s = absurd s

pub refuses_rejected : (options : Options) (v : Verdict) → Says true v → AdmitsAt options v → ⊥
refuses_rejected options (verdict.Allowed index) s a = s
refuses_rejected options (verdict.Rejected index) s a = a
refuses_rejected options verdict.Undecided s a = s
refuses_rejected options verdict.NoClass s a = s

pub admits_element : (known : Known) (filter : FilterView) (options : Options) (e : ElementOf) → Has filter known → ElementAmong known.names e → AdmitsAt options (verdict_by filter e)
admits_element known filter options (element name) has among = admits_allowed options (verdict_by filter (element name)) (allows known filter name has among)
admits_element known filter options primitive_element has among = tt
admits_element known filter options malformed_element has among = absurd among

-- ---- limits

no_limits : (wanted : Limit) (names : List (List ℕ)) → last_value wanted (map only names ++ no_other ∷ []) ≡ None
no_limits wanted [] = refl
no_limits wanted (name ∷ names) = ap (λ o. later_or o None) (no_limits wanted names)

pub limits_are : (known : Known) → limits_of (suggested known) ≡ record { depth = Some known.depth; refs = Some known.refs; bytes = Some known.bytes; array = Some known.array }
limits_are known = rw (no_limits limit.Depth known.names, no_limits limit.Refs known.names, no_limits limit.Bytes known.names, no_limits limit.Array known.names) refl
