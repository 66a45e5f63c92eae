-- The index of a filter's patterns: one more piece, and the first match.
use Rattle.std.proofs.Common.{◌≡◌, ℕ, ◌+◌, ◌<◌, Bool, true, false, ◌||◌, cond, List, [], ◌∷◌, ◌++◌, length, map, position, Option, Some, None, refl, ap, sym, ◌∙◌, subst, arith}
use Rattle.std.specs.List.{position_from, list_any}
use Rattle.std.proofs.lemmas.Bool.{le-ltb}
use Rattle.std.proofs.lemmas.List.{length-map, map_push}
use Rattle.std.proofs.lemmas.List.Folds.{list_any-append}
use Rattle.std.proofs.lemmas.Iterator.Adapters.{position_from-zero}
use Rattle.jser_filter.specs.declared.index.Index.{Index}
use Rattle.jser_filter.specs.declared.piece.Piece.{Piece as KeptPiece}
use Rattle.jser_filter.specs.Pieces.{Piece, view_piece, empty_piece, limit_piece, pattern_piece, faulty_piece}
use Rattle.jser_filter.specs.Places.{place_of, or_else}
use Rattle.jser_filter.specs.Trie.{first_of, least}
use Rattle.jser_filter.specs.Patterns.{package_of}
use Rattle.jser_filter.specs.Filters.{matches_piece, is_pattern}
use Rattle.jser_filter.specs.Words.{letters, word_of}
use Rattle.jser_filter.specs.Index.{package_front, of_piece, is_exact, is_inside, is_begun, first_by, first_in, first_inside, name_in, package_in, IsIndex, AddsPlace}
use Rattle.jser_filter.specs.declared.piece.Piece.TheVariants as kept
use Rattle.jser_filter.proofs.MatchLemmas.{agrees, inside_of, word_in}
use Rattle.jser_filter.proofs.TreeLemmas.{least_comm}
use Rattle.jser_filter.proofs.PositionLemmas.{position-push, position-push_least, or_cond}

-- one more piece

pub index_push : (pieces : List Piece) (old new : Index) (piece : Piece) (place : ℕ) → IsIndex pieces old → AddsPlace old new piece place → place ≡ length pieces → IsIndex (pieces ++ piece ∷ []) new
index_push pieces old new piece place index adds is = record {
  exact_at = λ name.
      adds.exact_at name
      ∙ or_cond (is_exact name piece) (place_of old.names name) place
      ∙ ap (λ o. or_else o (cond (is_exact name piece) (Some place) None)) (index.exact_at name)
      ∙ ap (λ n. or_else (position (is_exact name) pieces) (cond (is_exact name piece) (Some n) None)) is
      ∙ sym (position-push (is_exact name) pieces piece);
  inside_at = λ name.
      adds.inside_at name
      ∙ or_cond (is_inside name piece) (place_of old.packages name) place
      ∙ ap (λ o. or_else o (cond (is_inside name piece) (Some place) None)) (index.inside_at name)
      ∙ ap (λ n. or_else (position (is_inside name) pieces) (cond (is_inside name piece) (Some n) None)) is
      ∙ sym (position-push (is_inside name) pieces piece);
  begun_at = λ letters.
      adds.begun_at letters
      ∙ ap (λ o. cond (is_begun letters piece) (least o (Some place)) o) (index.begun_at letters)
      ∙ ap (λ n. cond (is_begun letters piece) (least (position (is_begun letters) pieces) (Some n)) (position (is_begun letters) pieces)) is
      ∙ sym (position-push_least (is_begun letters) pieces piece);
  is_trie = adds.is_trie;
}

pub index_pushed : (old mid new : List KeptPiece) (piece : KeptPiece) (index index' : Index) (place : ℕ) → IsIndex (map view_piece old) index → mid ≡ old → AddsPlace index index' (view_piece piece) place → place ≡ length mid → new ≡ mid ++ piece ∷ [] → IsIndex (map view_piece new) index'
index_pushed old mid new piece index index' place is_index same adds is added =
    let pushed : map view_piece new ≡ map view_piece old ++ view_piece piece ∷ [] =
    ap (map view_piece) (added ∙ ap (λ ps. ps ++ piece ∷ []) same) ∙ map_push view_piece old piece
    in
    let place_is : place ≡ length (map view_piece old) = is ∙ ap length same ∙ sym (length-map old view_piece) in
    subst (λ ps. IsIndex ps index') (sym pushed) (index_push (map view_piece old) index index' (view_piece piece) place is_index adds place_is)

-- the first match

-- nothing in front of a place
abbrev IsBehind : ℕ → Option ℕ → Type 0
IsBehind first None = Unit {0}
IsBehind first (Some place) = first < place

either_behind : (first : ℕ) (test : Bool) (x y : Option ℕ) → IsBehind first x → IsBehind first y → IsBehind first (cond test x y)
either_behind first true x y one other = one
either_behind first false x y one other = other

position_behind : (test : Piece → Bool) (first next : ℕ) (pieces : List Piece) → first < next → IsBehind first (position_from test next pieces)
position_behind test first next [] less = tt
position_behind test first next (piece ∷ pieces) less =
    either_behind first (test piece) _ _ less (position_behind test first (next + 1) pieces (omega arith))

least_here : (first : ℕ) (later : Option ℕ) → IsBehind first later → least (Some first) later ≡ Some first
least_here first None behind = refl
least_here first (Some place) behind = rw (le-ltb place first (omega (arith, behind))) refl

least_of : (first : ℕ) (one other : Bool) (x y : Option ℕ) → IsBehind first x → IsBehind first y
    → cond (one || other) (Some first) (least x y) ≡ least (cond one (Some first) x) (cond other (Some first) y)
least_of first true true x y behind behind' = sym (ap (λ b. cond b (Some first) (Some first)) (le-ltb first first (omega arith)))
least_of first true false x y behind behind' = sym (least_here first y behind')
least_of first false true x y behind behind' = sym (least_comm x (Some first) ∙ least_here first x behind)
least_of first false false x y behind behind' = refl

either_from : (one other : Piece → Bool) (first : ℕ) (pieces : List Piece) → position_from (λ p. one p || other p) first pieces ≡ least (position_from one first pieces) (position_from other first pieces)
either_from one other first [] = refl
either_from one other first (piece ∷ pieces) =
    ap (λ o. cond (one piece || other piece) (Some first) o) (either_from one other (first + 1) pieces)
    ∙ least_of first (one piece) (other piece) (position_from one (first + 1) pieces) (position_from other (first + 1) pieces)
    (position_behind one first (first + 1) pieces (omega arith)) (position_behind other first (first + 1) pieces (omega arith))

-- the first piece that passes one of two tests
either_first : (one other : Piece → Bool) (pieces : List Piece) → position (λ p. one p || other p) pieces ≡ least (position one pieces) (position other pieces)
either_first one other pieces =
    position_from-zero (λ p. one p || other p) pieces
    ∙ either_from one other 0 pieces
    ∙ ap (λ o. least o (position_from other 0 pieces)) (sym (position_from-zero one pieces))
    ∙ ap (least (position one pieces)) (sym (position_from-zero other pieces))

no_first_from : (first : ℕ) (pieces : List Piece) → position_from (λ p. false) first pieces ≡ None
no_first_from first [] = refl
no_first_from first (piece ∷ pieces) = no_first_from (first + 1) pieces

no_first : (pieces : List Piece) → position (λ p. false) pieces ≡ None
no_first pieces = position_from-zero (λ p. false) pieces ∙ no_first_from 0 pieces

alike_from : (one other : Piece → Bool) → ((piece : KeptPiece) → one (view_piece piece) ≡ other (view_piece piece)) → (first : ℕ) (pieces : List KeptPiece)
    → position_from one first (map view_piece pieces) ≡ position_from other first (map view_piece pieces)
alike_from one other alike first [] = refl
alike_from one other alike first (piece ∷ pieces) =
    ap (λ b. cond b (Some first) (position_from one (first + 1) (map view_piece pieces))) (alike piece)
    ∙ ap (λ o. cond (other (view_piece piece)) (Some first) o) (alike_from one other alike (first + 1) pieces)

alike_first : (one other : Piece → Bool) → ((piece : KeptPiece) → one (view_piece piece) ≡ other (view_piece piece)) → (pieces : List KeptPiece)
    → position one (map view_piece pieces) ≡ position other (map view_piece pieces)
alike_first one other alike pieces =
    position_from-zero one (map view_piece pieces) ∙ alike_from one other alike 0 pieces ∙ sym (position_from-zero other (map view_piece pieces))

-- the finders of a piece
abbrev inside_test : Option (List ℕ) → Piece → Bool
inside_test package_found piece = inside_of package_found (of_piece package_front piece)

abbrev module_test : Option (List ℕ) → Option (List ℕ) → List ℕ → Piece → Bool
module_test found package_found name piece = word_in found package_found name (of_piece word_of piece)

abbrev found_by : Option (List ℕ) → Option (List ℕ) → List ℕ → Piece → Bool
found_by found package_found name piece =
    (is_exact name piece || inside_test package_found piece) || (is_begun (letters name) piece || module_test found package_found name piece)

piece_agrees : (found package_found : Option (List ℕ)) (name : List ℕ) → package_found ≡ package_of name → (piece : KeptPiece) → found_by found package_found name (view_piece piece) ≡ matches_piece found name (view_piece piece)
piece_agrees found package_found name is kept.Empty = no_finder found package_found name
  where
    no_finder : (found package_found : Option (List ℕ)) (name : List ℕ) → (inside_of package_found None || word_in found package_found name None) ≡ false
    no_finder None None name = refl
    no_finder None (Some package_name) name = refl
    no_finder (Some module_name) None name = refl
    no_finder (Some module_name) (Some package_name) name = refl
piece_agrees found package_found name is (kept.Limit limit value) = no_finder found package_found name
  where
    no_finder : (found package_found : Option (List ℕ)) (name : List ℕ) → (inside_of package_found None || word_in found package_found name None) ≡ false
    no_finder None None name = refl
    no_finder None (Some package_name) name = refl
    no_finder (Some module_name) None name = refl
    no_finder (Some module_name) (Some package_name) name = refl
piece_agrees found package_found name is (kept.Pattern pattern) = sym (agrees found package_found name pattern.value.in_module pattern.value.name is)

inside_is : (pieces : List Piece) (index : Index) → IsIndex pieces index → (package_found : Option (List ℕ)) → first_inside index.packages package_found ≡ position (inside_test package_found) pieces
inside_is pieces index is None = sym (no_first pieces)
inside_is pieces index is (Some package_name) = is.inside_at package_name

in_is : (pieces : List Piece) (index : Index) → IsIndex pieces index → (found package_found : Option (List ℕ)) (name : List ℕ) → first_in index found package_found name ≡ position (module_test found package_found name) pieces
in_is pieces index is None package_found name = sym (no_first pieces)
in_is pieces index is (Some module_name) None name =
    is.begun_at (name_in module_name name)
in_is pieces index is (Some module_name) (Some package_name) name =
    ap (λ o. least o (first_of index.words (name_in module_name name))) (is.begun_at (package_in module_name package_name))
    ∙ ap (least (position (is_begun (package_in module_name package_name)) pieces)) (is.begun_at (name_in module_name name))
    ∙ sym (either_first (is_begun (package_in module_name package_name)) (is_begun (name_in module_name name)) pieces)

pub first_is : (found package_found : Option (List ℕ)) (name : List ℕ) (pieces : List KeptPiece) (index : Index) → IsIndex (map view_piece pieces) index → package_found ≡ package_of name
    → first_by index found package_found name ≡ position (matches_piece found name) (map view_piece pieces)
first_is found package_found name pieces index is its =
    let all : List Piece = map view_piece pieces in
    ap (λ o. least (least o (first_inside index.packages package_found)) (least (first_of index.words (letters name)) (first_in index found package_found name))) (is.exact_at name)
    ∙ ap (λ o. least (least (position (is_exact name) all) o) (least (first_of index.words (letters name)) (first_in index found package_found name))) (inside_is all index is package_found)
    ∙ ap (λ o. least (least (position (is_exact name) all) (position (inside_test package_found) all)) (least o (first_in index found package_found name))) (is.begun_at (letters name))
    ∙ ap (λ o. least (least (position (is_exact name) all) (position (inside_test package_found) all)) (least (position (is_begun (letters name)) all) o)) (in_is all index is found package_found name)
    ∙ ap (λ o. least o (least (position (is_begun (letters name)) all) (position (module_test found package_found name) all))) (sym (either_first (is_exact name) (inside_test package_found) all))
    ∙ ap (least (position (λ p. is_exact name p || inside_test package_found p) all)) (sym (either_first (is_begun (letters name)) (module_test found package_found name) all))
    ∙ sym (either_first (λ p. is_exact name p || inside_test package_found p) (λ p. is_begun (letters name) p || module_test found package_found name p) all)
    ∙ alike_first (found_by found package_found name) (matches_piece found name) (piece_agrees found package_found name its) pieces

-- no piece is a pattern, so none matches

none_from : (found : Option (List ℕ)) (name : List ℕ) (first : ℕ) (pieces : List Piece) → list_any is_pattern pieces ≡ false → position_from (matches_piece found name) first pieces ≡ None
none_from found name first [] none = refl
none_from found name first (empty_piece ∷ pieces) none = none_from found name (first + 1) pieces none
none_from found name first (limit_piece limit value ∷ pieces) none = none_from found name (first + 1) pieces none
none_from found name first (pattern_piece pattern ∷ pieces) none = absurd cc
none_from found name first (faulty_piece cause ∷ pieces) none = none_from found name (first + 1) pieces none

pub none_matches : (found : Option (List ℕ)) (name : List ℕ) (pieces : List Piece) → list_any is_pattern pieces ≡ false → position (matches_piece found name) pieces ≡ None
none_matches found name pieces none = position_from-zero (matches_piece found name) pieces ∙ none_from found name 0 pieces none

-- one more piece
pub patterns_pushed : (old mid new : List KeptPiece) (piece : KeptPiece) (had is : Bool) → had ≡ list_any is_pattern (map view_piece old) → mid ≡ old → is ≡ is_pattern (view_piece piece) → new ≡ mid ++ piece ∷ []
    → (had || is) ≡ list_any is_pattern (map view_piece new)
patterns_pushed old mid new piece had is before same one added =
    let pushed : map view_piece new ≡ map view_piece old ++ view_piece piece ∷ [] =
    ap (map view_piece) (added ∙ ap (λ ps. ps ++ piece ∷ []) same) ∙ map_push view_piece old piece
    in
    ap (λ b. b || is) before ∙ ap (λ b. list_any is_pattern (map view_piece old) || b) (one ∙ sym (last (is_pattern (view_piece piece))))
    ∙ sym (list_any-append is_pattern (map view_piece old) (view_piece piece ∷ [])) ∙ ap (list_any is_pattern) (sym pushed)
  where
    last : (b : Bool) → (b || false) ≡ b
    last true = refl
    last false = refl
