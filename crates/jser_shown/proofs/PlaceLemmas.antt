-- Places: how far on some bytes lead, taken in parts.
use Rattle.std.proofs.Common.{◌≡◌, ℕ, suc, List, [], ◌∷◌, ◌++◌, length, refl, sym, ap, ◌∙◌, arith}
use Rattle.jser_prim.specs.Bytes.{big_bytes}
use Rattle.jser_reading.proofs.Vocabulary.{FieldTree, PrimTree, plain, ClassPlaceTree, ContentTrees}
use Rattle.jser_shown.specs.Nodes.{place_after}
use Rattle.jser_shown.specs.Laws.{PlacesAreCounted}
use Rattle.jser_grammar.specs.Spelling.{utf, prim_spelling, prims_spelling, fields_spelling, desc_spelling, class_spelling, annotation_spelling}

pub after_both : (p : ℕ) (a b : List ℕ) → place_after p (a ++ b) ≡ place_after (place_after p a) b
after_both p [] b = refl
after_both p (x ∷ a) b = after_both (suc p) a b

pub after_three : (p : ℕ) (a b c : List ℕ) → place_after p (a ++ (b ++ c)) ≡ place_after (place_after (place_after p a) b) c
after_three p a b c = after_both p a (b ++ c) ∙ after_both (place_after p a) b c

pub after_four : (p : ℕ) (a b c d : List ℕ)
    → place_after p (a ++ (b ++ (c ++ d))) ≡ place_after (place_after (place_after (place_after p a) b) c) d
after_four p a b c d = after_both p a (b ++ (c ++ d)) ∙ after_three (place_after p a) b c d

pub places_are_counted_law : PlacesAreCounted
places_are_counted_law p [] = omega arith
places_are_counted_law p (b ∷ bytes) = places_are_counted_law (suc p) bytes ∙ omega arith

pub prim_place : (p : ℕ) (x : PrimTree) (ps : List PrimTree)
    → place_after (place_after p (prims_spelling (x ∷ []))) (prims_spelling ps) ≡ place_after p (prims_spelling (x ∷ ps))
prim_place p x ps =
    ap (λ z. place_after z (prims_spelling ps)) (after_both p (prim_spelling x) []) ∙ sym (after_both p (prim_spelling x) (prims_spelling ps))

pub plain_place : (p : ℕ) (name : List ℕ) (suid flags : ℕ) (fields : List FieldTree) (notes : ContentTrees) (parent : ClassPlaceTree)
    → place_after p (desc_spelling (plain name suid flags fields notes parent))
    ≡ place_after (place_after (place_after (place_after (place_after (suc p) (utf name)) (big_bytes 8 suid ++ (flags ∷ big_bytes 2 (length fields))))
    (fields_spelling fields)) (annotation_spelling notes)) (class_spelling parent)
plain_place p name suid flags fields notes parent =
    after_both (suc p) (utf name) (big_bytes 8 suid ++ (flags ∷ (big_bytes 2 (length fields) ++ (fields_spelling fields ++ (annotation_spelling notes ++ class_spelling parent)))))
    ∙ after_three (place_after (place_after (suc p) (utf name)) (big_bytes 8 suid ++ (flags ∷ big_bytes 2 (length fields)))) (fields_spelling fields) (annotation_spelling notes) (class_spelling parent)
