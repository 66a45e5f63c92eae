-- Filters: reading a text piece by piece, and what the kept pieces say.
use denote.Bor.{Bor}
use Rattle.std.proofs.Common.{◌≡◌, ℕ, ◌+◌, ◌<◌, false, List, [], ◌∷◌, ◌++◌, length, map, take, get_or, slice_get, ◌==◌, Option, Some, None, refl, ap, sym, ◌∙◌, subst, arith, length-append}
use Rattle.std.specs.List.{list_any}
use Rattle.std.proofs.lemmas.List.{take_at, length-map, map_more}
use Rattle.jser_filter.specs.declared.fault.FilterFault.{FilterFault}
use Rattle.jser_filter.specs.declared.fault.FilterCause.TheVariants as cause
use Rattle.std.proofs.lemmas.List.Splits.{length-slice_split}
use Rattle.jser_filter.specs.declared.piece.Piece.{Piece as KeptPiece}
use Rattle.jser_filter.specs.declared.piece.Piece.TheVariants as kept
use Rattle.jser_filter.specs.Cuts.{split_at_each, split_with}
use Rattle.jser_filter.specs.Pieces.{Piece, pieces_of, read_piece, view_piece, IsCauseOf}
use Rattle.jser_filter.specs.Filters.{IsFirstFault, AreSound, is_faulty, later_or, value_in, last_value, limits_of, limits_after}
use Rattle.jser_filter.specs.declared.limit.Limit.{Limit}
use Rattle.jser_filter.specs.declared.limit.Limit.TheVariants as limit
use Rattle.jser_filter.specs.declared.limit.Limits.{Limits}

-- the pieces of the text that is left, if any is
abbrev pub left_pieces : Option (Bor (List ℕ)) → List Piece
left_pieces None = []
left_pieces (Some text) = pieces_of text.now

-- how much is left
abbrev pub left_length : Option (Bor (List ℕ)) → ℕ
left_length None = 0
left_length (Some text) = length text.now + 1

left_after : (text : List ℕ) (part : Bor (List ℕ)) (rest : Option (Bor (List ℕ))) → split_at_each 0x3B text ≡ split_with 0x3B (part, rest) → pieces_of text ≡ read_piece part.now ∷ left_pieces rest
left_after text part None is = ap (map read_piece) is
left_after text part (Some rest) is = ap (map read_piece) is

-- a kept piece is sound
pub view_piece_sound : (piece : KeptPiece) → is_faulty (view_piece piece) ≡ false
view_piece_sound kept.Empty = refl
view_piece_sound (kept.Limit limit value) = refl
view_piece_sound (kept.Pattern pattern) = refl

-- what has been read and what is left are the pieces of the whole text
pub record HasRead (whole old : List Piece) (rest : Option (Bor (List ℕ))) : Type 0 where
  pub are : old ++ left_pieces rest ≡ whole
  pub sound : AreSound old

slice_get-at : (front : List Piece) (piece : Piece) (back : List Piece) → slice_get (front ++ piece ∷ back) (length front) ≡ Some piece
slice_get-at [] piece back = refl
slice_get-at (first ∷ front) piece back = slice_get-at front piece back

some_injective : (x y : Piece) → Some x ≡ Some y → x ≡ y
some_injective x y e = cc

pub fault_found : (whole old : List Piece) (text part : Bor (List ℕ)) (rest : Option (Bor (List ℕ))) (fault : FilterFault) → HasRead whole old (Some text) → split_at_each 0x3B text.now ≡ split_with 0x3B (part, rest) → fault.pattern ≡ length old → IsCauseOf (read_piece part.now) fault.cause → IsFirstFault whole fault
fault_found whole old text part rest fault read split place cause =
    let split_whole : old ++ read_piece part.now ∷ left_pieces rest ≡ whole = ap (λ back. old ++ back) (sym (left_after text.now part rest split)) ∙ read.are in
    record {
      inside = omega (arith, ap length split_whole, length-append old (read_piece part.now ∷ left_pieces rest));
      here = λ piece found.
          let same : read_piece part.now ≡ piece =
          some_injective (read_piece part.now) piece (sym (slice_get-at old (read_piece part.now) (left_pieces rest)) ∙ ap (λ i. slice_get (old ++ read_piece part.now ∷ left_pieces rest) i) (sym place) ∙ ap (λ pieces. slice_get pieces fault.pattern) split_whole ∙ found)
          in
          subst (λ (p : Piece). IsCauseOf p fault.cause) same cause;
      before = ap (λ pieces. list_any is_faulty (take fault.pattern pieces)) (sym split_whole)
          ∙ ap (list_any is_faulty) (take_at old (read_piece part.now ∷ left_pieces rest) fault.pattern (sym place))
          ∙ read.sound;
    }

-- limits

or_none : (value : Option ℕ) → later_or None value ≡ later_or value None
or_none None = refl
or_none (Some value) = refl

or_assoc : (a b c : Option ℕ) → later_or (later_or a b) c ≡ later_or a (later_or b c)
or_assoc None b c = refl
or_assoc (Some a) b c = refl

last_value-push : (wanted : Limit) (pieces : List Piece) (piece : Piece) → last_value wanted (pieces ++ piece ∷ []) ≡ later_or (value_in wanted piece) (last_value wanted pieces)
last_value-push wanted [] piece = or_none (value_in wanted piece)
last_value-push wanted (first ∷ pieces) piece =
    ap (λ last. later_or last (value_in wanted first)) (last_value-push wanted pieces piece)
    ∙ or_assoc (value_in wanted piece) (last_value wanted pieces) (value_in wanted first)

limits_of-push : (pieces : List Piece) (piece : Piece) → limits_of (pieces ++ piece ∷ []) ≡ limits_after (limits_of pieces) piece
limits_of-push pieces piece =
    let depth = last_value-push limit.Depth pieces piece in
    let refs = last_value-push limit.Refs pieces piece in
    let bytes = last_value-push limit.Bytes pieces piece in
    let array = last_value-push limit.Array pieces piece in
    cc

pub limits_more : (pieces : List KeptPiece) (index : ℕ) (piece : KeptPiece) (limits next : Limits) → limits ≡ limits_of (map view_piece (take index pieces)) → index < length pieces → piece ≡ get_or pieces index piece → next ≡ limits_after limits (view_piece piece) → next ≡ limits_of (map view_piece (take (index + 1) pieces))
limits_more pieces index piece limits next so_far inside here is =
    let more : map view_piece (take (index + 1) pieces) ≡ map view_piece (take index pieces) ++ view_piece piece ∷ [] =
    map_more view_piece pieces index piece inside ∙ ap (λ p. map view_piece (take index pieces) ++ view_piece p ∷ []) (sym here)
    in
    is ∙ ap (λ l. limits_after l (view_piece piece)) so_far ∙ sym (limits_of-push (map view_piece (take index pieces)) (view_piece piece)) ∙ sym (ap limits_of more)

-- where there is no memory for the text as a whole

some_pieces : (text : List ℕ) → 0 < length (pieces_of text)
some_pieces text = omega (arith, length-map (split_at_each 0x3B text) read_piece, length-slice_split (λ unit. unit == 0x3B) text)

pub fault_at_first : (fault : FilterFault) → fault.pattern ≡ 0 → fault.cause ≡ cause.OutOfMemory → (text : List ℕ) → IsFirstFault (pieces_of text) fault
fault_at_first fault pattern is text = record {
  inside = omega (arith, some_pieces text);
  here = λ piece found. rw is tt;
  before = rw pattern refl;
}
