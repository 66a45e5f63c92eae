-- What is measured along the tokens of a list is the greatest of its array lengths.
use Rattle.std.proofs.Common.{◌≡◌, ℕ, max, Bool, List, [], ◌∷◌, refl, sym, ◌∙◌, ap, arith}
use Rattle.jser_reading.specs.Tokens.{tokens_of}
use Rattle.jser_reading.specs.Labels.{array_length_token, text_token, Position, class_name_at, interface_name_at, Piece, piece}
use Rattle.jser_reading.specs.Moments.{Moment}
use Rattle.jser_reading.proofs.Observed.{lengths_in}
use Rattle.jser_reading.proofs.GatheredObserved.{lengths_observed}
use Rattle.jser_names.specs.Collecting.{LengthsAreMeasured, greatest, measured}

-- a token that has no array length, or one
text_none : (w : Position) (depth : ℕ) (moment : Moment) (long : Bool) (units : List ℕ) (ps : List Piece)
    → lengths_in (piece record { position = w; depth = depth; moment = moment } (text_token long units) ∷ ps) ≡ lengths_in ps
text_none (class_name_at role) depth moment long units ps = refl
text_none interface_name_at depth moment long units ps = refl
text_none _ depth moment long units ps = refl

measured_so : (longest : ℕ) (ps : List Piece) → measured longest ps ≡ max longest (greatest (lengths_in ps))
measured_so longest [] = omega arith
measured_so longest (piece l (array_length_token n) ∷ ps) = omega (arith, measured_so (max longest n) ps)
measured_so longest (piece l (text_token long units) ∷ ps) =
    measured_so longest ps ∙ ap (λ ns. max longest (greatest ns)) (sym (text_none l.position l.depth l.moment long units ps))
measured_so longest (piece l _ ∷ ps) = measured_so longest ps

pub measured_law : LengthsAreMeasured
measured_law list h = omega (arith, measured_so 0 (tokens_of list), ap greatest (lengths_observed list h))
