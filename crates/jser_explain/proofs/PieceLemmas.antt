-- The piece of a filter that decides, if one does.
use Rattle.std.proofs.Common.{◌≡◌, [], ◌++◌, Option, Some, None, sym, subst}
use Rattle.jser_prim.specs.Outgoing.{Outgoing, SinkState}
use Rattle.jser_printer.specs.Says.{Says}
use Rattle.jser_explain.specs.declared.piece.Piece.{Piece}
use Rattle.jser_explain.specs.Rest.{known_piece_words, piece_words}

pub piece_known : (a b : Outgoing) (d e : SinkState) (piece : Option Piece) (known : Piece) → piece ≡ Some known → Says a b d e (λ k. known_piece_words known k) → Says a b d e (λ k. piece_words piece k)
piece_known a b d e piece known is says = subst (λ o. Says a b d e (λ k. piece_words o k)) (sym is) says

pub piece_unknown : (a b : Outgoing) (d e : SinkState) (piece : Option Piece) → piece ≡ None → Says a b d e (λ k. [] ++ k) → Says a b d e (λ k. piece_words piece k)
piece_unknown a b d e piece is says = subst (λ o. Says a b d e (λ k. piece_words o k)) (sym is) says
