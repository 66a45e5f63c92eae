-- What an outbox that began with nothing says of the whole stream.
use Rattle.std.proofs.Common.{◌≡◌, ◌≤◌, true, false, [], ◌∷◌, ◌++◌, length, take, subst, arith}
use Rattle.std.proofs.lemmas.List.{append-nil}
use Rattle.std.specs.Io.KnownBytes.{Appends}
use Rattle.jser_grammar.specs.Trees.{ContentTrees}
use Rattle.jser_grammar.specs.Spelling.{spelling, contents_spelling}
use Rattle.jser_value.specs.Limits.{IsContents}
use Rattle.jser_prim.specs.Outgoing.{Outgoing, SinkState, Puts}
use Rattle.jser_prim.proofs.OutgoingLemmas.{nothing, puts_both, went_out, went_partly}

-- the header, the contents and no more
pub puts_stream : (a b c d : Outgoing) (e f g h : SinkState) (contents : ContentTrees) → Puts a b e f (0xAC ∷ 0xED ∷ 0x00 ∷ 0x05 ∷ [])
    → Puts b c f g (contents_spelling contents) → Puts c d g h [] → Puts a d e h (spelling contents)
puts_stream a b c d e f g h contents first second third =
    subst (λ t. Puts a d e h (0xAC ∷ 0xED ∷ 0x00 ∷ 0x05 ∷ t)) (append-nil (contents_spelling contents))
    (puts_both a b d e f h (0xAC ∷ 0xED ∷ 0x00 ∷ 0x05 ∷ []) (contents_spelling contents ++ []) first (puts_both b c d f g h (contents_spelling contents) [] second third))

pub wrote_all : (now : Outgoing) (before after : SinkState) (contents : ContentTrees) (start : Outgoing) → start ≡ nothing → IsContents contents
    → Puts start now before after (spelling contents) → now.failed ≡ false → (now.failed ≡ false → now.waiting ≡ [])
    → Appends before.gone_out after.gone_out (spelling contents) × (now.written ≡ length (spelling contents)) × (after.failed ≡ before.failed)
wrote_all now before after contents start is obeys puts on empty =
    let went = went_out start now before after (spelling contents) is puts on empty in
    (went.0, omega (arith, went.2, obeys.size), went.1)

pub wrote_some : (now : Outgoing) (before after : SinkState) (contents : ContentTrees) (start : Outgoing) → start ≡ nothing → IsContents contents
    → Puts start now before after (spelling contents) → now.failed ≡ true
    → (now.written ≤ length (spelling contents)) × Appends before.gone_out after.gone_out (take now.written (spelling contents)) × (after.failed ≡ true)
wrote_some now before after contents start is obeys puts off =
    went_partly start now before after (spelling contents) is puts off (omega (arith, obeys.size))
