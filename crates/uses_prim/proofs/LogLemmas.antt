-- What an outbox says of a record that was put into it: its length and its bytes, and no more.
use Rattle.std.proofs.Common.{◌≡◌, ℕ, ◌+◌, ◌<◌, ◌^◌, true, false, List, [], ◌∷◌, ◌++◌, length, ap, subst, arith, length-append}
use Rattle.std.proofs.lemmas.List.{append-nil}
use Rattle.std.specs.Io.KnownBytes.{Appends}
use Rattle.jser_prim.specs.Bytes.{big_bytes}
use Rattle.jser_prim.specs.Outgoing.{Outgoing, SinkState, Puts}
use Rattle.jser_prim.proofs.OutgoingLemmas.{nothing, puts_both, went_out}

puts_record : (a b c d : Outgoing) (e f g h : SinkState) (head bytes : List ℕ) → Puts a b e f head → Puts b c f g bytes → Puts c d g h [] → Puts a d e h (head ++ bytes)
puts_record a b c d e f g h head bytes first second third =
    subst (λ t. Puts a d e h (head ++ t)) (append-nil bytes) (puts_both a b d e f h head (bytes ++ []) first (puts_both b c d f g h bytes [] second third))

pub record_out : (a b c d : Outgoing) (e f g h : SinkState) (bytes : List ℕ) → a ≡ nothing → length bytes < 2 ^ 32 → Puts a b e f (big_bytes 4 (length bytes)) → Puts b c f g bytes → Puts c d g h []
    → d.failed ≡ false → (d.failed ≡ false → d.waiting ≡ [])
    → Appends e.gone_out h.gone_out (big_bytes 4 (length bytes) ++ bytes) × (h.failed ≡ e.failed) × (d.written ≡ 4 + length bytes)
record_out a b c d e f g h bytes is small first second third on empty =
    let out = went_out a d e h (big_bytes 4 (length bytes) ++ bytes) is (puts_record a b c d e f g h (big_bytes 4 (length bytes)) bytes first second third) on empty in
    (out.0, out.1, omega (arith, out.2, small, length-append (big_bytes 4 (length bytes)) bytes))

pub record_lost : (a b c d : Outgoing) (e f g h : SinkState) (head bytes : List ℕ) → a ≡ nothing → Puts a b e f head → Puts b c f g bytes → Puts c d g h []
    → d.failed ≡ true → h.failed ≡ true
record_lost a b c d e f g h head bytes is first second third off =
    ((puts_record a b c d e f g h head bytes first second third).going (ap (λ o. o.failed) is)).fault off

pub head_out : (a b c d e : Outgoing) (s t u v w : SinkState) (kind version begun : ℕ) → a ≡ nothing → Puts a b s t (kind ∷ []) → Puts b c t u (big_bytes 2 version)
    → Puts c d u v (big_bytes 8 begun) → Puts d e v w [] → e.failed ≡ false → (e.failed ≡ false → e.waiting ≡ [])
    → Appends s.gone_out w.gone_out (kind ∷ (big_bytes 2 version ++ big_bytes 8 begun)) × (e.written ≡ 11)
head_out a b c d e s t u v w kind version begun is first second third fourth on empty =
    let all = puts_both a b e s t w (kind ∷ []) (big_bytes 2 version ++ big_bytes 8 begun) first
    (puts_record b c d e t u v w (big_bytes 2 version) (big_bytes 8 begun) second third fourth) in
    let out = went_out a e s w (kind ∷ (big_bytes 2 version ++ big_bytes 8 begun)) is all on empty in
    (out.0, omega (arith, out.2, length-append (big_bytes 2 version) (big_bytes 8 begun)))
