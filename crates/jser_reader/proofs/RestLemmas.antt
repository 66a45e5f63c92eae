-- What is left of a piece, of which some bytes were taken: it may be taken as well.
use Rattle.std.proofs.Common.{ℕ, zero, suc, ◌+◌, ◌<◌, ◌≤◌, ◌≡◌, Bool, true, false, nat_lt, ◌&&◌, IsTrue, List, [], ◌∷◌, length, drop, refl, sym, arith}
use Rattle.std.specs.List.{list_all}
use Rattle.std.proofs.lemmas.List.{length-drop}
use Rattle.jser_grammar.specs.Parts.{IsBytes}
use Rattle.jser_reader.specs.Passes.{CanPass}
use Rattle.jser_reader.specs.Readers.{Seen}
use Rattle.jser_reader.proofs.ReaderLemmas.{take_whole}

bytes_tail : (x : ℕ) (xs : List ℕ) → IsBytes (x ∷ xs) → IsBytes xs
bytes_tail x xs h = go (nat_lt x 0x100) h
  where
    go : (b : Bool) → IsTrue (b && list_all (λ b. nat_lt b 0x100) xs) → IsBytes xs
    go true h = h
    go false h = absurd (cc)

bytes_after : (n : ℕ) (xs : List ℕ) → IsBytes xs → IsBytes (drop n xs)
bytes_after zero xs h = h
bytes_after (suc n) [] h = refl
bytes_after (suc n) (x ∷ xs) h = bytes_after n xs (bytes_tail x xs h)

pub can_after : (piece : List ℕ) (n : ℕ) (r m : Seen) → CanPass r piece → 0 < length piece → n ≤ length piece → m.meter.at ≡ r.meter.at + n
    → m.meter.limits.bytes ≡ r.meter.limits.bytes → CanPass m (drop n piece)
can_after piece n r m can some le ea el =
    let k = length-drop n piece in
    let f = can.within.fits in
    let room = can.within.room (omega arith) in
    record {
      within = record {
        is_front = sym (take_whole (drop n piece));
        short = omega arith;
        fits = omega arith;
        room = λ more. omega arith;
        full = λ less. absurd (omega arith);
      };
      all_bytes = bytes_after n piece can.all_bytes;
    }
