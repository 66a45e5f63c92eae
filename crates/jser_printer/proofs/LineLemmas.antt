-- The beginnings of lines in pieces, and long texts in hexadecimal in pieces.
use Rattle.std.proofs.Common.{◌≡◌, ℕ, zero, suc, ◌+◌, ◌*◌, ◌-◌, ◌<◌, ◌≤◌, List, [], ◌∷◌, ◌++◌, refl, sym, ap, ◌∙◌, append_assoc, take, drop, arith, replicate, slice_index, ◌/◌, ◌%◌}
use Rattle.std.proofs.lemmas.List.{take-replicate, take-append-drop}
use Rattle.hex.specs.Hex.{encode_with, encode_lower, lower_digits}
use Rattle.jser_prim.specs.Outgoing.{Outgoing, SinkState}
use Rattle.jser_shown.specs.Words.{begin_line}
use Rattle.jser_printer.specs.Says.{Saying, Says}
use Rattle.jser_printer.proofs.SaysLemmas.{says_on, says_same}

begin-spaces : (L : ℕ) (k : List ℕ) → begin_line L k ≡ replicate (2 * L) 0x20 ++ k
begin-spaces zero k = refl
begin-spaces (suc L) k =
    ap (λ x. 0x20 ∷ 0x20 ∷ x) (begin-spaces L k)
    ∙ ap (λ n. replicate n 0x20 ++ k) (let e : suc (suc (2 * L)) ≡ 2 * suc L = omega arith in e)

-- the spaces of a few levels
pub says_levels : (a b : Outgoing) (d e : SinkState) (words : List ℕ) (L : ℕ) → Says a b d e (λ k. words ++ k) → L ≤ 32
    → words ≡ take (2 * L) (replicate 64 0x20) → Says a b d e (λ k. begin_line L k)
says_levels a b d e words L h few is =
    says_same a b d e (λ k. words ++ k) (λ k. begin_line L k)
    (λ k. begin-spaces L k ∙ ap (λ x. x ++ k) (sym (is ∙ take-replicate (2 * L) 64 0x20 (let few_spaces : 2 * L ≤ 64 = omega (arith, few) in few_spaces)))) h

begin-add : (m n : ℕ) (k : List ℕ) → begin_line (m + n) k ≡ begin_line m (begin_line n k)
begin-add zero n k = ap (λ x. begin_line x k) (let e : 0 + n ≡ n = omega arith in e)
begin-add (suc m) n k =
    ap (λ x. begin_line x k) (let e : suc m + n ≡ suc (m + n) = omega arith in e) ∙ ap (λ x. 0x20 ∷ 0x20 ∷ x) (begin-add m n k)

-- a line that begins with many spaces, and a run of them
pub says_run : (a b c : Outgoing) (d e f : SinkState) (all : List ℕ → List ℕ) (left run next : ℕ) → Saying a b d e all (λ k. begin_line left k)
    → Says b c e f (λ k. begin_line run k) → run < left → next ≡ left - run → Saying a c d f all (λ k. begin_line next k)
says_run a b c d e f all left run next h g more is =
    says_on a b c d e f all (λ k. begin_line left k) (λ k. begin_line next k) h (record {
      bytes = g.bytes;
      puts = g.puts;
      is = λ k. ap (λ x. begin_line x k) (let e : left ≡ run + next = omega (arith, more, is) in e) ∙ begin-add run next k ∙ g.is (begin_line next k);
    })

encode-append : (t xs ys : List ℕ) → encode_with t (xs ++ ys) ≡ encode_with t xs ++ encode_with t ys
unfolding encode_with
encode-append t [] ys = refl
encode-append t (x ∷ xs) ys = ap (λ s. slice_index t (x / 16) ∷ slice_index t (x % 16) ∷ s) (encode-append t xs ys)

-- many bytes in hexadecimal, and a piece of them
pub says_piece : (a b c : Outgoing) (d e f : SinkState) (all : List ℕ → List ℕ) (left piece next : List ℕ) (n : ℕ)
    → Saying a b d e all (λ k. encode_lower left ++ k) → Says b c e f (λ k. encode_lower piece ++ k) → piece ≡ take n left
    → next ≡ drop n left → Saying a c d f all (λ k. encode_lower next ++ k)
says_piece a b c d e f all left piece next n h g first rest =
    says_on a b c d e f all (λ k. encode_lower left ++ k) (λ k. encode_lower next ++ k) h (record {
      bytes = g.bytes;
      puts = g.puts;
      is = λ k. ap (λ x. encode_lower x ++ k) (sym (take-append-drop n left) ∙ ap (λ x. x ++ drop n left) (sym first) ∙ ap (λ x. piece ++ x) (sym rest))
          ∙ ap (λ x. x ++ k) (encode-append lower_digits piece next) ∙ append_assoc (encode_lower piece) (encode_lower next) k ∙ g.is (encode_lower next ++ k);
    })
