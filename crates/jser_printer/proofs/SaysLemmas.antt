-- Texts that are said one after another.
use Rattle.std.proofs.Common.{◌≡◌, ℕ, ◌+◌, ◌<◌, ◌≤◌, true, List, [], ◌∷◌, ◌++◌, refl, sym, ap, ◌∙◌, append_assoc, take, drop, length, get_or, arith}
use Rattle.std.proofs.lemmas.Grind.{flat_map-append}
use Rattle.std.proofs.lemmas.List.{take_more, flat_map_more, take-append-drop, append-nil}
use Rattle.std.specs.List.{flat_map}
use Rattle.std.specs.Fmt.{decimal, digits}
use Rattle.std.specs.Prelude.{codes}
use Rattle.hex.specs.Hex.{encode_lower}
use Rattle.jser_prim.specs.Bytes.{big_bytes}
use Rattle.jser_prim.specs.Outgoing.{Outgoing, SinkState, Puts}
use Rattle.jser_prim.proofs.OutgoingLemmas.{puts_none, puts_both, puts_stopped}
use Rattle.jser_shown.specs.Words.{quoted, quoted_unit, without_zeros}
use Rattle.jser_printer.specs.Says.{Saying, Says}

pub says_none : (a : Outgoing) (d : SinkState) (all : List ℕ → List ℕ) → Saying a a d d all all
says_none a d all = record { bytes = []; puts = puts_none a d; is = λ k. refl }

-- nothing is said
pub says_nothing : (a : Outgoing) (d : SinkState) (text : List ℕ → List ℕ) → ((k : List ℕ) → text k ≡ k) → Says a a d d text
says_nothing a d text is = record { bytes = []; puts = puts_none a d; is = is }

pub says_bytes : (a b : Outgoing) (d e : SinkState) (bytes : List ℕ) → Puts a b d e bytes → Says a b d e (λ k. bytes ++ k)
says_bytes a b d e bytes h = record { bytes = bytes; puts = h; is = λ k. refl }

-- some of a text, and more of what was left
pub says_on : (a b c : Outgoing) (d e f : SinkState) (all middle left : List ℕ → List ℕ) → Saying a b d e all middle
    → Saying b c e f middle left → Saying a c d f all left
says_on a b c d e f all middle left h g = record {
  bytes = h.bytes ++ g.bytes;
  puts = puts_both a b c d e f h.bytes g.bytes h.puts g.puts;
  is = λ k. h.is k ∙ ap (λ x. h.bytes ++ x) (g.is k) ∙ sym (append_assoc h.bytes g.bytes (left k));
}

-- after a failure nothing more goes out, so what is left is said
pub says_stopped : (a b : Outgoing) (d e : SinkState) (all : List ℕ → List ℕ) (rest : List ℕ) → Saying a b d e all (λ k. rest ++ k) → b.failed ≡ true
    → Says a b d e all
says_stopped a b d e all rest h off = says_on a b b d e e all (λ k. rest ++ k) (λ k. k) h (says_bytes b b e e rest (puts_stopped b e rest off))

-- a text, where another one is to follow
pub says_before : (a b : Outgoing) (d e : SinkState) (text after : List ℕ → List ℕ) → Says a b d e text
    → Saying a b d e (λ k. text (after k)) after
says_before a b d e text after h = record { bytes = h.bytes; puts = h.puts; is = λ k. h.is (after k) }

-- the same text in other words
pub says_same : (a b : Outgoing) (d e : SinkState) (text other : List ℕ → List ℕ) → ((k : List ℕ) → other k ≡ text k)
    → Says a b d e text → Says a b d e other
says_same a b d e text other same h = record { bytes = h.bytes; puts = h.puts; is = λ k. same k ∙ h.is k }

pub says_both : (a b c : Outgoing) (d e f : SinkState) (s t : List ℕ → List ℕ) → Says a b d e s → Says b c e f t → Says a c d f (λ k. s (t k))
says_both a b c d e f s t h g = says_on a b c d e f (λ k. s (t k)) t (λ k. k) (says_before a b d e s t h) g

pub says_three : (a b c d : Outgoing) (p q r s : SinkState) (x y z : List ℕ → List ℕ) → Says a b p q x → Says b c q r y → Says c d r s z
    → Says a d p s (λ k. x (y (z k)))
says_three a b c d p q r s x y z f g h = says_both a b d p q s x (λ k. y (z k)) f (says_both b c d q r s y z g h)

pub says_four : (a b c d e : Outgoing) (p q r s t : SinkState) (w x y z : List ℕ → List ℕ) → Says a b p q w → Says b c q r x → Says c d r s y → Says d e s t z
    → Says a e p t (λ k. w (x (y (z k))))
says_four a b c d e p q r s t w x y z f g h i = says_both a b e p q t w (λ k. x (y (z k))) f (says_three b c d e q r s t x y z g h i)

pub says_five : (a b c d e f : Outgoing) (p q r s t u : SinkState) (v w x y z : List ℕ → List ℕ) → Says a b p q v → Says b c q r w → Says c d r s x → Says d e s t y
    → Says e f t u z → Says a f p u (λ k. v (w (x (y (z k)))))
says_five a b c d e f p q r s t u v w x y z g h i j l =
    says_both a b f p q u v (λ k. w (x (y (z k)))) g (says_four b c d e f q r s t u w x y z h i j l)

-- some units of a quoted text, and those that follow
pub says_units : (a b : Outgoing) (d e : SinkState) (units run after : List ℕ) (n : ℕ) → Says a b d e (λ k. run ++ k) → run ≡ flat_map quoted_unit (take n units)
    → after ≡ drop n units → Saying a b d e (λ k. flat_map quoted_unit units ++ k) (λ k. flat_map quoted_unit after ++ k)
says_units a b d e units run after n h front rest = record {
  bytes = h.bytes;
  puts = h.puts;
  is = λ k. ap (λ u. flat_map quoted_unit u ++ k) (sym (take-append-drop n units))
      ∙ ap (λ x. x ++ k) (flat_map-append quoted_unit (take n units) (drop n units))
      ∙ append_assoc (flat_map quoted_unit (take n units)) (flat_map quoted_unit (drop n units)) k
      ∙ ap (λ x. x ++ (flat_map quoted_unit (drop n units) ++ k)) (sym front)
      ∙ ap (λ u. run ++ (flat_map quoted_unit u ++ k)) (sym rest)
      ∙ h.is (flat_map quoted_unit after ++ k);
}

-- no units are left
pub says_no_units : (a b : Outgoing) (d e : SinkState) (all : List ℕ → List ℕ) (left : List ℕ) → Saying a b d e all (λ k. flat_map quoted_unit left ++ k) → left ≡ []
    → Says a b d e all
says_no_units a b d e all left h none = record { bytes = h.bytes; puts = h.puts; is = λ k. h.is k ∙ ap (λ u. h.bytes ++ (flat_map quoted_unit u ++ k)) none }

-- the units so far that stand for themselves
pub run_within : (run units : List ℕ) (i : ℕ) → length run ≡ i → i < length units → length run ≤ length units
run_within run units i many inside = omega (arith, many, inside)

pub run_front : (run units : List ℕ) (i : ℕ) → length run ≡ i → run ≡ flat_map quoted_unit (take i units) → run ≡ flat_map quoted_unit (take (length run) units)
run_front run units i many plain = plain ∙ ap (λ n. flat_map quoted_unit (take n units)) (sym many)

one-unit : (units : List ℕ) → 0 < length units → flat_map quoted_unit (take 1 units) ≡ quoted_unit (get_or units 0 0)
one-unit [] some = absurd (omega (arith, some))
one-unit (u ∷ us) some = append-nil (quoted_unit u)

-- one unit, and those that follow
pub says_unit : (a b : Outgoing) (d e : SinkState) (units after : List ℕ) (unit : ℕ) → Puts a b d e (quoted_unit unit) → 0 < length units → unit ≡ get_or units 0 0
    → after ≡ drop 1 units → Saying a b d e (λ k. flat_map quoted_unit units ++ k) (λ k. flat_map quoted_unit after ++ k)
says_unit a b d e units after unit h some is rest =
    says_units a b d e units (quoted_unit unit) after 1 (says_bytes a b d e (quoted_unit unit) h) (ap quoted_unit is ∙ sym (one-unit units some)) rest

-- a unit more that stands for itself
pub plain_more : (units run : List ℕ) (i unit : ℕ) → run ≡ flat_map quoted_unit (take i units) → i < length units → unit ≡ get_or units i 0
    → quoted_unit unit ≡ unit ∷ [] → run ++ (unit ∷ []) ≡ flat_map quoted_unit (take (i + 1) units)
plain_more units run i unit so inside is plain =
    ap (λ r. r ++ (unit ∷ [])) so
    ∙ ap (λ u. flat_map quoted_unit (take i units) ++ u) (sym plain ∙ ap quoted_unit is)
    ∙ flat_map_more quoted_unit [] (take i units) (get_or units i 0) ∙ ap (flat_map quoted_unit) (sym (take_more units i 0 inside))

pub says_quoted : (a b c g : Outgoing) (d e f h : SinkState) (units : List ℕ) → Says a b d e (λ k. 0x22 ∷ k) → Says b c e f (λ k. flat_map quoted_unit units ++ k)
    → Says c g f h (λ k. 0x22 ∷ k) → Says a g d h (λ k. quoted units k)
says_quoted a b c g d e f h units x y z =
    says_three a b c g d e f h (λ k. 0x22 ∷ k) (λ k. flat_map quoted_unit units ++ k) (λ k. 0x22 ∷ k) x y z

-- a text of which the units are known as they are quoted
pub says_name : (a b c g : Outgoing) (d e f h : SinkState) (units bytes behind : List ℕ) → bytes ≡ flat_map quoted_unit units → Says a b d e (λ k. 0x22 ∷ k)
    → Says b c e f (λ k. bytes ++ k) → Says c g f h (λ k. 0x22 ∷ (behind ++ k)) → Says a g d h (λ k. quoted units (behind ++ k))
says_name a b c g d e f h units bytes behind is x y z =
    says_same a g d h (λ k. 0x22 ∷ (bytes ++ (0x22 ∷ (behind ++ k)))) (λ k. quoted units (behind ++ k)) (λ k. ap (λ t. 0x22 ∷ (t ++ (0x22 ∷ (behind ++ k)))) (sym is))
    (says_three a b c g d e f h (λ k. 0x22 ∷ k) (λ k. bytes ++ k) (λ k. 0x22 ∷ (behind ++ k)) x y z)

-- the first epoch
pub says_first_epoch : (a b : Outgoing) (d e : SinkState) (epoch : ℕ) → epoch ≡ 0 → Says a b d e (λ k. codes "#0." ++ k)
    → Says a b d e (λ k. 0x23 ∷ (decimal epoch ++ (0x2E ∷ k)))
unfolding digits
says_first_epoch a b d e epoch is h =
    says_same a b d e (λ k. codes "#0." ++ k) (λ k. 0x23 ∷ (decimal epoch ++ (0x2E ∷ k))) (λ k. ap (λ n. 0x23 ∷ (decimal n ++ (0x2E ∷ k))) is) h

-- digits behind two zeros
pub says_significant : (a b : Outgoing) (d e : SinkState) (digits rest : List ℕ) → digits ≡ 0x30 ∷ 0x30 ∷ rest → without_zeros rest ≡ rest → Says a b d e (λ k. rest ++ k)
    → Says a b d e (λ k. without_zeros digits ++ k)
says_significant a b d e digits rest is same h =
    says_same a b d e (λ k. rest ++ k) (λ k. without_zeros digits ++ k) (λ k. ap (λ t. without_zeros t ++ k) is ∙ ap (λ t. t ++ k) same) h

pub says_suid : (a b c : Outgoing) (d e f : SinkState) (bytes : List ℕ) (n : ℕ) → Says a b d e (λ k. codes " suid " ++ k)
    → Says b c e f (λ k. encode_lower bytes ++ k) → bytes ≡ big_bytes 8 n
    → Says a c d f (λ k. codes " suid " ++ (encode_lower (big_bytes 8 n) ++ k))
says_suid a b c d e f bytes n h g is =
    says_both a b c d e f (λ k. codes " suid " ++ k) (λ k. encode_lower (big_bytes 8 n) ++ k) h
    (says_same b c e f (λ k. encode_lower bytes ++ k) (λ k. encode_lower (big_bytes 8 n) ++ k) (λ k. ap (λ x. encode_lower x ++ k) (sym is)) g)
