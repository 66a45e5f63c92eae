-- Products and comparisons of numbers in limbs.
use Rattle.std.proofs.Common.{◌≡◌, ◌<◌, ◌≤◌, ℕ, suc, ◌+◌, ◌-◌, ◌*◌, ◌^◌, ◌∙◌, ap, sym, refl, subst, Bool, true, false, List, [], ◌∷◌, ◌++◌, length, take, get_or, set, length-append, add-one, arith}
use Rattle.std.specs.Prelude.{nat_le, nat_lt}
use Rattle.std.proofs.lemmas.Bool.Decides.{nat_tests}
use Rattle.std.proofs.lemmas.List.{length-take-le, get_or-set_other}
use Rattle.std.proofs.Math.Seq.{take-suc, take-suc-set}
use Rattle.std.proofs.Math.Nat.{mul_assoc}
use Rattle.std.proofs.lemmas.Nat.{pow-add}
use Rattle.jser_decimal.specs.Bigs.{below, weight, worth}

pub worth_behind : (limbs : List ℕ) (limb : ℕ) → worth (limbs ++ limb ∷ []) ≡ worth limbs + weight (length limbs) * limb
worth_behind [] limb = omega arith
worth_behind (x ∷ limbs) limb =
    let later = worth_behind limbs limb in
    grind (arith, later)

-- the product of two limbs and a third one fit twice the bits
pub wide_fits : (limb by carry : ℕ) → limb < 2 ^ 64 → by < 2 ^ 64 → carry < 2 ^ 64 → limb * by + carry < 2 ^ 128
wide_fits limb by carry one two three = grind arith

-- the limbs of a product so far, with what is carried
pub record Multiplied (limbs items : List ℕ) (by carry index : ℕ) : Type 0 where
  pub length : length limbs ≡ index
  pub product : worth limbs + weight index * carry ≡ worth (take index items) * by

-- what the limbs so far, one limb of the product and what is carried are worth together
together : (some w low high carry limb by front : ℕ) → low + 2 ^ 64 * high ≡ limb * by + carry → some + w * carry ≡ front * by
    → some + w * low + 2 ^ 64 * w * high ≡ (front + w * limb) * by
together some w low high carry limb by front one other =
    let a : w * (low + 2 ^ 64 * high) ≡ w * (limb * by + carry) = ap (λ x. w * x) one in
    grind (arith, a, other)

-- one limb more
multiplied_suc : (limbs items : List ℕ) (by carry index low high : ℕ) → Multiplied limbs items by carry index → index < length items
    → low + 2 ^ 64 * high ≡ get_or items index 0 * by + carry
    → Multiplied (limbs ++ low ∷ []) items by high (suc index)
multiplied_suc limbs items by carry index low high before within wide = record {
  length = length-append limbs (low ∷ []) ∙ ap (λ n. n + 1) before.length ∙ add-one index;
  product =
      let w = weight index in
      let limb = get_or items index 0 in
      let long : length (take index items) ≡ index = length-take-le index items (omega (arith, within)) in
      let here : worth (limbs ++ low ∷ []) ≡ worth limbs + w * low = worth_behind limbs low ∙ ap (λ n. worth limbs + weight n * low) before.length in
      let there : worth (take (suc index) items) ≡ worth (take index items) + w * limb =
      ap worth (take-suc items index 0 within) ∙ worth_behind (take index items) limb ∙ ap (λ n. worth (take index items) + weight n * limb) long in
      ap (λ x. x + 2 ^ 64 * w * high) here
      ∙ together (worth limbs) w low high carry limb by (worth (take index items)) wide before.product
      ∙ sym (ap (λ x. x * by) there);
}

-- one limb more, in its place
pub limb_stored : (limbs items : List ℕ) (by carry at low high : ℕ) → Multiplied (take at limbs) items by carry at → length limbs ≡ length items
    → ((k : ℕ) → at ≤ k → get_or limbs k 0 ≡ get_or items k 0) → at < length items → low + 2 ^ 64 * high ≡ get_or limbs at 0 * by + carry
    → Multiplied (take (at + 1) (set limbs at low)) items by high (at + 1)
limb_stored limbs items by carry at low high before long rest within wide =
    let stored : take (suc at) (set limbs at low) ≡ take at limbs ++ low ∷ [] = take-suc-set limbs at low (omega (arith, within, long)) in
    let product = subst (λ limb. low + 2 ^ 64 * high ≡ limb * by + carry) (rest at (omega arith)) wide in
    let all = multiplied_suc (take at limbs) items by carry at low high before within product in
    subst (λ n. Multiplied (take n (set limbs at low)) items by high n) (sym (add-one at)) (subst (λ (xs : List ℕ). Multiplied xs items by high (suc at)) (sym stored) all)

pub rest_stored : (limbs items : List ℕ) (at low : ℕ) → ((k : ℕ) → at ≤ k → get_or limbs k 0 ≡ get_or items k 0)
    → (k : ℕ) → at + 1 ≤ k → get_or (set limbs at low) k 0 ≡ get_or items k 0
rest_stored limbs items at low rest k from = get_or-set_other limbs at k low 0 (λ e. omega (arith, e, from)) ∙ rest k (omega (arith, from))

-- all limbs, and the carry behind them
pub multiplied_whole : (limbs items behind : List ℕ) (by carry : ℕ) → worth limbs + weight (length items) * carry ≡ worth items * by → length limbs ≡ length items
    → behind ≡ limbs ++ carry ∷ [] → worth behind ≡ worth items * by
multiplied_whole limbs items behind by carry product long is =
    ap worth is ∙ worth_behind limbs carry ∙ ap (λ n. worth limbs + weight n * carry) long ∙ product

-- the lowest limbs decide where the others are the same
below_behind : (ties : Bool) (x y a b : ℕ) → x < 2 ^ 64 → y < 2 ^ 64 → below ties (x + 2 ^ 64 * a) (y + 2 ^ 64 * b) ≡ below (below ties x y) a b
below_behind true x y a b one two = go (nat_le x y) refl
  where
    go : (t : Bool) → nat_le x y ≡ t → nat_le (x + 2 ^ 64 * a) (y + 2 ^ 64 * b) ≡ below t a b
    go true e = grind (arith, nat_tests, e)
    go false e = grind (arith, nat_tests, e)
below_behind false x y a b one two = go (nat_lt x y) refl
  where
    go : (t : Bool) → nat_lt x y ≡ t → nat_lt (x + 2 ^ 64 * a) (y + 2 ^ 64 * b) ≡ below t a b
    go true e = grind (arith, nat_tests, e)
    go false e = grind (arith, nat_tests, e)

-- one limb of each: the product's limb `low`, with `high` carried
product_below : (ties : Bool) (limb by carry low high y a b : ℕ) → low + 2 ^ 64 * high ≡ limb * by + carry → low < 2 ^ 64 → y < 2 ^ 64
    → below (below ties low y) (a * by + high) b ≡ below ties ((limb + 2 ^ 64 * a) * by + carry) (y + 2 ^ 64 * b)
product_below ties limb by carry low high y a b is one two =
    let whole : (limb + 2 ^ 64 * a) * by + carry ≡ low + 2 ^ 64 * (a * by + high) = grind (arith, is) in
    sym (ap (λ n. below ties n (y + 2 ^ 64 * b)) whole ∙ below_behind ties low y (a * by + high) b one two)

pub limbs_below : (ties here result : Bool) (one other by carry limb y low high a b : ℕ) → one ≡ limb + 2 ^ 64 * a → other ≡ y + 2 ^ 64 * b
    → low + 2 ^ 64 * high ≡ limb * by + carry → low < 2 ^ 64 → y < 2 ^ 64 → here ≡ below ties low y → result ≡ below here (a * by + high) b
    → result ≡ below ties (one * by + carry) other
limbs_below ties here result one other by carry limb y low high a b left right product fits fits' tie is =
    is ∙ ap (λ t. below t (a * by + high) b) tie ∙ product_below ties limb by carry low high y a b product fits fits'
    ∙ sym (ap (λ n. below ties (n * by + carry) other) left ∙ ap (λ n. below ties ((limb + 2 ^ 64 * a) * by + carry) n) right)

-- a power in two steps
pub power_on : (base chunk power some : ℕ) → chunk ≤ power → some * base ^ chunk * base ^ (power - chunk) ≡ some * base ^ power
power_on base chunk power some within =
    mul_assoc some (base ^ chunk) (base ^ (power - chunk))
    ∙ ap (λ x. some * x) (sym (pow-add base chunk (power - chunk)) ∙ ap (λ n. base ^ n) (omega (arith, within)))
