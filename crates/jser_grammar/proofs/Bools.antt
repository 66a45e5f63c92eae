-- Tests and what they say.
use Rattle.std.proofs.Common.{◌≡◌, Bool, true, false, ◌&&◌, refl, sym, IsTrue, true≢false}

pub and_left : (a b : Bool) → IsTrue (a && b) → IsTrue a
and_left true b h = refl
and_left false b h = h

pub and_right : (a b : Bool) → IsTrue (a && b) → IsTrue b
and_right true b h = h
and_right false b h = absurd (cc)

pub and_both : (a b : Bool) → IsTrue a → IsTrue b → IsTrue (a && b)
and_both true b h k = k
and_both false b h k = h

pub and-assoc : (a b c : Bool) → (a && (b && c)) ≡ ((a && b) && c)
and-assoc true b c = refl
and-assoc false b c = refl

pub and-true : (a : Bool) → (a && true) ≡ a
and-true true = refl
and-true false = refl

-- a test that fails proves anything when it holds
pub untrue : {A : Type 0} → IsTrue false → A
untrue h = absurd (true≢false (sym h))

pub both_ways : {A : Type 0} → (b : Bool) → b ≡ true → b ≡ false → A
both_ways true h k = absurd (true≢false k)
both_ways false h k = untrue h
