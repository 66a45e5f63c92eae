-- What the answer of a scan says, where it is seen as a truth value, or where one was a fault before.
use Rattle.std.proofs.Common.{◌≡◌, sym, subst, Bool, true, Ok, Err}
use Rattle.std.specs.Prelude.{◌↔◌, IsTrue, IsOk, IsErr, OnOk}
use Rattle.std.specs.declared.result.Result.{Result}
use Rattle.std.specs.Result.{is_ok}

pub ok_if : {T E : Type 0} (answer : Result T E) (told : Bool) (P : Type 0) → told ≡ is_ok answer → (IsOk answer ↔ P) → (IsTrue told ↔ P)
ok_if (Ok x) told P is iff = subst (λ b. IsTrue b ↔ P) (sym is) iff
ok_if (Err e) told P is iff = subst (λ b. IsTrue b ↔ P) (sym is) iff

pub on_ok : {T E : Type 0} (answer : Result T E) (P : Type 0) → true ≡ is_ok answer → OnOk answer P → P
on_ok (Ok x) P is holds = holds
on_ok (Err e) P is holds = absurd (cc)

pub refused_twice : {T E : Type 0} (first second : Result T E) (fault : E) (P : Type 0) → first ≡ Err fault
    → (IsOk first ↔ P) → IsErr second → (IsOk second ↔ P)
refused_twice first (Ok x) fault P is iff refused = absurd (cc)
refused_twice first (Err e) fault P is iff refused = (λ ok. absurd (cc), λ p. subst IsOk is (iff.1 p))
