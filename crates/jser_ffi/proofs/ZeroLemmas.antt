-- What an answer has where its status does not speak of a number.
use Rattle.std.proofs.Common.{◌≡◌, ℕ, ◌⊎◌, inl, inr, refl, sym, subst}
use Rattle.std.specs.Prelude.{◌≢◌, ◌==◌, if◌then◌else◌, Bool, true, false}
use Rattle.jser_ffi.specs.declared.answer.Answer.{Answer}
use Rattle.jser_ffi.specs.Told.{TextZeros, Zeros, bare_answer, name_by, name_place}

-- where nothing is refused, there is no name
abbrev none : ℕ × ℕ
none = (0, 0)

none_either_way : (y : Bool) → none ≡ (if y then none else none)
none_either_way true = refl
none_either_way false = refl

zero_name : (status : ℕ) → none ≡ name_place (bare_answer status)
zero_name status = none_either_way (status == 1)

zero_at : (status : ℕ) → Zeros (bare_answer status)
zero_at status = record {
  counts = λ n. (refl, refl, refl, refl);
  bytes = λ n m. refl;
  end = λ n. refl;
  place = λ n m. (refl, refl);
  name = zero_name status;
  whole = λ n m k. refl;
}

pub bare_zeros : (status : ℕ) (answer : Answer) → answer ≡ bare_answer status → Zeros answer
bare_zeros status answer is = subst Zeros (sym is) (zero_at status)

-- with the counts of a yes
pub yes_zeros : (a : Answer) (bytes contents refs depth handles whole : ℕ) → a ≡ bare_answer 0
    → Zeros (record { status = a.status; reason = a.reason; from_byte = a.from_byte; to_byte = a.to_byte; bytes = bytes; contents = contents; refs = refs; depth = depth; handles = handles; name_from = a.name_from; name_to = a.name_to; whole = whole })
yes_zeros a bytes contents refs depth handles whole is =
    subst (λ b. Zeros (record { status = b.status; reason = b.reason; from_byte = b.from_byte; to_byte = b.to_byte; bytes = bytes; contents = contents; refs = refs; depth = depth; handles = handles; name_from = b.name_from; name_to = b.name_to; whole = whole })) (sym is)
    (record { counts = λ n. absurd (n refl); bytes = λ n m. absurd (n refl); end = λ n. refl; place = λ n m. (refl, refl); name = refl; whole = λ n m k. absurd (n refl) })

-- with the place and the reason of a refusal
pub no_zeros : (a : Answer) (reason from to name_from name_to whole : ℕ) → (name_from, name_to) ≡ name_by reason from to → a ≡ bare_answer 1
    → Zeros (record { status = a.status; reason = reason; from_byte = from; to_byte = to; bytes = a.bytes; contents = a.contents; refs = a.refs; depth = a.depth; handles = a.handles; name_from = name_from; name_to = name_to; whole = whole })
no_zeros a reason from to name_from name_to whole named is =
    subst (λ b. Zeros (record { status = b.status; reason = reason; from_byte = from; to_byte = to; bytes = b.bytes; contents = b.contents; refs = b.refs; depth = b.depth; handles = b.handles; name_from = name_from; name_to = name_to; whole = whole })) (sym is)
    (record { counts = λ n. (refl, refl, refl, refl); bytes = λ n m. refl; end = λ n. absurd (n refl); place = λ n m. absurd (n refl); name = named; whole = λ n m k. absurd (m refl) })

-- where more bytes are wanted
pub more_zeros : (a : Answer) (whole : ℕ) → a ≡ bare_answer 4
    → Zeros (record { status = a.status; reason = a.reason; from_byte = a.from_byte; to_byte = a.to_byte; bytes = a.bytes; contents = a.contents; refs = a.refs; depth = a.depth; handles = a.handles; name_from = a.name_from; name_to = a.name_to; whole = whole })
more_zeros a whole is =
    subst (λ b. Zeros (record { status = b.status; reason = b.reason; from_byte = b.from_byte; to_byte = b.to_byte; bytes = b.bytes; contents = b.contents; refs = b.refs; depth = b.depth; handles = b.handles; name_from = b.name_from; name_to = b.name_to; whole = whole })) (sym is)
    (record { counts = λ n. (refl, refl, refl, refl); bytes = λ n m. refl; end = λ n. refl; place = λ n m. (refl, refl); name = refl; whole = λ n m k. absurd (k refl) })

-- with the cause and the place of a misuse
pub misuse_zeros : (a : Answer) (cause place : ℕ) → a ≡ bare_answer 2
    → Zeros (record { status = a.status; reason = cause; from_byte = place; to_byte = a.to_byte; bytes = a.bytes; contents = a.contents; refs = a.refs; depth = a.depth; handles = a.handles; name_from = a.name_from; name_to = a.name_to; whole = a.whole })
misuse_zeros a cause place is =
    subst (λ b. Zeros (record { status = b.status; reason = cause; from_byte = place; to_byte = b.to_byte; bytes = b.bytes; contents = b.contents; refs = b.refs; depth = b.depth; handles = b.handles; name_from = b.name_from; name_to = b.name_to; whole = b.whole })) (sym is)
    (record { counts = λ n. (refl, refl, refl, refl); bytes = λ n m. refl; end = λ n. refl; place = λ n m. absurd (m refl); name = refl; whole = λ n m k. refl })

-- ---- of a text

-- with its length
pub shown_zeros : (status : ℕ) (a : Answer) (length : ℕ) → (status ≡ 0) ⊎ (status ≡ 6) → a ≡ bare_answer status
    → TextZeros (record { status = a.status; reason = a.reason; from_byte = a.from_byte; to_byte = a.to_byte; bytes = length; contents = a.contents; refs = a.refs; depth = a.depth; handles = a.handles; name_from = a.name_from; name_to = a.name_to; whole = a.whole })
shown_zeros status a length which is =
    subst (λ b. TextZeros (record { status = b.status; reason = b.reason; from_byte = b.from_byte; to_byte = b.to_byte; bytes = length; contents = b.contents; refs = b.refs; depth = b.depth; handles = b.handles; name_from = b.name_from; name_to = b.name_to; whole = b.whole })) (sym is)
    (record { counts = λ n. (refl, refl, refl, refl); bytes = no_bytes which; end = λ n. refl; place = λ n m. (refl, refl); name = zero_name status; whole = λ n m k. refl }, (refl, refl, refl, refl))
  where
    no_bytes : (status ≡ 0) ⊎ (status ≡ 6) → status ≢ 0 → status ≢ 6 → length ≡ 0
    no_bytes (inl zero_is) n m = absurd (n zero_is)
    no_bytes (inr six_is) n m = absurd (m six_is)

with_none : (answer : Answer) → Zeros answer → answer.status ≢ 0 → TextZeros answer
with_none answer zeros none = (zeros, zeros.counts none)

-- with a refusal, with a misuse, or where memory ran out
pub no_text : (answer : Answer) → Zeros answer → answer.status ≡ 1 → TextZeros answer
no_text answer zeros is = with_none answer zeros (λ e. absurd (cc))

pub memory_text : (answer : Answer) → Zeros answer → answer.status ≡ 3 → TextZeros answer
memory_text answer zeros is = with_none answer zeros (λ e. absurd (cc))

pub misuse_text : (answer : Answer) → Zeros answer → (answer.status ≡ 2) ⊎ (answer.status ≡ 3) → TextZeros answer
misuse_text answer zeros (inl is) = with_none answer zeros (λ e. absurd (cc))
misuse_text answer zeros (inr is) = with_none answer zeros (λ e. absurd (cc))
