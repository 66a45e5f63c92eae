-- The 25 reasons of a refusal, their numbers, and the order in which they are told where several hold at one end: the
-- lowest number first, but Truncated after all others, so that HandleSpace (25) comes before Truncated (24).
use Rattle.std.specs.Prelude.{ℕ, ◌≡◌, ◌≤◌, ◌⊎◌, Bool, nat_eq, if◌then◌else◌, List, [], ◌∷◌, Option, Some, None}

pub data Reason : Type 0 where
  bytes_exceeded bad_header bad_tag exception_tag reset_inside bad_text negative_length bad_type_code field_order : Reason
  bad_flags null_class no_such_handle wrong_kind open_descriptor bad_array_name wrong_class external_raw : Reason
  not_serializable class_rejected class_unmatched depth_exceeded refs_exceeded array_exceeded truncated handle_space : Reason

-- the number of each reason in the table of refusals
abbrev pub number : Reason → ℕ
number bytes_exceeded = 1
number bad_header = 2
number bad_tag = 3
number exception_tag = 4
number reset_inside = 5
number bad_text = 6
number negative_length = 7
number bad_type_code = 8
number field_order = 9
number bad_flags = 10
number null_class = 11
number no_such_handle = 12
number wrong_kind = 13
number open_descriptor = 14
number bad_array_name = 15
number wrong_class = 16
number external_raw = 17
number not_serializable = 18
number class_rejected = 19
number class_unmatched = 20
number depth_exceeded = 21
number refs_exceeded = 22
number array_exceeded = 23
number truncated = 24
number handle_space = 25

-- in the order of ties: the number is no higher, and Truncated comes after all others
abbrev pub ComesNoLater : Reason → Reason → Type 0
ComesNoLater reason other = (other ≡ truncated) ⊎ ((reason ≡ truncated → ⊥) × (number reason ≤ number other))

-- all of them, in this order
abbrev pub in_order : List Reason
in_order =
    bytes_exceeded ∷ bad_header ∷ bad_tag ∷ exception_tag ∷ reset_inside ∷ bad_text ∷ negative_length ∷ bad_type_code
    ∷ field_order ∷ bad_flags ∷ null_class ∷ no_such_handle ∷ wrong_kind ∷ open_descriptor ∷ bad_array_name ∷ wrong_class
    ∷ external_raw ∷ not_serializable ∷ class_rejected ∷ class_unmatched ∷ depth_exceeded ∷ refs_exceeded ∷ array_exceeded
    ∷ handle_space ∷ truncated ∷ []

-- the place of each in this order: 24 for HandleSpace and 25 for Truncated, else its number
abbrev pub turn : Reason → ℕ
turn bytes_exceeded = 1
turn bad_header = 2
turn bad_tag = 3
turn exception_tag = 4
turn reset_inside = 5
turn bad_text = 6
turn negative_length = 7
turn bad_type_code = 8
turn field_order = 9
turn bad_flags = 10
turn null_class = 11
turn no_such_handle = 12
turn wrong_kind = 13
turn open_descriptor = 14
turn bad_array_name = 15
turn wrong_class = 16
turn external_raw = 17
turn not_serializable = 18
turn class_rejected = 19
turn class_unmatched = 20
turn depth_exceeded = 21
turn refs_exceeded = 22
turn array_exceeded = 23
turn handle_space = 24
turn truncated = 25

-- the first of some reasons of which a test holds
abbrev pub first_that : (Reason → Bool) → List Reason → Option Reason
first_that holds [] = None
first_that holds (reason ∷ reasons) = if holds reason then Some reason else first_that holds reasons

-- the reason with this turn; there is no number beyond the last turn of which anything is asked
abbrev pub or_truncated : Option Reason → Reason
or_truncated None = truncated
or_truncated (Some reason) = reason

abbrev pub reason_with : ℕ → Reason
reason_with n = or_truncated (first_that (λ reason. nat_eq (turn reason) n) in_order)
