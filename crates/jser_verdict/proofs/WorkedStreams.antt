-- Streams and gates for the worked answers. The bytes are in hexadecimal, spaces are for reading.
use Rattle.std.proofs.Common.{ℕ, ◌+◌, ◌-◌, ◌*◌, ◌&&◌, Bool, true, false, if◌then◌else◌, cond, nat_eq, nat_lt, List, [], ◌∷◌, ◌++◌, codes}
use Rattle.jser_verdict.specs.Gates.{Gate, Answer, pass, rejected, unmatched}

abbrev digit : ℕ → ℕ
digit c = cond (nat_lt c 0x3A) (c - 48) (c - 55)

abbrev pub hex : List ℕ → List ℕ
hex [] = []
hex (c ∷ []) = []
hex (c ∷ d ∷ text) = cond (nat_eq c 32) (hex (d ∷ text)) ((digit c * 16 + digit d) ∷ hex text)

-- two linked List objects
abbrev pub linked_pair : List ℕ
linked_pair =
    hex (codes "ACED0005 73 72 0004 4C697374 69C88A154016AE68 02 0002 49 0005 76616C7565 4C 0004 6E657874 74 0006 4C4C6973743B 78 70 00000011")
    ++ hex (codes "73 71007E0000 00000013 70 71007E0003")

-- an int array up to its length
abbrev pub int_array_of : List ℕ → List ℕ
int_array_of rest = hex (codes "ACED0005 75 72 0002 5B49 4DBA602676EAB2A5 02 0000 78 70") ++ rest

abbrev pub enum_constant : List ℕ
enum_constant =
    hex (codes "ACED0005 7E 72 0001 45 0000000000000000 12 0000 78 72 000E") ++ codes "java.lang.Enum"
    ++ hex (codes "0000000000000000 12 0000 78 70 74 0001 41")

abbrev pub proxy : List ℕ
proxy =
    hex (codes "ACED0005 73 7D 00000001 0001 49 78 72 0017") ++ codes "java.lang.reflect.Proxy"
    ++ hex (codes "E127DA20CC1043CB 02 0001 4C 0001 68 74 0025") ++ codes "Ljava/lang/reflect/InvocationHandler;"
    ++ hex (codes "78 70 70")

-- an ArrayList holding "a"
abbrev pub array_list : List ℕ
array_list =
    hex (codes "ACED0005 73 72 0013") ++ codes "java.util.ArrayList"
    ++ hex (codes "7881D21D99C7619D 03 0001 49 0004 73697A65 78 70 00000001 77 04 00000001 74 0001 61 78")

-- an externalizable class over a serializable one
abbrev pub external_over_serial : List ℕ
external_over_serial =
    hex (codes "ACED0005 73 72 0001 41 0000000000000001 0C 0000 78 72 0001 42 0000000000000002 02 0001 49 0001 6E 78 70 770105 78")

-- superclass data first
abbrev pub superclass_first : List ℕ
superclass_first =
    hex (codes "ACED0005 73 72 0001 42 0000000000000002 02 0001 49 0001 69 78 72 0001 41 0000000000000001 03 0001 42 0001 62 78 70 07 78")
    ++ hex (codes "00000009")

-- a descriptor of the class A, up to its flags
abbrev pub class_a : List ℕ → List ℕ
class_a rest = hex (codes "ACED0005 72 0001 41 0000000000000001") ++ rest

-- a class A that has been read, and what comes after it
abbrev pub after_class_a : (flags rest : List ℕ) → List ℕ
after_class_a flags rest = class_a (flags ++ (hex (codes "0000 78 70") ++ rest))

-- the caps, and each name passes
abbrev pub open_gate : Gate
open_gate = record {
  bytes = 1099511627776;
  depth = 65535;
  refs = 9223372036854775807;
  array = 2147483647;
  handles = 2139226112;
  answer = λ name. pass;
}

abbrev pub with_bytes : ℕ → Gate
with_bytes n = record {
  bytes = n;
  depth = open_gate.depth;
  refs = open_gate.refs;
  array = open_gate.array;
  handles = open_gate.handles;
  answer = open_gate.answer;
}

abbrev pub with_depth : ℕ → Gate
with_depth n = record {
  bytes = open_gate.bytes;
  depth = n;
  refs = open_gate.refs;
  array = open_gate.array;
  handles = open_gate.handles;
  answer = open_gate.answer;
}

abbrev pub with_refs : ℕ → Gate
with_refs n = record {
  bytes = open_gate.bytes;
  depth = open_gate.depth;
  refs = n;
  array = open_gate.array;
  handles = open_gate.handles;
  answer = open_gate.answer;
}

abbrev pub with_array : ℕ → Gate
with_array n = record {
  bytes = open_gate.bytes;
  depth = open_gate.depth;
  refs = open_gate.refs;
  array = n;
  handles = open_gate.handles;
  answer = open_gate.answer;
}

abbrev pub with_handles : (handles depth : ℕ) → Gate
with_handles n depth = record {
  bytes = open_gate.bytes;
  depth = depth;
  refs = open_gate.refs;
  array = open_gate.array;
  handles = n;
  answer = open_gate.answer;
}

abbrev pub with_answer : (List ℕ → Answer) → Gate
with_answer answer = record {
  bytes = open_gate.bytes;
  depth = open_gate.depth;
  refs = open_gate.refs;
  array = open_gate.array;
  handles = open_gate.handles;
  answer = answer;
}

abbrev is_name : List ℕ → List ℕ → Bool
is_name [] [] = true
is_name [] (d ∷ other) = false
is_name (c ∷ name) [] = false
is_name (c ∷ name) (d ∷ other) = nat_eq c d && is_name name other

-- one name is rejected; all names but one are; no name is matched
abbrev pub rejecting : List ℕ → Gate
rejecting name = with_answer (λ other. if is_name name other then rejected else pass)

abbrev pub rejecting_but : List ℕ → Gate
rejecting_but name = with_answer (λ other. if is_name name other then pass else rejected)

abbrev pub matching_none : Gate
matching_none = with_answer (λ name. unmatched)
