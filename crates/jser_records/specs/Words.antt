-- What is printed of a record: KEY, TAB and its answer; or an object.
use Rattle.std.specs.Prelude.{ℕ, false, true, List, ◌∷◌, ◌++◌, codes, if◌then◌else◌}
use Rattle.std.specs.Fmt.{decimal}
use Rattle.hex.specs.Hex.{encode_lower}
use Rattle.jser_scan.specs.Answers.{answer_words, count_words}
use Rattle.jser_scan.specs.Json.{found_members}
use Rattle.jser_scan.specs.Paths.{is_plain}
use Rattle.jser_records.specs.declared.answer.Answer.{Answer}
use Rattle.jser_records.specs.declared.answer.Answer.TheVariants as answer
use Rattle.jser_records.specs.declared.key.Key.{Key}
use Rattle.jser_records.specs.declared.sign.Sign.{Sign}
use Rattle.jser_records.specs.Signs.{has_byte, signs_words}

-- the words of an answer: those of scan, and those of a record without a stream
abbrev pub words_of : Answer → List ℕ → List ℕ
words_of (answer.Checked result) k = answer_words result k
words_of answer.Null k = codes "null" ++ k
words_of (answer.Longer most) k = count_words (codes "longer than ") most (codes " bytes" ++ k)
words_of answer.LongKey k = codes "key longer than 65535 bytes" ++ k
words_of answer.LineEndInKey k = codes "line end in its KEY" ++ k
words_of (answer.Cut at total) k = count_words (codes "cut at ") at (count_words (codes " of ") total (codes " bytes" ++ k))
words_of answer.ErrorReply k = codes "error reply" ++ k
words_of answer.NoLength k = codes "no length" ++ k

-- a KEY: as it is where it is printable ASCII without `"`, `\`, `: ` and a space at an end, else by its signs
abbrev pub key_words : (bytes : List ℕ) → List Sign → List ℕ → List ℕ
key_words bytes signs k = if is_plain bytes then bytes ++ k else signs_words false signs k

-- the KEY, or the number of a record that has none
abbrev pub label_words : (number : ℕ) → Key → List Sign → List ℕ → List ℕ
label_words number key signs k = if key.is_there then key_words key.bytes.items signs k else decimal number ++ k

-- KEY TAB ANSWER
abbrev pub line_words : (number : ℕ) → Key → List Sign → Answer → List ℕ → List ℕ
line_words number key signs result k = label_words number key signs (0x09 ∷ words_of result (0x0A ∷ k))

-- ---- the same as an object

-- all bytes of a KEY that is no UTF-8, in lower-case hexadecimal
abbrev pub hex_member : (bytes : List ℕ) → List Sign → List ℕ → List ℕ
hex_member bytes signs k = if has_byte signs then codes ",\"key_hex\":\"" ++ (encode_lower bytes ++ (0x22 ∷ k)) else k

abbrev pub key_member : Key → List Sign → List ℕ → List ℕ
key_member key signs k = if key.is_there then codes ",\"key\":" ++ signs_words true signs (hex_member key.bytes.items signs k) else k

abbrev pub error_member : Answer → List ℕ → List ℕ
error_member result k = codes ",\"error\":\"" ++ words_of result (0x22 ∷ k)

abbrev pub members : Answer → List ℕ → List ℕ
members (answer.Checked result) k = found_members result k
members answer.Null k = codes ",\"answer\":\"null\"" ++ k
members (answer.Longer most) k = error_member (answer.Longer most) k
members answer.LongKey k = error_member answer.LongKey k
members answer.LineEndInKey k = error_member answer.LineEndInKey k
members (answer.Cut at total) k = error_member (answer.Cut at total) k
members answer.ErrorReply k = error_member answer.ErrorReply k
members answer.NoLength k = error_member answer.NoLength k

abbrev pub object_words : (number : ℕ) → Key → List Sign → Answer → List ℕ → List ℕ
object_words number key signs result k =
    count_words (codes "{\"record\":") number (key_member key signs (members result (codes "}\n" ++ k)))
