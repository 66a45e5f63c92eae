-- Limits that are some times as high.
use Rattle.std.proofs.Common.{◌≡◌, ℕ, zero, suc, ◌*◌, ◌≤◌, min, true, List, length, Result, Ok, Err, IfOk, String, string_bytes, ap, ◌∙◌, arith}
use Rattle.jser_prim.specs.ModifiedUtf8.{utf16_units}
use Rattle.jser_grammar.specs.Trees.{ContentTrees}
use Rattle.jser_grammar.specs.Counts.{depth_of, refs_of, array_lengths}
use Rattle.jser_reading.specs.GateLimits.{Each}
use Rattle.jser_reader.specs.Gates.{open_gate}
use Rattle.jser_filter.specs.Pieces.{pieces_of}
use Rattle.jser_check.specs.Admitted.{AreAdmitted}
use Rattle.jser_suggest.specs.Suggested.{Known, suggested, suggested_text, times, widened, is_one_line}
use Rattle.jser_suggest.specs.Samples.{Fits, AreKnown}
use Rattle.jser_suggest.specs.Laws.{AdmitsWidened}
use Rattle.jser_suggest.proofs.LawLemmas.{each_of, admits_one}
use Rattle.jser_suggest.proofs.KnownLemmas.{fits_more, are_limits}
use Rattle.jser_suggest.proofs.PlainLemmas.{plain_line}
use Rattle.jser_suggest.proofs.TextLemmas.{AreLimits, reads_suggested, suggested_line}

product_grows : (n count : ℕ) → 1 ≤ n → count ≤ n * count
product_grows zero count one = absurd (omega (arith, one))
product_grows (suc n) count one = omega (arith)

times_grow : (n count : ℕ) → 1 ≤ n → count ≤ 9223372036854775807 → count ≤ times n count
times_grow n count one few = omega (arith, product_grows n count one, few)

pub admits_widened : AdmitsWidened
admits_widened n streams known filter options one are has =
    let l = are_limits streams known are in
    each_of (λ bytes. (list : ContentTrees) × Fits known bytes list) (AreAdmitted filter options) streams
    (λ bytes f. (
      f.0,
      admits_one (widened n known) filter options bytes f.0 has
          (fits_more known (widened n known) bytes f.0 (times_grow n known.bytes one l.bytes) (times_grow n known.refs one l.refs) (times_grow n known.depth one l.depth)
          (times_grow n known.array one l.array) (λ name among. among) f.1),
    )) are.fit

times_within : (n count : ℕ) → times n count ≤ 9223372036854775807
times_within n count = omega (arith)

widened_limits : (n : ℕ) (known : Known) → AreLimits (widened n known)
widened_limits n known = record {
  bytes = times_within n known.bytes;
  refs = times_within n known.refs;
  depth = times_within n known.depth;
  array = times_within n known.array;
}

pub widened_pieces : {X Y : Type 0} (n : ℕ) (streams : List (List ℕ)) (known : Known) (result : Result (String Y) X) → AreKnown streams known
    → IfOk result (λ text. utf16_units (string_bytes text) ≡ suggested_text (widened n known))
    → IfOk result (λ text. pieces_of (utf16_units (string_bytes text)) ≡ suggested (widened n known))
widened_pieces n streams known (Ok text) are e = ap pieces_of e ∙ reads_suggested (widened n known) (widened_limits n known) are.writable
widened_pieces n streams known (Err why) are e = tt

pub widened_line : {X Y : Type 0} (n : ℕ) (streams : List (List ℕ)) (known : Known) (result : Result (String Y) X) → AreKnown streams known
    → IfOk result (λ text. utf16_units (string_bytes text) ≡ suggested_text (widened n known)) → IfOk result (λ text. is_one_line (utf16_units (string_bytes text)) ≡ true)
widened_line n streams known (Ok text) are e =
    ap is_one_line e ∙ suggested_line (widened n known) (widened_limits n known) (λ name among. plain_line name (are.plain name among))
widened_line n streams known (Err why) are e = tt

abbrev pub known_of : (bytes refs depth array : ℕ) → List (List ℕ) → Known
known_of bytes refs depth array names = record { bytes = bytes; refs = refs; depth = depth; array = array; names = names }

-- each limit was multiplied by itself
pub same_known : (n : ℕ) (known : Known) (bytes refs depth array : ℕ) → bytes ≡ times n known.bytes → refs ≡ times n known.refs → depth ≡ times n known.depth → array ≡ times n known.array
    → known_of bytes refs depth array known.names ≡ widened n known
same_known n known bytes refs depth array b r d a =
    ap (λ x. known_of x refs depth array known.names) b ∙ ap (λ x. known_of (times n known.bytes) x depth array known.names) r
    ∙ ap (λ x. known_of (times n known.bytes) (times n known.refs) x array known.names) d
    ∙ ap (λ x. known_of (times n known.bytes) (times n known.refs) (times n known.depth) x known.names) a
