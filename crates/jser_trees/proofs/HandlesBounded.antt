-- An epoch has at most half as many handles as the list has bytes.
use Rattle.std.proofs.Common.{ℕ, ◌+◌, ◌*◌, ◌≤◌, [], length, length-append, arith, ◌++◌}
use Rattle.jser_grammar.proofs.Vocabulary.{block, reset, content, ContentTrees, no_contents, content_and, Entries, after_value}
use Rattle.jser_grammar.specs.Spelling.{block_head, value_spelling, contents_spelling}
use Rattle.jser_grammar.specs.Counts.{epochs_from}
use Rattle.jser_grammar.proofs.TableSizes.{sized_value}
use Rattle.jser_reading.specs.GateLimits.{Each}

-- each epoch, from a table on
pub epochs_bounded : (cs : ContentTrees) (T : Entries) (most : ℕ) → 2 * length T + length (contents_spelling cs) ≤ 2 * most
    → Each (λ n. n ≤ most) (epochs_from T cs)
epochs_bounded no_contents T most h = (omega arith, tt)
epochs_bounded (content_and (block long b) cs) T most h =
    epochs_bounded cs T most (omega (arith, length-append (block_head long (length b) ++ b) (contents_spelling cs)))
epochs_bounded (content_and reset cs) T most h = (omega arith, epochs_bounded cs [] most (omega arith))
epochs_bounded (content_and (content v) cs) T most h =
    epochs_bounded cs (after_value T v) most (omega (arith, length-append (value_spelling v) (contents_spelling cs), sized_value v T))
