use Rattle.jser_reader.proofs.ReaderLemmas.{all_bytes}
use Rattle.uses_reader.proofs.CutLemmas.{both_bytes}
use Rattle.uses_reader.proofs.cuts.read_in_two.Goals as goal

pub read_both-requires-clause-bytes : goal.read_both-requires-clause-bytes
read_both-requires-clause-bytes c =
    both_bytes c.args.bytes.now _ _ c.min.result c.split_at.ensures.front c.split_at.ensures.back
    (all_bytes c.args.bytes.now (λ k. (c.type_inv.bytes k).fits))
