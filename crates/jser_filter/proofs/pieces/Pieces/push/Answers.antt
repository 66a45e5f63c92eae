use Rattle.std.proofs.Common.{rules}
use Rattle.jser_filter.proofs.IndexLemmas.{index_pushed, patterns_pushed}
use Rattle.jser_filter.proofs.pieces.Pieces.push.Goals as goal

pub invariant_of-self-2 : goal.invariant_of-self-2
invariant_of-self-2 c =
    let own = c.self.inside in (
      index_pushed own.pieces.items c.reserve.new.self.items c.push_reserved.new.self.items c.args.piece own.index c.add_place.new.index c.len-place.result
          c.self.invariant.0 c.in_ok-reserve.ensures.items c.in_ok-add_place.ensures.ok (search rules) c.push_reserved.ensures.items,
      patterns_pushed own.pieces.items c.reserve.new.self.items c.push_reserved.new.self.items c.args.piece own.has_patterns c.is_pattern.result
          c.self.invariant.1 c.in_ok-reserve.ensures.items c.is_pattern.ensures c.push_reserved.ensures.items,
    )
