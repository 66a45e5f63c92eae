use Rattle.jser_records.proofs.SizedLemmas.{head_waits}
use Rattle.jser_records.proofs.sized.take_line.Goals as goal

pub take_record-requires : goal.take_record-requires
take_record-requires g c = record {
  head =
      head_waits c.args.inbox.now c.args.count c.args.end c.saturating_add-size.result c.front.result.now c.without_return.result.now c.header_of-header.result c.requires.line
      c.saturating_add-size.ensures c.front.ensures c.without_return.ensures c.header_of-header.ensures;
}
