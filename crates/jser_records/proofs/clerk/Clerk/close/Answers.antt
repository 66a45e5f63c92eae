use Rattle.std.proofs.Common.{refl}
use Rattle.jser_records.proofs.ToldLemmas.{closes}
use Rattle.jser_records.proofs.clerk.Clerk.close.Goals as goal

pub returns : goal.returns
returns g c = record {
  closes =
      closes c.args.self.now _ _ _ _ _ _ c.finish-ended.new.self.reading.key c.finish-ended.result.signs.items c.finish-ended.result.answer c.finish-ended.new.self.held.items
      c.put_record.ensures c.tell_record.ensures c.saturating_add-self.ensures c.counted-self.ensures refl refl c.finish-ended.ensures.held c.passes.ensures c.finish-ended.ensures.passes
      c.finish-ended.ensures.right c.finish-ended.ensures.keeps c.finish-ended.ensures.key;
}
