use Rattle.std.proofs.Common.{sym, ◌∙◌}
use Rattle.uses_prim.proofs.LogLemmas.{record_out}
use Rattle.uses_prim.proofs.records.write_record.Goals as goal

pub returns-clause-counted : goal.returns-clause-counted
returns-clause-counted g c =
    c.written.ensures
    ∙ (record_out c.new-outbox.result c.put_u32.new.self c.put.new.self c.flush.new.self _ _ _ _ c.args.bytes.now c.new-outbox.ensures c.requires c.put_u32.ensures c.put.ensures c.flush.ensures.puts
    (sym c.has_failed.ensures ∙ c.if-has_failed.false) c.flush.ensures.empty).2
