use Rattle.std.proofs.Common.{◌≡◌, ◌++◌, [], None, false, sym, ap, subst, ◌∙◌}
use Rattle.std.specs.Prelude.{IfSome}
use Rattle.jser_inputs.specs.Decoding.{TextRead}
use Rattle.jser_inputs.specs.Places.{is_wrong}
use Rattle.jser_inputs.specs.Spelled.{Reads}
use Rattle.jser_records.specs.Readings.{IsOfBytes, IsWrongIn, Spells, Stands}
use Rattle.jser_records.proofs.ReadingLemmas.{none_of, spare_room, spells_on, spells_stopped}
use Rattle.jser_records.proofs.reading.Reading.spell.Goals as goal

pub returns-then-is_answered-clause-spelled : goal.returns-then-is_answered-clause-spelled
returns-then-is_answered-clause-spelled c = λ form mark before digits few had.
    let s = c.args.self.now in
    spells_stopped s.judge s.most s.room s.answer s.decoder s.decoder form mark before c.args.text.now (sym c.is_answered.ensures ∙ c.if-is_answered.true) had

pub returns-clause-spelled : goal.returns-clause-spelled
returns-clause-spelled c = λ form mark before digits few had.
    let s = c.args.self.now in
    let d = c.decode-given.new.self in
    let mid = c.take.new.self in
    let now = c.look_at_text.new.self in
    let text = c.args.text.now in
    let none : s.answer ≡ None = none_of s.answer (sym c.is_answered.ensures ∙ c.if-is_answered.false) in
    let so_far : Spells s.judge s.most s.room None s.decoder form mark before = subst (λ o. Spells s.judge s.most s.room o s.decoder form mark before) none had in
    let reads = c.decode-given.ensures.reads (spare_room s.judge s.most s.room s.decoder form mark before text digits few so_far) in
    let same : now.decoder ≡ d = ap (λ r. r.decoder) c.look_at_text.ensures.rest ∙ c.take.ensures.decoder in
    let out = c.split_at.result.0.now in
    let is_of : IfSome mid.answer IsOfBytes = c.take.ensures.bytes (subst (λ o. IfSome o IsOfBytes) (sym none) tt) in
    subst (λ (q : TextRead). Spells now.judge now.most now.room now.answer q form mark (before ++ text)) (sym same)
    (spells_on s.judge now.judge s.most now.most s.room now.room mid.answer now.answer s.decoder d form mark before text out reads.taken so_far
    (subst (λ xs. Reads s.decoder.spot d.spot text [] xs reads.taken) (sym c.split_at.ensures.front) reads.reads) reads.form reads.counted
    (c.look_at_text.ensures.has (so_far.bytes ++ out)
    (c.take.ensures.has so_far.bytes (subst (λ o. Stands s.judge s.most s.room o so_far.bytes) (sym none) so_far.stands)))
    (λ still. subst (λ (q : TextRead). is_wrong q.spot.place ≡ false) c.take.ensures.decoder (c.look_at_text.ensures.open still).1)
    is_of c.look_at_text.ensures.kept
    (subst (λ (q : TextRead). mid.answer ≡ None → IfSome now.answer (λ a. IsWrongIn q a)) c.take.ensures.decoder c.look_at_text.ensures.wrong))
