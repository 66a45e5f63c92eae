use Rattle.std.proofs.Common.{◌≡◌, ◌==◌, ◌-◌, ◌<◌, ℕ, List, Option, Some, None, if◌then◌else◌, length, take, drop, ap, sym, subst, ◌∙◌, arith}
use Rattle.jser_records.specs.Fields.{key_of, part_of}
use Rattle.jser_records.specs.Keys.{HasLostKey, HasNoKey, IsKeyOf}
use Rattle.jser_records.specs.Readings.{Came, HasStopped, IsCounted, IsReady, value_in}
use Rattle.jser_records.specs.Stretches.{InStretch}
use Rattle.jser_records.proofs.KeyLemmas.{behind_is, key_alone, key_joined, none_left}
use Rattle.jser_records.proofs.LineLemmas.{field_came, part_came}
use Rattle.jser_records.proofs.StretchLemmas.{front_behind, front_in, stopped_kept}
use Rattle.jser_records.proofs.lines.take_front.Goals as goal

-- the KEY, where the value is at the end
key-in-empty : (c : goal.After-value_stretch) → HasNoKey c.args.current.now.reading.key → IsKeyOf c.take_value_front.new.current.reading.key (key_of c.args.line.now c.parts_of-parts.result)
key-in-empty c none =
    let line = c.args.line.now in
    let parts = c.parts_of-parts.result in
    let before = c.split_at.result.0.now in
    let behind = c.split_at-2.result.1.now in
    let within = c.parts_of-parts.ensures.within in
    let named : Option (List ℕ) = if parts.from == 0 then None else Some (take parts.front before) in
    key_alone line before behind parts c.take_value_front.new.current.reading.key within c.split_at.ensures.front
    (behind_is line c.split_at.result.1.now behind parts within c.split_at.ensures.back c.split_at-2.ensures.back) (none_left behind c.in-empty.len_below)
    (subst (λ k. IsKeyOf k named) (sym c.take_value_front.ensures.key) (c.take_before.ensures.key none))

-- and where more is behind it
key-in_default : (c : goal.After-take_behind) → HasNoKey c.args.current.now.reading.key → IsKeyOf c.take_behind.new.current.reading.key (key_of c.args.line.now c.parts_of-parts.result)
key-in_default c none =
    let line = c.args.line.now in
    let parts = c.parts_of-parts.result in
    let before = c.split_at.result.0.now in
    let behind = c.split_at-2.result.1.now in
    let within = c.parts_of-parts.ensures.within in
    let named : Option (List ℕ) = if parts.from == 0 then None else Some (take parts.front before) in
    key_joined line before behind parts c.take_value_front.new.current.reading.key c.take_behind.new.current.reading.key within c.split_at.ensures.front
    (behind_is line c.split_at.result.1.now behind parts within c.split_at.ensures.back c.split_at-2.ensures.back) c.in_default.len_at_least
    (subst (λ k. IsKeyOf k named) (sym c.take_value_front.ensures.key) (c.take_before.ensures.key none)) (c.take_behind.ensures.key c.in_default.len_at_least)

-- the value
came-in-empty : (c : goal.After-value_stretch) → IsReady c.args.current.now.reading c.args.lines.spelling.form → IsCounted c.args.lines.spelling.form c.args.line.now
    → Came c.take_value_front.new.current.reading (value_in c.args.lines.spelling (part_of c.args.line.now c.parts_of-parts.result))
came-in-empty c =
    let parts = c.parts_of-parts.result in
    let last = c.take_value_front.new.current.reading in
    part_came c.args.lines c.args.line.now c.split_at-2.result.0.now parts c.args.current.now.reading c.take_before.new.current.reading last last
    (c.split_at-2.ensures.front ∙ ap (λ xs. take (parts.to - parts.from) xs) c.split_at.ensures.back) (c.take_before.ensures.ready c.args.lines.spelling.form)
    c.take_value_front.ensures.null c.take_value_front.ensures.text c.take_value_front.ensures.kept c.take_value_front.ensures.key (λ v came. came)

came-in_default : (c : goal.After-take_behind) → IsReady c.args.current.now.reading c.args.lines.spelling.form → IsCounted c.args.lines.spelling.form c.args.line.now
    → Came c.take_behind.new.current.reading (value_in c.args.lines.spelling (part_of c.args.line.now c.parts_of-parts.result))
came-in_default c =
    let parts = c.parts_of-parts.result in
    part_came c.args.lines c.args.line.now c.split_at-2.result.0.now parts c.args.current.now.reading c.take_before.new.current.reading c.take_value_front.new.current.reading
    c.take_behind.new.current.reading (c.split_at-2.ensures.front ∙ ap (λ xs. take (parts.to - parts.from) xs) c.split_at.ensures.back)
    (c.take_before.ensures.ready c.args.lines.spelling.form) c.take_value_front.ensures.null c.take_value_front.ensures.text c.take_value_front.ensures.kept c.take_value_front.ensures.key
    c.take_behind.ensures.came

-- whether no more is read
stopped-in-empty : (c : goal.After-value_stretch) → HasNoKey c.args.current.now.reading.key → HasLostKey c.take_value_front.new.current.reading.key → HasStopped c.take_value_front.new.current.reading
stopped-in-empty c none lost =
    stopped_kept c.take_before.new.current.reading c.take_value_front.new.current.reading c.take_value_front.ensures.kept c.take_value_front.ensures.key
    (c.take_before.ensures.stopped none (subst HasLostKey c.take_value_front.ensures.key lost))

pub returns-in-empty-clause-came : goal.returns-in-empty-clause-came
returns-in-empty-clause-came c =
    field_came c.args.lines c.args.line.now c.parts_of-parts.result c.args.current.now.reading c.take_value_front.new.current.reading c.parts_of-parts.ensures.value (came-in-empty c)
    (key-in-empty c) (stopped-in-empty c)

pub returns-in_default-clause-came : goal.returns-in_default-clause-came
returns-in_default-clause-came c =
    field_came c.args.lines c.args.line.now c.parts_of-parts.result c.args.current.now.reading c.take_behind.new.current.reading c.parts_of-parts.ensures.value (came-in_default c)
    (key-in_default c) (λ none lost. c.take_behind.ensures.stopped c.in_default.len_at_least lost)

pub returns-in-empty-clause-on : goal.returns-in-empty-clause-on
returns-in-empty-clause-on c = λ long ready none.
    let line = c.args.line.now in
    let parts = c.parts_of-parts.result in
    let lines = c.args.lines in
    let last = c.take_value_front.new.current.reading in
    let behind = c.split_at-2.result.1.now in
    let is : behind ≡ drop parts.to line =
    behind_is line c.split_at.result.1.now behind parts c.parts_of-parts.ensures.within c.split_at.ensures.back c.split_at-2.ensures.back in
    subst (λ s. InStretch s lines.spelling lines.field line last) (sym c.value_stretch.ensures)
    (front_in lines.spelling lines.field line parts last c.parts_of-parts.ensures.value (sym is ∙ none_left behind c.in-empty.len_below) (omega (arith, long)) (key-in-empty c none)
    (came-in-empty c ready)
    (stopped-in-empty c none))

pub returns-in_default-clause-on : goal.returns-in_default-clause-on
returns-in_default-clause-on c = λ long ready none.
    let line = c.args.line.now in
    let parts = c.parts_of-parts.result in
    let lines = c.args.lines in
    let behind = c.split_at-2.result.1.now in
    let is : behind ≡ drop parts.to line =
    behind_is line c.split_at.result.1.now behind parts c.parts_of-parts.ensures.within c.split_at.ensures.back c.split_at-2.ensures.back in
    front_behind lines.spelling lines.field line parts c.take_behind.new.current.reading c.parts_of-parts.ensures.value (subst (λ xs. 0 < length xs) is c.in_default.len_at_least)
    (key-in_default c none) (came-in_default c ready) (c.take_behind.ensures.stopped c.in_default.len_at_least)

pub returns-in-empty-clause-held : goal.returns-in-empty-clause-held
returns-in-empty-clause-held c = λ raw had. c.take_value_front.ensures.held raw (c.take_before.ensures.held raw had)

pub returns-in_default-clause-held : goal.returns-in_default-clause-held
returns-in_default-clause-held c = λ raw had. c.take_behind.ensures.held raw (c.take_value_front.ensures.held raw (c.take_before.ensures.held raw had))
