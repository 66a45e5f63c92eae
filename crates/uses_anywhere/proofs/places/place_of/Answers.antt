use Rattle.std.proofs.Common.{◌≡◌, true, false, rules}
use Rattle.std.specs.Str.{bytes_eq}
use Rattle.jser_anywhere.specs.NamesIn.{class_in, names_in}
use Rattle.uses_anywhere.proofs.PlaceLemmas.{passed, met, unmet}
use Rattle.uses_anywhere.proofs.places.place_of.Goals as goal

pub returns-then-eq-clause-some : goal.returns-then-eq-clause-some
returns-then-eq-clause-some c =
    let same : bytes_eq (class_in c.next.new.self.last) c.args.name.now ≡ true = search rules in
    met c.args.bytes.now c.args.name.now c.names.names c.next.new.self c.in-Some.stand c.names_are_all.ensures.stand c.in-Some.ensures.tells same c.names.invariant

pub names-preserved : goal.names-preserved
names-preserved c =
    let other : bytes_eq (class_in c.next.new.self.last) c.args.name.now ≡ false = search rules in
    passed (names_in 0 c.args.bytes.now) c.args.name.now c.names.names c.next.new.self c.in-Some.stand c.in-Some.ensures.tells other c.names.invariant

pub returns-clause-none : goal.returns-clause-none
returns-clause-none c = λ is from to stands.
    unmet c.args.bytes.now c.args.name.now c.names.names c.next.new.self c.names_are_all.ensures.all c.in_default.ensures.tells c.names.invariant from to stands
