use Rattle.std.proofs.Common.{◌≡◌, ◌++◌, map, drop, string_bytes}
use Rattle.jser_line.proofs.args.owned.Given as goal

-- those so far and those that are left are all
abbrev pub invariant-values : goal.invariant-values
invariant-values l = map string_bytes l.texts.items ++ map (λ value. value.now) (drop l.value-index l.values) ≡ map (λ value. value.now) l.values
