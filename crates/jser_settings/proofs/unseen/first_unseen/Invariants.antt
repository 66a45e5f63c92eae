use Rattle.std.proofs.Common.{◌≡◌, ◌≤◌, length, drop}
use Rattle.std.specs.Str.{chars}
use Rattle.jser_settings.specs.Unseen.{first_unseen, first_unseen_behind}
use Rattle.jser_settings.proofs.unseen.first_unseen.Given as goal

-- what is left decides as all does
abbrev pub invariant-signs : goal.invariant-signs
invariant-signs l =
    (l.number ≤ length l.yielded) × (first_unseen_behind l.number l.before (drop (length l.yielded) (chars l.text)) ≡ first_unseen (chars l.text))
