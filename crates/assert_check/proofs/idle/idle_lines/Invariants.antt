use Rattle.std.proofs.Common.{◌≡◌, ◌++◌, drop}
use Rattle.std.specs.Prelude.{flat_map}
use Rattle.std.specs.Map.{values_of}
use Rattle.assert_check.specs.Idle.{idle_of}
use Rattle.assert_check.proofs.idle.idle_lines.Given as goal

-- what was found so far, and in what is left, is all
abbrev pub invariant-loop-line : goal.invariant-loop-line
invariant-loop-line g l =
    let items = flat_map (λ work. work.items) (values_of l.book.works) in
    l.lines.items ++ idle_of (drop l.line-index l.list) items ≡ idle_of l.list items
