use Rattle.std.proofs.Common.{◌≡◌, take}
use Rattle.promises.proofs.promise.Windows.from_slice.Given as goal

abbrev pub invariant-loop-window : goal.invariant-loop-window
invariant-loop-window l = l.all.items ≡ take l.window-index l.windows
