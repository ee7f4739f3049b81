use Rattle.std.proofs.Common.{◌≡◌, ℕ, ◌+◌, ◌<◌, ◌++◌, List, ap, ◌∙◌, arith, drop, get_or, length, map, set, take}
use Rattle.std.proofs.lemmas.List.{get_or_default}
use Rattle.std.proofs.lemmas.List.Edits.{map_over_more}
use Rattle.cert_check.proofs.exits.move_on.Goals as goal

-- one more is written
one_more : {X : Type 0} (f : X → X) (xs ys : List X) (i : ℕ) (d next : X) → i < length xs → length ys ≡ length xs
    → ys ≡ map f (take i xs) ++ drop i xs
    → next ≡ f (get_or ys i d) → set ys i next ≡ map f (take (i + 1) xs) ++ drop (i + 1) xs
one_more f xs ys i d next h same so_far is =
    ap (set ys i) is ∙ map_over_more f xs ys i (get_or ys i d) h so_far (get_or_default ys i d (get_or ys i d) (omega (arith, same, h)))

pub loop-cursor-preserved : goal.loop-cursor-preserved
loop-cursor-preserved c =
    one_more _ c.args.cursors.now c.loop-cursor.cursors c.loop-cursor.cursor-index _ c.move_on.new.self (omega (arith, c.loop-cursor-test.true))
    (omega (arith, c.loop-cursor.auto.cursors)) c.loop-cursor.invariant c.move_on.ensures
