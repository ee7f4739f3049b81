-- What is left of a list behind a front.
use Rattle.std.proofs.Common.{◌≡◌, ℕ, ◌+◌, ◌-◌, ◌≤◌, List, ◌++◌, length, drop, ap, sym, ◌∙◌, arith}
use Rattle.std.proofs.lemmas.Grind.{common_steps}
use Rattle.std.proofs.lemmas.List.{drop-drop}
use Rattle.std.proofs.Math.Seq.{drop-append_seam}

pub left_behind : (list front rest : List ℕ) (next count size : ℕ) → size ≡ length list → next ≤ length list
    → drop next list ≡ front ++ rest → length rest ≡ count
    → drop (size - count) list ≡ rest
left_behind list front rest next count size whole within is counted =
    let lengths : length list - next ≡ length front + length rest = grind (arith, common_steps, ap length is) in
    let places : size - count ≡ next + length front = omega (arith, whole, lengths, within, counted) in
    ap (λ n. drop n list) places ∙ sym (drop-drop (length front) next list) ∙ ap (drop (length front)) is ∙ drop-append_seam front rest
