-- The number of a line.
use Rattle.std.proofs.Common.{◌≡◌, ℕ, zero, suc, ◌+◌, ◌*◌, ◌^◌, ◌<◌, ◌≤◌, arith, true, List, length}
use Rattle.std.proofs.lemmas.Bool.Decides.{nat_tests}
use Rattle.script_text.specs.Script.{is_number}

pub digit_room : (i n d : ℕ) → i < 4 → n < 16 ^ i → d < 16 → (n * 16 + d < 16 ^ suc i) × (n * 16 + d < 65536)
digit_room zero n d h room digit = (omega arith, omega arith)
digit_room (suc zero) n d h room digit = (omega arith, omega arith)
digit_room (suc (suc zero)) n d h room digit = (omega arith, omega arith)
digit_room (suc (suc (suc zero))) n d h room digit = (omega arith, omega arith)
digit_room (suc (suc (suc (suc i)))) n d h room digit = absurd (omega arith)

pub number_short : (line : List ℕ) → is_number line ≡ true → length line ≤ 4
number_short line h = grind (arith, nat_tests)
