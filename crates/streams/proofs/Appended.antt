-- What is held after several pieces.
use Rattle.std.proofs.Common.{◌≡◌, ℕ, ◌+◌, List, length, take, drop, Option, ◌-◌, arith}
use Rattle.std.proofs.lemmas.Grind.{common_steps}
use Rattle.std.proofs.Math.Seq.{take-add}
use Rattle.streams.specs.Pieces.{appended-append}
use Rattle.streams.specs.Stream.{appended}

-- a piece behind a front of the bytes is a longer front
pub appended-take-drop : (held : Option (List ℕ)) (bytes : List ℕ) (d n : ℕ)
    → appended (appended held (take d bytes)) (take n (drop d bytes)) ≡ appended held (take (d + n) bytes)
appended-take-drop held bytes d n =
    rw (take-add d n bytes) (appended-append held (take d bytes) (take n (drop d bytes)))

-- a slice to the end is what is left behind its start
pub rest_of : (bytes : List ℕ) (d : ℕ) → take (length bytes - d) (drop d bytes) ≡ drop d bytes
rest_of bytes d = grind (arith, common_steps)
