-- A stream that tells no bytes tells none behind a call either.
use Rattle.std.proofs.Common.{◌≡◌, ℕ, List, Option, None, Result, Ok, Err, IfOk, OnErr, refl}

-- what isn't told
abbrev pub untold : Option (List ℕ)
untold = None

pub untold_ok : {E : Type 0} (r : Result ℕ E) → IfOk r (λ _. untold ≡ untold)
untold_ok (Ok n) = refl
untold_ok (Err e) = tt

pub untold_err : {E : Type 0} (r : Result ℕ E) → OnErr r (untold ≡ untold)
untold_err (Ok n) = tt
untold_err (Err e) = refl
