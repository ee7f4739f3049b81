-- Lists of bytes.
use Rattle.std.proofs.Common.{ℕ, ◌<◌, All, List, [], ◌∷◌}
use Rattle.std.proofs.lemmas.List.Elements.{All-nil, All-cons}

pub none : All (λ byte. byte < 256) []
none = All-nil (λ byte. byte < 256)

pub one : (a : ℕ) → a < 256 → All (λ byte. byte < 256) (a ∷ [])
one a h = All-cons (λ byte. byte < 256) a [] h none

pub two : (a b : ℕ) → a < 256 → b < 256 → All (λ byte. byte < 256) (a ∷ b ∷ [])
two a b h hb = All-cons (λ byte. byte < 256) a (b ∷ []) h (one b hb)
