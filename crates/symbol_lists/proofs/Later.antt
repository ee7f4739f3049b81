-- The later one of several.
use Rattle.std.specs.Prelude.{◌≡◌, ℕ, Option, None, Some, max}
use Rattle.std.proofs.Common.{refl, ap, arith}
use Rattle.symbol_lists.specs.Finding.{later}

pub later-none : (a : Option ℕ) → later a None ≡ a
later-none None = refl
later-none (Some a) = refl

pub later-assoc : (a b c : Option ℕ) → later (later a b) c ≡ later a (later b c)
later-assoc None b c = refl
later-assoc (Some a) None c = refl
later-assoc (Some a) (Some b) None = refl
later-assoc (Some a) (Some b) (Some c) = ap Some (omega arith)
