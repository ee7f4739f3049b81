-- Booleans, options and results, by their cases.
use Rattle.std.proofs.Common.{◌≡◌, Bool, true, false, refl, inl, inr, Option, None, Some}
use Rattle.std.specs.Prelude.{◌⊎◌, ◌&&◌, ◌||◌, not, option_map, Result, Ok}

-- BOOLEANS

pub told : (b : Bool) → (b ≡ true) ⊎ (b ≡ false)
told true = inl refl
told false = inr refl

pub clash : (b : Bool) → b ≡ true → b ≡ false → ⊥
clash b holds fails = absurd (cc)

pub both : (a b : Bool) → (a && b) ≡ true → (a ≡ true) × (b ≡ true)
both true b h = (refl, h)
both false b h = absurd (cc)

pub neither : (a b : Bool) → (a || b) ≡ false → (a ≡ false) × (b ≡ false)
neither false b h = (refl, h)
neither true b h = absurd (cc)

pub implied : (a b : Bool) → (not a || b) ≡ true → a ≡ true → b ≡ true
implied true b h holds = h
implied false b h holds = absurd (cc)

pub one_test : (a b : Bool) → (a ≡ true → b ≡ true) → (b ≡ true → a ≡ true) → a ≡ b
one_test true b there back = cc (there refl)
one_test false true there back = back refl
one_test false false there back = refl

-- OPTIONS AND RESULTS

pub same_Some : {X : Type 0} {x y : X} → ◌≡◌ {A = Option X} (Some x) (Some y) → x ≡ y
same_Some e = cc

pub same_Ok : {X E : Type 0} {x y : X} → ◌≡◌ {A = Result X E} (Ok x) (Ok y) → x ≡ y
same_Ok e = cc

pub mapped : {X Y : Type 0} (f : X → Y) (o : Option X) (y : Y) → option_map f o ≡ Some y → (x : X) × (o ≡ Some x) × (f x ≡ y)
mapped f None y h = absurd (cc)
mapped f (Some x) y h = (x, refl, same_Some h)
