-- What a chip leaves free is asked from a list of choices, one question after the other. A choice is a number, and a
-- question with so many options takes it modulo their number.
use Rattle.std.specs.Prelude.{◌≡◌, ℕ, ◌%◌, ◌<◌, if◌then◌else◌, Bool, false, Option, option_map, None, Some, List, [], ◌∷◌}
use Rattle.std.proofs.Common.{ap}

-- an answer from a list of choices, with the choices that are left; there is none where they end before a question
abbrev pub Asking : Type 0 → Type 0
Asking A = List ℕ → Option (A × List ℕ)

-- nothing is asked
abbrev pub answer : {A : Type 0} → A → Asking A
answer a choices = Some (a, choices)

-- one question: the number of the option
unfoldable pub ask : ℕ → Asking ℕ
ask options [] = None
ask options (choice ∷ choices) = Some (choice % options, choices)

-- a question that is asked in some cases; else option 0 is the only one
abbrev pub ask_if : Bool → ℕ → Asking ℕ
ask_if asked options choices = if asked then ask options choices else Some (0, choices)

abbrev pub continued : {A B : Type 0} → (A → Asking B) → Option (A × List ℕ) → Option (B × List ℕ)
continued next None = None
continued next (Some (a, choices)) = next a choices

-- first the one, and then what its answer leads to
abbrev pub and_then : {A B : Type 0} → Asking A → (A → Asking B) → Asking B
and_then first next choices = continued next (first choices)

-- the same, for steps on lines of their own
infixl 10 ◌>>=◌
abbrev pub ◌>>=◌ : {A B : Type 0} → Asking A → (A → Asking B) → Asking B
first >>= next = and_then first next

-- the answer where nothing is asked
abbrev pub surely : {A : Type 0} → Asking A → Option A
surely asking = option_map (λ p. p.0) (asking [])

-- an option of a question that is asked in some cases
pub record IsOption (asked : Bool) (options option : ℕ) : Type 0 where
  pub below : option < options
  pub none : asked ≡ false → option ≡ 0

-- ---- one answer

pub pair_is : {A : Type 0} (p q : A × List ℕ) → Some p ≡ Some q → p ≡ q
pair_is p q e = cc

pub value_is : {A : Type 0} (a b : A) (x y : List ℕ) → ◌≡◌ {A = Option (A × List ℕ)} (Some (a, x)) (Some (b, y)) → a ≡ b
value_is {A} a b x y e = ap (λ (p : A × List ℕ). p.0) (pair_is (a, x) (b, y) e)

pub rest_is : {A : Type 0} (a b : A) (x y : List ℕ) → ◌≡◌ {A = Option (A × List ℕ)} (Some (a, x)) (Some (b, y)) → x ≡ y
rest_is {A} a b x y e = ap (λ (p : A × List ℕ). p.1) (pair_is (a, x) (b, y) e)
