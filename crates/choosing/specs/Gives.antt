-- What each answer of a question is.
use Rattle.std.proofs.Common.{◌≡◌, ℕ, ◌%◌, ◌<◌, List, [], ◌∷◌, Option, None, Some, Bool, true, false, cond, refl, subst, arith}
use Rattle.choosing.specs.Asking.{Asking, answer, ask, ask_if, continued, and_then, IsOption, value_is}

-- each answer is one of these
pub record Gives {A : Type 0} (P : A → Type 0) (asking : Asking A) : Type 0 where
  pub each : (choices rest : List ℕ) (a : A) → asking choices ≡ Some (a, rest) → P a

pub answer_gives : {A : Type 0} (P : A → Type 0) (a : A) → P a → Gives P (answer a)
answer_gives P a h = record { each = λ choices rest b e. subst P (value_is a b choices rest e) h }

ask_each : (options : ℕ) (choices rest : List ℕ) (a : ℕ) → 0 < options → ask options choices ≡ Some (a, rest) → a < options
unfolding ask
ask_each options [] rest a some e = absurd cc
ask_each options (choice ∷ choices) rest a some e = let is = value_is (choice % options) a choices rest e in omega arith

pub ask_gives : (options : ℕ) → 0 < options → Gives (λ (option : ℕ). option < options) (ask options)
ask_gives options some = record { each = λ choices rest a e. ask_each options choices rest a some e }

if_each : {A : Type 0} (P : A → Type 0) (b : Bool) (f g : Asking A) → (b ≡ true → Gives P f) → (b ≡ false → Gives P g)
    → (choices rest : List ℕ) (a : A)
    → cond b (f choices) (g choices) ≡ Some (a, rest) → P a
if_each P true f g p q = (p refl).each
if_each P false f g p q = (q refl).each

-- by a test
pub if_gives : {A : Type 0} (P : A → Type 0) (b : Bool) (f g : Asking A) → (b ≡ true → Gives P f)
    → (b ≡ false → Gives P g) → Gives P (λ choices. cond b (f choices) (g choices))
if_gives P b f g p q = record { each = if_each P b f g p q }

-- the same where the test doesn't matter
pub either_gives : {A : Type 0} (P : A → Type 0) (b : Bool) (f g : Asking A) → Gives P f → Gives P g
    → Gives P (λ choices. cond b (f choices) (g choices))
either_gives P b f g p q = if_gives P b f g (λ _. p) (λ _. q)

pub choose_gives : {A : Type 0} (P : A → Type 0) (b : Bool) (f g : Asking A) → Gives P f → Gives P g → Gives P (cond b f g)
choose_gives P true f g p q = p
choose_gives P false f g p q = q

pub ask_if_gives : (asked : Bool) (options : ℕ) → 0 < options → Gives (λ (option : ℕ). option < options) (ask_if asked options)
ask_if_gives asked options some =
    if_gives (λ (option : ℕ). option < options) asked (ask options) (answer 0) (λ _. ask_gives options some) (λ _. answer_gives (λ (option : ℕ). option < options) 0 some)

then_each : {A B : Type 0} (P : A → Type 0) (Q : B → Type 0) (first : Asking A) (next : A → Asking B) → Gives P first
    → ((a : A) → P a → Gives Q (next a))
    → (choices rest : List ℕ) (b : B) (found : Option (A × List ℕ)) → first choices ≡ found → continued next found ≡ Some (b, rest) → Q b
then_each P Q first next p q choices rest b None e made = absurd cc
then_each P Q first next p q choices rest b (Some (a, mid)) e made = (q a (p.each choices mid a e)).each mid rest b made

pub then_gives : {A B : Type 0} (P : A → Type 0) (Q : B → Type 0) (first : Asking A) (next : A → Asking B) → Gives P first
    → ((a : A) → P a → Gives Q (next a)) → Gives Q (and_then first next)
then_gives P Q first next p q = record { each = λ choices rest b e. then_each P Q first next p q choices rest b (first choices) refl e }

pub weaken : {A : Type 0} (P Q : A → Type 0) (asking : Asking A) → ((a : A) → P a → Q a) → Gives P asking → Gives Q asking
weaken P Q asking more p = record { each = λ choices rest a e. more a (p.each choices rest a e) }

-- two properties
pub both_gives : {A : Type 0} (P Q : A → Type 0) (asking : Asking A) → Gives P asking → Gives Q asking → Gives (λ a. P a × Q a) asking
both_gives P Q asking p q = record { each = λ choices rest a e. (p.each choices rest a e, q.each choices rest a e) }

pub option_gives : (asked : Bool) (options : ℕ) → 0 < options → Gives (IsOption asked options) (ask_if asked options)
option_gives asked options some = if_gives (IsOption asked options) asked (ask options) (answer 0)
    (λ is. weaken (λ (option : ℕ). option < options) (IsOption asked options) (ask options) (λ option h. record { below = h; none = λ none. absurd cc }) (ask_gives options some))
    (λ is. answer_gives (IsOption asked options) 0 (record { below = some; none = λ none. refl }))
