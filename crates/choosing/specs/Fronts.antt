-- An answer needs a front of the choices, and leaves what stands behind it. So many choices are always enough, and choices of
-- 16 bits give each answer that any choices give.
use Rattle.std.specs.Prelude.{◌≡◌, ℕ, ◌+◌, ◌%◌, ◌<◌, ◌≤◌, List, [], ◌∷◌, ◌++◌, length, All, Option, None, Some, is_some, IsSome, Bool, true, false, cond}
use Rattle.std.proofs.Math.Nat.{mod-eq_of_lt}
use Rattle.std.proofs.Common.{refl, sym, ap, subst, ◌∙◌, append_assoc, arith}
use Rattle.std.proofs.lemmas.List.{append-nil, append_cancel_right}
use Rattle.std.proofs.lemmas.List.Elements.{All-nil, All-cons, All-append}
use Rattle.choosing.specs.Asking.{Asking, answer, ask, ask_if, continued, and_then, value_is, rest_is}

-- behind this front it answers the same, whatever follows
abbrev pub Answers : {A : Type 0} → Asking A → List ℕ → A → Type 0
Answers asking front a = (more : List ℕ) → asking (front ++ more) ≡ Some (a, more)

pub record AsksAtMost {A : Type 0} (most : ℕ) (asking : Asking A) : Type 0 where
  -- where it answers, the choices are a front and the rest
  pub front : (choices rest : List ℕ) (a : A) → asking choices ≡ Some (a, rest)
      → (front : List ℕ) × (choices ≡ front ++ rest) × Answers asking front a
  -- a front of 16-bit choices gives the same answer
  pub small : (choices rest : List ℕ) (a : A) → asking choices ≡ Some (a, rest)
      → (front : List ℕ) × All (λ choice. choice < 65536) front × Answers asking front a
  -- it answers where there are so many choices, and takes no more
  pub enough : (choices : List ℕ) → most ≤ length choices
      → (a : A) × (rest : List ℕ) × (asking choices ≡ Some (a, rest)) × (length choices ≤ most + length rest)

pub answer_asks : {A : Type 0} (a : A) → AsksAtMost 0 (answer a)
answer_asks a = record {
  front = λ choices rest b e. ([], rest_is a b choices rest e, λ more. ap (λ c. answer c more) (value_is a b choices rest e));
  small = λ choices rest b e. ([], All-nil (λ choice. choice < 65536), λ more. ap (λ c. answer c more) (value_is a b choices rest e));
  enough = λ choices h. (a, choices, refl, omega arith);
}

pub more_asks : {A : Type 0} (most more : ℕ) (asking : Asking A) → most ≤ more → AsksAtMost most asking → AsksAtMost more asking
more_asks most more asking h p = record {
  front = p.front;
  small = p.small;
  enough = λ choices enough. let (a, rest, is, taken) = p.enough choices (omega (arith, h, enough)) in (a, rest, is, omega (arith, h, taken));
}

-- ---- one question

ask_front : (options : ℕ) (choices rest : List ℕ) (a : ℕ) → ask options choices ≡ Some (a, rest)
    → (front : List ℕ) × (choices ≡ front ++ rest) × Answers (ask options) front a
unfolding ask
ask_front options [] rest a e = absurd cc
ask_front options (choice ∷ choices) rest a e =
    (choice ∷ [], ap (λ (l : List ℕ). choice ∷ l) (rest_is (choice % options) a choices rest e), λ more. ap (λ c. answer c more) (value_is (choice % options) a choices rest e))

ask_small : (options : ℕ) (choices rest : List ℕ) (a : ℕ) → 0 < options → options ≤ 65536 → ask options choices ≡ Some (a, rest)
    → (front : List ℕ) × All (λ choice. choice < 65536) front × Answers (ask options) front a
unfolding ask
ask_small options [] rest a some few e = absurd cc
ask_small options (choice ∷ choices) rest a some few e =
    let is = value_is (choice % options) a choices rest e in
    let below : a < options = omega (arith, is, some) in
    (a ∷ [], All-cons (λ choice. choice < 65536) a [] (omega (arith, below, few)) (All-nil (λ choice. choice < 65536)), λ more. ap (λ c. answer c more) (mod-eq_of_lt below))

ask_enough : (options : ℕ) (choices : List ℕ) → 1 ≤ length choices
    → (a : ℕ) × (rest : List ℕ) × (ask options choices ≡ Some (a, rest)) × (length choices ≤ 1 + length rest)
unfolding ask
ask_enough options [] h = absurd (omega (arith, h))
ask_enough options (choice ∷ choices) h = (choice % options, choices, refl, omega arith)

pub ask_asks : (options : ℕ) → 0 < options → options ≤ 65536 → AsksAtMost 1 (ask options)
ask_asks options some few = record {
  front = ask_front options;
  small = λ choices rest a e. ask_small options choices rest a some few e;
  enough = ask_enough options;
}

-- ---- by a test

if_front : {A : Type 0} (b : Bool) (f g : Asking A) (most : ℕ) → AsksAtMost most f → AsksAtMost most g → (choices rest : List ℕ) (a : A)
    → cond b (f choices) (g choices) ≡ Some (a, rest)
    → (front : List ℕ) × (choices ≡ front ++ rest) × ((more : List ℕ) → cond b (f (front ++ more)) (g (front ++ more)) ≡ Some (a, more))
if_front true f g most p q = p.front
if_front false f g most p q = q.front

if_small : {A : Type 0} (b : Bool) (f g : Asking A) (most : ℕ) → AsksAtMost most f → AsksAtMost most g → (choices rest : List ℕ) (a : A)
    → cond b (f choices) (g choices) ≡ Some (a, rest)
    → (front : List ℕ) × All (λ choice. choice < 65536) front
    × ((more : List ℕ) → cond b (f (front ++ more)) (g (front ++ more)) ≡ Some (a, more))
if_small true f g most p q = p.small
if_small false f g most p q = q.small

if_enough : {A : Type 0} (b : Bool) (f g : Asking A) (most : ℕ) → AsksAtMost most f → AsksAtMost most g
    → (choices : List ℕ) → most ≤ length choices
    → (a : A) × (rest : List ℕ) × (cond b (f choices) (g choices) ≡ Some (a, rest)) × (length choices ≤ most + length rest)
if_enough true f g most p q = p.enough
if_enough false f g most p q = q.enough

pub if_asks : {A : Type 0} (most : ℕ) (b : Bool) (f g : Asking A) → AsksAtMost most f → AsksAtMost most g
    → AsksAtMost most (λ choices. cond b (f choices) (g choices))
if_asks most b f g p q = record { front = if_front b f g most p q; small = if_small b f g most p q; enough = if_enough b f g most p q }

pub choose_asks : {A : Type 0} (most : ℕ) (b : Bool) (f g : Asking A) → AsksAtMost most f → AsksAtMost most g → AsksAtMost most (cond b f g)
choose_asks most true f g p q = p
choose_asks most false f g p q = q

pub ask_if_asks : (asked : Bool) (options : ℕ) → 0 < options → options ≤ 65536 → AsksAtMost 1 (ask_if asked options)
ask_if_asks asked options some few =
    if_asks 1 asked (ask options) (answer 0) (ask_asks options some few) (more_asks 0 1 (answer 0) (omega arith) (answer_asks 0))

-- ---- one after the other

then_front : {A B : Type 0} (most more : ℕ) (first : Asking A) (next : A → Asking B) → AsksAtMost most first
    → ((a : A) → AsksAtMost more (next a))
    → (choices rest : List ℕ) (b : B) (found : Option (A × List ℕ)) → first choices ≡ found → continued next found ≡ Some (b, rest)
    → (front : List ℕ) × (choices ≡ front ++ rest) × Answers (and_then first next) front b
then_front most more first next p q choices rest b None e made = absurd cc
then_front most more first next p q choices rest b (Some (a, mid)) e made =
    let (one, is, ones) = p.front choices mid a e in
    let (two, are, twos) = (q a).front mid rest b made in (
      one ++ two,
      is ∙ ap (λ (l : List ℕ). one ++ l) are ∙ sym (append_assoc one two rest),
      λ more. ap (λ (l : List ℕ). continued next (first l)) (append_assoc one two more)
          ∙ ap (continued next) (ones (two ++ more)) ∙ twos more,
    )

then_small : {A B : Type 0} (most more : ℕ) (first : Asking A) (next : A → Asking B) → AsksAtMost most first
    → ((a : A) → AsksAtMost more (next a))
    → (choices rest : List ℕ) (b : B) (found : Option (A × List ℕ)) → first choices ≡ found → continued next found ≡ Some (b, rest)
    → (front : List ℕ) × All (λ choice. choice < 65536) front × Answers (and_then first next) front b
then_small most more first next p q choices rest b None e made = absurd cc
then_small most more first next p q choices rest b (Some (a, mid)) e made =
    let (one, few, ones) = p.small choices mid a e in
    let (two, less, twos) = (q a).small mid rest b made in (
      one ++ two,
      All-append (λ choice. choice < 65536) one two few less,
      λ more. ap (λ (l : List ℕ). continued next (first l)) (append_assoc one two more)
          ∙ ap (continued next) (ones (two ++ more)) ∙ twos more,
    )

then_enough : {A B : Type 0} (most more : ℕ) (first : Asking A) (next : A → Asking B) → AsksAtMost most first
    → ((a : A) → AsksAtMost more (next a))
    → (choices : List ℕ) → most + more ≤ length choices
    → (b : B) × (rest : List ℕ) × (and_then first next choices ≡ Some (b, rest)) × (length choices ≤ most + more + length rest)
then_enough most more first next p q choices h =
    let (a, mid, is, taken) = p.enough choices (omega (arith, h)) in
    let (b, rest, are, used) = (q a).enough mid (omega (arith, h, taken)) in
    (b, rest, ap (continued next) is ∙ are, omega (arith, taken, used))

pub then_asks : {A B : Type 0} (most more : ℕ) (first : Asking A) (next : A → Asking B) → AsksAtMost most first
    → ((a : A) → AsksAtMost more (next a))
    → AsksAtMost (most + more) (and_then first next)
then_asks most more first next p q = record {
  front = λ choices rest b e. then_front most more first next p q choices rest b (first choices) refl e;
  small = λ choices rest b e. then_small most more first next p q choices rest b (first choices) refl e;
  enough = then_enough most more first next p q;
}

-- ---- what follows for the whole

pub whole_front : {A : Type 0} (most : ℕ) (asking : Asking A) → AsksAtMost most asking → (choices rest : List ℕ) (a : A)
    → asking choices ≡ Some (a, rest)
    → (front : List ℕ) × (choices ≡ front ++ rest) × (asking front ≡ Some (a, []))
whole_front most asking p choices rest a e =
    let (front, is, goes) = p.front choices rest a e in (front, is, ap asking (sym (append-nil front)) ∙ goes [])

pub onward : {A : Type 0} (most : ℕ) (asking : Asking A) → AsksAtMost most asking → (front rest : List ℕ) (a : A)
    → asking front ≡ Some (a, [])
    → asking (front ++ rest) ≡ Some (a, rest)
onward most asking p front rest a e =
    let (one, is, goes) = p.front front [] a e in ap (λ (f : List ℕ). asking (f ++ rest)) (is ∙ append-nil one) ∙ goes rest

pub one_front_of : {A : Type 0} (most : ℕ) (asking : Asking A) → AsksAtMost most asking → (front other rest more : List ℕ) (a b : A)
    → front ++ rest ≡ other ++ more → asking front ≡ Some (a, []) → asking other ≡ Some (b, []) → (front ≡ other) × (a ≡ b)
one_front_of most asking p front other rest more a b same e f =
    let x = onward most asking p front rest a e in
    let y = onward most asking p other more b f in
    let both = sym x ∙ ap asking same ∙ y in
    let rests : rest ≡ more = rest_is a b rest more both in
    (append_cancel_right front other rest (subst (λ (l : List ℕ). front ++ rest ≡ other ++ l) (sym rests) same), value_is a b rest more both)

-- the same answer by 16-bit choices, all of which it uses
pub small_front : {A : Type 0} (most : ℕ) (asking : Asking A) → AsksAtMost most asking → (choices rest : List ℕ) (a : A)
    → asking choices ≡ Some (a, rest)
    → (front : List ℕ) × All (λ choice. choice < 65536) front × (asking front ≡ Some (a, []))
small_front most asking p choices rest a e =
    let (front, few, goes) = p.small choices rest a e in (front, few, ap asking (sym (append-nil front)) ∙ goes [])

pub enough_choices : {A : Type 0} (most : ℕ) (asking : Asking A) → AsksAtMost most asking → (choices : List ℕ)
    → most ≤ length choices → IsSome (asking choices)
enough_choices most asking p choices h = let (a, rest, is, taken) = p.enough choices h in ap is_some is
