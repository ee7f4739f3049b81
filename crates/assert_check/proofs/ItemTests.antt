-- Which of what an item shows breaks an assertion.
use Rattle.std.proofs.Common.{◌≡◌, ℕ, List, [], ◌∷◌, Bool, true, false, refl, ap, sym, ◌∙◌, inl, inr}
use Rattle.std.specs.Prelude.{◌⊎◌, ◌&&◌, ◌||◌, if◌then◌else◌, not, map}
use Rattle.std.specs.List.{list_any}
use Rattle.call_context.specs.declared.shown.Item.{Item}
use Rattle.call_context.specs.declared.shown.Item.TheVariants as sets
use Rattle.call_context.specs.declared.shown.Set.{Set}
use Rattle.chip_numbers.specs.Single.{Single}
use Rattle.chip_numbers.specs.Single.Single.{Access}
use Rattle.chip_numbers.specs.Single.Single.{Stack as StackAt}
use Rattle.chip_numbers.specs.declared.space.Space.{Space}
use Rattle.assert_check.specs.declared.assertion.Assertion.TheVariants.{NoExec, NoRead, NoWrite, Stack}
use Rattle.assert_check.specs.Assertions.{breaks, breaks_item, is_between, is_same, no_access, numbers_in, reaches}
use Rattle.plain_lemmas.specs.AnyOf.{any_behind, any_map, any_never}

or_nothing : (b : Bool) → b ≡ (b || false)
or_nothing true = refl
or_nothing false = refl

-- one test of all numbers of an item
tested : (p : Single → Bool) (f : ℕ → Single) (xs : List ℕ) → list_any (λ v. p (f v)) xs ≡ list_any p (map f xs)
tested p f xs = sym (any_map p f xs)

behind_two : (a b : Bool) (p : ℕ → Bool) (xs : List ℕ) → (a && b && list_any p xs) ≡ list_any (λ v. a && b && p v) xs
behind_two true true p xs = refl
behind_two true false p xs = sym (any_never xs)
behind_two false b p xs = sym (any_never xs)

pub runs : (lo hi pc : ℕ) (bytes : List ℕ) → is_between lo hi pc ≡ breaks_item (NoExec lo hi) (sets.Instr pc bytes)
runs lo hi pc bytes = or_nothing (is_between lo hi pc)

-- an access, by whether it is one that the assertion bars
pub accesses : (writes : Bool) (space its : Space) (lo hi pc size : ℕ) (write : Bool) (set : Set)
    → ((if writes then write else not write) && is_same space its && list_any (reaches lo hi size) (numbers_in set))
    ≡ breaks_item (no_access writes space lo hi) (sets.Access pc its write size set)
accesses true space its lo hi pc size write set =
    behind_two write (is_same space its) (reaches lo hi size) (numbers_in set)
    ∙ tested (λ s. breaks (NoWrite space lo hi) s) (Access pc its write size) (numbers_in set)
accesses false space its lo hi pc size write set =
    behind_two (not write) (is_same space its) (reaches lo hi size) (numbers_in set)
    ∙ tested (λ s. breaks (NoRead space lo hi) s) (Access pc its write size) (numbers_in set)

pub stands : (from to lo hi pc : ℕ) (set : Set)
    → (is_between from to pc && list_any (λ v. not (is_between lo hi v)) (numbers_in set)) ≡ breaks_item (Stack from to lo hi) (sets.Stack pc set)
stands from to lo hi pc set =
    sym (any_behind (is_between from to pc) (λ v. not (is_between lo hi v)) (numbers_in set))
    ∙ tested (λ s. breaks (Stack from to lo hi) s) (StackAt pc) (numbers_in set)

-- items of which an assertion doesn't speak
never : (p : Single → Bool) (f : ℕ → Single) (xs : List ℕ) → ((v : ℕ) → p (f v) ≡ false) → false ≡ list_any p (map f xs)
never p f [] none = refl
never p f (x ∷ xs) none = never p f xs none ∙ sym (ap (λ b. b || list_any p (map f xs)) (none x))

-- an edge alone, an access alone, a stack pointer alone, an instruction alone
abbrev IsEdge : Item → Type 0
IsEdge item = (origin : ℕ) × (target : ℕ) × (item ≡ sets.Edge origin target)

abbrev IsInstr : Item → Type 0
IsInstr item = (pc : ℕ) × (bytes : List ℕ) × (item ≡ sets.Instr pc bytes)

abbrev IsStack : Item → Type 0
IsStack item = (pc : ℕ) × (set : Set) × (item ≡ sets.Stack pc set)

abbrev IsAccess : Item → Type 0
IsAccess item = (pc : ℕ) × (space : Space) × (write : Bool) × (size : ℕ) × (set : Set) × (item ≡ sets.Access pc space write size set)

pub none_runs : (lo hi : ℕ) (item : Item) → IsEdge item ⊎ (IsAccess item ⊎ IsStack item) → false ≡ breaks_item (NoExec lo hi) item
none_runs lo hi item (inl e) = rw e.2 refl
none_runs lo hi item (inr (inl a)) = rw a.5 (never _ (Access a.0 a.1 a.2 a.3) (numbers_in a.4) (λ v. refl))
none_runs lo hi item (inr (inr s)) = rw s.2 (never _ (StackAt s.0) (numbers_in s.1) (λ v. refl))

pub none_accesses : (writes : Bool) (space : Space) (lo hi : ℕ) (item : Item) → IsInstr item ⊎ (IsEdge item ⊎ IsStack item)
    → false ≡ breaks_item (no_access writes space lo hi) item
none_accesses true space lo hi item (inl i) = rw i.2 refl
none_accesses true space lo hi item (inr (inl e)) = rw e.2 refl
none_accesses true space lo hi item (inr (inr s)) = rw s.2 (never _ (StackAt s.0) (numbers_in s.1) (λ v. refl))
none_accesses false space lo hi item (inl i) = rw i.2 refl
none_accesses false space lo hi item (inr (inl e)) = rw e.2 refl
none_accesses false space lo hi item (inr (inr s)) = rw s.2 (never _ (StackAt s.0) (numbers_in s.1) (λ v. refl))

pub none_stands : (from to lo hi : ℕ) (item : Item) → IsInstr item ⊎ (IsEdge item ⊎ IsAccess item)
    → false ≡ breaks_item (Stack from to lo hi) item
none_stands from to lo hi item (inl i) = rw i.2 refl
none_stands from to lo hi item (inr (inl e)) = rw e.2 refl
none_stands from to lo hi item (inr (inr a)) = rw a.5 (never _ (Access a.0 a.1 a.2 a.3) (numbers_in a.4) (λ v. refl))

-- a chain of questions of which the first two are answered
pub asked : (a b l r value : Bool) → a ≡ true → value ≡ b → value ≡ true → r ≡ l → r ≡ (a && b && l)
asked true true l r value first second so e = e
asked true false l r value first second so e = absurd (cc)
asked false b l r value first second so e = absurd (cc)

pub refused : (a b l value : Bool) → a ≡ true → value ≡ b → value ≡ false → value ≡ (a && b && l)
refused true true l value first second so = absurd (cc)
refused true false l value first second so = so
refused false b l value first second so = absurd (cc)

pub unasked : (a b l value : Bool) → a ≡ false → value ≡ false → value ≡ (a && b && l)
unasked true b l value first so = absurd (cc)
unasked false b l value first so = so
