-- A list with its first few elements behind the others.
use Rattle.std.proofs.Common.{◌≡◌, ℕ, ◌+◌, ◌-◌, ◌<◌, ◌≤◌, ◌++◌, List, length, take, drop, get_or, refl, sym, ap, ◌∙◌, subst, inl, inr, arith, Contains}
use Rattle.std.proofs.lemmas.List.{append-nil, drop_all, get_or-append_right, get_or-drop, get_or-take, get_or_append_left, length-append, length-drop, length-take, take-append-drop, take_all}
use Rattle.std.proofs.lemmas.List.Elements.{Contains-append_cases, Contains-append_left, Contains-append_right}
use Rattle.value_set.specs.declared.form.Form.{Form}
use Rattle.value_set.specs.declared.form.Form.TheVariants.{Values, Run}
use Rattle.value_set.specs.Form.{members}
use Rattle.unit_ways.specs.Targets.{targets_of, turn_of, turned}

pub length_turned : {X : Type 0} (few : ℕ) (xs : List X) → length (turned few xs) ≡ length xs
length_turned few xs = length-append (drop few xs) (take few xs) ∙ omega (arith, length-drop few xs, length-take few xs)

-- the part behind stands first
pub turned_behind : (few i d : ℕ) (xs : List ℕ) → i < length xs - few → get_or (turned few xs) i d ≡ get_or xs (few + i) d
turned_behind few i d xs short =
    get_or_append_left (drop few xs) (take few xs) d i (omega (arith, length-drop few xs, short)) ∙ get_or-drop few xs i d

pub turned_front : (few i d : ℕ) (xs : List ℕ) → length xs - few ≤ i → i < length xs
    → get_or (turned few xs) i d ≡ get_or xs (i - (length xs - few)) d
turned_front few i d xs far short =
    get_or-append_right (drop few xs) (take few xs) (length xs - few) i d (length-drop few xs) far
    ∙ get_or-take few xs (i - (length xs - few)) d (omega (arith, far, short))

-- it has the same elements
pub turned_has : {X : Type 0} (few : ℕ) (xs : List X) (x : X) → Contains xs x → Contains (turned few xs) x
turned_has few xs x h = elim (Contains-append_cases (take few xs) (drop few xs) x (subst (λ all. Contains all x) (sym (take-append-drop few xs)) h)) [
  | inl front ↦ Contains-append_right (drop few xs) (take few xs) x front
  | inr behind ↦ Contains-append_left (drop few xs) (take few xs) x behind
]

pub turned_from : {X : Type 0} (few : ℕ) (xs : List X) (x : X) → Contains (turned few xs) x → Contains xs x
turned_from few xs x h =
    let both : Contains (take few xs ++ drop few xs) x = elim (Contains-append_cases (drop few xs) (take few xs) x h) [
      | inl behind ↦ Contains-append_right (take few xs) (drop few xs) x behind
      | inr front ↦ Contains-append_left (take few xs) (drop few xs) x front
    ] in
    subst (λ all. Contains all x) (take-append-drop few xs) both

-- where there are no more it stays as it is
pub turned_whole : {X : Type 0} (few : ℕ) (xs : List X) → length xs ≤ few → turned few xs ≡ xs
turned_whole few xs all = ap (λ front. front ++ take few xs) (drop_all few xs all) ∙ take_all few xs all

-- TARGETS

pub targets_turned : (set : Form) → targets_of set ≡ turned (turn_of set) (members 65536 set)
targets_turned (Values xs) = sym (append-nil xs)
targets_turned (Run p) = refl

pub length_targets : (set : Form) → length (targets_of set) ≡ length (members 65536 set)
length_targets set = ap (λ (xs : List ℕ). length xs) (targets_turned set) ∙ length_turned (turn_of set) (members 65536 set)

pub target_behind : (i d : ℕ) (set : Form) → i < length (members 65536 set) - turn_of set
    → get_or (targets_of set) i d ≡ get_or (members 65536 set) (turn_of set + i) d
target_behind i d set short = ap (λ (xs : List ℕ). get_or xs i d) (targets_turned set) ∙ turned_behind (turn_of set) i d (members 65536 set) short

pub target_front : (i d : ℕ) (set : Form) → length (members 65536 set) - turn_of set ≤ i → i < length (members 65536 set)
    → get_or (targets_of set) i d ≡ get_or (members 65536 set) (i - (length (members 65536 set) - turn_of set)) d
target_front i d set far short = ap (λ (xs : List ℕ). get_or xs i d) (targets_turned set) ∙ turned_front (turn_of set) i d (members 65536 set) far short

pub target_has : (set : Form) (v : ℕ) → Contains (members 65536 set) v → Contains (targets_of set) v
target_has set v h = subst (λ all. Contains all v) (sym (targets_turned set)) (turned_has (turn_of set) (members 65536 set) v h)

pub target_from : (set : Form) (v : ℕ) → Contains (targets_of set) v → Contains (members 65536 set) v
target_from set v h = turned_from (turn_of set) (members 65536 set) v (subst (λ all. Contains all v) (targets_turned set) h)
