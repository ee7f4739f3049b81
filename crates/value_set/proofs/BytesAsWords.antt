-- Sets of bytes as sets of words.
use Rattle.std.proofs.Common.{◌≡◌, ℕ, ◌+◌, ◌-◌, ◌<◌, ◌≤◌, List, [], ◌∷◌, length, take, get_or, refl, sym, ◌∙◌, ap, subst, inl, inr, arith}
use Rattle.std.specs.List.{Contains}
use Rattle.std.proofs.lemmas.List.{take_all}
use Rattle.std.proofs.lemmas.Grind.{get_or_default_zero}
use Rattle.std.proofs.lemmas.List.Elements.{Contains-get_or}
use Rattle.value_set.specs.declared.form.Form.{Form}
use Rattle.value_set.specs.declared.form.Form.TheVariants.{Values, Run}
use Rattle.value_set.specs.declared.form.Progression.{Progression}
use Rattle.value_set.specs.Form.{Ascends, Has, IsNormal, ascending, gather, members}
use Rattle.value_set.specs.Widths.{IsByteList}
use Rattle.value_set.specs.ListFacts.{IsIn, Contains_from_in}
use Rattle.value_set.proofs.Members.{Ascends-put_all, Ascends-order, ascending_some}
use Rattle.value_set.proofs.Gathers.{Ascends-wider}
use Rattle.value_set.proofs.Answering.{member_below, count_of_run}
use Rattle.value_set.proofs.Formulas.{gathers_normal, gathers_have}
use Rattle.value_set.proofs.Sums.{some_members}
use Rattle.value_set.proofs.MemberTests.{gather_same}

wide_below : (v : ℕ) (set : Form) → IsNormal 256 set → Has 256 set v → v < 65536
wide_below v set normal there = let low = member_below 256 v set normal there in omega (arith, low)

pub bytes_ascend : (set : Form) → IsNormal 256 set → Ascends 0 65536 (ascending (members 256 set))
bytes_ascend set normal = Ascends-put_all 65536 [] (members 256 set) (λ v i. wide_below v set normal (Contains_from_in (members 256 set) v i)) tt

pub bytes_some : (set : Form) → IsNormal 256 set → 1 ≤ length (ascending (members 256 set))
bytes_some set normal = ascending_some (members 256 set) (some_members 256 set normal)

pub all_gathered : (i : ℕ) (values given xs : List ℕ) → values ≡ ascending (take i xs) → given ≡ values → length xs ≤ i
    → given ≡ ascending xs
all_gathered i values given xs is same h = same ∙ is ∙ ap (λ (ys : List ℕ). ascending ys) (take_all i xs h)

pub words_normal : (set : Form) → IsNormal 256 set → IsNormal 65536 (gather 65536 (members 256 set))
words_normal set normal = gathers_normal 65536 (members 256 set) (some_members 256 set normal) (λ v h. wide_below v set normal h)

pub words_hold : (set : Form) (v : ℕ) → IsNormal 256 set → Has 256 set v → Has 65536 (gather 65536 (members 256 set)) v
words_hold set v normal there = gathers_have 65536 v (members 256 set) (λ w h. wide_below w set normal h) there

pub list_wider : (xs : List ℕ) → IsNormal 256 (Values xs) → IsNormal 65536 (Values xs)
list_wider xs normal = (normal.0, normal.1, Ascends-wider 0 256 65536 xs (omega arith) normal.2)

-- a list is the same list
pub words_listed : (set : Form) (xs : List ℕ) → set ≡ Values xs → IsNormal 256 set → set ≡ gather 65536 (members 256 set)
words_listed set xs is normal = rw is (sym (gather_same 65536 xs (list_wider xs (subst (λ (s : Form). IsNormal 256 s) is normal))))

pub run_long : {A : Type 0} (set : Form) (p : Progression) → set ≡ Run p → IsNormal 256 set → length (members 256 set) ≤ 16 → A
run_long {A} set p is normal few =
    let run = subst (λ (s : Form). IsNormal 256 s) is normal in
    absurd (omega (arith, run.long, count_of_run 256 set p is, few))

-- ---- lists of numbers below 256

narrower : (low m n : ℕ) (xs : List ℕ) → ((v : ℕ) → IsIn v xs → v < n) → Ascends low m xs → Ascends low n xs
narrower low m n [] below a = tt
narrower low m n (x ∷ xs) below a = (a.0, below x (inl refl), narrower (x + 1) m n xs (λ v i. below v (inr i)) a.2)

pub bytes_normal : (set : Form) → IsNormal 65536 set → IsByteList set → IsNormal 256 set
bytes_normal (Values xs) normal below = (normal.0, normal.1, narrower 0 65536 256 xs (λ v i. below v (Contains_from_in xs v i)) normal.2)
bytes_normal (Run p) normal below = absurd below

pub last_greatest : (m n last : ℕ) (xs : List ℕ) → Ascends 0 m xs → last ≡ get_or xs (length xs - 1) 0 → last < n
    → (v : ℕ) → Contains xs v → v < n
last_greatest m n last xs a is low v there =
    let order = Ascends-order 0 m there.0 (length xs - 1) xs a (omega (arith, there.1)) (omega (arith, there.1)) in
    omega (arith, order, is, low, get_or_default_zero xs there.0 v there.1, there.2)

pub last_there : (xs : List ℕ) → 1 ≤ length xs → Contains xs (get_or xs (length xs - 1) 0)
last_there xs some = Contains-get_or xs (length xs - 1) 0 (omega arith)

pub bytes_gathered : (set : Form) → IsNormal 65536 set → IsByteList set → set ≡ gather 256 (members 65536 set)
bytes_gathered (Values xs) normal below = sym (gather_same 256 xs (bytes_normal (Values xs) normal below))
bytes_gathered (Run p) normal below = absurd below
