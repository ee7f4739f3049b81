-- The tests of instruction bytes, sets and items hold exactly where the two are one.
use Rattle.std.specs.Prelude.{◌≡◌, ℕ, ◌-◌, ◌&&◌, false, List, [], ◌∷◌, ◌++◌, length, replicate}
use Rattle.std.specs.Bool.{Decides}
use Rattle.std.specs.Cmp.{booleans_Decides}
use Rattle.std.specs.Cmp.Lexicographic.{pointwise}
use Rattle.std.proofs.Common.{refl, ap, arith}
use Rattle.std.proofs.Math.Dec.{eqb}
use Rattle.std.proofs.lemmas.Bool.Decides.{Decides-eqb, Decides-and, Decides-like}
use Rattle.std.proofs.lemmas.Slice.Eq.{slice_eq-Decides}
use Rattle.call_context.specs.declared.shown.Item.{Item}
use Rattle.call_context.specs.declared.shown.Item.TheVariants.{Instr, Edge, Access, Stack}
use Rattle.call_context.specs.declared.shown.Set.{Set}
use Rattle.call_context.specs.declared.shown.Set.TheVariants.{B, W}
use Rattle.chip_numbers.specs.declared.space.Space.{Space}
use Rattle.chip_numbers.specs.contracts.space.Space.{the_type}
use denote.Enum.Bare.{same_true, true_same}
use Rattle.call_context.specs.contracts.shown.ItemPartialEq.TheImpl as item_impl
use Rattle.call_context.specs.contracts.shown.SetPartialEq.TheImpl as set_impl
use Rattle.chip_numbers.specs.contracts.space.SpacePartialEq.TheImpl as space_impl
use Rattle.value_set.specs.declared.form.Form.{Form}
use Rattle.value_set.specs.declared.form.Form.TheVariants.{Values, Run}
use Rattle.value_set.specs.declared.form.Progression.{Progression}
use Rattle.value_set.specs.contracts.form.FormPartialEq.TheImpl as form_impl

pub apart : {P : Type 0} → (P → ⊥) → Decides false P
apart never = (λ e. cc e, λ p. absurd (never p))

pub bytes_same : (a b : List ℕ) → Decides (pointwise eqb a b) (a ≡ b)
bytes_same a b = slice_eq-Decides Decides-eqb a b (pointwise eqb a b) refl

-- a list with zeros behind it, up to a length, and its own length
abbrev padded : ℕ → List ℕ → List ℕ
padded room xs = xs ++ replicate (room - length xs) 0

front_same : (xs ys more rest : List ℕ) → length xs ≡ length ys → xs ++ more ≡ ys ++ rest → xs ≡ ys
front_same [] [] more rest size e = refl
front_same [] (y ∷ ys) more rest size e = absurd (omega arith)
front_same (x ∷ xs) [] more rest size e = absurd (omega arith)
front_same (x ∷ xs) (y ∷ ys) more rest size e =
    let tail : xs ++ more ≡ ys ++ rest = cc e in
    let head : x ≡ y = cc e in
    let below = front_same xs ys more rest (omega arith) tail in
    cc (head, below)

pub few_same : (room : ℕ) (xs ys : List ℕ)
    → Decides (pointwise eqb (padded room xs) (padded room ys) && eqb (length xs) (length ys)) (xs ≡ ys)
few_same room xs ys = Decides-like _
    (λ both. front_same xs ys _ _ both.1 both.0)
    (λ e. (ap (padded room) e, ap length e))
    (Decides-and _ _ (bytes_same (padded room xs) (padded room ys)) (Decides-eqb (length xs) (length ys)))

run_of : ℕ → ℕ → ℕ → Progression
run_of base stride count = record { base = base; stride = stride; count = count }

runs_same : (b s c b' s' c' : ℕ) → b ≡ b' → s ≡ s' → c ≡ c' → run_of b s c ≡ run_of b' s' c'
runs_same b s c b' s' c' base stride count = cc (base, stride, count)

run_same : (a b : Progression) → Decides (eqb a.base b.base && (eqb a.stride b.stride && eqb a.count b.count)) (a ≡ b)
unfolding run_of
run_same a b = Decides-like _ (λ parts. runs_same a.base a.stride a.count b.base b.stride b.count parts.0 parts.1.0 parts.1.1)
    (λ e. (ap (λ (r : Progression). r.base) e, (ap (λ (r : Progression). r.stride) e, ap (λ (r : Progression). r.count) e)))
    (Decides-and _ _ (Decides-eqb a.base b.base) (Decides-and _ _ (Decides-eqb a.stride b.stride) (Decides-eqb a.count b.count)))

form_same : (a b : Form) → Decides ((form_impl.ghosts).eq a b) (a ≡ b)
form_same (Values xs) (Values ys) = Decides-like _ (ap Values) (λ e. cc e) (few_same 16 xs ys)
form_same (Run a) (Run b) = Decides-like _ (ap Run) (λ e. cc e) (run_same a b)
form_same (Values xs) (Run b) = apart (λ e. cc e)
form_same (Run a) (Values ys) = apart (λ e. cc e)

pub set_same : (a b : Set) → Decides ((set_impl.ghosts).eq a b) (a ≡ b)
set_same (B x) (B y) = Decides-like _ (ap B) (λ e. cc e) (form_same x y)
set_same (W x) (W y) = Decides-like _ (ap W) (λ e. cc e) (form_same x y)
set_same (B x) (W y) = apart (λ e. cc e)
set_same (W x) (B y) = apart (λ e. cc e)

space_same : (a b : Space) → Decides ((space_impl.ghosts).eq a b) (a ≡ b)
space_same a b = (same_true the_type tt a b, true_same the_type a b)

pub item_same : (a b : Item) → Decides ((item_impl.ghosts).eq a b) (a ≡ b)
item_same (Instr pc bytes) (Instr pc' bytes') = Decides-like _
    (λ parts. let p = parts.0 in let b = parts.1 in cc (p, b))
    (λ e. (cc e, cc e))
    (Decides-and _ _ (Decides-eqb pc pc') (bytes_same bytes bytes'))
item_same (Edge origin target) (Edge origin' target') = Decides-like _
    (λ parts. let o = parts.0 in let t = parts.1 in cc (o, t))
    (λ e. (cc e, cc e))
    (Decides-and _ _ (Decides-eqb origin origin') (Decides-eqb target target'))
item_same (Access pc space write size at) (Access pc' space' write' size' at') = Decides-like _
    (λ parts. let p = parts.0 in let k = parts.1.0 in let w = parts.1.1.0 in let n = parts.1.1.1.0 in let s = parts.1.1.1.1 in cc (p, k, w, n, s))
    (λ e. (cc e, (cc e, (cc e, (cc e, cc e)))))
    (Decides-and _ _ (Decides-eqb pc pc') (Decides-and _ _ (space_same space space') (Decides-and _ _ (booleans_Decides write write')
    (Decides-and _ _ (Decides-eqb size size') (set_same at at')))))
item_same (Stack pc at) (Stack pc' at') = Decides-like _
    (λ parts. let p = parts.0 in let s = parts.1 in cc (p, s))
    (λ e. (cc e, cc e))
    (Decides-and _ _ (Decides-eqb pc pc') (set_same at at'))
item_same (Instr pc bytes) (Edge origin' target') = apart (λ e. cc e)
item_same (Instr pc bytes) (Access pc' space' write' size' at') = apart (λ e. cc e)
item_same (Instr pc bytes) (Stack pc' at') = apart (λ e. cc e)
item_same (Edge origin target) (Instr pc' bytes') = apart (λ e. cc e)
item_same (Edge origin target) (Access pc' space' write' size' at') = apart (λ e. cc e)
item_same (Edge origin target) (Stack pc' at') = apart (λ e. cc e)
item_same (Access pc space write size at) (Instr pc' bytes') = apart (λ e. cc e)
item_same (Access pc space write size at) (Edge origin' target') = apart (λ e. cc e)
item_same (Access pc space write size at) (Stack pc' at') = apart (λ e. cc e)
item_same (Stack pc at) (Instr pc' bytes') = apart (λ e. cc e)
item_same (Stack pc at) (Edge origin' target') = apart (λ e. cc e)
item_same (Stack pc at) (Access pc' space' write' size' at') = apart (λ e. cc e)
