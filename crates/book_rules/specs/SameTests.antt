-- The tests of frames, nodes and units tell which are one.
use Rattle.std.specs.Prelude.{◌≡◌, ℕ, ◌==◌, ◌&&◌, Bool, true, false, Option, None, Some, List, [], ◌∷◌}
use Rattle.std.proofs.Common.{refl, sym, ◌∙◌, subst, inl, inr}
use Rattle.std.proofs.lemmas.Bool.{and_from, cases_Bool, eqb-true, eq-eqb}
use Rattle.call_context.specs.declared.node.Frame.{Frame}
use Rattle.call_context.specs.declared.node.Frame.TheVariants.{Base, Irq}
use Rattle.call_context.specs.declared.node.Node.{Node}
use Rattle.call_context.specs.declared.node.Node.TheVariants.{At, Exit}
use Rattle.call_context.specs.declared.node.Unit.{Unit as WorkUnit}
use Rattle.call_context.specs.declared.node.Unit.TheVariants.{One, Back}
use Rattle.book_rules.specs.Same.{same_numbers, same_sp, same_frame, same_node, same_unit}

-- both tests hold where the test of both does
both : (x y : Bool) → (x && y) ≡ true → (x ≡ true) × (y ≡ true)
both true true h = (refl, refl)
both true false h = absurd (cc)
both false y h = absurd (cc)

pub same_numbers-refl : (xs : List ℕ) → same_numbers xs xs ≡ true
same_numbers-refl [] = refl
same_numbers-refl (x ∷ xs) = and_from _ _ (eq-eqb x x refl) (same_numbers-refl xs)

pub same_numbers-eq : (xs ys : List ℕ) → same_numbers xs ys ≡ true → xs ≡ ys
same_numbers-eq [] [] h = refl
same_numbers-eq (x ∷ xs) (y ∷ ys) h =
    let b = both (x == y) (same_numbers xs ys) h in
    let head : x ≡ y = eqb-true x y b.0 in
    let tail : xs ≡ ys = same_numbers-eq xs ys b.1 in cc
same_numbers-eq [] (y ∷ ys) h = absurd (cc)
same_numbers-eq (x ∷ xs) [] h = absurd (cc)

pub same_sp-refl : (s : Option ℕ) → same_sp s s ≡ true
same_sp-refl None = refl
same_sp-refl (Some a) = eq-eqb a a refl

pub same_sp-eq : (s t : Option ℕ) → same_sp s t ≡ true → s ≡ t
same_sp-eq None None h = refl
same_sp-eq (Some a) (Some b) h = let e : a ≡ b = eqb-true a b h in cc
same_sp-eq None (Some b) h = absurd (cc)
same_sp-eq (Some a) None h = absurd (cc)

pub same_frame-refl : (f : Frame) → same_frame f f ≡ true
same_frame-refl Base = refl
same_frame-refl (Irq vector sp level) =
    and_from _ _ (and_from _ _ (eq-eqb vector vector refl) (same_sp-refl sp)) (eq-eqb level level refl)

pub same_frame-eq : (f g : Frame) → same_frame f g ≡ true → f ≡ g
same_frame-eq Base Base h = refl
same_frame-eq (Irq vector sp level) (Irq vector' sp' level') h =
    let b = both ((vector == vector') && same_sp sp sp') (level == level') h in
    let c = both (vector == vector') (same_sp sp sp') b.0 in
    let v : vector ≡ vector' = eqb-true vector vector' c.0 in
    let s : sp ≡ sp' = same_sp-eq sp sp' c.1 in
    let l : level ≡ level' = eqb-true level level' b.1 in cc
same_frame-eq Base (Irq vector' sp' level') h = absurd (cc)
same_frame-eq (Irq vector sp level) Base h = absurd (cc)

pub same_node-refl : (n : Node) → same_node n n ≡ true
same_node-refl (At pc calls frame) =
    and_from _ _ (and_from _ _ (eq-eqb pc pc refl) (same_numbers-refl calls)) (same_frame-refl frame)
same_node-refl (Exit pc frame) = and_from _ _ (eq-eqb pc pc refl) (same_frame-refl frame)

pub same_node-eq : (n m : Node) → same_node n m ≡ true → n ≡ m
same_node-eq (At pc calls frame) (At pc' calls' frame') h =
    let b = both ((pc == pc') && same_numbers calls calls') (same_frame frame frame') h in
    let c = both (pc == pc') (same_numbers calls calls') b.0 in
    let p : pc ≡ pc' = eqb-true pc pc' c.0 in
    let k : calls ≡ calls' = same_numbers-eq calls calls' c.1 in
    let f : frame ≡ frame' = same_frame-eq frame frame' b.1 in cc
same_node-eq (Exit pc frame) (Exit pc' frame') h =
    let b = both (pc == pc') (same_frame frame frame') h in
    let p : pc ≡ pc' = eqb-true pc pc' b.0 in
    let f : frame ≡ frame' = same_frame-eq frame frame' b.1 in cc
same_node-eq (At pc calls frame) (Exit pc' frame') h = absurd (cc)
same_node-eq (Exit pc frame) (At pc' calls' frame') h = absurd (cc)

pub same_unit-refl : (u : WorkUnit) → same_unit u u ≡ true
same_unit-refl (One n) = same_node-refl n
same_unit-refl (Back n x) = and_from _ _ (same_node-refl n) (same_node-refl x)

pub same_unit-eq : (u v : WorkUnit) → same_unit u v ≡ true → u ≡ v
same_unit-eq (One n) (One m) h = let e : n ≡ m = same_node-eq n m h in cc
same_unit-eq (Back n x) (Back m y) h =
    let b = both (same_node n m) (same_node x y) h in
    let e : n ≡ m = same_node-eq n m b.0 in
    let f : x ≡ y = same_node-eq x y b.1 in cc
same_unit-eq (One n) (Back m y) h = absurd (cc)
same_unit-eq (Back n x) (One m) h = absurd (cc)

pub same_unit-off : (u v : WorkUnit) → same_unit u v ≡ false → same_unit v u ≡ false
same_unit-off u v off = elim (cases_Bool (same_unit v u)) [
  | inl s ↦
      let yes : same_unit u v ≡ true = subst (λ w. same_unit u w ≡ true) (sym (same_unit-eq v u s)) (same_unit-refl u) in
      let bad : true ≡ false = sym yes ∙ off in absurd (cc)
  | inr s ↦ s
]
