-- Levels of which all are among others.
use Rattle.std.proofs.Common.{◌≡◌, ◌||◌, Bool, true, false, refl}
use Rattle.std.specs.Prelude.{not}
use Rattle.std.proofs.lemmas.Bool.{and_parts}
use Rattle.plain_lemmas.specs.Orders.{IsAny, IsOrdered, Part, any_ordered, both_ordered, part_ordered}
use Rattle.plain_lemmas.specs.Cases.{implied}
use Rattle.mcs51_state.specs.declared.levels.Levels.{Levels}
use Rattle.mcs51_state.specs.Forms.{AreLevels}
use Rattle.mcs51_state.specs.Levels.{may_serve, all_levels, levels_joined, levels_within}

-- ONE OF THEM

-- where the first may be in service, the second may
abbrev one_within : Bool → Bool → Bool
one_within a b = not a || b

itself : (a : Bool) → one_within a a ≡ true
itself true = refl
itself false = refl

along : (a b c : Bool) → one_within a b ≡ true → one_within b c ≡ true → one_within a c ≡ true
along false b c h k = refl
along true true c h k = k
along true false c h k = absurd (cc)

in_either : (a b : Bool) → (one_within a (a || b) ≡ true) × (one_within b (a || b) ≡ true)
in_either true true = (refl, refl)
in_either true false = (refl, refl)
in_either false true = (refl, refl)
in_either false false = (refl, refl)

whole : (a : Bool) → one_within a true ≡ true
whole true = refl
whole false = refl

one_ordered : IsOrdered IsAny one_within (λ a b. a || b) true
one_ordered = any_ordered itself along in_either whole

-- ALL FOUR

abbrev one_of : (Levels → Bool) → Part {S = Levels} {A = Bool} IsAny IsAny
one_of level = record { of = level; formed = λ levels any. tt }

any_form : (a b : Levels) → Unit {0} → Unit {0} → Unit {0}
any_form a b f g = tt

pub levels_ordered : IsOrdered IsAny levels_within levels_joined all_levels
levels_ordered =
    both_ordered (both_ordered (both_ordered
    (part_ordered (one_of (λ l. l.none)) any_form (λ a b. refl) one_ordered)
    (part_ordered (one_of (λ l. l.low)) any_form (λ a b. refl) one_ordered))
    (part_ordered (one_of (λ l. l.high)) any_form (λ a b. refl) one_ordered))
    (part_ordered (one_of (λ l. l.both)) any_form (λ a b. refl) one_ordered)

-- what may be in service in the first may be in the second
pub serve_more : (a b : Levels) (low high : Bool) → levels_within a b ≡ true → may_serve a low high ≡ true → may_serve b low high ≡ true
serve_more a b true true h serves = implied a.both b.both (and_parts _ _ h).1 serves
serve_more a b false true h serves = implied a.high b.high (and_parts _ _ (and_parts _ _ h).0).1 serves
serve_more a b true false h serves = implied a.low b.low (and_parts _ _ (and_parts _ _ (and_parts _ _ h).0).0).1 serves
serve_more a b false false h serves = implied a.none b.none (and_parts _ _ (and_parts _ _ (and_parts _ _ h).0).0).0 serves

pub join_levels : (a b : Levels) → AreLevels a → AreLevels (levels_joined a b)
join_levels a b (low, high, serves) = (low, high, serve_more a (levels_joined a b) low high (levels_ordered.held a b tt tt) serves)
