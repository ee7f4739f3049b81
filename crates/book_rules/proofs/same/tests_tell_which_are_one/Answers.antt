use Rattle.std.proofs.Common.{◌≡◌, true, subst}
use Rattle.book_rules.specs.Same.{same_frame, same_node, same_unit}
use Rattle.book_rules.specs.SameTests.{same_frame-eq, same_frame-refl, same_node-eq, same_node-refl, same_unit-eq, same_unit-refl}
use Rattle.book_rules.proofs.same.tests_tell_which_are_one.Goals as goal

pub returns-clause-frames : goal.returns-clause-frames
returns-clause-frames c = λ a b. (same_frame-eq a b, λ e. subst (λ n. same_frame a n ≡ true) e (same_frame-refl a))

pub returns-clause-nodes : goal.returns-clause-nodes
returns-clause-nodes c = λ a b. (same_node-eq a b, λ e. subst (λ n. same_node a n ≡ true) e (same_node-refl a))

pub returns-clause-units : goal.returns-clause-units
returns-clause-units c = λ a b. (same_unit-eq a b, λ e. subst (λ n. same_unit a n ≡ true) e (same_unit-refl a))
