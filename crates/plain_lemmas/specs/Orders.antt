-- What is known of a state has parts, and one state says all that another says where each part does. So the order of
-- states, and that two states are within what is made of both, come of the same few facts of each part.
use Rattle.std.specs.Prelude.{◌≡◌, ◌&&◌, Bool, true}
use Rattle.std.proofs.Common.{subst}
use Rattle.std.proofs.lemmas.Bool.{and_from, and_parts}

-- Being within another is an order. Two are within what is made of both, which is in form again, and each is within the greatest.
pub record IsOrdered {A : Type 0} (Form : A → Type 0) (within : A → A → Bool) (made : A → A → A) (greatest : A) : Type 0 where
  pub itself : (a : A) → Form a → within a a ≡ true
  pub along : (a b c : A) → within a b ≡ true → within b c ≡ true → within a c ≡ true
  pub form : (held new : A) → Form held → Form new → Form (made held new)
  pub held : (held new : A) → Form held → Form new → within held (made held new) ≡ true
  pub new : (held new : A) → Form held → Form new → within new (made held new) ≡ true
  pub whole : (a : A) → Form a → within a greatest ≡ true

-- of a part of which nothing is asked
abbrev pub IsAny : {A : Type 0} → A → Type 0
IsAny a = Unit {0}

-- the order of such parts
pub any_ordered : {A : Type 0} {within : A → A → Bool} {made : A → A → A} {greatest : A} → ((a : A) → within a a ≡ true)
    → ((a b c : A) → within a b ≡ true → within b c ≡ true → within a c ≡ true)
    → ((a b : A) → (within a (made a b) ≡ true) × (within b (made a b) ≡ true)) → ((a : A) → within a greatest ≡ true)
    → IsOrdered IsAny within made greatest
any_ordered itself along both whole = record {
  itself = λ a any. itself a;
  along = along;
  form = λ a b f g. tt;
  held = λ a b f g. (both a b).0;
  new = λ a b f g. (both a b).1;
  whole = λ a any. whole a;
}

-- two tests of one whole
pub both_ordered : {A : Type 0} {Form : A → Type 0} {p q : A → A → Bool} {made : A → A → A} {greatest : A} → IsOrdered Form p made greatest
    → IsOrdered Form q made greatest → IsOrdered Form (λ a b. p a b && q a b) made greatest
both_ordered {p = p} {q = q} {made = made} {greatest = greatest} one two = record {
  itself = λ a form. and_from (p a a) (q a a) (one.itself a form) (two.itself a form);
  along = λ a b c h k.
      let first = and_parts (p a b) (q a b) h in
      let second = and_parts (p b c) (q b c) k in
      and_from (p a c) (q a c) (one.along a b c first.0 second.0) (two.along a b c first.1 second.1);
  form = one.form;
  held = λ a b f g. and_from (p a (made a b)) (q a (made a b)) (one.held a b f g) (two.held a b f g);
  new = λ a b f g. and_from (p b (made a b)) (q b (made a b)) (one.new a b f g) (two.new a b f g);
  whole = λ a form. and_from (p a greatest) (q a greatest) (one.whole a form) (two.whole a form);
}

-- A PART OF A WHOLE

-- a whole in form has the part in form
pub record Part {S A : Type 0} (Whole : S → Type 0) (Form : A → Type 0) : Type 0 where
  pub of : S → A
  pub formed : (whole : S) → Whole whole → Form (of whole)

-- what is made of two wholes is in form, and its part is made of their parts
pub part_ordered : {S A : Type 0} {Whole : S → Type 0} {Form : A → Type 0} {within : A → A → Bool} {made : S → S → S} {parts : A → A → A} {greatest : S}
    (part : Part Whole Form) → ((s t : S) → Whole s → Whole t → Whole (made s t))
    → ((s t : S) → parts (part.of s) (part.of t) ≡ part.of (made s t))
    → IsOrdered Form within parts (part.of greatest) → IsOrdered Whole (λ s t. within (part.of s) (part.of t)) made greatest
part_ordered {within = within} part form is ordered = record {
  itself = λ s f. ordered.itself (part.of s) (part.formed s f);
  along = λ s t u h k. ordered.along (part.of s) (part.of t) (part.of u) h k;
  form = form;
  held = λ s t f g. subst (λ a. within (part.of s) a ≡ true) (is s t) (ordered.held (part.of s) (part.of t) (part.formed s f) (part.formed t g));
  new = λ s t f g. subst (λ a. within (part.of t) a ≡ true) (is s t) (ordered.new (part.of s) (part.of t) (part.formed s f) (part.formed t g));
  whole = λ s f. ordered.whole (part.of s) (part.formed s f);
}

-- SEVEN TESTS, as both chips' states have them

pub seven_true : (a b c d e f g : Bool) → (a && b && c && d && e && f && g) ≡ true
    → (a ≡ true) × (b ≡ true) × (c ≡ true) × (d ≡ true) × (e ≡ true) × (f ≡ true) × (g ≡ true)
seven_true a b c d e f g h =
    let six = and_parts (a && b && c && d && e && f) g h in
    let five = and_parts (a && b && c && d && e) f six.0 in
    let four = and_parts (a && b && c && d) e five.0 in
    let three = and_parts (a && b && c) d four.0 in
    let two = and_parts (a && b) c three.0 in
    let one = and_parts a b two.0 in
    (one.0, one.1, two.1, three.1, four.1, five.1, six.1)
