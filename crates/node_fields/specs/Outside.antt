-- Fields of a state that aren't within those of another: the first of them, and when there is none.
use Rattle.std.specs.Prelude.{◌≡◌, ℕ, ◌&&◌, if◌then◌else◌, Bool, true, false, Option, None, Some, List}
use Rattle.std.proofs.Common.{refl, sym}
use Rattle.std.proofs.lemmas.Bool.{and_parts, and_from}
use Rattle.std.proofs.lemmas.Option.{none-some}
use Rattle.node_fields.specs.declared.outside.Outside.{Outside}

-- a field with both its texts
abbrev pub told : {A : Type 0} → List ℕ → (A → List ℕ) → (new held : A) → Outside
told name text new held = record { field = name; posted = text new; held = text held }

abbrev pub unless : Bool → Outside → Option Outside
unless within field = if within then None else Some field

-- the first of two, if there is one
abbrev pub or_else : Option Outside → Option Outside → Option Outside
or_else None second = second
or_else (Some field) second = Some field

-- LAWS

-- nothing is found exactly where all is within
pub record FindsNone (found : Option Outside) (within : Bool) : Type 0 where
  pub only : found ≡ None → within ≡ true
  pub back : within ≡ true → found ≡ None

unless_only : (within : Bool) (field : Outside) → unless within field ≡ None → within ≡ true
unless_only true field none = refl
unless_only false field none = absurd (none-some field (sym none))

pub unless_finds : (within : Bool) (field : Outside) → FindsNone (unless within field) within
unless_finds within field = record { only = unless_only within field; back = λ is. rw is refl }

neither_is : (first second : Option Outside) → or_else first second ≡ None → (first ≡ None) × (second ≡ None)
neither_is None second none = (refl, none)
neither_is (Some field) second none = absurd (none-some field (sym none))

pub or_else_finds : {first second : Option Outside} {a b : Bool} → FindsNone first a → FindsNone second b
    → FindsNone (or_else first second) (a && b)
or_else_finds {first = first} {second = second} {a = a} {b = b} one two = record {
  only = λ none. let both = neither_is first second none in and_from a b (one.only both.0) (two.only both.1);
  back = λ is. let parts = and_parts a b is in rw (one.back parts.0, two.back parts.1) refl;
}
