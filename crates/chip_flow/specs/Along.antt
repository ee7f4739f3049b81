-- Along the ways of an instruction: the form of what is known there, and on which of them the state behind stands.
use Rattle.std.proofs.Common.{◌≡◌, ℕ, ◌<◌, Option, Some, List, refl, sym, ◌∙◌, subst, inl, inr, Contains, IfSome}
use Rattle.std.proofs.lemmas.Bool.{cond_both, ltb-true}
use Rattle.value_set.specs.declared.form.Form.{Form}
use Rattle.value_set.specs.Form.{Has}
use Rattle.value_set.specs.Summing.{count_of}
use Rattle.plain_lemmas.specs.Members.{in_none}
use Rattle.unit_ways.specs.Between.{IsWayOf, StandsAt}
use Rattle.unit_ways.specs.Between.IsWayOf.{goes_on, joins, jumps}
use Rattle.unit_ways.specs.Laws.{WayLaws}
use Rattle.unit_ways.specs.Targets.{are_too_many}
use Rattle.unit_ways.specs.Ways.{Way, ways_of}
use Rattle.chip_flow.specs.Going.{limited, ways_in}
use Rattle.chip_flow.specs.declared.going.Onward.{Onward}
use Rattle.chip_flow.specs.declared.going.Onward.TheVariants.{Leaves, Open, Lands, Jumps}

some_is : {A : Type 0} (Is : A → Type 0) (known : Option A) (a : A) → IfSome known Is → known ≡ Some a → Is a
some_is Is known a form is = subst (λ k. IfSome k Is) is form

-- FORMS

-- where an instruction goes on the addresses are such, and so is what is known
abbrev pub IsOnward : {A : Type 0} → (IsAddress : ℕ → Type 0) → (Is : A → Type 0) → Onward A → Type 0
IsOnward IsAddress Is (Leaves a) = Is a
IsOnward IsAddress Is (Open targets) = Unit {0}
IsOnward IsAddress Is (Lands targets a) = ((to : ℕ) → Has 65536 targets to → IsAddress to) × Is a
IsOnward IsAddress Is (Jumps behind target on jumped) = IsAddress behind × IsAddress target × IfSome on Is × IfSome jumped Is

pub record IsWayIn {A : Type 0} (IsAddress : ℕ → Type 0) (Is : A → Type 0) (way : Way A) : Type 0 where
  pub address : IsAddress way.0
  pub known : Is way.1

module _ {A : Type 0} (laws : WayLaws A) (joined : A → A → A) (IsAddress : ℕ → Type 0) (Is : A → Type 0) (keeps : (a b : A) → Is a → Is b → Is (joined a b)) where
  either_formed : (behind target : ℕ) (on jumped : Option A) (way : Way A) → IsAddress behind → IsAddress target
      → IfSome on Is → IfSome jumped Is
      → IsWayOf joined behind target on jumped way → IsWayIn IsAddress Is way
  either_formed behind target on jumped way f g a b (goes_on is to) = record { address = subst IsAddress (sym to) f; known = some_is Is on way.1 a is }
  either_formed behind target on jumped way f g a b (jumps is to) = record { address = subst IsAddress (sym to) g; known = some_is Is jumped way.1 b is }
  either_formed behind target on jumped way f g a b (joins one other is_on is_jumped same to is) = record {
    address = subst IsAddress (sym to) f;
    known = subst Is (sym is) (keeps one other (some_is Is on one a is_on) (some_is Is jumped other b is_jumped));
  }

  pub ways_formed : (made : Onward A) → IsOnward IsAddress Is made → (way : Way A) → Contains (ways_in joined made) way
      → IsWayIn IsAddress Is way
  ways_formed (Leaves a) form way h = absurd (in_none way h)
  ways_formed (Open targets) form way h = absurd (in_none way h)
  ways_formed (Lands targets a) form way h =
      let (there, is) = laws.member targets a way h in record { address = form.0 way.0 there; known = subst Is (sym is) form.1 }
  ways_formed (Jumps behind target on jumped) form way h =
      either_formed behind target on jumped way form.0 form.1 form.2 form.3 (laws.either joined behind target on jumped way h)

-- THE STATE BEHIND

-- on one of some ways a state has gone to an address, and what is known there holds of it
pub record HasWay {A : Type 0} (Holds : A → Type 0) (ways : List (Way A)) (to : ℕ) : Type 0 where
  pub way : Way A
  pub listed : Contains ways way
  pub goes : to ≡ way.0
  pub holds : Holds way.1

-- alone, or joined with what is known on the other way
stands_way : {A : Type 0} (Is Holds : A → Type 0) (ways : List (Way A)) (to : ℕ) (a : A) (other : Option A) (both : A → A)
    → ((b : A) → Is b → Holds (both b)) → IfSome other Is → StandsAt ways to a other both → Holds a → HasWay Holds ways to
stands_way Is Holds ways to a other both more form stands holds = record {
  way = stands.way;
  listed = stands.listed;
  goes = sym stands.goes;
  holds = elim stands.known [
    | inl is ↦ subst Holds (sym is) holds
    | inr found ↦ let (b, there, is) = found in subst Holds (sym is) (more b (some_is Is other b form there))
  ];
}

-- on one of the two ways of a jump, of which what is joined holds where either does
module _ {A : Type 0} (laws : WayLaws A) (joined : A → A → A) (Is Holds : A → Type 0) (behind target : ℕ) (on jumped : Option A)
    (on_is : IfSome on Is) (jumped_is : IfSome jumped Is) where
  pub way_on : ((a b : A) → Is a → Is b → Holds a → Holds (joined a b)) → (a : A) → on ≡ Some a → Holds a
      → HasWay Holds (ways_of joined behind target on jumped) behind
  way_on more a is holds = subst (λ way. HasWay Holds (ways_of joined behind target way jumped) behind) (sym is)
      (stands_way Is Holds (ways_of joined behind target (Some a) jumped) behind a jumped (joined a) (λ b form. more a b (some_is Is on a on_is is) form holds) jumped_is
      (laws.on joined behind target a jumped) holds)

  pub way_jumped : ((a b : A) → Is a → Is b → Holds b → Holds (joined a b)) → (b : A) → jumped ≡ Some b → Holds b
      → HasWay Holds (ways_of joined behind target on jumped) target
  way_jumped more b is holds = subst (λ way. HasWay Holds (ways_of joined behind target on way) target) (sym is)
      (stands_way Is Holds (ways_of joined behind target on (Some b)) target b on (λ a. joined a b) (λ a form. more a b form (some_is Is jumped b jumped_is is) holds) on_is
      (laws.jumped joined behind target on b) holds)

-- MORE TARGETS THAN ARE FOLLOWED

-- what holds of both ways to go on
pub limited_is : {A : Type 0} (limit : ℕ) (targets : Form) (made : Onward A) (Is : Onward A → Type 0)
    → Is (Open targets) → Is made → Is (limited limit targets made)
limited_is limit targets made Is open_is made_is =
    cond_both (are_too_many limit targets) (Open targets) made Is (λ _. open_is) (λ _. made_is)

pub limited_open : {A : Type 0} (limit : ℕ) (targets values : Form) (made : Onward A) → (made ≡ Open values → ⊥)
    → limited limit targets made ≡ Open values
    → (targets ≡ values) × (limit < count_of 65536 values)
limited_open {A} limit targets values made never is =
    cond_both (are_too_many limit targets) (Open targets) made (λ (o : Onward A). o ≡ Open values → (targets ≡ values) × (limit < count_of 65536 values))
    (λ many same. let one : targets ≡ values = cc same in (one, subst (λ set. limit < count_of 65536 set) one (ltb-true limit (count_of 65536 targets) many)))
    (λ _ same. absurd (never same)) is
