use Rattle.std.proofs.Common.{◌≡◌, subst, Vec, ℕ, Some, None, Option, option_map, unwrap_or, [], refl, IsSome, true, false}
use Rattle.std.specs.declared.alloc.Global.{Global}
use Rattle.round_core.specs.Agenda.{IsIn}
use Rattle.round_core.proofs.Cases.{on_ok_map}
use Rattle.round_core.proofs.PlacesLemmas.{writes-added, writes-kept}
use Rattle.round_core.proofs.places.add_to_present.Goals as goal

some_value : {X : Type 0} → (o : Option X) (x : X) → Some x ≡ o → IsSome o
some_value None x e = absurd (cc)
some_value (Some y) x e = refl

none_value : {X : Type 0} → (o : Option X) → None ≡ o → IsSome o → ⊥
none_value None e h = let f : false ≡ true = h in cc
none_value (Some y) e h = absurd (cc)

held_of : (o : Option (Vec ℕ Global)) (v : Vec ℕ Global) → Some v ≡ o → (p : ℕ)
    → IsIn p (unwrap_or (option_map (λ (v : Vec ℕ Global). v.items) o) []) → IsIn p v.items
held_of None v e p h = absurd h
held_of (Some w) v e p h = let same : w ≡ v = cc in subst (λ (u : Vec ℕ Global). IsIn p u.items) same h

pub returns-in-Some-clause-added : goal.returns-in-Some-clause-added
returns-in-Some-clause-added c = on_ok_map _ _ c.keep.result
    (λ added some.
    let w = c.get_mut.follows.holds c.keep.new.places in
    writes-added c.equal_nodes_are_one.ensures.frames (λ (v : Vec ℕ Global). v.items) c.args.by_frame.now.entries _ c.args.frame.now c.keep.new.places
    ((w.3 (some_value _ _ c.in-Some.ensures.value)).0) c.args.place added)
    c.keep.ensures.added

pub returns-in-Some-clause-kept : goal.returns-in-Some-clause-kept
returns-in-Some-clause-kept c =
    let w = c.get_mut.follows.holds c.keep.new.places in
    writes-kept c.equal_nodes_are_one.ensures.frames (λ (v : Vec ℕ Global). v.items) c.args.by_frame.now.entries _ c.args.frame.now c.keep.new.places
    ((w.3 (some_value _ _ c.in-Some.ensures.value)).0)
    (λ p h. c.keep.ensures.kept p (held_of _ _ c.in-Some.ensures.value p h))

pub returns-in-None-clause-added : goal.returns-in-None-clause-added
returns-in-None-clause-added c = λ h. absurd (none_value _ c.in-None.ensures.value h)
