use Rattle.std.proofs.Common.{sym, subst, Vec, ℕ, option_map, unwrap_or, [], refl, inl, ◌∷◌}
use Rattle.std.specs.declared.alloc.Global.{Global}
use Rattle.round_core.specs.Agenda.{IsIn, places_in, seen}
use Rattle.round_core.proofs.ListLemmas.{IsIn-last}
use Rattle.round_core.proofs.PlacesLemmas.{writes-added, writes-kept}
use Rattle.round_core.proofs.places.add_new.Goals as goal

pub returns-in_err-insert-clause-kept : goal.returns-in_err-insert-clause-kept
returns-in_err-insert-clause-kept c = λ f p h. subst (λ es. IsIn p (places_in (seen es) f)) (sym c.in_err-insert.ensures.err) h

pub returns-clause-added : goal.returns-clause-added
returns-clause-added c =
    let one : IsIn c.args.place c.push.new.self.items = subst (λ xs. IsIn c.args.place xs) (sym c.in_ok-push.ensures.items) (IsIn-last c.args.place c.new-places.result.items (c.args.place ∷ []) (inl refl)) in
    writes-added c.equal_nodes_are_one.ensures.frames (λ (v : Vec ℕ Global). v.items) c.args.by_frame.now.entries c.insert.new.self.entries c.args.frame.now c.push.new.self c.in_ok-insert.ensures.updates.0 c.args.place one

pub returns-clause-kept : goal.returns-clause-kept
returns-clause-kept c =
    writes-kept c.equal_nodes_are_one.ensures.frames (λ (v : Vec ℕ Global). v.items) c.args.by_frame.now.entries c.insert.new.self.entries c.args.frame.now c.push.new.self c.in_ok-insert.ensures.updates.0
    (λ p h. absurd (subst (λ o. IsIn p (unwrap_or (option_map (λ (v : Vec ℕ Global). v.items) o) [])) c.requires h))
