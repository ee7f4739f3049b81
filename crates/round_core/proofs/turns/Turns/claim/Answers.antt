use Rattle.std.specs.Prelude.{vec_len}
use Rattle.std.proofs.Common.{◌≡◌, ◌∙◌, ap, sym, subst, rules, arith, length, length-append, List, ◌++◌, ◌∷◌, [], None}
use Rattle.std.proofs.Math.Path.{ap₂}
use Rattle.round_core.specs.Turns.{place_out, Standing, StandOnce}
use Rattle.book_rules.specs.declared.event.Event.{Event}
use Rattle.book_rules.specs.declared.event.Event.TheVariants.{Claim}
use Rattle.round_core.specs.declared.place.Place.{Place}
use Rattle.call_context.specs.declared.node.Unit.{Unit as WorkUnit}
use Rattle.round_core.proofs.TurnsLemmas.{once-more}
use Rattle.round_core.proofs.turns.Turns.claim.Goals as goal

abbrev standing : List Event → List (WorkUnit × Place) → List Place → Standing
standing j o r = record { journal = j; out = o; returned = r }

pub returns-clause-claimed : goal.returns-clause-claimed
returns-clause-claimed c =
    ap₂ (λ j o. standing j o c.reserve.new.self.items)
    (c.push_reserved.ensures.items ∙ ap (λ j. j ++ Claim c.args.seat c.args.unit.now ∷ []) (c.reserve-2.ensures.items))
    c.in_ok-push.ensures.items
    ∙ ap (λ r. standing (c.self.inside.journal.items ++ Claim c.args.seat c.args.unit.now ∷ []) (c.self.inside.out.items ++ (c.args.unit.now, c.args.place) ∷ []) r) c.reserve.ensures.items
    ∙ ap (λ v. standing (v.journal ++ Claim c.args.seat c.args.unit.now ∷ []) (v.out ++ (c.args.unit.now, c.args.place) ∷ []) v.returned) c.self.view_is

pub invariant_of-self-2 : goal.invariant_of-self-2
invariant_of-self-2 c =
    let unit = c.args.unit.now in
    let outs = c.self.inside.out.items in
    let absent : place_out outs unit ≡ None = ap (λ v. place_out v.out unit) c.self.view_is ∙ c.requires in
    let more = ap (λ l. length l) c.in_ok-push.ensures.items ∙ length-append outs ((unit, c.args.place) ∷ []) in
    let out_len : vec_len c.self.inside.out ≡ length outs = search rules in
    let before : vec_len c.reserve-2.new.self ≡ length c.reserve-2.new.self.items = search rules in
    let behind : vec_len c.push_reserved.new.self ≡ length c.push_reserved.new.self.items = search rules in
    let event = ap (λ l. length l) c.push_reserved.ensures.items ∙ length-append c.reserve-2.new.self.items (Claim c.args.seat unit ∷ []) in
    let ends = c.len-ends.ensures in
    let returned_room = c.in_ok-reserve.ensures.ok in
    let journal_room = c.in_ok-reserve-2.ensures.ok in
    let kept = c.push_reserved.ensures.capacity in
    (omega arith, omega arith, subst (λ l. StandOnce l) (sym c.in_ok-push.ensures.items) (once-more outs unit c.args.place c.self.invariant.2 absent))
