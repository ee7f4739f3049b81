use Rattle.std.proofs.Common.{◌≡◌, ◌∙◌, ap, sym, subst, IsSome, None, Some, Option, length, ◌+◌}
use Rattle.std.proofs.lemmas.List.Edits.{length-remove}
use Rattle.round_core.specs.declared.place.Place.{Place}
use Rattle.round_core.specs.Turns.{index_out, place_out, StandOnce}
use Rattle.round_core.proofs.Cases.{get-index}
use Rattle.round_core.proofs.TurnsLemmas.{index-bound, index-entry, index-none, removed-once, removed-places}
use Rattle.round_core.proofs.turns.take_home.Goals as goal

abbrev none_place : Option Place
none_place = None

pub unreachable-requires : goal.unreachable-requires
unreachable-requires c =
    let out = c.args.out.now.items in
    let unit = c.args.unit.now in
    let none : index_out out unit ≡ None = ap (λ l. index_out l unit) (sym c.as_slice.ensures.value) ∙ sym c.in-None.ensures.index in
    let some : IsSome none_place = subst (λ o. IsSome o) (index-none out unit none) c.requires.out in absurd (cc)

pub returns : goal.returns
returns c =
    let out = c.args.out.now.items in
    let unit = c.args.unit.now in
    let i = c.in-Some.index in
    let at : index_out out unit ≡ Some i = ap (λ l. index_out l unit) (sym c.as_slice.ensures.value) ∙ sym c.in-Some.ensures.index in
    let bound = index-bound out unit i at in
    let e = index-entry out unit i at in
    let both : Some e.0 ≡ Some c.remove.result = sym e.1 ∙ get-index out i c.remove.result bound c.remove.ensures.value in
    let same : e.0 ≡ c.remove.result = cc in
    record {
      place = e.2 ∙ ap (λ t. Some t.1) same;
      others = record {
        count = ap (λ l. length l + 1) c.remove.ensures.items ∙ length-remove out i bound;
        places = λ other. ap (λ l. place_out l other) c.remove.ensures.items ∙ removed-places out unit i c.requires.once at other;
      };
      once = subst (λ l. StandOnce l) (sym c.remove.ensures.items) (removed-once out unit i c.requires.once at);
    }
