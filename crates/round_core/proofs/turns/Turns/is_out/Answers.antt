use Rattle.std.proofs.Common.{◌∙◌, ap, is_some}
use Rattle.round_core.specs.Turns.{index_out, place_out}
use Rattle.round_core.proofs.TurnsLemmas.{index-some}
use Rattle.round_core.proofs.turns.Turns.is_out.Goals as goal

pub returns : goal.returns
returns c =
    let unit = c.args.unit.now in
    c.is_some.ensures ∙ ap (λ o. is_some o) c.index_of.ensures.index
    ∙ ap (λ l. is_some (index_out l unit)) c.as_slice.ensures.value
    ∙ index-some c.self.inside.out.items unit ∙ ap (λ v. is_some (place_out v.out unit)) c.self.view_is
