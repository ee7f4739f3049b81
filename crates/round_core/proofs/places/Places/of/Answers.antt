use Rattle.std.proofs.Common.{◌∙◌, ap, sym, Vec, ℕ, option_map, unwrap_or, []}
use Rattle.std.specs.declared.alloc.Global.{Global}
use Rattle.round_core.specs.Agenda.{places_in}
use Rattle.round_core.proofs.PlacesLemmas.{places-held}
use Rattle.round_core.proofs.places.Places.of.Goals as goal

pub returns-in-Some : goal.returns-in-Some
returns-in-Some c =
    c.as_slice.ensures.value
    ∙ ap (λ o. unwrap_or (option_map (λ (v : Vec ℕ Global). v.items) o) []) c.in-Some.ensures.value
    ∙ sym (places-held c.equal_nodes_are_one.ensures.frames (λ (v : Vec ℕ Global). v.items) c.self.inside.by_frame.entries c.args.frame.now)
    ∙ ap (λ v. places_in v c.args.frame.now) c.self.view_is

pub returns-in-None : goal.returns-in-None
returns-in-None c =
    ap (λ o. unwrap_or (option_map (λ (v : Vec ℕ Global). v.items) o) []) c.in-None.ensures.value
    ∙ sym (places-held c.equal_nodes_are_one.ensures.frames (λ (v : Vec ℕ Global). v.items) c.self.inside.by_frame.entries c.args.frame.now)
    ∙ ap (λ v. places_in v c.args.frame.now) c.self.view_is
