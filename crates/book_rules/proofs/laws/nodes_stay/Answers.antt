use Rattle.std.proofs.Common.{sym, ◌∙◌, ap, subst}
use Rattle.std.proofs.lemmas.Option.{same_Some}
use Rattle.book_rules.proofs.HeldLaws.{place_of-later, version_of-later}
use Rattle.book_rules.specs.Staying.{held_at-later}
use Rattle.book_rules.proofs.ReplayLaws.{AllStay-replay, IsSteady-replay, replay-append}
use Rattle.book_rules.specs.Machine.{replay}
use Rattle.book_rules.specs.Stays.{AllStay}
use Rattle.book_rules.specs.declared.event.Event.{Event}
use Rattle.chip_analysis.specs.Analysis.{Analysis}
use Rattle.std.specs.Prelude.{List, ◌++◌}
use Rattle.book_rules.proofs.laws.nodes_stay.Goals as goal

-- nodes stay over further events
stay : {A : Type 0} (m : Analysis A) (journal more : List Event) → AllStay (replay m journal).nodes (replay m (journal ++ more)).nodes
stay m journal more =
    subst (λ b. AllStay (replay m journal).nodes b.nodes) (sym (replay-append m journal more)) (AllStay-replay m (replay m journal) more)

pub returns-clause-apart : goal.returns-clause-apart
returns-clause-apart g c = λ base journal l. let a = g.C.Chip.analysis base in (IsSteady-replay a journal l).apart

pub returns-clause-places : goal.returns-clause-places
returns-clause-places g c = λ base journal more node place e. let a = g.C.Chip.analysis base in
    place_of-later (replay a journal).nodes (replay a (journal ++ more)).nodes node place (stay a journal more) e

pub returns-clause-rises : goal.returns-clause-rises
returns-clause-rises g c = λ base journal more node. let a = g.C.Chip.analysis base in
    version_of-later (replay a journal).nodes (replay a (journal ++ more)).nodes node (stay a journal more)

pub returns-clause-states : goal.returns-clause-states
returns-clause-states g c = λ base journal more node h later e d v. let a = g.C.Chip.analysis base in
    let r = held_at-later (replay a journal).nodes (replay a (journal ++ more)).nodes node h (stay a journal more) e in
    let same = same_Some r.0 later (sym r.1 ∙ d) in
    ap (λ x. x.state) (sym same) ∙ r.2.state (ap (λ x. x.rises) same ∙ v)
