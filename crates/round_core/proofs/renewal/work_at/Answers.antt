use Rattle.std.proofs.Common.{subst, sym}
use Rattle.book_rules.specs.declared.event.Event.TheVariants.{Claim}
use Rattle.book_rules.specs.Machine.{after}
use Rattle.round_core.specs.Raise.{ArePlaced}
use Rattle.round_core.specs.Renewal.{state_of}
use Rattle.round_core.specs.Shown.{Shows}
use Rattle.round_core.specs.Turns.{place_out}
use Rattle.round_core.proofs.Cases.{is_some_of}
use Rattle.round_core.proofs.PostEvent.{posted-shown}
use Rattle.round_core.proofs.RenewalLemmas.{back-home, on_err_always, own_ticket, own_ticket-is, taken-out}
use Rattle.std.specs.Option.{option_copied}
use Rattle.round_core.proofs.renewal.work_at.Goals as goal

pub returns-in_err-take_out-clause-refused : goal.returns-in_err-take_out-clause-refused
returns-in_err-take_out-clause-refused g c =
    let p = c.args.parts.now in
    on_err_always (Shows (state_of p) c.take_out.new.self) c.from_residual-in_err-take_out.result
    (subst (λ q. Shows (state_of p) q) (sym c.in_err-take_out.ensures.refused) c.requires.shows)

pub post-requires-clause-out : goal.post-requires-clause-out
post-requires-clause-out g c =
    let m = g.C.Chip.analysis (g.C.Chip.base c.args.chip.now) in
    let p = c.args.parts.now in
    let u = c.args.unit.now in
    let i = c.inputs_of.result in
    let taken = taken-out m p c.take_out.new.self c.args.place u i.0.now (option_copied i.1) i.2 c.requires.shows c.requires.first c.requires.placed
    c.inputs_of.ensures.states c.inputs_of.ensures.versions c.in_ok-take_out.ensures.out in
    let x = (c.prepare_work.ensures.shown (after m (state_of p) (Claim 0 u)) taken.0).out u _ taken.1 in
    is_some_of (place_out c.prepare_work.new.parts.turns.out u) x.0 x.1

pub post-requires-clause-placed : goal.post-requires-clause-placed
post-requires-clause-placed g c =
    subst (λ hs. ArePlaced hs c.in-Ok.raised.rows.items) (sym c.in-Ok.ensures.prepared.nodes) c.in-Ok.ensures.placed

pub give_back-requires : goal.give_back-requires
give_back-requires g c =
    let m = g.C.Chip.analysis (g.C.Chip.base c.args.chip.now) in
    let p = c.args.parts.now in
    let u = c.args.unit.now in
    let i = c.inputs_of.result in
    let taken = taken-out m p c.take_out.new.self c.args.place u i.0.now (option_copied i.1) i.2 c.requires.shows c.requires.first c.requires.placed
    c.inputs_of.ensures.states c.inputs_of.ensures.versions c.in_ok-take_out.ensures.out in
    let x = (c.prepare_work.ensures.shown (after m (state_of p) (Claim 0 u)) taken.0).out u _ taken.1 in
    is_some_of (place_out c.prepare_work.new.parts.turns.out u) x.0 x.1

pub returns-in-Ok-clause-turned : goal.returns-in-Ok-clause-turned
returns-in-Ok-clause-turned g c =
    let m = g.C.Chip.analysis (g.C.Chip.base c.args.chip.now) in
    let p = c.args.parts.now in
    let u = c.args.unit.now in
    let i = c.inputs_of.result in
    let t = own_ticket p.nodes.rows u i.0.now (option_copied i.1) i.2 in
    let taken = taken-out m p c.take_out.new.self c.args.place u i.0.now (option_copied i.1) i.2 c.requires.shows c.requires.first c.requires.placed
    c.inputs_of.ensures.states c.inputs_of.ensures.versions c.in_ok-take_out.ensures.out in
    posted-shown m (after m (state_of p) (Claim 0 u)) c.take_out.new.self c.prepare_work.new.parts c.post.new.self 0 t c.in_ok-work.work _
    taken.0 taken.1 c.in_ok-work.ensures c.in-Ok.ensures.prepared c.in-Ok.ensures.raised c.post.ensures.nodes c.post.ensures.works
    c.post.ensures.out c.post.ensures.returned c.post.ensures.agenda

pub returns-in-Err-clause-refused : goal.returns-in-Err-clause-refused
returns-in-Err-clause-refused g c =
    let m = g.C.Chip.analysis (g.C.Chip.base c.args.chip.now) in
    let p = c.args.parts.now in
    let u = c.args.unit.now in
    let i = c.inputs_of.result in
    let t = own_ticket p.nodes.rows u i.0.now (option_copied i.1) i.2 in
    let taken = taken-out m p c.take_out.new.self c.args.place u i.0.now (option_copied i.1) i.2 c.requires.shows c.requires.first c.requires.placed
    c.inputs_of.ensures.states c.inputs_of.ensures.versions c.in_ok-take_out.ensures.out in
    let k = own_ticket-is p.nodes.rows u i.0.now (option_copied i.1) i.2 c.inputs_of.ensures.states c.inputs_of.ensures.versions in
    let b = after m (state_of p) (Claim 0 u) in
    subst (λ s. Shows s c.give_back.new.self) (back-home m p u i.0.now (option_copied i.1) i.2 c.requires.shows k)
    (c.give_back.ensures.home b t (c.prepare_work.ensures.shown b taken.0) taken.1)
