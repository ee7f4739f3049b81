use Rattle.std.proofs.Common.{◌++◌, ◌∙◌, ap, true}
use Rattle.text_fields.specs.Lists.{listed}
use Rattle.value_text.specs.Cells.{cell_field}
use Rattle.value_text.proofs.RamLemmas.{shorter, some_text, texts_begin, texts_end, texts_go_on}
use Rattle.value_text.proofs.ram.push_cells.Goals as goal

pub loop-place-init : goal.loop-place-init
loop-place-init g c =
    texts_begin (cell_field (g.P.Places.width c.args.places) (g.P.Places.names c.args.places) true (λ cell. true)) (g.M.Cells.map c.args.cells.now)
    c.in-Some.place c.in-Some.size c.in-Some.word c.args.out.now.items c.push-2.new.out.items c.keep_form.ensures.are c.in-Some.ensures
    c.in_ok-push-2.ensures

pub loop-place-smaller : goal.loop-place-smaller
loop-place-smaller g c =
    let map = g.M.Cells.map c.args.cells.now in
    shorter map.lo map.hi c.loop-place.from c.in-Some-next.place c.in-Some-next.size c.in-Some-next.word map.cells c.keep_form.ensures.are
    c.in-Some-next.ensures

pub loop-place-preserved : goal.loop-place-preserved
loop-place-preserved g c =
    let cell = cell_field (g.P.Places.width c.args.places) (g.P.Places.names c.args.places) true (λ cell. true) in
    let map = g.M.Cells.map c.args.cells.now in
    texts_go_on cell map c.loop-place.from c.in-Some-next.place c.in-Some-next.size c.in-Some-next.word (c.args.out.now.items ++
    (listed cell 59).text map.cells)
    c.loop-place.out.items c.push-in-Some-next.new.self.items c.push-in-Some-next-2.new.out.items c.keep_form.ensures.are c.in-Some-next.ensures
    c.loop-place.invariant c.in_ok-push-3.ensures.items c.in_ok-push-4.ensures

pub returns : goal.returns
returns g c =
    let cell = cell_field (g.P.Places.width c.args.places) (g.P.Places.names c.args.places) true (λ cell. true) in
    let map = g.M.Cells.map c.args.cells.now in
    texts_end cell map c.loop-place.from (c.args.out.now.items ++ (listed cell 59).text map.cells) c.loop-place.out.items c.in_default-next.ensures
    c.loop-place.invariant
    ∙ ap (λ text. c.args.out.now.items ++ text) (some_text cell 0 (c.in-Some.place, c.in-Some.size, c.in-Some.word) map.cells c.in-Some.ensures)
