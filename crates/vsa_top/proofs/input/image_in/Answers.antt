use Rattle.std.specs.Prelude.{IfSome}
use Rattle.std.proofs.Common.{◌<◌, ◌≡◌, ◌∙◌, ap, length, take, arith}
use Rattle.std.proofs.lemmas.List.{length-take}
use Rattle.ihex_read.specs.Reading.{Reading}
use Rattle.vsa_top.specs.Input.{LacksImage, input_error_of}
use Rattle.vsa_top.proofs.InputLemmas.{IfErr-is, IsTaken-more, nothing_taken, image_at_end, image_at_stop, behind_used, bad_at_end, no_fault_at_stop, refused_piece}
use Rattle.vsa_top.proofs.input.image_in.Goals as goal

pub returns-in_err-end-clause-refused : goal.returns-in_err-end-clause-refused
returns-in_err-end-clause-refused g c =
    let taken = c.loop-reader.invariant.0 in
    IfErr-is c.from_residual-in_err-end.result (input_error_of c.in_err-end.field-0.0)
    (λ error. IfSome (g.S.Source.left c.args.source.now) (λ text. LacksImage c.args.rules c.args.tail text error)) c.from_residual-in_err-end.ensures.1
    (bad_at_end c.args.rules c.args.tail (g.S.Source.left c.args.source.now) (g.S.Source.left c.loop-reader.source) c.loop-reader.reader c.loop-reader.room
    c.in_err-end.field-0.0 taken (c.in_ok-count.ensures.end c.if-count-eq0.true) (c.in_err-end.ensures.bad taken.faultless))

pub returns-then-count-eq0-clause-image : goal.returns-then-count-eq0-clause-image
returns-then-count-eq0-clause-image g c =
    let left = g.S.Source.left c.loop-reader.source in
    let after = g.S.Source.left c.read.new.self in
    image_at_end c.args.rules c.args.tail (g.S.Source.left c.args.source.now) left after
    c.new-then-count-eq0.result.items c.loop-reader.reader c.loop-reader.room c.in_ok-end.field-0 c.loop-reader.invariant.0
    (c.in_ok-count.ensures.end c.if-count-eq0.true) (nothing_taken left c.in_ok-count.count c.read.new.buffer after c.in_ok-count.ensures.taken c.if-count-eq0.true)
    c.new-then-count-eq0.ensures.items c.in_ok-end.ensures.image

pub returns-in_err-used-clause-refused : goal.returns-in_err-used-clause-refused
returns-in_err-used-clause-refused g c =
    let taken = c.loop-reader.invariant.0 in
    IfErr-is c.from_residual-in_err-used.result c.in_err-used.field-0.0
    (λ error. IfSome (g.S.Source.left c.args.source.now) (λ text. LacksImage c.args.rules c.args.tail text error)) c.from_residual-in_err-used.ensures.1
    (refused_piece c.args.rules c.args.tail (g.S.Source.left c.args.source.now) (g.S.Source.left c.loop-reader.source) c.loop-reader.reader c.loop-reader.room
    c.read.new.buffer c.in_ok-count.count (g.S.Source.left c.read.new.self) c.in_err-used.field-0.0 taken c.in_ok-count.ensures.taken
    c.in_err-used.ensures.refused)

pub returns-in_err-end-2-clause-refused : goal.returns-in_err-end-2-clause-refused
returns-in_err-end-2-clause-refused g c =
    let buffer = c.read.new.buffer in
    let fewer : c.in_ok-used.used < length (take c.in_ok-count.count buffer) =
    omega (arith, length-take c.in_ok-count.count buffer, c.in_ok-count.ensures.fits, c.if-used-count.array_long, c.if-used-count.true) in
    absurd (no_fault_at_stop c.ended_texts_stay.ensures.faultless c.loop-reader.reader c.feed_piece.new.reader c.in_ok-used.used c.in_ok-count.count
    (take c.in_ok-count.count buffer) c.in_err-end-2.field-0.0 c.in_ok-used.ensures.text (c.in_ok-used.ensures.stops fewer)
    (c.in_err-end-2.ensures.bad (ap (λ (r : Reading). r.error) c.in_ok-used.ensures.text ∙ c.loop-reader.invariant.0.faultless)))

pub returns-then-used-count-clause-image : goal.returns-then-used-count-clause-image
returns-then-used-count-clause-image g c =
    let buffer = c.read.new.buffer in
    let fewer : c.in_ok-used.used < length (take c.in_ok-count.count buffer) =
    omega (arith, length-take c.in_ok-count.count buffer, c.in_ok-count.ensures.fits, c.if-used-count.array_long, c.if-used-count.true) in
    image_at_stop c.args.rules c.args.tail (g.S.Source.left c.args.source.now) (g.S.Source.left c.loop-reader.source) c.loop-reader.reader c.feed_piece.new.reader
    c.loop-reader.room buffer c.in_ok-count.count c.in_ok-used.used (g.S.Source.left c.read.new.self) c.in_ok-begun.begun.items c.in_ok-end-2.field-0
    c.loop-reader.invariant.0 c.in_ok-count.ensures.taken c.in_ok-used.ensures.text c.in_ok-used.ensures.within.0 c.in_ok-used.ensures.first
    (c.in_ok-used.ensures.stops fewer) (c.in_ok-begun.ensures.items ∙ behind_used c.in_ok-used.used c.in_ok-count.count buffer (omega (arith, c.if-used-count.true)))
    c.in_ok-end-2.ensures.image

pub loop-reader-preserved : goal.loop-reader-preserved
loop-reader-preserved g c =
    let buffer = c.read.new.buffer in
    let size : length (take c.in_ok-count.count buffer) ≡ c.in_ok-count.count =
    grind (arith, length-take, c.in_ok-count.ensures.fits, c.read.auto.buffer) in (
      IsTaken-more c.args.rules c.args.tail (g.S.Source.left c.args.source.now) (g.S.Source.left c.loop-reader.source) c.loop-reader.reader
          c.loop-reader.room buffer c.in_ok-count.count c.in_ok-used.used (g.S.Source.left c.read.new.self) c.feed_piece.new.reader
          c.loop-reader.invariant.0 c.in_ok-count.ensures.taken size c.in_ok-used.ensures.within.0 (λ fewer. absurd (omega (arith, fewer, c.if-used-count.false)))
          c.in_ok-used.ensures.within.1 c.in_ok-used.ensures.text c.in_ok-used.ensures.first,
      c.in_ok-count.ensures.quiet ∙ c.loop-reader.invariant.1,
    )
