use Rattle.std.proofs.Common.{◌≡◌, length, take, refl, ◌∙◌, arith}
use Rattle.std.specs.Prelude.{IfSome}
use Rattle.std.proofs.lemmas.List.{length-take}
use Rattle.vsa_top.specs.Input.{begun_with}
use Rattle.vsa_top.specs.Scripts.{LacksScript}
use Rattle.vsa_top.proofs.InputLemmas.{IfErr-is}
use Rattle.vsa_top.proofs.ScriptLemmas.{fed_first, fed_more, piece_refused}
use Rattle.vsa_top.proofs.script.script_in.Goals as goal

pub loop-reader-init : goal.loop-reader-init
loop-reader-init g c = (
  fed_first c.new-reader.result c.feed_script.new.reader c.args.begun.now (g.S.Source.left c.args.source.now) c.new-reader.ensures
      c.in_ok-feed_script.ensures.within c.in_ok-feed_script.ensures.fed,
  refl,
)

pub returns-in_err-feed_script-2-clause-refused : goal.returns-in_err-feed_script-2-clause-refused
returns-in_err-feed_script-2-clause-refused g c =
    let second = begun_with c.args.begun.now (g.S.Source.left c.args.source.now) in
    IfErr-is c.from_residual-in_err-feed_script-2.result c.in_err-feed_script-2.field-0.0 (λ error. IfSome second (λ text. LacksScript text error))
    c.from_residual-in_err-feed_script-2.ensures.1
    (piece_refused second (g.S.Source.left c.loop-reader.source) c.loop-reader.reader c.loop-reader.room c.read.new.buffer c.in_ok-count.count
    (g.S.Source.left c.read.new.self) c.in_err-feed_script-2.field-0.0 c.loop-reader.invariant.0 c.in_ok-count.ensures.taken c.in_err-feed_script-2.ensures.refused)

pub loop-reader-preserved : goal.loop-reader-preserved
loop-reader-preserved g c =
    let buffer = c.read.new.buffer in
    let size : length (take c.in_ok-count.count buffer) ≡ c.in_ok-count.count =
    grind (arith, length-take, c.in_ok-count.ensures.fits, c.read.auto.buffer) in (
      fed_more (begun_with c.args.begun.now (g.S.Source.left c.args.source.now)) (g.S.Source.left c.loop-reader.source) c.loop-reader.reader
          c.feed_script-in-loop-reader.new.reader c.loop-reader.room buffer c.in_ok-count.count (g.S.Source.left c.read.new.self)
          c.loop-reader.invariant.0 c.in_ok-count.ensures.taken size c.in_ok-feed_script-2.ensures.within c.in_ok-feed_script-2.ensures.fed,
      c.in_ok-count.ensures.quiet ∙ c.loop-reader.invariant.1,
    )
