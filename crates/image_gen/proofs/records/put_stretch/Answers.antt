use Rattle.image_gen.specs.Records.{record_of}
use Rattle.image_gen.proofs.Parts.{begun, more_records}
use Rattle.image_gen.proofs.records.put_stretch.Goals as goal

pub loop-k-init : goal.loop-k-init
loop-k-init c = begun (record_of c.args.start c.args.bytes.now) c.args.text.now.items

pub loop-k-preserved : goal.loop-k-preserved
loop-k-preserved c =
    rw (c.in_ok-put_record.ensures, c.min-end.ensures)
    (more_records c.args.text.now.items c.loop-k.text.items c.args.start c.loop-k.k c.args.bytes.now c.loop-k.invariant)
