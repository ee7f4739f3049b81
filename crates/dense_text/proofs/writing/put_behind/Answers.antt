use Rattle.std.proofs.Common.{rules}
use Rattle.std.proofs.lemmas.Result.{on_err_weaker, on_ok_weaker}
use Rattle.dense_text.proofs.PassLemmas.{all_written, front_written}
use Rattle.dense_text.proofs.writing.put_behind.Goals as goal

pub returns-in-Err-clause-written : goal.returns-in-Err-clause-written
returns-in-Err-clause-written g c =
    on_ok_weaker c.write_all.result
    (λ written. all_written (g.K.Sink.held c.args.sink.now) (g.K.Sink.held c.flush.new.sink) (g.K.Sink.held c.write_all.new.sink)
    c.args.held.now.items c.args.bytes.now c.try_extend_from_slice.new.self.items c.in_ok-flush.ensures.written written (search rules))
    c.write_all.ensures.written

pub returns-in-Err-clause-prefix : goal.returns-in-Err-clause-prefix
returns-in-Err-clause-prefix g c =
    on_err_weaker c.write_all.result
    (front_written (g.K.Sink.held c.args.sink.now) (g.K.Sink.held c.flush.new.sink) (g.K.Sink.held c.write_all.new.sink)
    c.args.held.now.items c.args.bytes.now c.in_ok-flush.ensures.written)
    c.write_all.ensures.prefix
