use Rattle.std.proofs.Common.{rules}
use Rattle.streams.specs.Untold.{untold_ok, untold_err}
use Rattle.vsa_cli.proofs.output.OutputSink.TheImpl.Goals as goal

pub write-tells : goal.write-tells
write-tells g c = record {
  fits = search rules;
  written = untold_ok c.result;
  refused = untold_err c.result;
  cause = search rules;
  stalled = search rules;
  quiet = search rules;
  nothing_to_do = search rules;
  never_falls = search rules;
}
