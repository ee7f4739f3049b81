use Rattle.std.proofs.Common.{◌≡◌, ◌≤◌, ◌-◌, length, take}
use Rattle.streams.specs.Stream.{appended}
use Rattle.streams.proofs.stream.write_all.Given as goal

-- a front of the bytes is written, and no fault was counted
abbrev pub invariant-loop-written : goal.invariant-loop-written
invariant-loop-written g l = record {
  in_range : l.written ≤ length l.bytes;
  front : g.K.Sink.held l.sink ≡ appended (g.K.Sink.held l.initial.sink) (take l.written l.bytes);
  quiet : g.K.Sink.faults l.sink ≡ g.K.Sink.faults l.initial.sink;
}

abbrev pub decreases-loop-written : goal.decreases-loop-written
decreases-loop-written g l = length l.bytes - l.written
