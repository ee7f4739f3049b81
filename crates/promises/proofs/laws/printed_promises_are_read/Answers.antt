use Rattle.promises.proofs.Printed.{line_said, said_back}
use Rattle.promises.proofs.laws.printed_promises_are_read.Goals as goal

pub returns : goal.returns
returns c = λ growth line promises promise read there. said_back growth promise (line_said growth promises promise there line read)
