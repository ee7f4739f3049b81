use Rattle.cert_text.proofs.cert.Cert.first.Goals as goal

pub returns-clause-lines : goal.returns-clause-lines
returns-clause-lines g c = rw (← c.self.view_is) c.self.invariant.1.lines
