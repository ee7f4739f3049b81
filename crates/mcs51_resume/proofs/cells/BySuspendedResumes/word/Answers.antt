use Rattle.mcs51_resume.proofs.cells.BySuspendedResumes.word.Goals as goal

pub returns-clause-byte : goal.returns-clause-byte
returns-clause-byte g c = λ byte one. c.resume_word.ensures.small (byte one)
