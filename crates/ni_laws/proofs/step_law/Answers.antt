use Rattle.ni_laws.specs.Agreement.{accepted_code}
use Rattle.ni_laws.proofs.Law.{facts_of}
use Rattle.ni_laws.proofs.Runs.{step_alike}
use Rattle.ni_laws.proofs.step_law.Goals as goal

pub returns : goal.returns
returns c = λ image accepted size core mine yours good prefix code agree.
    step_alike (accepted_code image accepted) (facts_of image accepted good prefix code) size core mine yours agree
