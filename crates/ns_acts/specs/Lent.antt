-- Acts whose bytes are lent, and their steps.
use Rattle.std.specs.Prelude.{ℕ}
use Rattle.ns_acts.specs.declared.step.Act.{Act}
use Rattle.ns_acts.specs.declared.step.Act.TheVariants as act
use Rattle.ns_acts.specs.declared.step.LentAct.{LentAct}
use Rattle.ns_acts.specs.declared.step.LentAct.TheVariants.{Datagram, Answer, Lost, Close}
use Rattle.ns_acts.specs.declared.step.Step.{Step}

-- the act that is lent
abbrev pub act_lent : LentAct → Act
act_lent (Datagram bytes) = act.Datagram bytes.now
act_lent (Answer ticket body) = act.Answer ticket body.now
act_lent (Lost ticket) = act.Lost ticket
act_lent (Close window) = act.Close window

-- the step of a worker
abbrev pub step_lent : ℕ → LentAct → Step
step_lent worker act = record { worker = worker; act = act_lent act }
