use Rattle.std.proofs.Common.{ℕ, List}
use Rattle.ns_types.specs.declared.identity.WindowName.{WindowName}
use Rattle.ns_types.specs.declared.heard.Heard.{Heard}
use Rattle.ns_calls.specs.declared.call.Entry.{Entry}
use Rattle.ns_kept.proofs.ManyRounds.{kept-many, kept_before-trimmed}
use Rattle.ns_kept.proofs.laws.the_last_of_many_rounds_is_kept.Goals as goal

pub returns-clause-trimmed : goal.returns-clause-trimmed
returns-clause-trimmed c = λ (h entries : List Entry) (number next : ℕ) (frame : List ℕ) (heard : Heard) (w : WindowName) (ack : ℕ) shut trimmed. kept_before-trimmed h number next frame heard w ack shut entries trimmed

pub returns-clause-many : goal.returns-clause-many
returns-clause-many c = λ (h entries : List Entry) (n number : ℕ) (frame : List ℕ) (heard : Heard) (w : WindowName) (ack : ℕ). kept-many n h entries number frame heard w ack
