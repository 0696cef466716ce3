use Rattle.std.proofs.Common.{ℕ, List, refl, ◌≡◌}
use Rattle.ns_types.specs.declared.identity.WindowName.{WindowName}
use Rattle.ns_types.specs.declared.heard.Heard.{Heard}
use Rattle.ns_roster.specs.Network.{Network}
use Rattle.ns_calls.specs.declared.call.Entry.{Entry}
use Rattle.ns_calls.specs.History.{next_ack}
use Rattle.ns_kept.proofs.RoundsLegal.{many-legal}
use Rattle.ns_kept.proofs.laws.many_rounds_are_legal.Goals as goal

pub returns : goal.returns
returns c = λ (net : Network) (h : List Entry) (n number : ℕ) (frame : List ℕ) (heard : Heard) (w : WindowName) legal told rounds acks. many-legal net n h number frame heard w (next_ack h w.eui w.session) legal told refl rounds acks
