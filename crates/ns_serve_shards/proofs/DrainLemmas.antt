-- What is written while windows are closed at the end.
use Rattle.std.proofs.Common.{ℕ, List, Option, Result, Ok, Err}
use Rattle.std.specs.Prelude.{OnOk}
use Rattle.ns_calls.specs.declared.answer.Uplink.{Uplink}
use Rattle.ns_output.specs.declared.output.Output.{Output}
use Rattle.ns_serve_streams.specs.Output.{Grows}
use Rattle.ns_serve_streams.proofs.OutputLemmas.{grows_more}
use Rattle.ns_workers.specs.Lines.{AppendsLine, uplink_line}

-- one line more
pub grows_line : (out : Output) (a b c : Option (List ℕ)) (uplink : Option Uplink) → Grows a b → AppendsLine out b c uplink → Grows a c
grows_line out a b c uplink before now = grows_more a b c (uplink_line out now.0 uplink) before now.1

-- some text more
pub grows_some : (a b c : Option (List ℕ)) → Grows a b → Grows b c → Grows a c
grows_some a b c before now = grows_more a b c now.0 before now.1

-- the same where the last text may fail
pub grows_end : {A E : Type 0} (r : Result A E) (a b c : Option (List ℕ)) → Grows a b → OnOk r (Grows b c) → OnOk r (Grows a c)
grows_end (Ok x) a b c before now = grows_some a b c before now
grows_end (Err e) a b c before now = tt
