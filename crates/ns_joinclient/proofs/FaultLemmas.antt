-- Which results and faults are others.
use Rattle.std.proofs.Common.{◌≢◌, Result, Ok, Err}
use Rattle.ns_exchange.specs.declared.fault.AskFault.{AskFault}
use Rattle.ns_exchange.specs.declared.fault.AskFault.TheVariants.{Write, Ended, BadHead, TooLong, NoMemory}
use Rattle.ns_joinclient.specs.Reading.{IsShown}

pub error_is_no_value : {A E : Type 0} (x : A) (e : E) → Err e ≢ Ok x
error_is_no_value x e q = cc

pub ended_is_no_write : Ended ≢ Write
ended_is_no_write q = cc

pub bad_head_shown : IsShown BadHead
bad_head_shown = ((λ q. cc), (λ q. cc), (λ q. cc))

pub too_long_shown : IsShown TooLong
too_long_shown = ((λ q. cc), (λ q. cc), (λ q. cc))

pub too_long_is_no_write : TooLong ≢ Write
too_long_is_no_write q = cc

pub write_is_not_ended : {A : Type 0} → ◌≢◌ {A = Result A AskFault} (Err Write) (Err Ended)
write_is_not_ended q = cc

pub write_is_no_memory : {A : Type 0} → ◌≢◌ {A = Result A AskFault} (Err Write) (Err NoMemory)
write_is_no_memory q = cc
