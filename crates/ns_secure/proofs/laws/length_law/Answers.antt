use Rattle.ns_secure.proofs.Sizes.{length-mic, length-join_mic, length-session_key}
use Rattle.ns_secure.proofs.laws.length_law.Goals as goal

pub returns-clause-mic : goal.returns-clause-mic
returns-clause-mic c = length-mic

pub returns-clause-join_mic : goal.returns-clause-join_mic
returns-clause-join_mic c = length-join_mic

pub returns-clause-nwk_s_key : goal.returns-clause-nwk_s_key
returns-clause-nwk_s_key c = length-session_key 1

pub returns-clause-app_s_key : goal.returns-clause-app_s_key
returns-clause-app_s_key c = length-session_key 2
