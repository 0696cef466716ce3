use Rattle.ns_server.proofs.Since.{all_left, all_since, count_since}
use Rattle.ns_server.proofs.laws.receipts_since_the_mark_are_all.Goals as goal

pub returns-clause-left : goal.returns-clause-left
returns-clause-left c = all_left

pub returns-clause-whole : goal.returns-clause-whole
returns-clause-whole c = all_since

pub returns-clause-count : goal.returns-clause-count
returns-clause-count c s is = count_since s is.history is.keeps
