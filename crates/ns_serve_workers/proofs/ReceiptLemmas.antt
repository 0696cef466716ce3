-- Passes whose counts rise by receipts.
use Rattle.std.proofs.Common.{ℕ, List, [], ◌++◌}
use Rattle.std.proofs.lemmas.List.Elements.{All-nil, All-append}
use Rattle.ns_roster.specs.Network.{Network}
use Rattle.ns_outside.specs.declared.receipt.Receipt.{Receipt}
use Rattle.ns_outside.specs.Notice.{Notice, call_replied}
use Rattle.ns_workers.specs.Closing.{HasAnswer}
use Rattle.ns_workers.proofs.Counting.{rises_none, rises_both}
use Rattle.ns_workers.proofs.Doings.{answered_none}
use Rattle.ns_serve_workers.specs.Turns.{HasReceipts}

-- no call was made
pub receipts_none : (net : Network) (has_heard : Notice → Type 0) (counts : List ℕ) → HasReceipts net has_heard counts counts
receipts_none net has_heard counts = record { receipts = []; answered = answered_none net; told = All-nil (λ (r : Receipt). has_heard (call_replied r)); counted = rises_none counts }

-- some calls, and then others
pub receipts_both : (net : Network) (has_heard : Notice → Type 0) (old mid new : List ℕ) → HasReceipts net has_heard old mid → HasReceipts net has_heard mid new → HasReceipts net has_heard old new
receipts_both net has_heard old mid new before after = record {
  receipts = before.receipts ++ after.receipts;
  answered = record { each = All-append (λ (r : Receipt). HasAnswer net r) before.receipts after.receipts before.answered.each after.answered.each };
  told = All-append (λ (r : Receipt). has_heard (call_replied r)) before.receipts after.receipts before.told after.told;
  counted = rises_both old mid new before.receipts after.receipts before.counted after.counted;
}
