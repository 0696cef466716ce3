-- Receipts.
use Rattle.std.specs.Prelude.{ℕ, None}
use Rattle.ns_calls.specs.declared.call.Call.{Call}
use Rattle.ns_calls.specs.declared.call.Call.TheVariants.{Close}
use Rattle.ns_calls.specs.declared.call.Reply.TheVariants.{NoWindow}
use Rattle.ns_calls.specs.declared.answer.Answer.{Answer}
use Rattle.ns_outside.specs.declared.receipt.Receipt.{Receipt}

-- the receipt of no call: its entry is of a closing that found no window
abbrev pub empty_receipt : Receipt
empty_receipt = record {
  shard = 0;
  entry = record { number = 0; call = Close (record { eui = record { 0 = 0 }; session = 0; fcnt = 0; round = 0 }); reply = NoWindow };
  uplink = None;
  downlink = None;
}

-- the receipt of a call that made the entry of this number, with this answer
abbrev pub receipt_of : ℕ → ℕ → Call → Answer → Receipt
receipt_of shard number call a =
    record { shard = shard; entry = record { number = number; call = call; reply = a.reply }; uplink = a.uplink; downlink = a.downlink }
