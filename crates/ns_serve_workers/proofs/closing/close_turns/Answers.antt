use Rattle.ns_serve_workers.proofs.ReceiptLemmas.{receipts_none, receipts_both}
use Rattle.ns_serve_workers.proofs.closing.close_turns.Goals as goal

pub loop-turn-init : goal.loop-turn-init
loop-turn-init g c = (c.requires, receipts_none _ _ _)

pub loop-turn-preserved : goal.loop-turn-preserved
loop-turn-preserved g c = (c.close_turn.ensures.sound, receipts_both _ _ _ _ _ c.loop-turn.invariant.1 c.close_turn.ensures.receipts)

pub returns-in-Ok-false : goal.returns-in-Ok-false
returns-in-Ok-false g c = receipts_both _ _ _ _ _ c.loop-turn.invariant.1 c.close_turn.ensures.receipts

pub returns-in-Err : goal.returns-in-Err
returns-in-Err g c = receipts_both _ _ _ _ _ c.loop-turn.invariant.1 c.close_turn.ensures.receipts
