use Rattle.std.proofs.Common.{ap, sym, ◌∙◌}
use Rattle.ns_resume.proofs.Lines.{ended_by, part_taken, part_ended, part_none}
use Rattle.ns_resume.proofs.line.read_part.Goals as goal

pub returns-then-eq : goal.returns-then-eq
returns-then-eq g c = part_none _ (g.S.Read.remaining c.fill_buf.follows.lender-at-none) (g.S.BufRead.consumable_len c.fill_buf.follows.lender-at-none) _ _ c.fill_buf.follows.holds-at-none

pub returns-then-is_empty : goal.returns-then-is_empty
returns-then-is_empty g c =
    let kept = c.fill_buf.follows.lender-at-none in
    part_ended _ (g.S.Read.remaining kept) (g.S.BufRead.consumable_len kept) _ c.in-Ok.shown.now _ c.in-Ok.ensures.end c.fill_buf.follows.holds-at-none (sym c.is_empty.ensures ∙ c.if-is_empty.true)

pub returns-then-is_whole : goal.returns-then-is_whole
returns-then-is_whole g c =
    let kept = c.fill_buf.follows.lender-at-none in
    let found = c.before_feed-len.ensures in
    part_taken _ (g.S.Read.remaining kept) _ (g.S.BufRead.consumable_len kept) _ c.in-Ok.shown _ _ _ _ _ _ c.in-Ok.ensures.front c.in-Ok.ensures.end c.fill_buf.follows.holds-at-none c.in-Ok.is
    found.within found.no_feed found.feed c.in_ok-extend_from_slice.ensures.items c.from.ensures c.consume.ensures.bytes (ap ended_by c.if-is_whole.true)

pub returns-else-is_whole : goal.returns-else-is_whole
returns-else-is_whole g c =
    let kept = c.fill_buf.follows.lender-at-none in
    let found = c.before_feed-len.ensures in
    part_taken _ (g.S.Read.remaining kept) _ (g.S.BufRead.consumable_len kept) _ c.in-Ok.shown _ _ _ _ _ _ c.in-Ok.ensures.front c.in-Ok.ensures.end c.fill_buf.follows.holds-at-none c.in-Ok.is
    found.within found.no_feed found.feed c.in_ok-extend_from_slice.ensures.items c.from.ensures c.consume.ensures.bytes (ap ended_by c.if-is_whole.false)
