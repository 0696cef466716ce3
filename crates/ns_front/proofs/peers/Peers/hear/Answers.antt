use Rattle.std.proofs.Common.{nat_eq, inl, inr}
use Rattle.std.specs.Cmp.{nat_eq_equiv}
use Rattle.lru.proofs.CallerLemmas.{lookup-put_entries}
use Rattle.ns_front.proofs.Tables.{same, kept, lost}
use Rattle.ns_front.proofs.peers.Peers.hear.Goals as goal

pub returns-in-Ok-clause-here : goal.returns-in-Ok-clause-here
returns-in-Ok-clause-here c =
    rw c.in-Ok.ensures.entries (lookup-put_entries nat_eq c.args.self.now.heard c.args.gateway c.args.addr nat_eq_equiv)

pub returns-in-Ok-clause-same : goal.returns-in-Ok-clause-same
returns-in-Ok-clause-same c = λ is other.
    rw c.in-Ok.ensures.entries (same c.args.self.now.heard c.args.gateway c.args.addr c.len.ensures.valid.0 is other)

pub returns-in-Ok-clause-kept : goal.returns-in-Ok-clause-kept
returns-in-Ok-clause-kept c = λ other ne.
    rw c.in-Ok.ensures.entries (elim (kept c.args.self.now.heard c.args.gateway c.args.addr c.len.ensures.valid other ne) [
      | inl l ↦ inl (record { further = l.0; full = l.1.0; last = l.1.1 })
      | inr stays ↦ inr stays
    ])

pub returns-in-Ok-clause-goes : goal.returns-in-Ok-clause-goes
returns-in-Ok-clause-goes c = λ gone g.
    rw c.in-Ok.ensures.entries (lost c.args.self.now.heard c.args.gateway c.args.addr c.len.ensures.valid gone (g.further, (g.full, g.last)))
