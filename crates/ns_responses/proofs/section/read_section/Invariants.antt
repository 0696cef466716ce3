use Rattle.std.proofs.Common.{◌≡◌, ◌-◌, ℕ, List, [], ◌++◌, false, length}
use Rattle.std.specs.Io.KnownBytes.{Consumes}
use Rattle.ns_responses.specs.Held.{unready}
use Rattle.ns_responses.specs.Finding.{IsSearchOf}
use Rattle.ns_responses.proofs.section.read_section.Given as goal

abbrev pub invariant-loop-found : goal.invariant-loop-found
invariant-loop-found g l = record {
  read : (piece : List ℕ) × (l.held ≡ unready (l.initial.held.unread ++ piece)) × Consumes (g.S.Source.left l.initial.source) (g.S.Source.left l.source) piece;
  ready : l.held.ready ≡ [];
  sound : g.S.Stream.has_failed l.source ≡ false;
  searched : IsSearchOf l.search l.held.unread;
}

abbrev pub decreases-loop-found : goal.decreases-loop-found
decreases-loop-found g l = 4096 - length l.held.unread
