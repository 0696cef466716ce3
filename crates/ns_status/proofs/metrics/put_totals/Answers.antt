use Rattle.std.proofs.Common.{append_assoc}
use Rattle.std.proofs.lemmas.List.{append-nil}
use Rattle.ns_status.specs.Metrics.{open_texts, known_texts, datagram_texts, join_texts}
use Rattle.ns_status.proofs.metrics.put_totals.Goals as goal

pub returns : goal.returns
unfolding open_texts known_texts datagram_texts join_texts
returns c = simp append_assoc (simp append-nil at c.put_singles.ensures)
