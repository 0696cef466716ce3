-- The texts of the metrics, as they are put.
use Rattle.std.proofs.Common.{◌≡◌, ℕ, List, [], ◌++◌, codes, decimal, append_assoc}
use Rattle.ns_status.specs.declared.metrics.Totals.{Totals}
use Rattle.ns_status.specs.declared.metrics.Kind.TheVariants.{Counter}
use Rattle.ns_status.specs.Metrics.{label_text, labelled_text, named_family, numbered_family, open_texts, known_texts, datagram_texts, join_texts, list_texts, metrics_text}

-- nine texts, of which five stand for a label
labelled-assoc : (b c d e f g h i j : List ℕ)
    → b ++ (c ++ (d ++ (e ++ (f ++ (g ++ (h ++ (i ++ j))))))) ≡ b ++ (c ++ d ++ e ++ f ++ g) ++ h ++ i ++ j
labelled-assoc b c d e f g h i j = simp append_assoc

-- a sample with a label, as its parts
pub labelled_text-parts : (name label of : List ℕ) (value : ℕ)
    → name ++ (codes "{" ++ (label ++ (codes "=\"" ++ (of ++ (codes "\"} " ++ (decimal value ++ (codes "\n" ++ []))))))) ≡ labelled_text name label of value
unfolding label_text labelled_text
labelled_text-parts name label of value = labelled-assoc name (codes "{") label (codes "=\"") of (codes "\"}") (codes " ") (decimal value) (codes "\n")

-- all counts: those of one number each, and then one name after the other
pub metrics_text-families : (t : Totals) (refusals replies : List (List ℕ × ℕ)) (entries : List ℕ)
    → metrics_text t refusals replies entries
    ≡ (open_texts t ++ known_texts t ++ datagram_texts t ++ join_texts t)
    ++ named_family (codes "lorawan_refusals_total") (codes "Datagrams that were refused, by fault.") Counter (codes "fault") refusals
    ++ named_family (codes "lorawan_replies_total") (codes "Replies, by kind.") Counter (codes "reply") replies
    ++ numbered_family (codes "lorawan_entries_total") (codes "Entries that were made, by shard.") (codes "shard") entries
unfolding metrics_text list_texts
metrics_text-families t refusals replies entries = simp append_assoc
