-- The counts, in the text format of Prometheus.
use Rattle.std.specs.Prelude.{ℕ, ◌+◌, ◌/◌, ◌%◌, List, [], ◌∷◌, ◌++◌, codes, decimal}
use Rattle.std.specs.Borrow.{Bor}
use Rattle.ns_types.specs.declared.identity.GatewayId.{GatewayId}
use Rattle.ns_roster.specs.Field.{hex_number}
use Rattle.ns_status.specs.declared.metrics.Kind.{Kind}
use Rattle.ns_status.specs.declared.metrics.Kind.TheVariants.{Counter, Gauge, Histogram}
use Rattle.ns_status.specs.declared.metrics.Histogram.{Histogram as names}
use Rattle.ns_status.specs.declared.metrics.Totals.{Totals}

abbrev pub kind_word : Kind → List ℕ
kind_word Counter = codes "counter"
kind_word Gauge = codes "gauge"
kind_word Histogram = codes "histogram"

-- a line: a word, a name, and what is said of it
unfoldable pub line_text : List ℕ → List ℕ → List ℕ → List ℕ
line_text front name said = front ++ name ++ codes " " ++ said ++ codes "\n"

-- what stands before the samples of a name
unfoldable pub family_text : List ℕ → List ℕ → Kind → List ℕ
family_text name help kind = line_text (codes "# HELP ") name help ++ line_text (codes "# TYPE ") name (kind_word kind)

-- a name with one sample
unfoldable pub single_text : List ℕ → List ℕ → Kind → ℕ → List ℕ
single_text name help kind value = family_text name help kind ++ line_text [] name (decimal value)

-- names with one sample each, by their help texts and what the numbers are
abbrev pub singles_text : List (List ℕ × List ℕ × Kind) → List ℕ → List ℕ
singles_text [] values = []
singles_text (row ∷ rows) [] = []
singles_text (row ∷ rows) (value ∷ values) = single_text row.0 row.1 row.2 value ++ singles_text rows values

-- a name, its help text and what its number is, as texts
abbrev pub single : Bor (List ℕ) × Bor (List ℕ) × Kind → List ℕ × List ℕ × Kind
single row = (row.0.now, row.1.now, row.2)

-- what a label says
unfoldable pub label_text : List ℕ → List ℕ → List ℕ
label_text label of = codes "{" ++ label ++ codes "=\"" ++ of ++ codes "\"}"

-- a sample with a label
unfoldable pub labelled_text : List ℕ → List ℕ → List ℕ → ℕ → List ℕ
labelled_text name label of value = name ++ label_text label of ++ codes " " ++ decimal value ++ codes "\n"

-- samples with their names
abbrev pub named_texts : List ℕ → List ℕ → List (List ℕ × ℕ) → List ℕ
named_texts name label [] = []
named_texts name label (sample ∷ samples) = labelled_text name label sample.0 sample.1 ++ named_texts name label samples

-- a sample with its name as text
abbrev pub named : Bor (List ℕ) × ℕ → List ℕ × ℕ
named sample = (sample.0.now, sample.1)

-- samples by their places, from this one on
abbrev pub numbered_texts : List ℕ → List ℕ → ℕ → List ℕ → List ℕ
numbered_texts name label place [] = []
numbered_texts name label place (value ∷ values) = labelled_text name label (decimal place) value ++ numbered_texts name label (place + 1) values

-- a name with samples by their names, and with samples by their places
unfoldable pub named_family : List ℕ → List ℕ → Kind → List ℕ → List (List ℕ × ℕ) → List ℕ
named_family name help kind label samples = family_text name help kind ++ named_texts name label samples

unfoldable pub numbered_family : List ℕ → List ℕ → List ℕ → List ℕ → List ℕ
numbered_family name help label values = family_text name help Counter ++ numbered_texts name label 0 values

-- a name with a number of milliseconds, as seconds with three places
unfoldable pub seconds_text : List ℕ → ℕ → List ℕ
seconds_text name ms = name ++ codes " " ++ decimal (ms / 1000) ++ codes "." ++ decimal (ms / 100 % 10) ++ decimal (ms / 10 % 10) ++ decimal (ms % 10) ++ codes "\n"

-- a name with one sample, a number of milliseconds
unfoldable pub timed_text : List ℕ → List ℕ → Kind → ℕ → List ℕ
timed_text name help kind ms = family_text name help kind ++ seconds_text name ms

-- a histogram of times: what stands before it, its buckets, its sum and its count, each under a name of its own
unfoldable pub histogram_text : names → List (List ℕ × ℕ) → ℕ → ℕ → List ℕ
histogram_text of within sum_ms times =
    family_text of.name.now of.help.now Histogram ++ named_texts of.bucket.now (codes "le") within ++ seconds_text of.sum.now sum_ms ++ line_text [] of.count.now (decimal times)

-- samples by gateways
abbrev pub gateway_texts : List ℕ → List (GatewayId × ℕ) → List ℕ
gateway_texts name [] = []
gateway_texts name (sample ∷ samples) = labelled_text name (codes "gateway") (hex_number 8 sample.0.0) sample.1 ++ gateway_texts name samples

unfoldable pub by_gateway_text : List ℕ → List ℕ → Kind → List (GatewayId × ℕ) → List ℕ
by_gateway_text name help kind samples = family_text name help kind ++ gateway_texts name samples

-- the name of a metric with the label of a gateway, and samples by gateways that are numbers of milliseconds
abbrev pub gateway_name : List ℕ → GatewayId → List ℕ
gateway_name name gateway = name ++ (codes "{gateway=\"" ++ (hex_number 8 gateway.0 ++ codes "\"}"))

abbrev pub timed_gateway_texts : List ℕ → List (GatewayId × ℕ) → List ℕ
timed_gateway_texts name [] = []
timed_gateway_texts name (sample ∷ samples) = seconds_text (gateway_name name sample.0) sample.1 ++ timed_gateway_texts name samples

unfoldable pub timed_by_gateway_text : List ℕ → List ℕ → Kind → List (GatewayId × ℕ) → List ℕ
timed_by_gateway_text name help kind samples = family_text name help kind ++ timed_gateway_texts name samples

-- what came of datagrams
unfoldable pub datagram_texts : Totals → List ℕ
datagram_texts t =
    single_text (codes "lorawan_datagrams_total") (codes "Datagrams of frames that came.") Counter t.read
    ++ single_text (codes "lorawan_lost_datagrams_total") (codes "Datagrams that the system dropped since a socket's buffer was full.") Counter t.lost
    ++ single_text (codes "lorawan_dropped_datagrams_total") (codes "Datagrams for which there was no memory.") Counter t.dropped
    ++ single_text (codes "lorawan_late_datagrams_total") (codes "Late copies, for which no call was made.") Counter t.late
    ++ single_text (codes "lorawan_failed_receives_total") (codes "Receives that failed.") Counter t.unreceived

-- what came of joins, downlinks and lines
unfoldable pub join_texts : Totals → List ℕ
join_texts t =
    single_text (codes "lorawan_unanswered_joins_total") (codes "Joins without an answer that can be used.") Counter t.unanswered
    ++ single_text (codes "lorawan_stale_tickets_total") (codes "Join-Requests that were too old to ask the join server for.") Counter t.stale
    ++ single_text (codes "lorawan_unsent_downlinks_total") (codes "Downlinks that were not sent.") Counter t.unsent
    ++ single_text (codes "lorawan_unwritten_lines_total") (codes "Lines that standard output did not take.") Counter t.unwritten

-- since when the server runs, and what is open
unfoldable pub open_texts : Totals → List ℕ
open_texts t =
    single_text (codes "process_start_time_seconds") (codes "When the server began, since 1970.") Gauge t.start_seconds
    ++ single_text (codes "lorawan_open_windows") (codes "Windows that are open: uplinks whose copies are waited for.") Gauge t.windows
    ++ single_text (codes "lorawan_open_tickets") (codes "Tickets that are open: Join-Requests that wait for the join server.") Gauge t.tickets

-- what is known
unfoldable pub known_texts : Totals → List ℕ
known_texts t =
    single_text (codes "lorawan_devices") (codes "Devices of the roster.") Gauge t.devices
    ++ single_text (codes "lorawan_sessions") (codes "Devices whose session is known.") Gauge t.sessions
    ++ single_text (codes "lorawan_gateways") (codes "Gateways that are known.") Gauge t.gateways

-- refusals and replies by their names, and entries by shard
unfoldable pub list_texts : List (List ℕ × ℕ) → List (List ℕ × ℕ) → List ℕ → List ℕ
list_texts refusals replies entries =
    named_family (codes "lorawan_refusals_total") (codes "Datagrams that were refused, by fault.") Counter (codes "fault") refusals
    ++ named_family (codes "lorawan_replies_total") (codes "Replies, by kind.") Counter (codes "reply") replies
    ++ numbered_family (codes "lorawan_entries_total") (codes "Entries that were made, by shard.") (codes "shard") entries

-- the counts
unfoldable pub metrics_text : Totals → List (List ℕ × ℕ) → List (List ℕ × ℕ) → List ℕ → List ℕ
metrics_text t refusals replies entries = open_texts t ++ known_texts t ++ datagram_texts t ++ join_texts t ++ list_texts refusals replies entries
