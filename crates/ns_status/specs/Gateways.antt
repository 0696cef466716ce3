-- What is known of gateways.
use Rattle.std.specs.Prelude.{ℕ, ◌+◌, ◌-◌, ◌^◌, min, max, List, replicate, Option, Some, None, unwrap_or, nat_eq}
use Rattle.std.specs.Map.{lookup}
use Rattle.ns_types.specs.declared.identity.GatewayId.{GatewayId}
use Rattle.lru.specs.LruCache.{lru_cache, put_entries}
use Rattle.ns_status.specs.Airtime.{added_at, no_slot, slot_of}
use Rattle.ns_status.specs.declared.gateways.Gateway.{Gateway}
use Rattle.ns_status.specs.declared.gateways.Sign.{Sign}
use Rattle.ns_status.specs.declared.gateways.Sign.TheVariants.{Frame, Pull, Stat, Sent, Refused}
use Rattle.ns_status.specs.declared.gateways.Gateways.{Gateways}

-- the gateways, the one heard last first, and how many there may be
abbrev pub known : Gateways → List (ℕ × Gateway)
known g = g.list.entries

abbrev pub most_known : Gateways → ℕ
most_known g = g.list.cap

-- what is known of a gateway
abbrev pub gateway_at : Gateways → ℕ → Option Gateway
gateway_at g number = lookup (nat_eq number) (known g)

-- a gateway of which nothing is known
abbrev pub unheard : Gateway
unheard = record { frames = 0; frame_ms = None; pull_ms = None; stat_ms = None; sent = 0; refused = 0; airtime = record { slots = replicate 12 no_slot } }

-- a counter of 64 bits, counted once more
abbrev pub more : ℕ → ℕ
more n = min (n + 1) (2 ^ 64 - 1)

-- a gateway after a sign of it
abbrev pub changed : Gateway → Sign → ℕ → Gateway
changed g Frame now = record g { frames = more g.frames; frame_ms = Some now }
changed g Pull now = record g { pull_ms = Some now }
changed g Stat now = record g { stat_ms = Some now }
changed g (Sent us) now = record g { sent = more g.sent; airtime = record { slots = added_at g.airtime.slots (slot_of now) us } }
changed g Refused now = record g { refused = more g.refused }

-- when it was last heard: the latest of the three times that are known
abbrev pub later : Option ℕ → Option ℕ → Option ℕ
later None b = b
later (Some a) None = Some a
later (Some a) (Some b) = Some (max a b)

abbrev pub heard_ms : Gateway → Option ℕ
heard_ms g = later (later g.frame_ms g.pull_ms) g.stat_ms

-- the gateways after a sign of one of them: it comes first, and where it is a further one and there is no room, the last goes
abbrev pub after_sign : Gateways → ℕ → Sign → ℕ → List (ℕ × Gateway)
after_sign g number sign now = put_entries nat_eq (lru_cache (known g) (most_known g)) number (changed (unwrap_or (gateway_at g number) unheard) sign now)

-- a gateway by its identity
abbrev pub with_id : ℕ × Gateway → GatewayId × Gateway
with_id row = (record { 0 = row.0 }, row.1)
