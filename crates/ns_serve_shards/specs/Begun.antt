-- With what a server begins.
use Rattle.std.specs.Prelude.{◌≡◌, vec_len}
use Rattle.ns_types.specs.Identity.{shard_count}
use Rattle.ns_roster.specs.Network.{Network}
use Rattle.ns_server.specs.Begun.{ArePlaced}
use Rattle.ns_serve_shards.specs.declared.begun.Begun.{Begun}

-- sixteen shards of this roster, each at its place
pub record IsBegun (net : Network) (begun : Begun) : Type 0 where
  pub sixteen : vec_len begun.shards ≡ shard_count
  pub places : ArePlaced net begun.shards.items
