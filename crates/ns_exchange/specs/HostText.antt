-- The text of a host's name.
use Rattle.std.specs.Prelude.{ℕ, List}
use Rattle.ns_exchange.specs.declared.host.HostName.{HostName}

abbrev pub host_text : HostName → List ℕ
host_text host = host.name.now
