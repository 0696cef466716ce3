use Rattle.std.proofs.Common.{◌≡◌, None, map, drop, option_map}
use Rattle.httparse.specs.Spans.{header_bytes}
use Rattle.ns_status.specs.Request.{hosts_of}
use Rattle.ns_status.proofs.request.host_of.Given as goal

-- what is left behind the one that was found is the whole
abbrev pub invariant-loop-header : goal.invariant-loop-header
invariant-loop-header l = hosts_of (option_map (λ v. v.now) l.host) (map (header_bytes l.bytes) (drop l.header-index l.headers)) ≡ hosts_of None (map (header_bytes l.bytes) l.headers)
