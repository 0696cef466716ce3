use Rattle.ns_serve_workers.proofs.workers.AroundWorkGatewayKitBack.work.Goals as goal

pub returns : goal.returns
returns g c = record {
  served = c.run_gateway-served.result;
  serves = rw (c.args.kit.own.unused, c.shared.ensures.output, c.shared.ensures.monitor, c.window_ms.ensures) at c.run_gateway-served.ensures.serves;
  ended = c.fault_of-fault.ensures;
}
