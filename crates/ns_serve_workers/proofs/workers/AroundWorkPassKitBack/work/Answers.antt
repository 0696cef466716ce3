use Rattle.ns_serve_workers.proofs.workers.AroundWorkPassKitBack.work.Goals as goal

pub returns : goal.returns
returns g c = (
  c.new-connections.result,
  c.new-connections.ensures.addr,
  c.new-connections.ensures.limit,
  record {
    joined = c.run_join-joined.result;
    answers = rw (c.args.kit.unused, c.shared.ensures.monitor) at c.run_join-joined.ensures.answers;
    ended = c.fault_of-fault.ensures;
  },
)
