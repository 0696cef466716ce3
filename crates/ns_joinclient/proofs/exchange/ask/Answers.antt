use Rattle.std.proofs.Common.{refl, inl, inr}
use Rattle.std.specs.Io.KnownBytes.{Appends}
use Rattle.ns_exchange.specs.HostText.{host_text}
use Rattle.ns_joinclient.specs.Request.{request}
use Rattle.ns_joinclient.proofs.FaultLemmas.{write_is_not_ended, write_is_no_memory}
use Rattle.ns_joinclient.proofs.AskLemmas.{answer_clause, fault_clause, ended_clause, memory_clause, failed_clause, few_written, few_read, on_ok, on_err}
use Rattle.ns_joinclient.proofs.exchange.ask.Goals as goal

pub returns-clause-answer : goal.returns-clause-answer
returns-clause-answer g c =
    let written : Appends (g.S.Sink.taken c.args.stream.now) (g.S.Sink.taken c.send.new.sink) (request (host_text c.args.host) c.args.body.now) = on_ok _ c.send.result c.if-is_err.ensures.value c.send.ensures.ok in
    answer_clause g.S.Sink.taken g.S.Source.left _ _ _ _ _ _ _ written c.read_answer.ensures.answered

pub returns-clause-fault : goal.returns-clause-fault
returns-clause-fault g c =
    let written : Appends (g.S.Sink.taken c.args.stream.now) (g.S.Sink.taken c.send.new.sink) (request (host_text c.args.host) c.args.body.now) = on_ok _ c.send.result c.if-is_err.ensures.value c.send.ensures.ok in
    fault_clause g.S.Sink.taken g.S.Source.left _ _ _ _ _ _ _ written c.read_answer.ensures.answered

pub returns-clause-ended : goal.returns-clause-ended
returns-clause-ended g c =
    let written : Appends (g.S.Sink.taken c.args.stream.now) (g.S.Sink.taken c.send.new.sink) (request (host_text c.args.host) c.args.body.now) = on_ok _ c.send.result c.if-is_err.ensures.value c.send.ensures.ok in
    ended_clause g.S.Sink.taken g.S.Source.left _ _ _ _ _ _ _ written c.read_answer.ensures.answered

pub returns-clause-memory : goal.returns-clause-memory
returns-clause-memory g c =
    let written : Appends (g.S.Sink.taken c.args.stream.now) (g.S.Sink.taken c.send.new.sink) (request (host_text c.args.host) c.args.body.now) = on_ok _ c.send.result c.if-is_err.ensures.value c.send.ensures.ok in
    memory_clause g.S.Sink.taken g.S.Source.left _ _ _ _ _ _ _ written c.read_answer.ensures.answered

pub returns-then-is_err-clause-unwritten : goal.returns-then-is_err-clause-unwritten
returns-then-is_err-clause-unwritten g c = λ q. (on_err _ c.send.result c.if-is_err.ensures.value c.send.ensures.failed, c.send.ensures.front)

pub returns-then-is_err-clause-answer : goal.returns-then-is_err-clause-answer
returns-then-is_err-clause-answer g c = tt

pub returns-then-is_err-clause-fault : goal.returns-then-is_err-clause-fault
returns-then-is_err-clause-fault g c = λ shown. absurd (shown.0 refl)

pub returns-then-is_err-clause-ended : goal.returns-then-is_err-clause-ended
returns-then-is_err-clause-ended g c = λ q. absurd (write_is_not_ended q)

pub returns-then-is_err-clause-memory : goal.returns-then-is_err-clause-memory
returns-then-is_err-clause-memory g c = λ q. absurd (write_is_no_memory q)

pub returns-then-is_err-clause-failed : goal.returns-then-is_err-clause-failed
returns-then-is_err-clause-failed g c = λ q. inl refl

pub returns-clause-unwritten : goal.returns-clause-unwritten
returns-clause-unwritten g c = λ q. absurd (c.read_answer.ensures.written q)

pub returns-clause-failed : goal.returns-clause-failed
returns-clause-failed g c = λ f. inr (failed_clause _ _ _ _ _ c.read_answer.ensures.answered f)

pub read_answer-requires : goal.read_answer-requires
read_answer-requires g c = on_ok _ c.send.result c.if-is_err.ensures.value c.send.ensures.sound

pub returns-then-is_err-clause-bounded : goal.returns-then-is_err-clause-bounded
returns-then-is_err-clause-bounded g c = few_written g.S.Sink.taken g.S.Source.left _ _ _ _ c.send.ensures.front

pub returns-clause-bounded : goal.returns-clause-bounded
returns-clause-bounded g c =
    let written : Appends (g.S.Sink.taken c.args.stream.now) (g.S.Sink.taken c.send.new.sink) (request (host_text c.args.host) c.args.body.now) = on_ok _ c.send.result c.if-is_err.ensures.value c.send.ensures.ok in
    few_read g.S.Sink.taken g.S.Source.left _ _ _ _ _ _ _ c.read_answer.ensures.written written c.read_answer.ensures.answered
