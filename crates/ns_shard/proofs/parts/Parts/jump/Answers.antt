use Rattle.std.proofs.Common.{◌≡◌, suc, ◌+◌, ◌<◌, ◌^◌, ap, ◌∙◌, arith}
use Rattle.ns_shard.specs.State.{after_trim}
use Rattle.ns_shard.proofs.Jumps.{parts-end, parts-two, parts-jump}
use Rattle.ns_shard.proofs.parts.Parts.jump.Goals as goal

pub go_on-requires-clause-ends : goal.go_on-requires-clause-ends
go_on-requires-clause-ends c =
    let w = c.in_ok-window.window in
    let one : w.round + 1 < 2 ^ 32 = omega arith in
    parts-end c.args.self.now c.requires.agree c.args.frame.now c.args.heard.now c.requires.own w c.in_ok-window.ack c.in_ok-window.ensures.run c.trim_in_place.new.self
    (c.in_ok-trim_in_place.ensures.state ∙ ap after_trim c.in_ok-window.ensures.state) one

pub go_on-requires-clause-two : goal.go_on-requires-clause-two
go_on-requires-clause-two c =
    let w = c.in_ok-window.window in
    let one : w.round + 1 < 2 ^ 32 = omega arith in
    parts-two c.args.self.now c.requires.agree c.args.frame.now c.args.heard.now c.requires.own w c.in_ok-window.ack c.in_ok-window.ensures.run c.trim_in_place.new.self
    (c.in_ok-trim_in_place.ensures.state ∙ ap after_trim c.in_ok-window.ensures.state) one

pub returns-clause-state : goal.returns-clause-state
returns-clause-state c =
    let w = c.in_ok-window.window in
    let more = c.in-Some.more in
    let fits : w.round + more < 2 ^ 32 = omega arith in
    let acks : c.in_ok-window.ack + more < 2 ^ 32 = omega arith in
    let count : c.args.rounds ≡ suc more = omega (arith, c.in-Some.ensures) in
    parts-jump c.args.self.now c.requires.agree c.args.frame.now c.args.heard.now c.requires.own w c.in_ok-window.ack c.in_ok-window.ensures.run c.trim_in_place.new.self
    (c.in_ok-trim_in_place.ensures.state ∙ ap after_trim c.in_ok-window.ensures.state) more c.args.rounds (omega arith) count fits acks _ c.go_on.ensures.state
