use Rattle.std.proofs.Common.{sym, ◌∙◌, arith}
use Rattle.ns_responses.proofs.LinesLemmas.{ended_section, full_section, open_section}
use Rattle.ns_responses.proofs.section.section_in.Goals as goal

pub returns-in-Some-clause-known : goal.returns-in-Some-clause-known
returns-in-Some-clause-known c =
    let ends = c.in-Some.ensures.end in
    let begins = sym c.starts_with.ensures.value ∙ c.if-not-starts_with.false in
    (ends.0, ended_section c.args.text.now c.args.bytes.now c.in-Some.end (omega (arith, c.if-bytes-text.false)) c.requires.short.1 begins ends.1)

pub returns-in-None-clause-known : goal.returns-in-None-clause-known
returns-in-None-clause-known c = full_section c.args.text.now c.args.bytes.now c.if-bytes-ge-ROOM.true c.requires.short.1 c.in-None.ensures.none

pub returns-in-None-2-clause-none : goal.returns-in-None-2-clause-none
returns-in-None-2-clause-none c = open_section c.args.text.now c.args.bytes.now c.requires.short.1 c.in-None-2.ensures.none
