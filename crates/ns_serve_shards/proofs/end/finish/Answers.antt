use Rattle.std.proofs.Common.{◌≡◌, Bool, true, false, List, ℕ, Option, sym, ◌∙◌, subst, rules}
use Rattle.std.specs.Io.KnownBytes.{Appends, append_known}
use Rattle.ns_serve_shards.specs.Closing.{roster_text, last_lines}
use Rattle.ns_serve_parts.specs.Lines.{line}
use Rattle.ns_serve_streams.specs.Output.{EndsIn, settled_line}
use Rattle.ns_serve_streams.proofs.OutputLemmas.{ends_in, ends_in_both}
use Rattle.ns_serve_shards.proofs.end.finish.Goals as goal

pub returns-then-not-closing-clause-text : goal.returns-then-not-closing-clause-text
returns-then-not-closing-clause-text g c =
    let off : c.args.closing ≡ false = search rules in
    let told : Option (List ℕ) = append_known (g.W.Sink.taken c.args.output.now.writer) c.args.output.now.lines.items in
    let drained : Option (List ℕ) = append_known (g.W.Sink.taken c.drain.new.output.writer) c.drain.new.output.lines.items in
    let written : Option (List ℕ) = g.W.Sink.taken c.put_settled.new.self.writer in
    subst (λ (b : Bool). EndsIn told written (last_lines g.B.Naming.roster c.drain.new.settled c.total-total.result b)) (sym off)
    (ends_in told drained written (settled_line c.total-total.result) c.in_ok-drain.ensures.grows c.in_ok-put_settled.ensures.ok)

pub returns-clause-text : goal.returns-clause-text
returns-clause-text g c =
    let on : c.args.closing ≡ true = search rules in
    let told : Option (List ℕ) = append_known (g.W.Sink.taken c.args.output.now.writer) c.args.output.now.lines.items in
    let drained : Option (List ℕ) = append_known (g.W.Sink.taken c.drain.new.output.writer) c.drain.new.output.lines.items in
    let settled : Option (List ℕ) = g.W.Sink.taken c.put_settled-2.new.self.writer in
    let waiting : List ℕ = c.put_settled-2.new.self.lines.items in
    let written : Option (List ℕ) = g.W.Sink.taken c.put_closing.new.self.writer in
    let text : c.as_str.result.now ≡ roster_text g.B.Naming.roster c.drain.new.settled = c.as_str.ensures.value ∙ c.in-Ok.ensures in
    let last : Appends (append_known settled waiting) written (line (roster_text g.B.Naming.roster c.drain.new.settled)) =
    subst (λ (bs : List ℕ). Appends (append_known settled waiting) written (line bs)) text c.in_ok-put_closing.ensures in
    subst (λ (b : Bool). EndsIn told written (last_lines g.B.Naming.roster c.drain.new.settled c.total-total.result b)) (sym on)
    (ends_in_both told drained settled written waiting (settled_line c.total-total.result) (line (roster_text g.B.Naming.roster c.drain.new.settled))
    c.in_ok-drain.ensures.grows c.in_ok-put_settled-2.ensures.ok c.in_ok-put_settled-2.ensures.empty last)
