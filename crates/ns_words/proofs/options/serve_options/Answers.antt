use Rattle.std.proofs.Common.{◌∙◌, codes, inr}
use Rattle.clap.specs.Words.{found_of, rows_of}
use Rattle.clap.proofs.WalkLemmas.{first_value-rows}
use Rattle.ns_words.specs.declared.options.OptionName.TheVariants.{Output}
use Rattle.ns_words.proofs.RefusedLemmas.{is_address, one_worker, read_on, refused_for}
use Rattle.ns_words.proofs.options.serve_options.Goals as goal

pub returns-in_err-addresses : goal.returns-in_err-addresses
returns-in_err-addresses c = read_on c.from_residual.result _ _ c.in_err-addresses.field-0.0 c.in_err-addresses.ensures c.from_residual.ensures.1

pub returns-in_err-workers : goal.returns-in_err-workers
returns-in_err-workers c = read_on c.from_residual-in_err-workers.result _ _ c.in_err-workers.field-0.0 c.in_err-workers.ensures c.from_residual-in_err-workers.ensures.1

pub returns-in_err-limits : goal.returns-in_err-limits
returns-in_err-limits c = read_on c.from_residual-in_err-limits.result _ _ c.in_err-limits.field-0.0 c.in_err-limits.ensures c.from_residual-in_err-limits.ensures.1

pub returns-in_err-output : goal.returns-in_err-output
returns-in_err-output c = refused_for c.from_residual-in_err-output.result _ _ Output c.in_err-output.field-0.0 c.in_err-output.ensures.refused.0 c.in_err-output.ensures.refused.1 c.from_residual-in_err-output.ensures.1

pub returns-then-is_one_for_both : goal.returns-then-is_one_for_both
returns-then-is_one_for_both c =
    let rows = rows_of (found_of c.args.found.now) in
    let a = c.in_ok-addresses.ensures in
    let w = c.in_ok-workers.ensures in
    let one = c.is_one_for_both.ensures.one c.if-is_one_for_both.true in
    inr (is_address (codes "listen") rows _ a.listen one.0, is_address (codes "forwarders") rows _ a.forwarders one.1, one_worker rows _ w.workers one.2)

pub returns : goal.returns
returns c =
    let a = c.in_ok-addresses.ensures in
    let w = c.in_ok-workers.ensures in
    let l = c.in_ok-limits.ensures in (
      ((w.workers.1, w.workers.2), (w.join_workers.1, w.join_workers.2)),
      record {
        join = a.join;
        host = a.host;
        listen = a.listen;
        forwarders = a.forwarders;
        power = a.power;
        status = w.status;
        status_host = c.get_str.ensures ∙ first_value-rows (found_of c.args.found.now) (codes "status-host");
        workers = w.workers;
        join_workers = w.join_workers;
        window_ms = l.window_ms;
        stop_after = l.stop_after;
        stop_at_end = l.stop_at_end;
        trim = l.trim;
        output = c.in_ok-output.ensures.output;
        events = c.flag.ensures;
        closing = c.flag-2.ensures;
        both = c.is_one_for_both.ensures.more c.if-is_one_for_both.false;
      },
    )
