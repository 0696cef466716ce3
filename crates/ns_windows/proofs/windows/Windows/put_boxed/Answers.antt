use Rattle.std.proofs.Common.{◌≡◌, ◌+◌, ◌==◌, ◌++◌, ◌∷◌, [], cond, bytes_eq, Some, refl, ap, ◌∙◌}
use Rattle.std.specs.Map.{lookup}
use Rattle.ns_windows.specs.declared.window.Window.{Window}
use Rattle.ns_windows.specs.Windows.{window_named, window_of_frame}
use Rattle.ns_windows.specs.Places.{opened, count_in}
use Rattle.ns_windows.proofs.Held.{numbers-same, opened-push, held-cleared, held-pushed, numbers-fit}
use Rattle.ns_windows.proofs.windows.Windows.put_boxed.Goals as goal

pub invariant_of-self-in_err-frame : goal.invariant_of-self-in_err-frame
invariant_of-self-in_err-frame c =
    held-cleared c.self.inside.names.entries c.self.inside.first c.self.inside.frames.entries c.self.inside.counts.entries c.self.invariant
    c.clear-self-inside.new.names.entries c.reserve.new.self.entries c.clear-self-inside.result c.self.inside.frames.entries c.reserve-2.new.self.entries
    c.clear-self-inside.ensures.named c.clear-self-inside.ensures.windows c.clear-self-inside.ensures.first c.reserve.ensures.entries refl (numbers-same c.self.inside.counts.entries c.reserve-2.new.self.entries c.reserve-2.ensures.entries.2)

pub invariant_of-self-in_err-insert : goal.invariant_of-self-in_err-insert
invariant_of-self-in_err-insert c =
    held-cleared c.self.inside.names.entries c.self.inside.first c.self.inside.frames.entries c.self.inside.counts.entries c.self.invariant
    c.clear-self-inside.new.names.entries c.reserve.new.self.entries c.clear-self-inside.result c.insert.new.self.entries c.reserve-2.new.self.entries
    c.clear-self-inside.ensures.named c.clear-self-inside.ensures.windows c.clear-self-inside.ensures.first c.reserve.ensures.entries c.in_err-insert.ensures.err (numbers-same c.self.inside.counts.entries c.reserve-2.new.self.entries c.reserve-2.ensures.entries.2)

pub count_up-requires-clause-fits : goal.count_up-requires-clause-fits
count_up-requires-clause-fits c =
    numbers-fit c.self.inside.names.entries c.self.inside.first c.self.inside.frames.entries c.self.inside.counts.entries c.self.invariant
    c.clear-self-inside.new.names.entries c.reserve-2.new.self.entries c.as_ref.result.now.name.eui.0 c.clear-self-inside.ensures.windows c.clear-self-inside.ensures.fits (numbers-same c.self.inside.counts.entries c.reserve-2.new.self.entries c.reserve-2.ensures.entries.2)

pub invariant_of-self-2 : goal.invariant_of-self-2
invariant_of-self-2 c =
    let w = c.args.window in
    let es = c.reserve.new.self.entries in
    let cleared =
    held-cleared c.self.inside.names.entries c.self.inside.first c.self.inside.frames.entries c.self.inside.counts.entries c.self.invariant
    c.clear-self-inside.new.names.entries es c.clear-self-inside.result c.self.inside.frames.entries c.reserve-2.new.self.entries
    c.clear-self-inside.ensures.named c.clear-self-inside.ensures.windows c.clear-self-inside.ensures.first c.reserve.ensures.entries refl (numbers-same c.self.inside.counts.entries c.reserve-2.new.self.entries c.reserve-2.ensures.entries.2) in
    let same : opened es ≡ c.args.self.now = ap opened c.reserve.ensures.entries ∙ c.clear-self-inside.ensures.windows ∙ c.self.view_is in
    let frame : c.in_ok-frame.frame ≡ w.frame = c.in_ok-frame.ensures ∙ c.bytes.ensures.bytes ∙ ap (λ (v : Window). v.frame) c.as_ref-2.ensures in
    held-pushed es c.clear-self-inside.result c.self.inside.frames.entries c.reserve-2.new.self.entries cleared w c.push.new.names.entries c.insert.new.self.entries c.count_up.new.counts.entries
    (ap (window_named w.name) same ∙ c.requires.name) (ap (window_of_frame w.frame) same ∙ c.requires.frame) c.push.ensures.named c.push.ensures.entries
    (λ q. c.in_ok-insert.ensures.updates.0 q ∙ (λ i. cond (bytes_eq (frame i) q) (Some (c.as_ref.ensures i).name) (lookup (λ k. bytes_eq q k) c.self.inside.frames.entries)))
    (λ k. c.count_up.ensures k ∙ ap (λ (v : Window). count_in c.reserve-2.new.self.entries k + cond (v.name.eui.0 == k) 1 0) c.as_ref.ensures)

pub returns-clause-ok : goal.returns-clause-ok
returns-clause-ok c =
    let same : opened c.reserve.new.self.entries ≡ c.args.self.now = ap opened c.reserve.ensures.entries ∙ c.clear-self-inside.ensures.windows ∙ c.self.view_is in
    ap opened c.push.ensures.entries ∙ opened-push c.reserve.new.self.entries c.args.window.name c.args.window ∙ ap (λ ws. ws ++ c.args.window ∷ []) same
