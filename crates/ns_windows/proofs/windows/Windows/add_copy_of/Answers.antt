use Rattle.std.proofs.Common.{◌≡◌, true, Some, option_map, sym, ap, subst, ◌∙◌}
use Rattle.std.specs.Map.{values_of}
use Rattle.ns_windows.specs.declared.window.Window.{Window}
use Rattle.ns_windows.specs.Windows.{is_of, window_of_frame, with_copy_of, with_copy_in, addition}
use Rattle.ns_windows.specs.Places.{opened, window_at, passes_at}
use Rattle.ns_windows.proofs.Opened.{passes-there}
use Rattle.ns_windows.proofs.Held.{framed-there, copied-open, held-copied}
use Rattle.ns_windows.proofs.windows.Windows.add_copy_of.Goals as goal
use Rattle.ns_windows.proofs.windows.Windows.add_copy_of.Goals.{After-add_at}

here : (c : After-add_at) → (w : Window) × (window_at (values_of c.self.inside.names.entries) c.in_ok-place.place ≡ Some w) × (is_of c.args.frame.now w ≡ true)
here c =
    passes-there (is_of c.args.frame.now) (values_of c.self.inside.names.entries) c.in_ok-place.place
    (subst (λ f. passes_at (is_of f) c.in_ok-place.place (values_of c.self.inside.names.entries) ≡ true) c.bytes.ensures.bytes c.in_ok-place.ensures.found)

there : (c : After-add_at) → window_of_frame c.args.frame.now (opened c.self.inside.names.entries) ≡ Some (here c).0
there c = framed-there c.self.inside.names.entries c.self.inside.frames.entries c.self.invariant.agree c.args.frame.now c.in_ok-place.place (here c).0 (here c).1 (here c).2

pub invariant_of-self : goal.invariant_of-self
invariant_of-self c =
    held-copied c.self.inside.names.entries c.self.inside.first c.self.inside.frames.entries c.self.inside.counts.entries c.self.invariant c.in_ok-place.place (here c).0 (here c).1 c.args.heard.now c.add_at.new.names.entries c.add_at.ensures.entries

pub returns-clause-result : goal.returns-clause-result
returns-clause-result c =
    c.add_at.ensures.result ∙ ap (option_map addition) ((here c).1 ∙ sym (there c) ∙ ap (window_of_frame c.args.frame.now) c.self.view_is)

pub returns-clause-windows : goal.returns-clause-windows
returns-clause-windows c =
    copied-open c.self.inside.names.entries c.self.inside.first c.self.inside.frames.entries c.self.inside.counts.entries c.self.invariant c.in_ok-place.place (here c).0 (here c).1 c.args.heard.now c.add_at.new.names.entries c.add_at.ensures.entries
    ∙ by
    ∙ ap (with_copy_of c.args.frame.now c.args.heard.now) c.self.view_is
  where
    by : with_copy_in (here c).0.name c.args.heard.now (opened c.self.inside.names.entries) ≡ with_copy_of c.args.frame.now c.args.heard.now (opened c.self.inside.names.entries)
    by = rw (there c) (λ i. with_copy_in (here c).0.name c.args.heard.now (opened c.self.inside.names.entries))
