use Rattle.std.proofs.Common.{◌≡◌, true, Some, option_map, sym, ap, ◌∙◌}
use Rattle.std.specs.Map.{values_of}
use Rattle.ns_windows.specs.declared.window.Window.{Window}
use Rattle.ns_windows.specs.Windows.{is_named, window_named, with_copy_named, with_copy_in, addition}
use Rattle.ns_windows.specs.Places.{opened, added_by, window_at}
use Rattle.ns_windows.proofs.Opened.{passes-there}
use Rattle.ns_windows.proofs.Held.{added-is, named-there, copied-open, held-copied}
use Rattle.ns_windows.proofs.windows.Windows.add_copy.Goals as goal
use Rattle.ns_windows.proofs.windows.Windows.add_copy.Goals.{After-added_by}

here : (c : After-added_by) → (w : Window) × (window_at (values_of c.self.inside.names.entries) c.in-Some.place ≡ Some w) × (is_named c.args.name.now w ≡ true)
here c = passes-there (is_named c.args.name.now) (values_of c.self.inside.names.entries) c.in-Some.place c.in-Some.ensures.found

there : (c : After-added_by) → window_named c.args.name.now (opened c.self.inside.names.entries) ≡ Some (here c).0
there c = named-there c.self.inside.names.entries c.self.inside.frames.entries c.self.invariant.agree c.args.name.now c.in-Some.place (here c).0 (here c).1 (here c).2

pub invariant_of-self : goal.invariant_of-self
invariant_of-self c =
    held-copied c.self.inside.names.entries c.self.inside.first c.self.inside.frames.entries c.self.inside.counts.entries c.self.invariant c.in-Some.place (here c).0 (here c).1 c.args.heard.now c.add_at.new.names.entries c.add_at.ensures.entries

pub returns-clause-result : goal.returns-clause-result
returns-clause-result c =
    c.added_by.ensures
    ∙ ap added_by (c.add_at.ensures.result ∙ ap (option_map addition) ((here c).1 ∙ sym (there c) ∙ ap (window_named c.args.name.now) c.self.view_is))
    ∙ added-is (window_named c.args.name.now c.args.self.now)

pub returns-clause-windows : goal.returns-clause-windows
returns-clause-windows c =
    copied-open c.self.inside.names.entries c.self.inside.first c.self.inside.frames.entries c.self.inside.counts.entries c.self.invariant c.in-Some.place (here c).0 (here c).1 c.args.heard.now c.add_at.new.names.entries c.add_at.ensures.entries
    ∙ by
    ∙ ap (with_copy_named c.args.name.now c.args.heard.now) c.self.view_is
  where
    by : with_copy_in (here c).0.name c.args.heard.now (opened c.self.inside.names.entries) ≡ with_copy_named c.args.name.now c.args.heard.now (opened c.self.inside.names.entries)
    by = rw (there c) (λ i. with_copy_in (here c).0.name c.args.heard.now (opened c.self.inside.names.entries))
