use Rattle.std.proofs.Common.{◌≡◌, ℕ, Option, None, Some, true, is_some, IfSome, IfNone, sym, ap, ◌∙◌}
use Rattle.std.specs.Map.{values_of}
use Rattle.ns_windows.specs.declared.window.Window.{Window}
use Rattle.ns_windows.specs.Windows.{is_named, window_named}
use Rattle.ns_windows.specs.Places.{opened, passes_at}
use Rattle.ns_windows.proofs.Opened.{passes-there}
use Rattle.ns_windows.proofs.Held.{named-there}
use Rattle.ns_windows.proofs.windows.Windows.is_open.Goals as goal

pub returns : goal.returns
returns c = c.is_some.ensures ∙ by c.place_of.result c.place_of.ensures.found c.place_of.ensures.none ∙ ap (λ ws. is_some (window_named c.args.name.now ws)) c.self.view_is
  where
    by : (o : Option ℕ) → IfSome o (λ place. passes_at (is_named c.args.name.now) place (values_of c.self.inside.names.entries) ≡ true) → IfNone o (window_named c.args.name.now (opened c.self.inside.names.entries) ≡ None)
        → is_some o ≡ is_some (window_named c.args.name.now (opened c.self.inside.names.entries))
    by None found none = sym (ap (λ (r : Option Window). is_some r) none)
    by (Some place) found none =
        let there = passes-there (is_named c.args.name.now) (values_of c.self.inside.names.entries) place found in
        sym (ap (λ (r : Option Window). is_some r) (named-there c.self.inside.names.entries c.self.inside.frames.entries c.self.invariant.agree c.args.name.now place there.0 there.1 there.2))
