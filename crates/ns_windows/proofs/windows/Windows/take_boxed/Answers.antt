use Rattle.std.proofs.Common.{◌≡◌, cond, bytes_eq, None, sym, ap, ◌∙◌}
use Rattle.std.specs.Map.{lookup, values_of}
use Rattle.ns_calls.proofs.NameLemmas.{same_window-eq}
use Rattle.ns_windows.specs.declared.window.Window.{Window}
use Rattle.ns_windows.specs.Windows.{is_named, window_named, without}
use Rattle.ns_windows.proofs.Passing.{none_found, filter-none}
use Rattle.ns_windows.proofs.Opened.{passes-there}
use Rattle.ns_windows.proofs.Held.{same-some, named-there, first-within, taken-open, held-taken}
use Rattle.ns_windows.proofs.windows.Windows.take_boxed.Goals as goal

pub returns-in_err-place-clause-windows : goal.returns-in_err-place-clause-windows
returns-in_err-place-clause-windows c =
    let name = c.args.name.now in
    sym (filter-none (is_named name) c.args.self.now (none_found (is_named name) c.args.self.now (ap (window_named name) (sym c.self.view_is) ∙ c.in_err-place.ensures.none)))

pub first_from-self-inside-requires : goal.first_from-self-inside-requires
first_from-self-inside-requires c =
    let here = passes-there (is_named c.args.name.now) (values_of c.self.inside.names.entries) c.in_ok-place.place c.in_ok-place.ensures.found in
    first-within c.self.inside.names.entries c.self.inside.first c.self.inside.frames.entries c.self.inside.counts.entries c.self.invariant c.in_ok-place.place here.0 here.1 c.args.name.now here.2 c.take_at.new.names.entries c.take_at.ensures.entries

pub invariant_of-self-2 : goal.invariant_of-self-2
invariant_of-self-2 c =
    let name = c.args.name.now in
    let here = passes-there (is_named name) (values_of c.self.inside.names.entries) c.in_ok-place.place c.in_ok-place.ensures.found in
    let taken : c.in_ok-window.window ≡ here.0 = same-some c.in_ok-window.window here.0 (c.in_ok-window.ensures.result ∙ here.1) in
    let frame : c.bytes-frame.result.now ≡ here.0.frame = c.bytes-frame.ensures.bytes ∙ ap (λ (v : Window). v.frame) (c.as_ref.ensures ∙ taken) in
    held-taken c.self.inside.names.entries c.self.inside.first c.self.inside.frames.entries c.self.inside.counts.entries c.self.invariant c.in_ok-place.place here.0 here.1 name here.2 c.take_at.new.names.entries c.take_at.ensures.entries
    c.first_from-self-inside.result c.swap_remove.new.self.entries c.count_down.new.counts.entries c.first_from-self-inside.ensures
    (λ q. c.swap_remove.ensures.updates.0 q ∙ (λ i. cond (bytes_eq (frame i) q) None (lookup (λ k. bytes_eq q k) c.self.inside.frames.entries)))
    c.count_down.ensures (same_window-eq here.0.name name here.2)

pub returns-clause-result : goal.returns-clause-result
returns-clause-result c =
    let name = c.args.name.now in
    let here = passes-there (is_named name) (values_of c.self.inside.names.entries) c.in_ok-place.place c.in_ok-place.ensures.found in
    c.in_ok-window.ensures.result ∙ here.1
    ∙ sym (named-there c.self.inside.names.entries c.self.inside.frames.entries c.self.invariant.agree name c.in_ok-place.place here.0 here.1 here.2)
    ∙ ap (window_named name) c.self.view_is

pub returns-clause-windows : goal.returns-clause-windows
returns-clause-windows c =
    let name = c.args.name.now in
    let here = passes-there (is_named name) (values_of c.self.inside.names.entries) c.in_ok-place.place c.in_ok-place.ensures.found in
    taken-open c.self.inside.names.entries c.self.inside.first c.self.inside.frames.entries c.self.inside.counts.entries c.self.invariant c.in_ok-place.place here.0 here.1 name here.2 c.take_at.new.names.entries c.take_at.ensures.entries
    ∙ ap (without name) c.self.view_is
