use Rattle.std.proofs.Common.{option_map, ap, ◌∙◌}
use Rattle.std.specs.Map.{values_of}
use Rattle.ns_calls.specs.Queries.{first}
use Rattle.ns_windows.specs.Places.{window_at}
use Rattle.ns_windows.proofs.Known.{name_of}
use Rattle.ns_windows.proofs.Held.{leading-first}
use Rattle.ns_windows.proofs.windows.Windows.oldest.Goals as goal

pub returns : goal.returns
returns c =
    let ps = values_of c.self.inside.names.entries in
    c.name_at.ensures ∙ ap (option_map name_of) (ap (window_at ps) c.self.invariant.first ∙ leading-first ps ∙ ap first c.self.view_is)
