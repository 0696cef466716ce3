use Rattle.std.proofs.Common.{option_map, sym, ap, ◌∙◌}
use Rattle.std.specs.Map.{values_of}
use Rattle.indexmap.specs.IndexMap.{set_value_at}
use Rattle.ns_windows.specs.Windows.{with_copy, addition}
use Rattle.ns_windows.proofs.Placed.{at-some, set-outside}
use Rattle.ns_windows.proofs.places.add_at.Goals as goal

pub returns-in_err-get_index_mut-clause-entries : goal.returns-in_err-get_index_mut-clause-entries
returns-in_err-get_index_mut-clause-entries c = set-outside _ _ _ (sym c.in_err-get_index_mut.ensures.value)

pub returns-clause-result : goal.returns-clause-result
returns-clause-result c = c.add_here.ensures.result ∙ ap (option_map addition) (sym (at-some (values_of c.args.names.now.entries) c.args.place c.in_ok-get_index_mut.field-0.now (sym c.in_ok-get_index_mut.ensures.value)))

pub returns-clause-entries : goal.returns-clause-entries
returns-clause-entries c =
    ap (set_value_at c.args.names.now.entries c.args.place) (c.add_here.ensures.window ∙ ap (option_map (with_copy c.args.heard.now)) (sym (at-some (values_of c.args.names.now.entries) c.args.place c.in_ok-get_index_mut.field-0.now (sym c.in_ok-get_index_mut.ensures.value))))
