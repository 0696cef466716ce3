use Rattle.std.proofs.Common.{Some, refl, sym, ap, subst, ◌∙◌}
use Rattle.std.specs.List.{IsDistinct}
use Rattle.std.specs.Map.{keys_of}
use Rattle.indexmap.specs.IndexMap.{insert_entry}
use Rattle.indexmap.proofs.CallerLemmas.{insert_entry-new}
use Rattle.ns_types.specs.Identity.{same_window}
use Rattle.ns_calls.proofs.Lists.{All-push}
use Rattle.ns_windows.specs.declared.window.Window.{Window}
use Rattle.ns_windows.proofs.Placed.{AreOwn, names_eq}
use Rattle.ns_windows.proofs.places.push.Goals as goal

pub returns-clause-entries : goal.returns-clause-entries
returns-clause-entries c =
    c.in-Ok.ensures.entries
    ∙ ap (λ eq. insert_entry eq c.args.names.now.entries c.as_ref.result.now.name (Some c.args.window)) names_eq
    ∙ ap (λ (w : Window). insert_entry same_window c.args.names.now.entries w.name (Some c.args.window)) c.as_ref.ensures
    ∙ insert_entry-new same_window c.args.names.now c.args.window.name (Some c.args.window) c.requires.absent

pub returns-clause-named : goal.returns-clause-named
returns-clause-named c =
    let is = returns-clause-entries c in
    record {
      own = subst AreOwn (sym is) (All-push _ c.args.names.now.entries (c.args.window.name, Some c.args.window) c.requires.named.own refl);
      apart = subst (λ eq. IsDistinct eq (keys_of c.insert.new.self.entries)) names_eq c.in-Ok.ensures.unique;
    }
