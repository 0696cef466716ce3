use Rattle.std.proofs.Common.{◌≡◌, length, filter, rules, ap, subst, ◌∙◌, sym}
use Rattle.std.specs.List.{IsDistinct}
use Rattle.std.specs.Map.{lookup, keys_of, values_of}
use Rattle.indexmap.proofs.CallerLemmas.{filter-RetainsPairs}
use Rattle.ns_types.specs.Identity.{same_window}
use Rattle.ns_calls.proofs.Lists.{All-filter}
use Rattle.ns_windows.specs.Windows.{is_named}
use Rattle.ns_windows.specs.Places.{opened, leading}
use Rattle.ns_windows.proofs.Passing.{none_found}
use Rattle.ns_windows.proofs.Placed.{AreOwn, names_eq, is_filled, filled-open, filled-leading, filled-length, filled-absent}
use Rattle.ns_windows.proofs.places.remove_empty.Goals as goal
use Rattle.ns_windows.proofs.places.remove_empty.Goals.{After-retain}

kept : (c : After-retain) → c.retain.new.self.entries ≡ filter is_filled c.args.names.now.entries
kept c = filter-RetainsPairs _ is_filled _ (λ k v b w g h. search rules) _ _ c.retain.ensures.filtered

pub returns-clause-named : goal.returns-clause-named
returns-clause-named c = record {
  own = subst AreOwn (sym (kept c)) (All-filter _ is_filled c.args.names.now.entries c.requires.own);
  apart = subst (λ eq. IsDistinct eq (keys_of c.retain.new.self.entries)) names_eq c.retain.ensures.unique;
}

pub returns-clause-windows : goal.returns-clause-windows
returns-clause-windows c = ap opened (kept c) ∙ filled-open c.args.names.now.entries

pub returns-clause-first : goal.returns-clause-first
returns-clause-first c = ap (λ es. leading (values_of es)) (kept c) ∙ filled-leading c.args.names.now.entries

pub returns-clause-full : goal.returns-clause-full
returns-clause-full c =
    ap length (kept c) ∙ filled-length c.args.names.now.entries ∙ ap (λ es. length (opened es)) (sym (kept c))

pub returns-clause-absent : goal.returns-clause-absent
returns-clause-absent c name none =
    ap (lookup (same_window name)) (kept c) ∙ filled-absent name c.args.names.now.entries c.requires.own (none_found (is_named name) (opened c.args.names.now.entries) none)
