use Rattle.std.proofs.Common.{◌≡◌, ◌+◌, suc, ◌++◌, map, take, option_to_list, sym, ap, arith, ◌∙◌}
use Rattle.std.proofs.lemmas.List.{map-append, take_all}
use Rattle.std.specs.Map.{values_of}
use Rattle.ns_windows.specs.Places.{open_of}
use Rattle.ns_windows.proofs.Placed.{entries-length}
use Rattle.ns_windows.proofs.Known.{name_of}
use Rattle.ns_windows.proofs.Held.{open-took, value-at}
use Rattle.ns_windows.proofs.windows.Windows.names.Goals as goal

pub loop-at-preserved : goal.loop-at-preserved
loop-at-preserved c =
    let ps = values_of c.self.inside.names.entries in
    let at = c.loop-at.at in
    let o = c.in-Some.place.now in
    let next : suc at ≡ at + 1 = omega arith in
    c.in_ok-put_name.ensures
    ∙ ap (λ ns. ns ++ map name_of (option_to_list o)) c.loop-at.invariant
    ∙ sym (map-append name_of (open_of (take at ps)) (option_to_list o))
    ∙ ap (map name_of) (sym (open-took ps at o (value-at c.self.inside.names.entries at _ (sym c.in-Some.ensures.entry))))
    ∙ ap (λ k. map name_of (open_of (take k ps))) next

pub returns : goal.returns
returns c =
    let ps = values_of c.self.inside.names.entries in
    c.loop-at.invariant
    ∙ ap (λ xs. map name_of (open_of xs)) (take_all c.loop-at.at ps (omega (arith, c.loop-at-test.false, c.len-at-end.ensures.len, entries-length c.self.inside.names.entries)))
    ∙ ap (map name_of) c.self.view_is
