use Rattle.std.proofs.Common.{◌≡◌, position, slice_get, Some, ap, subst, ◌∙◌}
use Rattle.std.specs.List.{IsDistinct}
use Rattle.std.specs.Map.{values_of}
use Rattle.ns_calls.specs.Entries.{same_device}
use Rattle.ns_devices.specs.Devices.{is_own}
use Rattle.ns_devices.proofs.Positions.{find-placed}
use Rattle.ns_devices.proofs.Euis.{place-own}
use Rattle.ns_devices.proofs.devices.Devices.first_fit.Goals as goal
use Rattle.ns_devices.proofs.devices.Devices.first_fit.Goals.{In-Some}

stands : (c : In-Some) → slice_get (values_of c.self.inside.list.entries) c.in-Some.fit.place ≡ Some c.index.result.now
stands c = ap (slice_get (values_of c.self.inside.list.entries)) c.in-Some.ensures.place ∙ c.index.ensures

place : (c : In-Some) → position (is_own c.in-Some.fit.eui) c.args.self.now ≡ Some c.in-Some.fit.place
place c =
    let apart = subst (IsDistinct same_device) c.self.invariant.euis c.self.invariant.apart in
    rw (← c.self.view_is, c.in-Some.ensures.eui) (place-own (values_of c.self.inside.list.entries) c.in-Some.fit.place c.index.result.now apart (stands c))

pub returns-in-Some-clause-place : goal.returns-in-Some-clause-place
returns-in-Some-clause-place c = place c

pub returns-in-Some-clause-new : goal.returns-in-Some-clause-new
returns-in-Some-clause-new c =
    let f = c.in-Some.fit in
    let found = find-placed (is_own f.eui) c.args.self.now f.place c.index.result.now (place c) (rw c.self.view_is at (stands c)) in
    λ above. rw found (c.in-Some.ensures.new above)
