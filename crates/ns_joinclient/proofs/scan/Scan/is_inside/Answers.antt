use Rattle.std.proofs.Common.{arith, subst, take}
use Rattle.std.proofs.lemmas.List.{take_all}
use Rattle.ns_joinclient.specs.Place.{IsInside}
use Rattle.ns_joinclient.proofs.PlaceLemmas.{ends_inside}
use Rattle.ns_joinclient.proofs.scan.Scan.is_inside.Goals as goal

pub returns-in_default-clause-inside : goal.returns-in_default-clause-inside
returns-in_default-clause-inside c = λ few.
    let scan = c.loop-self.self in
    let bytes = c.args.bytes.now in
    subst IsInside (take_all scan.seen bytes (omega arith)) (ends_inside scan.place (take scan.seen bytes) c.in_default.not-Other c.loop-self.invariant.1)
