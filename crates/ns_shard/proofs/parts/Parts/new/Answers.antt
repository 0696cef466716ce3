use Rattle.std.proofs.Common.{◌≡◌, [], map, refl}
use Rattle.std.specs.Arc.{arc_value}
use Rattle.ns_roster.specs.Network.{Network}
use Rattle.ns_roster.specs.Valid.{IsRoster}
use Rattle.ns_devices.specs.Devices.{joinless, devices_of}
use Rattle.ns_calls.proofs.LegalLemmas.{history_none}
use Rattle.ns_kept.proofs.Law.{whole-leaves}
use Rattle.ns_shard.proofs.PartSteps.{agrees-new}
use Rattle.ns_sessions.proofs.Uplinks.{others_stay}
use Rattle.ns_shard.proofs.parts.Parts.new.Goals as goal

pub returns-clause-agree : goal.returns-clause-agree
returns-clause-agree c =
    let net : Network = arc_value c.args.roster in
    let are : c.in_ok-devices.devices ≡ map (joinless net) (devices_of net c.args.index) = rw c.deref.ensures at c.in_ok-devices.ensures.are in
    let valid : IsRoster net = rw c.deref.ensures at c.in_ok-devices.ensures.valid in
    record {
      small = c.requires;
      history = [];
      keeps = record { made = rw c.new-3.ensures.made refl; left = rw (c.new-3.ensures.entries, c.new-4.ensures.items) (whole-leaves net [] (history_none net c.args.index).legal (history_none net c.args.index).numbered) };
      agrees = rw (c.new-2.ensures, are) (agrees-new net c.args.index others_stay valid);
      reserved = c.new-3.ensures.reserved;
    }
