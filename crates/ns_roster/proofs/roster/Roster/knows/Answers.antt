use Rattle.std.proofs.Common.{refl}
use Rattle.ns_roster.proofs.DeviceLemmas.{is_known-by_device}
use Rattle.ns_roster.proofs.roster.Roster.knows.Goals as goal

pub returns-in-Some-clause-is : goal.returns-in-Some-clause-is
returns-in-Some-clause-is c =
    rw (is_known-by_device c.args.self.now c.find.ensures.valid c.args.eui c.args.join_eui, ← c.find.ensures.is, c.in-Some.is) refl

pub returns-in-None-clause-is : goal.returns-in-None-clause-is
returns-in-None-clause-is c =
    rw (is_known-by_device c.args.self.now c.find.ensures.valid c.args.eui c.args.join_eui, ← c.find.ensures.is, c.in-None.is) refl
