use Rattle.std.proofs.Common.{◌≡◌, ◌==◌, List, Bool, cond, None, sym, ap, ◌∙◌, eq-eqb}
use Rattle.std.specs.Option.{option_and_then}
use Rattle.std.specs.Arc.{arc_value}
use Rattle.ns_types.specs.Identity.{shard_of}
use Rattle.ns_roster.specs.Network.{Network}
use Rattle.ns_devices.specs.declared.own.Own.{Own}
use Rattle.ns_devices.specs.Devices.{own_of}
use Rattle.ns_roster.specs.declared.Device.{Device}
use Rattle.ns_roster.specs.Network.{device}
use Rattle.ns_kept.proofs.Law.{leaves-alike}
use Rattle.ns_shard.specs.Private.Parts.{state_of}
use Rattle.ns_shard.specs.State.{remains, known_greatest}
use Rattle.ns_shard.proofs.Roster.{greatest-found}
use Rattle.ns_shard.proofs.shard.Shard.greatest.Goals as goal

pub returns : goal.returns
returns c =
    let parts = c.self.inside.parts in
    let are = c.self.invariant in
    let net : Network = arc_value parts.roster in
    let eui = c.args.eui in
    let mine : shard_of eui ≡ parts.index = sym c.shard_of.ensures.is ∙ c.if-shard_of-self.false in
    rw (← c.self.view_is)
    (c.greatest.ensures
    ∙ (ap (λ (ds : List Own). option_and_then (λ (o : Own). o.state.greatest_nonce) (own_of eui ds)) are.agrees.by_device
    ∙ (greatest-found net parts.index are.history eui mine
    ∙ sym (ap (λ o. cond (shard_of eui == parts.index) (option_and_then (λ (d : Device). o) (device net eui)) None) ((leaves-alike net are.history (remains (state_of parts)) are.keeps.left).nonces eui) ∙ ap (λ (b : Bool). cond b (known_greatest net are.history eui) None) (eq-eqb _ _ mine)))))
