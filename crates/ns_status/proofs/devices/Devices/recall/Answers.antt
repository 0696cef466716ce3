use Rattle.std.proofs.Common.{◌≡◌, Option, Some, IsSome, refl, ap, subst}
use Rattle.ns_status.specs.declared.devices.Device.{Device}
use Rattle.ns_status.specs.Devices.{eui_of, recalled_row}
use Rattle.ns_status.proofs.Places.{row-written, row-unplaced}
use Rattle.ns_status.proofs.devices.Devices.recall.Goals as goal
use Rattle.ns_status.proofs.devices.Devices.recall.Goals.{in-Some, in_default}

there : (o : Option (Option Device)) (row : Option Device) → Some row ≡ o → IsSome o
there o row is = subst (λ (p : Option (Option Device)). IsSome p) is refl

pub returns : goal.returns
returns c = rw (← c.self.view_is) (λ d. elim c.match-get_mut.branch [
  | in-Some w ↦
      (let at = rw c.eui.ensures at w.in-Some.ensures.value in
      let known = Some w.recalled.result in
      let writes = rw c.eui.ensures at (((c.get_mut.follows.holds known).3 (there _ _ w.in-Some.ensures.value)).0 d) in
      rw w.self-inside-is (row-written (eui_of c.args.news.now) d (recalled_row c.args.news.now) c.self.inside.rows.entries (c.get_mut.follows.lender known).entries w.in-Some.row.now known at (ap Some w.recalled.ensures) writes))
  | in_default w ↦
      (let none = rw c.eui.ensures at w.in_default.ensures.value in
      rw (w.self-inside-is, c.get_mut.follows.holds-at-none) (row-unplaced (eui_of c.args.news.now) d (recalled_row c.args.news.now) c.self.inside.rows.entries none))
])
