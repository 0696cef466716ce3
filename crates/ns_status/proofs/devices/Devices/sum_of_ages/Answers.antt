use Rattle.std.proofs.Common.{◌≡◌, ◌<◌, ◌+◌, ◌-◌, ◌^◌, ℕ, min, drop, length, Option, None, sym, ap, ◌∙◌, arith}
use Rattle.std.proofs.lemmas.Option.{slice_get-get_or}
use Rattle.ns_types.specs.declared.identity.DevEui.{DevEui}
use Rattle.ns_status.specs.declared.devices.Device.{Device}
use Rattle.ns_status.specs.Devices.{age_of, ages_with}
use Rattle.ns_status.proofs.Ages.{ages_more}
use Rattle.ns_status.proofs.devices.Devices.sum_of_ages.Goals as goal
use Rattle.ns_status.proofs.devices.Devices.sum_of_ages.Goals.{in-Some, in_default}

abbrev nobody : DevEui × Option Device
nobody = (record { 0 = 0 }, None)

pub loop-place-preserved : goal.loop-place-preserved
loop-place-preserved c =
    let now = c.args.now_ms in
    let rows = c.args.self.now in
    let place = c.loop-place.place in
    let sum = c.loop-place.sum in
    elim c.match-at.branch [
      | in-Some w ↦
          (let row : DevEui × Option Device = (w.in-Some.field-0-0, w.in-Some.device) in
          let step = ages_more now sum rows place row (sym c.at.ensures ∙ w.in-Some.is) in
          let more : c.match-at.sum ≡ min (sum + age_of now w.in-Some.device) (2 ^ 64 - 1) = w.sum-is ∙ (w.saturating_add-sum.ensures ∙ ap (λ (a : ℕ). min (sum + a) (2 ^ 64 - 1)) w.age_of.ensures) in
          ap (λ (s : ℕ). ages_with now s (drop (place + 1) rows)) more ∙ (sym step ∙ c.loop-place.invariant))
      | in_default w ↦
          (let within : place < length rows = omega (arith, c.len-place-end.ensures, c.loop-place-test.true) in
          let some = slice_get-get_or rows place nobody within in
          let none = sym c.at.ensures ∙ w.in_default.is in
          grind (arith, some, none))
    ]
