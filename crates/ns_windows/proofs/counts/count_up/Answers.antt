use Rattle.std.proofs.Common.{sym, ap}
use Rattle.std.specs.Option.{option_map_or}
use Rattle.std.proofs.Common.{ℕ, Option}
use Rattle.ns_windows.proofs.Placed.{count-new}
use Rattle.ns_windows.proofs.counts.count_up.Goals as goal

pub returns : goal.returns
returns c =
    let none = c.get_mut.follows.holds-at-none in
    count-new c.args.counts.now.entries c.insert.new.self.entries c.args.eui.0 (rw none at c.in-Ok.ensures.updates.0) (sym (ap (λ (o : Option ℕ). option_map_or (λ (n : ℕ). n) o 0) c.in_default.ensures.value))
