use Rattle.std.proofs.Common.{ℕ, List, ap, ◌∙◌}
use Rattle.ns_secure.specs.Integrity.{mic_fits}
use Rattle.ns_secure.proofs.integrity.mic_fits.Goals as goal

pub returns : goal.returns
returns c = c.mic_fits_under.ensures ∙ ap (λ (key : List ℕ). mic_fits c.args.view.now key c.args.counter) c.new.ensures
