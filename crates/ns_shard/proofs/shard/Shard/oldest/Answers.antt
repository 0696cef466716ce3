use Rattle.std.proofs.Common.{◌≡◌, true, find, IfSome, rules, sym, subst, ◌∙◌}
use Rattle.std.specs.Arc.{arc_value}
use Rattle.std.specs.Option.{is_some}
use Rattle.ns_calls.specs.History.{open_window}
use Rattle.ns_calls.specs.Headline.{oldest}
use Rattle.ns_calls.proofs.Merges.{oldest_own}
use Rattle.ns_types.specs.Identity.{same_window}
use Rattle.ns_calls.specs.Entries.{Opening}
use Rattle.ns_kept.proofs.Law.{leaves-alike}
use Rattle.ns_shard.specs.State.{State, remains, seen}
use Rattle.ns_shard.specs.Private.Parts.{state_of}
use Rattle.ns_shard.proofs.Entries.{oldest-is, oldest-open}
use Rattle.ns_shard.proofs.shard.Shard.oldest.Goals as goal

pub returns : goal.returns
returns c =
    let parts = c.self.inside.parts in
    let are = c.self.invariant in
    let is : c.oldest.result ≡ oldest are.history = search rules in
    let found : IfSome c.oldest.result (λ w. is_some (open_window are.history w) ≡ true) = rw is (oldest-open are.history) in
    record {
      oldest = rw (← c.self.view_is) (is ∙ sym (oldest-is are.history (state_of parts) are.keeps));
      own = rw (is, ← c.self.view_is) (oldest_own (arc_value parts.roster) are.agrees.valid parts.index are.history are.agrees.history);
      «open» =
          subst (λ (s : State). IfSome c.oldest.result (λ w. is_some (open_window (seen s) w) ≡ true)) c.self.view_is
          (subst (λ os. IfSome c.oldest.result (λ w. is_some (find (λ (o : Opening). same_window o.window w) os) ≡ true)) (sym (leaves-alike (arc_value parts.roster) are.history (remains (state_of parts)) are.keeps.left).windows) found);
    }
