use Rattle.std.proofs.Common.{true, cond, get_or, ap, ◌∙◌}
use Rattle.std.specs.HashSet.{contains}
use Rattle.ns_types.specs.Identity.{same_window}
use Rattle.ns_types.specs.contracts.identity.WindowNamePartialEq.TheImpl as name_eq
use Rattle.ns_types.specs.declared.identity.WindowName.{WindowName}
use Rattle.ns_keep.specs.Private.Marks.{same_key, is_of}
use Rattle.ns_keep.proofs.Sets.{any_more, name_test}
use Rattle.ns_keep.proofs.windows.OpenWindows.new.Goals as goal

no_name : WindowName
no_name = record { eui = record { 0 = 0 }; session = 0; fcnt = 0; round = 0 }

pub loop-window-preserved : goal.loop-window-preserved
unfolding no_name
loop-window-preserved c =
    let names = c.args.windows.now in
    let i = c.loop-window.window-index in
    record {
      windows = λ w. any_more (λ n. same_window n w) names i no_name (contains (name_eq.ghosts).eq c.loop-window.names w) (contains (name_eq.ghosts).eq c.insert.new.self w)
          c.loop-window-test.true (c.loop-window.invariant.windows w)
          (c.in_ok-insert.ensures.updates.0 w ∙ ap (λ b. cond b true (contains (name_eq.ghosts).eq c.loop-window.names w)) (name_test (get_or names i no_name) w));
      sessions = λ k. any_more (is_of k) names i no_name (contains same_key c.loop-window.sessions k) (contains same_key c.insert-in-loop-window.new.self k)
          c.loop-window-test.true (c.loop-window.invariant.sessions k) (c.in_ok-insert-2.ensures.updates.0 k);
    }
