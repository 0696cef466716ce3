use Rattle.ns_record_files.proofs.Swaps.{none_done, name_failed, name_done, all_done, swapped}
use Rattle.ns_record_files.proofs.swap.swap_in.Goals as goal

pub returns-in_err-sync_new-clause-any : goal.returns-in_err-sync_new-clause-any
returns-in_err-sync_new-clause-any g c = none_done _ _ c.in_err-sync_new.ensures.same

pub returns-in_err-rename-clause-any : goal.returns-in_err-rename-clause-any
returns-in_err-rename-clause-any g c = name_failed _ _ _ c.in_ok-sync_new.ensures.ok c.in_err-rename.ensures.any

pub returns-in_err-sync_names-clause-any : goal.returns-in_err-sync_names-clause-any
returns-in_err-sync_names-clause-any g c =
    name_done _ _ _ _ c.in_ok-sync_new.ensures.ok c.in_ok-rename.ensures.ok c.in_err-sync_names.ensures.same

pub returns-clause-any : goal.returns-clause-any
returns-clause-any g c = all_done _ _ _ _ c.in_ok-sync_new.ensures.ok c.in_ok-rename.ensures.ok c.in_ok-sync_names.ensures.ok

pub returns-clause-ok : goal.returns-clause-ok
returns-clause-ok g c = swapped _ _ _ _ c.in_ok-sync_new.ensures.ok c.in_ok-rename.ensures.ok c.in_ok-sync_names.ensures.ok
