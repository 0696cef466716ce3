use Rattle.std.proofs.Common.{inl, inr, sym, subst}
use Rattle.ns_views.specs.Grammar.{IsDataUplink, IsJoinRequest}
use Rattle.ns_creator.proofs.FrameBytes.{IsDataFrame-AreBytes, IsJoinRequest-AreBytes}
use Rattle.ns_creator.proofs.laws.frames_read_back.Goals as goal

pub returns-clause-uplinks : goal.returns-clause-uplinks
returns-clause-uplinks c = λ bytes d h.
    let read = c.one_reading.ensures bytes d h.0 in
    ((c.fault_law.ensures.view bytes (IsDataFrame-AreBytes bytes d h.0)).1 (inl (subst (λ e. IsDataUplink bytes e) (sym read) h)), read)

pub returns-clause-join_requests : goal.returns-clause-join_requests
returns-clause-join_requests c = λ bytes j h.
    let read = (c.one_join_reading.ensures bytes j h).0 in
    ((c.fault_law.ensures.view bytes (IsJoinRequest-AreBytes bytes j h)).1 (inr (subst (λ k. IsJoinRequest bytes k) (sym read) h)), read)
