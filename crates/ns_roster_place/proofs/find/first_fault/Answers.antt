use Rattle.std.proofs.Common.{rules, Some, option_map, ap, sym, ◌∙◌}
use Rattle.std.proofs.lemmas.Result.{IfOk-weaker}
use Rattle.serde_json.specs.View.{view}
use Rattle.ns_roster_place.specs.Place.{fault_of_value}
use Rattle.ns_roster_place.proofs.FaultLemmas.{fault_alone, refused_as_read, fault_of_view}
use Rattle.ns_roster_place.proofs.find.first_fault.Goals as goal

pub returns-in-Some-clause-refused : goal.returns-in-Some-clause-refused
returns-in-Some-clause-refused c =
    let value = ap (option_map view) (sym c.in-Some.is) ∙ c.in_ok-root.ensures in
    let refused = ap (λ o. fault_alone (fault_of_value o)) value ∙ refused_as_read c.args.bytes.now in
    IfOk-weaker c.fault_in.result _ _ (λ f given. fault_of_view f _ given ∙ refused) c.fault_in.ensures

pub returns-in-None-clause-refused : goal.returns-in-None-clause-refused
returns-in-None-clause-refused c = fault_of_view (Some c.beside.result) _ (search rules) ∙ refused_as_read c.args.bytes.now
