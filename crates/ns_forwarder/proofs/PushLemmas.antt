-- What the items up to one say, and that one.
use Rattle.std.proofs.Common.{◌≡◌, ℕ, ◌+◌, ◌<◌, List, [], ◌∷◌, ◌++◌, length, get_or, take, map, Result, Ok, Err, refl, sym, ap, ap₂, ◌∙◌}
use Rattle.std.specs.List.{filter_map, cons_option}
use Rattle.std.specs.Result.{result_ok, result_err}
use Rattle.std.proofs.lemmas.List.{append-nil, take_more, get_or-map, length-map}
use Rattle.std.proofs.lemmas.List.Elements.{filter_map-append}
use Rattle.serde_json.specs.Data.{Data}
use Rattle.ns_forwarder.specs.declared.fault.ForwarderFault.{ForwarderFault}
use Rattle.ns_forwarder.specs.Rxpk.{Item, item_of}
use Rattle.ns_forwarder.specs.Push.{Push, push_from, with_result}

abbrev push : List Item → List ForwarderFault → Push
push items left_out = record { items = items; left_out = left_out }

-- one more item behind others
push_from-more : (ds : List Data) (d : Data) → with_result (push_from ds) (item_of d) ≡ push_from (ds ++ d ∷ [])
push_from-more ds d = step (item_of d) refl
  where
    items : List Item
    items = filter_map (λ d. result_ok (item_of d)) ds

    left_out : List ForwarderFault
    left_out = filter_map (λ d. result_err (item_of d)) ds

    both : (r : Result Item ForwarderFault) → item_of d ≡ r
        → push (items ++ cons_option (result_ok r) []) (left_out ++ cons_option (result_err r) []) ≡ push_from (ds ++ d ∷ [])
    both r e = sym (ap₂ push
        (filter_map-append (λ d. result_ok (item_of d)) ds (d ∷ []) ∙ ap (λ r. items ++ cons_option (result_ok r) []) e)
        (filter_map-append (λ d. result_err (item_of d)) ds (d ∷ []) ∙ ap (λ r. left_out ++ cons_option (result_err r) []) e))

    step : (r : Result Item ForwarderFault) → item_of d ≡ r → with_result (push_from ds) r ≡ push_from (ds ++ d ∷ [])
    step (Ok i) e = ap (λ l. push (items ++ i ∷ []) l) (sym (append-nil left_out)) ∙ both (Ok i) e
    step (Err f) e = ap (λ l. push l (left_out ++ f ∷ [])) (sym (append-nil items)) ∙ both (Err f) e

-- the items up to one that was put in
pub push_from-next : {X : Type 0} (f : X → Data) (old new : Push) (vs : List X) (i : ℕ) (v : X) → i < length vs → v ≡ get_or vs i v
    → old ≡ push_from (take i (map f vs)) → new ≡ with_result old (item_of (f v)) → new ≡ push_from (take (i + 1) (map f vs))
push_from-next f old new vs i v within item before put =
    let here : get_or (map f vs) i (f v) ≡ f v = get_or-map f vs i v (f v) within ∙ ap f (sym item) in
    let inside : i < length (map f vs) = rw (length-map vs f) within in
    put ∙ ap (λ p. with_result p (item_of (f v))) before
    ∙ push_from-more (take i (map f vs)) (f v)
    ∙ ap (λ d. push_from (take i (map f vs) ++ d ∷ [])) (sym here)
    ∙ ap push_from (sym (take_more (map f vs) i (f v) inside))
