-- Sets that grow by one key at a time.
use Rattle.std.proofs.Common.{◌≡◌, ℕ, ◌+◌, ◌<◌, Bool, true, ◌||◌, ◌&&◌, ◌==◌, cond, List, length, take, get_or, sym, ap, ◌∙◌, arith}
use Rattle.std.specs.List.{list_any}
use Rattle.ns_types.specs.declared.identity.WindowName.{WindowName}
use Rattle.ns_types.specs.Identity.{same_window}
use Rattle.ns_types.specs.contracts.identity.WindowNamePartialEq.TheImpl as name_eq
use Rattle.std.proofs.lemmas.List.Folds.{list_any_more}

last_any : (a b : Bool) → cond b true a ≡ (a || b)
last_any a b = grind arith

-- the key of one more element is added, so the set has the keys of one more
pub any_more : {X : Type 0} (test : X → Bool) (xs : List X) (i : ℕ) (d : X) (had has : Bool) → i < length xs → had ≡ list_any test (take i xs)
    → has ≡ cond (test (get_or xs i d)) true had → has ≡ list_any test (take (i + 1) xs)
any_more test xs i d had has within old new =
    new ∙ (last_any had (test (get_or xs i d)) ∙ (ap (λ b. b || test (get_or xs i d)) old ∙ sym (list_any_more test xs i d within)))

and_four : (a b c d : Bool) → (a && (b && (c && d))) ≡ (((a && b) && c) && d)
and_four a b c d = grind arith

-- the test by which names are compared
pub name_test : (n w : WindowName) → (name_eq.ghosts).eq n w ≡ same_window n w
name_test n w = and_four (n.eui.0 == w.eui.0) (n.session == w.session) (n.fcnt == w.fcnt) (n.round == w.round)
