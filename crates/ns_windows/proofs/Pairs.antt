-- Lists of which no two pass a test together.
use Rattle.std.proofs.Common.{◌≡◌, Bool, false, List, [], ◌∷◌, ◌++◌, filter, map, ◌∙◌}
use Rattle.std.specs.List.{AllByRecursion}
use Rattle.std.proofs.lemmas.Bool.{cond_both}
use Rattle.ns_calls.proofs.Lists.{All-filter, All-push}
use Rattle.ns_windows.specs.Windows.{NoTwo}

module _ {X : Type 0} (test : X → X → Bool) where
  pub NoTwo-filter : (keep : X → Bool) (xs : List X) → NoTwo test xs → NoTwo test (filter keep xs)
  NoTwo-filter keep [] apart = tt
  NoTwo-filter keep (x ∷ xs) apart =
      let rest = NoTwo-filter keep xs apart.1 in
      cond_both (keep x) _ _ (NoTwo test) (λ _. (All-filter (λ y. test x y ≡ false) keep xs apart.0, rest)) (λ _. rest)

  pub NoTwo-push : ((x y : X) → test x y ≡ false → test y x ≡ false) → (xs : List X) (x : X) → NoTwo test xs → AllByRecursion (λ y. test x y ≡ false) xs → NoTwo test (xs ++ x ∷ [])
  NoTwo-push back [] x apart new = (tt, tt)
  NoTwo-push back (y ∷ ys) x apart new = (All-push (λ z. test y z ≡ false) ys x apart.0 (back x y new.0), NoTwo-push back ys x apart.1 new.1)

  pub NoTwo-map : (f : X → X) → ((x y : X) → test (f x) (f y) ≡ test x y) → (xs : List X) → NoTwo test xs → NoTwo test (map f xs)
  NoTwo-map f keeps [] apart = tt
  NoTwo-map f keeps (x ∷ xs) apart = (each xs apart.0, NoTwo-map f keeps xs apart.1)
    where
      each : (ys : List X) → AllByRecursion (λ y. test x y ≡ false) ys → AllByRecursion (λ y. test (f x) y ≡ false) (map f ys)
      each [] all = tt
      each (y ∷ ys) all = (keeps x y ∙ all.0, each ys all.1)
