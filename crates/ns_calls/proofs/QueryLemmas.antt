-- What one more element does to the answers of a list.
use Rattle.std.proofs.Common.{◌≡◌, ℕ, Bool, true, false, not, ◌||◌, cond, List, [], ◌∷◌, ◌++◌, Option, None, Some, option_to_list, refl, ap, ◌∙◌, filter, arith}
use Rattle.std.specs.List.{list_any}
use Rattle.std.specs.Option.{option_or}
use Rattle.std.proofs.lemmas.List.{append_assoc, append-nil}
use Rattle.std.proofs.lemmas.List.Elements.{filter-append}
use Rattle.std.proofs.lemmas.List.Folds.{list_any-append}
use Rattle.ns_calls.specs.Queries.{last, greater, maximum, from_last}
use Rattle.ns_calls.specs.Entries.{still_open}
use Rattle.ns_calls.proofs.Lists.{filter-all}

pub last-push : {X : Type 0} (xs : List X) (x : X) → last (xs ++ x ∷ []) ≡ Some x
last-push [] x = refl
last-push (y ∷ ys) x = ap (λ o. option_or o (Some y)) (last-push ys x)

pub greater-assoc : (a b c : Option ℕ) → greater a (greater b c) ≡ greater (greater a b) c
greater-assoc None b c = refl
greater-assoc (Some a) None c = refl
greater-assoc (Some a) (Some b) None = refl
greater-assoc (Some a) (Some b) (Some c) = ap Some (omega arith)

pub maximum-push : (ns : List ℕ) (n : ℕ) → maximum (ns ++ n ∷ []) ≡ greater (maximum ns) (Some n)
maximum-push [] n = refl
maximum-push (m ∷ ms) n = ap (greater (Some m)) (maximum-push ms n) ∙ greater-assoc (Some m) (maximum ms) (Some n)

-- one element that may have been ended before, or is ended now
keep_one : {X : Type 0} (x : X) (ended : X → Bool) (before : Bool) → cond (not (before || (ended x || false))) (x ∷ []) [] ≡ filter (λ y. not (ended y)) (cond (not before) (x ∷ []) [])
keep_one x ended true = refl
keep_one {X} x ended false = elim (ended x) as (λ b. cond {A = List X} (not (b || false)) (x ∷ []) [] ≡ cond (not b) (x ∷ []) []) [ true ↦ refl | false ↦ refl ]

opened-push : {E X : Type 0} (ends : X → E → Bool) (opened : Option X) (es : List E) (e : E) →
    filter (λ x. not (list_any (ends x) (es ++ e ∷ []))) (option_to_list opened) ≡ filter (λ x. not (ends x e)) (filter (λ x. not (list_any (ends x) es)) (option_to_list opened))
opened-push ends None es e = refl
opened-push {E} {X} ends (Some x) es e =
    ap (λ b. cond {A = List X} (not b) (x ∷ []) []) (list_any-append (ends x) es (e ∷ [])) ∙ keep_one x (λ y. ends y e) (list_any (ends x) es)

-- what was open stays open but for what the new entry ends, and what it opens comes last
pub still_open-push : {E X : Type 0} (opens : E → Option X) (ends : X → E → Bool) (es : List E) (e : E) →
    still_open opens ends (es ++ e ∷ []) ≡ filter (λ x. not (ends x e)) (still_open opens ends es) ++ option_to_list (opens e)
still_open-push opens ends [] e = append-nil _ ∙ filter-all (option_to_list (opens e))
still_open-push opens ends (x ∷ es) e = rw (opened-push ends (opens x) es e, still_open-push opens ends es e, filter-append, append_assoc)

from_last-cases : {E : Type 0} (now before first : Bool) (x e : E) (es tail : List E) →
    cond (before || (now || false)) (cond now (e ∷ []) (cond before (tail ++ e ∷ []) [])) (cond first ((x ∷ es) ++ e ∷ []) [])
    ≡ cond now (e ∷ []) (cond (first || before) (cond before tail (cond first (x ∷ es) []) ++ e ∷ []) [])
from_last-cases true true first x e es tail = refl
from_last-cases true false first x e es tail = refl
from_last-cases false true true x e es tail = refl
from_last-cases false true false x e es tail = refl
from_last-cases false false true x e es tail = refl
from_last-cases false false false x e es tail = refl

-- the elements from the last one on that passes, when one more comes
pub from_last-push : {E : Type 0} (test : E → Bool) (es : List E) (e : E) →
    from_last test (es ++ e ∷ []) ≡ cond (test e) (e ∷ []) (cond (list_any test es) (from_last test es ++ e ∷ []) [])
from_last-push test [] e = refl
from_last-push {E} test (x ∷ es) e =
    let whole : List E = cond (test x) ((x ∷ es) ++ e ∷ []) [] in
    ap (λ b. cond {A = List E} b (from_last test (es ++ e ∷ [])) whole) (list_any-append test es (e ∷ []))
    ∙ (ap (λ ys. cond (list_any test es || (test e || false)) ys whole) (from_last-push test es e)
    ∙ from_last-cases (test e) (list_any test es) (test x) x e es (from_last test es))
