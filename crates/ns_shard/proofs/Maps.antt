-- Questions to a list of which each element is mapped, what stands at its front, and what an option has.
use Rattle.std.proofs.Common.{◌≡◌, ◌+◌, Bool, true, false, cond, List, [], ◌∷◌, filter, map, find, count_by, Option, Some, option_map, refl, sym, ap, ap₂, ◌∙◌, ◌++◌, length, None, slice_get}
use Rattle.std.specs.List.{AllByRecursion}
use Rattle.ns_calls.proofs.Lists.{count-cons}
use Rattle.std.specs.Prelude.{IsSome}

pub map-same : {X Y : Type 0} (f g : X → Y) (xs : List X) → AllByRecursion (λ x. f x ≡ g x) xs → map f xs ≡ map g xs
map-same f g [] same = refl
map-same f g (x ∷ xs) same = ap₂ (λ y ys. y ∷ ys) same.0 (map-same f g xs same.1)

pub map-map : {X Y Z : Type 0} (f : X → Y) (g : Y → Z) (xs : List X) → map g (map f xs) ≡ map (λ x. g (f x)) xs
map-map f g [] = refl
map-map f g (x ∷ xs) = ap (λ ys. g (f x) ∷ ys) (map-map f g xs)

pub find-map : {X Y : Type 0} (f : X → Y) (p : Y → Bool) (xs : List X) → find p (map f xs) ≡ option_map f (find (λ x. p (f x)) xs)
find-map f p [] = refl
find-map {X} {Y} f p (x ∷ xs) =
    ap (λ o. cond {A = Option Y} (p (f x)) (Some (f x)) o) (find-map f p xs)
    ∙ elim (p (f x)) as (λ b. cond {A = Option Y} b (Some (f x)) (option_map f (find (λ y. p (f y)) xs)) ≡ option_map f (cond b (Some x) (find (λ y. p (f y)) xs))) [ true ↦ refl | false ↦ refl ]

pub filter-map : {X Y : Type 0} (f : X → Y) (p : Y → Bool) (xs : List X) → filter p (map f xs) ≡ map f (filter (λ x. p (f x)) xs)
filter-map f p [] = refl
filter-map {X} {Y} f p (x ∷ xs) =
    ap (λ ys. cond {A = List Y} (p (f x)) (f x ∷ ys) ys) (filter-map f p xs)
    ∙ elim (p (f x)) as (λ b. cond {A = List Y} b (f x ∷ map f (filter (λ y. p (f y)) xs)) (map f (filter (λ y. p (f y)) xs)) ≡ map f (cond b (x ∷ filter (λ y. p (f y)) xs) (filter (λ y. p (f y)) xs))) [ true ↦ refl | false ↦ refl ]

pub count-map : {X Y : Type 0} (f : X → Y) (p : Y → Bool) (xs : List X) → count_by p (map f xs) ≡ count_by (λ x. p (f x)) xs
count-map f p [] = refl
count-map f p (x ∷ xs) = count-cons p (f x) (map f xs) ∙ (ap (λ n. cond (p (f x)) 1 0 + n) (count-map f p xs) ∙ sym (count-cons (λ y. p (f y)) x xs))

-- the element that follows the first ones
pub at-front : {X : Type 0} (xs ys : List X) (y : X) → slice_get (xs ++ y ∷ ys) (length xs) ≡ Some y
at-front [] ys y = refl
at-front (x ∷ xs) ys y = at-front xs ys y

-- what an option has
pub some-of : {X : Type 0} (o : Option X) → IsSome o → (x : X) × (o ≡ Some x)
some-of None some = absurd (cc some)
some-of (Some x) some = (x, refl)
