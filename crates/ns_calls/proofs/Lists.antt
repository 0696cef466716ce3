-- Lists: what holds of each element, greatest numbers, rising numbers, and what is found.
use Rattle.std.proofs.Common.{◌≡◌, ◌⊎◌, ℕ, ◌+◌, ◌<◌, ◌≤◌, Bool, true, false, cond, List, [], ◌∷◌, ◌++◌, filter, filter_map, map, find, count_by, Option, None, Some, option_map, option_to_list, IfSome, refl, sym, ap, subst, ◌∙◌, arith, inl, inr}
use Rattle.std.specs.List.{AllByRecursion, cons_option}
use Rattle.std.specs.Option.{option_or, is_some}
use Rattle.std.proofs.lemmas.List.{append-nil}
use Rattle.std.proofs.lemmas.List.Elements.{filter-append, filter_map-append}
use Rattle.std.proofs.lemmas.List.Sums.{sum_by-append, sum_by-cons}
use Rattle.std.proofs.lemmas.Bool.{false≢true, cond_both, cond-false, false_from_ne_true}
use Rattle.ns_secure.specs.Counter.{Exceeds}
use Rattle.ns_calls.specs.Queries.{first, last, greater, maximum}
use Rattle.ns_calls.specs.Laws.{Rises}
use Rattle.ns_calls.proofs.LocalLemmas.{All-each, count_by-own}

pub All-append : {X : Type 0} (P : X → Type 0) (xs ys : List X) → AllByRecursion P xs → AllByRecursion P ys → AllByRecursion P (xs ++ ys)
All-append P [] ys all more = more
All-append P (x ∷ xs) ys all more = (all.0, All-append P xs ys all.1 more)

pub All-push : {X : Type 0} (P : X → Type 0) (xs : List X) (x : X) → AllByRecursion P xs → P x → AllByRecursion P (xs ++ x ∷ [])
All-push P xs x all here = All-append P xs (x ∷ []) all (here, tt)

pub All-weaker : {X : Type 0} (P Q : X → Type 0) → ((x : X) → P x → Q x) → (xs : List X) → AllByRecursion P xs → AllByRecursion Q xs
All-weaker P Q weaker [] all = tt
All-weaker P Q weaker (x ∷ xs) all = (weaker x all.0, All-weaker P Q weaker xs all.1)

pub All-filter : {X : Type 0} (P : X → Type 0) (test : X → Bool) (xs : List X) → AllByRecursion P xs → AllByRecursion P (filter test xs)
All-filter P test [] all = tt
All-filter P test (x ∷ xs) all =
    let later = All-filter P test xs all.1 in
    cond_both (test x) (x ∷ filter test xs) (filter test xs) (AllByRecursion P) (λ _. (all.0, later)) (λ _. later)

pub All-option : {X : Type 0} (P : X → Type 0) (o : Option X) → IfSome o P → AllByRecursion P (option_to_list o)
All-option P None is = tt
All-option P (Some x) is = (is, tt)

-- what stays of a list, and what is added to it, have the property where the list and what is added have it
pub All-after : {X : Type 0} (P : X → Type 0) (keep : X → Bool) (xs : List X) (o : Option X) → AllByRecursion P xs → IfSome o P → AllByRecursion P (filter keep xs ++ option_to_list o)
All-after P keep xs o all new = All-append P (filter keep xs) (option_to_list o) (All-filter P keep xs all) (All-option P o new)

-- the first thing that is given has the property, where each thing given of these elements has it
pub first-gives_of : {X Y : Type 0} (P : Y → Type 0) (f : X → Option Y) (xs : List X) → AllByRecursion (λ x. IfSome (f x) P) xs → IfSome (first (filter_map f xs)) P
first-gives_of P f [] gives = tt
first-gives_of {X} {Y} P f (x ∷ xs) gives =
    (elim (f x) as (λ o. IfSome o P → IfSome (first (cons_option o (filter_map f xs))) P) [ None ↦ λ _. first-gives_of P f xs gives.1 | Some y ↦ λ here. here ]) gives.0

-- the same, where each thing that is given at all has it
pub first-gives : {X Y : Type 0} (P : Y → Type 0) (f : X → Option Y) → ((x : X) → IfSome (f x) P) → (xs : List X) → IfSome (first (filter_map f xs)) P
first-gives {X} P f gives xs = first-gives_of P f xs (All-each (λ (x : X). IfSome (f x) P) gives xs)

pub last-has : {X : Type 0} (P : X → Type 0) (xs : List X) → AllByRecursion P xs → IfSome (last xs) P
last-has P [] all = tt
last-has {X} P (x ∷ xs) all =
    (elim (last xs) as (λ o. IfSome o P → IfSome (option_or o (Some x)) P) [ None ↦ λ _. all.0 | Some y ↦ λ later. later ]) (last-has P xs all.1)

-- ---- greatest numbers

pub Exceeds-greater : (a b : Option ℕ) (n : ℕ) → Exceeds (greater a b) n → Exceeds a n × Exceeds b n
Exceeds-greater None b n above = (tt, above)
Exceeds-greater (Some a) None n above = (above, tt)
Exceeds-greater (Some a) (Some b) n above = (omega (arith, above), omega (arith, above))

-- a number above the greatest is above each
pub Exceeds-each : (ns : List ℕ) (n : ℕ) → Exceeds (maximum ns) n → AllByRecursion (λ m. m < n) ns
Exceeds-each [] n above = tt
Exceeds-each (m ∷ ms) n above =
    let both = Exceeds-greater (Some m) (maximum ms) n above in
    (both.0, Exceeds-each ms n both.1)

pub Rises-push : (ns : List ℕ) (n : ℕ) → Rises ns → AllByRecursion (λ m. m < n) ns → Rises (ns ++ n ∷ [])
Rises-push [] n rises below = (tt, tt)
Rises-push (m ∷ ms) n rises below = (All-push (λ k. m < k) ms n rises.0 below.0, Rises-push ms n rises.1 below.1)

-- ---- what one more element adds to a list that is asked for

-- what one element says, of what is asked for
abbrev pub said : {X Y : Type 0} → (X → Option Y) → (Y → Bool) → X → List Y
said says asked x = filter asked (option_to_list (says x))

-- what one element says
pub one_more : {X Y : Type 0} (says : X → Option Y) (x : X) → filter_map says (x ∷ []) ≡ option_to_list (says x)
one_more says x = elim (says x) as (λ o. cons_option o [] ≡ option_to_list o) [ None ↦ refl | Some y ↦ refl ]

pub says-push : {X Y : Type 0} (says : X → Option Y) (xs : List X) (x : X) → filter_map says (xs ++ x ∷ []) ≡ filter_map says xs ++ option_to_list (says x)
says-push says xs x = filter_map-append says xs (x ∷ []) ∙ ap (λ ys. filter_map says xs ++ ys) (one_more says x)

pub said-push : {X Y : Type 0} (says : X → Option Y) (asked : Y → Bool) (xs : List X) (x : X) →
    filter asked (filter_map says (xs ++ x ∷ [])) ≡ filter asked (filter_map says xs) ++ said says asked x
said-push says asked xs x = ap (filter asked) (says-push says xs x) ∙ filter-append asked (filter_map says xs) (option_to_list (says x))

-- an element adds one thing that is asked for
pub record AddsOne {X Y : Type 0} (tells : X → Option Y) (asks : Y → Bool) (xs : List X) (x : X) : Type 0 where
  pub thing : Y
  pub says : tells x ≡ Some thing
  pub asked : asks thing ≡ true
  pub joined : filter asks (filter_map tells (xs ++ x ∷ [])) ≡ filter asks (filter_map tells xs) ++ thing ∷ []

-- one more element adds nothing, or one thing that is asked for
pub said-adds : {X Y : Type 0} (tells : X → Option Y) (asks : Y → Bool) (xs : List X) (x : X) →
    (filter asks (filter_map tells (xs ++ x ∷ [])) ≡ filter asks (filter_map tells xs)) ⊎ AddsOne tells asks xs x
said-adds {X} {Y} tells asks xs x =
    let before : List Y = filter asks (filter_map tells xs) in
    let now : List Y = filter asks (filter_map tells (xs ++ x ∷ [])) in
    let Adds : Type 0 = (now ≡ before) ⊎ AddsOne tells asks xs x in
    (elim (tells x) as (λ o. tells x ≡ o → now ≡ before ++ filter asks (option_to_list o) → Adds) [
      | None ↦ λ _ joined. inl (joined ∙ append-nil before)
      | Some y ↦ λ says.
          (elim (asks y) as (λ b. asks y ≡ b → now ≡ before ++ cond b (y ∷ []) [] → Adds) [
            | true ↦ λ asked joined. inr (record { thing = y; says = says; asked = asked; joined = joined })
            | false ↦ λ _ joined. inl (joined ∙ append-nil before)
          ]) refl
    ]) refl (said-push tells asks xs x)

pub All-map : {X Y : Type 0} (P : Y → Type 0) (f : X → Y) (xs : List X) → AllByRecursion P (map f xs) → AllByRecursion (λ x. P (f x)) xs
All-map P f [] all = tt
All-map P f (x ∷ xs) all = (all.0, All-map P f xs all.1)

-- ---- what is found

pub find-none : {X : Type 0} (test : X → Bool) (xs : List X) → AllByRecursion (λ x. test x ≡ false) xs → find test xs ≡ None
find-none test [] all = refl
find-none {X} test (x ∷ xs) all = ap (λ b. cond {A = Option X} b (Some x) (find test xs)) all.0 ∙ find-none test xs all.1

-- what is found is an element that passes
pub find-has : {X : Type 0} (P : X → Type 0) (test : X → Bool) (xs : List X) → AllByRecursion P xs → IfSome (find test xs) (λ x. P x × (test x ≡ true))
find-has P test [] all = tt
find-has P test (x ∷ xs) all =
    cond_both (test x) (Some x) (find test xs) (λ o. IfSome o (λ y. P y × (test y ≡ true))) (λ is. (all.0, is)) (λ _. find-has P test xs all.1)

pub find-passes : {X : Type 0} (test : X → Bool) (xs : List X) → IfSome (find test xs) (λ x. test x ≡ true)
find-passes test [] = tt
find-passes test (x ∷ xs) = cond_both (test x) (Some x) (find test xs) (λ o. IfSome o (λ y. test y ≡ true)) (λ is. is) (λ _. find-passes test xs)

-- ---- counts

pub count-append : {X : Type 0} (test : X → Bool) (xs ys : List X) → count_by test (xs ++ ys) ≡ count_by test xs + count_by test ys
count-append test xs ys = sum_by-append (λ x. cond (test x) 1 0) xs ys

pub count-cons : {X : Type 0} (test : X → Bool) (x : X) (xs : List X) → count_by test (x ∷ xs) ≡ cond (test x) 1 0 + count_by test xs
count-cons test x xs = sum_by-cons (λ y. cond (test y) 1 0) x xs

-- a filter that keeps what counts, and one that drops it
pub count-kept : {X : Type 0} (test keep : X → Bool) → ((x : X) → test x ≡ true → keep x ≡ true) → (xs : List X) → count_by test (filter keep xs) ≡ count_by test xs
count-kept test keep kept xs = count_by-own keep test (λ x goes. false_from_ne_true (test x) (λ counts. false≢true (sym goes ∙ kept x counts))) xs

pub count-dropped : {X : Type 0} (test keep : X → Bool) → ((x : X) → test x ≡ true → keep x ≡ false) → (xs : List X) → count_by test (filter keep xs) ≡ 0
count-dropped test keep dropped [] = refl
count-dropped test keep dropped (x ∷ xs) =
    let ih = count-dropped test keep dropped xs in
    cond_both (keep x) (x ∷ filter keep xs) (filter keep xs) (λ ys. count_by test ys ≡ 0)
    (λ stays.
    let other : test x ≡ false = false_from_ne_true (test x) (λ counts. false≢true (sym (dropped x counts) ∙ stays)) in
    rw (count-cons, other) (omega (arith, ih)))
    (λ _. ih)

-- what is found counts
pub count-found : {X : Type 0} (test : X → Bool) (xs : List X) → is_some (find test xs) ≡ true → 1 ≤ count_by test xs
count-found test [] found = absurd (cc found)
count-found {X} test (x ∷ xs) found = rw count-cons (
    (elim (test x) as (λ b. is_some (cond {A = Option X} b (Some x) (find test xs)) ≡ true → 1 ≤ cond b 1 0 + count_by test xs) [
      | true ↦ λ _. omega arith
      | false ↦ λ later. (let more = count-found test xs later in omega (arith, more))
    ]) found)

pub filter-all : {X : Type 0} (xs : List X) → filter (λ _. true) xs ≡ xs
filter-all [] = refl
filter-all (x ∷ xs) = ap (λ ys. x ∷ ys) (filter-all xs)

-- ---- one's own elements

-- each element that a filter leaves passes its test
pub All-passed : {X : Type 0} (P : X → Type 0) (test : X → Bool) (xs : List X) → AllByRecursion P xs → AllByRecursion (λ x. P x × (test x ≡ true)) (filter test xs)
All-passed P test [] all = tt
All-passed P test (x ∷ xs) all =
    let later = All-passed P test xs all.1 in
    cond_both (test x) (x ∷ filter test xs) (filter test xs) (AllByRecursion (λ y. P y × (test y ≡ true))) (λ is. ((all.0, is), later)) (λ _. later)

pub filter_map-same : {X Y : Type 0} (f g : X → Option Y) (xs : List X) → AllByRecursion (λ x. f x ≡ g x) xs → filter_map f xs ≡ filter_map g xs
filter_map-same f g [] same = refl
filter_map-same {X} {Y} f g (x ∷ xs) same = ap (λ o. cons_option o (filter_map f xs)) same.0 ∙ ap (cons_option (g x)) (filter_map-same f g xs same.1)

-- what is found is one's own, so it is found among one's own
pub find-own : {X : Type 0} (own test : X → Bool) (xs : List X) → AllByRecursion (λ x. test x ≡ true → own x ≡ true) xs → find test (filter own xs) ≡ find test xs
find-own own test [] mine = refl
find-own own test (x ∷ xs) mine =
    let ih = find-own own test xs mine.1 in
    let other = λ (outside : own x ≡ false). false_from_ne_true (test x) (λ found. false≢true (sym outside ∙ mine.0 found)) in
    cond_both (own x) (x ∷ filter own xs) (filter own xs) (λ ys. find test ys ≡ find test (x ∷ xs))
    (λ _. ap (cond (test x) (Some x)) ih) (λ outside. ih ∙ sym (cond-false (test x) (Some x) (find test xs) (other outside)))

-- what follows from what holds of the value, if there is one
pub IfSome-weaker : {X : Type 0} (P Q : X → Type 0) (o : Option X) → ((x : X) → P x → Q x) → IfSome o P → IfSome o Q
IfSome-weaker P Q None weaker holds = tt
IfSome-weaker P Q (Some x) weaker holds = weaker x holds

-- what holds of the value, if there is one, holds of the one that is there
pub at_some : {X : Type 0} (P : X → Type 0) (o : Option X) (x : X) → o ≡ Some x → IfSome o P → P x
at_some P o x is holds = subst (λ p. IfSome p P) is holds

-- what a fact of two histories rests on: the same is found, and of what is found the same is said
pub option_map-same : {X Y : Type 0} (f g : X → Y) (o p : Option X) → o ≡ p → IfSome p (λ x. f x ≡ g x) → option_map f o ≡ option_map g p
option_map-same f g o p is same =
    ap (option_map f) is ∙ (elim p as (λ q. IfSome q (λ x. f x ≡ g x) → option_map f q ≡ option_map g q) [ None ↦ λ _. refl | Some x ↦ λ holds. ap Some holds ]) same
