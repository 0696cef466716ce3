-- A window is the first of an uplink, or one of a later round.
use Rattle.std.proofs.Common.{◌≡◌, Bool, true, false, Option, Some, ◌⊎◌, inl, inr, ◌||◌, List, [], ◌∷◌, filter_map, None, refl, ap, ◌∙◌, ◌&&◌}
use Rattle.ns_calls.specs.declared.call.Call.{Call}
use Rattle.ns_calls.specs.declared.call.Reply.{Reply}
use Rattle.ns_calls.specs.Entries.{Opening, Said, Opens, OpensAgain, said, first_opened, opened}
use Rattle.ns_calls.proofs.Says as says
use Rattle.ns_calls.proofs.Says.{opening_in, window_in}
use Rattle.ns_kept.specs.Kept.{repeated}
use Rattle.std.specs.List.{list_any, cons_option}
use Rattle.std.specs.Option.{option_map_or}
use Rattle.ns_calls.specs.declared.call.Entry.{Entry}
use Rattle.ns_calls.proofs.Lists.{at_some}
use Rattle.std.proofs.lemmas.Bool.{and_parts}

abbrev pub repetition_in : Call → Reply → Option Opening
repetition_in c r = repeated (said c r)

later-window : (s : Said) (o : Opening) → repeated s ≡ Some o → opened s ≡ Some o
later-window (OpensAgain p) o is = is
later-window _ o is = absurd (cc is)

either : (s : Said) (o : Opening) → opened s ≡ Some o → (first_opened s ≡ Some o) ⊎ (repeated s ≡ Some o)
either (Opens p) o is = inl is
either (OpensAgain p) o is = inr is
either _ o is = absurd (cc is)

pub opening-window : (c : Call) (r : Reply) (o : Opening) → opening_in c r ≡ Some o → window_in c r ≡ Some o
opening-window c r o is = at_some (λ (p : Opening). window_in c r ≡ Some p) (opening_in c r) o is (says.opening-window c r)

pub repetition-window : (c : Call) (r : Reply) (o : Opening) → repetition_in c r ≡ Some o → window_in c r ≡ Some o
repetition-window c r o is = later-window (said c r) o is

pub window-either : (c : Call) (r : Reply) (o : Opening) → window_in c r ≡ Some o → (opening_in c r ≡ Some o) ⊎ (repetition_in c r ≡ Some o)
window-either c r o is = either (said c r) o is

-- ---- whether an entry says such a thing

abbrev pub in_class : {Y : Type 0} → (Said → Option Y) → (Y → Bool) → Entry → Bool
in_class says mine x = option_map_or mine (says (said x.call x.reply)) false

pub any-said : {Y : Type 0} (says : Said → Option Y) (mine : Y → Bool) (xs : List Entry) → list_any (in_class says mine) xs ≡ list_any mine (filter_map (λ e. says (said e.call e.reply)) xs)
any-said says mine [] = refl
any-said {Y} says mine (x ∷ xs) = step (says (said x.call x.reply)) (any-said says mine xs)
  where
    step : (o : Option Y) → list_any (in_class says mine) xs ≡ list_any mine (filter_map (λ (e : Entry). says (said e.call e.reply)) xs) → (option_map_or mine o false || list_any (in_class says mine) xs) ≡ list_any mine (cons_option o (filter_map (λ (e : Entry). says (said e.call e.reply)) xs))
    step None later = later
    step (Some y) later = ap (λ b. mine y || b) later

-- what an entry that passes says
pub said_one : {Y : Type 0} (test : Y → Bool) (o : Option Y) → option_map_or test o false ≡ true → (y : Y) × (o ≡ Some y) × (test y ≡ true)
said_one test None is = absurd (cc is)
said_one test (Some y) is = (y, refl, is)

pub says_so : {Y : Type 0} (test : Y → Bool) (o : Option Y) (y : Y) → o ≡ Some y → test y ≡ true → option_map_or test o false ≡ true
says_so test o y is passes = ap (λ p. option_map_or test p false) is ∙ passes

-- the same of two tests
pub said_two : {Y : Type 0} (p q : Y → Bool) (o : Option Y) → option_map_or (λ y. p y && q y) o false ≡ true → (y : Y) × (o ≡ Some y) × (p y ≡ true) × (q y ≡ true)
said_two p q None is = absurd (cc is)
said_two p q (Some y) is = (let parts = and_parts (p y) (q y) is in (y, refl, parts.0, parts.1))
