-- Lines, as they are given, and what comes of them.
use Rattle.std.proofs.Common.{◌≡◌, List, [], ◌∷◌, ◌++◌, flat_map, Option, None, Some, option_map, option_to_list, true, refl, sym, ap, ◌∙◌}
use Rattle.std.proofs.lemmas.List.{append_assoc, append-nil}
use Rattle.std.proofs.lemmas.List.Concat.{flat_map-append}
use Rattle.std.proofs.lemmas.List.Elements.{filter_map-append}
use Rattle.ns_roster.specs.Network.{Network}
use Rattle.ns_acts.specs.declared.step.Step.{Step}
use Rattle.ns_runs.specs.declared.run.Taken.{Taken}
use Rattle.ns_runs.specs.Steps.{step_taken, all_taken}
use Rattle.ns_runs.specs.Lines.{steps_in, told_of, Gives, HasAll, Advances}

-- what comes of lines, one after the other, after the steps before them
abbrev pub all_lines : Network → List Step → List (Option Step) → List (Option Taken)
all_lines net before [] = []
all_lines net before (None ∷ lines) = None ∷ all_lines net before lines
all_lines net before (Some step ∷ lines) = Some (step_taken net before step) ∷ all_lines net (before ++ step ∷ []) lines

pub all_lines-told : (net : Network) (before : List Step) (lines : List (Option Step)) → all_lines net before lines ≡ told_of lines (all_taken net before (steps_in lines))
all_lines-told net before [] = refl
all_lines-told net before (None ∷ lines) = ap (λ ts. None ∷ ts) (all_lines-told net before lines)
all_lines-told net before (Some step ∷ lines) = ap (λ ts. Some (step_taken net before step) ∷ ts) (all_lines-told net (before ++ step ∷ []) lines)

pub steps_in-more : (lines : List (Option Step)) (line : Option Step) → steps_in (lines ++ line ∷ []) ≡ steps_in lines ++ option_to_list line
steps_in-more lines None = filter_map-append (λ line. line) lines (None ∷ [])
steps_in-more lines (Some step) = filter_map-append (λ line. line) lines (Some step ∷ [])

pub all_lines-more : (net : Network) (before : List Step) (lines : List (Option Step)) (line : Option Step)
    → all_lines net before (lines ++ line ∷ []) ≡ all_lines net before lines ++ option_map (step_taken net (before ++ steps_in lines)) line ∷ []
all_lines-more net before [] None = refl
all_lines-more net before [] (Some step) = ap (λ bs. Some (step_taken net bs step) ∷ []) (sym (append-nil before))
all_lines-more net before (None ∷ lines) line = ap (λ ls. None ∷ ls) (all_lines-more net before lines line)
all_lines-more net before (Some s ∷ lines) line =
    ap (λ ls. Some (step_taken net before s) ∷ ls)
    (all_lines-more net (before ++ s ∷ []) lines line
    ∙ ap (λ bs. all_lines net (before ++ s ∷ []) lines ++ option_map (step_taken net bs) line ∷ []) (append_assoc before (s ∷ []) (steps_in lines)))

-- what is made of lines and of one more
pub pieces-more : {P : Type 0} (f g : Option Taken → List P) (first held new : List P) (told : List (Option Taken)) (t : Option Taken) → held ≡ first ++ flat_map f told → g ≡ f
    → new ≡ held ++ g t → new ≡ first ++ flat_map f (told ++ t ∷ [])
pieces-more {P} f g first held new told t so_far same put =
    put
    ∙ ap (λ h. h ++ g t) so_far
    ∙ ap (λ (m : Option Taken → List P). (first ++ flat_map f told) ++ m t) same
    ∙ append_assoc first (flat_map f told) (f t)
    ∙ ap (λ l. first ++ l) (ap (λ l. flat_map f told ++ l) (sym (append-nil (f t))) ∙ sym (flat_map-append f told (t ∷ [])))

-- ---- the lines that are left

pub gives-none : (a : Option (List (Option Step))) → Gives a a []
gives-none None = tt
gives-none (Some lines) = refl

pub gives-more : (a b c : Option (List (Option Step))) (done : List (Option Step)) (line : Option Step) → Gives a b done → Advances b c true line → Gives a c (done ++ line ∷ [])
gives-more None b c done line p q = tt
gives-more (Some x) None c done line p q = absurd p
gives-more (Some x) (Some y) None done line p q = absurd q
gives-more (Some x) (Some y) (Some z) done line p q = p ∙ ap (λ l. done ++ l) q ∙ sym (append_assoc done (line ∷ []) z)

pub gives-all : (a b : Option (List (Option Step))) (done : List (Option Step)) → Gives a b done → HasAll b [] → HasAll a done
gives-all None b done p e = tt
gives-all (Some x) None done p e = absurd p
gives-all (Some x) (Some y) done p e = p ∙ ap (λ l. done ++ l) e ∙ append-nil done
