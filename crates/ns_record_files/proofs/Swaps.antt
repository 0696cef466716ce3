-- The moments of a swap.
use Rattle.std.proofs.Common.{inl, inr, ◌≡◌, ℕ, List, [], ◌∷◌, ◌++◌, Option, None, Some, refl, sym, ap, subst, ◌∙◌, append_assoc, append-nil}
use Rattle.std.specs.Prelude.{true, false, ◌⊎◌}
use Rattle.std.specs.Option.{option_map}
use Rattle.std.proofs.lemmas.Bool.{false≢true}
use Rattle.std.proofs.lemmas.List.{append_cancel_left}
use Rattle.std.proofs.lemmas.List.Elements.{All-cons, All-nil}
use Rattle.ns_record_files.specs.Disk.{IsFront}
use Rattle.ns_record_files.specs.Swap.{Folder, Turns, turns, new_safe, named, lasting, MayBeNamed, IsOneOrTheOther, SwapsKnown, IsSwapped}

ends_in_nil : (r s : List ℕ) → r ++ s ≡ [] → r ≡ []
ends_in_nil [] s same = refl
ends_in_nil (x ∷ r) s same = cc

-- each begins the other
front_both : (a b : List ℕ) → IsFront a b → IsFront b a → b ≡ a
front_both a b one two =
    let round : a ++ (one.0 ++ two.0) ≡ a ++ [] =
    sym (append_assoc a one.0 two.0) ∙ ap (λ l. l ++ two.0) one.1 ∙ two.1 ∙ sym (append-nil a) in
    let none : one.0 ≡ [] = ends_in_nil one.0 two.0 (append_cancel_left a (one.0 ++ two.0) [] round) in
    sym one.1 ∙ ap (λ l. a ++ l) none ∙ append-nil a

before_name : (f : Folder) → f.is_named ≡ false → IsOneOrTheOther f.old f.new f
before_name f none text (inl old) = inl old.1
before_name f none text (inr new) = absurd (false≢true (sym none ∙ new.0))

when_safe : (f : Folder) → f.safe ≡ f.new → IsOneOrTheOther f.old f.new f
when_safe f safe text (inl old) = inl old.1
when_safe f safe text (inr new) = inr (front_both f.new text (subst (λ l. IsFront l text) safe new.1) new.2)

when_lasting : (f : Folder) → f.safe ≡ f.new → f.is_lasting ≡ true → (text : List ℕ) → MayBeNamed f text → text ≡ f.new
when_lasting f safe lasts text (inl old) = absurd (false≢true (sym old.0 ∙ lasts))
when_lasting f safe lasts text (inr new) = front_both f.new text (subst (λ l. IsFront l text) safe new.1) new.2

-- nothing was done
pub none_done : (old new : Option Turns) → new ≡ old → SwapsKnown old new
none_done None new same = same
none_done (Some ts) new same =
    (ts, same, λ none. record { later = []; moments = refl; each = All-nil (IsOneOrTheOther ts.now.old ts.now.new) })

-- the new steps are safe
pub safe_done : (old one new : Option Turns) → one ≡ option_map (turns new_safe) old → new ≡ one → SwapsKnown old new
safe_done None one new first same = same ∙ first
safe_done (Some ts) one new first same =
    let P = IsOneOrTheOther ts.now.old ts.now.new in
    let f : Folder = new_safe ts.now in (
      turns new_safe ts,
      same ∙ first,
      λ none. record {
        later = f ∷ [];
        moments = refl;
        each = All-cons P f [] (before_name f none) (All-nil P);
      },
    )

-- the new steps have the name
pub name_done : (old one two new : Option Turns) → one ≡ option_map (turns new_safe) old → two ≡ option_map (turns named) one → new ≡ two → SwapsKnown old new
name_done None one two new first second same = same ∙ second ∙ ap (option_map (turns named)) first
name_done (Some ts) one two new first second same =
    let P = IsOneOrTheOther ts.now.old ts.now.new in
    let f : Folder = new_safe ts.now in
    let g : Folder = named f in (
      turns named (turns new_safe ts),
      same ∙ second ∙ ap (option_map (turns named)) first,
      λ none. record {
        later = g ∷ f ∷ [];
        moments = refl;
        each = All-cons P g (f ∷ []) (when_safe g refl) (All-cons P f [] (before_name f none) (All-nil P));
      },
    )

-- the rename failed, with or without effect
pub name_failed : (old one new : Option Turns) → one ≡ option_map (turns new_safe) old → (new ≡ one) ⊎ (new ≡ option_map (turns named) one) → SwapsKnown old new
name_failed old one new first (inl same) = safe_done old one new first same
name_failed old one new first (inr moved) = name_done old one new new first moved refl

-- and have it for good
pub all_done : (old one two new : Option Turns) → one ≡ option_map (turns new_safe) old → two ≡ option_map (turns named) one → new ≡ option_map (turns lasting) two → SwapsKnown old new
all_done None one two new first second third = third ∙ ap (option_map (turns lasting)) (second ∙ ap (option_map (turns named)) first)
all_done (Some ts) one two new first second third =
    let P = IsOneOrTheOther ts.now.old ts.now.new in
    let f : Folder = new_safe ts.now in
    let g : Folder = named f in
    let h : Folder = lasting g in (
      turns lasting (turns named (turns new_safe ts)),
      third ∙ ap (option_map (turns lasting)) (second ∙ ap (option_map (turns named)) first),
      λ none. record {
        later = h ∷ g ∷ f ∷ [];
        moments = refl;
        each = All-cons P h (g ∷ f ∷ []) (when_safe h refl) (All-cons P g (f ∷ []) (when_safe g refl) (All-cons P f [] (before_name f none) (All-nil P)));
      },
    )

pub swapped : (old one two new : Option Turns) → one ≡ option_map (turns new_safe) old → two ≡ option_map (turns named) one → new ≡ option_map (turns lasting) two → IsSwapped old new
swapped None one two new first second third = third ∙ ap (option_map (turns lasting)) (second ∙ ap (option_map (turns named)) first)
swapped (Some ts) one two new first second third = (
  turns lasting (turns named (turns new_safe ts)),
  third ∙ ap (option_map (turns lasting)) (second ∙ ap (option_map (turns named)) first),
  when_lasting (lasting (named (new_safe ts.now))) refl refl,
)
