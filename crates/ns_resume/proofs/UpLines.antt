-- The `up` lines that are there, beside one more that is implied.
use Rattle.std.proofs.Common.{◌≡◌, ℕ, List, [], ◌∷◌, ◌++◌, length, length-append, Option, refl, sym, ap, ◌∙◌, append_assoc, append-nil, arith}
use Rattle.std.proofs.KnownBytes.{Consumes-nil}
use Rattle.std.proofs.lemmas.List.{nil_from_length}
use Rattle.ns_steps.specs.StepLines.{ended}
use Rattle.ns_resume.specs.Resumed.{AreUps}
use Rattle.ns_resume.specs.Private.Ups.{GoOn}
use Rattle.ns_resume.specs.declared.ups.Ups.{Ups}

-- no line more is implied
pub goes-on-none : (known : Option (List ℕ)) (there ups : List ℕ) (u : Ups) → AreUps there ups u.missing.items u.torn → GoOn known known there (ups ++ []) u
goes-on-none known there ups u are = ([], Consumes-nil known, rw (append-nil there, append-nil ups) are)

-- a line that is missing, behind others
pub ups-missing : (there ups missing line : List ℕ) (torn : ℕ) → AreUps there ups missing torn → AreUps (there ++ []) (ups ++ ended line) (missing ++ ended line) torn
ups-missing there ups missing line torn are = record {
  front = are.front;
  rest = are.rest;
  more = are.more ++ ended line;
  are_there = append-nil there ∙ are.are_there;
  are_all = ap (λ l. l ++ ended line) are.are_all ∙ append_assoc are.front missing (ended line);
  begins = ap (λ l. l ++ ended line) are.begins ∙ append_assoc are.rest are.more (ended line);
  bytes = are.bytes;
}

module _ (there ups : List ℕ) (torn : ℕ) (are : AreUps there ups [] torn) where
  none : are.rest ≡ []
  none = nil_from_length are.rest (omega (arith, ap length are.begins, length-append are.rest are.more))

  -- where none is missing, all are there
  all_there : there ≡ ups
  all_there = are.are_there ∙ ap (λ l. are.front ++ l) none ∙ sym are.are_all

  -- a line that is there
  pub ups-there : (line : List ℕ) → AreUps (there ++ ended line) (ups ++ ended line) [] torn
  ups-there line = record {
    front = ups ++ ended line;
    rest = [];
    more = [];
    are_there = ap (λ l. l ++ ended line) all_there ∙ sym (append-nil (ups ++ ended line));
    are_all = sym (append-nil (ups ++ ended line));
    begins = refl;
    bytes = ap length (sym none) ∙ are.bytes;
  }

  -- a line within which, or before which, what is there ends
  pub ups-torn : (line part rest : List ℕ) → line ≡ part ++ rest → AreUps (there ++ (part ++ [])) (ups ++ ended line) (ended line) (length part)
  ups-torn line part rest is = record {
    front = ups;
    rest = part;
    more = rest ++ 10 ∷ [];
    are_there = ap (λ l. there ++ l) (append-nil part) ∙ ap (λ l. l ++ part) all_there;
    are_all = refl;
    begins = ap (λ l. l ++ 10 ∷ []) is ∙ append_assoc part rest (10 ∷ []);
    bytes = refl;
  }
