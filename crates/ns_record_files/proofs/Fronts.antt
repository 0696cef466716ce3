-- Fronts of bytes.
use Rattle.std.proofs.Common.{◌≡◌, ℕ, List, [], ◌++◌, sym, ap, ◌∙◌, append_assoc, append-nil}
use Rattle.ns_record_files.specs.Disk.{IsFront}

pub front_all : (a b : List ℕ) → a ≡ b → IsFront a b
front_all a b same = ([], append-nil a ∙ same)

pub front-trans : (a b c : List ℕ) → IsFront a b → IsFront b c → IsFront a c
front-trans a b c one two =
    (one.0 ++ two.0, sym (append_assoc a one.0 two.0) ∙ ap (λ l. l ++ two.0) one.1 ∙ two.1)
