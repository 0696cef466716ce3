-- Fronts of what is written.
use Rattle.std.proofs.Common.{◌≡◌, ℕ, List, ◌++◌, Option, None, Some, IfSome, sym, ap, ◌∙◌, subst, append_assoc}
use Rattle.std.specs.Io.KnownBytes.{Appends}
use Rattle.std.proofs.KnownBytes.{Appends-trans}
use Rattle.ns_types.specs.Streams.{AppendsFront}

-- a front of the bytes behind those that are written is a front of the whole
pub front_behind : (a b c : Option (List ℕ)) (written bytes text rest whole : List ℕ) → Appends a b written → written ++ (text ++ rest) ≡ whole → text ≡ bytes
    → AppendsFront b c bytes → AppendsFront a c whole
front_behind a b c written bytes text rest whole appended split is front =
    let (first, last, parts, some) = front in (
      written ++ first,
      last ++ rest,
      sym split ∙ ap (λ l. written ++ (l ++ rest)) (is ∙ parts) ∙ ap (λ l. written ++ l) (append_assoc first last rest) ∙ sym (append_assoc written first (last ++ rest)),
      Appends-trans a b c written first appended some,
    )

-- a front of a text that is the one to be written, where that is known
pub front-of : (o : Option (List ℕ)) (P : List ℕ → List ℕ) (a b : Option (List ℕ)) (text : List ℕ) → IfSome o (λ input. text ≡ P input) → AppendsFront a b text
    → IfSome o (λ input. AppendsFront a b (P input))
front-of None P a b text same front = tt
front-of (Some input) P a b text same front = subst (AppendsFront a b) same front
