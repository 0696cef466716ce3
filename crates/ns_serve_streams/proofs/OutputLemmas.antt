-- What a writer and a sender are told grows.
use Rattle.std.proofs.Common.{◌≡◌, ℕ, List, [], ◌++◌, Some, None, Option, Result, Ok, Err, refl, sym, ap, ◌∙◌, subst, append-nil}
use Rattle.std.specs.Prelude.{OnOk}
use Rattle.std.specs.Io.KnownBytes.{Appends, append_known}
use Rattle.std.proofs.KnownBytes.{Appends-trans}
use Rattle.ns_calls.specs.declared.answer.Downlink.{Downlink}
use Rattle.ns_serve_streams.specs.declared.output.Output.{Output}
use Rattle.ns_serve_streams.specs.Output.{Grows, EndsIn, Sends, IsPut}

appends_none : (a : Option (List ℕ)) → Appends a a []
appends_none None = tt
appends_none (Some xs) = sym (append-nil xs)

-- nothing was told yet
pub grows_none : (a : Option (List ℕ)) → Grows a a
grows_none a = ([], appends_none a)

-- one text more
pub grows_more : (a b c : Option (List ℕ)) (text : List ℕ) → Grows a b → Appends b c text → Grows a c
grows_more a b c text before now = (before.0 ++ text, Appends-trans a b c _ _ before.1 now)

-- a text after what was told before
pub ends_in : (a b c : Option (List ℕ)) (text : List ℕ) → Grows a b → Appends b c text → EndsIn a c text
ends_in a b c text before now = (before.0, Appends-trans a b c _ _ before.1 now)

-- where no lines wait, they are not counted
pub nothing_waits : (known : Option (List ℕ)) (lines : List ℕ) → lines ≡ [] → append_known known lines ≡ known
nothing_waits None lines none = refl
nothing_waits (Some xs) lines none = ap (λ l. Some (xs ++ l)) none ∙ ap Some (append-nil xs)

-- two texts after what was told before, with no lines that wait between them
pub ends_in_both : (a b c d : Option (List ℕ)) (lines one two : List ℕ) → Grows a b → Appends b c one → lines ≡ [] → Appends (append_known c lines) d two → EndsIn a d (one ++ two)
ends_in_both a b c d lines one two before first none second =
    ends_in a b d (one ++ two) before (Appends-trans b c d one two first (subst (λ known. Appends known d two) (nothing_waits c lines none) second))

-- a sender that is given nothing
pub sends_none : (taken : Option (List Downlink)) → Sends taken taken None
sends_none None = tt
sends_none (Some xs) = ap (λ l. Some l) (sym (append-nil xs))

-- an output that was told lines, and whose writer has them
pub is_put : {W A E : Type 0} (taken : W → Option (List ℕ)) (before after : Output W) (lines : List ℕ) (r : Result A E)
    → OnOk r (Appends (append_known (taken before.writer) before.lines.items) (taken after.writer) lines) → OnOk r (after.lines.items ≡ []) → OnOk r (IsPut taken lines)
is_put taken before after lines (Ok x) written empty = record { before = before; after = after; written = written; empty = empty }
is_put taken before after lines (Err x) written empty = tt
