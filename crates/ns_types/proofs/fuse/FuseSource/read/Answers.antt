use Rattle.ns_types.specs.Streams.{FuseState}
use Rattle.std.proofs.Common.{◌≡◌, ℕ, ◌+◌, ◌≤◌, List, ◌++◌, length, take, drop, sym, ap, ◌∙◌, arith, take-append-drop, rules}
use Rattle.std.proofs.lemmas.Grind.{common_steps}
use Rattle.std.proofs.lemmas.List.{nil_from_length}
use Rattle.ns_types.proofs.fuse.FuseSource.read.Goals as goal

gives_front : (items new rest : List ℕ) (at n : ℕ) → at + n ≤ length items → new ≡ take n (drop at items)
    → drop at items ≡ take n (new ++ rest) ++ drop (at + n) items
gives_front items new rest at n within is =
    grind (arith, common_steps, take-append-drop n (drop at items))

pub returns-clause-bytes : goal.returns-clause-bytes
returns-clause-bytes c = (
  sym (ap (λ (f : FuseState). f.left) c.self.view_is) ∙ gives_front c.self.inside.input.items c.copy_from_slice.new.self (drop c.min-n.result c.args.buf.now) c.self.inside.at c.min-n.result (search rules) (search rules),
  λ none room. nil_from_length _ (grind (arith, common_steps)),
)
