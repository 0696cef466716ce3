use Rattle.std.proofs.Common.{◌≡◌, ℕ, min, List, ◌++◌, arith, length, take, ap, ◌∙◌}
use Rattle.std.proofs.lemmas.List.{take-append-le, take_all, length-take-le, take_min}
use Rattle.ns_workers.proofs.listed.put_front.Goals as goal

-- a front that is cut at the list's end or at 512
front_is : (n : ℕ) (xs ys front : List ℕ) → front ≡ take n xs → n ≡ min (length xs) 512 → take n (front ++ ys) ≡ take 512 xs
front_is n xs ys front same cut =
    let long : length (take n xs) ≡ n = length-take-le n xs (omega (arith, cut)) in
    let cut' : n ≡ min 512 (length xs) = omega (arith, cut) in
    ap (λ l. take n (l ++ ys)) same ∙ take-append-le n (take n xs) ys (omega (arith, long)) ∙ take_all n (take n xs) (omega (arith, long))
    ∙ ap (λ m. take m xs) cut' ∙ take_min 512 xs

pub returns-clause-front : goal.returns-clause-front
returns-clause-front c = front_is c.min-n.result c.args.datagram.now _ c.copy_from_slice.new.self c.copy_from_slice.ensures.after c.min-n.ensures
