use Rattle.std.proofs.Common.{refl, sym, ltb-true}
use Rattle.ns_server.proofs.server.Server.locked.Goals as goal

pub new_lock-requires : goal.new_lock-requires
new_lock-requires g c = (ltb-true _ _ refl, (c.requires.shards, (c.args.books.shards.15, c.args.books.none.15)))

pub new_lock-requires-2 : goal.new_lock-requires-2
new_lock-requires-2 g c = (ltb-true _ _ refl, (c.new_lock.ensures, (c.args.books.shards.14, c.args.books.none.14)))

pub new_lock-requires-3 : goal.new_lock-requires-3
new_lock-requires-3 g c = (ltb-true _ _ refl, (c.new_lock-2.ensures, (c.args.books.shards.13, c.args.books.none.13)))

pub new_lock-requires-4 : goal.new_lock-requires-4
new_lock-requires-4 g c = (ltb-true _ _ refl, (c.new_lock-3.ensures, (c.args.books.shards.12, c.args.books.none.12)))

pub new_lock-requires-5 : goal.new_lock-requires-5
new_lock-requires-5 g c = (ltb-true _ _ refl, (c.new_lock-4.ensures, (c.args.books.shards.11, c.args.books.none.11)))

pub new_lock-requires-6 : goal.new_lock-requires-6
new_lock-requires-6 g c = (ltb-true _ _ refl, (c.new_lock-5.ensures, (c.args.books.shards.10, c.args.books.none.10)))

pub new_lock-requires-7 : goal.new_lock-requires-7
new_lock-requires-7 g c = (ltb-true _ _ refl, (c.new_lock-6.ensures, (c.args.books.shards.9, c.args.books.none.9)))

pub new_lock-requires-8 : goal.new_lock-requires-8
new_lock-requires-8 g c = (ltb-true _ _ refl, (c.new_lock-7.ensures, (c.args.books.shards.8, c.args.books.none.8)))

pub new_lock-requires-9 : goal.new_lock-requires-9
new_lock-requires-9 g c = (ltb-true _ _ refl, (c.new_lock-8.ensures, (c.args.books.shards.7, c.args.books.none.7)))

pub new_lock-requires-10 : goal.new_lock-requires-10
new_lock-requires-10 g c = (ltb-true _ _ refl, (c.new_lock-9.ensures, (c.args.books.shards.6, c.args.books.none.6)))

pub new_lock-requires-11 : goal.new_lock-requires-11
new_lock-requires-11 g c = (ltb-true _ _ refl, (c.new_lock-10.ensures, (c.args.books.shards.5, c.args.books.none.5)))

pub new_lock-requires-12 : goal.new_lock-requires-12
new_lock-requires-12 g c = (ltb-true _ _ refl, (c.new_lock-11.ensures, (c.args.books.shards.4, c.args.books.none.4)))

pub new_lock-requires-13 : goal.new_lock-requires-13
new_lock-requires-13 g c = (ltb-true _ _ refl, (c.new_lock-12.ensures, (c.args.books.shards.3, c.args.books.none.3)))

pub new_lock-requires-14 : goal.new_lock-requires-14
new_lock-requires-14 g c = (ltb-true _ _ refl, (c.new_lock-13.ensures, (c.args.books.shards.2, c.args.books.none.2)))

pub new_lock-requires-15 : goal.new_lock-requires-15
new_lock-requires-15 g c = (ltb-true _ _ refl, (c.new_lock-14.ensures, (c.args.books.shards.1, c.args.books.none.1)))

pub new_lock-requires-16 : goal.new_lock-requires-16
new_lock-requires-16 g c = (ltb-true _ _ refl, (c.new_lock-15.ensures, (c.args.books.shards.0, c.args.books.none.0)))

pub invariant_of-result : goal.invariant_of-result
invariant_of-result g c = (sym c.requires.workers.1, c.requires.workers.0, c.requires.roster)

pub returns : goal.returns
returns g c = refl

pub invariant_of-books : goal.invariant_of-books
invariant_of-books g c = record { shards = c.args.books.shards; none = c.args.books.none }

pub invariant_of-books-2 : goal.invariant_of-books-2
invariant_of-books-2 g c = record { shards = c.args.books.shards; none = c.args.books.none }

pub invariant_of-books-3 : goal.invariant_of-books-3
invariant_of-books-3 g c = record { shards = c.args.books.shards; none = c.args.books.none }

pub invariant_of-books-4 : goal.invariant_of-books-4
invariant_of-books-4 g c = record { shards = c.args.books.shards; none = c.args.books.none }

pub invariant_of-books-5 : goal.invariant_of-books-5
invariant_of-books-5 g c = record { shards = c.args.books.shards; none = c.args.books.none }

pub invariant_of-books-6 : goal.invariant_of-books-6
invariant_of-books-6 g c = record { shards = c.args.books.shards; none = c.args.books.none }

pub invariant_of-books-7 : goal.invariant_of-books-7
invariant_of-books-7 g c = record { shards = c.args.books.shards; none = c.args.books.none }

pub invariant_of-books-8 : goal.invariant_of-books-8
invariant_of-books-8 g c = record { shards = c.args.books.shards; none = c.args.books.none }

pub invariant_of-books-9 : goal.invariant_of-books-9
invariant_of-books-9 g c = record { shards = c.args.books.shards; none = c.args.books.none }

pub invariant_of-books-10 : goal.invariant_of-books-10
invariant_of-books-10 g c = record { shards = c.args.books.shards; none = c.args.books.none }

pub invariant_of-books-11 : goal.invariant_of-books-11
invariant_of-books-11 g c = record { shards = c.args.books.shards; none = c.args.books.none }

pub invariant_of-books-12 : goal.invariant_of-books-12
invariant_of-books-12 g c = record { shards = c.args.books.shards; none = c.args.books.none }

pub invariant_of-books-13 : goal.invariant_of-books-13
invariant_of-books-13 g c = record { shards = c.args.books.shards; none = c.args.books.none }

pub invariant_of-books-14 : goal.invariant_of-books-14
invariant_of-books-14 g c = record { shards = c.args.books.shards; none = c.args.books.none }

pub invariant_of-books-15 : goal.invariant_of-books-15
invariant_of-books-15 g c = record { shards = c.args.books.shards; none = c.args.books.none }
