-- Its own fault, or its integers. Assumes nothing.
use Rattle.std.proofs.Common.{◌<◌, ℕ, List, ℤ, arith}
use Rattle.std.specs.Prelude.{Result, Ok, Err, MatchResult}
use Rattle.grammar.specs.Read.{Read}
use Rattle.stream.specs.Contract.{zeros, Listed}
use Rattle.stream.specs.declared.List.{List as ListResult}
use Rattle.stream.proofs.Lists.{faulted, listed_faulty, listed_fits, listed_few, listed_right}
use Rattle.stream.proofs.read_list.Goals as goal

-- what is read as o is read as p too
read_as : (t : List ℕ) (o p : Read (List ℤ)) (r : Result ListResult ℕ) → ((code n next : ℕ) (xs : List ℤ) → Listed t o code n next xs → Listed t p code n next xs)
    → MatchResult r (λ l. Listed t o 0 l.n l.next l.xs) (λ code. (0 < code) × Listed t o code 0 0 (zeros 32))
    → MatchResult r (λ l. Listed t p 0 l.n l.next l.xs) (λ code. (0 < code) × Listed t p code 0 0 (zeros 32))
read_as t o p (Ok l) h x = h _ _ _ _ x
read_as t o p (Err e) h x = (x.0, h _ _ _ _ x.1)

pub returns-then-code-ne-DONE : goal.returns-then-code-ne-DONE
returns-then-code-ne-DONE c = faulted _ _ _ c.if-code-ne-DONE.true (listed_faulty _ _ c.requires c.list_fault-code.result c.list_fault-code.ensures c.if-code-ne-DONE.true)

pub bounds-s-at : goal.bounds-s-at
bounds-s-at c = omega (arith, listed_fits _ _ c.requires c.list_fault-code.result c.list_fault-code.ensures c.if-code-ne-DONE.false)

pub read_integers-requires : goal.read_integers-requires
read_integers-requires c =
    let known = c.list_fault-code.ensures in
    (listed_fits _ _ c.requires c.list_fault-code.result known c.if-code-ne-DONE.false, listed_few _ _ c.requires c.list_fault-code.result known c.if-code-ne-DONE.false)

pub returns : goal.returns
returns c = read_as _ _ _ _ (listed_right _ _ c.requires c.list_fault-code.result c.list_fault-code.ensures c.if-code-ne-DONE.false) c.read_integers.ensures
