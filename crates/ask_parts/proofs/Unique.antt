-- The promise of `Kind::try_from` allows one result only: no two kinds have one byte. Stated of the contract itself, as the check reads it. Assumes nothing.
use Rattle.std.proofs.Common.{◌≡◌, ◌∙◌, refl, sym, ap, ℕ}
use Rattle.std.specs.Prelude.{Result, Ok, Err, cond, eqb}
use Rattle.ask_parts.specs.declared.Kind.{Kind}
use Rattle.ask_parts.specs.declared.Stop.{Stop}
use Rattle.ask_parts.specs.Kind.{byte_of, Decodes}
use borrow.Fn.Kinds.{Dens, res_t, ended_of}
use contract.Lifetimes.{Lfts}
use denote.Triple.Clauses.{AtExit}
use Rattle.ask_parts.proofs.KindTryFromU8.try_from.Reads as reads
use Rattle.ask_parts.proofs.KindTryFromU8.try_from.Kinds as kinds

-- the kind that has the byte
abbrev kind_at : ℕ → Kind
kind_at b = cond (eqb b 1) Kind.Match (cond (eqb b 2) Kind.Judge (cond (eqb b 3) Kind.Normalise (cond (eqb b 4) Kind.Meeting Kind.WhyNot)))

kind_back : (k : Kind) → kind_at (byte_of k) ≡ k
kind_back Kind.Match = refl
kind_back Kind.Judge = refl
kind_back Kind.Normalise = refl
kind_back Kind.Meeting = refl
kind_back Kind.WhyNot = refl

decodes_same : (b : ℕ) (r r' : Result Kind Stop) → Decodes b r → Decodes b r' → r ≡ r'
decodes_same b (Ok k) (Ok k') p q = ap Ok (sym (kind_back k) ∙ ap kind_at (p ∙ sym q) ∙ kind_back k')
decodes_same b (Ok k) (Err s) p q = absurd (q.1 k p)
decodes_same b (Err s) (Ok k) p q = absurd (p.1 k q)
decodes_same b (Err s) (Err s') p q = ap Err (p.0 ∙ sym q.0)

pub try_from_unique : (κs : Lfts 0) (a : Dens κs kinds.ps) (r r' : (res_t kinds.r κs).Denot) (s s' : AtExit (ended_of 0 kinds.ps kinds.r) κs)
    → reads.Post κs a r s → reads.Post κs a r' s' → r ≡ r'
try_from_unique κs a r r' s s' p q = decodes_same _ r r' p q
