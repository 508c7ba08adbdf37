-- `candidates`: all rivals, or those to whom an exploration from the holder of e leads.
use Rattle.std.proofs.Common.{arith}
use Rattle.masks.proofs.Masks.{bit_and_lem}
use Rattle.chains.proofs.Chains.{ready, held_inv}
use Rattle.refining.proofs.WhoCanHave.{moves_spare, candidates_all, candidates_reached}
use Rattle.refining.proofs.candidates.Goals as goal

pub returns-then-holder-ge-MEMBERS_MOST : goal.returns-then-holder-ge-MEMBERS_MOST
returns-then-holder-ge-MEMBERS_MOST c = candidates_all (λ held m. absurd (omega (arith, c.if-holder-ge-MEMBERS_MOST.true)))

pub explore-requires : goal.explore-requires
explore-requires c = ready c.span.result c.args.free c.requires.spares c.span.ensures c.requires.size c.if-holder-ge-MEMBERS_MOST.false

pub returns-then-explore : goal.returns-then-explore
returns-then-explore c = candidates_all (λ held m. moves_spare c.span.result c.args.free c.requires.spares c.span.ensures c.explore.ensures m c.if-explore.true)

pub holders-reached-requires : goal.holders-reached-requires
holders-reached-requires c i t = (held_inv c.span.result c.args.free c.requires.spares c.span.ensures i (c.explore.ensures.inside i t)).2

pub returns : goal.returns
returns c =
    candidates_reached c.span.result c.args.free c.requires c.span.ensures c.if-holder-ge-MEMBERS_MOST.false c.if-explore.false c.explore.ensures c.holders-reached.ensures
    (λ m. bit_and_lem c.args.rivals c.holders-reached.result m)
