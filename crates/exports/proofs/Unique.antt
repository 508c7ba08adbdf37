-- Each exported function's promise allows one result only, with all that it writes, stated of the contract itself. Assumes nothing.
use mathlib.Core.Path.{◌≡◌, sym, ◌∙◌}
use borrow.Fn.Kinds.{Dens, res_t, ended_of}
use contract.Lifetimes.{Lfts}
use denote.Triple.Clauses.{AtExit}
use Rattle.matcher.proofs.Unique.{one_given}
use Rattle.forms.proofs.Unique.{answer_parts}
use Rattle.why.proofs.NumberAndGroup.{one_number, one_group}
use Rattle.exports.proofs.intake_match.Reads as intake-match
use Rattle.exports.proofs.intake_match.Kinds as intake-match-kinds
use Rattle.exports.proofs.intake_judge.Reads as intake-judge
use Rattle.exports.proofs.intake_judge.Kinds as intake-judge-kinds
use Rattle.exports.proofs.intake_normalise.Reads as intake-normalise
use Rattle.exports.proofs.intake_normalise.Kinds as intake-normalise-kinds
use Rattle.exports.proofs.intake_normalise_typed.Reads as intake-normalise-typed
use Rattle.exports.proofs.intake_normalise_typed.Kinds as intake-normalise-typed-kinds
use Rattle.exports.proofs.intake_meeting.Reads as intake-meeting
use Rattle.exports.proofs.intake_meeting.Kinds as intake-meeting-kinds
use Rattle.exports.proofs.intake_why_not.Reads as intake-why-not
use Rattle.exports.proofs.intake_why_not.Kinds as intake-why-not-kinds
use Rattle.exports.proofs.intake_match_floats.Reads as intake-match-floats
use Rattle.exports.proofs.intake_match_floats.Kinds as intake-match-floats-kinds
use Rattle.exports.proofs.intake_judge_floats.Reads as intake-judge-floats
use Rattle.exports.proofs.intake_judge_floats.Kinds as intake-judge-floats-kinds
use Rattle.exports.proofs.intake_why_not_floats.Reads as intake-why-not-floats
use Rattle.exports.proofs.intake_why_not_floats.Kinds as intake-why-not-floats-kinds

-- number and every byte of the room
pub intake_match_unique : (κs : Lfts 3) (a : Dens κs intake-match-kinds.ps) (r r' : (res_t intake-match-kinds.r κs).Denot) (s s' : AtExit (ended_of 3 intake-match-kinds.ps intake-match-kinds.r) κs)
    → intake-match.Post κs a r s → intake-match.Post κs a r' s' → (r ≡ r') × (s.1.1.0.now ≡ s'.1.1.0.now)
intake_match_unique κs a r r' s s' p q = one_given _ r r' _ _ p q

pub intake_judge_unique : (κs : Lfts 3) (a : Dens κs intake-judge-kinds.ps) (r r' : (res_t intake-judge-kinds.r κs).Denot) (s s' : AtExit (ended_of 3 intake-judge-kinds.ps intake-judge-kinds.r) κs)
    → intake-judge.Post κs a r s → intake-judge.Post κs a r' s' → r ≡ r'
intake_judge_unique κs a r r' s s' p q = p ∙ sym q

-- number, length and every byte of the room
pub intake_normalise_unique : (κs : Lfts 3) (a : Dens κs intake-normalise-kinds.ps) (r r' : (res_t intake-normalise-kinds.r κs).Denot) (s s' : AtExit (ended_of 3 intake-normalise-kinds.ps intake-normalise-kinds.r) κs)
    → intake-normalise.Post κs a r s → intake-normalise.Post κs a r' s' → (r ≡ r') × (s.1.1.0.now ≡ s'.1.1.0.now) × (s.1.0.now ≡ s'.1.0.now)
intake_normalise_unique κs a r r' s s' p q = answer_parts _ r r' _ _ _ _ p q

pub intake_normalise_typed_unique : (κs : Lfts 3) (a : Dens κs intake-normalise-typed-kinds.ps) (r r' : (res_t intake-normalise-typed-kinds.r κs).Denot) (s s' : AtExit (ended_of 3 intake-normalise-typed-kinds.ps intake-normalise-typed-kinds.r) κs)
    → intake-normalise-typed.Post κs a r s → intake-normalise-typed.Post κs a r' s' → (r ≡ r') × (s.1.1.1.1.0.now ≡ s'.1.1.1.1.0.now) × (s.1.1.1.0.now ≡ s'.1.1.1.0.now)
intake_normalise_typed_unique κs a r r' s s' p q = answer_parts _ r r' _ _ _ _ p q

pub intake_meeting_unique : (κs : Lfts 4) (a : Dens κs intake-meeting-kinds.ps) (r r' : (res_t intake-meeting-kinds.r κs).Denot) (s s' : AtExit (ended_of 4 intake-meeting-kinds.ps intake-meeting-kinds.r) κs)
    → intake-meeting.Post κs a r s → intake-meeting.Post κs a r' s' → (r ≡ r') × (s.1.1.1.1.1.0.now ≡ s'.1.1.1.1.1.0.now) × (s.1.1.1.1.0.now ≡ s'.1.1.1.1.0.now)
intake_meeting_unique κs a r r' s s' p q = answer_parts _ r r' _ _ _ _ p q

-- number and group
pub intake_why_not_unique : (κs : Lfts 3) (a : Dens κs intake-why-not-kinds.ps) (r r' : (res_t intake-why-not-kinds.r κs).Denot) (s s' : AtExit (ended_of 3 intake-why-not-kinds.ps intake-why-not-kinds.r) κs)
    → intake-why-not.Post κs a r s → intake-why-not.Post κs a r' s' → (r ≡ r') × (s.1.1.0.now ≡ s'.1.1.0.now)
intake_why_not_unique κs a r r' s s' p q = (one_number p q, one_group p q)

-- the same of floats
pub intake_match_floats_unique : (κs : Lfts 3) (a : Dens κs intake-match-floats-kinds.ps) (r r' : (res_t intake-match-floats-kinds.r κs).Denot) (s s' : AtExit (ended_of 3 intake-match-floats-kinds.ps intake-match-floats-kinds.r) κs)
    → intake-match-floats.Post κs a r s → intake-match-floats.Post κs a r' s' → (r ≡ r') × (s.1.1.0.now ≡ s'.1.1.0.now)
intake_match_floats_unique κs a r r' s s' p q = one_given _ r r' _ _ p q

pub intake_judge_floats_unique : (κs : Lfts 3) (a : Dens κs intake-judge-floats-kinds.ps) (r r' : (res_t intake-judge-floats-kinds.r κs).Denot) (s s' : AtExit (ended_of 3 intake-judge-floats-kinds.ps intake-judge-floats-kinds.r) κs)
    → intake-judge-floats.Post κs a r s → intake-judge-floats.Post κs a r' s' → r ≡ r'
intake_judge_floats_unique κs a r r' s s' p q = p ∙ sym q

pub intake_why_not_floats_unique : (κs : Lfts 3) (a : Dens κs intake-why-not-floats-kinds.ps) (r r' : (res_t intake-why-not-floats-kinds.r κs).Denot) (s s' : AtExit (ended_of 3 intake-why-not-floats-kinds.ps intake-why-not-floats-kinds.r) κs)
    → intake-why-not-floats.Post κs a r s → intake-why-not-floats.Post κs a r' s' → (r ≡ r') × (s.1.1.0.now ≡ s'.1.1.0.now)
intake_why_not_floats_unique κs a r r' s s' p q = (one_number p q, one_group p q)
