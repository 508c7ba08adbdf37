-- What a request asks for, by its first byte; the header of `crates/ask/src/main.rt` has the format.
-- byte_of k    == the first byte of a request of the kind k
-- Decodes b r <-> r is the kind whose byte is b; where b is the byte of no kind, `Bad`
-- Assumes nothing: these are definitions.
use Rattle.std.specs.Prelude.{◌≡◌, ℕ, Result, MatchResult}
use Rattle.ask_parts.specs.declared.Kind.{Kind}
use Rattle.ask_parts.specs.declared.Stop.{Stop}

abbrev pub byte_of : Kind → ℕ
byte_of Kind.Match = 1
byte_of Kind.Judge = 2
byte_of Kind.Normalise = 3
byte_of Kind.Meeting = 4
byte_of Kind.WhyNot = 7

abbrev pub Decodes : ℕ → Result Kind Stop → Type 0
Decodes b r = MatchResult r (λ k. byte_of k ≡ b) (λ s. (s ≡ Stop.Bad) × ((k : Kind) → byte_of k ≡ b → ⊥))
