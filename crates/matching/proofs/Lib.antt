-- Laws of the definitions.
-- ItemsAsBlocks == what the rules say of the piece that an item takes is what `blocks` says of its block
-- RulesByBlocks == a template's rules by its blocks
-- FirstWitness  == trying all lists of bytes finds the first that obeys, or nothing where none does
-- Answers       == what the entry points give, row by row
-- Examples      == assignments that obey and that do not, computed
pub mod ItemsAsBlocks
pub mod RulesByBlocks
pub mod FirstWitness
pub mod Answers
mod Examples
