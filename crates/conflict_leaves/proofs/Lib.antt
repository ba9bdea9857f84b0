-- The choice of the leaves; the tokens of the tree to start from.
pub mod Choice
pub mod StartTokens
