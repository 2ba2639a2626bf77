pub mod BothRules
pub mod OneAnswer
