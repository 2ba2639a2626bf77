pub mod OneAnswer
pub mod RootLaws
pub mod Signs
pub mod Tests
pub mod Examples
