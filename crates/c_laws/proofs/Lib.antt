pub mod Numbers
pub mod OneAnswer
pub mod Journeys
pub mod Panes
pub mod Desks
