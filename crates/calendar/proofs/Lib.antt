pub mod Dates
pub mod Figures
pub mod MonthSearch
pub mod OneAnswer
