pub mod Laws
pub mod Paces
pub mod PlainActor
pub mod RareAnswers
pub mod Turns
