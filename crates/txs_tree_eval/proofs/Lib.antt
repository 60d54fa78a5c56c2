pub mod ActionEnds
pub mod Beginning
pub mod Deeply
pub mod Ends
pub mod Leaf
pub mod MoreTurns
pub mod PureEnds
pub mod Right
