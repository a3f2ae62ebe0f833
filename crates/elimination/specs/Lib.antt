pub mod Steps
pub mod Grid
pub mod Lists
pub mod Laws
