pub mod Text
pub mod Account
pub mod Claims
