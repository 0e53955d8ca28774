pub mod Laying
pub mod Telling
pub mod Claims
