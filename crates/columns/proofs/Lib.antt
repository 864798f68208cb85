pub mod Sums
pub mod Lists
pub mod Firsts
pub mod Joined
pub mod Laying
pub mod Determined
