pub mod Asked
pub mod Backs
pub mod Firsts
pub mod Later
pub mod Places
pub mod SameKinds
pub mod Shown
pub mod WaysBack
