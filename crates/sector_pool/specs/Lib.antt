pub mod Owned
pub mod Places
pub mod Stack
pub mod Inside
pub mod Entry
pub mod Lending
