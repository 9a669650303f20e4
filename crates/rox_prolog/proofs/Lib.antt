pub mod Asking
pub mod Items
pub mod Rooted
pub mod Prologs
