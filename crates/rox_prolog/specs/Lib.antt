pub mod Requests
pub mod Asking
pub mod PrologParts
