pub mod Verbatim
