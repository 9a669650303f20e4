pub mod SeenCodes
