pub mod ParsedResults
pub mod DataPieces
