pub mod SeenNames
