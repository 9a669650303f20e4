pub mod Views
pub mod DoctypeViews
