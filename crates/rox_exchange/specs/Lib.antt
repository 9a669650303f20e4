pub mod Local
pub mod ElementWith
pub mod SourceKinds
pub mod SelfContained
pub mod ExchangeLaws
