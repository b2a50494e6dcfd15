pub mod Bodies
pub mod Views
