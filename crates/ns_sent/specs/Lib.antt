pub mod Found
