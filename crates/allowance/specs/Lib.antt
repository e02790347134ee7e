pub mod Allowance
