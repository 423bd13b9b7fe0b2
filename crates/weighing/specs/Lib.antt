pub mod Discounts
