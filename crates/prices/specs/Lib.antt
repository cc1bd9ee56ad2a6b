-- Request 2026-05: the price list, a customer's discount, the quote that a sheet ends with, and what is promised of it. Assumes nothing.
pub mod PriceList
pub mod Discounts
pub mod Quote
pub mod Quoted
-- What only laws and the contracts of code cite
pub mod Values
