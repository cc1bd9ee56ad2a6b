-- Laws of prices: the rule of the price list and the length that a run takes (PriceList), the discount and its rounding (Discounts), the
-- words of a quote and what is read off them (Quotes), and the request's own prices (Worked). Assumes nothing.
pub mod PriceList
pub mod Discounts
pub mod Quotes
pub mod Computing
pub mod Worked
