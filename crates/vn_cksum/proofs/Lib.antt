pub mod Totals
pub mod SumLaws
