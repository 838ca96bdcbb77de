-- `Agree`: the one claim over the table of worked examples.
pub mod Agree
