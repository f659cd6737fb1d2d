pub mod Kind
pub mod Counting
pub mod CountingLaws
pub mod Summing
pub mod SummingLaws
