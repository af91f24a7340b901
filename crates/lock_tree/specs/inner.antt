pub mod NumeralScan
pub mod Pieces
