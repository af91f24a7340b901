pub mod TrimmedInvariant
