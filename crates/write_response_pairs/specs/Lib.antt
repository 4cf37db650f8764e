pub mod ResponsePairs
