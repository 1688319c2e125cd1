pub mod Locality
