pub mod TwoPages
