pub mod Macs
