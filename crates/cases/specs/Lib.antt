pub mod Kld
