pub mod ThreadContracts
