pub mod PageRefusals
