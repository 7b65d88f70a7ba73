pub mod Bytes
pub mod Decoding
pub mod Encoding
pub mod RecordKinds
