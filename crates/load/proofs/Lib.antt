-- Laws for the code of loading.
pub mod LoadCall
