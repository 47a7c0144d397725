pub mod Writing
pub mod ParseWritten
pub mod WriteParsed
pub mod Plain
