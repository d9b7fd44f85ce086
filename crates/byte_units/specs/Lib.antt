pub mod ByteUnits
