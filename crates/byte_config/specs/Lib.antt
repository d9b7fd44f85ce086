pub mod ByteConfig
