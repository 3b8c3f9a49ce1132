pub mod ByteSum
