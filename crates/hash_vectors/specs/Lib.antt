pub mod Times31
pub mod Times31Laws
