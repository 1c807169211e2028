pub mod PointCalls
pub mod RoundCalls
