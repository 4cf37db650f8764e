pub mod TargetInfo
