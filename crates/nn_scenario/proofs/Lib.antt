pub mod StepLists
pub mod StepLemmas
pub mod LineLemmas
pub mod LawfulLemmas
pub mod SegmentLemmas
pub mod ReadLemmas
pub mod FollowLemmas
pub mod CheckLemmas
