pub mod FollowLaws
