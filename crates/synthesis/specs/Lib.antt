pub mod Going
pub mod GoingLaws
pub mod Playing
pub mod PlayLaws
pub mod AllLaws
pub mod Synthesized
pub mod SynthesisLaws
