pub mod StopLemmas
pub mod MeetingLemmas
pub mod KindLemmas
pub mod GroupLemmas
