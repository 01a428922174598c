mod TreeLemmas
mod KeyLemmas
mod ArenaLemmas
mod JoinLemmas
mod NotedLemmas
mod ChainedLemmas
mod HolderLemmas
mod PairLemmas
mod NearLemmas
mod StepLemmas
pub mod DueLemmas
pub mod ShoreLemmas
pub mod SeaLemmas
pub mod EventLemmas
pub mod MeetLemmas
pub mod StackedLemmas
pub mod NextLemmas
pub mod StartLemmas
pub mod MeasureLemmas
pub mod RateLemmas
pub mod NameLemmas
pub mod ToldLemmas
pub mod PopLemmas
pub mod StandingLemmas
pub mod HoldingLemmas
mod StampedLemmas
pub mod LookLemmas
pub mod StateLemmas
pub mod ShiftLemmas
pub mod FlowLemmas
pub mod ResultLemmas
pub mod PassLemmas
mod StageLemmas
mod ForestLemmas
mod TreedLemmas
mod TiedLemmas
mod EnterLemmas
mod AugmentLemmas
mod OnwardLemmas
mod CloseLemmas
mod InnerLemmas
mod FoldingLemmas
mod GiveLemmas
mod ClockLemmas
mod ComeLemmas
mod LabelLemmas
mod BeginLemmas
mod TurnLemmas
pub mod SweepLemmas
mod TopLemmas
pub mod RunLemmas
