mod GivenLemmas
mod TakenLemmas
mod HeldLemmas
