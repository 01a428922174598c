pub mod ContentLemmas
pub mod RefusalLemmas
pub mod OrderLemmas
pub mod KeepLemmas
pub mod RecallLemmas
pub mod SessionLemmas
pub mod CountLemmas
pub mod MaskLemmas
