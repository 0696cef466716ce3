pub mod MessageLemmas
pub mod PushLemmas
pub mod HertzLemmas
pub mod UplinkLemmas
pub mod HandedLemmas
pub mod TxpkLemmas
