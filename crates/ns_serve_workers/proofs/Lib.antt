mod ReceiptLemmas
mod TurnLemmas
mod TakenLemmas
