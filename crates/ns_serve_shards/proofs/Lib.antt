mod RecordLemmas
mod DrainLemmas
