-- What a source over memory tells.
use Rattle.std.specs.Prelude.{ℕ, List, map, Option, Some, take}
use Rattle.ns_workers.specs.declared.listed.ListedJobs.{ListedJobs}
use Rattle.ns_workers.specs.declared.listed.ListedDatagrams.{ListedDatagrams}
use Rattle.ns_outside.specs.Given.{Given}

-- the jobs that it has given and how it has ended
abbrev pub jobs_given : {J : Type 0} → ListedJobs J → Option (Given J)
jobs_given s = Some (record { jobs = take s.place.at s.jobs.items; ended = s.place.ended; broken = s.place.broken })

-- the same of datagrams, each cut at 512 bytes
abbrev pub datagrams_given : ListedDatagrams → Option (Given (List ℕ))
datagrams_given s =
    let datagrams = map (λ v. take 512 v.items) (take s.place.at s.datagrams.items) in
    Some (record { jobs = datagrams; ended = s.place.ended; broken = s.place.broken })
