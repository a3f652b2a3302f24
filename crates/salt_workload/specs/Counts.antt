-- What has been counted of a story.
use Rattle.salt_model.specs.declared.events.Event.{Event}
use Rattle.salt_model.specs.Summary.{count_of}
use Rattle.salt_workload.specs.Summary.{is_accepted, is_began, is_committed, is_victim, is_waits, released_count}
use Rattle.salt_workload.specs.declared.counts.Counts.{Counts}
use Rattle.std.specs.Prelude.{List, length, ◌*◌, ◌^◌, ◌≡◌, ◌≤◌}

pub record AreCounts (c : Counts) (story : List Event) : Type 0 where
  pub units : c.units ≡ count_of is_began story
  pub committed : c.committed ≡ count_of is_committed story
  pub accepted : c.accepted ≡ count_of is_accepted story
  pub waits : c.waits ≡ count_of is_waits story
  pub victims : c.victims ≡ count_of is_victim story
  pub released : c.released ≡ released_count story
  -- no event releases more programs than a list may hold
  pub few : c.released ≤ length story * 2 ^ 64
