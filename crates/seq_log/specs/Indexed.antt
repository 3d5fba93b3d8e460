-- What is kept beside a log, so that nothing of it is read again.
use Rattle.std.specs.Prelude.{◌≡◌, List}
use Rattle.indexmap.specs.IndexMap.{get}
use Rattle.canton_model.specs.Log.{TimesFrom}
use Rattle.world_model.specs.Messages.{Entry}
use Rattle.world_model.specs.Sequencing as s
use Rattle.seq_log.specs.Keys.{key_eq}
use Rattle.seq_log.specs.Faults.{Leads}
use Rattle.seq_log.specs.OpenRequests.{open_requests}
use Rattle.seq_log.specs.declared.key.Key.{Key}
use Rattle.seq_log.specs.declared.log_index.LogIndex.{LogIndex}

-- What the sequencer keeps beside its log is that of this list of entries: where each message stands, how many places are reserved, the last time and
-- the open requests. And the list's times follow one another.
pub record IsIndexOf (index : LogIndex) (list : List Entry) : Type 0 where
  pub leads : Leads list (λ (key : Key). get key_eq index.places key)
  pub reserved : index.reserved ≡ s.reserved list
  pub last : index.last ≡ s.last_time list
  pub open_places : index.open_requests.places.items ≡ open_requests index.params list
  pub times : TimesFrom 0 list
