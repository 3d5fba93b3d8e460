use Rattle.seq_log.proofs.log_index.LogIndex.has_response.Goals as goal

pub returns : goal.returns
returns c = λ list is. c.stands.ensures list is.leads
