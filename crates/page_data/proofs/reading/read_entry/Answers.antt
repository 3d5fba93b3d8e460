use Rattle.page_data.proofs.reading.read_entry.Goals as goal

pub outline_of-requires : goal.outline_of-requires
outline_of-requires c = (c.args.inbox.now.topology, c.requires.framed)
