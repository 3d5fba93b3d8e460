use Rattle.page_data.proofs.Reread.{HasRead}
use Rattle.page_data.proofs.reading.states_of.Given as goal

abbrev pub invariant-entries : goal.invariant-entries
invariant-entries l = HasRead (l.fn.inbox).topology (l.fn.inbox).packages (l.fn.inbox).me l.log l.at l.inbox l.states
