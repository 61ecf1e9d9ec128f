use Rattle.journal_model.proofs.Fitting.{journal_fits, first_entry, entries_numbered}
use Rattle.journal_model.proofs.laws.journals_fit.Goals as goal

pub returns-clause-fits : goal.returns-clause-fits
returns-clause-fits c bytes j e = (journal_fits bytes j e).0

pub returns-clause-begins : goal.returns-clause-begins
returns-clause-begins c j w = first_entry j w

pub returns-clause-numbers : goal.returns-clause-numbers
returns-clause-numbers c j w = entries_numbered j w
