-- What carried entries are signed by.
use Rattle.avm_model.specs.Chain.{next_hash}
use Rattle.journal_model.specs.Header.{CarriedData}
use Rattle.journal_model.specs.Standing.{SignedData}

abbrev pub carried_signed : CarriedData → SignedData
carried_signed c = record { leaf = c.leaf; seq = c.frame.seq; hash = next_hash c.before c.frame; before = c.before }
