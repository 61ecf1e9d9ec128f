-- What signs an item of a journal.
use Rattle.std.specs.Prelude.{ℕ, List}
use Rattle.avm_model.specs.Auth.{signed_text_of}
use Rattle.avm_model.specs.Keys.{KeyData, sig_of}
use Rattle.journal_model.specs.Standing.{SignedData}

-- the signature of its number and hash at its leaf
abbrev pub ticket_signature : KeyData → SignedData → List ℕ
ticket_signature k t = sig_of k t.leaf (signed_text_of t.seq t.hash)
