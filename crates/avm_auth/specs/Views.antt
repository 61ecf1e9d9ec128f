-- Authenticators without where they lie in memory.
use Rattle.avm_model.specs.Auth.{AuthData}
use Rattle.avm_auth.specs.declared.auth.Auth.{Auth}

abbrev pub auth_view : Auth → AuthData
auth_view a = record { seq = a.seq; hash = a.hash.0; sig = a.sig.now }
