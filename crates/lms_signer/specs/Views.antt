-- A key file as data.
use Rattle.lms_signer.specs.declared.key_file.KeyFile.{KeyFile}
use Rattle.avm_model.specs.Keys.{KeyData}

abbrev pub key_data : KeyFile → KeyData
key_data k = record { lms = k.lms; ots = k.ots; id = k.id; seed = k.seed.0 }
