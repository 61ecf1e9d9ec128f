use Rattle.lms_signer.specs.Views.{key_data}
use Rattle.lms_signer.proofs.Files.{written, key_again}
use Rattle.lms_signer.proofs.key_file.put_key.Goals as goal

pub returns-clause-value : goal.returns-clause-value
returns-clause-value c = written c.args.out.now _ _ _ _ _ (key_data c.args.key.now) c.put.ensures.value c.put_u32.ensures.value c.put_u32-2.ensures.value c.put-2.ensures.value c.put-3.ensures.value

pub returns-clause-again : goal.returns-clause-again
returns-clause-again c k fits = key_again k fits
