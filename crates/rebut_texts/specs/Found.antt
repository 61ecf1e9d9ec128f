-- Two texts that were found, without where they lie in memory.
use Rattle.rebut_model.specs.Texts.{Texts, texts}
use Rattle.rebut_texts.specs.declared.bytes.Found.{Found}

abbrev pub found_view : Found → Texts
found_view f = texts f.ours f.theirs
