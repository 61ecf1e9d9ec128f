use Rattle.std.proofs.Common.{Some, length, refl, sym, ap, ◌∙◌}
use Rattle.std.proofs.lemmas.List.{length-replicate}
use Rattle.avm_model.specs.Head.{HeadData}
use Rattle.avm_model.specs.HeadReading.{head_of}
use Rattle.avm_model.specs.HeadState.{data_of, state_of}
use Rattle.avm_model.specs.Machine.{MachineState}
use Rattle.avm_model.specs.Memory.{RamState}
use Rattle.keep_judge.proofs.Goodness.{bare_data, fits_head, page_power}
use Rattle.keep_judge.proofs.heads.bare_machine.Goals as goal

pub new-requires : goal.new-requires
new-requires c = page_power c.args.pages (head_of c.args.head.now) c.args.head.now refl c.requires.fits

pub returns-clause-data : goal.returns-clause-data
returns-clause-data c =
    let f = fits_head c.args.pages (head_of c.args.head.now) c.requires.fits in
    f.1 ∙ ap (λ (d : HeadData). Some d) (sym (ap (λ (m : MachineState). data_of m.state) (c.in_ok-machine.ensures f.0 f.1) ∙ ap (λ (r : RamState). data_of (state_of f.0 r.bytes)) c.in_ok-ram.ensures ∙ bare_data c.args.pages f.0 f.2))

pub returns-clause-pages : goal.returns-clause-pages
returns-clause-pages c =
    let f = fits_head c.args.pages (head_of c.args.head.now) c.requires.fits in
    ap (λ (m : MachineState). length m.dirty) (c.in_ok-machine.ensures f.0 f.1) ∙ ap (λ (r : RamState). length r.dirty) c.in_ok-ram.ensures ∙ length-replicate c.args.pages _
