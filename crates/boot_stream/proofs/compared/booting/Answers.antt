use Rattle.std.proofs.Common.{◌≡◌, ◌*◌, ℕ, IsTrue, true, false, List, length, sym, ap, subst, ◌∙◌}
use Rattle.avm_model.specs.HeadReading.{head_of}
use Rattle.avm_model.specs.HeadState.{state_of}
use Rattle.avm_model.specs.ImageState.{is_booted}
use Rattle.avm_model.specs.Machine.{MachineState}
use Rattle.avm_model.specs.Memory.{RamState, is_page_count}
use Rattle.log_entry.proofs.Options.{is_some_is}
use Rattle.boot_image.proofs.Boots.{marks}
use Rattle.boot_stream.proofs.Booted.{pages_count, pages_are, no_pages, refused, IsLoadedMachine, boots, boots_not}
use Rattle.boot_stream.proofs.compared.booting.Goals as goal

pub returns-in_default : goal.returns-in_default
returns-in_default c = no_pages c.args.head.now c.args.image.now c.in_default.ensures

pub new-requires : goal.new-requires
new-requires c =
    let h = is_some_is (head_of c.args.head.now) (sym c.read_head.ensures.exact ∙ c.if-not-read_head.false) in
    let n = pages_are c.args.head.now h.0 c.in-Some.pages h.1 c.in-Some.ensures in
    subst (λ (k : ℕ). IsTrue (is_page_count k)) (sym n) (pages_count c.args.head.now h.0 h.1)

pub machine_of-requires : goal.machine_of-requires
machine_of-requires c =
    let h = is_some_is (head_of c.args.head.now) (sym c.read_head.ensures.exact ∙ c.if-not-read_head.false) in
    let n = pages_are c.args.head.now h.0 c.in-Some.pages h.1 c.in-Some.ensures in
    record { head = (h.0, h.1, marks c.in-Some.pages h.0.front.pages c.in_ok-ram.ram c.load.new.ram c.in_ok-ram.ensures c.load.ensures.pages n) }

pub returns-then-is_booted : goal.returns-then-is_booted
returns-then-is_booted c =
    let head = c.args.head.now in
    let image = c.args.image.now in
    let blank = c.in_ok-ram.ram.bytes in
    let m = c.in_ok-machine-in-Ok.machine in
    let h = is_some_is (head_of head) (sym c.read_head.ensures.exact ∙ c.if-not-read_head.false) in
    let n = pages_are head h.0 c.in-Some.pages h.1 c.in-Some.ensures in
    let ram : m.state.ram ≡ c.load.new.ram.bytes = ap (λ (x : MachineState). x.state.ram) (c.in_ok-machine-in-Ok.ensures h.0 h.1) in
    let is : IsLoadedMachine head image blank c.in-Some.pages c.in-Ok.entry m = record {
      count = λ g e. pages_are head g c.in-Some.pages e c.in-Some.ensures;
      state = λ g e. ap (λ (x : MachineState). x.state) (c.in_ok-machine-in-Ok.ensures g e) ∙ ap (state_of g) (sym ram);
      blank_is = ap (λ (r : RamState). r.bytes) c.in_ok-ram.ensures;
      fault = c.in-Ok.ensures.fault;
      loaded_is = ram ∙ c.in-Ok.ensures.bytes;
      entry_is = c.in-Ok.ensures.entry;
    } in
    let shown : c.ram.result.now.bytes ≡ m.state.ram = ap (λ (r : RamState). r.bytes) c.ram.ensures in
    let dirty : c.ram.result.now.dirty ≡ c.load.new.ram.dirty = ap (λ (r : RamState). r.dirty) c.ram.ensures ∙ ap (λ (x : MachineState). x.dirty) (c.in_ok-machine-in-Ok.ensures h.0 h.1) in
    let count : h.0.front.pages ≡ length c.load.new.ram.dirty = marks c.in-Some.pages h.0.front.pages c.in_ok-ram.ram c.load.new.ram c.in_ok-ram.ensures c.load.ensures.pages n in
    let size : length m.state.ram ≡ 4096 * h.0.front.pages = ap (λ (l : List ℕ). length l) (sym shown) ∙ c.bytes.ensures.sizes.size ∙ ap (λ l. 4096 * length l) dirty ∙ ap (λ (k : ℕ). 4096 * k) (sym count) in
    let booted : is_booted m.state m.state.ram c.in-Ok.entry ≡ true = ap (λ (l : List ℕ). is_booted m.state l c.in-Ok.entry) (sym (c.bytes.ensures.value ∙ shown)) ∙ sym c.is_booted.ensures ∙ c.if-is_booted.true in
    boots head image blank c.in-Some.pages c.in-Ok.entry m is h.0 h.1 size booted

pub returns-else-is_booted : goal.returns-else-is_booted
returns-else-is_booted c =
    let head = c.args.head.now in
    let image = c.args.image.now in
    let blank = c.in_ok-ram.ram.bytes in
    let m = c.in_ok-machine-in-Ok.machine in
    let h = is_some_is (head_of head) (sym c.read_head.ensures.exact ∙ c.if-not-read_head.false) in
    let ram : m.state.ram ≡ c.load.new.ram.bytes = ap (λ (x : MachineState). x.state.ram) (c.in_ok-machine-in-Ok.ensures h.0 h.1) in
    let is : IsLoadedMachine head image blank c.in-Some.pages c.in-Ok.entry m = record {
      count = λ g e. pages_are head g c.in-Some.pages e c.in-Some.ensures;
      state = λ g e. ap (λ (x : MachineState). x.state) (c.in_ok-machine-in-Ok.ensures g e) ∙ ap (state_of g) (sym ram);
      blank_is = ap (λ (r : RamState). r.bytes) c.in_ok-ram.ensures;
      fault = c.in-Ok.ensures.fault;
      loaded_is = ram ∙ c.in-Ok.ensures.bytes;
      entry_is = c.in-Ok.ensures.entry;
    } in
    let shown : c.ram.result.now.bytes ≡ m.state.ram = ap (λ (r : RamState). r.bytes) c.ram.ensures in
    let booted : is_booted m.state m.state.ram c.in-Ok.entry ≡ false = ap (λ (l : List ℕ). is_booted m.state l c.in-Ok.entry) (sym (c.bytes.ensures.value ∙ shown)) ∙ sym c.is_booted.ensures ∙ c.if-is_booted.false in
    boots_not head image blank c.in-Some.pages c.in-Ok.entry m is booted

pub returns-in-Err : goal.returns-in-Err
returns-in-Err c =
    refused c.args.head.now c.args.image.now c.in_ok-ram.ram.bytes c.in-Some.pages c.in-Err.field-0 (λ g e. pages_are c.args.head.now g c.in-Some.pages e c.in-Some.ensures) (ap (λ (r : RamState). r.bytes) c.in_ok-ram.ensures) c.in-Err.ensures.fault
