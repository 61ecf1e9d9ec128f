-- The store that formatting makes.
use Rattle.std.proofs.Common.{◌≡◌, ℕ, List, [], Option, Some, codes, sym, ap, subst, ◌∙◌}
use Rattle.avm_model.specs.Keys.{KeyData}
use Rattle.avm_model.specs.Machine.{State}
use Rattle.avm_outside.specs.DiskLog.{IsImage}
use Rattle.avm_outside.specs.Mem.{mem_file}
use Rattle.avm_outside.specs.MemDisks.{disk_bytes, state_now}
use Rattle.avm_outside.specs.Outside.{BothTold}
use Rattle.avm_outside.specs.declared.mem_disk.MemDisk.{MemDisk}
use Rattle.avm_outside.specs.declared.mem_files.MemFiles.{MemFiles}
use Rattle.format_command.specs.FileOf.{key_in}
use Rattle.format_command.specs.First.{StandsFor, first_journal}
use Rattle.format_command.specs.Inputs.{AreFound, Found, Names, Tells}
use Rattle.sample_run.specs.Stores.{AreInputs, IsStoreOf}

abbrev pub names : Names
names = record { key = codes "key"; config = codes "config"; image = codes "image" }

-- what the status 0 of formatting says
abbrev pub Made : MemFiles → List ℕ → MemDisk → Type 0
Made m old d =
    (f : Found) × (k : KeyData) × (s : State) × AreFound names (λ n. Some (mem_file m n)) f × Tells f k s
    × BothTold (Some old) (Some (disk_bytes d)) (λ was now. (was ≡ []) × StandsFor (first_journal k s) (IsImage (state_now d)) now)

one_key : (x : Option (List ℕ)) (k l : KeyData) → key_in x ≡ Some k → key_in x ≡ Some l → k ≡ l
one_key x k l p q = let e : Some k ≡ Some l = sym p ∙ q in cc

pub store_is : (f : Found) (k : KeyData) (m : MemFiles) (old : List ℕ) (d : MemDisk) → AreInputs f m → key_in f.key ≡ Some k → Made m old d → IsStoreOf f k d
store_is f k m old d inputs key (g, l, s, found, tells, told) =
    let found_is : g ≡ f =
    ap (λ (x : Option (List ℕ)). record { key = x; config = g.config; image = g.image }) (sym found.0 ∙ inputs.key)
    ∙ ap (λ (x : Option (List ℕ)). record { key = f.key; config = x; image = g.image }) (sym found.1 ∙ inputs.config)
    ∙ ap (λ (x : Option (List ℕ)). record { key = f.key; config = f.config; image = x }) (sym found.2 ∙ inputs.image) in
    let here : Tells f l s = subst (λ (x : Found). Tells x l s) found_is tells in
    let same : l ≡ k = one_key f.key l k here.key_is key in
    record {
      state = s;
      tells = subst (λ (x : KeyData). Tells f x s) same here;
      stands = subst (λ (x : KeyData). StandsFor (first_journal x s) (IsImage (state_now d)) (disk_bytes d)) same told.1;
    }
