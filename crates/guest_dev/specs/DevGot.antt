use Rattle.avm_model.specs.Exec.{Loaded, Gave, NotMapped, NoClock}
use Rattle.guest_dev.specs.declared.loads.DevGot.{DevGot}
use Rattle.guest_dev.specs.declared.loads.DevGot.TheVariants.{Value, Asks, Nothing}

-- the answer to a load that gives this
abbrev pub dev_got : {S : Type 0} → Loaded S → DevGot
dev_got (Gave value s) = Value value
dev_got NotMapped = Nothing
dev_got NoClock = Asks
