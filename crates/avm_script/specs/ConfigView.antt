-- A configuration in data.
use Rattle.avm_model.specs.Init.{ConfigData}
use Rattle.avm_script.specs.declared.config.Config.{Config}

abbrev pub config_view : Config → ConfigData
config_view c = record { version = c.machine; own = c.own; pages = c.pages; snap = c.snap; peers = c.peers.items }
