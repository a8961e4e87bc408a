-- What is told of connections that keep nothing.
use Rattle.std.specs.Prelude.{⊤}
use Rattle.exchange.specs.Worlds.{World, world_of}
use Rattle.measures.specs.declared.endless.EndlessWire.{EndlessWire}

-- anything may have happened on them, at any moment
abbrev pub all_told : World EndlessWire
all_told = world_of (λ wire site transfer. ⊤) (λ old new happening. ⊤) (λ moment. ⊤)
