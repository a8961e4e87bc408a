-- What a dial in memory shows.
use Rattle.exchange.specs.Dialling.{DialShown, shows_counts}
use Rattle.exchange_memory.specs.declared.memory_dial.MemoryDial.{MemoryDial}

abbrev pub memory_dial_shown : MemoryDial → DialShown
memory_dial_shown dial = shows_counts dial.failures dial.opened dial.turn_failures dial.source.id
