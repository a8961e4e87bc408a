-- Whether a connection persists after a response (RFC 9112, sections 9.3 and 9.6).
use Rattle.std.specs.Prelude.{Bool, true, false, ◌&&◌, ◌||◌, not}
use Rattle.persistence.specs.declared.facts.Facts.{Facts}
use Rattle.persistence.specs.declared.facts.Framing.{Framing}
use Rattle.persistence.specs.declared.facts.Framing.TheVariants.{NoBody, Counted, Chunked, UntilClose, Faulty}
use Rattle.persistence.specs.declared.facts.Version.{Version}
use Rattle.persistence.specs.declared.facts.Version.TheVariants.{V10, V11}

-- the message itself says where it ends (RFC 9112, section 9.3: a self-defined message length)
abbrev pub defines_its_length : Framing → Bool
defines_its_length NoBody = true
defines_its_length Counted = true
defines_its_length Chunked = true
defines_its_length UntilClose = false
defines_its_length Faulty = false

-- HTTP/1.1 persists where nothing says otherwise (RFC 9112, section 9.3)
abbrev pub persists_by_default : Version → Bool
persists_by_default V10 = false
persists_by_default V11 = true

-- close was sent or received (RFC 9112, section 9.6); and, by this project's own choice, the status is
-- 101, or both lengths are given (RFC 9112, section 6.3, item 3, calls that an error)
abbrev pub ends_its_connection : Facts → Bool
ends_its_connection f = f.close || f.request_close || f.upgraded || f.both_lengths

-- read whole and nothing after it, of a length of its own, not the last on its connection, and of
-- HTTP/1.1 or with keep-alive
abbrev pub is_persistent : Facts → Bool
is_persistent f = f.whole && not f.surplus && defines_its_length f.framing && not (ends_its_connection f) && (persists_by_default f.version || f.keep_alive)
