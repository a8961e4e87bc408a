-- What a transfer wants if it says nothing else.
use Rattle.std.specs.Prelude.{ℕ, false}
use Rattle.conn_log.specs.declared.entry.Want.{Want}

-- the most seconds that a connection may have been idle: the default of libcurl's CURLOPT_MAXAGE_CONN
abbrev pub default_max_age : ℕ
default_max_age = 118

-- lane 0 and that age, at any lifetime
abbrev pub want_of : ℕ → Want
want_of transfer = record { transfer = transfer; max_age = default_max_age; max_life = 0; lane = 0; fresh = false; forbid_reuse = false }
