-- What is told of a URL.
use Rattle.std.specs.Prelude.{◌≡◌, ◌⊎◌, ℕ, ◌+◌, ◌++◌, List, length, drop, string_bytes}
use Rattle.conn_key.specs.Target.{GivesTarget, Refuses}
use Rattle.conn_key.specs.declared.target.Target.{Target}
use Rattle.conn_key.specs.declared.target.KeyError.{KeyError}
use Rattle.curlpool_c.specs.declared.structs.CTarget.{CTarget}
use Rattle.curlpool_c.specs.declared.status.TheConstants.{OK, SMALL, NOT_TEXT}
use Rattle.curlpool_c.specs.Statuses.{key_status}

-- a buffer begins with one text and another behind it, and is the same behind both
abbrev pub WritesBoth : List ℕ → List ℕ → List ℕ → List ℕ → Type 0
WritesBoth old new first second = new ≡ first ++ (second ++ drop (length first + length second) old)

-- a target was written: its host and its path, with their lengths, and its port
pub record WritesOf (target : Target) (old new : List ℕ) (told : CTarget) : Type 0 where
  pub written : WritesBoth old new (string_bytes target.host) (string_bytes target.path)
  pub host_length : told.host_length ≡ length (string_bytes target.host)
  pub path_length : told.path_length ≡ length (string_bytes target.path)
  pub port : told.port ≡ target.port

-- the target of a URL was written
pub record WritesTarget (url old new : List ℕ) (told : CTarget) (status : ℕ) : Type 0 where
  pub target : Target
  pub its : GivesTarget url target
  pub writes : WritesOf target old new told
  pub done : status ≡ OK

-- why a URL has no target: it is no text, or is refused
abbrev pub IsUnread : List ℕ → ℕ → Type 0
IsUnread url status = (status ≡ NOT_TEXT) ⊎ ((error : KeyError) × (Refuses url error × (status ≡ key_status error)))

-- nothing was written: the URL has no target, or the buffer is too small for it
pub record WritesNone (url old new : List ℕ) (told told_new : CTarget) (status : ℕ) : Type 0 where
  pub why : IsUnread url status ⊎ (status ≡ SMALL)
  pub same : new ≡ old
  pub told_same : told_new ≡ told

abbrev pub TellsTarget : List ℕ → ℕ → List ℕ → List ℕ → CTarget → CTarget → Type 0
TellsTarget url status old new told told_new = WritesTarget url old new told_new status ⊎ WritesNone url old new told told_new status
