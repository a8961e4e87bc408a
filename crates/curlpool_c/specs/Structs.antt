-- What the structs that C sees stand for.
use Rattle.std.specs.Prelude.{◌≡◌, ℕ, Option, Some, None, ◌==◌, if◌then◌else◌, unwrap_or, option_and_then, option_map}
use Rattle.persistence.specs.declared.facts.Facts.{Facts}
use Rattle.persistence.specs.declared.facts.Framing.{Framing}
use Rattle.persistence.specs.declared.facts.Framing.TheVariants.{NoBody, Counted, Chunked, UntilClose, Faulty}
use Rattle.persistence.specs.declared.facts.Version.{Version}
use Rattle.persistence.specs.declared.facts.Version.TheVariants.{V10, V11}
use Rattle.conn_log.specs.declared.counts.Counts.{Counts}
use Rattle.host_state.specs.declared.snapshot.Snapshot.{Snapshot}
use Rattle.held_pool.specs.declared.response.Response.{Response}
use Rattle.curlpool_c.specs.declared.structs.CFacts.{CFacts}
use Rattle.curlpool_c.specs.declared.structs.CResponse.{CResponse}
use Rattle.curlpool_c.specs.declared.structs.CLook.{CLook}
use Rattle.curlpool_c.specs.declared.structs.CCounts.{CCounts}

-- versions and framings by number
abbrev pub version_of : ℕ → Option Version
version_of number = if number == 0 then Some V10 else (if number == 1 then Some V11 else None)

abbrev pub framing_of : ℕ → Option Framing
framing_of number =
    if number == 0 then Some NoBody else (if number == 1 then Some Counted else (if number == 2 then Some Chunked else
    (if number == 3 then Some UntilClose else (if number == 4 then Some Faulty else None))))

abbrev pub version_number : Version → ℕ
version_number V10 = 0
version_number V11 = 1

abbrev pub framing_number : Framing → ℕ
framing_number NoBody = 0
framing_number Counted = 1
framing_number Chunked = 2
framing_number UntilClose = 3
framing_number Faulty = 4

-- the facts that a caller tells
abbrev pub facts_with : CFacts → Version → Framing → Facts
facts_with told version framing = record {
  version = version;
  close = told.close;
  keep_alive = told.keep_alive;
  request_close = told.request_close;
  framing = framing;
  both_lengths = told.both_lengths;
  upgraded = told.upgraded;
  whole = told.whole;
  surplus = told.surplus;
}

abbrev pub facts_of : CFacts → Option Facts
facts_of told = option_and_then (λ (version : Version). option_map (facts_with told version) (framing_of told.framing)) (version_of told.version)

-- what is told of a response, of a site, and of what happened there
pub record IsResponse (response : Response) (told : CResponse) : Type 0 where
  pub body_length : told.body_length ≡ response.body_len
  pub status : told.status ≡ unwrap_or response.status 0
  pub version : told.version ≡ version_number response.facts.version
  pub framing : told.framing ≡ framing_number response.facts.framing
  pub persists : told.persists ≡ response.persists
  pub whole : told.whole ≡ response.facts.whole
  pub surplus : told.surplus ≡ response.facts.surplus

pub record IsLook (counts : Snapshot) (told : CLook) : Type 0 where
  pub alive : told.alive ≡ counts.alive
  pub idle : told.idle ≡ counts.idle
  pub leased : told.leased ≡ counts.leased
  pub waiting : told.waiting ≡ counts.waiting
  pub queued : told.queued ≡ counts.queued

pub record IsCounts (counts : Counts) (told : CCounts) : Type 0 where
  pub opened : told.opened ≡ counts.opened
  pub reused : told.reused ≡ counts.reused
  pub closed : told.closed ≡ counts.closed
  pub waited : told.waited ≡ counts.waited
