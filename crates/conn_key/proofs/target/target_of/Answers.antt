use Rattle.conn_key.proofs.UrlLemmas.{IsSome-host_text}
use Rattle.conn_key.proofs.target.target_of.Goals as goal

pub unwrap-requires : goal.unwrap-requires
unwrap-requires g c = IsSome-host_text c.args.url.now c.path.ensures.valid c.requires _ c.host_str.ensures
