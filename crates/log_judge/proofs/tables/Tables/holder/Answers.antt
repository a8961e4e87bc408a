use Rattle.std.proofs.Common.{sym, ap, ◌∙◌}
use Rattle.std.specs.Option.{option_and_then}
use Rattle.conn_log.specs.declared.base.OpenConnection.{OpenConnection}
use Rattle.log_judge.proofs.Following.{holder_told}
use Rattle.log_judge.proofs.tables.Tables.holder.Goals as goal

pub returns-in-None : goal.returns-in-None
returns-in-None c = sym (holder_told _ _ c.last_moment-sound.ensures.sound c.args.connection ∙ ap (option_and_then (λ (k : OpenConnection). k.holder)) (sym c.known.ensures ∙ c.in-None.is))

pub returns-in-Some : goal.returns-in-Some
returns-in-Some c = sym (holder_told _ _ c.last_moment-sound.ensures.sound c.args.connection ∙ ap (option_and_then (λ (k : OpenConnection). k.holder)) (sym c.known.ensures ∙ c.in-Some.is))
