-- The job of a target.
use Rattle.std.specs.Prelude.{ℕ, Bool, if◌then◌else◌}
use Rattle.persistence.specs.declared.method.Method.{Method}
use Rattle.persistence.specs.declared.method.Method.TheVariants.{Get, Head}
use Rattle.conn_key.specs.declared.target.Target.{Target}
use Rattle.conn_log.specs.Wants.{want_of}
use Rattle.exchange.specs.declared.job.Job.{Job}
use Rattle.commands.specs.declared.load_settings.LoadFlags.{LoadFlags}

abbrev pub method_said : Bool → Method
method_said head = if head then Head else Get

-- the job of a target, whose site has that index: it reuses a connection that was idle for at most the default age,
-- whatever its lifetime
abbrev pub url_job : LoadFlags → ℕ → Target → Job
url_job flags site target = record {
  site = site;
  want = record (want_of 0) { forbid_reuse = flags.forbid_reuse };
  method = method_said flags.head;
  target = target;
}
