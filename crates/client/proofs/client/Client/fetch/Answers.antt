-- A fetch is a run of its job.
use Rattle.std.proofs.Common.{inl}
use Rattle.client.proofs.client.Client.fetch.Goals as goal

pub returns-clause-fetches : goal.returns-clause-fetches
returns-clause-fetches g c = rw (← c.self.view_is) (inl (c.in-Ok.ensures.runs.carried, c.in-Ok.ensures.runs.retried))
