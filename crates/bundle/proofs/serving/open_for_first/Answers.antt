use Rattle.std.proofs.Common.{◌<◌, length, sym, ap, ◌∙◌, arith}
use Rattle.budget.specs.declared.permits.Held.{Held}
use Rattle.conn_log.specs.Waiting.{waiting}
use Rattle.conn_log.specs.Legal.{limit_in_force}
use Rattle.host_state.specs.Calls.{open_for_head}
use Rattle.bundle.specs.Grants.{with_new}
use Rattle.bundle.proofs.StartLogs.{head_starts, someone_waits, log_left, grants_left}
use Rattle.bundle.proofs.serving.open_for_first.Goals as goal

pub loop-opened-preserved : goal.loop-opened-preserved
loop-opened-preserved g c =
    let settings = c.args.state.now.settings in
    let m = c.args.moment in
    let count = c.args.count in
    let opened = c.loop-opened.opened in
    let before = c.loop-opened.state.log in
    let after = c.open_for_head.new.state.log in
    let kept = c.loop-opened.invariant in
    let head = c.open_for_head.ensures in
    let more : opened < count = omega (arith, c.loop-opened-test.true) in
    let some : 0 < length (waiting before) = omega (arith, more, kept.wait) in
    let log = head.log ∙ ap (λ s. open_for_head s m before) kept.same.settings in
    let grants = head.grants ∙ ap (λ s. with_new s m before (waiting before) c.loop-opened.grants.items) kept.same.settings in
    let starts = head_starts settings m before after kept.once some log in
    let more_open = head.more_open (someone_waits (waiting before) some) in
    let same = head.only.same.settings ∙ kept.same.settings in
    record {
      within = omega (arith, more);
      log_left = log_left settings m opened count more before after log ∙ kept.log_left;
      grants_left = grants_left settings m opened count more before after log c.loop-opened.grants.items c.open_for_head.new.grants.items grants ∙ kept.grants_left;
      later = omega (arith, starts.last);
      once = starts.wait_once;
      wait = omega (arith, kept.wait, starts.fewer_wait);
      more_open = omega (arith, kept.more_open, ap (λ (h : Held). h.alive) more_open);
      as_many_idle = ap (λ (h : Held). h.kept) more_open ∙ kept.as_many_idle;
      limit = ap (λ s. limit_in_force s after) same ∙ starts.limit ∙ sym (ap (λ s. limit_in_force s before) kept.same.settings) ∙ kept.limit;
      seated = head.inside.seated;
      unclaimed = head.inside.unclaimed;
      starts = record { tables = head.only.starts.tables ∙ kept.starts.tables; ended = head.only.starts.ended ∙ kept.starts.ended };
      spare = head.inside.spare;
      streams = head.streams ∙ kept.streams;
      booked = head.only.booked ∙ kept.booked;
      same = record { settings = same; host = head.only.same.host ∙ kept.same.host; cut_away = head.only.same.cut_away ∙ kept.same.cut_away };
    }
