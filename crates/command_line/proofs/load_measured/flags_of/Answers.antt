use Rattle.command_line.proofs.load_measured.flags_of.Goals as goal

pub returns : goal.returns
returns c = record {
  head_is = c.flag.ensures;
  forbid_reuse_is = c.flag-2.ensures;
  fail_is = c.flag-3.ensures;
  json_is = c.flag-4.ensures;
  quiet_is = c.flag-5.ensures;
  no_progress_is = c.flag-6.ensures;
}
