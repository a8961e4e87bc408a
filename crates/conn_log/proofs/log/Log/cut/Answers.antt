use Rattle.std.proofs.Common.{◌++◌, reverse, length, sym, ap, subst, ◌∙◌, arith}
use Rattle.conn_log.specs.Counts.{CountsWithin}
use Rattle.conn_log.specs.Bases.{Summary, lead, summary}
use Rattle.conn_log.specs.Log.{Recorded}
use Rattle.conn_log.proofs.Bases.{lead_append, summary_counts}
use Rattle.conn_log.proofs.Cuts.{length_is}
use Rattle.conn_log.proofs.Tallies.{counts_within, looser}
use Rattle.conn_log.proofs.log.Log.cut.Goals as goal

pub lead-requires : goal.lead-requires
lead-requires c =
    let inside = c.self.inside in
    let past = inside.past.entries in
    let counted = ap (λ (base : Summary). base.counts) c.self.invariant.base ∙ summary_counts past in
    let all = length_is inside.rest.items past in
    let shown = ap (λ (log : Recorded). length log.entries) c.self.view_is in
    looser (omega (arith, all, shown, ap length c.deref.ensures.value, c.total_len-cut_away.ensures, c.if-cut_away-gt-MOST_CUT.false)) (subst (CountsWithin (length past)) (sym counted) (counts_within past))

pub invariant_of-self : goal.invariant_of-self
invariant_of-self c =
    let inside = c.self.inside in
    let past = inside.past.entries in
    let items = inside.rest.items in
    let added = c.append.ensures ∙ ap (λ part. reverse part ++ past) c.deref-2.ensures.value in
    let shown = ap (λ (log : Recorded). length log.entries) c.self.view_is in
    record {
      base = c.in-Ok-lead.ensures ∙ ap (λ (base : Summary). lead base (reverse c.deref.result.now)) c.self.invariant.base ∙ ap (λ part. lead (summary past) (reverse part)) c.deref.ensures.value ∙ lead_append (reverse items) past ∙ ap summary (sym added);
      cut_away = c.total_len-cut_away.ensures ∙ sym shown ∙ ap length (sym added);
      most = c.if-cut_away-gt-MOST_CUT.false;
    }
