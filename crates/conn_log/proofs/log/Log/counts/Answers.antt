use Rattle.std.proofs.Common.{◌≡◌, reverse, length, sym, ap, subst, ◌∙◌, arith}
use Rattle.std.proofs.lemmas.List.{reverse-reverse}
use Rattle.conn_log.specs.Counts.{counts, both_counts, CountsWithin}
use Rattle.conn_log.specs.Bases.{Summary, rest_of, past_of}
use Rattle.conn_log.proofs.Bases.{whole, summary_counts}
use Rattle.conn_log.proofs.Cuts.{past_is}
use Rattle.conn_log.proofs.Tallies.{counts_append, counts_within, looser}
use Rattle.conn_log.proofs.log.Log.counts.Goals as goal

pub with-requires : goal.with-requires
with-requires c =
    let past = c.self.inside.past.entries in
    let before = c.counts.ensures ∙ ap (λ (base : Summary). base.counts) c.self.invariant.base ∙ summary_counts past in
    (length past, subst (CountsWithin (length past)) (sym before) (counts_within past), looser (omega (arith, c.rest.ensures.few, c.self.invariant.cut_away, c.self.invariant.most)) c.of.ensures.within)

pub returns : goal.returns
returns c =
    let log = c.args.self.now in
    let inside = c.self.inside in
    let past : inside.past.entries ≡ past_of log = sym (past_is inside.rest.items inside.past.entries) ∙ ap past_of c.self.view_is in
    let before = c.counts.ensures ∙ ap (λ (base : Summary). base.counts) c.self.invariant.base ∙ summary_counts inside.past.entries ∙ ap counts past in
    let since = c.of.ensures.counts ∙ ap counts (ap reverse c.rest.ensures.entries ∙ reverse-reverse (rest_of log)) in
    c.with.ensures ∙ ap (λ x. both_counts x c.of.result) before ∙ ap (both_counts (counts (past_of log))) since ∙ counts_append (rest_of log) (past_of log) ∙ ap counts (whole log)
