use Rattle.std.proofs.Common.{◌≡◌, ℕ, suc, ◌+◌, ◌<◌, ◌≤◌, List, [], ◌∷◌, ◌++◌, length, drop, reverse, flat_map, map, slice_index_or, slice_set, Result, Ok, Err, sym, ap, subst, ◌∙◌, inl, inr, arith, string_bytes}
use Rattle.std.proofs.lemmas.Bool.Decides.{eqb_tells}
use Rattle.std.proofs.lemmas.List.{get_or_default, get_or-set_same, get_or-set_other, length-set, length-map, ext_get_or, append_assoc, drop_more}
use Rattle.std.proofs.Math.ListN.{get_or-map}
use Rattle.conn_log.specs.declared.entry.Entry.{Entry}
use Rattle.bundle.specs.Lease.{HostShown}
use Rattle.cache.specs.Pools.{logs_of, host_at}
use Rattle.cache.proofs.OneHost.{log_is}
use Rattle.script_text.specs.declared.fault.FaultKind.{FaultKind}
use Rattle.script_text.specs.Printing.{entry_line}
use Rattle.script_engine.specs.Telling.{lines_told, WereTold, AddsText}
use Rattle.script_engine.proofs.telling.lines.Invariants.{IsTextSoFar, TellsSoFar}
use Rattle.script_engine.proofs.telling.lines.Goals as goal

-- the lines of one host more
one-more : (by site : ℕ) (tolds : List ℕ) (logs : List (List Entry)) → length tolds ≡ length logs → site < length logs
    → lines_told by site (drop site tolds) (drop site logs) ≡ flat_map (entry_line site by) (drop (slice_index_or tolds site 0) (reverse (slice_index_or logs site []))) ++ lines_told by (site + 1) (drop (site + 1) tolds) (drop (site + 1) logs)
one-more by site tolds logs count there =
    ap (λ ts. lines_told by site ts (drop site logs)) (drop_more tolds site 0 (omega (arith, count, there)))
    ∙ ap (lines_told by site (slice_index_or tolds site 0 ∷ drop (site + 1) tolds)) (drop_more logs site [] there)
    ∙ ap (λ n. flat_map (entry_line site by) (drop (slice_index_or tolds site 0) (reverse (slice_index_or logs site []))) ++ lines_told by n (drop (site + 1) tolds) (drop (site + 1) logs)) {x = suc site} {y = site + 1} (omega arith)

module _ {T : Type 0} (bytes : T → List ℕ) where
  text-more : (text result : Result T FaultKind) (one left whole : List ℕ) → IsTextSoFar bytes text (one ++ left) whole → AddsText bytes text one result → IsTextSoFar bytes result left whole
  text-more (Ok before) (Ok after) one left whole so_far adds = ap (λ (l : List ℕ). l ++ left) adds ∙ append_assoc (bytes before) one left ∙ so_far
  text-more (Ok before) (Err kind) one left whole so_far adds = adds
  text-more (Err kind) (Ok after) one left whole so_far adds = absurd (cc)
  text-more (Err kind) (Err other) one left whole so_far adds = cc

  module _ (by : ℕ) (tolds : List ℕ) (logs : List (List Entry)) (were : WereTold tolds logs) where
    tells-first : (now : List ℕ) (text : T) → now ≡ tolds → bytes text ≡ [] → TellsSoFar bytes by tolds logs 0 now (Ok text)
    tells-first now text same empty = record {
      within = omega arith;
      count = ap length same ∙ were.count;
      told = λ host lt. absurd (omega (arith, lt));
      others = λ host le. ap (λ (l : List ℕ). slice_index_or l host 0) same;
      text_is = ap (λ (l : List ℕ). l ++ lines_told by 0 tolds logs) empty;
    }

    tells-more : (site : ℕ) (now : List ℕ) (text result : Result T FaultKind) (told : ℕ) → TellsSoFar bytes by tolds logs site now text → site < length logs
        → told ≡ length (slice_index_or logs site [])
        → AddsText bytes text (flat_map (entry_line site by) (drop (slice_index_or now site 0) (reverse (slice_index_or logs site [])))) result
        → TellsSoFar bytes by tolds logs (site + 1) (slice_set now site told) result
    tells-more site now text result told so_far there is adds =
        let here : slice_index_or now site 0 ≡ slice_index_or tolds site 0 = so_far.others site (omega arith) in
        let placed : site < length now = omega (arith, there, so_far.count) in record {
          within = omega (arith, there);
          count = length-set now site told ∙ so_far.count;
          told = λ host lt. elim (eqb_tells host site) [
            | inl same ↦ ap (λ (k : ℕ). slice_index_or (slice_set now site told) k 0) same.1 ∙ get_or-set_same now site told 0 placed ∙ is ∙ ap (λ (k : ℕ). length (slice_index_or logs k [])) (sym same.1)
            | inr apart ↦ get_or-set_other now site host told 0 apart.1 ∙ so_far.told host (omega (arith, lt, apart.1))
          ];
          others = λ host le. get_or-set_other now site host told 0 (λ e. omega (arith, e, le)) ∙ so_far.others host (omega (arith, le));
          text_is = text-more text result _ _ _ (subst (λ (l : List ℕ). IsTextSoFar bytes text l (lines_told by 0 tolds logs)) (one-more by site tolds logs were.count there) so_far.text_is)
              (subst (λ (n : ℕ). AddsText bytes text (flat_map (entry_line site by) (drop n (reverse (slice_index_or logs site [])))) result) here adds);
        }

    tells-all : (now : List ℕ) (site : ℕ) (text : Result T FaultKind) → TellsSoFar bytes by tolds logs site now text → length logs ≤ site → now ≡ map length logs
    tells-all now site text so_far all =
        ext_get_or 0 now (map length logs) (so_far.count ∙ sym (length-map logs length))
        (λ i lt. so_far.told i (omega (arith, lt, so_far.count, all)) ∙ sym (get_or-map length logs i []))

pub loop-site-preserved : goal.loop-site-preserved
loop-site-preserved c =
    let pool = c.args.pool.now in
    let tolds = c.args.told.now.items in
    let logs = logs_of pool.hosts in
    let site = c.loop-site.site in
    let now = c.loop-site.told.items in
    let there : site < length logs = omega (arith, length-map pool.hosts (λ (h : HostShown (Unit {0})). h.log), c.loop-site-test.true, c.hosts-site-end.ensures) in
    let log : (host_at pool site).log ≡ slice_index_or logs site [] = sym (log_is pool site) in
    let place : c.index_mut.result.now ≡ slice_index_or now site 0 = c.index_mut.ensures.value ∙ get_or_default now site c.index_mut.result.now 0 (omega (arith, there, c.loop-site.invariant.count)) in
    let adds = subst (λ (n : ℕ). AddsText string_bytes c.loop-site.text (flat_map (entry_line site c.args.by) (drop n (reverse (host_at pool site).log))) c.with_lines-text.result) place c.with_lines-text.ensures.text in
    tells-more string_bytes c.args.by tolds logs c.requires.told site now c.loop-site.text c.with_lines-text.result c.with_lines-text.new.told c.loop-site.invariant there
    (c.with_lines-text.ensures.told ∙ ap length log)
    (subst (λ (l : List Entry). AddsText string_bytes c.loop-site.text (flat_map (entry_line site c.args.by) (drop (slice_index_or now site 0) (reverse l))) c.with_lines-text.result) log adds)

pub returns-clause-told : goal.returns-clause-told
returns-clause-told c =
    let pool = c.args.pool.now in
    let logs = logs_of pool.hosts in
    let all : length logs ≤ c.loop-site.site = omega (arith, length-map pool.hosts (λ (h : HostShown (Unit {0})). h.log), c.loop-site-test.false, c.hosts-site-end.ensures) in
    tells-all string_bytes c.args.by c.args.told.now.items logs c.requires.told c.loop-site.told.items c.loop-site.site c.loop-site.text c.loop-site.invariant all
