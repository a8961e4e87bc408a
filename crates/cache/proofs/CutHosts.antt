-- What becomes of all that a pool keeps where the log of one host is cut.
use Rattle.std.proofs.Common.{◌≡◌, ℕ, ◌<◌, ◌≤◌, List, length, slice_set, slice_index_or, Option, Result, Ok, Err, sym, ap, subst, ◌∙◌, inl, inr}
use Rattle.std.specs.Global.{Vec}
use Rattle.std.specs.Prelude.{OnOk, OnErr, IfOk, IfErr}
use Rattle.std.proofs.Math.Seq.{map-set_same}
use Rattle.std.proofs.lemmas.Bool.Decides.{eqb_tells}
use Rattle.std.proofs.lemmas.List.{length-set}
use Rattle.budget.specs.Limits.{Bounds}
use Rattle.budget.specs.Lobby.{Queue}
use Rattle.budget.specs.Plain.{Plain}
use Rattle.budget.specs.declared.refusal.Refusal.{Refusal}
use Rattle.conn_log.specs.declared.stamp.Stamp.{Stamp}
use Rattle.conn_log.specs.declared.entry.Entry.{Entry}
use Rattle.bundle.specs.Lease.{HostShown, IsPartOf, cut_refusal}
use Rattle.bundle.specs.Passes.{Accounts}
use Rattle.host_state.specs.Counts.{held_by}
use Rattle.cache.specs.Oldest.{stamp_at}
use Rattle.cache.specs.Pools.{no_host, host_in, all_hosts, cut_host, IsKeptHost, AreKept}
use Rattle.cache.specs.PoolCalls.{CutsHost}
use Rattle.cache.proofs.OneHost.{read_is, host_changed, other_host}
use Rattle.cache.proofs.SameLog.{shown_as, hosts_same}

-- nothing of the host changes but how much of its log was cut away
abbrev pub IsSameBut : {S : Type 0} → HostShown S → HostShown S → Type 0
IsSameBut was new = new ≡ record was { cut_away = new.cut_away }

-- whether the cut is refused or not
pub cut_or_not : {S A E : Type 0} (was new : HostShown S) (result : Result A E) → OnOk result (new ≡ cut_host was) → OnErr result (new ≡ was) → IsSameBut was new
cut_or_not {S} was new (Ok part) cut same = cut ∙ ap (λ (n : ℕ). record was { cut_away = n }) (sym (ap (λ (h : HostShown S). h.cut_away) cut))
cut_or_not {S} was new (Err reason) cut same = same ∙ ap (λ (n : ℕ). record was { cut_away = n }) (sym (ap (λ (h : HostShown S). h.cut_away) same))

-- no law of a pool speaks of how much was cut away
module _ {S : Type 0} (site : ℕ) (hosts : List (HostShown S)) (was new : HostShown S) (budget : Plain) (lobby : Queue) (pass : Accounts) (noted : List (Option Stamp)) where
  pub kept_cut : AreKept hosts budget lobby pass noted → site < length hosts → was ≡ slice_index_or hosts site was → IsSameBut was new → AreKept (slice_set hosts site new) budget lobby pass noted
  kept_cut kept there read same = record {
    few = subst (λ (n : ℕ). n ≤ 1024) (sym long) kept.few;
    parts = kept.parts ∙ sym (map-set_same (λ (h : HostShown S). held_by h.log) hosts site new no_host (ap (λ (h : HostShown S). held_by h.log) (same ∙ ap cut_as (read_is hosts site was there read))));
    lobby_hosts = kept.lobby_hosts ∙ sym long;
    accounts = kept.accounts ∙ sym long;
    stamps = kept.stamps ∙ sym long;
    each = λ index lt. elim (eqb_tells index site) [
      | inl at ↦ subst (λ (i : ℕ). KeptAt i (host_in (slice_set hosts site new) i)) (sym at.1) (subst (KeptAt site) (sym (host_changed hosts site new there)) now_is)
      | inr apart ↦ subst (KeptAt index) (sym (other_host hosts site index new apart.1)) (kept.each index (subst (λ (n : ℕ). index < n) long lt))
    ];
  }
    where
      cut_as : HostShown S → HostShown S
      cut_as host = record host { cut_away = new.cut_away }

      long : length (slice_set hosts site new) ≡ length hosts
      long = length-set hosts site new

      KeptAt : ℕ → HostShown S → Type 0
      KeptAt index host = IsKeptHost budget.limits index host lobby.order pass (stamp_at noted index)

      now_is : KeptAt site new
      now_is =
          let it = subst (KeptAt site) (sym (read_is hosts site was there read)) (kept.each site there) in
          subst (KeptAt site) (sym same) (record {
            place = it.place;
            settings = it.settings;
            settled = it.settled;
            listed = it.listed;
            enrolled = it.enrolled;
            spent = it.spent;
            not_later = it.not_later;
          })

module _ {S : Type 0} (site : ℕ) (hosts : List (HostShown S)) (was new : HostShown S) where
  -- no acquire is halfway but those that were
  pub booked_cut : site < length hosts → was ≡ slice_index_or hosts site was → IsSameBut was new → (host : ℕ) → (host_in (slice_set hosts site new) host).booked ≡ (host_in hosts host).booked
  booked_cut there read same host = elim (eqb_tells host site) [
    | inl at ↦
        ap (λ (i : ℕ). (host_in (slice_set hosts site new) i).booked) at.1
        ∙ ap (λ (h : HostShown S). h.booked) (host_changed hosts site new there ∙ same)
        ∙ ap (λ (h : HostShown S). h.booked) (read_is hosts site was there read)
        ∙ ap (λ (i : ℕ). (host_in hosts i).booked) (sym at.1)
    | inr apart ↦ ap (λ (h : HostShown S). h.booked) (other_host hosts site host new apart.1)
  ]

  -- the pool is cut there, or as it was
  pub shown_cut : {E : Type 0} (result : Result (Vec Entry) E) (limits : Bounds) (queue : List ℕ) → site < length hosts → was ≡ slice_index_or hosts site was
      → all_hosts (shown_as limits (slice_set hosts site new) queue) ≡ all_hosts (shown_as limits hosts queue) → IfOk result (λ (part : Vec Entry). IsPartOf was part.items) → OnOk result (new ≡ cut_host was)
      → IfOk result (λ (part : Vec Entry). CutsHost site (shown_as limits hosts queue) (shown_as limits (slice_set hosts site new) queue) part.items)
  shown_cut (Ok handed) limits queue there read all part cut = record {
    there = there;
    part = subst (λ (h : HostShown S). IsPartOf h handed.items) (read_is hosts site was there read) part;
    cut = ap (λ (h : HostShown S). shown_as limits (slice_set hosts site h) queue) (cut ∙ ap cut_host (read_is hosts site was there read));
    all = all;
  }
  shown_cut (Err reason) limits queue there read all part cut = tt

  pub shown_refused : {A : Type 0} (result : Result A Refusal) (limits : Bounds) (queue : List ℕ) → site < length hosts → was ≡ slice_index_or hosts site was → IfErr result (λ (reason : Refusal). reason ≡ cut_refusal was) → OnErr result (new ≡ was)
      → IfErr result (λ (reason : Refusal). (shown_as limits (slice_set hosts site new) queue ≡ shown_as limits hosts queue) × (reason ≡ cut_refusal (host_in hosts site)))
  shown_refused (Ok part) limits queue there read refused same = tt
  shown_refused (Err reason) limits queue there read refused same = (
    ap (λ (l : List (HostShown S)). shown_as limits l queue) (hosts_same site hosts was new read same),
    refused ∙ ap cut_refusal (read_is hosts site was there read),
  )

  pub shown_same : {A E : Type 0} (result : Result A E) (limits : Bounds) (queue : List ℕ) → was ≡ slice_index_or hosts site was → OnErr result (new ≡ was)
      → OnErr result (shown_as limits (slice_set hosts site new) queue ≡ shown_as limits hosts queue)
  shown_same (Ok part) limits queue read same = tt
  shown_same (Err reason) limits queue read same = ap (λ (l : List (HostShown S)). shown_as limits l queue) (hosts_same site hosts was new read same)
