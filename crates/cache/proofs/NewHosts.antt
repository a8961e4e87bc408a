-- A pool's hosts at first: one after the other, each without connections, with a seat of the pass.
use Rattle.std.proofs.Common.{◌≡◌, ◌≢◌, ℕ, zero, suc, ◌+◌, ◌<◌, ◌≤◌, List, [], ◌∷◌, ◌++◌, length, map, replicate, Option, Some, None, refl, sym, ap, subst, ◌∙◌, inl, inr, arith}
use Rattle.std.proofs.Math.ListN.{get_or-append, get_or-map}
use Rattle.std.proofs.Math.Seq.{get_or-append_seam}
use Rattle.std.proofs.lemmas.Bool.Decides.{eqb_tells, leb_tells}
use Rattle.std.proofs.lemmas.List.{get_or-set_same, get_or-set_other, get_or-replicate, get_or_past, ext_get_or, length-append, length-map, length-replicate}
use Rattle.budget.specs.Accounts.{vacant, account_at, change_at, enrolled, spent_by}
use Rattle.budget.specs.Limits.{Bounds}
use Rattle.budget.specs.Lobby.{Queue}
use Rattle.budget.specs.Permits.{held}
use Rattle.budget.specs.Plain.{Plain, nothing_held}
use Rattle.budget.specs.declared.pass.Account.{Account}
use Rattle.budget.specs.declared.permits.Held.{Held}
use Rattle.conn_log.specs.declared.stamp.Stamp.{Stamp}
use Rattle.conn_log.proofs.Soundness.{sound_empty}
use Rattle.bundle.specs.declared.did.Did.{Did}
use Rattle.bundle.specs.Lease.{HostShown, IsNewHost}
use Rattle.host_state.specs.Counts.{held_by}
use Rattle.bundle.specs.Passes.{Accounts}
use Rattle.host_state.proofs.Soundness.{nobody_after}
use Rattle.cache.specs.AllHosts.{terms}
use Rattle.cache.specs.NewHosts.{AreNewHosts, new_seat, first_number}
use Rattle.cache.specs.Oldest.{stamp_at}
use Rattle.cache.specs.Pools.{PoolShown, no_host, host_in, IsNewPool, IsKeptHost, AreKept}

still_vacant : (n index : ℕ) → account_at {D = Did} (replicate n vacant) index ≡ vacant
still_vacant zero index = refl
still_vacant (suc n) zero = refl
still_vacant (suc n) (suc index) = still_vacant n index

module _ {S : Type 0} (limits : Bounds) where
  pub none_new : (hosts : List (HostShown S)) (pass : Accounts) (all : ℕ) → hosts ≡ [] → pass ≡ replicate all vacant → AreNewHosts limits 0 hosts pass
  none_new hosts pass all none vacant_all = record {
    so_many = ap length none;
    each = λ index lt. absurd (omega (arith, lt));
    enrolled = λ index lt. absurd (omega (arith, lt));
    not_yet = λ index over. ap (λ (p : Accounts). (account_at p index).seat) vacant_all ∙ ap (λ (a : Account Did). a.seat) (still_vacant all index);
  }

  module _ (count : ℕ) (hosts later : List (HostShown S)) (host pushed : HostShown S) (pass told : Accounts) where
    pub one_more_new : AreNewHosts limits count hosts pass → IsNewHost limits.host count first_number host → count < length pass
        → told ≡ change_at pass host.host (enrolled (new_seat host)) → later ≡ hosts ++ pushed ∷ [] → pushed ≡ host
        → AreNewHosts limits (count + 1) later told
    one_more_new so_far new inside told_is pushed_is same = record {
      so_many = ap length later_is ∙ omega (arith, length-append hosts (host ∷ []), so_far.so_many);
      each = λ index lt. elim (eqb_tells index count) [
        | inl same ↦ subst (λ (i : ℕ). IsNewHost limits.host i first_number (host_in later i)) (sym same.1) (subst (IsNewHost limits.host count first_number) (sym here) new)
        | inr apart ↦ let before : index < count = omega (arith, lt, apart.1) in subst (IsNewHost limits.host index first_number) (sym (there index before)) (so_far.each index before)
      ];
      enrolled = λ index lt. elim (eqb_tells index count) [
        | inl same ↦ subst (λ (i : ℕ). (account_at told i).seat ≡ Some (new_seat (host_in later i))) (sym same.1) (ap (λ (a : Account Did). a.seat) told_here ∙ ap (λ (h : HostShown S). Some (new_seat h)) (sym here))
        | inr apart ↦ let before : index < count = omega (arith, lt, apart.1) in ap (λ (a : Account Did). a.seat) (told_there index apart.1) ∙ so_far.enrolled index before ∙ ap (λ (h : HostShown S). Some (new_seat h)) (sym (there index before))
      ];
      not_yet = λ index over. ap (λ (a : Account Did). a.seat) (told_there index (λ e. absurd (omega (arith, over, e)))) ∙ so_far.not_yet index (omega (arith, over));
    }
      where
        later_is : later ≡ hosts ++ host ∷ []
        later_is = pushed_is ∙ ap (λ (h : HostShown S). hosts ++ h ∷ []) same

        place : host.host ≡ count
        place = ap (λ (h : HostShown S). h.host) new

        here : host_in later count ≡ host
        here = ap (λ (l : List (HostShown S)). host_in l count) later_is ∙ ap (host_in (hosts ++ host ∷ [])) (sym so_far.so_many) ∙ get_or-append_seam hosts host [] no_host

        there : (index : ℕ) → index < count → host_in later index ≡ host_in hosts index
        there index before = ap (λ (l : List (HostShown S)). host_in l index) later_is ∙ get_or-append hosts (host ∷ []) no_host index (omega (arith, before, so_far.so_many))

        told_at : told ≡ change_at pass count (enrolled (new_seat host))
        told_at = told_is ∙ ap (λ (i : ℕ). change_at pass i (enrolled (new_seat host))) place

        told_here : account_at told count ≡ enrolled (new_seat host) (account_at pass count)
        told_here = ap (λ (p : Accounts). account_at p count) told_at ∙ get_or-set_same pass count (enrolled (new_seat host) (account_at pass count)) vacant inside

        told_there : (index : ℕ) → index ≢ count → account_at told index ≡ account_at pass index
        told_there index apart = ap (λ (p : Accounts). account_at p index) told_at ∙ get_or-set_other pass count index (enrolled (new_seat host) (account_at pass count)) vacant apart

  -- all is kept of such hosts
  module _ (count : ℕ) (hosts : List (HostShown S)) (budget : Plain) (lobby : Queue) (pass : Accounts) (noted : List (Option Stamp)) where
    pub kept_new : AreNewHosts limits count hosts pass → count ≤ 1024 → budget ≡ nothing_held limits count → lobby ≡ record { hosts = count; order = [] } → length pass ≡ count → noted ≡ replicate count None
        → AreKept hosts budget lobby pass noted
    kept_new new few nothing nobody accounts none = record {
      few = rw new.so_many few;
      parts = ap (λ (b : Plain). b.hosts) nothing ∙ parts;
      lobby_hosts = ap (λ (q : Queue). q.hosts) nobody ∙ sym new.so_many;
      accounts = accounts ∙ sym new.so_many;
      stamps = ap length none ∙ length-replicate count None ∙ sym new.so_many;
      each = λ index lt. rw nothing (rw nobody (each index (rw (sym new.so_many) lt)));
    }
      where
        held_of : HostShown S → Held
        held_of host = held_by host.log

        parts : replicate count (held 0 0) ≡ map held_of hosts
        parts = ext_get_or (held 0 0) (replicate count (held 0 0)) (map held_of hosts) (length-replicate count (held 0 0) ∙ sym new.so_many ∙ sym (length-map hosts held_of))
            (λ i lt. let inside : i < count = rw (sym (length-replicate count (held 0 0))) lt in
            get_or-replicate count i (held 0 0) (held 0 0) inside ∙ sym (ap held_of (new.each i inside)) ∙ sym (get_or-map held_of hosts i no_host))

        each : (index : ℕ) → index < count → IsKeptHost limits index (host_in hosts index) [] pass (stamp_at noted index)
        each index inside =
            let host = host_in hosts index in
            let bare : HostShown S = record { log = []; cut_away = 0; settings = terms limits; host = index; streams = []; unclaimed = []; booked = []; tables = host.tables } in
            let seat = new.enrolled index inside in
            let kept : IsKeptHost limits index bare [] pass (stamp_at noted index) = record {
              place = refl;
              settings = refl;
              settled = nobody_after (terms limits) [] (sound_empty (terms limits)) refl;
              listed = refl;
              enrolled = (0, seat);
              spent = ap spent_by seat;
              not_later = refl;
            } in
            subst (λ (h : HostShown S). IsKeptHost limits index h [] pass (stamp_at noted index)) (sym (new.each index inside)) kept

  -- what holds of each of them, and where there is none, holds at every index
  at_each : (count : ℕ) (hosts : List (HostShown S)) (host : ℕ) (Holds : HostShown S → Type 0) → length hosts ≡ count → (host < count → Holds (host_in hosts host)) → Holds no_host → Holds (host_in hosts host)
  at_each count hosts host Holds so_many inside past = elim (leb_tells count host) [
    | inl over ↦ subst Holds (sym (get_or_past hosts host no_host (rw so_many over.1))) past
    | inr there ↦ inside there.1
  ]

  -- they are the hosts of a new pool, at none of which an acquire is halfway
  module _ (count : ℕ) (hosts : List (HostShown S)) (pass : Accounts) where
    pub pool_new : (pool : PoolShown S) → AreNewHosts limits count hosts pass → pool ≡ record { limits = limits; hosts = hosts; queue = [] } → IsNewPool limits count pool
    pool_new pool new is = rw is (record {
      limits_are = refl;
      count = new.so_many;
      each = new.each;
      none_logged = λ host. at_each count hosts host (λ (h : HostShown S). h.log ≡ []) new.so_many (λ inside. ap (λ (h : HostShown S). h.log) (new.each host inside)) refl;
      none_queued = refl;
    })

    pub none_booked : AreNewHosts limits count hosts pass → (host : ℕ) → (host_in hosts host).booked ≡ []
    none_booked new host = at_each count hosts host (λ (h : HostShown S). h.booked ≡ []) new.so_many (λ inside. ap (λ (h : HostShown S). h.booked) (new.each host inside)) refl
