-- What is kept once a call of one host has told the pool's pass, and its stamp was noted.
use Rattle.std.proofs.Common.{◌≡◌, ◌≢◌, ℕ, ◌<◌, Bool, true, false, ◌==◌, List, length, slice_set, slice_index_or, Option, Some, None, refl, sym, ap, subst, ◌∙◌, inl, inr, arith}
use Rattle.std.specs.Prelude.{if◌then◌else◌}
use Rattle.std.proofs.lemmas.Bool.Decides.{eqb_tells}
use Rattle.std.proofs.lemmas.List.{get_or-set_other, length-set}
use Rattle.budget.specs.Lobby.{Queue, is_listed}
use Rattle.budget.specs.Plain.{Plain}
use Rattle.budget.specs.declared.pass.Account.{Account}
use Rattle.budget.specs.Accounts.{vacant, account_at, change_at, told as told_did, spent_once, KeepsSeats}
use Rattle.conn_log.specs.declared.stamp.Stamp.{Stamp}
use Rattle.conn_log.specs.declared.entry.Cause.TheVariants.{Withdrawn}
use Rattle.conn_log.specs.declared.entry.Entry.{Entry}
use Rattle.conn_log.specs.declared.entry.Event.{Event}
use Rattle.conn_log.specs.declared.entry.Event.TheVariants.{Closed, Left}
use Rattle.conn_log.specs.Fit.{oldest_stamp}
use Rattle.bundle.specs.declared.did.Did.{Did}
use Rattle.bundle.specs.declared.did.Did.TheVariants.{Wrote}
use Rattle.host_state.specs.Calls.{Start, is_queued}
use Rattle.host_state.specs.Laws.{IsSoundAndQuiet}
use Rattle.bundle.specs.Lease.{HostShown, StaysThere}
use Rattle.host_state.specs.Counts.{held_by}
use Rattle.host_state.specs.Orders.{IsMarked}
use Rattle.bundle.specs.Passes.{Accounts, tells, spends, withdraws, AccountsForStarts}
use Rattle.host_state.proofs.OtherHosts.{still_listed}
use Rattle.cache.specs.Oldest.{earlier_of, is_before, is_since_before, stamp_at}
use Rattle.cache.specs.Pools.{IsKeptHost, AreKept}
use Rattle.cache.proofs.NotedStamps.{lowered_not_later, set_not_later}
use Rattle.cache.proofs.HostParts.{ChangesPart}
use Rattle.cache.proofs.OneHost.{kept_changed, read_is}

-- no account changes but that of one host
pub record TellsOne (host : ℕ) (pass told : Accounts) : Type 0 where
  pub accounts : length told ≡ length pass
  pub other_accounts : (other : ℕ) → other ≢ host → account_at told other ≡ account_at pass other

pub tells_nothing : (host : ℕ) (pass : Accounts) → TellsOne host pass pass
tells_nothing host pass = record { accounts = refl; other_accounts = λ other apart. refl }

pub tells_change : (host : ℕ) (pass : Accounts) (change : Account Did → Account Did) → TellsOne host pass (change_at pass host change)
tells_change host pass change = record {
  accounts = length-set pass host (change (account_at pass host));
  other_accounts = λ other apart. get_or-set_other pass host other (change (account_at pass host)) vacant apart;
}

pub tells_one : (host : ℕ) (did : Option Did) (pass : Accounts) → TellsOne host pass (tells host did pass)
tells_one host None pass = tells_nothing host pass
tells_one host (Some did) pass = tells_change host pass (told_did did)

pub withdraws_one : (host moment transfer : ℕ) (granted : Option Start) (pass : Accounts) → TellsOne host pass (withdraws host moment transfer granted pass)
withdraws_one host moment transfer None pass = tells_change host pass (told_did (Wrote (record { moment = moment; event = Left transfer })))
withdraws_one host moment transfer (Some granted) pass = tells_change host pass (spent_once (Wrote (record { moment = moment; event = Closed granted.number Withdrawn })))

pub told_spending : (host moment : ℕ) (event : Event) (pass told : Accounts) → told ≡ spends host moment event pass → TellsOne host pass told
told_spending host moment event pass told is = rw is (tells_change host pass (spent_once (Wrote (record { moment = moment; event = event }))))

pub told_withdrawing : (host moment transfer : ℕ) (granted : Option Start) (pass told : Accounts) → told ≡ withdraws host moment transfer granted pass → TellsOne host pass told
told_withdrawing host moment transfer granted pass told is = rw is (withdraws_one host moment transfer granted pass)

pub told_so : (host : ℕ) (did : Option Did) (pass told : Accounts) → told ≡ tells host did pass → TellsOne host pass told
told_so host did pass told is = rw is (tells_one host did pass)

-- no stamp changes but that of one host
pub record NotesOne (site : ℕ) (noted lowered : List (Option Stamp)) (oldest : Option Stamp) : Type 0 where
  pub stamps : length lowered ≡ length noted
  pub other_stamps : (other : ℕ) → other ≢ site → stamp_at lowered other ≡ stamp_at noted other
  pub not_later : is_before oldest (stamp_at lowered site) ≡ false

notes_lower : (site : ℕ) (noted lowered : List (Option Stamp)) (oldest : Option Stamp) → site < length noted
    → lowered ≡ slice_set noted site (earlier_of (stamp_at noted site) oldest) → NotesOne site noted lowered oldest
notes_lower site noted lowered oldest there lowered_is = rw lowered_is (record {
  stamps = length-set noted site (earlier_of (stamp_at noted site) oldest);
  other_stamps = λ other apart. get_or-set_other noted site other (earlier_of (stamp_at noted site) oldest) None apart;
  not_later = lowered_not_later noted site oldest oldest there refl;
})

-- where what is noted for the host is lowered to the stamp of its oldest idle connection
pub notes_oldest : (host site : ℕ) (noted lowered : List (Option Stamp)) (log : List Entry) → site < length noted → host ≡ site
    → lowered ≡ slice_set noted host (earlier_of (stamp_at noted host) (oldest_stamp log host)) → NotesOne site noted lowered (oldest_stamp log site)
notes_oldest host site noted lowered log there place lowered_is = notes_lower site noted lowered (oldest_stamp log site) there (subst (λ (n : ℕ). lowered ≡ slice_set noted n (earlier_of (stamp_at noted n) (oldest_stamp log n))) place lowered_is)

-- where a connection came back: it is lowered, unless it is since an earlier moment, and then no later still
pub notes_returned : (site moment : ℕ) (noted lowered : List (Option Stamp)) (oldest : Option Stamp) → site < length noted
    → lowered ≡ (if is_since_before (stamp_at noted site) moment then noted else slice_set noted site (earlier_of (stamp_at noted site) oldest))
    → (is_since_before (stamp_at noted site) moment ≡ true → is_before oldest (stamp_at noted site) ≡ false) → NotesOne site noted lowered oldest
notes_returned site moment noted lowered oldest there lowered_is still = by_time (is_since_before (stamp_at noted site) moment) refl lowered_is
  where
    by_time : (early : Bool) → is_since_before (stamp_at noted site) moment ≡ early → lowered ≡ (if early then noted else slice_set noted site (earlier_of (stamp_at noted site) oldest)) → NotesOne site noted lowered oldest
    by_time true early same = rw same (record { stamps = refl; other_stamps = λ other apart. refl; not_later = still early })
    by_time false late set = notes_lower site noted lowered oldest there set

pub notes_set : (site : ℕ) (noted set : List (Option Stamp)) (stamp oldest : Option Stamp) → site < length noted → stamp ≡ oldest
    → set ≡ slice_set noted site stamp → NotesOne site noted set oldest
notes_set site noted set stamp oldest there is set_is = rw set_is (record {
  stamps = length-set noted site stamp;
  other_stamps = λ other apart. get_or-set_other noted site other stamp None apart;
  not_later = set_not_later noted site stamp oldest there is;
})

-- the queue lists the others as before
pub record MarksOne (site : ℕ) (queued : Bool) (lobby after : Queue) : Type 0 where
  pub lobby_hosts : after.hosts ≡ lobby.hosts
  pub listed : is_listed after.order site ≡ queued
  pub others_listed : (other : ℕ) → other ≢ site → is_listed after.order other ≡ is_listed lobby.order other

pub marks_one : (host site : ℕ) (was is : Bool) (lobby after : Queue) → host ≡ site → IsMarked host was is lobby after → MarksOne site is lobby after
marks_one host site was is lobby after place marked = record {
  lobby_hosts = marked.hosts;
  listed = ap (is_listed after.order) (sym place) ∙ marked.lists.listed;
  others_listed = λ other apart. ap (λ order. is_listed order other) marked.order ∙ still_listed host other was is lobby.order (differs other apart);
}
  where
    differs : (other : ℕ) → other ≢ site → (host == other) ≡ false
    differs other apart = elim (eqb_tells host other) [
      | inl same ↦ absurd (apart (sym same.1 ∙ place))
      | inr differ ↦ differ.0
    ]

pub marks_nothing : (site : ℕ) (was is : Bool) (lobby : Queue) → is_listed lobby.order site ≡ was → is ≡ was → MarksOne site is lobby lobby
marks_nothing site was is lobby listed same = record { lobby_hosts = refl; listed = listed ∙ sym same; others_listed = λ other apart. refl }

module _ {S : Type 0} (site : ℕ) (hosts : List (HostShown S)) (was new : HostShown S) (budget later : Plain) (lobby after : Queue) (pass told : Accounts) (noted lowered : List (Option Stamp)) where
  -- all is kept once the call of one host is told and noted
  pub kept_called : AreKept hosts budget lobby pass noted → site < length hosts → was ≡ slice_index_or hosts site was
      → StaysThere was new → IsSoundAndQuiet new.settings new.log
      → ChangesPart site budget later (held_by new.log)
      → MarksOne site (is_queued new.settings new.log) lobby after
      → TellsOne was.host pass told → KeepsSeats pass told → AccountsForStarts was new pass told
      → NotesOne site noted lowered (oldest_stamp new.log site)
      → AreKept (slice_set hosts site new) later after told lowered
  kept_called kept there read same settled part marks tells seats account notes =
      let it : IsKeptHost budget.limits site was lobby.order pass (stamp_at noted site) =
      subst (λ (h : HostShown S). IsKeptHost budget.limits site h lobby.order pass (stamp_at noted site)) (sym (read_is hosts site was there read)) (kept.each site there) in
      kept_changed site hosts was new budget later lobby after pass told noted lowered kept there read (record {
        same = same;
        settled = settled;
        part = part;
        lobby_hosts = marks.lobby_hosts;
        listed = marks.listed;
        others_listed = marks.others_listed;
        enrolled = seats was.host was.tables.starts it.enrolled;
        spent = omega (arith, account, it.spent);
        accounts = tells.accounts;
        other_accounts = λ other apart. tells.other_accounts other (λ e. apart (e ∙ it.place));
        stamps = notes.stamps;
        other_stamps = notes.other_stamps;
        not_later = notes.not_later;
      })

  -- what the host was
  pub was_kept : AreKept hosts budget lobby pass noted → site < length hosts → was ≡ slice_index_or hosts site was → IsKeptHost budget.limits site was lobby.order pass (stamp_at noted site)
  was_kept kept there read = subst (λ (h : HostShown S). IsKeptHost budget.limits site h lobby.order pass (stamp_at noted site)) (sym (read_is hosts site was there read)) (kept.each site there)
