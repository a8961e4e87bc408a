use Rattle.std.proofs.Common.{◌≡◌, Some, sym, ◌∙◌, ap, subst}
use Rattle.std.specs.Option.{option_map}
use Rattle.std.specs.Ordering.{nat_cmp}
use Rattle.std.specs.Map.{lookup}
use Rattle.std.specs.BTreeMap.{get, is_at}
use Rattle.bundle.specs.Lease.{Spends, ticket_want}
use Rattle.cache.specs.Calls.{after_abandoning}
use Rattle.cache.specs.Pools.{host_at, all_hosts, StaysHost, KeepsOtherHosts}
use Rattle.script_engine.specs.Hosted.{LeaseFacts, lease_facts, whereabouts, kept_facts, leases_of, due_others}
use Rattle.script_engine.proofs.Leases.{leases-left, kept-due, kept-inserted, none-stays, same-whereabouts}
use Rattle.script_engine.proofs.Spending.{made-again}
use Rattle.script_engine.proofs.site_leases.keep_lease.Goals as goal

pub returns-in-Ok-None-clause-leases : goal.returns-in-Ok-None-clause-leases
returns-in-Ok-None-clause-leases c =
    let lease = c.args.lease in
    let transfer = lease.start.want.transfer in
    let host = host_at c.args.pool.now lease.site in
    let own : leases_of host transfer ≡ Some (lease_facts c.with_stream.result) =
    ap (option_map (kept_facts (whereabouts host) transfer)) c.requires.own
    ∙ ap (λ s. Some (kept_facts (s, host.tables) transfer lease.start.number)) c.requires.place
    ∙ ap (λ tables. Some (kept_facts (lease.site, tables) transfer lease.start.number)) (sym c.requires.here.tables)
    ∙ ap Some (sym c.with_stream.ensures.same) in
    kept-inserted lease_facts transfer c.with_stream.result (leases_of host) (get nat_cmp c.args.leases.now) (get nat_cmp c.insert.new.self) c.requires.others own
    (rw c.transfer-transfer.ensures at c.in-Ok-None.ensures.updates.0)

pub abandon-requires-in-Err : goal.abandon-requires-in-Err
abandon-requires-in-Err c =
    record { here = made-again c.args.pool.now c.args.lease c.in-Err.failed.value.1 c.requires.here (ap (λ v. lease_facts v.1) c.in-Err.ensures.value_returned ∙ c.with_stream.ensures.same) }

pub returns-in-Err-clause-leases : goal.returns-in-Err-clause-leases
returns-in-Err-clause-leases c =
    let site = c.args.lease.site in
    let old = host_at c.args.pool.now site in
    let new = host_at c.abandon-in-Err.new.self site in
    let transfer = c.args.lease.start.want.transfer in
    let lease = c.in-Err.failed.value.1 in
    let facts = ap (λ v. lease_facts v.1) c.in-Err.ensures.value_returned ∙ c.with_stream.ensures.same in
    let same : lease.site ≡ site = ap (λ (f : LeaseFacts). f.3.0) facts in
    let own : lease.start.want.transfer ≡ transfer = ap (λ (f : LeaseFacts). f.1) facts in
    let stays : StaysHost old new = subst (λ s. StaysHost (host_at c.args.pool.now s) (host_at c.abandon-in-Err.new.self s)) same c.abandon-in-Err.ensures.at_site.host in
    let spends : Spends old new transfer =
    subst (λ s. Spends (host_at c.args.pool.now s) (host_at c.abandon-in-Err.new.self s) transfer) same
    (subst (λ t. Spends (host_at c.args.pool.now lease.site) (host_at c.abandon-in-Err.new.self lease.site) t) own c.abandon-in-Err.ensures.spends) in
    kept-due lease_facts (due_others transfer (leases_of old)) (leases_of new) (get nat_cmp c.insert.new.self)
    (λ q. ap (λ entries. option_map lease_facts (lookup (is_at (nat_cmp q)) entries)) c.in-Err.ensures.err ∙ c.requires.others q)
    (leases-left old new (same-whereabouts old new stays.same) transfer spends.leases)

pub returns-in-Err-clause-tickets : goal.returns-in-Err-clause-tickets
returns-in-Err-clause-tickets c =
    let site = c.args.lease.site in
    let old = host_at c.args.pool.now site in
    let new = host_at c.abandon-in-Err.new.self site in
    let transfer = c.args.lease.start.want.transfer in
    let lease = c.in-Err.failed.value.1 in
    let facts = ap (λ v. lease_facts v.1) c.in-Err.ensures.value_returned ∙ c.with_stream.ensures.same in
    let same : lease.site ≡ site = ap (λ (f : LeaseFacts). f.3.0) facts in
    let own : lease.start.want.transfer ≡ transfer = ap (λ (f : LeaseFacts). f.1) facts in
    let spends : Spends old new transfer =
    subst (λ s. Spends (host_at c.args.pool.now s) (host_at c.abandon-in-Err.new.self s) transfer) same
    (subst (λ t. Spends (host_at c.args.pool.now lease.site) (host_at c.abandon-in-Err.new.self lease.site) t) own c.abandon-in-Err.ensures.spends) in
    none-stays transfer (ticket_want old) (ticket_want new) c.requires.spent spends.tickets

pub returns-in-Err-clause-abandoned : goal.returns-in-Err-clause-abandoned
returns-in-Err-clause-abandoned c =
    let pool = c.args.pool.now in
    let lease = c.in-Err.failed.value.1 in
    let facts = ap (λ v. lease_facts v.1) c.in-Err.ensures.value_returned ∙ c.with_stream.ensures.same in
    c.abandon-in-Err.ensures.all
    ∙ ap (λ s. after_abandoning pool.limits s lease.start.number 0 (all_hosts pool)) (ap (λ (f : LeaseFacts). f.3.0) facts)
    ∙ ap (λ n. after_abandoning pool.limits c.args.lease.site n 0 (all_hosts pool)) (ap (λ (f : LeaseFacts). f.0) facts)

pub returns-in-Err-clause-site : goal.returns-in-Err-clause-site
returns-in-Err-clause-site c =
    let facts = ap (λ v. lease_facts v.1) c.in-Err.ensures.value_returned ∙ c.with_stream.ensures.same in
    subst (λ s. StaysHost (host_at c.args.pool.now s) (host_at c.abandon-in-Err.new.self s)) (ap (λ (f : LeaseFacts). f.3.0) facts) c.abandon-in-Err.ensures.at_site.host

pub returns-in-Err-clause-others : goal.returns-in-Err-clause-others
returns-in-Err-clause-others c =
    let facts = ap (λ v. lease_facts v.1) c.in-Err.ensures.value_returned ∙ c.with_stream.ensures.same in
    subst (λ s. KeepsOtherHosts s c.args.pool.now c.abandon-in-Err.new.self) (ap (λ (f : LeaseFacts). f.3.0) facts) c.abandon-in-Err.ensures.at_site.others
