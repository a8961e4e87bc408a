-- A URL without a target is bad.
use Rattle.std.proofs.Common.{inl, subst}
use Rattle.commands.specs.Urls.{IsBadUrl, IsUrlFault}
use Rattle.commands.specs.declared.url.UrlFault.{UrlFault}
use Rattle.crawl.proofs.queue.Queue.add.Goals as goal

pub add_bad-requires : goal.add_bad-requires
add_bad-requires c =
    let bad = subst (λ (fault : UrlFault). IsUrlFault c.as_str.result.now fault) c.in-Err-Unprintable.field-0-is c.in-Err-Unprintable.ensures.err in
    record { bad = ∣ inl (subst IsBadUrl c.as_str.ensures.value bad) ∣₁ }

pub add_bad-requires-in-Err-NoTarget : goal.add_bad-requires-in-Err-NoTarget
add_bad-requires-in-Err-NoTarget c =
    let bad = subst (λ (fault : UrlFault). IsUrlFault c.as_str.result.now fault) c.in-Err-NoTarget.field-0-is c.in-Err-NoTarget.ensures.err in
    record { bad = ∣ inl (subst IsBadUrl c.as_str.ensures.value bad) ∣₁ }
