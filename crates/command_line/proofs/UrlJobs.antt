-- What jobs of URLs are made so far.
use Rattle.std.proofs.Common.{◌≡◌, ℕ, ◌+◌, ◌<◌, ◌≤◌, max, Option, Some, None, List, [], ◌∷◌, ◌++◌, length, get_or, map, refl, ap, sym, ◌∙◌, subst, arith, inr, string_bytes}
use Rattle.std.specs.Prelude.{String, is_some, unwrap_or, if◌then◌else◌}
use Rattle.std.specs.Global.{Global}
use Rattle.std.proofs.lemmas.List.{length-append, length-map, get_or-map}
use Rattle.std.proofs.lemmas.List.Quantifiers.{position-Some}
use Rattle.clap.specs.Words.{Text}
use Rattle.conn_key.specs.Site.{is_same_site, site_of}
use Rattle.conn_key.specs.Sites.{index_of, index_or_next, with_site}
use Rattle.conn_key.specs.Target.{GivesTarget}
use Rattle.conn_key.specs.declared.site.Site.{Site}
use Rattle.conn_key.specs.declared.target.Target.{Target}
use Rattle.exchange.specs.declared.job.Job.{Job}
use Rattle.commands.specs.Urls.{IsBadUrl, IsPrintable}
use Rattle.command_line.specs.Refusals.{IsWhy}
use Rattle.command_line.specs.LoadUrls.{AreBadUrls, ArePlannedUrls, AreUrlJobs, IsUrlJob}
use Rattle.commands.specs.LoadJob.{url_job}
use Rattle.commands.specs.Numbering.{AreNumbered}
use Rattle.commands.specs.declared.load_settings.LoadFlags.{LoadFlags}
use Rattle.command_line.specs.declared.refusal.Refusal.{Refusal}
use Rattle.command_line.specs.declared.refusal.Refusal.TheVariants.{Memory, Wrong}

-- the sites after these, with those of the jobs
abbrev pub sites_with : List Site → List Job → List Site
sites_with sites [] = sites
sites_with sites (job ∷ jobs) = sites_with (with_site sites (site_of job.target)) jobs

-- these URLs have their jobs, and these are their sites
pub record UrlJobsSoFar (flags : LoadFlags) (urls : List Text) (jobs : List Job) (sites : List Site) : Type 0 where
  pub few : length jobs ≤ 8
  pub one_each : length jobs ≡ length urls
  pub are_jobs : AreUrlJobs flags [] urls jobs
  pub sites_are : sites ≡ sites_with [] jobs

-- one more job
jobs-more : (flags : LoadFlags) (sites : List Site) (urls : List Text) (jobs : List Job) (url : Text) (job : Job)
    → AreUrlJobs flags sites urls jobs → IsUrlJob flags (sites_with sites jobs) url job → AreUrlJobs flags sites (urls ++ url ∷ []) (jobs ++ job ∷ [])
jobs-more flags sites [] [] url job so_far one = (one, tt)
jobs-more flags sites [] (j ∷ jobs) url job so_far one = absurd so_far
jobs-more flags sites (u ∷ urls) [] url job so_far one = absurd so_far
jobs-more flags sites (u ∷ urls) (j ∷ jobs) url job so_far one =
    (so_far.0, jobs-more flags (with_site sites (site_of j.target)) urls jobs url job so_far.1 one)

sites-more : (sites : List Site) (jobs : List Job) (job : Job) → sites_with sites (jobs ++ job ∷ []) ≡ with_site (sites_with sites jobs) (site_of job.target)
sites-more sites [] job = refl
sites-more sites (j ∷ jobs) job = sites-more (with_site sites (site_of j.target)) jobs job

pub no-jobs : (flags : LoadFlags) → UrlJobsSoFar flags [] [] []
no-jobs flags = record { few = omega arith; one_each = refl; are_jobs = tt; sites_are = refl }

-- the job of a target that a URL gives
one-job : (flags : LoadFlags) (sites : List Site) (url : Text) (site : ℕ) (target : Target) (job : Job)
    → IsPrintable url × GivesTarget url target → site ≡ index_or_next sites (site_of target) → job ≡ url_job flags site target
    → IsUrlJob flags sites url job
one-job flags sites url site target job gives at is =
    let made : IsUrlJob flags sites url (url_job flags site target) =
    record { printable = gives.0; target = gives.1; is_job = ap (λ n. url_job flags n target) at } in
    subst (λ (j : Job). IsUrlJob flags sites url j) (sym is) made

pub url-jobs-more : (flags : LoadFlags) (urls : List Text) (jobs : List Job) (old new : List Site) (url : Text) (site : ℕ) (target : Target) (job : Job)
    → UrlJobsSoFar flags urls jobs old → length jobs < 8 → IsPrintable url × GivesTarget url target → site ≡ index_or_next old (site_of target)
    → job ≡ url_job flags site target → new ≡ with_site old (site_of target) → UrlJobsSoFar flags (urls ++ url ∷ []) (jobs ++ job ∷ []) new
url-jobs-more flags urls jobs old new url site target job so_far room gives at is added =
    let one = one-job flags old url site target job gives at is in
    let to : target ≡ job.target = sym (ap (λ (j : Job). j.target) is) in
    record {
      few = omega (arith, room, length-append jobs (job ∷ []));
      one_each = omega (arith, so_far.one_each, length-append jobs (job ∷ []), length-append urls (url ∷ []));
      are_jobs = jobs-more flags [] urls jobs url job so_far.are_jobs (subst (λ (sites : List Site). IsUrlJob flags sites url job) so_far.sites_are one);
      sites_are = added ∙ ap (λ (t : Target). with_site old (site_of t)) to ∙ ap (λ (sites : List Site). with_site sites (site_of job.target)) so_far.sites_are
          ∙ sym (sites-more [] jobs job);
    }

-- a bad URL among others is why they are refused
pub bad-among : (urls : List (String Global)) (k : ℕ) (url : String Global) (refusal : Refusal) → k < length urls → url ≡ get_or urls k url
    → IsWhy (IsBadUrl (string_bytes url)) refusal → IsWhy (AreBadUrls (map string_bytes urls)) refusal
bad-among urls k url Memory below at why = tt
bad-among urls k url (Wrong text) below at bad =
    inr (k, string_bytes url, subst (λ n. k < n) (sym (length-map urls string_bytes)) below, get_or-map string_bytes urls k url (string_bytes url) below ∙ ap string_bytes (sym at), bad)

-- the sites of URLs are numbered
next_site : (sites : List Site) (site : Site) → (index_or_next sites site ≤ length sites) × (max (length sites) (index_or_next sites site + 1) ≡ length (with_site sites site))
next_site sites site = by_index (index_of sites site) refl
  where
    by_index : (found : Option ℕ) → index_of sites site ≡ found
        → (unwrap_or found (length sites) ≤ length sites) × (max (length sites) (unwrap_or found (length sites) + 1) ≡ length (if is_some found then sites else sites ++ site ∷ []))
    by_index (Some index) is =
        let below = (position-Some (is_same_site site) sites index site is).0 in
        (omega (arith, below), omega (arith, below))
    by_index None is = (omega arith, omega (arith, length-append sites (site ∷ [])))

pub urls_numbered : (flags : LoadFlags) (sites : List Site) (urls : List Text) (jobs : List Job) → AreUrlJobs flags sites urls jobs → AreNumbered (length sites) jobs
urls_numbered flags sites [] [] are = tt
urls_numbered flags sites [] (job ∷ jobs) are = absurd are
urls_numbered flags sites (url ∷ urls) [] are = absurd are
urls_numbered flags sites (url ∷ urls) (job ∷ jobs) are =
    let at : job.site ≡ index_or_next sites (site_of job.target) = ap (λ (j : Job). j.site) are.0.is_job in
    let next = next_site sites (site_of job.target) in (
      subst (λ n. n ≤ length sites) (sym at) next.0,
      subst (λ n. AreNumbered n jobs) (sym (ap (λ n. max (length sites) (n + 1)) at ∙ next.1)) (urls_numbered flags (with_site sites (site_of job.target)) urls jobs are.1),
    )

pub planned_numbered : (flags : LoadFlags) (urls : List Text) (jobs : List Job) → ArePlannedUrls flags urls jobs → AreNumbered 0 jobs
planned_numbered flags urls jobs planned = urls_numbered flags [] urls jobs planned.are_jobs
