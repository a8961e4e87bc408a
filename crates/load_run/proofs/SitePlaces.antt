-- The sites of a load, one after another, and their addresses.
use Rattle.std.proofs.Common.{◌≡◌, ◌∙◌, ◌<◌, ◌≤◌, drop, append-nil, append_assoc, ℕ, zero, suc, ◌+◌, ◌/◌, ap, List, [], ◌∷◌, ◌++◌, length, take, get_or, string_bytes, subst, sym, arith, inl, inr, Result, Ok, Err}
use Rattle.std.specs.Prelude.{OnOk}
use Rattle.std.specs.Global.{Vec}
use Rattle.std.specs.declared.net.socket_addr.SocketAddr.{SocketAddr}
use Rattle.std.proofs.lemmas.List.{drop_more, take_more}
use Rattle.std.proofs.lemmas.Option.{none-some, same_Some}
use Rattle.std.proofs.lemmas.List.Elements.{All-push, All-weaker}
use Rattle.commands.specs.declared.resolved.Resolved.{Resolved}
use Rattle.conn_key.specs.declared.target.Target.{Target}
use Rattle.exchange.specs.declared.job.Job.{Job}
use Rattle.socket.specs.Hosts.{AddsHost, Names}
use Rattle.load_run.specs.LoadSites.{AreAddressesOf, AreAllBelow, AreHostsOf, AreLocated, AreSitesOf, IsListAt, IsListOf, IsPlaceOf, IsSiteAt, IsSiteOf, site_lines}
use Rattle.commands.specs.Numbering.{AreNumbered}
use Rattle.trace_text.specs.HostLines.{site_line}
use Rattle.load_run.specs.declared.load.sites.LoadSite.{LoadSite}
use Rattle.load_run.specs.declared.load.sites.Place.{Place}
use Rattle.load_run.specs.declared.load.sites.Place.TheVariants.{Own, Known}

-- one more site
pub sites_more : (jobs : List Job) (resolved : List Resolved) (index : ℕ) (sites : List LoadSite) (site : LoadSite) → AreSitesOf jobs resolved index sites → IsSiteOf jobs resolved (index + length sites) site → AreSitesOf jobs resolved index (sites ++ site ∷ [])
sites_more jobs resolved index [] site so_far one = (subst (λ n. IsSiteOf jobs resolved n site) (omega arith) one, tt)
sites_more jobs resolved index (s ∷ sites) site so_far one = (so_far.0, sites_more jobs resolved (index + 1) sites site so_far.1 (subst (λ n. IsSiteOf jobs resolved n site) (omega arith) one))

-- the next job names one of the sites before it, or the next one
pub numbered_next : (jobs : List Job) (place : ℕ) (job : Job) (count : ℕ) → place < length jobs → job ≡ get_or jobs place job → AreNumbered count (drop place jobs) → AreNumbered count (job ∷ drop (place + 1) jobs)
numbered_next jobs place job count below at numbered =
    subst (λ (j : Job). AreNumbered count (j ∷ drop (place + 1) jobs)) (sym at) (subst (AreNumbered count) (drop_more jobs place job below) numbered)

below_push : (count : ℕ) (jobs : List Job) (job : Job) → AreAllBelow count jobs → job.site < count → AreAllBelow count (jobs ++ job ∷ [])
below_push count jobs job all one = All-push (λ (j : Job). j.site < count) jobs job all one

-- the sites of one more job are below a count
pub below_more : (jobs : List Job) (place : ℕ) (job : Job) (old count : ℕ) → place < length jobs → job ≡ get_or jobs place job → AreAllBelow old (take place jobs) → old ≤ count → job.site < count → AreAllBelow count (take (place + 1) jobs)
below_more jobs place job old count below at all least one =
    let before : AreAllBelow count (take place jobs) = All-weaker (λ (j : Job). j.site < old) (λ (j : Job). j.site < count) (λ (j : Job) is. omega (arith, is, least)) (take place jobs) all in
    subst (AreAllBelow count) (ap (λ (j : Job). take place jobs ++ j ∷ []) at ∙ sym (take_more jobs place job below)) (below_push count (take place jobs) job before one)

-- sites of the same jobs and addresses
pub sites_of : (jobs others : List Job) (resolved given : List Resolved) (sites : List LoadSite) → others ≡ jobs → given ≡ resolved → AreSitesOf others given 0 sites → AreSitesOf jobs resolved 0 sites
sites_of jobs others resolved given sites same equal are = subst (λ (l : List Job). AreSitesOf l resolved 0 sites) same (subst (λ (l : List Resolved). AreSitesOf others l 0 sites) equal are)

-- what holds of each element and its place holds with one more
each_push : {V : Type 0} (Holds : ℕ → V → Type 0) (first : ℕ) (all : List V) (last : V) → ((place : ℕ) (other : V) → place < length all → Holds (first + place) (get_or all place other)) → Holds (first + length all) last
    → (place : ℕ) (other : V) → place < length (all ++ last ∷ []) → Holds (first + place) (get_or (all ++ last ∷ []) place other)
each_push Holds first [] last each one zero other below = one
each_push Holds first [] last each one (suc place) other below = absurd (omega (arith, below))
each_push Holds first (v ∷ all) last each one zero other below = each zero other (omega arith)
each_push {V} Holds first (v ∷ all) last each one (suc place) other below =
    let moved = subst (λ (n : ℕ). Holds n last) {x = first + suc (length all)} {y = first + 1 + length all} (omega arith) one in
    let before = λ (at : ℕ) (o : V) (there : at < length all). subst (λ (n : ℕ). Holds n (get_or all at o)) {x = first + suc at} {y = first + 1 + at} (omega arith) (each (suc at) o (omega (arith, there))) in
    subst (λ (n : ℕ). Holds n (get_or (all ++ last ∷ []) place other)) {x = first + 1 + place} {y = first + suc place} (omega arith)
    (each_push Holds (first + 1) all last before moved place other (omega (arith, below)))

-- the host at that place has the addresses of its site
abbrev IsHostOf : ℕ → List LoadSite → ℕ → Vec SocketAddr → Type 0
IsHostOf each sites host addresses = (site : LoadSite) × IsSiteAt sites (host / each) site × IsListOf site addresses

-- the addresses of one more host
pub hosts_more : (each : ℕ) (sites : List LoadSite) (site : LoadSite) (old new : List (Vec SocketAddr)) → AreHostsOf each sites old → IsSiteAt sites (length old / each) site → AddsHost old new (IsListAt site.target.now site.place)
    → AreHostsOf each sites new
hosts_more each sites site old new are at adds =
    let Holds = IsHostOf each sites in
    let before = λ (place : ℕ) (o : Vec SocketAddr) (there : place < length old). subst (λ (n : ℕ). Holds n (get_or old place o)) {x = place} {y = 0 + place} (omega arith) (are place o there) in
    let one = subst (λ (n : ℕ). Holds n adds.next) {x = length old} {y = 0 + length old} (omega arith) (site, at, adds.has) in
    subst (AreHostsOf each sites) (sym adds.added)
    (λ host other below. subst (λ (n : ℕ). Holds n (get_or (old ++ adds.next ∷ []) host other)) {x = 0 + host} {y = host} (omega arith) (each_push Holds 0 old adds.next before one host other below))

-- adds the addresses in the host's name, or the known addresses
pub adds_own : (old new : List (Vec SocketAddr)) (target : Target) (place : Place) → place ≡ Own → AddsHost old new (Names (string_bytes target.host) target.port) → AddsHost old new (IsListAt target place)
adds_own old new target place is adds = record { next = adds.next; added = adds.added; has = subst (λ (p : Place). IsListAt target p adds.next.items) (sym is) adds.has }

pub adds_known : {A E : Type 0} (r : Result A E) (old new : List (Vec SocketAddr)) (target : Target) (place : Place) (known : Vec SocketAddr) (copy : List SocketAddr) → place ≡ Known known → copy ≡ known.items → OnOk r (AddsHost old new (λ list. list ≡ copy))
    → OnOk r (AddsHost old new (IsListAt target place))
adds_known (Ok done) old new target place known copy is same adds = record { next = adds.next; added = adds.added; has = subst (λ (p : Place). IsListAt target p adds.next.items) (sym is) (adds.has ∙ same) }
adds_known (Err error) old new target place known copy is same adds = tt

-- a place has the addresses of its target's host
addresses_of : (resolved : List Resolved) (target : Target) (place : Place) (list : List SocketAddr) → IsPlaceOf resolved target place → IsListAt target place list → AreAddressesOf resolved target list
addresses_of resolved target Own list is at = inr (is, inl at)
addresses_of resolved target (Known known) list (inl given) at = inl (given.0, given.1, at ∙ given.2)
addresses_of resolved target (Known known) list (inr none) at = inr (none.0, inr none.1)

-- the site at a place belongs to a job
site_at : (jobs : List Job) (resolved : List Resolved) (index : ℕ) (sites : List LoadSite) (place : ℕ) (site : LoadSite) → AreSitesOf jobs resolved index sites → IsSiteAt sites place site → IsSiteOf jobs resolved (index + place) site
site_at jobs resolved index [] place site are at = absurd (none-some site at)
site_at jobs resolved index (s ∷ sites) zero site are at =
    subst (λ (n : ℕ). IsSiteOf jobs resolved n site) {x = index} {y = index + 0} (omega arith) (subst (IsSiteOf jobs resolved index) (same_Some s site at) are.0)
site_at jobs resolved index (s ∷ sites) (suc place) site are at =
    subst (λ (n : ℕ). IsSiteOf jobs resolved n site) {x = index + 1 + place} {y = index + suc place} (omega arith) (site_at jobs resolved (index + 1) sites place site are.1 at)

pub located : (each : ℕ) (jobs : List Job) (resolved : List Resolved) (sites : List LoadSite) (hosts : List (Vec SocketAddr)) → AreSitesOf jobs resolved 0 sites → AreHostsOf each sites hosts → AreLocated each jobs resolved hosts
located each jobs resolved sites hosts are lists host other below =
    let its = lists host other below in
    let site = its.0 in
    let s = subst (λ (n : ℕ). IsSiteOf jobs resolved n site) {x = 0 + host / each} {y = host / each} (omega arith) (site_at jobs resolved 0 sites (host / each) site are its.1) in
    let addresses = get_or hosts host other in
    record {
      job = s.job;
      among = s.among;
      index_is = s.index_is;
      are = addresses_of resolved s.job.target site.place addresses.items s.place_is (subst (λ (target : Target). IsListAt target site.place addresses.items) s.target_is its.2);
    }

-- the line of one more site
abbrev pub line_of_site : LoadSite → List ℕ
line_of_site site = site_line (string_bytes site.target.now.host) site.target.now.port

site_lines_push : (sites : List LoadSite) (site : LoadSite) → site_lines (sites ++ site ∷ []) ≡ site_lines sites ++ line_of_site site
site_lines_push [] site = append-nil (line_of_site site)
site_lines_push (s ∷ sites) site = ap (λ (text : List ℕ). line_of_site s ++ text) (site_lines_push sites site) ∙ sym (append_assoc (line_of_site s) (site_lines sites) (line_of_site site))

pub site_lines_more : (old now new : List ℕ) (sites : List LoadSite) (place : ℕ) (none : LoadSite) → place < length sites → now ≡ old ++ site_lines (take place sites) → new ≡ now ++ line_of_site (get_or sites place none)
    → new ≡ old ++ site_lines (take (place + 1) sites)
site_lines_more old now new sites place none below so_far written =
    let line = line_of_site (get_or sites place none) in
    written
    ∙ ap (λ (text : List ℕ). text ++ line) so_far
    ∙ append_assoc old (site_lines (take place sites)) line
    ∙ ap (λ (text : List ℕ). old ++ text) (sym (site_lines_push (take place sites) (get_or sites place none)))
    ∙ ap (λ (l : List LoadSite). old ++ site_lines l) (sym (take_more sites place none below))
