-- What limits are (libcurl's CURLMOPT_MAX_HOST_CONNECTIONS, CURLMOPT_MAX_TOTAL_CONNECTIONS and
-- CURLMOPT_MAXCONNECTS).
use Rattle.std.specs.Prelude.{ℕ, ◌<◌, ◌≤◌, Bool, ◌||◌, ◌==◌, nat_lt, if◌then◌else◌}

-- the most connections open to one host, the most in total, and the most that are kept open after their use
pub record Bounds : Type 0 where
  pub host : ℕ
  pub total : ℕ
  pub connects : ℕ

abbrev pub bounds : ℕ → ℕ → ℕ → Bounds
bounds host total connects = record { host = host; total = total; connects = connects }

-- each is from 1 to 65,535: so at least one may be open, and at least one kept
pub record AreLimits (limits : Bounds) : Type 0 where
  pub some_at_a_host : 0 < limits.host
  pub some_open : 0 < limits.total
  pub some_kept : 0 < limits.connects
  pub host_fits : limits.host ≤ 65535
  pub total_fits : limits.total ≤ 65535
  pub kept_fits : limits.connects ≤ 65535

-- none may be kept, or a number is above 65,535
abbrev pub is_bad_limit : ℕ → ℕ → ℕ → Bool
is_bad_limit host total connects =
    (connects == 0) || nat_lt 65535 host || nat_lt 65535 total || nat_lt 65535 connects

-- 0 means no limit
abbrev pub or_greatest : ℕ → ℕ
or_greatest limit = if limit == 0 then 65535 else limit

abbrev pub bounds_of : ℕ → ℕ → ℕ → Bounds
bounds_of host total connects = bounds (or_greatest host) (or_greatest total) connects
