-- Which streams a host has, and which starts it granted.
use Rattle.std.proofs.Common.{◌≡◌, ℕ, Bool, true, false, ◌&&◌, ◌||◌, List, [], ◌∷◌, ◌++◌, Option, Some, None, is_some, refl, sym, ap, subst, inl, inr, ◌∙◌}
use Rattle.std.specs.Prelude.{◌==◌, if◌then◌else◌}
use Rattle.std.specs.List.{list_any}
use Rattle.std.proofs.lemmas.Bool.Decides.{eqb_tells}
use Rattle.conn_log.specs.declared.entry.Entry.{Entry}
use Rattle.host_state.specs.Idle.{stream_of}
use Rattle.bundle.specs.declared.grant.Grant.{Grant}
use Rattle.host_state.specs.Calls.{Start}
use Rattle.bundle.specs.Grants.{grant_start, grant_starts, with_stream, grant_streams, GrantsKept}
use Rattle.bundle.specs.Lease.{start_for, IsStartOf}

-- behind others
pub some_behind : {S : Type 0} (first rest : List (ℕ × S)) (c : ℕ) → is_some (stream_of (first ++ rest) c) ≡ (is_some (stream_of first c) || is_some (stream_of rest c))
some_behind [] rest c = refl
some_behind (x ∷ first) rest c = elim (eqb_tells x.0 c) [
  | inl same ↦ rw same.0 refl
  | inr other ↦ rw other.0 (some_behind first rest c)
]

-- a stream that stands first
with_first_stream : {S : Type 0} (stream : Option S) (rest : List (ℕ × S)) (n c : ℕ) → is_some (stream_of (with_stream n stream rest) c) ≡ (((n == c) && is_some stream) || is_some (stream_of rest c))
with_first_stream None rest n c = never (n == c) (is_some (stream_of rest c))
  where
    never : (a b : Bool) → b ≡ ((a && false) || b)
    never true b = refl
    never false b = refl
with_first_stream (Some s) rest n c = elim (eqb_tells n c) [
  | inl same ↦ rw same.0 refl
  | inr other ↦ rw other.0 refl
]

-- of what it granted the host has the streams of connections that were idle before
pub granted_streams : {S : Type 0} (grants : List (Grant S)) (c : ℕ) → is_some (stream_of (grant_streams grants) c) ≡ list_any (λ (s : Start). (s.number == c) && s.reused) (grant_starts grants)
granted_streams [] c = refl
granted_streams (x ∷ others) c =
    with_first_stream x.stream (grant_streams others) x.number c ∙ ap (λ (b : Bool). ((x.number == c) && is_some x.stream) || b) (granted_streams others c)

-- what it granted to a transfer is that one's last start
pub granted_starts : {S : Type 0} (log : List Entry) (grants : List (Grant S)) → GrantsKept log grants → (t : ℕ) (granted : Start) → start_for (grant_starts grants) t ≡ Some granted → IsStartOf log granted
granted_starts log [] kept t granted is = absurd (cc)
granted_starts log (x ∷ others) kept t granted is = elim (eqb_tells x.want.transfer t) [
  | inl same ↦
      let it : Some (grant_start x) ≡ Some granted = sym (ap (λ (b : Bool). if b then Some (grant_start x) else start_for (grant_starts others) t) same.0) ∙ is in
      subst (IsStartOf log) (some_is it) (record { holds = kept.0.number; last = kept.0.start })
  | inr other ↦ granted_starts log others kept.2 t granted (sym (ap (λ (b : Bool). if b then Some (grant_start x) else start_for (grant_starts others) t) other.0) ∙ is)
]
  where
    some_is : {x y : Start} → Some x ≡ Some y → x ≡ y
    some_is {x} {y} same = ap (λ (s : Option Start). start_or x s) same
      where
        start_or : Start → Option Start → Start
        start_or d None = d
        start_or d (Some s) = s
