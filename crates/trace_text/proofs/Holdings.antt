-- What is held, and by whom.
use Rattle.std.proofs.Common.{◌≡◌, ℕ, Bool, true, false, not, List, [], ◌∷◌, map, filter, Some, refl, ap}
use Rattle.std.specs.Prelude.{◌==◌, if◌then◌else◌}
use Rattle.std.specs.Option.{option_map}
use Rattle.std.specs.List.{find}
use Rattle.conn_log.specs.declared.entry.Want.{Want}
use Rattle.conn_log.specs.Connections.{want_among, without_connection}
use Rattle.trace_text.specs.declared.uses.Held.{Held}
use Rattle.trace_text.specs.HostUses.{holding_of}

-- the transfer of the first one that holds the connection is the one that the holdings tell
pub find-holder : (c : ℕ) (held : List Held) → option_map (λ (h : Held). h.want.transfer) (find (λ (h : Held). h.connection == c) held) ≡ option_map (λ (want : Want). want.transfer) (want_among (map holding_of held) c)
find-holder c [] = refl
find-holder c (h ∷ held) = by_test (h.connection == c) (find-holder c held)
  where
    others : Type 0
    others = option_map (λ (h : Held). h.want.transfer) (find (λ (h : Held). h.connection == c) held) ≡ option_map (λ (want : Want). want.transfer) (want_among (map holding_of held) c)

    by_test : (is : Bool) → others → option_map (λ (h : Held). h.want.transfer) (if is then Some h else find (λ (h : Held). h.connection == c) held) ≡ option_map (λ (want : Want). want.transfer) (if is then Some h.want else want_among (map holding_of held) c)
    by_test true same = refl
    by_test false same = same

-- those of other connections
pub map-without : (c : ℕ) (held : List Held) → map holding_of (filter (λ (h : Held). not (h.connection == c)) held) ≡ without_connection c (map holding_of held)
map-without c [] = refl
map-without c (h ∷ held) = by_test (not (h.connection == c)) (map-without c held)
  where
    others : Type 0
    others = map holding_of (filter (λ (h : Held). not (h.connection == c)) held) ≡ without_connection c (map holding_of held)

    by_test : (is : Bool) → others → map holding_of (if is then h ∷ filter (λ (h : Held). not (h.connection == c)) held else filter (λ (h : Held). not (h.connection == c)) held) ≡ (if is then holding_of h ∷ without_connection c (map holding_of held) else without_connection c (map holding_of held))
    by_test true same = ap (λ rest. holding_of h ∷ rest) same
    by_test false same = same
