-- What a cut hands out stands in front of what was cut away before.
use Rattle.std.proofs.Common.{◌≡◌, ℕ, zero, suc, ◌-◌, List, ◌++◌, length, reverse, drop, take, refl, sym, ap, subst, ◌∙◌, arith}
use Rattle.std.proofs.lemmas.List.{take-append-drop, reverse-append, reverse-reverse, length-reverse, length-drop}
use Rattle.std.proofs.Math.Seq.{drop-append_seam}
use Rattle.std.proofs.Math.ListN.{drop_of_length-le}
use Rattle.conn_log.specs.declared.entry.Entry.{Entry}
use Rattle.conn_log.specs.Legal.{IsLegal}
use Rattle.bundle.specs.Lease.{HostShown, cut_entries}

-- so many entries were cut away, and so many are the rest
rest_before : {A : Type 0} (n : ℕ) (log : List A) (rest : ℕ) → rest ≡ length log - n → reverse (drop n (reverse log)) ++ drop rest log ≡ log
rest_before n log zero is = ap (λ xs. reverse xs ++ log) (drop_of_length-le (reverse log) (omega (arith, is, length-reverse log)))
rest_before n log (suc k) is =
    let rest = suc k in
    let turned : reverse log ≡ reverse (drop rest log) ++ reverse (take rest log) = ap reverse (sym (take-append-drop rest log)) ∙ reverse-append (take rest log) (drop rest log) in
    let len : n ≡ length (reverse (drop rest log)) = omega (arith, is, length-reverse (drop rest log), length-drop rest log) in
    let front : drop n (reverse log) ≡ reverse (take rest log) = ap (drop n) turned ∙ ap (λ m. drop m (reverse (drop rest log) ++ reverse (take rest log))) len ∙ drop-append_seam (reverse (drop rest log)) (reverse (take rest log)) in
    ap (λ xs. reverse xs ++ drop rest log) front ∙ ap (λ xs. xs ++ drop rest log) (reverse-reverse (take rest log)) ∙ take-append-drop rest log

part_before : {A : Type 0} (n : ℕ) (log part : List A) → part ≡ drop n (reverse log) → reverse part ++ drop (length log - n) log ≡ log
part_before n log part is = ap (λ xs. reverse xs ++ drop (length log - n) log) is ∙ rest_before n log (length log - n) refl

-- in the words of the host that was cut: its whole log, which is legal
pub host_whole : {S : Type 0} (inner outer : HostShown S) → inner ≡ outer → (part : List Entry) → part ≡ drop inner.cut_away (reverse inner.log) → reverse part ++ cut_entries outer ≡ outer.log
host_whole {S} inner outer view part is = subst (λ (v : HostShown S). reverse part ++ cut_entries v ≡ v.log) view (part_before inner.cut_away inner.log part is)

pub host_legal : {S : Type 0} (inner outer : HostShown S) → inner ≡ outer → (part : List Entry) → part ≡ drop inner.cut_away (reverse inner.log) → IsLegal inner.settings inner.log → IsLegal outer.settings (reverse part ++ cut_entries outer)
host_legal {S} inner outer view part is legal = subst (IsLegal outer.settings) (sym (host_whole inner outer view part is)) (subst (λ (v : HostShown S). IsLegal v.settings v.log) view legal)
