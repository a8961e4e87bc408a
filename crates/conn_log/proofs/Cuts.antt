-- Of a log's entries those in memory, oldest first, and those that were cut away, newest first.
use Rattle.std.proofs.Common.{◌≡◌, ℕ, ◌+◌, ◌-◌, List, ◌++◌, length, reverse, drop, take, sym, ap, ◌∙◌, arith}
use Rattle.std.proofs.Math.Seq.{take-append_seam, drop-append_seam, drop-append-add}
use Rattle.conn_log.proofs.Logs.{behind}
use Rattle.std.proofs.lemmas.List.{reverse-append, reverse-reverse, length-reverse, length-append}

module _ {X : Type 0} (items past : List X) where
  abbrev all : List X
  all = reverse items ++ past

  kept : length all - length past ≡ length (reverse items)
  kept = omega (arith, length-append (reverse items) past)

  pub rest_is : take (length all - length past) all ≡ reverse items
  rest_is = ap (λ n. take n all) kept ∙ take-append_seam (reverse items) past

  pub past_is : drop (length all - length past) all ≡ past
  past_is = ap (λ n. drop n all) kept ∙ drop-append_seam (reverse items) past

  pub length_is : length items + length past ≡ length all
  length_is = omega (arith, length-append (reverse items) past, length-reverse items)

  turned : reverse all ≡ reverse past ++ items
  turned = reverse-append (reverse items) past ∙ ap (λ xs. reverse past ++ xs) (reverse-reverse items)

  -- the entries of the rest from a place on
  pub from_place : (place : ℕ) → drop (length past + place) (reverse all) ≡ drop place items
  from_place place = rw (turned, sym (length-reverse past)) (drop-append-add (reverse past) items place)

  -- what was added since a place
  pub added_from : (added before : List X) (place : ℕ) → all ≡ added ++ before → length past + place ≡ length before → drop place items ≡ reverse added
  added_from added before place is here = sym (from_place place) ∙ behind (reverse all) added before (length past + place) (reverse-reverse all ∙ is) here
