-- The pass of a worker that is taken from the last place.
use Rattle.std.proofs.Common.{◌≡◌, ◌∷◌, ◌++◌, [], List, Some}
use Rattle.std.proofs.lemmas.List.Elements.{All-pop}
use Rattle.shared_cache.specs.Names.{CacheNames}
use Rattle.shared_cache.specs.Passes.{IsPassOf}
use Rattle.driver.specs.declared.many.worker.Finished.{Finished}
use Rattle.driver.specs.ManyWork.{HavePasses}

pub one_taken : {D F : Type 0} (names : CacheNames) (all rest : List (Finished D F)) (last : Finished D F) → all ≡ rest ++ last ∷ [] → HavePasses names all → HavePasses names rest × IsPassOf names last.pass
one_taken {D} {F} names all rest last is have = All-pop (λ (own : Finished D F). IsPassOf names own.pass) all rest (Some last) is have
